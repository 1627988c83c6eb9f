-- The steps of the parser over the statements of sources.
use Rattle.std.specs.Prelude.{◌≡◌, ◌⊎◌, ℕ, List, Some, None, Result, Ok, Err}
use Rattle.f3_places.specs.declared.source.Place.{Place}
use Rattle.f3_rules.specs.declared.rule.Rule.TheVariants.{S5, S6, S7, S8}
use Rattle.f3_rules.specs.declared.breaks.Break.{Break}
use Rattle.f3_rules.specs.declared.refusal.Refusal.{Refusal}
use Rattle.f3_rules.specs.Least.{Least}
use Rattle.f3_text.specs.declared.statement.TextFault.{TextFault}
use Rattle.f3_text.specs.declared.statement.TextFault.TheVariants as text
use Rattle.f3_text.specs.Reader.{Tells}
use Rattle.f3_tree.specs.declared.program.Program.{Program}
use Rattle.f3_tree.specs.Tree.{view}
use Rattle.f3_words.specs.Lines.{Line, Seen, broken}
use Rattle.f3_form.specs.Forms.{FormTree}
use Rattle.f3_forms.specs.Grammar.{IsForm}
use Rattle.f3_blocks.specs.Pieces.{Placed}
use Rattle.f3_units.specs.Machine.{Begun, State, step, IsDeeper}
use Rattle.f3_parse.specs.declared.advance.LineFault.{LineFault}
use Rattle.f3_parse.specs.declared.advance.LineFault.TheVariants.{Memory, Broken}
use Rattle.f3_parse.specs.Phase.{place_of, file_of, placed_at, EachForm}
use Rattle.f3_parse.specs.Spells.{ends_of, last_end}

-- a source goes on where no unit is open, or one of that source
abbrev pub GoesOnAt : State → ℕ → Type 0
GoesOnAt s file = (u : Begun) → s.unit ≡ Some u → u.file ≡ file

-- a 65th construct is opened
abbrev pub Deepens : State → Placed → Type 0
Deepens s p = (t : State) × (step p s ≡ Some t) × IsDeeper s t

-- what a statement breaks at a state of the machine
abbrev pub StopsAt : State → Line → Break → Type 0
StopsAt s l b =
    (l.fault ≡ Some b)
    ⊎ (((f : FormTree) → IsForm f l.items → ⊥) × (b ≡ broken S5 (place_of l)))
    ⊎ (EachForm (λ f. step (placed_at l f) s ≡ None) l × (b ≡ broken S6 (place_of l)))
    ⊎ (EachForm (λ f. Deepens s (placed_at l f)) l × (b ≡ broken S8 (place_of l)))

-- the one form of a statement
pub record Has (f : FormTree) (l : Line) : Type 0 where
  pub sound : l.fault ≡ None
  pub is : IsForm f l.items
  pub only : (g : FormTree) → IsForm g l.items → g ≡ f

-- a statement with which units go on
pub record GoesTo (s : State) (l : Line) (t : State) : Type 0 where
  pub form : FormTree
  pub has : Has form l
  pub next : step (placed_at l form) s ≡ Some t
  pub shallow : IsDeeper s t → ⊥

-- from s to t; nothing is said of t where a statement stops
abbrev pub Advances : {U : Type 0} → Result U LineFault → State → State → Line → Type 0
Advances (Ok u) s t l = GoesTo s l t
Advances (Err Memory) s t l = Unit {0}
Advances (Err (Broken b)) s t l = Least (Some b) (StopsAt s l)

-- a unit is open in another source
abbrev pub LeavesOpen : (ℕ → Place) → State → ℕ → Break → Type 0
LeavesOpen ends s file b = (u : Begun) × (s.unit ≡ Some u) × (u.file ≡ file → ⊥) × (b ≡ broken S7 (ends u.file))

abbrev pub Stops : (ℕ → Place) → State → Line → Break → Type 0
Stops ends s l b = (GoesOnAt s (file_of l) × Least (Some b) (StopsAt s l)) ⊎ LeavesOpen ends s (file_of l) b

-- a statement
abbrev pub Goes : {U : Type 0} → (ℕ → Place) → Result U TextFault → State → State → Line → Type 0
Goes ends (Ok u) s t l = GoesTo s l t
Goes ends (Err (text.Refused r)) s t l = (b : Break) × Tells r b × Stops ends s l b
Goes ends (Err text.Memory) s t l = Unit {0}

-- a fault of the text
abbrev pub EndsText : (ℕ → Place) → Refusal → State → Break → Type 0
EndsText ends r s t = (b : Break) × Tells r b × ((GoesOnAt s (t.place).file × (b ≡ t)) ⊎ LeavesOpen ends s (t.place).file b)

-- the end of the sources
abbrev pub Finishes : List (List ℕ) → Result Program TextFault → State → Seen → Type 0
Finishes sources (Ok p) s seen = (s.unit ≡ None) × (view p ≡ record { names = seen.names; texts = seen.texts; units = s.done; end = last_end sources })
Finishes sources (Err (text.Refused r)) s seen = (u : Begun) × (s.unit ≡ Some u) × Tells r (broken S7 (ends_of sources u.file))
Finishes sources (Err text.Memory) s seen = ⊥
