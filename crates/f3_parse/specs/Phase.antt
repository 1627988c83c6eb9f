-- The first phase: statements, the units that they are, and the breaks of the first that is wrong.
use Rattle.std.specs.Prelude.{◌≡◌, ◌⊎◌, ℕ, List, [], ◌∷◌, ◌++◌, Option, Some, None}
use Rattle.f3_places.specs.declared.source.Place.{Place}
use Rattle.f3_rules.specs.declared.rule.Rule.TheVariants.{S5, S6, S7, S8}
use Rattle.f3_rules.specs.declared.breaks.Break.{Break}
use Rattle.f3_words.specs.declared.item.Item.{Item}
use Rattle.f3_words.specs.Lines.{Line, nowhere, broken}
use Rattle.f3_form.specs.Forms.{FormTree}
use Rattle.f3_forms.specs.Grammar.{IsForm}
use Rattle.f3_blocks.specs.Pieces.{Placed}
use Rattle.f3_units.specs.Units.{Complete, Viable, GoesOn}
use Rattle.f3_parse.specs.Nested.{IsTooDeep, IsShallow}

-- the place of a statement: its first token
abbrev pub first_place : List Item → Place
first_place [] = nowhere
first_place (i ∷ is) = i.place

abbrev pub place_of : Line → Place
place_of l = first_place l.items

-- the source in which it stands
abbrev pub file_of : Line → ℕ
file_of l = (place_of l).file

-- a form where a statement stands
abbrev pub placed_at : Line → FormTree → Placed
placed_at l f = record { place = place_of l; form = f }

-- each statement has its form, and no name too long or literal too large
abbrev pub HaveForms : List Placed → List Line → Type 0
HaveForms [] [] = Unit {0}
HaveForms [] (l ∷ ls) = ⊥
HaveForms (p ∷ ps) [] = ⊥
HaveForms (p ∷ ps) (l ∷ ls) = (l.fault ≡ None) × (p.place ≡ place_of l) × IsForm p.form l.items × HaveForms ps ls

-- the statement has forms, and each of them is so
abbrev pub EachForm : (FormTree → Type 0) → Line → Type 0
EachForm Is l = (f : FormTree) × IsForm f l.items × ((g : FormTree) → IsForm g l.items → Is g)

-- What a statement breaks behind statements of these forms: S3 or S4 at a token; S5, of no form; S6, of a form with which
-- units cannot go on; S8, of one that opens a 65th construct.
abbrev pub BreaksIn : List Placed → Line → Break → Type 0
BreaksIn ps l b =
    (l.fault ≡ Some b)
    ⊎ (((f : FormTree) → IsForm f l.items → ⊥) × (b ≡ broken S5 (place_of l)))
    ⊎ (EachForm (λ f. Viable (ps ++ placed_at l f ∷ []) → ⊥) l × (b ≡ broken S6 (place_of l)))
    ⊎ (EachForm (λ f. Viable (ps ++ placed_at l f ∷ []) × IsTooDeep ps f) l × (b ≡ broken S8 (place_of l)))

-- S7: the source of the unit that is open there ends, at the place that `ends` tells of that source
abbrev pub EndsInside : (ℕ → Place) → List Placed → Break → Type 0
EndsInside ends ps b = (file : ℕ) × (Complete ps → ⊥) × GoesOn file ps × (b ≡ broken S7 (ends file))

-- What breaks where a source goes on behind statements of these forms: a unit that is open has to go on in the source in
-- which it stands.
abbrev pub Next : (ℕ → Place) → List Placed → ℕ → Break → Type 0 → Type 0
Next ends ps file b There = (GoesOn file ps × There) ⊎ ((GoesOn file ps → ⊥) × EndsInside ends ps b)

-- What breaks behind statements of these forms, where others follow them, and perhaps a fault of the text
abbrev pub BreaksBehind : (ℕ → Place) → List Placed → List Line → Option Break → Break → Type 0
BreaksBehind ends ps (l ∷ ls) fault b = Next ends ps (file_of l) b (BreaksIn ps l b)
BreaksBehind ends ps [] (Some t) b = Next ends ps (t.place).file b (b ≡ t)
BreaksBehind ends ps [] None b = EndsInside ends ps b

-- The breaks of the first phase: those behind statements that break nothing. Nothing after them is examined.
pub record BreaksOf (ends : ℕ → Place) (ls : List Line) (fault : Option Break) (b : Break) : Type 0 where
  pub front : List Line
  pub rest : List Line
  pub forms : List Placed
  pub cut : ls ≡ front ++ rest
  pub have : HaveForms forms front
  pub viable : Viable forms
  pub shallow : IsShallow forms
  pub breaks : BreaksBehind ends forms rest fault b
