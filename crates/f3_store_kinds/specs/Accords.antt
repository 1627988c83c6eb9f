-- States whose stores hold values of kinds, and whose references lead to objects of the kinds that are known.
use Rattle.std.specs.Prelude.{⊤, ◌≡◌, ℕ, true, false, List, [], ◌∷◌, ◌++◌, map, length, drop, Some, slice_get}
use Rattle.f3_program.specs.declared.declarations.Declared.{Declared}
use Rattle.f3_program.specs.declared.declarations.Derived.{Derived}
use Rattle.f3_program.specs.declared.declarations.Kind.{Kind}
use Rattle.f3_program.specs.declared.program.Program.{Program}
use Rattle.f3_program.specs.declared.program.Static as x
use Rattle.f3_meaning_whole.specs.Reference.{Reference}
use Rattle.f3_meaning_whole.specs.Act.{Passed, Given, Lent}
use Rattle.f3_meaning_whole.specs.Exec.{Association, Holds, Means}
use Rattle.f3_meaning_whole.specs.Formed.{of_kind, is_before}
use Rattle.f3_meaning_whole.specs.Formed as formed
use Rattle.f3_code.specs.State.{Cell, To, Frame, State}
use Rattle.f3_code.specs.State as state
use Rattle.f3_cell_kinds.specs.Types.{Scope, Around, Told, CellType, Site}
use Rattle.f3_cell_kinds.specs.Types as cell
use Rattle.f3_cell_kinds.specs.Holds.{InScope}
use Rattle.f3_store_kinds.specs.Typing.{Typing, cut, AllLeadTo, EachLeads, PartsBy, Leads, AllLead, IsTyped}

-- the kinds of variables
abbrev pub declared_kinds : List Declared → List Kind
declared_kinds ys = map (λ (y : Declared). y.kind) ys

-- what is allocatable is of a type that there is
abbrev pub IsKnown : List Derived → Kind → Type 0
IsKnown types k = k.is_allocatable ≡ true → is_before (length types) k.of ≡ true

abbrev pub AllKnown : List Derived → List Kind → Type 0
AllKnown types [] = ⊤
AllKnown types (k ∷ ks) = IsKnown types k × AllKnown types ks

abbrev pub LevelsKnown : List Derived → List (List Kind) → Type 0
LevelsKnown types [] = ⊤
LevelsKnown types (ks ∷ kss) = AllKnown types ks × LevelsKnown types kss

module _ (types : List Derived) where
  -- What statements may name: the variables of the activation stand on its level as they are declared, and dummies and associate names
  -- lead to objects of their kinds.
  abbrev pub IsNamed : Typing → ℕ → List Reference → Scope → Type 0
  IsNamed g level names c = (slice_get g.levels level ≡ Some (declared_kinds c.variables)) × AllLead types g c.names names

  abbrev pub PassedLeads : Typing → formed.Given → Passed → Type 0
  PassedLeads g x (Given n v) = ⊤
  PassedLeads g x (Lent n r) = Leads types g x.kind r

  -- what an associate name is for is not allocatable
  abbrev pub SelectorLeads : Typing → Kind → Association → Type 0
  SelectorLeads g k (Holds of v) = k.is_allocatable ≡ false
  SelectorLeads g k (Means r) = Leads types g k r

  abbrev pub CellLeads : Typing → CellType → Cell → Type 0
  CellLeads g (cell.Object k) (state.Object r) = Leads types g k r
  CellLeads g (cell.Each array number k) (state.Object r) = EachLeads types g k r × PartsBy types g array.of number r.reach
  CellLeads g (cell.Argument x) (state.Argument y) = PassedLeads g x y
  CellLeads g (cell.Elements of) (state.Elements ps) = AllLeadTo types g (of_kind of 0) ps
  CellLeads g (cell.Objects ks) (state.Objects rs) = AllLead types g ks rs
  CellLeads g (cell.Selector k) (state.Selector a) = SelectorLeads g k a
  CellLeads g x c = ⊤

  -- The cells of an activation whose statements name variables on such a level and such objects, and what is beneath them. Beneath the
  -- level of an ASSOCIATE, and beneath an activation, nothing leads to that level or to those behind it.
  abbrev pub CellsLead : (sites : ℕ → Site) → (Typing → Type 0) → Typing → ℕ → List Reference → Around → List CellType → List Cell → Type 0
  CellsLead sites Rest g level names o [] [] = InScope types (IsNamed g level names) o × Rest g
  CellsLead sites Rest g level names o [] (To back place ∷ below) = InScope types (IsNamed g level names) o
      × CellsLead sites Rest g level names (sites back).scope (drop 1 (sites back).cells) below
  CellsLead sites Rest g level names o [] (c ∷ below) = ⊥
  CellsLead sites Rest g level names o (x ∷ xs) [] = ⊥
  CellsLead sites Rest g level names o (cell.Outside c ∷ xs) (state.Outside outer ∷ below) = InScope types (IsNamed g level names) o
      × CellsLead sites Rest g outer.level outer.names (Told c) xs below
  CellsLead sites Rest g level names o (cell.Level ks ∷ xs) (state.Level from rs ∷ below) = AllLead types g ks rs
      × CellsLead sites Rest (cut from g) level names o xs below
  CellsLead sites Rest g level names o (x ∷ xs) (c ∷ below) = CellLeads g x c × CellsLead sites Rest g level names o xs below

  -- each caller, where it goes on, less the value that it is given
  abbrev pub FramesLead : (sites : ℕ → Site) → Typing → List Frame → Type 0
  FramesLead sites g [] = ⊤
  FramesLead sites g (f ∷ fs) =
      CellsLead sites (λ h. FramesLead sites h fs) (cut f.level g) f.here.level f.here.names (sites f.pc).scope (drop 1 (sites f.pc).cells) f.stack

-- A state accords with a typing: its store is of these kinds, those of what lives for the whole run are as they are declared, and all
-- references lead to objects of the kinds that are known for them.
pub record Accords (p : Program) (sites : ℕ → Site) (g : Typing) (s : State) : Type 0 where
  pub store : IsTyped p.types.items g s.world.store
  pub statics : g.statics ≡ map (λ (y : x.Static). y.declared.kind) p.statics.items
  pub static_types : AllKnown p.types.items g.statics
  pub level_types : LevelsKnown p.types.items g.levels
  pub leads : CellsLead p.types.items sites (λ h. FramesLead p.types.items sites h s.frames) g s.here.level s.here.names (sites s.pc).scope
      (sites s.pc).cells s.stack

-- How a typing changes in a step: not at all, by levels that begin, or by levels that end.
pub data Follows (g h : Typing) : Type 0 where
  Stays : h ≡ g → Follows g h
  Begins : (kss : List (List Kind)) → h ≡ record { statics = g.statics; levels = g.levels ++ kss } → Follows g h
  Ends : (n : ℕ) → h ≡ cut n g → Follows g h
