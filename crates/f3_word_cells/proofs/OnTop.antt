-- What is known of the cells on top at a line.
use Rattle.std.proofs.Common.{◌≡◌, ℕ, List, [], ◌∷◌, ◌++◌, length, Bool, refl, subst, ap}
use Rattle.std.specs.Prelude.{⊤, Some, slice_get, Option, ℤ}
use Rattle.f3_program.specs.declared.declarations.Derived.{Derived}
use Rattle.f3_program.specs.declared.declarations.Kind.{Kind}
use Rattle.f3_program.specs.declared.program.Program.{Program}
use Rattle.f3_meaning_whole.specs.Value.{Value, Span}
use Rattle.f3_meaning_whole.specs.Reference.{Reference}
use Rattle.f3_meaning_whole.specs.Act as m
use Rattle.f3_meaning_whole.specs.Exec as exec
use Rattle.f3_meaning_whole.specs.Formed as formed
use Rattle.f3_code.specs.declared.instruction.Instruction.{Instruction}
use Rattle.f3_code.specs.State.{Line}
use Rattle.f3_code.specs.State as s
use Rattle.f3_cell_kinds.specs.Types.{Scope, Around, CellType}
use Rattle.f3_cell_kinds.specs.Types as cell
use Rattle.f3_cell_kinds.specs.Holds.{IsOf, Refers, AllRefer, IsChoice, IsPassed, IsSelector, Knows, Is, Stand}
use Rattle.f3_cell_kinds.specs.Kinds.{Goes}
use Rattle.f3_cell_kinds.specs.Laws.{site_at}
use Rattle.f3_word_cells.specs.Scenes.{code_of}
use Rattle.f3_word_cells.specs.Does.{IsTold}

-- ---- at a line

-- of which kinds the cells are that an instruction takes and leaves
pub line_kinds : (p : Program) (t : s.State) (l : Line) (x : Instruction) → IsTold p t → slice_get (code_of p).lines t.pc ≡ Some l → l.act ≡ x
    → Goes p (site_at p) t.pc l x
line_kinds p t l x told there act = subst (λ y. Goes p (site_at p) t.pc l y) act (told.kinds.lines t.pc l there told.fits.is_reached)

-- cells of these types, one for each
abbrev pub AreOf : List Derived → List CellType → List s.Cell → Type 0
AreOf types [] [] = ⊤
AreOf types (x ∷ xs) (c ∷ cs) = Is types x c × AreOf types xs cs
AreOf types xs cs = ⊥

-- cells of these types stand on top
pub record AreOnTop (types : List Derived) (takes : List CellType) (stack : List s.Cell) : Type 0 where
  pub tops : List s.Cell
  pub below : List s.Cell
  pub split : stack ≡ tops ++ below
  pub are : AreOf types takes tops

on_top : (types : List Derived) (sites : ℕ → cell.Site) (Known : Scope → Type 0) (o : Around) (r : Kind) (takes rest : List CellType) (stack : List s.Cell) (end : Kind)
    → Stand types sites Known o r (takes ++ rest) stack end → AreOnTop types takes stack
on_top types sites Known o r [] rest stack end h = record { tops = []; below = stack; split = refl; are = tt }
on_top types sites Known o r (x ∷ xs) rest [] end h = absurd h
on_top types sites Known o r (x ∷ xs) rest (c ∷ cs) end h =
    let more = on_top types sites Known o r xs rest cs end h.1 in
    record { tops = c ∷ more.tops; below = more.below; split = ap (λ ys. c ∷ ys) more.split; are = (h.0, more.are) }

-- the cells that an instruction takes
pub cells_taken : (p : Program) (t : s.State) (takes rest : List CellType) → IsTold p t → (site_at p t.pc).cells ≡ takes ++ rest
    → AreOnTop p.types.items takes t.stack
cells_taken p t takes rest told e =
    let fits = told.fits in
    on_top p.types.items (site_at p) (Knows p.types.items t.here) (site_at p t.pc).scope (site_at p t.pc).returns takes rest t.stack fits.end
    (subst (λ xs. Stand p.types.items (site_at p) (Knows p.types.items t.here) (site_at p t.pc).scope (site_at p t.pc).returns xs t.stack fits.end) e
    fits.stack)

-- ---- one cell, two, three

pub record OneOnTop (types : List Derived) (x : CellType) (stack : List s.Cell) : Type 0 where
  pub cell : s.Cell
  pub below : List s.Cell
  pub split : stack ≡ cell ∷ below
  pub is : Is types x cell

pub record TwoOnTop (types : List Derived) (x y : CellType) (stack : List s.Cell) : Type 0 where
  pub cell : s.Cell
  pub next : s.Cell
  pub below : List s.Cell
  pub split : stack ≡ cell ∷ next ∷ below
  pub is : Is types x cell
  pub next_is : Is types y next

pub record ThreeOnTop (types : List Derived) (x y z : CellType) (stack : List s.Cell) : Type 0 where
  pub cell : s.Cell
  pub next : s.Cell
  pub third : s.Cell
  pub below : List s.Cell
  pub split : stack ≡ cell ∷ next ∷ third ∷ below
  pub is : Is types x cell
  pub next_is : Is types y next
  pub third_is : Is types z third

one_of : (types : List Derived) (x : CellType) (stack tops below : List s.Cell) → stack ≡ tops ++ below → AreOf types (x ∷ []) tops → OneOnTop types x stack
one_of types x stack [] below e h = absurd h
one_of types x stack (c ∷ []) below e h = record { cell = c; below = below; split = e; is = h.0 }
one_of types x stack (c ∷ d ∷ cs) below e h = absurd h.1

two_of : (types : List Derived) (x y : CellType) (stack tops below : List s.Cell) → stack ≡ tops ++ below → AreOf types (x ∷ y ∷ []) tops
    → TwoOnTop types x y stack
two_of types x y stack [] below e h = absurd h
two_of types x y stack (c ∷ []) below e h = absurd h.1
two_of types x y stack (c ∷ d ∷ []) below e h = record { cell = c; next = d; below = below; split = e; is = h.0; next_is = h.1.0 }
two_of types x y stack (c ∷ d ∷ b ∷ cs) below e h = absurd h.1.1

three_of : (types : List Derived) (x y z : CellType) (stack tops below : List s.Cell) → stack ≡ tops ++ below → AreOf types (x ∷ y ∷ z ∷ []) tops
    → ThreeOnTop types x y z stack
three_of types x y z stack [] below e h = absurd h
three_of types x y z stack (c ∷ []) below e h = absurd h.1
three_of types x y z stack (c ∷ d ∷ []) below e h = absurd h.1.1
three_of types x y z stack (c ∷ d ∷ b ∷ []) below e h =
    record { cell = c; next = d; third = b; below = below; split = e; is = h.0; next_is = h.1.0; third_is = h.1.1.0 }
three_of types x y z stack (c ∷ d ∷ b ∷ a ∷ cs) below e h = absurd h.1.1.1

pub one_on_top : (p : Program) (t : s.State) (x : CellType) (rest : List CellType) → IsTold p t → (site_at p t.pc).cells ≡ x ∷ rest
    → OneOnTop p.types.items x t.stack
one_on_top p t x rest told e =
    let h = cells_taken p t (x ∷ []) rest told e in one_of p.types.items x t.stack h.tops h.below h.split h.are

pub two_on_top : (p : Program) (t : s.State) (x y : CellType) (rest : List CellType) → IsTold p t → (site_at p t.pc).cells ≡ x ∷ y ∷ rest
    → TwoOnTop p.types.items x y t.stack
two_on_top p t x y rest told e =
    let h = cells_taken p t (x ∷ y ∷ []) rest told e in two_of p.types.items x y t.stack h.tops h.below h.split h.are

pub three_on_top : (p : Program) (t : s.State) (x y z : CellType) (rest : List CellType) → IsTold p t → (site_at p t.pc).cells ≡ x ∷ y ∷ z ∷ rest
    → ThreeOnTop p.types.items x y z t.stack
three_on_top p t x y z rest told e =
    let h = cells_taken p t (x ∷ y ∷ z ∷ []) rest told e in three_of p.types.items x y z t.stack h.tops h.below h.split h.are

-- ---- what a cell of a type is

pub of_datum : (types : List Derived) (k : Kind) (c : s.Cell) → Is types (cell.Datum k) c → (v : Value) × (c ≡ s.Datum v) × IsOf types k v
of_datum types k (s.Datum v) h = (v, refl, h)
of_datum types k c h = absurd h

pub of_object : (types : List Derived) (k : Kind) (c : s.Cell) → Is types (cell.Object k) c → (r : Reference) × (c ≡ s.Object r) × Refers k r
of_object types k (s.Object r) h = (r, refl, h)
of_object types k c h = absurd h

pub of_each : (types : List Derived) (array : Kind) (n : ℕ) (k : Kind) (c : s.Cell) → Is types (cell.Each array n k) c
    → (r : Reference) × (c ≡ s.Object r) × Refers (formed.of_kind k.of array.rank) r
of_each types array n k (s.Object r) h = (r, refl, h)
of_each types array n k c h = absurd h

pub of_argument : (types : List Derived) (g : formed.Given) (c : s.Cell) → Is types (cell.Argument g) c
    → (a : m.Passed) × (c ≡ s.Argument a) × IsPassed types g a
of_argument types g (s.Argument a) h = (a, refl, h)
of_argument types g c h = absurd h

pub of_choice : (types : List Derived) (b : Bool) (c : s.Cell) → Is types (cell.Choice b) c → (z : m.Chosen) × (c ≡ s.Choice z) × IsChoice b z
of_choice types b (s.Choice z) h = (z, refl, h)
of_choice types b c h = absurd h

pub of_bound : (types : List Derived) (c : s.Cell) → Is types cell.Bound c → (z : Option ℤ) × (c ≡ s.Bound z)
of_bound types (s.Bound z) h = (z, refl)
of_bound types c h = absurd h

pub of_bounds : (types : List Derived) (rank : ℕ) (c : s.Cell) → Is types (cell.Bounds rank) c
    → (ss : List Span) × (c ≡ s.Bounds ss) × (length ss ≡ rank)
of_bounds types rank (s.Bounds ss) h = (ss, refl, h)
of_bounds types rank c h = absurd h

pub of_turns : (types : List Derived) (c : s.Cell) → Is types cell.Turns c → (k : ℕ) × (z : ℤ) × (c ≡ s.Turns k z)
of_turns types (s.Turns k z) h = (k, z, refl)
of_turns types c h = absurd h

pub of_objects : (types : List Derived) (ks : List Kind) (c : s.Cell) → Is types (cell.Objects ks) c
    → (rs : List Reference) × (c ≡ s.Objects rs) × AllRefer ks rs
of_objects types ks (s.Objects rs) h = (rs, refl, h)
of_objects types ks c h = absurd h

pub of_selector : (types : List Derived) (k : Kind) (c : s.Cell) → Is types (cell.Selector k) c
    → (a : exec.Association) × (c ≡ s.Selector a) × IsSelector types k a
of_selector types k (s.Selector a) h = (a, refl, h)
of_selector types k c h = absurd h

pub of_level : (types : List Derived) (ks : List Kind) (c : s.Cell) → Is types (cell.Level ks) c
    → (level : ℕ) × (rs : List Reference) × (c ≡ s.Level level rs) × AllRefer ks rs
of_level types ks (s.Level level rs) h = (level, rs, refl, h)
of_level types ks c h = absurd h

pub of_outside : (types : List Derived) (o : Scope) (c : s.Cell) → Is types (cell.Outside o) c
    → (here : m.Here) × (c ≡ s.Outside here) × Knows types here o
of_outside types o (s.Outside here) h = (here, refl, h)
of_outside types o c h = absurd h

pub of_going : (types : List Derived) (c : s.Cell) → Is types cell.Going c → (flow : exec.Flow) × (c ≡ s.Going flow)
of_going types (s.Going flow) h = (flow, refl)
of_going types c h = absurd h
