-- Which cells stand on top at a line.
use Rattle.std.proofs.Common.{◌≡◌, ◌∙◌, ℕ, ℤ, ◌+◌, true, List, [], ◌∷◌, refl, sym, subst, ap}
use Rattle.std.specs.Prelude.{drop, map, slice_get, Option, Some, None, ◌||◌, pos, unwrap_or}
use Rattle.f3_program.specs.declared.declarations.Constant.TheVariants as constant
use Rattle.f3_program.specs.declared.statement.Range.{Range}
use Rattle.f3_program.specs.declared.declarations.Base.TheVariants as base
use Rattle.f3_program.specs.declared.declarations.Constant.{Constant}
use Rattle.f3_program.specs.declared.declarations.Kind.{Kind}
use Rattle.f3_program.specs.declared.program.Program.{Program}
use Rattle.f3_live_blocks.specs.Blocks.{Live}
use Rattle.f3_meaning_whole.specs.Value.{Number, Value, Span}
use Rattle.f3_meaning_whole.specs.Arithmetic.{constant_value, meets}
use Rattle.f3_meaning_whole.specs.Act as m
use Rattle.f3_meaning_whole.specs.Store.{Store}
use Rattle.f3_meaning_whole.specs.Exec as exec
use Rattle.f3_meaning_whole.specs.Formed.{is_number, is_scalar, is_whole_number}
use Rattle.f3_meaning_whole.specs.Permitted.{same_type}
use Rattle.f3_code.specs.State as s
use Rattle.f3_code.specs.State.{Line}
use Rattle.f3_code.specs.declared.instruction.Instruction.{Instruction}
use Rattle.f3_code.specs.declared.instruction.Instruction.TheVariants as i
use Rattle.f3_code.specs.declared.instruction.Way.{Way}
use Rattle.f3_cell_kinds.specs.Effect.{truth}
use Rattle.f3_cell_kinds.specs.Kinds.{Goes}
use Rattle.f3_cell_kinds.proofs.Standing.{in_is}
use Rattle.f3_cells.specs.declared.cell.Flow.{Flow}
use Rattle.f3_cell_kinds.specs.Types.{Scope, Told, CellType, sort_of_type}
use Rattle.f3_cell_kinds.specs.Types as cell
use Rattle.f3_cell_kinds.specs.Holds.{IsOf, Is}
use Rattle.f3_cell_kinds.specs.Laws.{site_at}
use Rattle.f3_store_kinds.specs.Clean.{IsClean}
use Rattle.f3_rooms.specs.Rooms.{Rooms}
use Rattle.arrayvec.specs.ArrayVec.{ArrayVec}
use Rattle.f3_desc.specs.declared.descriptor.Dim.{Dim}
use Rattle.f3_shaping.proofs.Widths.{meets_same}
use Rattle.f3_word_cells.specs.declared.cell.Cell.{Cell}
use Rattle.f3_word_cells.specs.declared.cell.Cell.TheVariants as c
use Rattle.f3_word_cells.specs.declared.cell.Datum.{Datum}
use Rattle.f3_word_cells.specs.declared.cell.Here.{Here}
use Rattle.f3_word_cells.specs.declared.state.Name.{Name}
use Rattle.f3_word_cells.specs.declared.state.State.{State}
use Rattle.f3_word_cells.specs.Areas.{IsDatum}
use Rattle.f3_word_cells.specs.Cells.{IsCell, AreCells, IsSelected}
use Rattle.f3_word_cells.specs.States.{Stands, own}
use Rattle.f3_word_cells.specs.Does.{IsTold}
use Rattle.f3_word_cells.proofs.OnTop.{one_on_top, of_datum, of_turns, of_outside, of_going, of_bound, of_bounds}
use Rattle.f3_word_cells.proofs.Scalars.{scalar_datum, whole_scalar, whole_number}
use Rattle.f3_word_control.specs.Operands.{scalar_cell, turns_cell}
use Rattle.f3_word_cells.specs.Scenes.{code_of}
use Rattle.f3_word_cells.proofs.Flat.{IsFlat, plain_is_flat}
use Rattle.f3_word_cells.proofs.Moving.{Beneath}
use Rattle.f3_word_cells.proofs.Amid.{Amid}
use Rattle.f3_word_cells.proofs.Orderly.{IsAfter}
use Rattle.f3_word_control.proofs.Lines.{after_at, begun_at, left_to}

-- whether what is selected is in a range, where it is none as 0 is
pub selected_meets : (r : Range) (o : Option Constant) (v : Value) → IsSelected o v → meets r v ≡ meets r (constant_value (unwrap_or o (constant.Number (pos 0))))
selected_meets r (Some y) v is = ap (meets r) is
selected_meets r None v is = meets_same r v (Number (pos 0)) is.0 is.1

module _ (p : Program) (live : Live) (x : Rooms) where
  -- ---- which cell is one of the machine over values

  module _ (ns : List Name) where
    pub datum_cell : (a : Cell) (v : Value) → IsCell p x live ns a (s.Datum v) → (d : Datum) × (a ≡ c.Datum d) × IsDatum p live d v
    datum_cell (c.Datum d) v h = (d, refl, h)
    datum_cell a v h = absurd h

    pub turns_cell_is : (a : Cell) (k : ℕ) (z : ℤ) → IsCell p x live ns a (s.Turns k z) → (y : Option ℕ × ℤ) × (a ≡ turns_cell y)
    turns_cell_is (c.Turns turns step) k z h = ((turns, step), refl)
    turns_cell_is a k z h = absurd h

    pub outside_cell : (a : Cell) (here : m.Here) → IsCell p x live ns a (s.Outside here) → (h : Here) × (a ≡ c.Outside h)
    outside_cell (c.Outside h) here is = (h, refl)
    outside_cell a here is = absurd is

    pub bound_cell : (a : Cell) (z : Option ℤ) → IsCell p x live ns a (s.Bound z) → (y : Option ℤ) × (a ≡ c.Bound y)
    bound_cell (c.Bound y) z is = (y, refl)
    bound_cell a z is = absurd is

    pub bounds_cell : (a : Cell) (ss : List Span) → IsCell p x live ns a (s.Bounds ss) → (ds : ArrayVec Dim) × (a ≡ c.Bounds ds)
    bounds_cell (c.Bounds ds) ss is = (ds, refl)
    bounds_cell a ss is = absurd is

    pub going_cell : (a : Cell) (flow : exec.Flow) → IsCell p x live ns a (s.Going flow) → (f : Flow) × (a ≡ c.Going f)
    going_cell (c.Going f) flow is = (f, refl)
    going_cell a flow is = absurd is

  -- the cell in memory of the one on top
  pub top_in : (Rest : Rooms → List Name → Type 0) (ns : List Name) (h : Here) (here : m.Here) (cs : List Cell) (bs : List s.Cell) (b : s.Cell) (below : List s.Cell)
      → bs ≡ b ∷ below → AreCells p live Rest x ns h here cs bs → (a : Cell) × (rest : List Cell) × (cs ≡ a ∷ rest) × IsCell p x live ns a b
  top_in Rest ns h here [] [] b below e is = cc
  top_in Rest ns h here [] (b' ∷ bs) b below e is = absurd is
  top_in Rest ns h here (a ∷ cs) [] b below e is = absurd is
  top_in Rest ns h here (a ∷ cs) (b' ∷ bs) b below e is =
      let same : b' ≡ b = cc in (a, cs, refl, subst (λ (y : s.Cell). IsCell p x live ns a y) same is.0)

  -- ---- what stands on top at a line

  module _ (t : s.State) (w : State) (told : IsTold p t) (stands : Stands p live w x t) where
    top_of : (y : CellType) (rest : List CellType) → (site_at p t.pc).cells ≡ y ∷ rest
        → (a : Cell) × (cs : List Cell) × (b : s.Cell) × (own w ≡ a ∷ cs) × IsCell p x live w.names.items.items a b × Is p.types.items y b
    top_of y rest e =
        let top = one_on_top p t y rest told e in
        let there = top_in (Beneath p live w t.frames) w.names.items.items w.here t.here (own w) t.stack top.cell top.below top.split stands.stack in
        (there.0, there.1, top.cell, there.2, there.3, top.is)

    pub datum_on : (k : Kind) (rest : List CellType) → (site_at p t.pc).cells ≡ cell.Datum k ∷ rest
        → (d : Datum) × (cs : List Cell) × (v : Value) × (own w ≡ c.Datum d ∷ cs) × IsDatum p live d v × IsOf p.types.items k v
    datum_on k rest e =
        let top = top_of (cell.Datum k) rest e in
        let v = of_datum p.types.items k top.2 top.5 in
        let d = datum_cell w.names.items.items top.0 v.0 (subst (λ (y : s.Cell). IsCell p x live w.names.items.items top.0 y) v.1 top.4) in
        (d.0, top.1, v.0, top.3 ∙ ap (λ a. a ∷ top.1) d.1, d.2, v.2)

    pub scalar_on : (k : Kind) (rest : List CellType) → (site_at p t.pc).cells ≡ cell.Datum k ∷ rest → is_scalar k ≡ true
        → (is_number k.of || same_type k.of base.Logical) ≡ true → (y : Constant) × (cs : List Cell) × (own w ≡ scalar_cell y ∷ cs)
    scalar_on k rest e one plain =
        let top = datum_on k rest e in
        let y = scalar_datum p live k top.0 top.2 one plain top.5 top.4 in
        (y.0, top.1, top.3 ∙ ap (λ d. c.Datum d ∷ top.1) y.1)

    pub whole_on : (k : Kind) (rest : List CellType) → (site_at p t.pc).cells ≡ cell.Datum k ∷ rest → is_whole_number k ≡ true
        → (y : Constant) × (cs : List Cell) × (own w ≡ scalar_cell y ∷ cs)
    whole_on k rest e whole = scalar_on k rest e (whole_scalar k whole) (ap (λ b. b || same_type k.of base.Logical) (whole_number k whole))

    pub turns_on : (rest : List CellType) → (site_at p t.pc).cells ≡ cell.Turns ∷ rest → (y : Option ℕ × ℤ) × (cs : List Cell) × (own w ≡ turns_cell y ∷ cs)
    turns_on rest e =
        let top = top_of cell.Turns rest e in
        let v = of_turns p.types.items top.2 top.5 in
        let d = turns_cell_is w.names.items.items top.0 v.0 v.1 (subst (λ (y : s.Cell). IsCell p x live w.names.items.items top.0 y) v.2 top.4) in
        (d.0, top.1, top.3 ∙ ap (λ a. a ∷ top.1) d.1)

    pub outside_on : (o : Scope) (rest : List CellType) → (site_at p t.pc).cells ≡ cell.Outside o ∷ rest → (h : Here) × (cs : List Cell) × (own w ≡ c.Outside h ∷ cs)
    outside_on o rest e =
        let top = top_of (cell.Outside o) rest e in
        let v = of_outside p.types.items o top.2 top.5 in
        let d = outside_cell w.names.items.items top.0 v.0 (subst (λ (y : s.Cell). IsCell p x live w.names.items.items top.0 y) v.1 top.4) in
        (d.0, top.1, top.3 ∙ ap (λ a. a ∷ top.1) d.1)

    pub met_at : (l : Line) (r : Range) → Goes p (site_at p) t.pc l (i.Meets r)
        → (rest : List CellType) × ((site_at p t.pc).cells ≡ rest) × IsAfter p t.pc (t.pc + 1) (cell.Datum truth ∷ rest)
    met_at l r b =
        let at = in_is (site_at p t.pc).scope _ b in
        let lead = at.2.3 in (lead.rest, lead.before, after_at lead.next refl refl)

    pub selecting_at : (l : Line) → Goes p (site_at p) t.pc l i.Selecting
        → (k : Kind) × (o : Scope) × (rest : List CellType) × ((site_at p t.pc).cells ≡ cell.Datum k ∷ rest)
        × ((site_at p t.pc).scope ≡ Told o) × (site_at p (t.pc + 1) ≡ begun_at (site_at p t.pc) k o rest)
    selecting_at l b =
        let at = in_is (site_at p t.pc).scope _ b in
        let lead = at.2.2 in (at.2.0, at.0, lead.rest, lead.before, at.1, lead.next)

    pub left_at : (l : Line) (by : Way) (d : ℕ) → Goes p (site_at p) t.pc l (i.Leave by d)
        → (o : Scope) × (rest : List CellType) × ((site_at p t.pc).cells ≡ cell.Outside o ∷ rest) × ((inner : Scope) × ((site_at p t.pc).scope ≡ Told inner))
        × (site_at p (t.pc + 1 + d) ≡ left_to (site_at p t.pc) o rest)
    left_at l by d b =
        let at = in_is (site_at p t.pc).scope _ b in
        let lead = at.2.1 in (at.2.0, lead.rest, lead.before, (at.0, at.1), lead.far.0)

    pub left_on : (l : Line) (by : Way) (d : ℕ) → Goes p (site_at p) t.pc l (i.Leave by d) → (h : Here) × (cs : List Cell) × (own w ≡ c.Outside h ∷ cs)
    left_on l by d b = let at = in_is (site_at p t.pc).scope _ b in outside_on at.2.0 at.2.1.rest at.2.1.before

    pub going_on : (rest : List CellType) → (site_at p t.pc).cells ≡ cell.Going ∷ rest → (f : Flow) × (cs : List Cell) × (own w ≡ c.Going f ∷ cs)
    going_on rest e =
        let top = top_of cell.Going rest e in
        let v = of_going p.types.items top.2 top.5 in
        let d = going_cell w.names.items.items top.0 v.0 (subst (λ (y : s.Cell). IsCell p x live w.names.items.items top.0 y) v.1 top.4) in
        (d.0, top.1, top.3 ∙ ap (λ a. a ∷ top.1) d.1)

    -- ---- what goes from the stack by itself

    pub clean_at : (l : Line) (y : Instruction) (ks : List CellType) → slice_get (code_of p).lines t.pc ≡ Some l → l.act ≡ y → (site_at p t.pc).cells ≡ ks
        → IsClean y (map sort_of_type ks)
    clean_at l y ks there is kinds =
        subst (λ hs. IsClean y (map sort_of_type hs)) kinds
        (subst (λ a. IsClean a (map sort_of_type (site_at p t.pc).cells)) is (told.clean t.pc l there))

    pub drop_flat : (l : Line) (y : CellType) (rest : List CellType) (b : s.Cell) → slice_get (code_of p).lines t.pc ≡ Some l → l.act ≡ i.Drop
        → (site_at p t.pc).cells ≡ y ∷ rest → Is p.types.items y b → IsFlat b
    drop_flat l y rest b there is kinds h = plain_is_flat p.types.items y b (clean_at l i.Drop (y ∷ rest) there is kinds).0 h

    pub swap_flat : (l : Line) (y z : CellType) (rest : List CellType) (a b : s.Cell) → slice_get (code_of p).lines t.pc ≡ Some l → l.act ≡ i.Swap
        → (site_at p t.pc).cells ≡ y ∷ z ∷ rest → Is p.types.items y a → Is p.types.items z b → IsFlat a × IsFlat b
    swap_flat l y z rest a b there is kinds h g =
        let clean = clean_at l i.Swap (y ∷ z ∷ rest) there is kinds in
        (plain_is_flat p.types.items y a clean.0 h, plain_is_flat p.types.items z b clean.1.0 g)

    pub no_top : (y : CellType) (rest : List CellType) → (site_at p t.pc).cells ≡ y ∷ rest → own w ≡ [] → ⊥
    no_top y rest e none = let top = top_of y rest e in let f : own w ≡ top.0 ∷ top.1 = top.3 in cc

  -- ---- what stands there amid an instruction

  module _ (t : s.State) (old mid : State) (ks : List CellType) (stack : List s.Cell) (store : Store) (hand : List ℕ) (amid : Amid p t live old mid x ks stack store hand)
      (b : s.Cell) (below : List s.Cell) (split : stack ≡ b ∷ below) where
    under : (a : Cell) × (cs : List Cell) × (own mid ≡ a ∷ cs) × IsCell p x live old.names.items.items a b
    under = top_in (Beneath p live old t.frames) old.names.items.items old.here t.here (own mid) stack b below split amid.cells

    pub datum_under : (k : Kind) → Is p.types.items (cell.Datum k) b
        → (d : Datum) × (cs : List Cell) × (v : Value) × (own mid ≡ c.Datum d ∷ cs) × IsDatum p live d v × IsOf p.types.items k v
    datum_under k is =
        let v = of_datum p.types.items k b is in
        let d = datum_cell old.names.items.items under.0 v.0 (subst (λ (y : s.Cell). IsCell p x live old.names.items.items under.0 y) v.1 under.3) in
        (d.0, under.1, v.0, under.2 ∙ ap (λ a. a ∷ under.1) d.1, d.2, v.2)

    pub scalar_under : (k : Kind) → Is p.types.items (cell.Datum k) b → is_scalar k ≡ true → (is_number k.of || same_type k.of base.Logical) ≡ true
        → (y : Constant) × (cs : List Cell) × (own mid ≡ scalar_cell y ∷ cs)
    scalar_under k is one plain =
        let top = datum_under k is in
        let y = scalar_datum p live k top.0 top.2 one plain top.5 top.4 in
        (y.0, top.1, top.3 ∙ ap (λ d. c.Datum d ∷ top.1) y.1)

    pub bound_under : Is p.types.items cell.Bound b → (z : Option ℤ) × (cs : List Cell) × (own mid ≡ c.Bound z ∷ cs)
    bound_under is =
        let v = of_bound p.types.items b is in
        let d = bound_cell old.names.items.items under.0 v.0 (subst (λ (y : s.Cell). IsCell p x live old.names.items.items under.0 y) v.1 under.3) in
        (d.0, under.1, under.2 ∙ ap (λ a. a ∷ under.1) d.1)

    pub bounds_under : (rank : ℕ) → Is p.types.items (cell.Bounds rank) b → (ds : ArrayVec Dim) × (cs : List Cell) × (own mid ≡ c.Bounds ds ∷ cs)
    bounds_under rank is =
        let v = of_bounds p.types.items rank b is in
        let d = bounds_cell old.names.items.items under.0 v.0 (subst (λ (y : s.Cell). IsCell p x live old.names.items.items under.0 y) v.1 under.3) in
        (d.0, under.1, under.2 ∙ ap (λ a. a ∷ under.1) d.1)

-- cells that are the same have the same beneath
pub below_is : {stack below rest : List s.Cell} {a b : s.Cell} → stack ≡ a ∷ below → stack ≡ b ∷ rest → below ≡ rest
below_is e f = ap (λ (bs : List s.Cell). drop 1 bs) (sym e ∙ f)
