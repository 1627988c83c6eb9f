-- Shapes are tested.
use Rattle.std.proofs.Common.{◌≡◌, ◌∙◌, ℕ, ◌+◌, Bool, true, false, List, [], ◌∷◌, ◌++◌, length, refl, ap}
use Rattle.std.specs.Prelude.{Ok, Err, None, Some, slice_get}
use Rattle.f3_program.specs.declared.declarations.Constant.TheVariants as constant
use Rattle.f3_program.specs.declared.program.Program.{Program}
use Rattle.f3_live_blocks.specs.Blocks.{Live}
use Rattle.f3_meaning_whole.specs.Value.{Span, Value, conforms}
use Rattle.f3_meaning_whole.specs.Shape.{Shape, Whole, Logical, Record}
use Rattle.f3_meaning_whole.specs.Reference.{Reference, spans}
use Rattle.f3_meaning_whole.specs.declared.run_error.RunError.TheVariants.{ShapesDiffer}
use Rattle.f3_desc.specs.declared.descriptor.Dim.{Dim}
use Rattle.f3_code.specs.declared.instruction.Instruction.TheVariants as i
use Rattle.f3_code.specs.Machine.{performs, tested, on}
use Rattle.f3_code.specs.Heap.{with_answers}
use Rattle.f3_code.specs.State.{Line, placed, Failed}
use Rattle.f3_code.specs.State as s
use Rattle.f3_program.specs.declared.declarations.Kind.{Kind}
use Rattle.f3_cell_kinds.specs.Types.{CellType}
use Rattle.f3_cell_kinds.specs.Types as cell
use Rattle.f3_word_cells.specs.declared.cell.Cell.{Cell}
use Rattle.f3_rooms.specs.Forms.{words_for}
use Rattle.f3_rooms.specs.Held.{Held, Empty}
use Rattle.f3_rooms.specs.Values.{laid, object}
use Rattle.f3_rooms.specs.Rooms.{Rooms}
use Rattle.f3_word_cells.specs.declared.cell.Datum.{Datum}
use Rattle.f3_word_cells.specs.declared.cell.Datum.TheVariants as datum
use Rattle.f3_word_cells.specs.declared.cell.Cell.TheVariants as c
use Rattle.f3_word_cells.specs.declared.cell.Object.{Object}
use Rattle.f3_word_cells.specs.declared.state.State.{State}
use Rattle.f3_word_cells.specs.declared.state.Stop.TheVariants as stop
use Rattle.f3_word_cells.specs.Areas.{IsDatum, IsObject, shape_for, spans_of}
use Rattle.f3_word_cells.specs.Cells.{IsCell}
use Rattle.f3_word_cells.specs.Does.{DoesIn, GoesOn, IsTold, StopsSo}
use Rattle.f3_word_cells.specs.Moves.{Popped, Pushed}
use Rattle.f3_word_cells.specs.Scenes.{code_of}
use Rattle.f3_word_cells.specs.States.{Stands, datum_blocks, own, IsKnown}
use Rattle.f3_word_cells.proofs.Orderly.{IsAfter}
use Rattle.f3_word_cells.proofs.Amid.{Amid, amid_first, amid_popped, amid_pushed}
use Rattle.f3_word_cells.proofs.Lines.{line_goes, line_stops, performs_gives, performs_fails, with_stack, answering}
use Rattle.f3_word_cells.proofs.Moving.{moved_to}
use Rattle.f3_word_cells.proofs.OnTop.{line_kinds, two_on_top, of_datum, of_object}
use Rattle.f3_word_objects.specs.Shapes.{conforms_to, dims_of, fits_to}
use Rattle.f3_word_objects.specs.Taken.{Took}
use Rattle.f3_word_objects.proofs.Passing.{OnObject, object-spans}
use Rattle.f3_word_objects.proofs.Tops.{after-at, goes-on, top-cell}

-- ---- values

one-object : (m : Live) (ss : List Span) (z : Shape) (b a : ℕ) (h : Held) → conforms ss (object m z b a h) ≡ true
one-object m ss Whole b a h = refl
one-object m ss Logical b a h = refl
one-object m ss (Record t parts) b a h = refl

laid-conforms : (m : Live) (ds es : List Dim) (n : ℕ) (z : Shape) (b : ℕ) → conforms (spans_of ds) (laid (length es) (spans_of es) n (object m z) b 0 Empty) ≡ fits_to ds es
laid-conforms m ds [] n z b = one-object m (spans_of ds) z b 0 Empty
laid-conforms m ds (e ∷ es) n z b = refl

pub datum-conforms : (p : Program) (m : Live) (ds : List Dim) (d : Datum) (v : Value) → IsDatum p m d v → conforms (spans_of ds) v ≡ conforms_to ds d
datum-conforms p m ds (datum.Scalar (constant.Number z)) v is = ap (conforms (spans_of ds)) is
datum-conforms p m ds (datum.Scalar (constant.Truth b)) v is = ap (conforms (spans_of ds)) is
datum-conforms p m ds (datum.Block a) v is =
    ap (conforms (spans_of ds)) is.1 ∙ laid-conforms m ds (a.elements).dims.items (words_for (shape_for p a.of)) (shape_for p a.of) (a.elements).block

datum-cell : (p : Program) (m : Live) (x : Rooms) (ns : _) (a : _) (v : Value) → IsCell p x m ns a (s.Datum v) → (d : Datum) × (a ≡ c.Datum d)
datum-cell p m x ns (c.Datum d) v is = (d, refl)
datum-cell p m x ns a v is = absurd is

-- ---- the line

pub on-shape : (p : Program) (m : Live) (old : State) → OnObject p m old i.TestShape
on-shape p m old t l told there is = let lead = line_kinds p t l i.TestShape told there is in (lead.0, cell.Datum lead.1 ∷ lead.3.rest, lead.3.before)

-- an object and a value beneath it are on top, and were taken
pub record BothTaken (p : Program) (t : s.State) (m : Live) (old last : State) (x : Rooms) (z : Object) (d : Datum) : Type 0 where
  pub kind : Kind
  pub other : Kind
  pub rest : List CellType
  pub next : IsAfter p t.pc (t.pc + 1) (cell.Object kind ∷ cell.Datum other ∷ rest)
  pub reference : Reference
  pub value : Value
  pub below : List s.Cell
  pub split : t.stack ≡ s.Object reference ∷ s.Datum value ∷ below
  pub is : IsObject p x z reference
  pub has : IsDatum p m d value
  pub known : IsKnown p (cell.Datum other) (c.Datum d)
  pub amid : Amid p t m old last x rest below (t.world).store (datum_blocks d ++ [])

module _ (p : Program) (m : Live) (old mid : State) (z : Object) (popped : Popped (c.Object z) old mid) (t : s.State) (l : Line) (x : Rooms) (told : IsTold p t)
    (there : slice_get (code_of p).lines t.pc ≡ Some l) (is : l.act ≡ i.TestShape) (st : Stands p m old x t) where
  second : (r : Reference) × (v : Value) × (below : List s.Cell) × (t.stack ≡ s.Object r ∷ s.Datum v ∷ below)
  second =
      let lead = line_kinds p t l i.TestShape told there is in
      let two = two_on_top p t (cell.Object lead.0) (cell.Datum lead.1) lead.3.rest told lead.3.before in
      let r = of_object p.types.items lead.0 two.cell two.is in
      let v = of_datum p.types.items lead.1 two.next two.next_is in
      (r.0, v.0, two.below, two.split ∙ ap (λ (b : s.Cell). b ∷ two.next ∷ two.below) r.1 ∙ ap (λ (b : s.Cell). s.Object r.0 ∷ b ∷ two.below) v.1)

  first : (k : Kind) × (j : Kind) × (rest : List CellType) × IsAfter p t.pc (t.pc + 1) (cell.Object k ∷ cell.Datum j ∷ rest) × IsObject p x z second.0
      × Amid p t m old mid x (cell.Datum j ∷ rest) (s.Datum second.1 ∷ second.2) (t.world).store []
  first =
      let lead = line_kinds p t l i.TestShape told there is in
      let all = amid_first p t m old x (cell.Object lead.0 ∷ cell.Datum lead.1 ∷ lead.3.rest) (s.Object second.0 ∷ s.Datum second.1 ∷ second.2) st lead.3.before second.3 in
      let one = amid_popped p t m old old mid x (cell.Object lead.0) (cell.Datum lead.1 ∷ lead.3.rest) (s.Object second.0) (s.Datum second.1 ∷ second.2) (t.world).store [] (c.Object z) all popped tt in
      (lead.0, lead.1, lead.3.rest, after-at lead.3.next refl refl, one.0, one.2)

  pub datum-lost : (last : State) → Took c.Datum None mid last → ⊥
  datum-lost last none =
      let a = top-cell p m _ x old.names.items.items old.here t.here (own mid) (s.Datum second.1) second.2 (cell.Datum first.1) first.2 first.5.known first.5.cells in
      let d = datum-cell p m x old.names.items.items a.0 second.1 a.3 in
      none d.0 a.1 (a.2 ∙ ap (λ (y : Cell). y ∷ a.1) d.1)

  pub both-taken : (last : State) (d : Datum) → Popped (c.Datum d) mid last → BothTaken p t m old last x z d
  both-taken last d popped =
      let two = amid_popped p t m old mid last x (cell.Datum first.1) first.2 (s.Datum second.1) second.2 (t.world).store [] (c.Datum d) first.5 popped tt in
      record {
        kind = first.0;
        other = first.1;
        rest = first.2;
        next = first.3;
        reference = second.0;
        value = second.1;
        below = second.2;
        split = second.3;
        is = first.4;
        has = two.0;
        known = two.1;
        amid = two.2;
      }

-- what the line does
module _ (p : Program) (l : Line) (t : s.State) (r : Reference) (v : Value) (below : List s.Cell) (is : l.act ≡ i.TestShape) (split : t.stack ≡ s.Object r ∷ s.Datum v ∷ below) where
  abbrev all : List s.Cell
  all = s.Object r ∷ s.Datum v ∷ below

  tests : (b : Bool) (rest : ℕ → Bool) → conforms (spans r.reach) v ≡ b
      → performs (tested (conforms (spans r.reach) v) ShapesDiffer (placed l.place t.here)) (answering (t.world).store rest) (λ done. on (with_answers rest (with_stack all t)) all)
      ≡ performs (tested b ShapesDiffer (placed l.place t.here)) (answering (t.world).store rest) (λ done. on (with_answers rest (with_stack all t)) all)
  tests b rest e = ap (λ y. performs (tested y ShapesDiffer (placed l.place t.here)) (answering (t.world).store rest) (λ done. on (with_answers rest (with_stack all t)) all)) e

  pub passes-test : conforms (spans r.reach) v ≡ true → GoesOn p l t (moved_to t (t.pc + 1) all t.here t.world) []
  passes-test e = line_goes p l t i.TestShape all _ [] tt [] is split (λ rest. tests true rest e ∙ performs_gives tt _ _)

  pub fails-test : conforms (spans r.reach) v ≡ false → StopsSo p l t (Failed ShapesDiffer (placed l.place t.here).place) []
  fails-test e = line_stops p l t i.TestShape all _ [] tt is split (λ rest. tests false rest e ∙ performs_fails ShapesDiffer _ _ _)

module _ (p : Program) (m : Live) (old mid last : State) (z : Object) (d : Datum) (popped : Popped (c.Object z) old mid) (then : Popped (c.Datum d) mid last) where
  pub shape-fails : (new : State) → conforms_to (dims_of z) d ≡ false → DoesIn p i.TestShape (Err (stop.Failed ShapesDiffer)) m m old new
  shape-fails new e t l x told there is st =
      let h = both-taken p m old mid z popped t l x told there is st last d then in
      fails-test p l t h.reference h.value h.below is h.split (ap (λ ss. conforms ss h.value) (object-spans p x z h.reference h.is) ∙ datum-conforms p m (dims_of z) d h.value h.has ∙ e)

  pub shape-passes : (next new : State) → conforms_to (dims_of z) d ≡ true → Pushed (c.Datum d) last.pc last next → Pushed (c.Object z) (next.pc + 1) next new
      → DoesIn p i.TestShape (Ok tt) m m old new
  shape-passes next new e pushed more t l x told there is st =
      let h = both-taken p m old mid z popped t l x told there is st last d then in
      let one = amid_pushed p t m old last next x (cell.Datum h.other) h.rest (s.Datum h.value) h.below (t.world).store [] (c.Datum d) last.pc h.amid pushed tt h.has h.known in
      let two = amid_pushed p t m old next new x (cell.Object h.kind) (cell.Datum h.other ∷ h.rest) (s.Object h.reference) (s.Datum h.value ∷ h.below) (t.world).store [] (c.Object z) (next.pc + 1) one more tt h.is tt in
      goes-on p t m old x told st l new (cell.Object h.kind ∷ cell.Datum h.other ∷ h.rest) (s.Object h.reference ∷ s.Datum h.value ∷ h.below) two h.next
      (more.pc ∙ ap (λ n. n + 1) (pushed.pc ∙ then.pc ∙ popped.pc))
      (passes-test p l t h.reference h.value h.below is h.split (ap (λ ss. conforms ss h.value) (object-spans p x z h.reference h.is) ∙ datum-conforms p m (dims_of z) d h.value h.has ∙ e))
