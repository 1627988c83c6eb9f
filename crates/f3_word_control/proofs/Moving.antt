-- Cells are taken from the top.
use Rattle.std.proofs.Common.{◌≡◌, ◌∙◌, arith, ℕ, ℤ, List, [], ◌∷◌, ◌++◌, refl, subst, ap}
use Rattle.std.specs.Prelude.{Option}
use Rattle.f3_program.specs.declared.declarations.Constant.{Constant}
use Rattle.f3_program.specs.declared.program.Program.{Program}
use Rattle.f3_live_blocks.specs.Blocks.{Live}
use Rattle.f3_meaning_whole.specs.Value.{Value}
use Rattle.f3_meaning_whole.specs.Arithmetic.{constant_value}
use Rattle.f3_meaning_whole.specs.Store.{Store}
use Rattle.f3_meaning_whole.specs.Act as m
use Rattle.f3_arithmetic.specs.Turns.{turns_of}
use Rattle.f3_code.specs.State as s
use Rattle.f3_cells.specs.declared.cell.Flow.{Flow}
use Rattle.f3_cells.specs.Cells.{flow_of}
use Rattle.f3_cell_kinds.specs.Types.{CellType}
use Rattle.arrayvec.specs.ArrayVec.{ArrayVec}
use Rattle.f3_desc.specs.declared.descriptor.Dim.{Dim}
use Rattle.f3_rooms.specs.Held.{times}
use Rattle.f3_rooms.specs.Rooms.{Rooms}
use Rattle.f3_word_cells.specs.declared.cell.Cell.{Cell}
use Rattle.f3_word_cells.specs.declared.cell.Cell.TheVariants as c
use Rattle.f3_word_cells.specs.declared.cell.Datum.{Datum}
use Rattle.f3_word_cells.specs.declared.cell.Here.{Here}
use Rattle.f3_word_cells.specs.declared.state.Name.{Name}
use Rattle.f3_word_cells.specs.declared.state.State.{State}
use Rattle.f3_word_cells.specs.Areas.{IsDatum, spans_of}
use Rattle.f3_word_cells.specs.Cells.{IsCell, AreCells}
use Rattle.f3_word_cells.specs.States.{IsKnown, cell_blocks, datum_blocks, own}
use Rattle.f3_word_cells.specs.Moves.{Popped}
use Rattle.f3_word_cells.proofs.Flat.{IsFlat}
use Rattle.f3_word_cells.proofs.Amid.{Amid, amid_popped}
use Rattle.f3_word_cells.proofs.Moving.{Beneath}
use Rattle.f3_word_control.specs.Operands.{scalar_cell, turns_cell}

module _ (p : Program) (live : Live) where
  pub first_cell : (Rest : Rooms → List Name → Type 0) (x : Rooms) (ns : List Name) (h : Here) (here : m.Here) (a : Cell) (cs : List Cell) (bs : List s.Cell)
      → AreCells p live Rest x ns h here (a ∷ cs) bs → (b : s.Cell) × (rest : List s.Cell) × (bs ≡ b ∷ rest) × IsCell p x live ns a b
  first_cell Rest x ns h here a cs [] is = absurd is
  first_cell Rest x ns h here a cs (b ∷ bs) is = (b, bs, refl, is.0)

module _ (p : Program) (t : s.State) (n : Live) (old : State) (x : Rooms) where
  -- a cell was taken, and its block is in hand
  pub record Taken (now : State) (stack : List s.Cell) (store : Store) (hand : List ℕ) (k : CellType) (ks : List CellType) (a : Cell) : Type 0 where
    pub cell : s.Cell
    pub below : List s.Cell
    pub split : stack ≡ cell ∷ below
    pub is : IsCell p x n old.names.items.items a cell
    pub known : IsKnown p k a
    pub amid : Amid p t n old now x ks below store (cell_blocks a ++ hand)

  pub taken : {mid now : State} {k : CellType} {ks : List CellType} {stack : List s.Cell} {store : Store} {hand : List ℕ} (a : Cell)
      → ((b : s.Cell) → IsCell p x n old.names.items.items a b → IsFlat b) → Popped a mid now → Amid p t n old mid x (k ∷ ks) stack store hand
      → Taken now stack store hand k ks a
  taken {mid = mid} {now = now} {k = k} {ks = ks} {stack = stack} {store = store} {hand = hand} a flat popped amid =
      let Rest : Rooms → List Name → Type 0 = Beneath p n old t.frames in
      let names = old.names.items.items in
      let top = first_cell p n Rest x names old.here t.here a (own now) stack
      (subst (λ (cs : List Cell). AreCells p n Rest x names old.here t.here cs stack) popped.cells amid.cells) in
      let then : Amid p t n old mid x (k ∷ ks) (top.0 ∷ top.1) store hand = subst (λ (bs : List s.Cell). Amid p t n old mid x (k ∷ ks) bs store hand) top.2 amid in
      let after = amid_popped p t n old mid now x k ks top.0 top.1 store hand a then popped (flat top.0 top.3) in
      record { cell = top.0; below = top.1; split = top.2; is = top.3; known = after.1; amid = after.2 }

  -- ---- values

  of_datum : (d : Datum) (b : s.Cell) → IsCell p x n old.names.items.items (c.Datum d) b → (v : Value) × (b ≡ s.Datum v) × IsDatum p n d v
  of_datum d (s.Datum v) h = (v, refl, h)
  of_datum d b h = absurd h

  flat_datum : (d : Datum) (b : s.Cell) → IsCell p x n old.names.items.items (c.Datum d) b → IsFlat b
  flat_datum d (s.Datum v) h = tt
  flat_datum d b h = absurd h

  pub record TakenDatum (now : State) (stack : List s.Cell) (store : Store) (hand : List ℕ) (k : CellType) (ks : List CellType) (d : Datum) : Type 0 where
    pub value : Value
    pub below : List s.Cell
    pub split : stack ≡ s.Datum value ∷ below
    pub is : IsDatum p n d value
    pub known : IsKnown p k (c.Datum d)
    pub amid : Amid p t n old now x ks below store (datum_blocks d ++ hand)

  pub datum_taken : {mid now : State} {k : CellType} {ks : List CellType} {stack : List s.Cell} {store : Store} {hand : List ℕ} (d : Datum)
      → Popped (c.Datum d) mid now → Amid p t n old mid x (k ∷ ks) stack store hand → TakenDatum now stack store hand k ks d
  datum_taken {hand = hand} d popped amid =
      let top = taken {hand = hand} (c.Datum d) (flat_datum d) popped amid in
      let v = of_datum d top.cell top.is in
      record { value = v.0; below = top.below; split = top.split ∙ ap (λ b. b ∷ top.below) v.1; is = v.2; known = top.known; amid = top.amid }

  -- ---- a scalar, and other cells without values in blocks

  pub record TakenSo (now : State) (stack : List s.Cell) (store : Store) (hand : List ℕ) (ks : List CellType) (b : s.Cell) : Type 0 where
    pub below : List s.Cell
    pub split : stack ≡ b ∷ below
    pub amid : Amid p t n old now x ks below store hand

  pub scalar_taken : {mid now : State} {k : CellType} {ks : List CellType} {stack : List s.Cell} {store : Store} {hand : List ℕ} (y : Constant)
      → Popped (scalar_cell y) mid now → Amid p t n old mid x (k ∷ ks) stack store hand → TakenSo now stack store hand ks (s.Datum (constant_value y))
  scalar_taken {hand = hand} y popped amid =
      let top = datum_taken {hand = hand} _ popped amid in
      record { below = top.below; split = top.split ∙ ap (λ v. s.Datum v ∷ top.below) top.is; amid = top.amid }

  of_turns : (y : Option ℕ × ℤ) (b : s.Cell) → IsCell p x n old.names.items.items (turns_cell y) b → b ≡ s.Turns (turns_of y.0) y.1
  of_turns y (s.Turns k z) h = cc
  of_turns y b h = absurd h

  flat_turns : (y : Option ℕ × ℤ) (b : s.Cell) → IsCell p x n old.names.items.items (turns_cell y) b → IsFlat b
  flat_turns y (s.Turns k z) h = tt
  flat_turns y b h = absurd h

  pub turns_taken : {mid now : State} {k : CellType} {ks : List CellType} {stack : List s.Cell} {store : Store} {hand : List ℕ} (y : Option ℕ × ℤ)
      → Popped (turns_cell y) mid now → Amid p t n old mid x (k ∷ ks) stack store hand → TakenSo now stack store hand ks (s.Turns (turns_of y.0) y.1)
  turns_taken {hand = hand} y popped amid =
      let top = taken {hand = hand} (turns_cell y) (flat_turns y) popped amid in
      record { below = top.below; split = top.split ∙ ap (λ b. b ∷ top.below) (of_turns y top.cell top.is); amid = top.amid }

  of_going : (f : Flow) (b : s.Cell) → IsCell p x n old.names.items.items (c.Going f) b → b ≡ s.Going (flow_of f)
  of_going f (s.Going g) h = ap s.Going h
  of_going f b h = absurd h

  flat_going : (f : Flow) (b : s.Cell) → IsCell p x n old.names.items.items (c.Going f) b → IsFlat b
  flat_going f (s.Going g) h = tt
  flat_going f b h = absurd h

  pub going_taken : {mid now : State} {k : CellType} {ks : List CellType} {stack : List s.Cell} {store : Store} {hand : List ℕ} (f : Flow)
      → Popped (c.Going f) mid now → Amid p t n old mid x (k ∷ ks) stack store hand → TakenSo now stack store hand ks (s.Going (flow_of f))
  going_taken {hand = hand} f popped amid =
      let top = taken {hand = hand} (c.Going f) (flat_going f) popped amid in
      record { below = top.below; split = top.split ∙ ap (λ b. b ∷ top.below) (of_going f top.cell top.is); amid = top.amid }

  of_bound : (z : Option ℤ) (b : s.Cell) → IsCell p x n old.names.items.items (c.Bound z) b → b ≡ s.Bound z
  of_bound z (s.Bound y) h = ap s.Bound h
  of_bound z b h = absurd h

  flat_bound : (z : Option ℤ) (b : s.Cell) → IsCell p x n old.names.items.items (c.Bound z) b → IsFlat b
  flat_bound z (s.Bound y) h = tt
  flat_bound z b h = absurd h

  pub bound_taken : {mid now : State} {k : CellType} {ks : List CellType} {stack : List s.Cell} {store : Store} {hand : List ℕ} (z : Option ℤ)
      → Popped (c.Bound z) mid now → Amid p t n old mid x (k ∷ ks) stack store hand → TakenSo now stack store hand ks (s.Bound z)
  bound_taken {hand = hand} z popped amid =
      let top = taken {hand = hand} (c.Bound z) (flat_bound z) popped amid in
      record { below = top.below; split = top.split ∙ ap (λ b. b ∷ top.below) (of_bound z top.cell top.is); amid = top.amid }

  of_bounds : (ds : ArrayVec Dim) (b : s.Cell) → IsCell p x n old.names.items.items (c.Bounds ds) b → b ≡ s.Bounds (spans_of ds.items)
  of_bounds ds (s.Bounds ss) h = ap s.Bounds h
  of_bounds ds b h = absurd h

  flat_bounds : (ds : ArrayVec Dim) (b : s.Cell) → IsCell p x n old.names.items.items (c.Bounds ds) b → IsFlat b
  flat_bounds ds (s.Bounds ss) h = tt
  flat_bounds ds b h = absurd h

  pub bounds_taken : {mid now : State} {k : CellType} {ks : List CellType} {stack : List s.Cell} {store : Store} {hand : List ℕ} (ds : ArrayVec Dim)
      → Popped (c.Bounds ds) mid now → Amid p t n old mid x (k ∷ ks) stack store hand → TakenSo now stack store hand ks (s.Bounds (spans_of ds.items))
  bounds_taken {hand = hand} ds popped amid =
      let top = taken {hand = hand} (c.Bounds ds) (flat_bounds ds) popped amid in
      record { below = top.below; split = top.split ∙ ap (λ b. b ∷ top.below) (of_bounds ds top.cell top.is); amid = top.amid }

-- the same blocks in hand, in another order
pub in_order : (p : Program) (t : s.State) (n : Live) (old now : State) (x : Rooms) (ks : List CellType) (stack : List s.Cell) (store : Store) (hand others : List ℕ)
    → ((q : ℕ) → times q others ≡ times q hand) → Amid p t n old now x ks stack store hand → Amid p t n old now x ks stack store others
in_order p t n old now x ks stack store hand others e amid = record {
  same = amid.same;
  here = amid.here;
  sound = amid.sound;
  is = amid.is;
  known = amid.known;
  cells = amid.cells;
  orderly = amid.orderly;
  tight = amid.tight;
  once = λ q. let f = e q in let one = amid.once q in omega (arith, f, one);
  all = λ q alive. let f = e q in let some = amid.all q alive in omega (arith, f, some);
  live = λ q some. amid.live q (let f = e q in omega (arith, f, some));
  unpinned = amid.unpinned;
}
