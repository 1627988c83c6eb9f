-- The words in use are those that the blocks of a state take.
use Rattle.std.proofs.Common.{◌≡◌, ℕ, ◌+◌, List, [], ◌∷◌, ◌++◌, take, drop, reverse, refl, ap, sym, subst, ◌∙◌, arith}
use Rattle.std.specs.Prelude.{⊤}
use Rattle.std.proofs.lemmas.List.{reverse-append, reverse-reverse, take-append-drop}
use Rattle.f3_program.specs.declared.program.Program.{Program}
use Rattle.f3_live_blocks.specs.Blocks.{Live}
use Rattle.f3_heap_laws.specs.Account.{r as taken_by, used_by}
use Rattle.f3_meaning_whole.specs.Value.{Value}
use Rattle.f3_meaning_whole.specs.Act as m
use Rattle.f3_meaning_whole.specs.Exec as exec
use Rattle.f3_code.specs.State as s
use Rattle.f3_rooms.specs.Laws.{before_level}
use Rattle.f3_rooms.specs.Rooms.{Rooms}
use Rattle.f3_room_account.proofs.Using.{taken, used_is_taken}
use Rattle.f3_word_cells.specs.declared.cell.Datum.{Datum}
use Rattle.f3_word_cells.specs.declared.cell.Datum.TheVariants as datum
use Rattle.f3_word_cells.specs.declared.cell.Passed.TheVariants as passed
use Rattle.f3_word_cells.specs.declared.cell.Association.TheVariants as association
use Rattle.f3_word_cells.specs.declared.cell.Here.{Here}
use Rattle.f3_word_cells.specs.declared.cell.Cell.{Cell}
use Rattle.f3_word_cells.specs.declared.cell.Cell.TheVariants as c
use Rattle.f3_word_cells.specs.declared.state.Name.{Name}
use Rattle.f3_word_cells.specs.declared.state.Caller.{Caller}
use Rattle.f3_word_cells.specs.declared.state.State.{State}
use Rattle.f3_word_cells.specs.Areas.{IsDatum}
use Rattle.f3_word_cells.specs.Cells.{IsCell, AreCells, rooms_under, names_under, here_under, here_beneath}
use Rattle.f3_word_cells.specs.States.{Stands, AreCallers, datum_blocks, cell_blocks, cells_blocks, cells_from, loose_blocks, own, beneath}
use Rattle.f3_word_account.specs.Owned.{room_blocks, owned, blocks_words, datum_words, cell_words, cells_words}
use Rattle.f3_word_account.specs.Laws.{UsedIsWordsOfBlocks}
use Rattle.f3_word_account.proofs.Owning.{owned_once, owned_all, owned_live}

-- ---- lists of blocks

words_taken : (m : Live) (bs : List ℕ) → taken m bs ≡ blocks_words m bs
words_taken m [] = refl
words_taken m (b ∷ bs) = let e = words_taken m bs in omega (arith, e)

words_append : (m : Live) (bs cs : List ℕ) → blocks_words m (bs ++ cs) ≡ blocks_words m bs + blocks_words m cs
words_append m [] cs = omega arith
words_append m (b ∷ bs) cs = let e = words_append m bs cs in omega (arith, e)

-- ---- lists of cells

module _ (p : Program) (n : Live) where
  -- the block of a value has just its words
  abbrev Counts : Cell → Type 0
  Counts a = blocks_words n (cell_blocks a) ≡ cell_words p a

  abbrev AllCount : List Cell → Type 0
  AllCount [] = ⊤
  AllCount (a ∷ zs) = Counts a × AllCount zs

  count_append : (xs ys : List Cell) → AllCount xs → AllCount ys → AllCount (xs ++ ys)
  count_append [] ys front behind = behind
  count_append (x ∷ xs) ys front behind = (front.0, count_append xs ys front.1 behind)

  count_reversed : (xs : List Cell) → AllCount xs → AllCount (reverse xs)
  count_reversed [] all = tt
  count_reversed (x ∷ xs) all =
      subst AllCount (sym (reverse-append (x ∷ []) xs)) (count_append (reverse xs) (x ∷ []) (count_reversed xs all.1) (all.0, tt))

  cells_count : (zs : List Cell) → AllCount zs → blocks_words n (cells_blocks zs) ≡ cells_words p zs
  cells_count [] all = refl
  cells_count (a ∷ zs) all =
      let e = words_append n (cell_blocks a) (cells_blocks zs) in
      let f = cells_count zs all.1 in
      let g = all.0 in
      omega (arith, e, f, g)

  datum_counts : (d : Datum) (v : Value) → IsDatum p n d v → blocks_words n (datum_blocks d) ≡ datum_words p d
  datum_counts (datum.Scalar k) v is = refl
  datum_counts (datum.Block a) v is = let e = ap taken_by (is.0).words in omega (arith, e)

  cell_counts : (x : Rooms) (ns : List Name) (a : Cell) (b : s.Cell) → IsCell p x n ns a b → Counts a
  cell_counts x ns (c.Datum d) (s.Datum v) is = datum_counts d v is
  cell_counts x ns (c.Datum d) b is = absurd is
  cell_counts x ns (c.Argument (passed.Given k d)) (s.Argument (m.Given i v)) is = datum_counts d v is.1
  cell_counts x ns (c.Argument (passed.Given k d)) (s.Argument (m.Lent i r)) is = absurd is
  cell_counts x ns (c.Argument (passed.Given k d)) b is = absurd is
  cell_counts x ns (c.Argument (passed.Lent k o)) b is = refl
  cell_counts x ns (c.Selector (association.Holds of d)) (s.Selector (exec.Holds of' v)) is = datum_counts d v is.1
  cell_counts x ns (c.Selector (association.Holds of d)) (s.Selector (exec.Means r)) is = absurd is
  cell_counts x ns (c.Selector (association.Holds of d)) b is = absurd is
  cell_counts x ns (c.Selector (association.Means o)) b is = refl
  cell_counts x ns (c.Object o) b is = refl
  cell_counts x ns (c.Choice z) b is = refl
  cell_counts x ns (c.Bound z) b is = refl
  cell_counts x ns (c.Bounds z) b is = refl
  cell_counts x ns (c.Turns k z) b is = refl
  cell_counts x ns (c.Objects z) b is = refl
  cell_counts x ns (c.Level k z) b is = refl
  cell_counts x ns (c.Outside z) b is = refl
  cell_counts x ns (c.Going z) b is = refl
  cell_counts x ns (c.Each z k) b is = refl

  -- so of the cells of an activation, where what is beneath tells so of those beneath
  own_count : (Rest : Rooms → List Name → Type 0) (Goal : Type 0) → ((y : Rooms) (ms : List Name) → Rest y ms → Goal) → (x : Rooms) (ns : List Name)
      → (h : Here) (here : m.Here) (zs : List Cell) (bs : List s.Cell) → AreCells p n Rest x ns h here zs bs → AllCount zs × Goal
  own_count Rest Goal g x ns h here [] [] are = (tt, g x ns are.1)
  own_count Rest Goal g x ns h here [] (b ∷ bs) are = absurd are
  own_count Rest Goal g x ns h here (a ∷ zs) [] are = absurd are
  own_count Rest Goal g x ns h here (a ∷ zs) (b ∷ bs) are =
      let rest = own_count Rest Goal g (rooms_under a x) (names_under a ns) (here_under a h) (here_beneath a b here) zs bs are.2 in
      ((cell_counts x ns a b are.0, rest.0), rest.1)

  -- those from one on, the last one on top, and those beneath
  whole_count : (base : ℕ) (zs : List Cell) → AllCount (cells_from base zs) → AllCount (take base zs) → AllCount zs
  whole_count base zs above under =
      subst AllCount (take-append-drop base zs) (count_append (take base zs) (drop base zs) under
      (subst AllCount (reverse-reverse (drop base zs)) (count_reversed (cells_from base zs) above)))

  callers_count : (zs : List Cell) (fs : List Caller) (gs : List s.Frame) (x : Rooms) (ns : List Name) → AreCallers p n zs fs gs x ns → AllCount zs
  callers_count zs [] [] x ns are = subst AllCount (sym are) tt
  callers_count zs [] (g ∷ gs) x ns are = absurd are
  callers_count zs (f ∷ fs) [] x ns are = absurd are
  callers_count zs (f ∷ fs) (g ∷ gs) x ns are =
      let both = own_count (AreCallers p n (take f.base zs) fs gs) (AllCount (take f.base zs)) (callers_count (take f.base zs) fs gs)
      (before_level x f.level) (take f.dummies.from ns) f.here g.here (cells_from f.base zs) g.stack are.1 in
      whole_count f.base zs both.0 both.1

module _ (p : Program) (n : Live) (w : State) (x : Rooms) (t : s.State) (st : Stands p n w x t) where
  stack_counts : blocks_words n (loose_blocks w) ≡ cells_words p w.cells.items.items
  stack_counts =
      let callers = reverse w.callers.items.items in
      let both = own_count p n (AreCallers p n (beneath w) callers t.frames) (AllCount p n (beneath w)) (callers_count p n (beneath w) callers t.frames)
      x w.names.items.items w.here t.here (own w) t.stack st.stack in
      cells_count p n w.cells.items.items (whole_count p n w.base w.cells.items.items both.0 both.1)

  pub used_by_owned : used_by n ≡ blocks_words n (owned w)
  used_by_owned = used_is_taken n (owned w) (owned_live p n w x t st) (owned_once p n w x t st) (owned_all p n w x t st) ∙ words_taken n (owned w)

pub used_is_words_of_blocks : UsedIsWordsOfBlocks
used_is_words_of_blocks p n w x t st =
    let e = used_by_owned p n w x t st in
    let f = words_append n (room_blocks w) (loose_blocks w) in
    let g = stack_counts p n w x t st in
    omega (arith, e, f, g)
