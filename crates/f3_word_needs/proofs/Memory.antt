-- What stands in memory is as large as the state.
use Rattle.std.proofs.Common.{◌≡◌, ℕ, zero, suc, ◌+◌, List, [], ◌∷◌, ◌++◌, length, take, drop, reverse, refl, sym, ap, ◌∙◌, arith, length-append}
use Rattle.std.proofs.lemmas.Grind.{reverse_onto}
use Rattle.std.proofs.lemmas.List.{length-map, length-reverse}
use Rattle.f3_program.specs.declared.program.Program.{Program}
use Rattle.f3_live_blocks.specs.Blocks.{Live}
use Rattle.f3_meaning_whole.specs.Store.{Store}
use Rattle.f3_meaning_whole.specs.Act as m
use Rattle.f3_rooms.specs.Laws.{before_level}
use Rattle.f3_rooms.specs.Rooms.{Rooms, Slot, level_values}
use Rattle.f3_code.specs.State as s
use Rattle.f3_heights.specs.Room.{frames_cells}
use Rattle.f3_word_cells.specs.declared.cell.Here.{Here}
use Rattle.f3_word_cells.specs.declared.cell.Cell.{Cell}
use Rattle.f3_word_cells.specs.declared.cell.Cell.TheVariants as c
use Rattle.f3_word_cells.specs.declared.state.Name.{Name}
use Rattle.f3_word_cells.specs.declared.state.Caller.{Caller}
use Rattle.f3_word_cells.specs.Areas.{types_of}
use Rattle.f3_word_cells.specs.Cells.{IsCell, AreCells, names_under, rooms_under, here_under, here_beneath}
use Rattle.f3_word_cells.specs.States.{AreCallers, own, beneath, level_rooms, starts_of}
use Rattle.f3_word_needs.specs.Counts.{cells_names, cell_names, frames_selectors, kept_names}
use Rattle.f3_word_needs.specs.Laws.{MemoryIsAsLarge}

-- ---- names that cells keep

kept_on : (a b : List Cell) → kept_names (a ++ b) ≡ kept_names a + kept_names b
kept_on [] b = omega arith
kept_on (c.Level level range ∷ a) b = omega (arith, kept_on a b)
kept_on (x ∷ a) b = kept_on a b

kept_alone : (x : Cell) (a : List Cell) → kept_names (x ∷ a) ≡ kept_names (x ∷ []) + kept_names a
kept_alone (c.Level level range) a = omega arith
kept_alone x a = omega arith

kept_back : (a : List Cell) → kept_names (reverse a) ≡ kept_names a
kept_back [] = refl
kept_back (x ∷ a) = ap kept_names (reverse_onto a x []) ∙ kept_on (reverse a) (x ∷ []) ∙ omega (arith, kept_back a, kept_alone x a)

-- ---- both parts of a row

apart : {A : Type 0} (n : ℕ) (xs : List A) → take n xs ++ drop n xs ≡ xs
apart zero xs = refl
apart (suc n) [] = refl
apart (suc n) (x ∷ xs) = ap (λ l. x ∷ l) (apart n xs)

many_apart : {A : Type 0} (n : ℕ) (xs : List A) → length xs ≡ length (take n xs) + length (reverse (drop n xs))
many_apart n xs =
    ap (λ l. length l) (sym (apart n xs)) ∙ length-append (take n xs) (drop n xs) ∙ ap (λ k. length (take n xs) + k) (sym (length-reverse (drop n xs)))

pub kept_apart : (n : ℕ) (xs : List Cell) → kept_names xs ≡ kept_names (take n xs) + kept_names (reverse (drop n xs))
kept_apart n xs =
    ap kept_names (sym (apart n xs)) ∙ kept_on (take n xs) (drop n xs) ∙ ap (λ k. kept_names (take n xs) + k) (sym (kept_back (drop n xs)))

module _ (p : Program) (live : Live) where
  cell_kept : (x : Rooms) (ns : List Name) (a : Cell) (b : s.Cell) → IsCell p x live ns a b → kept_names (a ∷ []) ≡ cell_names b
  cell_kept x ns (c.Level level range) (s.Level k rs) is = omega (arith, is.1.count)
  cell_kept x ns (c.Level level range) b is = absurd is
  cell_kept x ns a (s.Level k rs) is = absurd is
  cell_kept x ns a b is = refl

  -- the cells of an activation, and what is beneath them
  cells_many : (Rest : Rooms → List Name → Type 0) (Goal : Type 0) → ((y : Rooms) (ms : List Name) → Rest y ms → Goal) → (x : Rooms) (ns : List Name)
      → (h : Here) (here : m.Here) (zs : List Cell) (bs : List s.Cell) → AreCells p live Rest x ns h here zs bs
      → (length zs ≡ length bs) × (kept_names zs ≡ cells_names bs) × Goal
  cells_many Rest Goal g x ns h here [] [] are = (refl, refl, g x ns are.1)
  cells_many Rest Goal g x ns h here [] (b ∷ bs) are = absurd are
  cells_many Rest Goal g x ns h here (a ∷ zs) [] are = absurd are
  cells_many Rest Goal g x ns h here (a ∷ zs) (b ∷ bs) are =
      let rest = cells_many Rest Goal g (rooms_under a x) (names_under a ns) (here_under a h) (here_beneath a b here) zs bs are.2 in
      (ap suc rest.0, omega (arith, kept_alone a zs, cell_kept x ns a b are.0, rest.1), rest.2)

  abbrev Many : List Cell → List Caller → List s.Frame → Type 0
  Many cells fs gs = (length cells ≡ frames_cells gs) × (length fs ≡ length gs) × (kept_names cells ≡ frames_selectors gs)

  callers_many : (cells : List Cell) (fs : List Caller) (gs : List s.Frame) (x : Rooms) (ns : List Name) → AreCallers p live cells fs gs x ns → Many cells fs gs
  callers_many cells [] [] x ns are = (ap (λ (l : List Cell). length l) are, refl, ap kept_names are)
  callers_many cells [] (g ∷ gs) x ns are = absurd are
  callers_many cells (f ∷ fs) [] x ns are = absurd are
  callers_many cells (f ∷ fs) (g ∷ gs) x ns are =
      let under = take f.base cells in
      let own = cells_many (AreCallers p live under fs gs) (Many under fs gs) (callers_many under fs gs) (before_level x f.level) (take f.dummies.from ns)
      f.here g.here (reverse (drop f.base cells)) g.stack are.1 in
      let rest = own.2 in (
        omega (arith, many_apart f.base cells, own.0, rest.0),
        ap suc rest.1,
        omega (arith, kept_apart f.base cells, own.1, rest.2),
      )

starts_many : (n : ℕ) (ls : List (List Slot)) → length (starts_of n ls) ≡ length ls
starts_many n [] = refl
starts_many n (l ∷ ls) = ap suc (starts_many (n + length (level_rooms l)) ls)

pub memory_is_as_large : MemoryIsAsLarge
memory_is_as_large p live w x t h =
    let fs = reverse w.callers.items.items in
    let mine = cells_many p live (AreCallers p live (beneath w) fs t.frames) (Many p live (beneath w) fs t.frames) (callers_many p live (beneath w) fs t.frames)
    x w.names.items.items w.here t.here (own w) t.stack h.stack in
    let others = mine.2 in
    let store = ap (λ (z : Store). length z.levels) h.store in
    let mapped = length-map x.levels (level_values (types_of p) live) in
    let levels = ap (λ (l : List ℕ). length l) h.levels in (
      omega (arith, many_apart w.base w.cells.items.items, mine.0, others.0),
      sym (length-reverse w.callers.items.items) ∙ others.1,
      omega (arith, levels, starts_many 0 x.levels, store, mapped),
      omega (arith, kept_apart w.base w.cells.items.items, mine.1, others.2),
    )
