-- What stands beneath cells stands with them.
use Rattle.std.proofs.Common.{◌≡◌, ◌∙◌, ℕ, zero, suc, ◌+◌, ◌<◌, List, [], ◌∷◌, ◌++◌, length, take, drop, refl, sym, subst, ap, arith}
use Rattle.std.specs.Prelude.{Some, slice_get}
use Rattle.std.proofs.lemmas.List.{length-append}
use Rattle.f3_program.specs.declared.program.Program.{Program}
use Rattle.f3_live_blocks.specs.Blocks.{Live}
use Rattle.f3_meaning_whole.specs.Act as m
use Rattle.f3_meaning_whole.specs.Exec as exec
use Rattle.f3_code.specs.State as s
use Rattle.f3_rooms.specs.Rooms.{Rooms}
use Rattle.f3_rooms.specs.Laws.{before_level}
use Rattle.f3_word_cells.specs.declared.cell.Passed.{Passed}
use Rattle.f3_word_cells.specs.declared.cell.Passed.TheVariants as passed
use Rattle.f3_word_cells.specs.declared.cell.Association.{Association}
use Rattle.f3_word_cells.specs.declared.cell.Association.TheVariants as association
use Rattle.f3_word_cells.specs.declared.cell.Object.TheVariants as o
use Rattle.f3_word_cells.specs.declared.cell.Here.{Here}
use Rattle.f3_word_cells.specs.declared.cell.Cell.{Cell}
use Rattle.f3_word_cells.specs.declared.cell.Cell.TheVariants as c
use Rattle.f3_word_cells.specs.declared.state.Name.{Name}
use Rattle.f3_word_cells.specs.declared.state.Caller.{Caller}
use Rattle.f3_word_cells.specs.Cells.{AreCells, IsAssociation, IsCell, IsPassed, IsWithin, here_beneath, here_under, names_under, rooms_under}
use Rattle.f3_word_cells.specs.States.{AreCallers, IsCaller, cells_from, is_held_at}
use Rattle.f3_word_cells.proofs.Within.{AreFirst, AreRooms, first_beneath, here_within, named_within, names_stay, object_within, rooms_beneath}

-- ---- fewer rooms, and fewer names

get_less : {A : Type 0} (k l : ℕ) (xs : List A) (y : A) → slice_get (take k xs) l ≡ Some y → l < k
get_less zero l xs y e = absurd (cc)
get_less (suc k) l [] y e = absurd (cc)
get_less (suc k) zero (x ∷ xs) y e = omega arith
get_less (suc k) (suc l) (x ∷ xs) y e = let less = get_less k l xs y e in omega (arith, less)

get_from : {A : Type 0} (k l : ℕ) (xs : List A) (y : A) → slice_get (take k xs) l ≡ Some y → slice_get xs l ≡ Some y
get_from zero l xs y e = absurd (cc)
get_from (suc k) l [] y e = absurd (cc)
get_from (suc k) zero (x ∷ xs) y e = e
get_from (suc k) (suc l) (x ∷ xs) y e = get_from k l xs y e

get_into : {A : Type 0} (k l : ℕ) (xs : List A) (y : A) → l < k → slice_get xs l ≡ Some y → slice_get (take k xs) l ≡ Some y
get_into zero l xs y less e = absurd (omega (arith, less))
get_into (suc k) l [] y less e = absurd (cc)
get_into (suc k) zero (x ∷ xs) y less e = e
get_into (suc k) (suc l) (x ∷ xs) y less e = get_into k l xs y (omega (arith, less)) e

pub rooms_before_both : (y x : Rooms) (k : ℕ) → AreRooms y x → AreRooms (before_level y k) (before_level x k)
rooms_before_both y x k are = record {
  statics = are.statics;
  levels = λ l ss e. get_into k l x.levels ss (get_less k l y.levels ss e) (are.levels l ss (get_from k l y.levels ss e));
}

rooms_under_both : (a : Cell) (y x : Rooms) → AreRooms y x → AreRooms (rooms_under a y) (rooms_under a x)
rooms_under_both (c.Datum d) y x are = are
rooms_under_both (c.Object d) y x are = are
rooms_under_both (c.Each d e) y x are = are
rooms_under_both (c.Argument d) y x are = are
rooms_under_both (c.Choice d) y x are = are
rooms_under_both (c.Bound d) y x are = are
rooms_under_both (c.Bounds d) y x are = are
rooms_under_both (c.Turns d e) y x are = are
rooms_under_both (c.Objects d) y x are = are
rooms_under_both (c.Selector d) y x are = are
rooms_under_both (c.Level d e) y x are = rooms_before_both y x d are
rooms_under_both (c.Outside d) y x are = are
rooms_under_both (c.Going d) y x are = are

take_first : (k : ℕ) (ms more : List Name) → AreFirst (take k ms) (take k (ms ++ more))
take_first zero ms more = record { more = []; split = refl }
take_first (suc k) [] more = record { more = take (suc k) more; split = refl }
take_first (suc k) (n ∷ ms) more = let rest = take_first k ms more in record { more = rest.more; split = ap (λ ns. n ∷ ns) rest.split }

pub first_take_both : (k : ℕ) (ms ns : List Name) → AreFirst ms ns → AreFirst (take k ms) (take k ns)
first_take_both k ms ns first = subst (λ zs. AreFirst (take k ms) (take k zs)) (sym first.split) (take_first k ms first.more)

first_under_both : (a : Cell) (ms ns : List Name) → AreFirst ms ns → AreFirst (names_under a ms) (names_under a ns)
first_under_both (c.Datum d) ms ns first = first
first_under_both (c.Object d) ms ns first = first
first_under_both (c.Each d e) ms ns first = first
first_under_both (c.Argument d) ms ns first = first
first_under_both (c.Choice d) ms ns first = first
first_under_both (c.Bound d) ms ns first = first
first_under_both (c.Bounds d) ms ns first = first
first_under_both (c.Turns d e) ms ns first = first
first_under_both (c.Objects d) ms ns first = first
first_under_both (c.Selector d) ms ns first = first
first_under_both (c.Level d e) ms ns first = first_take_both e.from ms ns first
first_under_both (c.Outside d) ms ns first = first
first_under_both (c.Going d) ms ns first = first

-- ---- cells

module _ (p : Program) (live : Live) where
  module _ (y x : Rooms) (are : AreRooms y x) (ms ns : List Name) (first : AreFirst ms ns) where
    passed_within : (a : Passed) (b : m.Passed) → IsPassed p y live ms a b → IsPassed p x live ns a b
    passed_within (passed.Given k d) (m.Given i v) is = is
    passed_within (passed.Given k d) (m.Lent i r) is = absurd is
    passed_within (passed.Lent k o) (m.Given i v) is = absurd is
    passed_within (passed.Lent k o) (m.Lent i r) is = (is.0, object_within p y x are o r is.1)

    association_within : (a : Association) (b : exec.Association) → IsAssociation p y live ms a b → IsAssociation p x live ns a b
    association_within (association.Holds of d) (exec.Holds of' v) is = is
    association_within (association.Holds of d) (exec.Means r) is = absurd is
    association_within (association.Means o) (exec.Holds of v) is = absurd is
    association_within (association.Means o) (exec.Means r) is = object_within p y x are o r is

    cell_within : (a : Cell) (b : s.Cell) → IsCell p y live ms a b → IsCell p x live ns a b
    cell_within (c.Datum d) (s.Datum v) is = is
    cell_within (c.Datum d) b is = absurd is
    cell_within (c.Object d) (s.Object r) is = object_within p y x are d r is
    cell_within (c.Object d) b is = absurd is
    cell_within (c.Each d e) (s.Object r) is =
        record { array = is.array; stands = object_within p y x are (o.Stands d) is.array is.stands; components = is.components }
    cell_within (c.Each d e) b is = absurd is
    cell_within (c.Argument d) (s.Argument b) is = passed_within d b is
    cell_within (c.Argument d) b is = absurd is
    cell_within (c.Choice d) (s.Choice b) is = is
    cell_within (c.Choice d) b is = absurd is
    cell_within (c.Bound d) (s.Bound b) is = is
    cell_within (c.Bound d) b is = absurd is
    cell_within (c.Bounds d) (s.Bounds b) is = is
    cell_within (c.Bounds d) b is = absurd is
    cell_within (c.Turns d e) (s.Turns k z) is = is
    cell_within (c.Turns d e) b is = absurd is
    cell_within (c.Objects d) (s.Objects rs) is = named_within p y x are ms ns first d rs is
    cell_within (c.Objects d) b is = absurd is
    cell_within (c.Selector d) (s.Selector b) is = association_within d b is
    cell_within (c.Selector d) b is = absurd is
    cell_within (c.Level d e) (s.Level k rs) is = (is.0, named_within p y x are ms ns first e rs is.1)
    cell_within (c.Level d e) b is = absurd is
    cell_within (c.Outside d) (s.Outside o) is = is
    cell_within (c.Outside d) b is = absurd is
    cell_within (c.Going d) (s.Going g) is = is
    cell_within (c.Going d) b is = absurd is

    around_within : (h : Here) (here : m.Here) (a : Cell) → IsWithin p live y ms h here a → IsWithin p live x ns h here a
    around_within h here (c.Datum d) is = is
    around_within h here (c.Object d) is = is
    around_within h here (c.Each d e) is = is
    around_within h here (c.Argument d) is = is
    around_within h here (c.Choice d) is = is
    around_within h here (c.Bound d) is = is
    around_within h here (c.Bounds d) is = is
    around_within h here (c.Turns d e) is = is
    around_within h here (c.Objects d) is = is
    around_within h here (c.Selector d) is = is
    around_within h here (c.Level d e) is = is
    around_within h here (c.Outside d) is = here_within p y x are ms ns first h here is
    around_within h here (c.Going d) is = is

  pub cells_within : (Rest : Rooms → List Name → Type 0)
      → ((y x : Rooms) (ms ns : List Name) → AreRooms y x → AreFirst ms ns → Rest y ms → Rest x ns)
      → (y x : Rooms) (ms ns : List Name) → AreRooms y x → AreFirst ms ns → (h : Here) (here : m.Here) (zs : List Cell) (bs : List s.Cell)
      → AreCells p live Rest y ms h here zs bs → AreCells p live Rest x ns h here zs bs
  cells_within Rest f y x ms ns are first h here [] [] is = (here_within p y x are ms ns first h here is.0, f y x ms ns are first is.1)
  cells_within Rest f y x ms ns are first h here [] (b ∷ bs) is = absurd is
  cells_within Rest f y x ms ns are first h here (a ∷ zs) [] is = absurd is
  cells_within Rest f y x ms ns are first h here (a ∷ zs) (b ∷ bs) is = (
    cell_within y x are ms ns first a b is.0,
    around_within y x are ms ns first h here a is.1,
    cells_within Rest f (rooms_under a y) (rooms_under a x) (names_under a ms) (names_under a ns) (rooms_under_both a y x are)
        (first_under_both a ms ns first) (here_under a h) (here_beneath a b here) zs bs is.2,
  )

  -- ---- callers

  caller_within : (ms ns : List Name) (zs : List Cell) (f : Caller) (g : s.Frame) → AreFirst ms ns → IsCaller p ms zs f g → IsCaller p ns zs f g
  caller_within ms ns zs f g first is =
      let longer : length ns ≡ length ms + length first.more = ap length first.split ∙ length-append ms first.more in
      let within = is.dummies in
      record {
        pc = is.pc;
        bottom = is.bottom;
        known = is.known;
        dummies = omega (arith, longer, within);
        arguments = λ k. is.arguments k
            ∙ ap (λ zs. is_held_at zs k) (sym (names_stay f.dummies ms first.more within) ∙ sym (ap (λ z. take f.dummies.count (drop f.dummies.from z)) first.split));
        caller = is.caller;
        level = is.level;
      }

  pub callers_within : (zs : List Cell) (fs : List Caller) (gs : List s.Frame) (y x : Rooms) (ms ns : List Name) → AreRooms y x → AreFirst ms ns
      → AreCallers p live zs fs gs y ms → AreCallers p live zs fs gs x ns
  callers_within zs [] [] y x ms ns are first is = is
  callers_within zs [] (g ∷ gs) y x ms ns are first is = absurd is
  callers_within zs (f ∷ fs) [] y x ms ns are first is = absurd is
  callers_within zs (f ∷ fs) (g ∷ gs) y x ms ns are first is = (
    caller_within ms ns zs f g first is.0,
    cells_within (AreCallers p live (take f.base zs) fs gs) (callers_within (take f.base zs) fs gs) (before_level y f.level) (before_level x f.level)
        (take f.dummies.from ms) (take f.dummies.from ns) (rooms_before_both y x f.level are) (first_take_both f.dummies.from ms ns first) f.here g.here
        (cells_from f.base zs) g.stack is.1,
  )

  -- what is beneath all cells stands with them
  pub rest_within : (Rest : Rooms → List Name → Type 0)
      → ((y x : Rooms) (ms ns : List Name) → AreRooms y x → AreFirst ms ns → Rest y ms → Rest x ns)
      → (x : Rooms) (ns : List Name) (h : Here) (here : m.Here) (zs : List Cell) (bs : List s.Cell) → AreCells p live Rest x ns h here zs bs → Rest x ns
  rest_within Rest f x ns h here [] [] is = is.1
  rest_within Rest f x ns h here [] (b ∷ bs) is = absurd is
  rest_within Rest f x ns h here (a ∷ zs) [] is = absurd is
  rest_within Rest f x ns h here (a ∷ zs) (b ∷ bs) is =
      f (rooms_under a x) x (names_under a ns) ns (rooms_beneath a x) (first_beneath a ns)
      (rest_within Rest f (rooms_under a x) (names_under a ns) (here_under a h) (here_beneath a b here) zs bs is.2)

  pub callers_stand : (ys : List Cell) (fs : List Caller) (gs : List s.Frame) (x : Rooms) (ns : List Name) (h : Here) (here : m.Here) (zs : List Cell)
      (bs : List s.Cell) → AreCells p live (AreCallers p live ys fs gs) x ns h here zs bs → AreCallers p live ys fs gs x ns
  callers_stand ys fs gs x ns h here zs bs = rest_within (AreCallers p live ys fs gs) (callers_within ys fs gs) x ns h here zs bs
