-- What is put on a stack and taken from it.
use Rattle.std.proofs.Common.{◌≡◌, ℕ, ◌+◌, ◌<◌, ◌≤◌, List, [], ◌∷◌, ◌++◌, length, take, drop, reverse, refl, sym, ap, ◌∙◌, arith}
use Rattle.std.specs.Prelude.{Option, None, Some, MatchOption}
use Rattle.std.proofs.lemmas.List.{length-append, drop-append-le, take-append-le, reverse-append, append-nil, take-append-drop}
use Rattle.f3_rooms.specs.Held.{times}
use Rattle.f3_rooms.proofs.Framing.{times_append}
use Rattle.f3_word_cells.specs.declared.cell.Cell.{Cell}
use Rattle.f3_word_cells.specs.declared.stack.Stack.{Stack}
use Rattle.f3_word_cells.specs.declared.state.State.{State}
use Rattle.f3_word_cells.specs.States.{cell_blocks, cells_blocks}
use Rattle.f3_word_cells.specs.Moves.{Popped, PoppedOr, Pushed}

-- ---- blocks of cells

pub cells_blocks_append : (q : ℕ) (xs ys : List Cell) → times q (cells_blocks (xs ++ ys)) ≡ times q (cells_blocks xs) + times q (cells_blocks ys)
cells_blocks_append q [] ys = omega arith
cells_blocks_append q (x ∷ xs) ys =
    times_append q (cell_blocks x) (cells_blocks (xs ++ ys))
    ∙ (let e = cells_blocks_append q xs ys in let f = times_append q (cell_blocks x) (cells_blocks xs) in omega (arith, e, f))

pub cells_blocks_one : (q : ℕ) (c : Cell) → times q (cells_blocks (c ∷ [])) ≡ times q (cell_blocks c)
cells_blocks_one q c = ap (times q) (append-nil (cell_blocks c))

-- ---- one cell

top_cell : (base : ℕ) (c : Cell) (xs : List Cell) → base ≤ length xs → reverse (drop base (xs ++ c ∷ [])) ≡ c ∷ reverse (drop base xs)
top_cell base c xs h = ap reverse (drop-append-le base xs (c ∷ []) h) ∙ reverse-append (drop base xs) (c ∷ [])

blocks_more : (q : ℕ) (c : Cell) (xs ys : List Cell) → ys ≡ xs ++ c ∷ [] → times q (cells_blocks ys) ≡ times q (cells_blocks xs) + times q (cell_blocks c)
blocks_more q c xs ys e = ap (λ zs. times q (cells_blocks zs)) e ∙ cells_blocks_append q xs (c ∷ [])
    ∙ ap (λ n. times q (cells_blocks xs) + n) (cells_blocks_one q c)

more_by_one : (c : Cell) (xs ys : List Cell) → ys ≡ xs ++ c ∷ [] → length ys ≡ length xs + 1
more_by_one c xs ys e = ap length e ∙ length-append xs (c ∷ [])

pub pushed : (c : Cell) (to : ℕ) (old : State) (cells : Stack Cell) → cells.items.items ≡ old.cells.items.items ++ c ∷ [] → cells.room ≡ old.cells.room
    → old.base ≤ length old.cells.items.items → Pushed c to old (record old { pc = to; cells = cells })
pushed c to old cells e room bottom =
    let xs = old.cells.items.items in
    let more : length cells.items.items ≡ length xs + 1 = more_by_one c xs cells.items.items e in
    record {
      same = record {
        base = refl;
        here = refl;
        names = refl;
        callers = refl;
        statics = refl;
        blocks = refl;
        levels = refl;
        room = room;
        beneath = ap (take old.base) e ∙ take-append-le old.base xs (c ∷ []) bottom;
        bottom = λ h. omega arith;
      };
      pc = refl;
      cells = ap (λ zs. reverse (drop old.base zs)) e ∙ top_cell old.base c xs bottom;
      more = more;
      blocks = λ q. blocks_more q c xs cells.items.items e;
    }

pub popped : (c : Cell) (old : State) (cells : Stack Cell) → old.cells.items.items ≡ cells.items.items ++ c ∷ [] → cells.room ≡ old.cells.room
    → old.base < length old.cells.items.items → Popped c old (record old { cells = cells })
popped c old cells e room within =
    let xs = cells.items.items in
    let fewer : length old.cells.items.items ≡ length xs + 1 = more_by_one c xs old.cells.items.items e in
    let bottom : old.base ≤ length xs = omega arith in
    record {
      same = record {
        base = refl;
        here = refl;
        names = refl;
        callers = refl;
        statics = refl;
        blocks = refl;
        levels = refl;
        room = room;
        beneath = sym (ap (take old.base) e ∙ take-append-le old.base xs (c ∷ []) bottom);
        bottom = λ h. bottom;
      };
      pc = refl;
      cells = ap (λ zs. reverse (drop old.base zs)) e ∙ top_cell old.base c xs bottom;
      fewer = fewer;
      blocks = λ q. blocks_more q c xs old.cells.items.items e;
    }

-- the cell on top, if there is one above those beneath
pub popped_or : (result : Option Cell) (old : State) (cells : Stack Cell)
    → MatchOption result ((old.cells.items.items ≡ []) × (cells.items.items ≡ [])) (λ x. old.cells.items.items ≡ cells.items.items ++ x ∷ [])
    → cells.room ≡ old.cells.room → old.base < length old.cells.items.items → PoppedOr result old (record old { cells = cells })
popped_or None old cells h room within = let e : length old.cells.items.items ≡ 0 = ap length h.0 in absurd (omega arith)
popped_or (Some c) old cells h room within = popped c old cells h room within

-- ---- lists of cells

pub cells_blocks_reverse : (q : ℕ) (xs : List Cell) → times q (cells_blocks (reverse xs)) ≡ times q (cells_blocks xs)
cells_blocks_reverse q [] = refl
cells_blocks_reverse q (x ∷ xs) =
    let parts : reverse (x ∷ xs) ≡ reverse xs ++ x ∷ [] = reverse-append (x ∷ []) xs in
    let sum : times q (cells_blocks (reverse xs ++ x ∷ [])) ≡ times q (cells_blocks (reverse xs)) + times q (cells_blocks (x ∷ [])) =
    cells_blocks_append q (reverse xs) (x ∷ []) in
    let one = cells_blocks_one q x in
    let rest = cells_blocks_reverse q xs in
    let all : times q (cells_blocks (x ∷ xs)) ≡ times q (cell_blocks x) + times q (cells_blocks xs) = times_append q (cell_blocks x) (cells_blocks xs) in
    ap (λ ys. times q (cells_blocks ys)) parts ∙ omega (arith, sum, one, rest, all)

pub cells_blocks_split : (q k : ℕ) (xs : List Cell)
    → times q (cells_blocks xs) ≡ times q (cells_blocks (take k xs)) + times q (cells_blocks (drop k xs))
cells_blocks_split q k xs = ap (λ ys. times q (cells_blocks ys)) (sym (take-append-drop k xs)) ∙ cells_blocks_append q (take k xs) (drop k xs)
