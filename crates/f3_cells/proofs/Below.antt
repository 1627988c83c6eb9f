-- What stands below so many cells.
use Rattle.std.proofs.Common.{◌≡◌, ℕ, suc, ◌-◌, ◌<◌, ◌≤◌, List, ◌∷◌, ◌++◌, length, get_or, take, drop, map, reverse, inl, inr, Option, None, Some, sym, ap, ◌∙◌, arith}
use Rattle.std.proofs.Math.Seq.{drop-cons}
use Rattle.std.proofs.lemmas.List.{drop-map, drop_at, drop_all, take-append-drop, reverse-append, length-reverse, length-drop, get_or-reverse}
use Rattle.std.proofs.lemmas.Bool.{cases_lt}
use Rattle.std.specs.Option.{MatchOption}
use Rattle.f3_code.specs.State.{Next}
use Rattle.f3_code.specs.State as s
use Rattle.f3_program.specs.declared.program.Program.{Program}
use Rattle.f3_cells.specs.declared.cell.Cell.{Cell}
use Rattle.f3_cells.specs.Cells.{cell_of, cells_of}
use Rattle.f3_cells.specs.Popped.{HasCell, Holds, HoldsNone, HoldsNoPair, Shows, ShowsNone, ShowsNoPair}

pub below : (p : Program) (cs : List Cell) (k : ℕ) (x : Cell) → k < length cs → x ≡ get_or cs (length cs - 1 - k) x
    → drop k (cells_of p cs) ≡ cell_of p x ∷ drop (suc k) (cells_of p cs)
below p cs k x h e =
    let short : k < length (reverse cs) = omega (arith, length-reverse cs) in
    let it : get_or (reverse cs) k x ≡ x = get_or-reverse cs k x h ∙ sym e in
    drop-map (cell_of p) k (reverse cs)
    ∙ ap (map (cell_of p)) (drop-cons (reverse cs) k x short)
    ∙ ap (λ y. cell_of p y ∷ map (cell_of p) (drop (suc k) (reverse cs))) it
    ∙ ap (λ ys. cell_of p x ∷ ys) (sym (drop-map (cell_of p) (suc k) (reverse cs)))

from_end_within : (cs : List Cell) (k : ℕ) → k ≤ length cs → reverse (take (length cs - k) cs) ≡ drop k (reverse cs)
from_end_within cs k h =
    let n = length cs - k in
    let parts : reverse cs ≡ reverse (drop n cs) ++ reverse (take n cs) =
    sym (ap reverse (take-append-drop n cs)) ∙ reverse-append (take n cs) (drop n cs) in
    let long : length (reverse (drop n cs)) ≡ k = omega (arith, length-reverse (drop n cs), length-drop n cs) in
    sym (ap (drop k) parts ∙ drop_at (reverse (drop n cs)) (reverse (take n cs)) k long)

from_end_past : (cs : List Cell) (k : ℕ) → length cs < k → reverse (take (length cs - k) cs) ≡ drop k (reverse cs)
from_end_past cs k h =
    let e : length cs - k ≡ 0 = omega arith in
    ap (λ n. reverse (take n cs)) e ∙ sym (drop_all k (reverse cs) (omega (arith, length-reverse cs)))

pub from_end : (cs : List Cell) (k : ℕ) → reverse (take (length cs - k) cs) ≡ drop k (reverse cs)
from_end cs k = elim (cases_lt (length cs) k) [ inl h ↦ from_end_past cs k h | inr h ↦ from_end_within cs k h ]

pub dropped : (p : Program) (cs : List Cell) (k : ℕ) → cells_of p (take (length cs - k) cs) ≡ drop k (cells_of p cs)
dropped p cs k = ap (map (cell_of p)) (from_end cs k) ∙ sym (drop-map (cell_of p) k (reverse cs))

pub shows : {X Y : Type 0} (on : List s.Cell → (Y → List s.Cell → Next) → Next) (view : X → s.Cell) (r : Option X) (cs : List Cell) (k : ℕ) (cell : Cell)
    → HasCell cs k cell → MatchOption r (HoldsNone on cell) (λ x. Holds cell (view x)) → MatchOption r (ShowsNone on cs k) (λ x. Shows cs k (view x))
shows on view None cs k cell h seen = λ p f. ap (λ xs. on xs f) (h p) ∙ seen p (drop (suc k) (cells_of p cs)) f
shows on view (Some x) cs k cell h seen = λ p. h p ∙ ap (λ y. y ∷ drop (suc k) (cells_of p cs)) (seen p)

pub shows_pair : {X Y Z : Type 0} (on : List s.Cell → (Y → Z → List s.Cell → Next) → Next) (view : X → s.Cell) (r : Option X) (cs : List Cell) (k : ℕ) (cell : Cell)
    → HasCell cs k cell → MatchOption r (HoldsNoPair on cell) (λ x. Holds cell (view x)) → MatchOption r (ShowsNoPair on cs k) (λ x. Shows cs k (view x))
shows_pair on view None cs k cell h seen = λ p f. ap (λ xs. on xs f) (h p) ∙ seen p (drop (suc k) (cells_of p cs)) f
shows_pair on view (Some x) cs k cell h seen = λ p. h p ∙ ap (λ y. y ∷ drop (suc k) (cells_of p cs)) (seen p)
