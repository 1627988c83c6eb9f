-- What stands on top of a stack in memory, from the bottom up.
use Rattle.std.proofs.Common.{◌≡◌, ℕ, ◌+◌, ◌-◌, ◌<◌, ◌≤◌, List, [], ◌∷◌, ◌++◌, length, take, drop, map, reverse, inl, inr, refl, sym, ap, ◌∙◌, arith, append_assoc}
use Rattle.std.proofs.lemmas.List.{append-nil, take-map, take_all, take-append-le, take-append-drop, map-append, reverse-append, length-reverse, length-drop}
use Rattle.std.proofs.lemmas.Bool.{cases_lt}
use Rattle.f3_program.specs.declared.program.Program.{Program}
use Rattle.f3_meaning_whole.specs.Act.{Given, Lent}
use Rattle.f3_code.specs.State as s
use Rattle.f3_cells.specs.declared.cell.Cell as c
use Rattle.f3_cells.specs.declared.cell.Cell.TheVariants as cell
use Rattle.f3_cells.specs.declared.cell.Passed.TheVariants as passed
use Rattle.f3_cells.specs.Cells.{cell_of, cells_of}
use Rattle.f3_code.specs.Wants.{given_words, dimensions}
use Rattle.f3_requests.specs.Inner.Counted.{held_words, extents}

-- so many on top

whole : {X : Type 0} (a b : List X) (k : ℕ) → length a ≡ k → take k (a ++ b) ≡ a
whole a b k e = take-append-le k a b (omega arith) ∙ take_all k a (omega arith)

within : {X : Type 0} (xs : List X) (k : ℕ) → k ≤ length xs → reverse (drop (length xs - k) xs) ≡ take k (reverse xs)
within xs k h =
    let n = length xs - k in
    let parts : reverse xs ≡ reverse (drop n xs) ++ reverse (take n xs) =
    sym (ap reverse (take-append-drop n xs)) ∙ reverse-append (take n xs) (drop n xs) in
    let long : length (reverse (drop n xs)) ≡ k = omega (arith, length-reverse (drop n xs), length-drop n xs) in
    sym (ap (take k) parts ∙ whole (reverse (drop n xs)) (reverse (take n xs)) k long)

past : {X : Type 0} (xs : List X) (k : ℕ) → length xs < k → reverse (drop (length xs - k) xs) ≡ take k (reverse xs)
past xs k h =
    let e : length xs - k ≡ 0 = omega arith in
    ap (λ n. reverse (drop n xs)) e ∙ sym (take_all k (reverse xs) (omega (arith, length-reverse xs)))

from_top : {X : Type 0} (xs : List X) (k : ℕ) → reverse (drop (length xs - k) xs) ≡ take k (reverse xs)
from_top xs k = elim (cases_lt (length xs) k) [ inl h ↦ past xs k h | inr h ↦ within xs k h ]

top_is : (p : Program) (xs : List c.Cell) (k : ℕ) → cells_of p (drop (length xs - k) xs) ≡ take k (cells_of p xs)
top_is p xs k = ap (map (cell_of p)) (from_top xs k) ∙ sym (take-map (cell_of p) k (reverse xs))

pub top_seen : (p : Program) (xs : List c.Cell) (k n : ℕ) → n ≡ length xs - k → cells_of p (take (length xs - n) (drop n xs)) ≡ take k (cells_of p xs)
top_seen p xs k n h = ap (cells_of p) (take_all (length xs - n) (drop n xs) (omega (arith, length-drop n xs))) ∙ ap (λ m. cells_of p (drop m xs)) h ∙ top_is p xs k

cells_cons : (p : Program) (x : c.Cell) (xs : List c.Cell) → cells_of p (x ∷ xs) ≡ cells_of p xs ++ cell_of p x ∷ []
cells_cons p x xs = ap (map (cell_of p)) (reverse-append (x ∷ []) xs) ∙ map-append (cell_of p) (reverse xs) (x ∷ [])

-- arguments

given_append : (a b : List s.Cell) → given_words (a ++ b) ≡ given_words a + given_words b
given_append [] b = omega arith
given_append (s.Argument (Given k v) ∷ a) b = let e = given_append a b in omega arith
given_append (s.Argument (Lent k r) ∷ a) b = given_append a b
given_append (x ∷ a) b = given_append a b

given_cons : (p : Program) (x : c.Cell) (xs : List c.Cell) (n : ℕ) → n ≡ held_words xs → n + given_words (cell_of p x ∷ []) ≡ held_words (x ∷ xs)
given_cons p (cell.Argument (passed.Given k v)) xs n h = omega arith
given_cons p (cell.Argument (passed.Lent k r)) xs n h = omega arith
given_cons p x xs n h = omega arith

pub given_are : (p : Program) (xs : List c.Cell) → given_words (cells_of p xs) ≡ held_words xs
given_are p [] = refl
given_are p (x ∷ xs) = ap given_words (cells_cons p x xs) ∙ given_append (cells_of p xs) (cell_of p x ∷ []) ∙ given_cons p x xs (given_words (cells_of p xs)) (given_are p xs)

-- dimensions

dimensions_append : (a b : List s.Cell) → dimensions (a ++ b) ≡ dimensions b ++ dimensions a
dimensions_append [] b = sym (append-nil (dimensions b))
dimensions_append (s.Extent x ∷ a) b = ap (λ ss. ss ++ x ∷ []) (dimensions_append a b) ∙ append_assoc (dimensions b) (dimensions a) (x ∷ [])
dimensions_append (x ∷ a) b = dimensions_append a b

extents_cons : (p : Program) (x : c.Cell) (xs : List c.Cell) → dimensions (cell_of p x ∷ []) ++ extents xs ≡ extents (x ∷ xs)
extents_cons p (cell.Extent lower turns) xs = refl
extents_cons p x xs = refl

pub extents_are : (p : Program) (xs : List c.Cell) → dimensions (cells_of p xs) ≡ extents xs
extents_are p [] = refl
extents_are p (x ∷ xs) = ap dimensions (cells_cons p x xs) ∙ dimensions_append (cells_of p xs) (cell_of p x ∷ [])
    ∙ ap (λ ss. dimensions (cell_of p x ∷ []) ++ ss) (extents_are p xs) ∙ extents_cons p x xs
