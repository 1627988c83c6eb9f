-- Sums, products and tests over lists, from the first element on.
use Rattle.std.proofs.Common.{◌≡◌, ℕ, ◌+◌, ◌*◌, ◌%◌, ◌^◌, ◌<◌, List, [], ◌∷◌, length, get_or, drop, refl, sym, ap, ◌∙◌, arith}
use Rattle.std.specs.Prelude.{Bool, true, false, nat_lt, ◌||◌, if◌then◌else◌}
use Rattle.std.specs.List.{list_any}
use Rattle.std.proofs.lemmas.List.{at_drop_more}
use Rattle.f3_program.specs.declared.declarations.Dimension.{Dimension}
use Rattle.f3_meaning_whole.specs.Value.{count}
use Rattle.f3_meaning_whole.specs.Shape.{spans_declared}
use Rattle.f3_meaning_whole.specs.Exec.{too_many}
use Rattle.f3_arithmetic.specs.Turns.{turns_of}
use Rattle.f3_code.proofs.Modulo.{product_left}
use Rattle.f3_data.specs.declared.value.Span.{Span}
use Rattle.f3_data.specs.Values.{spans_of}
use Rattle.f3_cells.specs.declared.cell.Cell as c
use Rattle.f3_cells.specs.declared.cell.Cell.TheVariants as cell
use Rattle.f3_cells.specs.declared.cell.Passed.TheVariants as passed
use Rattle.f3_requests.specs.Inner.Counted.{held_words, extents}

-- the first of what is left

split : {X Y : Type 0} (F : List X → Y) (xs : List X) (i : ℕ) (x : X) → i < length xs → x ≡ get_or xs i x → F (drop i xs) ≡ F (x ∷ drop (i + 1) xs)
split F xs i x l is = at_drop_more F xs i x l ∙ ap (λ y. F (y ∷ drop (i + 1) xs)) (sym is)

summed : (total w first others all : ℕ) → (total + (first + others)) % 2 ^ 64 ≡ all → w ≡ first % 2 ^ 64 → ((total + w) % 2 ^ 64 + others) % 2 ^ 64 ≡ all
summed total w first others all h e = omega arith

multiplied : (total first others : ℕ) → ((total * first) % 2 ^ 64 * others) % 2 ^ 64 ≡ (total * (first * others)) % 2 ^ 64
multiplied total first others =
    let same : total * first * others ≡ total * (first * others) = omega arith in
    product_left (total * first) others ∙ ap (λ n. n % 2 ^ 64) same

-- words of values among arguments

held_first : (x : c.Cell) (xs : List c.Cell) → held_words (x ∷ xs) ≡ held_words (x ∷ []) + held_words xs
held_first (cell.Argument (passed.Given k v)) xs = omega arith
held_first (cell.Argument (passed.Lent k r)) xs = omega arith
held_first x xs = omega arith

pub held_next : (xs : List c.Cell) (i : ℕ) (x : c.Cell) (total w all : ℕ) → i < length xs → x ≡ get_or xs i x
    → (total + held_words (drop i xs)) % 2 ^ 64 ≡ all → w ≡ held_words (x ∷ []) % 2 ^ 64
    → ((total + w) % 2 ^ 64 + held_words (drop (i + 1) xs)) % 2 ^ 64 ≡ all
held_next xs i x total w all l is h e =
    let parts : held_words (drop i xs) ≡ held_words (x ∷ []) + held_words (drop (i + 1) xs) =
    split held_words xs i x l is ∙ held_first x (drop (i + 1) xs) in
    summed total w (held_words (x ∷ [])) (held_words (drop (i + 1) xs)) all (ap (λ n. (total + n) % 2 ^ 64) (sym parts) ∙ h) e

-- elements of arrays

pub spans_next : (xs : List Span) (i : ℕ) (d : Span) (total all : ℕ) → i < length xs
    → (total * count (spans_of (drop i xs))) % 2 ^ 64 ≡ all → ((total * (get_or xs i d).extent) % 2 ^ 64 * count (spans_of (drop (i + 1) xs))) % 2 ^ 64 ≡ all
spans_next xs i d total all l h =
    multiplied total (get_or xs i d).extent (count (spans_of (drop (i + 1) xs)))
    ∙ ap (λ n. (total * n) % 2 ^ 64) (sym (at_drop_more (λ ys. count (spans_of ys)) xs i d l)) ∙ h

pub dimensions_next : (xs : List Dimension) (i : ℕ) (d : Dimension) (total all : ℕ) → i < length xs
    → (total * count (spans_declared (drop i xs))) % 2 ^ 64 ≡ all
    → ((total * (get_or xs i d).extent) % 2 ^ 64 * count (spans_declared (drop (i + 1) xs))) % 2 ^ 64 ≡ all
dimensions_next xs i d total all l h =
    multiplied total (get_or xs i d).extent (count (spans_declared (drop (i + 1) xs)))
    ∙ ap (λ n. (total * n) % 2 ^ 64) (sym (at_drop_more (λ ys. count (spans_declared ys)) xs i d l)) ∙ h

-- whether one of the cells is a dimension of too many subscripts

too_many_first : (x : c.Cell) (xs : List c.Cell) → too_many (extents (x ∷ xs)) ≡ (too_many (extents (x ∷ [])) || too_many (extents xs))
too_many_first (cell.Extent lower turns) xs = either (nat_lt (turns_of turns) (2 ^ 63)) (too_many (extents xs))
  where
    either : (b o : Bool) → (if b then o else true) ≡ ((if b then false else true) || o)
    either true o = refl
    either false o = refl
too_many_first x xs = refl

pub too_many_any : (xs : List c.Cell) → list_any (λ x. too_many (extents (x ∷ []))) xs ≡ too_many (extents xs)
too_many_any [] = refl
too_many_any (x ∷ xs) = ap (λ o. too_many (extents (x ∷ [])) || o) (too_many_any xs) ∙ sym (too_many_first x xs)
