-- Bounds that are changed one by one.
use Rattle.std.proofs.Common.{◌≡◌, ℕ, zero, suc, ◌+◌, add-one, ◌<◌, ◌≤◌, pos, List, []}
use Rattle.std.proofs.Common.{◌∷◌, ◌++◌, length, map, take, drop, refl, ap, ◌∙◌, arith, get_or}
use Rattle.std.specs.Prelude.{slice_set, nat_eq, if◌then◌else◌}
use Rattle.f3_meaning_whole.specs.Value.{from_one, shown}
use Rattle.f3_data.specs.declared.value.Span.{Span}
use Rattle.f3_data.specs.Values.{spans_of}

-- the front is changed, and the rest as it was
abbrev pub changed : (Span → Span) → ℕ → List Span → List Span
changed g i xs = map g (take i xs) ++ drop i xs

pub changed_next : (g : Span → Span) (xs : List Span) (i : ℕ) (x y : Span) → i < length xs → x ≡ get_or (changed g i xs) i x → y ≡ g x →
    slice_set (changed g i xs) i y ≡ changed g (suc i) xs
changed_next g [] i x y h e f = absurd (omega arith)
changed_next g (z ∷ xs) zero x y h e f = ap (λ u. u ∷ xs) (f ∙ ap g e)
changed_next g (z ∷ xs) (suc i) x y h e f = ap (λ us. g z ∷ us) (changed_next g xs i x y (omega arith) e f)

changed_length : (g : Span → Span) (xs : List Span) (i : ℕ) → i < length xs → i < length (changed g i xs)
changed_length g [] i h = absurd (omega arith)
changed_length g (x ∷ xs) zero h = omega arith
changed_length g (x ∷ xs) (suc i) h = let k : i < length (changed g i xs) = changed_length g xs i (omega arith) in omega arith

get_or-same : (xs : List Span) (i : ℕ) (d : Span) → i < length xs → get_or xs i d ≡ get_or xs i (get_or xs i d)
get_or-same [] i d h = absurd (omega arith)
get_or-same (x ∷ xs) zero d h = refl
get_or-same (x ∷ xs) (suc i) d h = get_or-same xs i d (omega arith)

pub changed_all : (g : Span → Span) (xs : List Span) (i : ℕ) → length xs ≤ i → changed g i xs ≡ map g xs
changed_all g [] zero h = refl
changed_all g [] (suc i) h = refl
changed_all g (x ∷ xs) zero h = absurd (omega arith)
changed_all g (x ∷ xs) (suc i) h = ap (λ us. g x ∷ us) (changed_all g xs i (omega arith))

abbrev pub first_one : Span → Span
first_one s = record { lower = pos 1; extent = s.extent }

abbrev pub shown_one : Span → Span
shown_one s = record { lower = if nat_eq s.extent 0 then pos 1 else s.lower; extent = s.extent }

pub first_ones : (xs : List Span) → spans_of (map first_one xs) ≡ from_one (spans_of xs)
first_ones [] = refl
first_ones (x ∷ xs) = ap (λ us. record { lower = pos 1; extent = x.extent } ∷ us) (first_ones xs)

pub shown_ones : (xs : List Span) → spans_of (map shown_one xs) ≡ shown (spans_of xs)
shown_ones [] = refl
shown_ones (x ∷ xs) = ap (λ us. record { lower = if nat_eq x.extent 0 then pos 1 else x.lower; extent = x.extent } ∷ us) (shown_ones xs)

pub changed_at : (g : Span → Span) (xs ys : List Span) (i : ℕ) (d y : Span) → ys ≡ changed g i xs → i < length xs → y ≡ g (get_or ys i d) →
    slice_set ys i y ≡ changed g (i + 1) xs
changed_at g xs ys i d y e h f = rw (e, add-one) (changed_next g xs i (get_or (changed g i xs) i d) y h (get_or-same (changed g i xs) i d
    (changed_length g xs i h)) (f ∙ ap (λ us. g (get_or us i d)) e))
