-- The first of the selected elements.
use Rattle.std.proofs.Common.{◌≡◌, ℕ, ◌+◌, ◌*◌, ◌<◌, ℤ, Bool, true, false, List, [], ◌∷◌, ◌++◌, refl, sym, ap, ◌∙◌, map, Option, None, Some, ◌&&◌}
use Rattle.f3_meaning_whole.specs.Store as s
use Rattle.f3_meaning_whole.specs.Store.{Path, within}
use Rattle.f3_data.specs.declared.store.Step as t
use Rattle.f3_data.specs.declared.store.Step.TheVariants as t'
use Rattle.f3_data.specs.Stores.{steps_of}
use Rattle.f3_data.specs.References.{element_path}
use Rattle.f3_located.proofs.Arrays.{all_within}
use Rattle.std.specs.Prelude.{unwrap_or, slice_index_or, slice_get, ◌-ℤ◌, int_le, int_lt, nat_abs}
use Rattle.std.specs.List.{flat_map}
use Rattle.f3_meaning_whole.specs.Value.{Span}
use Rattle.f3_meaning_whole.specs.Act.{Chosen, all_inside, end_of, is_inside, places_in, subscripts_in}
use Rattle.f3_object_steps.specs.declared.subscripts.Walk.{Walk}
use Rattle.f3_object_steps.specs.Walks.{subscripts_of}
use Rattle.f3_object_steps.specs.Selections.{rows_of}
use Rattle.f3_object_steps.proofs.Stepping.{stepped_more, outside, none_left}

-- a row without subscripts
pub row_none : (s : Span) (c : Chosen) (row : ℕ) (w : Walk) → subscripts_of w ≡ subscripts_in s c → w.left ≡ 0 → None ≡ slice_get (rows_of s c row) 0
row_none s c row w e h = sym (ap (λ zs. slice_get (map (λ z. nat_abs (z -ℤ s.lower) + s.extent * row) zs) 0) (sym e ∙ none_left w h))

-- the first of a row
pub row_some : (s : Span) (c : Chosen) (row place offset : ℕ) (w : Walk) → subscripts_of w ≡ subscripts_in s c → 0 < w.left → offset ≡ nat_abs (w.next -ℤ s.lower) → place ≡ offset + s.extent * row →
    Some place ≡ slice_get (rows_of s c row) 0
row_some s c row place offset w e h o p = ap Some (p ∙ ap (λ x. x + s.extent * row) o)
    ∙ sym (ap (λ zs. slice_get (map (λ z. nat_abs (z -ℤ s.lower) + s.extent * row) zs) 0) (sym e ∙ stepped_more w.left w.next w.step h))

-- the first is inside
pub row_outside : (s : Span) (c : Chosen) (row : ℕ) (w : Walk) → subscripts_of w ≡ subscripts_in s c → 0 < w.left → is_inside s (subscripts_in s c) ≡ true →
    (int_le s.lower w.next && int_lt w.next (end_of s)) ≡ false → None ≡ slice_get (rows_of s c row) 0
row_outside s c row w e h i t = absurd (differ (is_inside s (subscripts_of w)) (outside s w h t) (ap (is_inside s) e ∙ i))
  where
    differ : (b : Bool) → b ≡ false → b ≡ true → ⊥
    differ b f t = cc

-- of rows, the first
both_first : (a b : Bool) → (a && b) ≡ true → a ≡ true
both_first true b h = refl
both_first false b h = cc

both_second : (a b : Bool) → (a && b) ≡ true → b ≡ true
both_second true b h = h
both_second false b h = cc

pub inside_first : (s : Span) (c : Chosen) (ss : List Span) (cs : List Chosen) → all_inside (s ∷ ss) (c ∷ cs) ≡ true → is_inside s (subscripts_in s c) ≡ true
inside_first s c ss cs h = both_first (is_inside s (subscripts_in s c)) (all_inside ss cs) h

pub inside_behind : (s : Span) (c : Chosen) (ss : List Span) (cs : List Chosen) → all_inside (s ∷ ss) (c ∷ cs) ≡ true → all_inside ss cs ≡ true
inside_behind s c ss cs h = both_second (is_inside s (subscripts_in s c)) (all_inside ss cs) h

first_none : (ks : List ℕ) → None ≡ slice_get ks 0 → ks ≡ []
first_none [] h = refl
first_none (k ∷ ks) h = cc

pub no_rows : (s : Span) (c : Chosen) (ss : List Span) (cs : List Chosen) → None ≡ slice_get (places_in ss cs) 0 → None ≡ slice_get (places_in (s ∷ ss) (c ∷ cs)) 0
no_rows s c ss cs h = sym (ap (λ ks. slice_get (flat_map (rows_of s c) ks) 0) (first_none (places_in ss cs) h))

empty_rows : (s : Span) (zs : List ℤ) (ks : List ℕ) → zs ≡ [] → flat_map (λ k. map (λ z. nat_abs (z -ℤ s.lower) + s.extent * k) zs) ks ≡ []
empty_rows s [] [] e = refl
empty_rows s [] (k ∷ ks) e = empty_rows s [] ks e
empty_rows s (z ∷ zs) ks e = cc

rows_first : (s : Span) (zs : List ℤ) (ks : List ℕ) (row : ℕ) (o : Option ℕ) → Some row ≡ slice_get ks 0 → o ≡ slice_get (map (λ z. nat_abs (z -ℤ s.lower) + s.extent * row) zs) 0 →
    o ≡ slice_get (flat_map (λ k. map (λ z. nat_abs (z -ℤ s.lower) + s.extent * k) zs) ks) 0
rows_first s zs [] row o h e = cc
rows_first s [] (k ∷ ks) row o h e = e ∙ sym (ap (λ xs. slice_get xs 0) (empty_rows s [] (k ∷ ks) refl))
rows_first s (z ∷ zs) (k ∷ ks) row o h e = let same : row ≡ k = cc in e ∙ ap (λ j. Some (nat_abs (z -ℤ s.lower) + s.extent * j)) same

pub first_row : (s : Span) (c : Chosen) (ss : List Span) (cs : List Chosen) (row : ℕ) (o : Option ℕ) → Some row ≡ slice_get (places_in ss cs) 0 → o ≡ slice_get (rows_of s c row) 0 →
    o ≡ slice_get (places_in (s ∷ ss) (c ∷ cs)) 0
first_row s c ss cs row o h e = rows_first s (subscripts_in s c) (places_in ss cs) row o h e

-- the first, or 0
pub first_or : (ks : List ℕ) (o : Option ℕ) → o ≡ slice_get ks 0 → unwrap_or o 0 ≡ slice_index_or ks 0 0
first_or [] o h = ap (λ x. unwrap_or x 0) h
first_or (k ∷ ks) o h = ap (λ x. unwrap_or x 0) h

pub first_found : (ks : List ℕ) (k : ℕ) → Some k ≡ slice_get ks 0 → k ≡ slice_index_or ks 0 0
first_found ks k h = first_or ks (Some k) h

pub first_missing : (ks : List ℕ) → None ≡ slice_get ks 0 → 0 ≡ slice_index_or ks 0 0
first_missing ks h = first_or ks None h

-- one more element in each
pub all_elements : (p : Path) (tail : List t.Step) (k : ℕ) (ns : List ℕ) → map (element_path p (steps_of (tail ++ t'.Element k ∷ []))) ns ≡ map (λ q. within q (s.Element k)) (map (element_path p (steps_of tail)) ns)
all_elements p tail k ns = all_within p tail (t'.Element k) ns
