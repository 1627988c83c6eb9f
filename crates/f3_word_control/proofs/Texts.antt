-- What is written of words, one after another.
use Rattle.std.proofs.Common.{◌≡◌, ◌∙◌, ℕ, zero, suc, ◌+◌, ◌<◌, ℤ, List, [], ◌∷◌, ◌++◌, length, take, drop, refl, sym, ap, arith, append_assoc}
use Rattle.std.specs.Prelude.{flat_map, slice_index_or, OnErr, Result, Ok, Err}
use Rattle.std.proofs.lemmas.List.{append-nil}
use Rattle.f3_output.specs.Output.{State, Wrote, Faulted}
use Rattle.f3_output.proofs.Outputs.{faulted_before, faulted_behind, wrote_more}

module _ (f : ℤ → List ℕ) where
  more : (xs : List ℤ) (i : ℕ) (d : ℤ) → i < length xs → flat_map f (take i xs) ++ f (slice_index_or xs i d) ≡ flat_map f (take (suc i) xs)
  more [] i d h = absurd (omega (arith, h))
  more (x ∷ xs) zero d h = sym (append-nil (f x))
  more (x ∷ xs) (suc i) d h = append_assoc (f x) (flat_map f (take i xs)) (f (slice_index_or xs i d)) ∙ ap (λ ys. f x ++ ys) (more xs i d (omega (arith, h)))

  split : (xs : List ℤ) (i : ℕ) → flat_map f (take i xs) ++ flat_map f (drop i xs) ≡ flat_map f xs
  split xs zero = refl
  split [] (suc i) = refl
  split (x ∷ xs) (suc i) = append_assoc (f x) (flat_map f (take i xs)) (flat_map f (drop i xs)) ∙ ap (λ ys. f x ++ ys) (split xs i)

  -- one more word
  pub wrote_next : {a b c : State} (xs : List ℤ) (i : ℕ) (d : ℤ) (bytes : List ℕ) → i < length xs → bytes ≡ f (slice_index_or xs i d)
      → Wrote a b (flat_map f (take i xs)) → Wrote b c bytes → Wrote a c (flat_map f (take (i + 1) xs))
  wrote_next xs i d bytes h e w v =
      let g : i + 1 ≡ suc i = omega arith in
      rw (g, sym (more xs i d h), sym e) (wrote_more w v)

  -- or a front of it
  pub fault_next : {a b c : State} (xs : List ℤ) (i : ℕ) (d : ℤ) (bytes : List ℕ) → i < length xs → bytes ≡ f (slice_index_or xs i d)
      → Wrote a b (flat_map f (take i xs)) → Faulted b c bytes → Faulted a c (flat_map f xs)
  fault_next xs i d bytes h e w v =
      rw (sym (split xs (suc i)), sym (more xs i d h), sym e) (faulted_before (flat_map f (drop (suc i) xs)) (faulted_behind w v))

pub on_err : {E : Type 0} {P : Type 0} (r : Result (Unit {0}) E) → P → OnErr r P
on_err (Ok z) h = tt
on_err (Err z) h = h
