-- From one element of an array to another.
use Rattle.std.proofs.Common.{◌≡◌, ℕ, zero, suc, List, [], ◌∷◌, ◌++◌, length, refl, sym, ap, ◌∙◌}
use Rattle.std.specs.Prelude.{slice_set}
use Rattle.std.specs.Vec.{with_item}
use Rattle.f3_meaning_whole.specs.Store as s
use Rattle.f3_data.specs.declared.store.Step as t
use Rattle.f3_data.specs.declared.store.Step.TheVariants as step
use Rattle.f3_data.specs.declared.store.Path.{Path}
use Rattle.f3_data.specs.Stores.{root_of, step_of, steps_of, path_of}
use Rattle.f3_data.specs.References.{element_path}
use Rattle.f3_located.proofs.Arrays.{mapped_length}

steps_set : (xs : List t.Step) (i : ℕ) (x : t.Step) → steps_of (slice_set xs i x) ≡ slice_set (steps_of xs) i (step_of x)
steps_set [] i x = refl
steps_set (y ∷ xs) zero x = refl
steps_set (y ∷ xs) (suc i) x = ap (λ ys. step_of y ∷ ys) (steps_set xs i x)

set_behind : (xs : List s.Step) (x y : s.Step) (tail : List s.Step) → slice_set (xs ++ x ∷ tail) (length xs) y ≡ xs ++ y ∷ tail
set_behind [] x y tail = refl
set_behind (z ∷ xs) x y tail = ap (λ ys. z ∷ ys) (set_behind xs x y tail)

-- the step to the element is another one
pub moved : (old array : Path) (tail : List s.Step) (n m i : ℕ) → i ≡ length array.steps.items → path_of old ≡ element_path (path_of array) tail n →
    path_of record { root = old.root; steps = with_item old.steps i (step.Element m) } ≡ element_path (path_of array) tail m
moved old array tail n m i e h =
    ap (λ root. record { root = root; steps = steps_of (slice_set old.steps.items i (step.Element m)) }) (ap (λ p. p.root) h)
    ∙ ap (λ way. record { root = root_of array.root; steps = way })
    (ap (λ k. steps_of (slice_set old.steps.items k (step.Element m))) (e ∙ sym (mapped_length step_of array.steps.items))
    ∙ steps_set old.steps.items (length (steps_of array.steps.items)) (step.Element m)
    ∙ ap (λ way. slice_set way (length (steps_of array.steps.items)) (s.Element m)) (ap (λ p. p.steps) h)
    ∙ set_behind (steps_of array.steps.items) (s.Element n) (s.Element m) tail)
