-- Elements of arrays, in memory and in the meaning.
use Rattle.std.proofs.Common.{get_or, append_assoc, ◌≡◌, ℕ, suc, ◌<◌, List, [], ◌∷◌, ◌++◌, length, refl, sym, ap, ◌∙◌, rules, arith, Vec, Box, Global, map, Some}
use Rattle.std.specs.Prelude.{slice_get}
use Rattle.f3_meaning_whole.specs.Value as m
use Rattle.f3_meaning_whole.specs.Value.{joined}
use Rattle.f3_meaning_whole.specs.Store.{Path, Element, within}
use Rattle.f3_meaning_whole.specs.Reference as r
use Rattle.f3_data.specs.declared.value.Span.{Span}
use Rattle.f3_data.specs.declared.value.Elements.{Elements}
use Rattle.f3_data.specs.declared.store.Step as t
use Rattle.f3_data.specs.declared.value.Value as v
use Rattle.f3_data.specs.Values.{value_of, values_of, row_of, spans_of}
use Rattle.f3_data.specs.declared.reference.Numbers.{Numbers}
use Rattle.f3_data.specs.declared.reference.Numbers.TheVariants as numbers
use Rattle.f3_data.specs.Stores.{step_of, steps_of}
use Rattle.f3_data.specs.References.{counted, numbers_of, element_path}
pub use Rattle.f3_data.proofs.Counted.{counted_length, counted_at, drop_at, got_at}

-- rows of values in memory
pub row_is : {n : _} (k : v.Row_of-Value n) → row_of k ≡ joined (values_of (v.items-the_row-Value n k))
row_is v.end_of-Value = refl
row_is (v.more_of-Value x rest) = ap (m.more (value_of x)) (row_is rest)

pub composite_is : (vs : Vec v.Value Global) → value_of (v.Composite vs) ≡ m.Composite (joined (values_of vs.items))
composite_is vs = search (rules, v.the_lemmas, row_is)

pub array_is : (b : Box Elements Global) → value_of (v.Array b) ≡ m.Array (spans_of b.value.spans.items) (joined (values_of b.value.values.items))
array_is b = search (rules, v.the_lemmas, row_is)

pub mapped_length : {A B : Type 0} (f : A → B) (xs : List A) → length (map f xs) ≡ length xs
mapped_length f [] = refl
mapped_length f (x ∷ xs) = ap suc (mapped_length f xs)

-- the elements of a whole array
pub elements_are : (i : ℕ) (p : Path) (vs : List v.Value) → map (element_path p []) (counted i (length vs)) ≡ r.elements_from i p (joined (values_of vs))
elements_are i p [] = refl
elements_are i p (x ∷ vs) = ap (λ ps. element_path p [] i ∷ ps) (elements_are (suc i) p vs)

pub whole_array : (p : Path) (b : Box Elements Global) → r.reach_of p (value_of (v.Array b)) ≡ r.Many (spans_of b.value.spans.items) (map (element_path p []) (counted 0 (length b.value.values.items)))
whole_array p b = ap (r.reach_of p) (array_is b) ∙ ap (r.Many (spans_of b.value.spans.items)) (sym (elements_are 0 p b.value.values.items))

-- the same of lists that are equal to those
pub whole_array_by : (p : Path) (value : v.Value) (b : Box Elements Global) (spans : List Span) (tail : List t.Step) (n : ℕ) → value ≡ v.Array b → spans ≡ b.value.spans.items → tail ≡ [] → n ≡ length b.value.values.items →
    r.Many (spans_of spans) (map (element_path p (steps_of tail)) (counted 0 n)) ≡ r.reach_of p (value_of value)
whole_array_by p value b spans tail n a s t l = rw (a, s, t, l) (sym (whole_array p b))

pub first_at : (ns : Numbers) (n k : ℕ) → ns ≡ numbers.First n → k < length (numbers_of ns) → slice_get (numbers_of ns) k ≡ Some k
first_at ns n k e h = ap (λ x. slice_get (numbers_of x) k) e ∙ counted_at n k (omega (arith, counted_length 0 n, ap (λ x. length (numbers_of x)) e))

pub listed_at : (ns : Numbers) (v : Vec ℕ Global) (k d : ℕ) → ns ≡ numbers.Listed v → d ≡ get_or v.items k d → k < length (numbers_of ns) → slice_get (numbers_of ns) k ≡ Some d
listed_at ns v k d e r h = ap (λ x. slice_get (numbers_of x) k) e ∙ got_at k v.items d (omega (arith, ap (λ x. length (numbers_of x)) e)) ∙ ap Some (sym r)

-- one more step in each
within_each : (p : Path) (tail : List t.Step) (k : t.Step) (n : ℕ) → element_path p (steps_of (tail ++ k ∷ [])) n ≡ within (element_path p (steps_of tail) n) (step_of k)
within_each p tail k n = ap (λ way. record { root = p.root; steps = way }) (ap (λ way. p.steps ++ Element n ∷ way) (steps_append tail (k ∷ [])) ∙ sym (append_assoc p.steps (Element n ∷ steps_of tail) (step_of k ∷ [])))
  where
    steps_append : (xs ys : List t.Step) → steps_of (xs ++ ys) ≡ steps_of xs ++ steps_of ys
    steps_append [] ys = refl
    steps_append (x ∷ xs) ys = ap (λ zs. step_of x ∷ zs) (steps_append xs ys)

pub all_within : (p : Path) (tail : List t.Step) (k : t.Step) (ns : List ℕ) → map (element_path p (steps_of (tail ++ k ∷ []))) ns ≡ map (λ q. within q (step_of k)) (map (element_path p (steps_of tail)) ns)
all_within p tail k [] = refl
all_within p tail k (n ∷ ns) = rw (within_each p tail k n) (ap (λ qs. within (element_path p (steps_of tail) n) (step_of k) ∷ qs) (all_within p tail k ns))
