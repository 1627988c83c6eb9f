-- Components and elements in memory.
use Rattle.std.proofs.Common.{◌≡◌, ℕ, zero, suc, ◌<◌, ◌≤◌, List, [], ◌∷◌, length, refl, sym, ap, ◌∙◌, rules, arith, Vec, Box, Global, get_or}
use Rattle.std.proofs.lemmas.List.{map-set}
use Rattle.std.specs.Prelude.{slice_index_or, slice_set}
use Rattle.f3_meaning_whole.specs.Value as m
use Rattle.f3_meaning_whole.specs.Value.{joined}
use Rattle.f3_meaning_whole.specs.Store.{Step, Element, part, part_at, with_part, with_part_at}
use Rattle.f3_data.specs.declared.value.Span.{Span}
use Rattle.f3_data.specs.declared.value.Elements.{Elements}
use Rattle.f3_data.specs.declared.value.Value as v
use Rattle.f3_data.specs.declared.store.Step as n
use Rattle.f3_data.specs.declared.store.Step.TheVariants as step
use Rattle.f3_data.specs.Stores.{step_of, steps_of, levels_of}
use Rattle.f3_data.specs.Values.{value_of, values_of, row_of, spans_of}

pub row_is : {n : _} (k : v.Row_of-Value n) → row_of k ≡ joined (values_of (v.items-the_row-Value n k))
row_is v.end_of-Value = refl
row_is (v.more_of-Value x rest) = ap (m.more (value_of x)) (row_is rest)

pub composite_is : (vs : Vec v.Value Global) → value_of (v.Composite vs) ≡ m.Composite (joined (values_of vs.items))
composite_is vs = search (rules, v.the_lemmas, row_is)

-- an array of the meaning with such bounds and elements
abbrev pub array_of : Elements → m.Value
array_of es = m.Array (spans_of es.spans.items) (joined (values_of es.values.items))

pub array_is : (b : Box Elements Global) → value_of (v.Array b) ≡ array_of b.value
array_is b = search (rules, v.the_lemmas, row_is)

-- nothing stands past the last
pub part_past : (vs : List v.Value) (i : ℕ) (way : List Step) → length vs ≤ i → part_at (joined (values_of vs)) i way ≡ m.Unallocated
part_past [] i way h = refl
part_past (x ∷ vs) zero way h = absurd (omega arith)
part_past (x ∷ vs) (suc i) way h = part_past vs i way (omega arith)

-- a part of one of them
pub part_within : (vs : List v.Value) (i : ℕ) (way : List Step) (d : v.Value) → i < length vs →
    part_at (joined (values_of vs)) i way ≡ part (value_of (get_or vs i d)) way
part_within [] i way d h = absurd (omega arith)
part_within (x ∷ vs) zero way d h = refl
part_within (x ∷ vs) (suc i) way d h = part_within vs i way d (omega arith)

-- the same of another value there
pub part_stands : (vs : List v.Value) (i : ℕ) (way : List Step) (x : v.Value) → i < length vs → x ≡ get_or vs i x →
    part_at (joined (values_of vs)) i way ≡ part (value_of x) way
part_stands vs i way x h e = part_within vs i way x h ∙ ap (λ y. part (value_of y) way) (sym e)

pub with_part_past : (vs : List v.Value) (i : ℕ) (way : List Step) (x : m.Value) → length vs ≤ i →
    with_part_at (joined (values_of vs)) i way x ≡ joined (values_of vs)
with_part_past [] i way x h = refl
with_part_past (y ∷ vs) zero way x h = absurd (omega arith)
with_part_past (y ∷ vs) (suc i) way x h = ap (m.more (value_of y)) (with_part_past vs i way x (omega arith))

pub with_part_within : (vs : List v.Value) (i : ℕ) (way : List Step) (x : m.Value) (d y : v.Value) → i < length vs →
    value_of y ≡ with_part (value_of (get_or vs i d)) way x →
    joined (values_of (slice_set vs i y)) ≡ with_part_at (joined (values_of vs)) i way x
with_part_within [] i way x d y h e = absurd (omega arith)
with_part_within (z ∷ vs) zero way x d y h e = ap (λ u. m.more u (joined (values_of vs))) e
with_part_within (z ∷ vs) (suc i) way x d y h e = ap (m.more (value_of z)) (with_part_within vs i way x d y (omega arith) e)

-- the same by what stands there
pub with_part_stands : (vs : List v.Value) (i : ℕ) (way : List Step) (x : m.Value) (d y : v.Value) → i < length vs → d ≡ get_or vs i d →
    value_of y ≡ with_part (value_of d) way x →
    joined (values_of (slice_set vs i y)) ≡ with_part_at (joined (values_of vs)) i way x
with_part_stands vs i way x d y h e f = with_part_within vs i way x d y h (f ∙ ap (λ u. with_part (value_of u) way x) e)

-- nothing changes where one takes what it is
pub set_kept : (vs : List v.Value) (i : ℕ) (d y : v.Value) → y ≡ d → d ≡ get_or vs i d → slice_set vs i y ≡ vs
set_kept [] i d y e f = refl
set_kept (x ∷ vs) zero d y e f = ap (λ u. u ∷ vs) (e ∙ f)
set_kept (x ∷ vs) (suc i) d y e f = ap (λ us. x ∷ us) (set_kept vs i d y e f)

-- values in which parts of one component or element are others
pub array_put : (b d : Box Elements Global) (k : ℕ) (s : n.Step) (rest steps : List n.Step) (x : m.Value) →
    s ≡ step.Element k → steps ≡ s ∷ rest → d.value.spans ≡ b.value.spans →
    joined (values_of d.value.values.items) ≡ with_part_at (joined (values_of b.value.values.items)) k (steps_of rest) x →
    value_of (v.Array d) ≡ with_part (value_of (v.Array b)) (steps_of steps) x
array_put b d k s rest steps x e f g h = array_is d ∙ ap (λ (ss : Vec Span Global). m.Array (spans_of ss.items) (joined (values_of d.value.values.items))) g
    ∙ ap (m.Array (spans_of b.value.spans.items)) h ∙ rw (f, e) (ap (λ u. with_part u (steps_of (step.Element k ∷ rest)) x) (sym (array_is b)))

-- one element is another
pub array_taken : (b d : Box Elements Global) (k : ℕ) (x : m.Value) → d.value.spans ≡ b.value.spans →
    joined (values_of d.value.values.items) ≡ with_part_at (joined (values_of b.value.values.items)) k [] x →
    value_of (v.Array d) ≡ with_part (value_of (v.Array b)) (Element k ∷ []) x
array_taken b d k x g h = array_is d ∙ ap (λ (ss : Vec Span Global). m.Array (spans_of ss.items) (joined (values_of d.value.values.items))) g
    ∙ ap (m.Array (spans_of b.value.spans.items)) h ∙ ap (λ u. with_part u (Element k ∷ []) x) (sym (array_is b))

-- steps that lead nowhere

composite_stays : (vs : Vec v.Value Global) (s : n.Step) (way : List Step) (x : m.Value) → ((k : ℕ) → s ≡ step.Component k → ⊥) →
    value_of (v.Composite vs) ≡ with_part (value_of (v.Composite vs)) (step_of s ∷ way) x
composite_stays vs (step.Component k) way x h = absurd (h k refl)
composite_stays vs (step.Element k) way x h = refl
composite_stays vs step.Contents way x h = refl

array_stays : (b : Box Elements Global) (s : n.Step) (way : List Step) (x : m.Value) → ((k : ℕ) → s ≡ step.Element k → ⊥) →
    value_of (v.Array b) ≡ with_part (value_of (v.Array b)) (step_of s ∷ way) x
array_stays b (step.Component k) way x h = refl
array_stays b (step.Element k) way x h = absurd (h k refl)
array_stays b step.Contents way x h = refl

pub composite_kept : (vs : Vec v.Value Global) (s : n.Step) (rest steps : List n.Step) (x : m.Value) → steps ≡ s ∷ rest → ((k : ℕ) → s ≡ step.Component k → ⊥) →
    value_of (v.Composite vs) ≡ with_part (value_of (v.Composite vs)) (steps_of steps) x
composite_kept vs s rest steps x e h = rw e (composite_stays vs s (steps_of rest) x h)

pub array_kept : (b : Box Elements Global) (s : n.Step) (rest steps : List n.Step) (x : m.Value) → steps ≡ s ∷ rest →
    ((k : ℕ) → s ≡ step.Element k → ⊥) →
    value_of (v.Array b) ≡ with_part (value_of (v.Array b)) (steps_of steps) x
array_kept b s rest steps x e h = rw e (array_stays b s (steps_of rest) x h)

-- objects in levels

pub object_past : (vs : List v.Value) (i : ℕ) → length vs ≤ i → slice_index_or (values_of vs) i m.Unallocated ≡ m.Unallocated
object_past [] i h = refl
object_past (x ∷ vs) zero h = absurd (omega arith)
object_past (x ∷ vs) (suc i) h = object_past vs i (omega arith)

pub object_within : (vs : List v.Value) (i : ℕ) (d : v.Value) → i < length vs → slice_index_or (values_of vs) i m.Unallocated ≡ value_of (get_or vs i d)
object_within [] i d h = absurd (omega arith)
object_within (x ∷ vs) zero d h = refl
object_within (x ∷ vs) (suc i) d h = object_within vs i d (omega arith)

pub object_stands : (vs : List v.Value) (i : ℕ) (x : v.Value) → i < length vs → x ≡ get_or vs i x → value_of x ≡ slice_index_or (values_of vs) i m.Unallocated
object_stands vs i x h e = ap value_of e ∙ sym (object_within vs i x h)

pub level_past : (vs : List (Vec v.Value Global)) (i : ℕ) → length vs ≤ i → slice_index_or (levels_of vs) i [] ≡ []
level_past [] i h = refl
level_past (x ∷ vs) zero h = absurd (omega arith)
level_past (x ∷ vs) (suc i) h = level_past vs i (omega arith)

pub level_within : (vs : List (Vec v.Value Global)) (i : ℕ) (d : Vec v.Value Global) → i < length vs →
    slice_index_or (levels_of vs) i [] ≡ values_of (get_or vs i d).items
level_within [] i d h = absurd (omega arith)
level_within (x ∷ vs) zero d h = refl
level_within (x ∷ vs) (suc i) d h = level_within vs i d (omega arith)

pub level_stands : (vs : List (Vec v.Value Global)) (i : ℕ) (x : Vec v.Value Global) → i < length vs → x ≡ get_or vs i x →
    values_of x.items ≡ slice_index_or (levels_of vs) i []
level_stands vs i x h e = ap (λ (u : Vec v.Value Global). values_of u.items) e ∙ sym (level_within vs i x h)

pub array_part : (x : v.Value) (b : Box Elements Global) (s : n.Step) (k : ℕ) (way : List Step) → x ≡ v.Array b → s ≡ step.Element k →
    part (value_of x) (step_of s ∷ way) ≡ part_at (joined (values_of b.value.values.items)) k way
array_part x b s k way e f = rw (e, f, array_is) refl

-- one object of a list is another

pub object_put : (vs : List v.Value) (i : ℕ) (steps : List Step) (x : m.Value) (d y : v.Value) → i < length vs → d ≡ get_or vs i d →
    value_of y ≡ with_part (value_of d) steps x →
    values_of (slice_set vs i y) ≡ slice_set (values_of vs) i (with_part (slice_index_or (values_of vs) i m.Unallocated) steps x)
object_put vs i steps x d y h e f = map-set value_of vs i y ∙ ap (slice_set (values_of vs) i) (f ∙ ap (λ u. with_part u steps x) (object_stands vs i d h e))

pub level_put : (vs : List (Vec v.Value Global)) (l i : ℕ) (steps : List Step) (x : m.Value) (d y : Vec v.Value Global) → l < length vs → d ≡ get_or vs l d →
    values_of y.items ≡ slice_set (values_of d.items) i (with_part (slice_index_or (values_of d.items) i m.Unallocated) steps x) →
    levels_of (slice_set vs l y) ≡ slice_set (levels_of vs) l (slice_set (slice_index_or (levels_of vs) l []) i (with_part (slice_index_or
    (slice_index_or (levels_of vs) l []) i m.Unallocated) steps x))
level_put vs l i steps x d y h e f = map-set (λ (u : Vec v.Value Global). values_of u.items) vs l y
    ∙ ap (slice_set (levels_of vs) l) (f ∙ ap (λ u. slice_set u i (with_part (slice_index_or u i m.Unallocated) steps x)) (level_stands vs l d h e))

-- a copy of an array
pub array_copied : (x : v.Value) (b : Box Elements Global) (y : m.Value) (ts : Vec Span Global) (ws : Vec v.Value Global) → x ≡ v.Array b →
    y ≡ m.Array (spans_of ts.items) (joined (values_of ws.items)) → ts.items ≡ b.value.spans.items → values_of ws.items ≡ values_of b.value.values.items →
    y ≡ value_of x
array_copied x b y ts ws e f g h = rw (e, f, array_is, g, h) refl

pub ruleset rows = (composite_is, array_is, part_past, part_stands, object_past, object_stands, level_past, level_stands)
