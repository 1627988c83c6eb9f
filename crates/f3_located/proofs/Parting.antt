-- Parts of objects, in memory and in the meaning.
use Rattle.std.proofs.Common.{◌≡◌, ℕ, false, List, [], ◌∷◌, ◌++◌, refl, sym, ap, ◌∙◌, Vec, Global, map}
use Rattle.f3_program.specs.declared.declarations.Base.{Base}
use Rattle.f3_meaning_whole.specs.declared.run_error.RunError.TheVariants.{NotAllocated}
use Rattle.f3_meaning_whole.specs.Value as v
use Rattle.f3_meaning_whole.specs.Value.{from_one, is_allocated}
use Rattle.f3_meaning_whole.specs.Store as s
use Rattle.f3_meaning_whole.specs.Store.{get, within}
use Rattle.f3_meaning_whole.specs.Reference as m
use Rattle.f3_meaning_whole.specs.Ran.{World, Outcome, Gives, Fails, ◌>>=◌, gives, fails, looks}
use Rattle.f3_meaning_whole.specs.Act.{Setting, Here, moved, opened, contents, component, component_type, component_path, component_reach}
use Rattle.f3_data.specs.declared.value.Span.{Span}
use Rattle.f3_data.specs.declared.store.Step as t
use Rattle.f3_data.specs.declared.store.Step.TheVariants as t'
use Rattle.f3_data.specs.declared.store.Path.{Path}
use Rattle.f3_data.specs.declared.reference.Made.{Made}
use Rattle.f3_data.specs.declared.reference.Maker.{Maker}
use Rattle.f3_data.specs.declared.reference.Reach.{Reach}
use Rattle.f3_data.specs.declared.reference.Reference.{Reference}
use Rattle.f3_data.specs.Values.{spans_of}
use Rattle.f3_data.specs.Stores.{steps_of, path_of}
use Rattle.f3_data.specs.References.{right_of, maker_of, made_of, element_path, reach_in, reference_of}
use Rattle.f3_located.proofs.Arrays.{all_within}

abbrev found : {A : Type 0} → A → World → Outcome A
found x w = record { out = []; end = Gives x w }

abbrev failed : {A : Type 0} → Here → Outcome A
failed here = record { out = []; end = Fails NotAllocated here.place }

-- what an allocatable holds
pub contents_many : (r : m.Reference) (ss : List v.Span) (ps : List s.Path) (here : Here) (w : World) → r.reach ≡ m.Many ss ps → (contents r here).from w ≡ failed here
unfolding fails
contents_many r ss ps here w e = rw e refl

contents_one : (r : m.Reference) (here : Here) (w : World) → r.reach ≡ m.One → (contents r here).from w ≡ (opened r (get w.store r.path) here).from w
unfolding ◌>>=◌ looks
contents_one r here w e = rw e (behind_none _)
  where
    behind_none : (o : Outcome m.Reference) → record { out = [] ++ o.out; end = o.end } ≡ o
    behind_none o = refl

opened_some : (r : m.Reference) (x : v.Value) (here : Here) (w : World) → (opened r (v.Allocated x) here).from w ≡ found (moved r (within r.path s.Contents) (m.reach_of (within r.path s.Contents) x)) w
unfolding gives
opened_some r x here w = refl

opened_none : (r : m.Reference) (x : v.Value) (here : Here) (w : World) → is_allocated x ≡ false → (opened r x here).from w ≡ failed here
unfolding fails
opened_none r (v.Number z) here w e = refl
opened_none r (v.Truth b) here w e = refl
opened_none r (v.Composite xs) here w e = refl
opened_none r (v.Array ss xs) here w e = refl
opened_none r v.Unallocated here w e = refl
opened_none r (v.Allocated x) here w e = cc

pub contents_some : (r : m.Reference) (x : v.Value) (here : Here) (w : World) (q : m.Reference) → r.reach ≡ m.One → get w.store r.path ≡ v.Allocated x →
    q ≡ moved r (within r.path s.Contents) (m.reach_of (within r.path s.Contents) x) → (contents r here).from w ≡ found q w
contents_some r x here w q e h i = contents_one r here w e ∙ ap (λ y. (opened r y here).from w) h ∙ opened_some r x here w ∙ ap (λ y. found y w) (sym i)

pub contents_none : (r : m.Reference) (here : Here) (w : World) → r.reach ≡ m.One → is_allocated (get w.store r.path) ≡ false → (contents r here).from w ≡ failed here
contents_none r here w e h = contents_one r here w e ∙ opened_none r (get w.store r.path) here w h

-- a component of each element
pub component_many : (p : s.Path) (ss ss' : List Span) (tail tail' : List t.Step) (ns : List ℕ) (k : ℕ) (at : s.Path) (store : s.Store) → spans_of ss' ≡ from_one (spans_of ss) → tail' ≡ tail ++ t'.Component k ∷ [] →
    m.Many (spans_of ss') (map (element_path p (steps_of tail')) ns) ≡ component_reach (m.Many (spans_of ss) (map (element_path p (steps_of tail)) ns)) at k store
component_many p ss ss' tail tail' ns k at store e i = rw (e, i, all_within p tail (t'.Component k) ns) refl

makers_append : (xs ys : List Made) → map made_of (xs ++ ys) ≡ map made_of xs ++ map made_of ys
makers_append [] ys = refl
makers_append (x ∷ xs) ys = ap (λ zs. made_of x ∷ zs) (makers_append xs ys)

-- a component
pub component_made : (g : Setting) (old : Reference) (k : ℕ) (maker : Maker) (w : World) (path : Path) (reach : Reach) (of : Base) (makers : Vec Made Global) →
    path_of path ≡ component_path (reach_in (path_of old.path) old.reach) (path_of old.path) k →
    reach_in (path_of path) reach ≡ component_reach (reach_in (path_of old.path) old.reach) (path_of old.path) k w.store →
    of ≡ component_type g.program.types.items old.of k →
    makers.items ≡ old.makers.items ++ record { of = old.of; component = k; maker = maker } ∷ [] →
    (component g k (maker_of maker) (reference_of old)).from w
    ≡ found (reference_of (record { path = path; reach = reach; of = of; right = old.right; origin = old.origin; makers = makers })) w
unfolding looks
component_made g old k maker w path reach of makers a b c d = ap (λ q. found q w) (same _ _ _ _ _ _ _ _ (sym a) (sym b) (sym c) (sym (ap (map made_of) d ∙ makers_append old.makers.items _)))
  where
    same : (p q : s.Path) (x y : m.Reach) (t u : Base) (xs ys : List m.Made) → p ≡ q → x ≡ y → t ≡ u → xs ≡ ys →
        ◌≡◌ {A = m.Reference} (record { path = p; reach = x; of = t; right = right_of old.right; origin = old.origin; makers = xs }) (record { path = q; reach = y; of = u; right = right_of old.right; origin = old.origin; makers = ys })
    same p q x y t u xs ys a b c d = cc
