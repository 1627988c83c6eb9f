-- Which types are destroyed, one after another.
use Rattle.std.proofs.Common.{◌≡◌, ℕ, zero, suc, ◌+◌, ◌<◌, ◌++◌, List, ◌∷◌, [], length, map, take, get_or, refl, sym, ap, subst, ◌∙◌, arith, Bool, false, not, ◌||◌, nat_eq, Some, slice_get}
use Rattle.std.specs.Prelude.{slice_index_or}
use Rattle.std.specs.List.{list_any}
use Rattle.std.proofs.lemmas.List.{take_more, length-append, length-take-le, map-append}
use Rattle.std.proofs.lemmas.Option.{slice_get_read}
use Rattle.f3_program.specs.declared.declarations.Base.{Base}
use Rattle.f3_program.specs.declared.declarations.Base.TheVariants as base
use Rattle.f3_program.specs.declared.declarations.Component.{Component}
use Rattle.f3_program.specs.declared.declarations.Derived.{Derived}
use Rattle.f3_meaning_whole.specs.Shape.{Shape, Whole, Record, parts_in, shape_in, shapes_from, shapes_of}
use Rattle.f3_meaning_whole.specs.Destroy.{are_destroyed, is_destroyed}
use Rattle.f3_gen_work.specs.Destroyed.{is_base_destroyed, is_component_destroyed}

shapes_more : (ss : List Shape) (ts : List Derived) (x : Derived)
    → shapes_from ss (ts ++ x ∷ []) ≡ shapes_from ss ts ++ Record (length (shapes_from ss ts)) (parts_in (shapes_from ss ts) x.components.items) ∷ []
shapes_more ss [] x = refl
shapes_more ss (t ∷ ts) x = shapes_more (ss ++ Record (length ss) (parts_in ss t.components.items) ∷ []) ts x

shapes_length : (ss : List Shape) (ts : List Derived) → length (shapes_from ss ts) ≡ length ss + length ts
shapes_length ss [] = omega arith
shapes_length ss (t ∷ ts) =
    let s : Shape = Record (length ss) (parts_in ss t.components.items) in
    omega (arith, shapes_length (ss ++ s ∷ []) ts, length-append ss (s ∷ []))

-- a table of types tells of each of them, and that there is no other
told_at : (f : Shape → Bool) (ss : List Shape) (t : ℕ) → f Whole ≡ false → slice_index_or (map f ss) t false ≡ f (slice_index_or ss t Whole)
told_at f [] t e = sym e
told_at f (s ∷ ss) zero e = refl
told_at f (s ∷ ss) (suc t) e = told_at f ss t e

base_told : (types : List Derived) (ss : List Shape) (of : Base) → is_base_destroyed (map (is_destroyed types) ss) of ≡ is_destroyed types (shape_in ss of)
base_told types ss base.Integer = refl
base_told types ss base.Long = refl
base_told types ss base.Logical = refl
base_told types ss (base.Derived t) = told_at (is_destroyed types) ss t refl

components_told : (types : List Derived) (ss : List Shape) (cs : List Component)
    → list_any (is_component_destroyed (map (is_destroyed types) ss)) cs ≡ are_destroyed types (parts_in ss cs)
components_told types ss [] = refl
components_told types ss (c ∷ cs) = rw (base_told types ss c.declared.kind.of, components_told types ss cs) refl

-- of the type of a number it is told by the types before it
pub next_told : (xs : List Derived) (i : ℕ) (x : Derived) (ys zs : List Bool) → i < length xs → x ≡ get_or xs i x → ys ≡ map (is_destroyed xs) (shapes_of (take i xs))
    → zs ≡ ys ++ (not (nat_eq (length x.finals.items) 0) || list_any (is_component_destroyed ys) x.components.items) ∷ []
    → zs ≡ map (is_destroyed xs) (shapes_of (take (i + 1) xs))
next_told xs i x ys zs lt at told made =
    let ss : List Shape = shapes_of (take i xs) in
    let s : Shape = Record (length ss) (parts_in ss x.components.items) in
    let n : length ss ≡ i = omega (arith, shapes_length [] (take i xs), length-take-le i xs (omega arith)) in
    let found : slice_get xs (length ss) ≡ Some x
    = slice_get_read xs (length xs) (length ss) x refl (omega arith) (subst (λ k. x ≡ get_or xs k x) (sym n) at) in
    let more : shapes_of (take (i + 1) xs) ≡ ss ++ s ∷ []
    = ap shapes_of (take_more xs i x lt ∙ ap (λ y. take i xs ++ y ∷ []) (sym at)) ∙ shapes_more [] (take i xs) x in
    let one : is_destroyed xs s ≡ not (nat_eq (length x.finals.items) 0) || list_any (is_component_destroyed (map (is_destroyed xs) ss)) x.components.items
    = rw (found, components_told xs ss x.components.items) refl in
    made ∙ ap (λ v. v ++ (not (nat_eq (length x.finals.items) 0) || list_any (is_component_destroyed v) x.components.items) ∷ []) told
    ∙ ap (λ y. map (is_destroyed xs) ss ++ y ∷ []) (sym one) ∙ sym (map-append (is_destroyed xs) ss (s ∷ [])) ∙ ap (map (is_destroyed xs)) (sym more)
