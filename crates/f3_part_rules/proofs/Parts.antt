-- The statements of a specification part.
use Rattle.std.proofs.Common.{◌≡◌, ℕ, ◌+◌, ◌<◌, ◌≤◌, ◌++◌, List, [], map, drop, get_or, length, Option, ap, sym, ◌∙◌, append_assoc}
use Rattle.std.specs.List.{flat_map}
use Rattle.std.proofs.lemmas.List.{at_drop_more, drop_all, length-append}
use Rattle.f3_rules.specs.declared.breaks.Break.{Break}
use Rattle.f3_tree.specs.declared.expression.Name.{Name}
use Rattle.f3_typed_parts.specs.Noted.{noted}
use Rattle.f3_typed_parts.proofs.Noting.{noted_more}
use Rattle.f3_access.specs.Tables.{lookup_of}
use Rattle.f3_type_rules.specs.Finals.{final_rank, final_rows}
use Rattle.f3_type_rules.specs.Members.{Member}
use Rattle.f3_type_rules.specs.Scene.{Scene}
use Rattle.f3_specifications.proofs.Shaping.{flat_map_map}
use Rattle.f3_entities.specs.declared.growth.Growth.{Growth}
use Rattle.f3_entities.specs.Growth.{Stands}
use Rattle.f3_type_rules.specs.Walks.{Known}

-- two rules, and then a third
pub then_noted : (f g h : Option Break) (a b c : List Break) → g ≡ noted f (a ++ b) → h ≡ noted g c → h ≡ noted f (a ++ (b ++ c))
then_noted f g h a b c p q =
    q ∙ ap (λ z. noted z c) p ∙ noted_more f (a ++ b) c ∙ ap (noted f) (append_assoc a b c)

-- what a name means, as the names of the program say
pub look_here : (s : Scene) (g : Growth) (k : Known) → Stands s g k → (s.names).look ≡ lookup_of g.known.tables.now
look_here s g k h = ap (λ (z : Scene). (z.names).look) h.scene

pub finals_here : (s : Scene) (scope t u : ℕ) (ms ns : List Member) (xs : List Name) → t ≡ u → ms ≡ ns
    → final_rows (final_rank s.names scope ns t) [] [] xs ≡ final_rows (final_rank s.names scope ms u) [] [] xs
finals_here s scope t u ms ns xs e m =
    ap (λ (z : ℕ). final_rows (final_rank s.names scope ns z) [] [] xs) e
    ∙ ap (λ (zs : List Member). final_rows (final_rank s.names scope zs u) [] [] xs) (sym m)

-- how many entities are declared behind an item
pub left_more : {X Y : Type 0} (f : X → List Y) (xs : List X) (i : ℕ) (x : X) → i < length xs → x ≡ get_or xs i x
    → length (flat_map f (drop i xs)) ≡ length (f x) + length (flat_map f (drop (i + 1) xs))
left_more f xs i x lt is =
    ap (λ ys. length ys) (at_drop_more (flat_map f) xs i x lt)
    ∙ length-append (f (get_or xs i x)) (flat_map f (drop (i + 1) xs))
    ∙ ap (λ y. length (f y) + length (flat_map f (drop (i + 1) xs))) (sym is)

pub left_none : {X Y : Type 0} (f : X → List Y) (xs : List X) (i : ℕ) → length xs ≤ i → length (flat_map f (drop i xs)) ≡ 0
left_none f xs i le = ap (λ ys. length (flat_map f ys)) (drop_all i xs le)

pub left_view : {X Y Z : Type 0} (f : Y → List Z) (g : X → Y) (xs : List X) → length (flat_map (λ x. f (g x)) xs) ≡ length (flat_map f (map g xs))
left_view f g xs = ap (λ ys. length ys) (flat_map_map f g xs)
