-- Walks along specification parts and along units.
use Rattle.std.proofs.Common.{◌≡◌, ℕ, ◌+◌, ◌<◌, ◌≤◌, List, [], ◌∷◌, ◌++◌, map, length, drop, get_or, Option, None, Some, slice_get, append_assoc, refl, ap, sym, ◌∙◌, arith}
use Rattle.std.specs.List.{flat_map}
use Rattle.std.proofs.lemmas.List.{at_drop_more, at_drop_all, append-nil, length-append, map-append}
use Rattle.std.proofs.lemmas.Grind.{flat_map-append}
use Rattle.f3_scopes.specs.Scopes.{declared_in}
use Rattle.f3_graph.specs.declared.UnitId.{UnitId}
use Rattle.f3_tree.specs.declared.declaration.Specification.{Specification}
use Rattle.f3_tree.specs.Declarations.{specification_view}
use Rattle.f3_kinds.specs.Things.{map_or}
use Rattle.f3_type_rules.specs.Members.{Numbered}
use Rattle.f3_type_rules.specs.Program.{units_in}
use Rattle.f3_elaboration.specs.Declarations.{Whole, derived}
use Rattle.f3_elaboration.specs.Nodes.{DerivedNode}
use Rattle.f3_elaboration.specs.Numbers.{along_part, types_in, definitions}
use Rattle.f3_type_nodes.specs.Inner.Units.{definitions_at}

-- ---- the types of a specification part, where this entity is its first

abbrev pub rest_of : Whole → Numbered → (entity : ℕ) → List Specification → List DerivedNode
rest_of w u e xs = map (derived w) (along_part (types_in u) e (map specification_view xs))

abbrev declared_by : Specification → ℕ
declared_by x = length (declared_in (specification_view x))

-- one statement more
pub part_more : (w : Whole) (u : Numbered) (xs : List Specification) (i : ℕ) (x : Specification) (e e' : ℕ) (before after whole : List DerivedNode)
    → i < length xs → x ≡ get_or xs i x → e' ≡ e + declared_by x → after ≡ before ++ map (derived w) (types_in u e (specification_view x))
    → before ++ rest_of w u e (drop i xs) ≡ whole → after ++ rest_of w u e' (drop (i + 1) xs) ≡ whole
part_more w u xs i x e e' before after whole lt is next made h =
    let y : Specification = get_or xs i x in
    let rest : List Specification = drop (i + 1) xs in
    let here : List DerivedNode = map (derived w) (types_in u e (specification_view y)) in
    ap (λ (n : ℕ). after ++ rest_of w u n rest) (next ∙ ap (λ (z : Specification). e + declared_by z) is)
    ∙ ap (λ (zs : List DerivedNode). zs ++ rest_of w u (e + declared_by y) rest)
    (made ∙ ap (λ (z : Specification). before ++ map (derived w) (types_in u e (specification_view z))) is)
    ∙ append_assoc before here (rest_of w u (e + declared_by y) rest)
    ∙ ap (λ (zs : List DerivedNode). before ++ zs)
    (sym (at_drop_more (rest_of w u e) xs i x lt
    ∙ map-append (derived w) (types_in u e (specification_view y)) (along_part (types_in u) (e + declared_by y) (map specification_view rest))))
    ∙ h

-- and its entities
pub next_more : (xs : List Specification) (i : ℕ) (x : Specification) (e e' whole : ℕ) → i < length xs → x ≡ get_or xs i x → e' ≡ e + declared_by x
    → e + length (flat_map declared_in (map specification_view (drop i xs))) ≡ whole
    → e' + length (flat_map declared_in (map specification_view (drop (i + 1) xs))) ≡ whole
next_more xs i x e e' whole lt is next h =
    let y : Specification = get_or xs i x in
    let opened = at_drop_more (λ (ys : List Specification). length (flat_map declared_in (map specification_view ys))) xs i x lt in
    let both = length-append (declared_in (specification_view y)) (flat_map declared_in (map specification_view (drop (i + 1) xs))) in
    let same = ap declared_by is in
    omega (arith, next, h, opened, both, same)

pub part_done : (w : Whole) (u : Numbered) (xs : List Specification) (i : ℕ) (e : ℕ) (now whole : List DerivedNode)
    → length xs ≤ i → now ++ rest_of w u e (drop i xs) ≡ whole → now ≡ whole
part_done w u xs i e now whole le h =
    sym (append-nil now) ∙ ap (λ (zs : List DerivedNode). now ++ zs) (sym (at_drop_all (rest_of w u e) xs i le)) ∙ h

-- ---- the types of units

abbrev pub types_of : Whole → List Numbered → List UnitId → List DerivedNode
types_of w units xs = map (derived w) (flat_map definitions (units_in units (map (λ (x : UnitId). x.number) xs)))

abbrev pub types_at : Whole → List Numbered → UnitId → List DerivedNode
types_at w units x = map (derived w) (definitions_at units x.number)

-- of the unit of this number, where there is one
pub one_at : (o : Option Numbered) → flat_map definitions (map_or [] (λ (u : Numbered). u ∷ []) o) ≡ map_or [] definitions o
one_at None = refl
one_at (Some u) = append-nil (definitions u)

pub types_more : (w : Whole) (units : List Numbered) (x : UnitId) (xs : List UnitId) → types_of w units (x ∷ xs) ≡ types_at w units x ++ types_of w units xs
types_more w units x xs =
    let here : List Numbered = map_or [] (λ (u : Numbered). u ∷ []) (slice_get units x.number) in
    let rest : List Numbered = units_in units (map (λ (y : UnitId). y.number) xs) in
    ap (map (derived w)) (flat_map-append definitions here rest ∙ ap (λ zs. zs ++ flat_map definitions rest) (one_at (slice_get units x.number)))
    ∙ map-append (derived w) (definitions_at units x.number) (flat_map definitions rest)

pub units_done : (w : Whole) (units : List Numbered) (xs : List UnitId) (i : ℕ) (now whole : List DerivedNode)
    → length xs ≤ i → now ++ types_of w units (drop i xs) ≡ whole → now ≡ whole
units_done w units xs i now whole le h =
    sym (append-nil now) ∙ ap (λ (zs : List DerivedNode). now ++ zs) (sym (at_drop_all (types_of w units) xs i le)) ∙ h

-- one unit more
pub units_more : (w : Whole) (units : List Numbered) (xs : List UnitId) (i : ℕ) (d : UnitId) (before after whole : List DerivedNode)
    → i < length xs → after ≡ before ++ types_at w units (get_or xs i d)
    → before ++ types_of w units (drop i xs) ≡ whole → after ++ types_of w units (drop (i + 1) xs) ≡ whole
units_more w units xs i d before after whole lt made h =
    let rest : List UnitId = drop (i + 1) xs in
    ap (λ (zs : List DerivedNode). zs ++ types_of w units rest) made
    ∙ append_assoc before (types_at w units (get_or xs i d)) (types_of w units rest)
    ∙ ap (λ (zs : List DerivedNode). before ++ zs) (sym (at_drop_more (types_of w units) xs i d lt ∙ types_more w units (get_or xs i d) rest))
    ∙ h
