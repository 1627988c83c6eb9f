-- Breaks of two phases, and rows that end.
use Rattle.std.proofs.Common.{◌≡◌, refl, List, [], ◌++◌, true, false, Option, None, Some, map, ap, ◌∙◌}
use Rattle.std.specs.Global.{Vec}
use Rattle.std.proofs.lemmas.Grind.{flat_map-append}
use Rattle.std.proofs.lemmas.List.Folds.{flat_map-map}
use Rattle.std.specs.List.{flat_map}
use Rattle.std.proofs.lemmas.List.{append-nil}
use Rattle.f3_rules.specs.declared.breaks.Break.{Break}
use Rattle.f3_rules.specs.declared.rule.Rule.TheVariants.{D6}
use Rattle.f3_rules.specs.Least.{earlier_of}
use Rattle.f3_tree.specs.declared.expression.Name.{Name}
use Rattle.f3_tree.specs.declared.expression.Expression.{Expression}
use Rattle.f3_tree.specs.declared.expression.Argument.{Argument}
use Rattle.f3_tree.specs.Expressions.{Parts, expression_view, designator_view}
use Rattle.f3_tree.specs.Expressions.{Tree, integer, truth, text, designator, group, array, signed, negation, comparison, chain}
use Rattle.f3_kinds.specs.declared.said.Role.{Role}
use Rattle.f3_kinds.specs.declared.said.Said.{Said}
use Rattle.f3_kinds.specs.declared.things.Intrinsic.{Intrinsic}
use Rattle.f3_kinds.specs.Things.{map_or, Context, Meaning, nothing, several, intrinsic, entity, constant, variable, derived, subroutine, function}
use Rattle.f3_kinds.specs.Rows.{at_name, unless}
use Rattle.f3_kinds.specs.Typing.{said, breaks, designator_at, designator_breaks}
use Rattle.f3_type_rules.specs.Statements.{item_rows, item_breaks}
use Rattle.f3_type_rules.specs.Definitions.{Site, called_impure, definition_rows}
use Rattle.f3_typed_parts.specs.Noted.{noted}
use Rattle.f3_typed_parts.proofs.Noting.{noted_more}
use Rattle.f3_references.proofs.Apart.{settled}
use Rattle.f3_acts.specs.Inner.Rows.{is_text, object_breaks, object_definition, item_row, is_pure_meaning}

pub noted_one : (a : Option Break) (xs : List Break) → noted a (xs ++ []) ≡ noted a xs
noted_one a xs = ap (noted a) (append-nil xs)

pub one_more : {X : Type 0} (xs ys : List X) → (xs ++ []) ++ ys ≡ xs ++ ys
one_more xs ys = ap (λ zs. zs ++ ys) (append-nil xs)

-- what was met apart comes behind
pub both_phases : (a b later : Option Break) (xs ys : List Break) → b ≡ noted a xs → later ≡ noted None ys → earlier_of b later ≡ noted a (xs ++ ys)
both_phases a b later xs ys e l = settled b later ys l ∙ ap (λ x. noted x ys) e ∙ noted_more a xs ys

-- an intrinsic procedure is pure
pub intrinsic_pure : (i : Option Intrinsic) → is_pure_meaning (map_or nothing intrinsic i) ≡ true
intrinsic_pure None = refl
intrinsic_pure (Some i) = refl

-- a CALL, by whether it is pure
pub impure_call : (n : Name) (m : Meaning) → unless (is_pure_meaning m) (at_name 7 D6 n) ≡ called_impure n m
impure_call n nothing = refl
impure_call n several = refl
impure_call n (intrinsic i) = refl
impure_call n (entity e (subroutine true ds)) = refl
impure_call n (entity e (subroutine false ds)) = refl
impure_call n (entity e (constant o)) = refl
impure_call n (entity e (variable o)) = refl
impure_call n (entity e (derived home ks f)) = refl
impure_call n (entity e (function pure ds o)) = refl

-- an item that is no character constant
pub item_other : (c : Context) (t : Tree) → is_text t ≡ false → item_breaks c t ≡ breaks c t ++ item_rows (said c t)
item_other c (text p k) e = cc
item_other c (integer p n) e = refl
item_other c (truth p b) e = refl
item_other c (designator ps) e = refl
item_other c (group p t) e = refl
item_other c (array p ts) e = refl
item_other c (signed p s t) e = refl
item_other c (negation p t) e = refl
item_other c (comparison t r u) e = refl
item_other c (chain t os) e = refl

pub item_text : (c : Context) (t : Tree) → is_text t ≡ true → item_breaks c t ≡ []
item_text c (text p k) e = refl
item_text c (integer p n) e = cc
item_text c (truth p b) e = cc
item_text c (designator ps) e = cc
item_text c (group p t) e = cc
item_text c (array p ts) e = cc
item_text c (signed p s t) e = cc
item_text c (negation p t) e = cc
item_text c (comparison t r u) e = cc
item_text c (chain t os) e = cc

-- the objects of ALLOCATE and DEALLOCATE, and the items of PRINT, in memory
pub objects_same : (c : Context) (u : Role) (vs : List (Vec (Name × Option (Vec Argument)))) → flat_map (designator_breaks c u) (map designator_view vs) ≡ flat_map (object_breaks c u) vs
objects_same c u vs = flat_map-map (designator_breaks c u) designator_view vs

pub objects_defined : (s : Site) (u : Role) (vs : List (Vec (Name × Option (Vec Argument)))) (others : List Said)
    → flat_map (definition_rows s) (map (designator_at (s.context) u) (map designator_view vs) ++ others) ≡ flat_map (object_definition s u) vs ++ flat_map (definition_rows s) others
objects_defined s u vs others =
    flat_map-append (definition_rows s) (map (designator_at (s.context) u) (map designator_view vs)) others
    ∙ ap (λ (bs : List Break). bs ++ flat_map (definition_rows s) others) (flat_map-map (definition_rows s) (designator_at (s.context) u) (map designator_view vs)
    ∙ flat_map-map (λ (v : Parts). definition_rows s (designator_at (s.context) u v)) designator_view vs)

pub items_same : (c : Context) (es : List Expression) → flat_map (item_breaks c) (map expression_view es) ≡ flat_map (item_row c) es
items_same c es = flat_map-map (item_breaks c) expression_view es
