-- The view of each variant.
use Rattle.std.proofs.Common.{◌≡◌, ℕ, Bool, List, [], ◌∷◌, map, Option, Some, None, rules, refl, ap, ◌∙◌}
use Rattle.std.specs.Option.{option_map}
use Rattle.std.specs.Global.{Box, Vec}
use Rattle.f3_places.specs.declared.source.Place.{Place}
use Rattle.f3_tree.specs.declared.expression.Name.{Name}
use Rattle.f3_tree.specs.declared.expression.IntegerLiteral.{IntegerLiteral}
use Rattle.f3_tree.specs.declared.expression.Sign.{Sign}
use Rattle.f3_tree.specs.declared.expression.Relation.{Relation}
use Rattle.f3_tree.specs.declared.expression.Operator.{Operator}
use Rattle.f3_tree.specs.declared.expression.Expression.{Expression, Integer, Truth, Text, Designator, Group, Array, Signed, Not, Comparison, Chain, the_lemmas}
use Rattle.f3_tree.specs.declared.expression.Argument.{Argument, Value, Triplet}
use Rattle.f3_tree.specs.declared.expression.Argument.TheShapes.{former-Expression-Designator-0-at-4}
use Rattle.f3_tree.specs.Expressions.{integer, truth, text, designator, group, array, signed, negation, comparison, chain, rest_of, trees_of, value, triplet, perhaps_of, ArgumentTree, Behind, Parts, parts, behind_of, behind_list, parts_of, parts_list, part_view, expression_view, argument_view, designator_view}

pub view_integer : (p : Place) (n : IntegerLiteral) → expression_view (Integer p n) ≡ integer p n
view_integer p n = search (rules, the_lemmas)

pub view_truth : (p : Place) (b : Bool) → expression_view (Truth p b) ≡ truth p b
view_truth p b = search (rules, the_lemmas)

pub view_text : (p : Place) (k : ℕ) → expression_view (Text p k) ≡ text p k
view_text p k = search (rules, the_lemmas)

pub view_group : (p : Place) (b : Box Expression) → expression_view (Group p b) ≡ group p (expression_view b.value)
view_group p b = search (rules, the_lemmas)

pub view_array : (p : Place) (v : Vec Expression) → expression_view (Array p v) ≡ array p (trees_of (map expression_view v.items))
view_array p v = search (rules, the_lemmas)

pub view_signed : (p : Place) (s : Sign) (b : Box Expression) → expression_view (Signed p s b) ≡ signed p s (expression_view b.value)
view_signed p s b = search (rules, the_lemmas)

pub view_not : (p : Place) (b : Box Expression) → expression_view (Not p b) ≡ negation p (expression_view b.value)
view_not p b = search (rules, the_lemmas)

pub view_comparison : (a : Box Expression) (r : Relation) (b : Box Expression) → expression_view (Comparison a r b) ≡ comparison (expression_view a.value) r (expression_view b.value)
view_comparison a r b = search (rules, the_lemmas)

pub view_chain : (b : Box Expression) (v : Vec (Operator × Expression)) → expression_view (Chain b v) ≡ chain (expression_view b.value) (rest_of (map (λ x. (x.0, expression_view x.1)) v.items))
view_chain b v = search (rules, the_lemmas)

-- what a fold makes of a part is its view
abbrev folded : Name × Option (Vec Argument) → Name × Option (Vec ArgumentTree)
folded = former-Expression-Designator-0-at-4.map Argument ArgumentTree argument_view

behind_same : (n : Name) (b : Option (Vec Argument)) → behind_of (folded (n, b)).1 ≡ behind_list (part_view (n, b)).1
behind_same n None = refl
behind_same n (Some v) = refl

parts_same : (xs : List (Name × Option (Vec Argument))) → parts_of (map folded xs) ≡ parts_list (map part_view xs)
parts_same [] = refl
parts_same (x ∷ xs) =
    ap (λ (b : Behind). parts x.0 b (parts_of (map folded xs))) (behind_same x.0 x.1) ∙ ap (λ (ps : Parts). parts x.0 (behind_list (part_view x).1) ps) (parts_same xs)

pub view_designator : (v : Vec (Name × Option (Vec Argument))) → expression_view (Designator v) ≡ designator (designator_view v)
view_designator v = simp the_lemmas (ap (λ (ps : Parts). designator ps) (parts_same v.items))

pub view_value : (n : Option Name) (e : Expression) → argument_view (Value n e) ≡ value n (expression_view e)
view_value n e = search (rules, the_lemmas)

pub view_triplet : (p : Place) (a b c : Option Expression) → argument_view (Triplet p a b c) ≡ triplet p (perhaps_of (option_map expression_view a)) (perhaps_of (option_map expression_view b)) (perhaps_of (option_map expression_view c))
view_triplet p a b c = search (rules, the_lemmas)
