-- Lists in memory, and lists of a tree.
use Rattle.std.proofs.Common.{◌≡◌, List, [], ◌∷◌, map, Option, refl, ap, sym, ◌∙◌, if◌then◌else◌}
use Rattle.std.specs.Global.{Vec}
use Rattle.f3_tree.specs.declared.expression.Argument as a
use Rattle.f3_tree.specs.declared.expression.Expression.{Expression}
use Rattle.f3_tree.specs.declared.expression.IntegerKind.{IntegerKind}
use Rattle.f3_tree.specs.declared.expression.Name.{Name}
use Rattle.f3_tree.specs.declared.expression.Operator.{Operator}
use Rattle.f3_tree.specs.Expressions as t
use Rattle.f3_kinds.specs.declared.types.DataType.{DataType}
use Rattle.f3_kinds.specs.Operands.{kind_of}
use Rattle.f3_kinds.specs.Typing.{said}
use Rattle.f3_program.specs.declared.expression.Argument.{Argument}
use Rattle.f3_program.specs.declared.expression.Expression.{Array}
use Rattle.f3_elaboration.specs.Context.{Surroundings}
use Rattle.f3_elaboration.specs.Expressions as e
use Rattle.f3_elaboration.specs.Nodes.{ExpressionNode, ArgumentNode, ArgumentNodes, arguments, array}
use Rattle.f3_elaboration.specs.Views.{argument_view, arguments_of, expression_view}
use Rattle.f3_elaboration.proofs.Views.{view_array}
use Rattle.f3_expression_nodes.specs.Inner.Lists.{item, operand, further}
use Rattle.f3_expression_nodes.specs.Inner.Operands.{Further, chained}

-- what is elaborated of a tree is that of what it is the view of
pub node_view : (s : Surroundings) (x x' : Expression) (tree : t.Tree) (y : ExpressionNode) → x ≡ x' → t.expression_view x' ≡ tree → y ≡ e.expression s tree → y ≡ e.expression s (t.expression_view x)
node_view s x x' tree y is v h = h ∙ ap (e.expression s) (sym (ap t.expression_view is ∙ v))

items_same : (s : Surroundings) (xs : List Expression) → arguments_of (map (item s) xs) ≡ e.items s (t.trees_of (map t.expression_view xs))
items_same s [] = refl
items_same s (x ∷ xs) = ap (λ (ys : ArgumentNodes). arguments (item s x) ys) (items_same s xs)

pub array_same : (s : Surroundings) (v : Vec Argument) (xs ys : List Expression) → map argument_view v.items ≡ map (item s) ys → ys ≡ xs
    → expression_view (Array v) ≡ array (e.items s (t.trees_of (map t.expression_view xs)))
array_same s v xs ys made is =
    view_array v ∙ ap (λ (zs : List ArgumentNode). array (arguments_of zs)) (made ∙ ap (map (item s)) is) ∙ ap (λ (zs : ArgumentNodes). array zs) (items_same s xs)

abbrev rest_in : List (Operator × Expression) → t.Rest
rest_in xs = t.rest_of (map (λ (x : Operator × Expression). (x.0, t.expression_view x.1)) xs)

chained_same : (s : Surroundings) (x : e.Operand) (xs : List (Operator × Expression)) → chained s x (map (further s) xs) ≡ e.chain s x (rest_in xs)
chained_same s x [] = refl
chained_same s x (y ∷ ys) =
    ap (λ (z : e.Operand). if e.is_power y.0 then e.joined s y.0 x z else chained s (e.joined s y.0 x (operand s y.1)) (map (further s) ys)) (chained_same s (operand s y.1) ys)
    ∙ ap (λ (z : e.Operand). if e.is_power y.0 then e.joined s y.0 x (e.chain s (operand s y.1) (rest_in ys)) else z) (chained_same s (e.joined s y.0 x (operand s y.1)) ys)

abbrev pair : ExpressionNode → IntegerKind → e.Operand
pair y k = (y, k)

pub chain_same : (s : Surroundings) (x x1 x2 : Expression) (xs ys : List (Operator × Expression)) (y : ExpressionNode) (k : IntegerKind) (others : List Further) (found : e.Operand)
    → found ≡ chained s (y, k) others → y ≡ e.expression s (t.expression_view x1) → k ≡ kind_of (said s.context (t.expression_view x2)).has → others ≡ map (further s) ys
    → x1 ≡ x → x2 ≡ x → ys ≡ xs → found.0 ≡ e.expression s (t.chain (t.expression_view x) (rest_in xs))
chain_same s x x1 x2 xs ys y k others found made value kind more one two is =
    ap (λ (z : e.Operand). z.0) (
    made
    ∙ ap (λ (z : ExpressionNode). chained s (pair z k) others) (value ∙ ap (λ (z : Expression). e.expression s (t.expression_view z)) one)
    ∙ ap (λ (z : IntegerKind). chained s (pair (e.expression s (t.expression_view x)) z) others) (kind ∙ ap (λ (z : Expression). kind_of (said s.context (t.expression_view z)).has) two)
    ∙ ap (chained s (operand s x)) (more ∙ ap (map (further s)) is)
    ∙ chained_same s (operand s x) xs
    )

abbrev parts_in : List (Name × Option (Vec a.Argument)) → t.Parts
parts_in xs = t.parts_list (map t.part_view xs)

pub designator_same : (s : Surroundings) (xs ys zs : List (Name × Option (Vec a.Argument))) (of : Option DataType) (ps : List e.Part) (y : ExpressionNode)
    → y ≡ e.designated s of ps → of ≡ e.type_of s (t.designator (parts_in ys)) → ps ≡ e.parts s (parts_in zs) → ys ≡ xs → zs ≡ xs
    → y ≡ e.expression s (t.designator (parts_in xs))
designator_same s xs ys zs of ps y made type within one two =
    made
    ∙ ap (λ (d : Option DataType). e.designated s d ps) (type ∙ ap (λ (ws : List (Name × Option (Vec a.Argument))). e.type_of s (t.designator (parts_in ws))) one)
    ∙ ap (λ (qs : List e.Part). e.designated s (e.type_of s (t.designator (parts_in xs))) qs) (within ∙ ap (λ (ws : List (Name × Option (Vec a.Argument))). e.parts s (parts_in ws)) two)
