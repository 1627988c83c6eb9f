-- Expressions without where they lie in memory: what two of them have to share to be the same.
use Rattle.std.specs.Prelude.{ℕ, Bool, List, [], ◌∷◌, map, Option, Some, None}
use Rattle.std.specs.Option.{option_map}
use Rattle.std.specs.Global.{Vec}
use Rattle.f3_places.specs.declared.source.Place.{Place}
use Rattle.f3_tree.specs.declared.expression.Name.{Name}
use Rattle.f3_tree.specs.declared.expression.IntegerLiteral.{IntegerLiteral}
use Rattle.f3_tree.specs.declared.expression.Sign.{Sign}
use Rattle.f3_tree.specs.declared.expression.Relation.{Relation}
use Rattle.f3_tree.specs.declared.expression.Operator.{Operator}
use Rattle.f3_tree.specs.declared.expression.Expression.{Expression, fold-Expression}
use Rattle.f3_tree.specs.declared.expression.Argument.{Argument, fold-Argument}
use Rattle.f3_tree.specs.declared.expression.Argument.TheOpen.{Argument-F, Expression-F}

mutual
  pub data Tree : Type 0 where
    integer : Place → IntegerLiteral → Tree
    truth : Place → Bool → Tree
    text : Place → ℕ → Tree
    designator : Parts → Tree
    group : Place → Tree → Tree
    array : Place → Trees → Tree
    signed : Place → Sign → Tree → Tree
    negation : Place → Tree → Tree
    comparison : Tree → Relation → Tree → Tree
    chain : Tree → Rest → Tree

  -- operators, each with the operand behind it
  pub data Rest : Type 0 where
    no_more : Rest
    more : Operator → Tree → Rest → Rest

  pub data Trees : Type 0 where
    no_trees : Trees
    trees : Tree → Trees → Trees

  -- the parts of a designator, each a name and what stands behind it
  pub data Parts : Type 0 where
    no_parts : Parts
    parts : Name → Behind → Parts → Parts

  -- no parentheses, or the arguments in them
  pub data Behind : Type 0 where
    bare : Behind
    within : Arguments → Behind

  pub data Arguments : Type 0 where
    no_arguments : Arguments
    arguments : ArgumentTree → Arguments → Arguments

  pub data ArgumentTree : Type 0 where
    value : Option Name → Tree → ArgumentTree
    triplet : Place → Perhaps → Perhaps → Perhaps → ArgumentTree

  pub data Perhaps : Type 0 where
    absent : Perhaps
    present : Tree → Perhaps

abbrev pub rest_of : List (Operator × Tree) → Rest
rest_of [] = no_more
rest_of (x ∷ xs) = more x.0 x.1 (rest_of xs)

abbrev pub trees_of : List Tree → Trees
trees_of [] = no_trees
trees_of (t ∷ ts) = trees t (trees_of ts)

abbrev pub arguments_of : List ArgumentTree → Arguments
arguments_of [] = no_arguments
arguments_of (a ∷ others) = arguments a (arguments_of others)

abbrev pub behind_of : Option (Vec ArgumentTree) → Behind
behind_of None = bare
behind_of (Some v) = within (arguments_of v.items)

abbrev pub parts_of : List (Name × Option (Vec ArgumentTree)) → Parts
parts_of [] = no_parts
parts_of (p ∷ ps) = parts p.0 (behind_of p.1) (parts_of ps)

abbrev pub perhaps_of : Option Tree → Perhaps
perhaps_of None = absent
perhaps_of (Some t) = present t

-- one level; what it holds is seen already
abbrev pub expression_step : Expression-F ArgumentTree Tree → Tree
expression_step (Expression-F.Integer p n) = integer p n
expression_step (Expression-F.Truth p b) = truth p b
expression_step (Expression-F.Text p k) = text p k
expression_step (Expression-F.Designator v) = designator (parts_of v.items)
expression_step (Expression-F.Group p b) = group p b.value
expression_step (Expression-F.Array p v) = array p (trees_of v.items)
expression_step (Expression-F.Signed p s b) = signed p s b.value
expression_step (Expression-F.Not p b) = negation p b.value
expression_step (Expression-F.Comparison a r b) = comparison a.value r b.value
expression_step (Expression-F.Chain b v) = chain b.value (rest_of v.items)

abbrev pub argument_step : Argument-F ArgumentTree Tree → ArgumentTree
argument_step (Argument-F.Value n e) = value n e
argument_step (Argument-F.Triplet p a b c) = triplet p (perhaps_of a) (perhaps_of b) (perhaps_of c)

abbrev pub expression_view : Expression → Tree
expression_view = fold-Expression ArgumentTree Tree argument_step expression_step

abbrev pub argument_view : Argument → ArgumentTree
argument_view = fold-Argument ArgumentTree Tree argument_step expression_step

-- a part of a designator, as a pair
abbrev pub part_view : Name × Option (Vec Argument) → Name × Option (List ArgumentTree)
part_view p = (p.0, option_map (λ v. map argument_view v.items) p.1)

abbrev pub behind_list : Option (List ArgumentTree) → Behind
behind_list None = bare
behind_list (Some list) = within (arguments_of list)

abbrev pub parts_list : List (Name × Option (List ArgumentTree)) → Parts
parts_list [] = no_parts
parts_list (p ∷ ps) = parts p.0 (behind_list p.1) (parts_list ps)

abbrev pub designator_view : Vec (Name × Option (Vec Argument)) → Parts
designator_view v = parts_list (map part_view v.items)
