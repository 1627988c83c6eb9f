-- What expressions mean in the elaborated program (ISO/IEC 1539-1:2004, clauses 6 and 7): bottom up, each from its parts, by what its
-- names mean and which types its parts have.
use Rattle.std.specs.Prelude.{ℕ, ◌+◌, ℤ, pos, Bool, true, false, ◌&&◌, List, [], ◌∷◌, Option, None, Some, map, if◌then◌else◌}
use Rattle.f3_tree.specs.declared.expression.Name.{Name}
use Rattle.f3_tree.specs.declared.expression.IntegerKind.{IntegerKind}
use Rattle.f3_tree.specs.declared.expression.Sign.{Sign}
use Rattle.f3_tree.specs.declared.expression.Sign.TheVariants.{Plus, Minus}
use Rattle.f3_tree.specs.declared.expression.Relation.{Relation}
use Rattle.f3_tree.specs.declared.expression.Relation.TheVariants as relation
use Rattle.f3_tree.specs.declared.expression.Operator.{Operator}
use Rattle.f3_tree.specs.declared.expression.Operator.TheVariants as operator
use Rattle.f3_tree.specs.Expressions as t
use Rattle.f3_program.specs.declared.declarations.Base.{Base}
use Rattle.f3_program.specs.declared.declarations.Base.TheVariants.{Logical}
use Rattle.f3_program.specs.declared.declarations.Constant.TheVariants.{Number, Truth}
use Rattle.f3_program.specs.declared.expression.BinaryOperator.{BinaryOperator}
use Rattle.f3_program.specs.declared.expression.BinaryOperator.TheVariants as o
use Rattle.f3_program.specs.declared.expression.Query.TheVariants.{Extent, Lower, Upper}
use Rattle.f3_program.specs.declared.expression.UnaryOperator.TheVariants.{Negate, Absolute, Not}
use Rattle.f3_kinds.specs.declared.types.DataType.{DataType}
use Rattle.f3_kinds.specs.declared.types.DataType.TheVariants.{Derived}
use Rattle.f3_kinds.specs.declared.types.Object.{Object}
use Rattle.f3_kinds.specs.declared.things.Component.{Component}
use Rattle.f3_kinds.specs.declared.things.Dummy.{Dummy}
use Rattle.f3_kinds.specs.declared.things.Intrinsic.{Intrinsic}
use Rattle.f3_kinds.specs.declared.things.Intrinsic.TheVariants as intrinsic
use Rattle.f3_kinds.specs.Things.{map_or, Nature, constant, variable, derived, subroutine, function, Context, Meaning, nothing, several, entity}
use Rattle.f3_kinds.specs.Things.{intrinsic as intrinsic_procedure, meaning_of, place_of, at_place_of, component_of}
use Rattle.f3_kinds.specs.Rows.{wider}
use Rattle.f3_kinds.specs.Operands.{kind_of, type_in, wanted_by, result_of}
use Rattle.f3_kinds.specs.Typing.{said}
use Rattle.f3_kinds.specs.Values.{literal_value}
use Rattle.f3_elaboration.specs.Nodes as n
use Rattle.f3_elaboration.specs.Nodes.{ExpressionNode, ArgumentNode, ArgumentNodes, DesignatorNode, SelectionNode, SubscriptNode, SubscriptNodes}
use Rattle.f3_elaboration.specs.Declarations.{constant_of}
use Rattle.f3_elaboration.specs.Context.{Surroundings, base}

-- ---- literals and operators

abbrev pub number : ℤ → ExpressionNode
number z = n.literal (Number z)

abbrev pub truth : Bool → ExpressionNode
truth b = n.literal (Truth b)

-- what no accepted program has
abbrev pub no_value : ExpressionNode
no_value = number (pos 0)

abbrev pub operation : Operator → BinaryOperator
operation operator.Power = o.Power
operation operator.Multiply = o.Multiply
operation operator.Divide = o.Divide
operation operator.Add = o.Add
operation operator.Subtract = o.Subtract
operation operator.And = o.And
operation operator.Or = o.Or
operation operator.Equivalent = o.Equivalent
operation operator.NotEquivalent = o.NotEquivalent

abbrev pub comparison : Relation → BinaryOperator
comparison relation.Equal = o.Equal
comparison relation.NotEqual = o.NotEqual
comparison relation.Less = o.Less
comparison relation.LessOrEqual = o.LessOrEqual
comparison relation.Greater = o.Greater
comparison relation.GreaterOrEqual = o.GreaterOrEqual

-- + leaves its operand as it is (7.1.4), but for being a variable
abbrev pub signed : Sign → Base → ExpressionNode → ExpressionNode
signed Plus of x = n.group x
signed Minus of x = n.unary Negate of x

-- an operand, with its kind where it is an integer
abbrev pub Operand : Type 0
Operand = ExpressionNode × IntegerKind

-- each operation has the wider kind of its own operands (7.1.4.2)
abbrev pub joined : Surroundings → Operator → Operand → Operand → Operand
joined s o x y = (n.binary (operation o) (base s (result_of (wanted_by o) (wider x.1 y.1)).data_type) x.0 y.0, wider x.1 y.1)

-- ** goes from the right, all else from the left (7.1.1.3)
abbrev pub is_power : Operator → Bool
is_power operator.Power = true
is_power _ = false

-- ---- what is given in parentheses

pub data Given : Type 0 where
  value : (keyword : Option Name) → ExpressionNode → Given
  triplet : (first : Option ExpressionNode) → (last : Option ExpressionNode) → (stride : Option ExpressionNode) → Given

-- a part of a designator: its name, and what is given in the parentheses behind it
abbrev pub Part : Type 0
Part = Name × Option (List Given)

-- the value that is given: a triplet is none
abbrev pub given_value : Given → ExpressionNode
given_value (value keyword x) = x
given_value (triplet first last stride) = no_value

-- ---- variables and their parts (6.1, 6.2)

abbrev pub is_present : Option ExpressionNode → Bool
is_present x = map_or false (λ x. true) x

-- 1 where it is absent
abbrev pub or_one : Option ExpressionNode → ExpressionNode
or_one x = map_or (number (pos 1)) (λ x. x) x

abbrev pub subscript : Given → SubscriptNode
subscript (value keyword x) = n.subscript x
subscript (triplet first last stride) = n.triplet (is_present first) (or_one first) (is_present last) (or_one last) (or_one stride)

abbrev pub subscripts : List Given → SubscriptNodes
subscripts [] = n.no_subscripts
subscripts (g ∷ gs) = n.subscripts (subscript g) (subscripts gs)

-- of a part without subscripts: of an allocatable what it holds
abbrev pub held : Bool → SelectionNode
held is_allocatable = if is_allocatable then n.contents else n.whole

abbrev pub selection : Object → Option (List Given) → SelectionNode
selection o None = held o.is_allocatable
selection o (Some gs) = n.elements o.is_allocatable (subscripts gs)

-- the components of a type
abbrev pub components_in : Option Nature → List (ℕ × Component)
components_in (Some (derived home ks finalizable)) = ks
components_in _ = []

abbrev pub components_of : Context → Option DataType → List (ℕ × Component)
components_of c (Some (Derived t)) = components_in (c.nature t)
components_of c _ = []

-- the number of a component or a dummy of this name
abbrev pub number_of : {X : Type 0} → List (ℕ × X) → (symbol : ℕ) → ℕ
number_of xs symbol = map_or 0 (λ k. k) (place_of xs symbol)

-- Parts behind what is of this object, each a component of what stands before it.
abbrev pub along : Context → DesignatorNode → Object → List Part → DesignatorNode
along c d o [] = d
along c d o (p ∷ ps) =
    let ks : List (ℕ × Component) = components_of c o.data_type in
    map_or d (λ (k : Component). along c (n.component d (number_of ks (p.0).symbol) (selection k.object p.1)) k.object ps) (component_of ks (p.0).symbol)

abbrev pub variable_of : Surroundings → (entity : ℕ) → Object → Part → List Part → DesignatorNode
variable_of s e o p ps = along s.context (n.name (s.object e) (selection o p.1)) o ps

-- An allocatable itself, where what it holds was meant.
abbrev pub unheld : SelectionNode → SelectionNode
unheld n.contents = n.whole
unheld how = how

abbrev pub itself : DesignatorNode → DesignatorNode
itself (n.name x how) = n.name x (unheld how)
itself (n.component d k how) = n.component d k (unheld how)

-- ---- arguments

-- the number of the dummy or component that is given: by its keyword, or by its position
abbrev pub number_for : {X : Type 0} → List (ℕ × X) → (position : ℕ) → Given → ℕ
number_for xs position (value (Some keyword) x) = number_of xs keyword.symbol
number_for xs position _ = position

-- a variable is passed itself, what an allocatable holds for a dummy that is not allocatable; anything else by its value (12.4.1.2)
abbrev pub passed : (is_allocatable : Bool) → ℕ → ExpressionNode → ArgumentNode
passed is_allocatable k (n.variable d) = n.object k (if is_allocatable then itself d else d)
passed is_allocatable k x = n.value k x

abbrev pub is_held : SelectionNode → Bool
is_held n.contents = true
is_held how = false

abbrev pub is_whole_allocatable : DesignatorNode → Bool
is_whole_allocatable (n.name x how) = is_held how
is_whole_allocatable (n.component d k how) = is_held how

-- of a component its value, or for an allocatable one a whole allocatable itself (4.5.9, own rule)
abbrev pub stored : (is_allocatable : Bool) → ℕ → ExpressionNode → ArgumentNode
stored is_allocatable k (n.variable d) =
    if is_allocatable && is_whole_allocatable d then n.object k (itself d) else n.value k (n.variable d)
stored is_allocatable k x = n.value k x

abbrev pub allocatable_dummy : Option Dummy → Bool
allocatable_dummy d = map_or false (λ (d : Dummy). (d.object).is_allocatable) d

abbrev pub passed_for : List (ℕ × Dummy) → ℕ → ExpressionNode → ArgumentNode
passed_for ds k x = passed (allocatable_dummy (at_place_of ds k)) k x

-- arguments from a position on, in the order written
abbrev pub arguments_for : List (ℕ × Dummy) → (position : ℕ) → List Given → ArgumentNodes
arguments_for ds i [] = n.no_arguments
arguments_for ds i (g ∷ gs) = n.arguments (passed_for ds (number_for ds i g) (given_value g)) (arguments_for ds (i + 1) gs)

abbrev pub allocatable_component : Option Component → Bool
allocatable_component k = map_or false (λ (k : Component). (k.object).is_allocatable) k

abbrev pub stored_for : List (ℕ × Component) → ℕ → ExpressionNode → ArgumentNode
stored_for ks k x = stored (allocatable_component (at_place_of ks k)) k x

-- values of components from a position on, in the order written
abbrev pub components_for : List (ℕ × Component) → (position : ℕ) → List Given → ArgumentNodes
components_for ks i [] = n.no_arguments
components_for ks i (g ∷ gs) = n.arguments (stored_for ks (number_for ks i g) (given_value g)) (components_for ks (i + 1) gs)

-- ---- intrinsic functions (13.7)

-- an array that SIZE, LBOUND or UBOUND asks of
abbrev pub asked : ExpressionNode → ArgumentNode
asked x = passed false 0 x

-- MAX and MIN of more than two go from the left
abbrev pub nested : BinaryOperator → Base → ExpressionNode → List ExpressionNode → ExpressionNode
nested f of x [] = x
nested f of x (y ∷ ys) = nested f of (n.binary f of x y) ys

-- with the type of the result
abbrev pub intrinsic_value : Base → Intrinsic → List ExpressionNode → ExpressionNode
intrinsic_value of intrinsic.Abs (x ∷ []) = n.unary Absolute of x
intrinsic_value of intrinsic.Mod (x ∷ y ∷ []) = n.binary o.Mod of x y
intrinsic_value of intrinsic.Modulo (x ∷ y ∷ []) = n.binary o.Modulo of x y
intrinsic_value of intrinsic.Max (x ∷ xs) = nested o.Max of x xs
intrinsic_value of intrinsic.Min (x ∷ xs) = nested o.Min of x xs
intrinsic_value of intrinsic.Size (x ∷ []) = n.size (asked x)
intrinsic_value of intrinsic.Size (x ∷ d ∷ []) = n.bound Extent (asked x) d
intrinsic_value of intrinsic.LowerBound (x ∷ d ∷ []) = n.bound Lower (asked x) d
intrinsic_value of intrinsic.UpperBound (x ∷ d ∷ []) = n.bound Upper (asked x) d
intrinsic_value of intrinsic.Allocated (n.variable d ∷ []) = n.allocated (itself d)
intrinsic_value of _ _ = no_value

-- ---- what a name and what stands behind it mean

abbrev pub given_in : Part → List Given
given_in p = map_or [] (λ gs. gs) p.1

-- a variable or a part of one, a named constant, a reference to a function, a structure constructor, or a reference to an intrinsic function
-- whose result has this type
abbrev pub meant : Surroundings → Option DataType → Part → List Part → Meaning → ExpressionNode
meant s of p ps (entity e (variable o)) = n.variable (variable_of s e o p ps)
meant s of p ps (entity e (constant o)) = n.literal (constant_of ((s.context).value e))
meant s of p ps (entity e (function pure ds o)) = n.reference (s.procedure e) (arguments_for ds 0 (given_in p))
meant s of p ps (entity e (derived home ks finalizable)) = n.structure (s.type e) (components_for ks 0 (given_in p))
meant s of p ps (entity e (subroutine pure ds)) = no_value
meant s of p ps (intrinsic_procedure i) = intrinsic_value (base s of) i (map given_value (given_in p))
meant s of p ps nothing = no_value
meant s of p ps several = no_value

abbrev pub designated : Surroundings → Option DataType → List Part → ExpressionNode
designated s of [] = no_value
designated s of (p ∷ ps) = meant s of p ps (meaning_of s.context (p.0).symbol)

-- ---- expressions

abbrev pub type_of : Surroundings → t.Tree → Option DataType
type_of s e = type_in (said s.context e).has

abbrev pub operand : Surroundings → t.Tree → ExpressionNode → Operand
operand s e x = (x, kind_of (said s.context e).has)

abbrev mutual
  -- the value of an expression: of a whole allocatable, what it holds
  pub expression : Surroundings → t.Tree → ExpressionNode
  expression s (t.integer p z) = n.literal (constant_of (Some (literal_value z)))
  expression s (t.truth p b) = truth b
  expression s (t.text p k) = no_value
  expression s (t.designator ps) = designated s (type_of s (t.designator ps)) (parts s ps)
  expression s (t.group p e) = n.group (expression s e)
  expression s (t.array p es) = n.array (items s es)
  expression s (t.signed p sign e) = signed sign (base s (type_of s e)) (expression s e)
  expression s (t.negation p e) = n.unary Not Logical (expression s e)
  expression s (t.comparison e r f) = n.binary (comparison r) Logical (expression s e) (expression s f)
  expression s (t.chain e os) = (chain s (operand s e (expression s e)) os).0

  -- an operand, and the operators behind it
  pub chain : Surroundings → Operand → t.Rest → Operand
  chain s x t.no_more = x
  chain s x (t.more o e os) =
      if is_power o then joined s o x (chain s (operand s e (expression s e)) os)
      else chain s (joined s o x (operand s e (expression s e))) os

  -- the values of an array constructor (4.7)
  pub items : Surroundings → t.Trees → ArgumentNodes
  items s t.no_trees = n.no_arguments
  items s (t.trees e es) = n.arguments (n.value 0 (expression s e)) (items s es)

  pub parts : Surroundings → t.Parts → List Part
  parts s t.no_parts = []
  parts s (t.parts name b ps) = (name, behind s b) ∷ parts s ps

  pub behind : Surroundings → t.Behind → Option (List Given)
  behind s t.bare = None
  behind s (t.within list) = Some (given s list)

  pub given : Surroundings → t.Arguments → List Given
  given s t.no_arguments = []
  given s (t.arguments a others) = given_by s a ∷ given s others

  pub given_by : Surroundings → t.ArgumentTree → Given
  given_by s (t.value keyword e) = value keyword (expression s e)
  given_by s (t.triplet p first last stride) = triplet (perhaps s first) (perhaps s last) (perhaps s stride)

  pub perhaps : Surroundings → t.Perhaps → Option ExpressionNode
  perhaps s t.absent = None
  perhaps s (t.present e) = Some (expression s e)
