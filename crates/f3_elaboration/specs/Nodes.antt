-- An elaborated program without where it lies in memory: what two of them have to share to be the same.
use Rattle.std.specs.Prelude.{ℕ, ℤ, Bool, List, Option}
use Rattle.f3_places.specs.declared.source.Place.{Place}
use Rattle.f3_program.specs.declared.declarations.Base.{Base}
use Rattle.f3_program.specs.declared.declarations.Constant.{Constant}
use Rattle.f3_program.specs.declared.declarations.Dimension.{Dimension}
use Rattle.f3_program.specs.declared.declarations.Final.{Final}
use Rattle.f3_program.specs.declared.declarations.Kind.{Kind}
use Rattle.f3_program.specs.declared.expression.BinaryOperator.{BinaryOperator}
use Rattle.f3_program.specs.declared.expression.Name.{Name}
use Rattle.f3_program.specs.declared.expression.Query.{Query}
use Rattle.f3_program.specs.declared.expression.UnaryOperator.{UnaryOperator}
use Rattle.f3_program.specs.declared.program.Intent.{Intent}
use Rattle.f3_program.specs.declared.statement.Range.{Range}

mutual
  -- with the type of the result behind an operator
  pub data ExpressionNode : Type 0 where
    literal : Constant → ExpressionNode
    variable : DesignatorNode → ExpressionNode
    group : ExpressionNode → ExpressionNode
    unary : UnaryOperator → Base → ExpressionNode → ExpressionNode
    binary : BinaryOperator → Base → ExpressionNode → ExpressionNode → ExpressionNode
    array : ArgumentNodes → ExpressionNode
    structure : (type : ℕ) → ArgumentNodes → ExpressionNode
    reference : (procedure : ℕ) → ArgumentNodes → ExpressionNode
    allocated : DesignatorNode → ExpressionNode
    size : ArgumentNode → ExpressionNode
    bound : Query → ArgumentNode → (dimension : ExpressionNode) → ExpressionNode

  -- a value, or an object, for the dummy or the component of a number
  pub data ArgumentNode : Type 0 where
    value : (number : ℕ) → ExpressionNode → ArgumentNode
    object : (number : ℕ) → DesignatorNode → ArgumentNode

  pub data ArgumentNodes : Type 0 where
    no_arguments : ArgumentNodes
    arguments : ArgumentNode → ArgumentNodes → ArgumentNodes

  pub data DesignatorNode : Type 0 where
    name : Name → SelectionNode → DesignatorNode
    component : DesignatorNode → (number : ℕ) → SelectionNode → DesignatorNode

  -- an object itself, what an allocatable holds, or elements of an array, or of the array that an allocatable holds
  pub data SelectionNode : Type 0 where
    whole : SelectionNode
    contents : SelectionNode
    elements : (is_opened : Bool) → SubscriptNodes → SelectionNode

  pub data SubscriptNodes : Type 0 where
    no_subscripts : SubscriptNodes
    subscripts : SubscriptNode → SubscriptNodes → SubscriptNodes

  pub data SubscriptNode : Type 0 where
    subscript : ExpressionNode → SubscriptNode
    triplet : (has_lower : Bool) → ExpressionNode → (has_upper : Bool) → ExpressionNode → (step : ExpressionNode) → SubscriptNode

-- an item of a PRINT
pub data ItemNode : Type 0 where
  shown : ExpressionNode → ItemNode
  text : List ℕ → ItemNode

-- the bounds of a dimension in an ALLOCATE
pub record BoundsNode : Type 0 where
  pub lower : ExpressionNode
  pub upper : ExpressionNode

-- an object of an ALLOCATE or DEALLOCATE
pub record RequestNode : Type 0 where
  pub object : DesignatorNode
  pub kind : Kind
  pub bounds : List BoundsNode

-- a selector of an ASSOCIATE: a variable, or a value that is held
pub data SelectorNode : Type 0 where
  means : DesignatorNode → SelectorNode
  holds : Kind → ExpressionNode → SelectorNode

mutual
  pub data StatementNode : Type 0 where
    at : Place → (begins : Bool) → StatementNode → StatementNode
    block : StatementNodes → StatementNode
    assign : DesignatorNode → Kind → ExpressionNode → StatementNode
    call : ExpressionNode → StatementNode
    move_alloc : Kind → (from_first : Bool) → DesignatorNode → DesignatorNode → StatementNode
    allocate : List RequestNode → (stat : Option DesignatorNode) → StatementNode
    deallocate : List RequestNode → (stat : Option DesignatorNode) → StatementNode
    print : List ItemNode → StatementNode
    stop : Option ℕ → StatementNode
    return : StatementNode
    cycle : StatementNode
    exit : StatementNode
    branch : ExpressionNode → StatementNode → StatementNode → StatementNode
    select : ExpressionNode → StatementNode → StatementNode
    case : List Range → StatementNode → StatementNode → StatementNode
    while : ExpressionNode → StatementNode → StatementNode
    count : DesignatorNode → Kind → (first : ExpressionNode) → (last : ExpressionNode) → (step : ExpressionNode) → StatementNode → StatementNode
    associate : List SelectorNode → StatementNode → StatementNode

  pub data StatementNodes : Type 0 where
    no_statements : StatementNodes
    statements : StatementNode → StatementNodes → StatementNodes

-- a variable, a component or a result
pub record DeclaredNode : Type 0 where
  pub kind : Kind
  pub dimensions : List Dimension
  pub initial : List Constant

pub record ComponentNode : Type 0 where
  pub declared : DeclaredNode
  pub is_private : Bool

pub record DerivedNode : Type 0 where
  pub home : ℕ
  pub components : List ComponentNode
  pub finals : List Final

pub record StaticNode : Type 0 where
  pub declared : DeclaredNode
  pub home : ℕ
  pub is_protected : Bool

pub record DummyNode : Type 0 where
  pub kind : Kind
  pub intent : Intent
  pub lowers : List ℤ

pub record ProcedureNode : Type 0 where
  pub unit : ℕ
  pub dummies : List DummyNode
  pub locals : List DeclaredNode
  pub result : Option DeclaredNode
  pub body : StatementNode
  pub end : Place

pub record ProgramNode : Type 0 where
  pub types : List DerivedNode
  pub statics : List StaticNode
  pub procedures : List ProcedureNode
  pub main : ProcedureNode
  pub start : Place
