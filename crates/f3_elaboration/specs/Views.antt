-- Expressions and statements of elaborated programs without where they lie in memory.
use Rattle.std.specs.Prelude.{List, [], ◌∷◌, map}
use Rattle.std.specs.Option.{option_map}
use Rattle.f3_program.specs.declared.expression.Argument.{Argument, fold-Argument}
use Rattle.f3_program.specs.declared.expression.Argument.TheOpen.{Argument-F, Designator-F, Expression-F, Selection-F, Subscript-F}
use Rattle.f3_program.specs.declared.expression.Designator.{Designator, fold-Designator}
use Rattle.f3_program.specs.declared.expression.Expression.{Expression, fold-Expression}
use Rattle.f3_program.specs.declared.expression.Selection.{Selection, fold-Selection}
use Rattle.f3_program.specs.declared.expression.Subscript.{Subscript, fold-Subscript}
use Rattle.f3_program.specs.declared.statement.Bounds.{Bounds}
use Rattle.f3_program.specs.declared.statement.Item.{Item}
use Rattle.f3_program.specs.declared.statement.Item.TheVariants as item
use Rattle.f3_program.specs.declared.statement.Request.{Request}
use Rattle.f3_program.specs.declared.statement.Selector.{Selector}
use Rattle.f3_program.specs.declared.statement.Selector.TheVariants as selector
use Rattle.f3_program.specs.declared.statement.Statement.{Statement, fold-Statement}
use Rattle.f3_program.specs.declared.statement.Statement.TheOpen.{Statement-F}
use Rattle.f3_elaboration.specs.Nodes as n
use Rattle.f3_elaboration.specs.Nodes.{ExpressionNode, ArgumentNode, ArgumentNodes, DesignatorNode, SelectionNode, SubscriptNode, SubscriptNodes}
use Rattle.f3_elaboration.specs.Nodes.{BoundsNode, ItemNode, RequestNode, SelectorNode, StatementNode, StatementNodes}

abbrev pub arguments_of : List ArgumentNode → ArgumentNodes
arguments_of [] = n.no_arguments
arguments_of (x ∷ xs) = n.arguments x (arguments_of xs)

abbrev pub subscripts_of : List SubscriptNode → SubscriptNodes
subscripts_of [] = n.no_subscripts
subscripts_of (x ∷ xs) = n.subscripts x (subscripts_of xs)

abbrev pub statements_of : List StatementNode → StatementNodes
statements_of [] = n.no_statements
statements_of (x ∷ xs) = n.statements x (statements_of xs)

-- one level; what it holds is seen already
abbrev pub argument_step : Argument-F ArgumentNode DesignatorNode ExpressionNode SelectionNode SubscriptNode → ArgumentNode
argument_step (Argument-F.Value k b) = n.value k b.value
argument_step (Argument-F.Argument::Variable k b) = n.object k b.value

abbrev pub designator_step : Designator-F ArgumentNode DesignatorNode ExpressionNode SelectionNode SubscriptNode → DesignatorNode
designator_step (Designator-F.Name x how) = n.name x how
designator_step (Designator-F.Component b k how) = n.component b.value k how

abbrev pub expression_step : Expression-F ArgumentNode DesignatorNode ExpressionNode SelectionNode SubscriptNode → ExpressionNode
expression_step (Expression-F.Literal c) = n.literal c
expression_step (Expression-F.Expression::Variable b) = n.variable b.value
expression_step (Expression-F.Group b) = n.group b.value
expression_step (Expression-F.Unary o of b) = n.unary o of b.value
expression_step (Expression-F.Binary o of a b) = n.binary o of a.value b.value
expression_step (Expression-F.Array v) = n.array (arguments_of v.items)
expression_step (Expression-F.Structure t v) = n.structure t (arguments_of v.items)
expression_step (Expression-F.Call f v) = n.reference f (arguments_of v.items)
expression_step (Expression-F.Allocated b) = n.allocated b.value
expression_step (Expression-F.Size b) = n.size b.value
expression_step (Expression-F.Bound q a b) = n.bound q a.value b.value

abbrev pub selection_step : Selection-F ArgumentNode DesignatorNode ExpressionNode SelectionNode SubscriptNode → SelectionNode
selection_step Selection-F.Whole = n.whole
selection_step Selection-F.Contents = n.contents
selection_step (Selection-F.Elements is_opened v) = n.elements is_opened (subscripts_of v.items)

abbrev pub subscript_step : Subscript-F ArgumentNode DesignatorNode ExpressionNode SelectionNode SubscriptNode → SubscriptNode
subscript_step (Subscript-F.At b) = n.subscript b.value
subscript_step (Subscript-F.Range has_lower a has_upper b c) = n.triplet has_lower a.value has_upper b.value c.value

abbrev pub argument_view : Argument → ArgumentNode
argument_view =
    fold-Argument ArgumentNode DesignatorNode ExpressionNode SelectionNode SubscriptNode
    argument_step designator_step expression_step selection_step subscript_step

abbrev pub designator_view : Designator → DesignatorNode
designator_view =
    fold-Designator ArgumentNode DesignatorNode ExpressionNode SelectionNode SubscriptNode
    argument_step designator_step expression_step selection_step subscript_step

abbrev pub expression_view : Expression → ExpressionNode
expression_view =
    fold-Expression ArgumentNode DesignatorNode ExpressionNode SelectionNode SubscriptNode
    argument_step designator_step expression_step selection_step subscript_step

abbrev pub selection_view : Selection → SelectionNode
selection_view =
    fold-Selection ArgumentNode DesignatorNode ExpressionNode SelectionNode SubscriptNode
    argument_step designator_step expression_step selection_step subscript_step

abbrev pub subscript_view : Subscript → SubscriptNode
subscript_view =
    fold-Subscript ArgumentNode DesignatorNode ExpressionNode SelectionNode SubscriptNode
    argument_step designator_step expression_step selection_step subscript_step

abbrev pub bounds_view : Bounds → BoundsNode
bounds_view b = record { lower = expression_view b.lower; upper = expression_view b.upper }

abbrev pub request_view : Request → RequestNode
request_view r = record { object = designator_view r.object; kind = r.kind; bounds = map bounds_view r.bounds.items }

abbrev pub item_view : Item → ItemNode
item_view (item.Value x) = n.shown (expression_view x)
item_view (item.Text t) = n.text t.items

abbrev pub selector_view : Selector → SelectorNode
selector_view (selector.Variable d) = n.means (designator_view d)
selector_view (selector.Value k x) = n.holds k (expression_view x)

abbrev pub statement_step : Statement-F StatementNode → StatementNode
statement_step (Statement-F.At p begins b) = n.at p begins b.value
statement_step (Statement-F.Block v) = n.block (statements_of v.items)
statement_step (Statement-F.Assign d k x) = n.assign (designator_view d) k (expression_view x)
statement_step (Statement-F.Call x) = n.call (expression_view x)
statement_step (Statement-F.MoveAlloc k from_first d e) = n.move_alloc k from_first (designator_view d) (designator_view e)
statement_step (Statement-F.Allocate rs stat) = n.allocate (map request_view rs.items) (option_map designator_view stat)
statement_step (Statement-F.Deallocate rs stat) = n.deallocate (map request_view rs.items) (option_map designator_view stat)
statement_step (Statement-F.Print xs) = n.print (map item_view xs.items)
statement_step (Statement-F.Stop code) = n.stop code
statement_step Statement-F.Return = n.return
statement_step Statement-F.Cycle = n.cycle
statement_step Statement-F.Exit = n.exit
statement_step (Statement-F.If x a b) = n.branch (expression_view x) a.value b.value
statement_step (Statement-F.Select x b) = n.select (expression_view x) b.value
statement_step (Statement-F.Case rs a b) = n.case rs.items a.value b.value
statement_step (Statement-F.While x b) = n.while (expression_view x) b.value
statement_step (Statement-F.Count d k first last step b) =
    n.count (designator_view d) k (expression_view first) (expression_view last) (expression_view step) b.value
statement_step (Statement-F.Associate xs b) = n.associate (map selector_view xs.items) b.value

abbrev pub statement_view : Statement → StatementNode
statement_view = fold-Statement StatementNode statement_step
