-- The data of elaborated programs, by cases: they compute.
use Rattle.std.specs.Prelude.{◌≡◌, map}
use Rattle.std.specs.Option.{option_map}
use Rattle.f3_program.specs.declared.expression.Argument as a
use Rattle.f3_program.specs.declared.expression.Designator as d
use Rattle.f3_program.specs.declared.expression.Expression as e
use Rattle.f3_program.specs.declared.expression.Selection as l
use Rattle.f3_program.specs.declared.expression.Subscript as u
use Rattle.f3_program.specs.declared.statement.Bounds.{Bounds}
use Rattle.f3_program.specs.declared.statement.Item.{Item}
use Rattle.f3_program.specs.declared.statement.Item.TheVariants as item
use Rattle.f3_program.specs.declared.statement.Request.{Request}
use Rattle.f3_program.specs.declared.statement.Selector.{Selector}
use Rattle.f3_program.specs.declared.statement.Selector.TheVariants as selector
use Rattle.f3_program.specs.declared.statement.Statement as s
use Rattle.f3_program.specs.declared.program.Procedure.{Procedure}
use Rattle.f3_program.specs.declared.program.Program.{Program}
use Rattle.f3_elaboration.specs.DeclaredViews.{declared_view, derived_view, static_view, dummy_view}
use Rattle.f3_elaboration.specs.Nodes as n
use Rattle.f3_elaboration.specs.Nodes.{StatementNode, ProcedureNode, ProgramNode}

abbrev mutual
  pub expression : e.Expression → n.ExpressionNode
  expression (e.Literal c) = n.literal c
  expression (e.Variable' p x) = n.variable (designator x)
  expression (e.Group' p x) = n.group (expression x)
  expression (e.Unary' o t p x) = n.unary o t (expression x)
  expression (e.Binary' o t p x q y) = n.binary o t (expression x) (expression y)
  expression (e.Array' k xs) = n.array (arguments xs)
  expression (e.Structure' t k xs) = n.structure t (arguments xs)
  expression (e.Call' f k xs) = n.reference f (arguments xs)
  expression (e.Allocated' p x) = n.allocated (designator x)
  expression (e.Size' p x) = n.size (argument x)
  expression (e.Bound' q p x r y) = n.bound q (argument x) (expression y)

  pub argument : a.Argument → n.ArgumentNode
  argument (a.Value' k p x) = n.value k (expression x)
  argument (a.Variable' k p x) = n.object k (designator x)

  pub arguments : {m : _} → e.Row_of-Argument m → n.ArgumentNodes
  arguments e.end_of-Argument = n.no_arguments
  arguments (e.more_of-Argument x rest) = n.arguments (argument x) (arguments rest)

  pub designator : d.Designator → n.DesignatorNode
  designator (d.Name x how) = n.name x (selection how)
  designator (d.Component' p x k how) = n.component (designator x) k (selection how)

  pub selection : l.Selection → n.SelectionNode
  selection l.Whole = n.whole
  selection l.Contents = n.contents
  selection (l.Elements' o k xs) = n.elements o (subscripts xs)

  pub subscripts : {m : _} → l.Row_of-Subscript m → n.SubscriptNodes
  subscripts l.end_of-Subscript = n.no_subscripts
  subscripts (l.more_of-Subscript x rest) = n.subscripts (subscript x) (subscripts rest)

  pub subscript : u.Subscript → n.SubscriptNode
  subscript (u.At' p x) = n.subscript (expression x)
  subscript (u.Range' b p x c q y r z) = n.triplet b (expression x) c (expression y) (expression z)

abbrev pub bounds : Bounds → n.BoundsNode
bounds b = record { lower = expression b.lower; upper = expression b.upper }

abbrev pub request : Request → n.RequestNode
request r = record { object = designator r.object; kind = r.kind; bounds = map bounds r.bounds.items }

abbrev pub item_of : Item → n.ItemNode
item_of (item.Value x) = n.shown (expression x)
item_of (item.Text t) = n.text t.items

abbrev pub selector_of : Selector → n.SelectorNode
selector_of (selector.Variable x) = n.means (designator x)
selector_of (selector.Value k x) = n.holds k (expression x)

abbrev mutual
  pub statement : s.Statement → StatementNode
  statement (s.At' place b p x) = n.at place b (statement x)
  statement (s.Block' k xs) = n.block (statements xs)
  statement (s.Assign d k e) = n.assign (designator d) k (expression e)
  statement (s.Call e) = n.call (expression e)
  statement (s.MoveAlloc k b d e) = n.move_alloc k b (designator d) (designator e)
  statement (s.Allocate rs stat) = n.allocate (map request rs.items) (option_map designator stat)
  statement (s.Deallocate rs stat) = n.deallocate (map request rs.items) (option_map designator stat)
  statement (s.Print xs) = n.print (map item_of xs.items)
  statement (s.Stop code) = n.stop code
  statement s.Return = n.return
  statement s.Cycle = n.cycle
  statement s.Exit = n.exit
  statement (s.If' e p x q y) = n.branch (expression e) (statement x) (statement y)
  statement (s.Select' e p x) = n.select (expression e) (statement x)
  statement (s.Case' rs p x q y) = n.case rs.items (statement x) (statement y)
  statement (s.While' e p x) = n.while (expression e) (statement x)
  statement (s.Count' d k e f h p x) = n.count (designator d) k (expression e) (expression f) (expression h) (statement x)
  statement (s.Associate' xs p x) = n.associate (map selector_of xs.items) (statement x)

  pub statements : {m : _} → s.Row_of-Statement m → n.StatementNodes
  statements s.end_of-Statement = n.no_statements
  statements (s.more_of-Statement x rest) = n.statements (statement x) (statements rest)

abbrev pub procedure : Procedure → ProcedureNode
procedure q = record {
  unit = q.unit;
  dummies = map dummy_view q.dummies.items;
  locals = map declared_view q.locals.items;
  result = option_map declared_view q.result;
  body = statement q.body;
  end = q.end;
}

abbrev pub program : Program → ProgramNode
program p = record {
  types = map derived_view p.types.items;
  statics = map static_view p.statics.items;
  procedures = map procedure p.procedures.items;
  main = procedure p.main;
  start = p.start;
}

-- what is told of a program
abbrev pub Same : Program → ProgramNode → Type 0
Same p q = program p ≡ q
