-- What is in memory refers to functions alone where its data does.
use Rattle.std.proofs.Common.{Option, Some, None, map}
use Rattle.std.specs.Option.{option_map}
use mathlib.Core.Path.{subst}
use Rattle.f3_program.specs.declared.expression.Argument as a
use Rattle.f3_program.specs.declared.expression.Designator as d
use Rattle.f3_program.specs.declared.expression.Expression as e
use Rattle.f3_program.specs.declared.expression.Selection as l
use Rattle.f3_program.specs.declared.expression.Subscript as u
use Rattle.f3_program.specs.declared.statement.Bounds.{Bounds}
use Rattle.f3_program.specs.declared.statement.Item.{Item}
use Rattle.f3_program.specs.declared.statement.Item.TheVariants as item
use Rattle.f3_program.specs.declared.statement.Request.{Request}
use Rattle.f3_program.specs.declared.statement.Selector.{Selector}
use Rattle.f3_program.specs.declared.statement.Selector.TheVariants as selector
use Rattle.f3_program.specs.declared.statement.Statement as s
use Rattle.f3_program.specs.declared.program.Program.{Program}
use Rattle.f3_elaboration.specs.Views.{expression_view, argument_view, designator_view, selection_view, subscript_view, arguments_of, subscripts_of}
use Rattle.f3_elaboration.specs.Views.{bounds_view, request_view, item_view, selector_view, statement_view, statements_of}
use Rattle.f3_elaboration.proofs.Views as v
use Rattle.f3_lawful_laws.proofs.Primed as is
use Rattle.f3_lawful_laws.proofs.SeenStatements.{each_seen}
use Rattle.f3_pure_laws.specs.References.{Refers, ArgumentRefers, AllRefer, RefersIn, SelectionRefers, SubscriptsRefer, SubscriptRefers, CallRefers}
use Rattle.f3_pure_laws.specs.References.{StatRefers, BoundsRefer, RequestRefers, ItemRefers, SelectorRefers, StatementRefers, BlockRefers}
use Rattle.f3_reference_laws.proofs.Nodes.{NodeRefers, PassedRefers, NodesRefer, PlaceRefers, TakenRefers, ChosenRefer, OneRefers, CalledRefers}
use Rattle.f3_reference_laws.proofs.Nodes.{StatNodeRefers, BoundsNodeRefer, RequestNodeRefers, ItemNodeRefers, SelectorNodeRefers, DoneRefers, AllDoneRefer}

module _ (p : Program) where
  mutual
    value_seen : (x : e.Expression) → NodeRefers p (expression_view x) → Refers p x
    value_seen (e.Literal c) h = tt
    value_seen (e.Variable' q x) h = locate_seen x (subst (NodeRefers p) (is.variable_is q x) h)
    value_seen (e.Group' q x) h = value_seen x (subst (NodeRefers p) (is.group_is q x) h)
    value_seen (e.Unary' o t q x) h = value_seen x (subst (NodeRefers p) (is.unary_is o t q x) h)
    value_seen (e.Binary' o t q x r y) h = let g = subst (NodeRefers p) (is.binary_is o t q x r y) h in (value_seen x g.0, value_seen y g.1)
    value_seen (e.Array' k xs) h = arguments_seen xs (subst (NodeRefers p) (is.array_is k xs) h)
    value_seen (e.Structure' t k xs) h = arguments_seen xs (subst (NodeRefers p) (is.structure_is t k xs) h)
    value_seen (e.Call' f k xs) h = let g = subst (NodeRefers p) (is.reference_is f k xs) h in (g.0, arguments_seen xs g.1)
    value_seen (e.Allocated' q x) h = locate_seen x (subst (NodeRefers p) (is.allocated_is q x) h)
    value_seen (e.Size' q x) h = argument_seen x (subst (NodeRefers p) (is.size_is q x) h)
    value_seen (e.Bound' o q x r y) h = let g = subst (NodeRefers p) (is.bound_is o q x r y) h in (argument_seen x g.0, value_seen y g.1)

    argument_seen : (x : a.Argument) → PassedRefers p (argument_view x) → ArgumentRefers p x
    argument_seen (a.Value' k q x) h = value_seen x (subst (PassedRefers p) (is.value_is k q x) h)
    argument_seen (a.Variable' k q x) h = locate_seen x (subst (PassedRefers p) (is.object_is k q x) h)

    arguments_seen : {m : _} (xs : e.Row_of-Argument m) → NodesRefer p (arguments_of (map argument_view (e.items-the_row-Argument m xs))) → AllRefer p xs
    arguments_seen e.end_of-Argument h = tt
    arguments_seen (e.more_of-Argument x rest) h = (argument_seen x h.0, arguments_seen rest h.1)

    locate_seen : (x : d.Designator) → PlaceRefers p (designator_view x) → RefersIn p x
    locate_seen (d.Name x how) h = take_seen how (subst (PlaceRefers p) (v.view_name x how) h)
    locate_seen (d.Component' q x k how) h = let g = subst (PlaceRefers p) (is.component_is q x k how) h in (locate_seen x g.0, take_seen how g.1)

    take_seen : (x : l.Selection) → TakenRefers p (selection_view x) → SelectionRefers p x
    take_seen l.Whole h = tt
    take_seen l.Contents h = tt
    take_seen (l.Elements' o k xs) h = subscripts_seen xs (subst (TakenRefers p) (is.elements_is o k xs) h)

    subscripts_seen : {m : _} (xs : l.Row_of-Subscript m) → ChosenRefer p (subscripts_of (map subscript_view (l.items-the_row-Subscript m xs))) → SubscriptsRefer p xs
    subscripts_seen l.end_of-Subscript h = tt
    subscripts_seen (l.more_of-Subscript x rest) h = (subscript_seen x h.0, subscripts_seen rest h.1)

    subscript_seen : (x : u.Subscript) → OneRefers p (subscript_view x) → SubscriptRefers p x
    subscript_seen (u.At' q x) h = value_seen x (subst (OneRefers p) (is.subscript_is q x) h)
    subscript_seen (u.Range' b q x c r y t z) h = let g = subst (OneRefers p) (is.triplet_is b q x c r y t z) h in (value_seen x g.0, value_seen y g.1, value_seen z g.2)

  call_seen : (x : e.Expression) → CalledRefers p (expression_view x) → CallRefers p x
  call_seen (e.Call' f k xs) h = arguments_seen xs (subst (CalledRefers p) (is.reference_is f k xs) h)
  call_seen (e.Literal c) h = tt
  call_seen (e.Variable' q x) h = locate_seen x (subst (CalledRefers p) (is.variable_is q x) h)
  call_seen (e.Group' q x) h = value_seen x (subst (CalledRefers p) (is.group_is q x) h)
  call_seen (e.Unary' o t q x) h = value_seen x (subst (CalledRefers p) (is.unary_is o t q x) h)
  call_seen (e.Binary' o t q x r y) h = let g = subst (CalledRefers p) (is.binary_is o t q x r y) h in (value_seen x g.0, value_seen y g.1)
  call_seen (e.Array' k xs) h = arguments_seen xs (subst (CalledRefers p) (is.array_is k xs) h)
  call_seen (e.Structure' t k xs) h = arguments_seen xs (subst (CalledRefers p) (is.structure_is t k xs) h)
  call_seen (e.Allocated' q x) h = locate_seen x (subst (CalledRefers p) (is.allocated_is q x) h)
  call_seen (e.Size' q x) h = argument_seen x (subst (CalledRefers p) (is.size_is q x) h)
  call_seen (e.Bound' o q x r y) h = let g = subst (CalledRefers p) (is.bound_is o q x r y) h in (argument_seen x g.0, value_seen y g.1)

  stat_seen : (x : Option d.Designator) → StatNodeRefers p (option_map designator_view x) → StatRefers p x
  stat_seen None h = tt
  stat_seen (Some x) h = locate_seen x h

  bound_seen : (b : Bounds) → BoundsNodeRefer p (bounds_view b) → BoundsRefer p b
  bound_seen b h = (value_seen b.lower h.0, value_seen b.upper h.1)

  request_seen : (r : Request) → RequestNodeRefers p (request_view r) → RequestRefers p r
  request_seen r h = (locate_seen r.object h.0, each_seen (BoundsNodeRefer p) (BoundsRefer p) bounds_view bound_seen r.bounds.items h.1)

  item_seen : (x : Item) → ItemNodeRefers p (item_view x) → ItemRefers p x
  item_seen (item.Value x) h = value_seen x h
  item_seen (item.Text t) h = tt

  selector_seen : (x : Selector) → SelectorNodeRefers p (selector_view x) → SelectorRefers p x
  selector_seen (selector.Variable x) h = locate_seen x h
  selector_seen (selector.Value k x) h = value_seen x h

  mutual
    pub statement_seen : (x : s.Statement) → DoneRefers p (statement_view x) → StatementRefers p x
    statement_seen (s.At' place b q x) h = statement_seen x (subst (DoneRefers p) (is.at_is place b q x) h)
    statement_seen (s.Block' k xs) h = statements_seen xs (subst (DoneRefers p) (is.block_is k xs) h)
    statement_seen (s.Assign x k y) h = let g = subst (DoneRefers p) (v.view_assign x k y) h in (locate_seen x g.0, value_seen y g.1)
    statement_seen (s.Call x) h = call_seen x (subst (DoneRefers p) (v.view_call x) h)
    statement_seen (s.MoveAlloc k b x y) h = let g = subst (DoneRefers p) (v.view_move_alloc k b x y) h in (locate_seen x g.0, locate_seen y g.1)
    statement_seen (s.Allocate rs stat) h =
        let g = subst (DoneRefers p) (v.view_allocate rs stat) h in (each_seen (RequestNodeRefers p) (RequestRefers p) request_view request_seen rs.items g.0, stat_seen stat g.1)
    statement_seen (s.Deallocate rs stat) h =
        let g = subst (DoneRefers p) (v.view_deallocate rs stat) h in (each_seen (RequestNodeRefers p) (RequestRefers p) request_view request_seen rs.items g.0, stat_seen stat g.1)
    statement_seen (s.Print xs) h = each_seen (ItemNodeRefers p) (ItemRefers p) item_view item_seen xs.items (subst (DoneRefers p) (v.view_print xs) h)
    statement_seen (s.Stop code) h = tt
    statement_seen s.Return h = tt
    statement_seen s.Cycle h = tt
    statement_seen s.Exit h = tt
    statement_seen (s.If' x q y r z) h = let g = subst (DoneRefers p) (is.branch_is x q y r z) h in (value_seen x g.0, statement_seen y g.1, statement_seen z g.2)
    statement_seen (s.Select' x q y) h = let g = subst (DoneRefers p) (is.select_is x q y) h in (value_seen x g.0, statement_seen y g.1)
    statement_seen (s.Case' rs q x r y) h = let g = subst (DoneRefers p) (is.case_is rs q x r y) h in (statement_seen x g.0, statement_seen y g.1)
    statement_seen (s.While' x q y) h = let g = subst (DoneRefers p) (is.while_is x q y) h in (value_seen x g.0, statement_seen y g.1)
    statement_seen (s.Count' x k from to step q y) h =
        let g = subst (DoneRefers p) (is.count_is x k from to step q y) h in (locate_seen x g.0, value_seen from g.1, value_seen to g.2, value_seen step g.3, statement_seen y g.4)
    statement_seen (s.Associate' xs q y) h =
        let g = subst (DoneRefers p) (is.associate_is xs q y) h in (each_seen (SelectorNodeRefers p) (SelectorRefers p) selector_view selector_seen xs.items g.0, statement_seen y g.1)

    statements_seen : {m : _} (xs : s.Row_of-Statement m) → AllDoneRefer p (statements_of (map statement_view (s.items-the_row-Statement m xs))) → BlockRefers p xs
    statements_seen s.end_of-Statement h = tt
    statements_seen (s.more_of-Statement x rest) h = (statement_seen x h.0, statements_seen rest h.1)
