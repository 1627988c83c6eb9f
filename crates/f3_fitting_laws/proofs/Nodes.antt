-- What fits in an elaborated program, on its data: as f3_cell_kinds says it of the program in memory.
use Rattle.std.specs.Prelude.{Bool, true, not, ◌&&◌, map, Option}
use Rattle.f3_program.specs.declared.declarations.Kind.{Kind}
use Rattle.f3_program.specs.declared.program.Program.{Program}
use Rattle.f3_meaning_whole.specs.Formed.{all, some, given_all, or_none}
use Rattle.f3_cell_kinds.specs.Types.{Scope, selecting, associating}
use Rattle.f3_cell_kinds.specs.Effect.{is_word, unary_fits, binary_fits, are_values, are_for, range_fits}
use Rattle.f3_cell_kinds.specs.Values.{kind_or}
use Rattle.f3_cell_kinds.specs.Sense.{none_or}
use Rattle.f3_elaboration.specs.Nodes as n
use Rattle.f3_elaboration.specs.Nodes.{ExpressionNode, ArgumentNode, ArgumentNodes, DesignatorNode, SelectionNode, SubscriptNode, SubscriptNodes}
use Rattle.f3_elaboration.specs.Nodes.{ItemNode, BoundsNode, RequestNode, SelectorNode, StatementNode, StatementNodes}
use Rattle.f3_formed_laws.specs.Nodes.{value_kind, arguments, selected}

module _ (p : Program) where
  module _ (c : Scope) where
    abbrev pub kind : ExpressionNode → Option Kind
    kind x = value_kind p c.variables c.names x

    abbrev mutual
      pub value_fits : ExpressionNode → Bool
      value_fits (n.literal k) = is_word k
      value_fits (n.variable d) = object_fits d
      value_fits (n.group x) = value_fits x
      value_fits (n.unary o t x) = some (kind x) (unary_fits o t) && value_fits x
      value_fits (n.binary o t x y) = some (kind x) (λ k. some (kind y) (binary_fits o t k)) && (value_fits x && value_fits y)
      value_fits (n.array xs) = some (given_all (arguments p c.variables c.names xs)) are_values && arguments_fit xs
      value_fits (n.structure t xs) = some (given_all (arguments p c.variables c.names xs)) (are_for p.types.items t) && arguments_fit xs
      value_fits (n.reference f xs) = arguments_fit xs
      value_fits (n.allocated d) = object_fits d
      value_fits (n.size x) = argument_fits x
      value_fits (n.bound o x y) = argument_fits x && value_fits y

      pub argument_fits : ArgumentNode → Bool
      argument_fits (n.value k x) = value_fits x
      argument_fits (n.object k d) = object_fits d

      pub arguments_fit : ArgumentNodes → Bool
      arguments_fit n.no_arguments = true
      arguments_fit (n.arguments x xs) = argument_fits x && arguments_fit xs

      pub object_fits : DesignatorNode → Bool
      object_fits (n.name x how) = selection_fits how
      object_fits (n.component d k how) = object_fits d && selection_fits how

      pub selection_fits : SelectionNode → Bool
      selection_fits n.whole = true
      selection_fits n.contents = true
      selection_fits (n.elements is_opened xs) = subscripts_fit xs

      pub subscripts_fit : SubscriptNodes → Bool
      subscripts_fit n.no_subscripts = true
      subscripts_fit (n.subscripts x xs) = subscript_fits x && subscripts_fit xs

      pub subscript_fits : SubscriptNode → Bool
      subscript_fits (n.subscript x) = value_fits x
      subscript_fits (n.triplet b x d y z) = value_fits x && (value_fits y && value_fits z)

    abbrev pub bounds_fit : BoundsNode → Bool
    bounds_fit b = value_fits b.lower && value_fits b.upper

    abbrev pub request_fits : RequestNode → Bool
    request_fits r = object_fits r.object && all bounds_fit r.bounds

    abbrev pub item_fits : ItemNode → Bool
    item_fits (n.shown x) = value_fits x
    item_fits (n.text t) = true

    abbrev pub selector_fits : SelectorNode → Bool
    selector_fits (n.means d) = object_fits d
    selector_fits (n.holds k x) = not k.is_allocatable && value_fits x

  abbrev mutual
    pub statement_fits : StatementNode → Scope → Bool
    statement_fits (n.at place b x) c = statement_fits x c
    statement_fits (n.block xs) c = statements_fit xs c
    statement_fits (n.assign d k y) c = object_fits c d && value_fits c y
    statement_fits (n.call x) c = value_fits c x
    statement_fits (n.move_alloc k b d e) c = object_fits c d && object_fits c e
    statement_fits (n.allocate rs stat) c = all (request_fits c) rs && none_or stat (object_fits c)
    statement_fits (n.deallocate rs stat) c = all (request_fits c) rs && none_or stat (object_fits c)
    statement_fits (n.print xs) c = all (item_fits c) xs
    statement_fits (n.stop code) c = true
    statement_fits n.return c = true
    statement_fits n.cycle c = true
    statement_fits n.exit c = true
    statement_fits (n.branch x y z) c = value_fits c x && (statement_fits y c && statement_fits z c)
    statement_fits (n.select x y) c = value_fits c x && statement_fits y (selecting (kind_or (kind c x)) c)
    statement_fits (n.case rs x y) c = some c.selected (λ k. all (range_fits k.of) rs) && (statement_fits x c && statement_fits y c)
    statement_fits (n.while x y) c = value_fits c x && statement_fits y c
    statement_fits (n.count d k from to step y) c = object_fits c d && (value_fits c from && (value_fits c to && (value_fits c step && statement_fits y c)))
    statement_fits (n.associate xs y) c = all (selector_fits c) xs
        && statement_fits y (associating (or_none (given_all (map (selected p c.variables c.names) xs))) c)

    pub statements_fit : StatementNodes → Scope → Bool
    statements_fit n.no_statements c = true
    statements_fit (n.statements x xs) c = statement_fits x c && statements_fit xs c
