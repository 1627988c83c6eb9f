-- What an elaborated program may do, on its data: as f3_meaning_whole says it of the program in memory.
use Rattle.std.specs.Prelude.{◌≡◌, ⊤, not, ◌||◌, true, false, List, [], ◌∷◌, Option, None, Some, slice_index_or}
use Rattle.f3_program.specs.declared.declarations.Kind.{Kind}
use Rattle.f3_program.specs.declared.program.Program.{Program}
use Rattle.f3_meaning_whole.specs.Act.{component_type}
use Rattle.f3_meaning_whole.specs.Permitted.{Each, Lendable, Scope, unknown, names_in, name_of, naming, selectable, same_type}
use Rattle.f3_elaboration.specs.Nodes as n
use Rattle.f3_elaboration.specs.Nodes.{ExpressionNode, ArgumentNode, ArgumentNodes, DesignatorNode, SelectionNode, SubscriptNode, SubscriptNodes}
use Rattle.f3_elaboration.specs.Nodes.{ItemNode, BoundsNode, RequestNode, SelectorNode, StatementNode, StatementNodes}

module _ (p : Program) (scope : Scope) where
  -- a designator is definable where its first name is; its type is that of its last component
  abbrev pub designated : DesignatorNode → Lendable
  designated (n.name x how) = name_of p scope x
  designated (n.component d k how) = record { may_define = (designated d).may_define; of = component_type p.types.items (designated d).of k }

  -- a value is given for an INTENT(IN) dummy alone, a definable variable for any other, and one of its type (12.4.1.2)
  abbrev pub NodePasses : List Lendable → ArgumentNode → Type 0
  NodePasses ds (n.value k x) = (slice_index_or ds k unknown).may_define ≡ false
  NodePasses ds (n.object k d) = ((not (slice_index_or ds k unknown).may_define || (designated d).may_define) ≡ true)
      × (same_type (designated d).of (slice_index_or ds k unknown).of ≡ true)

  abbrev pub NodesPass : List Lendable → ArgumentNodes → Type 0
  NodesPass ds n.no_arguments = ⊤
  NodesPass ds (n.arguments x xs) = NodePasses ds x × NodesPass ds xs

  abbrev mutual
    pub NodeValue : ExpressionNode → Type 0
    NodeValue (n.literal c) = ⊤
    NodeValue (n.variable d) = NodeLocate d
    NodeValue (n.group x) = NodeValue x
    NodeValue (n.unary o of x) = NodeValue x
    NodeValue (n.binary o of x y) = NodeValue x × NodeValue y
    NodeValue (n.array xs) = NodeArguments xs
    NodeValue (n.structure t xs) = NodeArguments xs
    NodeValue (n.reference f xs) = NodeArguments xs × NodesPass (names_in p f) xs
    NodeValue (n.allocated d) = NodeLocate d
    NodeValue (n.size x) = NodeArgument x
    NodeValue (n.bound o x y) = NodeArgument x × NodeValue y

    pub NodeArgument : ArgumentNode → Type 0
    NodeArgument (n.value k x) = NodeValue x
    NodeArgument (n.object k d) = NodeLocate d

    pub NodeArguments : ArgumentNodes → Type 0
    NodeArguments n.no_arguments = ⊤
    NodeArguments (n.arguments x xs) = NodeArgument x × NodeArguments xs

    pub NodeLocate : DesignatorNode → Type 0
    NodeLocate (n.name x how) = NodeTake how
    NodeLocate (n.component d k how) = NodeLocate d × (selectable p scope.unit (designated d).of k ≡ true) × NodeTake how

    pub NodeTake : SelectionNode → Type 0
    NodeTake n.whole = ⊤
    NodeTake n.contents = ⊤
    NodeTake (n.elements o xs) = NodeSubscripts xs

    pub NodeSubscripts : SubscriptNodes → Type 0
    NodeSubscripts n.no_subscripts = ⊤
    NodeSubscripts (n.subscripts x xs) = NodeSubscript x × NodeSubscripts xs

    pub NodeSubscript : SubscriptNode → Type 0
    NodeSubscript (n.subscript x) = NodeValue x
    NodeSubscript (n.triplet b x c y z) = NodeValue x × NodeValue y × NodeValue z

  -- a variable in a definition context (16.5.7)
  abbrev pub NodeDefines : DesignatorNode → Type 0
  NodeDefines d = NodeLocate d × ((designated d).may_define ≡ true)

  -- so, and it is of this type
  abbrev pub NodeDefinesAs : Kind → DesignatorNode → Type 0
  NodeDefinesAs k d = NodeDefines d × (same_type (designated d).of k.of ≡ true)

  abbrev pub NodeStat : Option DesignatorNode → Type 0
  NodeStat None = ⊤
  NodeStat (Some d) = NodeDefines d

  abbrev pub NodeBounds : BoundsNode → Type 0
  NodeBounds b = NodeValue b.lower × NodeValue b.upper

  abbrev pub NodeRequest : RequestNode → Type 0
  NodeRequest r = NodeDefinesAs r.kind r.object × Each NodeBounds r.bounds

  abbrev pub NodeItem : ItemNode → Type 0
  NodeItem (n.shown x) = NodeValue x
  NodeItem (n.text t) = ⊤

  abbrev pub NodeSelector : SelectorNode → Type 0
  NodeSelector (n.means d) = NodeLocate d
  NodeSelector (n.holds k x) = NodeValue x

  -- an associate name may be defined where its selector is a definable variable (8.1.4.3)
  abbrev pub names_by : List SelectorNode → List Lendable
  names_by [] = []
  names_by (n.means d ∷ xs) = designated d ∷ names_by xs
  names_by (n.holds k x ∷ xs) = record { may_define = false; of = k.of } ∷ names_by xs

-- statements whose definition contexts have definable variables alone
module _ (p : Program) where
  abbrev mutual
    pub NodeRuns : StatementNode → Scope → Type 0
    NodeRuns (n.at place b x) scope = NodeRuns x scope
    NodeRuns (n.block xs) scope = NodesRun xs scope
    NodeRuns (n.assign d k y) scope = NodeDefinesAs p scope k d × NodeValue p scope y
    NodeRuns (n.call x) scope = NodeValue p scope x
    NodeRuns (n.move_alloc k b d e) scope = NodeDefinesAs p scope k d × NodeDefinesAs p scope k e
    NodeRuns (n.allocate rs stat) scope = Each (NodeRequest p scope) rs × NodeStat p scope stat
    NodeRuns (n.deallocate rs stat) scope = Each (NodeRequest p scope) rs × NodeStat p scope stat
    NodeRuns (n.print xs) scope = Each (NodeItem p scope) xs
    NodeRuns (n.stop code) scope = ⊤
    NodeRuns n.return scope = ⊤
    NodeRuns n.cycle scope = ⊤
    NodeRuns n.exit scope = ⊤
    NodeRuns (n.branch x y z) scope = NodeValue p scope x × NodeRuns y scope × NodeRuns z scope
    NodeRuns (n.select x y) scope = NodeValue p scope x × NodeRuns y scope
    NodeRuns (n.case rs x y) scope = NodeRuns x scope × NodeRuns y scope
    NodeRuns (n.while x y) scope = NodeValue p scope x × NodeRuns y scope
    NodeRuns (n.count d k from to step y) scope =
        NodeDefines p scope d × NodeValue p scope from × NodeValue p scope to × NodeValue p scope step × NodeRuns y scope
    NodeRuns (n.associate xs y) scope = Each (NodeSelector p scope) xs × NodeRuns y (naming (names_by p scope xs) scope)

    pub NodesRun : StatementNodes → Scope → Type 0
    NodesRun n.no_statements scope = ⊤
    NodesRun (n.statements x xs) scope = NodeRuns x scope × NodesRun xs scope
