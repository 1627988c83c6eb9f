-- Elaborated programs, on their data, in whose expressions each reference is one to a function: as f3_pure_laws says it of the program in
-- memory.
use Rattle.std.specs.Prelude.{◌≡◌, ⊤, true, Option, None, Some, slice_get}
use Rattle.f3_program.specs.declared.program.Program.{Program}
use Rattle.f3_meaning_whole.specs.Permitted.{Each}
use Rattle.f3_elaboration.specs.Nodes as n
use Rattle.f3_elaboration.specs.Nodes.{ExpressionNode, ArgumentNode, ArgumentNodes, DesignatorNode, SelectionNode, SubscriptNode, SubscriptNodes}
use Rattle.f3_elaboration.specs.Nodes.{ItemNode, BoundsNode, RequestNode, SelectorNode, StatementNode, StatementNodes}
use Rattle.f3_pure_laws.specs.References.{is_function}

module _ (p : Program) where
  abbrev mutual
    pub NodeRefers : ExpressionNode → Type 0
    NodeRefers (n.literal c) = ⊤
    NodeRefers (n.variable d) = PlaceRefers d
    NodeRefers (n.group x) = NodeRefers x
    NodeRefers (n.unary o of x) = NodeRefers x
    NodeRefers (n.binary o of x y) = NodeRefers x × NodeRefers y
    NodeRefers (n.array xs) = NodesRefer xs
    NodeRefers (n.structure t xs) = NodesRefer xs
    NodeRefers (n.reference f xs) = (is_function (slice_get p.procedures.items f) ≡ true) × NodesRefer xs
    NodeRefers (n.allocated d) = PlaceRefers d
    NodeRefers (n.size x) = PassedRefers x
    NodeRefers (n.bound o x y) = PassedRefers x × NodeRefers y

    pub PassedRefers : ArgumentNode → Type 0
    PassedRefers (n.value k x) = NodeRefers x
    PassedRefers (n.object k d) = PlaceRefers d

    pub NodesRefer : ArgumentNodes → Type 0
    NodesRefer n.no_arguments = ⊤
    NodesRefer (n.arguments x xs) = PassedRefers x × NodesRefer xs

    pub PlaceRefers : DesignatorNode → Type 0
    PlaceRefers (n.name x how) = TakenRefers how
    PlaceRefers (n.component d k how) = PlaceRefers d × TakenRefers how

    pub TakenRefers : SelectionNode → Type 0
    TakenRefers n.whole = ⊤
    TakenRefers n.contents = ⊤
    TakenRefers (n.elements o xs) = ChosenRefer xs

    pub ChosenRefer : SubscriptNodes → Type 0
    ChosenRefer n.no_subscripts = ⊤
    ChosenRefer (n.subscripts x xs) = OneRefers x × ChosenRefer xs

    pub OneRefers : SubscriptNode → Type 0
    OneRefers (n.subscript x) = NodeRefers x
    OneRefers (n.triplet b x c y z) = NodeRefers x × NodeRefers y × NodeRefers z

  -- a CALL is of any procedure
  abbrev pub CalledRefers : ExpressionNode → Type 0
  CalledRefers (n.reference f xs) = NodesRefer xs
  CalledRefers x = NodeRefers x

  abbrev pub StatNodeRefers : Option DesignatorNode → Type 0
  StatNodeRefers None = ⊤
  StatNodeRefers (Some d) = PlaceRefers d

  abbrev pub BoundsNodeRefer : BoundsNode → Type 0
  BoundsNodeRefer b = NodeRefers b.lower × NodeRefers b.upper

  abbrev pub RequestNodeRefers : RequestNode → Type 0
  RequestNodeRefers r = PlaceRefers r.object × Each BoundsNodeRefer r.bounds

  abbrev pub ItemNodeRefers : ItemNode → Type 0
  ItemNodeRefers (n.shown x) = NodeRefers x
  ItemNodeRefers (n.text t) = ⊤

  abbrev pub SelectorNodeRefers : SelectorNode → Type 0
  SelectorNodeRefers (n.means d) = PlaceRefers d
  SelectorNodeRefers (n.holds k x) = NodeRefers x

  abbrev mutual
    pub DoneRefers : StatementNode → Type 0
    DoneRefers (n.at place b x) = DoneRefers x
    DoneRefers (n.block xs) = AllDoneRefer xs
    DoneRefers (n.assign d k y) = PlaceRefers d × NodeRefers y
    DoneRefers (n.call x) = CalledRefers x
    DoneRefers (n.move_alloc k b d e) = PlaceRefers d × PlaceRefers e
    DoneRefers (n.allocate rs stat) = Each RequestNodeRefers rs × StatNodeRefers stat
    DoneRefers (n.deallocate rs stat) = Each RequestNodeRefers rs × StatNodeRefers stat
    DoneRefers (n.print xs) = Each ItemNodeRefers xs
    DoneRefers (n.stop code) = ⊤
    DoneRefers n.return = ⊤
    DoneRefers n.cycle = ⊤
    DoneRefers n.exit = ⊤
    DoneRefers (n.branch x y z) = NodeRefers x × DoneRefers y × DoneRefers z
    DoneRefers (n.select x y) = NodeRefers x × DoneRefers y
    DoneRefers (n.case rs x y) = DoneRefers x × DoneRefers y
    DoneRefers (n.while x y) = NodeRefers x × DoneRefers y
    DoneRefers (n.count d k from to step y) = PlaceRefers d × NodeRefers from × NodeRefers to × NodeRefers step × DoneRefers y
    DoneRefers (n.associate xs y) = Each SelectorNodeRefers xs × DoneRefers y

    pub AllDoneRefer : StatementNodes → Type 0
    AllDoneRefer n.no_statements = ⊤
    AllDoneRefer (n.statements x xs) = DoneRefers x × AllDoneRefer xs
