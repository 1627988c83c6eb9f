use Rattle.std.proofs.Common.{◌≡◌, List, map, ap, ◌∙◌}
use Rattle.f3_program.specs.declared.declarations.Kind.{Kind}
use Rattle.f3_tree.specs.Expressions.{part_view, parts_list}
use Rattle.f3_elaboration.specs.Actions.{bounds, kind_by, last_given}
use Rattle.f3_elaboration.specs.Nodes.{BoundsNode, DesignatorNode, RequestNode}
use Rattle.f3_numbers.specs.Surroundings.{surroundings_of}
use Rattle.f3_action_nodes.proofs.Unbounding.{object_made}
use Rattle.f3_action_nodes.proofs.requests.request.Goals as goal

abbrev of_three : DesignatorNode → Kind → List BoundsNode → RequestNode
of_three d k bs = record { object = d; kind = k; bounds = bs }

same : (d e : DesignatorNode) (j k : Kind) (bs cs : List BoundsNode) → d ≡ e → j ≡ k → bs ≡ cs → of_three d j bs ≡ of_three e k cs
same d e j k bs cs object kind bounds =
    ap (λ x. of_three x j bs) object ∙ ap (λ x. of_three e x bs) kind ∙ ap (of_three e k) bounds

pub returns : goal.returns
returns c =
    same _ _ _ _ _ _
    (object_made (surroundings_of c.args.from) (parts_list (map part_view c.args.list.now)) _ _ _ _ _ _ _ c.in_ok-has.ensures c.type_in.ensures
    c.in_ok-whole.ensures c.in_ok-object.ensures.before c.in_ok-object-2.ensures c.named.ensures c.itself.ensures)
    (c.kind_by.ensures ∙ ap (kind_by (surroundings_of c.args.from)) c.in_ok-has.ensures)
    (c.in_ok-bounds.ensures ∙ ap (map bounds) (c.in_ok-object.ensures.behind ∙ ap last_given c.in_ok-whole.ensures))
