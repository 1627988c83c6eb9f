use Rattle.std.proofs.Common.{map, ap, ◌∙◌}
use Rattle.f3_elaboration.specs.Nodes as n
use Rattle.f3_elaboration.specs.Views.{statement_view}
use Rattle.f3_construct_nodes.specs.Nested.{case_of, chosen}
use Rattle.f3_construct_nodes.proofs.Folds.{case_pushed}
use Rattle.f3_construct_nodes.proofs.cases.add_values.Goals as goal

pub returns-in_ok-push-in-Ok : goal.returns-in_ok-push-in-Ok
returns-in_ok-push-in-Ok c = λ rest.
    let old = c.args.found.now.items in
    case_pushed old c.push.new.self.items (record { ranges = c.in-Ok.ranges; block = c.args.block }) rest c.in_ok-push-in-Ok.ensures.items
    ∙ ap (λ rs. chosen (map case_of old) (n.case rs (statement_view c.args.block) rest)) c.in-Ok.ensures
