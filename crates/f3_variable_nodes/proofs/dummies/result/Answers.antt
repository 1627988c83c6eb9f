use Rattle.std.proofs.Common.{◌∙◌}
use Rattle.f3_tree.specs.Tree.{procedure_view}
use Rattle.f3_variable_nodes.proofs.Procedures.{result_stands}
use Rattle.f3_variable_nodes.proofs.dummies.result.Goals as goal

pub returns : goal.returns
returns c = λ w inner m h scope tree.
    c.in_ok-made.ensures
    ∙ result_stands c.args.whole w inner c.args.unit c.args.scope m (procedure_view c.args.procedure.now) c.args.procedure.now.header.kind h scope tree
