use Rattle.f3_tree.specs.Tree.{view}
use Rattle.std.proofs.Common.{◌∙◌}
use Rattle.std.proofs.lemmas.Result.{IfOk-weaker}
use Rattle.f3_name_table.proofs.Shown.{all_same}
use Rattle.f3_name_table.proofs.lines.table_text.Goals as goal

pub returns : goal.returns
returns c = IfOk-weaker c.units_text.result _ _ (λ text h. h ∙ all_same (view c.args.program.now) c.args.names.now c.requires) c.units_text.ensures
