use Rattle.std.proofs.Common.{map, string_bytes, ap, ◌∙◌}
use Rattle.f3_rules.specs.Least.{earlier_of}
use Rattle.f3_name_rules.proofs.Steps.{scope_step}
use Rattle.f3_name_rules.proofs.first_access_break.Goals as goal

pub loop-number-preserved : goal.loop-number-preserved
loop-number-preserved c =
    scope_step c.args.tables.now (map string_bytes c.args.names.now.keys) c.args.outlines.now c.loop-number.number c.index-outlines-number.result c.loop-number.first c.earlier-first.result _ c.loop-number-test.true c.index-outlines-number.is
    (c.earlier-first.ensures ∙ ap (earlier_of c.loop-number.first) c.first_in_scope.ensures) c.loop-number.invariant
