use Rattle.std.proofs.Common.{codes, refl, ◌∙◌}
use Rattle.clap.specs.Matches.{found_of}
use Rattle.clap.specs.Walk.{rows_of}
use Rattle.clap.proofs.WalkLemmas.{raw_values-rows}
use Rattle.f3_command.proofs.Asked.{asked_is, values_so, acts_so}
use Rattle.f3_command.proofs.program.act.Goals as goal

pub returns : goal.returns
returns g c =
    let found = found_of c.in-Some.inner.now in
    let named = values_so c.unwrap_or-names.result c.get_strs.result _ _ c.unwrap_or-names.ensures refl (c.get_strs.ensures ∙ raw_values-rows found (codes "FILE")) in
    let asked = asked_is c.args.matches.now c.in-Some.name.now (rows_of found) c.in-Some.ensures.name c.in-Some.ensures.rows in
    acts_so _ _ _ _ _ c.task.result _ _ _ _ _ asked named c.task.ensures.whole c.perform.ensures
