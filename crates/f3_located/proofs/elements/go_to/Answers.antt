use Rattle.std.proofs.Common.{◌∙◌}
use Rattle.f3_located.proofs.Moving.{moved}
use Rattle.f3_located.proofs.elements.go_to.Goals as goal

pub returns : goal.returns
returns c = λ tail n h. moved c.args.path.now c.args.array.now tail n c.args.place c.len.result (c.len.ensures ∙ c.args.array.now.steps.ok.0) h
