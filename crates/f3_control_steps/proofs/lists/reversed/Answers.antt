use Rattle.std.proofs.Common.{reverse}
use Rattle.f3_data.specs.References.{references_of}
use Rattle.std.proofs.Common.{ap, ◌∙◌}
use Rattle.std.proofs.lemmas.List.{reverse-reverse}
use Rattle.f3_control_steps.proofs.lists.reversed.Goals as goal

pub returns : goal.returns
returns c = ap (λ xs. references_of (reverse xs)) c.reverse.ensures.items ∙ ap references_of (reverse-reverse _) ∙ c.in_ok-all.ensures
