use Rattle.std.proofs.Common.{◌∙◌}
use Rattle.f3_declaration_nodes.proofs.Varying.{plain_stands}
use Rattle.f3_declaration_nodes.proofs.variables.typed_result.Goals as goal

pub returns : goal.returns
returns c = λ w inner h. c.make_result.ensures ∙ plain_stands c.args.whole w inner c.args.scope c.args.specifier h
