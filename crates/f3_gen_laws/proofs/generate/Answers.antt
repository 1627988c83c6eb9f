use Rattle.f3_code_laws.proofs.Source.{translated}
use Rattle.f3_gen_laws.proofs.Meaning.{means}
use Rattle.f3_gen_laws.proofs.generate.Goals as goal

pub returns-clause-meaning : goal.returns-clause-meaning
returns-clause-meaning c = means translated c.args.program.now c.emit_program.result c.emit_program.ensures
