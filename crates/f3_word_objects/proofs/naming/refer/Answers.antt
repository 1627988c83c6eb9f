use Rattle.f3_word_objects.proofs.Referring.{refer-lost, refers}
use Rattle.f3_word_objects.proofs.naming.refer.Goals as goal

pub returns-in-Some-clause-does : goal.returns-in-Some-clause-does
returns-in-Some-clause-does c = λ live. refers c.args.scene c.requires.scene live c.args.state.now c.args.name c.in-Some.object _ c.in-Some.ensures c.go_on_with.ensures

pub returns-in-None-clause-does : goal.returns-in-None-clause-does
returns-in-None-clause-does c = λ live. refer-lost c.args.scene c.requires.scene live c.args.state.now c.args.name c.args.state.now c.in-None.ensures
