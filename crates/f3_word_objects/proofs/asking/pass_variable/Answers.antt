use Rattle.f3_word_objects.proofs.Passing.{lost, on-pass, passes}
use Rattle.f3_word_objects.proofs.asking.pass_variable.Goals as goal

pub returns-in_default-clause-does : goal.returns-in_default-clause-does
returns-in_default-clause-does c = λ p live. lost p live c.args.state.now _ c.pop_object.new.state c.pop_object.new.state (on-pass p live c.args.state.now c.args.number) c.in_default.ensures.taken

pub returns-clause-does : goal.returns-clause-does
returns-clause-does c = λ p live. passes p live c.args.state.now c.pop_object.new.state _ c.in-Some.object c.args.number c.in-Some.ensures.taken c.go_on_with.ensures
