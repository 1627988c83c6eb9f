use Rattle.f3_code.specs.declared.instruction.Instruction.TheVariants as i
use Rattle.f3_word_objects.proofs.Passing.{lost}
use Rattle.f3_word_objects.proofs.Beside.{on-beside, beside-lost, beside-located}
use Rattle.f3_word_objects.proofs.locating.component_beside.Goals as goal

pub returns-in_default-clause-does : goal.returns-in_default-clause-does
returns-in_default-clause-does c = λ live short.
    lost c.args.scene.program.now live c.args.state.now (i.ComponentOf c.args.number) c.pop_object.new.state c.pop_object.new.state (on-beside c.args.scene.program.now live c.args.state.now c.args.number) c.in_default.ensures.taken

pub returns-in_default-beside-clause-does : goal.returns-in_default-beside-clause-does
returns-in_default-beside-clause-does c = λ live short.
    beside-lost c.args.scene.program.now live short c.args.scene.types c.requires.scene.types c.args.state.now c.pop_object.new.state c.in-Some.object c.in-Some.ensures.taken c.args.number c.pop_object.new.state c.in_default-beside.ensures

pub returns-clause-does : goal.returns-clause-does
returns-clause-does c = λ live short.
    beside-located c.args.scene.program.now live short c.args.scene.types c.requires.scene.types c.args.state.now c.pop_object.new.state c.in-Some.object c.in-Some.ensures.taken c.args.number c.in-Some-beside.part
    c.push.new.self _ c.in-Some-beside.ensures c.push.ensures c.go_on_with.ensures
