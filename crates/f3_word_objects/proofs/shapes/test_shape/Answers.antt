use Rattle.std.proofs.Common.{◌∙◌, sym}
use Rattle.f3_code.specs.declared.instruction.Instruction.TheVariants as i
use Rattle.f3_word_objects.proofs.Passing.{lost}
use Rattle.f3_word_objects.proofs.Shaping.{on-shape, datum-lost, shape-fails, shape-passes}
use Rattle.f3_word_objects.proofs.shapes.test_shape.Goals as goal

pub returns-in_default-clause-does : goal.returns-in_default-clause-does
returns-in_default-clause-does c = λ p live. lost p live c.args.state.now i.TestShape c.pop_object.new.state c.pop_object.new.state (on-shape p live c.args.state.now) c.in_default.ensures.taken

pub returns-in_default-pop_datum-clause-does : goal.returns-in_default-pop_datum-clause-does
returns-in_default-pop_datum-clause-does c = λ p live t l x told there is st.
    absurd (datum-lost p live c.args.state.now c.pop_object.new.state c.in-Some.object c.in-Some.ensures.taken t l x told there is st c.pop_datum.new.state c.in_default-pop_datum.ensures.taken)

pub returns-then-not-conforms-clause-does : goal.returns-then-not-conforms-clause-does
returns-then-not-conforms-clause-does c = λ p live.
    shape-fails p live c.args.state.now c.pop_object.new.state c.pop_datum.new.state c.in-Some.object c.in-Some-pop_datum.datum c.in-Some.ensures.taken c.in-Some-pop_datum.ensures.taken c.pop_datum.new.state
    (sym c.conforms.ensures ∙ c.if-not-conforms.true)

pub returns-clause-does : goal.returns-clause-does
returns-clause-does c = λ p live.
    shape-passes p live c.args.state.now c.pop_object.new.state c.pop_datum.new.state c.in-Some.object c.in-Some-pop_datum.datum c.in-Some.ensures.taken c.in-Some-pop_datum.ensures.taken c.push.new.self _
    (sym c.conforms.ensures ∙ c.if-not-conforms.false) c.push.ensures c.go_on_with.ensures
