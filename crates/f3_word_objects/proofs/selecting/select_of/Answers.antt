use Rattle.std.proofs.Common.{◌≡◌, ◌∙◌, ◌∷◌, sym, ap, true, false, reverse, take, arith}
use Rattle.f3_code.specs.declared.instruction.Instruction.TheVariants as i
use Rattle.f3_cell_kinds.specs.Effect.{part_cell}
use Rattle.f3_cell_kinds.specs.Types as cell
use Rattle.f3_word_objects.proofs.Above.{choices-there}
use Rattle.f3_word_objects.proofs.Around.{elements-fail, elements-pass, few-chosen, part-on-top, part-there, whole-there}
use Rattle.f3_word_objects.proofs.Popping.{choice-cells, popped-pc}
use Rattle.f3_word_objects.proofs.selecting.select_of.Goals as goal
use Rattle.f3_word_objects.proofs.selecting.select_of.Goals.{then-is_opened-via-then-is_opened, then-is_opened-via-else-is_opened+then-count-gt7}

pub returns-then-is_opened-clause-does : goal.returns-then-is_opened-clause-does
returns-then-is_opened-clause-does c = λ live short t l x told there is st.
    let found = part-on-top c.args.scene.program.now t l c.args.is_opened c.args.number c.args.count told there is in
    let few = few-chosen c.args.scene.program.now t c.args.number c.args.count c.requires.ranks told found.1 in
    elim c.then-is_opened.branch [
      | then-is_opened-via-then-is_opened w ↦ absurd (let e = w.if-is_opened.true in let wrong : true ≡ false = sym e ∙ found.0 in cc)
      | then-is_opened-via-else-is_opened+then-count-gt7 w ↦ absurd (let e = w.if-count-gt7.true in omega (arith, e, few))
    ]

pub returns-in_default-clause-does : goal.returns-in_default-clause-does
returns-in_default-clause-does c = λ live short t l x told there is st.
    let h = (part-on-top c.args.scene.program.now t l c.args.is_opened c.args.number c.args.count told there is).1 in
    absurd (choices-there c.args.scene.program.now t live c.args.state.now x c.args.count (part_cell h.whole c.args.number h.part.declared.kind) (cell.Object h.whole ∷ h.rest) st h.top c.pop_choices.new.state
    c.in_default.ensures.taken)

pub returns-in_default-pop-clause-does : goal.returns-in_default-pop-clause-does
returns-in_default-pop-clause-does c = λ live short t l x told there is st.
    let h = (part-on-top c.args.scene.program.now t l c.args.is_opened c.args.number c.args.count told there is).1 in
    let taken = c.in-Some.ensures.taken in
    absurd (part-there c.args.scene.program.now live c.args.state.now c.pop_choices.new.state c.args.number c.args.count c.in-Some.chosen taken.0 taken.1 t x st h c.pop.new.self c.in_default-pop.ensures)

pub returns-in_default-pop_object-clause-does : goal.returns-in_default-pop_object-clause-does
returns-in_default-pop_object-clause-does c = λ live short t l x told there is st.
    let h = (part-on-top c.args.scene.program.now t l c.args.is_opened c.args.number c.args.count told there is).1 in
    let taken = c.in-Some.ensures.taken in
    absurd (whole-there c.args.scene.program.now live c.args.state.now c.pop_choices.new.state c.args.number c.args.count c.in-Some.chosen taken.0 taken.1 t x st h c.in-Some-pop.part c.pop.new.self c.in-Some-pop.ensures
    c.pop_object.new.state c.in_default-pop_object.ensures.taken)

pub go_on_with-requires-clause-pc : goal.go_on_with-requires-clause-pc
go_on_with-requires-clause-pc c =
    let a = popped-pc (choice-cells (reverse (take c.args.count c.in-Some.chosen))) c.args.state.now c.pop_choices.new.state c.in-Some.ensures.taken.1 in
    let b = c.in-Some-pop.ensures.pc in
    let e = c.in-Some-pop_object.ensures.taken.pc in
    let d = c.requires.pc in
    omega arith

pub returns-in-Ok-clause-does : goal.returns-in-Ok-clause-does
returns-in-Ok-clause-does c = λ live short t l x told there is st.
    let found = part-on-top c.args.scene.program.now t l c.args.is_opened c.args.number c.args.count told there is in
    let line : l.act ≡ i.SelectOf false c.args.number c.args.count = is ∙ ap (λ b. i.SelectOf b c.args.number c.args.count) found.0 in
    let taken = c.in-Some.ensures.taken in
    elements-pass c.args.scene.program.now live short c.args.scene.types c.requires.scene.types c.args.state.now c.pop_choices.new.state c.pop.new.self c.pop_object.new.state c.args.number c.args.count c.in-Some.chosen
    taken.0 taken.1 c.in-Some-pop_object._whole c.in-Some-pop_object.ensures.taken t l x told st line found.1 c.in-Some-pop.part c.in-Ok.object _ c.in-Some-pop.ensures c.in-Ok.ensures c.go_on_with.ensures

pub returns-in-Err-clause-does : goal.returns-in-Err-clause-does
returns-in-Err-clause-does c = λ live short t l x told there is st.
    let found = part-on-top c.args.scene.program.now t l c.args.is_opened c.args.number c.args.count told there is in
    let line : l.act ≡ i.SelectOf false c.args.number c.args.count = is ∙ ap (λ b. i.SelectOf b c.args.number c.args.count) found.0 in
    let taken = c.in-Some.ensures.taken in
    elements-fail c.args.scene.program.now live short c.args.scene.types c.requires.scene.types c.args.state.now c.pop_choices.new.state c.pop.new.self c.pop_object.new.state c.args.number c.args.count c.in-Some.chosen
    taken.0 taken.1 c.in-Some-pop_object._whole c.in-Some-pop_object.ensures.taken t l x told st line found.1 c.in-Some-pop.part c.in-Err.stop c.pop_object.new.state c.in-Some-pop.ensures c.in-Err.ensures
