use Rattle.std.proofs.Common.{◌≡◌, ◌∙◌, ◌++◌, ◌∷◌, ℕ, sym, ap, true, false, List, length, reverse, take, ⊎_elim, arith}
use Rattle.std.specs.Prelude.{Some}
use Rattle.f3_code.specs.declared.instruction.Instruction.TheVariants as i
use Rattle.f3_cell_kinds.specs.Types as cell
use Rattle.f3_word_cells.specs.declared.cell.Cell.{Cell}
use Rattle.f3_word_cells.specs.declared.cell.Cell.TheVariants as c
use Rattle.f3_word_cells.specs.declared.cell.Object.{Object}
use Rattle.f3_word_objects.specs.Shapes.{dims_of}
use Rattle.f3_word_objects.proofs.Sectioning.{array-on-top, rank-is, object-beneath, section-passes, section-fails}
use Rattle.f3_word_objects.proofs.Above.{choices-there}
use Rattle.f3_word_objects.proofs.Popping.{choice-cells, popped-pc}
use Rattle.f3_word_objects.proofs.selecting.select.Goals as goal

-- what is told of the rank of all cells, told of those of the state
in-state : (xs ys : List Cell) (n : ℕ) (result : _) → xs ≡ ys
    → ((front behind : List Cell) (z : Object) → xs ≡ front ++ c.Object z ∷ behind → length behind ≡ n → result ≡ Some (length (dims_of z)))
    → (front behind : List Cell) (z : Object) → ys ≡ front ++ c.Object z ∷ behind → length behind ≡ n → result ≡ Some (length (dims_of z))
in-state xs ys n result same of front behind z e many = of front behind z (same ∙ e) many

pub returns-in_default-clause-does : goal.returns-in_default-clause-does
returns-in_default-clause-does c = λ p live short t l x told there is st.
    let e = rank-is p live c.args.state.now c.args.count t x st (array-on-top p t l c.args.is_opened c.args.count told there is).1 c.rank_beneath.result
    (in-state c.as_slice.result.now c.args.state.now.cells.items.items c.args.count c.rank_beneath.result c.as_slice.ensures.value c.rank_beneath.ensures.is) in
    absurd (c.in_default.not-Some c.args.count e)

pub returns-then-is_opened-clause-does : goal.returns-then-is_opened-clause-does
returns-then-is_opened-clause-does c = λ p live short t l x told there is st.
    let e = rank-is p live c.args.state.now c.args.count t x st (array-on-top p t l c.args.is_opened c.args.count told there is).1 c.rank_beneath.result
    (in-state c.as_slice.result.now c.args.state.now.cells.items.items c.args.count c.rank_beneath.result c.as_slice.ensures.value c.rank_beneath.ensures.is) in
    let shut = (array-on-top p t l c.args.is_opened c.args.count told there is).0 in
    let same : Some c.in-Some.rank ≡ Some c.args.count = sym c.in-Some.is ∙ e in
    absurd (⊎_elim (λ opened. let wrong : true ≡ false = sym opened ∙ shut in cc) (λ h. h.1 cc) c.then-is_opened.either)

pub returns-in_default-pop_choices-clause-does : goal.returns-in_default-pop_choices-clause-does
returns-in_default-pop_choices-clause-does c = λ p live short t l x told there is st.
    let h = (array-on-top p t l c.args.is_opened c.args.count told there is).1 in
    absurd (choices-there p t live c.args.state.now x c.args.count (cell.Object h.kind) h.rest st h.top c.pop_choices.new.state c.in_default-pop_choices.ensures.taken)

pub returns-in_default-pop_object-clause-does : goal.returns-in_default-pop_object-clause-does
returns-in_default-pop_object-clause-does c = λ p live short t l x told there is st.
    let taken = c.in-Some-pop_choices.ensures.taken in
    absurd (object-beneath p live c.args.state.now c.args.count t x st (array-on-top p t l c.args.is_opened c.args.count told there is).1 c.pop_choices.new.state c.pop_object.new.state c.in-Some-pop_choices.chosen taken.0 taken.1 c.in_default-pop_object.ensures.taken)

pub go_on_with-requires-clause-pc : goal.go_on_with-requires-clause-pc
go_on_with-requires-clause-pc c =
    let a = popped-pc (choice-cells (reverse (take c.args.count c.in-Some-pop_choices.chosen))) c.args.state.now c.pop_choices.new.state c.in-Some-pop_choices.ensures.taken.1 in
    let b = c.in-Some-pop_object.ensures.taken.pc in
    let d = c.requires.pc in
    omega arith

pub returns-in-Ok-clause-does : goal.returns-in-Ok-clause-does
returns-in-Ok-clause-does c = λ p live short t l x told there is st.
    let taken = c.in-Some-pop_choices.ensures.taken in
    let found = array-on-top p t l c.args.is_opened c.args.count told there is in
    let line : l.act ≡ i.Select false c.args.count = is ∙ ap (λ b. i.Select b c.args.count) found.0 in
    section-passes p live short c.args.state.now c.pop_choices.new.state c.pop_object.new.state c.args.count c.in-Some-pop_choices.chosen c.in-Some-pop_object.object taken.0 taken.1 c.in-Some-pop_object.ensures.taken
    t l x told st line found.1 c.in-Ok.part _ c.in-Ok.ensures c.go_on_with.ensures

pub returns-in-Err-clause-does : goal.returns-in-Err-clause-does
returns-in-Err-clause-does c = λ p live short t l x told there is st.
    let taken = c.in-Some-pop_choices.ensures.taken in
    let found = array-on-top p t l c.args.is_opened c.args.count told there is in
    let line : l.act ≡ i.Select false c.args.count = is ∙ ap (λ b. i.Select b c.args.count) found.0 in
    section-fails p live short c.args.state.now c.pop_choices.new.state c.pop_object.new.state c.args.count c.in-Some-pop_choices.chosen c.in-Some-pop_object.object taken.0 taken.1 c.in-Some-pop_object.ensures.taken
    t l x told st line found.1 c.in-Err.stop c.pop_object.new.state c.in-Err.ensures
