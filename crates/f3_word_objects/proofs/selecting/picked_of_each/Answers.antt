use Rattle.std.proofs.Common.{◌∙◌, sym, ap, refl}
use Rattle.f3_cells.specs.Cells.{chosen_of}
use Rattle.std.specs.Prelude.{map}
use Rattle.f3_meaning_whole.specs.Act.{all_inside}
use Rattle.f3_meaning_whole.specs.Shape.{spans_declared}
use Rattle.f3_program.specs.declared.declarations.Declared.{Declared}
use Rattle.f3_word_objects.proofs.Each.{in-each}
use Rattle.f3_word_objects.proofs.selecting.picked_of_each.Goals as goal

pub returns-in_default-number_of : goal.returns-in_default-number_of
returns-in_default-number_of c = λ single.
    let e = c.in-Some.ensures in
    (e.0, e.1, ap (λ (y : Declared). all_inside (spans_declared y.dimensions.items) (map chosen_of c.args.chosen.now)) (sym e.2) ∙ ap (λ l. all_inside (spans_declared l) (map chosen_of c.args.chosen.now)) (sym c.deref.ensures.value) ∙ c.in_default-number_of.ensures single)

pub returns : goal.returns
returns c = λ single.
    let e = c.in-Some.ensures in
    in-each c.args.types c.args.area.now c.part.result c.args.number (map chosen_of c.args.chosen.now) c.in-Some.declared.now c.deref.result.now c.in-Some.offset c.words.result c.in-Some-number_of.element _ e.0
    e.1 e.2 c.deref.ensures.value e.3 c.words.ensures (c.in-Some-number_of.ensures single) refl c.part.ensures
