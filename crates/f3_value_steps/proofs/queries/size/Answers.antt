use Rattle.std.proofs.Common.{pos, refl}
use Rattle.f3_program.specs.declared.declarations.Base.TheVariants.{Integer}
use Rattle.f3_meaning_whole.specs.Value.{Number, count}
use Rattle.f3_meaning_whole.specs.Arithmetic.{converted}
use Rattle.f3_data.specs.Values.{spans_of}
use Rattle.f3_cells.proofs.Steps.{is_stuck}
use Rattle.f3_value_steps.proofs.Ends.{finished}
use Rattle.f3_value_steps.proofs.queries.size.Goals as goal

pub returns-in_default : goal.returns-in_default
returns-in_default c = λ p limit g code v here. is_stuck (c.in_default.ensures p _)

pub returns : goal.returns
returns c = λ p limit g code v here. finished code _ c.size_of-given.result
    (converted Integer (Number (pos (count (spans_of c.in-Some.spans.items)))) here.place)
    c.finish.result here.place p (record c.args.state.now { stack = c.pop_bounds.new.stack }) c.finish.new.state c.finish.ensures
    (rw (← c.deref.ensures.value) (c.size_of-given.ensures here.place)) (rw (c.in-Some.ensures p) refl)
