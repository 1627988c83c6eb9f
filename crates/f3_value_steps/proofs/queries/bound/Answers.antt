use Rattle.std.proofs.Common.{refl, w64, to_z, of_z, ap, ◌∙◌}
use Rattle.std.proofs.lemmas.Int.{to_z-of_z}
use Rattle.f3_meaning_whole.specs.Value.{number_of}
use Rattle.f3_meaning_whole.specs.Eval.{asked}
use Rattle.f3_data.specs.Values.{value_of, spans_of}
use Rattle.f3_cells.proofs.Steps.{is_stuck}
use Rattle.f3_value_steps.proofs.Ends.{finished}
use Rattle.f3_value_steps.proofs.queries.bound.Goals as goal

pub returns-in_default : goal.returns-in_default
returns-in_default c = λ p limit g code v here. is_stuck (c.in_default.ensures p _)

pub returns-in_default-pop_bounds : goal.returns-in_default-pop_bounds
returns-in_default-pop_bounds c = λ p limit g code v here. rw (c.in-Some.ensures p) (is_stuck (c.in_default-pop_bounds.ensures p _))

pub returns : goal.returns
returns c = λ p limit g code v here.
    let z = to_z-of_z w64 c.number_of-dimension.result (record { sfits = c.number_of-dimension.type_inv }) ∙ c.number_of-dimension.ensures in
    finished code _ c.asked-given.result (asked c.args.query (spans_of c.in-Some-pop_bounds.spans.items) (number_of (value_of c.in-Some.value)) here)
    c.finish.result here.place p (record c.args.state.now { stack = c.pop_bounds.new.stack }) c.finish.new.state c.finish.ensures
    (c.asked-given.ensures here ∙ ap (λ ss. asked c.args.query (spans_of ss) (to_z w64 (of_z w64 c.number_of-dimension.result)) here) c.deref.ensures.value
    ∙ ap (λ d. asked c.args.query (spans_of c.in-Some-pop_bounds.spans.items) d here) z)
    (rw (c.in-Some.ensures p, c.in-Some-pop_bounds.ensures p) refl)
