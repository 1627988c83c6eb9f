use Rattle.std.proofs.Common.{◌≡◌, ◌∙◌, sym, ap}
use Rattle.f3_meaning_whole.specs.Value.{shown}
use Rattle.f3_word_cells.specs.Areas.{spans_of}
use Rattle.f3_word_objects.proofs.Passing.{lost, on-bounds, tells}
use Rattle.f3_word_objects.specs.Shapes.{dims_of}
use Rattle.f3_word_objects.proofs.asking.bounds_of_variable.Goals as goal
use Rattle.f3_word_objects.proofs.asking.bounds_of_variable.Goals.{in-Held, in-Stands}

pub returns-in_default-clause-does : goal.returns-in_default-clause-does
returns-in_default-clause-does c = λ p live. lost p live c.args.state.now _ c.pop_object.new.state c.pop_object.new.state (on-bounds p live c.args.state.now) c.in_default.ensures.taken

same : (c : goal.After-go_on_with) → spans_of c.match-object.dims.items ≡ shown (spans_of (dims_of c.in-Some.object))
same c = elim c.match-object.branch [
  | in-Held w ↦ ap (λ v. spans_of v.items) w.dims-is ∙ ap spans_of w.new-dims.ensures ∙ sym (ap (λ z. shown (spans_of (dims_of z))) w.in-Held.is)
  | in-Stands w ↦ ap (λ v. spans_of v.items) w.dims-is ∙ w.shown-dims.ensures ∙ sym (ap (λ z. shown (spans_of (dims_of z))) w.in-Stands.is)
]

pub returns-clause-does : goal.returns-clause-does
returns-clause-does c = λ p live. tells p live c.args.state.now c.pop_object.new.state _ c.in-Some.object c.match-object.dims c.in-Some.ensures.taken c.go_on_with.ensures (same c)
