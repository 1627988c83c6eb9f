use Rattle.std.proofs.Common.{List, map}
use Rattle.std.proofs.lemmas.List.{map_push}
use Rattle.std.proofs.lemmas.Result.{err_from_is_err_and}
use Rattle.f3_tree.specs.Expressions.{designator_view}
use Rattle.f3_words.specs.declared.item.Item.{Item}
use Rattle.f3_words.specs.Reads.{Fails}
use Rattle.f3_expressions.specs.Grammar.{EatsDesignator}
use Rattle.f3_actions.specs.Actions.{EatsStatusHead, EatsObject, AreObjects}
use Rattle.f3_expressions.proofs.Runs.{refused}
use Rattle.f3_actions.proofs.Objects.{one_more, no_object, is_over, is_over_status, status_fails}
use Rattle.f3_actions.proofs.allocations.objects.Goals as goal

pub returns-in_err-element : goal.returns-in_err-element
returns-in_err-element c =
    let p = err_from_is_err_and c.from_residual.result c.from_residual.ensures.1 in
    rw (p.1, p.2) (refused _ (Fails EatsObject c.elements.rest.now) (Fails AreObjects c.args.items.now) (no_object c.args.items.now c.elements.rest.now (map designator_view c.elements.found.items) c.elements.invariant) c.in_err-element.ensures.read)

pub returns-in-None : goal.returns-in-None
returns-in-None c =
    let all = is_over c.args.items.now c.elements.rest.now c.in_ok-element.after.now (map designator_view c.elements.found.items) (designator_view c.in_ok-element.element) c.elements.invariant c.in_ok-element.ensures.read c.in-None.ensures in
    rw (c.in_ok-push.ensures.items, map_push) all

pub returns-in_err-status-in-Ok : goal.returns-in_err-status-in-Ok
returns-in_err-status-in-Ok c =
    let p = err_from_is_err_and c.from_residual-in_err-status-in-Ok.result c.from_residual-in_err-status-in-Ok.ensures.1 in
    rw (p.1, p.2) (refused _ (Fails EatsDesignator c.in-Ok.variable.now) (Fails AreObjects c.args.items.now) (status_fails c.args.items.now c.elements.rest.now c.in_ok-element.after.now c.in-Some.tail.now c.in-Ok.variable.now (map designator_view c.elements.found.items) (designator_view c.in_ok-element.element) c.elements.invariant c.in_ok-element.ensures.read c.in-Some.ensures.0 c.in-Ok.ensures.0 c.in-Ok.ensures.1) c.in_err-status-in-Ok.ensures.read)

pub returns-in-Ok : goal.returns-in-Ok
returns-in-Ok c =
    let all = is_over_status c.args.items.now c.elements.rest.now c.in_ok-element.after.now c.in-Some.tail.now c.in-Ok.variable.now c.in_ok-status-in-Ok.last.now (map designator_view c.elements.found.items) (designator_view c.in_ok-element.element) (designator_view c.in_ok-status-in-Ok.status) c.elements.invariant c.in_ok-element.ensures.read c.in-Some.ensures.0 c.in-Ok.ensures.0 c.in-Ok.ensures.1 c.in_ok-status-in-Ok.ensures.read in
    rw (c.in_ok-push.ensures.items, map_push) all

pub elements-preserved : goal.elements-preserved
elements-preserved c =
    let none : (a : List Item) → EatsStatusHead c.in-Some.tail.now a → ⊥ = rw c.in-Err-NoForm.field-0-is at c.in-Err-NoForm.ensures in
    let more = one_more c.args.items.now c.elements.rest.now c.in_ok-element.after.now c.in-Some.tail.now (map designator_view c.elements.found.items) (designator_view c.in_ok-element.element) c.elements.invariant c.in_ok-element.ensures.read c.in-Some.ensures.0 none in
    rw (c.in_ok-push.ensures.items, map_push) more
