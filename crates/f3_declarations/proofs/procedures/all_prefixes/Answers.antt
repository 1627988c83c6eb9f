use Rattle.std.proofs.Common.{◌≡◌, true, false, None, Some, sym}
use Rattle.std.proofs.lemmas.Result.{err_from_is_err_and}
use Rattle.f3_words.specs.Lists.{starts}
use Rattle.f3_words.specs.Reads.{Fails}
use Rattle.f3_declarations.specs.Specifications.{is_prefix}
use Rattle.f3_declarations.specs.Specifications.{EatsPrefix, EatsPrefixes, with_prefix}
use Rattle.f3_declarations.proofs.Prefixes.{one_more, is_over, no_prefix_next, twice, refused}
use Rattle.f3_declarations.proofs.procedures.all_prefixes.Goals as goal

pub returns-in_err-element : goal.returns-in_err-element
returns-in_err-element c =
    let p = err_from_is_err_and c.from_residual.result c.from_residual.ensures.1 in
    let passes : starts is_prefix c.elements.rest.now ≡ true = cc in
    rw (p.1, p.2) (refused _ (Fails EatsPrefix c.elements.rest.now) (Fails EatsPrefixes c.args.items.now) (no_prefix_next c.args.items.now c.elements.rest.now c.elements.found c.elements.invariant passes) c.in_err-element.ensures.read)

pub elements-preserved : goal.elements-preserved
elements-preserved c =
    let passes : starts is_prefix c.elements.rest.now ≡ true = cc in
    let more : with_prefix c.elements.found c.in_ok-element.element ≡ Some c.in-Some.more = sym c.in-Some.ensures in
    one_more c.args.items.now c.elements.rest.now c.in_ok-element.after.now c.elements.found c.in-Some.more c.in_ok-element.element c.elements.invariant passes c.in_ok-element.ensures.read more

pub returns-in-None : goal.returns-in-None
returns-in-None c =
    let passes : starts is_prefix c.elements.rest.now ≡ true = cc in
    let none : with_prefix c.elements.found c.in_ok-element.element ≡ None = sym c.in-None.ensures in
    twice c.args.items.now c.elements.rest.now c.in_ok-element.after.now c.elements.found c.in_ok-element.element c.elements.invariant passes c.in_ok-element.ensures.read none

pub returns : goal.returns
returns c =
    let none : starts is_prefix c.elements.rest.now ≡ false = cc in
    is_over c.args.items.now c.elements.rest.now c.elements.found c.elements.invariant none
