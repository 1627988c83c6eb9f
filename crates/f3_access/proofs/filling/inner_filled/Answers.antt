use Rattle.std.proofs.Common.{◌≤◌, ◌∙◌, sym, length, map, arith, inl, inr}
use Rattle.std.proofs.lemmas.List.{length-map}
use Rattle.f3_scopes.specs.Outlines.{scope_view}
use Rattle.f3_access.proofs.Standing.{all_done}
use Rattle.f3_access.proofs.filling.inner_filled.Goals as goal

pub loop-number-init : goal.loop-number-init
loop-number-init c = (
  c.requires.units.0 ∙ length-map c.args.outlines.now scope_view,
  λ u scope at which. elim which [ inl a ↦ c.requires.units.1 u scope at a | inr b ↦ absurd (omega arith) ],
  c.requires.places,
)

pub returns : goal.returns
returns c =
    let scopes = map scope_view c.args.outlines.now in
    let past : length scopes ≤ c.loop-number.number = omega (arith, c.loop-number-test.false, length-map c.args.outlines.now scope_view) in
    all_done scopes c.loop-number.tables.items c.loop-number.number past (c.loop-number.invariant.0 ∙ sym (length-map c.args.outlines.now scope_view)) c.loop-number.invariant.1
