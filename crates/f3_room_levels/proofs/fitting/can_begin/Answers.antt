use Rattle.std.proofs.Common.{◌+◌, drop, arith}
use Rattle.std.proofs.lemmas.List.{drop_all}
use Rattle.f3_room_places.specs.Places.{shapes}
use Rattle.f3_room_levels.proofs.Types.{drop_variable}
use Rattle.f3_room_levels.proofs.Fits.{yes, no, failed, can_next, not_can, not_type, all_can}
use Rattle.f3_room_levels.proofs.fitting.can_begin.Goals as goal

pub loop-variable-init : goal.loop-variable-init
loop-variable-init c = (λ a. a, λ a. a)

pub returns-then-not-one_can_begin : goal.returns-then-not-one_can_begin
returns-then-not-one_can_begin c =
    let ds = c.args.declared.now in
    let i = c.loop-variable.variable-index in
    let x = c.variable-item.result in
    no (not_can (shapes c.args.types) (drop i ds) (drop (i + 1) ds) ds x (drop_variable ds i x c.loop-variable-test.true c.variable-item.is) c.loop-variable.invariant
    (failed c.one_can_begin.result c.one_can_begin.ensures c.if-not-one_can_begin.true))

pub returns-then-not-type_can_begin : goal.returns-then-not-type_can_begin
returns-then-not-type_can_begin c =
    let ds = c.args.declared.now in
    let i = c.loop-variable.variable-index in
    let x = c.variable-item.result in
    no (not_type (shapes c.args.types) (drop i ds) (drop (i + 1) ds) ds x (drop_variable ds i x c.loop-variable-test.true c.variable-item.is) c.loop-variable.invariant
    (failed c.type_can_begin.result c.type_can_begin.ensures c.if-not-type_can_begin.true))

pub loop-variable-preserved : goal.loop-variable-preserved
loop-variable-preserved c =
    let ds = c.args.declared.now in
    let i = c.loop-variable.variable-index in
    let x = c.variable-item.result in
    can_next (shapes c.args.types) (drop i ds) (drop (i + 1) ds) ds x (drop_variable ds i x c.loop-variable-test.true c.variable-item.is) c.loop-variable.invariant
    (c.one_can_begin.ensures.0 c.if-not-one_can_begin.false) (c.type_can_begin.ensures.0 c.if-not-type_can_begin.false)

pub returns : goal.returns
returns c =
    let ds = c.args.declared.now in
    let i = c.loop-variable.variable-index in
    yes (all_can (shapes c.args.types) (drop i ds) ds (drop_all i ds (omega arith)) c.loop-variable.invariant)
