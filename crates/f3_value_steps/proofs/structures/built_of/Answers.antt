use Rattle.std.proofs.Common.{map, subst, arith}
use Rattle.f3_meaning_whole.specs.Shape.{shapes_of}
use Rattle.f3_data.specs.Stores.{store_of}
use Rattle.f3_cells.specs.Cells.{passed_of}
use Rattle.f3_value_steps.specs.Inner.Structures.{Takes}
use Rattle.f3_value_steps.proofs.Components.{so_far_more, so_far_fails, so_far_all, so_far_none}
use Rattle.f3_value_steps.proofs.structures.built_of.Goals as goal

pub returns-in-Err : goal.returns-in-Err
returns-in-Err c =
    let ps = map passed_of c.args.passed.now in
    let x = c.index-components-number.result in
    so_far_fails c.args.types.now c.args.components.now ps (store_of c.args.store.now) c.loop-number.number c.loop-number.values.items
    x c.index-components-number.result c.in-Err.error (omega arith) c.index-components-number.is c.loop-number.invariant
    (subst (λ r. Takes c.args.types.now x.declared ps c.loop-number.number (store_of c.args.store.now) r) c.in-Err.is (c.in_ok-value.ensures {u = tt}))

pub loop-number-init : goal.loop-number-init
loop-number-init c = so_far_none (shapes_of c.args.types.now) c.args.components.now (map passed_of c.args.passed.now) (store_of c.args.store.now)
    c.new-values.result.items c.new-values.ensures.items

pub loop-number-preserved : goal.loop-number-preserved
loop-number-preserved c =
    let ps = map passed_of c.args.passed.now in
    let x = c.index-components-number.result in
    rw c.in_ok-push-in-Ok.ensures.items
    (so_far_more c.args.types.now c.args.components.now ps (store_of c.args.store.now) c.loop-number.number c.loop-number.values.items
    x c.index-components-number.result c.in-Ok.value (omega arith) c.index-components-number.is c.loop-number.invariant
    (subst (λ r. Takes c.args.types.now x.declared ps c.loop-number.number (store_of c.args.store.now) r) c.in-Ok.is (c.in_ok-value.ensures {u = tt})))

pub returns : goal.returns
returns c = so_far_all c.args.types.now c.args.components.now (map passed_of c.args.passed.now) (store_of c.args.store.now) c.loop-number.number
    c.loop-number.values.items
    c.composite.result (omega arith) c.loop-number.invariant c.composite.ensures
