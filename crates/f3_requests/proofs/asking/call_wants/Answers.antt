use Rattle.std.proofs.Common.{◌<◌, ◌≤◌, length, take, ap, sym, ◌∙◌, arith}
use Rattle.f3_code.specs.Wants.{given_words}
use Rattle.f3_cells.specs.Cells.{cells_of}
use Rattle.f3_requests.specs.Inner.Counted.{held_words}
use Rattle.f3_requests.proofs.Tops.{given_are}
use Rattle.f3_requests.proofs.Wanting.{call_deep, call_is}
use Rattle.f3_requests.proofs.asking.call_wants.Goals as goal

pub returns-then-len-ge-MOST_ACTIVE : goal.returns-then-len-ge-MOST_ACTIVE
returns-then-len-ge-MOST_ACTIVE c =
    let deep : 1000 ≤ length c.args.state.now.frames.items = omega (arith, c.if-len-ge-MOST_ACTIVE.true, c.len.ensures, c.args.state.now.frames.ok.0) in
    λ v. call_deep c.args.scene.now c.args.number c.args.count v c.args.state.now deep

pub returns : goal.returns
returns c =
    let shallow : length c.args.state.now.frames.items < 1000 = omega (arith, c.if-len-ge-MOST_ACTIVE.false, c.len.ensures, c.args.state.now.frames.ok.0) in
    let p = c.args.scene.now.program.now in
    λ v. call_is c.args.scene.now c.args.number c.args.count (held_words c.top.result.now) v c.args.state.now c.procedure_wants.result shallow
    (ap given_words (ap (λ l. take c.args.count (cells_of p l)) (sym c.deref.ensures.value) ∙ sym (c.top.ensures p)) ∙ given_are p c.top.result.now)
    c.procedure_wants.ensures
