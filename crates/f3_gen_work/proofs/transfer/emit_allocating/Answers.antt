use Rattle.std.proofs.Common.{arith, rules}
use Rattle.f3_gen_work.proofs.Emitting.{in_types, by_types, then_in, by_state_in, on_ok}
use Rattle.f3_gen_work.proofs.transfer.emit_allocating.Goals as goal

pub returns : goal.returns
returns c =
    on_ok c.put-5.result (λ last. by_state_in c.args.place
    (then_in (by_types c.in_ok-emit_filling.ensures) (in_types c.in_ok-put.ensures)) c.in_ok-put-2.ensures c.in_ok-emit_replacing.ensures c.in_ok-put-3.ensures
    (then_in c.in_ok-emit_overwriting.ensures (in_types c.in_ok-put-4.ensures)) last
    (omega arith) (omega arith) (omega arith) (search rules))
    c.put-5.ensures
