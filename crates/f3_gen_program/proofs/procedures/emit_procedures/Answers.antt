use Rattle.std.proofs.Common.{◌≡◌, ◌+◌, ◌-◌, ◌++◌, ◌∷◌, length, drop, map, reverse, subst, arith}
use Rattle.f3_meaning_whole.specs.Act.{Setting}
use Rattle.f3_code.specs.Lower.{lowered_procedure}
use Rattle.f3_code.specs.Code.{procedures_code}
use Rattle.f3_gen_work.specs.EmittedIn.{EmittedIn}
use Rattle.f3_gen_work.proofs.Dropping.{drop_before}
use Rattle.f3_gen_work.proofs.Emitting.{counted_in, then_in}
use Rattle.f3_gen_procedures.specs.Ends.{procedure_ends}
use Rattle.f3_gen_procedures.proofs.Newest.{ended_more}
use Rattle.f3_gen_program.proofs.procedures.emit_procedures.Goals as goal

pub loop-i-preserved : goal.loop-i-preserved
loop-i-preserved c =
    let types = c.args.types.now in
    let first = c.index-procedures-i.result in
    let rest = drop c.loop-i.i c.args.procedures.now in
    let in_front : first ∷ rest ≡ drop (c.loop-i.i - 1) c.args.procedures.now
    = drop_before c.args.procedures.now c.loop-i.i first c.loop-i-test.true c.loop-i.invariant.within c.index-procedures-i.is in
    let emitted : EmittedIn types c.args.code.now.items c.emit_procedure.new.code.items (λ g. procedures_code (length types) (map (lowered_procedure g) (first ∷ rest)))
    = then_in c.loop-i.invariant.emitted c.in_ok-emit_procedure.ensures in
    record {
      within = omega arith;
      emitted = subst (λ ps. EmittedIn types c.args.code.now.items c.emit_procedure.new.code.items (λ g. procedures_code (length types) (map (lowered_procedure g) ps))) in_front emitted;
      ended = λ (g : Setting) same.
          subst (λ ps. c.push.new.self.items ≡ c.args.ends.now.items ++ reverse (procedure_ends (length types) (length c.args.code.now.items) (map (lowered_procedure g) ps))) in_front
          (ended_more c.args.ends.now.items c.loop-i.ends.items c.push.new.self.items c.len.result
          (length c.args.code.now.items + length (procedures_code (length types) (map (lowered_procedure g) (first ∷ rest))))
          (procedure_ends (length types) (length c.args.code.now.items) (map (lowered_procedure g) rest))
          (c.loop-i.invariant.ended g same) c.in_ok-push.ensures.items (omega (arith, counted_in emitted g same)));
    }
