use Rattle.std.proofs.Common.{arith, rules, FitsSigned}
use Rattle.std.specs.Int.{w64}
use Rattle.std.proofs.lemmas.Int.{to_z-of_z}
use Rattle.f3_room_frames.proofs.Filling.{next_value, not_of}
use Rattle.f3_room_frames.proofs.beginning.add_all.Goals as goal

pub returns-in-None : goal.returns-in-None
returns-in-None c = not_of c.args.of c.args.values.now c.loop-value.value-index _ (omega arith) c.in-None.ensures

pub loop-value-preserved : goal.loop-value-preserved
loop-value-preserved c =
    let fits : FitsSigned w64 c.in-Some.word = search rules in
    next_value c.args.of c.args.values.now c.loop-value.value-index _ c.in-Some.word _ c.args.words.now.items c.loop-value.words.items c.push.new.self.items (omega arith)
    c.in-Some.ensures (to_z-of_z w64 c.in-Some.word fits) c.loop-value.invariant c.in_ok-push-in-Some.ensures.items
