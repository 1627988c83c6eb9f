use Rattle.std.proofs.Common.{◌≡◌, ◌∙◌, ◌-◌, refl, sym, ap, subst, arith}
use Rattle.f3_meaning_whole.specs.Exec.{declared_in}
use Rattle.f3_rooms.specs.Forms.{room, total}
use Rattle.f3_room_places.specs.Places.{shapes}
use Rattle.f3_room_levels.specs.Initial.{AllCanBegin, initial_words, variable_words}
use Rattle.f3_room_levels.specs.Writing.{IsBlank, with_words_from}
use Rattle.f3_live_blocks.specs.Blocks.{Live}
use Rattle.f3_room_levels.specs.Levels.{Begins}
use Rattle.f3_word_entries.proofs.Variables.{begins_alone, begins_behind, can_last, can_others, last_blank, others_blank, total_last}
use Rattle.f3_word_entries.proofs.beginning.begin_variables.Goals as goal
use Rattle.f3_word_entries.proofs.beginning.begin_variables.Goals.{in-Some, in_default}

pub write_initial-requires-clause-fit : goal.write_initial-requires-clause-fit
write_initial-requires-clause-fit g c =
    subst (AllCanBegin (shapes c.args.types)) (sym c.deref.ensures.value) (can_others (shapes c.args.types) c.args.procedure.now c.requires.fit)

pub write_initial-requires-clause-blank : goal.write_initial-requires-clause-blank
write_initial-requires-clause-blank g c =
    let told = c.in_ok-block.ensures {u = tt} in
    let mid : Live = g.B.Blocks.blocks c.take.new.self in
    subst (λ ds. IsBlank mid c.in_ok-block.block 0 (total (shapes c.args.types) ds)) (sym c.deref.ensures.value)
    (others_blank (shapes c.args.types) c.args.procedure.now (g.B.Blocks.blocks c.args.heap.now) mid _ c.args.words c.in_ok-block.block told.fresh told.taken c.requires.fit
    c.requires.long refl)

pub room_of-requires-clause-small : goal.room_of-requires-clause-small
room_of-requires-clause-small g c =
    let all = total_last (shapes c.args.types) c.args.procedure.now c.requires.fit c.in-Some.result c.in-Some.is in
    let long = c.requires.long in let small = c.ranges.words in
    omega (arith, all, long, small)

pub overflow_sub-behind : goal.overflow_sub-behind
overflow_sub-behind g c =
    let all = total_last (shapes c.args.types) c.args.procedure.now c.requires.fit c.in-Some.result c.in-Some.is in
    let long = c.requires.long in let room = c.room_of.ensures in
    omega (arith, all, long, room)

pub write_declared-requires-clause-fit : goal.write_declared-requires-clause-fit
write_declared-requires-clause-fit g c = (can_last (shapes c.args.types) c.args.procedure.now c.requires.fit c.in-Some.result c.in-Some.is).0

pub write_declared-requires-clause-type_fit : goal.write_declared-requires-clause-type_fit
write_declared-requires-clause-type_fit g c = (can_last (shapes c.args.types) c.args.procedure.now c.requires.fit c.in-Some.result c.in-Some.is).1

pub write_declared-requires-clause-blank : goal.write_declared-requires-clause-blank
write_declared-requires-clause-blank g c =
    let told = c.in_ok-block.ensures {u = tt} in
    let mid : Live = g.B.Blocks.blocks c.take.new.self in
    let k : Live = g.B.Blocks.blocks c.write_initial.new.heap in
    let b = c.in_ok-block.block in
    let ts = shapes c.args.types in
    let q = c.args.procedure.now in
    let written : k ≡ with_words_from mid b 0 (initial_words ts q.locals.items) =
    subst (λ ds. k ≡ with_words_from mid b 0 (initial_words ts ds)) c.deref.ensures.value c.write_initial.ensures.written in
    subst (λ n. IsBlank k b (c.args.words - n) (room ts c.in-Some.result)) (sym c.room_of.ensures)
    (last_blank ts q (g.B.Blocks.blocks c.args.heap.now) mid k c.args.words b told.fresh told.taken c.requires.fit c.requires.long written c.in-Some.result c.in-Some.is)

pub returns-clause-begun : goal.returns-clause-begun
returns-clause-begun g c =
    let told = c.in_ok-block.ensures {u = tt} in
    let m : Live = g.B.Blocks.blocks c.args.heap.now in
    let mid : Live = g.B.Blocks.blocks c.take.new.self in
    let k : Live = g.B.Blocks.blocks c.write_initial.new.heap in
    let b = c.in_ok-block.block in
    let ts = shapes c.args.types in
    let q = c.args.procedure.now in
    let written : k ≡ with_words_from mid b 0 (initial_words ts q.locals.items) =
    subst (λ ds. k ≡ with_words_from mid b 0 (initial_words ts ds)) c.deref.ensures.value c.write_initial.ensures.written in
    elim c.match-procedure.branch [
      | in-Some w ↦ begins_behind ts q m mid k c.args.words b told.fresh told.taken c.requires.fit c.requires.long written w.in-Some.result w.in-Some.is (g.B.Blocks.blocks c.match-procedure.heap)
          (ap (g.B.Blocks.blocks) w.heap-is ∙ w.write_declared.ensures.written
          ∙ ap (λ n. with_words_from k b (c.args.words - n) (variable_words ts w.in-Some.result)) w.room_of.ensures)
      | in_default w ↦ subst (λ (n : Live). Begins ts m n (declared_in q) c.args.words b) (ap (g.B.Blocks.blocks) (sym w.heap-is))
          (begins_alone ts q m mid k c.args.words b told.fresh told.taken c.requires.fit c.requires.long written w.in_default.is)
    ]
