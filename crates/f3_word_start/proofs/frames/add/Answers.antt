use Rattle.std.proofs.Common.{◌≡◌, ◌≤◌, ◌^◌, arith}
use Rattle.f3_rooms.specs.Forms.{room}
use Rattle.f3_room_places.specs.Places.{shapes}
use Rattle.f3_word_start.proofs.Framing.{added, no_room, not_begin}
use Rattle.f3_word_start.proofs.frames.add.Goals as goal

pub returns-then-not-can_begin : goal.returns-then-not-can_begin
returns-then-not-can_begin c =
    not_begin (shapes c.args.types) c.args.frame.now c.args.declared.now c.can_begin.result c.from_ref.result.now c.from_ref.ensures.value c.can_begin.ensures c.if-not-can_begin.true

pub returns-in_ok-push-in-Some : goal.returns-in_ok-push-in-Some
returns-in_ok-push-in-Some c =
    let ts = shapes c.args.types in
    let many : c.in-Some.words ≡ room ts c.args.declared.now = rw c.in-Some.is at (c.words_of.ensures ts c.requires.tables) in
    added ts c.args.frame.now c.args.declared.now _ c.from_ref.result.now c.from_ref.ensures.value (c.can_begin.ensures.0 c.if-not-can_begin.false)
    (c.in_ok-push-in-Some.ensures {u = tt}).items (omega (arith, many)) (omega arith)

pub returns-in_default : goal.returns-in_default
returns-in_default c =
    let ts = shapes c.args.types in
    let many : c.in-Some.words ≡ room ts c.args.declared.now = rw c.in-Some.is at (c.words_of.ensures ts c.requires.tables) in
    no_room ts c.args.frame.now c.args.declared.now (omega (arith, many))

pub returns-in_default-2 : goal.returns-in_default-2
returns-in_default-2 c =
    let ts = shapes c.args.types in
    let many : 2 ^ 64 ≤ room ts c.args.declared.now = rw c.in_default.is at (c.words_of.ensures ts c.requires.tables) in
    no_room ts c.args.frame.now c.args.declared.now (omega (arith, many))
