use Rattle.std.proofs.Common.{◌<◌, ◌≤◌, length, refl, arith}
use Rattle.f3_text.specs.Reader.{spelled_of}
use Rattle.f3_words.specs.Lines.{seen_of}
use Rattle.f3_words.proofs.Numbers.{items_step, seen_step, ascii_at, items_over, seen_over_end}
use Rattle.f3_words.proofs.items.items.Goals as goal

pub loop-token-init : goal.loop-token-init
loop-token-init c = λ ascii. rw c.in_ok-found.ensures.items (refl, refl)

pub loop-token-preserved : goal.loop-token-preserved
loop-token-preserved c = λ ascii.
    let before = c.loop-token.invariant ascii in
    let within : c.loop-token.token-index < length c.args.tokens.now = omega arith in
    let one = c.in_ok-item.ensures (ascii_at (spelled_of c.args.statement.now) c.args.tokens.now c.loop-token.token-index _ within ascii) in
    rw c.in_ok-push.ensures.items (
      items_step (seen_of c.loop-token.tables) (seen_of c.item.new.tables) (spelled_of c.args.statement.now) c.args.tokens.now c.loop-token.token-index _ c.loop-token.found.items _ c.in_ok-item.item within one.0 one.1 before.0,
      seen_step (seen_of c.loop-token.tables) (seen_of c.item.new.tables) _ (spelled_of c.args.statement.now) c.args.tokens.now c.loop-token.token-index _ within one.1 before.1,
    )

pub returns : goal.returns
returns c = λ ascii.
    let all = c.loop-token.invariant ascii in
    let over : length c.args.tokens.now ≤ c.loop-token.token-index = omega arith in (
      items_over (seen_of c.loop-token.tables) (spelled_of c.args.statement.now) c.args.tokens.now c.loop-token.token-index c.loop-token.found.items _ over all.0,
      seen_over_end (seen_of c.loop-token.tables) _ (spelled_of c.args.statement.now) c.args.tokens.now c.loop-token.token-index over all.1,
    )
