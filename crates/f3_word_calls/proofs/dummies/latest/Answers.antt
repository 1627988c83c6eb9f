use Rattle.std.proofs.Common.{◌≡◌, ◌∙◌, length, drop, reverse, arith}
use Rattle.f3_word_calls.proofs.Latest.{latest_first}
use Rattle.f3_word_calls.proofs.dummies.latest.Goals as goal

pub returns-else-count-eq0 : goal.returns-else-count-eq0
returns-else-count-eq0 c =
    let all : c.len-count.result ≡ length c.args.callers.now.items.items = c.len-count.ensures ∙ c.args.callers.now.items.ok.0 in
    (drop 1 (reverse c.args.callers.now.items.items), latest_first c.args.callers.now.items.items c.index.result.now (omega arith) (rw (← all) c.index.ensures))
