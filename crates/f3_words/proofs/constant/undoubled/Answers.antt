use Rattle.std.proofs.Common.{◌<◌, ◌≤◌, ◌++◌, length, sym, ap, ◌∙◌, arith}
use Rattle.std.proofs.lemmas.List.{append-nil, drop_all}
use Rattle.f3_words.proofs.Characters.{to_come, drops, counts, none_to_come}
use Rattle.f3_words.proofs.constant.undoubled.Goals as goal
use Rattle.f3_words.proofs.constant.undoubled.Goals.{then-is_behind, else-is_behind+in_ok-push}

pub loop-byte-preserved : goal.loop-byte-preserved
loop-byte-preserved c =
    let within : c.loop-byte.byte-index < length c.args.bytes.now = omega arith in
    elim c.if-is_behind.branch [
      | then-is_behind w ↦ let before = rw w.if-is_behind.true at c.loop-byte.invariant in rw (w.characters-is, w.is_behind-is) (drops c.args.quote c.loop-byte.byte-index c.args.bytes.now c.loop-byte.characters.items _ within before)
      | else-is_behind+in_ok-push w ↦ let before = rw w.if-is_behind.false at c.loop-byte.invariant in rw (w.characters-is, w.in_ok-push.ensures.items) (counts c.args.quote c.loop-byte.byte-index c.args.bytes.now c.loop-byte.characters.items _ c.if-is_behind.is_behind within w.is_behind-is before)
    ]

pub returns : goal.returns
returns c =
    let over : length c.args.bytes.now ≤ c.loop-byte.byte-index = omega arith in
    sym (append-nil c.loop-byte.characters.items)
    ∙ ap (λ x. c.loop-byte.characters.items ++ x) (sym (none_to_come c.loop-byte.is_behind c.args.quote))
    ∙ ap (λ x. c.loop-byte.characters.items ++ to_come c.loop-byte.is_behind c.args.quote x) (sym (drop_all c.loop-byte.byte-index c.args.bytes.now over))
    ∙ c.loop-byte.invariant
