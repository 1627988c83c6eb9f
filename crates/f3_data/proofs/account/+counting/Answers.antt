use Rattle.std.proofs.Common.{arith}
use Rattle.f3_data.proofs.Counts.{one_word, words_more, composite_words, array_words}
use Rattle.f3_data.proofs.account.+counting.Goals as goal
use Rattle.f3_data.proofs.account.+counting.Goals.{level_words-in_default, level_words-in-Number}

pub level_words-loop-value-preserved : goal.level_words-loop-value-preserved
level_words-loop-value-preserved t c =
    let more = words_more c.args.values.now c.loop-value.value-index c.value-item.result c.loop-value-test.true c.value-item.is in
    elim c.match-value.branch [ level_words-in_default w ↦ omega arith | level_words-in-Number w ↦ (let one = one_word c.value-item.result w.in-Number.is in omega arith) ]

pub words-returns-in-Composite : goal.words-returns-in-Composite
words-returns-in-Composite t c = rw (c.in-Composite.is, composite_words) (rw c.deref.ensures.value at c.level_words.ensures)

pub words-returns-in-Array : goal.words-returns-in-Array
words-returns-in-Array t c =
    rw (c.in-Array.is, array_words) (rw (c.deref-in-Array-2.ensures.value, c.deref-in-Array.ensures) at c.level_words-in-Array.ensures)
