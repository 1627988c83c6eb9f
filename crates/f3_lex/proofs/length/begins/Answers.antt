use Rattle.std.proofs.Common.{◌<◌, drop, sym, ◌∙◌, ap, arith, length, eq-eqb, ne_eqb}
use Rattle.std.proofs.lemmas.List.{drop_more}
use Rattle.std.proofs.Math.ListN.{drop_of_length-le}
use Rattle.f3_lex.specs.Tokens.{begins, lower}
use Rattle.f3_lex.proofs.Lengths.{too_short}
use Rattle.f3_lex.proofs.length.begins.Goals as goal

pub returns-then-bytes-word : goal.returns-then-bytes-word
returns-then-bytes-word c = sym (too_short _ _ c.if-bytes-word.true)

pub returns-then-to_ascii_lowercase-letter : goal.returns-then-to_ascii_lowercase-letter
returns-then-to_ascii_lowercase-letter c =
    let i = c.loop-i.i in
    let there : i < length c.args.bytes.now = omega arith in
    let other = ne_eqb _ _ (λ e. c.if-to_ascii_lowercase-letter.true (c.to_ascii_lowercase.ensures.value ∙ e)) in
    sym (c.loop-i.invariant ∙ rw (drop_more _ i 0 there, drop_more _ i 0 c.loop-i-test.true, other))

pub loop-i-preserved : goal.loop-i-preserved
loop-i-preserved c =
    let i = c.loop-i.i in
    let there : i < length c.args.bytes.now = omega arith in
    let same = eq-eqb _ _ (sym c.to_ascii_lowercase.ensures.value ∙ c.if-to_ascii_lowercase-letter.false) in
    c.loop-i.invariant ∙ rw (drop_more _ i 0 there, drop_more _ i 0 c.loop-i-test.true, same)

pub returns : goal.returns
returns c = sym (c.loop-i.invariant ∙ ap (λ word. begins word (lower (drop c.loop-i.i c.args.bytes.now))) (drop_of_length-le c.args.word.now c.loop-i-test.false))
