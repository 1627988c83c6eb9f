use Rattle.std.proofs.Common.{◌≡◌, ◌+◌, drop, Some, unwrap_or, ap, sym, ◌∙◌, arith}
use Rattle.std.specs.Option.{option_map}
use Rattle.f3_lex.specs.Tokens.{to_closing, behind_quote}
use Rattle.f3_lex.proofs.Lengths.{closing_other, closing_quote, behind_same, behind_other, behind_end, closing_end, from_there, one_more, two_more}
use Rattle.f3_lex.proofs.length.to_closing.Goals as goal
use Rattle.f3_lex.proofs.length.to_closing.Goals.{else-n-bytes-via-then-n-bytes+else-bytes-n-2, else-n-bytes-via-else-n-bytes}

pub loop-n-preserved-then-bytes-n : goal.loop-n-preserved-then-bytes-n
loop-n-preserved-then-bytes-n c = record {
  within = omega arith;
  end_within = c.loop-n.invariant.end_within;
  total = sym (ap (from_there c.loop-n.n c.loop-n.end) (closing_other _ _ _ c.loop-n-test.true c.if-bytes-n.true) ∙ one_more c.loop-n.n c.loop-n.end _) ∙ c.loop-n.invariant.total;
}

pub loop-n-preserved : goal.loop-n-preserved
loop-n-preserved c =
    let n = c.loop-n.n in
    let quote = c.args.quote in
    let bytes = c.args.bytes.now in
    let two : n + 1 + 1 ≡ n + 2 = omega arith in
    let doubled = closing_quote _ _ _ c.loop-n-test.true c.if-bytes-n.false ∙ ap Some (behind_same _ _ _ c.if-n-bytes.true c.if-bytes-n-2.true ∙ ap (λ k. unwrap_or (option_map (λ m. 2 + m) (to_closing quote (drop k bytes))) 1) two) in
    record {
      within = omega arith;
      end_within = omega arith;
      total = sym (ap (from_there n c.loop-n.end) doubled ∙ two_more n c.loop-n.end _) ∙ c.loop-n.invariant.total;
    }

pub returns-else-n-bytes-clause-value : goal.returns-else-n-bytes-clause-value
returns-else-n-bytes-clause-value c =
    let n = c.loop-n.n in
    let first = closing_quote _ _ _ c.loop-n-test.true c.if-bytes-n.false in
    let ends : behind_quote c.args.quote (drop (n + 1) c.args.bytes.now) ≡ 1 = elim c.else-n-bytes.branch [
      | else-n-bytes-via-then-n-bytes+else-bytes-n-2 w ↦ behind_other _ _ _ w.if-n-bytes.true w.if-bytes-n-2.false
      | else-n-bytes-via-else-n-bytes w ↦ behind_end _ _ _ w.if-n-bytes.false
    ] in
    sym (ap (from_there n c.loop-n.end) (first ∙ ap Some ends)) ∙ c.loop-n.invariant.total

pub returns-clause-value : goal.returns-clause-value
returns-clause-value c = sym (ap (from_there c.loop-n.n c.loop-n.end) (closing_end c.args.quote c.args.bytes.now c.loop-n.n c.loop-n-test.false)) ∙ c.loop-n.invariant.total
