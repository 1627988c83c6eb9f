use Rattle.std.proofs.Common.{◌++◌, length, take, sym, ◌∙◌, ap, arith, append-nil}
use Rattle.std.proofs.lemmas.List.{length-drop, take_rest}
use Rattle.f3_lex.specs.Tokens.{front, depth_after, tokens_at, tokens_of}
use Rattle.f3_lex.proofs.Scans.{blank_step, pushed, scan_end}
use Rattle.f3_lex.proofs.scanner.scan.Goals as goal

pub loop-start-init : goal.loop-start-init
unfolding tokens_of
loop-start-init c = record {
  within = omega arith;
  few = omega arith;
  total = ap (λ ts. ts ++ tokens_at 0 0 0 c.args.bytes.now) c.in_ok-tokens.ensures.items;
}

pub loop-start-preserved-then-is_blank : goal.loop-start-preserved-then-is_blank
loop-start-preserved-then-is_blank c = record {
  within = omega arith;
  few = omega (arith, c.loop-start.invariant.few);
  total = ap (λ ts. c.loop-start.tokens.items ++ ts) (sym (blank_step _ _ c.loop-start.depth c.loop-start-test.true (sym c.is_blank.ensures ∙ c.if-is_blank.true))) ∙ c.loop-start.invariant.total;
}

pub loop-start-preserved : goal.loop-start-preserved
loop-start-preserved c =
    let start = c.loop-start.start in
    let bytes = c.args.bytes.now in
    let rest = take_rest bytes start in
    let size = ap length rest ∙ length-drop start bytes in
    let within = c.front-kind.ensures.within (omega (arith, size)) in
    record {
      within = omega (arith, within, size);
      few = omega (arith, within, c.depth_after-depth.ensures.one_more, c.loop-start.invariant.few);
      total = pushed bytes _ _ start c.loop-start.depth _ c.front-kind.result c.loop-start-test.true (sym c.is_blank.ensures ∙ c.if-is_blank.false) (c.front-kind.ensures.value ∙ ap (front c.loop-start.depth) rest) within.0 (c.depth_after-depth.ensures.value ∙ ap (λ r. depth_after c.loop-start.depth (take c.front-kind.result.1 r)) rest) c.in_ok-push.ensures.items c.loop-start.invariant.total;
    }

pub returns : goal.returns
returns c = sym (append-nil _) ∙ ap (λ ts. c.loop-start.tokens.items ++ ts) (sym (scan_end _ _ c.loop-start.depth c.loop-start-test.false)) ∙ c.loop-start.invariant.total
