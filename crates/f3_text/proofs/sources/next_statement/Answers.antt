use Rattle.std.proofs.Common.{length, sym, ap, ◌∙◌}
use Rattle.std.proofs.lemmas.Bool.{eqb-true, eqb-false}
use Rattle.std.proofs.lemmas.List.{nil_from_length}
use Rattle.f3_text.specs.Reader.{ahead}
use Rattle.f3_text.proofs.AlongLines.{nothing_ahead, something_ahead}
use Rattle.f3_text.proofs.Going.{shorter_by}
use Rattle.f3_text.proofs.AlongSources.{is_next, skipped, nothing_left}
use Rattle.f3_text.proofs.sources.next_statement.Goals as goal

pub returns-then-not-is_empty : goal.returns-then-not-is_empty
returns-then-not-is_empty c =
    let b = rw c.in-Some.is at c.in_ok-start.ensures in
    is_next c.args.cursor c.loop-at.at c.in-Some.start c.in_ok-found.behind _ c.loop-at.invariant.same c.loop-at.invariant.file b c.in_ok-found.ensures.read c.if-not-is_empty.ensures

pub loop-at-smaller : goal.loop-at-smaller
loop-at-smaller c =
    let b = rw c.in-Some.is at c.in_ok-start.ensures in
    shorter_by (ahead c.in-Some.start) (ahead c.loop-at.at) (ahead c.in_ok-found.behind) c.in_ok-found.ensures.shorter.0 c.in_ok-found.ensures.shorter.1 b.within
    (something_ahead c.loop-at.at (λ e. eqb-false (length c.loop-at.at.rest.now) 0 (sym c.loop-at-test.ensures) (ap length e)))

pub loop-at-preserved : goal.loop-at-preserved
loop-at-preserved c =
    let b = rw c.in-Some.is at c.in_ok-start.ensures in
    record {
      same = skipped c.args.cursor c.loop-at.at c.in-Some.start c.in_ok-found.behind c.in_ok-found.found c.loop-at.invariant.same b c.in_ok-found.ensures.read c.if-not-is_empty.ensures;
      file = c.in_ok-found.ensures.read.file ∙ b.file ∙ c.loop-at.invariant.file;
    }

pub returns : goal.returns
returns c = sym c.loop-at.invariant.same ∙ nothing_left c.loop-at.at (nothing_ahead c.loop-at.at (nil_from_length c.loop-at.at.rest.now (eqb-true (length c.loop-at.at.rest.now) 0 (sym c.loop-at-test.ensures))))
