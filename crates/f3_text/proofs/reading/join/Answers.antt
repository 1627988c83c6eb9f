use Rattle.std.proofs.Common.{refl, sym, ◌∙◌, ap, arith}
use Rattle.f3_text.proofs.Going.{going_nothing, going_lone, going_open, going_behind, going_blank, paired_same, same_going, fails_from, mark_at, no_mark_at}
use Rattle.f3_text.specs.Lines.{after}
use Rattle.f3_text.specs.Reader.{spelled_of}
use Rattle.f3_text.specs.Inner.Reading.{added}
use Rattle.f3_text.proofs.reading.join.Goals as goal

pub returns-in_default : goal.returns-in_default
returns-in_default c = fails_from _ _ _ c.refuse_unfinished.ensures (going_nothing _ _ _ _ _ c.requires.goes c.requires.is_ampersand c.requires.last (c.below.ensures.lines ∙ c.in_default.ensures))

pub returns-then-only_blanks : goal.returns-then-only_blanks
returns-then-only_blanks c =
    fails_from _ _ _ c.refuse_unfinished-then-only_blanks.ensures
    (going_lone _ _ _ _ _ _ _ _ _ c.requires.goes c.requires.is_ampersand c.requires.last (c.below.ensures.lines ∙ c.in-Some.ensures.lines)
    (c.in-Some.ensures.first ∙ mark_at _ _ c.if-line-eq38.true) (sym c.if-only_blanks.ensures) c.if-line-eq38.true)

pub returns-then-line-eq38 : goal.returns-then-line-eq38
returns-then-line-eq38 c =
    let a = c.in-Some.ensures.behind_within in
    record {
      same =
          going_behind _ _ _ _ _ _ _ _ _ c.requires.goes c.requires.is_ampersand c.requires.last (c.below.ensures.lines ∙ c.in-Some.ensures.lines)
          (c.in-Some.ensures.first ∙ mark_at _ _ c.if-line-eq38.true) (sym c.if-only_blanks.ensures) c.in-Some.ensures.later;
      paired = λ p. p;
      within = omega (arith, c.below.ensures.within);
      file = c.in-Some.ensures.behind_file ∙ c.below.ensures.file;
    }

pub returns-then-is_open : goal.returns-then-is_open
returns-then-is_open c =
    fails_from _ _ _ c.refuse_unfinished-then-is_open.ensures
    (going_open _ _ _ _ _ _ _ c.requires.goes c.requires.is_ampersand c.requires.last (c.below.ensures.lines ∙ c.in-Some.ensures.lines)
    (c.in-Some.ensures.first ∙ no_mark_at _ _ c.if-line-eq38.false) (sym c.if-is_open.ensures))

pub returns : goal.returns
returns c =
    let a = c.in-Some.ensures.start_within in
    record {
      same =
          going_blank _ _ _ _ _ _ c.requires.goes c.requires.is_ampersand c.requires.last (c.below.ensures.lines ∙ c.in-Some.ensures.lines)
          (c.in-Some.ensures.first ∙ no_mark_at _ _ c.if-line-eq38.false) (sym c.if-is_open.ensures) c.requires.paired
          ∙ same_going _ _ _ _ _ _ _ (c.in-Ok.ensures ∙ ap (added (spelled_of c.args.statement.now)) c.join_blank-blank.ensures) (c.after.ensures ∙ ap (after c.args.mode.quoting) c.join_blank-blank.ensures) refl;
      paired = λ p. paired_same _ _ _ c.in-Ok.ensures p;
      within = omega (arith, c.below.ensures.within);
      file = c.in-Some.ensures.start_file ∙ c.below.ensures.file;
    }
