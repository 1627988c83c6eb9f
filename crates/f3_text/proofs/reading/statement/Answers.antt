use Rattle.std.proofs.Common.{refl, sym, ◌∙◌, ap, arith}
use Rattle.f3_text.specs.Inner.Reading.{going}
use Rattle.f3_text.proofs.AlongLines.{text_nothing}
use Rattle.f3_text.proofs.Going.{same_going, paired_kept, reads_separated}
use Rattle.f3_text.proofs.reading.statement.Goals as goal

pub loop-letter-init : goal.loop-letter-init
loop-letter-init c = record {
  same = sym (same_going _ _ _ _ _ _ _ c.in-Ok.ensures c.outside-mode.ensures.quoting c.outside-mode.ensures.depth);
  paired = paired_kept _ _ c.in-Ok.ensures refl;
  within = omega arith;
  file = refl;
}

pub finish-requires-2-clause-ended : goal.finish-requires-2-clause-ended
finish-requires-2-clause-ended c = text_nothing _ _ c.in_default-take.ensures

pub returns-in-Separated-clause-read : goal.returns-in-Separated-clause-read
returns-in-Separated-clause-read c =
    let h = rw c.in-Separated.is at c.in_ok-next.ensures in
    let r = reads_separated _ _ c.step.new.statement c.in-Some.letter c.args.cursor c.in-Some.behind h.0 h.1 c.loop-letter.invariant.paired c.in-Some.ensures.column (c.in-Some.ensures.file ∙ c.loop-letter.invariant.file) in
    record {
      same = sym c.loop-letter.invariant.same ∙ ap (going _ _ _) c.in-Some.ensures.letters ∙ r.same;
      paired = r.paired;
      file = r.file;
    }
