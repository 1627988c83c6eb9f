use Rattle.std.proofs.Common.{◌≡◌, refl, sym, ◌∙◌, ap, None, []}
use Rattle.f3_text.specs.declared.letter.Quoting.{Quoting}
use Rattle.f3_text.specs.declared.letter.Letter.{Letter}
use Rattle.f3_text.specs.declared.letter.Quoting.TheVariants.{Outside, Inside, Closed}
use Rattle.f3_text.proofs.Going.{going_end, fails_from}
use Rattle.f3_text.specs.Reader.{spelled_of}
use Rattle.f3_text.specs.Inner.Reading.{completed}
use Rattle.f3_text.specs.Statements.{unclosed, unless_fault, parts, all_pieces, texts}
use Rattle.f3_text.proofs.reading.finish.Goals as goal

pub returns-in-Inside-clause-read : goal.returns-in-Inside-clause-read
unfolding unclosed unless_fault
returns-in-Inside-clause-read c =
    fails_from _ _ _ c.refuse.ensures (going_end _ _ _ _ c.requires.ended ∙ rw c.in-Inside.is refl)

not_open : (w : Quoting) → ((q : Letter) → w ≡ Inside q → ⊥) → unclosed w ≡ None
unfolding unclosed
not_open Outside n = refl
not_open (Inside q) n = absurd (n q refl)
not_open (Closed q) n = refl

pub returns : goal.returns
unfolding unless_fault
returns c = record {
  read = record {
    same =
        going_end _ _ _ _ c.requires.ended
        ∙ rw (not_open c.args.mode.quoting c.in_default.not-Inside) (ap (λ p. completed (spelled_of c.args.statement) [] p) (ap (λ ls. parts (all_pieces (texts ls))) c.below.ensures.lines ∙ sym c.below.ensures.parts));
    paired = c.requires.paired;
    file = c.below.ensures.file;
  };
  shorter = (c.below.ensures.within, c.below.ensures.shorter);
}
