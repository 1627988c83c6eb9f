use Rattle.std.proofs.Common.{[]}
use Rattle.f3_words.specs.declared.item.Keyword.TheVariants.{Then}
use Rattle.f3_words.specs.declared.item.Word.TheVariants.{Name}
use Rattle.f3_reading.proofs.Words.{same_tail}
use Rattle.f3_forms.proofs.statements.is_then.Goals as goal

pub returns-in-Some-clause-not : goal.returns-in-Some-clause-not
returns-in-Some-clause-not c = λ over here. c.is_over.ensures.not over (same_tail (Name Then) (Name Then) c.args.items.now [] c.in-Some.rest.now here c.in-Some.ensures.0)
