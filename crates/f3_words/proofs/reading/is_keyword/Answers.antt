use Rattle.std.proofs.Common.{rules, sym, ap, ◌∙◌}
use denote.Enum.Bare.{same_true}
use Rattle.f3_words.specs.contracts.item.Keyword.{the_type}
use Rattle.f3_words.specs.declared.item.Keyword.{Keyword}
use Rattle.f3_words.specs.declared.item.Word.TheVariants.{Name}
use Rattle.f3_words.proofs.reading.is_keyword.Goals as goal

pub returns-in-Name-clause-is : goal.returns-in-Name-clause-is
returns-in-Name-clause-is c is = c.in-Name.is ∙ ap (λ (k : Keyword). Name k) (same_true the_type (search rules) _ _ (sym c.eq.ensures ∙ is))
