use Rattle.std.proofs.Common.{rules, sym, ap, ◌∙◌}
use denote.Enum.Bare.{same_true}
use Rattle.f3_tree.specs.contracts.expression.Operator.{the_type}
use Rattle.f3_tree.specs.declared.expression.Operator.{Operator}
use Rattle.f3_words.specs.declared.item.Word.TheVariants as word
use Rattle.f3_reading.proofs.signs.is_operator.Goals as goal

pub returns-in-Operator-clause-same : goal.returns-in-Operator-clause-same
returns-in-Operator-clause-same c is = c.in-Operator.is ∙ ap (λ (k : Operator). word.Operator k) (same_true the_type (search rules) _ _ (sym c.eq.ensures ∙ is))
