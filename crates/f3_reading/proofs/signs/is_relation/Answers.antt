use Rattle.std.proofs.Common.{rules, sym, ap, ◌∙◌}
use denote.Enum.Bare.{same_true}
use Rattle.f3_tree.specs.contracts.expression.Relation.{the_type}
use Rattle.f3_tree.specs.declared.expression.Relation.{Relation}
use Rattle.f3_words.specs.declared.item.Word.TheVariants as word
use Rattle.f3_reading.proofs.signs.is_relation.Goals as goal

pub returns-in-Relation-clause-same : goal.returns-in-Relation-clause-same
returns-in-Relation-clause-same c is = c.in-Relation.is ∙ ap (λ (k : Relation). word.Relation k) (same_true the_type (search rules) _ _ (sym c.eq.ensures ∙ is))
