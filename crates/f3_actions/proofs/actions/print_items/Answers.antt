use Rattle.std.proofs.Common.{rules}
use Rattle.f3_tree.specs.Expressions.{expression_view}
use Rattle.f3_reading.proofs.Elements.{at_tokens}
use Rattle.f3_reading.proofs.Choices.{others_read}
use Rattle.f3_expressions.specs.Grammar.{EatsExpression}
use Rattle.f3_actions.specs.Actions.{AreItems, EatsItems}
use Rattle.f3_actions.proofs.actions.print_items.Goals as goal

pub returns : goal.returns
unfolding EatsItems AreItems
returns c = others_read EatsExpression expression_view c.others.ensures.read (λ us one k. at_tokens EatsExpression expression_view k.shown.now us one k.shows (search rules))
