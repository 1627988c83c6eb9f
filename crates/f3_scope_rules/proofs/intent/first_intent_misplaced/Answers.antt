use Rattle.f3_scope_rules.proofs.Rules.{least_intent}
use Rattle.f3_scope_rules.proofs.intent.first_intent_misplaced.Goals as goal

pub returns : goal.returns
returns c =
    least_intent c.args.outline.now c.in_ok-dummies.dummies.keys c.is_function-is_function.result c.specified.result.now c.first_misintended.result
    (rw c.deref.ensures.value at c.in_ok-dummies.ensures) c.is_function-is_function.ensures c.specified.ensures c.first_misintended.ensures
