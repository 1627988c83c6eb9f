use Rattle.std.proofs.Common.{◌∙◌}
use Rattle.f3_expression_parts.proofs.Lists.{argument_at, pushed}
use Rattle.f3_expression_parts.proofs.arguments.arguments_for.Goals as goal

pub loop-given-preserved : goal.loop-given-preserved
loop-given-preserved c =
    pushed (argument_at c.args.dummies.now.entries) c.loop-given.yielded c.in-Some.given c.loop-given.found.items c.push.new.self.items
    c.in_ok-argument.argument c.len.result c.loop-given.invariant c.in_ok-push.ensures.items (c.len.ensures ∙ c.loop-given.found.ok.0) c.in_ok-argument.ensures
