use Rattle.std.proofs.Common.{rules, ap, ◌∙◌, append_assoc}
use Rattle.f3_tree.specs.declared.expression.Expression.{Expression}
use Rattle.f3_tree.specs.Expressions.{Tree, expression_view}
use Rattle.f3_tree.proofs.Views.{view_chain, view_designator}
use Rattle.f3_part_names.specs.Names.{named, in_parentheses}
use Rattle.f3_part_names.proofs.naming.+naming.Goals as goal

pub expression-returns-in_ok-expression-in-Chain : goal.expression-returns-in_ok-expression-in-Chain
expression-returns-in_ok-expression-in-Chain t c =
    rw (ap (λ (e : Expression). named (expression_view e)) c.in-Chain.is ∙ ap (λ (x : Tree). named x) (view_chain c.in-Chain.first c.in-Chain.others)) (search (rules, append_assoc))

pub in_parentheses-loop-part-init : goal.in_parentheses-loop-part-init
in_parentheses-loop-part-init t c =
    rw (ap (λ (e : Expression). in_parentheses (expression_view e)) c.in-Designator.is ∙ ap (λ (x : Tree). in_parentheses x) (view_designator c.in-Designator.parts)) (search rules)
