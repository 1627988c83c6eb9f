use Rattle.std.proofs.Common.{map, refl, ap, ◌∙◌, ◌∷◌, [], ◌++◌}
use Rattle.f3_tree.specs.declared.expression.Expression.{Expression}
use Rattle.f3_tree.specs.Expressions.{expression_view}
use Rattle.f3_program.specs.declared.declarations.Constant.{Constant}
use Rattle.f3_kinds.specs.Values.{converted, value_of}
use Rattle.f3_typed_parts.specs.Known.{context_of}
use Rattle.f3_elaboration.specs.Declarations.{constant_of}
use Rattle.f3_declaration_nodes.proofs.Lists.{grown_more}
use Rattle.f3_declaration_nodes.proofs.initial.constants.Goals as goal

pub loop-e-preserved : goal.loop-e-preserved
loop-e-preserved c =
    let known = context_of c.args.known.now c.args.at in
    grown_more (λ (e : Expression). constant_of (converted c.args.data_type (value_of known (expression_view e))) ∷ [])
    (map (λ (e : Expression). constant_of (converted c.args.data_type (value_of known (expression_view e))))) (λ e es. refl)
    c.args.items.now c.loop-e.e-index c.e-item.result c.loop-e.found.items c.push.new.self.items _
    c.loop-e-test.true c.e-item.is (c.in_ok-push.ensures.items ∙ ap (λ (x : Constant). c.loop-e.found.items ++ x ∷ []) c.constant.ensures) c.loop-e.invariant
