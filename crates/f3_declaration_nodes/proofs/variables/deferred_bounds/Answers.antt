use Rattle.std.proofs.Common.{map, refl, rules, ◌∷◌, [], Option}
use Rattle.std.specs.Option.{option_map}
use Rattle.f3_tree.specs.declared.expression.Expression.{Expression}
use Rattle.f3_tree.specs.Expressions.{expression_view}
use Rattle.f3_typed_parts.specs.Known.{context_of}
use Rattle.f3_elaboration.specs.Declarations.{lower_bound}
use Rattle.f3_declaration_nodes.proofs.Lists.{grown_more}
use Rattle.f3_declaration_nodes.proofs.variables.deferred_bounds.Goals as goal

pub loop-e-preserved : goal.loop-e-preserved
loop-e-preserved c =
    let known = context_of c.args.known.now c.args.at in
    grown_more (λ (e : Option Expression). lower_bound known (option_map expression_view e) ∷ [])
    (map (λ (e : Option Expression). lower_bound known (option_map expression_view e))) (λ e es. refl)
    c.args.list.now c.loop-e.e-index c.e-item.result c.loop-e.found.items c.push.new.self.items _
    c.loop-e-test.true c.e-item.is (search rules) c.loop-e.invariant
