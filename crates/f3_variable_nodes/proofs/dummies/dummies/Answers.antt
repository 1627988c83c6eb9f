use Rattle.std.proofs.Common.{nat_eq, List, map, ap, ◌∙◌}
use Rattle.std.specs.Option.{option_map}
use Rattle.std.specs.Map.{lookup}
use Rattle.indexmap.specs.IndexMap.{get}
use Rattle.f3_tree.specs.declared.declaration.Specification.{Specification}
use Rattle.f3_tree.specs.Declarations.{specification_view}
use Rattle.f3_tree.specs.Tree.{procedure_view}
use Rattle.f3_type_rules.specs.Names.{entries}
use Rattle.f3_elaboration.specs.Units.{dummy}
use Rattle.f3_variable_nodes.specs.Dummies.{found_view}
use Rattle.f3_variable_nodes.proofs.Procedures.{dummies_stand}
use Rattle.f3_variable_nodes.proofs.dummies.dummies.Goals as goal

pub returns : goal.returns
returns c = λ w inner m h scope tree.
    c.in_ok-found.ensures
    ∙ dummies_stand c.args.whole w inner c.args.unit c.args.scope m (procedure_view c.args.procedure.now)
    (λ k. option_map found_view (get nat_eq c.in_ok-declarations.declarations k)) _ h scope tree
    (λ k. c.in_ok-declarations.ensures k ∙ ap (λ (ss : List Specification). lookup (nat_eq k) (entries (map specification_view ss))) c.deref.ensures.value)
    ∙ ap (map (dummy w c.args.unit m)) c.as_slice-list.ensures.value
