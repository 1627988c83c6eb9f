use Rattle.std.proofs.Common.{ℕ, List, map, filter, ap, ◌∙◌}
use Rattle.f3_tree.specs.declared.declaration.Specification.{Specification}
use Rattle.f3_tree.specs.Declarations.{specification_view}
use Rattle.f3_tree.specs.Tree.{procedure_view}
use Rattle.f3_elaboration.specs.Declarations.{declared}
use Rattle.f3_variable_nodes.specs.Locals.{header_symbols, is_local_beside, trees}
use Rattle.f3_variable_nodes.proofs.Activations.{declared_all, member_same}
use Rattle.f3_variable_nodes.proofs.locals.member_locals.Goals as goal

pub returns : goal.returns
returns c = λ w inner m h scope tree.
    let f = declared w c.args.unit c.args.scope in
    c.in_ok-found.ensures
    ∙ declared_all c.args.whole w inner c.args.unit c.args.scope _ h
    ∙ ap (λ (ns : List ℕ). map f (filter (is_local_beside ns) (trees (map specification_view c.deref.result.now)))) c.in_ok-names.ensures
    ∙ ap (λ (ss : List Specification). map f (filter (is_local_beside (header_symbols (procedure_view c.args.procedure.now).header)) (trees (map specification_view ss)))) c.deref.ensures.value
    ∙ member_same w c.args.unit c.args.scope m (procedure_view c.args.procedure.now) scope tree
