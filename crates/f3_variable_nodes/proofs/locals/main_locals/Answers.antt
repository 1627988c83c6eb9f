use Rattle.std.proofs.Common.{ℕ, List, [], map, filter, ap, ◌∙◌}
use Rattle.f3_tree.specs.declared.declaration.Specification.{Specification}
use Rattle.f3_tree.specs.Declarations.{specification_view}
use Rattle.f3_tree.specs.Tree.{unit_view}
use Rattle.f3_elaboration.specs.Declarations.{declared}
use Rattle.f3_variable_nodes.specs.Locals.{is_local_beside, trees}
use Rattle.f3_variable_nodes.proofs.Activations.{declared_all, main_same}
use Rattle.f3_variable_nodes.proofs.locals.main_locals.Goals as goal

pub returns : goal.returns
returns c = λ w inner u h scope tree.
    let f = declared w c.args.scope c.args.scope in
    c.in_ok-found.ensures
    ∙ declared_all c.args.whole w inner c.args.scope c.args.scope _ h
    ∙ ap (λ (ns : List ℕ). map f (filter (is_local_beside ns) (trees (map specification_view c.deref.result.now)))) c.in_ok-names.ensures
    ∙ ap (λ (ss : List Specification). map f (filter (is_local_beside []) (trees (map specification_view ss)))) c.deref.ensures.value
    ∙ main_same w c.args.scope u (unit_view c.args.unit.now) scope tree
