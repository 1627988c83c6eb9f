use Rattle.std.proofs.Common.{map, refl, ap, ◌∙◌, ◌∷◌, [], ◌++◌, Option}
use Rattle.f3_tree.specs.declared.expression.Expression.{Expression}
use Rattle.f3_tree.specs.Declarations.{bounds_view}
use Rattle.f3_program.specs.declared.declarations.Dimension.{Dimension}
use Rattle.f3_typed_parts.specs.Known.{context_of}
use Rattle.f3_elaboration.specs.Declarations.{dimension}
use Rattle.f3_declaration_nodes.proofs.Lists.{grown_more}
use Rattle.f3_declaration_nodes.proofs.shapes.explicit.Goals as goal

pub loop-bounds-preserved : goal.loop-bounds-preserved
loop-bounds-preserved c =
    let known = context_of c.args.known.now c.args.at in
    grown_more (λ (b : Option Expression × Expression). dimension known (bounds_view b) ∷ [])
    (map (λ (b : Option Expression × Expression). dimension known (bounds_view b))) (λ b bs. refl)
    c.args.list.now c.loop-bounds.bounds-index c.bounds-item.result c.loop-bounds.found.items c.push.new.self.items _
    c.loop-bounds-test.true c.bounds-item.is
    (c.in_ok-push.ensures.items ∙ ap (λ (x : Dimension). c.loop-bounds.found.items ++ x ∷ []) c.dimension.ensures) c.loop-bounds.invariant
