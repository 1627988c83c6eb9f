use Rattle.std.proofs.Common.{ap, sym, ◌∙◌, ℕ}
use Rattle.std.specs.List.{flat_map}
use Rattle.f3_tree.specs.declared.declaration.Specification.{Specification}
use Rattle.f3_tree.specs.Declarations.{declaration_view, specification_view}
use Rattle.f3_typed_parts.specs.Noted.{noted}
use Rattle.f3_type_rules.specs.Names.{Declared, entries_in}
use Rattle.f3_type_rules.specs.Declarations.{local_rows}
use Rattle.f3_type_rules.specs.Walks.{Spot}
use Rattle.f3_declared.specs.Scenery.{scene_in}
use Rattle.f3_declared.specs.Spots.{spot_in}
use Rattle.f3_declared.proofs.Locals.{rows_of_declaration}
use Rattle.f3_declared.proofs.specifiers.specification_locals.Goals as goal

pub returns-in-Declaration : goal.returns-in-Declaration
returns-in-Declaration c =
    let s : Spot = spot_in (scene_in c.args.known.now c.args.scenery) c.args.spot.now in
    c.declaration_locals.ensures
    ∙ ap (noted c.args.first.now) (sym (rows_of_declaration (local_rows s) (declaration_view c.in-Declaration.declaration) c.in-Declaration.declaration.entities.items))
    ∙ ap (λ (x : Specification). noted c.args.first.now (flat_map (λ (y : ℕ × Declared). local_rows s y.1) (entries_in (specification_view x)))) (sym c.in-Declaration.is)
