use Rattle.std.proofs.Common.{ap, ◌∙◌, [], true, List}
use Rattle.std.specs.List.{flat_map}
use Rattle.f3_rules.specs.declared.rule.Rule.TheVariants.{T5}
use Rattle.f3_tree.specs.declared.expression.Name.{Name}
use Rattle.f3_tree.specs.Declarations.{TypeTree, type_view}
use Rattle.f3_kinds.specs.Rows.{at_name, unless}
use Rattle.f3_typed_parts.specs.Noted.{noted}
use Rattle.f3_type_rules.specs.Declarations.{all_cells, component_rows}
use Rattle.f3_type_rules.specs.Finals.{final_rank, final_rows}
use Rattle.f3_type_rules.specs.Members.{members_from}
use Rattle.f3_type_rules.specs.Shapes.{at_most}
use Rattle.f3_type_rules.specs.Walks.{Spot}
use Rattle.f3_declared.specs.Spots.{spot_in}
use Rattle.f3_part_rules.proofs.Parts.{then_noted, look_here, finals_here}
use Rattle.f3_part_rules.proofs.specifications.type_definition.Goals as goal

pub returns-clause-noted : goal.returns-clause-noted
returns-clause-noted c = λ s k ms h f.
    let spot : Spot = spot_in s c.args.spot.now in
    let t : TypeTree = type_view c.args.given.now in
    then_noted c.args.first.now c.definition.new.first _
    (flat_map (component_rows (record spot { is_type = true; listed = [] }) k) t.components)
    (unless (at_most 16777216 (all_cells spot k t)) (at_name 5 T5 t.name))
    (final_rows (final_rank s.names spot.scope ms k.next) [] [] t.finals)
    (c.in_ok-cells.ensures.noted s k h)
    (c.in_ok-finals.ensures s.names (look_here s c.args.growth.now k h) f.scopes f.scope f.procedures f.candidates
    ∙ ap (λ (xs : List Name). noted c.definition.new.first (final_rows (final_rank s.names spot.scope (members_from f.scopes c.args.finalizers.first f.scope f.procedures) c.args.growth.now.next) [] [] xs)) c.deref.ensures.value
    ∙ ap (noted c.definition.new.first) (finals_here s spot.scope c.args.growth.now.next k.next ms (members_from f.scopes c.args.finalizers.first f.scope f.procedures) t.finals h.next f.members))

pub returns-clause-stands : goal.returns-clause-stands
returns-clause-stands c = λ s k h.
    c.define.ensures.stands s k (all_cells (spot_in s c.args.spot.now) k (type_view c.args.given.now)) h (c.in_ok-cells.ensures.cells s k h)
