use Rattle.std.proofs.Common.{◌≡◌, ◌+◌, ap, sym, ◌∙◌, ℕ, [], List, map, subst}
use Rattle.std.specs.List.{flat_map}
use Rattle.f3_tree.specs.declared.declaration.Specification.{Specification}
use Rattle.f3_tree.specs.Declarations.{specification_view}
use Rattle.f3_tree.specs.Tree.{ProcedureTree, procedure_view}
use Rattle.f3_typed_parts.specs.Noted.{noted}
use Rattle.f3_type_rules.specs.Declarations.{header_rows, local_rows, specification_rows, specification_next}
use Rattle.f3_type_rules.specs.Names.{Declared, entries}
use Rattle.f3_type_rules.specs.Scene.{Scene}
use Rattle.f3_type_rules.specs.Walks.{after, along, Known, Spot}
use Rattle.f3_declared.specs.Spots.{spot_in}
use Rattle.f3_entities.specs.declared.growth.Growth.{Growth}
use Rattle.f3_entities.specs.Growth.{Stands}
use Rattle.f3_specifications.proofs.Specifying.{three_noted}
use Rattle.f3_part_rules.specs.Inner.Procedures.{within}
use Rattle.f3_part_rules.proofs.Headers.{header_here, nothing_final}
use Rattle.f3_part_rules.proofs.members.procedure.Goals as goal

-- what is known stands before the specification part too
stood : (s : Scene) (g : Growth) (k : Known) (first n : ℕ) (p : ProcedureTree) → n ≡ (within k first p).next → Stands s g k → Stands s (record g { next = n }) (within k first p)
stood s g k first n p e h = record { scene = h.scene; next = e; values = h.values; cells = h.cells }

pub returns-clause-noted : goal.returns-clause-noted
returns-clause-noted c = λ s k h.
    let spot : Spot = spot_in s c.args.spot.now in
    let p : ProcedureTree = procedure_view c.args.procedure.now in
    let begun : Stands s (record c.args.growth.now { next = c.args.entity + c.typed_count.result }) (within k c.args.entity p) =
    stood s c.args.growth.now k c.args.entity _ p (ap (λ n. c.args.entity + n) c.typed_count.ensures) h in
    three_noted c.args.first.now c.header.new.first c.specifications.new.first _
    (header_rows spot k (p.header).name (p.header).kind)
    (along (specification_rows spot []) (specification_next spot) (within k c.args.entity p) (p.part).specifications)
    (flat_map (λ (x : ℕ × Declared). local_rows spot x.1) (entries (p.part).specifications))
    (c.header.ensures ∙ ap (noted c.args.first.now) (header_here s c.args.growth.now k c.args.spot.now (p.header).name (p.header).kind h))
    (c.in_ok-specifications.ensures.noted s (within k c.args.entity p) [] begun (nothing_final s _ (c.deref.ensures.value ∙ c.new-nothing.ensures.items))
    ∙ ap (λ (xs : List Specification). noted c.header.new.first (along (specification_rows spot []) (specification_next spot) (within k c.args.entity p) (map specification_view xs))) c.as_slice-list.ensures.value)
    (c.locals.ensures
    ∙ ap (λ (z : Scene). noted c.specifications.new.first (flat_map (λ (x : ℕ × Declared). local_rows (spot_in z c.args.spot.now) x.1) (entries (map specification_view c.as_slice-list.result.now)))) (sym (c.in_ok-specifications.ensures.stands s _ begun).scene)
    ∙ ap (λ (xs : List Specification). noted c.specifications.new.first (flat_map (λ (x : ℕ × Declared). local_rows spot x.1) (entries (map specification_view xs)))) c.as_slice-list.ensures.value)

pub returns-clause-stands : goal.returns-clause-stands
returns-clause-stands c = λ s k h.
    let spot : Spot = spot_in s c.args.spot.now in
    let p : ProcedureTree = procedure_view c.args.procedure.now in
    subst (λ (xs : List Specification). Stands s c.specifications.new.growth (after (specification_next spot) (within k c.args.entity p) (map specification_view xs))) c.as_slice-list.ensures.value
    (c.in_ok-specifications.ensures.stands s _ (stood s c.args.growth.now k c.args.entity _ p (ap (λ n. c.args.entity + n) c.typed_count.ensures) h))
