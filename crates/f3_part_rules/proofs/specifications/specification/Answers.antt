use Rattle.std.proofs.Common.{ap, sym, ◌∙◌, subst}
use Rattle.f3_tree.specs.declared.declaration.Specification.{Specification}
use Rattle.f3_tree.specs.Declarations.{specification_view}
use Rattle.f3_typed_parts.specs.Noted.{noted}
use Rattle.f3_typed_parts.proofs.Noting.{noted_none}
use Rattle.f3_type_rules.specs.Declarations.{specification_rows, specification_next}
use Rattle.f3_declared.specs.Spots.{spot_in}
use Rattle.f3_entities.specs.Growth.{Stands}
use Rattle.f3_part_rules.proofs.specifications.specification.Goals as goal

pub returns-in_ok-declaration-in-Declaration-clause-noted : goal.returns-in_ok-declaration-in-Declaration-clause-noted
returns-in_ok-declaration-in-Declaration-clause-noted c = λ s k ms h f.
    c.in_ok-declaration-in-Declaration.ensures.noted s k h
    ∙ ap (λ (x : Specification). noted c.args.first.now (specification_rows (spot_in s c.args.spot.now) ms k (specification_view x))) (sym c.in-Declaration.is)

pub returns-in_ok-declaration-in-Declaration-clause-stands : goal.returns-in_ok-declaration-in-Declaration-clause-stands
returns-in_ok-declaration-in-Declaration-clause-stands c = λ s k h.
    subst (λ (x : Specification). Stands s c.declaration.new.growth (specification_next (spot_in s c.args.spot.now) k (specification_view x))) (sym c.in-Declaration.is)
    (c.in_ok-declaration-in-Declaration.ensures.stands s k h)

pub returns-in_ok-type_definition-in-Type-clause-stands : goal.returns-in_ok-type_definition-in-Type-clause-stands
returns-in_ok-type_definition-in-Type-clause-stands c = λ s k h.
    subst (λ (x : Specification). Stands s c.type_definition.new.growth (specification_next (spot_in s c.args.spot.now) k (specification_view x))) (sym c.in-Type.is)
    (c.in_ok-type_definition-in-Type.ensures.stands s k h)

pub returns-in-Access-clause-noted : goal.returns-in-Access-clause-noted
returns-in-Access-clause-noted c = λ s k ms h f.
    sym (noted_none c.args.first.now) ∙ ap (λ (x : Specification). noted c.args.first.now (specification_rows (spot_in s c.args.spot.now) ms k (specification_view x))) (sym c.in-Access.is)

pub returns-in-Protected-clause-noted : goal.returns-in-Protected-clause-noted
returns-in-Protected-clause-noted c = λ s k ms h f.
    sym (noted_none c.args.first.now) ∙ ap (λ (x : Specification). noted c.args.first.now (specification_rows (spot_in s c.args.spot.now) ms k (specification_view x))) (sym c.in-Protected.is)

pub returns-in-Save-clause-noted : goal.returns-in-Save-clause-noted
returns-in-Save-clause-noted c = λ s k ms h f.
    sym (noted_none c.args.first.now) ∙ ap (λ (x : Specification). noted c.args.first.now (specification_rows (spot_in s c.args.spot.now) ms k (specification_view x))) (sym c.in-Save.is)
