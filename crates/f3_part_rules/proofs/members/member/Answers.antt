use Rattle.std.proofs.Common.{ap, ◌∙◌, subst}
use Rattle.f3_tree.specs.Tree.{procedure_view}
use Rattle.f3_typed_parts.specs.Noted.{noted}
use Rattle.f3_type_rules.specs.Walks.{Spot}
use Rattle.f3_entities.specs.Growth.{Stands}
use Rattle.f3_part_rules.specs.Inner.Procedures.{procedure_rows, procedure_next}
use Rattle.f3_part_rules.proofs.members.member.Goals as goal

pub returns-clause-noted : goal.returns-clause-noted
returns-clause-noted c = λ s k e h.
    c.in_ok-procedure.ensures.noted s k h
    ∙ ap (λ (x : Spot). noted c.args.first.now (procedure_rows x k c.args.entity (procedure_view c.args.given.now))) (c.spot_of-spot.ensures s e c.args.entity)

pub returns-clause-stands : goal.returns-clause-stands
returns-clause-stands c = λ s k e h.
    subst (λ (x : Spot). Stands s c.procedure.new.growth (procedure_next x k c.args.entity (procedure_view c.args.given.now))) (c.spot_of-spot.ensures s e c.args.entity)
    (c.in_ok-procedure.ensures.stands s k h)
