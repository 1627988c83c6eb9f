use Rattle.f3_sites.specs.Sites.{site_of}
use Rattle.f3_unit_bodies.proofs.Standing.{on_ok, settled_at, unit_noted}
use Rattle.f3_unit_bodies.proofs.bodies.unit_bodies.Goals as goal

pub procedures-requires-clause-settled : goal.procedures-requires-clause-settled
procedures-requires-clause-settled c = settled_at (site_of c.body.new.site) (site_of c.args.site.now) c.in_ok-next.ensures.site c.requires.settled

pub returns-clause-noted : goal.returns-clause-noted
returns-clause-noted c =
    on_ok c.procedures.result
    (unit_noted (site_of c.body.new.site) (site_of c.args.site.now) c.args.scope c.in_ok-next.next c.args.unit.now c.deref.result.now c.deref-2.result.now c.args.first.now c.body.new.first
    c.procedures.new.first c.in_ok-next.ensures.site c.deref.ensures.value c.deref-2.ensures.value c.in_ok-next.ensures.next c.in_ok-next.ensures.noted)
    c.procedures.ensures.noted
