use Rattle.f3_sites.specs.Sites.{site_of}
use Rattle.f3_acts.proofs.Given.{nothing_at, nothing_defined}
use Rattle.f3_acts.proofs.calls.called.Goals as goal

pub returns-in-None-clause-defined : goal.returns-in-None-clause-defined
returns-in-None-clause-defined c =
    nothing_defined (site_of c.args.site.now) _ c.args.given.now c.args.later.now
    (nothing_at c.args.site.now.known c.args.site.now.at c.args.name.symbol c.in-One.number c.deref.result.now c.deref.ensures.value c.in-None.ensures.lookup.3 c.in-One.ensures)
