use Rattle.std.proofs.Common.{map, sym, ◌∙◌}
use Rattle.f3_scopes.specs.Outlines.{scope_view}
use Rattle.f3_access.specs.Hosts.{host_of}
use Rattle.f3_names.proofs.Holding.{outermost_last, outermost_more}
use Rattle.f3_names.proofs.describing.unit_of.Goals as goal

pub loop-host-preserved : goal.loop-host-preserved
loop-host-preserved c =
    outermost_more (host_of (map scope_view c.args.outlines.now)) c.requires c.loop-host.unit c.in-Some.host (sym c.host_of.ensures ∙ c.in-Some.is) ∙ c.loop-host.invariant

pub returns : goal.returns
returns c =
    sym (outermost_last (host_of (map scope_view c.args.outlines.now)) c.requires c.loop-host.unit (sym c.host_of.ensures ∙ c.in_default.is)) ∙ c.loop-host.invariant
