use Rattle.std.proofs.Common.{◌∙◌, sym, ap}
use Rattle.f3_meaning_whole.specs.Act as a
use Rattle.f3_located.proofs.Parting.{component_made}
use Rattle.f3_located.proofs.parts.component.Goals as goal

pub returns : goal.returns
returns c = λ g e answers. component_made g c.args.reference c.args.k c.args.maker _ c.reach_component.new.path c.in_ok-reach.reach c.component_type.result c.push.new.self c.in_ok-reach.ensures.path c.in_ok-reach.ensures.reach
    (c.component_type.ensures ∙ ap (λ ts. a.component_type ts c.args.reference.of c.args.k) (sym e)) c.in_ok-push.ensures.items
