use Rattle.std.proofs.Common.{map, rules, List}
use Rattle.std.proofs.lemmas.List.{map-append}
use Rattle.f3_access.specs.Access.{entities_of}
use Rattle.f3_scopes.specs.declared.outline.Outline.{Outline}
use Rattle.f3_scopes.specs.Outlines.{Own, own_view, scope_view}
use Rattle.f3_scopes.proofs.Longer.{grown_more}
use Rattle.f3_scenes.proofs.kinds.kinds.Goals as goal

pub loop-outline-preserved : goal.loop-outline-preserved
loop-outline-preserved c =
    grown_more (λ (o : Outline). map (λ (d : Own). d.kind) (map own_view o.declared.items))
    (λ (os : List Outline). map (λ (d : Own). d.kind) (entities_of (map scope_view os)))
    (λ o os. map-append (λ (d : Own). d.kind) (map own_view o.declared.items) (entities_of (map scope_view os)))
    c.args.outlines.now c.loop-outline.outline-index c.outline-item.result c.loop-outline.found.items c.add_kinds.new.found.items _
    c.loop-outline-test.true c.outline-item.is (search rules) c.loop-outline.invariant
