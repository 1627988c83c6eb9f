use Rattle.std.proofs.Common.{rules, refl, [], ◌∷◌, List, map}
use Rattle.f3_scopes.specs.declared.outline.Declared.{Declared}
use Rattle.f3_scopes.specs.Outlines.{Own, own_view}
use Rattle.f3_scopes.proofs.Longer.{grown_more}
use Rattle.f3_scenes.proofs.kinds.add_kinds.Goals as goal

pub loop-declared-preserved : goal.loop-declared-preserved
loop-declared-preserved c =
    grown_more (λ (x : Declared). x.kind ∷ []) (λ (xs : List Declared). map (λ (d : Own). d.kind) (map own_view xs)) (λ x xs. refl)
    c.args.list.now c.loop-declared.declared-index c.declared-item.result c.loop-declared.found.items c.push.new.self.items _
    c.loop-declared-test.true c.declared-item.is (search rules) c.loop-declared.invariant
