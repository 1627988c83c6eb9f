use Rattle.std.proofs.Common.{rules, refl, [], ◌∷◌, List, map, String}
use Rattle.std.specs.Global.{Global}
use Rattle.std.specs.String.{string_bytes}
use Rattle.f3_type_rules.specs.Scene.{intrinsic_of}
use Rattle.f3_scopes.proofs.Longer.{grown_more}
use Rattle.f3_scenes.proofs.intrinsics.intrinsics.Goals as goal

pub loop-name-preserved : goal.loop-name-preserved
loop-name-preserved c =
    grown_more (λ (s : String Global). intrinsic_of (string_bytes s) ∷ []) (λ (ss : List (String Global)). map intrinsic_of (map string_bytes ss)) (λ s ss. refl)
    c.as_slice-name-items.result.now c.loop-name.name-index c.name-item.result c.loop-name.found.items c.push.new.self.items _
    c.loop-name-test.true c.name-item.is (search rules) c.loop-name.invariant
