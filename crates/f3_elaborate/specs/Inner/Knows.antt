-- What is known along the bodies of a program is what is known of the whole program.
use Rattle.std.specs.Prelude.{◌≡◌, ℕ, nat_eq, Option, None, map, slice_get}
use Rattle.std.specs.Map.{lookup}
use Rattle.f3_kinds.specs.declared.types.Scalar.{Scalar}
use Rattle.f3_kinds.specs.Things.{map_or}
use Rattle.f3_declared.specs.declared.scenery.Scenery.{Scenery}
use Rattle.f3_declared.specs.Scenery.{scene_in}
use Rattle.f3_numbers.specs.Agrees.{Agrees, nothing_inside}
use Rattle.f3_elaboration.specs.Declarations.{Whole}
use Rattle.f3_inside.specs.declared.state.State.{State}

pub record Knows (scenery : Scenery) (s : State) (w : Whole) : Type 0 where
  pub scene : w.scene ≡ scene_in s.site.known scenery
  pub values : (e : ℕ) → lookup (nat_eq e) w.values ≡ map_or None (λ (v : Option Scalar). v) (slice_get s.site.known.values.items e)
  pub numbers : Agrees s.numbers w.numbers nothing_inside
  pub texts : map (λ t. t.items) s.texts.now ≡ w.texts
