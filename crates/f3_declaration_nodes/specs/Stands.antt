-- What is known of a whole program, where tables in memory say it.
use Rattle.std.specs.Prelude.{◌≡◌, ℕ, nat_eq, Option, None, slice_get}
use Rattle.std.specs.Map.{lookup}
use Rattle.f3_kinds.specs.declared.types.Scalar.{Scalar}
use Rattle.f3_kinds.specs.Things.{map_or}
use Rattle.f3_declared.specs.Scenery.{scene_in}
use Rattle.f3_numbers.specs.Agrees.{Agrees}
use Rattle.f3_elaboration.specs.Declarations.{Whole}
use Rattle.f3_elaboration.specs.Numbers.{Inner}
use Rattle.f3_declaration_nodes.specs.declared.whole.Whole.{Whole as Tables}

pub record Stands (t : Tables) (w : Whole) (inner : Inner) : Type 0 where
  pub scene : w.scene ≡ scene_in t.known.now t.scenery
  pub values : (e : ℕ) → lookup (nat_eq e) w.values ≡ map_or None (λ (v : Option Scalar). v) (slice_get t.known.now.values.items e)
  pub numbers : Agrees t.numbers.now w.numbers inner
