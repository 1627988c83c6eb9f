-- What an instruction takes and leaves, as it was told.
use Rattle.std.specs.Prelude.{List, [], ◌∷◌, Option, Some, None}
use Rattle.f3_heights.specs.Effect as heights
use Rattle.f3_sizes.specs.declared.effect.Effect.{Effect}
use Rattle.f3_sizes.specs.declared.effect.Far.{Far}

-- the ways on that there are
abbrev pub far_in : List (Option Far) → List heights.Far
far_in [] = []
far_in (None ∷ xs) = far_in xs
far_in (Some x ∷ xs) = record { over = x.over; left = x.left } ∷ far_in xs

abbrev pub effect_in : Effect → heights.Effect
effect_in e = record { takes = e.takes; next = e.next; far = far_in e.far }
