-- Blocks that may be given back.
use Rattle.std.specs.Prelude.{◌≡◌, ◌<◌, ℕ, List}
use Rattle.f3_live_blocks.specs.Blocks.{Live, IsLive, pins_of}
use Rattle.f3_rooms.specs.Held.{times}

-- these are live, and none of them is pinned
abbrev pub AreFree : Live → List ℕ → Type 0
AreFree m bs = (q : ℕ) → 0 < times q bs → IsLive m q × (pins_of m q ≡ 0)
