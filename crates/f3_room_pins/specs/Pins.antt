-- When blocks are pinned (own rule): each by each lent reference whose path goes through it.
use Rattle.std.specs.Prelude.{⊤, ◌≡◌, ◌<◌, ◌⊎◌, ℕ, ◌+◌, List, [], ◌∷◌, ◌++◌, Option, None, Some}
use Rattle.f3_live_blocks.specs.Blocks.{Live, pins_of}
use Rattle.f3_meaning_whole.specs.Shape.{Shape}
use Rattle.f3_meaning_whole.specs.Store.{Root, Path, Step, Component, Element, Contents}
use Rattle.f3_meaning_whole.specs.Reference.{Reference}
use Rattle.f3_rooms.specs.Held.{Held, Holds, times}
use Rattle.f3_rooms.specs.Rooms.{Rooms, blocks_of}
use Rattle.f3_rooms.specs.Places.{Found, found}

-- the block of what an allocatable holds, if it holds something
abbrev pub block_in : Held → List ℕ
block_in (Holds c ss h) = c ∷ []
block_in h = []

abbrev pub block_at : Option Found → List ℕ
block_at None = []
block_at (Some f) = block_in f.held

-- The blocks that a way goes through: of the allocatables whose contents it enters (ISO/IEC 1539-1:2004, 6.3), behind its front.
abbrev pub blocks_behind : List Shape → Rooms → Root → List Step → List Step → List ℕ
blocks_behind ts x r front [] = []
blocks_behind ts x r front (Component k ∷ way) = blocks_behind ts x r (front ++ Component k ∷ []) way
blocks_behind ts x r front (Element k ∷ way) = blocks_behind ts x r (front ++ Element k ∷ []) way
blocks_behind ts x r front (Contents ∷ way) = block_at (found ts x r front) ++ blocks_behind ts x r (front ++ Contents ∷ []) way

abbrev pub blocks_along : List Shape → Rooms → Root → List Step → List ℕ
blocks_along ts x r way = blocks_behind ts x r [] way

-- the blocks that the path of a reference goes through
abbrev pub blocks_lent : List Shape → Rooms → Reference → List ℕ
blocks_lent ts x l = blocks_along ts x l.path.root l.path.steps

-- how often lent references go through a block
abbrev pub times_lent : List Shape → Rooms → ℕ → List Reference → ℕ
times_lent ts x b [] = 0
times_lent ts x b (l ∷ ls) = times b (blocks_lent ts x l) + times_lent ts x b ls

-- each block of the store is pinned as often
abbrev pub ArePinned : List Shape → Live → Rooms → List Reference → Type 0
ArePinned ts m x lent = (b : ℕ) → 0 < times b (blocks_of x) → pins_of m b ≡ times_lent ts x b lent

-- a part that there is, or one of a variable that stands in no block
abbrev pub IsThere : List Shape → Rooms → Path → Type 0
IsThere ts x p = (found ts x p.root [] ≡ None) ⊎ ((f : Found) × (found ts x p.root p.steps ≡ Some f))

abbrev pub AreThere : List Shape → Rooms → List Reference → Type 0
AreThere ts x [] = ⊤
AreThere ts x (l ∷ ls) = IsThere ts x l.path × AreThere ts x ls
