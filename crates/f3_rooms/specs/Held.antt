-- What allocatables hold, in a variable and beneath it (ISO/IEC 1539-1:2004, 6.3).
use Rattle.std.proofs.Common.{zero, suc}
use Rattle.std.specs.Prelude.{⊤, ℕ, ◌+◌, nat_eq, if◌then◌else◌, List, [], ◌∷◌, ◌++◌}
use Rattle.f3_meaning_whole.specs.Value.{Span}
use Rattle.f3_meaning_whole.specs.Store.{Step, Component, Element, Contents}

-- Nothing; or, of an allocatable, the block with the words of what it holds, the bounds of that, and what is held there in turn; or what
-- the components of an object or the elements of an array hold, in their order. Behind the end of a row nothing is held.
mutual
  pub data Held : Type 0 where
    Empty : Held
    Holds : (block : ℕ) (spans : List Span) → Held → Held
    Parts : Row → Held

  pub data Row : Type 0 where
    end : Row
    next : Held → Row → Row

abbrev pub parts_of : Held → Row
parts_of (Parts hs) = hs
parts_of Empty = end
parts_of (Holds c ss h) = end

-- what is no allocatable holds nothing, or has parts that do
abbrev pub IsDivided : Held → Type 0
IsDivided Empty = ⊤
IsDivided (Holds c ss h) = ⊥
IsDivided (Parts hs) = ⊤

abbrev pub first : Row → Held
first end = Empty
first (next h hs) = h

abbrev pub others : Row → Row
others end = end
others (next h hs) = hs

-- the one of a number
abbrev pub part_at : Row → ℕ → Held
part_at hs zero = first hs
part_at hs (suc k) = part_at (others hs) k

-- a row with another of a number
abbrev pub with_part_at : Row → ℕ → Held → Row
with_part_at hs zero u = next u (others hs)
with_part_at hs (suc k) u = next (first hs) (with_part_at (others hs) k u)

-- what is held, but at the end of a way this
abbrev pub with_held : Held → List Step → Held → Held
with_held h [] u = u
with_held h (Component k ∷ way) u = Parts (with_part_at (parts_of h) k (with_held (part_at (parts_of h) k) way u))
with_held h (Element k ∷ way) u = Parts (with_part_at (parts_of h) k (with_held (part_at (parts_of h) k) way u))
with_held (Holds c ss h) (Contents ∷ way) u = Holds c ss (with_held h way u)
with_held h (Contents ∷ way) u = h

-- the blocks of all that is held
abbrev mutual
  pub blocks_in : Held → List ℕ
  blocks_in Empty = []
  blocks_in (Holds c ss h) = c ∷ blocks_in h
  blocks_in (Parts hs) = blocks_in_all hs

  pub blocks_in_all : Row → List ℕ
  blocks_in_all end = []
  blocks_in_all (next h hs) = blocks_in h ++ blocks_in_all hs

-- how often a block stands in a list
abbrev pub times : ℕ → List ℕ → ℕ
times q [] = 0
times q (b ∷ bs) = (if nat_eq q b then 1 else 0) + times q bs
