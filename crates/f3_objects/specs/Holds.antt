-- Trees that blocks hold (own rule): the words at a place are a tree's, and each block beneath has the words of its contents, and stands there once.
use Rattle.std.specs.Prelude.{ℕ, ℤ, ◌≡◌, ◌≢◌, ◌+◌, ◌<◌, ◌≤◌, Bool, true, cond, ◌&&◌, nat_eq, List, ◌++◌, take, drop, set, length, pos, None}
use Rattle.std.specs.FinMap.{get}
use Rattle.f3_live_blocks.specs.Blocks.{Live, IsLive, words_of, pins_of, with_words}
use Rattle.f3_desc.specs.Shape.{Shape, Holder, Times}
use Rattle.f3_objects.specs.Tree.{Tree, End, Word, Unallocated, Allocated, words, times, Fits}

-- each block beneath is live, has the words of its contents, and a positive name
abbrev pub Held : Live → Tree → Type 0
Held m End = Unit {0}
Held m (Word w t) = Held m t
Held m (Unallocated dims t) = Held m t
Held m (Allocated b dims c t) = IsLive m b × (words_of m b ≡ words c) × Held m c × Held m t × (0 < b)

-- xs with the words ys at a place
abbrev pub with_words_at : List ℤ → ℕ → List ℤ → List ℤ
with_words_at xs at ys = take at xs ++ (ys ++ drop (at + length ys) xs)

-- the words of a block from a place on are a tree's, and each block stands once
pub record Stands (m : Live) (block at : ℕ) (t : Tree) : Type 0 where
  pub live : IsLive m block
  pub within : at + length (words t) ≤ length (words_of m block)
  pub there : take (length (words t)) (drop at (words_of m block)) ≡ words t
  pub held : Held m t
  pub once : (q : ℕ) → times q t ≤ 1
  pub apart : times block t ≡ 0

-- an object of this shape stands there
pub record Holds (m : Live) (block at : ℕ) (s : Shape) (t : Tree) : Type 0 where
  pub stands : Stands m block at t
  pub fits : Fits s t

-- an object's tree becomes another: blocks that only the old one has were given, those that only the new one has were taken, and all else is unchanged
pub record Replaces (old new : Live) (block at : ℕ) (t u : Tree) : Type 0 where
  pub live : IsLive new block
  pub written : words_of new block ≡ with_words_at (words_of old block) at (words u)
  pub pinned : pins_of new block ≡ pins_of old block
  pub held : Held new u
  pub taken : (q : ℕ) → 0 < times q u → times q t ≡ 0 → (get old q ≡ None) × (pins_of new q ≡ 0)
  pub kept : (q : ℕ) → 0 < times q u → 0 < times q t → pins_of new q ≡ pins_of old q
  pub given : (q : ℕ) → times q u ≡ 0 → 0 < times q t → get new q ≡ None
  pub others : (q : ℕ) → q ≢ block → times q u ≡ 0 → times q t ≡ 0 → get new q ≡ get old q

-- no block beneath is pinned
abbrev pub NonePinned : (ℕ → ℕ) → Tree → Type 0
NonePinned pins t = (q : ℕ) → 0 < times q t → pins q ≡ 0

-- whether no block beneath is pinned
abbrev pub is_free : (ℕ → ℕ) → Tree → Bool
is_free pins End = true
is_free pins (Word w t) = is_free pins t
is_free pins (Unallocated dims t) = is_free pins t
is_free pins (Allocated b dims c t) = (nat_eq (pins b) 0 && is_free pins c) && is_free pins t

-- what is left where blocks are given back in order, contents before their holder's block, and nothing from the first pinned block on
abbrev pub left : (ℕ → ℕ) → Tree → Tree
left pins End = End
left pins (Word w t) = Word w (left pins t)
left pins (Unallocated dims t) = Unallocated dims (left pins t)
left pins (Allocated b dims c t) =
    cond (nat_eq (pins b) 0) (cond (is_free pins c) (Unallocated dims (left pins t)) (Allocated b dims (left pins c) t)) (Allocated b dims c t)

-- a block holds so many objects of this shape and nothing else
pub record IsContents (m : Live) (block : ℕ) (s : Shape) (n : ℕ) (t : Tree) : Type 0 where
  pub holds : Holds m block 0 (Times n s) t
  pub exact : words_of m block ≡ words t

-- giving back the blocks beneath an object: the result tells whether none of them was pinned
pub record Frees (old new : Live) (block at : ℕ) (t : Tree) (ok : Bool) : Type 0 where
  pub replaced : Replaces old new block at t (left (pins_of old) t)
  pub answered : ok ≡ is_free (pins_of old) t

-- the words of one block from a place on are written into another, and then the first of them is 0
abbrev pub with_moved : Live → ℕ → ℕ → ℕ → ℕ → List ℤ → Live
with_moved m from from_at to to_at ws =
    let mid = with_words m to (with_words_at (words_of m to) to_at ws) in
    with_words mid from (set (words_of mid from) from_at (pos 0))

-- an allocatable with this tree went from one place to another: nothing but its words changed, and the first is not allocated
pub record Moves (old new : Live) (from from_at to to_at rank : ℕ) (s : Shape) (t : Tree) : Type 0 where
  pub is : new ≡ with_moved old from from_at to to_at (words t)
  pub target : Holds new to to_at (Holder rank s) t
  pub source : (dims : List ℤ) × Holds new from from_at (Holder rank s) (Unallocated dims End)
