-- Copies of objects (own rule): an equal tree in blocks of its own, and the takes that made it.
use Rattle.std.specs.Prelude.{ℕ, ◌≡◌, ◌≢◌, ◌≤◌, List, [], ◌∷◌, ◌++◌, map, length, Result, Ok, Err}
use Rattle.f3_live_blocks.specs.Blocks.{Live, words_of, with_words}
use Rattle.f3_heap_laws.specs.Answers.{Answer, Full, Memory, Taken, Take}
use Rattle.f3_desc.specs.Shape.{Shape, Times}
use Rattle.f3_objects.specs.Tree.{Tree, End, Word, Unallocated, Allocated, words, times, value, Fits, IsBare}
use Rattle.f3_objects.specs.Holds.{Holds, Replaces, with_words_at}
use Rattle.f3_objects.specs.declared.copy.TreeFault.{TreeFault}
use Rattle.f3_objects.specs.declared.copy.TreeFault

-- an object to be copied, and a place for its copy, where nothing is allocated, in a block that is not the object's and not beneath it
pub record Ready (m : Live) (from from_at to to_at : ℕ) (s : Shape) (t u : Tree) : Type 0 where
  pub source : Holds m from from_at s t
  pub target : Holds m to to_at s u
  pub apart : to ≢ from
  pub beneath : times to t ≡ 0
  pub bare : IsBare u

-- n objects of this shape are all that a block holds, and another block of its length is ready for their copies
pub record Refills (m : Live) (from to : ℕ) (s : Shape) (n : ℕ) (t u : Tree) : Type 0 where
  pub ready : Ready m from 0 to 0 (Times n s) t u
  pub source : words_of m from ≡ words t
  pub target : words_of m to ≡ words u

-- the answer of the heap that a fault tells of
abbrev pub fault_of : TreeFault → Answer
fault_of TreeFault.TheVariants.Full = Full
fault_of TreeFault.TheVariants.Memory = Memory

-- none after Ok, and that of the fault after Err
abbrev pub faults : {T : Type 0} → Result T TreeFault → List Answer
faults (Ok x) = []
faults (Err fault) = fault_of fault ∷ []

-- the takes that make a tree: each block before those beneath it, and these before what stands behind
abbrev pub takings : Tree → List Take
takings End = []
takings (Word w t) = takings t
takings (Unallocated dims t) = takings t
takings (Allocated b dims c t) = record { asked = length (words c); answer = Taken b } ∷ (takings c ++ takings t)

abbrev pub asked_of : List Take → List ℕ
asked_of ks = map (λ k. k.asked) ks

-- the lengths of the blocks beneath a tree, in that order
abbrev pub asks : Tree → List ℕ
asks t = asked_of (takings t)

-- a copy of t took u's place, in new blocks that each stand once. It is whole where there is no fault.
pub record Copies (old new : Live) (to to_at : ℕ) (s : Shape) (t u : Tree) (faults : List Answer) (W : List Take → Type 0) : Type 0 where
  pub copy : Tree
  pub replaced : Replaces old new to to_at u copy
  pub fits : Fits s copy
  pub once : (q : ℕ) → times q copy ≤ 1
  -- the whole copy has the value of t, with the same bounds
  pub equal : faults ≡ [] → value copy ≡ value t
  -- the takes are those of the copy, and then the one that was refused, as the fault tells
  pub refused : List Take
  pub told : map (λ k. k.answer) refused ≡ faults
  -- they ask for the lengths of the blocks beneath t in order, and those of the whole copy for all of them
  pub more : List ℕ
  pub asked : asks t ≡ asked_of (takings copy ++ refused) ++ more
  pub all : faults ≡ [] → more ≡ []
  -- and W is what is known of them
  pub took : W (takings copy ++ refused)

-- a copy of t was begun and given back, since a take was refused as the fault tells
pub record Refuses (t : Tree) (faults : List Answer) (W : List Take → Type 0) : Type 0 where
  pub part : Tree
  -- the takes are those of the part that stood, and then the one that was refused
  pub refused : List Take
  pub told : map (λ k. k.answer) refused ≡ faults
  -- they ask for the lengths of the blocks beneath t in order
  pub more : List ℕ
  pub asked : asks t ≡ asked_of (takings part ++ refused) ++ more
  -- and W is what is known of them
  pub took : W (takings part ++ refused)

-- an object of this shape with nothing allocated took the place of another such, and nothing but its words changed
pub record Empties (old new : Live) (to to_at : ℕ) (s : Shape) : Type 0 where
  pub rest : Tree
  pub fits : Fits s rest
  pub bare : IsBare rest
  pub is : new ≡ with_words old to (with_words_at (words_of old to) to_at (words rest))
