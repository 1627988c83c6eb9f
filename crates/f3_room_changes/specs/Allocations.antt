-- Parts of variables that a machine changes, in blocks of a heap (ISO/IEC 1539-1:2004, 6.3).
use Rattle.std.specs.Prelude.{◌≡◌, ◌≢◌, ◌+◌, ◌*◌, ◌≤◌, ◌⊎◌, ℕ, List, length, None, Some}
use Rattle.std.specs.FinMap.{get as find}
use Rattle.f3_live_blocks.specs.Blocks.{Live, with_taken}
use Rattle.f3_heap_laws.specs.Answers.{Answer, Taken}
use Rattle.f3_meaning_whole.specs.Value.{Span, Value, Unallocated, Allocated}
use Rattle.f3_meaning_whole.specs.Shape.{Shape}
use Rattle.f3_meaning_whole.specs.Store.{Root, Step, get, put}
use Rattle.f3_desc.specs.Shape.{Shape as Layout}
use Rattle.f3_rooms.specs.Held.{Held, Empty, Holds, blocks_in, times}
use Rattle.f3_rooms.specs.Forms.{Allocatable, laid_words, words_for}
use Rattle.f3_rooms.specs.Rooms.{Rooms, store_of}
use Rattle.f3_rooms.specs.Places.{Found, found, rooms_with}
use Rattle.f3_rooms.specs.Sound.{IsSound}
use Rattle.f3_rooms.specs.Laws.{path_at, with_held_in, with_holder, blank, Becomes}
use Rattle.f3_room_objects.specs.Trees.{layout_of}
use Rattle.f3_room_objects.specs.Changes.{IsBare}

-- a part of a variable of a sound store begins at a word of a block
pub record IsAt (ts : List Shape) (m : Live) (x : Rooms) (r : Root) (way : List Step) (f : Found) (b o : ℕ) : Type 0 where
  pub sound : IsSound ts m x
  pub found : found ts x r way ≡ Some f
  pub block : f.block ≡ b
  pub word : f.at ≡ o

-- this is then held in a part, whose value is this; nothing else changes, and all stays sound
pub record Gets (ts : List Shape) (m n : Live) (x : Rooms) (r : Root) (way : List Step) (f : Found) (u : Held) (v : Value) : Type 0 where
  pub becomes : Becomes ts m n x (rooms_with x r way u) r way v
  pub found : found ts (rooms_with x r way u) r way ≡ Some (with_held_in f u)

-- an allocatable that holds nothing, and how many words an object of its type with these bounds has
pub record IsVacant (ts : List Shape) (m : Live) (x : Rooms) (r : Root) (way : List Step) (f : Found) (b o : ℕ) (ss : List Span) (n : ℕ) : Type 0 where
  pub here : IsAt ts m x r way f b o
  pub form : f.form ≡ Allocatable (length ss)
  pub held : f.held ≡ Empty
  pub words : n ≡ laid_words (length ss) ss (words_for f.shape)

-- such an allocatable has got an object of zeros in a new block, whose name is an answer that the heap's rule allows (6.3.1)
pub record Allocates (ts : List Shape) (m n : Live) (x : Rooms) (r : Root) (way : List Step) (f : Found) (ss : List Span) (A : Answer → Type 0) : Type 0 where
  pub block : ℕ
  pub fresh : find m block ≡ None
  pub allowed : A (Taken block)
  pub is : n ≡ with_holder (with_taken m block (laid_words (length ss) ss (words_for f.shape))) f.block f.at block ss
  pub gets : Gets ts m n x r way f (Holds block ss Empty) (Allocated (blank (length ss) ss f.shape))

-- a part of a variable of a sound store, laid out so
pub record IsLaid (ts : List Shape) (m : Live) (x : Rooms) (r : Root) (way : List Step) (f : Found) (b o : ℕ) (l : Layout) : Type 0 where
  pub here : IsAt ts m x r way f b o
  pub layout : layout_of f ≡ l

-- an allocatable that holds something, and another of its type and rank that holds nothing and stands apart
pub record IsMovable (ts : List Shape) (m : Live) (x : Rooms) (r q : Root) (way other : List Step) (f g : Found) (b o c i rank : ℕ) : Type 0 where
  pub here : IsAt ts m x r way f b o
  pub form : f.form ≡ Allocatable rank
  pub name : ℕ
  pub spans : List Span
  pub contents : Held
  pub held : f.held ≡ Holds name spans contents
  pub there : found ts (rooms_with x r way Empty) q other ≡ Some g
  pub block : g.block ≡ c
  pub word : g.at ≡ i
  pub same_form : g.form ≡ Allocatable rank
  pub same_shape : g.shape ≡ f.shape
  pub vacant : g.held ≡ Empty
  pub apart : b ≡ c → (o + (1 + 2 * rank) ≤ i) ⊎ (i + (1 + 2 * rank) ≤ o)

-- the second then holds what the first held, and the first holds nothing (13.7.82)
pub record IsMoved (ts : List Shape) (m n : Live) (x : Rooms) (r q : Root) (way other : List Step) (f g : Found) : Type 0 where
  pub store : store_of ts n (rooms_with (rooms_with x r way Empty) q other f.held)
      ≡ put (put (store_of ts m x) (path_at r way) Unallocated) (path_at q other) (get (store_of ts m x) (path_at r way))
  pub sound : IsSound ts n (rooms_with (rooms_with x r way Empty) q other f.held)
  pub found : found ts (rooms_with (rooms_with x r way Empty) q other f.held) q other ≡ Some (with_held_in g f.held)

-- a part, and another of its form in which nothing is held, in a block that is not the first's and not held in it
pub record IsCopyable (ts : List Shape) (m : Live) (x : Rooms) (q r : Root) (other way : List Step) (g f : Found) (b o c i : ℕ) (l : Layout) : Type 0 where
  pub source : IsLaid ts m x q other g b o l
  pub target : IsAt ts m x r way f c i
  pub form : g.form ≡ f.form
  pub shape : g.shape ≡ f.shape
  pub apart : c ≢ b
  pub beneath : times c (blocks_in g.held) ≡ 0
  pub bare : IsBare f
