-- Laws of variables in words of blocks.
use Rattle.std.specs.Prelude.{⊤, ◌≡◌, ◌≤◌, ◌<◌, ◌⊎◌, ℕ, ◌+◌, ℤ, pos, List, [], ◌∷◌, ◌++◌, length, take, None, Some}
use Rattle.std.specs.FinMap.{get as find, remove, empty}
use Rattle.f3_program.specs.declared.declarations.Declared.{Declared}
use Rattle.f3_live_blocks.specs.Blocks.{Live, IsLive, words_of, with_taken}
use Rattle.f3_meaning_whole.specs.Value.{Span, Value, Unallocated, Allocated}
use Rattle.f3_meaning_whole.specs.Shape.{Shape, Whole, Logical, Record, Parts, nothing, and, shape_in, initial_of, initial_declared}
use Rattle.f3_meaning_whole.specs.Store.{Root, Step, Path, get, put}
use Rattle.f3_rooms.specs.Held.{Held, Empty, Holds, end, blocks_in, times}
use Rattle.f3_rooms.specs.Forms.{Allocatable, form_words, laid_words, words_for, total}
use Rattle.f3_rooms.specs.Values.{word, laid, object, variable, variables}
use Rattle.f3_rooms.specs.Rooms.{Slot, Rooms, level_values, level_blocks, blocks_of, store_of}
use Rattle.f3_rooms.specs.Places.{Found, IsScalar, found, value_at, scalar_in, with_word, rooms_with}
use Rattle.f3_rooms.specs.Sound.{IsForm, IsObject, IsLevel, AreVariables, IsSound}

-- the path to a part of a variable
abbrev pub path_at : Root → List Step → Path
path_at r way = record { root = r; steps = way }

-- ---- parts

-- What stands at a part of a variable is what its words are.
abbrev pub PartsAreFound : Type 0
PartsAreFound = (ts : List Shape) (m : Live) (x : Rooms) (r : Root) (way : List Step) (f : Found) → found ts x r way ≡ Some f
    → get (store_of ts m x) (path_at r way) ≡ value_at m f

-- the words of a part lie in a live block
pub record IsWithin (m : Live) (f : Found) : Type 0 where
  pub live : IsLive m f.block
  pub within : f.at + form_words f.form (words_for f.shape) ≤ length (words_of m f.block)
  pub form : IsForm m f.form (words_for f.shape) (IsObject m f.shape) f.block f.at f.held

abbrev pub PartsAreWithin : Type 0
PartsAreWithin = (ts : List Shape) (m : Live) (x : Rooms) → IsSound ts m x → (r : Root) (way : List Step) (f : Found) → found ts x r way ≡ Some f
    → IsWithin m f × ((q : ℕ) → times q (blocks_in f.held) ≤ times q (blocks_of x))

-- A part of a variable becomes another: its words, and what is held in it, which is now this. All other words of variables stay, and new
-- blocks are of no other part.
pub record Replaces (m n : Live) (x : Rooms) (f : Found) (u : Held) : Type 0 where
  pub live : (b : ℕ) → times b (blocks_in f.held) < times b (blocks_of x) → IsLive n b × (length (words_of n b) ≡ length (words_of m b))
  pub same : (b i : ℕ) → times b (blocks_in f.held) < times b (blocks_of x) → (b ≡ f.block → (i < f.at) ⊎ (f.at + form_words f.form (words_for f.shape) ≤ i))
      → word n b i ≡ word m b i
  pub form : IsForm n f.form (words_for f.shape) (IsObject n f.shape) f.block f.at u
  pub once : (q : ℕ) → times q (blocks_in u) ≤ 1
  pub apart : (q : ℕ) → 0 < times q (blocks_in u) → times q (blocks_of x) ≤ times q (blocks_in f.held)

-- the part, with this held in it
abbrev pub with_held_in : Found → Held → Found
with_held_in f u = record { block = f.block; at = f.at; shape = f.shape; of = f.of; form = f.form; held = u }

-- Then the store has its new value there, nothing else changes, and all stays sound.
pub record IsReplaced (ts : List Shape) (m n : Live) (x : Rooms) (r : Root) (way : List Step) (f : Found) (u : Held) : Type 0 where
  pub store : store_of ts n (rooms_with x r way u) ≡ put (store_of ts m x) (path_at r way) (value_at n (with_held_in f u))
  pub sound : IsSound ts n (rooms_with x r way u)
  pub found : found ts (rooms_with x r way u) r way ≡ Some (with_held_in f u)

abbrev pub PartsAreReplaced : Type 0
PartsAreReplaced = (ts : List Shape) (m n : Live) (x : Rooms) → IsSound ts m x → (r : Root) (way : List Step) (f : Found) → found ts x r way ≡ Some f
    → (u : Held) → Replaces m n x f u → IsReplaced ts m n x r way f u

-- ---- scalars

-- A scalar is one word: where that is another, it is another scalar, nothing else changes, and all stays sound.
pub record IsPut (ts : List Shape) (m : Live) (x : Rooms) (r : Root) (way : List Step) (f : Found) (z : ℤ) : Type 0 where
  pub was : get (store_of ts m x) (path_at r way) ≡ scalar_in f.shape (word m f.block f.at)
  pub store : store_of ts (with_word m f.block f.at z) x ≡ put (store_of ts m x) (path_at r way) (scalar_in f.shape z)
  pub sound : IsSound ts (with_word m f.block f.at z) x

abbrev pub ScalarsArePut : Type 0
ScalarsArePut = (ts : List Shape) (m : Live) (x : Rooms) → IsSound ts m x → (r : Root) (way : List Step) (f : Found) → found ts x r way ≡ Some f
    → IsScalar f → (z : ℤ) → IsPut ts m x r way f z

-- ---- allocatables (ISO/IEC 1539-1:2004, 6.3)

-- a lower bound and an extent for each dimension, from a word on
abbrev pub with_bounds : Live → ℕ → ℕ → List Span → Live
with_bounds m b o [] = m
with_bounds m b o (s ∷ ss) = with_bounds (with_word (with_word m b o s.lower) b (o + 1) (pos s.extent)) b (o + 2) ss

-- the words of an allocatable that holds what stands in a block
abbrev pub with_holder : Live → ℕ → ℕ → ℕ → List Span → Live
with_holder m b o c ss = with_bounds (with_word m b o (pos c)) b (o + 1) ss

-- what words of 0 are
abbrev pub blank : ℕ → List Span → Shape → Value
blank rank ss s = laid rank ss (words_for s) (object empty s) 0 0 Empty

abbrev pub without : List ℕ → Live → Live
without [] m = m
without (b ∷ bs) m = without bs (remove m b)

-- other blocks stand for a store with another value at a part of a variable, and all is sound
pub record Becomes (ts : List Shape) (m n : Live) (x y : Rooms) (r : Root) (way : List Step) (v : Value) : Type 0 where
  pub store : store_of ts n y ≡ put (store_of ts m x) (path_at r way) v
  pub sound : IsSound ts n y

-- An allocatable that holds nothing gets a new block of zeros (6.3.1).
abbrev pub ObjectsAreAllocated : Type 0
ObjectsAreAllocated = (ts : List Shape) (m : Live) (x : Rooms) → IsSound ts m x → (r : Root) (way : List Step) (f : Found) → found ts x r way ≡ Some f
    → (rank : ℕ) → f.form ≡ Allocatable rank → f.held ≡ Empty → (c : ℕ) (ss : List Span) → length ss ≡ rank → find m c ≡ None → 0 < c
    → Becomes ts m (with_holder (with_taken m c (laid_words rank ss (words_for f.shape))) f.block f.at c ss) x (rooms_with x r way (Holds c ss Empty)) r way
    (Allocated (blank rank ss f.shape))

-- One that holds something holds nothing, and the blocks of that and of all beneath are gone (6.3.3).
abbrev pub ObjectsAreFreed : Type 0
ObjectsAreFreed = (ts : List Shape) (m : Live) (x : Rooms) → IsSound ts m x → (r : Root) (way : List Step) (f : Found) → found ts x r way ≡ Some f
    → (rank : ℕ) → f.form ≡ Allocatable rank → (c : ℕ) (ss : List Span) (h : Held) → f.held ≡ Holds c ss h
    → Becomes ts m (with_word (without (c ∷ blocks_in h) m) f.block f.at (pos 0)) x (rooms_with x r way Empty) r way Unallocated

-- What one holds goes over to another of its type and rank, which holds nothing (13.7.82).
abbrev pub ObjectsMove : Type 0
ObjectsMove = (ts : List Shape) (m : Live) (x : Rooms) → IsSound ts m x → (r q : Root) (way other : List Step) (f g : Found)
    → found ts x r way ≡ Some f → (rank : ℕ) → f.form ≡ Allocatable rank → (c : ℕ) (ss : List Span) (h : Held) → f.held ≡ Holds c ss h
    → found ts (rooms_with x r way Empty) q other ≡ Some g → g.form ≡ Allocatable rank → g.held ≡ Empty → g.shape ≡ f.shape
    → (store_of ts (with_holder (with_word m f.block f.at (pos 0)) g.block g.at c ss) (rooms_with (rooms_with x r way Empty) q other (Holds c ss h))
    ≡ put (put (store_of ts m x) (path_at r way) Unallocated) (path_at q other) (get (store_of ts m x) (path_at r way)))
    × IsSound ts (with_holder (with_word m f.block f.at (pos 0)) g.block g.at c ss) (rooms_with (rooms_with x r way Empty) q other (Holds c ss h))

-- ---- what else changes nothing

-- the blocks of variables and of what they hold are as they were
abbrev pub Keeps : Live → Live → Rooms → Type 0
Keeps m n x = (b : ℕ) → 0 < times b (blocks_of x) → find n b ≡ find m b

abbrev pub KeptBlocksKeep : Type 0
KeptBlocksKeep = (ts : List Shape) (m n : Live) (x : Rooms) → IsSound ts m x → Keeps m n x → (store_of ts n x ≡ store_of ts m x) × IsSound ts n x

-- a word is of no variable: it lies behind those of each room in that block, and in no block of what is held
abbrev pub IsBehind : List Shape → Rooms → ℕ → ℕ → Type 0
IsBehind ts x block i = (r : Root) (way : List Step) (f : Found) → found ts x r way ≡ Some f → (f.block ≡ block → f.at + form_words f.form (words_for f.shape) ≤ i)
    × (times block (blocks_in f.held) ≡ 0)

abbrev pub ExtrasChangeNothing : Type 0
ExtrasChangeNothing = (ts : List Shape) (m : Live) (x : Rooms) → IsSound ts m x → (block i : ℕ) (z : ℤ) → IsBehind ts x block i
    → (store_of ts (with_word m block i z) x ≡ store_of ts m x) × IsSound ts (with_word m block i z) x

-- ---- levels

abbrev pub with_level : Rooms → List Slot → Rooms
with_level x l = record { statics = x.statics; levels = x.levels ++ l ∷ [] }

abbrev pub before_level : Rooms → ℕ → Rooms
before_level x k = record { statics = x.statics; levels = take k x.levels }

-- A level more begins in blocks of its own.
abbrev pub LevelsBegin : Type 0
LevelsBegin = (ts : List Shape) (m n : Live) (x : Rooms) (l : List Slot) → IsSound ts m x → Keeps m n x → IsLevel ts n l
    → ((q : ℕ) → times q (blocks_of x) + times q (level_blocks l) ≤ 1)
    → (store_of ts n (with_level x l) ≡ record { statics = (store_of ts m x).statics; levels = (store_of ts m x).levels ++ level_values ts n l ∷ [] })
    × IsSound ts n (with_level x l)

-- Levels end, and all before them stay.
abbrev pub LevelsEnd : Type 0
LevelsEnd = (ts : List Shape) (m n : Live) (x : Rooms) (k : ℕ) → IsSound ts m x → Keeps m n (before_level x k)
    → (store_of ts n (before_level x k) ≡ record { statics = (store_of ts m x).statics; levels = take k (store_of ts m x).levels })
    × IsSound ts n (before_level x k)

-- ---- words of 0

-- the words of a block from one on, so many, are 0
abbrev pub AreZeros : Live → ℕ → ℕ → ℕ → Type 0
AreZeros m b o k = (i : ℕ) → o ≤ i → i < o + k → word m b i ≡ pos 0

-- Variables whose words are 0 hold nothing, and have the values of blank words.
abbrev pub ZerosAreBlank : Type 0
ZerosAreBlank = (ts : List Shape) (m : Live) (ds : List Declared) (b o : ℕ) → AreZeros m b o (total ts ds)
    → (variables ts m ds b o end ≡ variables ts empty ds 0 0 end) × AreVariables ts m ds b o end

-- no component is initialized, at any depth (16.5.6)
abbrev mutual
  pub IsBare : Shape → Type 0
  IsBare Whole = ⊤
  IsBare Logical = ⊤
  IsBare (Record t parts) = AreBare parts

  pub AreBare : Parts → Type 0
  AreBare nothing = ⊤
  AreBare (and c s rest) = (c.declared.initial.items ≡ []) × IsBare s × AreBare rest

-- These are the initial values of variables of such types that are not initialized themselves.
abbrev pub BlankIsInitial : Type 0
BlankIsInitial = (ts : List Shape) (d : Declared) → IsBare (shape_in ts d.kind.of) → d.initial.items ≡ []
    → variable ts empty d 0 0 Empty ≡ initial_declared d (initial_of (shape_in ts d.kind.of))
