-- What the calls on objects (f3_objects) do to a store.
use Rattle.std.specs.Prelude.{◌≡◌, ◌≢◌, ◌≤◌, ◌⊎◌, ℕ, ◌+◌, ◌*◌, pos, true, List, replicate, Some}
use Rattle.std.specs.FinMap.{empty}
use Rattle.f3_live_blocks.specs.Blocks.{Live, words_of, with_words}
use Rattle.f3_meaning_whole.specs.Value.{Span, Value, Unallocated, cleared}
use Rattle.f3_meaning_whole.specs.Shape.{Shape}
use Rattle.f3_meaning_whole.specs.Store.{Root, Step, get, put}
use Rattle.f3_desc.specs.Shape.{width}
use Rattle.f3_objects.specs.Tree.{Tree, Fits, value, times as times_beneath}
use Rattle.f3_objects.specs.Holds.{Replaces, Frees, Moves, with_words_at}
use Rattle.f3_objects.specs.Copies.{Ready}
use Rattle.f3_rooms.specs.Held.{Held, Empty, Holds, blocks_in, times}
use Rattle.f3_rooms.specs.Forms.{Allocatable, words_for}
use Rattle.f3_rooms.specs.Values.{formed, object}
use Rattle.f3_rooms.specs.Rooms.{Rooms, store_of}
use Rattle.f3_rooms.specs.Places.{Found, value_at, found, rooms_with}
use Rattle.f3_rooms.specs.Sound.{IsSound}
use Rattle.f3_rooms.specs.Laws.{path_at, with_held_in, Becomes}
use Rattle.f3_room_objects.specs.Trees.{layout_for, layout_of, tree_at}

-- Parts of one form whose trees have equal values have equal values.
abbrev pub EqualTreesAreEqual : Type 0
EqualTreesAreEqual = (m n : Live) (f g : Found) → g.form ≡ f.form → g.shape ≡ f.shape → value (tree_at n g) ≡ value (tree_at m f) → value_at n g ≡ value_at m f

-- a part of a variable has another value, nothing else changes, and all stays sound
pub record Puts (ts : List Shape) (m n : Live) (x : Rooms) (r : Root) (way : List Step) (f : Found) (v : Value) : Type 0 where
  pub held : Held
  pub becomes : Becomes ts m n x (rooms_with x r way held) r way v
  pub found : found ts (rooms_with x r way held) r way ≡ Some (with_held_in f held)

-- nothing is held in a part
abbrev pub IsBare : Found → Type 0
IsBare f = (q : ℕ) → times q (blocks_in f.held) ≡ 0

-- A part in which nothing is held is ready for a copy of another of its form, beneath which it does not stand.
abbrev pub PartsAreReady : Type 0
PartsAreReady = (ts : List Shape) (m : Live) (x : Rooms) → IsSound ts m x → (r q : Root) (way other : List Step) (f g : Found)
    → found ts x r way ≡ Some f → found ts x q other ≡ Some g → g.form ≡ f.form → g.shape ≡ f.shape
    → f.block ≢ g.block → times f.block (blocks_in g.held) ≡ 0 → IsBare f
    → Ready m g.block g.at f.block f.at (layout_of f) (tree_at m g) (tree_at m f)

-- A part whose tree becomes one with another part's value has that value (copy_tree: so is the copy of `Copies`, where there is no fault).
abbrev pub CopiesArePut : Type 0
CopiesArePut = (ts : List Shape) (m n : Live) (x : Rooms) → IsSound ts m x → (r q : Root) (way other : List Step) (f g : Found)
    → found ts x r way ≡ Some f → found ts x q other ≡ Some g → g.form ≡ f.form → g.shape ≡ f.shape
    → (copy : Tree) → Fits (layout_of f) copy → ((b : ℕ) → times_beneath b copy ≤ 1) → value copy ≡ value (tree_at m g)
    → Replaces m n f.block f.at (tree_at m f) copy → Puts ts m n x r way f (get (store_of ts m x) (path_at q other))

-- Where the blocks beneath a part are given back, nothing is allocated in it (free_tree; ISO/IEC 1539-1:2004, 6.3.3.1).
abbrev pub FreedPartsAreCleared : Type 0
FreedPartsAreCleared = (ts : List Shape) (m n : Live) (x : Rooms) → IsSound ts m x → (r : Root) (way : List Step) (f : Found) → found ts x r way ≡ Some f
    → Frees m n f.block f.at (tree_at m f) true → Puts ts m n x r way f (cleared (get (store_of ts m x) (path_at r way)))

-- what words of 0 are
abbrev pub blank_value : Found → Value
blank_value f = formed f.form (words_for f.shape) (object empty f.shape) 0 0 Empty

-- Zeros at a part in which nothing is held are its blank value (clear).
abbrev pub ClearedPartsAreBlank : Type 0
ClearedPartsAreBlank = (ts : List Shape) (m n : Live) (x : Rooms) → IsSound ts m x → (r : Root) (way : List Step) (f : Found) → found ts x r way ≡ Some f → IsBare f
    → n ≡ with_words m f.block (with_words_at (words_of m f.block) f.at (replicate (width (layout_of f)) (pos 0)))
    → Puts ts m n x r way f (blank_value f)

-- What an allocatable holds goes over to another of its type and rank, which holds nothing and stands apart (move_tree; 13.7.82).
abbrev pub MovesAreMoves : Type 0
MovesAreMoves = (ts : List Shape) (m n : Live) (x : Rooms) → IsSound ts m x → (r q : Root) (way other : List Step) (f g : Found)
    → found ts x r way ≡ Some f → (rank : ℕ) → f.form ≡ Allocatable rank → (c : ℕ) (ss : List Span) (h : Held) → f.held ≡ Holds c ss h
    → found ts (rooms_with x r way Empty) q other ≡ Some g → g.form ≡ Allocatable rank → g.held ≡ Empty → g.shape ≡ f.shape
    → (f.block ≡ g.block → (f.at + (1 + 2 * rank) ≤ g.at) ⊎ (g.at + (1 + 2 * rank) ≤ f.at))
    → Moves m n f.block f.at g.block g.at rank (layout_for f.shape) (tree_at m f)
    → (store_of ts n (rooms_with (rooms_with x r way Empty) q other (Holds c ss h))
    ≡ put (put (store_of ts m x) (path_at r way) Unallocated) (path_at q other) (get (store_of ts m x) (path_at r way)))
    × IsSound ts n (rooms_with (rooms_with x r way Empty) q other (Holds c ss h))
