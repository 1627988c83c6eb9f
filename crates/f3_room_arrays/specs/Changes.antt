-- Reading and assigning many objects of a store (ISO/IEC 1539-1:2004, 7.1.8 and 7.4.1.3).
use Rattle.std.specs.Prelude.{◌≡◌, ◌≤◌, ◌<◌, ◌⊎◌, ℕ, zero, suc, true, false, List, [], ◌∷◌, Some, length, map}
use Rattle.std.specs.List.{All, AllPairs}
use Rattle.f3_live_blocks.specs.Blocks.{Live, IsLive, words_of}
use Rattle.f3_meaning_whole.specs.Value.{Span, Value, count, shown}
use Rattle.f3_meaning_whole.specs.Shape.{Shape}
use Rattle.f3_meaning_whole.specs.Store.{Path, get, put_all, same_root}
use Rattle.f3_meaning_whole.specs.Reference.{Many, held_at}
use Rattle.f3_desc.specs.declared.descriptor.Descriptor.{Descriptor}
use Rattle.f3_desc.specs.Descriptor.{places}
use Rattle.f3_rooms.specs.Held.{Held, Row, Empty, first, others, blocks_in_all, times}
use Rattle.f3_rooms.specs.Forms.{words_for}
use Rattle.f3_rooms.specs.Values.{laid, object}
use Rattle.f3_rooms.specs.Rooms.{Rooms, blocks_of, store_of}
use Rattle.f3_rooms.specs.Places.{Found, found, rooms_with}
use Rattle.f3_rooms.specs.Ways.{are_aside}
use Rattle.f3_rooms.specs.Sound.{Each, IsObject, IsSound}
use Rattle.f3_room_objects.specs.Changes.{IsBare}
use Rattle.f3_room_arrays.specs.Words.{AreInside}
use Rattle.f3_room_arrays.specs.Elements.{IsFlat, Tells, row}

-- each of the elements has so many words, which lie in a live block
pub record LieWithin (m : Live) (a : Descriptor) (n : ℕ) : Type 0 where
  pub live : IsLive m a.block
  pub inside : AreInside (length (words_of m a.block)) n (places a)

-- the elements are the objects at these paths of a sound store, of a type of so many words without allocatable parts
pub record AreObjects (ts : List Shape) (m : Live) (x : Rooms) (a : Descriptor) (s : Shape) (ps : List Path) (n : ℕ) : Type 0 where
  pub sound : IsSound ts m x
  pub tells : Tells ts x a s ps
  pub flat : IsFlat s
  pub words : n ≡ words_for s

-- From a word of a block on stand the values of these objects: one behind another, so that they are the array that the meaning reads. If no
-- variable stands in the block, and nothing that one holds, the store is as it was.
pub record Reads (ts : List Shape) (m n : Live) (x : Rooms) (s : Shape) (ps : List Path) (b o : ℕ) : Type 0 where
  pub values : row n s (length ps) b o ≡ map (get (store_of ts m x)) ps
  pub held : (rank : ℕ) (p : Path) (ss : List Span) → count ss ≡ length ps
      → laid (suc rank) (shown ss) (words_for s) (object n s) b o Empty ≡ held_at (store_of ts m x) p (Many ss ps)
  pub same : times b (blocks_of x) ≡ 0 → (store_of ts n x ≡ store_of ts m x) × IsSound ts n x

-- These objects have these values, each its own, nothing else changes, and all stays sound.
pub record PutsAll (ts : List Shape) (m n : Live) (x : Rooms) (ps : List Path) (vs : List Value) : Type 0 where
  pub store : store_of ts n x ≡ put_all ps vs (store_of ts m x)
  pub sound : IsSound ts n x

-- ---- objects of whatever type, with what they hold

-- two paths lead to different objects, of which none is part of the other
abbrev pub AreAside : Path → Path → Type 0
AreAside p q = (same_root p.root q.root ≡ false) ⊎ ((p.root ≡ q.root) × (are_aside p.steps q.steps ≡ true))

-- nothing is held in the object at a path
abbrev pub IsVacant : List Shape → Rooms → Path → Type 0
IsVacant ts x p = (f : Found) → found ts x p.root p.steps ≡ Some f → IsBare f

-- the elements are the objects at these paths of a sound store, each another, of a type of so many words, and hold nothing
pub record AreVacant (ts : List Shape) (m : Live) (x : Rooms) (a : Descriptor) (s : Shape) (ps : List Path) (n : ℕ) : Type 0 where
  pub sound : IsSound ts m x
  pub tells : Tells ts x a s ps
  pub vacant : All (IsVacant ts x) ps
  pub distinct : AllPairs AreAside ps
  pub words : n ≡ words_for s

-- From a word of a block on stand so many objects of a type, one behind another, which hold this, in blocks of which no variable knows.
pub record AreLoose (m : Live) (x : Rooms) (s : Shape) (k b o : ℕ) (hs : Row) : Type 0 where
  pub objects : Each k (words_for s) (IsObject m s) b o hs
  pub once : (q : ℕ) → times q (blocks_in_all hs) ≤ 1
  pub apart : (q : ℕ) → 0 < times q (blocks_in_all hs) → times q (blocks_of x) ≡ 0

-- the first so many of a row
abbrev pub helds : ℕ → Row → List Held
helds zero hs = []
helds (suc k) hs = first hs ∷ helds k (others hs)

-- what is held, but at the ends of these paths this
abbrev pub rooms_with_all : Rooms → List Path → List Held → Rooms
rooms_with_all x (p ∷ ps) (u ∷ us) = rooms_with_all (rooms_with x p.root p.steps u) ps us
rooms_with_all x ps us = x

-- These objects have become others, with what those hold; nothing else changes, and all stays sound.
pub record TakesAll (ts : List Shape) (m n : Live) (x : Rooms) (a : Descriptor) (s : Shape) (ps : List Path) (us : List Held) (vs : List Value) : Type 0 where
  pub store : store_of ts n (rooms_with_all x ps us) ≡ put_all ps vs (store_of ts m x)
  pub sound : IsSound ts n (rooms_with_all x ps us)
  pub tells : Tells ts (rooms_with_all x ps us) a s ps
