-- Laws of pins.
use Rattle.std.specs.Prelude.{⊤, ◌≡◌, ◌≤◌, ◌<◌, ℕ, ◌+◌, ◌-◌, ℤ, pos, not, false, nat_eq, List, [], ◌∷◌, ◌++◌, length, None, Some}
use Rattle.std.specs.FinMap.{get as find}
use Rattle.f3_live_blocks.specs.Blocks.{Live, IsLive, pins_of, with_pins, with_taken}
use Rattle.f3_meaning_whole.specs.Value.{Span}
use Rattle.f3_meaning_whole.specs.Shape.{Shape}
use Rattle.f3_meaning_whole.specs.Store.{Root, Static, Local, Path, Step}
use Rattle.f3_meaning_whole.specs.Reference.{Reference, is_pinned}
use Rattle.f3_rooms.specs.Held.{Held, Empty, Holds, blocks_in, times}
use Rattle.f3_rooms.specs.Forms.{Allocatable}
use Rattle.f3_rooms.specs.Rooms.{Slot, Rooms, level_blocks, blocks_of, store_of}
use Rattle.f3_rooms.specs.Places.{Found, found, with_word, rooms_with}
use Rattle.f3_rooms.specs.Sound.{IsSound}
use Rattle.f3_rooms.specs.Laws.{path_at, with_held_in, with_holder, without, with_level, before_level}
use Rattle.f3_room_pins.specs.Pins.{blocks_along, blocks_lent, ArePinned, AreThere}

-- A way goes through each block at most once.
abbrev pub BlocksAreOnce : Type 0
BlocksAreOnce = (ts : List Shape) (m : Live) (x : Rooms) → IsSound ts m x → (r : Root) (way : List Step) (b : ℕ) → times b (blocks_along ts x r way) ≤ 1

-- The block of what an allocatable holds is not pinned exactly where the language does not call it pinned.
abbrev pub PinnedIsLent : Type 0
PinnedIsLent = (ts : List Shape) (m : Live) (x : Rooms) (lent : List Reference) → IsSound ts m x → ArePinned ts m x lent → (r : Root) (way : List Step) (f : Found)
    → found ts x r way ≡ Some f → (c : ℕ) (ss : List Span) (h : Held) → f.held ≡ Holds c ss h → nat_eq (pins_of m c) 0 ≡ not (is_pinned (path_at r way) lent)

-- Where it does not, no block of all that is held there is pinned.
abbrev pub AllAreFree : Type 0
AllAreFree = (ts : List Shape) (m : Live) (x : Rooms) (lent : List Reference) → IsSound ts m x → ArePinned ts m x lent → (r : Root) (way : List Step) (f : Found)
    → found ts x r way ≡ Some f → (c : ℕ) (ss : List Span) (h : Held) → f.held ≡ Holds c ss h → is_pinned (path_at r way) lent ≡ false
    → (b : ℕ) → 0 < times b (blocks_in f.held) → pins_of m b ≡ 0

-- Where an allocatable holds nothing, and what is lent is there, the language does not call it pinned.
abbrev pub VacantIsFree : Type 0
VacantIsFree = (ts : List Shape) (x : Rooms) (lent : List Reference) → AreThere ts x lent → (r : Root) (way : List Step) (f : Found) → found ts x r way ≡ Some f
    → f.held ≡ Empty → is_pinned (path_at r way) lent ≡ false

-- ---- lending

-- each of these blocks is pinned once more
abbrev pub with_pinned : List ℕ → Live → Live
with_pinned [] m = m
with_pinned (b ∷ bs) m = with_pinned bs (with_pins m b (pins_of m b + 1))

-- or once less
abbrev pub with_unpinned : List ℕ → Live → Live
with_unpinned [] m = m
with_unpinned (b ∷ bs) m = with_unpinned bs (with_pins m b (pins_of m b - 1))

-- pins have changed: these are lent now, and the store is as it was
pub record ArePinnedNow (ts : List Shape) (m n : Live) (x : Rooms) (lent : List Reference) : Type 0 where
  pub pinned : ArePinned ts n x lent
  pub store : store_of ts n x ≡ store_of ts m x
  pub sound : IsSound ts n x
  pub live : (b : ℕ) → IsLive n b → IsLive m b

-- One more reference is lent: each block along its way is pinned once more.
abbrev pub LendingPins : Type 0
LendingPins = (ts : List Shape) (m : Live) (x : Rooms) (lent : List Reference) (l : Reference) → IsSound ts m x → ArePinned ts m x lent
    → ArePinnedNow ts m (with_pinned (blocks_lent ts x l) m) x (l ∷ lent)

-- One of those that are lent ends: each is pinned once less.
abbrev pub EndingUnpins : Type 0
EndingUnpins = (ts : List Shape) (m : Live) (x : Rooms) (before behind : List Reference) (l : Reference) → IsSound ts m x → ArePinned ts m x (before ++ l ∷ behind)
    → ArePinnedNow ts m (with_unpinned (blocks_lent ts x l) m) x (before ++ behind)

-- ---- changes

-- What is held in a part is now this, whose blocks are not pinned; all others are pinned as they were.
pub record KeepsPins (m n : Live) (x : Rooms) (f : Found) (u : Held) : Type 0 where
  pub others : (b : ℕ) → times b (blocks_in f.held) < times b (blocks_of x) → pins_of n b ≡ pins_of m b
  pub held : (b : ℕ) → 0 < times b (blocks_in u) → pins_of n b ≡ 0

-- a path leads to the same part as before, in which something else may be held now
abbrev pub StaysAt : List Shape → Rooms → Rooms → Path → Type 0
StaysAt ts x y p = (f : Found) → found ts x p.root p.steps ≡ Some f → (h : Held) × (found ts y p.root p.steps ≡ Some (with_held_in f h))

abbrev pub StayAt : List Shape → Rooms → Rooms → List Reference → Type 0
StayAt ts x y [] = ⊤
StayAt ts x y (l ∷ ls) = StaysAt ts x y l.path × StayAt ts x y ls

-- each block is pinned as it should be, and what is lent is there, where it was
pub record KeepsLent (ts : List Shape) (n : Live) (x y : Rooms) (lent : List Reference) : Type 0 where
  pub pinned : ArePinned ts n y lent
  pub there : AreThere ts y lent
  pub same : StayAt ts x y lent

-- no block of what is held in a part is pinned
abbrev pub IsUnpinned : Live → Found → Type 0
IsUnpinned m f = (b : ℕ) → 0 < times b (blocks_in f.held) → pins_of m b ≡ 0

-- Something else is held in a part, where no block of what was held there was pinned.
abbrev pub ChangesKeepPins : Type 0
ChangesKeepPins = (ts : List Shape) (m n : Live) (x : Rooms) (lent : List Reference) → IsSound ts m x → ArePinned ts m x lent → AreThere ts x lent
    → (r : Root) (way : List Step) (f : Found) → found ts x r way ≡ Some f → IsUnpinned m f → (u : Held) → KeepsPins m n x f u
    → KeepsLent ts n x (rooms_with x r way u) lent

-- What an allocatable holds goes over to another that holds nothing, where no block of it was pinned, and no pins change (13.7.82).
abbrev pub MovesKeepPins : Type 0
MovesKeepPins = (ts : List Shape) (m n : Live) (x : Rooms) (lent : List Reference) → IsSound ts m x → ArePinned ts m x lent → AreThere ts x lent
    → (r q : Root) (way other : List Step) (f g : Found) → found ts x r way ≡ Some f → (rank : ℕ) → f.form ≡ Allocatable rank → IsUnpinned m f
    → found ts (rooms_with x r way Empty) q other ≡ Some g → g.held ≡ Empty → ((b : ℕ) → 0 < times b (blocks_of x) → pins_of n b ≡ pins_of m b)
    → KeepsLent ts n x (rooms_with (rooms_with x r way Empty) q other f.held) lent

-- So it is where one word is another, and where an allocatable is allocated, freed, or moved, in words (f3_rooms, Laws).
abbrev pub WordsKeepPins : Type 0
WordsKeepPins = (ts : List Shape) (m : Live) (x : Rooms) (lent : List Reference) → ArePinned ts m x lent → (b i : ℕ) (z : ℤ) → ArePinned ts (with_word m b i z) x lent

abbrev pub AllocatingKeepsPins : Type 0
AllocatingKeepsPins = (ts : List Shape) (m : Live) (x : Rooms) (lent : List Reference) → IsSound ts m x → ArePinned ts m x lent → AreThere ts x lent
    → (r : Root) (way : List Step) (f : Found) → found ts x r way ≡ Some f → f.held ≡ Empty → (c n : ℕ) (ss : List Span) → find m c ≡ None
    → KeepsLent ts (with_holder (with_taken m c n) f.block f.at c ss) x (rooms_with x r way (Holds c ss Empty)) lent

abbrev pub FreeingKeepsPins : Type 0
FreeingKeepsPins = (ts : List Shape) (m : Live) (x : Rooms) (lent : List Reference) → IsSound ts m x → ArePinned ts m x lent → AreThere ts x lent
    → (r : Root) (way : List Step) (f : Found) → found ts x r way ≡ Some f → IsUnpinned m f
    → KeepsLent ts (with_word (without (blocks_in f.held) m) f.block f.at (pos 0)) x (rooms_with x r way Empty) lent

abbrev pub MovingKeepsPins : Type 0
MovingKeepsPins = (ts : List Shape) (m : Live) (x : Rooms) (lent : List Reference) → IsSound ts m x → ArePinned ts m x lent → AreThere ts x lent
    → (r q : Root) (way other : List Step) (f g : Found) → found ts x r way ≡ Some f → (rank : ℕ) → f.form ≡ Allocatable rank
    → (c : ℕ) (ss : List Span) (h : Held) → f.held ≡ Holds c ss h → IsUnpinned m f → found ts (rooms_with x r way Empty) q other ≡ Some g → g.held ≡ Empty
    → KeepsLent ts (with_holder (with_word m f.block f.at (pos 0)) g.block g.at c ss) x (rooms_with (rooms_with x r way Empty) q other (Holds c ss h)) lent

-- ---- levels

-- a variable that lives for the whole run, or on one of the first levels
abbrev pub IsBefore : ℕ → Root → Type 0
IsBefore k (Static i) = ⊤
IsBefore k (Local level i) = level < k

abbrev pub AreBefore : ℕ → List Reference → Type 0
AreBefore k [] = ⊤
AreBefore k (l ∷ ls) = IsBefore k l.path.root × AreBefore k ls

-- A level begins, whose blocks are not pinned; what is lent is of the variables before it.
abbrev pub LevelsBeginUnpinned : Type 0
LevelsBeginUnpinned = (ts : List Shape) (m n : Live) (x : Rooms) (lent : List Reference) (l : List Slot) → ArePinned ts m x lent → AreThere ts x lent
    → AreBefore (length x.levels) lent → ((b : ℕ) → times b (blocks_of x) + times b (level_blocks l) ≤ 1)
    → ((b : ℕ) → 0 < times b (blocks_of x) → pins_of n b ≡ pins_of m b) → ((b : ℕ) → 0 < times b (level_blocks l) → pins_of n b ≡ 0)
    → KeepsLent ts n x (with_level x l) lent

-- Levels end, and what is lent is of the variables before them.
abbrev pub LevelsEndUnpinned : Type 0
LevelsEndUnpinned = (ts : List Shape) (m n : Live) (x : Rooms) (lent : List Reference) (k : ℕ) → ArePinned ts m x lent → AreThere ts x lent → AreBefore k lent
    → ((b : ℕ) → 0 < times b (blocks_of (before_level x k)) → pins_of n b ≡ pins_of m b) → KeepsLent ts n x (before_level x k) lent
