-- Blocks in which the words of variables stand, each in its own.
use Rattle.std.proofs.Common.{zero, suc}
use Rattle.std.specs.Prelude.{⊤, ◌≡◌, ℕ, ◌+◌, ◌<◌, ◌≤◌, pos, List, [], ◌∷◌, length}
use Rattle.f3_program.specs.declared.declarations.Declared.{Declared}
use Rattle.f3_live_blocks.specs.Blocks.{Live, IsLive, words_of}
use Rattle.f3_meaning_whole.specs.Value.{Span, count}
use Rattle.f3_meaning_whole.specs.Shape.{Shape, Whole, Logical, Record, Parts, nothing, and, shape_in}
use Rattle.f3_rooms.specs.Held.{Held, Row, Empty, Holds, Parts as Divided, end, IsDivided, parts_of, first, others, times}
use Rattle.f3_rooms.specs.Forms.{Form, Laid, Allocatable, form_of, form_words, laid_words, words_for, room, total}
use Rattle.f3_rooms.specs.Values.{word}
use Rattle.f3_rooms.specs.Rooms.{Room, Slot, Known, Stands, Rooms, blocks_of}

-- what holds of an object that begins at a word of a block, given what is held there
abbrev pub Fact : Type 1
Fact = ℕ → ℕ → Held → Type 0

-- so many objects, one behind another, and nothing is held behind the last
abbrev pub Each : ℕ → ℕ → Fact → ℕ → ℕ → Row → Type 0
Each zero n P b o hs = hs ≡ end
Each (suc k) n P b o hs = P b o (first hs) × Each k n P b (o + n) (others hs)

abbrev pub AreLaid : ℕ → List Span → ℕ → Fact → ℕ → ℕ → Held → Type 0
AreLaid zero ss n P b o h = P b o h
AreLaid (suc rank) ss n P b o h = IsDivided h × Each (count ss) n P b o (parts_of h)

-- the words from a place on tell of these bounds: of each dimension its lower bound and its extent
abbrev pub TellBounds : Live → ℕ → ℕ → List Span → Type 0
TellBounds m b o [] = ⊤
TellBounds m b o (s ∷ ss) = (word m b o ≡ s.lower) × (word m b (o + 1) ≡ pos s.extent) × TellBounds m b (o + 2) ss

-- An allocatable's words tell what it holds: an object in a live block of its own, which has just its words (6.3.1); or its first word is 0.
pub record IsAllocated (m : Live) (rank n : ℕ) (P : Fact) (b o c : ℕ) (ss : List Span) (h : Held) : Type 0 where
  pub names : word m b o ≡ pos c
  pub named : 0 < c
  pub bounds : TellBounds m b (o + 1) ss
  pub ranked : length ss ≡ rank
  pub live : IsLive m c
  pub words : length (words_of m c) ≡ laid_words rank ss n
  pub within : AreLaid rank ss n P c 0 h

abbrev pub IsHolder : Live → ℕ → ℕ → Fact → ℕ → ℕ → Held → Type 0
IsHolder m rank n P b o Empty = word m b o ≡ pos 0
IsHolder m rank n P b o (Holds c ss h) = IsAllocated m rank n P b o c ss h
IsHolder m rank n P b o (Divided hs) = ⊥

abbrev pub IsForm : Live → Form → ℕ → Fact → ℕ → ℕ → Held → Type 0
IsForm m (Laid rank ss) n P b o h = AreLaid rank ss n P b o h
IsForm m (Allocatable rank) n P b o h = IsHolder m rank n P b o h

-- so in an object of a type: a scalar holds nothing
abbrev mutual
  pub IsObject : Live → Shape → ℕ → ℕ → Held → Type 0
  IsObject m Whole b o h = h ≡ Empty
  IsObject m Logical b o h = h ≡ Empty
  IsObject m (Record t parts) b o h = IsDivided h × AreComponents m parts b o (parts_of h)

  pub AreComponents : Live → Parts → ℕ → ℕ → Row → Type 0
  AreComponents m nothing b o hs = hs ≡ end
  AreComponents m (and c s rest) b o hs =
      IsForm m (form_of c.declared) (words_for s) (IsObject m s) b o (first hs)
      × AreComponents m rest b (o + form_words (form_of c.declared) (words_for s)) (others hs)

abbrev pub AreVariables : List Shape → Live → List Declared → ℕ → ℕ → Row → Type 0
AreVariables ts m [] b o hs = hs ≡ end
AreVariables ts m (d ∷ ds) b o hs =
    IsForm m (form_of d) (words_for (shape_in ts d.kind.of)) (IsObject m (shape_in ts d.kind.of)) b o (first hs)
    × AreVariables ts m ds b (o + room ts d) (others hs)

-- the variables of a room are the first words of its block; behind them a machine may keep what it likes
pub record IsRoom (ts : List Shape) (m : Live) (r : Room) : Type 0 where
  pub live : IsLive m r.block
  pub long : total ts r.declared ≤ length (words_of m r.block)
  pub variables : AreVariables ts m r.declared r.block 0 r.held

abbrev pub IsSlot : List Shape → Live → Slot → Type 0
IsSlot ts m (Known v) = ⊤
IsSlot ts m (Stands r) = IsRoom ts m r

abbrev pub IsLevel : List Shape → Live → List Slot → Type 0
IsLevel ts m [] = ⊤
IsLevel ts m (s ∷ ss) = IsSlot ts m s × IsLevel ts m ss

abbrev pub AreLevels : List Shape → Live → List (List Slot) → Type 0
AreLevels ts m [] = ⊤
AreLevels ts m (l ∷ ls) = IsLevel ts m l × AreLevels ts m ls

-- Variables stand in blocks, and what they hold, each in its own.
pub record IsSound (ts : List Shape) (m : Live) (x : Rooms) : Type 0 where
  pub statics : IsRoom ts m x.statics
  pub levels : AreLevels ts m x.levels
  pub apart : (q : ℕ) → times q (blocks_of x) ≤ 1
