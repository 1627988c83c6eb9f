-- Where parts of variables stand.
use Rattle.std.proofs.Common.{zero, suc}
use Rattle.std.specs.Prelude.{◌≡◌, ℕ, ◌+◌, ◌*◌, ◌-◌, ℤ, Bool, nat_lt, if◌then◌else◌, List, [], ◌∷◌, length, Option, None, Some, slice_index_or, slice_set}
use Rattle.f3_program.specs.declared.declarations.Base.{Base}
use Rattle.f3_program.specs.declared.declarations.Declared.{Declared}
use Rattle.f3_live_blocks.specs.Blocks.{Live, words_of, with_words}
use Rattle.f3_meaning_whole.specs.Value.{Span, Value, Number, Truth, Unallocated, count}
use Rattle.f3_meaning_whole.specs.Shape.{Shape, Whole, Logical, Record, Parts, nothing, and, shape_in}
use Rattle.f3_meaning_whole.specs.Store.{Root, Static, Local, Step, Component, Element, Contents}
use Rattle.f3_rooms.specs.Held.{Held, Row, Holds, parts_of, first, others, part_at, with_held, with_part_at}
use Rattle.f3_rooms.specs.Forms.{Form, Laid, Allocatable, form_of, form_words, words_for, room}
use Rattle.f3_rooms.specs.Values.{is_set, formed, object}
use Rattle.f3_rooms.specs.Rooms.{Room, Slot, Known, Stands, Rooms}

-- a part of a variable: its first word, the tree of its type and its type, how it is laid out, and what is held in it
pub record Found : Type 0 where
  pub block : ℕ
  pub at : ℕ
  pub shape : Shape
  pub of : Base
  pub form : Form
  pub held : Held

-- what stands there
abbrev pub value_at : Live → Found → Value
value_at m f = formed f.form (words_for f.shape) (object m f.shape) f.block f.at f.held

-- how to go on from the first word of an object
abbrev pub Onward : Type 0
Onward = ℕ → ℕ → Held → List Step → Option Found

-- a part of one object, or of an element of an array (ISO/IEC 1539-1:2004, 6.2.2.2)
abbrev pub in_laid : ℕ → List Span → Shape → Base → Onward → Onward
in_laid zero ss s of f b o h way = f b o h way
in_laid (suc rank) ss s of f b o h [] = Some (record { block = b; at = o; shape = s; of = of; form = Laid (suc rank) ss; held = h })
in_laid (suc rank) ss s of f b o h (Element k ∷ way) = if nat_lt k (count ss) then f b (o + k * words_for s) (part_at (parts_of h) k) way else None
in_laid (suc rank) ss s of f b o h way = None

-- a part of what an allocatable holds
abbrev pub in_holder : ℕ → Shape → Base → Onward → Held → List Step → Option Found
in_holder rank s of f (Holds c ss h) way = in_laid rank ss s of f c 0 h way
in_holder rank s of f h way = None

abbrev pub in_form : Form → Shape → Base → Onward → Onward
in_form (Laid rank ss) s of f b o h way = in_laid rank ss s of f b o h way
in_form (Allocatable rank) s of f b o h [] = Some (record { block = b; at = o; shape = s; of = of; form = Allocatable rank; held = h })
in_form (Allocatable rank) s of f b o h (Contents ∷ way) = in_holder rank s of f h way
in_form (Allocatable rank) s of f b o h way = None

-- a part of an object of a type, which may be that itself
abbrev mutual
  pub in_object : Shape → Base → Onward
  in_object s of b o h [] = Some (record { block = b; at = o; shape = s; of = of; form = Laid 0 []; held = h })
  in_object (Record t parts) of b o h (Component k ∷ way) = in_component parts b o (parts_of h) k way
  in_object s of b o h way = None

  pub in_component : Parts → ℕ → ℕ → Row → ℕ → List Step → Option Found
  in_component nothing b o hs k way = None
  in_component (and c s rest) b o hs zero way = in_form (form_of c.declared) s c.declared.kind.of (in_object s c.declared.kind.of) b o (first hs) way
  in_component (and c s rest) b o hs (suc k) way = in_component rest b (o + form_words (form_of c.declared) (words_for s)) (others hs) k way

-- a part of a variable, and of the one of a number among those that stand one after another
abbrev pub in_variable : List Shape → Declared → Onward
in_variable ts d b o h way = in_form (form_of d) (shape_in ts d.kind.of) d.kind.of (in_object (shape_in ts d.kind.of) d.kind.of) b o h way

abbrev pub in_variables : List Shape → List Declared → ℕ → ℕ → Row → ℕ → List Step → Option Found
in_variables ts [] b o hs i way = None
in_variables ts (d ∷ ds) b o hs zero way = in_variable ts d b o (first hs) way
in_variables ts (d ∷ ds) b o hs (suc i) way = in_variables ts ds b (o + room ts d) (others hs) i way

abbrev pub in_room : List Shape → Room → ℕ → List Step → Option Found
in_room ts r i way = in_variables ts r.declared r.block 0 r.held i way

-- a known value has no words; a room has as many numbers as variables
abbrev pub in_level : List Shape → List Slot → ℕ → List Step → Option Found
in_level ts [] i way = None
in_level ts (Known v ∷ ss) zero way = None
in_level ts (Known v ∷ ss) (suc i) way = in_level ts ss i way
in_level ts (Stands r ∷ ss) i way = if nat_lt i (length r.declared) then in_room ts r i way else in_level ts ss (i - length r.declared) way

-- where a part of a variable of a store stands, if it stands in a block
abbrev pub found : List Shape → Rooms → Root → List Step → Option Found
found ts x (Static i) way = in_room ts x.statics i way
found ts x (Local level i) way = in_level ts (slice_index_or x.levels level []) i way

-- ---- scalars

abbrev pub is_scalar_shape : Shape → Bool
is_scalar_shape Whole = Bool.true
is_scalar_shape Logical = Bool.true
is_scalar_shape (Record t parts) = Bool.false

-- one scalar stands there
pub record IsScalar (f : Found) : Type 0 where
  pub shape : is_scalar_shape f.shape ≡ Bool.true
  pub form : f.form ≡ Laid 0 []

-- the scalar of a type that a word is
abbrev pub scalar_in : Shape → ℤ → Value
scalar_in Whole z = Number z
scalar_in Logical z = Truth (is_set z)
scalar_in (Record t parts) z = Unallocated

-- a block with another word there
abbrev pub with_word : Live → ℕ → ℕ → ℤ → Live
with_word m block i z = with_words m block (slice_set (words_of m block) i z)

-- ---- what is held, but at a part of a variable this

abbrev pub room_with : Room → ℕ → List Step → Held → Room
room_with r i way u = record {
  block = r.block;
  declared = r.declared;
  held = with_part_at r.held i (with_held (part_at r.held i) way u);
}

abbrev pub level_with : List Slot → ℕ → List Step → Held → List Slot
level_with [] i way u = []
level_with (Known v ∷ ss) zero way u = Known v ∷ ss
level_with (Known v ∷ ss) (suc i) way u = Known v ∷ level_with ss i way u
level_with (Stands r ∷ ss) i way u = if nat_lt i (length r.declared) then Stands (room_with r i way u) ∷ ss else Stands r ∷ level_with ss (i - length r.declared) way u

abbrev pub rooms_with : Rooms → Root → List Step → Held → Rooms
rooms_with x (Static i) way u = record { statics = room_with x.statics i way u; levels = x.levels }
rooms_with x (Local level i) way u = record {
  statics = x.statics;
  levels = slice_set x.levels level (level_with (slice_index_or x.levels level []) i way u);
}
