-- What a machine knows of a part of a variable.
use Rattle.std.proofs.Common.{zero, suc}
use Rattle.std.specs.Prelude.{⊤, ◌≡◌, ℕ, ◌+◌, ◌*◌, ◌≤◌, List, [], length, Option, None, Some}
use Rattle.f3_live_blocks.specs.Blocks.{Live, IsLive, words_of}
use Rattle.f3_meaning_whole.specs.Value.{Span}
use Rattle.f3_meaning_whole.specs.Shape.{Shape, shape_in, shapes_of, spans_declared}
use Rattle.f3_meaning_whole.specs.Store.{Step}
use Rattle.f3_rooms.specs.Forms as room
use Rattle.f3_rooms.specs.Places.{Found, in_form, in_object}
use Rattle.f3_rooms.specs.Sound.{TellBounds}
use Rattle.f3_rooms.specs.Laws.{IsWithin}
use Rattle.f3_type_words.specs.Tables.{AreTables}
use Rattle.f3_room_places.specs.declared.types.Types.{Types}
use Rattle.f3_room_places.specs.declared.place.Bounds.{Bounds}
use Rattle.f3_room_places.specs.declared.place.Bounds.TheVariants.{Declared, Told}
use Rattle.f3_room_places.specs.declared.place.Form.{Form}
use Rattle.f3_room_places.specs.declared.place.Form.TheVariants.{Laid, Allocatable}
use Rattle.f3_room_places.specs.declared.place.Place.{Place}

-- the types as trees
abbrev pub shapes : Types → List Shape
shapes types = shapes_of types.derived.now

abbrev pub HasTables : Types → Type 0
HasTables types = AreTables (shapes types) types.tables.now

-- words of a live block tell of these bounds, from one on
pub record AreTold (m : Live) (block at rank : ℕ) (ss : List Span) : Type 0 where
  pub live : IsLive m block
  pub within : at + 2 * rank ≤ length (words_of m block)
  pub ranked : length ss ≡ rank
  pub told : TellBounds m block at ss

-- bounds of an array; one object has none
abbrev pub AreBounds : Live → ℕ → Bounds → List Span → Type 0
AreBounds m zero bounds ss = ss ≡ []
AreBounds m (suc rank) (Declared ds) ss = ss ≡ spans_declared ds.now
AreBounds m (suc rank) (Told block at) ss = AreTold m block at (suc rank) ss

abbrev pub IsFormed : Live → Form → room.Form → Type 0
IsFormed m (Laid rank bounds) (room.Laid k ss) = (rank ≡ k) × AreBounds m k bounds ss
IsFormed m (Laid rank bounds) (room.Allocatable k) = ⊥
IsFormed m (Allocatable rank) (room.Laid k ss) = ⊥
IsFormed m (Allocatable rank) (room.Allocatable k) = rank ≡ k

abbrev pub without_bounds : room.Form → room.Form
without_bounds (room.Laid zero ss) = room.Laid zero []
without_bounds (room.Laid (suc rank) ss) = room.Laid (suc rank) ss
without_bounds (room.Allocatable rank) = room.Allocatable rank

-- This is where the part stands, and its words are there.
pub record IsPlace (m : Live) (p : Place) (f : Found) : Type 0 where
  pub block : f.block ≡ p.block
  pub at : f.at ≡ p.at
  pub of : f.of ≡ p.of
  pub shape : f.shape ≡ shape_in (shapes p.types) p.of
  pub form : IsFormed m p.form f.form
  pub tables : HasTables p.types
  pub within : IsWithin m f

-- such a part is there
abbrev pub Stands : Live → Place → Type 0
Stands m p = (f : Found) × IsPlace m p f

-- the place of a part, and none where there is no such part
abbrev pub IsReached : Live → Option Place → Option Found → Type 0
IsReached m None None = ⊤
IsReached m None (Some f) = ⊥
IsReached m (Some p) None = ⊥
IsReached m (Some p) (Some f) = IsPlace m p f

-- a part of a part
abbrev pub further : Found → List Step → Option Found
further f way = in_form f.form f.shape f.of (in_object f.shape f.of) f.block f.at f.held way
