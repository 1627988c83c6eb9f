-- Ways on from parts, and ways to other parts.
use Rattle.std.proofs.Common.{zero, suc}
use Rattle.std.specs.Prelude.{◌≡◌, ℕ, ◌+◌, Bool, true, false, if◌then◌else◌, List, [], ◌∷◌, ◌++◌, length, Option, Some, slice_get}
use Rattle.f3_program.specs.declared.declarations.Declared.{Declared}
use Rattle.f3_meaning_whole.specs.Shape.{Shape, shape_in}
use Rattle.f3_meaning_whole.specs.Store.{Root, Static, Local, Step, same_root, same_step}
use Rattle.f3_rooms.specs.Held.{Held, part_at}
use Rattle.f3_rooms.specs.Forms.{Form, Laid, Allocatable, form_of, room}
use Rattle.f3_rooms.specs.Rooms.{Room, Slot, Known, Stands, Rooms}
use Rattle.f3_rooms.specs.Places.{Found, in_form, in_object, found, rooms_with}

-- a part of a part
abbrev pub part_of : Found → List Step → Option Found
part_of f way = in_form f.form f.shape f.of (in_object f.shape f.of) f.block f.at f.held way

-- Where a way goes on, it goes on from the part that stands there.
abbrev pub PartsHaveParts : Type 0
PartsHaveParts = (ts : List Shape) (x : Rooms) (r : Root) (way more : List Step) (f : Found) → found ts x r way ≡ Some f → found ts x r (way ++ more) ≡ part_of f more

-- two ways go to different components or elements at some step
abbrev pub are_aside : List Step → List Step → Bool
are_aside [] other = false
are_aside (s ∷ way) [] = false
are_aside (s ∷ way) (t ∷ other) = if same_step s t then are_aside way other else true

-- Where something else is held in a part, parts of other variables stand where they stood.
abbrev pub OtherVariablesStand : Type 0
OtherVariablesStand = (ts : List Shape) (x : Rooms) (r q : Root) (way other : List Step) (u : Held) → same_root r q ≡ false
    → found ts (rooms_with x r way u) q other ≡ found ts x q other

-- So do other parts of the same variable.
abbrev pub OtherPartsStand : Type 0
OtherPartsStand = (ts : List Shape) (x : Rooms) (r : Root) (way other : List Step) (f : Found) (u : Held) → found ts x r way ≡ Some f → are_aside way other ≡ true
    → found ts (rooms_with x r way u) r other ≡ found ts x r other

-- ---- whole variables

-- how many words variables in front of one have
abbrev pub offset : List Shape → List Declared → ℕ → ℕ
offset ts [] i = 0
offset ts (d ∷ ds) zero = 0
offset ts (d ∷ ds) (suc i) = room ts d + offset ts ds i

-- a scalar has no bounds
abbrev pub settled : Form → Form
settled (Laid zero ss) = Laid 0 []
settled (Laid (suc rank) ss) = Laid (suc rank) ss
settled (Allocatable rank) = Allocatable rank

-- the variable of a number of a room
abbrev pub variable_in : List Shape → Room → ℕ → Declared → Found
variable_in ts r i d = record {
  block = r.block;
  at = offset ts r.declared i;
  shape = shape_in ts d.kind.of;
  of = d.kind.of;
  form = settled (form_of d);
  held = part_at r.held i;
}

-- how many numbers slots have
abbrev pub numbers : List Slot → ℕ
numbers [] = 0
numbers (Known v ∷ ss) = 1 + numbers ss
numbers (Stands r ∷ ss) = length r.declared + numbers ss

-- Each variable stands in the block of its room, behind those before it.
abbrev pub StaticsStand : Type 0
StaticsStand = (ts : List Shape) (x : Rooms) (i : ℕ) (d : Declared) → slice_get (x.statics).declared i ≡ Some d
    → found ts x (Static i) [] ≡ Some (variable_in ts x.statics i d)

abbrev pub LocalsStand : Type 0
LocalsStand = (ts : List Shape) (x : Rooms) (level : ℕ) (before behind : List Slot) (r : Room) → slice_get x.levels level ≡ Some (before ++ Stands r ∷ behind)
    → (i : ℕ) (d : Declared) → slice_get r.declared i ≡ Some d → found ts x (Local level (numbers before + i)) [] ≡ Some (variable_in ts r i d)
