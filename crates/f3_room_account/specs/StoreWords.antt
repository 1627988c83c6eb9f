-- How many words of a heap a store asks for (own rule): a block for each room, and one with just its words for each allocated object,
-- which is counted from its value and its type.
use Rattle.std.proofs.Common.{zero, suc}
use Rattle.std.specs.Prelude.{ℕ, ◌+◌, List, [], ◌∷◌, length, drop, map, Option, None, Some}
use Rattle.f3_program.specs.declared.declarations.Declared.{Declared}
use Rattle.f3_live_blocks.specs.Blocks.{Live, words_of}
use Rattle.f3_heap_laws.specs.Account.{r as taken_by}
use Rattle.f3_meaning_whole.specs.Value.{Value, Composite, Array, Allocated, Values, none, more, spans_of}
use Rattle.f3_meaning_whole.specs.Shape.{Shape, Whole, Logical, Record, Parts, nothing, and, shape_in}
use Rattle.f3_meaning_whole.specs.Store.{Store}
use Rattle.f3_rooms.specs.Forms.{Form, Laid, Allocatable, form_of, laid_words, words_for}
use Rattle.f3_rooms.specs.Rooms.{Room, Slot, Known, Stands, Rooms}

-- ---- what is allocated in a value, at whatever depth (ISO/IEC 1539-1:2004, 6.3)

-- in elements one after another
abbrev pub words_in_all : (Value → ℕ) → Values → ℕ
words_in_all f none = 0
words_in_all f (more v vs) = f v + words_in_all f vs

-- in one object, or in the elements of an array
abbrev pub words_in_laid : ℕ → (Value → ℕ) → Value → ℕ
words_in_laid zero f v = f v
words_in_laid (suc rank) f (Array ss vs) = words_in_all f vs
words_in_laid (suc rank) f v = 0

-- what an allocatable holds has a block with just its words, so many for each element, and may have more beneath
abbrev pub words_in_form : Form → ℕ → (Value → ℕ) → Value → ℕ
words_in_form (Laid rank ss) n f v = words_in_laid rank f v
words_in_form (Allocatable rank) n f (Allocated v) = taken_by (laid_words rank (spans_of v) n) + words_in_laid rank f v
words_in_form (Allocatable rank) n f v = 0

-- in an object of a type, and in its components
abbrev mutual
  pub words_beneath : Shape → Value → ℕ
  words_beneath Whole v = 0
  words_beneath Logical v = 0
  words_beneath (Record t parts) (Composite vs) = words_beneath_all parts vs
  words_beneath (Record t parts) v = 0

  pub words_beneath_all : Parts → Values → ℕ
  words_beneath_all nothing vs = 0
  words_beneath_all (and c s rest) none = 0
  words_beneath_all (and c s rest) (more v vs) = words_in_form (form_of c.declared) (words_for s) (words_beneath s) v + words_beneath_all rest vs

-- in a variable, among the trees of the types of its program, and in variables one after another
abbrev pub words_in_variable : List Shape → Declared → Value → ℕ
words_in_variable ts d v = words_in_form (form_of d) (words_for (shape_in ts d.kind.of)) (words_beneath (shape_in ts d.kind.of)) v

abbrev pub words_in_variables : List Shape → List Declared → List Value → ℕ
words_in_variables ts [] vs = 0
words_in_variables ts (d ∷ ds) [] = 0
words_in_variables ts (d ∷ ds) (v ∷ vs) = words_in_variable ts d v + words_in_variables ts ds vs

-- ---- a store

-- the variables of a room, and the length of its block
pub record Outline : Type 0 where
  pub declared : List Declared
  pub words : ℕ

-- the rooms of a store: for what lives for the whole run, and on each level, where a value may have none
pub record Plan : Type 0 where
  pub statics : Outline
  pub levels : List (List (Option Outline))

-- the block of a room, and all that is allocated in its variables, which are the first of these values
abbrev pub words_in_room : List Shape → Outline → List Value → ℕ
words_in_room ts o vs = taken_by o.words + words_in_variables ts o.declared vs

abbrev pub words_in_level : List Shape → List (Option Outline) → List Value → ℕ
words_in_level ts [] vs = 0
words_in_level ts (None ∷ os) vs = words_in_level ts os (drop 1 vs)
words_in_level ts (Some o ∷ os) vs = words_in_room ts o vs + words_in_level ts os (drop (length o.declared) vs)

abbrev pub words_in_levels : List Shape → List (List (Option Outline)) → List (List Value) → ℕ
words_in_levels ts [] levels = 0
words_in_levels ts (p ∷ ps) [] = 0
words_in_levels ts (p ∷ ps) (l ∷ ls) = words_in_level ts p l + words_in_levels ts ps ls

abbrev pub store_words : List Shape → Plan → Store → ℕ
store_words ts p store = words_in_room ts p.statics store.statics + words_in_levels ts p.levels store.levels

-- ---- the plan of rooms (f3_rooms, Rooms)

abbrev pub outline : Live → Room → Outline
outline m r = record { declared = r.declared; words = length (words_of m r.block) }

abbrev pub slot_outline : Live → Slot → Option Outline
slot_outline m (Known v) = None
slot_outline m (Stands r) = Some (outline m r)

abbrev pub plan_of : Live → Rooms → Plan
plan_of m x = record { statics = outline m x.statics; levels = map (map (slot_outline m)) x.levels }
