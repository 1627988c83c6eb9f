-- References: how statements come to objects.
use Rattle.std.specs.Prelude.{ℕ, suc, Bool, false, ◌||◌, List, [], ◌∷◌, map}
use Rattle.f3_program.specs.declared.declarations.Base.{Base}
use Rattle.f3_meaning_whole.specs.Value.{Span, Value, Array, Values, joined, shown}
use Rattle.f3_meaning_whole.specs.Store.{Store, Path, Element, Contents, within, goes_through, get}

-- what may be done through a reference (ISO/IEC 1539-1:2004, 5.1.2.7 and 5.1.2.12)
pub data Right : Type 0 where
  Define : Right
  Read : Right

-- who selected a component: a statement of a unit, or the language where it destroys or deallocates
pub data Maker : Type 0 where
  Selected : (unit : ℕ) → Maker
  Language : Maker

-- a component that was selected: of an object of which type, by its number, and who did
pub record Made : Type 0 where
  pub of : Base
  pub component : ℕ
  pub maker : Maker

-- what a reference reaches: the object at its path, or elements with their bounds
pub data Reach : Type 0 where
  One : Reach
  Many : List Span → List Path → Reach

-- An object, what of it is meant, its type by the declarations on the way from the root, what may be done to it, the unit
-- whose statement named the root, and the components that were selected on the way. An array's path stays where the array
-- stands, also for a section: this is what a reference lends.
pub record Reference : Type 0 where
  pub path : Path
  pub reach : Reach
  pub of : Base
  pub right : Right
  pub origin : ℕ
  pub makers : List Made

-- the paths of elements from a number on
abbrev pub elements_from : ℕ → Path → Values → List Path
elements_from i p Values.none = []
elements_from i p (Values.more v vs) = within p (Element i) ∷ elements_from (suc i) p vs

-- what there is at a path that holds a value
abbrev pub reach_of : Path → Value → Reach
reach_of p (Array ss vs) = Many ss (elements_from 0 p vs)
reach_of p v = One

-- the objects that are meant
abbrev pub paths_by : Path → Reach → List Path
paths_by p One = p ∷ []
paths_by p (Many ss ps) = ps

abbrev pub paths : Reference → List Path
paths r = paths_by r.path r.reach

abbrev pub spans : Reach → List Span
spans One = []
spans (Many ss ps) = ss

-- what stands at a reference, with the bounds that LBOUND and UBOUND tell
abbrev pub held_at : Store → Path → Reach → Value
held_at store p One = get store p
held_at store p (Many ss ps) = Array (shown ss) (joined (map (get store) ps))

-- some lent reference goes through the contents of the allocatable object at a path (own rule: it is in use)
abbrev pub is_pinned : Path → List Reference → Bool
is_pinned p [] = false
is_pinned p (r ∷ rs) = goes_through r.path (within p Contents) || is_pinned p rs
