-- Laws of what descriptors tell of.
use Rattle.std.specs.Prelude.{⊤, ◌≡◌, ◌≤◌, ◌+◌, ℕ, zero, suc, pos, List, [], ◌∷◌, Some, length, map}
use Rattle.std.specs.List.{All, AllPairs}
use Rattle.f3_live_blocks.specs.Blocks.{Live, IsLive}
use Rattle.f3_meaning_whole.specs.Value.{Span, Value, count}
use Rattle.f3_meaning_whole.specs.Shape.{Shape, Record, Parts, nothing, and}
use Rattle.f3_meaning_whole.specs.Store.{Root, Step, Component, Path, within, get}
use Rattle.f3_meaning_whole.specs.Reference.{paths_by, reach_of}
use Rattle.f3_meaning_whole.specs.Act.{Chosen, subscripts_in, places_in, elements_at}
use Rattle.f3_desc.specs.declared.descriptor.Descriptor.{Descriptor}
use Rattle.f3_desc.specs.declared.descriptor.Dim.{Dim}
use Rattle.f3_desc.specs.declared.descriptor.Triplet.{Triplet}
use Rattle.f3_desc.specs.Descriptor.{choices, places}
use Rattle.f3_desc.specs.Section.{IsSection, IsStepZero, SelectsWithin, selected}
use Rattle.f3_desc.specs.Laws.{IsContiguous, number, size_of}
use Rattle.f3_rooms.specs.Forms.{Laid, form_of, form_words, words_for}
use Rattle.f3_rooms.specs.Rooms.{Rooms, store_of}
use Rattle.f3_rooms.specs.Places.{Found, found}
use Rattle.f3_rooms.specs.Ways.{settled}
use Rattle.f3_rooms.specs.Sound.{IsSound}
use Rattle.f3_rooms.specs.Laws.{path_at}
use Rattle.f3_room_arrays.specs.Elements.{Tells}
use Rattle.f3_room_arrays.specs.Changes.{LieWithin, AreAside}

-- The words of objects that a descriptor tells of lie in its block.
abbrev pub ObjectsLieWithin : Type 0
ObjectsLieWithin = (ts : List Shape) (m : Live) (x : Rooms) (a : Descriptor) (s : Shape) (ps : List Path) → IsSound ts m x → Tells ts x a s ps → IsLive m a.block
    → LieWithin m a (words_for s)

-- a descriptor of a whole array that stands there: its elements follow on one another
pub record IsWhole (f : Found) (ss : List Span) (a : Descriptor) : Type 0 where
  pub block : a.block ≡ f.block
  pub offset : a.offset ≡ f.at
  pub dims : IsContiguous (pos (words_for f.shape)) a.dims.items
  pub size : size_of a.dims.items ≡ count ss

-- It tells of all the objects that the meaning reaches there, in array element order (ISO/IEC 1539-1:2004, 6.2.2.2).
abbrev pub ArraysAreTold : Type 0
ArraysAreTold = (ts : List Shape) (m : Live) (x : Rooms) (r : Root) (way : List Step) (f : Found) → found ts x r way ≡ Some f
    → (rank : ℕ) (ss : List Span) → f.form ≡ Laid (suc rank) ss → (a : Descriptor) → IsWhole f ss a
    → Tells ts x a f.shape (paths_by (path_at r way) (reach_of (path_at r way) (get (store_of ts m x) (path_at r way))))

-- The numbers of the elements that triplets select, in order (6.2.2.3).
abbrev pub numbers : List Dim → List Triplet → List ℕ
numbers ds cs = map (number ds) (choices (map selected cs))

-- A section tells of the selected ones.
abbrev pub SectionsAreTold : Type 0
SectionsAreTold = (ts : List Shape) (x : Rooms) (a b : Descriptor) (s : Shape) (ps : List Path) (cs : List Triplet) → Tells ts x a s ps
    → SelectsWithin a cs → IsSection a cs b → Tells ts x b s (elements_at ps (numbers a.dims.items cs))

-- in each dimension the triplet selects what the meaning selects between these bounds
abbrev pub SelectAlike : List Span → List Chosen → List Dim → List Triplet → Type 0
SelectAlike [] [] [] [] = ⊤
SelectAlike (s ∷ ss) (h ∷ hs) (d ∷ ds) (c ∷ cs) = (d.lower ≡ s.lower) × (d.extent ≡ s.extent) × (subscripts_in s h ≡ selected c) × SelectAlike ss hs ds cs
SelectAlike ss hs ds cs = ⊥

-- Then the meaning selects the elements of these numbers.
abbrev pub NumbersArePlaces : Type 0
NumbersArePlaces = (ss : List Span) (hs : List Chosen) (ds : List Dim) (cs : List Triplet) → SelectAlike ss hs ds cs → places_in ss hs ≡ numbers ds cs

-- ---- how many

-- There is a place for each element.
abbrev pub ElementsAreCounted : Type 0
ElementsAreCounted = (a : Descriptor) → length (places a) ≡ size_of a.dims.items

-- A section has no more elements than the whole.
abbrev pub SectionsAreNoLonger : Type 0
SectionsAreNoLonger = (a b : Descriptor) (cs : List Triplet) → All (λ c. ¬ (IsStepZero c)) cs → SelectsWithin a cs → IsSection a cs b → length (places b) ≤ length (places a)

-- ---- components of the elements (6.1.2)

-- the component of a number is one object of this type, which is not allocatable, and begins so many words behind the first
abbrev pub IsScalarComponent : Parts → ℕ → ℕ → Shape → Type 0
IsScalarComponent nothing k o u = ⊥
IsScalarComponent (and c s rest) zero o u = (o ≡ 0) × (u ≡ s) × (settled (form_of c.declared) ≡ Laid 0 [])
IsScalarComponent (and c s rest) (suc k) o u = (i : ℕ) × (o ≡ form_words (form_of c.declared) (words_for s) + i) × IsScalarComponent rest k i u

-- A descriptor that begins as many words further on tells of this component of each.
abbrev pub ComponentsAreTold : Type 0
ComponentsAreTold = (ts : List Shape) (x : Rooms) (a b : Descriptor) (t : ℕ) (parts : Parts) (ps : List Path) (k o : ℕ) (u : Shape) → Tells ts x a (Record t parts) ps
    → IsScalarComponent parts k o u → b.block ≡ a.block → b.offset ≡ a.offset + o → b.dims ≡ a.dims → Tells ts x b u (map (λ p. within p (Component k)) ps)

-- ---- different elements

-- The elements of an array are different objects.
abbrev pub ElementsAreAside : Type 0
ElementsAreAside = (p : Path) (v : Value) → AllPairs AreAside (paths_by p (reach_of p v))

-- So are those of a section.
abbrev pub SectionsStayAside : Type 0
SectionsStayAside = (a : Descriptor) (cs : List Triplet) (ps : List Path) → All (λ c. ¬ (IsStepZero c)) cs → SelectsWithin a cs
    → AllPairs AreAside ps → AllPairs AreAside (elements_at ps (numbers a.dims.items cs))
