-- Areas that stand in rooms.
use Rattle.std.proofs.Common.{◌≡◌, ◌∙◌, sym, ap, subst, refl, ℕ, ◌*◌, ◌<◌, List, [], ◌∷◌, length, map, arith}
use Rattle.std.specs.Prelude.{ℤ, pos, ◌+ℤ◌}
use Rattle.std.specs.List.{AllZip}
use Rattle.std.proofs.lemmas.Int.{ints}
use Rattle.f3_program.specs.declared.program.Program.{Program}
use Rattle.f3_live_blocks.specs.Blocks.{Live, IsLive}
use Rattle.f3_meaning_whole.specs.Value.{count}
use Rattle.f3_meaning_whole.specs.Shape.{Shape}
use Rattle.f3_meaning_whole.specs.Store.{Path}
use Rattle.f3_meaning_whole.specs.Reference.{Reach, One, Many, paths_by}
use Rattle.f3_desc.specs.declared.descriptor.Descriptor.{Descriptor}
use Rattle.f3_desc.specs.declared.descriptor.Dim.{Dim}
use Rattle.f3_desc.specs.Descriptor.{choices, distance, places, subscripts}
use Rattle.f3_desc.specs.Laws.{size_of}
use Rattle.f3_rooms.specs.Forms.{words_for}
use Rattle.f3_rooms.specs.Rooms.{Rooms, blocks_of}
use Rattle.f3_rooms.specs.Held.{times, blocks_in}
use Rattle.f3_rooms.specs.Sound.{IsSound}
use Rattle.f3_rooms.proofs.Within.{store_owns}
use Rattle.f3_room_arrays.specs.Elements.{StandsAt, Tells}
use Rattle.f3_room_arrays.specs.Changes.{LieWithin}
use Rattle.f3_room_arrays.proofs.Numbers.{places-many}
use Rattle.f3_room_arrays.proofs.Objects.{zip-length, object-live}
use Rattle.f3_room_arrays.proofs.Told.{objects_lie_within}
use Rattle.f3_word_cells.specs.declared.cell.Area.{Area}
use Rattle.f3_word_cells.specs.Areas.{types_of, shape_for, spans_of, AreThere}

-- one place, without dimensions
pub one-place : (a : Descriptor) → a.dims.items ≡ [] → places a ≡ pos a.offset ∷ []
one-place a e =
    let none : pos a.offset +ℤ pos 0 ≡ pos a.offset = omega (arith, ints) in
    ap (λ (ds : List Dim). map (λ ss. pos a.offset +ℤ distance ds ss) (choices (map subscripts ds))) e ∙ ap (λ z. z ∷ []) none

-- all objects that are meant stand there
pub tells-all : (p : Program) (x : Rooms) (a : Area) (q : Path) (reach : Reach) → AreThere p x a q reach → Tells (types_of p) x a.elements (shape_for p a.of) (paths_by q reach)
tells-all p x a q One there =
    subst (λ zs. AllZip (StandsAt (types_of p) x (a.elements).block (shape_for p a.of)) zs (q ∷ [])) (sym (one-place a.elements there.0)) (there.1, tt)
tells-all p x a q (Many ss ps) there = there.2

-- as many as there are elements
pub many-all : (p : Program) (x : Rooms) (a : Area) (ps : List Path) → Tells (types_of p) x a.elements (shape_for p a.of) ps → size_of (a.elements).dims.items ≡ length ps
many-all p x a ps tells =
    sym (places-many (pos (a.elements).offset) (a.elements).dims.items)
    ∙ zip-length (StandsAt (types_of p) x (a.elements).block (shape_for p a.of)) (places a.elements) ps tells

pub count-size : (ds : List Dim) → count (spans_of ds) ≡ size_of ds
count-size [] = refl
count-size (d ∷ ds) = ap (λ (k : ℕ). d.extent * k) (count-size ds)

-- the block of an object is one of the rooms
module _ (ts : List Shape) (x : Rooms) (b : ℕ) (s : Shape) where
  pub stands-among : (z : ℤ) (p : Path) → StandsAt ts x b s z p → 0 < times b (blocks_of x)
  stands-among z p stands =
      let f = stands.part in
      let own : times f.block (blocks_in f.held) < times f.block (blocks_of x) = (store_owns ts x p.root p.steps f stands.leads).block in
      subst (λ (q : ℕ). 0 < times q (blocks_of x)) stands.there (omega arith)

  pub among : (zs : List ℤ) (ps : List Path) → AllZip (StandsAt ts x b s) zs ps → 0 < length zs → 0 < times b (blocks_of x)
  among [] ps stand some = absurd (omega arith)
  among (z ∷ zs) [] stand some = absurd stand
  among (z ∷ zs) (p ∷ ps) stand some = stands-among z p stand.0

-- where there are some, their block is live
pub some-live : (ts : List Shape) (m : Live) (x : Rooms) → IsSound ts m x → (b : ℕ) (s : Shape) (zs : List ℤ) (ps : List Path) → AllZip (StandsAt ts x b s) zs ps → 0 < length zs → IsLive m b
some-live ts m x sound b s [] ps stand some = absurd (omega arith)
some-live ts m x sound b s (z ∷ zs) [] stand some = absurd stand
some-live ts m x sound b s (z ∷ zs) (p ∷ ps) stand some = object-live ts m x sound b s z p stand.0

-- and their words lie within it
pub all-within : (p : Program) (m : Live) (x : Rooms) (a : Area) (ps : List Path) → IsSound (types_of p) m x → Tells (types_of p) x a.elements (shape_for p a.of) ps
    → 0 < size_of (a.elements).dims.items → LieWithin m a.elements (words_for (shape_for p a.of))
all-within p m x a ps sound tells some =
    let n = places-many (pos (a.elements).offset) (a.elements).dims.items in
    objects_lie_within (types_of p) m x a.elements (shape_for p a.of) ps sound tells
    (some-live (types_of p) m x sound (a.elements).block (shape_for p a.of) (places a.elements) ps tells (omega arith))
