-- How many words values take, where no component is allocatable.
use Rattle.std.proofs.Common.{◌≡◌, ◌∙◌, sym, ap, refl, zero, suc, ℕ, ◌+◌, ◌*◌, false, true, List, [], ◌∷◌, length, map, if◌then◌else◌, arith}
use Rattle.std.specs.Prelude.{ℤ, pos, unsigned_abs, slice_index_or}
use Rattle.std.specs.List.{All, AllZip}
use Rattle.f3_program.specs.declared.declarations.Base.{Base}
use Rattle.f3_program.specs.declared.declarations.Base.TheVariants as base
use Rattle.f3_program.specs.declared.program.Program.{Program}
use Rattle.f3_live_blocks.specs.Blocks.{Live}
use Rattle.f3_meaning_whole.specs.Value.{Span, Value, count, joined}
use Rattle.f3_meaning_whole.specs.Shape.{Shape, Whole, shape_in}
use Rattle.f3_meaning_whole.specs.Store.{Path, get}
use Rattle.f3_meaning_whole.specs.Reference.{Reach, One, Many, held_at}
use Rattle.f3_code.specs.Account.{row, words}
use Rattle.f3_desc.specs.declared.descriptor.Dim.{Dim}
use Rattle.f3_desc.specs.Descriptor.{places}
use Rattle.f3_desc.specs.Laws.{size_of}
use Rattle.f3_rooms.specs.Flat.{is_flat}
use Rattle.f3_rooms.specs.Forms.{laid_words, words_for}
use Rattle.f3_rooms.specs.Held.{Empty}
use Rattle.f3_rooms.specs.Rooms.{Rooms, store_of}
use Rattle.f3_rooms.specs.Sound.{IsSound}
use Rattle.f3_rooms.specs.Values.{laid, object}
use Rattle.f3_room_arrays.specs.Elements.{StandsAt, Tells}
use Rattle.f3_room_arrays.proofs.Numbers.{places-many}
use Rattle.f3_room_arrays.proofs.Objects.{object-is, zip-length}
use Rattle.f3_room_frames.proofs.Flat.{flat_laid_words, flat_words}
use Rattle.f3_word_cells.specs.declared.cell.Area.{Area}
use Rattle.f3_word_cells.specs.Areas.{AreThere, shape_for, spans_of, types_of, value_in}

pub all_flat : (ts : List Shape) → All (λ s. is_flat s ≡ true) ts → (t : ℕ) → is_flat (slice_index_or ts t Whole) ≡ true
all_flat [] all t = refl
all_flat (s ∷ ts) all zero = all 0 s (omega arith)
all_flat (s ∷ ts) all (suc t) = all_flat ts (λ k d lt. all (suc k) d (omega arith)) t

-- each type of such a program is so
pub flat_shape : (ts : List Shape) → All (λ s. is_flat s ≡ true) ts → (of : Base) → is_flat (shape_in ts of) ≡ true
flat_shape ts all base.Integer = refl
flat_shape ts all base.Long = refl
flat_shape ts all base.Logical = refl
flat_shape ts all (base.Derived t) = all_flat ts all t

laid_so : (ds : List Dim) (n : ℕ) → laid_words (length ds) (spans_of ds) n ≡ size_of ds * n
laid_so [] n = omega arith
laid_so (d ∷ ds) n = ap (λ k. k * n) (counted (d ∷ ds))
  where
    counted : (es : List Dim) → count (spans_of es) ≡ size_of es
    counted [] = refl
    counted (e ∷ es) = ap (λ (k : ℕ). e.extent * k) (counted es)

module _ (p : Program) (m : Live) (flat : All (λ s. is_flat s ≡ true) (types_of p)) where
  -- the value in a block
  pub block_words : (a : Area) → words (value_in p m a) ≡ size_of (a.elements).dims.items * words_for (shape_for p a.of)
  block_words a =
      let ds = (a.elements).dims.items in
      flat_laid_words m (shape_for p a.of) (flat_shape (types_of p) flat a.of) (length ds) (spans_of ds) (a.elements).block 0 Empty ∙ laid_so ds (words_for (shape_for p a.of))

  module _ (x : Rooms) (sound : IsSound (types_of p) m x) (block : ℕ) (of : Base) where
    -- an object that stands in a room, and objects
    object_words : (z : ℤ) (q : Path) → StandsAt (types_of p) x block (shape_for p of) z q → words (get (store_of (types_of p) m x) q) ≡ words_for (shape_for p of)
    object_words z q stands =
        ap words (object-is (types_of p) m x sound block (shape_for p of) z q stands)
        ∙ flat_words m (shape_for p of) (flat_shape (types_of p) flat of) block (unsigned_abs z) (stands.part).held

    objects_words : (zs : List ℤ) (qs : List Path) → AllZip (StandsAt (types_of p) x block (shape_for p of)) zs qs
        → row (joined (map (get (store_of (types_of p) m x)) qs)) ≡ length qs * words_for (shape_for p of)
    objects_words [] [] stand = omega arith
    objects_words [] (q ∷ qs) stand = absurd stand
    objects_words (z ∷ zs) [] stand = absurd stand
    objects_words (z ∷ zs) (q ∷ qs) stand =
        let one = object_words z q stand.0 in
        let more = objects_words zs qs stand.1 in
        omega (arith, one, more)

  -- what is held where an object stands, or where elements do
  pub area_words : (x : Rooms) → IsSound (types_of p) m x → (a : Area) (q : Path) (reach : Reach) → AreThere p x a q reach
      → words (held_at (store_of (types_of p) m x) q reach) ≡ size_of (a.elements).dims.items * words_for (shape_for p a.of)
  area_words x sound a q One there =
      let one : size_of (a.elements).dims.items ≡ 1 = ap size_of there.0 in
      let e = object_words x sound (a.elements).block a.of (pos (a.elements).offset) q there.1 in
      let n = words_for (shape_for p a.of) in
      e ∙ (let f : n ≡ 1 * n = omega arith in f) ∙ ap (λ k. k * n) (sym one)
  area_words x sound a q (Many ss ps) there =
      let many = places-many (pos (a.elements).offset) (a.elements).dims.items in
      let same = zip-length (StandsAt (types_of p) x (a.elements).block (shape_for p a.of)) (places a.elements) ps there.2 in
      objects_words x sound (a.elements).block a.of (places a.elements) ps there.2 ∙ ap (λ k. k * words_for (shape_for p a.of)) (sym same ∙ many)
