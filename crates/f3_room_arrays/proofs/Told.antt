-- What descriptors tell of.
use Rattle.std.proofs.Common.{◌≡◌, ◌∙◌, sym, ap, subst, refl, ℕ, zero, suc, ◌+◌, ◌*◌, ◌<◌, List, [], ◌∷◌, ◌++◌, length, arith}
use Rattle.std.specs.Prelude.{None, Some, ℤ, pos, ◌+ℤ◌, if◌then◌else◌}
use Rattle.std.specs.List.{AllZip}
use Rattle.std.proofs.lemmas.Bool.{lt-ltb}
use Rattle.std.proofs.lemmas.Int.{ints}
use Rattle.f3_live_blocks.specs.Blocks.{Live, words_of}
use Rattle.f3_meaning_whole.specs.Value.{Span, Value, joined, count}
use Rattle.f3_meaning_whole.specs.Shape.{Shape}
use Rattle.f3_meaning_whole.specs.Store.{Root, Step, Element, Path, get}
use Rattle.f3_meaning_whole.specs.Reference.{elements_from, paths_by, reach_of}
use Rattle.f3_desc.specs.Descriptor.{places, progression}
use Rattle.f3_desc.proofs.Orders.{contiguous}
use Rattle.f3_rooms.specs.Held.{Row, parts_of, part_at, others}
use Rattle.f3_rooms.specs.Forms.{Form, Laid, words_for}
use Rattle.f3_rooms.specs.Values.{elements, laid, formed, object}
use Rattle.f3_rooms.specs.Rooms.{Rooms, store_of}
use Rattle.f3_rooms.specs.Places.{Found, found, in_form, in_object}
use Rattle.f3_rooms.specs.Sound.{IsSound}
use Rattle.f3_rooms.specs.Laws.{path_at}
use Rattle.f3_rooms.proofs.Framing.{Reading}
use Rattle.f3_rooms.proofs.Reading.{parts_are_found}
use Rattle.f3_rooms.proofs.Onward.{parts_have_parts}
use Rattle.f3_room_arrays.specs.Words.{IsInside, AreInside}
use Rattle.f3_room_arrays.specs.Elements.{StandsAt}
use Rattle.f3_room_arrays.specs.Laws.{ObjectsLieWithin, ArraysAreTold}
use Rattle.f3_room_arrays.proofs.Placing.{all-more, all-none}
use Rattle.f3_room_arrays.proofs.Objects.{object-inside}

-- ---- the words of the objects

objects-inside : (ts : List Shape) (m : Live) (x : Rooms) → IsSound ts m x → (b : ℕ) (s : Shape) (zs : List ℤ) (ps : List Path) → AllZip (StandsAt ts x b s) zs ps
    → AreInside (length (words_of m b)) (words_for s) zs
objects-inside ts m x sound b s [] ps stand = all-none (IsInside (length (words_of m b)) (words_for s))
objects-inside ts m x sound b s (z ∷ zs) [] stand = absurd stand
objects-inside ts m x sound b s (z ∷ zs) (p ∷ ps) stand =
    all-more (IsInside (length (words_of m b)) (words_for s)) z zs (object-inside ts m x sound b s z p stand.0) (objects-inside ts m x sound b s zs ps stand.1)

pub objects_lie_within : ObjectsLieWithin
objects_lie_within ts m x a s ps sound tells live = record { live = live; inside = objects-inside ts m x sound a.block s (places a) ps tells }

-- ---- whole arrays

module _ (ts : List Shape) (x : Rooms) (r : Root) (way : List Step) (f : Found) (leads : found ts x r way ≡ Some f) (rank : ℕ) (ss : List Span) (form : f.form ≡ Laid (suc rank) ss) where
  -- an element
  abbrev element : ℕ → Found
  element k = record { block = f.block; at = f.at + k * words_for f.shape; shape = f.shape; of = f.of; form = Laid 0 []; held = part_at (parts_of f.held) k }

  element-leads : (k : ℕ) → k < count ss → found ts x r (way ++ Element k ∷ []) ≡ Some (element k)
  element-leads k lt =
      parts_have_parts ts x r way (Element k ∷ []) f leads
      ∙ ap (λ (g : Form). in_form g f.shape f.of (in_object f.shape f.of) f.block f.at f.held (Element k ∷ [])) form
      ∙ ap (λ t. if t then Some (element k) else None) (lt-ltb k (count ss) lt)

  elements-told : (i k : ℕ) (z : ℤ) (h : Reading) (b o : ℕ) (hs : Row) → i + k ≡ count ss → z ≡ pos (f.at + i * words_for f.shape)
      → AllZip (StandsAt ts x f.block f.shape) (progression z (pos (words_for f.shape)) k) (elements_from i (path_at r way) (joined (elements k (words_for f.shape) h b o hs)))
  elements-told i zero z h b o hs e at = tt
  elements-told i (suc k) z h b o hs e at =
      let next : z +ℤ pos (words_for f.shape) ≡ pos (f.at + suc i * words_for f.shape) = ap (λ (y : ℤ). y +ℤ pos (words_for f.shape)) at ∙ onward f.at i (words_for f.shape) in (
        record { part = element i; leads = element-leads i (omega arith); there = refl; at = sym at; shape = refl; form = refl },
        elements-told (suc i) k (z +ℤ pos (words_for f.shape)) h b (o + words_for f.shape) (others hs) (omega arith) next,
      )
    where
      onward : (a i n : ℕ) → pos (a + i * n) +ℤ pos n ≡ pos (a + suc i * n)
      onward a i n = let e : a + i * n + n ≡ a + suc i * n = omega arith in omega (arith, ints)

pub arrays_are_told : ArraysAreTold
arrays_are_told ts m x r way f leads rank ss form a is =
    let p : Path = path_at r way in
    let value : get (store_of ts m x) p ≡ laid (suc rank) ss (words_for f.shape) (object m f.shape) f.block f.at f.held =
    parts_are_found ts m x r way f leads ∙ ap (λ (g : Form). formed g (words_for f.shape) (object m f.shape) f.block f.at f.held) form in
    let offset : pos a.offset ≡ pos (f.at + 0 * words_for f.shape) = ap pos (is.offset ∙ plain f.at (words_for f.shape)) in
    let all = elements-told ts x r way f leads rank ss form 0 (count ss) (pos a.offset) (object m f.shape) f.block f.at (parts_of f.held) (omega arith) offset in
    let spots : places a ≡ progression (pos a.offset) (pos (words_for f.shape)) (count ss) = contiguous a (pos (words_for f.shape)) is.dims ∙ ap (progression (pos a.offset) (pos (words_for f.shape))) is.size in
    subst (λ (v : Value). AllZip (StandsAt ts x a.block f.shape) (places a) (paths_by p (reach_of p v))) (sym value)
    (subst (λ (b : ℕ). AllZip (StandsAt ts x b f.shape) (places a) (elements_from 0 p (joined (elements (count ss) (words_for f.shape) (object m f.shape) f.block f.at (parts_of f.held))))) (sym is.block)
    (subst (λ (zs : List ℤ). AllZip (StandsAt ts x f.block f.shape) zs (elements_from 0 p (joined (elements (count ss) (words_for f.shape) (object m f.shape) f.block f.at (parts_of f.held))))) (sym spots) all))
  where
    plain : (a n : ℕ) → a ≡ a + 0 * n
    plain a n = omega arith
