-- Values with lower bounds of 1.
use Rattle.std.proofs.Common.{◌≡◌, ◌≢◌, inl, inr, false, ℕ, ◌*◌, pos, List, [], ◌∷◌, length, refl, sym, ap, ◌∙◌}
use Rattle.std.specs.Prelude.{◌⊎◌, ℤ, ◌*ℤ◌}
use Rattle.f3_program.specs.declared.program.Program.{Program}
use Rattle.f3_live_blocks.specs.Blocks.{Live}
use Rattle.f3_meaning_whole.specs.Value as v
use Rattle.f3_meaning_whole.specs.Value.{Value, plain, count}
use Rattle.f3_meaning_whole.specs.Shape.{Shape, Whole, Logical, Record}
use Rattle.f3_meaning_whole.specs.Arithmetic.{constant_value}
use Rattle.f3_program.specs.declared.declarations.Constant.{Constant}
use Rattle.f3_program.specs.declared.declarations.Constant.TheVariants as constant
use Rattle.f3_desc.specs.declared.descriptor.Dim.{Dim}
use Rattle.f3_desc.specs.Laws.{IsContiguous, size_of}
use Rattle.f3_rooms.specs.Held.{Held, Empty}
use Rattle.f3_rooms.specs.Forms.{words_for}
use Rattle.f3_rooms.specs.Values.{laid, object}
use Rattle.f3_rooms.specs.Places.{is_scalar_shape}
use Rattle.f3_word_cells.specs.declared.cell.Area.{Area}
use Rattle.f3_word_cells.specs.declared.cell.Datum.TheVariants as datum
use Rattle.f3_word_cells.specs.Areas.{IsBlock, IsDatum, shape_for, spans_of, value_in}
use Rattle.f3_word_areas.specs.Dims.{dims_from_one}

plain_scalar : (c : Constant) → plain (constant_value c) ≡ constant_value c
plain_scalar (constant.Number z) = refl
plain_scalar (constant.Truth b) = refl

plain_object : (m : Live) (s : Shape) (b o : ℕ) (h : Held) → plain (object m s b o h) ≡ object m s b o h
plain_object m Whole b o h = refl
plain_object m Logical b o h = refl
plain_object m (Record t parts) b o h = refl

same_spans : (ds : List Dim) → spans_of (dims_from_one ds) ≡ v.from_one (spans_of ds)
same_spans [] = refl
same_spans (d ∷ ds) = ap (λ ss. record { lower = pos 1; extent = d.extent } ∷ ss) (same_spans ds)

same_count : (ds : List Dim) → count (spans_of (dims_from_one ds)) ≡ count (spans_of ds)
same_count [] = refl
same_count (d ∷ ds) = ap (λ n. d.extent * n) (same_count ds)

same_size : (ds : List Dim) → size_of (dims_from_one ds) ≡ size_of ds
same_size [] = refl
same_size (d ∷ ds) = ap (λ n. d.extent * n) (same_size ds)

same_strides : (w : ℤ) (ds : List Dim) → IsContiguous w ds → IsContiguous w (dims_from_one ds)
same_strides w [] h = h
same_strides w (d ∷ ds) h = (h.0, same_strides (pos d.extent *ℤ w) ds h.1)

still_apart : (w : ℤ) (ds : List Dim) → (size_of ds ≡ 0) ⊎ IsContiguous w ds → (size_of (dims_from_one ds) ≡ 0) ⊎ IsContiguous w (dims_from_one ds)
still_apart w ds (inl none) = inl (same_size ds ∙ none)
still_apart w ds (inr apart) = inr (same_strides w ds apart)

plain_laid : (m : Live) (s : Shape) (ds : List Dim) (n b o : ℕ) (h : Held)
    → laid (length (dims_from_one ds)) (spans_of (dims_from_one ds)) n (object m s) b o h ≡ plain (laid (length ds) (spans_of ds) n (object m s) b o h)
plain_laid m s [] n b o h = sym (plain_object m s b o h)
plain_laid m s (d ∷ ds) n b o h =
    let f = object m s in
    let e = same_count (d ∷ ds) in
    let g = same_spans (d ∷ ds) in
    rw (e, g) refl

plain_block : (p : Program) (m : Live) (a : Area) (ds : List Dim) (b : Area) → b.of ≡ a.of → b.elements.block ≡ a.elements.block → b.elements.offset ≡ a.elements.offset
    → b.elements.dims.items ≡ dims_from_one ds → a.elements.dims.items ≡ ds → IsBlock p m a → IsBlock p m b × (value_in p m b ≡ plain (value_in p m a))
plain_block p m a ds b of block offset new old h =
    let large : (dims_from_one a.elements.dims.items ≢ []) ⊎ (is_scalar_shape (shape_for p a.of) ≡ false) = larger a.elements.dims.items h.large in
    let new' : b.elements.dims.items ≡ dims_from_one a.elements.dims.items = new ∙ ap dims_from_one (sym old) in (
      record {
        offset = offset ∙ h.offset;
        large = rw (new', of) large;
        contiguous = rw (new', of) (still_apart (pos (words_for (shape_for p a.of))) a.elements.dims.items h.contiguous);
        live = rw block h.live;
        words = rw (new', of, block) (h.words ∙ ap (λ k. k * words_for (shape_for p a.of)) (sym (same_size a.elements.dims.items)));
      },
      rw (new', of, block) (plain_laid m (shape_for p a.of) a.elements.dims.items (words_for (shape_for p a.of)) a.elements.block 0 Empty),
    )
  where
    larger : {B : Type 0} (ds : List Dim) → (ds ≢ []) ⊎ B → (dims_from_one ds ≢ []) ⊎ B
    larger [] (inl some) = inl some
    larger [] (inr other) = inr other
    larger (d ∷ ds) h = inl (λ e. cc)

pub plain_is : (p : Program) (m : Live) (v : Value) (a b : Area) → b.of ≡ a.of → b.elements.block ≡ a.elements.block → b.elements.offset ≡ a.elements.offset
    → b.elements.dims.items ≡ dims_from_one a.elements.dims.items → IsDatum p m (datum.Block a) v → IsDatum p m (datum.Block b) (plain v)
plain_is p m v a b of block offset dims is =
    let h = plain_block p m a a.elements.dims.items b of block offset dims refl is.0 in (h.0, ap plain is.1 ∙ sym h.1)

pub scalar_is : (p : Program) (m : Live) (v : Value) (c : Constant) → IsDatum p m (datum.Scalar c) v → IsDatum p m (datum.Scalar c) (plain v)
scalar_is p m v c is = ap plain is ∙ plain_scalar c
