-- Values that are printed.
use Rattle.std.proofs.Common.{◌≡◌, ◌≢◌, ◌∙◌, inl, inr, ℕ, zero, suc, ◌+◌, ◌*◌, ◌<◌, ◌≤◌, pos, true, false, List, [], ◌∷◌, ◌++◌, length, map, take, drop, get_or, refl, sym, ap, arith}
use Rattle.std.specs.Prelude.{⊤, ◌⊎◌, ◌||◌, flat_map, slice_index_or}
use Rattle.std.proofs.Math.Seq.{drop-cons}
use Rattle.std.proofs.lemmas.Bool.{cases_lt}
use Rattle.std.proofs.lemmas.List.{take_all}
use Rattle.f3_program.specs.declared.declarations.Base.{Base}
use Rattle.f3_program.specs.declared.declarations.Base.TheVariants as base
use Rattle.f3_program.specs.declared.declarations.Constant.{Constant}
use Rattle.f3_program.specs.declared.declarations.Constant.TheVariants as constant
use Rattle.f3_program.specs.declared.declarations.Derived.{Derived}
use Rattle.f3_program.specs.declared.declarations.Kind.{Kind}
use Rattle.f3_program.specs.declared.program.Program.{Program}
use Rattle.f3_live_blocks.specs.Blocks.{Live, words_of}
use Rattle.f3_meaning_whole.specs.Value.{Value, count}
use Rattle.f3_meaning_whole.specs.Store.{Store}
use Rattle.f3_meaning_whole.specs.Ran.{Printed, Ran, World, replayed, prints_bytes, does}
use Rattle.f3_meaning_whole.specs.Run.{output}
use Rattle.f3_meaning_whole.specs.Shape.{Shape, Whole, Logical, Record}
use Rattle.f3_meaning_whole.specs.Arithmetic.{constant_value}
use Rattle.f3_meaning_whole.specs.Exec.{text_of, print_value}
use Rattle.f3_meaning_whole.specs.Formed.{is_number}
use Rattle.f3_meaning_whole.specs.Permitted.{same_type}
use Rattle.f3_code.specs.State.{Next, Goes}
use Rattle.f3_code.specs.State as s
use Rattle.f3_code.specs.Machine.{performs}
use Rattle.f3_desc.specs.declared.descriptor.Dim.{Dim}
use Rattle.f3_desc.specs.Laws.{size_of}
use Rattle.f3_rooms.specs.Held.{Held, Row, Empty, end, first, others}
use Rattle.f3_rooms.specs.Forms.{words_for}
use Rattle.f3_rooms.specs.Values.{elements, laid, object, word}
use Rattle.f3_rooms.specs.Places.{is_scalar_shape}
use Rattle.f3_room_places.proofs.Trees.{past_types, tree_is}
use Rattle.f3_shaping.specs.Results.{value_text}
use Rattle.f3_shaping.proofs.Prints.{prints_text}
use Rattle.f3_shaping.proofs.Spreads.{listed_joined}
use Rattle.f3_word_cells.specs.declared.cell.Datum.{Datum}
use Rattle.f3_word_cells.specs.declared.cell.Datum.TheVariants as datum
use Rattle.f3_word_cells.specs.Areas.{IsDatum, shape_for, spans_of}
use Rattle.f3_word_cells.specs.States.{IsLaid}
use Rattle.f3_word_control.specs.Texts.{datum_text, scalar_in, text_in}

-- ---- types of scalars

scalar_kind : (p : Program) (of : Base) → (is_number of || same_type of base.Logical) ≡ true → is_scalar_shape (shape_for p of) ≡ true
scalar_kind p base.Integer e = refl
scalar_kind p base.Long e = refl
scalar_kind p base.Logical e = refl
scalar_kind p (base.Derived t) e = absurd (cc)

no_record : (s : Shape) (t : ℕ) (parts : _) → s ≡ Record t parts → is_scalar_shape s ≡ true → ⊥
no_record s t parts e f = cc

some_type : (ts : List Derived) (t : ℕ) → t < length ts → Derived
some_type [] t few = absurd (omega (arith, few))
some_type (y ∷ ts) t few = y

-- a word of a type without components is this scalar
scalar_object : (p : Program) (of : Base) → is_scalar_shape (shape_for p of) ≡ true → (m : Live) (b o : ℕ) (h : Held)
    → object m (shape_for p of) b o h ≡ scalar_in of (word m b o)
scalar_object p base.Integer e m b o h = refl
scalar_object p base.Long e m b o h = refl
scalar_object p base.Logical e m b o h = refl
scalar_object p (base.Derived t) e m b o h = elim (cases_lt t (length p.types.items)) [
  | inl few ↦ let y = some_type p.types.items t few in
      absurd (no_record _ _ _ (tree_is p.types.items t (get_or p.types.items t y) y few refl) e)
  | inr past ↦ ap (λ s. object m s b o h) (past_types p.types.items t past)
]

one_word : (s : Shape) → is_scalar_shape s ≡ true → words_for s ≡ 1
one_word Whole e = refl
one_word Logical e = refl
one_word (Record t parts) e = absurd (cc)

-- ---- elements

module _ (m : Live) (s : Shape) (of : Base) (b : ℕ) (are : (o : ℕ) (h : Held) → object m s b o h ≡ scalar_in of (word m b o)) where
  elements_text : (k o : ℕ) (hs : Row) → o + k ≤ length (words_of m b)
      → flat_map text_of (elements k 1 (object m s) b o hs) ≡ flat_map (text_in of) (take k (drop o (words_of m b)))
  elements_text zero o hs h = refl
  elements_text (suc k) o hs h =
      let ws = words_of m b in
      let next : suc o ≡ o + 1 = omega arith in
      let top : drop o ws ≡ slice_index_or ws o (pos 0) ∷ drop (o + 1) ws =
      drop-cons ws o (pos 0) (omega (arith, h)) ∙ ap (λ n. slice_index_or ws o (pos 0) ∷ drop n ws) next in
      ap (λ v. text_of v ++ flat_map text_of (elements k 1 (object m s) b (o + 1) (others hs))) (are o (first hs))
      ∙ ap (λ bytes. text_in of (word m b o) ++ bytes) (elements_text k (o + 1) (others hs) (omega (arith, h)))
      ∙ ap (λ zs. flat_map (text_in of) (take (suc k) zs)) (sym top)

  laid_text : (ds : List Dim) → ds ≢ [] → length (words_of m b) ≡ size_of ds
      → flat_map (text_in of) (words_of m b) ≡ value_text (laid (length ds) (spans_of ds) 1 (object m s) b 0 Empty)
  laid_text [] some e = absurd (some refl)
  laid_text (d ∷ ds) some e =
      let k = count (spans_of (d ∷ ds)) in
      let many : length (words_of m b) ≡ k = e ∙ counted (d ∷ ds) in
      ap (flat_map (text_in of)) (sym (take_all k (words_of m b) (omega (arith, many))))
      ∙ sym (elements_text k 0 end (omega (arith, many)))
      ∙ ap (flat_map text_of) (sym (listed_joined (elements k 1 (object m s) b 0 end)))
    where
      counted : (ds : List Dim) → size_of ds ≡ count (spans_of ds)
      counted [] = refl
      counted (d ∷ ds) = ap (λ n. d.extent * n) (counted ds)

scalar_text : (c : Constant) → text_of (constant_value c) ≡ value_text (constant_value c)
scalar_text (constant.Number z) = refl
scalar_text (constant.Truth b) = refl

not_one : (ds : List Dim) (s : Shape) → (ds ≢ []) ⊎ (is_scalar_shape s ≡ false) → is_scalar_shape s ≡ true → ds ≢ []
not_one ds s (inl some) e = some
not_one ds s (inr other) e = absurd (cc)

-- what is written of a value is its text
pub shown : (p : Program) (m : Live) (k : Kind) (d : Datum) (v : Value) → (is_number k.of || same_type k.of base.Logical) ≡ true → IsLaid p k d → IsDatum p m d v
    → datum_text m d ≡ value_text v
shown p m k (datum.Scalar c) v plain fit is = scalar_text c ∙ ap value_text (sym is)
shown p m k (datum.Block a) v plain fit is =
    let s = shape_for p a.of in
    let scalar : is_scalar_shape s ≡ true = ap is_scalar_shape fit ∙ scalar_kind p k.of plain in
    let one : words_for s ≡ 1 = one_word s scalar in
    let long : length (words_of m a.elements.block) ≡ size_of a.elements.dims.items = is.0.words ∙ ap (λ n. size_of a.elements.dims.items * n) one ∙ omega arith in
    laid_text m s a.of a.elements.block (scalar_object p a.of scalar m a.elements.block) a.elements.dims.items (not_one a.elements.dims.items s is.0.large scalar) long
    ∙ ap (λ n. value_text (laid (length a.elements.dims.items) (spans_of a.elements.dims.items) n (object m s) a.elements.block 0 Empty)) (sym one)
    ∙ ap value_text (sym is.1)

-- ---- bytes

pub printed : (bytes : List ℕ) → output (map Printed bytes) ≡ bytes
printed [] = refl
printed (b ∷ bytes) = ap (λ l. b ∷ l) (printed bytes)

stays : (bytes : List ℕ) (store : Store) → replayed (map Printed bytes) store ≡ store
stays [] store = refl
stays (b ∷ bytes) store = stays bytes store

prints_is : (bytes : List ℕ) (w : World) (next : ⊤ → World → s.State) → performs (prints_bytes bytes) w next
    ≡ Goes (map Printed bytes) (next tt (record { store = replayed (map Printed bytes) w.store; answers = w.answers }))
unfolding prints_bytes does
prints_is bytes w next = refl

pub prints_so : (v : Value) (w : World) (next : ⊤ → World → s.State) → performs (print_value v) w next ≡ Goes (map Printed (value_text v)) (next tt w)
prints_so v w next =
    ap (λ (r : Ran ⊤). performs r w next) (prints_text v) ∙ prints_is (value_text v) w next
    ∙ ap (λ store. Goes (map Printed (value_text v)) (next tt (record { store = store; answers = w.answers }))) (stays (value_text v) w.store)
