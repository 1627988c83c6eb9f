-- Copies of objects in blocks of their own.
use Rattle.std.proofs.Common.{◌≡◌, ◌≢◌, ◌∙◌, sym, ap, subst, refl, inl, inr, ℕ, zero, suc, ◌+◌, ◌-◌, ◌*◌, ◌^◌, ◌<◌, ◌≤◌, true, false, List, [], ◌∷◌, length, min, replicate, arith}
use Rattle.std.specs.Prelude.{◌⊎◌, None, ℤ, pos, unsigned_abs}
use Rattle.std.specs.List.{AllZip}
use Rattle.std.specs.FinMap.{get as find}
use Rattle.std.proofs.lemmas.List.{length-replicate}
use Rattle.f3_program.specs.declared.declarations.Base.{Base}
use Rattle.f3_program.specs.declared.program.Program.{Program}
use Rattle.f3_live_blocks.specs.Blocks.{Live, IsLive, words_of, with_taken, with_words}
use Rattle.f3_live_blocks.proofs.Laws.{get-insert_other, live-insert_same, words-insert_same, fresh-apart}
use Rattle.f3_meaning_whole.specs.Value.{Span, Value, count, shown}
use Rattle.f3_meaning_whole.specs.Shape.{Shape, Whole, Logical, Record, shape_in, shapes_of}
use Rattle.f3_meaning_whole.specs.Store.{Store, Path, get}
use Rattle.f3_meaning_whole.specs.Reference.{Reach, One, Many, Reference, paths_by, held_at}
use Rattle.f3_meaning_whole.specs.Act.{needs_storage}
use Rattle.f3_code.specs.Account.{words}
use Rattle.f3_desc.specs.declared.descriptor.Dim.{Dim}
use Rattle.f3_desc.specs.Descriptor.{places, progression}
use Rattle.f3_desc.specs.Laws.{IsContiguous, size_of}
use Rattle.f3_objects.proofs.Writes.{words-with, live-with, with_words_same}
use Rattle.f3_rooms.specs.Held.{Held, Empty, times}
use Rattle.f3_rooms.specs.Forms.{words_for}
use Rattle.f3_rooms.specs.Values.{laid, object}
use Rattle.f3_rooms.specs.Rooms.{Rooms, blocks_of, store_of}
use Rattle.f3_rooms.specs.Places.{is_scalar_shape}
use Rattle.f3_rooms.specs.Sound.{IsSound}
use Rattle.f3_rooms.specs.Laws.{Keeps}
use Rattle.f3_rooms.proofs.Keeping.{kept_blocks_keep}
use Rattle.f3_rooms.proofs.Living.{all_live}
use Rattle.f3_room_places.specs.declared.types.Types.{Types}
use Rattle.f3_room_places.specs.Places.{shapes}
use Rattle.f3_room_arrays.specs.Words.{copied, IsInside, AreInside}
use Rattle.f3_room_arrays.specs.Elements.{StandsAt, Tells, row}
use Rattle.f3_room_arrays.specs.Changes.{LieWithin, Reads}
use Rattle.f3_room_arrays.proofs.Numbers.{places-many, progression-length}
use Rattle.f3_room_arrays.proofs.Placing.{copied-long, all-none, all-more}
use Rattle.f3_room_arrays.proofs.Running.{copied-zero, copied-few, line-inside}
use Rattle.f3_room_arrays.proofs.Objects.{object-is, object-inside, objects-read, reads-of}
use Rattle.f3_word_cells.specs.declared.cell.Area.{Area}
use Rattle.f3_word_cells.specs.declared.cell.Datum.TheVariants as datum
use Rattle.f3_word_cells.specs.declared.cell.Object.TheVariants as o
use Rattle.f3_word_cells.specs.Areas.{types_of, shape_for, spans_of, value_in, AreThere, IsBlock}
use Rattle.f3_word_cells.specs.Wants.{asked}
use Rattle.f3_word_cells.proofs.Wording.{area_words}
use Rattle.f3_word_reads.specs.Packed.{packed_from}
use Rattle.f3_word_reads.specs.Reads.{IsLarge, IsThere, IsNew, IsRead}
use Rattle.f3_word_reads.proofs.Strides.{packed-contiguous, packed-spans, packed-size}
use Rattle.f3_word_reads.proofs.Flatness.{flat_for}
use Rattle.f3_word_reads.proofs.Areas.{tells-all, many-all, count-size, among, all-within}

-- ---- which values need storage

composite : (m : Live) (s : Shape) (b at : ℕ) (h : Held) → is_scalar_shape s ≡ false → needs_storage (object m s b at h) ≡ true
composite m Whole b at h e = absurd cc
composite m Logical b at h e = absurd cc
composite m (Record t parts) b at h e = refl

pub types-same : (p : Program) (types : Types) → types.derived.now ≡ p.types.items → shapes types ≡ types_of p
types-same p types e = ap shapes_of e

module _ (p : Program) (m : Live) (x : Rooms) (sound : IsSound (types_of p) m x) (a : Area) where
  needs-by : (q : Path) (reach : Reach) → AreThere p x a q reach → ((a.elements).dims.items ≢ []) ⊎ (is_scalar_shape (shape_for p a.of) ≡ false) → needs_storage (held_at (store_of (types_of p) m x) q reach) ≡ true
  needs-by q One there (inl some) = absurd (some there.0)
  needs-by q One there (inr e) =
      ap needs_storage (object-is (types_of p) m x sound (a.elements).block (shape_for p a.of) (pos (a.elements).offset) q there.1)
      ∙ composite m (shape_for p a.of) (a.elements).block (unsigned_abs (pos (a.elements).offset)) _ e
  needs-by q (Many ss ps) there large = refl

pub large-as : (p : Program) (types : Types) (a : Area) → types.derived.now ≡ p.types.items → IsLarge types a → ((a.elements).dims.items ≢ []) ⊎ (is_scalar_shape (shape_for p a.of) ≡ false)
large-as p types a e (inl some) = inl some
large-as p types a e (inr f) = inr (sym (ap (λ ts. is_scalar_shape (shape_in ts a.of)) (types-same p types e)) ∙ f)

pub needs-storage : (p : Program) (types : Types) (m : Live) (x : Rooms) (a : Area) (r : Reference) → IsThere p types m x (o.Stands a) r → IsLarge types a
    → needs_storage (held_at (store_of (types_of p) m x) r.path r.reach) ≡ true
needs-storage p types m x a r there large = needs-by p m x there.sound a r.path r.reach there.is.1 (large-as p types a there.derived large)

-- ---- numbers

abbrev IsApart : ℤ → List Dim → Type 0
IsApart w es = (size_of es ≡ 0) ⊎ IsContiguous w es

product-zero : (a b : ℕ) → a * b ≡ 0 → (a ≡ 0) ⊎ (b ≡ 0)
product-zero zero b e = inl refl
product-zero (suc a) zero e = inr refl
product-zero (suc a) (suc b) e = absurd (omega arith)

product-some : (a b : ℕ) → 0 < a * b → 0 < a
product-some zero b lt = absurd (omega arith)
product-some (suc a) b lt = omega arith

-- so many words were taken
pub taken-short : (m n : Live) (b k : ℕ) → n ≡ with_taken m b k → length (words_of n b) < 2 ^ 63 → k < 2 ^ 63
taken-short m n b k is short = subst (λ j. j < 2 ^ 63) (ap (λ (l : Live). length (words_of l b)) is ∙ ap length (words-insert_same m b _) ∙ length-replicate k (pos 0)) short

pub total-is : (words size n : ℕ) (es ds : List Dim) → words ≡ min (size_of es * size) (2 ^ 64 - 1) → es ≡ ds → size ≡ n → words < 2 ^ 63 → words ≡ size_of ds * n
total-is words size n es ds e f g short =
    let h : size_of es * size ≡ size_of ds * n = ap (λ (us : List Dim). size_of us * size) f ∙ ap (λ k. size_of ds * k) g in omega (arith, e, h, short)

packed-none : (w : ℕ) (ds : List Dim) → packed_from w ds ≡ [] → ds ≡ []
packed-none w [] e = refl
packed-none w (d ∷ ds) e = absurd cc

-- ---- what was copied

insides : (ts : List Shape) (m : Live) (x : Rooms) → IsSound ts m x → (b : ℕ) (s : Shape) (zs : List ℤ) (ps : List Path) → AllZip (StandsAt ts x b s) zs ps
    → AreInside (length (words_of m b)) (words_for s) zs
insides ts m x sound b s [] ps stand = all-none (IsInside (length (words_of m b)) (words_for s))
insides ts m x sound b s (z ∷ zs) [] stand = absurd stand
insides ts m x sound b s (z ∷ zs) (p ∷ ps) stand = all-more (IsInside (length (words_of m b)) (words_for s)) z zs (object-inside ts m x sound b s z p stand.0) (insides ts m x sound b s zs ps stand.1)

module _ (p : Program) (types : Types) (old : Live) (x : Rooms) (a : Area) (r : Reference) (there : IsThere p types old x (o.Stands a) r) where
  abbrev ts : List Shape
  ts = types_of p

  abbrev s : Shape
  s = shape_for p a.of

  abbrev n : ℕ
  n = words_for s

  abbrev ps : List Path
  ps = paths_by r.path r.reach

  abbrev ds : List Dim
  ds = (a.elements).dims.items

  pub words-same : words_for (shape_in (shapes types) a.of) ≡ n
  words-same = ap (λ us. words_for (shape_in us a.of)) (types-same p types there.derived)

  tells : Tells ts x a.elements s ps
  tells = tells-all p x a r.path r.reach there.is.1

  -- what a heap is asked for
  pub asked-is : (total size : ℕ) (es : List Dim) → total ≡ min (size_of es * size) (2 ^ 64 - 1) → es ≡ ds → size ≡ n
      → total ≡ asked (words (held_at (store_of ts old x) r.path r.reach))
  asked-is total size es e f g =
      e ∙ ap (λ (us : List Dim). min (size_of us * size) (2 ^ 64 - 1)) f ∙ ap (λ k. min (size_of ds * k) (2 ^ 64 - 1)) g
      ∙ ap asked (sym (area_words p old there.flat x there.sound a r.path r.reach there.is.1))

  many : length (places a.elements) ≡ size_of ds
  many = places-many (pos (a.elements).offset) ds

  module _ (block : ℕ) (fresh : find old block ≡ None) (total : ℕ) (short : total < 2 ^ 63) (is-total : total ≡ size_of ds * n) (mid : Live) (mid-is : mid ≡ with_taken old block total) where
    not-among : (q : ℕ) → 0 < times q (blocks_of x) → q ≢ block
    not-among q lt = fresh-apart old block q fresh (all_live ts old x there.sound q lt)

    kept : Keeps old mid x
    kept q lt = ap (λ (m : Live). find m q) mid-is ∙ get-insert_other old block _ q (not-among q lt)

    mid-store : store_of ts mid x ≡ store_of ts old x
    mid-store = (kept_blocks_keep ts old mid x there.sound kept).0

    mid-sound : IsSound ts mid x
    mid-sound = (kept_blocks_keep ts old mid x there.sound kept).1

    mid-words : words_of mid block ≡ replicate total (pos 0)
    mid-words = ap (λ (m : Live). words_of m block) mid-is ∙ words-insert_same old block _

    mid-long : length (words_of mid block) ≡ total
    mid-long = ap length mid-words ∙ length-replicate total (pos 0)

    pub mid-live : IsLive mid block
    mid-live = subst (λ (m : Live). IsLive m block) (sym mid-is) (live-insert_same old block _)

    pub gather-within : 0 < total → LieWithin mid a.elements n
    gather-within some = all-within p mid x a ps mid-sound tells (product-some (size_of ds) n (subst (λ k. 0 < k) is-total some))

    pub gather-apart : 0 < total → block ≢ (a.elements).block
    gather-apart some e =
        let size : 0 < size_of ds = product-some (size_of ds) n (subst (λ k. 0 < k) is-total some) in
        let m = many in
        not-among (a.elements).block (among ts x (a.elements).block s (places a.elements) ps tells (omega arith)) (sym e)

    pub gather-room : 0 + length (places a.elements) * n ≤ length (words_of mid block)
    gather-room = let e = ap (λ k. k * n) many in let l = mid-long in omega arith

    -- its words are one behind another
    module _ (now : Live) (ws : List ℤ) (now-is : now ≡ with_words mid block ws)
        (ws-is : ws ≡ copied n (words_of mid block) (words_of mid (a.elements).block) (progression (pos 0) (pos n) (length (places a.elements))) (places a.elements)) where
      inside : AreInside (length (words_of mid (a.elements).block)) n (places a.elements)
      inside = insides ts mid x mid-sound (a.elements).block s (places a.elements) ps tells

      now-words : words_of now block ≡ ws
      now-words = ap (λ (m : Live). words_of m block) now-is ∙ words-with mid block ws

      now-long : length (words_of now block) ≡ total
      now-long = ap length (now-words ∙ ws-is) ∙ copied-long n (words_of mid block) (words_of mid (a.elements).block) (progression (pos 0) (pos n) (length (places a.elements))) (places a.elements)
          (line-inside (length (words_of mid block)) n 0 (length (places a.elements)) gather-room) inside ∙ mid-long

      reads : Reads ts mid now x s ps block 0
      reads = reads-of ts mid now x s ps block 0 ws mid-sound now-is
          (objects-read ts mid x mid-sound (a.elements).block s (flat_for ts there.flat a.of) now block (words_of mid block) 0 (places a.elements) ps tells gather-room inside (now-words ∙ ws-is))

      abbrev value-with : List Dim → Value
      value-with es = laid (length es) (spans_of es) n (object now s) block 0 Empty

      one-value : (q : Path) (es : List Dim) → es ≡ [] → row now s 1 block 0 ≡ get (store_of ts mid x) q ∷ [] → value-with (packed_from n es) ≡ get (store_of ts mid x) q
      one-value q es e is = ap (λ fs. value-with (packed_from n fs)) e ∙ head is
        where
          head : object now s block 0 Empty ∷ [] ≡ get (store_of ts mid x) q ∷ [] → object now s block 0 Empty ≡ get (store_of ts mid x) q
          head f = cc

      many-value : (q : Path) (qs : List Path) (es : List Dim) → es ≢ [] → size_of es ≡ length qs
          → ((rank : ℕ) (ss : List Span) → count ss ≡ length qs → laid (suc rank) (shown ss) n (object now s) block 0 Empty ≡ held_at (store_of ts mid x) q (Many ss qs))
          → value-with (packed_from n es) ≡ held_at (store_of ts mid x) q (Many (spans_of es) qs)
      many-value q qs [] some size held = absurd (some refl)
      many-value q qs (d ∷ es) some size held =
          ap (λ ss. laid (length (packed_from n (d ∷ es))) ss n (object now s) block 0 Empty) (packed-spans n (d ∷ es))
          ∙ held (length (packed_from (n * d.extent) es)) (spans_of (d ∷ es)) (count-size (d ∷ es) ∙ size)

      value-by : (q : Path) (reach : Reach) → AreThere p x a q reach → Reads ts mid now x s (paths_by q reach) block 0 → value-with (packed_from n ds) ≡ held_at (store_of ts mid x) q reach
      value-by q One at rs = one-value q ds at.0 rs.values
      value-by q (Many ss qs) at rs =
          many-value q qs ds at.0 (many-all p x a qs at.2) (λ rank us e. rs.held rank q us e)
          ∙ ap (λ us. held_at (store_of ts mid x) q (Many us qs)) (sym at.1)

      module _ (large : ((a.elements).dims.items ≢ []) ⊎ (is_scalar_shape s ≡ false)) (b : Area) (dims-is : (b.elements).dims.items ≡ packed_from n ds) (block-is : (b.elements).block ≡ block)
          (offset-is : (b.elements).offset ≡ 0) (of-is : b.of ≡ a.of) where
        value-is : value_in p now b ≡ held_at (store_of ts old x) r.path r.reach
        value-is =
            ap (λ (es : List Dim). laid (length es) (spans_of es) (words_for (shape_for p b.of)) (object now (shape_for p b.of)) (b.elements).block 0 Empty) dims-is
            ∙ ap (λ (of : Base). laid (length (packed_from n ds)) (spans_of (packed_from n ds)) (words_for (shape_for p of)) (object now (shape_for p of)) (b.elements).block 0 Empty) of-is
            ∙ ap (λ (q : ℕ). laid (length (packed_from n ds)) (spans_of (packed_from n ds)) n (object now s) q 0 Empty) block-is
            ∙ value-by r.path r.reach there.is.1 reads ∙ ap (λ (st : Store). held_at st r.path r.reach) mid-store

        large-is : ((a.elements).dims.items ≢ []) ⊎ (is_scalar_shape s ≡ false) → ((b.elements).dims.items ≢ []) ⊎ (is_scalar_shape (shape_for p b.of) ≡ false)
        large-is (inl some) = inl (λ e. some (packed-none n ds (sym dims-is ∙ e)))
        large-is (inr e) = inr (ap (λ of. is_scalar_shape (shape_for p of)) of-is ∙ e)

        now-live : IsLive now block
        now-live = subst (λ (m : Live). IsLive m block) (sym now-is) (live-with mid block ws)

        words-many : size_of (b.elements).dims.items * words_for (shape_for p b.of) ≡ total
        words-many =
            ap (λ (es : List Dim). size_of es * words_for (shape_for p b.of)) dims-is ∙ ap (λ k. k * words_for (shape_for p b.of)) (packed-size n ds)
            ∙ ap (λ of. size_of ds * words_for (shape_for p of)) of-is ∙ sym is-total

        is-block : IsBlock p now b
        is-block = record {
          offset = offset-is;
          large = large-is large;
          contiguous = subst (λ (of : Base). IsApart (pos (words_for (shape_for p of))) (b.elements).dims.items) (sym of-is)
              (subst (IsApart (pos n)) (sym dims-is) (packed-contiguous n ds (subst (λ k. k < 2 ^ 63) is-total short)));
          live = subst (IsLive now) (sym block-is) now-live;
          words = ap (λ (q : ℕ). length (words_of now q)) block-is ∙ now-long ∙ sym words-many;
        }

        pub was-read : IsRead p old now x r (datum.Block b)
        was-read = record {
          value = (is-block, sym value-is);
          gains = subst (IsNew old now) (sym block-is) (record { fresh = fresh; room = total; written = ws; is = now-is ∙ ap (λ (m : Live). with_words m block ws) mid-is });
          typed = of-is ∙ sym there.is.0;
        }

    -- where it has no words nothing is copied
    pub none-copied : total ≡ 0 → words_of mid block ≡ copied n (words_of mid block) (words_of mid (a.elements).block) (progression (pos 0) (pos n) (length (places a.elements))) (places a.elements)
    none-copied e = by (product-zero (size_of ds) n (sym is-total ∙ e))
      where
        by : (size_of ds ≡ 0) ⊎ (n ≡ 0) → words_of mid block ≡ copied n (words_of mid block) (words_of mid (a.elements).block) (progression (pos 0) (pos n) (length (places a.elements))) (places a.elements)
        by (inl f) = sym (copied-few n _ _ (progression (pos 0) (pos n) (length (places a.elements))) (places a.elements) (progression-length (pos 0) (pos n) (length (places a.elements)) ∙ many ∙ f))
        by (inr f) = sym (copied-zero n _ _ (progression (pos 0) (pos n) (length (places a.elements))) (places a.elements) f)

    pub none-written : mid ≡ with_words mid block (words_of mid block)
    none-written = sym (with_words_same mid block mid-live)
