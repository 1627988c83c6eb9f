-- Objects that a descriptor tells of, as words.
use Rattle.std.proofs.Common.{◌≡◌, ◌∙◌, sym, ap, subst, refl, inl, inr, ℕ, zero, suc, ◌+◌, ◌*◌, ◌<◌, ◌≤◌, List, [], ◌∷◌, ◌++◌, length, take, drop, get_or, arith}
use Rattle.std.specs.Prelude.{◌⊎◌, ℤ, pos, ◌+ℤ◌, ◌≤ℤ◌, map, unsigned_abs}
use Rattle.std.specs.List.{AllZip}
use Rattle.std.specs.FinMap.{get as find}
use Rattle.std.proofs.lemmas.Bool.{cases_eq}
use Rattle.std.proofs.lemmas.Int.{ints}
use Rattle.std.proofs.lemmas.List.{length-take-le, get_or-take, get_or-drop, get_or_append_left, get_or-append-add}
use Rattle.f3_live_blocks.specs.Blocks.{Live, IsLive, words_of, with_words}
use Rattle.f3_live_blocks.proofs.Laws.{live-insert, words-insert_other, get-insert_other}
use Rattle.f3_meaning_whole.specs.Value.{Value, Span, Array, joined, count, shown, spread}
use Rattle.f3_meaning_whole.specs.Shape.{Shape, Whole, Logical, Record}
use Rattle.f3_meaning_whole.specs.Store.{Path, get, put, put_all}
use Rattle.f3_desc.specs.Descriptor.{progression}
use Rattle.f3_rooms.specs.Held.{Held, Empty, blocks_in, times}
use Rattle.f3_rooms.specs.Forms.{Form, form_words, words_for}
use Rattle.f3_rooms.specs.Values.{word, formed, object}
use Rattle.f3_rooms.specs.Rooms.{Rooms, blocks_of, store_of}
use Rattle.f3_rooms.specs.Places.{Found, value_at, rooms_with}
use Rattle.f3_rooms.specs.Sound.{IsForm, IsObject, IsSound}
use Rattle.f3_rooms.specs.Laws.{with_held_in, Replaces}
use Rattle.f3_rooms.proofs.Reading.{parts_are_found}
use Rattle.f3_rooms.proofs.Within.{size_of, store_owns, part_lies}
use Rattle.f3_rooms.proofs.Stores.{part_replaced}
use Rattle.f3_rooms.proofs.Living.{all_live}
use Rattle.f3_rooms.proofs.Keeping.{kept_blocks_keep}
use Rattle.f3_rooms.proofs.Unmoved.{store_unmoved}
use Rattle.f3_objects.specs.Holds.{with_words_at}
use Rattle.f3_objects.proofs.Spans.{length-written, read_outside}
use Rattle.f3_objects.proofs.Writes.{words-with, with_words_same, with_words_again}
use Rattle.f3_room_arrays.specs.Words.{words_at, copied, IsInside, AreInside}
use Rattle.f3_room_arrays.specs.Elements.{IsFlat, StandsAt, row}
use Rattle.f3_room_arrays.specs.Changes.{Reads, PutsAll}
use Rattle.f3_room_arrays.proofs.Placing.{all-first, all-rest, inside-abs, words-long}
use Rattle.f3_room_arrays.proofs.Flat.{Alike, object_tell, object_lasts}

-- ---- words that were written

-- a word of what was written
written-word : (xs : List ℤ) (at j : ℕ) (ys : List ℤ) → at ≤ length xs → j < length ys → get_or (with_words_at xs at ys) (at + j) (pos 0) ≡ get_or ys j (pos 0)
written-word xs at j ys le lt =
    let long : length (take at xs) ≡ at = length-take-le at xs le in
    let there : at + j ≡ length (take at xs) + j = omega arith in
    ap (λ (k : ℕ). get_or (with_words_at xs at ys) k (pos 0)) there
    ∙ get_or-append-add (take at xs) (ys ++ drop (at + length ys) xs) j (pos 0) ∙ get_or_append_left ys (drop (at + length ys) xs) (pos 0) j lt

-- a word of what is copied
pub copied-word : (ws : List ℤ) (f n j : ℕ) → j < n → get_or (take n (drop f ws)) j (pos 0) ≡ get_or ws (f + j) (pos 0)
copied-word ws f n j lt = get_or-take n (drop f ws) j (pos 0) lt ∙ get_or-drop f ws j (pos 0)

-- ---- one object of a store

module _ (ts : List Shape) (m : Live) (x : Rooms) (sound : IsSound ts m x) (block : ℕ) (s : Shape) (z : ℤ) (p : Path) (stands : StandsAt ts x block s z p) where
  abbrev f : Found
  f = stands.part

  pub at-is : unsigned_abs z ≡ f.at
  at-is = ap unsigned_abs (sym stands.at)

  value-is : (k : Live) → value_at k f ≡ object k s block (unsigned_abs z) f.held
  value-is k =
      ap (λ (form : Form). formed form (words_for f.shape) (object k f.shape) f.block f.at f.held) stands.form
      ∙ ap (λ (t : Shape). object k t f.block f.at f.held) stands.shape
      ∙ ap (λ (b : ℕ). object k s b f.at f.held) stands.there
      ∙ ap (λ (o : ℕ). object k s block o f.held) (sym at-is)

  pub object-is : get (store_of ts m x) p ≡ object m s block (unsigned_abs z) f.held
  object-is = parts_are_found ts m x p.root p.steps f stands.leads ∙ value-is m

  size-is : size_of f ≡ words_for s
  size-is = ap (λ (form : Form). form_words form (words_for f.shape)) stands.form ∙ ap words_for stands.shape

  pub object-live : IsLive m block
  object-live = subst (IsLive m) stands.there (part_lies ts m x sound p.root p.steps f stands.leads).live

  pub object-within : unsigned_abs z + words_for s ≤ length (words_of m block)
  object-within =
      let lies : f.at + size_of f ≤ length (words_of m f.block) = (part_lies ts m x sound p.root p.steps f stands.leads).within in
      let same : length (words_of m f.block) ≡ length (words_of m block) = ap (λ (b : ℕ). length (words_of m b)) stands.there in
      let at = at-is in
      let size = size-is in
      omega arith

  pub object-inside : IsInside (length (words_of m block)) (words_for s) z
  object-inside =
      let within = object-within in
      let at = stands.at in
      record { from = low f.at z at; to = high f.at (words_for s) (length (words_of m block)) z at (let e = at-is in omega arith) }
    where
      low : (n : ℕ) (y : ℤ) → pos n ≡ y → pos 0 ≤ℤ y
      low n y e = omega (arith, ints)

      high : (n k l : ℕ) (y : ℤ) → pos n ≡ y → n + k ≤ l → (y +ℤ pos k) ≤ℤ pos l
      high n k l y e le = omega (arith, ints)

  -- it takes other words, as many as it has
  module _ (vs : List ℤ) (long : length vs ≡ words_for s) where
    abbrev pub next : Live
    next = with_words m block (with_words_at (words_of m block) (unsigned_abs z) vs)

    words-are : words_of next block ≡ with_words_at (words_of m block) (unsigned_abs z) vs
    words-are = words-with m block (with_words_at (words_of m block) (unsigned_abs z) vs)

    next-long : (b : ℕ) → length (words_of next b) ≡ length (words_of m b)
    next-long b = elim (cases_eq b block) [
      | inl e ↦ subst (λ c. length (words_of next c) ≡ length (words_of m c)) (sym e)
          (ap length words-are ∙ length-written (words_of m block) (unsigned_abs z) vs (let w = object-within in omega arith))
      | inr ne ↦ ap length (words-insert_other m block _ b ne)
    ]

    next-apart : (b i : ℕ) → (b ≡ block → (i < unsigned_abs z) ⊎ (unsigned_abs z + words_for s ≤ i)) → word next b i ≡ word m b i
    next-apart b i apart = elim (cases_eq b block) [
      | inl e ↦ subst (λ c. word next c i ≡ word m c i) (sym e)
          (ap (λ ws. get_or ws i (pos 0)) words-are
          ∙ read_outside (words_of m block) (unsigned_abs z) i vs (pos 0) (let w = object-within in omega arith) (elim (apart e) [ inl l ↦ inl l | inr r ↦ inr (omega arith) ]))
      | inr ne ↦ ap (λ ws. get_or ws i (pos 0)) (words-insert_other m block _ b ne)
    ]

    pub next-word : (j : ℕ) → j < words_for s → word next block (unsigned_abs z + j) ≡ get_or vs j (pos 0)
    next-word j lt = ap (λ ws. get_or ws (unsigned_abs z + j) (pos 0)) words-are ∙ written-word (words_of m block) (unsigned_abs z) j vs (let w = object-within in omega arith) (omega arith)

    -- and is another object, which holds this
    module _ (u : Held) (object_is : IsObject next s block (unsigned_abs z) u) (once_is : (q : ℕ) → times q (blocks_in u) ≤ 1)
        (apart_is : (q : ℕ) → 0 < times q (blocks_in u) → times q (blocks_of x) ≤ times q (blocks_in f.held)) where
      form-is : IsForm next f.form (words_for f.shape) (IsObject next f.shape) f.block f.at u
      form-is =
          subst (λ (form : Form). IsForm next form (words_for f.shape) (IsObject next f.shape) f.block f.at u) (sym stands.form)
          (subst (λ (t : Shape). IsObject next t f.block f.at u) (sym stands.shape) (subst (λ (b : ℕ). IsObject next s b f.at u) (sym stands.there) (subst (λ (o : ℕ). IsObject next s block o u) at-is object_is)))

      replaces : Replaces m next x f u
      replaces =
          let size = size-is in
          let at = at-is in
          record {
            live = λ b lt. (live-insert m block _ b (all_live ts m x sound b (omega arith)), next-long b);
            same = λ b i lt aside. next-apart b i (λ e. elim (aside (e ∙ sym stands.there)) [ inl before ↦ inl (omega arith) | inr after ↦ inr (omega arith) ]);
            form = form-is;
            once = once_is;
            apart = apart_is;
          }

      -- the store has its value there
      pub object-replaced : (v : Value) → object next s block (unsigned_abs z) u ≡ v
          → (store_of ts next (rooms_with x p.root p.steps u) ≡ put (store_of ts m x) p v) × IsSound ts next (rooms_with x p.root p.steps u) × StandsAt ts (rooms_with x p.root p.steps u) block s z p
          × ((q : ℕ) → times q (blocks_of (rooms_with x p.root p.steps u)) + times q (blocks_in f.held) ≤ times q (blocks_of x) + times q (blocks_in u))
      object-replaced v is =
          let t = part_replaced ts m next x sound p.root p.steps f stands.leads u replaces in
          let value : value_at next (with_held_in f u) ≡ object next s block (unsigned_abs z) u =
          ap (λ (form : Form). formed form (words_for f.shape) (object next f.shape) f.block f.at u) stands.form
          ∙ ap (λ (t : Shape). object next t f.block f.at u) stands.shape
          ∙ ap (λ (b : ℕ). object next s b f.at u) stands.there
          ∙ ap (λ (o : ℕ). object next s block o u) (sym at-is) in (
            t.0.store ∙ ap (put (store_of ts m x) p) (value ∙ is),
            t.0.sound,
            record { part = with_held_in f u; leads = t.0.found; there = stands.there; at = stands.at; shape = stands.shape; form = stands.form },
            t.1,
          )

    -- a flat object holds what it held
    pub object-put : IsFlat s → (v : Value) → object next s block (unsigned_abs z) f.held ≡ v → (store_of ts next x ≡ put (store_of ts m x) p v) × IsSound ts next x
    object-put flat v is =
        let was : IsForm m f.form (words_for f.shape) (IsObject m f.shape) f.block f.at f.held = (part_lies ts m x sound p.root p.steps f stands.leads).form in
        let plain : IsObject m f.shape f.block f.at f.held = subst (λ (form : Form). IsForm m form (words_for f.shape) (IsObject m f.shape) f.block f.at f.held) stands.form was in
        let here : IsObject m s f.block f.at f.held = subst (λ (t : Shape). IsObject m t f.block f.at f.held) stands.shape plain in
        let t = object-replaced f.held (object_lasts m next s flat f.block f.at block (unsigned_abs z) f.held here)
        (λ q. let c = (store_owns ts x p.root p.steps f stands.leads).counted q in let one = sound.apart q in omega arith)
        (λ q lt. let one = sound.apart q in omega arith) v is in
        let same = store_unmoved ts m next x sound p.root p.steps f stands.leads in (
          sym same.0 ∙ t.0,
          record { statics = same.1 (t.1).statics; levels = same.2 (t.1).levels; apart = sound.apart },
        )

-- ---- many objects take values

-- the values of objects at places of a block
abbrev pub values-at : Live → Shape → ℕ → List ℤ → List Value
values-at m s b ys = map (λ y. object m s b (unsigned_abs y) Empty) ys

module _ (ts : List Shape) (x : Rooms) (s : Shape) (flat : IsFlat s) (src : Live) (from block : ℕ) where
  abbrev ws : List ℤ
  ws = words_of src from

  pub objects-put : (m : Live) → IsSound ts m x → IsLive m block → (zs : List ℤ) (ps : List Path) → AllZip (StandsAt ts x block s) zs ps → (ys : List ℤ) → length ys ≡ length zs
      → AreInside (length ws) (words_for s) ys → PutsAll ts m (with_words m block (copied (words_for s) (words_of m block) ws zs ys)) x ps (values-at src s from ys)
  objects-put m sound live [] [] stand [] e inside =
      let same = sym (with_words_same m block live) in
      record { store = ap (λ (k : Live). store_of ts k x) (sym same); sound = subst (λ (k : Live). IsSound ts k x) same sound }
  objects-put m sound live [] [] stand (y ∷ ys) e inside = absurd (omega arith)
  objects-put m sound live [] (p ∷ ps) stand ys e inside = absurd stand
  objects-put m sound live (z ∷ zs) [] stand ys e inside = absurd stand
  objects-put m sound live (z ∷ zs) (p ∷ ps) stand [] e inside = absurd (omega arith)
  objects-put m sound live (z ∷ zs) (p ∷ ps) stand (y ∷ ys) e inside =
      let n : ℕ = words_for s in
      let vs : List ℤ = words_at ws y n in
      let within = inside-abs (length ws) n y (all-first (IsInside (length ws) n) y ys inside) in
      let long : length vs ≡ n = words-long ws (unsigned_abs y) n within in
      let mid : Live = next ts m x sound block s z p stand.0 vs long in
      let alike : Alike src mid n from (unsigned_abs y) block (unsigned_abs z) = λ j lt.
      next-word ts m x sound block s z p stand.0 vs long j lt ∙ copied-word ws (unsigned_abs y) n j lt in
      let v : Value = object src s from (unsigned_abs y) Empty in
      let one = object-put ts m x sound block s z p stand.0 vs long flat v (object_tell src mid s flat from (unsigned_abs y) block (unsigned_abs z) Empty (stand.0).part.held alike) in
      let rest = objects-put mid one.1 (live-insert m block _ block live) zs ps stand.1 ys (omega arith) (all-rest (IsInside (length ws) n) y ys inside) in
      let words : words_of mid block ≡ with_words_at (words_of m block) (unsigned_abs z) vs = words-with m block _ in
      let end_is : with_words mid block (copied n (words_of mid block) ws zs ys) ≡ with_words m block (copied n (words_of m block) ws (z ∷ zs) (y ∷ ys)) =
      ap (λ (l : List ℤ). with_words mid block (copied n l ws zs ys)) words ∙ with_words_again m block _ _ in
      record {
        store = ap (λ (k : Live). store_of ts k x) (sym end_is) ∙ rest.store ∙ ap (put_all ps (values-at src s from ys)) one.0;
        sound = subst (λ (k : Live). IsSound ts k x) end_is rest.sound;
      }

-- objects one behind another
pub row-values : (m : Live) (s : Shape) (b o k : ℕ) → values-at m s b (progression (pos o) (pos (words_for s)) k) ≡ row m s k b o
row-values m s b o zero = refl
row-values m s b o (suc k) =
    let next : pos o +ℤ pos (words_for s) ≡ pos (o + words_for s) = omega (arith, ints) in
    ap (λ (z : ℤ). object m s b o Empty ∷ values-at m s b (progression z (pos (words_for s)) k)) next
    ∙ ap (λ vs. object m s b o Empty ∷ vs) (row-values m s b (o + words_for s) k)

-- the same object for each: it is no array
pub same-values : (m : Live) (s : Shape) (b o k : ℕ) → values-at m s b (progression (pos o) (pos 0) k) ≡ spread k (object m s b o Empty)
same-values m Whole b o zero = refl
same-values m Logical b o zero = refl
same-values m (Record t parts) b o zero = refl
same-values m Whole b o (suc k) = let next : pos o +ℤ pos 0 ≡ pos o = omega (arith, ints) in
    ap (λ (z : ℤ). object m Whole b o Empty ∷ values-at m Whole b (progression z (pos 0) k)) next ∙ ap (λ vs. object m Whole b o Empty ∷ vs) (same-values m Whole b o k)
same-values m Logical b o (suc k) = let next : pos o +ℤ pos 0 ≡ pos o = omega (arith, ints) in
    ap (λ (z : ℤ). object m Logical b o Empty ∷ values-at m Logical b (progression z (pos 0) k)) next ∙ ap (λ vs. object m Logical b o Empty ∷ vs) (same-values m Logical b o k)
same-values m (Record t parts) b o (suc k) = let next : pos o +ℤ pos 0 ≡ pos o = omega (arith, ints) in
    ap (λ (z : ℤ). object m (Record t parts) b o Empty ∷ values-at m (Record t parts) b (progression z (pos 0) k)) next
    ∙ ap (λ vs. object m (Record t parts) b o Empty ∷ vs) (same-values m (Record t parts) b o k)

pub zip-length : {A B : Type 0} (R : A → B → Type 0) (xs : List A) (ys : List B) → AllZip R xs ys → length xs ≡ length ys
zip-length R [] [] e = refl
zip-length R [] (y ∷ ys) e = absurd e
zip-length R (x ∷ xs) [] e = absurd e
zip-length R (x ∷ xs) (y ∷ ys) e = let l = zip-length R xs ys e.1 in omega arith

-- ---- many objects are read

-- copies at places further on leave words before them
before-kept : (n : ℕ) (us ws : List ℤ) (t i : ℕ) (ys : List ℤ) → i < t → t + length ys * n ≤ length us → AreInside (length ws) n ys
    → get_or (copied n us ws (progression (pos t) (pos n) (length ys)) ys) i (pos 0) ≡ get_or us i (pos 0)
before-kept n us ws t i [] lt le inside = refl
before-kept n us ws t i (y ∷ ys) lt le inside =
    let within = inside-abs (length ws) n y (all-first (IsInside (length ws) n) y ys inside) in
    let long : length (words_at ws y n) ≡ n = words-long ws (unsigned_abs y) n within in
    let next : pos t +ℤ pos n ≡ pos (t + n) = omega (arith, ints) in
    let kept : length (with_words_at us t (words_at ws y n)) ≡ length us = length-written us t (words_at ws y n) (omega arith) in
    ap (λ (z : ℤ). get_or (copied n (with_words_at us t (words_at ws y n)) ws (progression z (pos n) (length ys)) ys) i (pos 0)) next
    ∙ before-kept n (with_words_at us t (words_at ws y n)) ws (t + n) i ys (omega arith) (omega arith) (all-rest (IsInside (length ws) n) y ys inside)
    ∙ read_outside us t i (words_at ws y n) (pos 0) (omega arith) (inl lt)

module _ (ts : List Shape) (m : Live) (x : Rooms) (sound : IsSound ts m x) (block : ℕ) (s : Shape) (flat : IsFlat s) (now : Live) (to : ℕ) where
  abbrev source : List ℤ
  source = words_of m block

  pub objects-read : (us : List ℤ) (t : ℕ) (ys : List ℤ) (ps : List Path) → AllZip (StandsAt ts x block s) ys ps → t + length ys * words_for s ≤ length us → AreInside (length source) (words_for s) ys
      → words_of now to ≡ copied (words_for s) us source (progression (pos t) (pos (words_for s)) (length ys)) ys → row now s (length ps) to t ≡ map (get (store_of ts m x)) ps
  objects-read us t [] [] stand le inside is = refl
  objects-read us t [] (p ∷ ps) stand le inside is = absurd stand
  objects-read us t (y ∷ ys) [] stand le inside is = absurd stand
  objects-read us t (y ∷ ys) (p ∷ ps) stand le inside is =
      let n : ℕ = words_for s in
      let vs : List ℤ = words_at source y n in
      let within = inside-abs (length source) n y (all-first (IsInside (length source) n) y ys inside) in
      let long : length vs ≡ n = words-long source (unsigned_abs y) n within in
      let step : pos t +ℤ pos n ≡ pos (t + n) = omega (arith, ints) in
      let us' : List ℤ = with_words_at us t vs in
      let kept : length us' ≡ length us = length-written us t vs (omega arith) in
      let more = all-rest (IsInside (length source) n) y ys inside in
      let is' : words_of now to ≡ copied n us' source (progression (pos (t + n)) (pos n) (length ys)) ys = is ∙ ap (λ (z : ℤ). copied n us' source (progression z (pos n) (length ys)) ys) step in
      let alike : Alike m now n block (unsigned_abs y) to t = λ j lt.
      ap (λ (l : List ℤ). get_or l (t + j) (pos 0)) is'
      ∙ before-kept n us' source (t + n) (t + j) ys (omega arith) (omega arith) more
      ∙ written-word us t j vs (omega arith) (omega arith) ∙ copied-word source (unsigned_abs y) n j lt in
      let one = object_tell m now s flat block (unsigned_abs y) to t (stand.0).part.held Empty alike ∙ sym (object-is ts m x sound block s y p stand.0) in
      let rest = objects-read us' (t + n) ys ps stand.1 (omega arith) more is' in
      ap (λ v. v ∷ row now s (length ps) to (t + n)) one ∙ ap (λ l. get (store_of ts m x) p ∷ l) rest

shown-count : (ss : List Span) → count (shown ss) ≡ count ss
shown-count [] = refl
shown-count (s ∷ ss) = ap (λ (k : ℕ). s.extent * k) (shown-count ss)

pub reads-of : (ts : List Shape) (m n : Live) (x : Rooms) (s : Shape) (ps : List Path) (b o : ℕ) (us : List ℤ) → IsSound ts m x → n ≡ with_words m b us
    → row n s (length ps) b o ≡ map (get (store_of ts m x)) ps → Reads ts m n x s ps b o
reads-of ts m n x s ps b o us sound is e = record {
  values = e;
  held = λ rank p ss many. ap (λ (k : ℕ). Array (shown ss) (joined (row n s k b o))) (shown-count ss ∙ many) ∙ ap (λ vs. Array (shown ss) (joined vs)) e;
  same = λ none. kept_blocks_keep ts m n x sound (λ q some. ap (λ (k : Live). find k q) is ∙ get-insert_other m b _ q (λ g. other q b g none some));
}
  where
    other : (q b : ℕ) → q ≡ b → times b (blocks_of x) ≡ 0 → 0 < times q (blocks_of x) → ⊥
    other q b g none some = let e : times q (blocks_of x) ≡ times b (blocks_of x) = ap (λ k. times k (blocks_of x)) g in omega arith

pub puts-as : {ts : List Shape} {m n l : Live} {x : Rooms} {ps : List Path} {vs us : List Value} → n ≡ l → vs ≡ us → PutsAll ts m n x ps vs → PutsAll ts m l x ps us
puts-as {ts} {m} {n} {l} {x} {ps} {vs} {us} e g puts = subst (λ (k : Live). PutsAll ts m k x ps us) e (subst (λ (ws : List Value). PutsAll ts m n x ps ws) g puts)
