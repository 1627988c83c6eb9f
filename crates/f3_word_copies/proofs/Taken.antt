-- Objects have taken a value.
use Rattle.std.proofs.Common.{◌≡◌, ◌≢◌, ◌∙◌, sym, ap, subst, refl, inl, inr, ℕ, zero, suc, ◌+◌, ◌*◌, ◌<◌, ◌≤◌, Bool, true, false, List, [], ◌∷◌, length, take, get_or, arith, is_some, IsTrue}
use Rattle.std.specs.Prelude.{ℤ, pos, nat_lt, if◌then◌else◌, unsigned_abs}
use Rattle.std.specs.List.{AllZip}
use Rattle.std.specs.FinMap.{get as find}
use Rattle.std.proofs.lemmas.Bool.{cases_eq, ltb-true, ltb-false}
use Rattle.std.proofs.lemmas.List.{take_all, length-take-le}
use Rattle.f3_program.specs.declared.declarations.Constant.{Constant}
use Rattle.f3_program.specs.declared.declarations.Constant.TheVariants as constant
use Rattle.f3_program.specs.declared.program.Program.{Program}
use Rattle.f3_live_blocks.specs.Blocks.{Live, IsLive, words_of, pins_of, with_words}
use Rattle.f3_live_blocks.proofs.Laws.{live-insert, get-insert_other, pins-insert_same, pins-insert_other}
use Rattle.f3_meaning_whole.specs.Value.{Span, Value, Number, Truth, Composite, Array, Values, joined, listed, spread}
use Rattle.f3_meaning_whole.specs.Shape.{Shape, Whole, Logical, Record}
use Rattle.f3_meaning_whole.specs.Store.{Store, Path, put, put_all}
use Rattle.f3_meaning_whole.specs.Reference.{Reference, paths}
use Rattle.f3_meaning_whole.specs.Arithmetic.{constant_value}
use Rattle.f3_desc.specs.Descriptor.{progression}
use Rattle.f3_objects.specs.Holds.{with_words_at}
use Rattle.f3_objects.proofs.Spans.{written_same}
use Rattle.f3_objects.proofs.Writes.{words-with, with_words_same, with_words_again}
use Rattle.f3_rooms.specs.Held.{Held, Empty, times}
use Rattle.f3_rooms.specs.Forms.{words_for}
use Rattle.f3_rooms.specs.Values.{word, is_set, object}
use Rattle.f3_rooms.specs.Rooms.{Rooms, blocks_of, store_of}
use Rattle.f3_rooms.specs.Sound.{IsSound}
use Rattle.f3_room_levels.specs.Initial.{IsOf, word_of, truth_word}
use Rattle.f3_room_arrays.specs.Words.{copied}
use Rattle.f3_room_arrays.specs.Elements.{IsFlat, StandsAt, row}
use Rattle.f3_room_arrays.specs.Changes.{PutsAll}
use Rattle.f3_room_arrays.proofs.Numbers.{progression-length}
use Rattle.f3_room_arrays.proofs.Running.{line-inside}
use Rattle.f3_room_arrays.proofs.Objects.{next, next-word, object-put, objects-put, row-values, puts-as, zip-length}
use Rattle.f3_room_arrays.proofs.Flat.{object_tell}
use Rattle.f3_word_cells.specs.Areas.{types_of}
use Rattle.f3_word_copies.specs.Spread.{spread_over, fewer_of}
use Rattle.f3_word_copies.specs.Puts.{Takes}

-- ---- the same value for each

abbrev pub repeat : ℕ → Value → List Value
repeat zero v = []
repeat (suc k) v = v ∷ repeat k v

pub repeat-number : (k : ℕ) (z : ℤ) → repeat k (Number z) ≡ spread k (Number z)
repeat-number zero z = refl
repeat-number (suc k) z = ap (λ vs. Number z ∷ vs) (repeat-number k z)

pub repeat-truth : (k : ℕ) (b : Bool) → repeat k (Truth b) ≡ spread k (Truth b)
repeat-truth zero b = refl
repeat-truth (suc k) b = ap (λ vs. Truth b ∷ vs) (repeat-truth k b)

pub repeat-composite : (k : ℕ) (us : Values) → repeat k (Composite us) ≡ spread k (Composite us)
repeat-composite zero us = refl
repeat-composite (suc k) us = ap (λ vs. Composite us ∷ vs) (repeat-composite k us)

pub repeat-constant : (k : ℕ) (c : Constant) → repeat k (constant_value c) ≡ spread k (constant_value c)
repeat-constant k (constant.Number z) = repeat-number k z
repeat-constant k (constant.Truth b) = repeat-truth k b

pub repeat-object : (k : ℕ) (m : Live) (s : Shape) (b at : ℕ) (h : Held) → repeat k (object m s b at h) ≡ spread k (object m s b at h)
repeat-object k m Whole b at h = repeat-number k _
repeat-object k m Logical b at h = repeat-truth k _
repeat-object k m (Record t parts) b at h = repeat-composite k _

pub spread-array : (k : ℕ) (ss : List Span) (vs : Values) → spread k (Array ss vs) ≡ listed vs
spread-array zero ss vs = refl
spread-array (suc k) ss vs = refl

pub listed-joined : (vs : List Value) → listed (joined vs) ≡ vs
listed-joined [] = refl
listed-joined (v ∷ vs) = ap (λ us. v ∷ us) (listed-joined vs)

-- ---- words that are a value

-- an object with these words is this value
abbrev pub Shows : Shape → List ℤ → Value → Type 0
Shows s ws v = (n : Live) (b at : ℕ) (h : Held) → ((j : ℕ) → j < words_for s → word n b (at + j) ≡ get_or ws j (pos 0)) → object n s b at h ≡ v

truth-set : (b : Bool) → is_set (truth_word b) ≡ b
truth-set true = refl
truth-set false = refl

pub shows-constant : (s : Shape) (c : Constant) → IsOf s c → Shows s (word_of c ∷ []) (constant_value c)
shows-constant Whole (constant.Number z) is n b at h same = let e : at ≡ at + 0 = omega arith in ap (λ k. Number (word n b k)) e ∙ ap Number (same 0 (omega arith))
shows-constant Whole (constant.Truth t) is n b at h same = absurd is
shows-constant Logical (constant.Number z) is n b at h same = absurd is
shows-constant Logical (constant.Truth t) is n b at h same =
    let e : at ≡ at + 0 = omega arith in ap (λ k. Truth (is_set (word n b k))) e ∙ ap (λ z. Truth (is_set z)) (same 0 (omega arith)) ∙ ap Truth (truth-set t)
shows-constant (Record t parts) c is n b at h same = absurd is

pub constant-long : (s : Shape) (c : Constant) → IsOf s c → length (word_of c ∷ []) ≡ words_for s
constant-long Whole c is = refl
constant-long Logical c is = refl
constant-long (Record t parts) c is = absurd is

pub shows-block : (m : Live) (s : Shape) → IsFlat s → (from : ℕ) → Shows s (words_of m from) (object m s from 0 Empty)
shows-block m s flat from n b at h same =
    object_tell m n s flat from 0 b at Empty h (λ j lt. same j lt ∙ (let e : j ≡ 0 + j = omega arith in ap (word m from) e))

-- ---- all take the same words

module _ (ts : List Shape) (x : Rooms) (s : Shape) (flat : IsFlat s) (ws : List ℤ) (long : length ws ≡ words_for s) (v : Value) (shows : Shows s ws v) (block : ℕ) where
  pub spread-objects : (m : Live) → IsSound ts m x → IsLive m block → (zs : List ℤ) (ps : List Path) → AllZip (StandsAt ts x block s) zs ps
      → PutsAll ts m (with_words m block (spread_over (words_of m block) ws zs)) x ps (repeat (length ps) v)
  spread-objects m sound live [] [] stand =
      let same = sym (with_words_same m block live) in
      record { store = ap (λ (k : Live). store_of ts k x) (sym same); sound = subst (λ (k : Live). IsSound ts k x) same sound }
  spread-objects m sound live [] (p ∷ ps) stand = absurd stand
  spread-objects m sound live (z ∷ zs) [] stand = absurd stand
  spread-objects m sound live (z ∷ zs) (p ∷ ps) stand =
      let mid : Live = next ts m x sound block s z p stand.0 ws long in
      let one = object-put ts m x sound block s z p stand.0 ws long flat v (shows mid block (unsigned_abs z) _ (next-word ts m x sound block s z p stand.0 ws long)) in
      let rest = spread-objects mid one.1 (live-insert m block _ block live) zs ps stand.1 in
      let words : words_of mid block ≡ with_words_at (words_of m block) (unsigned_abs z) ws = words-with m block _ in
      let end_is : with_words mid block (spread_over (words_of mid block) ws zs) ≡ with_words m block (spread_over (words_of m block) ws (z ∷ zs)) =
      ap (λ (l : List ℤ). with_words mid block (spread_over l ws zs)) words ∙ with_words_again m block _ _ in
      record {
        store = ap (λ (k : Live). store_of ts k x) (sym end_is) ∙ rest.store ∙ ap (put_all ps (repeat (length ps) v)) one.0;
        sound = subst (λ (k : Live). IsSound ts k x) end_is rest.sound;
      }

-- ---- each takes its own

-- objects of no words
module _ (ts : List Shape) (m : Live) (x : Rooms) (sound : IsSound ts m x) (s : Shape) (flat : IsFlat s) (none : words_for s ≡ 0) (block from : ℕ) where
  put-none : (z : ℤ) (p : Path) → StandsAt ts x block s z p → IsLive m block → (o : ℕ) (h : Held) → put (store_of ts m x) p (object m s from o h) ≡ store_of ts m x
  put-none z p stand live o h =
      let long : length (let l : List ℤ = [] in l) ≡ words_for s = sym none in
      let mid : Live = next ts m x sound block s z p stand [] long in
      let same : mid ≡ m = ap (with_words m block) (written_same (words_of m block) (unsigned_abs z) [] refl) ∙ with_words_same m block live in
      let one = object-put ts m x sound block s z p stand [] long flat (object m s from o h) (object_tell m mid s flat from o block (unsigned_abs z) h _ (λ j lt. absurd (omega arith))) in
      sym one.0 ∙ ap (λ (k : Live). store_of ts k x) same

  pub none-put : (zs : List ℤ) (ps : List Path) → AllZip (StandsAt ts x block s) zs ps → IsLive m block → (k o : ℕ) → put_all ps (row m s k from o) (store_of ts m x) ≡ store_of ts m x
  none-put zs [] stand live k o = refl
  none-put [] (p ∷ ps) stand live k o = absurd stand
  none-put (z ∷ zs) (p ∷ ps) stand live zero o = refl
  none-put (z ∷ zs) (p ∷ ps) stand live (suc k) o =
      ap (put_all ps (row m s k from (o + words_for s))) (put-none z p stand.0 live o Empty) ∙ none-put zs ps stand.1 live k (o + words_for s)

-- as many as both have
module _ (m : Live) (s : Shape) (from : ℕ) where
  put-front : (k o : ℕ) (ps : List Path) (st : Store) → k ≤ length ps → put_all (take k ps) (row m s k from o) st ≡ put_all ps (row m s k from o) st
  put-front zero o [] st le = refl
  put-front zero o (p ∷ ps) st le = refl
  put-front (suc k) o [] st le = absurd (omega arith)
  put-front (suc k) o (p ∷ ps) st le = put-front k (o + words_for s) ps (put st p (object m s from o Empty)) (omega arith)

  put-more : (k o : ℕ) (ps : List Path) (st : Store) → length ps ≤ k → put_all ps (row m s (length ps) from o) st ≡ put_all ps (row m s k from o) st
  put-more k o [] st le = refl
  put-more zero o (p ∷ ps) st le = absurd (omega arith)
  put-more (suc k) o (p ∷ ps) st le = put-more k (o + words_for s) ps (put st p (object m s from o Empty)) (omega arith)

  pub put-both : (n k : ℕ) (ps : List Path) (st : Store) → n ≡ length ps → put_all (take (fewer_of n k) ps) (row m s (fewer_of n k) from 0) st ≡ put_all ps (row m s k from 0) st
  put-both n k ps st e = by (nat_lt n k) refl
    where
      by : (b : Bool) → nat_lt n k ≡ b → put_all (take (if b then n else k) ps) (row m s (if b then n else k) from 0) st ≡ put_all ps (row m s k from 0) st
      by true lt =
          let less = ltb-true n k lt in
          ap (λ qs. put_all qs (row m s n from 0) st) (take_all n ps (omega arith)) ∙ ap (λ (j : ℕ). put_all ps (row m s j from 0) st) e ∙ put-more k 0 ps st (omega arith)
      by false lt = let le = ltb-false n k lt in put-front k 0 ps st (omega arith)

few-stand : (ts : List Shape) (x : Rooms) (b : ℕ) (s : Shape) (k : ℕ) (zs : List ℤ) (ps : List Path) → AllZip (StandsAt ts x b s) zs ps → AllZip (StandsAt ts x b s) (take k zs) (take k ps)
few-stand ts x b s zero zs ps stand = tt
few-stand ts x b s (suc k) [] [] stand = tt
few-stand ts x b s (suc k) [] (p ∷ ps) stand = absurd stand
few-stand ts x b s (suc k) (z ∷ zs) [] stand = absurd stand
few-stand ts x b s (suc k) (z ∷ zs) (p ∷ ps) stand = (stand.0, few-stand ts x b s k zs ps stand.1)

pub own-put : (ts : List Shape) (m : Live) (x : Rooms) (s : Shape) → IsFlat s → IsSound ts m x → (from block : ℕ) → IsLive m block → (zs : List ℤ) (ps : List Path) → AllZip (StandsAt ts x block s) zs ps
    → (k : ℕ) → k ≤ length ps → k * words_for s ≤ length (words_of m from)
    → PutsAll ts m (with_words m block (copied (words_for s) (words_of m block) (words_of m from) (take k zs) (progression (pos 0) (pos (words_for s)) k))) x (take k ps) (row m s k from 0)
own-put ts m x s flat sound from block live zs ps stand k le room =
    let many = zip-length (StandsAt ts x block s) zs ps stand in
    puts-as refl (row-values m s from 0 k)
    (objects-put ts x s flat m from block m sound live (take k zs) (take k ps) (few-stand ts x block s k zs ps stand) (progression (pos 0) (pos (words_for s)) k)
    (progression-length (pos 0) (pos (words_for s)) k ∙ sym (length-take-le k zs (omega arith))) (line-inside (length (words_of m from)) (words_for s) 0 k (omega arith)))

-- ---- what else changes

pub takes-as : (p : Program) (m n : Live) (x : Rooms) (r : Reference) (v : Value) (block : ℕ) (us : List ℤ) → 0 < times block (blocks_of x) → IsLive m block → n ≡ with_words m block us
    → store_of (types_of p) n x ≡ put_all (paths r) (spread (length (paths r)) v) (store_of (types_of p) m x) → IsSound (types_of p) n x → Takes p m n x r v
takes-as p m n x r v block us among live is store sound = record {
  store = store;
  sound = sound;
  elsewhere = λ q none. ap (λ (k : Live). find k q) is ∙ get-insert_other m block _ q (other q none);
  fewer = λ q alive. elim (cases_eq q block) [
    | inl e ↦ subst (IsLive m) (sym e) live
    | inr ne ↦ subst (λ o. IsTrue (is_some o)) (get-insert_other m block _ q ne) (subst (λ (k : Live). IsLive k q) is alive)
  ];
  pins = λ q. ap (λ (k : Live). pins_of k q) is ∙ elim (cases_eq q block) [
    | inl e ↦ subst (λ j. pins_of (with_words m block us) j ≡ pins_of m j) (sym e) (pins-insert_same m block _)
    | inr ne ↦ pins-insert_other m block _ q ne
  ];
}
  where
    other : (q : ℕ) → times q (blocks_of x) ≡ 0 → q ≢ block
    other q none e = let f : times q (blocks_of x) ≡ times block (blocks_of x) = ap (λ j. times j (blocks_of x)) e in absurd (omega arith)

pub takes-none : (p : Program) (m n : Live) (x : Rooms) (r : Reference) (v : Value) → IsSound (types_of p) m x → n ≡ m
    → store_of (types_of p) m x ≡ put_all (paths r) (spread (length (paths r)) v) (store_of (types_of p) m x) → Takes p m n x r v
takes-none p m n x r v sound is store = record {
  store = ap (λ (k : Live). store_of (types_of p) k x) is ∙ store;
  sound = subst (λ (k : Live). IsSound (types_of p) k x) (sym is) sound;
  elsewhere = λ q none. ap (λ (k : Live). find k q) is;
  fewer = λ q alive. subst (λ (k : Live). IsLive k q) is alive;
  pins = λ q. ap (λ (k : Live). pins_of k q) is;
}
