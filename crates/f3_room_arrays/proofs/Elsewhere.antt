-- What an object is where its words are copied elsewhere, and what it holds stays.
use Rattle.std.proofs.Common.{◌≡◌, ◌∙◌, ap, refl, ℕ, zero, suc, ◌+◌, ◌*◌, ◌<◌, List, [], ◌∷◌, length, arith}
use Rattle.f3_live_blocks.specs.Blocks.{Live}
use Rattle.f3_meaning_whole.specs.Value.{Span, Number, Truth, Composite, Array, more, joined, count}
use Rattle.f3_meaning_whole.specs.Shape.{Shape, Whole, Logical, Record, Parts, nothing, and}
use Rattle.f3_rooms.specs.Held.{Held, Row, Empty, Holds, Parts as Divided, parts_of, first, others, blocks_in, blocks_in_all}
use Rattle.f3_rooms.specs.Forms.{Form, Laid, Allocatable, form_of, form_words, words_for, words_for_parts}
use Rattle.f3_rooms.specs.Values.{word, is_set, elements, formed, object, components}
use Rattle.f3_rooms.specs.Sound.{Fact, Each, TellBounds, IsHolder, IsForm, IsObject, AreComponents}
use Rattle.f3_rooms.proofs.Framing.{Reading, Steady, Kept, Persists, Stays, kept_first, kept_others, kept_parts, kept_here, kept_beneath, holding_stays, object_stays, laid_persist, object_persists}
use Rattle.f3_room_arrays.proofs.Flat.{Alike, front, behind}

module _ (m n : Live) where
  -- the first word
  head : (k b o c i : ℕ) → 0 < k → Alike m n k b o c i → word n c i ≡ word m b o
  head k b o c i some same =
      let there : i ≡ i + 0 = omega arith in
      let here : o + 0 ≡ o = omega arith in
      ap (word n c) there ∙ same 0 some ∙ ap (word m b) here

  -- ---- values

  abbrev Follows : ℕ → Reading → Reading → Type 0
  Follows k f g = (b o c i : ℕ) (h : Held) → Alike m n k b o c i → Kept m n (blocks_in h) → g c i h ≡ f b o h

  pub elements_follow : (k w : ℕ) (f g : Reading) → Follows w f g → (b o c i : ℕ) (hs : Row) → Alike m n (k * w) b o c i → Kept m n (blocks_in_all hs) → elements k w g c i hs ≡ elements k w f b o hs
  elements_follow zero w f g follows b o c i hs same kept = refl
  elements_follow (suc k) w f g follows b o c i hs same kept =
      ap (λ v. v ∷ elements k w g c (i + w) (others hs)) (follows b o c i (first hs) (front m n w (suc k * w) b o c i (omega arith) same) (kept_first m n hs kept))
      ∙ ap (λ vs. f b o (first hs) ∷ vs) (elements_follow k w f g follows b (o + w) c (i + w) (others hs) (behind m n w (suc k * w) (k * w) b o c i (omega arith) same) (kept_others m n hs kept))

  form_follows : (form : Form) (w : ℕ) (f g : Reading) → Follows w f g → Stays m n w f g → Follows (form_words form w) (formed form w f) (formed form w g)
  form_follows (Laid zero ss) w f g follows stays b o c i h same kept = follows b o c i h same kept
  form_follows (Laid (suc rank) ss) w f g follows stays b o c i h same kept =
      ap (λ vs. Array ss (joined vs)) (elements_follow (count ss) w f g follows b o c i (parts_of h) same (kept_parts m n h kept))
  form_follows (Allocatable rank) w f g follows stays b o c i h same kept = holding_stays m n rank w f g stays h kept

  mutual
    pub object_follows : (s : Shape) → Follows (words_for s) (object m s) (object n s)
    object_follows Whole b o c i h same kept = ap Number (head 1 b o c i (omega arith) same)
    object_follows Logical b o c i h same kept = ap (λ z. Truth (is_set z)) (head 1 b o c i (omega arith) same)
    object_follows (Record t parts) b o c i h same kept = ap Composite (components_follow parts b o c i (parts_of h) same (kept_parts m n h kept))

    components_follow : (parts : Parts) (b o c i : ℕ) (hs : Row) → Alike m n (words_for_parts parts) b o c i → Kept m n (blocks_in_all hs) → components n parts c i hs ≡ components m parts b o hs
    components_follow nothing b o c i hs same kept = refl
    components_follow (and d s rest) b o c i hs same kept =
        let k : ℕ = form_words (form_of d.declared) (words_for s) in
        ap (λ v. more v (components n rest c (i + k) (others hs)))
        (form_follows (form_of d.declared) (words_for s) (object m s) (object n s) (object_follows s) (object_stays m n s) b o c i (first hs)
        (front m n k (k + words_for_parts rest) b o c i (omega arith) same) (kept_first m n hs kept))
        ∙ ap (more (formed (form_of d.declared) (words_for s) (object m s) b o (first hs)))
        (components_follow rest b (o + k) c (i + k) (others hs) (behind m n k (k + words_for_parts rest) (words_for_parts rest) b o c i refl same) (kept_others m n hs kept))

  -- ---- soundness

  abbrev Goes : ℕ → Fact → Fact → Type 0
  Goes k P Q = (b o c i : ℕ) (h : Held) → Alike m n k b o c i → Kept m n (blocks_in h) → P b o h → Q c i h

  each_goes : (k w : ℕ) (P Q : Fact) → Goes w P Q → (b o c i : ℕ) (hs : Row) → Alike m n (k * w) b o c i → Kept m n (blocks_in_all hs) → Each k w P b o hs → Each k w Q c i hs
  each_goes zero w P Q goes b o c i hs same kept has = has
  each_goes (suc k) w P Q goes b o c i hs same kept has = (
    goes b o c i (first hs) (front m n w (suc k * w) b o c i (omega arith) same) (kept_first m n hs kept) has.0,
    each_goes k w P Q goes b (o + w) c (i + w) (others hs) (behind m n w (suc k * w) (k * w) b o c i (omega arith) same) (kept_others m n hs kept) has.1,
  )

  bounds_go : (b o c i : ℕ) (ss : List Span) → Alike m n (2 * length ss) b o c i → TellBounds m b o ss → TellBounds n c i ss
  bounds_go b o c i [] same has = has
  bounds_go b o c i (s ∷ ss) same has = (
    head (2 * length (s ∷ ss)) b o c i (omega arith) same ∙ has.0,
    same 1 (omega arith) ∙ has.1,
    bounds_go b (o + 2) c (i + 2) ss (behind m n 2 (2 * length (s ∷ ss)) (2 * length ss) b o c i (omega arith) same) has.2,
  )

  holder_goes : (rank w : ℕ) (P Q : Fact) → Persists m n w P Q → Goes (1 + 2 * rank) (IsHolder m rank w P) (IsHolder n rank w Q)
  holder_goes rank w P Q stays b o c i Empty same kept has = head (1 + 2 * rank) b o c i (omega arith) same ∙ has
  holder_goes rank w P Q stays b o c i (Divided hs) same kept has = absurd has
  holder_goes rank w P Q stays b o c i (Holds q ss h) same kept has =
      let own : Steady m n q = kept_here m n q (blocks_in h) kept in
      let ranked : length ss ≡ rank = has.ranked in
      record {
        names = head (1 + 2 * rank) b o c i (omega arith) same ∙ has.names;
        named = has.named;
        bounds = bounds_go b (o + 1) c (i + 1) ss (behind m n 1 (1 + 2 * rank) (2 * length ss) b o c i (omega arith) same) has.bounds;
        ranked = has.ranked;
        live = own.live has.live;
        words = own.long ∙ has.words;
        within = laid_persist m n rank ss w P Q stays q 0 h (λ j l r. own.same j) (kept_beneath m n q (blocks_in h) kept) has.within;
      }

  form_goes : (form : Form) (w : ℕ) (P Q : Fact) → Goes w P Q → Persists m n w P Q → Goes (form_words form w) (IsForm m form w P) (IsForm n form w Q)
  form_goes (Laid zero ss) w P Q goes stays b o c i h same kept has = goes b o c i h same kept has
  form_goes (Laid (suc rank) ss) w P Q goes stays b o c i h same kept has = (has.0, each_goes (count ss) w P Q goes b o c i (parts_of h) same (kept_parts m n h kept) has.1)
  form_goes (Allocatable rank) w P Q goes stays b o c i h same kept has = holder_goes rank w P Q stays b o c i h same kept has

  mutual
    pub object_goes : (s : Shape) → Goes (words_for s) (IsObject m s) (IsObject n s)
    object_goes Whole b o c i h same kept has = has
    object_goes Logical b o c i h same kept has = has
    object_goes (Record t parts) b o c i h same kept has = (has.0, components_go parts b o c i (parts_of h) same (kept_parts m n h kept) has.1)

    components_go : (parts : Parts) (b o c i : ℕ) (hs : Row) → Alike m n (words_for_parts parts) b o c i → Kept m n (blocks_in_all hs) → AreComponents m parts b o hs → AreComponents n parts c i hs
    components_go nothing b o c i hs same kept has = has
    components_go (and d s rest) b o c i hs same kept has =
        let k : ℕ = form_words (form_of d.declared) (words_for s) in (
          form_goes (form_of d.declared) (words_for s) (IsObject m s) (IsObject n s) (object_goes s) (object_persists m n s) b o c i (first hs)
              (front m n k (k + words_for_parts rest) b o c i (omega arith) same) (kept_first m n hs kept) has.0,
          components_go rest b (o + k) c (i + k) (others hs) (behind m n k (k + words_for_parts rest) (words_for_parts rest) b o c i refl same) (kept_others m n hs kept) has.1,
        )
