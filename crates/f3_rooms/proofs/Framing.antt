-- What an object is depends on the words of its own stretch of a block, and on the blocks that are held in it.
use Rattle.std.proofs.Common.{◌≡◌, ℕ, zero, suc, ◌+◌, ◌*◌, ◌<◌, ◌≤◌, List, [], ◌∷◌, ◌++◌, length, refl, ap, ◌∙◌, arith}
use Rattle.std.proofs.lemmas.Bool.{eq-eqb}
use Rattle.std.specs.Prelude.{map}
use Rattle.f3_program.specs.declared.declarations.Declared.{Declared}
use Rattle.f3_live_blocks.specs.Blocks.{Live, IsLive, words_of}
use Rattle.f3_meaning_whole.specs.Value.{Span, Value, Truth, Number, Composite, Array, Allocated, more, joined, count}
use Rattle.f3_meaning_whole.specs.Shape.{Shape, Whole, Logical, Record, Parts, nothing, and, shape_in}
use Rattle.f3_rooms.specs.Held.{Held, Row, Empty, Holds, Parts as Divided, end, next, parts_of, first, others, blocks_in, blocks_in_all, times}
use Rattle.f3_rooms.specs.Forms.{Form, Laid, Allocatable, form_of, form_words, laid_words, words_for, words_for_parts, room, total}
use Rattle.f3_rooms.specs.Values.{word, is_set, elements, laid, holding, formed, object, components, variable, variables}
use Rattle.f3_rooms.specs.Rooms.{Room, Slot, Known, Stands, room_values, slot_values, level_values, room_blocks, slot_blocks, level_blocks, levels_blocks}
use Rattle.f3_rooms.specs.Sound.{Fact, Each, AreLaid, TellBounds, IsHolder, IsForm, IsObject, AreComponents, AreVariables, IsRoom, IsSlot, IsLevel, AreLevels}

-- ---- counting

pub times_append : (q : ℕ) (bs cs : List ℕ) → times q (bs ++ cs) ≡ times q bs + times q cs
times_append q [] cs = omega arith
times_append q (b ∷ bs) cs = let e = times_append q bs cs in omega arith

pub times_row : (q : ℕ) (hs : Row) → times q (blocks_in_all hs) ≡ times q (blocks_in (first hs)) + times q (blocks_in_all (others hs))
times_row q end = refl
times_row q (next h hs) = times_append q (blocks_in h) (blocks_in_all hs)

pub times_parts : (q : ℕ) (h : Held) → times q (blocks_in_all (parts_of h)) ≤ times q (blocks_in h)
times_parts q Empty = omega arith
times_parts q (Holds c ss h) = omega arith
times_parts q (Divided hs) = omega arith

-- ---- what stays

-- a block whose words are as they were
pub record Steady (m n : Live) (q : ℕ) : Type 0 where
  pub live : IsLive m q → IsLive n q
  pub long : length (words_of n q) ≡ length (words_of m q)
  pub same : (i : ℕ) → word n q i ≡ word m q i

abbrev pub Kept : Live → Live → List ℕ → Type 0
Kept m n bs = (q : ℕ) → 0 < times q bs → Steady m n q

-- so many words of a block from one on
abbrev pub Same : Live → Live → ℕ → ℕ → ℕ → Type 0
Same m n b o k = (i : ℕ) → o ≤ i → i < o + k → word n b i ≡ word m b i

pub kept_fewer : (m n : Live) (bs cs : List ℕ) → ((q : ℕ) → times q cs ≤ times q bs) → Kept m n bs → Kept m n cs
kept_fewer m n bs cs few kept q lt = kept q (let e = few q in omega arith)

pub kept_first : (m n : Live) (hs : Row) → Kept m n (blocks_in_all hs) → Kept m n (blocks_in (first hs))
kept_first m n hs = kept_fewer m n (blocks_in_all hs) (blocks_in (first hs)) (λ q. let e = times_row q hs in omega arith)

pub kept_others : (m n : Live) (hs : Row) → Kept m n (blocks_in_all hs) → Kept m n (blocks_in_all (others hs))
kept_others m n hs = kept_fewer m n (blocks_in_all hs) (blocks_in_all (others hs)) (λ q. let e = times_row q hs in omega arith)

pub kept_parts : (m n : Live) (h : Held) → Kept m n (blocks_in h) → Kept m n (blocks_in_all (parts_of h))
kept_parts m n h = kept_fewer m n (blocks_in h) (blocks_in_all (parts_of h)) (λ q. times_parts q h)

pub kept_front : (m n : Live) (bs cs : List ℕ) → Kept m n (bs ++ cs) → Kept m n bs
kept_front m n bs cs = kept_fewer m n (bs ++ cs) bs (λ q. let e = times_append q bs cs in omega arith)

pub kept_back : (m n : Live) (bs cs : List ℕ) → Kept m n (bs ++ cs) → Kept m n cs
kept_back m n bs cs = kept_fewer m n (bs ++ cs) cs (λ q. let e = times_append q bs cs in omega arith)

pub one_here : (q : ℕ) (bs : List ℕ) → 0 < times q (q ∷ bs)
one_here q bs = let e : times q (q ∷ []) ≡ 1 = rw (eq-eqb q q refl) refl in omega arith

pub kept_here : (m n : Live) (b : ℕ) (bs : List ℕ) → Kept m n (b ∷ bs) → Steady m n b
kept_here m n b bs kept = kept b (one_here b bs)

pub kept_beneath : (m n : Live) (b : ℕ) (bs : List ℕ) → Kept m n (b ∷ bs) → Kept m n bs
kept_beneath m n b bs = kept_fewer m n (b ∷ bs) bs (λ q. omega arith)

-- ---- values

abbrev pub Reading : Type 0
Reading = ℕ → ℕ → Held → Value

module _ (m n : Live) where
  abbrev pub Stays : ℕ → Reading → Reading → Type 0
  Stays k f g = (b o : ℕ) (h : Held) → Same m n b o k → Kept m n (blocks_in h) → g b o h ≡ f b o h

  pub elements_stay : (k w : ℕ) (f g : Reading) → Stays w f g → (b o : ℕ) (hs : Row) → Same m n b o (k * w) → Kept m n (blocks_in_all hs)
      → elements k w g b o hs ≡ elements k w f b o hs
  elements_stay zero w f g stays b o hs same kept = refl
  elements_stay (suc k) w f g stays b o hs same kept =
      ap (λ v. v ∷ elements k w g b (o + w) (others hs)) (stays b o (first hs) (λ i l r. same i l (omega arith)) (kept_first m n hs kept))
      ∙ ap (λ vs. f b o (first hs) ∷ vs) (elements_stay k w f g stays b (o + w) (others hs) (λ i l r. same i (omega arith) (omega arith)) (kept_others m n hs kept))

  pub laid_stays : (rank : ℕ) (ss : List Span) (w : ℕ) (f g : Reading) → Stays w f g → Stays (laid_words rank ss w) (laid rank ss w f) (laid rank ss w g)
  laid_stays zero ss w f g stays b o h same kept = stays b o h same kept
  laid_stays (suc rank) ss w f g stays b o h same kept =
      ap (λ vs. Array ss (joined vs)) (elements_stay (count ss) w f g stays b o (parts_of h) same (kept_parts m n h kept))

  pub holding_stays : (rank w : ℕ) (f g : Reading) → Stays w f g → (h : Held) → Kept m n (blocks_in h) → holding rank w g h ≡ holding rank w f h
  holding_stays rank w f g stays Empty kept = refl
  holding_stays rank w f g stays (Holds c ss h) kept =
      ap Allocated (laid_stays rank ss w f g stays c 0 h (λ i l r. (kept_here m n c (blocks_in h) kept).same i) (kept_beneath m n c (blocks_in h) kept))
  holding_stays rank w f g stays (Divided hs) kept = refl

  pub formed_stays : (form : Form) (w : ℕ) (f g : Reading) → Stays w f g → Stays (form_words form w) (formed form w f) (formed form w g)
  formed_stays (Laid rank ss) w f g stays b o h same kept = laid_stays rank ss w f g stays b o h same kept
  formed_stays (Allocatable rank) w f g stays b o h same kept = holding_stays rank w f g stays h kept

  mutual
    pub object_stays : (s : Shape) → Stays (words_for s) (object m s) (object n s)
    object_stays Whole b o h same kept = ap Number (same o (omega arith) (omega arith))
    object_stays Logical b o h same kept = ap (λ z. Truth (is_set z)) (same o (omega arith) (omega arith))
    object_stays (Record t parts) b o h same kept = ap Composite (components_stay parts b o (parts_of h) same (kept_parts m n h kept))

    pub components_stay : (parts : Parts) (b o : ℕ) (hs : Row) → Same m n b o (words_for_parts parts) → Kept m n (blocks_in_all hs)
        → components n parts b o hs ≡ components m parts b o hs
    components_stay nothing b o hs same kept = refl
    components_stay (and c s rest) b o hs same kept =
        let k : ℕ = form_words (form_of c.declared) (words_for s) in
        ap (λ v. more v (components n rest b (o + k) (others hs)))
        (formed_stays (form_of c.declared) (words_for s) (object m s) (object n s) (object_stays s) b o (first hs) (λ i l r. same i l (omega arith)) (kept_first m n hs kept))
        ∙ ap (more (formed (form_of c.declared) (words_for s) (object m s) b o (first hs)))
        (components_stay rest b (o + k) (others hs) (λ i l r. same i (omega arith) (omega arith)) (kept_others m n hs kept))

  pub variables_stay : (ts : List Shape) (ds : List Declared) (b o : ℕ) (hs : Row) → Same m n b o (total ts ds) → Kept m n (blocks_in_all hs)
      → variables ts n ds b o hs ≡ variables ts m ds b o hs
  variables_stay ts [] b o hs same kept = refl
  variables_stay ts (d ∷ ds) b o hs same kept =
      let s : Shape = shape_in ts d.kind.of in
      ap (λ v. v ∷ variables ts n ds b (o + room ts d) (others hs))
      (formed_stays (form_of d) (words_for s) (object m s) (object n s) (object_stays s) b o (first hs) (λ i l r. same i l (omega arith)) (kept_first m n hs kept))
      ∙ ap (λ vs. variable ts m d b o (first hs) ∷ vs)
      (variables_stay ts ds b (o + room ts d) (others hs) (λ i l r. same i (omega arith) (omega arith)) (kept_others m n hs kept))

-- ---- soundness

module _ (m n : Live) where
  abbrev pub Persists : ℕ → Fact → Fact → Type 0
  Persists k P Q = (b o : ℕ) (h : Held) → Same m n b o k → Kept m n (blocks_in h) → P b o h → Q b o h

  pub each_persists : (k w : ℕ) (P Q : Fact) → Persists w P Q → (b o : ℕ) (hs : Row) → Same m n b o (k * w) → Kept m n (blocks_in_all hs)
      → Each k w P b o hs → Each k w Q b o hs
  each_persists zero w P Q stays b o hs same kept has = has
  each_persists (suc k) w P Q stays b o hs same kept has = (
    stays b o (first hs) (λ i l r. same i l (omega arith)) (kept_first m n hs kept) has.0,
    each_persists k w P Q stays b (o + w) (others hs) (λ i l r. same i (omega arith) (omega arith)) (kept_others m n hs kept) has.1,
  )

  pub laid_persist : (rank : ℕ) (ss : List Span) (w : ℕ) (P Q : Fact) → Persists w P Q → Persists (laid_words rank ss w) (AreLaid rank ss w P) (AreLaid rank ss w Q)
  laid_persist zero ss w P Q stays b o h same kept has = stays b o h same kept has
  laid_persist (suc rank) ss w P Q stays b o h same kept has = (has.0, each_persists (count ss) w P Q stays b o (parts_of h) same (kept_parts m n h kept) has.1)

  pub bounds_persist : (b o : ℕ) (ss : List Span) → Same m n b o (2 * length ss) → TellBounds m b o ss → TellBounds n b o ss
  bounds_persist b o [] same has = has
  bounds_persist b o (s ∷ ss) same has = (
    same o (omega arith) (omega arith) ∙ has.0,
    same (o + 1) (omega arith) (omega arith) ∙ has.1,
    bounds_persist b (o + 2) ss (λ i l r. same i (omega arith) (omega arith)) has.2,
  )

  pub holder_persists : (rank w : ℕ) (P Q : Fact) → Persists w P Q → Persists (1 + 2 * rank) (IsHolder m rank w P) (IsHolder n rank w Q)
  holder_persists rank w P Q stays b o Empty same kept has = same o (omega arith) (omega arith) ∙ has
  holder_persists rank w P Q stays b o (Divided hs) same kept has = absurd has
  holder_persists rank w P Q stays b o (Holds c ss h) same kept has =
      let own : Steady m n c = kept_here m n c (blocks_in h) kept in
      let ranked : length ss ≡ rank = has.ranked in
      record {
        names = same o (omega arith) (omega arith) ∙ has.names;
        named = has.named;
        bounds = bounds_persist b (o + 1) ss (λ i l r. same i (omega arith) (omega arith)) has.bounds;
        ranked = has.ranked;
        live = own.live has.live;
        words = own.long ∙ has.words;
        within = laid_persist rank ss w P Q stays c 0 h (λ i l r. own.same i) (kept_beneath m n c (blocks_in h) kept) has.within;
      }

  pub form_persists : (form : Form) (w : ℕ) (P Q : Fact) → Persists w P Q → Persists (form_words form w) (IsForm m form w P) (IsForm n form w Q)
  form_persists (Laid rank ss) w P Q stays b o h same kept has = laid_persist rank ss w P Q stays b o h same kept has
  form_persists (Allocatable rank) w P Q stays b o h same kept has = holder_persists rank w P Q stays b o h same kept has

  mutual
    pub object_persists : (s : Shape) → Persists (words_for s) (IsObject m s) (IsObject n s)
    object_persists Whole b o h same kept has = has
    object_persists Logical b o h same kept has = has
    object_persists (Record t parts) b o h same kept has = (has.0, components_persist parts b o (parts_of h) same (kept_parts m n h kept) has.1)

    pub components_persist : (parts : Parts) (b o : ℕ) (hs : Row) → Same m n b o (words_for_parts parts) → Kept m n (blocks_in_all hs)
        → AreComponents m parts b o hs → AreComponents n parts b o hs
    components_persist nothing b o hs same kept has = has
    components_persist (and c s rest) b o hs same kept has =
        let k : ℕ = form_words (form_of c.declared) (words_for s) in (
          form_persists (form_of c.declared) (words_for s) (IsObject m s) (IsObject n s) (object_persists s) b o (first hs) (λ i l r. same i l (omega arith)) (kept_first m n hs kept) has.0,
          components_persist rest b (o + k) (others hs) (λ i l r. same i (omega arith) (omega arith)) (kept_others m n hs kept) has.1,
        )

  pub variables_persist : (ts : List Shape) (ds : List Declared) (b o : ℕ) (hs : Row) → Same m n b o (total ts ds) → Kept m n (blocks_in_all hs)
      → AreVariables ts m ds b o hs → AreVariables ts n ds b o hs
  variables_persist ts [] b o hs same kept has = has
  variables_persist ts (d ∷ ds) b o hs same kept has =
      let s : Shape = shape_in ts d.kind.of in (
        form_persists (form_of d) (words_for s) (IsObject m s) (IsObject n s) (object_persists s) b o (first hs) (λ i l r. same i l (omega arith)) (kept_first m n hs kept) has.0,
        variables_persist ts ds b (o + room ts d) (others hs) (λ i l r. same i (omega arith) (omega arith)) (kept_others m n hs kept) has.1,
      )

-- ---- rooms

module _ (ts : List Shape) (m n : Live) where
  pub room_stays : (r : Room) → Kept m n (room_blocks r) → room_values ts n r ≡ room_values ts m r
  room_stays r kept = variables_stay m n ts r.declared r.block 0 r.held (λ i l u. (kept_here m n r.block (blocks_in_all r.held) kept).same i)
      (kept_beneath m n r.block (blocks_in_all r.held) kept)

  pub room_persists : (r : Room) → Kept m n (room_blocks r) → IsRoom ts m r → IsRoom ts n r
  room_persists r kept has =
      let own : Steady m n r.block = kept_here m n r.block (blocks_in_all r.held) kept in
      let long : total ts r.declared ≤ length (words_of m r.block) = has.long in
      let same : length (words_of n r.block) ≡ length (words_of m r.block) = own.long in
      record {
        live = own.live has.live;
        long = omega arith;
        variables = variables_persist m n ts r.declared r.block 0 r.held (λ i l u. own.same i) (kept_beneath m n r.block (blocks_in_all r.held) kept) has.variables;
      }

  pub slot_stays : (s : Slot) → Kept m n (slot_blocks s) → slot_values ts n s ≡ slot_values ts m s
  slot_stays (Known v) kept = refl
  slot_stays (Stands r) kept = room_stays r kept

  pub slot_persists : (s : Slot) → Kept m n (slot_blocks s) → IsSlot ts m s → IsSlot ts n s
  slot_persists (Known v) kept has = has
  slot_persists (Stands r) kept has = room_persists r kept has

  pub level_stays : (l : List Slot) → Kept m n (level_blocks l) → level_values ts n l ≡ level_values ts m l
  level_stays [] kept = refl
  level_stays (s ∷ ss) kept =
      ap (λ vs. vs ++ level_values ts n ss) (slot_stays s (kept_front m n (slot_blocks s) (level_blocks ss) kept))
      ∙ ap (λ vs. slot_values ts m s ++ vs) (level_stays ss (kept_back m n (slot_blocks s) (level_blocks ss) kept))

  pub level_persists : (l : List Slot) → Kept m n (level_blocks l) → IsLevel ts m l → IsLevel ts n l
  level_persists [] kept has = has
  level_persists (s ∷ ss) kept has =
      (slot_persists s (kept_front m n (slot_blocks s) (level_blocks ss) kept) has.0, level_persists ss (kept_back m n (slot_blocks s) (level_blocks ss) kept) has.1)

  pub levels_stay : (ls : List (List Slot)) → Kept m n (levels_blocks ls) → map (level_values ts n) ls ≡ map (level_values ts m) ls
  levels_stay [] kept = refl
  levels_stay (l ∷ ls) kept =
      ap (λ vs. vs ∷ map (level_values ts n) ls) (level_stays l (kept_front m n (level_blocks l) (levels_blocks ls) kept))
      ∙ ap (λ vs. level_values ts m l ∷ vs) (levels_stay ls (kept_back m n (level_blocks l) (levels_blocks ls) kept))

  pub levels_persist : (ls : List (List Slot)) → Kept m n (levels_blocks ls) → AreLevels ts m ls → AreLevels ts n ls
  levels_persist [] kept has = has
  levels_persist (l ∷ ls) kept has =
      (level_persists l (kept_front m n (level_blocks l) (levels_blocks ls) kept) has.0, levels_persist ls (kept_back m n (level_blocks l) (levels_blocks ls) kept) has.1)
