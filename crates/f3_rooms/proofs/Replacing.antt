-- A part of a variable becomes another: that alone changes.
use Rattle.std.proofs.Common.{◌≡◌, ◌≢◌, inl, inr, ℕ, zero, suc, ◌+◌, ◌*◌, ◌<◌, ◌≤◌, Bool, true, false, List, [], ◌∷◌, length, refl, sym, ap, subst, ◌∙◌, arith}
use Rattle.std.proofs.lemmas.Bool.{ltb-true}
use Rattle.std.specs.Prelude.{⊤, ◌⊎◌, None, Some, nat_lt, if◌then◌else◌, slice_index_or, slice_set}
use Rattle.f3_program.specs.declared.declarations.Base.{Base}
use Rattle.f3_program.specs.declared.declarations.Declared.{Declared}
use Rattle.f3_live_blocks.specs.Blocks.{Live, IsLive, words_of}
use Rattle.f3_meaning_whole.specs.Value.{Span, Value, Composite, Array, Unallocated, Allocated, more, joined, count}
use Rattle.f3_meaning_whole.specs.Shape.{Shape, Whole, Logical, Record, Parts, nothing, and, shape_in}
use Rattle.f3_meaning_whole.specs.Store.{Step, Component, Element, Contents, with_part}
use Rattle.f3_meaning_whole.specs.Store.{with_part_at as with_value_part}
use Rattle.f3_rooms.specs.Held.{Held, Row, Empty, Holds, Parts as Divided, parts_of, first, others, part_at, with_part_at, with_held, blocks_in, blocks_in_all, times}
use Rattle.f3_rooms.specs.Forms.{Form, Laid, Allocatable, form_of, form_words, laid_words, words_for, words_for_parts, room, total}
use Rattle.f3_rooms.specs.Values.{word, elements, laid, formed, object, components, variable, variables}
use Rattle.f3_rooms.specs.Places.{Found, value_at, Onward, in_laid, in_form, in_object, in_component, in_variables}
use Rattle.f3_rooms.specs.Sound.{Fact, Each, AreLaid, IsForm, IsObject, AreComponents, AreVariables}
use Rattle.f3_rooms.specs.Laws.{with_held_in}
use Rattle.f3_rooms.proofs.Framing.{times_append, times_row, times_parts, Kept, Same, Reading, bounds_persist, elements_stay, components_stay, variables_stay, formed_stays, object_stays}
use Rattle.f3_rooms.proofs.Framing.{each_persists, components_persist, variables_persist, form_persists, object_persists}
use Rattle.f3_rooms.proofs.Reading.{one_found, none_found}
use Rattle.f3_rooms.proofs.Within.{times_part, one_more, size_of, IsInside, IsOwned, inside_owned, wider, laid_inside, form_inside, object_inside, component_inside, variables_inside}

module _ (m n : Live) (f : Found) (u : Held) where
  -- of blocks of a store: those that are not held in the part are as they were, but for the words of the part itself
  pub record IsOpen (bs : List ℕ) : Type 0 where
    pub apart : (q : ℕ) → times q bs ≤ 1
    pub live : (b : ℕ) → times b (blocks_in f.held) < times b bs → (IsLive m b → IsLive n b) × (length (words_of n b) ≡ length (words_of m b))
    pub same : (b i : ℕ) → times b (blocks_in f.held) < times b bs → (b ≡ f.block → (i < f.at) ⊎ (f.at + size_of f ≤ i)) → word n b i ≡ word m b i
    pub form : IsForm n f.form (words_for f.shape) (IsObject n f.shape) f.block f.at u

  pub open_fewer : (bs cs : List ℕ) → ((q : ℕ) → times q cs ≤ times q bs) → IsOpen bs → IsOpen cs
  open_fewer bs cs few o = record {
    apart = λ q. let e = few q in let g = o.apart q in omega arith;
    live = λ b lt. o.live b (let e = few b in omega arith);
    same = λ b i lt. o.same b i (let e = few b in omega arith);
    form = o.form;
  }

  pub kept_beside : (all bs cs : List ℕ) → IsOpen all → IsOwned f bs → ((q : ℕ) → times q bs + times q cs ≤ times q all) → Kept m n cs
  kept_beside all bs cs o own few q lt =
      let c = few q in
      let one = o.apart q in
      let g = own.counted q in
      let less : times q (blocks_in f.held) < times q all = omega arith in
      let ne : q ≢ f.block = λ e. none (subst (λ b. times b (blocks_in f.held) < times b bs) (sym e) own.block) lt c one in
      record { live = (o.live q less).0; long = (o.live q less).1; same = λ i. o.same q i less (λ e. absurd (ne e)) }
    where
      none : times q (blocks_in f.held) < times q bs → 0 < times q cs → times q bs + times q cs ≤ times q all → times q all ≤ 1 → ⊥
      none a b c d = omega arith

  pub same_beside : (b o k : ℕ) (bs : List ℕ) → IsOpen (b ∷ bs) → IsInside f b o k bs → (p l : ℕ) → (p + l ≤ o) ⊎ (o + k ≤ p) → Same m n b p l
  same_beside b o k bs opened inside p l aside i low high =
      let one : 1 + times b bs ≤ 1 = subst (λ t. t ≤ 1) (one_more b b bs refl) (opened.apart b) in
      let c = inside.counted b in
      let w = one_more b b bs refl in
      opened.same b i (omega arith) (λ e. elim inside.placed [
        | inr lt ↦ absurd (none (subst (λ q. times q (blocks_in f.held) < times q bs) (sym e) lt) one)
        | inl is ↦ let from : o ≤ f.at = is.from in let to : f.at + size_of f ≤ o + k = is.to in elim aside [ inl before ↦ inl (omega arith) | inr after ↦ inr (omega arith) ]
      ])
    where
      none : times b (blocks_in f.held) < times b bs → 1 + times b bs ≤ 1 → ⊥
      none a c = omega arith

  -- the words of a holder, where the part is beneath it
  pub same_above : (b c l : ℕ) (bs : List ℕ) → IsOpen (b ∷ c ∷ bs) → IsInside f c 0 l bs → (p k : ℕ) → Same m n b p k
  same_above b c l bs opened inside p k i low high =
      let own = inside_owned f c 0 l bs inside in
      let w = one_more b b (c ∷ bs) refl in
      let one = opened.apart b in
      let g = own.counted b in
      opened.same b i (omega arith) (λ e. absurd (none (subst (λ q. times q (blocks_in f.held) < times q (c ∷ bs)) (sym e) own.block) (omega arith)))
    where
      none : times b (blocks_in f.held) < times b (c ∷ bs) → times b (c ∷ bs) ≤ 0 → ⊥
      none a d = omega arith

  abbrev pub now : Found
  now = with_held_in f u

  abbrev pub new_value : Value
  new_value = value_at n now

  -- a value becomes another, which is sound; there the part is found as it is now; and what is held in it is in the place of what was
  pub record Turned (V S F : Type 0) (bs cs : List ℕ) : Type 0 where
    pub value : V
    pub sound : S
    pub found : F
    pub counted : (q : ℕ) → times q cs + times q (blocks_in f.held) ≤ times q bs + times q (blocks_in u)

  abbrev Turns : Onward → Reading → Reading → Fact → Fact → Type 0
  Turns go val vals P Q = (b o : ℕ) (h : Held) (way : List Step) → go b o h way ≡ Some f → P b o h → IsOpen (b ∷ blocks_in h)
      → Turned (vals b o (with_held h way u) ≡ with_part (val b o h) way new_value) (Q b o (with_held h way u)) (go b o (with_held h way u) way ≡ Some now)
      (blocks_in h) (blocks_in (with_held h way u))

  -- the part itself
  turns_here : (g : Found) → g ≡ f → IsOpen (g.block ∷ blocks_in g.held)
      → Turned (formed g.form (words_for g.shape) (object n g.shape) g.block g.at u ≡ new_value) (IsForm n g.form (words_for g.shape) (IsObject n g.shape) g.block g.at u)
      (Some (with_held_in g u) ≡ Some now) (blocks_in g.held) (blocks_in u)
  turns_here g e opened = record {
    value = ap (λ (h : Found). value_at n (with_held_in h u)) e;
    sound = subst (λ (h : Found). IsForm n h.form (words_for h.shape) (IsObject n h.shape) h.block h.at u) (sym e) opened.form;
    found = ap (λ (h : Found). Some (with_held_in h u)) e;
    counted = λ q. let c : times q (blocks_in g.held) ≡ times q (blocks_in f.held) = ap (λ (h : Found). times q (blocks_in h.held)) e in omega arith;
  }

  -- ---- elements

  module _ (s : Shape) (of : Base) (turns : Turns (in_object s of) (object m s) (object n s) (IsObject m s) (IsObject n s)) where
    abbrev w : ℕ
    w = words_for s

    abbrev row_with : Row → ℕ → List Step → Row
    row_with hs i way = with_part_at hs i (with_held (part_at hs i) way u)

    elements_turn : (k b o : ℕ) (hs : Row) (i : ℕ) (way : List Step) → i < k → in_object s of b (o + i * w) (part_at hs i) way ≡ Some f
        → Each k w (IsObject m s) b o hs → IsOpen (b ∷ blocks_in_all hs)
        → Turned (joined (elements k w (object n s) b o (row_with hs i way)) ≡ with_value_part (joined (elements k w (object m s) b o hs)) i way new_value)
        (Each k w (IsObject n s) b o (row_with hs i way)) (in_object s of b (o + i * w) (part_at (row_with hs i way) i) way ≡ Some now)
        (blocks_in_all hs) (blocks_in_all (row_with hs i way))
    elements_turn zero b o hs i way lt e has opened = absurd (omega arith)
    elements_turn (suc k) b o hs zero way lt e has opened =
        let at : o + 0 * w ≡ o = omega arith in
        let is : in_object s of b o (first hs) way ≡ Some f = ap (λ j. in_object s of b j (first hs) way) (sym at) ∙ e in
        let inside = object_inside f s of b o (first hs) way is in
        let t = turns b o (first hs) way is has.0 (open_fewer (b ∷ blocks_in_all hs) (b ∷ blocks_in (first hs)) (λ q. let r = times_row q hs in omega arith) opened) in
        let same : Same m n b (o + w) (k * w) = same_beside b o w (blocks_in_all hs) opened (wider f b o w o w (blocks_in (first hs)) (blocks_in_all hs) (omega arith) (omega arith)
        (λ q. let r = times_row q hs in omega arith) inside) (o + w) (k * w) (inr (omega arith)) in
        let kept : Kept m n (blocks_in_all (others hs)) = kept_beside (b ∷ blocks_in_all hs) (b ∷ blocks_in (first hs)) (blocks_in_all (others hs)) opened
        (inside_owned f b o w (blocks_in (first hs)) inside) (λ q. let r = times_row q hs in omega arith) in
        record {
          value = ap (λ v. more v (joined (elements k w (object n s) b (o + w) (others hs)))) t.value
              ∙ ap (λ vs. more (with_part (object m s b o (first hs)) way new_value) (joined vs))
              (elements_stay m n k w (object m s) (object n s) (object_stays m n s) b (o + w) (others hs) same kept);
          sound = (t.sound, each_persists m n k w (IsObject m s) (IsObject n s) (object_persists m n s) b (o + w) (others hs) same kept has.1);
          found = ap (λ j. in_object s of b j (with_held (first hs) way u) way) at ∙ t.found;
          counted = λ q. let c = t.counted q in let r = times_row q hs in let a = times_append q (blocks_in (with_held (first hs) way u)) (blocks_in_all (others hs)) in omega arith;
        }
    elements_turn (suc k) b o hs (suc i) way lt e has opened =
        let at : o + suc i * w ≡ (o + w) + i * w = omega arith in
        let is : in_object s of b ((o + w) + i * w) (part_at (others hs) i) way ≡ Some f = ap (λ j. in_object s of b j (part_at (others hs) i) way) (sym at) ∙ e in
        let inside = object_inside f s of b ((o + w) + i * w) (part_at (others hs) i) way is in
        let t = elements_turn k b (o + w) (others hs) i way (omega arith) is has.1
        (open_fewer (b ∷ blocks_in_all hs) (b ∷ blocks_in_all (others hs)) (λ q. let r = times_row q hs in omega arith) opened) in
        let same : Same m n b o w = same_beside b ((o + w) + i * w) w (blocks_in_all hs) opened (wider f b ((o + w) + i * w) w ((o + w) + i * w) w (blocks_in (part_at (others hs) i)) (blocks_in_all hs)
        (omega arith) (omega arith) (λ q. let r = times_row q hs in let p = times_part q (others hs) i in omega arith) inside) o w (inl (omega arith)) in
        let kept : Kept m n (blocks_in (first hs)) = kept_beside (b ∷ blocks_in_all hs) (b ∷ blocks_in (part_at (others hs) i)) (blocks_in (first hs)) opened
        (inside_owned f b ((o + w) + i * w) w (blocks_in (part_at (others hs) i)) inside) (λ q. let r = times_row q hs in let p = times_part q (others hs) i in omega arith) in
        record {
          value = ap (λ v. more v (joined (elements k w (object n s) b (o + w) (row_with (others hs) i way)))) (object_stays m n s b o (first hs) same kept)
              ∙ ap (more (object m s b o (first hs))) t.value;
          sound = (object_persists m n s b o (first hs) same kept has.0, t.sound);
          found = ap (λ j. in_object s of b j (part_at (row_with (others hs) i way) i) way) at ∙ t.found;
          counted = λ q. let c = t.counted q in let r = times_row q hs in let a = times_append q (blocks_in (first hs)) (blocks_in_all (row_with (others hs) i way)) in omega arith;
        }

    laid_turns : (rank : ℕ) (ss : List Span) → Turns (in_laid rank ss s of (in_object s of)) (laid rank ss w (object m s)) (laid rank ss w (object n s))
        (AreLaid rank ss w (IsObject m s)) (AreLaid rank ss w (IsObject n s))
    laid_turns zero ss b o h way e has opened = turns b o h way e has opened
    laid_turns (suc rank) ss b o h [] e has opened = turns_here _ (one_found _ f e) opened
    laid_turns (suc rank) ss b o h (Component k ∷ way) e has opened = none_found f e
    laid_turns (suc rank) ss b o h (Contents ∷ way) e has opened = none_found f e
    laid_turns (suc rank) ss b o h (Element k ∷ way) e has opened = by (nat_lt k (count ss)) refl e
      where
        by : (t : Bool) → nat_lt k (count ss) ≡ t → (if t then in_object s of b (o + k * w) (part_at (parts_of h) k) way else None) ≡ Some f
            → Turned (Array ss (joined (elements (count ss) w (object n s) b o (row_with (parts_of h) k way))) ≡ Array ss (with_value_part (joined (elements (count ss) w (object m s) b o (parts_of h))) k way new_value))
            (⊤ × Each (count ss) w (IsObject n s) b o (row_with (parts_of h) k way))
            ((if nat_lt k (count ss) then in_object s of b (o + k * w) (part_at (row_with (parts_of h) k way) k) way else None) ≡ Some now)
            (blocks_in h) (blocks_in_all (row_with (parts_of h) k way))
        by false t e = none_found f e
        by true t e =
            let r = elements_turn (count ss) b o (parts_of h) k way (ltb-true k (count ss) t) e has.1
            (open_fewer (b ∷ blocks_in h) (b ∷ blocks_in_all (parts_of h)) (λ q. let p = times_parts q h in omega arith) opened) in
            record {
              value = ap (Array ss) r.value;
              sound = (tt, r.sound);
              found = ap (λ c. if c then in_object s of b (o + k * w) (part_at (row_with (parts_of h) k way) k) way else None) t ∙ r.found;
              counted = λ q. let c = r.counted q in let p = times_parts q h in omega arith;
            }

    -- ---- allocatables

    form_turns : (form : Form) → Turns (in_form form s of (in_object s of)) (formed form w (object m s)) (formed form w (object n s))
        (IsForm m form w (IsObject m s)) (IsForm n form w (IsObject n s))
    form_turns (Laid rank ss) b o h way e has opened = laid_turns rank ss b o h way e has opened
    form_turns (Allocatable rank) b o h [] e has opened = turns_here _ (one_found _ f e) opened
    form_turns (Allocatable rank) b o h (Component k ∷ way) e has opened = none_found f e
    form_turns (Allocatable rank) b o h (Element k ∷ way) e has opened = none_found f e
    form_turns (Allocatable rank) b o Empty (Contents ∷ way) e has opened = none_found f e
    form_turns (Allocatable rank) b o (Divided hs) (Contents ∷ way) e has opened = none_found f e
    form_turns (Allocatable rank) b o (Holds c ss h) (Contents ∷ way) e has opened =
        let l : ℕ = laid_words rank ss w in
        let inside = laid_inside f s of (object_inside f s of) rank ss c 0 h way e in
        let t = laid_turns rank ss c 0 h way e has.within (open_fewer (b ∷ c ∷ blocks_in h) (c ∷ blocks_in h) (λ q. omega arith) opened) in
        let same : Same m n b o (1 + 2 * rank) = same_above b c l (blocks_in h) opened inside o (1 + 2 * rank) in
        let ranked : length ss ≡ rank = has.ranked in
        let g = inside.counted c in
        let one = one_more c c (blocks_in h) refl in
        let own = opened.live c (omega arith) in
        record {
          value = ap Allocated t.value;
          sound = record {
            names = same o (omega arith) (omega arith) ∙ has.names;
            named = has.named;
            bounds = bounds_persist m n b (o + 1) ss (λ i low high. same i (omega arith) (omega arith)) has.bounds;
            ranked = has.ranked;
            live = own.0 has.live;
            words = own.1 ∙ has.words;
            within = t.sound;
          };
          found = t.found;
          counted = λ q. let d = t.counted q in omega arith;
        }

  -- ---- objects

  mutual
    pub object_turns : (s : Shape) (of : Base) → Turns (in_object s of) (object m s) (object n s) (IsObject m s) (IsObject n s)
    object_turns s of b o h [] e has opened = turns_here _ (one_found _ f e) opened
    object_turns (Record t parts) of b o h (Component k ∷ way) e has opened =
        let r = components_turn parts b o (parts_of h) k way e has.1
        (open_fewer (b ∷ blocks_in h) (b ∷ blocks_in_all (parts_of h)) (λ q. let p = times_parts q h in omega arith) opened) in
        record { value = ap Composite r.value; sound = (tt, r.sound); found = r.found; counted = λ q. let c = r.counted q in let p = times_parts q h in omega arith }
    object_turns (Record t parts) of b o h (Element k ∷ way) e has opened = none_found f e
    object_turns (Record t parts) of b o h (Contents ∷ way) e has opened = none_found f e
    object_turns Whole of b o h (step ∷ way) e has opened = none_found f e
    object_turns Logical of b o h (step ∷ way) e has opened = none_found f e

    components_turn : (parts : Parts) (b o : ℕ) (hs : Row) (k : ℕ) (way : List Step) → in_component parts b o hs k way ≡ Some f
        → AreComponents m parts b o hs → IsOpen (b ∷ blocks_in_all hs)
        → Turned (components n parts b o (with_part_at hs k (with_held (part_at hs k) way u)) ≡ with_value_part (components m parts b o hs) k way new_value)
        (AreComponents n parts b o (with_part_at hs k (with_held (part_at hs k) way u)))
        (in_component parts b o (with_part_at hs k (with_held (part_at hs k) way u)) k way ≡ Some now)
        (blocks_in_all hs) (blocks_in_all (with_part_at hs k (with_held (part_at hs k) way u)))
    components_turn nothing b o hs k way e has opened = none_found f e
    components_turn (and c s rest) b o hs zero way e has opened =
        let of : Base = c.declared.kind.of in
        let l : ℕ = form_words (form_of c.declared) (words_for s) in
        let inside = form_inside f s of (object_inside f s of) (form_of c.declared) b o (first hs) way e in
        let t = form_turns s of (object_turns s of) (form_of c.declared) b o (first hs) way e has.0
        (open_fewer (b ∷ blocks_in_all hs) (b ∷ blocks_in (first hs)) (λ q. let r = times_row q hs in omega arith) opened) in
        let same : Same m n b (o + l) (words_for_parts rest) = same_beside b o l (blocks_in_all hs) opened (wider f b o l o l (blocks_in (first hs)) (blocks_in_all hs) (omega arith) (omega arith)
        (λ q. let r = times_row q hs in omega arith) inside) (o + l) (words_for_parts rest) (inr (omega arith)) in
        let kept : Kept m n (blocks_in_all (others hs)) = kept_beside (b ∷ blocks_in_all hs) (b ∷ blocks_in (first hs)) (blocks_in_all (others hs)) opened
        (inside_owned f b o l (blocks_in (first hs)) inside) (λ q. let r = times_row q hs in omega arith) in
        record {
          value = ap (λ v. more v (components n rest b (o + l) (others hs))) t.value
              ∙ ap (more (with_part (formed (form_of c.declared) (words_for s) (object m s) b o (first hs)) way new_value)) (components_stay m n rest b (o + l) (others hs) same kept);
          sound = (t.sound, components_persist m n rest b (o + l) (others hs) same kept has.1);
          found = t.found;
          counted = λ q. let d = t.counted q in let r = times_row q hs in let a = times_append q (blocks_in (with_held (first hs) way u)) (blocks_in_all (others hs)) in omega arith;
        }
    components_turn (and c s rest) b o hs (suc k) way e has opened =
        let l : ℕ = form_words (form_of c.declared) (words_for s) in
        let inside = component_inside f rest b (o + l) (others hs) k way e in
        let t = components_turn rest b (o + l) (others hs) k way e has.1
        (open_fewer (b ∷ blocks_in_all hs) (b ∷ blocks_in_all (others hs)) (λ q. let r = times_row q hs in omega arith) opened) in
        let same : Same m n b o l = same_beside b (o + l) (words_for_parts rest) (blocks_in_all hs) opened
        (wider f b (o + l) (words_for_parts rest) (o + l) (words_for_parts rest) (blocks_in_all (others hs)) (blocks_in_all hs) (omega arith) (omega arith)
        (λ q. let r = times_row q hs in omega arith) inside) o l (inl (omega arith)) in
        let kept : Kept m n (blocks_in (first hs)) = kept_beside (b ∷ blocks_in_all hs) (b ∷ blocks_in_all (others hs)) (blocks_in (first hs)) opened
        (inside_owned f b (o + l) (words_for_parts rest) (blocks_in_all (others hs)) inside) (λ q. let r = times_row q hs in omega arith) in
        record {
          value = ap (λ v. more v (components n rest b (o + l) (with_part_at (others hs) k (with_held (part_at (others hs) k) way u))))
              (formed_stays m n (form_of c.declared) (words_for s) (object m s) (object n s) (object_stays m n s) b o (first hs) same kept)
              ∙ ap (more (formed (form_of c.declared) (words_for s) (object m s) b o (first hs))) t.value;
          sound = (form_persists m n (form_of c.declared) (words_for s) (IsObject m s) (IsObject n s) (object_persists m n s) b o (first hs) same kept has.0, t.sound);
          found = t.found;
          counted = λ q. let d = t.counted q in let r = times_row q hs in
              let a = times_append q (blocks_in (first hs)) (blocks_in_all (with_part_at (others hs) k (with_held (part_at (others hs) k) way u))) in omega arith;
        }

  -- ---- variables

  module _ (ts : List Shape) where
    pub variables_turn : (ds : List Declared) (b o : ℕ) (hs : Row) (i : ℕ) (way : List Step) → in_variables ts ds b o hs i way ≡ Some f
        → AreVariables ts m ds b o hs → IsOpen (b ∷ blocks_in_all hs)
        → Turned (variables ts n ds b o (with_part_at hs i (with_held (part_at hs i) way u))
        ≡ slice_set (variables ts m ds b o hs) i (with_part (slice_index_or (variables ts m ds b o hs) i Unallocated) way new_value))
        (AreVariables ts n ds b o (with_part_at hs i (with_held (part_at hs i) way u)))
        (in_variables ts ds b o (with_part_at hs i (with_held (part_at hs i) way u)) i way ≡ Some now)
        (blocks_in_all hs) (blocks_in_all (with_part_at hs i (with_held (part_at hs i) way u)))
    variables_turn [] b o hs i way e has opened = none_found f e
    variables_turn (d ∷ ds) b o hs zero way e has opened =
        let s : Shape = shape_in ts d.kind.of in
        let of : Base = d.kind.of in
        let l : ℕ = room ts d in
        let inside = form_inside f s of (object_inside f s of) (form_of d) b o (first hs) way e in
        let t = form_turns s of (object_turns s of) (form_of d) b o (first hs) way e has.0
        (open_fewer (b ∷ blocks_in_all hs) (b ∷ blocks_in (first hs)) (λ q. let r = times_row q hs in omega arith) opened) in
        let same : Same m n b (o + l) (total ts ds) = same_beside b o l (blocks_in_all hs) opened (wider f b o l o l (blocks_in (first hs)) (blocks_in_all hs) (omega arith) (omega arith)
        (λ q. let r = times_row q hs in omega arith) inside) (o + l) (total ts ds) (inr (omega arith)) in
        let kept : Kept m n (blocks_in_all (others hs)) = kept_beside (b ∷ blocks_in_all hs) (b ∷ blocks_in (first hs)) (blocks_in_all (others hs)) opened
        (inside_owned f b o l (blocks_in (first hs)) inside) (λ q. let r = times_row q hs in omega arith) in
        record {
          value = ap (λ v. v ∷ variables ts n ds b (o + l) (others hs)) t.value
              ∙ ap (λ vs. with_part (variable ts m d b o (first hs)) way new_value ∷ vs) (variables_stay m n ts ds b (o + l) (others hs) same kept);
          sound = (t.sound, variables_persist m n ts ds b (o + l) (others hs) same kept has.1);
          found = t.found;
          counted = λ q. let g = t.counted q in let r = times_row q hs in let a = times_append q (blocks_in (with_held (first hs) way u)) (blocks_in_all (others hs)) in omega arith;
        }
    variables_turn (d ∷ ds) b o hs (suc i) way e has opened =
        let s : Shape = shape_in ts d.kind.of in
        let l : ℕ = room ts d in
        let inside = variables_inside f ts ds b (o + l) (others hs) i way e in
        let t = variables_turn ds b (o + l) (others hs) i way e has.1
        (open_fewer (b ∷ blocks_in_all hs) (b ∷ blocks_in_all (others hs)) (λ q. let r = times_row q hs in omega arith) opened) in
        let same : Same m n b o l = same_beside b (o + l) (total ts ds) (blocks_in_all hs) opened
        (wider f b (o + l) (total ts ds) (o + l) (total ts ds) (blocks_in_all (others hs)) (blocks_in_all hs) (omega arith) (omega arith)
        (λ q. let r = times_row q hs in omega arith) inside) o l (inl (omega arith)) in
        let kept : Kept m n (blocks_in (first hs)) = kept_beside (b ∷ blocks_in_all hs) (b ∷ blocks_in_all (others hs)) (blocks_in (first hs)) opened
        (inside_owned f b (o + l) (total ts ds) (blocks_in_all (others hs)) inside) (λ q. let r = times_row q hs in omega arith) in
        record {
          value = ap (λ v. v ∷ variables ts n ds b (o + l) (with_part_at (others hs) i (with_held (part_at (others hs) i) way u)))
              (formed_stays m n (form_of d) (words_for s) (object m s) (object n s) (object_stays m n s) b o (first hs) same kept)
              ∙ ap (λ vs. variable ts m d b o (first hs) ∷ vs) t.value;
          sound = (form_persists m n (form_of d) (words_for s) (IsObject m s) (IsObject n s) (object_persists m n s) b o (first hs) same kept has.0, t.sound);
          found = t.found;
          counted = λ q. let g = t.counted q in let r = times_row q hs in
              let a = times_append q (blocks_in (first hs)) (blocks_in_all (with_part_at (others hs) i (with_held (part_at (others hs) i) way u))) in omega arith;
        }
