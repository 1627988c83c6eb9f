-- Where the words of a part lie, and what is held in it.
use Rattle.std.proofs.Common.{◌≡◌, inl, inr, ℕ, zero, suc, ◌+◌, ◌*◌, ◌-◌, ◌<◌, ◌≤◌, Bool, true, false, List, [], ◌∷◌, ◌++◌, length, refl, sym, subst, arith}
use Rattle.std.proofs.lemmas.Bool.{ltb-true, eq-eqb}
use Rattle.std.specs.Prelude.{◌⊎◌, None, Some, nat_lt, if◌then◌else◌, slice_index_or}
use Rattle.f3_program.specs.declared.declarations.Base.{Base}
use Rattle.f3_program.specs.declared.declarations.Declared.{Declared}
use Rattle.f3_live_blocks.specs.Blocks.{Live, IsLive, words_of}
use Rattle.f3_meaning_whole.specs.Value.{Span, count}
use Rattle.f3_meaning_whole.specs.Shape.{Shape, Whole, Logical, Record, Parts, nothing, and, shape_in}
use Rattle.f3_meaning_whole.specs.Store.{Root, Static, Local, Step, Component, Element, Contents}
use Rattle.f3_rooms.specs.Held.{Held, Row, Empty, Holds, Parts as Divided, parts_of, first, others, part_at, blocks_in, blocks_in_all, times}
use Rattle.f3_rooms.specs.Forms.{Form, Laid, Allocatable, form_of, form_words, laid_words, words_for, words_for_parts, room, total}
use Rattle.f3_rooms.specs.Rooms.{Room, Slot, Known, Stands, Rooms, room_blocks, level_blocks, levels_blocks, blocks_of}
use Rattle.f3_rooms.specs.Places.{Found, Onward, in_laid, in_form, in_object, in_component, in_variables, in_room, in_level, found}
use Rattle.f3_rooms.specs.Sound.{Fact, Each, AreLaid, IsForm, IsObject, AreComponents, AreVariables, IsRoom, IsLevel, AreLevels, IsSound}
use Rattle.f3_rooms.specs.Laws.{IsWithin, PartsAreWithin}
use Rattle.f3_rooms.proofs.Framing.{times_append, times_row, times_parts}
use Rattle.f3_rooms.proofs.Reading.{one_found, none_found}

pub times_part : (q : ℕ) (hs : Row) (k : ℕ) → times q (blocks_in (part_at hs k)) ≤ times q (blocks_in_all hs)
times_part q hs zero = let e = times_row q hs in omega arith
times_part q hs (suc k) = let e = times_row q hs in let i = times_part q (others hs) k in omega arith

pub one_more : (q b : ℕ) (bs : List ℕ) → q ≡ b → times q (b ∷ bs) ≡ 1 + times q bs
one_more q b bs e = let one : times q (b ∷ []) ≡ 1 = rw (eq-eqb q b e) refl in omega arith

pub room_for : (k w i : ℕ) → i < k → i * w + w ≤ k * w
room_for zero w i lt = absurd (omega arith)
room_for (suc k) w zero lt = omega arith
room_for (suc k) w (suc i) lt = let e = room_for k w i (omega arith) in omega arith

abbrev pub size_of : Found → ℕ
size_of f = form_words f.form (words_for f.shape)

-- a part in a stretch of a block
pub record IsPlaced (f : Found) (b o k : ℕ) : Type 0 where
  pub block : f.block ≡ b
  pub from : o ≤ f.at
  pub to : f.at + size_of f ≤ o + k

-- or in a block that is held there
pub record IsInside (f : Found) (b o k : ℕ) (bs : List ℕ) : Type 0 where
  pub counted : (q : ℕ) → times q (blocks_in f.held) ≤ times q bs
  pub placed : IsPlaced f b o k ⊎ (times f.block (blocks_in f.held) < times f.block bs)

-- a part in one of these blocks
pub record IsOwned (f : Found) (bs : List ℕ) : Type 0 where
  pub counted : (q : ℕ) → times q (blocks_in f.held) ≤ times q bs
  pub block : times f.block (blocks_in f.held) < times f.block bs

pub owned_more : (f : Found) (bs cs : List ℕ) → ((q : ℕ) → times q bs ≤ times q cs) → IsOwned f bs → IsOwned f cs
owned_more f bs cs few own = record {
  counted = λ q. let e = few q in let g = own.counted q in omega arith;
  block = let e = few f.block in let g : times f.block (blocks_in f.held) < times f.block bs = own.block in omega arith;
}

pub inside_owned : (f : Found) (b o k : ℕ) (bs : List ℕ) → IsInside f b o k bs → IsOwned f (b ∷ bs)
inside_owned f b o k bs inside = record {
  counted = λ q. let e = inside.counted q in omega arith;
  block = elim inside.placed [
    | inl p ↦ let e = one_more f.block b bs p.block in let g = inside.counted f.block in omega arith
    | inr lt ↦ omega arith
  ];
}

module _ (f : Found) where
  pub wider : (b o k p l : ℕ) (bs cs : List ℕ) → p ≤ o → o + k ≤ p + l → ((q : ℕ) → times q bs ≤ times q cs) → IsInside f b o k bs → IsInside f b p l cs
  wider b o k p l bs cs low high few inside = record {
    counted = λ q. let e = few q in let g = inside.counted q in omega arith;
    placed = elim inside.placed [
      | inl is ↦ inl (let from : o ≤ f.at = is.from in let to : f.at + size_of f ≤ o + k = is.to in record { block = is.block; from = omega arith; to = omega arith })
      | inr lt ↦ inr (let e = few f.block in omega arith)
    ];
  }

  beneath : (b o k c l : ℕ) (bs : List ℕ) → IsInside f c 0 l bs → IsInside f b o k (c ∷ bs)
  beneath b o k c l bs inside = let own = inside_owned f c 0 l bs inside in record { counted = own.counted; placed = inr own.block }

  here : (b o k : ℕ) (bs : List ℕ) (g : Found) → g ≡ f → b ≡ g.block → o ≡ g.at → size_of g ≡ k → ((q : ℕ) → times q (blocks_in g.held) ≡ times q bs) → IsInside f b o k bs
  here b o k bs g e block at size held = subst (λ (h : Found). IsInside h b o k bs) e (record {
    counted = λ q. let c = held q in omega arith;
    placed = inl (record { block = sym block; from = omega arith; to = omega arith });
  })

  abbrev Inside : ℕ → Onward → Type 0
  Inside k go = (b o : ℕ) (h : Held) (way : List Step) → go b o h way ≡ Some f → IsInside f b o k (blocks_in h)

  module _ (s : Shape) (of : Base) (inside : Inside (words_for s) (in_object s of)) where
    pub laid_inside : (rank : ℕ) (ss : List Span) → Inside (laid_words rank ss (words_for s)) (in_laid rank ss s of (in_object s of))
    laid_inside zero ss b o h way e = inside b o h way e
    laid_inside (suc rank) ss b o h [] e = here b o (count ss * words_for s) (blocks_in h) _ (one_found _ f e) refl refl refl (λ q. refl)
    laid_inside (suc rank) ss b o h (Component k ∷ way) e = none_found f e
    laid_inside (suc rank) ss b o h (Contents ∷ way) e = none_found f e
    laid_inside (suc rank) ss b o h (Element k ∷ way) e = by (nat_lt k (count ss)) refl e
      where
        by : (t : Bool) → nat_lt k (count ss) ≡ t → (if t then in_object s of b (o + k * words_for s) (part_at (parts_of h) k) way else None) ≡ Some f
            → IsInside f b o (count ss * words_for s) (blocks_in h)
        by false t e = none_found f e
        by true t e =
            let few = room_for (count ss) (words_for s) k (ltb-true k (count ss) t) in
            wider b (o + k * words_for s) (words_for s) o (count ss * words_for s) (blocks_in (part_at (parts_of h) k)) (blocks_in h) (omega arith) (omega arith)
            (λ q. let l = times_part q (parts_of h) k in let r = times_parts q h in omega arith)
            (inside b (o + k * words_for s) (part_at (parts_of h) k) way e)

    pub form_inside : (form : Form) → Inside (form_words form (words_for s)) (in_form form s of (in_object s of))
    form_inside (Laid rank ss) b o h way e = laid_inside rank ss b o h way e
    form_inside (Allocatable rank) b o h [] e = here b o (1 + 2 * rank) (blocks_in h) _ (one_found _ f e) refl refl refl (λ q. refl)
    form_inside (Allocatable rank) b o h (Component k ∷ way) e = none_found f e
    form_inside (Allocatable rank) b o h (Element k ∷ way) e = none_found f e
    form_inside (Allocatable rank) b o Empty (Contents ∷ way) e = none_found f e
    form_inside (Allocatable rank) b o (Divided hs) (Contents ∷ way) e = none_found f e
    form_inside (Allocatable rank) b o (Holds c ss h) (Contents ∷ way) e =
        beneath b o (1 + 2 * rank) c (laid_words rank ss (words_for s)) (blocks_in h) (laid_inside rank ss c 0 h way e)

  mutual
    pub object_inside : (s : Shape) (of : Base) → Inside (words_for s) (in_object s of)
    object_inside s of b o h [] e = here b o (words_for s) (blocks_in h) _ (one_found _ f e) refl refl refl (λ q. refl)
    object_inside (Record t parts) of b o h (Component k ∷ way) e =
        wider b o (words_for_parts parts) o (words_for_parts parts) (blocks_in_all (parts_of h)) (blocks_in h) (omega arith) (omega arith) (λ q. times_parts q h)
        (component_inside parts b o (parts_of h) k way e)
    object_inside (Record t parts) of b o h (Element k ∷ way) e = none_found f e
    object_inside (Record t parts) of b o h (Contents ∷ way) e = none_found f e
    object_inside Whole of b o h (step ∷ way) e = none_found f e
    object_inside Logical of b o h (step ∷ way) e = none_found f e

    pub component_inside : (parts : Parts) (b o : ℕ) (hs : Row) (k : ℕ) (way : List Step) → in_component parts b o hs k way ≡ Some f
        → IsInside f b o (words_for_parts parts) (blocks_in_all hs)
    component_inside nothing b o hs k way e = none_found f e
    component_inside (and c s rest) b o hs zero way e =
        let l : ℕ = form_words (form_of c.declared) (words_for s) in
        wider b o l o (l + words_for_parts rest) (blocks_in (first hs)) (blocks_in_all hs) (omega arith) (omega arith) (λ q. let r = times_row q hs in omega arith)
        (form_inside s c.declared.kind.of (object_inside s c.declared.kind.of) (form_of c.declared) b o (first hs) way e)
    component_inside (and c s rest) b o hs (suc k) way e =
        let l : ℕ = form_words (form_of c.declared) (words_for s) in
        wider b (o + l) (words_for_parts rest) o (l + words_for_parts rest) (blocks_in_all (others hs)) (blocks_in_all hs) (omega arith) (omega arith)
        (λ q. let r = times_row q hs in omega arith)
        (component_inside rest b (o + l) (others hs) k way e)

  module _ (ts : List Shape) where
    pub variable_inside : (d : Declared) → Inside (room ts d) (in_form (form_of d) (shape_in ts d.kind.of) d.kind.of (in_object (shape_in ts d.kind.of) d.kind.of))
    variable_inside d =
        let s : Shape = shape_in ts d.kind.of in form_inside s d.kind.of (object_inside s d.kind.of) (form_of d)

    pub variables_inside : (ds : List Declared) (b o : ℕ) (hs : Row) (i : ℕ) (way : List Step) → in_variables ts ds b o hs i way ≡ Some f
        → IsInside f b o (total ts ds) (blocks_in_all hs)
    variables_inside [] b o hs i way e = none_found f e
    variables_inside (d ∷ ds) b o hs zero way e =
        wider b o (room ts d) o (total ts (d ∷ ds)) (blocks_in (first hs)) (blocks_in_all hs) (omega arith) (omega arith) (λ q. let r = times_row q hs in omega arith)
        (variable_inside d b o (first hs) way e)
    variables_inside (d ∷ ds) b o hs (suc i) way e =
        wider b (o + room ts d) (total ts ds) o (total ts (d ∷ ds)) (blocks_in_all (others hs)) (blocks_in_all hs) (omega arith) (omega arith)
        (λ q. let r = times_row q hs in omega arith)
        (variables_inside ds b (o + room ts d) (others hs) i way e)

    pub room_owns : (r : Room) (i : ℕ) (way : List Step) → in_room ts r i way ≡ Some f → IsOwned f (room_blocks r)
    room_owns r i way e = inside_owned f r.block 0 (total ts r.declared) (blocks_in_all r.held) (variables_inside r.declared r.block 0 r.held i way e)

    pub level_owns : (l : List Slot) (i : ℕ) (way : List Step) → in_level ts l i way ≡ Some f → IsOwned f (level_blocks l)
    level_owns [] i way e = none_found f e
    level_owns (Known v ∷ ss) zero way e = none_found f e
    level_owns (Known v ∷ ss) (suc i) way e = level_owns ss i way e
    level_owns (Stands r ∷ ss) i way e = by (level_owns ss (i - length r.declared) way) (nat_lt i (length r.declared)) e
      where
        by : (in_level ts ss (i - length r.declared) way ≡ Some f → IsOwned f (level_blocks ss)) → (t : Bool)
            → (if t then in_room ts r i way else in_level ts ss (i - length r.declared) way) ≡ Some f → IsOwned f (room_blocks r ++ level_blocks ss)
        by further true e = owned_more f (room_blocks r) (room_blocks r ++ level_blocks ss) (λ q. let s = times_append q (room_blocks r) (level_blocks ss) in omega arith) (room_owns r i way e)
        by further false e = owned_more f (level_blocks ss) (room_blocks r ++ level_blocks ss) (λ q. let s = times_append q (room_blocks r) (level_blocks ss) in omega arith) (further e)

pub times_level : (q : ℕ) (ls : List (List Slot)) (k : ℕ) → times q (level_blocks (slice_index_or ls k [])) ≤ times q (levels_blocks ls)
times_level q [] zero = omega arith
times_level q [] (suc k) = omega arith
times_level q (l ∷ ls) zero = let s = times_append q (level_blocks l) (levels_blocks ls) in omega arith
times_level q (l ∷ ls) (suc k) = let s = times_append q (level_blocks l) (levels_blocks ls) in let i = times_level q ls k in omega arith

pub store_owns : (ts : List Shape) (x : Rooms) (r : Root) (way : List Step) (f : Found) → found ts x r way ≡ Some f → IsOwned f (blocks_of x)
store_owns ts x (Static i) way f e =
    owned_more f (room_blocks x.statics) (blocks_of x) (λ q. let s = times_append q (room_blocks x.statics) (levels_blocks x.levels) in omega arith) (room_owns f ts x.statics i way e)
store_owns ts x (Local level i) way f e =
    owned_more f (level_blocks (slice_index_or x.levels level [])) (blocks_of x)
    (λ q. let s = times_append q (room_blocks x.statics) (levels_blocks x.levels) in let t = times_level q x.levels level in omega arith)
    (level_owns f ts (slice_index_or x.levels level []) i way e)

-- ---- parts of what is sound

pub each_at : (k w : ℕ) (P : Fact) (b o : ℕ) (hs : Row) (i : ℕ) → i < k → Each k w P b o hs → P b (o + i * w) (part_at hs i)
each_at zero w P b o hs i lt has = absurd (omega arith)
each_at (suc k) w P b o hs zero lt has = let e : o ≡ o + 0 * w = omega arith in subst (λ j. P b j (first hs)) e has.0
each_at (suc k) w P b o hs (suc i) lt has =
    let e : (o + w) + i * w ≡ o + suc i * w = omega arith in subst (λ j. P b j (part_at (others hs) i)) e (each_at k w P b (o + w) (others hs) i (omega arith) has.1)

pub level_sound : (ts : List Shape) (m : Live) (ls : List (List Slot)) (k : ℕ) → AreLevels ts m ls → IsLevel ts m (slice_index_or ls k [])
level_sound ts m [] zero has = tt
level_sound ts m [] (suc k) has = tt
level_sound ts m (l ∷ ls) zero has = has.0
level_sound ts m (l ∷ ls) (suc k) has = level_sound ts m ls k has.1

module _ (m : Live) (f : Found) where
  abbrev Lies : ℕ → Onward → Fact → Type 0
  Lies k go P = (b o : ℕ) (h : Held) (way : List Step) → go b o h way ≡ Some f → IsLive m b → o + k ≤ length (words_of m b) → P b o h → IsWithin m f

  lies_here : (g : Found) → g ≡ f → IsLive m g.block → g.at + size_of g ≤ length (words_of m g.block) → IsForm m g.form (words_for g.shape) (IsObject m g.shape) g.block g.at g.held
      → IsWithin m f
  lies_here g e live long has = subst (IsWithin m) e (record { live = live; within = long; form = has })

  module _ (s : Shape) (of : Base) (lies : Lies (words_for s) (in_object s of) (IsObject m s)) where
    laid_lies : (rank : ℕ) (ss : List Span) → Lies (laid_words rank ss (words_for s)) (in_laid rank ss s of (in_object s of)) (AreLaid rank ss (words_for s) (IsObject m s))
    laid_lies zero ss b o h way e live long has = lies b o h way e live long has
    laid_lies (suc rank) ss b o h [] e live long has = lies_here _ (one_found _ f e) live long has
    laid_lies (suc rank) ss b o h (Component k ∷ way) e live long has = none_found f e
    laid_lies (suc rank) ss b o h (Contents ∷ way) e live long has = none_found f e
    laid_lies (suc rank) ss b o h (Element k ∷ way) e live long has = by (nat_lt k (count ss)) refl e
      where
        by : (t : Bool) → nat_lt k (count ss) ≡ t → (if t then in_object s of b (o + k * words_for s) (part_at (parts_of h) k) way else None) ≡ Some f → IsWithin m f
        by false t e = none_found f e
        by true t e =
            let few = room_for (count ss) (words_for s) k (ltb-true k (count ss) t) in
            lies b (o + k * words_for s) (part_at (parts_of h) k) way e live (omega arith)
            (each_at (count ss) (words_for s) (IsObject m s) b o (parts_of h) k (ltb-true k (count ss) t) has.1)

    form_lies : (form : Form) → Lies (form_words form (words_for s)) (in_form form s of (in_object s of)) (IsForm m form (words_for s) (IsObject m s))
    form_lies (Laid rank ss) b o h way e live long has = laid_lies rank ss b o h way e live long has
    form_lies (Allocatable rank) b o h [] e live long has = lies_here _ (one_found _ f e) live long has
    form_lies (Allocatable rank) b o h (Component k ∷ way) e live long has = none_found f e
    form_lies (Allocatable rank) b o h (Element k ∷ way) e live long has = none_found f e
    form_lies (Allocatable rank) b o Empty (Contents ∷ way) e live long has = none_found f e
    form_lies (Allocatable rank) b o (Divided hs) (Contents ∷ way) e live long has = none_found f e
    form_lies (Allocatable rank) b o (Holds c ss h) (Contents ∷ way) e live long has =
        let words : length (words_of m c) ≡ laid_words rank ss (words_for s) = has.words in
        laid_lies rank ss c 0 h way e has.live (omega arith) has.within

  mutual
    object_lies : (s : Shape) (of : Base) → Lies (words_for s) (in_object s of) (IsObject m s)
    object_lies s of b o h [] e live long has = lies_here _ (one_found _ f e) live long has
    object_lies (Record t parts) of b o h (Component k ∷ way) e live long has = component_lies parts b o (parts_of h) k way e live long has.1
    object_lies (Record t parts) of b o h (Element k ∷ way) e live long has = none_found f e
    object_lies (Record t parts) of b o h (Contents ∷ way) e live long has = none_found f e
    object_lies Whole of b o h (step ∷ way) e live long has = none_found f e
    object_lies Logical of b o h (step ∷ way) e live long has = none_found f e

    component_lies : (parts : Parts) (b o : ℕ) (hs : Row) (k : ℕ) (way : List Step) → in_component parts b o hs k way ≡ Some f
        → IsLive m b → o + words_for_parts parts ≤ length (words_of m b) → AreComponents m parts b o hs → IsWithin m f
    component_lies nothing b o hs k way e live long has = none_found f e
    component_lies (and c s rest) b o hs zero way e live long has =
        form_lies s c.declared.kind.of (object_lies s c.declared.kind.of) (form_of c.declared) b o (first hs) way e live (omega arith) has.0
    component_lies (and c s rest) b o hs (suc k) way e live long has =
        component_lies rest b (o + form_words (form_of c.declared) (words_for s)) (others hs) k way e live (omega arith) has.1

  module _ (ts : List Shape) where
    variables_lie : (ds : List Declared) (b o : ℕ) (hs : Row) (i : ℕ) (way : List Step) → in_variables ts ds b o hs i way ≡ Some f
        → IsLive m b → o + total ts ds ≤ length (words_of m b) → AreVariables ts m ds b o hs → IsWithin m f
    variables_lie [] b o hs i way e live long has = none_found f e
    variables_lie (d ∷ ds) b o hs zero way e live long has =
        let s : Shape = shape_in ts d.kind.of in form_lies s d.kind.of (object_lies s d.kind.of) (form_of d) b o (first hs) way e live (omega arith) has.0
    variables_lie (d ∷ ds) b o hs (suc i) way e live long has = variables_lie ds b (o + room ts d) (others hs) i way e live (omega arith) has.1

    room_lies : (r : Room) (i : ℕ) (way : List Step) → in_room ts r i way ≡ Some f → IsRoom ts m r → IsWithin m f
    room_lies r i way e has =
        let long : total ts r.declared ≤ length (words_of m r.block) = has.long in
        variables_lie r.declared r.block 0 r.held i way e has.live (omega arith) has.variables

    level_lies : (l : List Slot) (i : ℕ) (way : List Step) → in_level ts l i way ≡ Some f → IsLevel ts m l → IsWithin m f
    level_lies [] i way e has = none_found f e
    level_lies (Known v ∷ ss) zero way e has = none_found f e
    level_lies (Known v ∷ ss) (suc i) way e has = level_lies ss i way e has.1
    level_lies (Stands r ∷ ss) i way e has = by (λ g. level_lies ss (i - length r.declared) way g has.1) (nat_lt i (length r.declared)) e
      where
        by : (in_level ts ss (i - length r.declared) way ≡ Some f → IsWithin m f) → (t : Bool)
            → (if t then in_room ts r i way else in_level ts ss (i - length r.declared) way) ≡ Some f → IsWithin m f
        by further true e = room_lies r i way e has.0
        by further false e = further e

pub part_lies : (ts : List Shape) (m : Live) (x : Rooms) → IsSound ts m x → (r : Root) (way : List Step) (f : Found) → found ts x r way ≡ Some f → IsWithin m f
part_lies ts m x sound (Static i) way f e = room_lies m f ts x.statics i way e sound.statics
part_lies ts m x sound (Local level i) way f e = level_lies m f ts (slice_index_or x.levels level []) i way e (level_sound ts m x.levels level sound.levels)

pub parts_are_within : PartsAreWithin
parts_are_within ts m x sound r way f e = (part_lies ts m x sound r way f e, (store_owns ts x r way f e).counted)
