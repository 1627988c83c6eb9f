-- A level whose blocks were given back.
use Rattle.std.proofs.Common.{◌≡◌, ◌≢◌, inl, inr, ℕ, zero, suc, ◌+◌, ◌<◌, ◌≤◌, true, Bool, true, false, List, [], ◌∷◌, length, take, refl, sym, ap, subst, ◌∙◌, arith}
use Rattle.std.proofs.lemmas.Bool.{cases_eq, eq-eqb}
use Rattle.std.specs.Prelude.{◌↔◌, Result, Ok, Err, OnOk, OnErr, None, Some, slice_get}
use Rattle.std.specs.FinMap.{get as find, remove}
use Rattle.f3_program.specs.declared.declarations.Base.TheVariants as base
use Rattle.f3_program.specs.declared.declarations.Declared.{Declared}
use Rattle.f3_heap_laws.specs.Account.{used_by, r as taken_for}
use Rattle.f3_live_blocks.specs.Blocks.{Live, IsLive, words_of, pins_of}
use Rattle.f3_heap_laws.proofs.Answers.{used-removed}
use Rattle.f3_live_blocks.proofs.Laws.{get-remove_same, get-remove_other}
use Rattle.f3_meaning_whole.specs.Shape.{Shape, Record}
use Rattle.f3_desc.specs.Shape.{Shape as Layout}
use Rattle.f3_objects.specs.Tree.{Tree, footprint, words, times as times_beneath}
use Rattle.f3_objects.specs.Holds.{Holds as HoldsTree, Frees, NonePinned, is_free, left}
use Rattle.f3_objects.proofs.Account.{used_freed}
use Rattle.f3_objects.proofs.Freeing.{frees_unpinned, frees_gives}
use Rattle.f3_objects.proofs.Spans.{length-written}
use Rattle.f3_objects.proofs.Trees.{free-left, size-left}
use Rattle.f3_rooms.specs.Held.{Row, Parts as Divided, others, blocks_in_all, times}
use Rattle.f3_rooms.specs.Forms.{Laid, words_for_parts, room, total}
use Rattle.f3_rooms.specs.Places.{Found}
use Rattle.f3_rooms.specs.Rooms.{Room, Slot, Stands, Rooms, room_blocks, level_blocks, levels_blocks, blocks_of}
use Rattle.f3_rooms.specs.Sound.{AreComponents, AreVariables, IsRoom, IsLevel, AreLevels, IsSound}
use Rattle.f3_rooms.specs.Laws.{IsWithin, Keeps, before_level}
use Rattle.f3_rooms.proofs.Allocating.{only_one}
use Rattle.f3_rooms.proofs.Framing.{times_append}
use Rattle.f3_rooms.proofs.Levels.{levels_end}
use Rattle.f3_room_objects.specs.Laws.{IsApart}
use Rattle.f3_room_objects.proofs.Growing.{parts_hold_trees, trees_have_their_blocks}
use Rattle.f3_room_levels.specs.Laws.{LevelsStandAlone}
use Rattle.f3_room_levels.specs.Levels.{as_parts, room_layout, room_tree, StandAlone, StandLaid, EndsLevel, Ends}

-- ---- blocks of levels

level_and : (q : ℕ) (ls : List (List Slot)) (i : ℕ) (l : List Slot) → slice_get ls i ≡ Some l → times q (levels_blocks (take i ls)) + times q (level_blocks l) ≤ times q (levels_blocks ls)
level_and q [] i l e = absurd (cc)
level_and q (k ∷ ls) zero l e =
    let same : k ≡ l = cc in
    let g : times q (level_blocks k) ≡ times q (level_blocks l) = ap (λ s. times q (level_blocks s)) same in
    let h = times_append q (level_blocks k) (levels_blocks ls) in
    omega arith
level_and q (k ∷ ls) (suc i) l e =
    let g = level_and q ls i l e in
    let h = times_append q (level_blocks k) (levels_blocks ls) in
    let j = times_append q (level_blocks k) (levels_blocks (take i ls)) in
    omega arith

before_and : (q : ℕ) (x : Rooms) (i : ℕ) (r : Room) → slice_get x.levels i ≡ Some (Stands r ∷ [])
    → times q (blocks_of (before_level x i)) + times q (room_blocks r) ≤ times q (blocks_of x)
before_and q x i r e =
    let g = level_and q x.levels i (Stands r ∷ []) e in
    let h = times_append q (room_blocks x.statics) (levels_blocks x.levels) in
    let j = times_append q (room_blocks x.statics) (levels_blocks (take i x.levels)) in
    let k = times_append q (room_blocks r) [] in
    omega arith

-- ---- a level of a sound store

level_at : (ts : List Shape) (m : Live) (ls : List (List Slot)) (i : ℕ) (l : List Slot) → AreLevels ts m ls → slice_get ls i ≡ Some l → IsLevel ts m l
level_at ts m [] i l are e = absurd (cc)
level_at ts m (k ∷ ls) zero l are e = let same : k ≡ l = cc in subst (IsLevel ts m) same are.0
level_at ts m (k ∷ ls) (suc i) l are e = level_at ts m ls i l are.1 e

pub levels_stand_alone : LevelsStandAlone
levels_stand_alone ts m x k r sound at = record {
  room = (level_at ts m x.levels k (Stands r ∷ []) sound.levels at).0;
  here = refl;
  these = refl;
  apart = λ q. let c = before_and q x k r at in let s = sound.apart q in omega arith;
}

-- ---- variables as the components of an object

parts_many : (ts : List Shape) (ds : List Declared) → words_for_parts (as_parts ts ds) ≡ total ts ds
parts_many ts [] = refl
parts_many ts (d ∷ ds) = ap (λ n. room ts d + n) (parts_many ts ds)

parts_are : (ts : List Shape) (m : Live) (ds : List Declared) (b o : ℕ) (hs : Row) → AreVariables ts m ds b o hs → AreComponents m (as_parts ts ds) b o hs
parts_are ts m [] b o hs has = has
parts_are ts m (d ∷ ds) b o hs has = (has.0, parts_are ts m ds b (o + room ts d) (others hs) has.1)

module _ (ts : List Shape) (m : Live) (r : Room) (is : IsRoom ts m r) (once : (q : ℕ) → times q (room_blocks r) ≤ 1) where
  abbrev f : Found
  f = record { block = r.block; at = 0; shape = Record 0 (as_parts ts r.declared); of = base.Integer; form = Laid 0 []; held = Divided r.held }

  within : IsWithin m f
  within = record {
    live = is.live;
    within = let e = parts_many ts r.declared in let l = is.long in omega arith;
    form = (tt, parts_are ts m r.declared r.block 0 r.held is.variables);
  }

  own : times r.block (room_blocks r) ≡ 1 + times r.block (blocks_in_all r.held)
  own = let e : times r.block (r.block ∷ []) ≡ 1 = rw (eq-eqb r.block r.block refl) refl in omega arith

  apart : IsApart f
  apart = record {
    once = λ q. let e = once q in omega arith;
    own = let e = once r.block in let o = own in omega arith;
  }

  holds_tree : HoldsTree m r.block 0 (room_layout ts r.declared) (room_tree ts m r)
  holds_tree = parts_hold_trees m f within apart

  pub beneath : (q : ℕ) → times_beneath q (room_tree ts m r) ≡ times q (blocks_in_all r.held)
  beneath q = trees_have_their_blocks m f within q

-- ---- the tree of variables that stand alone

module _ (ts : List Shape) (m : Live) (ds : List Declared) (b : ℕ) (r : Room) (k : StandAlone ts m ds b r) where
  abbrev t : Tree
  t = room_tree ts m r

  pub alone_holds : HoldsTree m b 0 (room_layout ts ds) t
  alone_holds =
      subst (λ xs. HoldsTree m b 0 (room_layout ts xs) t) k.these
      (subst (λ c. HoldsTree m c 0 (room_layout ts r.declared) t) k.here (holds_tree ts m r k.room k.apart))

  counted : (q : ℕ) → times q (room_blocks r) ≡ times q (b ∷ []) + times_beneath q t
  counted q =
      let e = beneath ts m r k.room k.apart q in
      let h : times q (room_blocks r) ≡ times q (b ∷ blocks_in_all r.held) = ap (λ c. times q (c ∷ blocks_in_all r.held)) k.here in
      omega arith

  here_once : times b (b ∷ []) ≡ 1
  here_once = rw (eq-eqb b b refl) refl

  away : (q : ℕ) → q ≢ b → times q (b ∷ []) ≡ 0
  away q ne = small (times q (b ∷ [])) (λ some. ne (only_one q b some))
    where
      small : (n : ℕ) → (0 < n → ⊥) → n ≡ 0
      small zero h = refl
      small (suc n) h = absurd (h (omega arith))

  -- which blocks are pinned
  pub none_pinned : ((q : ℕ) → 0 < times q (room_blocks r) → pins_of m q ≡ 0) → NonePinned (pins_of m) t × (pins_of m b ≡ 0)
  none_pinned all = (
    λ q some. all q (let e = counted q in omega arith),
    all b (let e = counted b in let o = here_once in omega arith),
  )

  pub all_unpinned : NonePinned (pins_of m) t → pins_of m b ≡ 0 → (q : ℕ) → 0 < times q (room_blocks r) → pins_of m q ≡ 0
  all_unpinned none own q some = elim (cases_eq q b) [
    | inl e ↦ ap (pins_of m) e ∙ own
    | inr ne ↦ none q (let e = counted q in let a = away q ne in omega arith)
  ]

  -- where some block beneath is pinned
  pub unpinned_left : (mid : Live) → Frees m mid b 0 t false → (false ≡ true) ↔ ((q : ℕ) → 0 < times q (room_blocks r) → pins_of m q ≡ 0)
  unpinned_left mid frees = (λ e. absurd (cc), λ all. (frees_unpinned m mid b 0 t false frees).1 (none_pinned all).0)

  module _ (mid : Live) (frees : Frees m mid b 0 t true) where
    free : is_free (pins_of m) t ≡ true
    free = sym frees.answered

    pub mid_live : IsLive mid b
    mid_live = frees.replaced.live

    pub mid_pins : pins_of mid b ≡ pins_of m b
    mid_pins = frees.replaced.pinned

    mid_long : length (words_of mid b) ≡ length (words_of m b)
    mid_long =
        let e = size-left (pins_of m) t in
        let w = alone_holds.stands.within in
        ap length frees.replaced.written ∙ length-written (words_of m b) 0 (words (left (pins_of m) t)) (omega arith)

    pub unpinned_given : (done : Bool) → (done ≡ true) ↔ (pins_of mid b ≡ 0) → (done ≡ true) ↔ ((q : ℕ) → 0 < times q (room_blocks r) → pins_of m q ≡ 0)
    unpinned_given done answer = (
      λ ok. all_unpinned ((frees_unpinned m mid b 0 t true frees).0 refl) (sym mid_pins ∙ answer.0 ok),
      λ all. answer.1 (mid_pins ∙ (none_pinned all).1),
    )

    gone : (q : ℕ) → 0 < times_beneath q t → find mid q ≡ None
    gone = frees_gives m mid b 0 t frees

    used : used_by mid + footprint t ≡ used_by m
    used = used_freed m mid b 0 t alone_holds.stands true frees refl

    module _ (n : Live) (given : n ≡ remove mid b) where
      other_given : (q : ℕ) → q ≢ b → find n q ≡ find mid q
      other_given q ne = ap (λ (k : Live). find k q) given ∙ get-remove_other mid b q ne

      ended_given : (q : ℕ) → 0 < times q (room_blocks r) → find n q ≡ None
      ended_given q some = elim (cases_eq q b) [
        | inl e ↦ subst (λ p. find n p ≡ None) (sym e) (ap (λ (k : Live). find k b) given ∙ get-remove_same mid b)
        | inr ne ↦ other_given q ne ∙ gone q (let e = counted q in let a = away q ne in omega arith)
      ]

      ended_others : (q : ℕ) → times q (room_blocks r) ≡ 0 → find n q ≡ find m q
      ended_others q none =
          let ne : q ≢ b = λ e. (let c = counted b in let o = here_once in let z : times b (room_blocks r) ≡ 0 = subst (λ p. times p (room_blocks r) ≡ 0) e none in absurd (omega arith)) in
          let c = counted q in
          other_given q ne ∙ frees.replaced.others q ne (free-left (pins_of m) t free q) (omega arith)

      ended_used : used_by n + (footprint t + taken_for (length (words_of m r.block))) ≡ used_by m
      ended_used =
          let e : used_by n ≡ used_by (remove mid b) = ap used_by given in
          let g = used-removed mid b mid_live in
          let h : taken_for (length (words_of mid b)) ≡ taken_for (length (words_of m r.block)) = ap taken_for (mid_long ∙ ap (λ c. length (words_of m c)) (sym k.here)) in
          sum_up (used_by n) (used_by (remove mid b)) (footprint t) (taken_for (length (words_of mid b))) (taken_for (length (words_of m r.block))) (used_by mid) (used_by m) e g h used
        where
          sum_up : (a b f x y c d : ℕ) → a ≡ b → b + x ≡ c → x ≡ y → c + f ≡ d → a + (f + y) ≡ d
          sum_up a b f x y c d p q s u = omega arith

      ended_keeps : (x : Rooms) (i : ℕ) → IsSound ts m x → slice_get x.levels i ≡ Some (Stands r ∷ []) → Keeps m n (before_level x i)
      ended_keeps x i sound at q some = ended_others q (let s = sound.apart q in let c = before_and q x i r at in omega arith)

      ended_level : (x : Rooms) (i : ℕ) → IsSound ts m x → slice_get x.levels i ≡ Some (Stands r ∷ []) → EndsLevel ts m n x i
      ended_level x i sound at = let e = levels_end ts m n x i sound (ended_keeps x i sound at) in record { store = e.0; sound = e.1 }

      pub ends : Ends ts m n r
      ends = record { given = ended_given; others = ended_others; used = ended_used; level = ended_level }

pub laid_holds : (ts : List Shape) (m : Live) (l : Layout) (b : ℕ) (r : Room) (k : StandLaid ts m l b r) → HoldsTree m b 0 l (room_tree ts m r)
laid_holds ts m l b r k = subst (λ s. HoldsTree m b 0 s (room_tree ts m r)) k.layout (alone_holds ts m r.declared b r k.alone)

-- ---- answers

pub when_ok : {T E : Type 0} (r : Result T E) (P Q : Type 0) → (P → Q) → OnOk r P → OnOk r Q
when_ok (Ok x) P Q f p = f p
when_ok (Err e) P Q f p = tt

pub when_err : {T E : Type 0} (r : Result T E) (P Q : Type 0) → (P → Q) → OnErr r P → OnErr r Q
when_err (Ok x) P Q f p = tt
when_err (Err e) P Q f p = f p
