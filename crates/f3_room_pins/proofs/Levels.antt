-- Levels that begin and end keep pins.
use Rattle.std.proofs.Common.{◌≡◌, inl, inr, ℕ, zero, suc, ◌+◌, ◌≤◌, ◌<◌, List, [], ◌∷◌, ◌++◌, length, take, refl, sym, ap, ◌∙◌, arith}
use Rattle.std.specs.Prelude.{⊤, slice_index_or}
use Rattle.f3_live_blocks.specs.Blocks.{pins_of}
use Rattle.f3_meaning_whole.specs.Shape.{Shape}
use Rattle.f3_meaning_whole.specs.Store.{Root, Static, Local, Step, Component, Element, Contents}
use Rattle.f3_meaning_whole.specs.Reference.{Reference}
use Rattle.f3_rooms.specs.Held.{times}
use Rattle.f3_rooms.specs.Rooms.{Slot, Rooms, room_blocks, level_blocks, levels_blocks, blocks_of}
use Rattle.f3_rooms.specs.Places.{in_level, found}
use Rattle.f3_rooms.specs.Laws.{with_level, before_level}
use Rattle.f3_rooms.proofs.Framing.{times_append}
use Rattle.f3_room_pins.specs.Pins.{block_at, blocks_behind, blocks_lent, times_lent, AreThere}
use Rattle.f3_room_pins.specs.Laws.{StayAt, IsBefore, AreBefore, LevelsBeginUnpinned, LevelsEndUnpinned}
use Rattle.f3_room_pins.proofs.Changing.{none_lent}

-- Rooms in which the variables that are lent stand as they stood.
module _ (ts : List Shape) (x y : Rooms) where
  abbrev IsSame : Root → Type 0
  IsSame r = (way : List Step) → found ts y r way ≡ found ts x r way

  abbrev AreSame : List Reference → Type 0
  AreSame [] = ⊤
  AreSame (l ∷ ls) = IsSame l.path.root × AreSame ls

  same_behind : (r : Root) → IsSame r → (front way : List Step) → blocks_behind ts y r front way ≡ blocks_behind ts x r front way
  same_behind r same front [] = refl
  same_behind r same front (Component k ∷ way) = same_behind r same (front ++ Component k ∷ []) way
  same_behind r same front (Element k ∷ way) = same_behind r same (front ++ Element k ∷ []) way
  same_behind r same front (Contents ∷ way) =
      ap (λ o. block_at o ++ blocks_behind ts y r (front ++ Contents ∷ []) way) (same front)
      ∙ ap (λ bs. block_at (found ts x r front) ++ bs) (same_behind r same (front ++ Contents ∷ []) way)

  same_times : (b : ℕ) (lent : List Reference) → AreSame lent → times_lent ts y b lent ≡ times_lent ts x b lent
  same_times b [] same = refl
  same_times b (l ∷ ls) same =
      let e : times b (blocks_lent ts y l) ≡ times b (blocks_lent ts x l) = ap (times b) (same_behind l.path.root same.0 [] l.path.steps) in
      let i = same_times b ls same.1 in
      omega arith

  same_there : (lent : List Reference) → AreSame lent → AreThere ts x lent → AreThere ts y lent
  same_there [] same there = tt
  same_there (l ∷ ls) same there = (
    elim there.0 [
      | inl none ↦ inl (same.0 [] ∙ none)
      | inr some ↦ inr (some.0, same.0 l.path.steps ∙ some.1)
    ],
    same_there ls same.1 there.1,
  )

  same_stay : (lent : List Reference) → AreSame lent → StayAt ts x y lent
  same_stay [] same = tt
  same_stay (l ∷ ls) same = (λ f at. (f.held, same.0 l.path.steps ∙ at), same_stay ls same.1)

-- ---- a level more

index_more : (ls : List (List Slot)) (l : List Slot) (k : ℕ) → k < length ls → slice_index_or (ls ++ l ∷ []) k [] ≡ slice_index_or ls k []
index_more [] l k lt = absurd (omega arith)
index_more (j ∷ ls) l zero lt = refl
index_more (j ∷ ls) l (suc k) lt = index_more ls l k (omega arith)

begin_same : (ts : List Shape) (x : Rooms) (l : List Slot) (r : Root) → IsBefore (length x.levels) r → IsSame ts x (with_level x l) r
begin_same ts x l (Static i) before way = refl
begin_same ts x l (Local level i) before way = ap (λ k. in_level ts k i way) (index_more x.levels l level before)

all_begin_same : (ts : List Shape) (x : Rooms) (l : List Slot) (lent : List Reference) → AreBefore (length x.levels) lent → AreSame ts x (with_level x l) lent
all_begin_same ts x l [] before = tt
all_begin_same ts x l (k ∷ ls) before = (begin_same ts x l k.path.root before.0, all_begin_same ts x l ls before.1)

times_more : (q : ℕ) (ls : List (List Slot)) (l : List Slot) → times q (levels_blocks (ls ++ l ∷ [])) ≡ times q (levels_blocks ls) + times q (level_blocks l)
times_more q [] l = let e = times_append q (level_blocks l) [] in omega arith
times_more q (k ∷ ls) l =
    let e = times_append q (level_blocks k) (levels_blocks (ls ++ l ∷ [])) in
    let f = times_append q (level_blocks k) (levels_blocks ls) in
    let g = times_more q ls l in
    omega arith

pub levels_begin_unpinned : LevelsBeginUnpinned
levels_begin_unpinned ts m n x lent l pinned there before apart same new = record {
  pinned = λ b some. by b (times b (level_blocks l)) refl some ∙ sym (same_times ts x (with_level x l) b lent (all_begin_same ts x l lent before));
  there = same_there ts x (with_level x l) lent (all_begin_same ts x l lent before) there;
  same = same_stay ts x (with_level x l) lent (all_begin_same ts x l lent before);
}
  where
    by : (b k : ℕ) → times b (level_blocks l) ≡ k → 0 < times b (blocks_of (with_level x l)) → pins_of n b ≡ times_lent ts x b lent
    by b zero e some =
        let s = times_append b (room_blocks x.statics) (levels_blocks (x.levels ++ l ∷ [])) in
        let f = times_append b (room_blocks x.statics) (levels_blocks x.levels) in
        let g = times_more b x.levels l in
        same b (omega arith) ∙ pinned b (omega arith)
    by b (suc k) e some = let a = apart b in new b (omega arith) ∙ sym (none_lent ts x b (omega arith) lent)

-- ---- fewer levels

index_fewer : (ls : List (List Slot)) (j k : ℕ) → k < j → slice_index_or (take j ls) k [] ≡ slice_index_or ls k []
index_fewer ls zero k lt = absurd (omega arith)
index_fewer [] (suc j) k lt = refl
index_fewer (l ∷ ls) (suc j) zero lt = refl
index_fewer (l ∷ ls) (suc j) (suc k) lt = index_fewer ls j k (omega arith)

end_same : (ts : List Shape) (x : Rooms) (k : ℕ) (r : Root) → IsBefore k r → IsSame ts x (before_level x k) r
end_same ts x k (Static i) before way = refl
end_same ts x k (Local level i) before way = ap (λ l. in_level ts l i way) (index_fewer x.levels k level before)

all_end_same : (ts : List Shape) (x : Rooms) (k : ℕ) (lent : List Reference) → AreBefore k lent → AreSame ts x (before_level x k) lent
all_end_same ts x k [] before = tt
all_end_same ts x k (l ∷ ls) before = (end_same ts x k l.path.root before.0, all_end_same ts x k ls before.1)

times_fewer : (q : ℕ) (ls : List (List Slot)) (k : ℕ) → times q (levels_blocks (take k ls)) ≤ times q (levels_blocks ls)
times_fewer q ls zero = omega arith
times_fewer q [] (suc k) = omega arith
times_fewer q (l ∷ ls) (suc k) =
    let e = times_append q (level_blocks l) (levels_blocks (take k ls)) in
    let f = times_append q (level_blocks l) (levels_blocks ls) in
    let g = times_fewer q ls k in
    omega arith

pub levels_end_unpinned : LevelsEndUnpinned
levels_end_unpinned ts m n x lent k pinned there before same =
    let are : AreSame ts x (before_level x k) lent = all_end_same ts x k lent before in
    record {
      pinned = λ b some.
          let e = times_append b (room_blocks x.statics) (levels_blocks (take k x.levels)) in
          let f = times_append b (room_blocks x.statics) (levels_blocks x.levels) in
          let g = times_fewer b x.levels k in
          same b some ∙ (pinned b (omega arith) ∙ sym (same_times ts x (before_level x k) b lent are));
      there = same_there ts x (before_level x k) lent are there;
      same = same_stay ts x (before_level x k) lent are;
    }
