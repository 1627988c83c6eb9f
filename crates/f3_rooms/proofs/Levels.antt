-- Levels that begin and end.
use Rattle.std.proofs.Common.{◌≡◌, ℕ, zero, suc, ◌+◌, ◌≤◌, List, [], ◌∷◌, ◌++◌, take, sym, ap, ◌∙◌, arith}
use Rattle.std.proofs.lemmas.List.{map-append, take-map}
use Rattle.f3_live_blocks.specs.Blocks.{Live}
use Rattle.f3_meaning_whole.specs.Shape.{Shape}
use Rattle.f3_meaning_whole.specs.Store.{Store}
use Rattle.f3_rooms.specs.Held.{times}
use Rattle.f3_rooms.specs.Rooms.{Slot, Rooms, room_values, level_values, room_blocks, level_blocks, levels_blocks, blocks_of}
use Rattle.f3_rooms.specs.Sound.{IsLevel, AreLevels, IsSound}
use Rattle.f3_rooms.specs.Laws.{before_level, LevelsBegin, LevelsEnd}
use Rattle.f3_rooms.proofs.Framing.{times_append}
use Rattle.f3_rooms.proofs.Keeping.{kept_all, store_stays, rooms_persist}

-- ---- one more

levels_more : (ts : List Shape) (n : Live) (ls : List (List Slot)) (l : List Slot) → AreLevels ts n ls → IsLevel ts n l → AreLevels ts n (ls ++ l ∷ [])
levels_more ts n [] l are is = (is, tt)
levels_more ts n (k ∷ ls) l are is = (are.0, levels_more ts n ls l are.1 is)

times_more : (q : ℕ) (ls : List (List Slot)) (l : List Slot) → times q (levels_blocks (ls ++ l ∷ [])) ≡ times q (levels_blocks ls) + times q (level_blocks l)
times_more q [] l = let e = times_append q (level_blocks l) [] in omega arith
times_more q (k ∷ ls) l =
    let e = times_append q (level_blocks k) (levels_blocks (ls ++ l ∷ [])) in
    let f = times_append q (level_blocks k) (levels_blocks ls) in
    let g = times_more q ls l in
    omega arith

pub levels_begin : LevelsBegin
levels_begin ts m n x l sound keeps is apart =
    let old : IsSound ts n x = rooms_persist ts m n x sound (kept_all m n x keeps) in (
      ap (λ ls. let s : Store = record { statics = room_values ts n x.statics; levels = ls } in s) (map-append (level_values ts n) x.levels (l ∷ []))
          ∙ ap (λ s. let t : Store = record { statics = s.statics; levels = s.levels ++ level_values ts n l ∷ [] } in t) (store_stays ts m n x (kept_all m n x keeps)),
      record {
        statics = old.statics;
        levels = levels_more ts n x.levels l old.levels is;
        apart = λ q.
            let e = times_append q (room_blocks x.statics) (levels_blocks (x.levels ++ l ∷ [])) in
            let f = times_append q (room_blocks x.statics) (levels_blocks x.levels) in
            let g = times_more q x.levels l in
            let h = apart q in
            omega arith;
      },
    )

-- ---- fewer

levels_fewer : (ts : List Shape) (m : Live) (ls : List (List Slot)) (k : ℕ) → AreLevels ts m ls → AreLevels ts m (take k ls)
levels_fewer ts m ls zero are = tt
levels_fewer ts m [] (suc k) are = tt
levels_fewer ts m (l ∷ ls) (suc k) are = (are.0, levels_fewer ts m ls k are.1)

times_fewer : (q : ℕ) (ls : List (List Slot)) (k : ℕ) → times q (levels_blocks (take k ls)) ≤ times q (levels_blocks ls)
times_fewer q ls zero = omega arith
times_fewer q [] (suc k) = omega arith
times_fewer q (l ∷ ls) (suc k) =
    let e = times_append q (level_blocks l) (levels_blocks (take k ls)) in
    let f = times_append q (level_blocks l) (levels_blocks ls) in
    let g = times_fewer q ls k in
    omega arith

before_sound : (ts : List Shape) (m : Live) (x : Rooms) (k : ℕ) → IsSound ts m x → IsSound ts m (before_level x k)
before_sound ts m x k sound = record {
  statics = sound.statics;
  levels = levels_fewer ts m x.levels k sound.levels;
  apart = λ q.
      let e = times_append q (room_blocks x.statics) (levels_blocks (take k x.levels)) in
      let f = times_append q (room_blocks x.statics) (levels_blocks x.levels) in
      let g = times_fewer q x.levels k in
      let h : times q (blocks_of x) ≤ 1 = sound.apart q in
      omega arith;
}

pub levels_end : LevelsEnd
levels_end ts m n x k sound keeps =
    let y : Rooms = before_level x k in (
      store_stays ts m n y (kept_all m n y keeps)
          ∙ ap (λ ls. let s : Store = record { statics = room_values ts m x.statics; levels = ls } in s) (sym (take-map (level_values ts m) k x.levels)),
      rooms_persist ts m n y (before_sound ts m x k sound) (kept_all m n y keeps),
    )
