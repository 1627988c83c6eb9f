-- What keeps each live block one of the store's.
use Rattle.std.proofs.Common.{◌≡◌, inl, inr, ℕ, zero, suc, ◌+◌, List, [], ◌∷◌, ◌++◌, take, drop, refl, ap, arith}
use Rattle.f3_rooms.specs.Held.{Empty, blocks_in, times}
use Rattle.f3_rooms.specs.Rooms.{Slot, Rooms, room_blocks, level_blocks, levels_blocks}
use Rattle.f3_rooms.specs.Places.{rooms_with}
use Rattle.f3_rooms.proofs.Framing.{times_append}
use Rattle.f3_rooms.proofs.Freeing.{emptied}
use Rattle.f3_rooms.proofs.Within.{store_owns}
use Rattle.f3_room_account.specs.Laws.{PartsKeepAll, MovesKeepAll, LevelsBeginWithAll, LevelsEndWithAll}
use Rattle.f3_room_account.proofs.Exchanging.{blocks_exchanged}

pub parts_keep_all : PartsKeepAll
parts_keep_all ts m n x sound all r way f at u is b live =
    let e = blocks_exchanged ts m x sound r way f at u b in
    let c = (store_owns ts x r way f at).counted b in
    elim (is b live) [
      | inl was ↦ let k = all b was.0 in let z = was.1 in omega arith
      | inr new ↦ omega arith
    ]

pub moves_keep_all : MovesKeepAll
moves_keep_all ts m n x sound all r q way other f g from rank form to none same b live =
    let y : Rooms = rooms_with x r way Empty in
    let mid = emptied ts m x sound r way f from rank form m (λ b z. refl) in
    let first = blocks_exchanged ts m x sound r way f from Empty b in
    let second = blocks_exchanged ts _ y mid.sound q other g to f.held b in
    let z : times b (blocks_in g.held) ≡ 0 = ap (λ h. times b (blocks_in h)) none in
    let k = all b (same b live) in
    omega arith

times_more : (q : ℕ) (ls : List (List Slot)) (l : List Slot) → times q (levels_blocks (ls ++ l ∷ [])) ≡ times q (levels_blocks ls) + times q (level_blocks l)
times_more q [] l = let e = times_append q (level_blocks l) [] in omega arith
times_more q (k ∷ ls) l =
    let e = times_append q (level_blocks k) (levels_blocks (ls ++ l ∷ [])) in
    let f = times_append q (level_blocks k) (levels_blocks ls) in
    let g = times_more q ls l in
    omega arith

pub levels_begin_with_all : LevelsBeginWithAll
levels_begin_with_all m n x l all is b live =
    let e = times_append b (room_blocks x.statics) (levels_blocks (x.levels ++ l ∷ [])) in
    let f = times_append b (room_blocks x.statics) (levels_blocks x.levels) in
    let g = times_more b x.levels l in
    elim (is b live) [
      | inl was ↦ let k = all b was in omega arith
      | inr new ↦ omega arith
    ]

times_parted : (q : ℕ) (ls : List (List Slot)) (k : ℕ) → times q (levels_blocks ls) ≡ times q (levels_blocks (take k ls)) + times q (levels_blocks (drop k ls))
times_parted q ls zero = omega arith
times_parted q [] (suc k) = refl
times_parted q (l ∷ ls) (suc k) =
    let e = times_append q (level_blocks l) (levels_blocks (take k ls)) in
    let f = times_append q (level_blocks l) (levels_blocks ls) in
    let g = times_parted q ls k in
    omega arith

pub levels_end_with_all : LevelsEndWithAll
levels_end_with_all m n x k all is b live =
    let e = times_append b (room_blocks x.statics) (levels_blocks (take k x.levels)) in
    let f = times_append b (room_blocks x.statics) (levels_blocks x.levels) in
    let g = times_parted b x.levels k in
    let was = is b live in
    let z = was.1 in
    let h = all b was.0 in
    omega arith
