-- Activations that begin with words of their own.
use Rattle.std.proofs.Common.{◌≡◌, ℕ, zero, suc, ◌<◌, ◌≤◌, List, [], ◌∷◌, ◌++◌, length, map, refl, sym, ap, subst, ◌∙◌, arith, append_assoc, append-nil}
use Rattle.f3_program.specs.declared.program.Program.{Program}
use Rattle.f3_live_blocks.specs.Blocks.{Live, words_of, words_in, pins_of, pins_in}
use Rattle.f3_meaning_whole.specs.Value.{Value}
use Rattle.f3_meaning_whole.specs.Store.{Store}
use Rattle.f3_meaning_whole.specs.Exec.{held}
use Rattle.f3_meaning_whole.specs.Ran.{Entered, effect}
use Rattle.f3_rooms.specs.Held.{blocks_in_all, times}
use Rattle.f3_rooms.specs.Rooms.{Slot, Known, Rooms, room_values, room_blocks, level_blocks, levels_blocks, blocks_of as all_blocks, store_of as store_for}
use Rattle.f3_rooms.specs.Sound.{IsSound as AreSound}
use Rattle.f3_rooms.specs.Laws.{with_level}
use Rattle.f3_rooms.proofs.Framing.{times_append}
use Rattle.f3_rooms.proofs.Levels.{levels_begin}
use Rattle.f3_room_frames.specs.Active.{Activation, Active}
use Rattle.f3_room_frames.specs.States.{types_of, variables_of, arguments_of, room_of, level_of, level_held, levels_of, rooms_of}
use Rattle.f3_room_frames.specs.Sound.{most_words, CanStand, AllCanStand, blocks_held, IsSound}
use Rattle.f3_room_frames.specs.Laws.{HasRoom, ActivationsBeginWith, ActivationsEnterWith}
use Rattle.f3_room_frames.proofs.Levels.{times_all}
use Rattle.f3_room_frames.proofs.Calling.{levels_more, held_more, can_more, times_held, times_more, rooms_as}

-- values that are held for a call have no blocks
known_none : (q : ℕ) (vs : List Value) → times q (level_blocks (map Known vs)) ≡ 0
known_none q [] = refl
known_none q (v ∷ vs) = known_none q vs

levels_same : (q : ℕ) (ls : List (List Slot)) (vs : List Value) → times q (levels_blocks (ls ++ map Known vs ∷ [])) ≡ times q (levels_blocks ls)
levels_same q [] vs = let e = times_append q (level_blocks (map Known vs)) [] in let k = known_none q vs in omega arith
levels_same q (l ∷ ls) vs =
    let e = times_append q (level_blocks l) (levels_blocks (ls ++ map Known vs ∷ [])) in
    let f = times_append q (level_blocks l) (levels_blocks ls) in
    let g = levels_same q ls vs in
    omega arith

blocks_same : (q : ℕ) (x : Rooms) (vs : List Value) → times q (all_blocks (with_level x (map Known vs))) ≡ times q (all_blocks x)
blocks_same q x vs =
    let e = times_append q (room_blocks x.statics) (levels_blocks (x.levels ++ map Known vs ∷ [])) in
    let f = times_append q (room_blocks x.statics) (levels_blocks x.levels) in
    let g = levels_same q x.levels vs in
    omega arith

abbrev entered : List Value → Store → Store
entered vs store = effect (Entered vs) store

module _ (p : Program) (m n : Live) (x : Active) (a : Activation) (own : HasRoom p m n x a) where
  own_blocks : (q : ℕ) → times q (level_blocks (level_of p a)) ≡ times q (room_blocks (room_of p a))
  own_blocks q = let e = times_append q (room_blocks (room_of p a)) [] in omega arith

  -- a level more with these variables, behind rooms that have the blocks of those that stay
  level_begins : (z : Rooms) → AreSound (types_of p) m z → ((q : ℕ) → times q (all_blocks z) ≡ times q (all_blocks (rooms_of p x)))
      → (store_for (types_of p) n (with_level z (level_of p a)) ≡ entered (room_values (types_of p) n (room_of p a)) (store_for (types_of p) m z))
      × AreSound (types_of p) n (with_level z (level_of p a))
  level_begins z sound same =
      let t = levels_begin (types_of p) m n z (level_of p a) sound (λ q some. own.keeps q (let e = same q in omega arith)) (own.room, tt)
      (λ q. let e = same q in let o = own_blocks q in let once = own.apart q in omega arith) in
      (t.0 ∙ ap (λ us. entered us (store_for (types_of p) m z)) (append-nil (room_values (types_of p) n (room_of p a))), t.1)

  module _ (y : Active) (sound : IsSound p m x) (statics : y.statics ≡ x.statics) (activations : y.activations ≡ x.activations ++ a ∷ []) (whole : y.whole ≡ x.whole)
      (can : CanStand (types_of p) (variables_of p a.procedure)) where
    free : (q : ℕ) → 0 < times q (all_blocks (rooms_of p y)) → pins_of n q ≡ 0
    free q some = by (times q (room_blocks (room_of p a))) refl
      where
        by : (k : ℕ) → times q (room_blocks (room_of p a)) ≡ k → pins_of n q ≡ 0
        by zero e =
            let t = times_more x y a statics activations whole p q in
            let there : 0 < times q (all_blocks (rooms_of p x)) = omega arith in
            ap pins_in (own.keeps q there) ∙ sound.free q there
        by (suc k) e = own.free q (omega arith)

    few : (q : ℕ) → 0 < times q (blocks_held y) → length (words_of n q) ≤ most_words
    few q some = by (times q (blocks_in_all a.holds)) refl
      where
        by : (k : ℕ) → times q (blocks_in_all a.holds) ≡ k → length (words_of n q) ≤ most_words
        by zero e =
            let t = times_held x y a statics activations whole q in
            let all = times_all p q x in
            let most : length (words_of m q) ≤ most_words = sound.few q (omega arith) in
            let same : length (words_of n q) ≡ length (words_of m q) = ap (λ k. length (words_in k)) (own.keeps q (omega arith)) in
            omega arith
        by (suc k) e = own.few q (omega arith)

    all_sound : AreSound (types_of p) n (rooms_of p y) → IsSound p n y
    all_sound rooms = record {
      variables = record { statics = (sound.variables).statics; activations = subst (AllCanStand p) (sym activations) (can_more p x.activations a (sound.variables).activations can) };
      rooms = rooms;
      free = free;
      few = few;
    }

pub activations_begin_with : ActivationsBeginWith
activations_begin_with p m n x y a sound b can own =
    let more : y.activations ≡ x.activations ++ a ∷ [] = b.activations ∙ ap (λ xs. xs ++ a ∷ []) (sym b.none) in
    let levels : levels_of p y.activations ≡ levels_of p x.activations ++ level_of p a ∷ [] = ap (levels_of p) b.activations ∙ ap (λ xs. levels_of p xs ++ level_of p a ∷ []) (sym b.none) in
    let same : rooms_of p y ≡ with_level (rooms_of p x) (level_of p a) = rooms_as p x y (levels_of p x.activations ++ level_of p a ∷ []) b.statics b.whole levels in
    let t = level_begins p m n x a own (rooms_of p x) sound.rooms (λ q. refl) in (
      ap (store_for (types_of p) n) same ∙ t.0,
      all_sound p m n x a own y sound b.statics more b.whole can (subst (AreSound (types_of p) n) (sym same) t.1),
    )

pub activations_enter_with : ActivationsEnterWith
activations_enter_with p m n x y a sound b can own =
    let old : Rooms = rooms_of p x in
    let mid : Rooms = with_level old (level_held a) in
    let levels : levels_of p y.activations ≡ (levels_of p x.activations ++ level_held a ∷ []) ++ level_of p a ∷ []
    = ap (levels_of p) b.activations ∙ levels_more p x.activations a b.behind ∙ sym (append_assoc (levels_of p x.activations) (level_held a ∷ []) (level_of p a ∷ [])) in
    let same : rooms_of p y ≡ with_level mid (level_of p a) = rooms_as p x y ((levels_of p x.activations ++ level_held a ∷ []) ++ level_of p a ∷ []) b.statics b.whole levels in
    let first = held_more (types_of p) m old sound.rooms (held (arguments_of a)) in
    let t = level_begins p m n x a own mid first.1 (λ q. blocks_same q old (held (arguments_of a))) in (
      ap (store_for (types_of p) n) same ∙ t.0 ∙ ap (entered (room_values (types_of p) n (room_of p a))) first.0,
      all_sound p m n x a own y sound b.statics b.activations b.whole can (subst (AreSound (types_of p) n) (sym same) t.1),
    )
