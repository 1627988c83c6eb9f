-- A part of a variable of a store becomes another: that alone changes.
use Rattle.std.proofs.Common.{◌≡◌, ℕ, zero, suc, ◌+◌, ◌-◌, ◌<◌, ◌≤◌, Bool, true, false, List, [], ◌∷◌, ◌++◌, length, refl, sym, ap, subst, ◌∙◌, arith}
use Rattle.std.proofs.lemmas.Bool.{ltb-true, ltb-false}
use Rattle.std.specs.Prelude.{Some, nat_lt, if◌then◌else◌, slice_index_or, slice_set, map}
use Rattle.f3_live_blocks.specs.Blocks.{Live, words_of}
use Rattle.f3_meaning_whole.specs.Value.{Value, Unallocated}
use Rattle.f3_meaning_whole.specs.Shape.{Shape}
use Rattle.f3_meaning_whole.specs.Store.{Store, Root, Static, Local, Step, with_part}
use Rattle.f3_rooms.specs.Held.{Held, blocks_in, blocks_in_all, times}
use Rattle.f3_rooms.specs.Forms.{total}
use Rattle.f3_rooms.specs.Rooms.{Room, Slot, Known, Stands, Rooms, room_values, level_values, room_blocks, level_blocks, levels_blocks, blocks_of}
use Rattle.f3_rooms.specs.Places.{Found, in_room, in_level, found, room_with, level_with, rooms_with}
use Rattle.f3_rooms.specs.Sound.{IsRoom, IsLevel, AreLevels, IsSound}
use Rattle.f3_rooms.specs.Laws.{Replaces, IsReplaced, PartsAreReplaced}
use Rattle.f3_rooms.proofs.Framing.{times_append, Kept, room_persists, level_stays, level_persists, levels_stay, levels_persist, room_stays}
use Rattle.f3_rooms.proofs.Reading.{none_found, variables_count, among, behind, level_is}
use Rattle.f3_rooms.proofs.Within.{one_more, IsOwned, owned_more, variables_inside, room_owns, level_owns, times_level}
use Rattle.f3_rooms.proofs.Replacing.{IsOpen, open_fewer, kept_beside, now, new_value, Turned, variables_turn}

-- ---- lists of values

set_among : (vs us : List Value) (i : ℕ) (v : Value) → i < length vs → slice_set vs i v ++ us ≡ slice_set (vs ++ us) i v
set_among [] us i v lt = absurd (omega arith)
set_among (w ∷ vs) us zero v lt = refl
set_among (w ∷ vs) us (suc i) v lt = ap (λ ws. w ∷ ws) (set_among vs us i v (omega arith))

set_behind : (vs us : List Value) (i : ℕ) (v : Value) → length vs ≤ i → vs ++ slice_set us (i - length vs) v ≡ slice_set (vs ++ us) i v
set_behind [] us i v le = let e : i - 0 ≡ i = omega arith in ap (λ k. slice_set us k v) e
set_behind (w ∷ vs) us zero v le = absurd (omega arith)
set_behind (w ∷ vs) us (suc i) v le =
    let e : suc i - suc (length vs) ≡ i - length vs = omega arith in
    ap (λ k. w ∷ (vs ++ slice_set us k v)) e ∙ ap (λ ws. w ∷ ws) (set_behind vs us i v (omega arith))

owned_level : (f : Found) (ts : List Shape) (ls : List (List Slot)) (k i : ℕ) (way : List Step) → in_level ts (slice_index_or ls k []) i way ≡ Some f → IsOwned f (levels_blocks ls)
owned_level f ts ls k i way e = owned_more f (level_blocks (slice_index_or ls k [])) (levels_blocks ls) (λ q. times_level q ls k) (level_owns f ts (slice_index_or ls k []) i way e)

module _ (ts : List Shape) (m n : Live) (f : Found) (u : Held) where
  abbrev changed : List Value → ℕ → List Step → List Value
  changed vs i way = slice_set vs i (with_part (slice_index_or vs i Unallocated) way (new_value m n f u))

  changed_among : (vs us : List Value) (i : ℕ) (way : List Step) → i < length vs → changed vs i way ++ us ≡ changed (vs ++ us) i way
  changed_among vs us i way lt =
      set_among vs us i (with_part (slice_index_or vs i Unallocated) way (new_value m n f u)) lt
      ∙ ap (λ v. slice_set (vs ++ us) i (with_part v way (new_value m n f u))) (sym (among vs us i lt))

  changed_behind : (vs us : List Value) (i : ℕ) (way : List Step) → length vs ≤ i → vs ++ changed us (i - length vs) way ≡ changed (vs ++ us) i way
  changed_behind vs us i way le =
      set_behind vs us i (with_part (slice_index_or us (i - length vs) Unallocated) way (new_value m n f u)) le
      ∙ ap (λ v. slice_set (vs ++ us) i (with_part v way (new_value m n f u))) (sym (behind vs us i le))

  -- ---- rooms and levels

  room_turns : (r : Room) (i : ℕ) (way : List Step) → in_room ts r i way ≡ Some f → IsRoom ts m r → IsOpen m n f u (room_blocks r)
      → Turned m n f u (room_values ts n (room_with r i way u) ≡ changed (room_values ts m r) i way) (IsRoom ts n (room_with r i way u))
      (in_room ts (room_with r i way u) i way ≡ Some (now m n f u)) (room_blocks r) (room_blocks (room_with r i way u))
  room_turns r i way e has opened =
      let t = variables_turn m n f u ts r.declared r.block 0 r.held i way e has.variables opened in
      let own = room_owns f ts r i way e in
      let one = one_more r.block r.block (blocks_in_all r.held) refl in
      let a = opened.apart r.block in
      let c : times r.block (blocks_in f.held) ≤ times r.block (blocks_in_all r.held) = (variables_inside f ts r.declared r.block 0 r.held i way e).counted r.block in
      let l = opened.live r.block (omega arith) in
      let long : total ts r.declared ≤ length (words_of m r.block) = has.long in
      let same : length (words_of n r.block) ≡ length (words_of m r.block) = l.1 in
      record {
        value = t.value;
        sound = record { live = l.0 has.live; long = omega arith; variables = t.sound };
        found = t.found;
        counted = λ q. let d = t.counted q in omega arith;
      }

  level_turns : (l : List Slot) (i : ℕ) (way : List Step) → in_level ts l i way ≡ Some f → IsLevel ts m l → IsOpen m n f u (level_blocks l)
      → Turned m n f u (level_values ts n (level_with l i way u) ≡ changed (level_values ts m l) i way) (IsLevel ts n (level_with l i way u))
      (in_level ts (level_with l i way u) i way ≡ Some (now m n f u)) (level_blocks l) (level_blocks (level_with l i way u))
  level_turns [] i way e has opened = none_found f e
  level_turns (Known v ∷ ss) zero way e has opened = none_found f e
  level_turns (Known v ∷ ss) (suc i) way e has opened =
      let t = level_turns ss i way e has.1 opened in
      record { value = ap (λ vs. v ∷ vs) t.value; sound = (tt, t.sound); found = t.found; counted = t.counted }
  level_turns (Stands r ∷ ss) i way e has opened = by (λ g. level_turns ss (i - length r.declared) way g has.1 (open_fewer m n f u (level_blocks (Stands r ∷ ss)) (level_blocks ss)
      (λ q. let s = times_append q (room_blocks r) (level_blocks ss) in omega arith) opened)) (nat_lt i (length r.declared)) refl e
    where
      many : length (room_values ts m r) ≡ length r.declared
      many = variables_count ts m r.declared r.block 0 r.held

      by : (in_level ts ss (i - length r.declared) way ≡ Some f → Turned m n f u (level_values ts n (level_with ss (i - length r.declared) way u)
          ≡ changed (level_values ts m ss) (i - length r.declared) way) (IsLevel ts n (level_with ss (i - length r.declared) way u))
          (in_level ts (level_with ss (i - length r.declared) way u) (i - length r.declared) way ≡ Some (now m n f u)) (level_blocks ss) (level_blocks (level_with ss (i - length r.declared) way u)))
          → (t : Bool) → nat_lt i (length r.declared) ≡ t → (if t then in_room ts r i way else in_level ts ss (i - length r.declared) way) ≡ Some f
          → Turned m n f u (level_values ts n (if t then Stands (room_with r i way u) ∷ ss else Stands r ∷ level_with ss (i - length r.declared) way u)
          ≡ changed (room_values ts m r ++ level_values ts m ss) i way)
          (IsLevel ts n (if t then Stands (room_with r i way u) ∷ ss else Stands r ∷ level_with ss (i - length r.declared) way u))
          (in_level ts (if t then Stands (room_with r i way u) ∷ ss else Stands r ∷ level_with ss (i - length r.declared) way u) i way ≡ Some (now m n f u))
          (room_blocks r ++ level_blocks ss) (level_blocks (if t then Stands (room_with r i way u) ∷ ss else Stands r ∷ level_with ss (i - length r.declared) way u))
      by further true t e =
          let r' = room_turns r i way e has.0 (open_fewer m n f u (level_blocks (Stands r ∷ ss)) (room_blocks r) (λ q. let s = times_append q (room_blocks r) (level_blocks ss) in omega arith) opened) in
          let kept : Kept m n (level_blocks ss) = kept_beside m n f u (level_blocks (Stands r ∷ ss)) (room_blocks r) (level_blocks ss) opened (room_owns f ts r i way e)
          (λ q. let s = times_append q (room_blocks r) (level_blocks ss) in omega arith) in
          record {
            value = ap (λ vs. vs ++ level_values ts n ss) r'.value ∙ ap (λ vs. changed (room_values ts m r) i way ++ vs) (level_stays ts m n ss kept)
                ∙ changed_among (room_values ts m r) (level_values ts m ss) i way (subst (λ k. i < k) (sym many) (ltb-true i (length r.declared) t));
            sound = (r'.sound, level_persists ts m n ss kept has.1);
            found = ap (λ c. if c then in_room ts (room_with r i way u) i way else in_level ts ss (i - length r.declared) way) t ∙ r'.found;
            counted = λ q. let c = r'.counted q in let s = times_append q (room_blocks r) (level_blocks ss) in
                let a = times_append q (room_blocks (room_with r i way u)) (level_blocks ss) in omega arith;
          }
      by further false t e =
          let l' = further e in
          let kept : Kept m n (room_blocks r) = kept_beside m n f u (level_blocks (Stands r ∷ ss)) (level_blocks ss) (room_blocks r) opened (level_owns f ts ss (i - length r.declared) way e)
          (λ q. let s = times_append q (room_blocks r) (level_blocks ss) in omega arith) in
          record {
            value = ap (λ vs. vs ++ level_values ts n (level_with ss (i - length r.declared) way u)) (room_stays ts m n r kept)
                ∙ ap (λ vs. room_values ts m r ++ vs) l'.value
                ∙ ap (λ k. room_values ts m r ++ changed (level_values ts m ss) (i - k) way) (sym many)
                ∙ changed_behind (room_values ts m r) (level_values ts m ss) i way (subst (λ k. k ≤ i) (sym many) (ltb-false i (length r.declared) t));
            sound = (room_persists ts m n r kept has.0, l'.sound);
            found = ap (λ c. if c then in_room ts r i way else in_level ts (level_with ss (i - length r.declared) way u) (i - length r.declared) way) t ∙ l'.found;
            counted = λ q. let c = l'.counted q in let s = times_append q (room_blocks r) (level_blocks ss) in
                let a = times_append q (room_blocks r) (level_blocks (level_with ss (i - length r.declared) way u)) in omega arith;
          }

  -- ---- levels of a store

  abbrev level_changed : List (List Slot) → ℕ → ℕ → List Step → List (List Slot)
  level_changed ls k i way = slice_set ls k (level_with (slice_index_or ls k []) i way u)

  levels_turn : (ls : List (List Slot)) (k i : ℕ) (way : List Step) → in_level ts (slice_index_or ls k []) i way ≡ Some f → AreLevels ts m ls → IsOpen m n f u (levels_blocks ls)
      → Turned m n f u (map (level_values ts n) (level_changed ls k i way)
      ≡ slice_set (map (level_values ts m) ls) k (changed (level_values ts m (slice_index_or ls k [])) i way))
      (AreLevels ts n (level_changed ls k i way)) (in_level ts (slice_index_or (level_changed ls k i way) k []) i way ≡ Some (now m n f u))
      (levels_blocks ls) (levels_blocks (level_changed ls k i way))
  levels_turn [] zero i way e has opened = none_found f e
  levels_turn [] (suc k) i way e has opened = none_found f e
  levels_turn (l ∷ ls) zero i way e has opened =
      let t = level_turns l i way e has.0 (open_fewer m n f u (levels_blocks (l ∷ ls)) (level_blocks l) (λ q. let s = times_append q (level_blocks l) (levels_blocks ls) in omega arith) opened) in
      let kept : Kept m n (levels_blocks ls) = kept_beside m n f u (levels_blocks (l ∷ ls)) (level_blocks l) (levels_blocks ls) opened (level_owns f ts l i way e)
      (λ q. let s = times_append q (level_blocks l) (levels_blocks ls) in omega arith) in
      record {
        value = ap (λ vs. vs ∷ map (level_values ts n) ls) t.value ∙ ap (λ vs. changed (level_values ts m l) i way ∷ vs) (levels_stay ts m n ls kept);
        sound = (t.sound, levels_persist ts m n ls kept has.1);
        found = t.found;
        counted = λ q. let c = t.counted q in let s = times_append q (level_blocks l) (levels_blocks ls) in let a = times_append q (level_blocks (level_with l i way u)) (levels_blocks ls) in omega arith;
      }
  levels_turn (l ∷ ls) (suc k) i way e has opened =
      let t = levels_turn ls k i way e has.1 (open_fewer m n f u (levels_blocks (l ∷ ls)) (levels_blocks ls) (λ q. let s = times_append q (level_blocks l) (levels_blocks ls) in omega arith) opened) in
      let kept : Kept m n (level_blocks l) = kept_beside m n f u (levels_blocks (l ∷ ls)) (levels_blocks ls) (level_blocks l) opened (owned_level f ts ls k i way e)
      (λ q. let s = times_append q (level_blocks l) (levels_blocks ls) in omega arith) in
      record {
        value = ap (λ vs. vs ∷ map (level_values ts n) (level_changed ls k i way)) (level_stays ts m n l kept) ∙ ap (λ vs. level_values ts m l ∷ vs) t.value;
        sound = (level_persists ts m n l kept has.0, t.sound);
        found = t.found;
        counted = λ q. let c = t.counted q in let s = times_append q (level_blocks l) (levels_blocks ls) in let a = times_append q (level_blocks l) (levels_blocks (level_changed ls k i way)) in omega arith;
      }

  -- ---- the store

  whole : (x : Rooms) → IsSound ts m x → Replaces m n x f u → IsOpen m n f u (blocks_of x)
  whole x sound r = record { apart = sound.apart; live = λ b lt. (λ was. (r.live b lt).0, (r.live b lt).1); same = r.same; form = r.form }

  -- what is held in the part is in the place of what was
  abbrev IsCounted : Rooms → Rooms → Type 0
  IsCounted x y = (q : ℕ) → times q (blocks_of y) + times q (blocks_in f.held) ≤ times q (blocks_of x) + times q (blocks_in u)

  once : (x y : Rooms) → IsSound ts m x → Replaces m n x f u → IsCounted x y → (q : ℕ) → times q (blocks_of y) ≤ 1
  once x y sound r counted q =
      let c = counted q in
      let one = sound.apart q in
      let own = r.once q in
      by (times q (blocks_in u)) refl (r.apart q) c one own
    where
      by : (k : ℕ) → times q (blocks_in u) ≡ k → (0 < times q (blocks_in u) → times q (blocks_of x) ≤ times q (blocks_in f.held))
          → times q (blocks_of y) + times q (blocks_in f.held) ≤ times q (blocks_of x) + times q (blocks_in u) → times q (blocks_of x) ≤ 1 → times q (blocks_in u) ≤ 1 → times q (blocks_of y) ≤ 1
      by zero e apart c one own = omega arith
      by (suc k) e apart c one own = let a = apart (omega arith) in omega arith

  static_replaced : (x : Rooms) → IsSound ts m x → (i : ℕ) (way : List Step) → found ts x (Static i) way ≡ Some f → Replaces m n x f u
      → IsReplaced ts m n x (Static i) way f u × IsCounted x (rooms_with x (Static i) way u)
  static_replaced x sound i way e r =
      let opened = whole x sound r in
      let bs : List ℕ = room_blocks x.statics in
      let cs : List ℕ = levels_blocks x.levels in
      let t = room_turns x.statics i way e sound.statics (open_fewer m n f u (blocks_of x) bs (λ q. let s = times_append q bs cs in omega arith) opened) in
      let kept : Kept m n cs = kept_beside m n f u (blocks_of x) bs cs opened (room_owns f ts x.statics i way e) (λ q. let s = times_append q bs cs in omega arith) in
      let counted : IsCounted x (rooms_with x (Static i) way u) = λ q. let c = t.counted q in let s = times_append q bs cs in let a = times_append q (room_blocks (room_with x.statics i way u)) cs in omega arith in (
        record {
          store = ap (λ vs. let s : Store = record { statics = vs; levels = map (level_values ts n) x.levels } in s) t.value
              ∙ ap (λ ls. let s : Store = record { statics = changed (room_values ts m x.statics) i way; levels = ls } in s) (levels_stay ts m n x.levels kept);
          sound = record {
            statics = t.sound;
            levels = levels_persist ts m n x.levels kept sound.levels;
            apart = once x (rooms_with x (Static i) way u) sound r counted;
          };
          found = t.found;
        },
        counted,
      )

  local_replaced : (x : Rooms) → IsSound ts m x → (level i : ℕ) (way : List Step) → found ts x (Local level i) way ≡ Some f → Replaces m n x f u
      → IsReplaced ts m n x (Local level i) way f u × IsCounted x (rooms_with x (Local level i) way u)
  local_replaced x sound level i way e r =
      let opened = whole x sound r in
      let bs : List ℕ = room_blocks x.statics in
      let cs : List ℕ = levels_blocks x.levels in
      let t = levels_turn x.levels level i way e sound.levels (open_fewer m n f u (blocks_of x) cs (λ q. let s = times_append q bs cs in omega arith) opened) in
      let kept : Kept m n bs = kept_beside m n f u (blocks_of x) cs bs opened (owned_level f ts x.levels level i way e) (λ q. let s = times_append q bs cs in omega arith) in
      let counted : IsCounted x (rooms_with x (Local level i) way u) = λ q. let c = t.counted q in let s = times_append q bs cs in
      let a = times_append q bs (levels_blocks (level_changed x.levels level i way)) in omega arith in (
        record {
          store = ap (λ vs. let s : Store = record { statics = vs; levels = map (level_values ts n) (level_changed x.levels level i way) } in s) (room_stays ts m n x.statics kept)
              ∙ ap (λ ls. let s : Store = record { statics = room_values ts m x.statics; levels = ls } in s)
              (t.value ∙ ap (λ vs. slice_set (map (level_values ts m) x.levels) level (changed vs i way)) (sym (level_is ts m x.levels level)));
          sound = record {
            statics = room_persists ts m n x.statics kept sound.statics;
            levels = t.sound;
            apart = once x (rooms_with x (Local level i) way u) sound r counted;
          };
          found = t.found;
        },
        counted,
      )

pub part_replaced : (ts : List Shape) (m n : Live) (x : Rooms) → IsSound ts m x → (r : Root) (way : List Step) (f : Found) → found ts x r way ≡ Some f
    → (u : Held) → Replaces m n x f u
    → IsReplaced ts m n x r way f u × ((q : ℕ) → times q (blocks_of (rooms_with x r way u)) + times q (blocks_in f.held) ≤ times q (blocks_of x) + times q (blocks_in u))
part_replaced ts m n x sound (Static i) way f e u r = static_replaced ts m n f u x sound i way e r
part_replaced ts m n x sound (Local level i) way f e u r = local_replaced ts m n f u x sound level i way e r

pub parts_are_replaced : PartsAreReplaced
parts_are_replaced ts m n x sound r way f e u replaces = (part_replaced ts m n x sound r way f e u replaces).0
