-- What is in use where one level is open.
use Rattle.std.proofs.Common.{◌≡◌, ℕ, zero, suc, ◌+◌, ◌≤◌, List, [], ◌∷◌, ◌++◌, length, reverse, refl, ap, sym, subst, ◌∙◌, arith}
use Rattle.std.specs.Prelude.{Some, slice_get}
use Rattle.f3_program.specs.declared.program.Program.{Program}
use Rattle.f3_live_blocks.specs.Blocks.{Live, words_of}
use Rattle.f3_code.specs.State as s
use Rattle.f3_rooms.specs.Forms.{total}
use Rattle.f3_rooms.specs.Rooms.{Slot, Stands as Room, Rooms}
use Rattle.f3_rooms.specs.Sound.{AreLevels}
use Rattle.f3_word_cells.specs.declared.state.State.{State}
use Rattle.f3_word_cells.specs.Areas.{types_of}
use Rattle.f3_word_cells.specs.Cells.{IsHere}
use Rattle.f3_word_cells.specs.States.{Stands, AreCallers, level_rooms, levels_rooms, starts_of, statics_of, loose_blocks, own, beneath}
use Rattle.f3_word_cells.proofs.Within.{here_stands}
use Rattle.f3_word_account.specs.Owned.{room_blocks, owned, blocks_words}
use Rattle.f3_word_account.specs.Laws.{AreTwo, NothingLeaks}
use Rattle.f3_word_account.proofs.Counting.{used_by_owned}

pub starts_count : (n : ℕ) (ls : List (List Slot)) → length (starts_of n ls) ≡ length ls
starts_count n [] = refl
starts_count n (l ∷ ls) = let e = starts_count (n + length (level_rooms l)) ls in omega (arith, e)

-- a level of at most one is the first
only_level : (ls : List (List Slot)) (k : ℕ) (l : List Slot) → length ls ≤ 1 → slice_get ls k ≡ Some l → ls ≡ l ∷ []
only_level [] k l few e = absurd (cc)
only_level (s ∷ []) zero l few e = cc
only_level (s ∷ []) (suc k) l few e = absurd (cc)
only_level (s ∷ r ∷ ls) k l few e = absurd (omega (arith, few))

module _ (p : Program) (n : Live) (w : State) (x : Rooms) (t : s.State) (st : Stands p n w x t) where
  here_is : IsHere p x w.names.items.items w.here t.here
  here_is = here_stands p n (AreCallers p n (beneath w) (reverse w.callers.items.items) t.frames) x w.names.items.items w.here t.here (own w) t.stack st.stack

  are_two : length w.levels.items.items ≤ 1 → loose_blocks w ≡ [] → AreTwo p n w t
  are_two few none =
      let h = here_is in
      let is : x.levels ≡ (Room h.room ∷ []) ∷ [] =
      only_level x.levels w.here.level (Room h.room ∷ []) (let e = ap length st.levels in let f = starts_count 0 x.levels in omega (arith, e, f, few)) h.stands in
      let levels : AreLevels (types_of p) n ((Room h.room ∷ []) ∷ []) = subst (AreLevels (types_of p) n) is (st.sound).levels in
      let only : w.blocks.items.items ≡ (h.room).block ∷ [] = st.blocks ∙ ap levels_rooms is in
      let all : owned w ≡ w.statics ∷ (h.room).block ∷ [] = ap (λ bs. room_blocks w ++ bs) none ∙ ap (λ bs. (w.statics ∷ bs) ++ []) only in
      let used = used_by_owned p n w x t st ∙ ap (blocks_words n) all in
      record {
        block = (h.room).block;
        only = only;
        statics = subst (λ b. total (types_of p) (statics_of p) ≤ length (words_of n b)) st.statics
            (subst (λ ds. total (types_of p) ds ≤ length (words_of n (x.statics).block)) st.declared ((st.sound).statics).long);
        variables = subst (λ ds. total (types_of p) ds ≤ length (words_of n (h.room).block)) ((h.declared) ∙ sym h.variables) ((levels.0).0).long;
        used = omega (arith, used);
      }

pub nothing_leaks : NothingLeaks
nothing_leaks = are_two
