-- Each live block is one that a state has.
use Rattle.std.proofs.Common.{◌≡◌, ℕ, ◌<◌, ◌≤◌, List, [], ◌∷◌, ◌++◌, zero, suc, refl, ap, sym, ◌∙◌, arith}
use Rattle.f3_program.specs.declared.program.Program.{Program}
use Rattle.f3_live_blocks.specs.Blocks.{Live, IsLive}
use Rattle.f3_code.specs.State as s
use Rattle.f3_rooms.specs.Held.{Row, blocks_in_all, times}
use Rattle.f3_rooms.specs.Rooms.{Slot, Known, Stands as Room, Rooms, slot_blocks, level_blocks, levels_blocks, blocks_of}
use Rattle.f3_rooms.proofs.Framing.{times_append}
use Rattle.f3_rooms.proofs.Living.{all_live}
use Rattle.f3_word_cells.specs.declared.state.State.{State}
use Rattle.f3_word_cells.specs.Areas.{types_of}
use Rattle.f3_word_cells.specs.States.{Stands, slot_rooms, level_rooms, levels_rooms, loose_blocks, IsBareSlot, IsBareLevel, AreBare}
use Rattle.f3_word_account.specs.Owned.{room_blocks, owned}
use Rattle.f3_word_account.specs.Laws.{LiveBlocksAreOwned}

-- ---- rooms in which nothing is allocated have no other blocks

bare_slot : (s : Slot) → IsBareSlot s → slot_blocks s ≡ slot_rooms s
bare_slot (Known v) bare = refl
bare_slot (Room r) bare = ap (λ (hs : Row). r.block ∷ blocks_in_all hs) bare

bare_level : (ss : List Slot) → IsBareLevel ss → level_blocks ss ≡ level_rooms ss
bare_level [] bare = refl
bare_level (s ∷ ss) bare = ap (λ bs. bs ++ level_blocks ss) (bare_slot s bare.0) ∙ ap (λ bs. slot_rooms s ++ bs) (bare_level ss bare.1)

bare_levels : (ls : List (List Slot)) → AreBare ls → levels_blocks ls ≡ levels_rooms ls
bare_levels [] bare = refl
bare_levels (l ∷ ls) bare = ap (λ bs. bs ++ levels_blocks ls) (bare_level l bare.0) ∙ ap (λ bs. level_rooms l ++ bs) (bare_levels ls bare.1)

module _ (p : Program) (m : Live) (w : State) (x : Rooms) (t : s.State) (st : Stands p m w x t) where
  rooms_are : blocks_of x ≡ room_blocks w
  rooms_are =
      ap (λ (hs : Row). ((x.statics).block ∷ blocks_in_all hs) ++ levels_blocks x.levels) st.bare
      ∙ ap (λ bs. (x.statics).block ∷ bs) (bare_levels x.levels st.all_bare ∙ sym st.blocks)
      ∙ ap (λ b. b ∷ w.blocks.items.items) st.statics

  -- all of them
  pub owned_is : blocks_of x ++ loose_blocks w ≡ owned w
  owned_is = ap (λ bs. bs ++ loose_blocks w) rooms_are

  pub owned_once : (q : ℕ) → times q (owned w) ≤ 1
  owned_once q = let e = ap (times q) owned_is in let f = st.once q in omega (arith, e, f)

  pub owned_all : (q : ℕ) → IsLive m q → 0 < times q (owned w)
  owned_all q live = let e = ap (times q) owned_is in let f = st.all q live in omega (arith, e, f)

  pub owned_live : (q : ℕ) → 0 < times q (owned w) → IsLive m q
  owned_live q some = by (times q (loose_blocks w)) refl
    where
      by : (k : ℕ) → times q (loose_blocks w) ≡ k → IsLive m q
      by zero e = all_live (types_of p) m x st.sound q
          (let f = ap (times q) owned_is in let g = times_append q (blocks_of x) (loose_blocks w) in omega (arith, e, f, g, some))
      by (suc k) e = st.live q (omega (arith, e))

pub live_blocks_are_owned : LiveBlocksAreOwned
live_blocks_are_owned p m w x t st = record {
  rooms = rooms_are p m w x t st;
  once = λ q live. let e = owned_once p m w x t st q in let f = owned_all p m w x t st q live in omega (arith, e, f);
  live = owned_live p m w x t st;
}
