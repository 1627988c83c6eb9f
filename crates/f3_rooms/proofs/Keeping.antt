-- Where the blocks of variables are as they were, the store is.
use Rattle.std.proofs.Common.{◌≡◌, ℕ, pos, List, [], ◌∷◌, length, map, is_some, refl, ap, ◌∙◌}
use Rattle.std.specs.Prelude.{slice_index_or}
use Rattle.std.specs.FinMap.{get as find}
use Rattle.f3_live_blocks.specs.Blocks.{Live, words_in}
use Rattle.f3_meaning_whole.specs.Shape.{Shape}
use Rattle.f3_meaning_whole.specs.Store.{Store}
use Rattle.f3_rooms.specs.Rooms.{Slot, Rooms, room_values, level_values, room_blocks, level_blocks, levels_blocks, blocks_of, store_of}
use Rattle.f3_rooms.specs.Sound.{IsSound}
use Rattle.f3_rooms.specs.Laws.{Keeps, KeptBlocksKeep}
use Rattle.f3_rooms.proofs.Framing.{Steady, Kept, kept_front, kept_back, room_stays, room_persists, level_stays, levels_persist}

-- a block that is as it was
pub as_it_was : (m n : Live) (q : ℕ) → find n q ≡ find m q → Steady m n q
as_it_was m n q e = record {
  live = λ h. ap is_some e ∙ h;
  long = ap (λ k. length (words_in k)) e;
  same = λ i. ap (λ k. slice_index_or (words_in k) i (pos 0)) e;
}

pub kept_all : (m n : Live) (x : Rooms) → Keeps m n x → Kept m n (blocks_of x)
kept_all m n x keeps q some = as_it_was m n q (keeps q some)

module _ (ts : List Shape) (m n : Live) where
  pub levels_stay : (ls : List (List Slot)) → Kept m n (levels_blocks ls) → map (level_values ts n) ls ≡ map (level_values ts m) ls
  levels_stay [] kept = refl
  levels_stay (l ∷ ls) kept =
      ap (λ vs. vs ∷ map (level_values ts n) ls) (level_stays ts m n l (kept_front m n (level_blocks l) (levels_blocks ls) kept))
      ∙ ap (λ ws. level_values ts m l ∷ ws) (levels_stay ls (kept_back m n (level_blocks l) (levels_blocks ls) kept))

  pub store_stays : (x : Rooms) → Kept m n (blocks_of x) → store_of ts n x ≡ store_of ts m x
  store_stays x kept =
      ap (λ vs. let s : Store = record { statics = vs; levels = map (level_values ts n) x.levels } in s)
      (room_stays ts m n x.statics (kept_front m n (room_blocks x.statics) (levels_blocks x.levels) kept))
      ∙ ap (λ ls. let s : Store = record { statics = room_values ts m x.statics; levels = ls } in s)
      (levels_stay x.levels (kept_back m n (room_blocks x.statics) (levels_blocks x.levels) kept))

  pub rooms_persist : (x : Rooms) → IsSound ts m x → Kept m n (blocks_of x) → IsSound ts n x
  rooms_persist x sound kept = record {
    statics = room_persists ts m n x.statics (kept_front m n (room_blocks x.statics) (levels_blocks x.levels) kept) sound.statics;
    levels = levels_persist ts m n x.levels (kept_back m n (room_blocks x.statics) (levels_blocks x.levels) kept) sound.levels;
    apart = sound.apart;
  }

pub kept_blocks_keep : KeptBlocksKeep
kept_blocks_keep ts m n x sound keeps = (store_stays ts m n x (kept_all m n x keeps), rooms_persist ts m n x sound (kept_all m n x keeps))
