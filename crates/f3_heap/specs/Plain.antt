-- The plain map: slot n of the list, counted from 1, is the block with the word n where it is live.
use Rattle.std.specs.Prelude.{ℕ, ◌≡◌, ◌≤◌, ◌<◌, ◌++◌, ◌∷◌, [], false, get_or, set, cond, List, length, Option, None, Some}
use Rattle.std.specs.List.{sum_by, All}
use Rattle.f3_heap.specs.declared.plain.Slot.{Slot}
use Rattle.f3_heap_laws.specs.Account.{r}
use Rattle.f3_live_blocks.specs.Blocks.{Block, Live}
use Rattle.f3_heap_laws.specs.Placed.{live_from}

abbrev pub slot_block : Slot → Option Block
slot_block s = cond s.live (Some (record { words = s.words.items; pins = s.pins })) None

abbrev pub one_each : Slot → ℕ
one_each s = 1

abbrev pub slot_used : Slot → ℕ
slot_used s = cond s.live (r (length s.words.items)) 0

unfoldable pub live_slots : List Slot → Live
live_slots slots = live_from slot_block one_each 1 slots

-- `used` is the account of the slots and within the size, and `scratch` words have room for those of each
pub record IsAccounted (slots : List Slot) (size used scratch : ℕ) : Type 0 where
  pub account : used ≡ sum_by slot_used slots
  pub within : used ≤ size
  pub room : All (λ s. length s.words.items ≤ scratch) slots

-- s was put into a free slot at i, or behind the last slot
pub data IsPut : List Slot → Slot → ℕ → List Slot → Type 0 where
  reused : {old new : List Slot} {s : Slot} {i : ℕ} → i < length old → ((d : Slot) → (get_or old i d).live ≡ false) → new ≡ set old i s → IsPut old s i new
  pushed : {old new : List Slot} {s : Slot} {i : ℕ} → i ≡ length old → new ≡ old ++ s ∷ [] → IsPut old s i new
