-- Room for words.
use Rattle.std.specs.Prelude.{◌≡◌, ◌<◌, ◌^◌, ℕ, None, Result, Ok, Err}
use Rattle.std.specs.FinMap.{get as find}
use Rattle.f3_live_blocks.specs.Blocks.{Live, with_taken}
use Rattle.f3_meaning_whole.specs.declared.run_error.RunError.TheVariants.{HeapHasNoRoom}
use Rattle.f3_word_cells.specs.declared.state.Stop.{Stop}
use Rattle.f3_word_cells.specs.declared.state.Stop.TheVariants as stop
use Rattle.f3_word_cells.specs.Wants.{asked}

-- a block of so many words was taken; or a heap has no room for just these, or the host no memory
abbrev pub TookRoom : (Full Spent : ℕ → Type 0) → Live → Live → ℕ → Result ℕ Stop → Type 0
TookRoom Full Spent m n words (Ok b) = (find m b ≡ None) × (n ≡ with_taken m b words) × (words < 2 ^ 63)
TookRoom Full Spent m n words (Err (stop.Failed HeapHasNoRoom)) = Full (asked words)
TookRoom Full Spent m n words (Err stop.Memory) = Spent (asked words)
TookRoom Full Spent m n words (Err e) = ⊥
