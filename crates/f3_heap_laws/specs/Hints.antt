-- Where a search along the free list may begin (own rule): for each of some widths the list is known to have no block as wide before some free block.
use Rattle.std.specs.Prelude.{ℕ, ℤ, ◌≡◌, ◌+◌, ◌*◌, ◌<◌, ◌⊎◌, List, [], ◌∷◌, length, get_or, ◌++◌, cond, nat_le, nat_lt, ◌&&◌, ◌||◌}
use Rattle.f3_heap_laws.specs.Account.{r}
use Rattle.f3_heap_laws.specs.Segments.{Segment, Used, Free, first_free, Cuts}

-- `at` is a free block's place, or `none`, and every free block before it is smaller than n words; the segments begin at p
abbrev pub HintFrom : ℕ → ℕ → ℕ → ℕ → List Segment → Type 0
HintFrom none n at p [] = at ≡ none
HintFrom none n at p (Used ws pins ∷ ss) = HintFrom none n at (p + r (length ws)) ss
HintFrom none n at p (Free junk ∷ ss) = (at ≡ p) ⊎ ((length junk + 4 < n) × HintFrom none n at (p + (length junk + 4)) ss)

-- there are so many widths, in whole fours of words, and the widest serves all wider blocks too
abbrev pub classes : ℕ
classes = 32

abbrev pub width : ℕ → ℕ
width i = 4 * (i + 1)

-- a place for each width
abbrev pub AreHints : ℕ → List Segment → List ℕ → Type 0
AreHints none segs hints = (i : ℕ) → i < classes → HintFrom none (width i) (get_or hints i 0) 0 segs

-- places from `from` on and below `until` become `to`
abbrev pub moved : ℕ → ℕ → ℕ → ℕ → ℕ
moved from until to at = cond (nat_le from at && nat_lt at until) to at

-- a hint for n words, where `size` words from `start` on became one free block
abbrev pub lowered : ℕ → ℕ → ℕ → ℕ → ℕ
lowered n start size at = cond (nat_le start at && (nat_le n size || nat_lt at (start + size))) start at

-- after n words were cut from the free block at `at`, `next` is the next free block
pub record CutsTo (none n : ℕ) (segs : List Segment) (at next first end : ℕ) (ws : List ℤ) : Type 0 where
  pub cuts : Cuts none n segs at first end ws
  pub behind : next ≡ first_free none (at + n) (cuts.left ++ cuts.back)
