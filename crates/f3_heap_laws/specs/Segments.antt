-- A region's blocks one after another, as words (own rule).
-- A live block is its length, its pin count, its content, zeros up to whole fours, and its length again as a tag.
-- A free block is its size below zero, the places of the next and the previous free block, words of no meaning, and its size below zero again.
use Rattle.std.proofs.Common.{zero, suc}
use Rattle.std.specs.List.{sum_by}
use Rattle.std.specs.Prelude.{Bool, true, false, cond, nat_eq, set, ℕ, ℤ, pos, negsuc, ◌≡◌, ◌+◌, ◌-◌, ◌%◌, ◌<◌, ◌≤◌, ◌^◌, List, [], ◌∷◌}
use Rattle.std.specs.Prelude.{◌++◌, ◌⊎◌, length, take, drop, get_or, replicate, Option, None, Some}
use Rattle.std.specs.Int.{cast_signed, cast_unsigned}
use mir.Syntax.{w64}
use Rattle.f3_raw.specs.Words.{written}
use Rattle.f3_heap_laws.specs.Account.{r}
use Rattle.f3_live_blocks.specs.Blocks.{Block, Live}
use Rattle.f3_heap_laws.specs.Placed.{extent, live_from}

pub data Segment : Type 0 where
  Used : List ℤ → ℕ → Segment
  Free : List ℤ → Segment

abbrev pub seg_size : Segment → ℕ
seg_size (Used ws pins) = r (length ws)
seg_size (Free junk) = length junk + 4

abbrev pub seg_block : Segment → Option Block
seg_block (Used ws pins) = Some (record { words = ws; pins = pins })
seg_block (Free junk) = None

abbrev pub used_words : List ℤ → ℕ → List ℤ
used_words ws pins = pos (length ws) ∷ cast_signed w64 pins ∷ (ws ++ (replicate (r (length ws) - (length ws + 3)) (pos 0) ++ pos (length ws) ∷ []))

-- the links are places, and the heap's size stands for none
abbrev pub free_words : List ℤ → ℕ → ℕ → List ℤ
free_words junk next prev = negsuc (length junk + 3) ∷ pos next ∷ pos prev ∷ (junk ++ negsuc (length junk + 3) ∷ [])

-- the first free block's place, where the segments begin at p, or `after` where none is free
abbrev pub first_free : ℕ → ℕ → List Segment → ℕ
first_free after p [] = after
first_free after p (Used ws pins ∷ ss) = first_free after (p + r (length ws)) ss
first_free after p (Free junk ∷ ss) = p

-- the last free block's place, or `prev` where none is free
abbrev pub last_free : ℕ → ℕ → List Segment → ℕ
last_free prev p [] = prev
last_free prev p (Used ws pins ∷ ss) = last_free prev (p + r (length ws)) ss
last_free prev p (Free junk ∷ ss) = last_free p (p + (length junk + 4)) ss

-- the segments' words, where they begin at p, the free block before them is `prev` and that behind them is `after`
abbrev pub cells : ℕ → ℕ → ℕ → List Segment → List ℤ
cells prev after p [] = []
cells prev after p (Used ws pins ∷ ss) = used_words ws pins ++ cells prev after (p + r (length ws)) ss
cells prev after p (Free junk ∷ ss) = free_words junk (first_free after (p + (length junk + 4)) ss) prev ++ cells p after (p + (length junk + 4)) ss

-- what can stand in a region: pins fit 64 bits, and sizes are whole fours
abbrev pub IsValid : Segment → Type 0
IsValid (Used ws pins) = pins < 2 ^ 64
IsValid (Free junk) = length junk % 4 ≡ 0

abbrev pub AreValid : List Segment → Type 0
AreValid [] = Unit {0}
AreValid (s ∷ ss) = IsValid s × AreValid ss

-- the segments that words spell, at most n of them
abbrev pub segment_at : ℤ → List ℤ → Segment
segment_at (pos w) ws = Used (take w (drop 2 ws)) (cast_unsigned w64 (get_or ws 1 (pos 0)))
segment_at (negsuc k) ws = Free (take (k - 3) (drop 3 ws))

abbrev pub read_segments : ℕ → List ℤ → List Segment
read_segments n [] = []
read_segments zero (h ∷ ws) = []
read_segments (suc n) (h ∷ ws) = segment_at h (h ∷ ws) ∷ read_segments n (drop (seg_size (segment_at h (h ∷ ws))) (h ∷ ws))

unfoldable pub segments : List ℤ → ℕ → List Segment
segments ws end = read_segments (length ws) (take end ws)

-- no two free blocks adjoin, where a free block stands before them or not
abbrev pub AreApart : Bool → List Segment → Type 0
AreApart b [] = Unit {0}
AreApart b (Used ws pins ∷ ss) = AreApart false ss
AreApart true (Free junk ∷ ss) = ⊥
AreApart false (Free junk ∷ ss) = AreApart true ss

-- whether a free block stands last
abbrev pub ends_free : Bool → List Segment → Bool
ends_free b [] = b
ends_free b (Used ws pins ∷ ss) = ends_free false ss
ends_free b (Free junk ∷ ss) = ends_free true ss

-- the words ws begin with the segments, which take the first `end` of them, and `first` is the first free block's place, or `none`
pub record Lays (none : ℕ) (segs : List Segment) (ws : List ℤ) (first end : ℕ) : Type 0 where
  pub rest : List ℤ
  pub laid : ws ≡ cells none none 0 segs ++ rest
  pub begins : first ≡ first_free none 0 segs
  pub ends : end ≡ extent seg_block seg_size segs
  pub valid : AreValid segs

-- the size that a free block's first or last word tells, and 0 for a live block's
abbrev pub free_size_of : ℤ → ℕ
free_size_of (pos w) = 0
free_size_of (negsuc k) = k + 1

-- a block's first word, which is its last too
abbrev pub header : Segment → ℤ
header (Used ws pins) = pos (length ws)
header (Free junk) = negsuc (length junk + 3)

-- ws with another next link in the free block at `prev`, if there is one
abbrev pub with_next : List ℤ → ℕ → ℕ → ℕ → List ℤ
with_next ws none prev next = cond (nat_eq prev none) ws (set ws (prev + 1) (pos next))

-- ws with another previous link in the free block at `next`, if there is one
abbrev pub with_prev : List ℤ → ℕ → ℕ → ℕ → List ℤ
with_prev ws none next prev = cond (nat_eq next none) ws (set ws (next + 2) (pos prev))

unfoldable pub live_segments : List Segment → Live
live_segments segs = live_from seg_block seg_size 1 segs

abbrev pub seg_used : Segment → ℕ
seg_used (Used ws pins) = r (length ws)
seg_used (Free junk) = 0

-- every free block is smaller than n words
abbrev pub NoneFits : ℕ → List Segment → Type 0
NoneFits n [] = Unit {0}
NoneFits n (Used ws pins ∷ ss) = NoneFits n ss
NoneFits n (Free junk ∷ ss) = (length junk + 4 < n) × NoneFits n ss

-- the first free block of n words or more lies at `at`
pub record FitsAt (n : ℕ) (segs : List Segment) (at : ℕ) : Type 0 where
  pub front : List Segment
  pub junk : List ℤ
  pub back : List Segment
  pub split : segs ≡ front ++ Free junk ∷ back
  pub place : at ≡ extent seg_block seg_size front
  pub smaller : NoneFits n front
  pub wide : n ≤ length junk + 4

-- `at` is the next free block to look at, and those before it are smaller than n words
pub record Searches (none n : ℕ) (segs : List Segment) (at : ℕ) : Type 0 where
  pub front : List Segment
  pub back : List Segment
  pub split : segs ≡ front ++ back
  pub next : at ≡ first_free none (extent seg_block seg_size front) back
  pub smaller : NoneFits n front

-- a live block of n words may stand at `at` in the words ws, and the segments are then the given ones
abbrev pub Takes : ℕ → ℕ → ℕ → ℕ → ℕ → List ℤ → (List ℤ → List Segment) → Type 0
Takes none n at first end ws segs = (content : List ℤ) → r (length content) ≡ n → Lays none (segs content) (written ws at (used_words content 0)) first end

-- after n words were cut from the free block at `at`
pub record Cuts (none n : ℕ) (segs : List Segment) (at first end : ℕ) (ws : List ℤ) : Type 0 where
  pub front : List Segment
  pub junk : List ℤ
  pub left : List Segment
  pub back : List Segment
  pub split : segs ≡ front ++ Free junk ∷ back
  pub place : at ≡ extent seg_block seg_size front
  pub sizes : n + extent seg_block seg_size left ≡ length junk + 4
  pub free : (left ≡ []) ⊎ ((more : List ℤ) × (left ≡ Free more ∷ []))
  pub takes : Takes none n at first end ws (λ content. front ++ (Used content 0 ∷ (left ++ back)))

-- ws with a free block of `size` words at `at`
abbrev pub freed : List ℤ → ℕ → ℕ → ℕ → ℕ → List ℤ
freed ws at size next prev = set (set (set (set ws at (negsuc (size - 1))) (at + 1) (pos next)) (at + 2) (pos prev)) (at + size - 1) (negsuc (size - 1))

-- the invariant of a heap in a region of `room` words, of which the words ws are written
pub record IsHeap (ws : List ℤ) (room size first end used : ℕ) : Type 0 where
  pub lays : Lays size (segments ws end) ws first end
  pub apart : AreApart false (segments ws end)
  pub closed : ends_free false (segments ws end) ≡ false
  pub account : used ≡ sum_by seg_used (segments ws end)
  pub within : end ≤ size
  pub whole : size % 4 ≡ 0
  pub fits : size ≤ room
  pub small : size < 2 ^ 60

abbrev pub AllFree : List Segment → Type 0
AllFree [] = Unit {0}
AllFree (Used ws pins ∷ ss) = ⊥
AllFree (Free junk ∷ ss) = AllFree ss

-- no free block stands first
abbrev pub BeginsLive : List Segment → Type 0
BeginsLive [] = Unit {0}
BeginsLive (Used ws pins ∷ ss) = Unit {0}
BeginsLive (Free junk ∷ ss) = ⊥

-- a live block lies at `at`
pub record UsedAt (segs : List Segment) (at : ℕ) : Type 0 where
  pub front : List Segment
  pub content : List ℤ
  pub pins : ℕ
  pub back : List Segment
  pub split : segs ≡ front ++ Used content pins ∷ back
  pub place : at ≡ extent seg_block seg_size front

-- the live block at `block` with the free blocks on both its sides is the run of `size` words at `at`
pub record Around (none : ℕ) (segs : List Segment) (block at size prev next : ℕ) : Type 0 where
  pub front : List Segment
  pub lefts : List Segment
  pub content : List ℤ
  pub pins : ℕ
  pub rights : List Segment
  pub back : List Segment
  pub split : segs ≡ front ++ ((lefts ++ Used content pins ∷ rights) ++ back)
  pub left_free : AllFree lefts
  pub right_free : AllFree rights
  pub place : at ≡ extent seg_block seg_size front
  pub sizes : size ≡ extent seg_block seg_size (lefts ++ Used content pins ∷ rights)
  pub block_at : block ≡ at + extent seg_block seg_size lefts
  pub before : prev ≡ last_free none 0 front
  pub behind : next ≡ first_free none (at + size) back
  pub closed : ends_free false front ≡ false
  pub opens : BeginsLive back

-- on the way to `at` along the list: `prev` is the last free block passed, `next` the one to come
pub record Walks (none at : ℕ) (segs front : List Segment) (prev next : ℕ) : Type 0 where
  pub done : List Segment
  pub left : List Segment
  pub back : List Segment
  pub split : segs ≡ front ++ back
  pub cut : front ≡ done ++ left
  pub passed : prev ≡ last_free none 0 done
  pub ahead : next ≡ first_free (first_free none at back) (extent seg_block seg_size done) left
