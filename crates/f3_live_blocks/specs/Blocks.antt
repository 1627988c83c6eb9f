-- What a heap holds: a finite map from its live blocks to their words and how often they are pinned (own rule).
-- A block is named by its `word`, a positive number.
use Rattle.std.specs.Prelude.{ℕ, ℤ, pos, List, [], ◌++◌, take, drop, length, replicate, is_some, IsTrue}
use Rattle.std.specs.Prelude.{Option, None, Some}
use Rattle.std.specs.Ordering.{nat_cmp}
use Rattle.std.specs.FinMap.{FinMap, get, insert, code}
use Rattle.std.proofs.Common.{refl}
use Rattle.std.specs.Coded.{Coded, code_by, coded×, coded_ℕ, coded_ℤ, coded_list}

pub record Block : Type 0 where
  pub words : List ℤ
  pub pins : ℕ

abbrev pub block_code : Coded Block
block_code = code_by (List ℤ × ℕ) (coded× (coded_list coded_ℤ) coded_ℕ) (λ b. (b.words, b.pins)) (λ p. record { words = p.0; pins = p.1 }) (λ _. refl)

-- the live blocks by their `word`
abbrev pub Live : Type 0
Live = FinMap nat_cmp Block

-- a heap's live blocks, and how many words it has for them
pub record Heap : Type 0 where
  pub blocks : Live
  pub size : ℕ

abbrev pub heap_code : Coded Heap
heap_code = code_by (Live × ℕ) (coded× (code coded_ℕ block_code) coded_ℕ) (λ h. (h.blocks, h.size)) (λ p. record { blocks = p.0; size = p.1 }) (λ _. refl)

-- the block named b is live
abbrev pub IsLive : Live → ℕ → Type 0
IsLive m b = IsTrue (is_some (get m b))

abbrev pub words_in : Option Block → List ℤ
words_in None = []
words_in (Some b) = b.words

abbrev pub pins_in : Option Block → ℕ
pins_in None = 0
pins_in (Some b) = b.pins

-- the words of the block named b, none where it is not live
abbrev pub words_of : Live → ℕ → List ℤ
words_of m b = words_in (get m b)

-- how often it is pinned
abbrev pub pins_of : Live → ℕ → ℕ
pins_of m b = pins_in (get m b)

-- one block more, of n zeros and not pinned
abbrev pub with_taken : Live → ℕ → ℕ → Live
with_taken m b n = insert m b (record { words = replicate n (pos 0); pins = 0 })

-- only b's words change
abbrev pub with_words : Live → ℕ → List ℤ → Live
with_words m b ws = insert m b (record { words = ws; pins = pins_of m b })

-- only b's pins change
abbrev pub with_pins : Live → ℕ → ℕ → Live
with_pins m b n = insert m b (record { words = words_of m b; pins = n })

-- ws written over the front of old, whose length stays
abbrev pub written_over : List ℤ → List ℤ → List ℤ
written_over old ws = take (length old) (ws ++ drop (length ws) old)
