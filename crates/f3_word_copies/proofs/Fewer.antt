-- The smaller of two numbers.
use Rattle.std.proofs.Common.{◌≡◌, ◌∙◌, sym, ap, refl, ℕ, ◌*◌, ◌/◌, ◌<◌, ◌≤◌, Bool, true, false, List, length, take, arith}
use Rattle.std.specs.Prelude.{ℤ, pos, nat_lt, if◌then◌else◌}
use Rattle.std.proofs.lemmas.Bool.{ltb-true, ltb-false}
use Rattle.std.proofs.lemmas.List.{take_all}
use Rattle.std.proofs.Math.Nat.{mul-le-mul_right}
use Rattle.f3_live_blocks.specs.Blocks.{Live, words_of, with_words}
use Rattle.f3_desc.specs.declared.descriptor.Descriptor.{Descriptor}
use Rattle.f3_desc.specs.Descriptor.{places, progression}
use Rattle.f3_desc.specs.Laws.{size_of}
use Rattle.f3_room_arrays.specs.Words.{copied}
use Rattle.f3_room_arrays.proofs.Numbers.{places-many}
use Rattle.f3_word_copies.specs.Spread.{fewer_of}

fewer-by : (n k : ℕ) (b : Bool) → nat_lt n k ≡ b → ((if b then n else k) ≤ n) × ((if b then n else k) ≤ k)
fewer-by n k true e = let lt = ltb-true n k e in (omega arith, omega arith)
fewer-by n k false e = let le = ltb-false n k e in (le, omega arith)

pub fewer-first : (n k : ℕ) → fewer_of n k ≤ n
fewer-first n k = (fewer-by n k (nat_lt n k) refl).0

pub fewer-second : (n k : ℕ) → fewer_of n k ≤ k
fewer-second n k = (fewer-by n k (nat_lt n k) refl).1

pub quotient-within : (l w k : ℕ) → 0 < w → k ≤ l / w → k * w ≤ l
quotient-within l w k some le = let more : k * w ≤ (l / w) * w = mul-le-mul_right w le in let d : (l / w) * w ≤ l = below l w some in omega arith
  where
    below : (l w : ℕ) → 0 < w → (l / w) * w ≤ l
    below l w some = omega arith

-- all of them
pub all-copied : (old : Live) (from n k : ℕ) (a : Descriptor) → size_of a.dims.items ≡ k
    → with_words old a.block (copied n (words_of old a.block) (words_of old from) (places a) (progression (pos 0) (pos n) (length (places a))))
    ≡ with_words old a.block (copied n (words_of old a.block) (words_of old from) (take k (places a)) (progression (pos 0) (pos n) k))
all-copied old from n k a e =
    let many : length (places a) ≡ k = places-many (pos a.offset) a.dims.items ∙ e in
    ap (λ (zs : List ℤ). with_words old a.block (copied n (words_of old a.block) (words_of old from) zs (progression (pos 0) (pos n) (length (places a))))) (sym (take_all k (places a) (omega arith)))
    ∙ ap (λ (j : ℕ). with_words old a.block (copied n (words_of old a.block) (words_of old from) (take k (places a)) (progression (pos 0) (pos n) j))) many
