-- What each change of the live blocks leaves, block by block: for callers of `Blocks`.
use Rattle.std.proofs.Common.{◌≡◌, ◌≢◌, ℕ, cond, true, false, refl, ap, ◌∙◌, is_some, IsTrue}
use Rattle.std.specs.Prelude.{Option, None, Some}
use Rattle.std.specs.Ordering.{nat_cmp, eq_by_cmp}
use Rattle.std.specs.FinMap.{get, insert, remove, get-insert, get-remove}
use Rattle.std.specs.Cmp.{nat_cmp_total}
use Rattle.f3_live_blocks.specs.Blocks.{Block, Live, IsLive, words_in, pins_in, words_of, pins_of}
use Rattle.f3_live_blocks.proofs.Names.{same-self, same-apart}

pub get-insert_same : (m : Live) (b : ℕ) (k : Block) → get (insert m b k) b ≡ Some k
get-insert_same m b k = get-insert nat_cmp_total m b k b ∙ ap (λ t. cond t (Some k) (get m b)) (same-self b)

pub get-insert_other : (m : Live) (b : ℕ) (k : Block) (q : ℕ) → q ≢ b → get (insert m b k) q ≡ get m q
get-insert_other m b k q ne = get-insert nat_cmp_total m b k q ∙ ap (λ t. cond t (Some k) (get m q)) (same-apart q b ne)

pub get-remove_same : (m : Live) (b : ℕ) → get (remove m b) b ≡ None
get-remove_same m b = get-remove nat_cmp_total m b b ∙ ap (λ t. cond t None (get m b)) (same-self b)

pub get-remove_other : (m : Live) (b q : ℕ) → q ≢ b → get (remove m b) q ≡ get m q
get-remove_other m b q ne = get-remove nat_cmp_total m b q ∙ ap (λ t. cond t None (get m q)) (same-apart q b ne)

-- the block that changed
pub live-insert_same : (m : Live) (b : ℕ) (k : Block) → IsLive (insert m b k) b
live-insert_same m b k = ap is_some (get-insert_same m b k)

pub words-insert_same : (m : Live) (b : ℕ) (k : Block) → words_of (insert m b k) b ≡ k.words
words-insert_same m b k = ap words_in (get-insert_same m b k)

pub pins-insert_same : (m : Live) (b : ℕ) (k : Block) → pins_of (insert m b k) b ≡ k.pins
pins-insert_same m b k = ap pins_in (get-insert_same m b k)

-- every other block
pub live-insert_other : (m : Live) (b : ℕ) (k : Block) (q : ℕ) → q ≢ b → IsLive m q → IsLive (insert m b k) q
live-insert_other m b k q ne h = ap is_some (get-insert_other m b k q ne) ∙ h

pub words-insert_other : (m : Live) (b : ℕ) (k : Block) (q : ℕ) → q ≢ b → words_of (insert m b k) q ≡ words_of m q
words-insert_other m b k q ne = ap words_in (get-insert_other m b k q ne)

pub pins-insert_other : (m : Live) (b : ℕ) (k : Block) (q : ℕ) → q ≢ b → pins_of (insert m b k) q ≡ pins_of m q
pins-insert_other m b k q ne = ap pins_in (get-insert_other m b k q ne)

-- a live block stays live where any block is put
pub live-insert : (m : Live) (b : ℕ) (k : Block) (q : ℕ) → IsLive m q → IsLive (insert m b k) q
live-insert m b k q h =
    elim (eq_by_cmp nat_cmp q b) as (λ t. eq_by_cmp nat_cmp q b ≡ t → IsLive (insert m b k) q) [
      | true ↦ λ t. ap is_some (get-insert nat_cmp_total m b k q ∙ ap (λ v. cond v (Some k) (get m q)) t)
      | false ↦ λ t. ap is_some (get-insert nat_cmp_total m b k q ∙ ap (λ v. cond v (Some k) (get m q)) t) ∙ h
    ] refl

pub live-remove_other : (m : Live) (b q : ℕ) → q ≢ b → IsLive m q → IsLive (remove m b) q
live-remove_other m b q ne h = ap is_some (get-remove_other m b q ne) ∙ h

pub words-remove_other : (m : Live) (b q : ℕ) → q ≢ b → words_of (remove m b) q ≡ words_of m q
words-remove_other m b q ne = ap words_in (get-remove_other m b q ne)

pub pins-remove_other : (m : Live) (b q : ℕ) → q ≢ b → pins_of (remove m b) q ≡ pins_of m q
pins-remove_other m b q ne = ap pins_in (get-remove_other m b q ne)

dead : (o : Option Block) → o ≡ None → IsTrue (is_some o) → ⊥
dead o e h = cc

-- a new block is none that was live
pub fresh-apart : (m : Live) (b q : ℕ) → get m b ≡ None → IsLive m q → q ≢ b
fresh-apart m b q none live = λ e. dead _ (ap (get m) e ∙ none) live

-- a lookup after a change
pub ruleset live_laws = (live-insert_same, live-insert, words-insert_same, pins-insert_same, live-remove_other, fresh-apart)
