use Rattle.std.proofs.Common.{◌≡◌, ℕ, pos, ◌+◌, ◌-◌, length, get_or, ap, ◌∙◌, arith}
use Rattle.f3_heap_laws.specs.Segments.{free_size_of, segments}
use Rattle.f3_heap_laws.proofs.BlockReads.{free-head, free-tail}
use Rattle.f3_heap.proofs.laws.free_blocks_tell_their_size.Goals as goal

one_less : (k n : ℕ) → n ≡ k + 4 → n - 1 ≡ k + 3
one_less k n e = omega arith

one_more : (k n : ℕ) → n ≡ k + 4 → (k + 3) + 1 ≡ n
one_more k n e = omega arith

pub returns : goal.returns
returns c = λ ws room size first end used h front junk back split at n place long. (
  ap free_size_of (free-head size (segments ws end) ws first end h.lays front junk back at split place) ∙ one_more (length junk) n long,
  ap (λ (k : ℕ). free_size_of (get_or ws (at + k) (pos 0))) (one_less (length junk) n long) ∙ (ap free_size_of (free-tail size (segments ws end) ws first end h.lays front junk back at split place) ∙ one_more (length junk) n long),
)
