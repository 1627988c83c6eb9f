-- The size of a live block, from its first word.
use Rattle.std.proofs.Common.{◌≡◌, ℕ, ℤ, List, pos, get_or, ◌∙◌, length, ap}
use Rattle.std.proofs.Common.{w64}
use Rattle.std.specs.Int.{cast_unsigned}
use Rattle.f3_heap_laws.specs.Account.{r}
use Rattle.f3_heap_laws.specs.Segments.{segments, Lays, UsedAt}
use Rattle.f3_heap_laws.proofs.BlockReads.{used-head}

pub given_is : (ws : List ℤ) (size first end at : ℕ) (h : Lays size (segments ws end) ws first end) (u : UsedAt (segments ws end) at) (n m : ℕ) → n ≡ r m → m ≡ cast_unsigned w64 (get_or ws at (pos 0)) → n ≡ r (length u.content)
given_is ws size first end at h u n m e k = e ∙ ap r (k ∙ ap (cast_unsigned w64) (used-head size (segments ws end) ws first end h u.front u.content u.pins u.back at u.split u.place))
