-- The active DO variables, from either end.
use Rattle.std.proofs.Common.{◌≡◌, ℕ, nat_eq, List, sym}
use Rattle.std.specs.Prelude.{reverse}
use Rattle.std.specs.List.{list_any}
use Rattle.std.proofs.lemmas.List.Sorted.{list_any-IsPermutation, IsPermutation-reverse}

pub active_any : (e : ℕ) (xs : List ℕ) → list_any (nat_eq e) (reverse xs) ≡ list_any (nat_eq e) xs
active_any e xs = sym (list_any-IsPermutation (nat_eq e) xs (reverse xs) (IsPermutation-reverse xs))
