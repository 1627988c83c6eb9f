-- Numbers that differ by a multiple of 2 ^ 64, as those do that words of 64 bits cannot tell apart.
use Rattle.std.specs.Prelude.{◌≡◌, ◌^◌, ℤ, pos, ◌+ℤ◌, ◌*ℤ◌}

-- x is y and some multiple of 2 ^ 64
pub record IsCongruent (x y : ℤ) : Type 0 where
  pub turns : ℤ
  pub same : x ≡ y +ℤ (turns *ℤ pos (2 ^ 64))
