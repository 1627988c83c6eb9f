-- Numbers of 64 bits among those of 128.
use Rattle.std.proofs.Common.{◌≡◌, ◌∙◌, ap, w64, FitsSigned, to_z, of_z, arith}
use Rattle.std.specs.Prelude.{ℤ}
use Rattle.std.specs.Int.{w128}
use Rattle.std.proofs.lemmas.Int.{ints, to_z-of_z}

pub wide : (z : ℤ) → FitsSigned w64 z → to_z w128 (of_z w128 (to_z w64 (of_z w64 z))) ≡ z
wide z h = ap (λ (y : ℤ). to_z w128 (of_z w128 y)) (to_z-of_z w64 z h) ∙ to_z-of_z w128 z (omega (arith, ints))
