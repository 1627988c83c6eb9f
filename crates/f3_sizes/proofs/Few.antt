-- No instruction leaves more than two cells more than it takes.
use Rattle.std.proofs.Common.{◌≤◌, ℕ, ◌+◌, List, [], ◌∷◌, Option, None, Some, arith, rules}
use Rattle.f3_code.specs.declared.instruction.Instruction.{Instruction}
use Rattle.f3_code.specs.declared.instruction.Instruction.TheVariants as i
use Rattle.f3_heights.specs.Effect.{Far, effect}

abbrev pub FewNext : ℕ → Option ℕ → Type 0
FewNext takes None = Unit {0}
FewNext takes (Some left) = left ≤ takes + 2

abbrev pub FewFar : ℕ → List Far → Type 0
FewFar takes [] = Unit {0}
FewFar takes (x ∷ xs) = (x.left ≤ takes + 2) × FewFar takes xs

pub few_next : (x : Instruction) → FewNext (effect x).takes (effect x).next
few_next (i.Push c) = search (arith, rules)
few_next x = search (arith, rules)

pub few_far : (x : Instruction) → FewFar (effect x).takes (effect x).far
few_far (i.Push c) = search (arith, rules)
few_far x = search (arith, rules)
