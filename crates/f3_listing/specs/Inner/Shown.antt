-- What is shown of an instruction, as the functions hold it.
use Rattle.std.specs.Prelude.{ℤ, pos, List, [], ◌∷◌, ◌++◌}
use Rattle.f3_listing.specs.declared.operation.Operands.{Operands}
use Rattle.f3_listing.specs.declared.operation.Operands.TheVariants.{None, Count, Counts, Integer, Integers}
use Rattle.f3_listing.specs.declared.operation.Shown.{Shown}
use Rattle.f3_listing.specs.Listing.{Operation}

abbrev pub numbers : Operands → List ℤ
numbers None = []
numbers (Count n) = pos n ∷ []
numbers (Counts m n) = pos m ∷ pos n ∷ []
numbers (Integer z) = z ∷ []
numbers (Integers y z) = y ∷ z ∷ []

abbrev pub operation_of : Shown → Operation
operation_of s = record { name = s.name.now ++ s.ending.now; operands = numbers s.operands }
