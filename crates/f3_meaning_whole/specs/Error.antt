-- The errors of a run: their numbers and words (own table).
use Rattle.std.specs.Prelude.{ℕ, List, codes}
use Rattle.f3_meaning_whole.specs.declared.run_error.RunError.{RunError}
use Rattle.f3_meaning_whole.specs.declared.run_error.RunError.TheVariants.{Overflow, DivisionByZero, SubscriptOutOfBounds, NotAllocated}
use Rattle.f3_meaning_whole.specs.declared.run_error.RunError.TheVariants.{AlreadyAllocated, HeapHasNoRoom, ShapesDiffer, StepIsZero, InUse}
use Rattle.f3_meaning_whole.specs.declared.run_error.RunError.TheVariants.{CallsTooDeep, ArrayTooLarge}

abbrev pub error_number : RunError → ℕ
error_number Overflow = 1
error_number DivisionByZero = 2
error_number SubscriptOutOfBounds = 3
error_number NotAllocated = 4
error_number AlreadyAllocated = 5
error_number HeapHasNoRoom = 6
error_number ShapesDiffer = 7
error_number StepIsZero = 8
error_number InUse = 9
error_number CallsTooDeep = 10
error_number ArrayTooLarge = 11

abbrev pub error_words : RunError → List ℕ
error_words Overflow = codes "integer overflow"
error_words DivisionByZero = codes "division by zero"
error_words SubscriptOutOfBounds = codes "subscript out of bounds"
error_words NotAllocated = codes "not allocated"
error_words AlreadyAllocated = codes "already allocated"
error_words HeapHasNoRoom = codes "heap has no room"
error_words ShapesDiffer = codes "shapes differ"
error_words StepIsZero = codes "step is zero"
error_words InUse = codes "in use by an argument"
error_words CallsTooDeep = codes "calls deeper than 1000"
error_words ArrayTooLarge = codes "array larger than 16,777,216 elements"
