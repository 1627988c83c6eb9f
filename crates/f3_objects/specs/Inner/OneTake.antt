-- What the copy of one block takes (private: only `take_same` says it).
use Rattle.std.specs.Prelude.{ℕ, List, [], ◌∷◌, Result, Ok, Err}
use Rattle.f3_heap_laws.specs.Answers.{Taken, Take}
use Rattle.f3_objects.specs.declared.copy.TreeFault.{TreeFault}
use Rattle.f3_objects.specs.Copies.{fault_of}

-- one take of n words, and what came of it
abbrev pub one_take : ℕ → Result ℕ TreeFault → List Take
one_take n (Ok b) = record { asked = n; answer = Taken b } ∷ []
one_take n (Err fault) = record { asked = n; answer = fault_of fault } ∷ []
