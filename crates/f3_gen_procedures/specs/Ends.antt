-- How many lines there are from a routine or a procedure to the end.
use Rattle.std.specs.Prelude.{ℕ, ◌+◌, List, [], ◌∷◌, length}
use Rattle.f3_code.specs.Core as c
use Rattle.f3_code.specs.Work as w
use Rattle.f3_code.specs.Code.{procedures_code, routines_code}

-- from each routine on, where so many lines stand behind all of them
abbrev pub routine_ends : ℕ → List w.Work → List ℕ
routine_ends n [] = []
routine_ends n (x ∷ xs) = (n + length (routines_code (x ∷ xs))) ∷ routine_ends n xs

-- from each procedure on, likewise, in a program of so many types
abbrev pub procedure_ends : ℕ → ℕ → List c.Procedure → List ℕ
procedure_ends m n [] = []
procedure_ends m n (p ∷ ps) = (n + length (procedures_code m (p ∷ ps))) ∷ procedure_ends m n ps
