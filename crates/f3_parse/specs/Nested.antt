-- Constructs within constructs (own rule: 64 are open at most).
use Rattle.std.specs.Prelude.{◌≡◌, ℕ, ◌+◌, ◌-◌, ◌≤◌, Bool, true, List, [], ◌∷◌, ◌++◌}
use Rattle.f3_form.specs.Forms.{FormTree}
use Rattle.f3_blocks.specs.Pieces.{Placed}
use Rattle.f3_units.specs.Depth.{begins_construct, ends_construct, one_if}

-- how many statements pass a test
abbrev pub count_of : (FormTree → Bool) → List Placed → ℕ
count_of test [] = 0
count_of test (p ∷ ps) = one_if (test p.form) + count_of test ps

-- the constructs that are open behind statements: those that were begun there and not ended
abbrev pub open_behind : List Placed → ℕ
open_behind ps = count_of begins_construct ps - count_of ends_construct ps

-- a 65th construct is opened
abbrev pub IsTooDeep : List Placed → FormTree → Type 0
IsTooDeep ps f = (begins_construct f ≡ true) × (64 ≤ open_behind ps)

-- nowhere is a 65th construct opened
abbrev pub IsShallow : List Placed → Type 0
IsShallow ps = (front rest : List Placed) (p : Placed) → ps ≡ front ++ p ∷ rest → IsTooDeep front p.form → ⊥
