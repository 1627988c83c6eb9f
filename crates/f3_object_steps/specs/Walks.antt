-- Subscripts, one after another.
use Rattle.std.specs.Prelude.{ℕ, suc, ◌^◌, ℤ, pos, neg_ℤ, ◌+ℤ◌, ◌≤ℤ◌, List}
use Rattle.f3_meaning_whole.specs.Act.{stepped}
use Rattle.f3_object_steps.specs.declared.subscripts.Walk.{Walk}

-- no farther from 0 than bounds and steps of 64 bits lead
abbrev pub IsNear : ℤ → Type 0
IsNear z = (neg_ℤ (pos (2 ^ 66)) ≤ℤ z) × (z ≤ℤ pos (2 ^ 66))

abbrev pub subscripts_of : Walk → List ℤ
subscripts_of w = stepped w.left w.next w.step

-- the subscript that is so far from a lower bound, and so many behind it
abbrev pub subscripts_from : ℤ → ℕ → ℕ → ℤ → List ℤ
subscripts_from lower offset behind step = stepped (suc behind) (lower +ℤ pos offset) step
