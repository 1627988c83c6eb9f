-- What a main program has lent and selects outside of all its constructs: nothing.
use Rattle.std.specs.Prelude.{◌≡◌, ℕ, Bool, true, false, List, [], ◌∷◌, Some, slice_get}
use Rattle.f3_meaning_whole.specs.Value.{Unallocated}
use Rattle.f3_meaning_whole.specs.Act.{Here}
use Rattle.f3_code.specs.declared.instruction.Instruction.{Instruction}
use Rattle.f3_code.specs.declared.instruction.Instruction.TheVariants as i
use Rattle.f3_code.specs.State.{Line, Code, Cell, Outside, Frame, State}

-- where statements are executed around all SELECT CASEs and ASSOCIATEs of an activation that are open (ISO/IEC 1539-1:2004, 8.1)
abbrev pub outermost : Here → List Cell → Here
outermost here [] = here
outermost here (Outside outer ∷ cs) = outermost outer cs
outermost here (c ∷ cs) = outermost here cs

-- so in the main program, from which everything else was called
abbrev pub main_outermost : Here → List Cell → List Frame → Here
main_outermost here stack [] = outermost here stack
main_outermost here stack (f ∷ fs) = main_outermost f.here f.stack fs

abbrev pub main_here : State → Here
main_here t = main_outermost t.here t.stack t.frames

-- nothing is lent there, and no value selected
pub record Rests (t : State) : Type 0 where
  pub lent : (main_here t).lent ≡ []
  pub selected : (main_here t).selected ≡ Unallocated

-- an instruction lends the object on top, or two
abbrev pub is_lending : Instruction → Bool
is_lending i.Lend = true
is_lending i.LendBoth = true
is_lending x = false

-- no line does
abbrev pub LendsNothing : Code → Type 0
LendsNothing code = (pc : ℕ) (l : Line) → slice_get code.lines pc ≡ Some l → is_lending l.act ≡ false
