-- The next instruction finds the cells that it takes.
use Rattle.std.proofs.Common.{◌≡◌, ℕ, List, [], ◌∷◌, ◌++◌, Some, subst, slice_get}
use Rattle.f3_code.specs.declared.instruction.Instruction.{Instruction}
use Rattle.f3_code.specs.declared.instruction.Instruction.TheVariants as i
use Rattle.f3_code.specs.State.{Line, Code, Cell, State}
use Rattle.f3_sorts.specs.Effect.{Sort, effect}
use Rattle.f3_sorts.specs.Effect as sort
use Rattle.f3_sorts.specs.Sorts.{IsAt, AreSorts, Stand, Fits, Tops, Finds}

module _ (sorts : ℕ → List Sort) where
  tops : (xs rest : List Sort) (stack : List Cell) → Stand sorts (xs ++ rest) stack → Tops xs stack
  tops [] rest stack h = tt
  tops (x ∷ xs) rest [] h = h
  tops (x ∷ xs) rest (c ∷ stack) h = (h.0, tops xs rest stack h.1)

  found : {pc : ℕ} (xs rest : List Sort) (stack : List Cell) → sorts pc ≡ xs ++ rest → Stand sorts (sorts pc) stack → Tops xs stack
  found xs rest stack e h = tops xs rest stack (subst (λ l. Stand sorts l stack) e h)

  finds : (x : Instruction) (pc : ℕ) (stack : List Cell) → IsAt sorts pc x → Stand sorts (sorts pc) stack → Finds x stack
  finds (i.GoBack d) pc stack at h = tt
  finds i.Back pc stack at h = found (sort.Object ∷ []) [] stack at h
  finds i.Drop pc stack at h = (at.0, found (at.0 ∷ []) at.1.rest stack at.1.before h)
  finds (i.Unwind k) pc stack at h = (at.0, at.1, found at.0 at.2.rest stack at.2.before h)
  finds i.Swap pc stack at h = (at.0, at.1, found (at.0 ∷ at.1 ∷ []) at.2.rest stack at.2.before h)
  finds x pc stack at h = found (effect x).takes at.rest stack at.before h

pub steps_find : (code : Code) (sorts : ℕ → List Sort) → AreSorts sorts code → (s : State) (l : Line) → Fits sorts s →
    slice_get code.lines s.pc ≡ Some l → Finds l.act s.stack
steps_find code sorts are s l fits is = finds sorts l.act s.pc s.stack (are.lines s.pc l is) fits.stack
