-- Statements that call pure procedures alone, and neither print nor stop (ISO/IEC 1539-1:2004, 12.6).
use Rattle.std.specs.Prelude.{⊤, ◌≡◌, ℕ, Bool, true}
use Rattle.f3_program.specs.declared.expression.Expression as e
use Rattle.f3_program.specs.declared.statement.Statement as s

module _ (pure : ℕ → Bool) where
  abbrev pub IsPureCall : e.Expression → Type 0
  IsPureCall (e.Call' f k xs) = pure f ≡ true
  IsPureCall x = ⊤

  abbrev mutual
    pub CallsPure : s.Statement → Type 0
    CallsPure (s.At' place b q x) = CallsPure x
    CallsPure (s.Block' k xs) = AllCallPure xs
    CallsPure (s.Assign x k y) = ⊤
    CallsPure (s.Call x) = IsPureCall x
    CallsPure (s.MoveAlloc k b x y) = ⊤
    CallsPure (s.Allocate rs stat) = ⊤
    CallsPure (s.Deallocate rs stat) = ⊤
    CallsPure (s.Print xs) = ⊥
    CallsPure (s.Stop code) = ⊥
    CallsPure s.Return = ⊤
    CallsPure s.Cycle = ⊤
    CallsPure s.Exit = ⊤
    CallsPure (s.If' x q y r z) = CallsPure y × CallsPure z
    CallsPure (s.Select' x q y) = CallsPure y
    CallsPure (s.Case' rs q x r y) = CallsPure x × CallsPure y
    CallsPure (s.While' x q y) = CallsPure y
    CallsPure (s.Count' x k from to step q y) = CallsPure y
    CallsPure (s.Associate' xs q y) = CallsPure y

    pub AllCallPure : {m : _} → s.Row_of-Statement m → Type 0
    AllCallPure s.end_of-Statement = ⊤
    AllCallPure (s.more_of-Statement x rest) = CallsPure x × AllCallPure rest
