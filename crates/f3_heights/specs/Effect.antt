-- How many cells instructions take and leave.
use Rattle.std.specs.Prelude.{ℕ, ◌+◌, List, [], ◌∷◌, Option, Some, None}
use Rattle.f3_code.specs.declared.instruction.Instruction.{Instruction}
use Rattle.f3_code.specs.declared.instruction.Instruction.TheVariants as i

-- a way on, over so many lines, with so many cells left
pub record Far : Type 0 where
  pub over : ℕ
  pub left : ℕ

-- how many cells an instruction takes, how many it leaves for the next line, where it may go on there, and its other ways on
pub record Effect : Type 0 where
  pub takes : ℕ
  pub next : Option ℕ
  pub far : List Far

-- to the next line alone
abbrev pub on : ℕ → ℕ → Effect
on k l = record { takes = k; next = Some l; far = [] }

-- to the next line, or over so many lines
abbrev pub fork : ℕ → ℕ → ℕ → ℕ → Effect
fork k l d m = record { takes = k; next = Some l; far = record { over = d; left = m } ∷ [] }

-- over so many lines alone
abbrev pub jump : ℕ → ℕ → ℕ → Effect
jump k d m = record { takes = k; next = None; far = record { over = d; left = m } ∷ [] }

-- no way on
abbrev pub ends : ℕ → Effect
ends k = record { takes = k; next = None; far = [] }

-- a cell that is looked at and stays is taken and left; a procedure's value comes to the next line of its caller
abbrev pub effect : Instruction → Effect
effect (i.Push c) = on 0 1
effect i.Plain = on 1 1
effect (i.Unary c t) = on 1 1
effect (i.Binary c t) = on 2 1
effect (i.Array k) = on k 1
effect (i.Structure t k) = on k 1
effect (i.Call f k) = on k 1
effect i.Result = on 1 1
effect i.IsAllocated = on 1 1
effect i.BoundsOfValue = on 1 1
effect i.BoundsOfVariable = on 1 1
effect i.Size = on 1 1
effect (i.Bound q) = on 2 1
effect i.Load = on 1 1
effect (i.PassValue k) = on 1 1
effect (i.PassVariable k) = on 1 1
effect (i.Refer x) = on 0 1
effect (i.Component k) = on 1 1
effect (i.ComponentOf k) = on 1 2
effect i.Contents = on 1 1
effect (i.Select is_opened k) = on (k + 1) 1
effect (i.SelectOf is_opened n k) = on (k + 2) 1
effect i.Subscript = on 1 1
effect i.Limit = on 1 1
effect i.NoLimit = on 0 1
effect i.Triplet = on 3 1
effect i.TestShape = on 2 2
effect (i.ByState other unallocated) = record {
  takes = 2;
  next = Some 2;
  far = record { over = other; left = 2 } ∷ record { over = unallocated; left = 2 } ∷ [];
}
effect (i.TestRank rank) = on 2 2
effect (i.New rank) = on 2 2
effect (i.Take of) = on 2 0
effect (i.Fill of) = on 2 0
effect i.Begin = on 0 0
effect i.Drop = on 1 0
effect (i.Unwind k) = on k 0
effect i.Swap = on 2 2
effect i.LendBoth = on 2 2
effect i.TakeOver = on 2 0
effect i.Dimension = on 2 1
effect (i.Allocate rank k) = on (k + 1) 1
effect (i.TestFree d) = fork 1 1 d 1
effect i.NoError = on 0 1
effect (i.SkipIfFailed d) = fork 1 0 d 1
effect i.Check = on 1 0
effect i.StoreStatus = on 2 0
effect i.PrintValue = on 1 0
effect (i.PrintByte b) = on 0 0
effect (i.Stop number) = ends 0
effect i.SetPlace = on 0 0
effect (i.GoOn d) = jump 0 d 0
effect (i.GoBack d) = ends 0
effect (i.SkipIfFalse d) = fork 1 0 d 0
effect (i.SkipIfTrue d) = fork 1 0 d 0
effect (i.Meets r) = on 0 1
effect i.Selecting = on 1 1
effect (i.Leave by d) = jump 1 d 1
effect (i.Depart cycle exit) = record {
  takes = 1;
  next = Some 0;
  far = record { over = 2; left = 0 } ∷ record { over = cycle; left = 0 } ∷ record { over = exit; left = 0 } ∷ [];
}
effect i.SelectVariable = on 1 1
effect (i.SelectValue of) = on 1 1
effect (i.Associate k) = on k 2
effect i.Associated = on 2 3
effect (i.NextObject d) = fork 1 2 d 1
effect i.EndAssociate = on 3 1
effect (i.Convert of) = on 1 1
effect i.TestStep = on 1 1
effect i.CountBegin = on 4 1
effect (i.CountNext d) = fork 1 1 d 1
effect (i.CountUp of) = on 2 1
effect i.Lend = on 1 1
effect i.Unlend = on 0 0
effect (i.SkipUnlessRank rank d) = fork 1 1 d 1
effect i.PassObject = on 1 2
effect (i.Routine t) = on 1 1
effect i.Back = ends 1
effect (i.WorkComponent k) = on 1 2
effect i.WalkBegin = on 1 2
effect (i.WalkNext d) = fork 2 3 d 1
effect (i.SkipUnlessAllocated d) = fork 1 1 d 1
effect i.OpenContents = on 1 2
effect i.Free = on 1 1
effect i.Clear = on 1 1
effect i.Set = on 1 1
effect i.Discard = on 0 0
effect i.Dummies = on 0 1
effect (i.ResultOf x) = on 0 1
effect i.Outward = on 0 1
effect (i.NextArgument k d) = fork 1 2 d 1
effect i.Return = ends 2
effect i.Finish = ends 0
