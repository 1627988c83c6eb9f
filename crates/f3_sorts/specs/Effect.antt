-- Of which sorts the cells are that instructions take and leave.
use Rattle.std.specs.Prelude.{ℕ, zero, suc, List, [], ◌∷◌, ◌++◌, Option, Some, None}
use Rattle.f3_code.specs.State.{Cell}
use Rattle.f3_code.specs.State as cell
use Rattle.f3_code.specs.declared.instruction.Instruction.{Instruction}
use Rattle.f3_code.specs.declared.instruction.Instruction.TheVariants as i

-- what a cell is
pub data Sort : Type 0 where
  Datum : Sort
  Object : Sort
  Argument : Sort
  Choice : Sort
  Bound : Sort
  Bounds : Sort
  Extent : Sort
  Status : Sort
  Turns : Sort
  Elements : Sort
  Objects : Sort
  Selector : Sort
  Level : Sort
  Outside : Sort
  Going : Sort

-- the way back of a routine has none: it stands between the cells of lines
abbrev pub sort_of : Cell → Option Sort
sort_of (cell.Datum v) = Some Datum
sort_of (cell.Object r) = Some Object
sort_of (cell.Argument p) = Some Argument
sort_of (cell.Choice c) = Some Choice
sort_of (cell.Bound z) = Some Bound
sort_of (cell.Bounds ss) = Some Bounds
sort_of (cell.Extent s) = Some Extent
sort_of (cell.Status x) = Some Status
sort_of (cell.Turns k step) = Some Turns
sort_of (cell.Elements ps) = Some Elements
sort_of (cell.Objects rs) = Some Objects
sort_of (cell.To pc place) = None
sort_of (cell.Selector a) = Some Selector
sort_of (cell.Level level rs) = Some Level
sort_of (cell.Outside here) = Some Outside
sort_of (cell.Going flow) = Some Going

-- so many of one sort
abbrev pub times : ℕ → Sort → List Sort
times zero x = []
times (suc k) x = x ∷ times k x

-- a way on, over so many lines, with such cells left, the one on top first
pub record Far : Type 0 where
  pub over : ℕ
  pub left : List Sort

-- which cells an instruction takes, which it leaves for the next line, where it may go on there, and its other ways on
pub record Effect : Type 0 where
  pub takes : List Sort
  pub next : Option (List Sort)
  pub far : List Far

-- to the next line alone
abbrev pub on : List Sort → List Sort → Effect
on xs ys = record { takes = xs; next = Some ys; far = [] }

-- to the next line, or over so many lines
abbrev pub fork : List Sort → List Sort → ℕ → List Sort → Effect
fork xs ys d zs = record { takes = xs; next = Some ys; far = record { over = d; left = zs } ∷ [] }

-- over so many lines alone
abbrev pub jump : List Sort → ℕ → List Sort → Effect
jump xs d zs = record { takes = xs; next = None; far = record { over = d; left = zs } ∷ [] }

-- no way on
abbrev pub ends : List Sort → Effect
ends xs = record { takes = xs; next = None; far = [] }

-- A cell that is looked at and stays is taken and left; a procedure's value comes to the next line of its caller. Of `Drop`, `Unwind`
-- and `Swap`, which take cells of any sort, and of `GoBack` and `Back` this does not speak: `IsAt` does.
abbrev pub effect : Instruction → Effect
effect (i.Push c) = on [] (Datum ∷ [])
effect i.Plain = on (Datum ∷ []) (Datum ∷ [])
effect (i.Unary c t) = on (Datum ∷ []) (Datum ∷ [])
effect (i.Binary c t) = on (Datum ∷ Datum ∷ []) (Datum ∷ [])
effect (i.Array k) = on (times k Argument) (Datum ∷ [])
effect (i.Structure t k) = on (times k Argument) (Datum ∷ [])
effect (i.Call f k) = on (times k Argument) (Datum ∷ [])
effect i.Result = on (Datum ∷ []) (Datum ∷ [])
effect i.IsAllocated = on (Object ∷ []) (Datum ∷ [])
effect i.BoundsOfValue = on (Datum ∷ []) (Bounds ∷ [])
effect i.BoundsOfVariable = on (Object ∷ []) (Bounds ∷ [])
effect i.Size = on (Bounds ∷ []) (Datum ∷ [])
effect (i.Bound q) = on (Datum ∷ Bounds ∷ []) (Datum ∷ [])
effect i.Load = on (Object ∷ []) (Datum ∷ [])
effect (i.PassValue k) = on (Datum ∷ []) (Argument ∷ [])
effect (i.PassVariable k) = on (Object ∷ []) (Argument ∷ [])
effect (i.Refer x) = on [] (Object ∷ [])
effect (i.Component k) = on (Object ∷ []) (Object ∷ [])
effect (i.ComponentOf k) = on (Object ∷ []) (Object ∷ Object ∷ [])
effect i.Contents = on (Object ∷ []) (Object ∷ [])
effect (i.Select is_opened k) = on (times k Choice ++ Object ∷ []) (Object ∷ [])
effect (i.SelectOf is_opened n k) = on (times k Choice ++ Object ∷ Object ∷ []) (Object ∷ [])
effect i.Subscript = on (Datum ∷ []) (Choice ∷ [])
effect i.Limit = on (Datum ∷ []) (Bound ∷ [])
effect i.NoLimit = on [] (Bound ∷ [])
effect i.Triplet = on (Datum ∷ Bound ∷ Bound ∷ []) (Choice ∷ [])
effect i.TestShape = on (Object ∷ Datum ∷ []) (Object ∷ Datum ∷ [])
effect (i.ByState other unallocated) = record {
  takes = Object ∷ Datum ∷ [];
  next = Some (Object ∷ Datum ∷ []);
  far = record { over = other; left = Object ∷ Datum ∷ [] } ∷ record { over = unallocated; left = Object ∷ Datum ∷ [] } ∷ [];
}
effect (i.TestRank rank) = on (Object ∷ Datum ∷ []) (Object ∷ Datum ∷ [])
effect (i.New rank) = on (Object ∷ Datum ∷ []) (Object ∷ Datum ∷ [])
effect (i.Take of) = on (Object ∷ Datum ∷ []) []
effect (i.Fill of) = on (Object ∷ Datum ∷ []) []
effect i.Begin = on [] []
effect i.LendBoth = on (Object ∷ Object ∷ []) (Object ∷ Object ∷ [])
effect i.TakeOver = on (Object ∷ Object ∷ []) []
effect i.Dimension = on (Datum ∷ Datum ∷ []) (Extent ∷ [])
effect (i.Allocate rank k) = on (times k Extent ++ Object ∷ []) (Status ∷ [])
effect (i.TestFree d) = fork (Object ∷ []) (Object ∷ []) d (Status ∷ [])
effect i.NoError = on [] (Status ∷ [])
effect (i.SkipIfFailed d) = fork (Status ∷ []) [] d (Status ∷ [])
effect i.Check = on (Status ∷ []) []
effect i.StoreStatus = on (Object ∷ Status ∷ []) []
effect i.PrintValue = on (Datum ∷ []) []
effect (i.PrintByte b) = on [] []
effect (i.Stop number) = ends []
effect i.SetPlace = on [] []
effect (i.GoOn d) = jump [] d []
effect (i.SkipIfFalse d) = fork (Datum ∷ []) [] d []
effect (i.SkipIfTrue d) = fork (Datum ∷ []) [] d []
effect (i.Meets r) = on [] (Datum ∷ [])
effect i.Selecting = on (Datum ∷ []) (Outside ∷ [])
effect (i.Leave by d) = jump (Outside ∷ []) d (Going ∷ [])
effect (i.Depart cycle exit) = record {
  takes = Going ∷ [];
  next = Some [];
  far = record { over = 2; left = [] } ∷ record { over = cycle; left = [] } ∷ record { over = exit; left = [] } ∷ [];
}
effect i.SelectVariable = on (Object ∷ []) (Selector ∷ [])
effect (i.SelectValue of) = on (Datum ∷ []) (Selector ∷ [])
effect (i.Associate k) = on (times k Selector) (Outside ∷ Level ∷ [])
effect i.Associated = on (Going ∷ Level ∷ []) (Objects ∷ Going ∷ Level ∷ [])
effect (i.NextObject d) = fork (Objects ∷ []) (Object ∷ Objects ∷ []) d (Objects ∷ [])
effect i.EndAssociate = on (Objects ∷ Going ∷ Level ∷ []) (Going ∷ [])
effect (i.Convert of) = on (Datum ∷ []) (Datum ∷ [])
effect i.TestStep = on (Datum ∷ []) (Datum ∷ [])
effect i.CountBegin = on (Object ∷ Datum ∷ Datum ∷ Datum ∷ []) (Turns ∷ [])
effect (i.CountNext d) = fork (Turns ∷ []) (Turns ∷ []) d (Turns ∷ [])
effect (i.CountUp of) = on (Object ∷ Turns ∷ []) (Turns ∷ [])
effect i.Lend = on (Object ∷ []) (Object ∷ [])
effect i.Unlend = on [] []
effect (i.SkipUnlessRank rank d) = fork (Object ∷ []) (Object ∷ []) d (Object ∷ [])
effect i.PassObject = on (Object ∷ []) (Argument ∷ Object ∷ [])
effect (i.Routine t) = on (Object ∷ []) (Object ∷ [])
effect (i.WorkComponent k) = on (Object ∷ []) (Object ∷ Object ∷ [])
effect i.WalkBegin = on (Object ∷ []) (Elements ∷ Object ∷ [])
effect (i.WalkNext d) = fork (Elements ∷ Object ∷ []) (Object ∷ Elements ∷ Object ∷ []) d (Object ∷ [])
effect (i.SkipUnlessAllocated d) = fork (Object ∷ []) (Object ∷ []) d (Object ∷ [])
effect i.OpenContents = on (Object ∷ []) (Object ∷ Object ∷ [])
effect i.Free = on (Object ∷ []) (Object ∷ [])
effect i.Clear = on (Object ∷ []) (Object ∷ [])
effect i.Set = on (Object ∷ []) (Object ∷ [])
effect i.Discard = on [] []
effect i.Dummies = on [] (Objects ∷ [])
effect (i.ResultOf x) = on [] (Datum ∷ [])
effect i.Outward = on [] (Objects ∷ [])
effect (i.NextArgument k d) = fork (Objects ∷ []) (Object ∷ Objects ∷ []) d (Objects ∷ [])
effect i.Return = ends (Objects ∷ Datum ∷ [])
effect i.Finish = ends []
effect x = ends []
