-- Programs in whose expressions each reference is one to a function.
use Rattle.std.specs.Prelude.{⊤, ◌≡◌, Bool, true, false, Option, None, Some, is_some, slice_get}
use Rattle.f3_program.specs.declared.expression.Argument as a
use Rattle.f3_program.specs.declared.expression.Designator as d
use Rattle.f3_program.specs.declared.expression.Expression as e
use Rattle.f3_program.specs.declared.expression.Selection as l
use Rattle.f3_program.specs.declared.expression.Subscript as u
use Rattle.f3_program.specs.declared.statement.Bounds.{Bounds}
use Rattle.f3_program.specs.declared.statement.Item.{Item}
use Rattle.f3_program.specs.declared.statement.Item.TheVariants as item
use Rattle.f3_program.specs.declared.statement.Request.{Request}
use Rattle.f3_program.specs.declared.statement.Selector.{Selector}
use Rattle.f3_program.specs.declared.statement.Selector.TheVariants as selector
use Rattle.f3_program.specs.declared.statement.Statement as s
use Rattle.f3_program.specs.declared.program.Procedure.{Procedure}
use Rattle.f3_program.specs.declared.program.Program.{Program}
use Rattle.f3_meaning_whole.specs.Permitted.{Each}

-- a function has a result, and a subroutine none (ISO/IEC 1539-1:2004, 12.5.2.1)
abbrev pub is_function : Option Procedure → Bool
is_function None = false
is_function (Some q) = is_some q.result

module _ (p : Program) where
  -- each reference in an expression is one to a function (12.4.2)
  abbrev mutual
    pub Refers : e.Expression → Type 0
    Refers (e.Literal c) = ⊤
    Refers (e.Variable' q x) = RefersIn x
    Refers (e.Group' q x) = Refers x
    Refers (e.Unary' o t q x) = Refers x
    Refers (e.Binary' o t q x r y) = Refers x × Refers y
    Refers (e.Array' k xs) = AllRefer xs
    Refers (e.Structure' t k xs) = AllRefer xs
    Refers (e.Call' f k xs) = (is_function (slice_get p.procedures.items f) ≡ true) × AllRefer xs
    Refers (e.Allocated' q x) = RefersIn x
    Refers (e.Size' q x) = ArgumentRefers x
    Refers (e.Bound' o q x r y) = ArgumentRefers x × Refers y

    pub ArgumentRefers : a.Argument → Type 0
    ArgumentRefers (a.Value' k q x) = Refers x
    ArgumentRefers (a.Variable' k q x) = RefersIn x

    pub AllRefer : {m : _} → e.Row_of-Argument m → Type 0
    AllRefer e.end_of-Argument = ⊤
    AllRefer (e.more_of-Argument x rest) = ArgumentRefers x × AllRefer rest

    pub RefersIn : d.Designator → Type 0
    RefersIn (d.Name x how) = SelectionRefers how
    RefersIn (d.Component' q x k how) = RefersIn x × SelectionRefers how

    pub SelectionRefers : l.Selection → Type 0
    SelectionRefers l.Whole = ⊤
    SelectionRefers l.Contents = ⊤
    SelectionRefers (l.Elements' o k xs) = SubscriptsRefer xs

    pub SubscriptsRefer : {m : _} → l.Row_of-Subscript m → Type 0
    SubscriptsRefer l.end_of-Subscript = ⊤
    SubscriptsRefer (l.more_of-Subscript x rest) = SubscriptRefers x × SubscriptsRefer rest

    pub SubscriptRefers : u.Subscript → Type 0
    SubscriptRefers (u.At' q x) = Refers x
    SubscriptRefers (u.Range' b q x c r y s z) = Refers x × Refers y × Refers z

  -- a CALL is of any procedure (12.4.1)
  abbrev pub CallRefers : e.Expression → Type 0
  CallRefers (e.Call' f k xs) = AllRefer xs
  CallRefers x = Refers x

  abbrev pub StatRefers : Option d.Designator → Type 0
  StatRefers None = ⊤
  StatRefers (Some x) = RefersIn x

  abbrev pub BoundsRefer : Bounds → Type 0
  BoundsRefer b = Refers b.lower × Refers b.upper

  abbrev pub RequestRefers : Request → Type 0
  RequestRefers r = RefersIn r.object × Each BoundsRefer r.bounds.items

  abbrev pub ItemRefers : Item → Type 0
  ItemRefers (item.Value x) = Refers x
  ItemRefers (item.Text t) = ⊤

  abbrev pub SelectorRefers : Selector → Type 0
  SelectorRefers (selector.Variable x) = RefersIn x
  SelectorRefers (selector.Value k x) = Refers x

  -- so in the expressions of a statement
  abbrev mutual
    pub StatementRefers : s.Statement → Type 0
    StatementRefers (s.At' place b q x) = StatementRefers x
    StatementRefers (s.Block' k xs) = BlockRefers xs
    StatementRefers (s.Assign x k y) = RefersIn x × Refers y
    StatementRefers (s.Call x) = CallRefers x
    StatementRefers (s.MoveAlloc k b x y) = RefersIn x × RefersIn y
    StatementRefers (s.Allocate rs stat) = Each RequestRefers rs.items × StatRefers stat
    StatementRefers (s.Deallocate rs stat) = Each RequestRefers rs.items × StatRefers stat
    StatementRefers (s.Print xs) = Each ItemRefers xs.items
    StatementRefers (s.Stop code) = ⊤
    StatementRefers s.Return = ⊤
    StatementRefers s.Cycle = ⊤
    StatementRefers s.Exit = ⊤
    StatementRefers (s.If' x q y r z) = Refers x × StatementRefers y × StatementRefers z
    StatementRefers (s.Select' x q y) = Refers x × StatementRefers y
    StatementRefers (s.Case' rs q x r y) = StatementRefers x × StatementRefers y
    StatementRefers (s.While' x q y) = Refers x × StatementRefers y
    StatementRefers (s.Count' x k from to step q y) = RefersIn x × Refers from × Refers to × Refers step × StatementRefers y
    StatementRefers (s.Associate' xs q y) = Each SelectorRefers xs.items × StatementRefers y

    pub BlockRefers : {m : _} → s.Row_of-Statement m → Type 0
    BlockRefers s.end_of-Statement = ⊤
    BlockRefers (s.more_of-Statement x rest) = StatementRefers x × BlockRefers rest
