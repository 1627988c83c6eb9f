-- Executable statements and constructs without where they lie in memory.
use Rattle.std.specs.Prelude.{ℤ, List, [], ◌∷◌, map, Option, Some, None}
use Rattle.std.specs.Option.{option_map}
use Rattle.std.specs.Global.{Vec}
use Rattle.f3_places.specs.declared.source.Place.{Place}
use Rattle.f3_tree.specs.declared.expression.Name.{Name}
use Rattle.f3_tree.specs.declared.expression.Expression.{Expression}
use Rattle.f3_tree.specs.declared.statement.Action.{Action}
use Rattle.f3_tree.specs.declared.statement.Action.TheVariants as action
use Rattle.f3_tree.specs.declared.statement.CaseValue.{CaseValue}
use Rattle.f3_tree.specs.declared.statement.CaseValue.TheVariants as value
use Rattle.f3_tree.specs.declared.statement.Selector.{Selector}
use Rattle.f3_tree.specs.declared.statement.Selector.TheVariants as selector
use Rattle.f3_tree.specs.declared.statement.Control.{Control}
use Rattle.f3_tree.specs.declared.statement.Control.TheVariants as control
use Rattle.f3_tree.specs.declared.statement.Association.{Association}
use Rattle.f3_tree.specs.declared.statement.Statement.{Statement, fold-Statement}
use Rattle.f3_tree.specs.declared.statement.Statement.TheOpen.{Statement-F}
use Rattle.f3_tree.specs.Expressions.{Tree, Parts, ArgumentTree, expression_view, argument_view, designator_view}

pub data Act : Type 0 where
  assign : Parts → Tree → Act
  call : Name → List ArgumentTree → Act
  allocate : List Parts → Option Parts → Act
  deallocate : List Parts → Option Parts → Act
  print : List Tree → Act
  stop : Option ℤ → Act
  return : Act
  cycle : Act
  exit : Act
  continue : Act

abbrev pub action_view : Action → Act
action_view (action.Assign v e) = assign (designator_view v) (expression_view e)
action_view (action.Call n arguments) = call n (map argument_view arguments.items)
action_view (action.Allocate vs stat) = allocate (map designator_view vs.items) (option_map designator_view stat)
action_view (action.Deallocate vs stat) = deallocate (map designator_view vs.items) (option_map designator_view stat)
action_view (action.Print es) = print (map expression_view es.items)
action_view (action.Stop digits) = stop digits
action_view action.Return = return
action_view action.Cycle = cycle
action_view action.Exit = exit
action_view action.Continue = continue

pub data CaseTree : Type 0 where
  one : Tree → CaseTree
  from : Tree → CaseTree
  up_to : Place → Tree → CaseTree
  range : Tree → Tree → CaseTree

abbrev pub case_view : CaseValue → CaseTree
case_view (value.Value e) = one (expression_view e)
case_view (value.From e) = from (expression_view e)
case_view (value.UpTo p e) = up_to p (expression_view e)
case_view (value.Range e f) = range (expression_view e) (expression_view f)

pub data Selects : Type 0 where
  values : List CaseTree → Selects
  default : Selects

abbrev pub selector_view : Selector → Selects
selector_view (selector.Values vs) = values (map case_view vs.items)
selector_view selector.Default = default

pub data Controls : Type 0 where
  forever : Controls
  counted : Name → Tree → Tree → Option Tree → Controls
  while : Tree → Controls

abbrev pub control_view : Control → Controls
control_view control.Forever = forever
control_view (control.Counted n first last step) = counted n (expression_view first) (expression_view last) (option_map expression_view step)
control_view (control.While e) = while (expression_view e)

pub record AssociationTree : Type 0 where
  pub name : Name
  pub selector : Tree

abbrev pub association_view : Association → AssociationTree
association_view a = record { name = a.name; selector = expression_view a.selector }

mutual
  pub data StatementTree : Type 0 where
    acts : Place → Act → StatementTree
    acts_if : Place → Tree → Place → Act → StatementTree
    branches : Branches → Alternative → StatementTree
    selects : Place → Tree → Cases → StatementTree
    repeats : Place → Controls → Block → StatementTree
    associates : Place → List AssociationTree → Block → StatementTree

  pub data Block : Type 0 where
    no_statements : Block
    statements : StatementTree → Block → Block

  -- IF and each ELSE IF
  pub data Branches : Type 0 where
    no_branches : Branches
    branch : Place → Tree → Block → Branches → Branches

  -- ELSE, where it is written
  pub data Alternative : Type 0 where
    no_alternative : Alternative
    alternative : Block → Alternative

  pub data Cases : Type 0 where
    no_cases : Cases
    case_block : Place → Selects → Block → Cases → Cases

abbrev pub block_of : List StatementTree → Block
block_of [] = no_statements
block_of (s ∷ ss) = statements s (block_of ss)

abbrev pub branches_of : List (Place × Expression × Vec StatementTree) → Branches
branches_of [] = no_branches
branches_of (b ∷ bs) = branch b.0 (expression_view b.1) (block_of (b.2).items) (branches_of bs)

abbrev pub alternative_of : Option (Vec StatementTree) → Alternative
alternative_of None = no_alternative
alternative_of (Some v) = alternative (block_of v.items)

abbrev pub cases_of : List (Place × Selector × Vec StatementTree) → Cases
cases_of [] = no_cases
cases_of (c ∷ cs) = case_block c.0 (selector_view c.1) (block_of (c.2).items) (cases_of cs)

-- one level; the blocks are seen already
abbrev pub statement_step : Statement-F StatementTree → StatementTree
statement_step (Statement-F.Action p a) = acts p (action_view a)
statement_step (Statement-F.LogicalIf p e q a) = acts_if p (expression_view e) q (action_view a)
statement_step (Statement-F.If bs other) = branches (branches_of bs.items) (alternative_of other)
statement_step (Statement-F.Select p e cs) = selects p (expression_view e) (cases_of cs.items)
statement_step (Statement-F.Do p c body) = repeats p (control_view c) (block_of body.items)
statement_step (Statement-F.Associate p xs body) = associates p (map association_view xs.items) (block_of body.items)

abbrev pub statement_view : Statement → StatementTree
statement_view = fold-Statement StatementTree statement_step

abbrev pub block_view : Vec Statement → Block
block_view v = block_of (map statement_view v.items)
