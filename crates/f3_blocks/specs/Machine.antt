-- A block statement by statement.
use Rattle.std.specs.Prelude.{◌≡◌, ◌<◌, Bool, true, false, ◌&&◌, ◌||◌, if◌then◌else◌, List, [], ◌∷◌, ◌++◌, length, map, reverse, Option}
use Rattle.std.specs.Prelude.{Some, None, Result, Ok, Err, option_and_then}
use Rattle.std.specs.Global.{Vec}
use Rattle.f3_places.specs.declared.source.Place.{Place}
use Rattle.f3_tree.specs.Expressions.{Tree, expression_view}
use Rattle.f3_tree.specs.declared.expression.Expression.{Expression}
use Rattle.f3_tree.specs.declared.statement.Selector.{Selector}
use Rattle.f3_tree.specs.declared.statement.Statement.{Statement}
use Rattle.f3_tree.specs.Statements.{Act, Selects, selector_view, Controls, control_view, StatementTree, acts, acts_if, branches, selects}
use Rattle.f3_tree.specs.Statements.{AssociationTree, association_view, repeats, associates}
use Rattle.f3_tree.specs.Statements.{Block, Branches, no_branches, branch, no_alternative, alternative, Cases, no_cases}
use Rattle.f3_tree.specs.Statements.{case_block, block_of, statement_view, block_view}
use Rattle.f3_blocks.specs.declared.builder.Opening.{Opening}
use Rattle.f3_blocks.specs.declared.builder.Opening.TheVariants as opening
use Rattle.f3_blocks.specs.declared.builder.OpenConstruct.{OpenConstruct}
use Rattle.f3_blocks.specs.declared.builder.BlockBuilder.{BlockBuilder}
use Rattle.f3_blocks.specs.declared.builder.Edge.{Edge}
use Rattle.f3_blocks.specs.declared.builder.Edge.TheVariants as edge
use Rattle.f3_blocks.specs.declared.error.StepError.{StepError}
use Rattle.f3_blocks.specs.declared.error.StepError.TheVariants.{Memory, OutOfPlace, TooDeep}
use Rattle.f3_form.specs.declared.form.Ended.{Ended}
use Rattle.f3_form.specs.declared.form.Ended.TheVariants as ended
use Rattle.f3_blocks.specs.Pieces.{Piece, act, act_if, if_begins, else_if_begins, else_begins, if_ends, select_begins, case_begins}
use Rattle.f3_blocks.specs.Pieces.{select_ends, do_begins, do_ends, associate_begins, associate_ends, no_piece}
use Rattle.f3_blocks.specs.Blocks.{may_act}

-- IF or ELSE IF, its condition, and its block
abbrev pub Tested : Type 0
Tested = Place × Tree × Block

-- a CASE, what it selects, and its block
abbrev pub Chosen : Type 0
Chosen = Place × Selects × Block

abbrev pub branches_from : List Tested → Branches
branches_from [] = no_branches
branches_from (b ∷ bs) = branch b.0 b.1 b.2 (branches_from bs)

abbrev pub cases_from : List Chosen → Cases
cases_from [] = no_cases
cases_from (c ∷ cs) = case_block c.0 c.1 c.2 (cases_from cs)

-- An open construct: what of it is closed, where it goes on, and the statements before it.
pub data Open : Type 0 where
  -- the branches before, and the IF or ELSE IF that is open
  in_if : List Tested → Place → Tree → List StatementTree → Open
  in_else : List Tested → List StatementTree → Open
  -- before the first CASE
  in_select : Place → Tree → List StatementTree → Open
  -- the cases before, and the CASE that is open
  in_case : Place → Tree → List Chosen → Place → Selects → List StatementTree → Open
  in_do : Place → Controls → List StatementTree → Open
  in_associate : Place → List AssociationTree → List StatementTree → Open

-- the open constructs from the innermost, and what stands in that
pub record State : Type 0 where
  pub opens : List Open
  pub body : List StatementTree

abbrev pub start : State
start = record { opens = []; body = [] }

abbrev pub is_do : Open → Bool
is_do (in_do p c before) = true
is_do _ = false

abbrev pub in_loop : List Open → Bool
in_loop [] = false
in_loop (o ∷ os) = is_do o || in_loop os

-- before the first CASE stands no statement
abbrev pub may_stand : List Open → Bool
may_stand (in_select p e before ∷ os) = false
may_stand _ = true

-- a part of a construct that begins, within these constructs
abbrev pub within : Open → List Open → State
within o os = record { opens = o ∷ os; body = [] }

-- a statement behind others, within these constructs
abbrev pub behind : List Open → List StatementTree → StatementTree → State
behind os before t = record { opens = os; body = before ++ t ∷ [] }

abbrev pub pushed : Bool → StatementTree → State → Option State
pushed allowed t s = if may_stand s.opens && allowed then Some (behind s.opens s.body t) else None

abbrev pub opened : Open → State → Option State
opened o s = if may_stand s.opens then Some (within o s.opens) else None

abbrev pub to_else_if : Place → Tree → List Open → List StatementTree → Option State
to_else_if p e (in_if done q f before ∷ os) body = Some (within (in_if (done ++ (q, f, block_of body) ∷ []) p e before) os)
to_else_if p e _ body = None

abbrev pub to_else : List Open → List StatementTree → Option State
to_else (in_if done q f before ∷ os) body = Some (within (in_else (done ++ (q, f, block_of body) ∷ []) before) os)
to_else _ body = None

abbrev pub close_if : List Open → List StatementTree → Option State
close_if (in_if done q f before ∷ os) body = Some (behind os before (branches (branches_from (done ++ (q, f, block_of body) ∷ [])) no_alternative))
close_if (in_else done before ∷ os) body = Some (behind os before (branches (branches_from done) (alternative (block_of body))))
close_if _ body = None

abbrev pub to_case : Place → Selects → List Open → List StatementTree → Option State
to_case p s (in_select q e before ∷ os) body = Some (within (in_case q e [] p s before) os)
to_case p s (in_case q e done r t before ∷ os) body = Some (within (in_case q e (done ++ (r, t, block_of body) ∷ []) p s before) os)
to_case p s _ body = None

abbrev pub close_select : List Open → List StatementTree → Option State
close_select (in_select q e before ∷ os) body = Some (behind os before (selects q e no_cases))
close_select (in_case q e done r t before ∷ os) body = Some (behind os before (selects q e (cases_from (done ++ (r, t, block_of body) ∷ []))))
close_select _ body = None

abbrev pub close_do : List Open → List StatementTree → Option State
close_do (in_do p c before ∷ os) body = Some (behind os before (repeats p c (block_of body)))
close_do _ body = None

abbrev pub close_associate : List Open → List StatementTree → Option State
close_associate (in_associate p xs before ∷ os) body = Some (behind os before (associates p xs (block_of body)))
close_associate _ body = None

abbrev pub step : Bool → Piece → State → Option State
step procedure (act p a) s = pushed (may_act procedure (in_loop s.opens) a) (acts p a) s
step procedure (act_if p e q a) s = pushed (may_act procedure (in_loop s.opens) a) (acts_if p e q a) s
step procedure (if_begins p e) s = opened (in_if [] p e s.body) s
step procedure (else_if_begins p e) s = to_else_if p e s.opens s.body
step procedure else_begins s = to_else s.opens s.body
step procedure if_ends s = close_if s.opens s.body
step procedure (select_begins p e) s = opened (in_select p e s.body) s
step procedure (case_begins p t) s = to_case p t s.opens s.body
step procedure select_ends s = close_select s.opens s.body
step procedure (do_begins p c) s = opened (in_do p c s.body) s
step procedure do_ends s = close_do s.opens s.body
step procedure (associate_begins p xs) s = opened (in_associate p xs s.body) s
step procedure associate_ends s = close_associate s.opens s.body
step procedure no_piece s = None

abbrev pub run : Bool → List Piece → State → Option State
run procedure [] s = Some s
run procedure (p ∷ ps) s = option_and_then (run procedure ps) (step procedure p s)

-- ---- what the builder holds

abbrev pub tested_view : Place × Expression × Vec Statement → Tested
tested_view b = (b.0, expression_view b.1, block_view b.2)

abbrev pub chosen_view : Place × Selector × Vec Statement → Chosen
chosen_view c = (c.0, selector_view c.1, block_view c.2)

abbrev pub open_as : Opening → List StatementTree → Open
open_as (opening.If bs p e) before = in_if (map tested_view bs.items) p (expression_view e) before
open_as (opening.Else bs) before = in_else (map tested_view bs.items) before
open_as (opening.Select p e) before = in_select p (expression_view e) before
open_as (opening.Case p e cs q s) before = in_case p (expression_view e) (map chosen_view cs.items) q (selector_view s) before
open_as (opening.Do p c) before = in_do p (control_view c) before
open_as (opening.Associate p xs) before = in_associate p (map association_view xs.items) before

abbrev pub open_view : OpenConstruct → Open
open_view c = open_as c.opening (map statement_view c.before.items)

abbrev pub builder_view : BlockBuilder → State
builder_view b = record { opens = reverse (map open_view b.constructs.items); body = map statement_view b.body.items }

-- a construct goes on behind an edge
abbrev pub turned : Edge → List Open → List StatementTree → Option State
turned (edge.ElseIf p e) os body = to_else_if p (expression_view e) os body
turned edge.Else os body = to_else os body
turned (edge.Case p s) os body = to_case p (selector_view s) os body

-- an END that says this ends the innermost construct
abbrev pub close : Option Ended → List Open → List StatementTree → Option State
close (Some ended.If) os body = close_if os body
close (Some ended.Select) os body = close_select os body
close (Some ended.Do) os body = close_do os body
close (Some ended.Associate) os body = close_associate os body
close _ os body = None

-- the innermost construct is taken out, with its block
abbrev pub Pops : Option (OpenConstruct × Vec Statement) → State → State → Type 0
Pops None s t = s.opens ≡ []
Pops (Some x) s t = (s ≡ record { opens = open_view x.0 ∷ t.opens; body = map statement_view x.1.items }) × (t.body ≡ [])

-- what is made, or that there is none
abbrev pub Turns : {A X : Type 0} → (X → A) → Result X StepError → Option A → Type 0
Turns seen (Ok x) next = next ≡ Some (seen x)
Turns seen (Err Memory) next = Unit {0}
Turns seen (Err OutOfPlace) next = next ≡ None
Turns seen (Err TooDeep) next = ⊥

-- What something becomes, or why it cannot: from s to t, where the machine goes from s to `next`. Nothing is said of t
-- behind an error.
abbrev pub Steps : {A U : Type 0} → (A → A → Type 0) → Result U StepError → A → A → Option A → Type 0
Steps IsTooDeep (Ok u) s t next = (next ≡ Some t) × (IsTooDeep s t → ⊥)
Steps IsTooDeep (Err Memory) s t next = Unit {0}
Steps IsTooDeep (Err OutOfPlace) s t next = next ≡ None
Steps {A} IsTooDeep (Err TooDeep) s t next = (d : A) × (next ≡ Some d) × IsTooDeep s d

-- a construct is opened within 64 that are open
abbrev pub IsDeeper : State → State → Type 0
IsDeeper s t = (length s.opens < length t.opens) × (64 < length t.opens)

-- what a builder becomes, or why it cannot
abbrev pub Moves : {U : Type 0} → Result U StepError → State → State → Option State → Type 0
Moves result s t next = Steps IsDeeper result s t next
