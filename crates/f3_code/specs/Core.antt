-- Core: programs in which what the source leaves to its reader is written out.
use Rattle.std.specs.Prelude.{ℕ, Bool, List, Option, Vec}
use Rattle.std.specs.declared.alloc.Global.{Global}
use Rattle.f3_places.specs.declared.source.Place.{Place}
use Rattle.f3_program.specs.declared.declarations.Base.{Base}
use Rattle.f3_program.specs.declared.declarations.Declared.{Declared}
use Rattle.f3_program.specs.declared.declarations.Derived.{Derived}
use Rattle.f3_program.specs.declared.declarations.Kind.{Kind}
use Rattle.f3_program.specs.declared.expression.Designator.{Designator}
use Rattle.f3_program.specs.declared.expression.Expression.{Expression}
use Rattle.f3_program.specs.declared.statement.Bounds.{Bounds}
use Rattle.f3_program.specs.declared.statement.Item.{Item}
use Rattle.f3_program.specs.declared.statement.Range.{Range}
use Rattle.f3_program.specs.declared.program.Dummy.{Dummy}
use Rattle.f3_program.specs.declared.program.Static.{Static}
use Rattle.f3_meaning_whole.specs.Value.{Value}
use Rattle.f3_code.specs.Work.{Work}

-- What an assignment does with its variable and the value of its expression (ISO/IEC 1539-1:2004, 7.4.1.3; own order).
pub data Transfer : Type 0 where
  -- an error where the value is an array of another shape than the variable
  Conforming : Transfer → Transfer
  -- the first where the variable is allocated in the shape of the value, the second where it is in another, the third where it is unallocated (own rule)
  By_state : (same other unallocated : Transfer) → Transfer
  -- an error where the value is of another rank (own rule)
  Of_rank : (rank : ℕ) → Transfer → Transfer
  -- work on the variable comes first
  Behind : Work → Transfer → Transfer
  -- the variable is allocated with the bounds of the value, and each element has this value for a moment
  New : (rank : ℕ) → Value → Transfer → Transfer
  -- the variable's contents are meant (6.3.1.1)
  In_contents : Transfer → Transfer
  -- the variable takes the value, converted to a type, and storage for it
  Take : Base → Transfer
  -- the variable, which has just got its storage, takes the value, converted to a type
  Fill : Base → Transfer

-- an object of an ALLOCATE: its bounds, its rank, and the value with which its elements begin (6.3.1)
pub record Allocation : Type 0 where
  pub object : Designator
  pub bounds : List Bounds
  pub rank : ℕ
  pub element : Value

-- an object of a DEALLOCATE, and the work by which it is deallocated (6.3.3)
pub record Deallocation : Type 0 where
  pub object : Designator
  pub free : Work

-- a selector of an ASSOCIATE (8.1.4): an object that is bound and lent, or a value of a type that is held, with the work on it at the end
pub data Selector : Type 0 where
  Bind : Designator → Selector
  Hold : Base → Expression → (at_end : Work) → Selector

-- An executable statement or a construct (2.3.1).
pub data Core : Type 0 where
  -- an action or a construct at a place, or, where the flag is false, an ELSE IF there (2.3.1, 8.1.2)
  At : Place → Bool → Core → Core
  -- nothing (8.3)
  Skip : Core
  -- the one, then the other (8.1.1)
  Then : Core → Core → Core
  -- the expression is evaluated, then the variable located, then the value goes to it (7.4.1)
  Assign : Designator → Transfer → Expression → Core
  -- a subroutine is called (12.4)
  Call : Expression → Core
  -- MOVE_ALLOC (13.7.82): whether FROM is the first, and the work on TO, both lent
  Move : Bool → Work → Designator → Designator → Core
  -- with the STAT variable, if there is one (6.3.1, 6.3.3)
  Allocate : List Allocation → Option Designator → Core
  Deallocate : List Deallocation → Option Designator → Core
  -- a PRINT (9.5)
  Print : List Item → Core
  -- a STOP (8.4)
  Stop : Option ℕ → Core
  -- how blocks and procedures are left (12.5.2.4, 8.1.6.4.3, 8.1.6.4.4)
  Return : Core
  Cycle : Core
  Exit : Core
  -- what is done where the condition holds, and where not (8.1.2)
  If : Expression → Core → Core → Core
  -- a SELECT CASE (8.1.3): its value, and its cases
  Select : Expression → Core → Core
  -- what is done where the value of the SELECT CASE around it is in a range, and where not (8.1.3)
  Case : List Range → Core → Core → Core
  -- a DO WHILE (8.1.6)
  While : Expression → Core → Core
  -- a DO (8.1.6): its variable and that one's kind, its bounds and its step
  Count : Designator → Kind → Expression → Expression → Expression → Core → Core
  -- an ASSOCIATE (8.1.4)
  Associate : List Selector → Core → Core

-- A procedure or the main program (2.2.3).
pub record Procedure : Type 0 where
  pub unit : ℕ
  pub dummies : List Dummy
  -- the work on each dummy as the procedure begins: what INTENT(OUT) asks for (12.4.1.7)
  pub begin : List Work
  -- what is declared of the variables, the result behind the others, and the values with which they begin (5.1, 16.5)
  pub variables : List Declared
  pub initial : List Value
  pub body : Core
  pub end : Place
  -- the work on each variable at a RETURN or END, in order (4.5.5.2, 6.3.3.1)
  pub finish : List Work
  -- the work at the end on each dummy whose argument is a held value (own rule for 12.4.1.2)
  pub discard : List Work
  -- the number of a function's result among the variables (12.5.2.1)
  pub result : Option ℕ

-- A program (2.2.1): types and variables as they are declared, which expressions look up; of each type its routine, the
-- newest type first; the values with which variables begin that live for the whole run.
pub record Program : Type 0 where
  pub types : Vec Derived Global
  pub statics : Vec Static Global
  pub routines : List Work
  pub initial : List Value
  pub procedures : List Procedure
  pub main : Procedure
  pub start : Place
