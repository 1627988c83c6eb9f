-- The Core of a program.
use Rattle.std.specs.Prelude.{ℕ, suc, Bool, true, false, not, ◌&&◌, ◌||◌, nat_eq, nat_lt, if◌then◌else◌, List, [], ◌∷◌, map, length, Option, None, Some, slice_get, slice_index_or}
use Rattle.f3_program.specs.declared.declarations.Base.{Base}
use Rattle.f3_program.specs.declared.declarations.Base.TheVariants as base
use Rattle.f3_program.specs.declared.declarations.Component.{Component}
use Rattle.f3_program.specs.declared.declarations.Declared.{Declared}
use Rattle.f3_program.specs.declared.declarations.Derived.{Derived}
use Rattle.f3_program.specs.declared.declarations.Final.{Final}
use Rattle.f3_program.specs.declared.declarations.Kind.{Kind}
use Rattle.f3_program.specs.declared.statement.Request.{Request}
use Rattle.f3_program.specs.declared.statement.Selector.{Selector}
use Rattle.f3_program.specs.declared.statement.Selector.TheVariants as selector
use Rattle.f3_program.specs.declared.statement.Statement as s
use Rattle.f3_program.specs.declared.program.Dummy.{Dummy}
use Rattle.f3_program.specs.declared.program.Intent.{Intent}
use Rattle.f3_program.specs.declared.program.Intent.TheVariants as intent
use Rattle.f3_program.specs.declared.program.Procedure.{Procedure}
use Rattle.f3_program.specs.declared.program.Program.{Program}
use Rattle.f3_program.specs.declared.program.Static as x
use Rattle.f3_meaning_whole.specs.Value.{Value}
use Rattle.f3_meaning_whole.specs.Shape.{Whole, initial_of, shape_in, shapes_of}
use Rattle.f3_meaning_whole.specs.Destroy.{is_destroyed}
use Rattle.f3_meaning_whole.specs.Act.{Setting}
use Rattle.f3_meaning_whole.specs.Exec.{initial_value, declared_in, variables}
use Rattle.f3_meaning_whole.specs.Run.{setting_of}
use Rattle.f3_code.specs.Work as w
use Rattle.f3_code.specs.Core as c

-- ---- work

-- the final subroutines of a type, by its declaration (ISO/IEC 1539-1:2004, 4.5.5)
abbrev pub finals_in : Option Derived → List Final
finals_in None = []
finals_in (Some t) = t.finals.items

-- the final subroutine for the object's rank (4.5.5)
abbrev pub final_work : List Final → w.Work
final_work [] = w.Rest
final_work (f ∷ fs) = w.Of_rank f.rank (w.Final f.procedure) (final_work fs)

-- An object is destroyed (4.5.5.1), lent throughout: the final subroutine, the routine of the type on each element, and at
-- the end what has been allocated again beneath is freed. Only types of lower numbers have routines. Where nothing in it is finalized
-- or deallocated there is no work.
abbrev pub object_work : List Derived → ℕ → Base → w.Work
object_work types m base.Integer = w.Rest
object_work types m base.Long = w.Rest
object_work types m base.Logical = w.Rest
object_work types m (base.Derived t) =
    if nat_lt t m && is_destroyed types (slice_index_or (shapes_of types) t Whole) then w.And (w.Lending (w.And (final_work (finals_in (slice_get types t))) (w.Of_elements (w.Routine t)))) w.Clear else w.Rest

-- an allocatable object is deallocated where it is allocated, another destroyed (6.3.3.1, 4.5.5.2)
abbrev pub finish_work : List Derived → ℕ → Kind → w.Work
finish_work types m k = if k.is_allocatable then w.If_allocated (w.Of_contents (object_work types m k.of)) else object_work types m k.of

-- the routine of a type: component by component, from one on (4.5.5.1)
abbrev pub routine_of : List Derived → ℕ → ℕ → List Component → w.Work
routine_of types m k [] = w.Rest
routine_of types m k (x ∷ xs) = w.And (w.Of_component k (finish_work types m x.declared.kind)) (routine_of types m (suc k) xs)

-- the routines of types, before those of the types that stand before them
abbrev pub routines_from : List Derived → List w.Work → List Derived → List w.Work
routines_from types older [] = older
routines_from types older (t ∷ ts) = routines_from types (routine_of types (length older) 0 t.components.items ∷ older) ts

-- of each type its routine, the newest type first
abbrev pub routines : List Derived → List w.Work
routines types = routines_from types [] types

-- whether a type is a derived one (4.5)
abbrev pub is_derived : Base → Bool
is_derived base.Integer = false
is_derived base.Long = false
is_derived base.Logical = false
is_derived (base.Derived t) = true

-- values of array or derived type are held in storage of their own (own rule)
abbrev pub discard_work : Kind → w.Work
discard_work k = if is_derived k.of || not (nat_eq k.rank 0) then w.Discard else w.Rest

module _ (g : Setting) where
  -- an object of a type is destroyed, with the routines of all types (4.5.5.1)
  abbrev pub destroy_work : Base → w.Work
  destroy_work of = object_work g.program.types.items (length g.program.types.items) of

  -- an object goes (6.3.3.1, 4.5.5.2)
  abbrev pub end_work : Kind → w.Work
  end_work k = finish_work g.program.types.items (length g.program.types.items) k

  -- the value with which an object of a type begins (default initialization, 4.5.3.4)
  abbrev pub initial : Base → Value
  initial of = initial_of (shape_in g.shapes of)

  -- what was there is destroyed, then the value put there (7.4.1.3)
  abbrev pub overwriting : Kind → c.Transfer
  overwriting k = c.Behind (destroy_work k.of) (c.Take k.of)

  -- a new object with the shape of the value (own rule)
  abbrev pub filling : Kind → c.Transfer
  filling k = c.New k.rank (initial k.of) (c.In_contents (c.Fill k.of))

  -- an assignment, to a whole allocatable with allocation (own rule)
  abbrev pub assigning : Kind → c.Transfer
  assigning k = if k.is_allocatable
      then c.By_state (c.In_contents (overwriting k)) (c.Behind (w.Of_contents (destroy_work k.of)) (filling k)) (c.Of_rank k.rank (filling k))
      else c.Conforming (overwriting k)

  -- ---- statements

  -- an object of an ALLOCATE (6.3.1)
  abbrev pub allocation : Request → c.Allocation
  allocation r = record { object = r.object; bounds = r.bounds.items; rank = r.kind.rank; element = initial r.kind.of }

  -- an object of a DEALLOCATE (6.3.3)
  abbrev pub deallocation : Request → c.Deallocation
  deallocation r = record { object = r.object; free = w.Of_contents (destroy_work r.kind.of) }

  -- a selector of an ASSOCIATE (8.1.4)
  abbrev pub selecting : Selector → c.Selector
  selecting (selector.Variable d) = c.Bind d
  selecting (selector.Value k e) = c.Hold k.of e (discard_work k)

  -- the Core of a statement, by its form, with the clauses of Core
  abbrev mutual
    pub lowered : s.Statement → c.Core
    lowered (s.At' place b p x) = c.At place b (lowered x)
    lowered (s.Block' k xs) = lowered_block xs
    lowered (s.Assign d k e) = c.Assign d (assigning k) e
    lowered (s.Call e) = c.Call e
    lowered (s.MoveAlloc k b d e) = c.Move b (end_work k) d e
    lowered (s.Allocate rs stat) = c.Allocate (map allocation rs.items) stat
    lowered (s.Deallocate rs stat) = c.Deallocate (map deallocation rs.items) stat
    lowered (s.Print xs) = c.Print xs.items
    lowered (s.Stop code) = c.Stop code
    lowered s.Return = c.Return
    lowered s.Cycle = c.Cycle
    lowered s.Exit = c.Exit
    lowered (s.If' e p x q y) = c.If e (lowered x) (lowered y)
    lowered (s.Select' e p x) = c.Select e (lowered x)
    lowered (s.Case' rs p x q y) = c.Case rs.items (lowered x) (lowered y)
    lowered (s.While' e p x) = c.While e (lowered x)
    lowered (s.Count' d k from to by p x) = c.Count d k from to by (lowered x)
    lowered (s.Associate' xs p x) = c.Associate (map selecting xs.items) (lowered x)

    pub lowered_block : {m : _} → s.Row_of-Statement m → c.Core
    lowered_block s.end_of-Statement = c.Skip
    lowered_block (s.more_of-Statement x rest) = c.Then (lowered x) (lowered_block rest)

  -- ---- procedures

  -- INTENT(OUT): an allocatable is deallocated, another object destroyed and set to its initial value (12.4.1.7)
  abbrev pub out_work : Intent → Kind → w.Work
  out_work intent.In k = w.Rest
  out_work intent.Out k = w.And (end_work k) (if k.is_allocatable then w.Rest else w.Set (initial k.of))
  out_work intent.InOut k = w.Rest

  -- the result stands behind the other variables (own rule)
  abbrev pub result_number : Option Declared → ℕ → Option ℕ
  result_number None i = None
  result_number (Some d) i = Some i

  -- the Core of a procedure (2.2.3)
  abbrev pub lowered_procedure : Procedure → c.Procedure
  lowered_procedure p = record {
    unit = p.unit;
    dummies = p.dummies.items;
    begin = map (λ (d : Dummy). out_work d.intent d.kind) p.dummies.items;
    variables = declared_in p;
    initial = variables g p;
    body = lowered p.body;
    end = p.end;
    finish = map (λ (d : Declared). end_work d.kind) p.locals.items;
    discard = map (λ (d : Dummy). discard_work d.kind) p.dummies.items;
    result = result_number p.result (length p.locals.items);
  }

  -- what the main program has is never finalized (own rule)
  abbrev pub lowered_main : Procedure → c.Procedure
  lowered_main p = record {
    unit = p.unit;
    dummies = [];
    begin = [];
    variables = declared_in p;
    initial = variables g p;
    body = lowered p.body;
    end = p.end;
    finish = [];
    discard = [];
    result = None;
  }

-- the Core of a program (2.2.1)
abbrev pub lowered_program : Program → c.Program
lowered_program p = record {
  types = p.types;
  statics = p.statics;
  routines = routines p.types.items;
  initial = map (λ (y : x.Static). initial_value (setting_of p) y.declared) p.statics.items;
  procedures = map (lowered_procedure (setting_of p)) p.procedures.items;
  main = lowered_main (setting_of p) p.main;
  start = p.start;
}
