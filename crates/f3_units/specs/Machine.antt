-- Program units statement by statement.
use Rattle.std.specs.Prelude.{◌≡◌, ◌<◌, ℕ, Bool, true, false, ◌&&◌, ◌==◌, if◌then◌else◌, List, [], ◌∷◌, ◌++◌, length, map, Option, Some}
use Rattle.std.specs.Prelude.{None, Result, option_and_then}
use Rattle.std.specs.Option.{option_map}
use Rattle.f3_places.specs.declared.source.Place.{Place}
use Rattle.f3_tree.specs.declared.expression.Name.{Name}
use Rattle.f3_tree.specs.declared.program.UnitKind.{UnitKind}
use Rattle.f3_tree.specs.declared.program.UnitKind.TheVariants.{Module, Program}
use Rattle.f3_tree.specs.Statements.{block_of}
use Rattle.f3_tree.specs.Tree.{HeaderTree, header_view, ProcedureTree, procedure_view, UnitTree, unit_view}
use Rattle.f3_form.specs.declared.form.Ended.{Ended}
use Rattle.f3_blocks.specs.declared.error.StepError.{StepError}
use Rattle.f3_blocks.specs.Pieces.{Placed}
use Rattle.f3_blocks.specs.Pieces as blocks_pieces
use Rattle.f3_blocks.specs.Machine as blocks
use Rattle.f3_parts.specs.Parts.{fits_label}
use Rattle.f3_parts.specs.Pieces as parts_pieces
use Rattle.f3_parts.specs.Machine as parts
use Rattle.f3_parts.specs.Machine.{is_nil, is_none}
use Rattle.f3_units.specs.declared.scope.Scope.{Scope as CodeScope}
use Rattle.f3_units.specs.declared.builder.OpenProcedure.{OpenProcedure}
use Rattle.f3_units.specs.declared.builder.OpenUnit.{OpenUnit}
use Rattle.f3_units.specs.declared.builder.Builder.{Builder}
use Rattle.f3_units.specs.Roles.{Role, begins, contains, heads, ends, specifies, executes}
use Rattle.f3_units.specs.Units.{role_of, fits_unit, fits_procedure}

-- the specification part and the executable statements so far
pub record Scope : Type 0 where
  pub part : parts.State
  pub block : blocks.State

-- a procedure that is not closed yet
pub record Opened : Type 0 where
  pub header : HeaderTree
  pub scope : Scope

-- a unit that is not closed yet, and the procedure that is open in it
pub record Begun : Type 0 where
  pub file : ℕ
  pub place : Place
  pub kind : UnitKind
  pub name : Name
  pub scope : Scope
  pub contains : Option Place
  pub procedures : List ProcedureTree
  pub procedure : Option Opened

-- the units that are closed, and the one that is not
pub record State : Type 0 where
  pub done : List UnitTree
  pub unit : Option Begun

abbrev pub free : List UnitTree → State
free done = record { done = done; unit = None }

abbrev pub busy : List UnitTree → Begun → State
busy done u = record { done = done; unit = Some u }

abbrev pub start : State
start = free []

abbrev pub fresh : Scope
fresh = record { part = parts.start; block = blocks.start }

abbrev pub begun : Place → UnitKind → Name → Begun
begun place kind name = record { file = place.file; place = place; kind = kind; name = name; scope = fresh; contains = None; procedures = []; procedure = None }

-- ---- in a specification part, or among executable statements

abbrev pub with_part : Scope → parts.State → Scope
with_part s q = record { part = q; block = s.block }

abbrev pub with_block : Scope → blocks.State → Scope
with_block s b = record { part = s.part; block = b }

-- no executable statement stands yet
abbrev pub is_untouched : blocks.State → Bool
is_untouched b = is_nil b.opens && is_nil b.body

abbrev pub to_part : Bool → Placed → Scope → Option Scope
to_part of_module p s = if is_untouched s.block then option_map (with_part s) (parts.step of_module (parts_pieces.piece_of p) s.part) else None

abbrev pub to_block : Bool → Placed → Scope → Option Scope
to_block procedure p s = if is_none s.part.open_type then option_map (with_block s) (blocks.step procedure (blocks_pieces.piece_of p) s.block) else None

-- in a procedure or in a program
abbrev pub in_scope : Bool → Role → Placed → Scope → Option Scope
in_scope procedure executes p s = to_block procedure p s
in_scope procedure specifies p s = to_part false p s
in_scope procedure contains p s = to_part false p s
in_scope procedure _ p s = None

-- no type definition and no construct is open
abbrev pub is_over : Scope → Bool
is_over s = is_none s.part.open_type && is_nil s.block.opens

-- ---- in a unit

abbrev pub with_scope : Begun → Scope → Begun
with_scope u s = record u { scope = s }

abbrev pub with_procedure : Begun → HeaderTree → Scope → Begun
with_procedure u h s = record u { procedure = Some (record { header = h; scope = s }) }

abbrev pub with_closed : Begun → ProcedureTree → Begun
with_closed u q = record u { procedures = u.procedures ++ q ∷ []; procedure = None }

abbrev pub procedure_closed : Place → Option Ended → Option Name → Opened → Option ProcedureTree
procedure_closed place what label o =
    if is_over o.scope && (fits_procedure what (o.header).kind && fits_label label (o.header).name)
    then Some (record { header = o.header; part = o.scope.part.part; body = block_of o.scope.block.body; end = place })
    else None

abbrev pub in_procedure : Role → Placed → Begun → Opened → Option Begun
in_procedure (ends what label) p u o = option_map (with_closed u) (procedure_closed p.place what label o)
in_procedure r p u o = option_map (with_procedure u o.header) (in_scope true r p o.scope)

abbrev pub between_procedures : Role → Begun → Option Begun
between_procedures (heads h) u = Some (with_procedure u h fresh)
between_procedures _ u = None

-- CONTAINS of a type definition, or of the module
abbrev pub with_contains : Placed → Begun → Option Begun
with_contains p u = if is_over u.scope then Some (record u { contains = Some p.place }) else option_map (with_scope u) (to_part true p u.scope)

abbrev pub in_own : UnitKind → Role → Placed → Begun → Option Begun
in_own Program r p u = option_map (with_scope u) (in_scope false r p u.scope)
in_own Module specifies p u = option_map (with_scope u) (to_part true p u.scope)
in_own Module contains p u = with_contains p u
in_own Module _ p u = None

-- procedures stand behind CONTAINS
abbrev pub in_unit : Option Place → Option Opened → Role → Placed → Begun → Option Begun
in_unit None None r p u = in_own u.kind r p u
in_unit None (Some o) r p u = None
in_unit (Some place) None r p u = between_procedures r u
in_unit (Some place) (Some o) r p u = in_procedure r p u o

abbrev pub unit_closed : Place → Option Ended → Option Name → Begun → Option UnitTree
unit_closed place what label u =
    if is_over u.scope && (fits_unit what u.kind && fits_label label u.name)
    then Some
    (record {
      place = u.place;
      kind = u.kind;
      name = u.name;
      part = u.scope.part.part;
      body = block_of u.scope.block.body;
      contains = u.contains;
      procedures = u.procedures;
      end = place;
    })
    else None

abbrev pub still : List UnitTree → Option Begun → Option State
still done u = option_map (busy done) u

abbrev pub ended : List UnitTree → Option UnitTree → Option State
ended done u = option_map (λ v. free (done ++ v ∷ [])) u

-- an END closes the open procedure, or else the unit
abbrev pub inside : Option Opened → Role → Placed → List UnitTree → Begun → Option State
inside None (ends what label) p done u = ended done (unit_closed p.place what label u)
inside o r p done u = still done (in_unit u.contains o r p u)

-- ---- among units

abbrev pub between_units : Role → Placed → List UnitTree → Option State
between_units (begins kind name) p done = Some (busy done (begun p.place kind name))
between_units _ p done = None

abbrev pub step_from : Option Begun → Placed → List UnitTree → Option State
step_from None p done = between_units (role_of p) p done
step_from (Some u) p done = if u.file == (p.place).file then inside u.procedure (role_of p) p done u else None

abbrev pub step : Placed → State → Option State
step p s = step_from s.unit p s.done

abbrev pub run : List Placed → State → Option State
run [] s = Some s
run (p ∷ ps) s = option_and_then (run ps) (step p s)

-- ---- how many constructs are open

abbrev pub body_depth : Option Place → Option Opened → Scope → ℕ
body_depth None o s = length s.block.opens
body_depth (Some place) None s = 0
body_depth (Some place) (Some o) s = length o.scope.block.opens

abbrev pub unit_depth : Option Begun → ℕ
unit_depth None = 0
unit_depth (Some u) = body_depth u.contains u.procedure u.scope

abbrev pub depth : State → ℕ
depth s = unit_depth s.unit

-- a construct is opened within 64 that are open
abbrev pub IsDeeper : State → State → Type 0
IsDeeper s t = (depth s < depth t) × (64 < depth t)

-- ---- what the builder holds

abbrev pub scope_view : CodeScope → Scope
scope_view s = record { part = parts.builder_view s.part; block = blocks.builder_view s.block }

abbrev pub opened_view : OpenProcedure → Opened
opened_view o = record { header = header_view o.header; scope = scope_view o.scope }

abbrev pub begun_view : OpenUnit → Begun
begun_view u = record {
  file = u.file;
  place = u.place;
  kind = u.kind;
  name = u.name;
  scope = scope_view u.scope;
  contains = u.contains;
  procedures = map procedure_view u.procedures.items;
  procedure = option_map opened_view u.procedure;
}

abbrev pub builder_view : Builder → State
builder_view b = record { done = map unit_view b.units.items; unit = option_map begun_view b.unit }

abbrev pub scope_depth : Scope → ℕ
scope_depth s = length s.block.opens

abbrev pub begun_depth : Begun → ℕ
begun_depth u = body_depth u.contains u.procedure u.scope

-- What something becomes, or why it cannot, where so many constructs are open in it: from s to t, where the machine goes
-- from s to `next`. Nothing is said of t behind an error.
abbrev pub Becomes : {A U : Type 0} → (A → ℕ) → Result U StepError → A → A → Option A → Type 0
Becomes deep result s t next = blocks.Steps (λ x y. (deep x < deep y) × (64 < deep y)) result s t next

abbrev pub Steps : {U : Type 0} → Result U StepError → State → State → Option State → Type 0
Steps result s t next = blocks.Steps IsDeeper result s t next
