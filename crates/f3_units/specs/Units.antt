-- Program units: what statements spell them (2.2, 11.1, 11.2, 12.5.2).
use Rattle.std.specs.Prelude.{◌≡◌, ℕ, Bool, true, false, List, [], ◌∷◌, ◌++◌, Option, Some, None}
use Rattle.f3_places.specs.declared.source.Place.{Place}
use Rattle.f3_tree.specs.declared.expression.Name.{Name}
use Rattle.f3_tree.specs.declared.program.UnitKind.{UnitKind}
use Rattle.f3_tree.specs.declared.program.UnitKind.TheVariants.{Module, Program}
use Rattle.f3_tree.specs.declared.program.ProcedureKind.{ProcedureKind}
use Rattle.f3_tree.specs.declared.program.ProcedureKind.TheVariants.{Subroutine, Function}
use Rattle.f3_tree.specs.Statements.{Block, no_statements}
use Rattle.f3_tree.specs.Tree.{ProcedureTree, UnitTree}
use Rattle.f3_form.specs.declared.form.Ended.{Ended}
use Rattle.f3_form.specs.declared.form.Ended.TheVariants as ended
use Rattle.f3_blocks.specs.Pieces.{Placed}
use Rattle.f3_blocks.specs.Blocks.{IsBlock}
use Rattle.f3_parts.specs.Parts.{IsPart, fits_label}
use Rattle.f3_units.specs.Roles.{Role, begins, contains, heads, ends, role}

abbrev pub role_of : Placed → Role
role_of p = role p.form

abbrev pub is_module : UnitKind → Bool
is_module Module = true
is_module Program = false

-- an END may leave out what it closes
abbrev pub fits_unit : Option Ended → UnitKind → Bool
fits_unit None kind = true
fits_unit (Some ended.Module) Module = true
fits_unit (Some ended.Program) Program = true
fits_unit _ _ = false

abbrev pub fits_procedure : Option Ended → ProcedureKind → Bool
fits_procedure None kind = true
fits_procedure (Some ended.Subroutine) Subroutine = true
fits_procedure (Some ended.Function) (Function specifier result) = true
fits_procedure _ _ = false

-- A procedure is its header, a specification part, executable statements, and an END with the kind and the name of the
-- procedure, where it has such.
pub record IsProcedure (p : ProcedureTree) (ps : List Placed) : Type 0 where
  pub first : Placed
  pub part : List Placed
  pub body : List Placed
  pub last : Placed
  pub what : Option Ended
  pub label : Option Name
  pub is : ps ≡ first ∷ (part ++ (body ++ last ∷ []))
  pub begins : role_of first ≡ heads p.header
  pub is_part : IsPart false p.part part
  pub is_body : IsBlock true p.body body
  pub ends : role_of last ≡ ends what label
  pub end : last.place ≡ p.end
  pub what_fits : fits_procedure what (p.header).kind ≡ true
  pub label_fits : fits_label label (p.header).name ≡ true

-- one procedure after the other
abbrev pub AreProcedures : List ProcedureTree → List Placed → Type 0
AreProcedures [] ps = ps ≡ []
AreProcedures (q ∷ qs) ps = (front : List Placed) × (rest : List Placed) × (ps ≡ front ++ rest) × IsProcedure q front × AreProcedures qs rest

-- CONTAINS and the procedures behind it, where it is written
abbrev pub IsContained : Option Place → List ProcedureTree → List Placed → Type 0
IsContained None qs ps = (qs ≡ []) × (ps ≡ [])
IsContained (Some place) qs ps =
    (first : Placed) × (rest : List Placed) × (ps ≡ first ∷ rest) × (role_of first ≡ contains) × (first.place ≡ place)
    × AreProcedures qs rest

-- what stands behind the specification part of a unit: procedures in a module, executable statements in a program
abbrev pub IsBehind : UnitKind → Block → Option Place → List ProcedureTree → List Placed → Type 0
IsBehind Module b place qs ps = (b ≡ no_statements) × IsContained place qs ps
IsBehind Program b place qs ps = (place ≡ None) × (qs ≡ []) × IsBlock false b ps

-- A unit is its first statement, a specification part, what stands behind that, and an END with the kind and the name of
-- the unit, where it has such.
pub record IsUnit (u : UnitTree) (ps : List Placed) : Type 0 where
  pub first : Placed
  pub part : List Placed
  pub behind : List Placed
  pub last : Placed
  pub what : Option Ended
  pub label : Option Name
  pub is : ps ≡ first ∷ (part ++ (behind ++ last ∷ []))
  pub begins : role_of first ≡ begins u.kind u.name
  pub place : first.place ≡ u.place
  pub is_part : IsPart (is_module u.kind) u.part part
  pub is_behind : IsBehind u.kind u.body u.contains u.procedures behind
  pub ends : role_of last ≡ ends what label
  pub end : last.place ≡ u.end
  pub what_fits : fits_unit what u.kind ≡ true
  pub label_fits : fits_label label u.name ≡ true

-- each statement stands in this source
abbrev pub AllIn : ℕ → List Placed → Type 0
AllIn file [] = Unit {0}
AllIn file (p ∷ ps) = ((p.place).file ≡ file) × AllIn file ps

-- the statements are those of units, one after the other, each of which stands in one source
abbrev pub AreUnits : List UnitTree → List Placed → Type 0
AreUnits [] ps = ps ≡ []
AreUnits (u ∷ us) ps = (file : ℕ) × (front : List Placed) × (rest : List Placed) × (ps ≡ front ++ rest) × AllIn file front × IsUnit u front × AreUnits us rest

-- the statements end with a unit, or before the first
abbrev pub Complete : List Placed → Type 0
Complete ps = (us : List UnitTree) × AreUnits us ps

-- some statements that begin so are those of units
abbrev pub Viable : List Placed → Type 0
Viable ps = (more : List Placed) × Complete (ps ++ more)

-- the same, with all that follows in one source: what is begun may go on there
abbrev pub GoesOn : ℕ → List Placed → Type 0
GoesOn file ps = (more : List Placed) × AllIn file more × Complete (ps ++ more)
