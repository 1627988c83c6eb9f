-- What a statement is among units and procedures.
use Rattle.std.specs.Prelude.{◌≡◌, Option, Some}
use Rattle.f3_tree.specs.declared.expression.Name.{Name}
use Rattle.f3_tree.specs.declared.program.UnitKind.{UnitKind}
use Rattle.f3_tree.specs.Tree.{HeaderTree}
use Rattle.f3_form.specs.declared.form.Ended.{Ended}
use Rattle.f3_form.specs.declared.form.Ended.TheVariants as ended
use Rattle.f3_form.specs.Forms.{FormTree}
use Rattle.f3_form.specs.Forms as form
use Rattle.f3_units.specs.declared.scope.Role.{Role as CodeRole}
use Rattle.f3_units.specs.declared.scope.Role.TheVariants as code

pub data Role : Type 0 where
  -- MODULE or PROGRAM
  begins : UnitKind → Name → Role
  contains : Role
  -- SUBROUTINE or FUNCTION
  heads : HeaderTree → Role
  -- END of a unit or of a procedure
  ends : Option Ended → Option Name → Role
  -- a statement of a specification part
  specifies : Role
  -- a statement of a block
  executes : Role

abbrev pub end_role : Option Ended → Option Name → Role
end_role (Some ended.Type) n = specifies
end_role (Some ended.If) n = executes
end_role (Some ended.Select) n = executes
end_role (Some ended.Do) n = executes
end_role (Some ended.Associate) n = executes
end_role what n = ends what n

abbrev pub role : FormTree → Role
role (form.unit kind n) = begins kind n
role form.contains = contains
role (form.procedure h) = heads h
role (form.ends what n) = end_role what n
role (form.uses u) = specifies
role form.implicit_none = specifies
role (form.accesses a) = specifies
role (form.protects names) = specifies
role form.saves = specifies
role (form.declares d) = specifies
role (form.type_begins a n) = specifies
role (form.finals names) = specifies
role (form.acts a) = executes
role (form.acts_if e p a) = executes
role (form.if_then e) = executes
role (form.else_if e) = executes
role form.else_alone = executes
role (form.select_case e) = executes
role (form.case_of s) = executes
role (form.repeats c) = executes
role (form.associates xs) = executes

-- ---- what the code says of it

abbrev pub IsEnd : Role → Type 0
IsEnd (ends what n) = Unit {0}
IsEnd _ = ⊥

-- the role that is told, but for a header
abbrev pub Tells : CodeRole → Role → Type 0
Tells (code.Begins kind n) r = r ≡ begins kind n
Tells code.Contains r = r ≡ contains
Tells code.Heads r = (h : HeaderTree) × (r ≡ heads h)
Tells (code.Ends what n) r = r ≡ ends what n
Tells code.Specifies r = r ≡ specifies
Tells code.Executes r = r ≡ executes
