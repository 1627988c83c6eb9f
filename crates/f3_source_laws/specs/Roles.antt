-- Which roles statements have among units and procedures.
use Rattle.std.specs.Prelude.{◌≡◌, List, Some, None}
use Rattle.f3_words.specs.declared.item.Item.{Item}
use Rattle.f3_form.specs.declared.form.Ended.TheVariants as ended
use Rattle.f3_form.specs.Forms.{FormTree}
use Rattle.f3_forms.specs.Grammar.{IsForm}
use Rattle.f3_units.specs.Roles.{Role, ends, role}

-- All but these: an END that has a name and does not say what it ends, and an END of a type or of a construct, which is a
-- statement of a specification part or of a block.
abbrev pub IsRole : Role → Type 0
IsRole (ends None None) = Unit {0}
IsRole (ends None (Some n)) = ⊥
IsRole (ends (Some ended.Module) n) = Unit {0}
IsRole (ends (Some ended.Program) n) = Unit {0}
IsRole (ends (Some ended.Subroutine) n) = Unit {0}
IsRole (ends (Some ended.Function) n) = Unit {0}
IsRole (ends (Some _) n) = ⊥
IsRole _ = Unit {0}

-- each of these roles is that of a form that some tokens spell
abbrev pub RolesAreSpelled : Type 0
RolesAreSpelled = (r : Role) → IsRole r → (f : FormTree) × (ts : List Item) × IsForm f ts × (role f ≡ r)

-- each form that tokens spell has such a role
abbrev pub FormsHaveRoles : Type 0
FormsHaveRoles = (f : FormTree) (ts : List Item) → IsForm f ts → IsRole (role f)
