-- A walk along the procedures of a unit that has come to the one of this scope.
use Rattle.std.specs.Prelude.{◌≡◌, ℕ, List, Option}
use Rattle.f3_rules.specs.declared.breaks.Break.{Break}
use Rattle.f3_scopes.specs.Outlines.{Scope}
use Rattle.f3_tree.specs.Tree.{ProcedureTree}
use Rattle.f3_typed_parts.specs.Noted.{noted}
use Rattle.f3_type_rules.specs.Declarations.{member_rows, member_next}
use Rattle.f3_type_rules.specs.Members.{members_from}
use Rattle.f3_type_rules.specs.Scene.{Scene}
use Rattle.f3_type_rules.specs.Walks.{after, along, Known}
use Rattle.f3_entities.specs.declared.growth.Growth.{Growth}
use Rattle.f3_entities.specs.Growth.{Stands}

-- what is noted of the rest makes the whole, and the end is what is known behind the rest
pub record Reaches (s : Scene) (unit : ℕ) (scopes : List Scope) (g : Growth) (first : Option Break) (scope : ℕ)
    (rest : List ProcedureTree) (whole : Option Break) (end : Known) : Type 0 where
  pub known : Known
  pub entity : ℕ
  pub stands : Stands s g known
  pub noted : noted first (along (member_rows s unit) (member_next s unit) known (members_from scopes entity scope rest)) ≡ whole
  pub ended : after (member_next s unit) known (members_from scopes entity scope rest) ≡ end
