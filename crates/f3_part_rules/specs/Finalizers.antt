-- The procedures that the types of a specification part may name in FINAL, as the rules take them.
use Rattle.std.specs.Prelude.{◌≡◌, ℕ, List}
use Rattle.f3_scopes.specs.Outlines.{Scope}
use Rattle.f3_tree.specs.Tree.{ProcedureTree}
use Rattle.f3_type_rules.specs.Members.{Member, members_from}
use Rattle.f3_type_rules.specs.Scene.{Scene}
use Rattle.f3_finals.specs.Candidates.{AreCandidates}
use Rattle.f3_part_rules.specs.declared.finalizers.Finalizers.{Finalizers}

-- these are the procedures of a module, whose scopes come one after the other
pub record Finalize (s : Scene) (f : Finalizers) (ms : List Member) : Type 0 where
  pub scopes : List Scope
  pub scope : ℕ
  pub procedures : List ProcedureTree
  pub members : ms ≡ members_from scopes f.first scope procedures
  pub candidates : AreCandidates s.names (members_from scopes f.first scope procedures) f.candidates.now
