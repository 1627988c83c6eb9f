-- The breaks of bodies by the numbers of scopes alone are those of units and procedures that have these numbers.
use Rattle.std.proofs.Common.{◌≡◌, ◌+◌, ℕ, Bool, false, List, [], ◌∷◌, length, refl, ap, ◌∙◌, arith}
use Rattle.std.specs.List.{flat_map}
use Rattle.f3_access.specs.Access.{first_entity}
use Rattle.f3_scopes.specs.Outlines.{Scope}
use Rattle.f3_scopes.specs.Scopes.{declared_in, unit_scopes}
use Rattle.f3_tree.specs.Statements.{Block}
use Rattle.f3_tree.specs.Tree.{ProcedureTree, UnitTree}
use Rattle.f3_kinds.specs.declared.types.Scalar.{Scalar}
use Rattle.f3_type_rules.specs.Associates.{constructs_of_block}
use Rattle.f3_type_rules.specs.Bodies.{block_breaks}
use Rattle.f3_type_rules.specs.Definitions.{Site}
use Rattle.f3_type_rules.specs.Members.{members_from, numbered, units_from}
use Rattle.f3_type_rules.specs.Program.{member_breaks, unit_breaks}
use Rattle.f3_type_rules.specs.Scene.{Scene, site_in}
use Rattle.f3_unit_bodies.specs.Bodies.{placed, width, unit_width, is_pure_in, procedure_rows, unit_rows, units_rows}

module _ (s : Scene) (values : List (ℕ × Scalar)) (x : Site) (same : (unit scope : ℕ) (pure : Bool) → placed unit scope pure x ≡ site_in s unit scope pure values) (scopes : List Scope) where
  body_link : (unit scope : ℕ) (pure : Bool) (b : Block) → block_breaks (placed unit scope pure x) (scope + 1) b ≡ block_breaks (site_in s unit scope pure values) (scope + 1) b
  body_link unit scope pure b = ap (λ y. block_breaks y (scope + 1) b) (same unit scope pure)

  wide : (n : ℕ) (b : Block) → n + width b ≡ n + 1 + length (constructs_of_block b)
  wide n b = omega arith

  members_link : (unit e n : ℕ) (ps : List ProcedureTree) → procedure_rows x unit n ps ≡ flat_map (member_breaks s values unit) (members_from scopes e n ps)
  members_link unit e n [] = refl
  members_link unit e n (p ∷ ps) =
      let first = body_link unit n (is_pure_in p) p.body in
      let rest = ap (λ k. procedure_rows x unit k ps) (wide n p.body) ∙ members_link unit (e + 1) (n + 1 + length (constructs_of_block p.body)) ps in
      cc

  unit_link : (n : ℕ) (u : UnitTree) → unit_rows x n u ≡ unit_breaks s values (numbered scopes n u)
  unit_link n u =
      let e : ℕ = first_entity scopes n + length (flat_map declared_in (u.part).specifications) in
      let k : ℕ = n + 1 + length (constructs_of_block u.body) in
      let first = body_link n n false u.body in
      let rest : procedure_rows x n (n + width u.body) u.procedures ≡ flat_map (member_breaks s values n) (members_from scopes e k u.procedures) =
      ap (λ m. procedure_rows x n m u.procedures) (wide n u.body) ∙ members_link n e k u.procedures in
      cc

  pub units_link : ((n : ℕ) (u : UnitTree) → unit_width u ≡ length (unit_scopes n u)) → (n : ℕ) (us : List UnitTree) → units_rows x n us ≡ flat_map (unit_breaks s values) (units_from scopes n us)
  units_link all n [] = refl
  units_link all n (u ∷ us) =
      let first = unit_link n u in
      let rest = ap (λ k. units_rows x (n + k) us) (all n u) ∙ units_link all (n + length (unit_scopes n u)) us in
      cc
