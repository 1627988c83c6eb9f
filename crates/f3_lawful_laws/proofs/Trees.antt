-- The bodies of a program, where their constructs stand among its scopes.
use Rattle.std.proofs.Common.{◌≡◌, ℕ, ◌+◌, List, [], ◌∷◌, length, Option, ap, ◌∙◌, arith}
use Rattle.std.specs.Prelude.{slice_get}
use Rattle.std.specs.List.{flat_map}
use mathlib.Core.Path.{subst}
use Rattle.f3_lookups.specs.declared.lookup.Lookup.{Lookup}
use Rattle.f3_access.specs.Access.{first_entity, IsVisible}
use Rattle.f3_access.specs.Lookups.{Resolves}
use Rattle.f3_scopes.specs.Outlines.{Scope}
use Rattle.f3_scopes.specs.Scopes.{scope_of_procedure, scope_of_unit, constructs_in_block, procedure_scopes, procedures_from, own_scopes, unit_scopes, scopes_from, declared_in}
use Rattle.f3_tree.specs.Tree.{ProcedureTree, UnitTree}
use Rattle.f3_meaning_whole.specs.Permitted.{Each}
use Rattle.f3_type_rules.specs.declared.definition.Holder.{Holder}
use Rattle.f3_type_rules.specs.Associates.{constructs_of_block}
use Rattle.f3_type_rules.specs.Members.{Member, Numbered, members_from, numbered, units_from}
use Rattle.f3_type_rules.specs.Scene.{holders_from}
use Rattle.f3_lawful_laws.specs.Blocks.{IsBlockPlaced, IsBlockSpelled, IsUnitSpelled}
use Rattle.f3_lawful_laws.proofs.Placing.{block_long, Lies, lies_left, lies_right, lies_next, block_placed}

module _ (scopes : List Scope) (look : ℕ → ℕ → Lookup) (means : (scope symbol : ℕ) → Resolves (look scope symbol) (IsVisible scopes scope symbol)) where
  abbrev pub held : ℕ → Option Holder
  held l = slice_get (holders_from 0 scopes) l

  abbrev pub IsMemberPlaced : Member → Type 0
  IsMemberPlaced m = IsBlockPlaced look held m.scope (m.scope + 1) (m.tree).body

  -- the bodies of a unit and of its procedures
  abbrev pub IsUnitPlaced : Numbered → Type 0
  IsUnitPlaced u = IsBlockPlaced look held u.scope (u.scope + 1) (u.tree).body × Each IsMemberPlaced u.members

  members_placed : (host e n : ℕ) (ps : List ProcedureTree) → Each (λ (p : ProcedureTree). IsBlockSpelled p.body) ps → Lies scopes n (procedures_from host n ps)
      → Each IsMemberPlaced (members_from scopes e n ps)
  members_placed host e n [] w lies = tt
  members_placed host e n (p ∷ ps) w lies =
      let own : List Scope = constructs_in_block n (p.header).name (n + 1) p.body in
      let mine : Lies scopes n (procedure_scopes host n p) = lies_left scopes n (procedure_scopes host n p) _ lies in
      let count = block_long n (p.header).name (n + 1) p.body in
      let step : n + length (procedure_scopes host n p) ≡ n + 1 + length (constructs_of_block p.body) = omega (arith, count) in (
        block_placed scopes look means p.body n (p.header).name (n + 1) w.0 (lies_next scopes n (scope_of_procedure host p) own mine),
        subst (λ k. Each IsMemberPlaced (members_from scopes (e + 1) k ps)) step
            (members_placed host (e + 1) (n + length (procedure_scopes host n p)) ps w.1 (lies_right scopes n (procedure_scopes host n p) _ lies)),
      )

  unit_placed : (n : ℕ) (u : UnitTree) → IsUnitSpelled u → Lies scopes n (unit_scopes n u) → IsUnitPlaced (numbered scopes n u)
  unit_placed n u w lies =
      let own : List Scope = constructs_in_block n u.name (n + 1) u.body in
      let mine : Lies scopes n (own_scopes n u) = lies_left scopes n (own_scopes n u) _ lies in
      let count = block_long n u.name (n + 1) u.body in
      let step : n + length (own_scopes n u) ≡ n + 1 + length (constructs_of_block u.body) = omega (arith, count) in (
        block_placed scopes look means u.body n u.name (n + 1) w.0 (lies_next scopes n (scope_of_unit u) own mine),
        subst (λ k. Each IsMemberPlaced (members_from scopes (first_entity scopes n + length (flat_map declared_in (u.part).specifications)) k u.procedures)) step
            (members_placed n (first_entity scopes n + length (flat_map declared_in (u.part).specifications)) (n + length (own_scopes n u)) u.procedures w.1 (lies_right scopes n (own_scopes n u) _ lies)),
      )

  pub units_placed : (n : ℕ) (us : List UnitTree) → Each IsUnitSpelled us → Lies scopes n (scopes_from n us) → Each IsUnitPlaced (units_from scopes n us)
  units_placed n [] w lies = tt
  units_placed n (u ∷ us) w lies = (
    unit_placed n u w.0 (lies_left scopes n (unit_scopes n u) _ lies),
    units_placed (n + length (unit_scopes n u)) us w.1 (lies_right scopes n (unit_scopes n u) _ lies),
  )

-- all scopes of a program lie where they are
pub all_lie : (scopes : List Scope) → Lies scopes 0 scopes
all_lie scopes p s at = ap (slice_get scopes) (let e : 0 + p ≡ p = omega arith in e) ∙ at
