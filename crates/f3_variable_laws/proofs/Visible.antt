-- What is visible where a body begins: what the unit, the procedure or a module declares.
use Rattle.std.proofs.Common.{◌≡◌, refl, sym, ap, subst, ◌∙◌, inl, inr, ℕ, ◌⊎◌, List, None, Some, arith, slice_get}
use Rattle.f3_tree.specs.declared.program.UnitKind.{UnitKind}
use Rattle.f3_tree.specs.declared.program.UnitKind.TheVariants as unit
use Rattle.f3_tree.specs.Tree.{UnitTree}
use Rattle.f3_nodes.proofs.Members.{Has, at_has}
use Rattle.f3_scopes.specs.declared.outline.ScopeKind.TheVariants as scope
use Rattle.f3_scopes.specs.Outlines.{Scope}
use Rattle.f3_scopes.specs.Scopes.{unit_kind, scopes_from}
use Rattle.f3_access.specs.Access.{IsDeclared, IsOwn, IsVisible}
use Rattle.f3_access.specs.Hosts.{host_of}
use Rattle.f3_type_rules.specs.Members.{Numbered, numbered, units_from}
use Rattle.f3_order_laws.proofs.Constructs.{unit_scope_at}
use Rattle.f3_order_laws.proofs.Places.{start, unit_of, numbered_at}
use Rattle.f3_lawful_laws.proofs.Facts.{nothing, same}

module _ (scopes : List Scope) where
  -- a module declares it
  abbrev pub InModule : ℕ → Type 0
  InModule e = (source : ℕ) × (original : ℕ) × (s : Scope) × (slice_get scopes source ≡ Some s) × (s.kind ≡ scope.Module) × IsDeclared scopes source original e

  own_from : (number symbol e : ℕ) → IsOwn scopes number symbol e → IsDeclared scopes number symbol e ⊎ InModule e
  own_from number symbol e (IsOwn.declared a b c declared) = inl declared
  own_from number symbol e (IsOwn.used a b c source original brought own) = elim (own_from source original c own) [
    | inl declared ↦ inr (source, original, brought.1, brought.3, brought.4, declared)
    | inr there ↦ inr there
  ]

  -- in a scope without a host
  pub unit_from : (number symbol e : ℕ) → IsVisible scopes number symbol e → host_of scopes number ≡ None → IsDeclared scopes number symbol e ⊎ InModule e
  unit_from number symbol e (IsVisible.own a b c own) none = own_from a b c own
  unit_from number symbol e (IsVisible.around a b c host hosted hidden seen) none = nothing (sym none ∙ hosted)

  -- in one whose host has none
  pub member_from : (number symbol e : ℕ) → IsVisible scopes number symbol e → (unit : ℕ) → host_of scopes number ≡ Some unit → host_of scopes unit ≡ None
      → IsDeclared scopes number symbol e ⊎ (IsDeclared scopes unit symbol e ⊎ InModule e)
  member_from number symbol e (IsVisible.own a b c own) unit h none = elim (own_from a b c own) [ inl declared ↦ inl declared | inr there ↦ inr (inr there) ]
  member_from number symbol e (IsVisible.around a b c host hosted hidden seen) unit h none =
      let is : host ≡ unit = same (sym hosted ∙ h) in
      inr (unit_from unit b c (subst (λ n. IsVisible scopes n b c) is seen) none)

-- ---- the module is one of the units

is_module : (kind : UnitKind) → unit_kind kind ≡ scope.Module → kind ≡ unit.Module
is_module unit.Module e = refl
is_module unit.Program e = cc

module _ (us : List UnitTree) where
  pub module_unit : (source : ℕ) (s : Scope) → slice_get (scopes_from 0 us) source ≡ Some s → s.kind ≡ scope.Module
      → (u : Numbered) × Has (units_from (scopes_from 0 us) 0 us) u × (u.scope ≡ source) × ((u.tree).kind ≡ unit.Module)
  module_unit source s there kind =
      let (i, u, q, at, inner, place) = unit_of source 0 us s there in
      elim (unit_scope_at (start i 0 us) u q s inner) [
        | inl here ↦ (
          numbered (scopes_from 0 us) (start i 0 us) u,
          at_has (units_from (scopes_from 0 us) 0 us) i (numbered (scopes_from 0 us) (start i 0 us) u) (numbered_at (scopes_from 0 us) i 0 us u at),
          (let z = here.0 in omega (arith, z, place)),
          is_module u.kind (ap (λ (x : Scope). x.kind) (sym here.1) ∙ kind),
        )
        | inr other ↦ absurd (other.1 kind)
      ]
