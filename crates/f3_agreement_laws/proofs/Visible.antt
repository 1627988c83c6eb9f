-- Outside its construct no associate name is visible.
use Rattle.std.proofs.Common.{◌≡◌, ℕ, Bool, true, false, List, None, Some, refl, sym, ap, ◌∙◌}
use Rattle.std.specs.Prelude.{slice_get}
use Rattle.std.proofs.lemmas.Bool.{true≢false}
use mathlib.Core.Path.{subst}
use Rattle.f3_access.specs.Access.{IsDeclared, IsOwn, IsVisible}
use Rattle.f3_access.specs.Hosts.{host_in}
use Rattle.f3_scopes.specs.declared.outline.ScopeKind.{ScopeKind}
use Rattle.f3_scopes.specs.declared.outline.ScopeKind.TheVariants.{Module, Program, Subroutine, Function, Associate}
use Rattle.f3_scopes.specs.Outlines.{Scope}
use Rattle.f3_scopes.specs.Scopes.{scope_of_procedure, scope_of_unit, unit_kind, procedure_kind, scopes_of}
use Rattle.f3_tree.specs.declared.program.ProcedureKind.{ProcedureKind}
use Rattle.f3_tree.specs.declared.program.ProcedureKind.TheVariants as procedure
use Rattle.f3_tree.specs.declared.program.UnitKind.{UnitKind}
use Rattle.f3_tree.specs.declared.program.UnitKind.TheVariants as unit
use Rattle.f3_tree.specs.Tree.{Tree}
use Rattle.f3_lawful_laws.specs.Entities.{units_of}
use Rattle.f3_lawful_laws.proofs.Facts.{nothing, same}
use Rattle.f3_entity_laws.specs.Things.{Home, of_unit, of_member, number_of, scope_at, associate, scope_of, IsHome}
use Rattle.f3_entity_laws.proofs.Entities.{stand, homes, things}
use Rattle.f3_agreement_laws.specs.Laws.{VisibleIsNoAssociate}

abbrev is_construct : ScopeKind → Bool
is_construct Module = false
is_construct Program = false
is_construct Subroutine = false
is_construct Function = false
is_construct Associate = true

unit_plain : (k : UnitKind) → is_construct (unit_kind k) ≡ false
unit_plain unit.Module = refl
unit_plain unit.Program = refl

procedure_plain : (k : ProcedureKind) → is_construct (procedure_kind k) ≡ false
procedure_plain procedure.Subroutine = refl
procedure_plain (procedure.Function s outcome) = refl

home_plain : (h : Home) → is_construct (scope_at h).kind ≡ false
home_plain (of_unit u) = unit_plain (u.tree).kind
home_plain (of_member u m) = procedure_plain ((m.tree).header).kind

module _ (scopes : List Scope) where
  -- declared by a scope that is none of a construct
  record IsPlain (e : ℕ) : Type 0 where
    number : ℕ
    symbol : ℕ
    scope : Scope
    there : slice_get scopes number ≡ Some scope
    plain : is_construct scope.kind ≡ false
    declared : IsDeclared scopes number symbol e

  own_plain : (number symbol e : ℕ) → IsOwn scopes number symbol e → (s : Scope) → slice_get scopes number ≡ Some s → is_construct s.kind ≡ false → IsPlain e
  own_plain number symbol e (IsOwn.declared a b c d) s at plain =
      record { number = number; symbol = symbol; scope = s; there = at; plain = plain; declared = d }
  own_plain number symbol e (IsOwn.used a b c source original brings own) s at plain =
      own_plain source original e own (brings.1) brings.3 (ap is_construct brings.4)

  unit_visible : (number symbol e : ℕ) (s : Scope) → IsVisible scopes number symbol e → slice_get scopes number ≡ Some s → is_construct s.kind ≡ false
      → s.host ≡ None → IsPlain e
  unit_visible number symbol e s (IsVisible.own a b c own) at plain alone = own_plain number symbol e own s at plain
  unit_visible number symbol e s (IsVisible.around a b c host hosted hidden seen) at plain alone =
      nothing (sym alone ∙ sym (ap host_in at) ∙ hosted)

  member_visible : (number symbol e outer : ℕ) (s r : Scope) → IsVisible scopes number symbol e → slice_get scopes number ≡ Some s → is_construct s.kind ≡ false
      → s.host ≡ Some outer → slice_get scopes outer ≡ Some r → is_construct r.kind ≡ false → r.host ≡ None → IsPlain e
  member_visible number symbol e outer s r (IsVisible.own a b c own) at plain inside there flat alone = own_plain number symbol e own s at plain
  member_visible number symbol e outer s r (IsVisible.around a b c host hosted hidden seen) at plain inside there flat alone =
      let around : host ≡ outer = same (sym hosted ∙ ap host_in at ∙ inside) in
      unit_visible outer symbol e r (subst (λ n. IsVisible scopes n symbol e) around seen) there flat alone

home_visible : (t : Tree) (h : Home) (symbol e : ℕ) → IsHome (units_of t) h → IsVisible (scopes_of t) (number_of h) symbol e → IsPlain (scopes_of t) e
home_visible t (of_unit u) symbol e home seen =
    unit_visible (scopes_of t) u.scope symbol e (scope_of_unit u.tree) seen (homes t (of_unit u) home) (home_plain (of_unit u)) refl
home_visible t (of_member u m) symbol e home seen =
    member_visible (scopes_of t) m.scope symbol e u.scope (scope_of_procedure u.scope m.tree) (scope_of_unit u.tree) seen (homes t (of_member u m) home)
    (home_plain (of_member u m)) refl (homes t (of_unit u) home.0) (home_plain (of_unit u)) refl

pub no_associate : VisibleIsNoAssociate
no_associate t h k symbol e n x home seen at =
    let p = home_visible t h symbol e home seen in
    let s = stand t e (associate k n x) at in
    let found = things t p.number p.symbol e p.declared in
    let number : n ≡ p.number = ap scope_of (same (sym at ∙ found.1)) ∙ found.2 in
    let scope : s.scope ≡ p.scope = same (sym s.there ∙ ap (slice_get (scopes_of t)) number ∙ p.there) in
    absurd (true≢false (sym (ap is_construct (s.is).0) ∙ ap (λ (z : Scope). is_construct z.kind) scope ∙ p.plain))
