-- Variables that live for the whole run.
use Rattle.std.proofs.Common.{◌≡◌, sym, ap, subst, ◌∙◌, inl, inr, ℕ, Bool, true, ◌&&◌, List, map, filter, position, nat_eq, None, Some, slice_get}
use Rattle.std.specs.List.{flat_map}
use Rattle.f3_tree.specs.declared.program.UnitKind.{UnitKind}
use Rattle.f3_tree.specs.declared.program.UnitKind.TheVariants as unit
use Rattle.f3_tree.specs.Tree.{Tree}
use Rattle.f3_nodes.proofs.Members.{Has, has_left, has_right, has_mapped, has_parts, has_piece, piece_of}
use Rattle.f3_scopes.specs.Scopes.{scopes_of}
use Rattle.f3_lookups.specs.declared.lookup.Lookup.{Lookup}
use Rattle.f3_access.specs.Access.{IsDeclared}
use Rattle.f3_kinds.specs.declared.types.Object.{Object}
use Rattle.f3_kinds.specs.Things.{variable}
use Rattle.f3_type_rules.specs.Members.{Member, Numbered}
use Rattle.f3_phase_laws.specs.Numbers.{units_of}
use Rattle.f3_elaboration.specs.Numbers.{Variable, is_saved, is_static_in, is_variable, member_names, unit_names, unit_statics}
use Rattle.f3_entity_laws.specs.Laws.{names_at}
use Rattle.f3_entity_laws.specs.Things.{Home, of_unit, of_member, IsAmong, IsHome}
use Rattle.f3_lawful_laws.proofs.Facts.{both, left}
use Rattle.f3_variable_laws.proofs.Lists.{has_of, among_of, absent, kept, keeps}
use Rattle.f3_variable_laws.proofs.Natures.{natures}
use Rattle.f3_variable_laws.proofs.Owned.{UnitNamed, unit_variable}
use Rattle.f3_variable_laws.proofs.Visible.{InModule, module_unit}

abbrev pub entity : Variable → ℕ
entity v = v.entity

abbrev pub static_entities : List Numbered → List ℕ
static_entities us = map (λ (v : Variable). v.entity) (flat_map unit_statics us)

abbrev is_static : Variable → Bool
is_static v = is_variable v && is_saved v

abbrev member_statics : Numbered → Member → List Variable
member_statics u m = filter (λ v. is_variable v && is_saved v) (member_names u.scope m)

varies : (k : UnitKind) (v : Variable) → is_static_in k v ≡ true → is_variable v ≡ true
varies unit.Module v is = is
varies unit.Program v is = left (is_variable v) (is_saved v) is

-- a declared name of some home
pub record Declares (us : List Numbered) (v : Variable) : Type 0 where
  pub home : Home
  pub is_home : IsHome us home
  pub among : IsAmong (names_at home) v
  pub varies_is : is_variable v ≡ true

pub static_home : (us : List Numbered) (v : Variable) → Has (flat_map unit_statics us) v → Declares us v
static_home us v h =
    let (u, has_u, in_u) = piece_of unit_statics us v h in
    elim (has_parts (filter (is_static_in (u.tree).kind) (unit_names u)) (flat_map (member_statics u) u.members) v in_u) [
      | inl here ↦
          let k = kept (is_static_in (u.tree).kind) (unit_names u) v here in
          record { home = of_unit u; is_home = among_of us u has_u; among = among_of (unit_names u) v k.0; varies_is = varies (u.tree).kind v k.1 }
      | inr there ↦
          let (m, has_m, in_m) = piece_of (member_statics u) u.members v there in
          let k = kept is_static (member_names u.scope m) v in_m in
          record {
            home = of_member u m;
            is_home = (among_of us u has_u, among_of u.members m has_m);
            among = among_of (member_names u.scope m) v k.0;
            varies_is = left (is_variable v) (is_saved v) k.1;
          }
    ]

-- ---- what lives for the whole run is found among its variables

pub unit_static : (us : List Numbered) (u : Numbered) (v : Variable) → IsAmong us u → IsAmong (unit_names u) v → is_static_in (u.tree).kind v ≡ true
    → Has (flat_map unit_statics us) v
unit_static us u v among names is =
    has_piece unit_statics us u v (has_of us u among)
    (has_left (filter (is_static_in (u.tree).kind) (unit_names u)) (flat_map (member_statics u) u.members) v
    (keeps (is_static_in (u.tree).kind) (unit_names u) v (has_of (unit_names u) v names) is))

pub member_static : (us : List Numbered) (u : Numbered) (m : Member) (v : Variable) → IsHome us (of_member u m) → IsAmong (member_names u.scope m) v
    → is_variable v ≡ true → is_saved v ≡ true → Has (flat_map unit_statics us) v
member_static us u m v home names is saved =
    has_piece unit_statics us u v (has_of us u home.0)
    (has_right (filter (is_static_in (u.tree).kind) (unit_names u)) (flat_map (member_statics u) u.members) v
    (has_piece (member_statics u) u.members m v (has_of u.members m home.1)
    (keeps is_static (member_names u.scope m) v (has_of (member_names u.scope m) v names) (both (is_variable v) (is_saved v) is saved))))

pub never_absent : (us : List Numbered) (v : Variable) (e : ℕ) → Has (flat_map unit_statics us) v → v.entity ≡ e
    → position (nat_eq e) (static_entities us) ≡ None → ⊥
never_absent us v e h is none =
    absent (static_entities us) e none (subst (Has (static_entities us)) is (has_mapped (λ (v : Variable). v.entity) (flat_map unit_statics us) v h))

-- ---- variables of modules

of_module : (k : UnitKind) (v : Variable) → k ≡ unit.Module → is_variable v ≡ true → is_static_in k v ≡ true
of_module k v e is = ap (λ z. is_static_in z v) e ∙ is

pub unit_never_absent : (us : List Numbered) (u : Numbered) (symbol e : ℕ) → IsAmong us u → (u.tree).kind ≡ unit.Module → UnitNamed u symbol e
    → position (nat_eq e) (static_entities us) ≡ None → ⊥
unit_never_absent us u symbol e among kind h none =
    never_absent us h.declared e (unit_static us u h.declared among h.among (of_module (u.tree).kind h.declared kind h.varies)) h.entity_is none

pub module_never_absent : (t : Tree) (look : ℕ → ℕ → Lookup) (e : ℕ) (o : Object) → InModule (scopes_of t) e
    → slice_get (natures t look) e ≡ Some (variable o) → position (nat_eq e) (static_entities (units_of t)) ≡ None → ⊥
module_never_absent t look e o (source, original, s, there, kind, declared) nature none =
    let (u, has_u, scope_is, kind_is) = module_unit t.units source s there kind in
    let among : IsAmong (units_of t) u = among_of (units_of t) u has_u in
    unit_never_absent (units_of t) u original e among kind_is
    (unit_variable t look u original e o among (subst (λ n. IsDeclared (scopes_of t) n original e) (sym scope_is) declared) nature) none
