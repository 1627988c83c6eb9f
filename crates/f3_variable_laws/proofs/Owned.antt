-- Which name a variable is that a unit or a procedure declares.
use Rattle.std.proofs.Common.{◌≡◌, refl, sym, ap, ◌∙◌, inl, inr, ℕ, zero, suc, ◌+◌, ◌⊎◌, Bool, true, false, List, ◌++◌, length, map, None, Some, arith, slice_get, if◌then◌else◌}
use Rattle.std.specs.List.{flat_map, list_any}
use Rattle.f3_tree.specs.declared.declaration.TypeSpecifier.{TypeSpecifier}
use Rattle.f3_tree.specs.declared.expression.Name.{Name}
use Rattle.f3_tree.specs.declared.program.ProcedureKind.{ProcedureKind}
use Rattle.f3_tree.specs.declared.program.ProcedureKind.TheVariants.{Subroutine, Function}
use Rattle.f3_tree.specs.Declarations.{Placed}
use Rattle.f3_tree.specs.Tree.{Tree}
use Rattle.f3_scopes.specs.declared.outline.EntityKind.{EntityKind}
use Rattle.f3_scopes.specs.declared.outline.EntityKind.TheVariants as entity
use Rattle.f3_scopes.specs.Outlines.{Own, Scope}
use Rattle.f3_scopes.specs.Scopes.{is_parameter, declared_in, plain, name_or, outcome_of, entity_kind, typed_result, procedure_own, scope_of_unit, scope_of_procedure, scopes_of}
use Rattle.f3_lookups.specs.declared.lookup.Lookup.{Lookup}
use Rattle.f3_access.specs.Access.{first_entity, IsDeclared}
use Rattle.f3_kinds.specs.declared.types.Object.{Object}
use Rattle.f3_kinds.specs.declared.things.Dummy.{Dummy}
use Rattle.f3_kinds.specs.Things.{map_or, variable}
use Rattle.f3_type_rules.specs.Members.{Member, Numbered}
use Rattle.f3_type_rules.specs.Names.{Declared}
use Rattle.f3_type_rules.specs.Natures.{kind_nature, specifier_of}
use Rattle.f3_type_rules.specs.Scene.{names_of}
use Rattle.f3_phase_laws.specs.Numbers.{units_of, IsProcedure, IsUnit}
use Rattle.f3_phase_laws.proofs.Numbers.{units}
use Rattle.f3_elaboration.specs.Numbers.{Variable, is_variable, unit_names, member_names}
use Rattle.f3_entity_laws.specs.Things.{of_unit, of_member, Thing, name, type, procedure, result, associate, scope_of, own_of, nature_of, IsAmong, IsHome}
use Rattle.f3_entity_laws.proofs.Entities.{homes, things as declared_thing, stand}
use Rattle.f3_entity_laws.proofs.Natures.{natures as nature_thing}
use Rattle.f3_lawful_laws.proofs.Facts.{no, nothing, same}
use Rattle.f3_lawful_laws.proofs.Opening.{from_mapped}
use Rattle.f3_order_laws.proofs.Places.{at_either}
use Rattle.f3_variable_laws.proofs.Lists.{all_at, among_of}
use Rattle.f3_variable_laws.proofs.Natures.{natures, is_variable_nature, name_object}
use Rattle.f3_variable_laws.proofs.Parts.{variable_of, own_by, symbol_by, At, declared_at}

-- ---- what has the nature of a variable is declared as a variable or a constant

abbrev pub is_object : EntityKind → Bool
is_object entity.Constant = true
is_object entity.Variable = true
is_object entity.DerivedType = false
is_object entity.Subroutine = false
is_object entity.Function = false

either_object : (b : Bool) → is_object (if b then entity.Constant else entity.Variable) ≡ true
either_object true = refl
either_object false = refl

no_procedure : (pure : Bool) (ds : List (ℕ × Dummy)) (r o : Object) (k : ProcedureKind) → variable o ≡ kind_nature pure ds r k → ⊥
no_procedure pure ds r o Subroutine e = no (ap is_variable_nature e)
no_procedure pure ds r o (Function s outcome) e = no (ap is_variable_nature e)

kind_not : (k : ProcedureKind) → is_object (entity_kind k) ≡ false
kind_not Subroutine = refl
kind_not (Function s outcome) = refl

-- ---- names with their entities

-- a declared variable of a unit, or of a procedure
pub record Named (vs : List Variable) (symbol e : ℕ) : Type 0 where
  pub declared : Variable
  pub among : IsAmong vs declared
  pub entity_is : declared.entity ≡ e
  pub varies : is_variable declared ≡ true
  pub symbol_is : symbol_by declared.tree ≡ symbol

abbrev pub UnitNamed : Numbered → ℕ → ℕ → Type 0
UnitNamed u symbol e = Named (unit_names u) symbol e

abbrev pub MemberNamed : Numbered → Member → ℕ → ℕ → Type 0
MemberNamed u m symbol e = Named (member_names u.scope m) symbol e

pub typed_at : (k : ProcedureKind) (n : Name) (place : ℕ) (d : Own) → slice_get (typed_result k n) place ≡ Some d
    → (s : TypeSpecifier) × (specifier_of k ≡ Some s) × (place ≡ 0) × (d ≡ plain entity.Variable (name_or (outcome_of k) n))
typed_at Subroutine n place d at = nothing at
typed_at (Function None outcome) n place d at = nothing at
typed_at (Function (Some s) outcome) n zero d at = (s, refl, refl, sym (same at))
typed_at (Function (Some s) outcome) n (suc k) d at = nothing at

pub typed_long : (k : ProcedureKind) (n : Name) → length (typed_result k n) ≡ map_or 0 (λ (t : TypeSpecifier). 1) (specifier_of k)
typed_long Subroutine n = refl
typed_long (Function None outcome) n = refl
typed_long (Function (Some s) outcome) n = refl

-- where the declarations of a procedure begin
abbrev pub start : Member → ℕ
start m = m.first + map_or 0 (λ (t : TypeSpecifier). 1) (specifier_of ((m.tree).header).kind)

-- a result that the header types
pub record Typed (m : Member) (symbol e : ℕ) : Type 0 where
  pub specifier : TypeSpecifier
  pub is : specifier_of ((m.tree).header).kind ≡ Some specifier
  pub first : m.first ≡ e
  pub symbol_is : (name_or (outcome_of ((m.tree).header).kind) ((m.tree).header).name).symbol ≡ symbol

-- where a name that the procedure declares stands
pub data Stands (u : Numbered) (m : Member) (symbol e : ℕ) (d : Own) : Type 0 where
  header_types : Typed m symbol e → Stands u m symbol e d
  is_type : d.kind ≡ entity.DerivedType → Stands u m symbol e d
  is_name : (place : ℕ) (x : Declared) → At u.scope m.scope (start m) ((m.tree).part).specifications place x → d ≡ own_by x → start m + place ≡ e
      → symbol_by x ≡ symbol → Stands u m symbol e d

module _ (t : Tree) (look : ℕ → ℕ → Lookup) where
  thing_kind : (g : Thing) (f : Bool) (o : Object) → variable o ≡ nature_of (names_of t look) f g → is_object (own_of g).kind ≡ true
  thing_kind (name h x) f o e = either_object (list_any (λ (p : Placed). is_parameter p.attribute) (x.0).attributes)
  thing_kind (type h x) f o e = no (ap is_variable_nature e)
  thing_kind (procedure u m) f o e = absurd (no_procedure _ _ _ o ((m.tree).header).kind e)
  thing_kind (result u m s) f o e = refl
  thing_kind (associate h n x) f o e = refl

  -- what stands at its place there
  pub object_kind : (number symbol e : ℕ) (o : Object) (declared : IsDeclared (scopes_of t) number symbol e) → slice_get (natures t look) e ≡ Some (variable o)
      → is_object (declared.2).kind ≡ true
  object_kind number symbol e o (s, place, d, at_s, at_d, named, sum) nature =
      let (g, there, scope, symbol_is) = declared_thing t number symbol e (s, place, d, at_s, at_d, named, sum) in
      let stands = stand t e g there in
      let (h, f, there_h, nature_h) = nature_thing (names_of t look) (units_of t) e (variable o) nature in
      let one : h ≡ g = same (sym there_h ∙ there) in
      let here : slice_get (scopes_of t) number ≡ Some stands.scope = ap (slice_get (scopes_of t)) (sym scope) ∙ stands.there in
      let is : stands.scope ≡ s = same (sym here ∙ at_s) in
      let number_is = stands.number in
      let from : first_entity (scopes_of t) (scope_of g) ≡ first_entity (scopes_of t) number = ap (first_entity (scopes_of t)) scope in
      let place_is : stands.place ≡ place = omega (arith, number_is, from, sum) in
      let own_is : own_of g ≡ d =
      same (sym stands.declared ∙ ap (λ (z : Scope). slice_get z.declared stands.place) is ∙ ap (slice_get s.declared) place_is ∙ at_d) in
      ap (λ (z : Own). is_object z.kind) (sym own_is) ∙ thing_kind g f o (nature_h ∙ ap (nature_of (names_of t look) f) one)

  -- ---- units

  pub unit_is : (u : Numbered) → IsAmong (units_of t) u → IsUnit (scopes_of t) u
  unit_is u among = all_at (IsUnit (scopes_of t)) (units_of t) u (units t).1 among

  pub member_is : (u : Numbered) (m : Member) → IsHome (units_of t) (of_member u m) → IsProcedure (scopes_of t) u.scope m
  member_is u m home = all_at (IsProcedure (scopes_of t) u.scope) u.members m (unit_is u home.0).members home.1

  pub unit_variable : (u : Numbered) (symbol e : ℕ) (o : Object) → IsAmong (units_of t) u → IsDeclared (scopes_of t) u.scope symbol e
      → slice_get (natures t look) e ≡ Some (variable o) → UnitNamed u symbol e
  unit_variable u symbol e o among (s, place, d, at_s, at_d, named, sum) nature =
      let is : s ≡ scope_of_unit u.tree = same (sym at_s ∙ homes t (of_unit u) among) in
      let there : slice_get (flat_map declared_in ((u.tree).part).specifications ++ map procedure_own (u.tree).procedures) place ≡ Some d =
      ap (λ (z : Scope). slice_get z.declared place) (sym is) ∙ at_d in
      let object : is_object d.kind ≡ true = object_kind u.scope symbol e o (s, place, d, at_s, at_d, named, sum) nature in
      elim (at_either (flat_map declared_in ((u.tree).part).specifications) (map procedure_own (u.tree).procedures) place d there) [
        | inl here ↦ part object (declared_at u.scope u.scope u.first ((u.tree).part).specifications place d here)
        | inr (j, here, long) ↦
            let r = from_mapped procedure_own (u.tree).procedures j d here in
            no (sym object ∙ ap (λ (z : Own). is_object z.kind) (sym r.2) ∙ kind_not ((r.0).header).kind)
      ]
    where
      part : is_object d.kind ≡ true
          → (d.kind ≡ entity.DerivedType) ⊎ ((x : Declared) × At u.scope u.scope u.first ((u.tree).part).specifications place x × (d ≡ own_by x)) → UnitNamed u symbol e
      part object (inl kind) = no (sym object ∙ ap is_object kind)
      part object (inr (x, at, own_is)) =
          let first = (unit_is u among).first in
          let v : Variable = variable_of u.scope u.scope (u.first + place) x in
          let entity_is : u.first + place ≡ e = omega (arith, first, sum) in
          let there : IsAmong (unit_names u) v = among_of (unit_names u) v at.there in
          record {
            declared = v;
            among = there;
            entity_is = entity_is;
            varies = (name_object t look (of_unit u) v e o among there entity_is nature).0;
            symbol_is = ap (λ (z : Own). (z.name).symbol) (sym own_is) ∙ named;
          }

  -- ---- procedures

  pub stands : (u : Numbered) (m : Member) (symbol e : ℕ) → IsHome (units_of t) (of_member u m) → (declared : IsDeclared (scopes_of t) m.scope symbol e)
      → Stands u m symbol e declared.2
  stands u m symbol e home (s, place, d, at_s, at_d, named, sum) =
      let is : s ≡ scope_of_procedure u.scope m.tree = same (sym at_s ∙ homes t (of_member u m) home) in
      let there : slice_get (typed_result ((m.tree).header).kind ((m.tree).header).name ++ flat_map declared_in ((m.tree).part).specifications) place ≡ Some d =
      ap (λ (z : Scope). slice_get z.declared place) (sym is) ∙ at_d in
      elim (at_either (typed_result ((m.tree).header).kind ((m.tree).header).name) (flat_map declared_in ((m.tree).part).specifications) place d there) [
        | inl here ↦ typed (typed_at ((m.tree).header).kind ((m.tree).header).name place d here)
        | inr (j, here, long) ↦ part j long (declared_at u.scope m.scope (start m) ((m.tree).part).specifications j d here)
      ]
    where
      typed : (s : TypeSpecifier) × (specifier_of ((m.tree).header).kind ≡ Some s) × (place ≡ 0)
          × (d ≡ plain entity.Variable (name_or (outcome_of ((m.tree).header).kind) ((m.tree).header).name)) → Stands u m symbol e d
      typed (s, spec, at_zero, own_is) =
          let first = (member_is u m home).first in
          header_types (record {
            specifier = s;
            is = spec;
            first = omega (arith, first, sum, at_zero);
            symbol_is = ap (λ (z : Own). (z.name).symbol) (sym own_is) ∙ named;
          })

      part : (j : ℕ) → length (typed_result ((m.tree).header).kind ((m.tree).header).name) + j ≡ place
          → (d.kind ≡ entity.DerivedType) ⊎ ((x : Declared) × At u.scope m.scope (start m) ((m.tree).part).specifications j x × (d ≡ own_by x)) → Stands u m symbol e d
      part j long (inl kind) = is_type kind
      part j long (inr (x, at, own_is)) =
          let first = (member_is u m home).first in
          let typed = typed_long ((m.tree).header).kind ((m.tree).header).name in
          is_name j x at own_is (omega (arith, first, typed, long, sum)) (ap (λ (z : Own). (z.name).symbol) (sym own_is) ∙ named)

  pub member_variable : (u : Numbered) (m : Member) (symbol e : ℕ) (o : Object) → IsHome (units_of t) (of_member u m) → IsDeclared (scopes_of t) m.scope symbol e
      → slice_get (natures t look) e ≡ Some (variable o) → Typed m symbol e ⊎ MemberNamed u m symbol e
  member_variable u m symbol e o home declared nature =
      go declared.2 (object_kind m.scope symbol e o declared nature) (stands u m symbol e home declared)
    where
      go : (d : Own) → is_object d.kind ≡ true → Stands u m symbol e d → Typed m symbol e ⊎ MemberNamed u m symbol e
      go d object (header_types h) = inl h
      go d object (is_type kind) = no (sym object ∙ ap is_object kind)
      go d object (is_name place x at own_is entity_is symbol_is) =
          let v : Variable = variable_of u.scope m.scope (start m + place) x in
          let there : IsAmong (member_names u.scope m) v = among_of (member_names u.scope m) v at.there in
          inr (record {
            declared = v;
            among = there;
            entity_is = entity_is;
            varies = (name_object t look (of_member u m) v e o home there entity_is nature).0;
            symbol_is = symbol_is;
          })
