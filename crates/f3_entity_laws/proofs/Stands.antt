-- Each thing of a program stands in a unit, in a procedure, or in a construct of one, at a place that its number tells.
use Rattle.std.proofs.Common.{◌≡◌, ℕ, zero, suc, ◌+◌, List, [], ◌∷◌, ◌++◌, length, map, Option, None, Some, refl, sym, ap, ◌∙◌, inl, inr, arith}
use Rattle.std.specs.Prelude.{slice_get}
use Rattle.std.specs.List.{flat_map}
use Rattle.std.proofs.lemmas.List.{length-map}
use mathlib.Core.Path.{subst}
use Rattle.f3_access.specs.Access.{first_entity}
use Rattle.f3_scopes.specs.Outlines.{Own, Scope}
use Rattle.f3_scopes.specs.Scopes.{declared_in, association_own, procedure_own, typed_result, scope_of_procedure, scope_of_unit, scope_of_construct, scopes_of}
use Rattle.f3_tree.specs.declared.declaration.TypeSpecifier.{TypeSpecifier}
use Rattle.f3_tree.specs.Declarations.{EntityTree, DeclarationTree, TypeTree, SpecificationTree, declares, accesses, protects, saves, defines}
use Rattle.f3_tree.specs.Tree.{Tree}
use Rattle.f3_kinds.specs.Things.{map_or}
use Rattle.f3_type_rules.specs.Associates.{constructs_of_block}
use Rattle.f3_type_rules.specs.Members.{Member, Numbered}
use Rattle.f3_type_rules.specs.Natures.{specifier_of}
use Rattle.f3_phase_laws.specs.Numbers.{units_of}
use Rattle.f3_lawful_laws.proofs.Facts.{nothing, same}
use Rattle.f3_lawful_laws.proofs.Opening.{at_front, at_back, mapped_at, from_mapped}
use Rattle.f3_lawful_laws.proofs.Trees.{all_lie}
use Rattle.f3_entity_laws.specs.Things.{Home, of_unit, of_member, number_of, scope_at, specifications_of, body_of, Thing, name, type, procedure, result}
use Rattle.f3_entity_laws.specs.Things.{things_in, part_things, body_things, result_things, member_things, unit_things, things_of, scope_of, own_of, IsScopeOf, Stands}
use Rattle.f3_entity_laws.specs.Things.{IsAmong, IsHome, IsOf}
use Rattle.f3_entity_laws.proofs.Lists.{split_at, before, flat_at, flat_block}
use Rattle.f3_entity_laws.proofs.Owns.{part_own, part_long, result_own, result_long}
use Rattle.f3_entity_laws.proofs.Where.{InConstructs, MemberFacts, UnitFacts, units_at}

-- ---- what a specification part declares

-- the first entity of its part: behind a result that the header types
abbrev pub first_of : Home → ℕ
first_of (of_unit u) = u.first
first_of (of_member u m) = m.first + map_or 0 (λ (s : TypeSpecifier). 1) (specifier_of ((m.tree).header).kind)

pub data InPart (h : Home) (g : Thing) : Type 0 where
  is_name : (d : DeclarationTree) (x : EntityTree) → IsAmong (specifications_of h) (declares d) → IsAmong d.entities x → name h (d, x) ≡ g → InPart h g
  is_type : (x : TypeTree) → IsAmong (specifications_of h) (defines x) → type h x ≡ g → InPart h g

module _ (h : Home) where
  one_part : (s : SpecificationTree) (j : ℕ) (g : Thing) → IsAmong (specifications_of h) s → slice_get (things_in h s) j ≡ Some g → InPart h g
  one_part (declares d) j g among at =
      let found = from_mapped (λ (x : EntityTree). name h (d, x)) d.entities j g at in
      InPart.is_name d found.0 among (j, found.1) found.2
  one_part (accesses a) j g among at = nothing at
  one_part (protects p ns) j g among at = nothing at
  one_part (saves p) j g among at = nothing at
  one_part (defines x) zero g among at = InPart.is_type x among (same at)
  one_part (defines x) (suc j) g among at = nothing at

  pub in_part : (k : ℕ) (g : Thing) → slice_get (part_things h) k ≡ Some g → InPart h g
  in_part k g at =
      let found = flat_at (things_in h) (specifications_of h) k g at in
      one_part found.1 found.2 g (found.0, found.3) found.4

part_scope : (h : Home) (g : Thing) → InPart h g → (scope_of g ≡ number_of h) × IsScopeOf g (scope_at h)
part_scope h g (is_name d x s e is) = subst (λ (z : Thing). (scope_of z ≡ number_of h) × IsScopeOf z (scope_at h)) is (refl, refl)
part_scope h g (is_type x s is) = subst (λ (z : Thing). (scope_of z ≡ number_of h) × IsScopeOf z (scope_at h)) is (refl, refl)

part_of : (us : List Numbered) (h : Home) (g : Thing) → IsHome us h → InPart h g → IsOf us g
part_of us h g home (is_name d x s e is) = subst (IsOf us) is (home, s, e)
part_of us h g home (is_type x s is) = subst (IsOf us) is (home, s)

-- ---- a result that the header types

result_by : (g : Thing) (make : TypeSpecifier → Thing) (o : Option TypeSpecifier) (j : ℕ) → slice_get (map_or [] (λ (s : TypeSpecifier). make s ∷ []) o) j ≡ Some g
    → (s : TypeSpecifier) × (o ≡ Some s) × (make s ≡ g) × (j ≡ 0)
result_by g make None j at = nothing at
result_by g make (Some s) zero at = (s, refl, same at, refl)
result_by g make (Some s) (suc j) at = nothing at

count_by : (make : TypeSpecifier → Thing) (o : Option TypeSpecifier)
    → length (map_or [] (λ (s : TypeSpecifier). make s ∷ []) o) ≡ map_or 0 (λ (s : TypeSpecifier). 1) o
count_by make None = refl
count_by make (Some s) = refl

pub result_count : (u : Numbered) (m : Member) → length (result_things u m) ≡ map_or 0 (λ (s : TypeSpecifier). 1) (specifier_of ((m.tree).header).kind)
result_count u m = count_by (λ (s : TypeSpecifier). result u m s) (specifier_of ((m.tree).header).kind)

result_there : (u : Numbered) (m : Member) (s : TypeSpecifier) → specifier_of ((m.tree).header).kind ≡ Some s → slice_get (result_things u m) 0 ≡ Some (result u m s)
result_there u m s is = ap (λ (o : Option TypeSpecifier). slice_get (map_or [] (λ (s : TypeSpecifier). result u m s ∷ []) o) 0) is

-- ---- where things stand

pub data Where (t : Tree) (e : ℕ) (g : Thing) : Type 0 where
  specified : (h : Home) (k : ℕ) → IsHome (units_of t) h → slice_get (part_things h) k ≡ Some g → e ≡ first_of h + k → Where t e g
  contained : (u : Numbered) (m : Member) (j : ℕ) → IsAmong (units_of t) u → slice_get u.members j ≡ Some m → procedure u m ≡ g → e ≡ m.entity → Where t e g
  typed : (u : Numbered) (m : Member) (s : TypeSpecifier) → IsHome (units_of t) (of_member u m) → specifier_of ((m.tree).header).kind ≡ Some s
      → result u m s ≡ g → e ≡ m.first → Where t e g
  associated : (h : Home) → IsHome (units_of t) h → InConstructs (scopes_of t) h (number_of h + 1) (constructs_of_block (body_of h)) g e → Where t e g

module _ (t : Tree) where
  abbrev scopes : List Scope
  scopes = scopes_of t

  pub unit_at : (i : ℕ) (u : Numbered) → slice_get (units_of t) i ≡ Some u → UnitFacts scopes u × (u.first ≡ before unit_things i (units_of t))
  unit_at i u at =
      let found = units_at scopes 0 t.units (all_lie scopes) i u at in
      let first : u.first ≡ first_entity scopes 0 + before unit_things i (units_of t) = found.1 in
      (found.0, omega (arith, first))

  pub unit_facts : (u : Numbered) → IsAmong (units_of t) u → UnitFacts scopes u
  unit_facts u among = (unit_at among.0 u among.1).0

  pub member_facts : (u : Numbered) (m : Member) → IsHome (units_of t) (of_member u m) → MemberFacts scopes u m
  member_facts u m home = ((unit_facts u home.0).members home.1.0 m home.1.1).0

  pub home_there : (h : Home) → IsHome (units_of t) h → slice_get scopes (number_of h) ≡ Some (scope_at h)
  home_there (of_unit u) home = (unit_facts u home).there
  home_there (of_member u m) home = (member_facts u m home).there

  -- ---- from a thing to its place

  in_member : (u : Numbered) (m : Member) (home : IsHome (units_of t) (of_member u m)) (j : ℕ) (g : Thing) → slice_get (member_things u m) j ≡ Some g
      → Where t (m.first + j) g
  in_member u m home j g at =
      let part : List Thing = part_things (of_member u m) in
      let body : List Thing = body_things (of_member u m) in
      elim (split_at (result_things u m) (part ++ body) j g at) [
        | inl a ↦
            let found = result_by g (λ (s : TypeSpecifier). result u m s) (specifier_of ((m.tree).header).kind) j a in
            let none : j ≡ 0 = found.3 in
            Where.typed u m found.0 home found.1 found.2 (let z : m.first + j ≡ m.first = omega (arith, none) in z)
        | inr b ↦
            let behind : j ≡ length (result_things u m) + b.0 = b.2 in
            let count = result_count u m in
            elim (split_at part body b.0 g b.1) [
              | inl a ↦
                  Where.specified (of_member u m) b.0 home a
                  (let z : m.first + j ≡ m.first + map_or 0 (λ (s : TypeSpecifier). 1) (specifier_of ((m.tree).header).kind) + b.0 = omega (arith, behind, count) in z)
              | inr c ↦
                  let further : b.0 ≡ length part + c.0 = c.2 in
                  Where.associated (of_member u m) home
                  (subst (InConstructs scopes (of_member u m) (m.scope + 1) (constructs_of_block (m.tree).body) g)
                  (let z : m.first + (length (result_things u m) + (length part + c.0)) ≡ m.first + j = omega (arith, behind, further) in z)
                  ((member_facts u m home).body c.0 g c.1))
            ]
      ]

  in_unit : (u : Numbered) (among : IsAmong (units_of t) u) (j : ℕ) (g : Thing) → slice_get (unit_things u) j ≡ Some g → Where t (u.first + j) g
  in_unit u among j g at =
      let part : List Thing = part_things (of_unit u) in
      let make : Member → Thing = λ m. procedure u m in
      let body : List Thing = body_things (of_unit u) in
      let facts : UnitFacts scopes u = unit_facts u among in
      let long = length-map u.members make in
      elim (split_at part (map make u.members ++ (body ++ flat_map (member_things u) u.members)) j g at) [
        | inl a ↦ Where.specified (of_unit u) j among a refl
        | inr b ↦
            let one : j ≡ length part + b.0 = b.2 in
            elim (split_at (map make u.members) (body ++ flat_map (member_things u) u.members) b.0 g b.1) [
              | inl a ↦
                  let found = from_mapped make u.members b.0 g a in
                  let number : (found.0).entity ≡ u.first + (length part + b.0) = (facts.members b.0 found.0 found.1).1 in
                  Where.contained u found.0 b.0 among found.1 found.2 (omega (arith, number, one))
              | inr c ↦
                  let two : b.0 ≡ length (map make u.members) + c.0 = c.2 in
                  elim (split_at body (flat_map (member_things u) u.members) c.0 g c.1) [
                    | inl a ↦
                        Where.associated (of_unit u) among
                        (subst (InConstructs scopes (of_unit u) (u.scope + 1) (constructs_of_block (u.tree).body) g)
                        (let z : u.first + (length part + (length u.members + c.0)) ≡ u.first + j = omega (arith, one, two, long) in z)
                        (facts.body c.0 g a))
                    | inr d ↦
                        let three : c.0 ≡ length body + d.0 = d.2 in
                        let found = flat_at (member_things u) u.members d.0 g d.1 in
                        let four : d.0 ≡ before (member_things u) found.0 u.members + found.2 = found.5 in
                        let m : Member = found.1 in
                        let first : m.first ≡ u.first + (length part + (length u.members + (length body + before (member_things u) found.0 u.members))) = (facts.members found.0 m found.3).2 in
                        subst (λ k. Where t k g) (let z : m.first + found.2 ≡ u.first + j = omega (arith, first, one, two, three, four, long) in z)
                        (in_member u m (among, (found.0, found.3)) found.2 g found.4)
                  ]
            ]
      ]

  pub where_is : (e : ℕ) (g : Thing) → slice_get (things_of (units_of t)) e ≡ Some g → Where t e g
  where_is e g at =
      let found = flat_at unit_things (units_of t) e g at in
      let u : Numbered = found.1 in
      let first : u.first ≡ before unit_things found.0 (units_of t) = (unit_at found.0 u found.3).1 in
      let number : e ≡ before unit_things found.0 (units_of t) + found.2 = found.5 in
      subst (λ k. Where t k g) (let z : u.first + found.2 ≡ e = omega (arith, first, number) in z) (in_unit u (found.0, found.3) found.2 g found.4)

  -- ---- and from its place to the thing

  abbrev At : ℕ → Thing → Type 0
  At e g = slice_get (things_of (units_of t)) e ≡ Some g

  unit_block : (u : Numbered) → IsAmong (units_of t) u → (j : ℕ) (g : Thing) → slice_get (unit_things u) j ≡ Some g → At (u.first + j) g
  unit_block u among j g at =
      let first : u.first ≡ before unit_things among.0 (units_of t) = (unit_at among.0 u among.1).1 in
      ap (λ k. slice_get (things_of (units_of t)) (k + j)) first ∙ flat_block unit_things (units_of t) among.0 u j g among.1 at

  member_block : (u : Numbered) (m : Member) → IsHome (units_of t) (of_member u m) → (j : ℕ) (g : Thing) → slice_get (member_things u m) j ≡ Some g
      → At (m.first + j) g
  member_block u m home j g at =
      let part : List Thing = part_things (of_unit u) in
      let procedures : List Thing = map (λ (m : Member). procedure u m) u.members in
      let body : List Thing = body_things (of_unit u) in
      let inner : List Thing = flat_map (member_things u) u.members in
      let place : ℕ = before (member_things u) home.1.0 u.members + j in
      let there : slice_get inner place ≡ Some g = flat_block (member_things u) u.members home.1.0 m j g home.1.1 at in
      let long = length-map u.members (λ (m : Member). procedure u m) in
      let first : m.first ≡ u.first + (length part + (length u.members + (length body + before (member_things u) home.1.0 u.members))) = ((unit_facts u home.0).members home.1.0 m home.1.1).2 in
      subst (λ k. At k g)
      (let z : u.first + (length part + (length procedures + (length body + place))) ≡ m.first + j = omega (arith, first, long) in z)
      (unit_block u home.0 (length part + (length procedures + (length body + place))) g
      (at_back part (procedures ++ (body ++ inner)) (length procedures + (length body + place)) g
      (at_back procedures (body ++ inner) (length body + place) g (at_back body inner place g there))))

  pub part_block : (h : Home) → IsHome (units_of t) h → (k : ℕ) (g : Thing) → slice_get (part_things h) k ≡ Some g → At (first_of h + k) g
  part_block (of_unit u) home k g at = unit_block u home k g (at_front (part_things (of_unit u)) _ k g at)
  part_block (of_member u m) home k g at =
      let part : List Thing = part_things (of_member u m) in
      let body : List Thing = body_things (of_member u m) in
      let count = result_count u m in
      subst (λ i. At i g)
      (let z : m.first + (length (result_things u m) + k) ≡ m.first + map_or 0 (λ (s : TypeSpecifier). 1) (specifier_of ((m.tree).header).kind) + k = omega (arith, count) in z)
      (member_block u m home (length (result_things u m) + k) g (at_back (result_things u m) (part ++ body) k g (at_front part body k g at)))

  pub procedure_block : (u : Numbered) (m : Member) → IsHome (units_of t) (of_member u m) → At m.entity (procedure u m)
  procedure_block u m home =
      let part : List Thing = part_things (of_unit u) in
      let make : Member → Thing = λ m. procedure u m in
      let number : m.entity ≡ u.first + (length part + home.1.0) = ((unit_facts u home.0).members home.1.0 m home.1.1).1 in
      ap (slice_get (things_of (units_of t))) number
      ∙ unit_block u home.0 (length part + home.1.0) (procedure u m)
      (at_back part _ home.1.0 (procedure u m) (at_front (map make u.members) _ home.1.0 (procedure u m) (mapped_at make u.members home.1.0 m home.1.1)))

  pub result_block : (u : Numbered) (m : Member) (s : TypeSpecifier) → IsHome (units_of t) (of_member u m) → specifier_of ((m.tree).header).kind ≡ Some s
      → At m.first (result u m s)
  result_block u m s home is =
      ap (slice_get (things_of (units_of t))) (let z : m.first ≡ m.first + 0 = omega arith in z)
      ∙ member_block u m home 0 (result u m s) (at_front (result_things u m) _ 0 (result u m s) (result_there u m s is))

  -- ---- each stands in its scope

  stands_in : (h : Home) (k : ℕ) (g : Thing) → IsHome (units_of t) h → slice_get (part_things h) k ≡ Some g → scope_of g ≡ number_of h → IsScopeOf g (scope_at h)
      → Stands scopes g (first_of h + k)
  stands_in (of_unit u) k g home at number is =
      let first : u.first ≡ first_entity scopes u.scope = (unit_facts u home).first in record {
        scope = scope_of_unit u.tree;
        place = k;
        there = ap (slice_get scopes) number ∙ (unit_facts u home).there;
        is = is;
        declared =
            at_front (flat_map declared_in ((u.tree).part).specifications) (map procedure_own (u.tree).procedures) k (own_of g)
            (ap (λ l. slice_get l k) (sym (part_own (of_unit u) ((u.tree).part).specifications)) ∙ mapped_at own_of (part_things (of_unit u)) k g at);
        number = ap (λ n. first_entity scopes n + k) number ∙ ap (λ n. n + k) (sym first);
      }
  stands_in (of_member u m) k g home at number is =
      let first : m.first ≡ first_entity scopes m.scope = (member_facts u m home).first in
      let typed : List Own = typed_result ((m.tree).header).kind ((m.tree).header).name in
      let count = result_count u m in
      let long = result_long u m in record {
        scope = scope_of_procedure u.scope m.tree;
        place = length typed + k;
        there = ap (slice_get scopes) number ∙ (member_facts u m home).there;
        is = is;
        declared =
            at_back typed (flat_map declared_in ((m.tree).part).specifications) k (own_of g)
            (ap (λ l. slice_get l k) (sym (part_own (of_member u m) ((m.tree).part).specifications)) ∙ mapped_at own_of (part_things (of_member u m)) k g at);
        number = ap (λ n. first_entity scopes n + (length typed + k)) number ∙ omega (arith, first, count, long);
      }

  pub stands_where : (e : ℕ) (g : Thing) → Where t e g → Stands scopes g e
  stands_where e g (specified h k home at number) =
      let scope = part_scope h g (in_part h k g at) in
      subst (Stands scopes g) (sym number) (stands_in h k g home at scope.0 scope.1)
  stands_where e g (contained u m j among at is number) =
      let facts : UnitFacts scopes u = unit_facts u among in
      let first : u.first ≡ first_entity scopes u.scope = facts.first in
      let entity : m.entity ≡ u.first + (length (part_things (of_unit u)) + j) = (facts.members j m at).1 in
      let part = part_long (of_unit u) ((u.tree).part).specifications in
      let declared : List Own = flat_map declared_in ((u.tree).part).specifications in
      subst (λ (z : Thing). Stands scopes z e) is record {
        scope = scope_of_unit u.tree;
        place = length declared + j;
        there = facts.there;
        is = refl;
        declared =
            at_back declared (map procedure_own (u.tree).procedures) j (procedure_own m.tree)
            (mapped_at procedure_own (u.tree).procedures j m.tree (facts.members j m at).3);
        number = omega (arith, first, entity, part, number);
      }
  stands_where e g (typed u m s home is same number) =
      let facts : MemberFacts scopes u m = member_facts u m home in
      let first : m.first ≡ first_entity scopes m.scope = facts.first in
      let typed : List Own = typed_result ((m.tree).header).kind ((m.tree).header).name in
      subst (λ (z : Thing). Stands scopes z e) same record {
        scope = scope_of_procedure u.scope m.tree;
        place = 0;
        there = facts.there;
        is = refl;
        declared =
            at_front typed (flat_map declared_in ((m.tree).part).specifications) 0 (own_of (result u m s))
            (ap (λ l. slice_get l 0) (sym (result_own u m)) ∙ mapped_at own_of (result_things u m) 0 (result u m s) (result_there u m s is));
        number = omega (arith, first, number);
      }
  stands_where e g (associated h home c) =
      subst (λ (z : Thing). Stands scopes z e) (sym c.is) record {
        scope = scope_of_construct c.host c.around c.associations;
        place = c.place;
        there = c.scope;
        is = (refl, refl);
        declared = mapped_at association_own c.associations c.place c.association c.at;
        number = sym c.number;
      }

  pub of_where : (e : ℕ) (g : Thing) → Where t e g → IsOf (units_of t) g
  of_where e g (specified h k home at number) = part_of (units_of t) h g home (in_part h k g at)
  of_where e g (contained u m j among at is number) = subst (IsOf (units_of t)) is (among, (j, at))
  of_where e g (typed u m s home is same number) = subst (IsOf (units_of t)) same (home, is)
  of_where e g (associated h home c) =
      subst (IsOf (units_of t)) (sym c.is) (home, c.associations, c.construct, c.there, (c.place, c.at), refl)
