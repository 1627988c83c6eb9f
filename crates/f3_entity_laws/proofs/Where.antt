-- Where each thing of a program stands.
use Rattle.std.proofs.Common.{◌≡◌, ℕ, zero, suc, ◌+◌, List, [], ◌∷◌, ◌++◌, length, map, Some, refl, sym, ap, ◌∙◌, inl, inr, arith}
use Rattle.std.specs.Prelude.{slice_get}
use Rattle.std.specs.List.{flat_map}
use Rattle.std.proofs.lemmas.List.{length-append, length-map}
use mathlib.Core.Path.{subst}
use Rattle.f3_access.specs.Access.{first_entity}
use Rattle.f3_scopes.specs.Outlines.{Scope}
use Rattle.f3_scopes.specs.Scopes.{declared_in, association_own, procedure_own, typed_result, scope_of_construct, scope_of_procedure, scope_of_unit, constructs_in_block}
use Rattle.f3_scopes.specs.Scopes.{procedure_scopes, procedures_from, own_scopes, unit_scopes, scopes_from}
use Rattle.f3_tree.specs.declared.expression.Name.{Name}
use Rattle.f3_tree.specs.Statements.{AssociationTree}
use Rattle.f3_tree.specs.Tree.{ProcedureTree, UnitTree}
use Rattle.f3_type_rules.specs.Associates.{constructs_of_block}
use Rattle.f3_type_rules.specs.Members.{Member, Numbered, members_from, numbered, units_from}
use Rattle.f3_lawful_laws.proofs.Facts.{nothing, same}
use Rattle.f3_lawful_laws.proofs.Opening.{from_mapped}
use Rattle.f3_lawful_laws.proofs.Placing.{block_long, Lies, lies_left, lies_right, lies_next, lies_first}
use Rattle.f3_lawful_laws.proofs.Ascending.{first_next}
use Rattle.f3_entity_laws.specs.Things.{Home, of_unit, of_member, Thing, procedure, associate, part_things, construct_things, body_things, result_things, member_things}
use Rattle.f3_entity_laws.specs.Things.{unit_things, things_of}
use Rattle.f3_entity_laws.proofs.Lists.{split_at, before, before_more}
use Rattle.f3_entity_laws.proofs.Constructs.{ArePairs, block_pairs}
use Rattle.f3_entity_laws.proofs.Owns.{part_long, result_long}

-- ---- constructs

-- an association of one of these constructs, where the first has this number
pub record InConstructs (scopes : List Scope) (h : Home) (n : ℕ) (xss : List (List AssociationTree)) (g : Thing) (entity : ℕ) : Type 0 where
  pub construct : ℕ
  pub associations : List AssociationTree
  pub place : ℕ
  pub association : AssociationTree
  pub host : ℕ
  pub around : Name
  pub there : slice_get xss construct ≡ Some associations
  pub at : slice_get associations place ≡ Some association
  pub is : g ≡ associate h (n + construct) association
  pub scope : slice_get scopes (n + construct) ≡ Some (scope_of_construct host around associations)
  pub number : entity ≡ first_entity scopes (n + construct) + place

scope_next : (scopes : List Scope) (n : ℕ) (s : Scope) (ss : List Scope) → Lies scopes n (s ∷ ss)
    → first_entity scopes (n + 1) ≡ first_entity scopes n + length s.declared
scope_next scopes n s ss lies = ap (first_entity scopes) (let e : n + 1 ≡ suc n = omega arith in e) ∙ first_next scopes n s (lies_first scopes n s ss lies)

construct_long : (s : Scope) (xs : List AssociationTree) (host : ℕ) (around : Name) → s ≡ scope_of_construct host around xs → length s.declared ≡ length xs
construct_long s xs host around is = ap (λ (z : Scope). length z.declared) is ∙ length-map xs association_own

constructs_at : (scopes : List Scope) (h : Home) (n : ℕ) (ss : List Scope) (xss : List (List AssociationTree)) → ArePairs ss xss → Lies scopes n ss
    → (j : ℕ) (g : Thing) → slice_get (construct_things h n xss) j ≡ Some g → InConstructs scopes h n xss g (first_entity scopes n + j)
constructs_at scopes h n [] [] pairs lies j g at = nothing at
constructs_at scopes h n [] (xs ∷ xss) pairs lies j g at = absurd pairs
constructs_at scopes h n (s ∷ ss) [] pairs lies j g at = absurd pairs
constructs_at scopes h n (s ∷ ss) (xs ∷ xss) pairs lies j g at =
    let make : AssociationTree → Thing = λ x. associate h n x in
    let here : slice_get scopes n ≡ Some (scope_of_construct pairs.0.0 pairs.0.1 xs) = lies_first scopes n s ss lies ∙ ap Some pairs.0.2 in
    elim (split_at (map make xs) (construct_things h (n + 1) xss) j g at) [
      | inl a ↦
          let found = from_mapped make xs j g a in
          let same : n ≡ n + 0 = omega arith in record {
            construct = 0;
            associations = xs;
            place = j;
            association = found.0;
            host = pairs.0.0;
            around = pairs.0.1;
            there = refl;
            at = found.1;
            is = sym found.2 ∙ ap (λ k. associate h k found.0) same;
            scope = ap (slice_get scopes) (sym same) ∙ here;
            number = ap (λ k. first_entity scopes k + j) same;
          }
      | inr b ↦
          let rest = constructs_at scopes h (n + 1) ss xss pairs.1 (lies_next scopes n s ss lies) b.0 g b.1 in
          let same : n + 1 + rest.construct ≡ n + suc rest.construct = omega arith in
          let next = scope_next scopes n s ss lies in
          let long = construct_long s xs pairs.0.0 pairs.0.1 pairs.0.2 in
          let made = length-map xs make in
          let place : j ≡ length (map make xs) + b.0 = b.2 in
          let moved : first_entity scopes n + j ≡ first_entity scopes (n + 1) + b.0 = omega (arith, next, long, made, place) in record {
            construct = suc rest.construct;
            associations = rest.associations;
            place = rest.place;
            association = rest.association;
            host = rest.host;
            around = rest.around;
            there = rest.there;
            at = rest.at;
            is = rest.is ∙ ap (λ k. associate h k rest.association) same;
            scope = ap (slice_get scopes) (sym same) ∙ rest.scope;
            number = moved ∙ rest.number ∙ ap (λ k. first_entity scopes k + rest.place) same;
          }
    ]

constructs_end : (scopes : List Scope) (h : Home) (n : ℕ) (ss : List Scope) (xss : List (List AssociationTree)) → ArePairs ss xss → Lies scopes n ss
    → first_entity scopes (n + length xss) ≡ first_entity scopes n + length (construct_things h n xss)
constructs_end scopes h n [] [] pairs lies = ap (first_entity scopes) (let e : n + 0 ≡ n = omega arith in e) ∙ (let e : first_entity scopes n ≡ first_entity scopes n + 0 = omega arith in e)
constructs_end scopes h n [] (xs ∷ xss) pairs lies = absurd pairs
constructs_end scopes h n (s ∷ ss) [] pairs lies = absurd pairs
constructs_end scopes h n (s ∷ ss) (xs ∷ xss) pairs lies =
    let make : AssociationTree → Thing = λ x. associate h n x in
    let rest = constructs_end scopes h (n + 1) ss xss pairs.1 (lies_next scopes n s ss lies) in
    let next = scope_next scopes n s ss lies in
    let long = construct_long s xs pairs.0.0 pairs.0.1 pairs.0.2 in
    let made = length-map xs make in
    let all = length-append (map make xs) (construct_things h (n + 1) xss) in
    ap (first_entity scopes) (let e : n + suc (length xss) ≡ n + 1 + length xss = omega arith in e) ∙ omega (arith, rest, next, long, made, all)

-- ---- procedures

pub record MemberFacts (scopes : List Scope) (u : Numbered) (m : Member) : Type 0 where
  pub there : slice_get scopes m.scope ≡ Some (scope_of_procedure u.scope m.tree)
  pub first : m.first ≡ first_entity scopes m.scope
  pub body : (j : ℕ) (g : Thing) → slice_get (body_things (of_member u m)) j ≡ Some g
      → InConstructs scopes (of_member u m) (m.scope + 1) (constructs_of_block (m.tree).body) g
      (m.first + (length (result_things u m) + (length (part_things (of_member u m)) + j)))

-- the scopes behind a procedure, and those behind a unit's own
pub procedures_step : (host n : ℕ) (p : ProcedureTree) (ps : List ProcedureTree)
    → n + length (procedures_from host n (p ∷ ps))
    ≡ n + 1 + length (constructs_of_block p.body) + length (procedures_from host (n + 1 + length (constructs_of_block p.body)) ps)
procedures_step host n p ps =
    let own : List Scope = procedure_scopes host n p in
    let count = block_long n (p.header).name (n + 1) p.body in
    let step : n + length own ≡ n + 1 + length (constructs_of_block p.body) = omega (arith, count) in
    let split = length-append own (procedures_from host (n + length own) ps) in
    (let a : n + length (own ++ procedures_from host (n + length own) ps) ≡ (n + length own) + length (procedures_from host (n + length own) ps) = omega (arith, split) in a)
    ∙ ap (λ k. k + length (procedures_from host k ps)) step

pub unit_step : (n : ℕ) (x : UnitTree)
    → n + length (unit_scopes n x) ≡ n + 1 + length (constructs_of_block x.body) + length (procedures_from n (n + 1 + length (constructs_of_block x.body)) x.procedures)
unit_step n x =
    let own : List Scope = own_scopes n x in
    let count = block_long n x.name (n + 1) x.body in
    let step : n + length own ≡ n + 1 + length (constructs_of_block x.body) = omega (arith, count) in
    let split = length-append own (procedures_from n (n + length own) x.procedures) in
    (let a : n + length (unit_scopes n x) ≡ (n + length own) + length (procedures_from n (n + length own) x.procedures) = omega (arith, split) in a)
    ∙ ap (λ k. k + length (procedures_from n k x.procedures)) step

module _ (scopes : List Scope) (u : Numbered) where
  abbrev pub member_at : (e n : ℕ) → ProcedureTree → Member
  member_at e n p = record { entity = e; scope = n; first = first_entity scopes n; tree = p }

  -- behind the scope of a procedure
  pub inner_first : (e n : ℕ) (p : ProcedureTree) → Lies scopes n (procedure_scopes u.scope n p)
      → first_entity scopes (n + 1) ≡ first_entity scopes n + (length (result_things u (member_at e n p)) + length (part_things (of_member u (member_at e n p))))
  inner_first e n p lies =
      let next = scope_next scopes n (scope_of_procedure u.scope p) _ lies in
      let split = length-append (typed_result (p.header).kind (p.header).name) (flat_map declared_in (p.part).specifications) in
      let part = part_long (of_member u (member_at e n p)) (p.part).specifications in
      let typed = result_long u (member_at e n p) in
      omega (arith, next, split, part, typed)

  member_facts : (e n : ℕ) (p : ProcedureTree) → Lies scopes n (procedure_scopes u.scope n p) → MemberFacts scopes u (member_at e n p)
  member_facts e n p lies = record {
    there = lies_first scopes n (scope_of_procedure u.scope p) _ lies;
    first = refl;
    body = λ j g at.
        let m : Member = member_at e n p in
        let own : List Scope = constructs_in_block n (p.header).name (n + 1) p.body in
        let found = constructs_at scopes (of_member u m) (n + 1) own (constructs_of_block p.body) (block_pairs n (p.header).name (n + 1) p.body)
        (lies_next scopes n (scope_of_procedure u.scope p) own lies) j g at in
        let begins = inner_first e n p lies in
        subst (λ k. InConstructs scopes (of_member u m) (n + 1) (constructs_of_block p.body) g k)
        (let a : first_entity scopes (n + 1) + j ≡ first_entity scopes n + (length (result_things u m) + (length (part_things (of_member u m)) + j)) = omega (arith, begins) in a)
        found;
  }

  member_end : (e n : ℕ) (p : ProcedureTree) → Lies scopes n (procedure_scopes u.scope n p)
      → first_entity scopes (n + 1 + length (constructs_of_block p.body)) ≡ first_entity scopes n + length (member_things u (member_at e n p))
  member_end e n p lies =
      let m : Member = member_at e n p in
      let own : List Scope = constructs_in_block n (p.header).name (n + 1) p.body in
      let ends = constructs_end scopes (of_member u m) (n + 1) own (constructs_of_block p.body) (block_pairs n (p.header).name (n + 1) p.body)
      (lies_next scopes n (scope_of_procedure u.scope p) own lies) in
      let begins = inner_first e n p lies in
      let one = length-append (result_things u m) (part_things (of_member u m) ++ body_things (of_member u m)) in
      let two = length-append (part_things (of_member u m)) (body_things (of_member u m)) in
      omega (arith, ends, begins, one, two)

  pub lies_behind : (n : ℕ) (p : ProcedureTree) (ps : List ProcedureTree) → Lies scopes n (procedures_from u.scope n (p ∷ ps))
      → Lies scopes (n + 1 + length (constructs_of_block p.body)) (procedures_from u.scope (n + 1 + length (constructs_of_block p.body)) ps)
  lies_behind n p ps lies =
      let count = block_long n (p.header).name (n + 1) p.body in
      subst (λ k. Lies scopes k (procedures_from u.scope k ps))
      (let a : n + length (procedure_scopes u.scope n p) ≡ n + 1 + length (constructs_of_block p.body) = omega (arith, count) in a)
      (lies_right scopes n (procedure_scopes u.scope n p) _ lies)

  -- a procedure of these, with its entity and the first in it
  members_at : (e n : ℕ) (ps : List ProcedureTree) → Lies scopes n (procedures_from u.scope n ps)
      → (j : ℕ) (m : Member) → slice_get (members_from scopes e n ps) j ≡ Some m
      → MemberFacts scopes u m × (m.entity ≡ e + j) × (m.first ≡ first_entity scopes n + before (member_things u) j (members_from scopes e n ps))
      × (slice_get ps j ≡ Some m.tree)
  members_at e n [] lies j m at = nothing at
  members_at e n (p ∷ ps) lies zero m at =
      subst (λ (z : Member). MemberFacts scopes u z × (z.entity ≡ e + 0) × (z.first ≡ first_entity scopes n + 0) × (Some p ≡ Some z.tree)) (same at) (
        member_facts e n p (lies_left scopes n (procedure_scopes u.scope n p) _ lies),
        (let a : e ≡ e + 0 = omega arith in a),
        (let a : first_entity scopes n ≡ first_entity scopes n + 0 = omega arith in a),
        refl,
      )
  members_at e n (p ∷ ps) lies (suc j) m at =
      let next : ℕ = n + 1 + length (constructs_of_block p.body) in
      let rest = members_at (e + 1) next ps (lies_behind n p ps lies) j m at in
      let entity : m.entity ≡ e + 1 + j = rest.1 in
      let first : m.first ≡ first_entity scopes next + before (member_things u) j (members_from scopes (e + 1) next ps) = rest.2 in
      let ends = member_end e n p (lies_left scopes n (procedure_scopes u.scope n p) _ lies) in
      let more = before_more (member_things u) j (member_at e n p) (members_from scopes (e + 1) next ps) in (
        rest.0,
        omega (arith, entity),
        omega (arith, first, ends, more),
        rest.3,
      )

  members_end : (e n : ℕ) (ps : List ProcedureTree) → Lies scopes n (procedures_from u.scope n ps)
      → first_entity scopes (n + length (procedures_from u.scope n ps)) ≡ first_entity scopes n + length (flat_map (member_things u) (members_from scopes e n ps))
  members_end e n [] lies = ap (first_entity scopes) (let a : n + 0 ≡ n = omega arith in a) ∙ (let a : first_entity scopes n ≡ first_entity scopes n + 0 = omega arith in a)
  members_end e n (p ∷ ps) lies =
      let next : ℕ = n + 1 + length (constructs_of_block p.body) in
      let rest = members_end (e + 1) next ps (lies_behind n p ps lies) in
      let ends = member_end e n p (lies_left scopes n (procedure_scopes u.scope n p) _ lies) in
      let all = length-append (member_things u (member_at e n p)) (flat_map (member_things u) (members_from scopes (e + 1) next ps)) in
      ap (first_entity scopes) (procedures_step u.scope n p ps) ∙ rest ∙ omega (arith, ends, all)

-- ---- units

pub record UnitFacts (scopes : List Scope) (u : Numbered) : Type 0 where
  pub there : slice_get scopes u.scope ≡ Some (scope_of_unit u.tree)
  pub first : u.first ≡ first_entity scopes u.scope
  pub body : (j : ℕ) (g : Thing) → slice_get (body_things (of_unit u)) j ≡ Some g
      → InConstructs scopes (of_unit u) (u.scope + 1) (constructs_of_block (u.tree).body) g
      (u.first + (length (part_things (of_unit u)) + (length u.members + j)))
  pub members : (j : ℕ) (m : Member) → slice_get u.members j ≡ Some m
      → MemberFacts scopes u m × (m.entity ≡ u.first + (length (part_things (of_unit u)) + j))
      × (m.first ≡ u.first + (length (part_things (of_unit u)) + (length u.members + (length (body_things (of_unit u)) + before (member_things u) j u.members))))
      × (slice_get (u.tree).procedures j ≡ Some m.tree)

members_long : (scopes : List Scope) (e n : ℕ) (ps : List ProcedureTree) → length (members_from scopes e n ps) ≡ length ps
members_long scopes e n [] = refl
members_long scopes e n (p ∷ ps) = ap suc (members_long scopes (e + 1) (n + 1 + length (constructs_of_block p.body)) ps)

module _ (scopes : List Scope) (n : ℕ) (x : UnitTree) (lies : Lies scopes n (unit_scopes n x)) where
  abbrev u : Numbered
  u = numbered scopes n x

  abbrev own : List Scope
  own = constructs_in_block n x.name (n + 1) x.body

  mine : Lies scopes n (own_scopes n x)
  mine = lies_left scopes n (own_scopes n x) _ lies

  pub unit_first : first_entity scopes (n + 1) ≡ first_entity scopes n + (length (part_things (of_unit u)) + length u.members)
  unit_first =
      let next = scope_next scopes n (scope_of_unit x) own mine in
      let split = length-append (flat_map declared_in (x.part).specifications) (map procedure_own x.procedures) in
      let part = part_long (of_unit u) (x.part).specifications in
      let made = length-map x.procedures procedure_own in
      let long = members_long scopes (first_entity scopes n + length (flat_map declared_in (x.part).specifications)) (n + 1 + length (constructs_of_block x.body)) x.procedures in
      omega (arith, next, split, part, made, long)

  pub body_end : first_entity scopes (n + 1 + length (constructs_of_block x.body)) ≡ first_entity scopes (n + 1) + length (body_things (of_unit u))
  body_end =
      constructs_end scopes (of_unit u) (n + 1) own (constructs_of_block x.body) (block_pairs n x.name (n + 1) x.body) (lies_next scopes n (scope_of_unit x) own mine)

  pub inner : Lies scopes (n + 1 + length (constructs_of_block x.body)) (procedures_from n (n + 1 + length (constructs_of_block x.body)) x.procedures)
  inner =
      let count = block_long n x.name (n + 1) x.body in
      subst (λ k. Lies scopes k (procedures_from n k x.procedures))
      (let a : n + length (own_scopes n x) ≡ n + 1 + length (constructs_of_block x.body) = omega (arith, count) in a)
      (lies_right scopes n (own_scopes n x) _ lies)

  unit_facts : UnitFacts scopes u
  unit_facts = record {
    there = lies_first scopes n (scope_of_unit x) own mine;
    first = refl;
    body = λ j g at.
        let found = constructs_at scopes (of_unit u) (n + 1) own (constructs_of_block x.body) (block_pairs n x.name (n + 1) x.body)
        (lies_next scopes n (scope_of_unit x) own mine) j g at in
        let begins = unit_first in
        subst (λ k. InConstructs scopes (of_unit u) (n + 1) (constructs_of_block x.body) g k)
        (let a : first_entity scopes (n + 1) + j ≡ first_entity scopes n + (length (part_things (of_unit u)) + (length u.members + j)) = omega (arith, begins) in a)
        found;
    members = λ j m at.
        let found = members_at scopes u (first_entity scopes n + length (flat_map declared_in (x.part).specifications)) (n + 1 + length (constructs_of_block x.body)) x.procedures inner j m at in
        let entity : m.entity ≡ first_entity scopes n + length (flat_map declared_in (x.part).specifications) + j = found.1 in
        let first : m.first ≡ first_entity scopes (n + 1 + length (constructs_of_block x.body)) + before (member_things u) j u.members = found.2 in
        let part = part_long (of_unit u) (x.part).specifications in
        let begins = unit_first in
        let ends = body_end in (
          found.0,
          omega (arith, entity, part),
          omega (arith, first, begins, ends),
          found.3,
        );
  }

  unit_end : first_entity scopes (n + length (unit_scopes n x)) ≡ first_entity scopes n + length (unit_things u)
  unit_end =
      let next : ℕ = n + 1 + length (constructs_of_block x.body) in
      let rest = members_end scopes u (first_entity scopes n + length (flat_map declared_in (x.part).specifications)) next x.procedures inner in
      let begins = unit_first in
      let ends = body_end in
      let ps : List Thing = map (λ (m : Member). procedure u m) u.members in
      let one = length-append (part_things (of_unit u)) (ps ++ (body_things (of_unit u) ++ flat_map (member_things u) u.members)) in
      let two = length-append ps (body_things (of_unit u) ++ flat_map (member_things u) u.members) in
      let three = length-append (body_things (of_unit u)) (flat_map (member_things u) u.members) in
      let made = length-map u.members (λ (m : Member). procedure u m) in
      ap (first_entity scopes) (unit_step n x) ∙ rest ∙ omega (arith, begins, ends, one, two, three, made)

-- each unit, with the first entity in it
pub units_at : (scopes : List Scope) (n : ℕ) (us : List UnitTree) → Lies scopes n (scopes_from n us)
    → (i : ℕ) (u : Numbered) → slice_get (units_from scopes n us) i ≡ Some u
    → UnitFacts scopes u × (u.first ≡ first_entity scopes n + before unit_things i (units_from scopes n us))
units_at scopes n [] lies i u at = nothing at
units_at scopes n (x ∷ us) lies zero u at =
    subst (λ (z : Numbered). UnitFacts scopes z × (z.first ≡ first_entity scopes n + 0)) (same at) (
      unit_facts scopes n x (lies_left scopes n (unit_scopes n x) _ lies),
      (let a : first_entity scopes n ≡ first_entity scopes n + 0 = omega arith in a),
    )
units_at scopes n (x ∷ us) lies (suc i) u at =
    let next : ℕ = n + length (unit_scopes n x) in
    let rest = units_at scopes next us (lies_right scopes n (unit_scopes n x) _ lies) i u at in
    let first : u.first ≡ first_entity scopes next + before unit_things i (units_from scopes next us) = rest.1 in
    let ends = unit_end scopes n x (lies_left scopes n (unit_scopes n x) _ lies) in
    let more = before_more unit_things i (numbered scopes n x) (units_from scopes next us) in
    (rest.0, omega (arith, first, ends, more))

pub units_end : (scopes : List Scope) (n : ℕ) (us : List UnitTree) → Lies scopes n (scopes_from n us)
    → first_entity scopes (n + length (scopes_from n us)) ≡ first_entity scopes n + length (things_of (units_from scopes n us))
units_end scopes n [] lies = ap (first_entity scopes) (let a : n + 0 ≡ n = omega arith in a) ∙ (let a : first_entity scopes n ≡ first_entity scopes n + 0 = omega arith in a)
units_end scopes n (x ∷ us) lies =
    let next : ℕ = n + length (unit_scopes n x) in
    let rest = units_end scopes next us (lies_right scopes n (unit_scopes n x) _ lies) in
    let ends = unit_end scopes n x (lies_left scopes n (unit_scopes n x) _ lies) in
    let split = length-append (unit_scopes n x) (scopes_from next us) in
    let all = length-append (unit_things (numbered scopes n x)) (things_of (units_from scopes next us)) in
    ap (first_entity scopes) (let a : n + length (unit_scopes n x ++ scopes_from next us) ≡ next + length (scopes_from next us) = omega (arith, split) in a)
    ∙ rest ∙ omega (arith, ends, all)
