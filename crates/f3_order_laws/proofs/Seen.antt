-- What is visible in a unit and its procedures belongs to the unit, or to a module that it needs.
use Rattle.std.proofs.Common.{◌≡◌, refl, ℕ, suc, ◌+◌, ◌<◌, ◌≤◌, ◌⊎◌, inl, inr, List, map, length, None, Some, ap, ◌∙◌, sym, subst, arith, slice_get, Contains}
use Rattle.std.specs.List.{flat_map}
use Rattle.std.specs.Option.{option_map}
use Rattle.std.proofs.lemmas.Bool.{cases_lt, cases_order}
use Rattle.std.proofs.lemmas.List.{length-append}
use Rattle.std.proofs.lemmas.Option.{slice_get_within, slice_get-map}
use Rattle.f3_nodes.proofs.Members.{Has, has_of, contains_of}
use Rattle.f3_tree.specs.declared.program.UnitKind.{UnitKind}
use Rattle.f3_tree.specs.declared.program.UnitKind.TheVariants.{Module, Program as MainProgram}
use Rattle.f3_tree.specs.Tree.{ProcedureTree, UnitTree}
use Rattle.f3_scopes.specs.declared.outline.ScopeKind.TheVariants as scope
use Rattle.f3_scopes.specs.Outlines.{Scope, Using, Own}
use Rattle.f3_scopes.specs.Scopes.{declared_in, unit_kind, scope_of_unit, scope_of_procedure, procedures_from, own_scopes, unit_scopes, scopes_from}
use Rattle.f3_access.specs.Access.{first_entity, IsCalled, IsOwn, IsVisible}
use Rattle.f3_access.specs.Hosts.{host_in}
use Rattle.f3_graph.specs.Units.{Node, node_of, uses_of}
use Rattle.f3_type_rules.specs.Associates.{constructs_of_block}
use Rattle.f3_type_rules.specs.Members.{Member, members_from, numbered}
use Rattle.f3_order_laws.proofs.Constructs.{block_long, unit_scope_at, scope_uses}
use Rattle.f3_order_laws.proofs.Entries.{Out}
use Rattle.f3_order_laws.proofs.Orders.{Takes, Needs}
use Rattle.f3_order_laws.proofs.Places.{Lies, lies_right, start, start_grows, start_next, unit_lies, unit_of, IsPlaced, members_placed, first_more, first_grows}

-- each local name comes by a USE
use_of : (s : Scope) (from original symbol : ℕ) → IsCalled s from original symbol → (y : Using) × Contains s.uses y × (y.from.symbol ≡ from)
use_of s from original symbol (IsCalled.alone u i has same items rename name e) = (u, has, same)
use_of s from original symbol (IsCalled.renamed u i has same items rename name e) = (u, has, same)
use_of s from original symbol (IsCalled.kept u has same only e none) = (u, has, same)

is_module : (kind : UnitKind) → unit_kind kind ≡ scope.Module → kind ≡ Module
is_module Module e = refl
is_module MainProgram e = cc

node_at : (us : List UnitTree) (i : ℕ) (u : UnitTree) → slice_get us i ≡ Some u → slice_get (map node_of us) i ≡ Some (node_of u)
node_at us i u at = slice_get-map node_of us i ∙ ap (option_map node_of) at

module _ (us : List UnitTree) where
  abbrev pub scopes : List Scope
  scopes = scopes_from 0 us

  abbrev pub from : ℕ → ℕ
  from i = start i 0 us

  abbrev pub nodes : List Node
  nodes = map node_of us

  -- an entity that a scope of the unit of this number declares
  abbrev pub Belongs : ℕ → ℕ → Type 0
  Belongs i e = (first_entity scopes (from i) ≤ e) × (e < first_entity scopes (from (i + 1)))

  pub decided : (i e : ℕ) → Belongs i e ⊎ (Belongs i e → ⊥)
  decided i e = elim (cases_lt e (first_entity scopes (from i))) [
    | inl below ↦ inr (λ b. (let a = b.0 in omega (arith, a, below)))
    | inr ge ↦ elim (cases_lt e (first_entity scopes (from (i + 1)))) [
      | inl lt ↦ inl (ge, lt)
      | inr above ↦ inr (λ b. (let a = b.1 in omega (arith, a, above)))
    ]
  ]

  later_apart : (i j e : ℕ) → i < j → Belongs i e → Belongs j e → ⊥
  later_apart i j e lt a b =
      let grows = first_grows scopes (from (i + 1)) (from j) (start_grows (i + 1) j 0 us (omega (arith, lt))) in
      let below = a.1 in
      let above = b.0 in
      omega (arith, grows, below, above)

  pub apart : (i j e : ℕ) → Belongs i e → Belongs j e → i ≡ j
  apart i j e a b = elim (cases_order i j) [
    | inl same ↦ same
    | inr (inl less) ↦ absurd (later_apart i j e less a b)
    | inr (inr more) ↦ absurd (later_apart j i e more b a)
  ]

  pub outside : (i e : ℕ) → (Belongs i e → ⊥) → Out (first_entity scopes (from i)) (first_entity scopes (from (i + 1))) e
  outside i e out = elim (cases_lt e (first_entity scopes (from i))) [
    | inl below ↦ inl below
    | inr ge ↦ elim (cases_lt e (first_entity scopes (from (i + 1)))) [ inl lt ↦ absurd (out (ge, lt)) | inr above ↦ inr above ]
  ]

  -- ---- where the unit of a number and its procedures stand

  whole_lies : Lies scopes 0 scopes
  whole_lies p s at = subst (λ k. slice_get scopes k ≡ Some s) (let e : p ≡ 0 + p = omega arith in e) at

  pub lies : (i : ℕ) (u : UnitTree) → slice_get us i ≡ Some u → Lies scopes (from i) (unit_scopes (from i) u)
  lies i u at = unit_lies scopes i 0 us u whole_lies at

  pub next_from : (i : ℕ) (u : UnitTree) → slice_get us i ≡ Some u → from (i + 1) ≡ from i + length (unit_scopes (from i) u)
  next_from i u at = ap from (let e : i + 1 ≡ suc i = omega arith in e) ∙ start_next i 0 us u at

  pub unit_at : (i : ℕ) (u : UnitTree) → slice_get us i ≡ Some u → slice_get scopes (from i) ≡ Some (scope_of_unit u)
  unit_at i u at =
      subst (λ k. slice_get scopes k ≡ Some (scope_of_unit u)) (let z : from i + 0 ≡ from i = omega arith in z) (lies i u at 0 (scope_of_unit u) refl)

  pub member_at : (i : ℕ) (u : UnitTree) → slice_get us i ≡ Some u → (m : Member) → Has (numbered scopes (from i) u).members m → IsPlaced scopes (from i) (from i) (from (i + 1)) m
  member_at i u at m h =
      let n = from i in
      let e = first_entity scopes n + length (flat_map declared_in (u.part).specifications) in
      let first = n + length (own_scopes n u) in
      let count = block_long n u.name (n + 1) u.body in
      let same : n + 1 + length (constructs_of_block u.body) ≡ first = omega (arith, count) in
      let placed = members_placed scopes n e first u.procedures (lies_right scopes n (own_scopes n u) (procedures_from n first u.procedures) (lies i u at)) m
      (subst (λ k. Has (members_from scopes e k u.procedures) m) same h) in
      let long = length-append (own_scopes n u) (procedures_from n first u.procedures) in
      let end = next_from i u at in
      (placed.0, placed.1, (let a = placed.2 in omega (arith, a)), (let b = placed.3 in omega (arith, b, long, end)))

  -- ---- what is visible

  -- it belongs to the unit, or to a module that the unit needs
  abbrev pub Sees : ℕ → ℕ → Type 0
  Sees i e = (v : ℕ) × ((v ≡ i) ⊎ Needs nodes i v) × Belongs v e

  -- the scope is one of the unit of a number
  abbrev pub InUnit : ℕ → ℕ → Type 0
  InUnit i number = (u : UnitTree) × (q : ℕ) × (s : Scope) × (slice_get us i ≡ Some u) × (slice_get (unit_scopes (from i) u) q ≡ Some s) × (from i + q ≡ number)

  there : (i number : ℕ) → (x : InUnit i number) → slice_get scopes number ≡ Some x.2
  there i number (u, q, s, at, in_unit, same) = subst (λ k. slice_get scopes k ≡ Some s) same (lies i u at q s in_unit)

  declared_here : (i number place e : ℕ) (s : Scope) (d : Own) → InUnit i number → slice_get scopes number ≡ Some s → slice_get s.declared place ≡ Some d
      → first_entity scopes number + place ≡ e → Belongs i e
  declared_here i number place e s d (u, q, x, at, in_unit, same) at_s at_d sum =
      let within = slice_get_within s.declared place d at_d in
      let inside = slice_get_within (unit_scopes (from i) u) q x in_unit in
      let end = next_from i u at in
      let low = first_grows scopes (from i) number (omega (arith, same)) in
      let high = first_grows scopes (number + 1) (from (i + 1)) (omega (arith, same, inside, end)) in
      let more = first_more scopes number s at_s in
      (omega (arith, low, sum), omega (arith, high, more, within, sum))

  own_seen : (number symbol e : ℕ) → IsOwn scopes number symbol e → (i : ℕ) → InUnit i number → Sees i e
  own_seen number symbol e (IsOwn.declared number' symbol' e' (s, place, d, at_s, at_d, name, sum)) i x =
      (i, inl refl, declared_here i number' place e' s d x at_s at_d sum)
  own_seen number symbol e (IsOwn.used number' symbol' e' source original (user, giver, at_user, at_giver, kind, public, called) inner) i x =
      let y = use_of user giver.name.symbol original symbol' called in
      let r = unit_of source 0 us giver at_giver in
      let module_there : InUnit r.0 source = (r.1, r.2, giver, r.3, r.4, (let z = r.5 in omega (arith, z))) in
      let takes = takes_it number' i x user giver at_user y.0 y.1 y.2 kind r.0 r.1 r.2 r.3 r.4 in
      by i r.0 e' takes (own_seen source original e' inner r.0 module_there)
    where
      takes_it : (number i : ℕ) (x : InUnit i number) (user giver : Scope) → slice_get scopes number ≡ Some user
          → (y : Using) → Contains user.uses y → y.from.symbol ≡ giver.name.symbol → giver.kind ≡ scope.Module
          → (j : ℕ) (u : UnitTree) (q : ℕ) → slice_get us j ≡ Some u → slice_get (unit_scopes (from j) u) q ≡ Some giver → Takes nodes i j
      takes_it number i x user giver at_user y has named kind j u q at in_unit =
          let at_x = there i number x in
          let same : user ≡ x.2 = cc in
          let uses = scope_uses (from i) x.0 x.1 x.2 x.4 y (has_of (x.2).uses y (subst (λ (s : Scope). Contains s.uses y) same has)) in
          let first : giver ≡ scope_of_unit u = elim (unit_scope_at (from j) u q giver in_unit) [
            | inl here ↦ here.1
            | inr inner ↦ absurd (inner.1 kind)
          ] in (
            node_of x.0,
            node_of u,
            y.from,
            node_at us i x.0 x.3,
            node_at us j u at,
            contains_of (uses_of (node_of x.0)) y.from uses,
            is_module u.kind (ap (λ (s : Scope). s.kind) (sym first) ∙ kind),
            ap (λ (s : Scope). s.name.symbol) (sym first) ∙ sym named,
          )

      by : (i j e : ℕ) → Takes nodes i j → Sees j e → Sees i e
      by i j e takes (v, inl same, belongs) = (v, inr (Needs.at_once i v (subst (Takes nodes i) (sym same) takes)), belongs)
      by i j e takes (v, inr needs, belongs) = (v, inr (Needs.through i j v takes needs), belongs)

  -- in a unit
  pub unit_sees : (number symbol e : ℕ) → IsVisible scopes number symbol e → (i : ℕ) (u : UnitTree) → slice_get us i ≡ Some u → from i ≡ number → Sees i e
  unit_sees number symbol e (IsVisible.own number' symbol' e' own) i u at same =
      own_seen number' symbol' e' own i (u, 0, scope_of_unit u, at, refl, (let z : from i + 0 ≡ number' = omega (arith, same) in z))
  unit_sees number symbol e (IsVisible.around number' symbol' e' host hosted free inner) i u at same =
      let here : slice_get scopes number' ≡ Some (scope_of_unit u) = subst (λ k. slice_get scopes k ≡ Some (scope_of_unit u)) same (unit_at i u at) in
      let none : None ≡ Some host = ap host_in (sym here) ∙ hosted in
      absurd (let no : ⊥ = cc in no)

  -- in one of its procedures
  pub member_sees : (number symbol e : ℕ) → IsVisible scopes number symbol e → (i : ℕ) (u : UnitTree) → slice_get us i ≡ Some u
      → (p : ProcedureTree) → slice_get scopes number ≡ Some (scope_of_procedure (from i) p) → from i ≤ number → number < from (i + 1) → Sees i e
  member_sees number symbol e (IsVisible.own number' symbol' e' own) i u at p here low high =
      let end = next_from i u at in
      let r = unit_of number' 0 us (scope_of_procedure (from i) p) here in
      let own_unit : InUnit r.0 number' = (r.1, r.2, scope_of_procedure (from i) p, r.3, r.4, (let z = r.5 in omega (arith, z))) in
      let same : r.0 ≡ i = one_unit number' r.0 i own_unit low high in
      subst (λ n. Sees n e') same (own_seen number' symbol' e' own r.0 own_unit)
    where
      one_unit : (number i j : ℕ) → InUnit i number → from j ≤ number → number < from (j + 1) → i ≡ j
      one_unit number i j (u, q, s, at, in_unit, same) low high =
          let inside = slice_get_within (unit_scopes (from i) u) q s in_unit in
          let end = next_from i u at in
          elim (cases_order i j) [
            | inl e ↦ e
            | inr (inl less) ↦ absurd (let grows = start_grows (i + 1) j 0 us (omega (arith, less)) in omega (arith, grows, inside, end, same, low))
            | inr (inr more) ↦ absurd (let grows = start_grows (j + 1) i 0 us (omega (arith, more)) in omega (arith, grows, same, high))
          ]
  member_sees number symbol e (IsVisible.around number' symbol' e' host hosted free inner) i u at p here low high =
      let same : Some (from i) ≡ Some host = ap host_in (sym here) ∙ hosted in
      unit_sees host symbol' e' inner i u at (let e : from i ≡ host = cc in e)
