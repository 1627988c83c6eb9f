-- Each entity of the elaboration's lists is found at its place.
use Rattle.std.proofs.Common.{◌≡◌, ℕ, zero, suc, ◌+◌, ◌<◌, ◌≤◌, Bool, true, false, cond, List, [], ◌∷◌, ◌++◌, length, map, position, nat_eq, Option, None, Some, option_map, refl, sym, ap, ◌∙◌, arith}
use Rattle.std.specs.Prelude.{slice_get, slice_index_or, not, ◌&&◌}
use Rattle.std.specs.List.{flat_map}
use Rattle.std.proofs.lemmas.Bool.{true≢false}
use Rattle.std.proofs.lemmas.List.{length-map}
use Rattle.std.proofs.lemmas.Option.{slice_get_within, slice_get-get_or}
use Rattle.f3_access.specs.Access.{first_entity}
use Rattle.f3_graph.specs.Order.{IsOrderOf}
use Rattle.f3_graph.specs.Units.{node_of, nodes_of}
use Rattle.f3_scopes.specs.Outlines.{Scope}
use Rattle.f3_scopes.specs.Scopes.{constructs_in_block, own_scopes, procedures_from, unit_scopes, scopes_of}
use Rattle.f3_tree.specs.Tree.{UnitTree, Tree}
use Rattle.f3_kinds.specs.Things.{map_or}
use Rattle.f3_type_rules.specs.Members.{Numbered, numbered, units_from}
use Rattle.f3_type_rules.specs.Program.{units_in}
use Rattle.f3_phase_laws.specs.Numbers.{units_of}
use Rattle.f3_elaboration.specs.Numbers.{Definition, definitions, unit_statics, is_variable, is_saved, is_in_header}
use Rattle.f3_lawful_laws.proofs.Facts.{nothing, same}
use Rattle.f3_lawful_laws.proofs.Opening.{from_mapped, mapped_at}
use Rattle.f3_lawful_laws.proofs.Positions.{eq_self, eq_same, position_cons}
use Rattle.f3_lawful_laws.proofs.Trees.{all_lie}
use Rattle.f3_lawful_laws.proofs.Ascending.{Ascends, position_at, units_ascend, entities_in}
use Rattle.f3_entity_laws.specs.Things.{of_unit, of_member, unit_in, Thing, type, IsAmong}
use Rattle.f3_entity_laws.specs.Laws.{AreFound, entities, StaticsAreFound, ProceduresAreFound, TypesAreFound, TypesAreNumbered, LocalsAreFound, MemberLocalsAreFound}
use Rattle.f3_entity_laws.proofs.Lists.{there, before, flat_at, flat_block}
use Rattle.f3_entity_laws.proofs.Names.{home_or, type_things}
use Rattle.f3_entity_laws.proofs.Spans.{spans_ascend, definitions_span, unit_kept, member_kept, statics_span, type_entity}
use Rattle.f3_entity_laws.proofs.Stands.{first_of}

ascending_found : (l : ℕ) (es : List ℕ) → Ascends l es → AreFound es
ascending_found l es up i e at = position_at l es i e up at

pub statics : StaticsAreFound
statics t ordered =
    let scopes : List Scope = scopes_of t in
    ascending_found (first_entity scopes 0) (entities (flat_map unit_statics (units_of t)))
    (spans_ascend (first_entity scopes 0) _ (entities (flat_map unit_statics (units_of t))) (statics_span scopes 0 t.units (all_lie scopes)))

pub procedures : ProceduresAreFound
procedures t ordered =
    let scopes : List Scope = scopes_of t in
    ascending_found (first_entity scopes 0) (entities_in (units_of t)) (units_ascend scopes 0 t.units (all_lie scopes))

pub locals : LocalsAreFound
locals t u among = ascending_found u.first _ (unit_kept (λ v. is_variable v && not (is_saved v)) u)

pub member_locals : MemberLocalsAreFound
member_locals t u m home =
    ascending_found (first_of (of_member u m)) _ (member_kept (λ v. is_variable v && (not (is_saved v) && not (is_in_header m v))) u m)

-- ---- lists in which each number stands once

-- what a list has is found at some place
found_some : (es : List ℕ) (i e : ℕ) → slice_get es i ≡ Some e → (k : ℕ) × (position (nat_eq e) es ≡ Some k) × (slice_get es k ≡ Some e)
found_some [] i e at = nothing at
found_some (x ∷ xs) i e at = by (nat_eq e x) refl (λ i at. found_some xs i e at)
  where
    step : (b : Bool) → nat_eq e x ≡ b → position (nat_eq e) (x ∷ xs) ≡ cond b (Some 0) (option_map suc (position (nat_eq e) xs))
    step b is = position_cons (nat_eq e) x xs ∙ ap (λ b. cond b (Some 0) (option_map suc (position (nat_eq e) xs))) is

    behind : nat_eq e x ≡ false → (i : ℕ) → slice_get (x ∷ xs) i ≡ Some e
        → ((i : ℕ) → slice_get xs i ≡ Some e → (k : ℕ) × (position (nat_eq e) xs ≡ Some k) × (slice_get xs k ≡ Some e))
        → (k : ℕ) × (position (nat_eq e) (x ∷ xs) ≡ Some k) × (slice_get (x ∷ xs) k ≡ Some e)
    behind is zero at rest = absurd (true≢false (sym (ap (nat_eq e) (same at) ∙ eq_self e) ∙ is))
    behind is (suc i) at rest = let r = rest i at in (suc r.0, step false is ∙ ap (option_map suc) r.1, r.2)

    by : (b : Bool) → nat_eq e x ≡ b → ((i : ℕ) → slice_get xs i ≡ Some e → (k : ℕ) × (position (nat_eq e) xs ≡ Some k) × (slice_get xs k ≡ Some e))
        → (k : ℕ) × (position (nat_eq e) (x ∷ xs) ≡ Some k) × (slice_get (x ∷ xs) k ≡ Some e)
    by true is rest = (0, step true is, ap Some (sym (eq_same e x is)))
    by false is rest = behind is i at rest

once_found : (es : List ℕ) → ((i j e : ℕ) → slice_get es i ≡ Some e → slice_get es j ≡ Some e → i ≡ j) → AreFound es
once_found es once i e at =
    let r = found_some es i e at in
    r.1 ∙ ap Some (once r.0 i e r.2 at)

one_place : (l : ℕ) (es : List ℕ) (i j e : ℕ) → Ascends l es → slice_get es i ≡ Some e → slice_get es j ≡ Some e → i ≡ j
one_place l es i j e up at there = same (sym (position_at l es i e up at) ∙ position_at l es j e up there)

-- ---- each unit stands once

unit_from : (scopes : List Scope) (n : ℕ) (us : List UnitTree) (i : ℕ) (u : Numbered) → slice_get (units_from scopes n us) i ≡ Some u → n ≤ u.scope
unit_from scopes n [] i u at = nothing at
unit_from scopes n (x ∷ us) zero u at = let a : n ≡ u.scope = ap (λ (z : Numbered). z.scope) (same at) in omega (arith, a)
unit_from scopes n (x ∷ us) (suc i) u at =
    let next : ℕ = n + length (unit_scopes n x) in
    let a : next ≤ u.scope = unit_from scopes next us i u at in
    omega (arith, a)

-- the scopes of a unit behind its own
abbrev unit_behind : ℕ → UnitTree → List Scope
unit_behind n x = constructs_in_block n x.name (n + 1) x.body ++ procedures_from n (n + length (own_scopes n x)) x.procedures

later : (scopes : List Scope) (n : ℕ) (x : UnitTree) (us : List UnitTree) (j : ℕ) (u : Numbered)
    → Some (numbered scopes n x) ≡ Some u → slice_get (units_from scopes (n + length (unit_scopes n x)) us) j ≡ Some u → ⊥
later scopes n x us j u at there =
    let a : n ≡ u.scope = ap (λ (z : Numbered). z.scope) (same at) in
    let b : n + length (unit_scopes n x) ≤ u.scope = unit_from scopes (n + length (unit_scopes n x)) us j u there in
    let c : n + suc (length (unit_behind n x)) ≡ n + length (unit_scopes n x) = refl in
    omega (arith, a, b, c)

units_long : (scopes : List Scope) (n : ℕ) (us : List UnitTree) → length (units_from scopes n us) ≡ length us
units_long scopes n [] = refl
units_long scopes n (x ∷ us) = ap suc (units_long scopes (n + length (unit_scopes n x)) us)

pub unit_once : (scopes : List Scope) (n : ℕ) (us : List UnitTree) (i j : ℕ) (u : Numbered)
    → slice_get (units_from scopes n us) i ≡ Some u → slice_get (units_from scopes n us) j ≡ Some u → i ≡ j
unit_once scopes n [] i j u at there = nothing at
unit_once scopes n (x ∷ us) zero zero u at there = refl
unit_once scopes n (x ∷ us) zero (suc j) u at there = absurd (later scopes n x us j u at there)
unit_once scopes n (x ∷ us) (suc i) zero u at there = absurd (later scopes n x us i u there at)
unit_once scopes n (x ∷ us) (suc i) (suc j) u at there = ap suc (unit_once scopes (n + length (unit_scopes n x)) us i j u at there)

-- ---- an order

abbrev unit_or : Numbered → Thing → Numbered
unit_or u g = unit_in (home_or (of_unit u) g)

index_of : (xs : List ℕ) (k x : ℕ) → slice_get xs k ≡ Some x → slice_index_or xs k 0 ≡ x
index_of [] k x at = nothing at
index_of (y ∷ ys) zero x at = same at
index_of (y ∷ ys) (suc k) x at = index_of ys k x at

abbrev pick : List Numbered → ℕ → List Numbered
pick units i = map_or [] (λ (u : Numbered). u ∷ []) (slice_get units i)

picked : (o : Option Numbered) (j : ℕ) (u : Numbered) → slice_get (map_or [] (λ (u : Numbered). u ∷ []) o) j ≡ Some u → (o ≡ Some u) × (j ≡ 0)
picked None j u at = nothing at
picked (Some v) zero u at = (at, refl)
picked (Some v) (suc j) u at = nothing at

module _ (t : Tree) (order : List ℕ) (is : IsOrderOf (nodes_of t) order) where
  order_once : (j k i : ℕ) → slice_get order j ≡ Some i → slice_get order k ≡ Some i → j ≡ k
  order_once j k i at there =
      let one : j < k → ⊥ = λ lt. is.once j k lt (slice_get_within order k i there) (index_of order j i at ∙ sym (index_of order k i there)) in
      let two : k < j → ⊥ = λ lt. is.once k j lt (slice_get_within order j i at) (index_of order k i there ∙ sym (index_of order j i at)) in
      omega (arith, one, two)

  pub ordered_once : (a b : ℕ) (u : Numbered) → slice_get (units_in (units_of t) order) a ≡ Some u → slice_get (units_in (units_of t) order) b ≡ Some u → a ≡ b
  ordered_once a b u at there =
      let f = flat_at (pick (units_of t)) order a u at in
      let g = flat_at (pick (units_of t)) order b u there in
      let p = picked (slice_get (units_of t) f.1) f.2 u f.4 in
      let q = picked (slice_get (units_of t) g.1) g.2 u g.4 in
      let unit : f.1 ≡ g.1 = unit_once (scopes_of t) 0 t.units f.1 g.1 u p.0 q.0 in
      let place : f.0 ≡ g.0 = order_once f.0 g.0 g.1 (f.3 ∙ ap Some unit) g.3 in
      let alike : before (pick (units_of t)) f.0 order ≡ before (pick (units_of t)) g.0 order = ap (λ k. before (pick (units_of t)) k order) place in
      let one : f.2 ≡ 0 = p.1 in
      let two : g.2 ≡ 0 = q.1 in
      let three : a ≡ before (pick (units_of t)) f.0 order + f.2 = f.5 in
      let four : b ≡ before (pick (units_of t)) g.0 order + g.2 = g.5 in
      omega (arith, alike, one, two, three, four)

  pub ordered_unit : (a : ℕ) (u : Numbered) → slice_get (units_in (units_of t) order) a ≡ Some u → IsAmong (units_of t) u
  ordered_unit a u at =
      let f = flat_at (pick (units_of t)) order a u at in
      (f.1, (picked (slice_get (units_of t) f.1) f.2 u f.4).0)

  pub unit_ordered : (u : Numbered) → IsAmong (units_of t) u → IsAmong (units_in (units_of t) order) u
  unit_ordered u among =
      let lt = slice_get_within (units_of t) among.0 u among.1 in
      let long = units_long (scopes_of t) 0 t.units in
      let made = length-map t.units node_of in
      let c = is.all among.0 (omega (arith, lt, long, made)) in
      let at : slice_get order c.0 ≡ Some among.0 = slice_get-get_or order c.0 among.0 c.1 ∙ ap Some c.2 in (
        before (pick (units_of t)) c.0 order + 0,
        flat_block (pick (units_of t)) order c.0 among.0 0 u at (ap (λ o. slice_get (map_or [] (λ (u : Numbered). u ∷ []) o) 0) among.1),
      )

  -- ---- types

  type_once : (i j e : ℕ) → slice_get (map type_entity (flat_map definitions (units_in (units_of t) order))) i ≡ Some e
      → slice_get (map type_entity (flat_map definitions (units_in (units_of t) order))) j ≡ Some e → i ≡ j
  type_once i j e at there =
      let units : List Numbered = units_in (units_of t) order in
      let a = from_mapped type_entity (flat_map definitions units) i e at in
      let b = from_mapped type_entity (flat_map definitions units) j e there in
      let f = flat_at definitions units i a.0 a.1 in
      let g = flat_at definitions units j b.0 b.1 in
      let p = type_things t f.1 a.0 (ordered_unit f.0 f.1 f.3) (f.2, f.4) in
      let q = type_things t g.1 b.0 (ordered_unit g.0 g.1 g.3) (g.2, g.4) in
      let things : type (of_unit f.1) (a.0).tree ≡ type (of_unit g.1) (b.0).tree = same (sym p.1 ∙ ap (slice_get _) (a.2 ∙ sym b.2) ∙ q.1) in
      let unit : f.1 ≡ g.1 = ap (unit_or f.1) things in
      let place : f.0 ≡ g.0 = ordered_once f.0 g.0 g.1 (f.3 ∙ ap Some unit) g.3 in
      let first : slice_get (map type_entity (definitions g.1)) f.2 ≡ Some e =
      ap (λ z. slice_get (map type_entity (definitions z)) f.2) (sym unit) ∙ mapped_at type_entity (definitions f.1) f.2 a.0 f.4 ∙ ap Some a.2 in
      let second : slice_get (map type_entity (definitions g.1)) g.2 ≡ Some e = mapped_at type_entity (definitions g.1) g.2 b.0 g.4 ∙ ap Some b.2 in
      let inner : f.2 ≡ g.2 =
      one_place (g.1).first (map type_entity (definitions g.1)) f.2 g.2 e (spans_ascend (g.1).first _ (map type_entity (definitions g.1)) (definitions_span g.1)) first second in
      let alike : before definitions f.0 units ≡ before definitions g.0 units = ap (λ k. before definitions k units) place in
      let three : i ≡ before definitions f.0 units + f.2 = f.5 in
      let four : j ≡ before definitions g.0 units + g.2 = g.5 in
      omega (arith, alike, inner, three, four)

  type_numbered : (u : Numbered) (d : Definition) → IsAmong (units_of t) u → IsAmong (definitions u) d → IsAmong (flat_map definitions (units_in (units_of t) order)) d
  type_numbered u d among own =
      let o = unit_ordered u among in
      (before definitions o.0 (units_in (units_of t) order) + own.0, flat_block definitions (units_in (units_of t) order) o.0 u own.0 d o.1 own.1)

pub types : TypesAreFound
types t order is = once_found (map type_entity (flat_map definitions (units_in (units_of t) order))) (type_once t order is)

pub all_types : TypesAreNumbered
all_types t order u d is among own = type_numbered t order is u d among own
