-- The breaks of a program are the same along each order of its units.
use Rattle.std.proofs.Common.{◌≡◌, refl, ℕ, zero, suc, ◌+◌, ◌<◌, ◌⊎◌, inl, inr, Bool, false, List, [], ◌∷◌, ◌++◌, map, length, Option, Some, ap, sym, subst, arith, slice_get, Contains}
use Rattle.std.specs.Prelude.{nat_eq}
use Rattle.std.specs.List.{flat_map}
use Rattle.std.specs.Map.{lookup}
use Rattle.std.proofs.lemmas.List.{length-append, length-map}
use Rattle.std.proofs.lemmas.Option.{slice_get_within}
use Rattle.f3_nodes.proofs.Members.{Has, has_of, contains_of, has_parts, has_left, has_right}
use Rattle.f3_places.specs.declared.source.Place.{Place}
use Rattle.f3_rules.specs.declared.breaks.Break.{Break}
use Rattle.f3_rules.specs.Least.{first_of}
use Rattle.f3_tree.specs.Tree.{UnitTree, Tree}
use Rattle.f3_scopes.specs.Outlines.{Scope}
use Rattle.f3_scopes.specs.Scopes.{declared_in, procedure_own, scope_of_unit, scope_of_procedure, unit_scopes}
use Rattle.f3_lookups.specs.declared.lookup.Lookup.{Lookup}
use Rattle.f3_access.specs.Access.{first_entity}
use Rattle.f3_graph.specs.Units.{node_of}
use Rattle.f3_graph.specs.Order.{IsOrderOf}
use Rattle.f3_kinds.specs.declared.types.Scalar.{Scalar}
use Rattle.f3_type_rules.specs.Members.{Member, Numbered, numbered, units_from}
use Rattle.f3_type_rules.specs.Scene.{Scene, names_of, scene_of, context_in, site_in}
use Rattle.f3_type_rules.specs.Definitions.{Site}
use Rattle.f3_type_rules.specs.Bodies.{block_breaks}
use Rattle.f3_type_rules.specs.Walks.{after, along, Known}
use Rattle.f3_type_rules.specs.Declarations.{spot_of, unit_rows, unit_next}
use Rattle.f3_type_rules.specs.Program.{unit_breaks, nothing_known, units_in, program_breaks}
use Rattle.f3_order_laws.specs.Laws.{AnswersVisible, OrdersAreAlike, PlacesDiffer}
use Rattle.f3_order_laws.specs.Places.{unit_places}
use Rattle.f3_order_laws.proofs.PlacedExpressions.{are_of, place_in}
use Rattle.f3_order_laws.proofs.PlacedUnits.{unit_at}
use Rattle.f3_order_laws.proofs.Expressions.{valued}
use Rattle.f3_order_laws.proofs.Declarations.{Alike, unit_same}
use Rattle.f3_order_laws.proofs.Entries.{Out, narrower, declared_by, unit_kept}
use Rattle.f3_order_laws.proofs.Walking.{Standing, ends_alike, rows_alike, firsts_one}
use Rattle.f3_order_laws.proofs.Orders.{Needs, stands, all_there}
use Rattle.f3_order_laws.proofs.Places.{numbered_at, numbered_of, first_more, first_grows}
use Rattle.f3_order_laws.proofs.Seen as seen

at_within : {X : Type 0} (xs : List X) (i : ℕ) → i < length xs → (x : X) × (slice_get xs i ≡ Some x)
at_within [] i lt = absurd (omega (arith, lt))
at_within (x ∷ xs) zero lt = (x, refl)
at_within (x ∷ xs) (suc i) lt = at_within xs i (omega (arith, lt))

-- the breaks of all blocks, with these values
module _ (s : Scene) (v : ℕ → Option Scalar) where
  abbrev site : (unit : ℕ) → (scope : ℕ) → Bool → Site
  site unit scope pure = record (site_in s unit scope pure []) { context = valued (context_in s unit scope 6 []) v }

  abbrev member_blocks : (unit : ℕ) → Member → List Break
  member_blocks unit m = block_breaks (site unit m.scope (spot_of s unit m).is_pure) (m.scope + 1) (m.tree).body

  abbrev unit_blocks : Numbered → List Break
  unit_blocks u = block_breaks (site u.scope u.scope false) (u.scope + 1) (u.tree).body ++ flat_map (member_blocks u.scope) u.members

  abbrev blocks : List Numbered → List Break
  blocks units = flat_map unit_blocks units

module _ (t : Tree) (look : ℕ → ℕ → Lookup) (visible : AnswersVisible (seen.scopes t.units) look) where
  abbrev pub us : List UnitTree
  us = t.units

  abbrev pub scopes : List Scope
  scopes = seen.scopes us

  abbrev from : ℕ → ℕ
  from = seen.from us

  abbrev pub units : List Numbered
  units = units_from scopes 0 us

  abbrev pub scene : Scene
  scene = scene_of (names_of t look) scopes units

  -- ---- a unit changes what is known of its own entities alone

  own_out : (i e : ℕ) (u : UnitTree) → slice_get us i ≡ Some u → (seen.Belongs us i e → ⊥)
      → Out (first_entity scopes (from i)) (first_entity scopes (from i) + length (flat_map declared_in (u.part).specifications)) e
  own_out i e u at out =
      let n = from i in
      let more = first_more scopes n (scope_of_unit u) (seen.unit_at us i u at) in
      let long = length-append (flat_map declared_in (u.part).specifications) (map procedure_own u.procedures) in
      let end = seen.next_from us i u at in
      let some = slice_get_within (unit_scopes n u) 0 (scope_of_unit u) refl in
      let grows = first_grows scopes (n + 1) (from (i + 1)) (omega (arith, end, some)) in
      narrower (first_entity scopes n) (first_entity scopes (from (i + 1))) (first_entity scopes n) (first_entity scopes n + length (flat_map declared_in (u.part).specifications)) e
      (omega arith) (omega (arith, more, long, grows)) (seen.outside us i e out)

  member_out : (i e : ℕ) (u : UnitTree) → slice_get us i ≡ Some u → (seen.Belongs us i e → ⊥) → (m : Member) → Has (numbered scopes (from i) u).members m
      → Out m.first (m.first + declared_by m) e
  member_out i e u at out m h =
      let placed = seen.member_at us i u at m h in
      let first = placed.1 in
      let low = first_grows scopes (from i) m.scope placed.2 in
      let high = first_grows scopes (m.scope + 1) (from (i + 1)) (let lt = placed.3 in omega (arith, lt)) in
      let more = first_more scopes m.scope (scope_of_procedure (from i) m.tree) placed.0 in
      narrower (first_entity scopes (from i)) (first_entity scopes (from (i + 1))) m.first (m.first + declared_by m) e
      (omega (arith, first, low)) (omega (arith, first, more, high)) (seen.outside us i e out)

  kept : (i : ℕ) (x : Numbered) → slice_get units i ≡ Some x → (e : ℕ) → (seen.Belongs us i e → ⊥) → (k : Known) → Alike (unit_next scene k x) k e
  kept i x at e out k =
      let r = numbered_of scopes i 0 us x at in
      subst (λ y. Alike (unit_next scene k y) k e) (sym r.2)
      (unit_kept scene e (numbered scopes (from i) r.0) (own_out i e r.0 r.1 out) (member_out i e r.0 r.1 out) k)

  -- ---- what it does hangs on what it sees

  abbrev AgreeOn : ℕ → Known → Known → Type 0
  AgreeOn i k j = (v e : ℕ) → (v ≡ i) ⊎ Needs (seen.nodes us) i v → seen.Belongs us v e → Alike k j e

  abbrev Same : ℕ → Known → Known → Numbered → Type 0
  Same i k j x = (unit_rows scene k x ≡ unit_rows scene j x) × ((e : ℕ) → seen.Belongs us i e → Alike (unit_next scene k x) (unit_next scene j x) e)

  same_numbered : (i : ℕ) (u : UnitTree) → slice_get us i ≡ Some u → (k j : Known) → AgreeOn i k j → Same i k j (numbered scopes (from i) u)
  same_numbered i u at k j agree =
      let r = unit_same (seen.Sees us i) scene (numbered scopes (from i) u)
      (λ symbol e h. seen.unit_sees us (from i) symbol e (visible (from i) symbol e h) i u at refl)
      (λ m has symbol e h. (let placed = seen.member_at us i u at m has in
      seen.member_sees us m.scope symbol e (visible m.scope symbol e h) i u at m.tree placed.0 placed.2 placed.3))
      k j (λ e s. agree s.0 e s.1 s.2) in
      (r.0, λ e b. (r.1).1 e (i, inl refl, b))

  same : (i : ℕ) (x : Numbered) → slice_get units i ≡ Some x → (k j : Known) → AgreeOn i k j → Same i k j x
  same i x at k j agree =
      let r = numbered_of scopes i 0 us x at in
      subst (Same i k j) (sym r.2) (same_numbered i r.0 r.1 k j agree)

  -- the breaks of all blocks, with the values that are known behind an order
  abbrev pub behind : List ℕ → List Break
  behind order = flat_map (unit_breaks scene (after (unit_next scene) nothing_known (units_in units order)).values) units

  -- ---- where the units break rules

  placed_in : (i : ℕ) (x : Numbered) → slice_get units i ≡ Some x → (k : Known) (b : Break) → Has (unit_rows scene k x) b
      → (u : UnitTree) × (slice_get us i ≡ Some u) × Contains (unit_places u) b.place
  placed_in i x at k b h =
      let r = numbered_of scopes i 0 us x at in
      let u = r.0 in
      let P : Place → Type 0 = λ p. Contains (unit_places u) p in
      let rows = unit_at P scene scopes (from i) u k (are_of P (unit_places u) (λ p m. contains_of (unit_places u) p m)) in
      (u, r.1, place_in P (unit_rows scene k (numbered scopes (from i) u)) b rows (subst (λ y. Has (unit_rows scene k y) b) r.2 h))

  apart_rows : PlacesDiffer t → (i v : ℕ) (x y : Numbered) (k j : Known) (b c : Break) → slice_get units i ≡ Some x → slice_get units v ≡ Some y
      → Has (unit_rows scene k x) b → Has (unit_rows scene j y) c → b.place ≡ c.place → i ≡ v
  apart_rows differ i v x y k j b c at_i at_v here there same_place =
      let a = placed_in i x at_i k b here in
      let z = placed_in v y at_v j c there in
      differ i v a.0 z.0 c.place a.1 z.1 (subst (λ p. Contains (unit_places a.0) p) same_place a.2) z.2

  -- ---- orders

  unit_there : (i : ℕ) → i < length (seen.nodes us) → (x : Numbered) × (slice_get units i ≡ Some x)
  unit_there i lt =
      let u = at_within us i (omega (arith, lt, length-map us node_of)) in
      (numbered scopes (from i) u.0, numbered_at scopes i 0 us u.0 u.1)

  module _ (o p : List ℕ) (one : IsOrderOf (seen.nodes us) o) (two : IsOrderOf (seen.nodes us) p) where
    abbrev first : List Numbered
    first = units_in units o

    abbrev second : List Numbered
    second = units_in units p

    first_stands : Standing units (Needs (seen.nodes us)) [] o first
    first_stands = stands (seen.nodes us) o one units unit_there

    second_stands : Standing units (Needs (seen.nodes us)) [] p second
    second_stands = stands (seen.nodes us) p two units unit_there

    abbrev end : List Numbered → Known
    end ordered = after (unit_next scene) nothing_known ordered

    known_alike : (e : ℕ) → Alike (end first) (end second) e
    known_alike =
        ends_alike units (unit_rows scene) (unit_next scene) (seen.Belongs us) (Needs (seen.nodes us)) (seen.decided us) (seen.apart us) kept same
        o p first second first_stands second_stands (all_there (seen.nodes us) p two o one) (all_there (seen.nodes us) o one p two)

    pub parts_alike : (b : Break) → Has (along (unit_rows scene) (unit_next scene) nothing_known first) b → Has (along (unit_rows scene) (unit_next scene) nothing_known second) b
    parts_alike =
        rows_alike units (unit_rows scene) (unit_next scene) (seen.Belongs us) (Needs (seen.nodes us)) (seen.decided us) (seen.apart us) kept same
        o p first second first_stands second_stands (all_there (seen.nodes us) p two o one) (all_there (seen.nodes us) o one p two)

    pub parts_one : PlacesDiffer t → (x y : Break) → first_of (along (unit_rows scene) (unit_next scene) nothing_known first) ≡ Some x
        → first_of (along (unit_rows scene) (unit_next scene) nothing_known second) ≡ Some y → x.place ≡ y.place → x ≡ y
    parts_one differ =
        firsts_one units (unit_rows scene) (unit_next scene) (seen.Belongs us) (Needs (seen.nodes us)) (seen.decided us) (seen.apart us) kept same
        o p first second first_stands second_stands (all_there (seen.nodes us) p two o one) (all_there (seen.nodes us) o one p two) (apart_rows differ)

    abbrev value_at : List Numbered → ℕ → Option Scalar
    value_at ordered e = lookup (nat_eq e) (end ordered).values

    values_alike : value_at first ≡ value_at second
    values_alike = λ n e. (known_alike e).0 n

    pub blocks_alike : flat_map (unit_breaks scene (end first).values) units ≡ flat_map (unit_breaks scene (end second).values) units
    blocks_alike = ap (λ (v : ℕ → Option Scalar). blocks scene v units) values_alike

    pub breaks_alike : (b : Break) → Contains (program_breaks t look o) b → Contains (program_breaks t look p) b
    breaks_alike b c =
        let xs = along (unit_rows scene) (unit_next scene) nothing_known first in
        let ys = along (unit_rows scene) (unit_next scene) nothing_known second in
        let zs = flat_map (unit_breaks scene (end first).values) units in
        let ws = flat_map (unit_breaks scene (end second).values) units in
        contains_of (program_breaks t look p) b
        (elim (has_parts xs zs b (has_of (program_breaks t look o) b c)) [
          | inl part ↦ has_left ys ws b (parts_alike b part)
          | inr block ↦ has_right ys ws b (subst (λ l. Has l b) blocks_alike block)
        ])

pub orders : OrdersAreAlike
orders t look o p visible one two = breaks_alike t look visible o p one two
