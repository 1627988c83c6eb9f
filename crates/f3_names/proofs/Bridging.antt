-- An order of units as an order of scopes.
use Rattle.std.proofs.Common.{◌≡◌, ◌≢◌, ℕ, zero, suc, ◌+◌, ◌<◌, ◌⊎◌, List, [], ◌∷◌, ◌++◌, Some, Contains, length, map, take, get_or, slice_get, refl, sym, ap, subst, ◌∙◌, inl, inr, arith}
use Rattle.std.specs.List.{All, flat_map}
use Rattle.std.proofs.lemmas.Bool.{cases_order}
use Rattle.std.proofs.lemmas.List.{length-map, take-map, get_or-map}
use Rattle.std.proofs.lemmas.Option.{slice_get_within, slice_get-map, get_or_from_slice_get}
use Rattle.f3_rules.specs.declared.breaks.Break.{Break}
use Rattle.f3_rules.specs.declared.rule.Rule.TheVariants.{U1}
use Rattle.f3_tree.specs.Declarations.{UseTree}
use Rattle.f3_tree.specs.Tree.{UnitTree, Tree}
use Rattle.f3_tree.specs.declared.program.UnitKind.{UnitKind}
use Rattle.f3_tree.specs.declared.program.UnitKind.TheVariants as unit
use Rattle.f3_scopes.specs.declared.outline.ScopeKind.TheVariants as scope
use Rattle.f3_scopes.specs.Outlines.{Scope, Using}
use Rattle.f3_scopes.specs.Scopes.{using, unit_kind, scope_of_unit, scopes_of}
use Rattle.f3_graph.specs.declared.UnitOrder.{UnitOrder}
use Rattle.f3_graph.specs.Units.{node_of, nodes_of, uses_of, used_in, used_in_procedure}
use Rattle.f3_graph.specs.Order.{numbers_of, IsOrderOf, IsOrder}
use Rattle.f3_graph.specs.Breaks.{at, UnitBreaks}
use Rattle.f3_access.specs.Access.{IsUnit, IsModule, IsUnitOrder, ModulesDiffer}
use Rattle.f3_graph.proofs.Members.{Has, has_of, contains_of, has_left, has_mapped, mapped_of}
use Rattle.f3_names.specs.Tables.{scope_numbers}
use Rattle.f3_names.specs.Inner.Making.{among_scopes}
use Rattle.f3_names.proofs.Units.{there, unit_at, unit_of, numbers_long, numbers_differ}

number_at : Tree → ℕ → ℕ
number_at t u = get_or (scope_numbers 0 t.units) u 0

nodes_long : (t : Tree) → length (nodes_of t) ≡ length t.units
nodes_long t = length-map t.units node_of

node_at : (t : Tree) (k : ℕ) (u : UnitTree) → slice_get t.units k ≡ Some u → slice_get (nodes_of t) k ≡ Some (node_of u)
node_at t k u h = slice_get-map node_of t.units k ∙ (rw h refl)

is_unit : (kind : UnitKind) → (unit_kind kind ≡ scope.Module) ⊎ (unit_kind kind ≡ scope.Program)
is_unit unit.Module = inl refl
is_unit unit.Program = inr refl

is_module : (kind : UnitKind) → unit_kind kind ≡ scope.Module → kind ≡ unit.Module
is_module unit.Module h = refl
is_module unit.Program h = cc

module _ (t : Tree) (xs : List ℕ) (order : IsOrderOf (nodes_of t) xs) where
  number_of : (k : ℕ) → k < length (among_scopes (scope_numbers 0 t.units) xs) → k < length xs
  number_of k lt = let e = length-map xs (λ u. get_or (scope_numbers 0 t.units) u 0) in omega (arith, lt, e)

  among_at : (k : ℕ) → k < length xs → get_or (among_scopes (scope_numbers 0 t.units) xs) k 0 ≡ number_at t (get_or xs k 0)
  unfolding number_at
  among_at k lt = get_or-map (λ u. get_or (scope_numbers 0 t.units) u 0) xs k 0 0 lt

  inside : (k : ℕ) → k < length xs → get_or xs k 0 < length t.units
  inside k lt = let within = order.within k lt in let long = nodes_long t in omega (arith, within, long)

  spot : (k : ℕ) → k < length xs → (u : UnitTree) × (slice_get t.units (get_or xs k 0) ≡ Some u) × (slice_get (scopes_of t) (get_or (among_scopes (scope_numbers 0 t.units) xs) k 0) ≡ Some (scope_of_unit u))
  unfolding number_at
  spot k lt =
      let (u, here) = there t.units (get_or xs k 0) (inside k lt) in
      let (p, number, scope_here) = unit_at 0 t.units (get_or xs k 0) u here in
      let e : p ≡ get_or (among_scopes (scope_numbers 0 t.units) xs) k 0 =
      (let read = get_or_from_slice_get (scope_numbers 0 t.units) (get_or xs k 0) (0 + p) 0 number in
      let moved = among_at k lt in
      omega (arith, read, moved)) in
      (u, here, subst (λ n. slice_get (scopes_of t) n ≡ Some (scope_of_unit u)) e scope_here)

  contains_number : (ys : List ℕ) (u n : ℕ) → Contains ys u → slice_get (scope_numbers 0 t.units) u ≡ Some n → Contains (among_scopes (scope_numbers 0 t.units) ys) n
  contains_number ys u n has here =
      let f = λ (v : ℕ). get_or (scope_numbers 0 t.units) v 0 in
      let e : f u ≡ n = get_or_from_slice_get (scope_numbers 0 t.units) u n 0 here in
      contains_of (map f ys) n (subst (Has (map f ys)) e (has_mapped f ys u (has_of ys u has)))

  is_within : (k : ℕ) → k < length (among_scopes (scope_numbers 0 t.units) xs) → (s : Scope) × (slice_get (scopes_of t) (get_or (among_scopes (scope_numbers 0 t.units) xs) k 0) ≡ Some s) × IsUnit s
  is_within k lt = let (u, here, found) = spot k (number_of k lt) in (scope_of_unit u, found, is_unit u.kind)

  is_once : (j k : ℕ) → j < k → k < length (among_scopes (scope_numbers 0 t.units) xs) → get_or (among_scopes (scope_numbers 0 t.units) xs) j 0 ≢ get_or (among_scopes (scope_numbers 0 t.units) xs) k 0
  unfolding number_at
  is_once j k less lt same =
      let in_k = number_of k lt in
      let in_j : j < length xs = omega (arith, less, in_k) in
      let a = get_or xs j 0 in
      let b = get_or xs k 0 in
      let equal : get_or (scope_numbers 0 t.units) a 0 ≡ get_or (scope_numbers 0 t.units) b 0 = sym (among_at j in_j) ∙ same ∙ among_at k in_k in
      let below : a < b → ⊥ = λ h. numbers_differ t.units a b (inside j in_j) (inside k in_k) h equal in
      let above : b < a → ⊥ = λ h. numbers_differ t.units b a (inside k in_k) (inside j in_j) h (sym equal) in
      elim (cases_order a b) [
        | inl e ↦ order.once j k less in_k e
        | inr (inl lt) ↦ below lt
        | inr (inr lt) ↦ above lt
      ]

  is_all : (number : ℕ) (s : Scope) → slice_get (scopes_of t) number ≡ Some s → IsUnit s → Contains (among_scopes (scope_numbers 0 t.units) xs) number
  is_all number s here is =
      let (k, u, at_k, same, found) = unit_of t number s here is in
      let within = slice_get_within t.units k u at_k in
      contains_number xs k number (order.all k (let long = nodes_long t in omega (arith, within, long))) found

  names_module : (s : Scope) (u : Using) (x : UnitTree) → s ≡ scope_of_unit x → Contains s.uses u → Contains (uses_of (node_of x)) u.from
  names_module s u x same has =
      let (v, has_v, e) = mapped_of using (x.part).uses u (has_of (map using (x.part).uses) u (subst (λ w. Contains w.uses u) same has)) in
      let named : Has (used_in x.part) u.from = subst (λ (w : Using). Has (used_in x.part) w.from) (sym e) (has_mapped (λ (w : UseTree). w.from) (x.part).uses v has_v) in
      contains_of (uses_of (node_of x)) u.from (has_left (used_in x.part) (flat_map used_in_procedure x.procedures) u.from named)

  is_after : (k : ℕ) (s : Scope) (u : Using) (m : ℕ) → k < length (among_scopes (scope_numbers 0 t.units) xs) → slice_get (scopes_of t) (get_or (among_scopes (scope_numbers 0 t.units) xs) k 0) ≡ Some s
      → Contains s.uses u → IsModule (scopes_of t) m u.from.symbol → Contains (take k (among_scopes (scope_numbers 0 t.units) xs)) m
  is_after k s u m lt here has (source, at_m, kind, name) =
      let in_k = number_of k lt in
      let (x, at_x, here_x) = spot k in_k in
      let same : s ≡ scope_of_unit x = cc in
      let (j, y, at_j, same_y, found) = unit_of t m source at_m (inl kind) in
      let is : y.kind ≡ unit.Module = is_module y.kind (subst (λ w. w.kind ≡ scope.Module) same_y kind) in
      let called : y.name.symbol ≡ u.from.symbol = subst (λ w. w.name.symbol ≡ u.from.symbol) same_y name in
      let before = order.after k (node_of x) u.from j (node_of y) in_k (node_at t (get_or xs k 0) x at_x) (names_module s u x same has) (node_at t j y at_j) is called in
      subst (λ l. Contains l m) (sym (take-map (λ (v : ℕ). get_or (scope_numbers 0 t.units) v 0) k xs)) (contains_number (take k xs) j m before found)

  pub unit_order : IsUnitOrder (scopes_of t) (among_scopes (scope_numbers 0 t.units) xs)
  unit_order = record { within = is_within; once = is_once; all = is_all; after = is_after }

pub fits : (t : Tree) (order : UnitOrder) → IsOrder t order → All (λ u. u.number < length (scope_numbers 0 t.units)) order.units.items
fits t order is k d lt =
    let numbers = numbers_of order in
    let in_k : k < length (numbers_of order) = (let e = length-map order.units.items (λ u. u.number) in omega (arith, lt, e)) in
    let within = is.within k in_k in
    let read = get_or-map (λ u. u.number) order.units.items k d 0 lt in
    let nodes = nodes_long t in
    let size = numbers_long 0 t.units in
    omega (arith, within, read, nodes, size)

-- what stands behind another
split_one : {X : Type 0} (xs : List X) (k : ℕ) (x : X) → slice_get xs k ≡ Some x → (front : List X) × (rest : List X) × (xs ≡ front ++ x ∷ rest)
split_one [] k x h = absurd (let past = slice_get_within [] k x h in omega arith)
split_one (y ∷ ys) zero x h = ([], ys, let same : y ≡ x = cc in ap (λ w. w ∷ ys) same)
split_one (y ∷ ys) (suc k) x h = let (front, rest, e) = split_one ys k x h in (y ∷ front, rest, ap (λ l. y ∷ l) e)

split_two : {X : Type 0} (xs : List X) (j k : ℕ) (x y : X) → j < k → slice_get xs j ≡ Some x → slice_get xs k ≡ Some y → (front : List X) × (rest : List X) × (xs ≡ front ++ y ∷ rest) × Has front x
split_two [] j k x y lt at_j at_k = absurd (let past = slice_get_within [] j x at_j in omega arith)
split_two (z ∷ zs) j zero x y lt at_j at_k = absurd (omega (arith, lt))
split_two (z ∷ zs) zero (suc k) x y lt at_j at_k =
    let (front, rest, e) = split_one zs k y at_k in
    (z ∷ front, rest, ap (λ l. z ∷ l) e, inl (let same : x ≡ z = cc in same))
split_two (z ∷ zs) (suc j) (suc k) x y lt at_j at_k =
    let (front, rest, e, has) = split_two zs j k x y (omega (arith, lt)) at_j at_k in
    (z ∷ front, rest, ap (λ l. z ∷ l) e, inr has)

twice : (t : Tree) (j k : ℕ) (x y : UnitTree) → j < k → slice_get t.units j ≡ Some x → slice_get t.units k ≡ Some y → x.name.symbol ≡ y.name.symbol → UnitBreaks t (at U1 y.name)
twice t j k x y lt at_j at_k same =
    let (front, rest, e, has) = split_two (nodes_of t) j k (node_of x) (node_of y) lt (node_at t j x at_j) (node_at t k y at_k) in
    UnitBreaks.name_twice (front, node_of y, rest, e, node_of x, contains_of front (node_of x) has, same, refl)

pub modules_differ : (t : Tree) → ((b : Break) → UnitBreaks t b → ⊥) → ModulesDiffer (scopes_of t)
modules_differ t none i j symbol (s, at_i, kind_s, name_s) (r, at_j, kind_r, name_r) =
    let (a, x, at_a, same_x, number_a) = unit_of t i s at_i (inl kind_s) in
    let (b, y, at_b, same_y, number_b) = unit_of t j r at_j (inl kind_r) in
    let called_x : x.name.symbol ≡ symbol = subst (λ w. w.name.symbol ≡ symbol) same_x name_s in
    let called_y : y.name.symbol ≡ symbol = subst (λ w. w.name.symbol ≡ symbol) same_y name_r in
    elim (cases_order a b) [
      | inl e ↦ (let one = subst (λ k. slice_get (scope_numbers 0 t.units) k ≡ Some i) e number_a in let same : i ≡ j = cc in same)
      | inr (inl lt) ↦ absurd (none (at U1 y.name) (twice t a b x y lt at_a at_b (called_x ∙ sym called_y)))
      | inr (inr lt) ↦ absurd (none (at U1 x.name) (twice t b a y x lt at_b at_a (called_y ∙ sym called_x)))
    ]
