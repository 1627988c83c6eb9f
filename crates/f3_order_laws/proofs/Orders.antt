-- In an order of the units each stands behind all modules that it takes, directly or by others.
use Rattle.std.proofs.Common.{◌≡◌, ℕ, suc, ◌+◌, ◌<◌, inl, inr, List, [], ◌∷◌, ◌++◌, length, take, get_or, Option, Some, ap, ◌∙◌, sym, subst, arith, slice_get, Contains}
use Rattle.std.proofs.lemmas.Bool.{cases_lt}
use Rattle.std.proofs.lemmas.List.{get_or-take, length-take, get_or_default}
use Rattle.std.proofs.lemmas.Option.{slice_get_within, get_or_from_slice_get}
use Rattle.f3_nodes.proofs.Members.{Has, has_of, has_at}
use Rattle.f3_tree.specs.declared.expression.Name.{Name}
use Rattle.f3_tree.specs.declared.program.UnitKind.TheVariants.{Module}
use Rattle.f3_graph.specs.Units.{Node, uses_of}
use Rattle.f3_graph.specs.Order.{IsOrderOf}
use Rattle.f3_kinds.specs.Things.{map_or}
use Rattle.f3_type_rules.specs.Members.{Numbered}
use Rattle.f3_type_rules.specs.Program.{units_in}
use Rattle.f3_order_laws.proofs.Walking.{Standing}

-- a USE in the unit of the first number names the module of the second
abbrev pub Takes : List Node → ℕ → ℕ → Type 0
Takes nodes i v =
    (unit : Node) × (source : Node) × (x : Name) × (slice_get nodes i ≡ Some unit) × (slice_get nodes v ≡ Some source)
    × Contains (uses_of unit) x × (source.kind ≡ Module) × (source.name.symbol ≡ x.symbol)

-- by one USE or several
pub data Needs (nodes : List Node) : ℕ → ℕ → Type 0 where
  at_once : (i v : ℕ) → Takes nodes i v → Needs nodes i v
  through : (i w v : ℕ) → Takes nodes i w → Needs nodes w v → Needs nodes i v

-- among the first so many of an order
abbrev Early : List ℕ → ℕ → ℕ → Type 0
Early order k v = (j : ℕ) × (j < k) × (j < length order) × (get_or order j 0 ≡ v)

early_of : (order : List ℕ) (k v : ℕ) → Contains (take k order) v → Early order k v
early_of order k v c =
    let below : c.0 < k = omega (arith, c.1, length-take k order) in
    let within : c.0 < length order = omega (arith, c.1, length-take k order) in
    (c.0, below, within, get_or_default order c.0 0 v within ∙ sym (get_or-take k order c.0 v below) ∙ c.2)

module _ (nodes : List Node) (order : List ℕ) (is : IsOrderOf nodes order) where
  takes_early : (k i v : ℕ) → k < length order → get_or order k 0 ≡ i → Takes nodes i v → Early order k v
  takes_early k i v lt here (unit, source, x, at_i, at_v, used, kind, name) =
      early_of order k v (is.after k unit x v source lt (subst (λ n. slice_get nodes n ≡ Some unit) (sym here) at_i) used at_v kind name)

  needs_early : (k i v : ℕ) → k < length order → get_or order k 0 ≡ i → Needs nodes i v → Early order k v
  needs_early k i v lt here (Needs.at_once i' v' t) = takes_early k i' v' lt here t
  needs_early k i v lt here (Needs.through i' w v' t n) =
      let first = takes_early k i' w lt here t in
      let then = needs_early first.0 w v' first.2 first.3 n in
      (then.0, (let a = first.1 in let b = then.1 in omega (arith, a, b)), then.2, then.3)

  module _ (units : List Numbered) (numbered : (i : ℕ) → i < length nodes → (u : Numbered) × (slice_get units i ≡ Some u)) where
    first_unit : (i : ℕ) (rest : List ℕ) (u : Numbered) → slice_get units i ≡ Some u → u ∷ units_in units rest ≡ units_in units (i ∷ rest)
    first_unit i rest u at = ap (λ (o : Option Numbered). map_or [] (λ (x : Numbered). x ∷ []) o ++ units_in units rest) (sym at)

    stands_from : (rest : List ℕ) (k : ℕ) (done : List ℕ) → ((j : ℕ) → slice_get rest j ≡ slice_get order (k + j))
        → ((v : ℕ) → Early order k v → Has done v) → ((v : ℕ) → Has done v → Early order k v) → Standing units (Needs nodes) done rest (units_in units rest)
    stands_from [] k done same to from = tt
    stands_from (i ∷ rest) k done same to from =
        let at_k : slice_get order k ≡ Some i = ap (slice_get order) (let e : k ≡ k + 0 = omega arith in e) ∙ sym (same 0) in
        let lt : k < length order = slice_get_within order k i at_k in
        let here : get_or order k 0 ≡ i = get_or_from_slice_get order k i 0 at_k in
        let u = numbered i (subst (λ n. n < length nodes) here (is.within k lt)) in
        let new : Has done i → ⊥ = λ h. (let e = from i h in is.once e.0 k e.1 lt (e.3 ∙ sym here)) in
        let behind : (v : ℕ) → Needs nodes i v → Has done v = λ v n. to v (needs_early k i v lt here n) in
        let later = stands_from rest (k + 1) (i ∷ done)
        (λ j. same (suc j) ∙ ap (slice_get order) (let e : k + suc j ≡ (k + 1) + j = omega arith in e))
        (λ v e. more_done k done i v here to e) (λ v h. more_early k done i v lt here from h) in
        subst (Standing units (Needs nodes) done (i ∷ rest)) (first_unit i rest u.0 u.1) (u.1, new, behind, later)
      where
        more_done : (k : ℕ) (done : List ℕ) (i v : ℕ) → get_or order k 0 ≡ i → ((w : ℕ) → Early order k w → Has done w) → Early order (k + 1) v → Has (i ∷ done) v
        more_done k done i v here to (j, below, within, at) = elim (cases_lt j k) [
          | inl less ↦ inr (to v (j, less, within, at))
          | inr least ↦ inl (sym at ∙ ap (λ n. get_or order n 0) (let e : j ≡ k = omega (arith, below, least) in e) ∙ here)
        ]

        more_early : (k : ℕ) (done : List ℕ) (i v : ℕ) → k < length order → get_or order k 0 ≡ i → ((w : ℕ) → Has done w → Early order k w) → Has (i ∷ done) v → Early order (k + 1) v
        more_early k done i v lt here from (inl e) = (k, omega arith, lt, here ∙ sym e)
        more_early k done i v lt here from (inr h) = let r = from v h in (r.0, (let a = r.1 in omega (arith, a)), r.2, r.3)

    pub stands : Standing units (Needs nodes) [] order (units_in units order)
    stands =
        stands_from order 0 [] (λ j. ap (slice_get order) (let e : j ≡ 0 + j = omega arith in e))
        (λ v e. absurd (let a = e.1 in omega (arith, a))) (λ v h. absurd h)

  pub all_there : (other : List ℕ) → IsOrderOf nodes other → (i : ℕ) → Has other i → Has order i
  all_there other its i h = has_of order i (is.all i (among other its i h))
    where
      among : (other : List ℕ) → IsOrderOf nodes other → (i : ℕ) → Has other i → i < length nodes
      among other its i h =
          let c = has_at other i h in
          subst (λ n. n < length nodes) (get_or_from_slice_get other c.0 i 0 c.1) (its.within c.0 (slice_get_within other c.0 i c.1))
