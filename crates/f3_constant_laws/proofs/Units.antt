-- In what breaks no rule each value of a named constant that is known at a declaration is the one that is known behind all units.
use Rattle.std.proofs.Common.{◌≡◌, ℕ, zero, suc, ◌+◌, ◌<◌, ◌≤◌, inl, inr, List, [], ◌∷◌, map, length, Some, refl, sym, ap, ◌∙◌, arith}
use Rattle.std.specs.Prelude.{nat_eq, slice_get}
use Rattle.std.specs.List.{flat_map}
use Rattle.std.specs.Map.{lookup}
use Rattle.std.proofs.lemmas.List.{length-map, length-append}
use Rattle.std.proofs.lemmas.Option.{slice_get_within}
use mathlib.Core.Path.{subst}
use Rattle.f3_lookups.specs.declared.lookup.Lookup.{Lookup}
use Rattle.f3_access.specs.Access.{first_entity}
use Rattle.f3_graph.specs.Units.{node_of, nodes_of}
use Rattle.f3_nodes.proofs.Members.{Has}
use Rattle.f3_scopes.specs.Outlines.{Scope}
use Rattle.f3_scopes.specs.Scopes.{declared_in, procedure_own, scope_of_unit, scope_of_procedure, unit_scopes}
use Rattle.f3_tree.specs.Declarations.{SpecificationTree}
use Rattle.f3_tree.specs.Tree.{ProcedureTree, UnitTree, Tree}
use Rattle.f3_kinds.specs.declared.types.Scalar.{Scalar}
use Rattle.f3_meaning_whole.specs.Permitted.{Each}
use Rattle.f3_type_rules.specs.Associates.{constructs_of_block}
use Rattle.f3_type_rules.specs.Declarations.{unit_spot, within_unit, behind_part, unit_rows, unit_next, specification_rows, specification_next}
use Rattle.f3_type_rules.specs.Members.{Member, Numbered, members_from, numbered}
use Rattle.f3_type_rules.specs.Program.{nothing_known, program_breaks, units_in}
use Rattle.f3_type_rules.specs.Walks.{after, along, Known}
use Rattle.f3_elaboration.specs.Declarations.{Whole}
use Rattle.f3_lawful_laws.specs.Entities.{units_of, whole_of}
use Rattle.f3_lawful_laws.proofs.Facts.{nothing, first, second}
use Rattle.f3_formed_laws.proofs.Facts.{each_so}
use Rattle.f3_order_laws.proofs.Orders.{Needs, stands}
use Rattle.f3_order_laws.proofs.Places.{IsPlaced, start, first_more, first_grows, numbered_at, numbered_of}
use Rattle.f3_order_laws.proofs.Seen as seen
use Rattle.f3_order_laws.proofs.Walking.{Standing}
use Rattle.f3_entity_laws.specs.Things.{IsAmong}
use Rattle.f3_agreement_laws.specs.Unbroken.{IsUnbroken}
use Rattle.f3_agreement_laws.proofs.Declared.{each_get}
use Rattle.f3_agreement_laws.proofs.Free.{nil_of}
use Rattle.f3_kind_laws.proofs.Ordered.{ordered as all_ordered}
use Rattle.f3_constant_laws.specs.Kept.{Keeps, UnitKept}
use Rattle.f3_constant_laws.specs.Laws.{known_behind}
use Rattle.f3_constant_laws.proofs.Keeping.{keeps_on, Ascends, ends_at, PartKept, part_kept, MembersKept, members_kept}

there : {X : Type 0} (xs : List X) (i : ℕ) → i < length xs → (x : X) × (slice_get xs i ≡ Some x)
there [] i lt = absurd (omega (arith, lt))
there (x ∷ xs) zero lt = (x, refl)
there (x ∷ xs) (suc i) lt = there xs i (omega (arith, lt))

module _ (t : Tree) (look : ℕ → ℕ → Lookup) (order : List ℕ) where
  abbrev w : Whole
  w = whole_of t look order

  abbrev scopes : List Scope
  scopes = seen.scopes t.units

  abbrev from : ℕ → ℕ
  from = seen.from t.units

  abbrev low : ℕ → ℕ
  low i = first_entity scopes (from i)

  abbrev high : ℕ → ℕ
  high i = first_entity scopes (from (i + 1))

  -- what belongs to a unit that is done
  abbrev Old : List ℕ → ℕ → Type 0
  Old done e = (j : ℕ) × Has done j × seen.Belongs t.units j e

  apart : (done : List ℕ) (i : ℕ) → (Has done i → ⊥) → (e : ℕ) → Old done e → low i ≤ e → e < high i → ⊥
  apart done i new e (j, h, b) l u = new (subst (Has done) (seen.apart t.units j i e b (l, u)) h)

  -- all values that are known are of what belongs to units that are done
  abbrev Fresh : List ℕ → Known → Type 0
  Fresh done k = (e : ℕ) (v : Scalar) → lookup (nat_eq e) k.values ≡ Some v → Old done e

  -- ---- the numbers of a unit

  module _ (i : ℕ) (u : UnitTree) (at : slice_get t.units i ≡ Some u) where
    abbrev here : Numbered
    here = numbered scopes (from i) u

    abbrev own : List SpecificationTree
    own = (u.part).specifications

    -- behind its own scope
    next_scope : low i + length (flat_map declared_in own) ≤ first_entity scopes (from i + 1)
    next_scope =
        let more = first_more scopes (from i) (scope_of_unit u) (seen.unit_at t.units i u at) in
        let long = length-append (flat_map declared_in own) (map procedure_own u.procedures) in
        omega (arith, more, long)

    scope_within : first_entity scopes (from i + 1) ≤ high i
    scope_within =
        let end = seen.next_from t.units i u at in
        let some = slice_get_within (unit_scopes (from i) u) 0 (scope_of_unit u) refl in
        first_grows scopes (from i + 1) (from (i + 1)) (omega (arith, end, some))

    own_within : low i + length (flat_map declared_in own) ≤ high i
    own_within = let a = next_scope in let b = scope_within in omega (arith, a, b)

    module _ (Others : ℕ → Type 0) (new : (e : ℕ) → Others e → low i ≤ e → e < high i → ⊥) where
      members_ascend : (lo e n : ℕ) (ps : List ProcedureTree) → lo ≤ first_entity scopes n
          → ((m : Member) → Has (members_from scopes e n ps) m → IsPlaced scopes (from i) (from i) (from (i + 1)) m)
          → Ascends Others (low i) (high i) new lo (members_from scopes e n ps)
      members_ascend lo e n [] le placed = tt
      members_ascend lo e n (p ∷ ps) le placed =
          let m : Member = record { entity = e; scope = n; first = first_entity scopes n; tree = p } in
          let one = placed m (inl refl) in
          let more = first_more scopes n (scope_of_procedure (from i) p) one.0 in
          let lt = one.3 in
          let grows = first_grows scopes (n + 1) (from (i + 1)) (omega (arith, lt)) in
          let later = first_grows scopes (n + 1) (n + 1 + length (constructs_of_block p.body)) (omega arith) in (
            le,
            omega (arith, more, grows),
            members_ascend (ends_at Others (low i) (high i) new m) (e + 1) (n + 1 + length (constructs_of_block p.body)) ps (omega (arith, more, later))
                (λ x h. placed x (inr h)),
          )

      ascends : Ascends Others (low i) (high i) new (low i + length (flat_map declared_in own)) here.members
      ascends =
          let n = from i + 1 + length (constructs_of_block u.body) in
          let a = next_scope in
          let grows = first_grows scopes (from i + 1) n (omega arith) in
          members_ascend (low i + length (flat_map declared_in own)) (low i + length (flat_map declared_in own)) n u.procedures (omega (arith, a, grows))
          (seen.member_at t.units i u at)

  -- ---- one unit

  record Stepped (done : List ℕ) (i : ℕ) (k : Known) (u : Numbered) : Type 0 where
    keeps : Keeps k (unit_next w.scene k u)
    fresh : Fresh (i ∷ done) (unit_next w.scene k u)
    kept : (end : Known) → Keeps (unit_next w.scene k u) end → UnitKept w.scene end u

  stepped : (done : List ℕ) (i : ℕ) (u : UnitTree) → slice_get t.units i ≡ Some u → (Has done i → ⊥) → (k : Known) → Fresh done k
      → unit_rows w.scene k (numbered scopes (from i) u) ≡ [] → Stepped done i k (numbered scopes (from i) u)
  stepped done i u at new k fresh none =
      let x : Numbered = here i u at in
      let part : PartKept (Old done) (low i) (high i) (apart done i new) (unit_spot w.scene x) x.members (within_unit x k) (own i u at) =
      part_kept (Old done) (low i) (high i) (apart done i new) (unit_spot w.scene x) x.members (within_unit x k) (own i u at) (omega arith) (own_within i u at)
      (λ e v h. inl (fresh e v h)) (first _ _ none) in
      let inner : MembersKept (Old done) (low i) (high i) (apart done i new) w.scene x.scope (behind_part w.scene x k) x.members =
      members_kept (Old done) (low i) (high i) (apart done i new) w.scene x.scope (low i + length (flat_map declared_in (own i u at))) (behind_part w.scene x k) x.members
      (omega arith) (own_within i u at) (ascends i u at (Old done) (apart done i new)) part.below
      (second (along (specification_rows (unit_spot w.scene x) x.members) (specification_next (unit_spot w.scene x)) (within_unit x k) (own i u at)) _ none) in
      record {
        keeps = λ e v h. inner.keeps e v (part.keeps e v h);
        fresh = λ e v h. elim (inner.below e v h) [ inl (j, d, b) ↦ (j, inr d, b) | inr b ↦ (i, inl refl, b) ];
        kept = λ end h. (part.kept end (keeps_on (behind_part w.scene x k) (unit_next w.scene k x) end inner.keeps h), inner.kept end h);
      }

  -- ---- all units

  record AllKept (k : Known) (us : List Numbered) : Type 0 where
    keeps : Keeps k (after (unit_next w.scene) k us)
    kept : (end : Known) → Keeps (after (unit_next w.scene) k us) end → Each (UnitKept w.scene end) us

  all_kept : (done is : List ℕ) (us : List Numbered) → Standing (units_of t) (Needs (nodes_of t)) done is us → (k : Known) → Fresh done k
      → along (unit_rows w.scene) (unit_next w.scene) k us ≡ [] → AllKept k us
  all_kept done [] [] st k fresh none = record { keeps = λ e v h. h; kept = λ end h. tt }
  all_kept done [] (x ∷ us) st k fresh none = absurd st
  all_kept done (i ∷ is) [] st k fresh none = absurd st
  all_kept done (i ∷ is) (x ∷ us) st k fresh none =
      let r = numbered_of scopes i 0 t.units x st.0 in
      let one : Stepped done i k x =
      subst (Stepped done i k) (sym r.2)
      (stepped done i r.0 r.1 st.1 k fresh (ap (unit_rows w.scene k) (sym r.2) ∙ first (unit_rows w.scene k x) _ none)) in
      let rest : AllKept (unit_next w.scene k x) us = all_kept (i ∷ done) is us st.3 (unit_next w.scene k x) one.fresh (second (unit_rows w.scene k x) _ none) in
      record {
        keeps = λ e v h. rest.keeps e v (one.keeps e v h);
        kept = λ end h. (one.kept end (keeps_on (unit_next w.scene k x) (after (unit_next w.scene) (unit_next w.scene k x) us) end rest.keeps h), rest.kept end h);
      }

  module _ (free : IsUnbroken t look order) where
    abbrev pub ordered : List Numbered
    ordered = units_in (units_of t) order

    abbrev pub final : Known
    final = known_behind t look order

    numbers : (i : ℕ) → i < length (nodes_of t) → (u : Numbered) × (slice_get (units_of t) i ≡ Some u)
    numbers i lt =
        let long = length-map t.units node_of in
        let u = there t.units i (omega (arith, lt, long)) in
        (numbered scopes (start i 0 t.units) u.0, numbered_at scopes i 0 t.units u.0 u.1)

    pub ordered_kept : Each (UnitKept w.scene final) ordered
    ordered_kept =
        let all : AllKept nothing_known ordered =
        all_kept [] order ordered (stands (nodes_of t) order free.ordered (units_of t) numbers) nothing_known (λ e v h. nothing h)
        (first _ _ (nil_of (program_breaks t look order) free.types)) in
        all.kept final (λ e v h. h)

    pub units_kept : Each (UnitKept w.scene final) (units_of t)
    units_kept =
        each_so (IsAmong ordered) (UnitKept w.scene final) (λ u at. each_get (UnitKept w.scene final) ordered at.0 u ordered_kept at.1) (units_of t)
        (all_ordered t order free.ordered)
