-- An object of ALLOCATE or DEALLOCATE that breaks no rule breaks none without what stands behind its last part.
use Rattle.std.proofs.Common.{◌≡◌, Bool, true, false, ◌&&◌, ◌||◌, not, List, [], ◌∷◌, ◌++◌, Option, Some, None, refl, sym, ap, ◌∙◌, if◌then◌else◌}
use Rattle.std.specs.Prelude.{⊤, ◌==◌}
use mathlib.Core.Path.{subst}
use Rattle.f3_rules.specs.declared.breaks.Break.{Break}
use Rattle.f3_rules.specs.declared.rule.Rule.TheVariants.{T7, T9}
use Rattle.f3_tree.specs.declared.expression.Name.{Name}
use Rattle.f3_kinds.specs.declared.types.Object.{Object}
use Rattle.f3_kinds.specs.declared.said.Given.{Given}
use Rattle.f3_kinds.specs.declared.said.Reach.{Reach}
use Rattle.f3_kinds.specs.declared.said.Role.{Role}
use Rattle.f3_kinds.specs.declared.said.Role.TheVariants as role
use Rattle.f3_kinds.specs.declared.things.Component.{Component}
use Rattle.f3_kinds.specs.Things.{Context}
use Rattle.f3_kinds.specs.Rows.{is_known, unless, at_place, at_name}
use Rattle.f3_kinds.specs.Designators.{Part, step_selected, step_selected_rows, step, step_rows, along, along_rows, is_allocation, are_typed}
use Rattle.f3_kinds.specs.Designators.{start, enter, enter_rows, parts_typed, role_fits, reach_rows, object_rows, rank_left}
use Rattle.f3_lawful_laws.specs.Agreement.{Knows}
use Rattle.f3_lawful_laws.proofs.Facts.{no, first, second, left, right}
use Rattle.f3_lawful_laws.proofs.Designating.{Enters, enters, entered, Selects, selects, component_known}
use Rattle.f3_lawful_laws.proofs.Reaching.{role_holds}

-- the parts without what stands behind the last
abbrev pub bare_last : List Part → List Part
bare_last [] = []
bare_last (y ∷ []) = (y.0, None) ∷ []
bare_last (y ∷ z ∷ ps) = y ∷ bare_last (z ∷ ps)

abbrev pub IsHeap : Role → Type 0
IsHeap role.Allocated = ⊤
IsHeap role.Deallocated = ⊤
IsHeap role.Expression = ⊥
IsHeap role.Variable = ⊥

never_bounds : (u : Role) → (is_allocation u && false) ≡ false
never_bounds role.Allocated = refl
never_bounds role.Deallocated = refl
never_bounds role.Expression = refl
never_bounds role.Variable = refl

nil_from : (a : Bool) (x y : List Break) → a ≡ false → y ≡ [] → (if a then x else y) ≡ []
nil_from true x y e f = no e
nil_from false x y e f = f

-- where neither parts with a rank offend nor the role is broken, the bare part does not offend
bare_right : (m : Name) (r : Reach) (o : Object) (b : Option (List Given)) (bounds : Bool) → (rank_left bounds o b ≡ rank_left false o None)
    → not (entered bounds r o b).offends ≡ true → reach_rows role.Expression m (enter false r o None) ≡ []
bare_right m r o b bounds ranks free =
    by_fit (r.is_fit && true) (nil_from (entered false r o None).offends (at_place 6 T7 m.place ∷ []) (unless true (at_name 6 T9 m)) offends refl)
  where
    untrue : (c : Bool) → not c ≡ true → c ≡ false
    untrue true e = no (sym e)
    untrue false e = refl

    offends : (entered false r o None).offends ≡ false
    offends =
        untrue _ (ap (λ k. not (r.offends || (not (r.rank == 0) && (o.is_allocatable || not (k == 0))))) (sym ranks) ∙ free)

    by_fit : (c : Bool) → (if (entered false r o None).offends then at_place 6 T7 m.place ∷ [] else unless true (at_name 6 T9 m)) ≡ []
        → (if c then (if (entered false r o None).offends then at_place 6 T7 m.place ∷ [] else unless true (at_name 6 T9 m)) else []) ≡ []
    by_fit true e = e
    by_fit false e = refl

no_false : (a : Bool) → (a && false) ≡ true → ⊥
no_false true e = no (sym e)
no_false false e = no (sym e)

-- the last part
final : (u : Role) → IsHeap u → (m : Name) (r : Reach) (o : Object) (y : Part) → r.is_fit ≡ true → are_typed y.1 ≡ true → enter_rows (is_allocation u && true) o y ≡ []
    → reach_rows u m (enter (is_allocation u && true) r o y.1) ≡ [] → reach_rows role.Expression m (enter false r o None) ≡ []
final u heap m r o y fit t rows ends =
    let inside : Enters (is_allocation u && true) r o y.1 = enters (is_allocation u && true) r o y fit t rows in
    go u heap y.1 (subst (λ (q : Reach). (not q.offends && role_fits u q) ≡ true) inside.reach_is
    (role_holds u m inside.reach inside.fit (subst (λ z. reach_rows u m z ≡ []) inside.is ends)))
  where
    go : (u : Role) → IsHeap u → (b : Option (List Given))
        → (not (entered (is_allocation u && true) r o b).offends && role_fits u (entered (is_allocation u && true) r o b)) ≡ true
        → reach_rows role.Expression m (enter false r o None) ≡ []
    go role.Allocated heap None h = bare_right m r o None true refl (left _ _ h)
    go role.Allocated heap (Some gs) h = bare_right m r o (Some gs) true refl (left _ _ h)
    go role.Deallocated heap None h = bare_right m r o None false refl (left _ _ h)
    go role.Deallocated heap (Some gs) h = absurd (no_false o.is_allocatable (right (not (entered false r o (Some gs)).offends) _ h))
    go role.Expression heap b h = absurd heap
    go role.Variable heap b h = absurd heap

nothing_in : (xs ys : List Break) → xs ≡ [] → ys ≡ [] → xs ++ ys ≡ []
nothing_in xs ys e f = ap (λ z. z ++ ys) e ∙ f

module _ (c : Context) (knows : Knows c) (u : Role) (heap : IsHeap u) (m : Name) where
  -- what breaks no rule from here on, behind a part
  record Kept (ps : List Part) (r : Reach) : Type 0 where
    rows : along_rows c role.Expression ps (Some r) ≡ []
    ends : reach_rows role.Expression m (along c role.Expression ps (Some r)) ≡ []

  kept : (y : Part) (ps : List Part) (r : Reach) → r.is_fit ≡ true → is_known (r.object).data_type ≡ true → parts_typed (y ∷ ps) ≡ true
      → along_rows c u (y ∷ ps) (Some r) ≡ [] → reach_rows u m (along c u (y ∷ ps) (Some r)) ≡ [] → Kept (bare_last (y ∷ ps)) r
  kept y [] r fit known t e ends =
      let b : Bool = is_allocation u && true in
      let found = selects c b r.object y known (first _ _ e) in
      let k : Component = found.0 in
      record {
        rows = ap (λ z. step_selected_rows false (y.0, None) z ++ []) found.1;
        ends =
            ap (λ z. reach_rows role.Expression m (step_selected false r None z)) found.1
            ∙ final u heap m r k.object y fit (left _ _ t) (subst (λ z. step_selected_rows b y z ≡ []) found.1 (first _ _ e))
            (subst (λ z. reach_rows u m (step_selected b r y.1 z) ≡ []) found.1 ends);
      }
  kept y (z ∷ zs) r fit known t e ends =
      let rows : step_rows c false y (Some r) ++ along_rows c u (z ∷ zs) (step c false y (Some r)) ≡ [] =
      subst (λ b. step_rows c b y (Some r) ++ along_rows c u (z ∷ zs) (step c b y (Some r)) ≡ []) (never_bounds u) e in
      let last : reach_rows u m (along c u (z ∷ zs) (step c false y (Some r))) ≡ [] =
      subst (λ b. reach_rows u m (along c u (z ∷ zs) (step c b y (Some r))) ≡ []) (never_bounds u) ends in
      let found = selects c false r.object y known (first _ _ rows) in
      let k : Component = found.0 in
      let h : Selects c r.object y.0 k = found.2 in
      let inside : Enters false r k.object y.1 =
      enters false r k.object y fit (left _ _ t) (subst (λ z. step_selected_rows false y z ≡ []) found.1 (first _ _ rows)) in
      let stepped : step c false y (Some r) ≡ Some inside.reach = ap (step_selected false r y.1) found.1 ∙ inside.is in
      let rest : Kept (bare_last (z ∷ zs)) inside.reach =
      kept z zs inside.reach inside.fit
      (ap (λ (o : Object). is_known o.data_type) inside.object ∙ component_known h.components (y.0).symbol k (knows.natures h.type _ h.nature) h.component)
      (right _ _ t) (subst (λ q. along_rows c u (z ∷ zs) q ≡ []) stepped (second (step_rows c false y (Some r)) _ rows))
      (subst (λ q. reach_rows u m (along c u (z ∷ zs) q) ≡ []) stepped last) in
      record {
        rows =
            nothing_in (step_rows c false y (Some r)) (along_rows c role.Expression (bare_last (z ∷ zs)) (step c false y (Some r))) (first _ _ rows)
            (ap (along_rows c role.Expression (bare_last (z ∷ zs))) stepped ∙ rest.rows);
        ends = ap (λ q. reach_rows role.Expression m (along c role.Expression (bare_last (z ∷ zs)) q)) stepped ∙ rest.ends;
      }

  -- the whole: its first part, with what stands behind it where others follow
  abbrev pub first_left : Option (List Given) → List Part → Option (List Given)
  first_left b [] = None
  first_left b (y ∷ ps) = b

  pub bare_rows : (o : Object) (b : Option (List Given)) (ps : List Part) → is_known o.data_type ≡ true → parts_typed ((m, b) ∷ ps) ≡ true
      → object_rows c u o (m, b) ps ≡ [] → object_rows c role.Expression o (m, first_left b ps) (bare_last ps) ≡ []
  bare_rows o b [] known t e =
      final u heap m (start o) o (m, b) refl (left _ _ t) (first _ _ e) (second (enter_rows (is_allocation u && true) o (m, b)) _ e)
  bare_rows o b (y ∷ ps) known t e =
      let rows : enter_rows false o (m, b) ++ (along_rows c u (y ∷ ps) (enter false (start o) o b) ++ reach_rows u m (along c u (y ∷ ps) (enter false (start o) o b))) ≡ [] =
      subst (λ z. enter_rows z o (m, b) ++ (along_rows c u (y ∷ ps) (enter z (start o) o b) ++ reach_rows u m (along c u (y ∷ ps) (enter z (start o) o b))) ≡ [])
      (never_bounds u) e in
      let inside : Enters false (start o) o b = enters false (start o) o (m, b) refl (left _ _ t) (first _ _ rows) in
      let behind = second (enter_rows false o (m, b)) _ rows in
      let rest : Kept (bare_last (y ∷ ps)) inside.reach =
      kept y ps inside.reach inside.fit (ap (λ (o : Object). is_known o.data_type) inside.object ∙ known) (right _ _ t)
      (subst (λ q. along_rows c u (y ∷ ps) q ≡ []) inside.is (first _ _ behind))
      (subst (λ q. reach_rows u m (along c u (y ∷ ps) q) ≡ []) inside.is (second (along_rows c u (y ∷ ps) (enter false (start o) o b)) _ behind)) in
      nothing_in (enter_rows false o (m, b)) _ (first _ _ rows)
      (nothing_in (along_rows c role.Expression (bare_last (y ∷ ps)) (enter false (start o) o b)) _
      (ap (along_rows c role.Expression (bare_last (y ∷ ps))) inside.is ∙ rest.rows)
      (ap (λ q. reach_rows role.Expression m (along c role.Expression (bare_last (y ∷ ps)) q)) inside.is ∙ rest.ends))
