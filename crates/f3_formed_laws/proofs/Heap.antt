-- An object of ALLOCATE or DEALLOCATE without the bounds behind it: an allocatable, of as many dimensions as it has bounds.
use Rattle.std.proofs.Common.{◌≡◌, ℕ, Bool, true, false, ◌&&◌, ◌||◌, not, List, [], ◌∷◌, ◌++◌, length, map, Option, Some, None, refl, sym, ap, ◌∙◌, suc}
use Rattle.std.proofs.Common.{if◌then◌else◌}
use Rattle.std.specs.Prelude.{◌==◌}
use Rattle.std.specs.List.{list_all}
use mathlib.Core.Path.{subst}
use Rattle.f3_tree.specs.declared.expression.Name.{Name}
use Rattle.f3_program.specs.declared.declarations.Declared.{Declared}
use Rattle.f3_program.specs.declared.declarations.Kind.{Kind}
use Rattle.f3_program.specs.declared.program.Program.{Program}
use Rattle.f3_kinds.specs.declared.types.Object.{Object}
use Rattle.f3_kinds.specs.declared.types.Wanted.TheVariants as wanted
use Rattle.f3_kinds.specs.declared.said.Given.{Given}
use Rattle.f3_kinds.specs.declared.said.Given.TheVariants.{Value, Triplet}
use Rattle.f3_kinds.specs.declared.said.Reach.{Reach}
use Rattle.f3_kinds.specs.declared.said.Role.{Role}
use Rattle.f3_kinds.specs.declared.said.Role.TheVariants as role
use Rattle.f3_kinds.specs.declared.things.Component.{Component}
use Rattle.f3_kinds.specs.Things.{Context}
use Rattle.f3_kinds.specs.Rows.{is_known}
use Rattle.f3_kinds.specs.Designators.{Part, subscript_fits, are_fit, count_is_right, is_allocation, enter, enter_rows, rank_left, role_fits}
use Rattle.f3_kinds.specs.Designators.{step, step_rows, step_selected, step_selected_rows, along, along_rows, reach_rows}
use Rattle.f3_meaning_whole.specs.Formed.{all}
use Rattle.f3_elaboration.specs.Context.{Surroundings}
use Rattle.f3_elaboration.specs.Expressions as x
use Rattle.f3_elaboration.specs.Expressions.{given_in}
use Rattle.f3_elaboration.specs.Actions.{bounds, last_given}
use Rattle.f3_lawful_laws.specs.Agreement.{Knows}
use Rattle.f3_lawful_laws.proofs.Facts.{no, first, second, both, left, right}
use Rattle.f3_lawful_laws.proofs.Positions.{eq_same}
use Rattle.f3_lawful_laws.proofs.Designating.{Enters, enters, entered, Selects, selects, component_known}
use Rattle.f3_lawful_laws.proofs.Reaching.{role_holds}
use Rattle.f3_lawful_laws.proofs.Bounded.{IsHeap, bare_last}
use Rattle.f3_formed_laws.specs.Nodes.{is_bound}
use Rattle.f3_formed_laws.proofs.Facts.{long}
use Rattle.f3_formed_laws.proofs.Alike.{IsGiven, AreGiven, IsBehind, AreParts}
use Rattle.f3_formed_laws.proofs.Scalars.{scalar, whole_number, behind_typed}
use Rattle.f3_formed_laws.proofs.Selecting.{perhaps_whole}
use Rattle.f3_formed_laws.proofs.Walking.{entered_count}

pub never_bounds : (u : Role) → (is_allocation u && false) ≡ false
never_bounds role.Allocated = refl
never_bounds role.Deallocated = refl
never_bounds role.Expression = refl
never_bounds role.Variable = refl

no_false : (a : Bool) → (a && false) ≡ true → ⊥
no_false true e = no (sym e)
no_false false e = no (sym e)

-- an allocatable stands behind no part with a rank
at_once : (a z c w : Bool) → not (a || (not z && (c || w))) ≡ true → c ≡ true → z ≡ true
at_once a true c w e f = refl
at_once true false c w e f = no (sym e)
at_once false false true w e f = no (sym e)
at_once false false false w e f = no (sym f)

no_rank : (a z : Bool) → not (true && a && not z) ≡ true → a ≡ true → z ≡ true
no_rank true true e f = refl
no_rank true false e f = no (sym e)
no_rank false z e f = no (sym f)

module _ (p : Program) (vs : List Declared) (ns : List Kind) (s : Surroundings) where
  -- ---- bounds

  bound_is : (g : x.Given) (y : Given) → IsGiven p vs ns s g y → subscript_fits y ≡ true → is_bound p vs ns (bounds g) ≡ true
  bound_is (x.value k e) (Value None z) h f = whole_number p vs ns s e (scalar p vs ns s wanted.Integer e z.has h.1 f)
  bound_is (x.value k e) (Value (Some l) z) h f = no (sym f)
  bound_is (x.value k e) (Triplet q a b c) h f = absurd h
  bound_is (x.triplet a b c) (Value l z) h f = absurd h
  bound_is (x.triplet a b c) (Triplet q d e z) h f =
      both _ _ (perhaps_whole p vs ns s a d h.0 (left _ _ (left _ _ f))) (perhaps_whole p vs ns s b e h.1 (right _ _ (left _ _ f)))

  bounds_are : (gs : List x.Given) (ys : List Given) → AreGiven p vs ns s gs ys → list_all subscript_fits ys ≡ true → all (is_bound p vs ns) (map bounds gs) ≡ true
  bounds_are [] [] h f = refl
  bounds_are [] (y ∷ ys) h f = absurd h
  bounds_are (g ∷ gs) [] h f = absurd h
  bounds_are (g ∷ gs) (y ∷ ys) h f = both _ _ (bound_is g y h.0 (left _ _ f)) (bounds_are gs ys h.1 (right (subscript_fits y) _ f))

  as_many : (gs : List x.Given) (ys : List Given) → AreGiven p vs ns s gs ys → length gs ≡ length ys
  as_many [] [] h = refl
  as_many [] (y ∷ ys) h = absurd h
  as_many (g ∷ gs) [] h = absurd h
  as_many (g ∷ gs) (y ∷ ys) h = ap suc (as_many gs ys h.1)

  -- ---- the last part

  pub record Last (u : Role) (rank : ℕ) (o : Object) (q : x.Part) : Type 0 where
    pub allocatable : o.is_allocatable ≡ true
    pub alone : (rank == 0) ≡ true
    pub bound : all (is_bound p vs ns) (map bounds (given_in q)) ≡ true
    pub count : is_allocation u ≡ true → length (map bounds (given_in q)) ≡ o.rank

  pub last_is : (u : Role) → IsHeap u → (m : Name) (r : Reach) (o : Object) (q : x.Part) (y : Part) → IsBehind p vs ns s q.1 y.1 → r.is_fit ≡ true
      → enter_rows (is_allocation u && true) o y ≡ [] → reach_rows u m (enter (is_allocation u && true) r o y.1) ≡ [] → Last u r.rank o q
  last_is u heap m r o q y behind fit rows ends =
      let inside : Enters (is_allocation u && true) r o y.1 = enters (is_allocation u && true) r o y fit (behind_typed p vs ns s q.1 y.1 behind) rows in
      let counts = entered_count (is_allocation u && true) r o y.1 inside in
      go u heap q.1 y.1 behind counts.0 counts.1
      (subst (λ (z : Reach). (not z.offends && role_fits u z) ≡ true) inside.reach_is
      (role_holds u m inside.reach inside.fit (subst (λ z. reach_rows u m z ≡ []) inside.is ends)))
    where
      go : (u : Role) → IsHeap u → (g : Option (List x.Given)) (b : Option (List Given)) → IsBehind p vs ns s g b → are_fit b ≡ true
          → count_is_right (is_allocation u && true) o b ≡ true
          → (not (entered (is_allocation u && true) r o b).offends && role_fits u (entered (is_allocation u && true) r o b)) ≡ true
          → Last u r.rank o (q.0, g)
      go role.Allocated heap None None h f c e =
          let a : o.is_allocatable ≡ true = left o.is_allocatable _ (right (not (entered true r o None).offends) _ e) in
          record {
            allocatable = a;
            alone = at_once r.offends (r.rank == 0) o.is_allocatable (not (o.rank == 0)) (left _ _ e) a;
            bound = refl;
            count = λ u. sym (eq_same o.rank 0 (no_rank o.is_allocatable (o.rank == 0) c a));
          }
      go role.Allocated heap (Some gs) (Some ys) h f c e =
          let a : o.is_allocatable ≡ true = left o.is_allocatable _ (right (not (entered true r o (Some ys)).offends) _ e) in
          record {
            allocatable = a;
            alone = at_once r.offends (r.rank == 0) o.is_allocatable (not (rank_left true o (Some ys) == 0)) (left _ _ e) a;
            bound = bounds_are gs ys h f;
            count = λ u. long bounds gs ∙ as_many gs ys h ∙ eq_same (length ys) o.rank (left _ _ (left _ _ c));
          }
      go role.Deallocated heap None None h f c e =
          let a : o.is_allocatable ≡ true = left o.is_allocatable _ (right (not (entered false r o None).offends) _ e) in
          record {
            allocatable = a;
            alone = at_once r.offends (r.rank == 0) o.is_allocatable (not (o.rank == 0)) (left _ _ e) a;
            bound = refl;
            count = λ u. no (sym u);
          }
      go role.Deallocated heap (Some gs) (Some ys) h f c e = absurd (no_false o.is_allocatable (right (not (entered false r o (Some ys)).offends) _ e))
      go u heap None (Some ys) h f c e = absurd h
      go u heap (Some gs) None h f c e = absurd h
      go role.Expression heap g b h f c e = absurd heap
      go role.Variable heap g b h f c e = absurd heap

  -- ---- what is reached without the bounds

  pub record Reached (u : Role) (given : List x.Given) (at : Option Reach) : Type 0 where
    pub reach : Reach
    pub is : at ≡ Some reach
    pub allocatable : reach.is_allocatable ≡ true
    pub bound : all (is_bound p vs ns) (map bounds given) ≡ true
    pub count : is_allocation u ≡ true → length (map bounds given) ≡ reach.rank

  ranked : (b : Bool) (k j : ℕ) → b ≡ true → (if b then k else j) ≡ k
  ranked true k j e = refl
  ranked false k j e = no (sym e)

  pub last_reached : (u : Role) (r : Reach) (o : Object) (q : x.Part) (at : Option Reach) → at ≡ enter false r o None → Last u r.rank o q → Reached u (given_in q) at
  last_reached u r o q at is h = record {
    reach = entered false r o None;
    is = is;
    allocatable = both _ _ h.allocatable refl;
    bound = h.bound;
    count = λ a. h.count a ∙ sym (ranked (r.rank == 0) o.rank r.rank h.alone);
  }

  module _ (c : Context) (knows : Knows c) (u : Role) (heap : IsHeap u) (m : Name) where
    pub reached : (q : x.Part) (qs : List x.Part) (y : Part) (rs : List Part) → IsBehind p vs ns s q.1 y.1 → AreParts p vs ns s qs rs → (r : Reach) → r.is_fit ≡ true
        → is_known (r.object).data_type ≡ true → along_rows c u (y ∷ rs) (Some r) ≡ [] → reach_rows u m (along c u (y ∷ rs) (Some r)) ≡ []
        → Reached u (last_given (q ∷ qs)) (along c role.Expression (bare_last (y ∷ rs)) (Some r))
    reached q [] y [] behind h r fit known e ends =
        let b : Bool = is_allocation u && true in
        let found = selects c b r.object y known (first _ _ e) in
        last_reached u r (found.0).object q (along c role.Expression (bare_last (y ∷ [])) (Some r)) (ap (step_selected false r None) found.1)
        (last_is u heap m r (found.0).object q y behind fit (subst (λ z. step_selected_rows b y z ≡ []) found.1 (first _ _ e))
        (subst (λ z. reach_rows u m (step_selected b r y.1 z) ≡ []) found.1 ends))
    reached q [] y (z ∷ rs) behind h r fit known e ends = absurd h
    reached q (k ∷ qs) y [] behind h r fit known e ends = absurd h
    reached q (k ∷ qs) y (z ∷ rs) behind h r fit known e ends =
        let rows : step_rows c false y (Some r) ++ along_rows c u (z ∷ rs) (step c false y (Some r)) ≡ [] =
        subst (λ b. step_rows c b y (Some r) ++ along_rows c u (z ∷ rs) (step c b y (Some r)) ≡ []) (never_bounds u) e in
        let last : reach_rows u m (along c u (z ∷ rs) (step c false y (Some r))) ≡ [] =
        subst (λ b. reach_rows u m (along c u (z ∷ rs) (step c b y (Some r))) ≡ []) (never_bounds u) ends in
        let found = selects c false r.object y known (first _ _ rows) in
        let inside : Enters false r (found.0).object y.1 =
        enters false r (found.0).object y fit (behind_typed p vs ns s q.1 y.1 behind) (subst (λ z. step_selected_rows false y z ≡ []) found.1 (first _ _ rows)) in
        let stepped : step c false y (Some r) ≡ Some inside.reach = ap (step_selected false r y.1) found.1 ∙ inside.is in
        onward (found.2) inside stepped
        (reached k qs z rs h.1 h.2 inside.reach inside.fit
        (ap (λ (o : Object). is_known o.data_type) inside.object
        ∙ component_known (found.2).components (y.0).symbol found.0 (knows.natures (found.2).type _ (found.2).nature) (found.2).component)
        (subst (λ w. along_rows c u (z ∷ rs) w ≡ []) stepped (second (step_rows c false y (Some r)) _ rows))
        (subst (λ w. reach_rows u m (along c u (z ∷ rs) w) ≡ []) stepped last))
      where
        onward : {o : Component} → Selects c r.object y.0 o → (inside : Enters false r o.object y.1) → step c false y (Some r) ≡ Some inside.reach
            → Reached u (last_given (k ∷ qs)) (along c role.Expression (bare_last (z ∷ rs)) (Some inside.reach))
            → Reached u (last_given (q ∷ k ∷ qs)) (along c role.Expression (bare_last (y ∷ z ∷ rs)) (Some r))
        onward h inside stepped rest = record {
          reach = rest.reach;
          is = ap (along c role.Expression (bare_last (z ∷ rs))) stepped ∙ rest.is;
          allocatable = rest.allocatable;
          bound = rest.bound;
          count = rest.count;
        }
