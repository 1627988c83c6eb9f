-- Values of components are of the kinds of these, none twice.
use Rattle.std.proofs.Common.{◌≡◌, ℕ, zero, suc, ◌+◌, ◌<◌, ◌≤◌, Bool, true, false, ◌&&◌, ◌||◌, not, List, [], ◌∷◌, length, Option, Some, None, refl, sym, ap, ◌∙◌}
use Rattle.std.proofs.Common.{if◌then◌else◌, nat_eq, nat_lt, arith, inl, inr}
use Rattle.std.proofs.lemmas.Bool.Decides.{leb_tells}
use Rattle.std.specs.Prelude.{◌==◌, slice_get}
use Rattle.std.specs.List.{list_any}
use mathlib.Core.Path.{subst}
use Rattle.f3_places.specs.declared.source.Place.{Place}
use Rattle.f3_tree.specs.declared.expression.Name.{Name}
use Rattle.f3_program.specs.declared.declarations.Base.TheVariants as base_is
use Rattle.f3_program.specs.declared.declarations.Component as program
use Rattle.f3_program.specs.declared.declarations.Declared.{Declared}
use Rattle.f3_program.specs.declared.declarations.Derived.{Derived}
use Rattle.f3_program.specs.declared.declarations.Kind.{Kind}
use Rattle.f3_program.specs.declared.program.Program.{Program}
use Rattle.f3_kinds.specs.declared.types.Object.{Object}
use Rattle.f3_kinds.specs.declared.said.Has.{Has}
use Rattle.f3_kinds.specs.declared.said.Said.{Said}
use Rattle.f3_kinds.specs.declared.said.Given as said
use Rattle.f3_kinds.specs.declared.said.Given.TheVariants.{Value, Triplet}
use Rattle.f3_kinds.specs.declared.things.Component.{Component}
use Rattle.f3_kinds.specs.Things.{map_or, at_place_of}
use Rattle.f3_kinds.specs.Rows.{has_type, is_known, unless}
use Rattle.f3_kinds.specs.Designators.{is_triplet}
use Rattle.f3_kinds.specs.Calls.{Matched, no_match, match_next, place_for, within_count, is_new, in_order, is_keyed, added, value_rows, type_takes, private_at}
use Rattle.f3_kinds.specs.Calls.{component_rows, given_rows, constructor_given}
use Rattle.f3_meaning_whole.specs.Permitted.{Each}
use Rattle.f3_meaning_whole.specs.Formed.{of_kind, found, some, only, all, alike, given_all, Given, given_for, component_takes, fits_component, at_most_once, structured}
use Rattle.f3_elaboration.specs.Nodes as n
use Rattle.f3_elaboration.specs.Nodes.{ExpressionNode, DesignatorNode}
use Rattle.f3_elaboration.specs.Context.{Surroundings, base}
use Rattle.f3_elaboration.specs.Expressions as x
use Rattle.f3_elaboration.specs.Expressions.{stored, stored_for, components_for, given_value, number_for, allocatable_component, itself, is_whole_allocatable}
use Rattle.f3_lawful_laws.specs.Agreement.{KnowsComponents}
use Rattle.f3_lawful_laws.proofs.Facts.{no, not_nil, nothing, same, first, second, holds, both, left, right, negated_back, when_true}
use Rattle.f3_lawful_laws.proofs.Positions.{eq_same, eq_self}
use Rattle.f3_formed_laws.specs.Nodes.{value_kind, argument, arguments}
use Rattle.f3_formed_laws.specs.Agreement.{kind_of, AreComponents, HasComponents}
use Rattle.f3_formed_laws.proofs.Facts.{when_only}
use Rattle.f3_formed_laws.proofs.Bases.{alike_back, alike_through, takes_alike}
use Rattle.f3_formed_laws.proofs.Alike.{IsKind, IsOf, IsGiven, AreGiven}
use Rattle.f3_formed_laws.proofs.Components.{At, component_at}
use Rattle.f3_formed_laws.proofs.Holding.{itself_kind, kind_by}
use Rattle.f3_formed_laws.proofs.Counting.{Once, once_none, once_more, stand_once}

-- ---- the place of a component

there_is : {A : Type 0} (xs : List A) (k : ℕ) → k < length xs → (x : A) × (slice_get xs k ≡ Some x)
there_is [] k lt = absurd (let h : k < 0 = lt in omega (arith, h))
there_is (x ∷ xs) zero lt = (x, refl)
there_is (x ∷ xs) (suc k) lt = there_is xs k (let h : suc k < suc (length xs) = lt in omega (arith, h))

within_there : {A : Type 0} (xs : List A) (i k : ℕ) → within_count (length xs) i ≡ Some k → (x : A) × (slice_get xs k ≡ Some x)
within_there xs i k e = elim (leb_tells (suc i) (length xs)) [
  | inl h ↦
      let at : Some i ≡ Some k = sym (ap (λ b. if b then Some i else None) h.0) ∙ e in
      there_is xs k (subst (λ j. j < length xs) (same at) h.1)
  | inr h ↦ nothing (sym (ap (λ b. if b then Some i else None) h.0) ∙ e)
]

-- a value that stands where it may is for a component that no other is for
record Stands (ks : List (ℕ × Component)) (i : ℕ) (l : Option Name) (z : Said) (taken : List ℕ) : Type 0 where
  pub number : ℕ
  pub place : place_for ks i (Value l z) ≡ Some number
  pub component : ℕ × Component
  pub there : slice_get ks number ≡ Some component
  pub new : list_any (nat_eq number) taken ≡ false

stands_at : (inside : Bool) (ks : List (ℕ × Component)) (i : ℕ) (l : Option Name) (z : Said) (taken : List ℕ)
    → given_rows inside (map_or None (at_place_of ks) (place_for ks i (Value l z))) (Value l z) ≡ [] → is_new taken (place_for ks i (Value l z)) ≡ true
    → Stands ks i l z taken
stands_at inside ks i l z taken rows new = by_place (place_for ks i (Value l z)) refl new
  where
    by_key : (l : Option Name) (k : ℕ) → place_for ks i (Value l z) ≡ Some k → given_rows inside (map_or None (at_place_of ks) (place_for ks i (Value l z))) (Value l z) ≡ []
        → (c : ℕ × Component) × (slice_get ks k ≡ Some c)
    by_key None k e rows = within_there ks i k e
    by_key (Some keyword) k e rows = by_found (slice_get ks k) refl
      where
        by_found : (o : Option (ℕ × Component)) → slice_get ks k ≡ o → (c : ℕ × Component) × (slice_get ks k ≡ Some c)
        by_found (Some c) f = (c, f)
        by_found None f =
            not_nil (sym (ap (λ o. given_rows inside (map_or None (at_place_of ks) o) (Value (Some keyword) z)) e
            ∙ ap (λ o. given_rows inside (map_or None (λ (x : ℕ × Component). Some x.1) o) (Value (Some keyword) z)) f) ∙ rows)

    by_place : (o : Option ℕ) → place_for ks i (Value l z) ≡ o → is_new taken o ≡ true → Stands ks i l z taken
    by_place None e new = no (sym new)
    by_place (Some k) e new =
        let at = by_key l k e rows in
        record { number = k; place = e; component = at.0; there = at.1; new = negated_back _ new }

pub stored_number : (ks : List (ℕ × Component)) (i : ℕ) (e : ExpressionNode) (l : Option Name) (z : Said) (k : ℕ) → place_for ks i (Value l z) ≡ Some k
    → number_for ks i (x.value l e) ≡ k
stored_number ks i e None z k h = within (length ks) i k h
  where
    within : (count position k : ℕ) → within_count count position ≡ Some k → position ≡ k
    within count position k e = go (nat_lt position count) e
      where
        go : (b : Bool) → (if b then Some position else None) ≡ Some k → position ≡ k
        go true e = same e
        go false e = nothing e
stored_number ks i e (Some keyword) z k h = ap (λ o. map_or 0 (λ k. k) o) h

module _ (p : Program) (vs : List Declared) (ns : List Kind) (s : Surroundings) where
  -- ---- one value

  pub record Stores (o : Object) (number : ℕ) (node : n.ArgumentNode) : Type 0 where
    pub given : Given
    pub is : argument p vs ns node ≡ Some given
    pub number_is : given.number ≡ number
    pub takes : (k : Kind) → k ≡ kind_of s o → component_takes k given ≡ true

  -- what is said of a value that a component takes
  record Fitting (o : Object) (h : Has) : Type 0 where
    pub of : alike (base s o.data_type) (base s h.data_type) ≡ true
    pub rank : ((h.rank == o.rank) || ((h.rank == 0) && not o.is_allocatable)) ≡ true

  fitting : (o : Object) (place : Place) (h : Has) → is_known o.data_type ≡ true → has_type (Some h) ≡ true → value_rows o place h ≡ [] → Fitting o h
  fitting o place h known typed rows =
      let own = sym (when_true (has_type (Some h)) _ _ typed) ∙ rows in
      record {
        of = takes_alike s.type o.data_type h.data_type known typed (holds (type_takes o.data_type h.data_type) _ (first _ _ own));
        rank = holds _ _ (second (unless (type_takes o.data_type h.data_type) _) _ own);
      }

  exact : (a b c : Bool) → (a || (b && not c)) ≡ true → c ≡ true → a ≡ true
  exact true b c e h = refl
  exact false true c e h = no (sym (sym (ap not h) ∙ e))
  exact false false c e h = no (sym e)

  either : (a b c : Bool) → (a || (b && not c)) ≡ true → (b || a) ≡ true
  either true true c e = refl
  either true false c e = refl
  either false true c e = refl
  either false false c e = no (sym e)

  value_stored : (o : Object) (number : ℕ) (e : ExpressionNode) (h : Has) → IsKind p vs ns s e h → Fitting o h → Stores o number (n.value number e)
  value_stored o number e h is f = record {
    given = record { number = number; kind = of_kind is.of h.rank; is_variable = false };
    is = ap (λ o. found o (λ (j : Kind). Some (record { number = number; kind = j; is_variable = false }))) is.value;
    number_is = refl;
    takes = λ k e. ap (λ z. component_takes z (record { number = number; kind = of_kind is.of h.rank; is_variable = false })) e ∙ go o.is_allocatable refl;
  }
    where
      type : alike (base s o.data_type) is.of ≡ true
      type = alike_through (base s o.data_type) (base s h.data_type) is.of f.of (alike_back is.of (base s h.data_type) is.alike_to)

      go : (b : Bool) → o.is_allocatable ≡ b
          → component_takes (record { of = base s o.data_type; rank = o.rank; is_allocatable = b }) (record { number = number; kind = of_kind is.of h.rank; is_variable = false }) ≡ true
      go true q =
          let ranks : h.rank ≡ o.rank = eq_same h.rank o.rank (exact (h.rank == o.rank) (h.rank == 0) o.is_allocatable f.rank q) in
          both (alike (base s o.data_type) is.of && nat_eq o.rank h.rank) _ (both _ _ type (ap (nat_eq o.rank) ranks ∙ eq_self o.rank)) refl
      go false q = both _ _ type (either (h.rank == o.rank) (h.rank == 0) o.is_allocatable f.rank)

  variable_stored : (o : Object) (number : ℕ) (d : DesignatorNode) (h : Has) → IsKind p vs ns s (n.variable d) h → Fitting o h
      → Stores o number (stored o.is_allocatable number (n.variable d))
  variable_stored o number d h is f = go (o.is_allocatable && is_whole_allocatable d) refl
    where
      go : (b : Bool) → (o.is_allocatable && is_whole_allocatable d) ≡ b
          → Stores o number (if b then n.object number (itself d) else n.value number (n.variable d))
      go false q = value_stored o number (n.variable d) h is f
      go true q =
          let ranks : h.rank ≡ o.rank = eq_same h.rank o.rank (exact (h.rank == o.rank) (h.rank == 0) o.is_allocatable f.rank (left _ _ q)) in
          record {
            given = record { number = number; kind = record { of = base s h.data_type; rank = h.rank; is_allocatable = true }; is_variable = true };
            is =
                ap (λ o. found o (λ (j : Kind). Some (record { number = number; kind = j; is_variable = true })))
                (itself_kind p vs ns d (base s h.data_type) h.rank true (is.is_as).0 (sym (right o.is_allocatable _ q)));
            number_is = refl;
            takes = λ k e.
                ap (λ z. component_takes z (record { number = number; kind = record { of = base s h.data_type; rank = h.rank; is_allocatable = true }; is_variable = true }))
                (e ∙ kind_by (kind_of s o) (base s o.data_type) o.rank true refl refl (left _ _ q))
                ∙ both (alike (base s o.data_type) (base s h.data_type) && nat_eq o.rank h.rank) _ (both _ _ f.of (ap (nat_eq o.rank) ranks ∙ eq_self o.rank)) refl;
          }

  one_stored : (o : Object) (number : ℕ) (e : ExpressionNode) (z : Said) → is_known o.data_type ≡ true → IsOf p vs ns s e z.has → component_rows o (Value None z) ≡ []
      → Stores o number (stored o.is_allocatable number e)
  one_stored o number e z known is rows = by_has z.has is rows
    where
      go : (e : ExpressionNode) (h : Has) → IsKind p vs ns s e h → Fitting o h → Stores o number (stored o.is_allocatable number e)
      go (n.variable d) h is f = variable_stored o number d h is f
      go e h is f = value_stored o number e h is f

      by_has : (h : Option Has) → IsOf p vs ns s e h → map_or [] (value_rows o z.place) h ≡ [] → Stores o number (stored o.is_allocatable number e)
      by_has None is rows = absurd is
      by_has (Some h) is rows = go e h is (fitting o z.place h known is.typed rows)

  -- ---- all values

  component_known : (ks : List (ℕ × Component)) (k : ℕ) (d : ℕ × Component) → KnowsComponents ks → slice_get ks k ≡ Some d → is_known ((d.1).object).data_type ≡ true
  component_known [] k d h e = nothing e
  component_known (y ∷ ks) zero d h e = ap (λ (y : ℕ × Component). is_known ((y.1).object).data_type) (sym (same e)) ∙ h.0
  component_known (y ∷ ks) (suc k) d h e = component_known ks k d h.1 e

  pub record StoreAll (ks : List (ℕ × Component)) (xs : List program.Component) (i : ℕ) (gs : List x.Given) (taken : List ℕ) : Type 0 where
    pub given : List Given
    pub are : given_all (arguments p vs ns (components_for ks i gs)) ≡ Some given
    pub fit : Each (λ (g : Given). fits_component xs g ≡ true) given
    pub once : Once taken given

  stored_is : (ks : List (ℕ × Component)) (k j : ℕ) (d : ℕ × Component) (e : ExpressionNode) → k ≡ j → slice_get ks j ≡ Some d
      → stored_for ks k e ≡ stored ((d.1).object).is_allocatable j e
  stored_is ks k j d e is there = ap (λ z. stored_for ks z e) is ∙ ap (λ z. stored (allocatable_component (map_or None (λ (q : ℕ × Component). Some q.1) z)) j e) there

  joined : (ks : List (ℕ × Component)) (xs : List program.Component) (i : ℕ) (g : x.Given) (gs : List x.Given) (taken : List ℕ) (o : Option ℕ) → AreComponents s xs ks
      → (k : ℕ) (d : ℕ × Component) → o ≡ Some k → slice_get ks k ≡ Some d → list_any (nat_eq k) taken ≡ false
      → Stores (d.1).object k (stored_for ks (number_for ks i g) (given_value g)) → StoreAll ks xs (i + 1) gs (added taken o) → StoreAll ks xs i (g ∷ gs) taken
  joined ks xs i g gs taken o kinds k d place there new one rest =
      let at : At s xs k d.1 = component_at s xs ks k d kinds there in
      let among : added taken o ≡ added taken (Some (one.given).number) = ap (added taken) (place ∙ ap (λ z. Some z) (sym one.number_is)) in
      record {
        given = one.given ∷ rest.given;
        are =
            ap (λ o. found o (λ z. found (given_all (arguments p vs ns (components_for ks (i + 1) gs))) (λ zs. Some (z ∷ zs)))) one.is
            ∙ ap (λ o. found o (λ zs. Some (one.given ∷ zs))) rest.are;
        fit = (
          ap (λ z. some (slice_get xs z) (λ (c : program.Component). component_takes c.declared.kind one.given)) one.number_is
              ∙ ap (λ o. some o (λ (c : program.Component). component_takes c.declared.kind one.given)) at.there ∙ one.takes (at.component.declared).kind at.kind,
          rest.fit,
        );
        once = once_more taken one.given rest.given (ap (λ z. list_any (nat_eq z) taken) one.number_is ∙ new) (subst (λ ts. Once ts rest.given) among rest.once);
      }

  with_first : (inside : Bool) (ks : List (ℕ × Component)) (xs : List program.Component) (i : ℕ) (g : x.Given) (gs : List x.Given) (y : said.Given) (m : Matched) → KnowsComponents ks
      → AreComponents s xs ks → IsGiven p vs ns s g y → given_rows inside (map_or None (at_place_of ks) (place_for ks i y)) y ≡ [] → not (is_triplet y) ≡ true
      → is_new m.taken (place_for ks i y) ≡ true → StoreAll ks xs (i + 1) gs (added m.taken (place_for ks i y)) → StoreAll ks xs i (g ∷ gs) m.taken
  with_first inside ks xs i (x.value l e) gs (Value k z) m known kinds h rows plain new rest =
      let at : Stands ks i k z m.taken = stands_at inside ks i k z m.taken rows new in
      let number : number_for ks i (x.value l e) ≡ at.number = ap (λ j. number_for ks i (x.value j e)) h.0 ∙ stored_number ks i e k z at.number at.place in
      let own : given_rows inside (Some (at.component).1) (Value k z) ≡ [] =
      ap (λ o. given_rows inside (map_or None (λ (q : ℕ × Component). Some q.1) o) (Value k z)) (sym at.there)
      ∙ ap (λ o. given_rows inside (map_or None (at_place_of ks) o) (Value k z)) (sym at.place) ∙ rows in
      joined ks xs i (x.value l e) gs m.taken (place_for ks i (Value k z)) kinds at.number at.component at.place at.there at.new
      (subst (Stores ((at.component).1).object at.number) (sym (stored_is ks (number_for ks i (x.value l e)) at.number at.component e number at.there))
      (one_stored ((at.component).1).object at.number e z (component_known ks at.number at.component known at.there) h.1
      (second (unless (not ((at.component).1).is_private || inside) (private_at (Value k z))) _ own)))
      rest
  with_first inside ks xs i (x.value l e) gs (Triplet q a b c) m known kinds h rows plain new rest = absurd h
  with_first inside ks xs i (x.triplet a b c) gs (Value k z) m known kinds h rows plain new rest = absurd h
  with_first inside ks xs i (x.triplet a b c) gs (Triplet q d e z) m known kinds h rows plain new rest = no (sym plain)

  pub store_all : (inside : Bool) (ks : List (ℕ × Component)) (xs : List program.Component) (i : ℕ) (gs : List x.Given) (ys : List said.Given) (m : Matched) → KnowsComponents ks
      → AreComponents s xs ks → AreGiven p vs ns s gs ys → constructor_given inside ks i ys ≡ [] → in_order ks i ys m ≡ true → StoreAll ks xs i gs m.taken
  store_all inside ks xs i [] [] m known kinds h e o = record { given = []; are = refl; fit = tt; once = once_none m.taken }
  store_all inside ks xs i [] (y ∷ ys) m known kinds h e o = absurd h
  store_all inside ks xs i (g ∷ gs) [] m known kinds h e o = absurd h
  store_all inside ks xs i (g ∷ gs) (y ∷ ys) m known kinds h e o =
      let before = left _ _ o in
      with_first inside ks xs i g gs y m known kinds h.0 (first _ _ e) (left _ _ (left _ _ before)) (right (not (is_triplet y) && (is_keyed y || not m.keyed)) _ before)
      (store_all inside ks xs (i + 1) gs ys (match_next ks i y m) known kinds h.1
      (second (given_rows inside (map_or None (at_place_of ks) (place_for ks i y)) y) _ e)
      (right (not (is_triplet y) && (is_keyed y || not m.keyed) && is_new m.taken (place_for ks i y)) _ o))

  both_all : (f g : Given → Bool) (gs : List Given) → Each (λ (z : Given). f z ≡ true) gs → all g gs ≡ true → all (λ z. f z && g z) gs ≡ true
  both_all f g [] h e = refl
  both_all f g (z ∷ zs) h e = both (f z && g z) _ (both (f z) (g z) h.0 (left _ _ e)) (both_all f g zs h.1 (right (g z) _ e))

  -- a structure constructor is a scalar of its type
  pub structure_is : (inside : Bool) (e : ℕ) (ks : List (ℕ × Component)) (t : HasComponents p s e ks) (gs : List x.Given) (ys : List said.Given) → KnowsComponents ks
      → AreGiven p vs ns s gs ys → constructor_given inside ks 0 ys ≡ [] → in_order ks 0 ys no_match ≡ true
      → value_kind p vs ns (n.structure (s.type e) (components_for ks 0 gs)) ≡ Some (of_kind (base_is.Derived (s.type e)) 0)
  structure_is inside e ks t gs ys known h rows order =
      let a : StoreAll ks (t.type).components.items 0 gs [] = store_all inside ks (t.type).components.items 0 gs ys no_match known t.components h rows order in
      ap (λ o. found o (structured p vs ns (s.type e))) a.are
      ∙ ap (λ o. found o (λ (y : Derived). only (all (λ g. fits_component y.components.items g && at_most_once a.given g) a.given) (of_kind (base_is.Derived (s.type e)) 0))) t.there
      ∙ when_only _ (of_kind (base_is.Derived (s.type e)) 0)
      (both_all (fits_component (t.type).components.items) (at_most_once a.given) a.given a.fit
      (stand_once a.given a.given a.once.once (λ k. (let m : given_for k a.given ≤ given_for k a.given = omega arith in m))))
