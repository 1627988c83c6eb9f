-- What is given in parentheses: arguments, values of components, subscripts.
use Rattle.std.proofs.Common.{◌≡◌, ℕ, ◌+◌, zero, suc, Bool, true, false, ◌&&◌, not, List, [], ◌∷◌, map, Option, Some, None, refl, sym, ap, ◌∙◌, if◌then◌else◌}
use Rattle.std.specs.Prelude.{⊤, slice_get, slice_index_or}
use Rattle.std.specs.List.{list_all}
use Rattle.f3_program.specs.declared.program.Program.{Program}
use Rattle.f3_kinds.specs.declared.types.Object.{Object}
use Rattle.f3_kinds.specs.declared.said.Has.{Has}
use Rattle.f3_kinds.specs.declared.said.Said.{Said}
use Rattle.f3_kinds.specs.declared.said.Given.{Given}
use Rattle.f3_kinds.specs.declared.said.Given.TheVariants.{Value, Triplet}
use Rattle.f3_kinds.specs.declared.things.Component.{Component}
use Rattle.f3_kinds.specs.declared.things.Dummy.{Dummy}
use Rattle.f3_kinds.specs.Rows.{has_type, is_known, unless}
use Rattle.f3_kinds.specs.Designators.{Part, is_typed, is_typed_perhaps, are_typed, parts_typed}
use Rattle.f3_kinds.specs.Calls.{Matched, match_next, argument_fits, argument_rows, place_for, has_fits_dummy}
use Rattle.f3_meaning_whole.specs.Permitted.{Lendable, Scope, unknown}
use Rattle.f3_type_rules.specs.Definitions.{is_defining}
use Rattle.f3_elaboration.specs.Nodes as n
use Rattle.f3_elaboration.specs.Nodes.{ExpressionNode, DesignatorNode}
use Rattle.f3_elaboration.specs.Context.{Surroundings, base}
use Rattle.f3_elaboration.specs.Expressions as x
use Rattle.f3_elaboration.specs.Expressions.{or_one, stored, stored_for, components_for, passed_for, arguments_for, given_value, number_for, allocatable_dummy}
use Rattle.f3_elaboration.specs.Expressions.{is_whole_allocatable, allocatable_component, itself}
use Rattle.f3_lawful_laws.specs.Nodes.{NodePasses, NodesPass, NodeValue, NodeArgument, NodeArguments}
use Rattle.f3_lawful_laws.specs.Agreement as agreement
use Rattle.f3_lawful_laws.specs.Agreement.{KnowsDummies, lent}
use Rattle.f3_lawful_laws.proofs.Facts.{no, first, second, holds, both, right, otherwise, nothing, same}
use Rattle.f3_lawful_laws.proofs.Positions.{index_at}
use Rattle.f3_lawful_laws.proofs.Alike.{IsOf, MayBeOf, IsGiven, AreGiven, IsBehind, AreParts, MayGive, MayGiveAll, MayStandBehind, AreNamed}
use Rattle.f3_lawful_laws.proofs.Passing.{Fits, fits_by, numbered, known_same, may_passed, locates_itself, MayChange, HasType, passes}

module _ (p : Program) (scope : Scope) (s : Surroundings) where
  -- ---- what is given has types and may stand there

  pub may_of : (e : ExpressionNode) (o : Option Has) → IsOf p scope s e o → NodeValue p scope e
  may_of e None h = absurd h
  may_of e (Some y) h = h.1

  pub typed_of : (e : ExpressionNode) (o : Option Has) → IsOf p scope s e o → has_type o ≡ true
  typed_of e None h = absurd h
  typed_of e (Some y) h = h.0

  or_one_may : (a : Option ExpressionNode) (b : Option Said) → MayBeOf p scope s a b → NodeValue p scope (or_one a)
  or_one_may None None h = tt
  or_one_may None (Some y) h = absurd h
  or_one_may (Some e) None h = absurd h
  or_one_may (Some e) (Some y) h = may_of e y.has h

  perhaps_typed : (a : Option ExpressionNode) (b : Option Said) → MayBeOf p scope s a b → is_typed_perhaps b ≡ true
  perhaps_typed None None h = refl
  perhaps_typed None (Some y) h = absurd h
  perhaps_typed (Some e) None h = absurd h
  perhaps_typed (Some e) (Some y) h = typed_of e y.has h

  given_may : (g : x.Given) (y : Given) → IsGiven p scope s g y → MayGive p scope s g
  given_may (x.value k e) (Value l y) h = may_of e y.has h.1
  given_may (x.value k e) (Triplet q a b c) h = absurd h
  given_may (x.triplet a b c) (Value l y) h = absurd h
  given_may (x.triplet a b c) (Triplet q d e f) h = (or_one_may a d h.0, or_one_may b e h.1, or_one_may c f h.2)

  given_typed : (g : x.Given) (y : Given) → IsGiven p scope s g y → is_typed y ≡ true
  given_typed (x.value k e) (Value l y) h = typed_of e y.has h.1
  given_typed (x.value k e) (Triplet q a b c) h = absurd h
  given_typed (x.triplet a b c) (Value l y) h = absurd h
  given_typed (x.triplet a b c) (Triplet q d e f) h = both _ _ (both _ _ (perhaps_typed a d h.0) (perhaps_typed b e h.1)) (perhaps_typed c f h.2)

  pub all_may : (gs : List x.Given) (ys : List Given) → AreGiven p scope s gs ys → MayGiveAll p scope s gs
  all_may [] [] h = tt
  all_may [] (y ∷ ys) h = absurd h
  all_may (g ∷ gs) [] h = absurd h
  all_may (g ∷ gs) (y ∷ ys) h = (given_may g y h.0, all_may gs ys h.1)

  pub all_typed : (gs : List x.Given) (ys : List Given) → AreGiven p scope s gs ys → list_all is_typed ys ≡ true
  all_typed [] [] h = refl
  all_typed [] (y ∷ ys) h = absurd h
  all_typed (g ∷ gs) [] h = absurd h
  all_typed (g ∷ gs) (y ∷ ys) h = both _ _ (given_typed g y h.0) (all_typed gs ys h.1)

  pub behind_may : (g : Option (List x.Given)) (y : Option (List Given)) → IsBehind p scope s g y → MayStandBehind p scope s g
  behind_may None None h = tt
  behind_may None (Some ys) h = absurd h
  behind_may (Some gs) None h = absurd h
  behind_may (Some gs) (Some ys) h = all_may gs ys h

  pub behind_typed : (g : Option (List x.Given)) (y : Option (List Given)) → IsBehind p scope s g y → are_typed y ≡ true
  behind_typed None None h = refl
  behind_typed None (Some ys) h = absurd h
  behind_typed (Some gs) None h = absurd h
  behind_typed (Some gs) (Some ys) h = all_typed gs ys h

  pub parts_named : (qs : List x.Part) (rs : List Part) → AreParts p scope s qs rs → AreNamed p scope s qs rs
  parts_named [] [] h = tt
  parts_named [] (r ∷ rs) h = absurd h
  parts_named (q ∷ qs) [] h = absurd h
  parts_named (q ∷ qs) (r ∷ rs) h = (h.0, behind_may q.1 r.1 h.1, behind_typed q.1 r.1 h.1, parts_named qs rs h.2)

  pub all_parts_typed : (qs : List x.Part) (rs : List Part) → AreParts p scope s qs rs → parts_typed rs ≡ true
  all_parts_typed [] [] h = refl
  all_parts_typed [] (r ∷ rs) h = absurd h
  all_parts_typed (q ∷ qs) [] h = absurd h
  all_parts_typed (q ∷ qs) (r ∷ rs) h = both _ _ (behind_typed q.1 r.1 h.1) (all_parts_typed qs rs h.2)

  -- ---- values of arguments and components

  pub value_may : (g : x.Given) → MayGive p scope s g → NodeValue p scope (given_value g)
  value_may (x.value k e) h = h
  value_may (x.triplet a b c) h = tt

  pub arguments_may : (ds : List (ℕ × Dummy)) (i : ℕ) (gs : List x.Given) → MayGiveAll p scope s gs → NodeArguments p scope (arguments_for ds i gs)
  arguments_may ds i [] h = tt
  arguments_may ds i (g ∷ gs) h = (may_passed p scope s _ _ (given_value g) (value_may g h.0), arguments_may ds (i + 1) gs h.1)

  stored_may : (b : Bool) (k : ℕ) (e : ExpressionNode) → NodeValue p scope e → NodeArgument p scope (stored b k e)
  stored_may b k (n.variable d) h = go (b && is_whole_allocatable d)
    where
      go : (z : Bool) → NodeArgument p scope (if z then n.object k (itself d) else n.value k (n.variable d))
      go true = locates_itself p scope s d h
      go false = h
  stored_may b k e h = h

  pub components_may : (ks : List (ℕ × Component)) (i : ℕ) (gs : List x.Given) → MayGiveAll p scope s gs → NodeArguments p scope (components_for ks i gs)
  components_may ks i [] h = tt
  components_may ks i (g ∷ gs) h = (stored_may _ _ (given_value g) (value_may g h.0), components_may ks (i + 1) gs h.1)

  -- ---- arguments and dummies

  dummy_known : (ds : List (ℕ × Dummy)) (k : ℕ) (d : ℕ × Dummy) → KnowsDummies ds → slice_get ds k ≡ Some d → is_known ((d.1).object).data_type ≡ true
  dummy_known [] k d h e = nothing e
  dummy_known (y ∷ ds) zero d h e = ap (λ (y : ℕ × Dummy). is_known ((y.1).object).data_type) (sym (same e)) ∙ h.0
  dummy_known (y ∷ ds) (suc k) d h e = dummy_known ds k d h.1 e

  -- each argument that its dummy may define may be defined
  abbrev pub AllChange : List (ℕ × Dummy) → ℕ → List x.Given → List Given → Type 0
  AllChange ds i [] [] = ⊤
  AllChange ds i [] (y ∷ ys) = ⊥
  AllChange ds i (g ∷ gs) [] = ⊥
  AllChange ds i (g ∷ gs) (y ∷ ys) =
      ((k : ℕ) (d : ℕ × Dummy) → place_for ds i y ≡ Some k → slice_get ds k ≡ Some d → is_defining (Some d.1) ≡ true → MayChange p scope s (given_value g))
      × AllChange ds (i + 1) gs ys

  typed_as : (o : Object) (e : ExpressionNode) (h : Option Has) → is_known o.data_type ≡ true → IsOf p scope s e h → has_fits_dummy o h ≡ true
      → HasType p scope s e (base s o.data_type)
  typed_as o e None known h f = absurd h
  typed_as o (n.variable d) (Some y) known h f =
      let fits = otherwise (not (has_type (Some y))) _ f (ap not h.0) in
      h.2.0 ∙ sym (known_same s.type o.data_type y.data_type known h.0 (right _ _ fits))
  typed_as o e (Some y) known h f = tt

  argument_passes : (ds : List (ℕ × Dummy)) (names : List Lendable) (i : ℕ) (g : x.Given) (y : Given) (m : Matched) → KnowsDummies ds → names ≡ map (lent s) ds
      → IsGiven p scope s g y → argument_fits ds i y m ≡ true
      → ((k : ℕ) (d : ℕ × Dummy) → place_for ds i y ≡ Some k → slice_get ds k ≡ Some d → is_defining (Some d.1) ≡ true → MayChange p scope s (given_value g))
      → NodePasses p scope names (passed_for ds (number_for ds i g) (given_value g))
  argument_passes ds names i (x.value k e) (Value l y) m known is h f change =
      let at : Fits ds i (Value l y) = fits_by ds i (Value l y) m f in
      let number : number_for ds i (x.value k e) ≡ at.number = ap (λ k. number_for ds i (x.value k e)) h.0 ∙ numbered ds i e l y at.number at.place in
      passes p scope s names (number_for ds i (x.value k e)) (lent s at.dummy) _ e
      (ap (λ k. slice_index_or names k unknown) number ∙ ap (λ ns. slice_index_or ns at.number unknown) is ∙ index_at (lent s) ds at.number at.dummy unknown at.there)
      (λ c. change at.number at.dummy at.place at.there c)
      (typed_as (at.dummy.1).object e y.has (dummy_known ds at.number at.dummy known at.there) h.1 at.fits)
  argument_passes ds names i (x.value k e) (Triplet q a b c) m known is h f change = absurd h
  argument_passes ds names i (x.triplet a b c) (Value l y) m known is h f change = absurd h
  argument_passes ds names i (x.triplet a b c) (Triplet q d e z) m known is h f change =
      no (sym (Fits.fits (fits_by ds i (Triplet q d e z) m f)))

  pub arguments_pass : (ds : List (ℕ × Dummy)) (names : List Lendable) (i : ℕ) (gs : List x.Given) (ys : List Given) (m : Matched) → KnowsDummies ds
      → names ≡ map (lent s) ds → AreGiven p scope s gs ys → argument_rows ds i ys m ≡ [] → AllChange ds i gs ys → NodesPass p scope names (arguments_for ds i gs)
  arguments_pass ds names i [] [] m known is h e change = tt
  arguments_pass ds names i [] (y ∷ ys) m known is h e change = absurd h
  arguments_pass ds names i (g ∷ gs) [] m known is h e change = absurd h
  arguments_pass ds names i (g ∷ gs) (y ∷ ys) m known is h e change = (
    argument_passes ds names i g y m known is h.0 (holds _ _ (first _ _ e)) change.0,
    arguments_pass ds names (i + 1) gs ys (match_next ds i y m) known is h.1 (second (unless (argument_fits ds i y m) _) _ e) change.1,
  )

  -- none may be defined by a function
  given_at : (ds : List (ℕ × Dummy)) (k : ℕ) (d : ℕ × Dummy) → agreement.AreGiven ds → slice_get ds k ≡ Some d → is_defining (Some d.1) ≡ false
  given_at [] k d h e = nothing e
  given_at (y ∷ ds) zero d h e = ap (λ (y : ℕ × Dummy). is_defining (Some y.1)) (sym (same e)) ∙ h.0
  given_at (y ∷ ds) (suc k) d h e = given_at ds k d h.1 e

  pub none_change : (ds : List (ℕ × Dummy)) (i : ℕ) (gs : List x.Given) (ys : List Given) → agreement.AreGiven ds → AreGiven p scope s gs ys → AllChange ds i gs ys
  none_change ds i [] [] given h = tt
  none_change ds i [] (y ∷ ys) given h = absurd h
  none_change ds i (g ∷ gs) [] given h = absurd h
  none_change ds i (g ∷ gs) (y ∷ ys) given h = (λ k d place there c. no (sym c ∙ given_at ds k d given there), none_change ds (i + 1) gs ys given h.1)
