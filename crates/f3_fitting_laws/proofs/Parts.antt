-- Designators and arguments fit where what is given in their parentheses does.
use Rattle.std.proofs.Common.{◌≡◌, ℕ, ◌+◌, Bool, true, false, ◌&&◌, List, [], ◌∷◌, map, Option, Some, None, refl, if◌then◌else◌}
use Rattle.std.specs.Prelude.{⊤}
use Rattle.f3_program.specs.declared.declarations.Base.{Base}
use Rattle.f3_program.specs.declared.expression.BinaryOperator.{BinaryOperator}
use Rattle.f3_program.specs.declared.program.Program.{Program}
use Rattle.f3_kinds.specs.declared.types.DataType.{DataType}
use Rattle.f3_kinds.specs.declared.types.Object.{Object}
use Rattle.f3_kinds.specs.declared.things.Component.{Component}
use Rattle.f3_kinds.specs.declared.things.Dummy.{Dummy}
use Rattle.f3_kinds.specs.declared.things.Intrinsic.{Intrinsic}
use Rattle.f3_kinds.specs.declared.things.Intrinsic.TheVariants as i
use Rattle.f3_kinds.specs.Things.{map_or, Context, Nature, constant, variable, derived, subroutine, function, Meaning, nothing, several, intrinsic, entity, meaning_of, component_of, at_place_of}
use Rattle.f3_meaning_whole.specs.Permitted.{Each}
use Rattle.f3_cell_kinds.specs.Types.{Scope}
use Rattle.f3_elaboration.specs.Nodes as n
use Rattle.f3_elaboration.specs.Nodes.{ExpressionNode, DesignatorNode, SelectionNode}
use Rattle.f3_elaboration.specs.Context.{Surroundings}
use Rattle.f3_elaboration.specs.Expressions as x
use Rattle.f3_elaboration.specs.Expressions.{Part, or_one, subscript, subscripts, held, selection, components_of, number_of, number_for, along, variable_of, itself, passed, stored}
use Rattle.f3_elaboration.specs.Expressions.{is_whole_allocatable, given_value, arguments_for, components_for, allocatable_dummy, allocatable_component, passed_for, stored_for, intrinsic_value, nested, given_in, meant, designated}
use Rattle.f3_elaboration.specs.Actions.{named_by}
use Rattle.f3_lawful_laws.proofs.Facts.{both}
use Rattle.f3_fitting_laws.proofs.Nodes.{value_fits, argument_fits, arguments_fit, object_fits, selection_fits, subscripts_fit, subscript_fits}

module _ (p : Program) (c : Scope) where
  abbrev pub Fits : ExpressionNode → Type 0
  Fits e = value_fits p c e ≡ true

  abbrev pub MayFit : Option ExpressionNode → Type 0
  MayFit None = ⊤
  MayFit (Some e) = Fits e

  abbrev pub GivenFits : x.Given → Type 0
  GivenFits (x.value k e) = Fits e
  GivenFits (x.triplet a b d) = MayFit a × MayFit b × MayFit d

  abbrev pub BehindFits : Option (List x.Given) → Type 0
  BehindFits None = ⊤
  BehindFits (Some gs) = Each GivenFits gs

  abbrev pub PartsFit : List Part → Type 0
  PartsFit [] = ⊤
  PartsFit (q ∷ qs) = BehindFits q.1 × PartsFit qs

  -- ---- what is given

  pub one_fits : (a : Option ExpressionNode) → MayFit a → Fits (or_one a)
  one_fits None h = refl
  one_fits (Some e) h = h

  pub given_fits : (g : x.Given) → GivenFits g → Fits (given_value g)
  given_fits (x.value k e) h = h
  given_fits (x.triplet a b d) h = refl

  pub all_given : (gs : List x.Given) → Each GivenFits gs → Each Fits (map given_value gs)
  all_given [] h = tt
  all_given (g ∷ gs) h = (given_fits g h.0, all_given gs h.1)

  pub in_part : (g : Option (List x.Given)) → BehindFits g → Each GivenFits (map_or [] (λ gs. gs) g)
  in_part None h = tt
  in_part (Some gs) h = h

  -- ---- designators

  one_subscript : (g : x.Given) → GivenFits g → subscript_fits p c (subscript g) ≡ true
  one_subscript (x.value k e) h = h
  one_subscript (x.triplet a b d) h = both _ _ (one_fits a h.0) (both _ _ (one_fits b h.1) (one_fits d h.2))

  all_subscripts : (gs : List x.Given) → Each GivenFits gs → subscripts_fit p c (subscripts gs) ≡ true
  all_subscripts [] h = refl
  all_subscripts (g ∷ gs) h = both (subscript_fits p c (subscript g)) _ (one_subscript g h.0) (all_subscripts gs h.1)

  one_selection : (o : Object) (g : Option (List x.Given)) → BehindFits g → selection_fits p c (selection o g) ≡ true
  one_selection o (Some gs) h = all_subscripts gs h
  one_selection o None h = go o.is_allocatable
    where
      go : (b : Bool) → selection_fits p c (held b) ≡ true
      go true = refl
      go false = refl

  along_fits : (k : Context) (d : DesignatorNode) (o : Object) (qs : List Part) → object_fits p c d ≡ true → PartsFit qs → object_fits p c (along k d o qs) ≡ true
  along_fits k d o [] h f = h
  along_fits k d o (q ∷ qs) h f = go (component_of (components_of k o.data_type) (q.0).symbol) (λ e z g. along_fits k e z qs g f.1)
    where
      go : (z : Option Component) → ((e : DesignatorNode) (z : Object) → object_fits p c e ≡ true → object_fits p c (along k e z qs) ≡ true)
          → object_fits p c (map_or d (λ (z : Component). along k (n.component d (number_of (components_of k o.data_type) (q.0).symbol) (selection z.object q.1)) z.object qs) z) ≡ true
      go None rest = h
      go (Some z) rest =
          rest (n.component d (number_of (components_of k o.data_type) (q.0).symbol) (selection z.object q.1)) z.object
          (both (object_fits p c d) _ h (one_selection z.object q.1 f.0))

  pub variable_fits : (s : Surroundings) (e : ℕ) (o : Object) (q : Part) (qs : List Part) → BehindFits q.1 → PartsFit qs
      → object_fits p c (variable_of s e o q qs) ≡ true
  variable_fits s e o q qs h f = along_fits s.context (n.name (s.object e) (selection o q.1)) o qs (one_selection o q.1 h) f

  pub itself_fits : (d : DesignatorNode) → object_fits p c d ≡ true → object_fits p c (itself d) ≡ true
  itself_fits (n.name y n.whole) h = refl
  itself_fits (n.name y n.contents) h = refl
  itself_fits (n.name y (n.elements o xs)) h = h
  itself_fits (n.component d k n.whole) h = h
  itself_fits (n.component d k n.contents) h = h
  itself_fits (n.component d k (n.elements o xs)) h = h

  -- ---- arguments

  pub passed_fits : (b : Bool) (k : ℕ) (e : ExpressionNode) → Fits e → argument_fits p c (passed b k e) ≡ true
  passed_fits true k (n.variable d) h = itself_fits d h
  passed_fits false k (n.variable d) h = h
  passed_fits b k e h = h

  stored_fits : (b : Bool) (k : ℕ) (e : ExpressionNode) → Fits e → argument_fits p c (stored b k e) ≡ true
  stored_fits b k (n.variable d) h = go (b && is_whole_allocatable d)
    where
      go : (b : Bool) → argument_fits p c (if b then n.object k (itself d) else n.value k (n.variable d)) ≡ true
      go true = itself_fits d h
      go false = h
  stored_fits b k e h = h

  pub passed_all : (ds : List (ℕ × Dummy)) (j : ℕ) (gs : List x.Given) → Each GivenFits gs → arguments_fit p c (arguments_for ds j gs) ≡ true
  passed_all ds j [] h = refl
  passed_all ds j (g ∷ gs) h = both (argument_fits p c (passed_for ds (number_for ds j g) (given_value g))) _
      (passed_fits (allocatable_dummy (at_place_of ds (number_for ds j g))) (number_for ds j g) (given_value g) (given_fits g h.0)) (passed_all ds (j + 1) gs h.1)

  pub stored_all : (ks : List (ℕ × Component)) (j : ℕ) (gs : List x.Given) → Each GivenFits gs → arguments_fit p c (components_for ks j gs) ≡ true
  stored_all ks j [] h = refl
  stored_all ks j (g ∷ gs) h = both (argument_fits p c (stored_for ks (number_for ks j g) (given_value g))) _
      (stored_fits (allocatable_component (at_place_of ks (number_for ks j g))) (number_for ks j g) (given_value g) (given_fits g h.0)) (stored_all ks (j + 1) gs h.1)

  -- ---- variables where they are defined

  nested_named : (f : BinaryOperator) (of : Base) (e : ExpressionNode) (es : List ExpressionNode) → object_fits p c (named_by e) ≡ true
      → object_fits p c (named_by (nested f of e es)) ≡ true
  nested_named f of e [] h = h
  nested_named f of e (y ∷ ys) h = nested_named f of (n.binary f of e y) ys refl

  pub named_fits : (e : ExpressionNode) → Fits e → object_fits p c (named_by e) ≡ true
  named_fits (n.variable d) h = h
  named_fits e h = refl

  allocated_named : (of : Base) (es : List ExpressionNode) → object_fits p c (named_by (intrinsic_value of i.Allocated es)) ≡ true
  allocated_named of [] = refl
  allocated_named of (n.variable d ∷ []) = refl
  allocated_named of (n.variable d ∷ y ∷ ys) = refl
  allocated_named of (e ∷ []) = refl
  allocated_named of (e ∷ y ∷ ys) = refl

  intrinsic_named : (of : Base) (r : Intrinsic) (es : List ExpressionNode) → Each Fits es → object_fits p c (named_by (intrinsic_value of r es)) ≡ true
  intrinsic_named of i.Max [] h = refl
  intrinsic_named of i.Max (e ∷ es) h = nested_named _ of e es (named_fits e h.0)
  intrinsic_named of i.Min [] h = refl
  intrinsic_named of i.Min (e ∷ es) h = nested_named _ of e es (named_fits e h.0)
  intrinsic_named of i.Allocated es h = allocated_named of es
  intrinsic_named of i.Abs [] h = refl
  intrinsic_named of i.Abs (e ∷ []) h = refl
  intrinsic_named of i.Abs (e ∷ y ∷ ys) h = refl
  intrinsic_named of i.MoveAlloc es h = refl
  intrinsic_named of r [] h = refl
  intrinsic_named of r (e ∷ []) h = refl
  intrinsic_named of r (e ∷ y ∷ []) h = refl
  intrinsic_named of r (e ∷ y ∷ z ∷ zs) h = refl

  pub designated_named : (s : Surroundings) (of : Option DataType) (qs : List Part) → PartsFit qs → object_fits p c (named_by (designated s of qs)) ≡ true
  designated_named s of [] h = refl
  designated_named s of (q ∷ qs) h = go (meaning_of s.context (q.0).symbol)
    where
      by_entity : (e : ℕ) (m : Nature) → object_fits p c (named_by (meant s of q qs (entity e m))) ≡ true
      by_entity e (variable o) = variable_fits s e o q qs h.0 h.1
      by_entity e (constant o) = refl
      by_entity e (function pure ds o) = refl
      by_entity e (derived home ks f) = refl
      by_entity e (subroutine pure ds) = refl

      go : (m : Meaning) → object_fits p c (named_by (meant s of q qs m)) ≡ true
      go nothing = refl
      go several = refl
      go (intrinsic r) = intrinsic_named _ r (map given_value (given_in q)) (all_given (given_in q) (in_part q.1 h.0))
      go (entity e m) = by_entity e m
