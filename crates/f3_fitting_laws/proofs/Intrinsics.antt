-- References to intrinsic functions fit.
use Rattle.std.proofs.Common.{◌≡◌, ℕ, ◌+◌, true, false, not, List, [], ◌∷◌, map, Option, None, refl, ap, ◌∙◌}
use Rattle.f3_program.specs.declared.declarations.Base.{Base}
use Rattle.f3_program.specs.declared.expression.BinaryOperator.{BinaryOperator}
use Rattle.f3_program.specs.declared.expression.BinaryOperator.TheVariants as o
use Rattle.f3_program.specs.declared.expression.Query.{Query}
use Rattle.f3_program.specs.declared.expression.Query.TheVariants.{Extent, Lower, Upper}
use Rattle.f3_program.specs.declared.expression.UnaryOperator.TheVariants.{Absolute}
use Rattle.f3_program.specs.declared.program.Program.{Program}
use Rattle.f3_kinds.specs.declared.types.DataType.{DataType}
use Rattle.f3_kinds.specs.declared.types.Wanted.TheVariants as wanted
use Rattle.f3_kinds.specs.declared.said.Said.{Said}
use Rattle.f3_kinds.specs.declared.things.Intrinsic.{Intrinsic}
use Rattle.f3_kinds.specs.declared.things.Intrinsic.TheVariants as i
use Rattle.f3_kinds.specs.Rows.{fits, unless}
use Rattle.f3_kinds.specs.Operands.{type_in}
use Rattle.f3_kinds.specs.Calls.{is_within, actual_fits, actual_right, actual_rows, or_first, integer_type, typed_result}
use Rattle.f3_meaning_whole.specs.Permitted.{Each}
use Rattle.f3_meaning_whole.specs.Formed.{is_number}
use Rattle.f3_cell_kinds.specs.Types.{Scope}
use Rattle.f3_cell_kinds.specs.Effect.{is_of_numbers, is_comparison}
use Rattle.f3_elaboration.specs.Nodes as n
use Rattle.f3_elaboration.specs.Nodes.{ExpressionNode}
use Rattle.f3_elaboration.specs.Context.{Surroundings, base}
use Rattle.f3_elaboration.specs.Expressions.{intrinsic_value, nested, asked}
use Rattle.f3_lawful_laws.proofs.Facts.{first, second, holds, both, left, right, otherwise, when_true}
use Rattle.f3_formed_laws.proofs.Alike.{IsOf}
use Rattle.f3_formed_laws.proofs.Scalars.{Scalar, scalar, typed_of}
use Rattle.f3_formed_laws.proofs.Operators.{type_number, binary_is}
use Rattle.f3_formed_laws.proofs.Intrinsics.{Pair, unkeyed}
use Rattle.f3_fitting_laws.proofs.Nodes.{value_fits}
use Rattle.f3_fitting_laws.proofs.Operators.{unary_fit, binary_numbers}
use Rattle.f3_fitting_laws.proofs.Parts.{passed_fits, itself_fits}

module _ (p : Program) (c : Scope) (s : Surroundings) where
  abbrev Fits : ExpressionNode → Type 0
  Fits e = value_fits p c e ≡ true

  abbrev IsNumber : ExpressionNode → Type 0
  IsNumber e = Scalar p c.variables c.names s wanted.Integer e

  abbrev pub AreSaid : List Pair → Type 0
  AreSaid qs = Each (λ (q : Pair). IsOf p c.variables c.names s q.0 (q.1).has) qs

  -- ---- arguments that are integers

  abbrev TakesIntegers : Intrinsic → Type 0
  TakesIntegers r = (t : Option DataType) (k : ℕ) (z : Said) → actual_fits r t k z ≡ true → fits wanted.Integer z ≡ true

  -- an integer as it is said
  abbrev IsInteger : Pair → Type 0
  IsInteger q = IsNumber q.0 × (fits wanted.Integer q.1 ≡ true)

  integers : (r : Intrinsic) → TakesIntegers r → (t : Option DataType) (k : ℕ) (qs : List Pair) → AreSaid qs → actual_rows r t k (map unkeyed qs) ≡ []
      → Each IsInteger qs
  integers r takes t k [] h e = tt
  integers r takes t k (q ∷ qs) h e =
      let f : fits wanted.Integer q.1 ≡ true =
      takes t k q.1 (otherwise _ _ (right (is_within r k) _ (holds _ _ (first _ _ e))) (ap not (typed_of p c.variables c.names s q.0 (q.1).has h.0))) in (
        (scalar p c.variables c.names s wanted.Integer q.0 (q.1).has h.0 f, f),
        integers r takes (or_first t (integer_type (unkeyed q))) (k + 1) qs h.1 (second (unless (actual_right r t k (unkeyed q)) _) _ e),
      )

  first_type : (q : Pair) → fits wanted.Integer q.1 ≡ true → is_number (base s (integer_type (unkeyed q))) ≡ true
  first_type q f =
      ap (λ t. is_number (base s t)) (when_true (fits wanted.Integer q.1) (type_in (q.1).has) None f) ∙ type_number p c.variables c.names s (q.1).has f

  -- ---- two and more

  nested_fits : (f : BinaryOperator) (of : Base) → is_of_numbers f ≡ true → is_comparison f ≡ false → is_number of ≡ true → (e : ExpressionNode) (qs : List Pair)
      → IsNumber e → Fits e → Each IsInteger qs → Each Fits (map (λ (q : Pair). q.0) qs) → Fits (nested f of e (map (λ (q : Pair). q.0) qs))
  nested_fits f of numbers plain w e [] h g hs gs = g
  nested_fits f of numbers plain w e (q ∷ qs) h g hs gs =
      nested_fits f of numbers plain w (n.binary f of e q.0) qs (binary_is p c.variables c.names s wanted.Integer f of e q.0 tt h hs.0.0 w)
      (binary_numbers p c s f of e q.0 numbers plain w h hs.0.0 g gs.0) hs.1 gs.1

  more_fit : (f : BinaryOperator) → is_of_numbers f ≡ true → is_comparison f ≡ false → (q : Pair) (qs : List Pair) → Each IsInteger (q ∷ qs)
      → Each Fits (map (λ (q : Pair). q.0) (q ∷ qs)) → Fits (nested f (base s (integer_type (unkeyed q))) q.0 (map (λ (q : Pair). q.0) qs))
  more_fit f numbers plain q qs h g = nested_fits f _ numbers plain (first_type q h.0.1) q.0 qs h.0.0 g.0 h.1 g.1

  two_fit : (f : BinaryOperator) → is_of_numbers f ≡ true → is_comparison f ≡ false → (q z : Pair) → Each IsInteger (q ∷ z ∷ [])
      → Each Fits (map (λ (q : Pair). q.0) (q ∷ z ∷ [])) → Fits (n.binary f (base s (integer_type (unkeyed q))) q.0 z.0)
  two_fit f numbers plain q z h g = binary_numbers p c s f _ q.0 z.0 numbers plain (first_type q h.0.1) h.0.0 h.1.0.0 g.0 g.1.0

  allocated_fits : (of : Base) (es : List ExpressionNode) → Each Fits es → Fits (intrinsic_value of i.Allocated es)
  allocated_fits of [] g = refl
  allocated_fits of (n.variable d ∷ []) g = itself_fits p c d g.0
  allocated_fits of (n.variable d ∷ y ∷ ys) g = refl
  allocated_fits of (e ∷ []) g = refl
  allocated_fits of (e ∷ y ∷ ys) g = refl

  bound_fits : (q : Query) (e d : ExpressionNode) → Fits e → Fits d → Fits (n.bound q (asked e) d)
  bound_fits q e d f g = both _ _ (passed_fits p c false 0 e f) g

  pub intrinsic_fits : (r : Intrinsic) (qs : List Pair) → AreSaid qs → Each Fits (map (λ (q : Pair). q.0) qs) → actual_rows r None 0 (map unkeyed qs) ≡ []
      → Fits (intrinsic_value (base s (typed_result r (map unkeyed qs))) r (map (λ (q : Pair). q.0) qs))
  intrinsic_fits i.Abs [] h g e = refl
  intrinsic_fits i.Abs (q ∷ []) h g e =
      let k = integers i.Abs (λ t k z f. f) None 0 (q ∷ []) h e in
      unary_fit p c s Absolute (base s (integer_type (unkeyed q))) q.0 (first_type q k.0.1) k.0.0 g.0
  intrinsic_fits i.Abs (q ∷ z ∷ qs) h g e = refl
  intrinsic_fits i.Mod [] h g e = refl
  intrinsic_fits i.Mod (q ∷ []) h g e = refl
  intrinsic_fits i.Mod (q ∷ z ∷ []) h g e = two_fit o.Mod refl refl q z (integers i.Mod (λ t k z f. left _ _ f) None 0 (q ∷ z ∷ []) h e) g
  intrinsic_fits i.Mod (q ∷ z ∷ y ∷ qs) h g e = refl
  intrinsic_fits i.Modulo [] h g e = refl
  intrinsic_fits i.Modulo (q ∷ []) h g e = refl
  intrinsic_fits i.Modulo (q ∷ z ∷ []) h g e = two_fit o.Modulo refl refl q z (integers i.Modulo (λ t k z f. left _ _ f) None 0 (q ∷ z ∷ []) h e) g
  intrinsic_fits i.Modulo (q ∷ z ∷ y ∷ qs) h g e = refl
  intrinsic_fits i.Max [] h g e = refl
  intrinsic_fits i.Max (q ∷ qs) h g e = more_fit o.Max refl refl q qs (integers i.Max (λ t k z f. left _ _ f) None 0 (q ∷ qs) h e) g
  intrinsic_fits i.Min [] h g e = refl
  intrinsic_fits i.Min (q ∷ qs) h g e = more_fit o.Min refl refl q qs (integers i.Min (λ t k z f. left _ _ f) None 0 (q ∷ qs) h e) g
  intrinsic_fits i.Size [] h g e = refl
  intrinsic_fits i.Size (q ∷ []) h g e = passed_fits p c false 0 q.0 g.0
  intrinsic_fits i.Size (q ∷ z ∷ []) h g e = bound_fits Extent q.0 z.0 g.0 g.1.0
  intrinsic_fits i.Size (q ∷ z ∷ y ∷ qs) h g e = refl
  intrinsic_fits i.LowerBound [] h g e = refl
  intrinsic_fits i.LowerBound (q ∷ []) h g e = refl
  intrinsic_fits i.LowerBound (q ∷ z ∷ []) h g e = bound_fits Lower q.0 z.0 g.0 g.1.0
  intrinsic_fits i.LowerBound (q ∷ z ∷ y ∷ qs) h g e = refl
  intrinsic_fits i.UpperBound [] h g e = refl
  intrinsic_fits i.UpperBound (q ∷ []) h g e = refl
  intrinsic_fits i.UpperBound (q ∷ z ∷ []) h g e = bound_fits Upper q.0 z.0 g.0 g.1.0
  intrinsic_fits i.UpperBound (q ∷ z ∷ y ∷ qs) h g e = refl
  intrinsic_fits i.Allocated qs h g e = allocated_fits (base s (typed_result i.Allocated (map unkeyed qs))) (map (λ (q : Pair). q.0) qs) g
  intrinsic_fits i.MoveAlloc qs h g e = refl
