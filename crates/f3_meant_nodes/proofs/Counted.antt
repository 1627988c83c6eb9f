-- Intrinsic functions by what they make of lists of values.
use Rattle.std.proofs.Common.{◌≡◌, List, [], ◌∷◌, refl}
use Rattle.f3_program.specs.declared.declarations.Base.{Base}
use Rattle.f3_program.specs.declared.expression.BinaryOperator.TheVariants as o
use Rattle.f3_program.specs.declared.expression.Query.TheVariants.{Lower, Upper}
use Rattle.f3_kinds.specs.declared.things.Intrinsic.TheVariants as intrinsic
use Rattle.f3_elaboration.specs.Nodes.{ExpressionNode}
use Rattle.f3_elaboration.specs.Expressions.{intrinsic_value}
use Rattle.f3_meant_nodes.specs.Inner.Values.{bound_of_two, nested_of, operation_of_two}

pub mod_is : (of : Base) (xs : List ExpressionNode) → operation_of_two o.Mod of xs ≡ intrinsic_value of intrinsic.Mod xs
mod_is of [] = refl
mod_is of (x ∷ []) = refl
mod_is of (x ∷ y ∷ []) = refl
mod_is of (x ∷ y ∷ z ∷ zs) = refl

pub modulo_is : (of : Base) (xs : List ExpressionNode) → operation_of_two o.Modulo of xs ≡ intrinsic_value of intrinsic.Modulo xs
modulo_is of [] = refl
modulo_is of (x ∷ []) = refl
modulo_is of (x ∷ y ∷ []) = refl
modulo_is of (x ∷ y ∷ z ∷ zs) = refl

pub lower_is : (of : Base) (xs : List ExpressionNode) → bound_of_two Lower xs ≡ intrinsic_value of intrinsic.LowerBound xs
lower_is of [] = refl
lower_is of (x ∷ []) = refl
lower_is of (x ∷ y ∷ []) = refl
lower_is of (x ∷ y ∷ z ∷ zs) = refl

pub upper_is : (of : Base) (xs : List ExpressionNode) → bound_of_two Upper xs ≡ intrinsic_value of intrinsic.UpperBound xs
upper_is of [] = refl
upper_is of (x ∷ []) = refl
upper_is of (x ∷ y ∷ []) = refl
upper_is of (x ∷ y ∷ z ∷ zs) = refl

pub max_is : (of : Base) (xs : List ExpressionNode) → nested_of o.Max of xs ≡ intrinsic_value of intrinsic.Max xs
max_is of [] = refl
max_is of (x ∷ xs) = refl

pub min_is : (of : Base) (xs : List ExpressionNode) → nested_of o.Min of xs ≡ intrinsic_value of intrinsic.Min xs
min_is of [] = refl
min_is of (x ∷ xs) = refl
