-- Operands of chains of operators, one by one from the last.
use Rattle.std.proofs.Common.{◌≡◌, ◌+◌, ◌≤◌, ℕ, suc, List, [], ◌∷◌, ◌++◌, sym, ap, ◌∙◌, append_assoc, arith, Option}
use Rattle.std.specs.Borrow.{Bor}
use Rattle.std.proofs.Common.{Box, Global}
use Rattle.f3_program.specs.declared.declarations.Base.{Base}
use Rattle.f3_program.specs.declared.expression.BinaryOperator.{BinaryOperator}
use Rattle.std.specs.List.{flat_map}
use Rattle.std.proofs.lemmas.Grind.{flat_map-append}
use Rattle.std.proofs.lemmas.List.{append-nil}
use Rattle.f3_places.specs.declared.source.Place.{Place}
use Rattle.f3_program.specs.declared.expression.Expression.{Expression, size-Expression}
use Rattle.f3_program.specs.declared.expression.Expression as e
use Rattle.f3_program.specs.declared.expression.Expression.TheVariants as variants
use Rattle.f3_code.specs.State as c
use Rattle.f3_code.specs.Code.{value_code}

-- how many operators on two operands and how many operands a chain has
abbrev pub turns : Expression → ℕ
turns (e.Binary' c t p x q y) = suc (turns x + turns y)
turns _ = 1

pub turns_some : (x : Expression) → 1 ≤ turns x
turns_some (e.Binary' c t p x q y) = omega arith
turns_some (e.Literal c) = omega arith
turns_some (e.Variable' p x) = omega arith
turns_some (e.Group' p x) = omega arith
turns_some (e.Unary' c t p x) = omega arith
turns_some (e.Array' k xs) = omega arith
turns_some (e.Structure' t k xs) = omega arith
turns_some (e.Call' f k xs) = omega arith
turns_some (e.Allocated' p x) = omega arith
turns_some (e.Size' p x) = omega arith
turns_some (e.Bound' c p x q y) = omega arith

-- what is left before a chain's operator is emitted is what is left behind, with the operator
pub opened : (o : Option Place) (w v : List (Bor Expression)) (x : Bor Expression) (y z : Expression) (l : c.Line)
    → v ≡ w ++ x ∷ [] → value_code o z ≡ value_code o x.now ++ (value_code o y ++ l ∷ [])
    → (flat_map (λ r. value_code o r.now) v ++ value_code o y) ++ l ∷ [] ≡ flat_map (λ r. value_code o r.now) w ++ value_code o z
opened o w v x y z l pushed is =
    let f : Bor Expression → List c.Line = λ r. value_code o r.now in
    ap (λ v. (flat_map f v ++ value_code o y) ++ l ∷ []) pushed ∙ ap (λ u. (u ++ value_code o y) ++ l ∷ []) (flat_map-append f w (x ∷ []) ∙ ap (λ u. flat_map f w ++ u) (append-nil (f x)))
    ∙ simp append_assoc (ap (λ u. flat_map f w ++ u) (sym is))

-- and the same of an operand
pub passed : (o : Option Place) (w v : List (Bor Expression)) (x : Bor Expression)
    → w ≡ v ++ x ∷ [] → flat_map (λ r. value_code o r.now) v ++ value_code o x.now ≡ flat_map (λ r. value_code o r.now) w
passed o w v x popped =
    let f : Bor Expression → List c.Line = λ r. value_code o r.now in
    ap (λ u. flat_map f v ++ u) (sym (append-nil (f x))) ∙ sym (ap (flat_map f) popped ∙ flat_map-append f v (x ∷ []))

pub first_smaller : (c : BinaryOperator) (t : Base) (x y : Box Expression Global) → size-Expression x.value ≤ size-Expression (e.Binary c t x y)
first_smaller c t x y = rw (e.size_is-Expression (e.Binary c t x y), variants.outs-Binary) (omega arith)

pub second_smaller : (c : BinaryOperator) (t : Base) (x y : Box Expression Global) → size-Expression y.value ≤ size-Expression (e.Binary c t x y)
second_smaller c t x y = rw (e.size_is-Expression (e.Binary c t x y), variants.outs-Binary) (omega arith)
