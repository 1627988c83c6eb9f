-- Operands of one level in two passes: from the left, and then the powers from the last.
use Rattle.std.proofs.Common.{◌≡◌, List, [], ◌∷◌, ◌++◌, map, Bool, true, refl, ap, sym, ◌∙◌, if◌then◌else◌}
use Rattle.std.proofs.lemmas.List.{map-append}
use Rattle.f3_tree.specs.declared.expression.Operator.{Operator}
use Rattle.f3_tree.specs.declared.expression.Operator.TheVariants.{Power, Multiply, Divide, Add, Subtract, And, Or, Equivalent, NotEquivalent}
use Rattle.f3_elaboration.specs.Context.{Surroundings}
use Rattle.f3_elaboration.specs.Expressions.{Operand, is_power, joined}
use Rattle.f3_expression_parts.specs.declared.operators.Operand as memory
use Rattle.f3_expression_parts.specs.Parts.{operand_of}
use Rattle.f3_expression_nodes.specs.Inner.Lists.{further_of}
use Rattle.f3_expression_nodes.specs.Inner.Operands.{Further, chained, raised}

pub raised_more : (s : Surroundings) (xs : List Operand) (x y : Operand) → raised s (xs ++ (x ∷ [])) y ≡ raised s xs (joined s Power x y)
raised_more s [] x y = refl
raised_more s (z ∷ zs) x y = ap (λ (w : Operand). joined s Power z w) (raised_more s zs x y)

pub the_power : (o : Operator) → is_power o ≡ true → o ≡ Power
the_power Power h = refl
the_power Multiply h = cc
the_power Divide h = cc
the_power Add h = cc
the_power Subtract h = cc
the_power And h = cc
the_power Or h = cc
the_power Equivalent h = cc
the_power NotEquivalent h = cc

-- a power waits for what stands behind it
pub chained_power : (s : Surroundings) (xs : List Operand) (x : Operand) (o : Operator) (y : Operand) (ys : List Further) → is_power o ≡ true
    → raised s (xs ++ (x ∷ [])) (chained s y ys) ≡ raised s xs (chained s x ((o, y) ∷ ys))
chained_power s xs x o y ys h =
    raised_more s xs x (chained s y ys)
    ∙ ap (λ (p : Operator). raised s xs (joined s p x (chained s y ys))) (sym (the_power o h))
    ∙ ap (λ (b : Bool). raised s xs (if b then joined s o x (chained s y ys) else chained s (joined s o x y) ys)) (sym h)

-- the last base, raised to what stands behind it
pub popped : (s : Surroundings) (xs rest : List memory.Operand) (x y found : memory.Operand) (whole : Operand) → xs ≡ rest ++ (x ∷ [])
    → operand_of found ≡ joined s Power (operand_of x) (operand_of y) → raised s (map operand_of xs) (operand_of y) ≡ whole
    → raised s (map operand_of rest) (operand_of found) ≡ whole
popped s xs rest x y found whole e made h =
    ap (raised s (map operand_of rest)) made
    ∙ sym (raised_more s (map operand_of rest) (operand_of x) (operand_of y))
    ∙ ap (λ zs. raised s zs (operand_of y)) (sym (ap (map operand_of) e ∙ map-append operand_of rest (x ∷ [])))
    ∙ h

-- a base that waits
pub pushed : (s : Surroundings) (xs after : List memory.Operand) (x y : memory.Operand) (o : Operator) (ys rest : List (Operator × memory.Operand)) (whole : Operand)
    → is_power o ≡ true → after ≡ xs ++ (x ∷ []) → ys ≡ (o, y) ∷ rest
    → raised s (map operand_of xs) (chained s (operand_of x) (map further_of ys)) ≡ whole
    → raised s (map operand_of after) (chained s (operand_of y) (map further_of rest)) ≡ whole
pushed s xs after x y o ys rest whole p e t h =
    ap (λ zs. raised s zs (chained s (operand_of y) (map further_of rest))) (ap (map operand_of) e ∙ map-append operand_of xs (x ∷ []))
    ∙ chained_power s (map operand_of xs) (operand_of x) o (operand_of y) (map further_of rest) p
    ∙ ap (λ zs. raised s (map operand_of xs) (chained s (operand_of x) (map further_of zs))) (sym t)
    ∙ h
