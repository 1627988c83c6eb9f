-- Operands of one level, in runs between two powers.
use Rattle.std.proofs.Common.{◌≡◌, refl, ℕ, suc, ◌+◌, ◌-◌, ◌<◌, ◌≤◌, length, drop, take, get_or, List, [], ◌∷◌, map, Bool, true, false, cond, Option, None, Some, ap, ◌∙◌, sym, subst, arith}
use Rattle.std.proofs.lemmas.List.{at_drop_more, at_drop_all}
use Rattle.f3_tree.specs.declared.expression.Operator.{Operator}
use Rattle.f3_tree.specs.declared.expression.Operator.TheVariants.{Power, Multiply, Divide, Add, Subtract, And, Or, Equivalent, NotEquivalent}
use Rattle.f3_tree.specs.declared.expression.Expression.{Expression}
use Rattle.f3_tree.specs.Expressions.{Tree, expression_view, rest_of}
use Rattle.f3_scopes.specs.Names.{operand_view}
use Rattle.f3_kinds.specs.declared.types.Scalar.{Scalar}
use Rattle.f3_kinds.specs.Things.{Context}
use Rattle.f3_kinds.specs.Values.{apply, is_power, value_of, chain_value}
use Rattle.f3_values.specs.Inner.Chains.{run, raised_to}

-- what is shown of a tree holds of what it is the view of
pub value_view : (c : Context) (e e' : Expression) (t : Tree) (s : Option Scalar) → e ≡ e' → expression_view e' ≡ t → s ≡ value_of c t → s ≡ value_of c (expression_view e)
value_view c e e' t s is v h = h ∙ ap (value_of c) (sym (ap expression_view is ∙ v))

abbrev Operand : Type 0
Operand = Operator × Expression

-- from one place up to another
abbrev pub between : ℕ → ℕ → List Operand → List Operand
between from to xs = take (to - from) (drop from xs)

between_more : (xs : List Operand) (i to : ℕ) (x : Operand) → i < to → to ≤ length xs → x ≡ get_or xs i x → between i to xs ≡ x ∷ between (i + 1) to xs
between_more xs i to x lt le is =
    let one_more : to - i ≡ suc (to - (i + 1)) = omega arith in
    ap (λ n. take n (drop i xs)) one_more ∙ at_drop_more (take (suc (to - (i + 1)))) xs i x (omega arith) ∙ ap (λ (z : Operand). z ∷ between (i + 1) to xs) (sym is)

between_none : (xs : List Operand) (i : ℕ) → between i i xs ≡ []
between_none xs i = let none : i - i ≡ 0 = omega arith in ap (λ n. take n (drop i xs)) none

pub between_all : (xs : List Operand) (i to : ℕ) → to ≤ i → between i to xs ≡ []
between_all xs i to le = let none : to - i ≡ 0 = omega arith in ap (λ n. take n (drop i xs)) none

pub run_more : (c : Context) (xs : List Operand) (i to : ℕ) (x : Operand) (v w whole : Option Scalar) → i < to → to ≤ length xs → x ≡ get_or xs i x → w ≡ apply x.0 v (value_of c (expression_view x.1))
    → run c v (between i to xs) ≡ whole → run c w (between (i + 1) to xs) ≡ whole
run_more c xs i to x v w whole lt le is e h = ap (λ y. run c y (between (i + 1) to xs)) e ∙ ap (run c v) (sym (between_more xs i to x lt le is)) ∙ h

pub run_done : (c : Context) (xs : List Operand) (i to : ℕ) (v whole : Option Scalar) → to ≤ i → run c v (between i to xs) ≡ whole → v ≡ whole
run_done c xs i to v whole le h = sym (ap (run c v) (between_all xs i to le)) ∙ h

-- the chain of all operands from a place on, by the run up to the next power
pub record Follows (c : Context) (xs : List Operand) (i to : ℕ) (exponent : Option (Option Scalar)) : Type 0 where
  pub follows : (v : Option Scalar) → chain_value c v (rest_of (map operand_view (drop i xs))) ≡ raised_to (run c v (between i to xs)) exponent

abbrev chain_from : Context → List Operand → ℕ → Option Scalar → Option Scalar
chain_from c xs i v = chain_value c v (rest_of (map operand_view (drop i xs)))

chain_more : (c : Context) (xs : List Operand) (i : ℕ) (x : Operand) (v : Option Scalar) → i < length xs → x ≡ get_or xs i x
    → chain_from c xs i v ≡ cond (is_power x.0) (apply x.0 v (chain_from c xs (i + 1) (value_of c (expression_view x.1)))) (chain_from c xs (i + 1) (apply x.0 v (value_of c (expression_view x.1))))
chain_more c xs i x v lt is =
    at_drop_more (λ ys. chain_value c v (rest_of (map operand_view ys))) xs i x lt ∙ ap (λ (z : Operand). chain_value c v (rest_of (map operand_view (z ∷ drop (i + 1) xs)))) (sym is)

when_false : (b : Bool) (x y : Option Scalar) → b ≡ false → cond b x y ≡ y
when_false b x y e = ap (λ t. cond t x y) e

when_true : (b : Bool) (x y : Option Scalar) → b ≡ true → cond b x y ≡ x
when_true b x y e = ap (λ t. cond t x y) e

power_only : (o : Operator) → is_power o ≡ true → o ≡ Power
power_only Power e = refl
power_only Multiply e = cc
power_only Divide e = cc
power_only Add e = cc
power_only Subtract e = cc
power_only And e = cc
power_only Or e = cc
power_only Equivalent e = cc
power_only NotEquivalent e = cc

pub follows_at : (c : Context) (xs : List Operand) (i j to : ℕ) (exponent : Option (Option Scalar)) → i ≡ j → Follows c xs i to exponent → Follows c xs j to exponent
follows_at c xs i j to exponent e h = let P : ℕ → Type 0 = λ n. Follows c xs n to exponent in subst P e h

pub follows_run : (c : Context) (xs : List Operand) (i to : ℕ) (x : Operand) (exponent : Option (Option Scalar)) → i < to → to ≤ length xs → x ≡ get_or xs i x → is_power x.0 ≡ false
    → Follows c xs (i + 1) to exponent → Follows c xs i to exponent
follows_run c xs i to x exponent lt le is other h = record {
  follows = λ v.
      chain_more c xs i x v (omega arith) is
      ∙ when_false (is_power x.0) _ _ other
      ∙ h.follows (apply x.0 v (value_of c (expression_view x.1)))
      ∙ ap (λ ys. raised_to (run c v ys) exponent) (sym (between_more xs i to x lt le is));
}

pub follows_power : (c : Context) (xs : List Operand) (i to : ℕ) (x : Operand) (exponent : Option (Option Scalar)) (above : Option Scalar) → i < length xs → x ≡ get_or xs i x → is_power x.0 ≡ true
    → above ≡ raised_to (run c (value_of c (expression_view x.1)) (between (i + 1) to xs)) exponent
    → Follows c xs (i + 1) to exponent → Follows c xs i i (Some above)
follows_power c xs i to x exponent above lt is power e h = record {
  follows = λ v.
      chain_more c xs i x v lt is
      ∙ when_true (is_power x.0) _ _ power
      ∙ ap (λ y. apply x.0 v y) (h.follows (value_of c (expression_view x.1)) ∙ sym e)
      ∙ ap (λ o. apply o v above) (power_only x.0 power)
      ∙ ap (λ ys. raised_to (run c v ys) (Some above)) (sym (between_none xs i));
}

pub follows_end : (c : Context) (xs : List Operand) (i : ℕ) → length xs ≤ i → Follows c xs i i None
follows_end c xs i le = record {
  follows = λ v. at_drop_all (λ ys. chain_value c v (rest_of (map operand_view ys))) xs i le ∙ ap (run c v) (sym (between_none xs i));
}
