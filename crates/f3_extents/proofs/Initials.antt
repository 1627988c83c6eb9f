-- Initializers.
use Rattle.std.proofs.Common.{◌≡◌, ℕ, ◌<◌, ◌-◌, ◌^◌, List, [], ◌∷◌, Bool, true, false, ◌&&◌, nat_eq, map, length, Option, refl, ap, sym, ◌∙◌, arith}
use Rattle.std.specs.List.{list_all}
use Rattle.std.proofs.lemmas.Bool.Decides.{nat_tests}
use Rattle.f3_tree.specs.declared.expression.Expression.{Expression}
use Rattle.f3_tree.specs.Expressions.{Tree, integer, truth, text, designator, group, array, signed, negation, comparison, chain, trees_of, expression_view}
use Rattle.f3_kinds.specs.declared.types.DataType.{DataType}
use Rattle.f3_kinds.specs.Things.{Context}
use Rattle.f3_kinds.specs.Values.{value_of, converted, has_value}
use Rattle.f3_type_rules.specs.Shapes.{all_converted, count, initial_fits}
use Rattle.f3_extents.specs.Counts.{capped}

pub all_convertible : (c : Context) (t : DataType) (xs : List Expression)
    → list_all (λ (e : Expression). has_value (converted t (value_of c (expression_view e)))) xs ≡ all_converted c t (trees_of (map expression_view xs))
all_convertible c t [] = refl
all_convertible c t (x ∷ xs) = ap (λ b. has_value (converted t (value_of c (expression_view x))) && b) (all_convertible c t xs)

pub count_length : (xs : List Expression) → length xs ≡ count (trees_of (map expression_view xs))
count_length [] = refl
count_length (x ∷ xs) = let e : length xs ≡ count (trees_of (map expression_view xs)) = count_length xs in omega arith

pub same_count : (m n : ℕ) → m < 2 ^ 64 - 1 → nat_eq m (capped n) ≡ nat_eq m n
same_count m n h = grind (arith, nat_tests)

-- no array constructor
abbrev pub is_other : Tree → Bool
is_other (array p es) = false
is_other _ = true

fits_other : (c : Context) (t : DataType) (rank : ℕ) (n : Option ℕ) (e : Tree) → is_other e ≡ true → initial_fits c t rank n e ≡ has_value (converted t (value_of c e))
fits_other c t rank n (array p es) h = cc
fits_other c t rank n (integer p k) h = refl
fits_other c t rank n (truth p b) h = refl
fits_other c t rank n (text p k) h = refl
fits_other c t rank n (designator ps) h = refl
fits_other c t rank n (group p e) h = refl
fits_other c t rank n (signed p s e) h = refl
fits_other c t rank n (negation p e) h = refl
fits_other c t rank n (comparison e r f) h = refl
fits_other c t rank n (chain e os) h = refl

pub other_fits : (c : Context) (t : DataType) (rank : ℕ) (n : Option ℕ) (e : Tree) (view : Tree) (result : Bool) → e ≡ view → is_other view ≡ true
    → result ≡ has_value (converted t (value_of c e)) → result ≡ initial_fits c t rank n e
other_fits c t rank n e view result is other h = h ∙ sym (fits_other c t rank n e (ap is_other is ∙ other))
