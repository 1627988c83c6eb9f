-- Values of kinds.
use Rattle.std.proofs.Common.{◌≡◌, ◌∙◌, sym, ap, ℕ, zero, suc, ◌*◌, ◌^◌, ◌<◌, ℤ, pos, negsuc, neg_ℤ, Bool, true, false, ◌&&◌, ◌||◌, List, [], ◌∷◌, length, Some, refl, subst, if◌then◌else◌, arith}
use Rattle.std.specs.Prelude.{nat_eq, nat_lt, int_lt, int_le}
use Rattle.std.proofs.Math.Nat.{pow-zero, pow-suc}
use Rattle.std.proofs.lemmas.Bool.{ltb-true, lt-ltb, eqb-true}
use Rattle.f3_places.specs.declared.source.Place.{Place}
use Rattle.f3_program.specs.declared.declarations.Base.{Base}
use Rattle.f3_program.specs.declared.declarations.Base.TheVariants as base
use Rattle.f3_program.specs.declared.declarations.Derived.{Derived}
use Rattle.f3_program.specs.declared.declarations.Kind.{Kind}
use Rattle.f3_program.specs.declared.expression.BinaryOperator.{BinaryOperator}
use Rattle.f3_program.specs.declared.expression.BinaryOperator.TheVariants as o
use Rattle.f3_program.specs.declared.expression.Query.{Query}
use Rattle.f3_program.specs.declared.expression.UnaryOperator.{UnaryOperator}
use Rattle.f3_program.specs.declared.expression.UnaryOperator.TheVariants as u
use Rattle.f3_meaning_whole.specs.Value.{Span, Value, Number, Truth, Composite, Array, Unallocated, Allocated, Values, none, more, count, from_one, plain, spans_of, number_of}
use Rattle.f3_meaning_whole.specs.Arithmetic.{is_even, fits, value_fits, converted, divided, power, apply, change_of, is_zero}
use Rattle.f3_meaning_whole.specs.Act.{Here, derived_of, claim_for}
use Rattle.f3_meaning_whole.specs.Eval.{result, built, asked}
use Rattle.f3_meaning_whole.specs.Permitted.{same_type}
use Rattle.f3_meaning_whole.specs.Formed.{alike, is_number, of_kind, is_scalar, is_whole_number}
use Rattle.f3_cell_kinds.specs.Effect.{held_kind, unary_fits, binary_fits}
use Rattle.f3_cell_kinds.specs.Holds.{IsOf, AreElements}
use Rattle.f3_cell_kinds.proofs.Asked.{and_is, not_is, base_same, kind_same}
use Rattle.f3_cell_kinds.proofs.Yielding.{Yields, gives_yields, fails_yields, any_yields, bind_yields, if_yields}

-- a number of a type has at most 64 bits
below_word : (n : ℕ) → nat_lt n (2 ^ 31) ≡ true → nat_lt n (2 ^ 63) ≡ true
below_word n e = let h : n < 2147483648 = ltb-true n 2147483648 e in lt-ltb n 9223372036854775808 (omega arith)

fits_word : (t : Base) (z : ℤ) → fits t z ≡ true → fits base.Long z ≡ true
fits_word base.Integer (pos n) e = below_word n e
fits_word base.Integer (negsuc n) e = below_word n e
fits_word base.Long z e = e
fits_word base.Logical z e = e
fits_word (base.Derived t) z e = e

one_power : (n : ℕ) → 1 ^ n ≡ 1
one_power zero = pow-zero 1
one_power (suc n) = pow-suc 1 n ∙ (let h = one_power n in omega (arith, h))

one_fits : (b : Bool) (n : ℕ) → fits base.Long (if b then pos (1 ^ suc n) else neg_ℤ (pos (1 ^ suc n))) ≡ true
one_fits true n = ap (λ (m : ℕ). fits base.Long (pos m)) (one_power (suc n))
one_fits false n = ap (λ (m : ℕ). fits base.Long (neg_ℤ (pos m))) (one_power (suc n))

-- ---- what kinds exclude

pub no_truth : (t : Base) → is_number t ≡ true → same_type t base.Logical ≡ true → ⊥
no_truth base.Integer e f = cc
no_truth base.Long e f = cc
no_truth base.Logical e f = cc
no_truth (base.Derived t) e f = cc

pub no_derived : (types : List Derived) (t : Base) (y : Derived) → is_number t ≡ true → derived_of types t ≡ Some y → ⊥
no_derived types base.Integer y e f = cc
no_derived types base.Long y e f = cc
no_derived types base.Logical y e f = cc
no_derived types (base.Derived t) y e f = cc

pub no_rank : (n : ℕ) → nat_eq n 0 ≡ true → nat_lt 0 n ≡ true → ⊥
no_rank n e f = let same : n ≡ 0 = eqb-true n 0 e in let more : 0 < n = ltb-true 0 n f in absurd (omega arith)

pub no_both : (b : Bool) → b ≡ true → b ≡ false → ⊥
no_both b e f = cc

held_of : (k : Kind) → is_scalar k ≡ true → k.is_allocatable ≡ false
held_of k e = not_is _ (and_is _ _ e).0

module _ (types : List Derived) where
  number_value : (k : Kind) (v : Value) → is_whole_number k ≡ true → IsOf types k v → (z : ℤ) × (v ≡ Number z) × (fits base.Long z ≡ true)
  number_value k (Number z) e h = (z, refl, h.1)
  number_value k (Truth b) e h = absurd (no_truth k.of (and_is _ _ e).1 (and_is _ _ h).1)
  number_value k (Composite vs) e h = absurd (no_derived types k.of h.1 (and_is _ _ e).1 h.2)
  number_value k (Array ss vs) e h = absurd (no_rank k.rank (and_is _ _ (and_is _ _ e).0).1 h.1)
  number_value k Unallocated e h = absurd (no_both k.is_allocatable h (held_of k (and_is _ _ e).0))
  number_value k (Allocated v) e h = absurd (no_both k.is_allocatable h.0 (held_of k (and_is _ _ e).0))

  pub as_number : (k : Kind) (t : Base) (v : Value) → is_whole_number k ≡ true → is_number t ≡ true → IsOf types k v → IsOf types (of_kind t 0) v
  as_number k t v e f h =
      let x = number_value k v e h in
      subst (λ (w : Value). IsOf types (of_kind t 0) w) (sym x.1) (f, x.2)

  -- a number of a type, and a truth value
  number_of_kind : (t : Base) (z : ℤ) → is_number t ≡ true → fits t z ≡ true → IsOf types (of_kind t 0) (Number z)
  number_of_kind t z e f = (e, fits_word t z f)

  converted_yields : (t : Base) (z : ℤ) (place : Place) → is_number t ≡ true → Yields (IsOf types (of_kind t 0)) (converted t (Number z) place)
  unfolding converted
  converted_yields t z place e = if_yields (fits t z) (λ f. gives_yields (Number z) (number_of_kind t z e f)) (λ f. fails_yields _ place)

  divided_yields : (y : ℤ) (t : Base) (z : ℤ) (place : Place) → is_number t ≡ true → Yields (IsOf types (of_kind t 0)) (divided y t z place)
  unfolding divided
  divided_yields y t z place e = if_yields (is_zero y) (λ f. fails_yields _ place) (λ f. converted_yields t z place e)

  power_yields : (x y : ℤ) (t : Base) (place : Place) → is_number t ≡ true → Yields (IsOf types (of_kind t 0)) (power x y t place)
  power_yields x (pos n) t place e = converted_yields t _ place e
  power_yields (pos zero) (negsuc n) t place e = fails_yields _ place
  power_yields (pos (suc zero)) (negsuc n) t place e = gives_yields _ (e, refl)
  power_yields (pos (suc (suc x))) (negsuc n) t place e = gives_yields _ (e, refl)
  power_yields (negsuc zero) (negsuc n) t place e = gives_yields _ (e, one_fits (is_even (suc n)) n)
  power_yields (negsuc (suc x)) (negsuc n) t place e = gives_yields _ (e, refl)

  -- ---- operators

  chosen : (b : Bool) (t : Base) (k j : Kind) (x y : Value) → is_number t ≡ true → is_whole_number k ≡ true → is_whole_number j ≡ true → IsOf types k x → IsOf types j y →
      IsOf types (of_kind t 0) (if b then y else x)
  chosen true t k j x y e f g h l = as_number j t y g e l
  chosen false t k j x y e f g h l = as_number k t x f e h

  pub apply_yields : (c : BinaryOperator) (t : Base) (k j : Kind) (x y : Value) (place : Place) → binary_fits c t k j ≡ true → IsOf types k x → IsOf types j y →
      Yields (IsOf types (of_kind t 0)) (apply c t x y place)
  apply_yields o.Add t k j x y place e h f = converted_yields t _ place (and_is _ _ e).0
  apply_yields o.Subtract t k j x y place e h f = converted_yields t _ place (and_is _ _ e).0
  apply_yields o.Multiply t k j x y place e h f = converted_yields t _ place (and_is _ _ e).0
  apply_yields o.Divide t k j x y place e h f = divided_yields _ t _ place (and_is _ _ e).0
  apply_yields o.Power t k j x y place e h f = power_yields _ _ t place (and_is _ _ e).0
  apply_yields o.Mod t k j x y place e h f = divided_yields _ t _ place (and_is _ _ e).0
  apply_yields o.Modulo t k j x y place e h f = divided_yields _ t _ place (and_is _ _ e).0
  apply_yields o.Max t k j x y place e h f =
      let a = and_is _ _ e in let b = and_is _ _ a.1 in
      gives_yields _ (chosen (int_lt (number_of x) (number_of y)) t k j x y a.0 b.0 b.1 h f)
  apply_yields o.Min t k j x y place e h f =
      let a = and_is _ _ e in let b = and_is _ _ a.1 in
      gives_yields _ (chosen (int_lt (number_of y) (number_of x)) t k j x y a.0 b.0 b.1 h f)
  apply_yields c t k j x y place e h f = gives_yields _ (and_is _ _ e).0

  pub change_yields : (c : UnaryOperator) (t : Base) (k : Kind) (x : Value) (place : Place) → unary_fits c t k ≡ true → IsOf types k x →
      Yields (IsOf types (of_kind t 0)) (change_of c t x place)
  change_yields u.Negate t k x place e h = converted_yields t _ place (and_is _ _ e).0
  change_yields u.Absolute t k x place e h = converted_yields t _ place (and_is _ _ e).0
  change_yields u.Not t k x place e h = gives_yields _ (and_is _ _ e).0

  -- ---- results and bounds

  pub same_count : (ss : List Span) → count (from_one ss) ≡ count ss
  same_count [] = refl
  same_count (s ∷ ss) = ap (λ n. s.extent * n) (same_count ss)

  pub same_length : (ss : List Span) → length (from_one ss) ≡ length ss
  same_length [] = refl
  same_length (s ∷ ss) = ap suc (same_length ss)

  pub plain_is : (k : Kind) (v : Value) → IsOf types k v → IsOf types k (plain v)
  plain_is k (Array ss vs) h = (h.0, h.1, same_length ss ∙ h.2, h.3 ∙ sym (same_count ss), h.4)
  plain_is k (Number z) h = h
  plain_is k (Truth b) h = h
  plain_is k (Composite vs) h = h
  plain_is k Unallocated h = h
  plain_is k (Allocated v) h = h

  same_held : (k : Kind) (v : Value) → k.is_allocatable ≡ false → IsOf types k v → IsOf types (held_kind k) v
  same_held k v e h = subst (λ (j : Kind). IsOf types j v) (kind_same k k.of k.rank false refl refl e) h

  pub result_yields : (k : Kind) (v : Value) (here : Here) → IsOf types k v → Yields (IsOf types (held_kind k)) (result v here)
  result_yields k (Allocated v) here h = gives_yields _ (plain_is (held_kind k) v h.1)
  result_yields k Unallocated here h = fails_yields _ here.place
  result_yields k (Number z) here h = gives_yields _ (same_held k (Number z) (held_of k (and_is _ _ h.0).0) h)
  result_yields k (Truth b) here h = gives_yields _ (same_held k (Truth b) (held_of k (and_is _ _ h).0) h)
  result_yields k (Composite vs) here h = gives_yields _ (same_held k (Composite vs) (held_of k h.0) h)
  result_yields k (Array ss vs) here h = gives_yields _ (plain_is (held_kind k) (Array ss vs) (same_held k (Array ss vs) h.0 h))

  pub built_yields : (P : Value → Type 0) (v : Value) (here : Here) → P v → Yields P (built v here)
  built_yields P v here h = bind_yields (any_yields (claim_for v here)) (λ done t. gives_yields v h)

  pub asked_yields : (q : Query) (ss : List Span) (z : ℤ) (here : Here) → Yields (IsOf types (of_kind base.Integer 0)) (asked q ss z here)
  asked_yields q [] z here = fails_yields _ here.place
  asked_yields q (s ∷ ss) z here = if_yields (int_le z (pos 0)) (λ e. fails_yields _ here.place)
      (λ e. if_yields (int_le z (pos 1)) (λ f. converted_yields base.Integer _ here.place refl) (λ f. asked_yields q ss _ here))

  pub size_yields : (z : ℤ) (place : Place) → Yields (IsOf types (of_kind base.Integer 0)) (converted base.Integer (Number z) place)
  size_yields z place = converted_yields base.Integer z place refl

  -- a whole number as one of another type
  pub convert_yields : (k : Kind) (t : Base) (v : Value) (place : Place) → is_whole_number k ≡ true → is_number t ≡ true → IsOf types k v →
      Yields (IsOf types (of_kind t 0)) (converted t v place)
  unfolding converted
  convert_yields k t v place e f h = if_yields (value_fits t v) (λ g. gives_yields v (as_number k t v e f h)) (λ g. fails_yields _ place)

  -- the rank of a value
  pub rank_is : (k : Kind) (v : Value) → k.is_allocatable ≡ false → IsOf types k v → length (spans_of v) ≡ k.rank
  rank_is k (Number z) e h = sym (eqb-true k.rank 0 (and_is _ _ (and_is _ _ h.0).0).1)
  rank_is k (Truth b) e h = sym (eqb-true k.rank 0 (and_is _ _ (and_is _ _ h).0).1)
  rank_is k (Composite vs) e h = sym (eqb-true k.rank 0 (and_is _ _ h.0).1)
  rank_is k (Array ss vs) e h = h.2
  rank_is k Unallocated e h = absurd (no_both k.is_allocatable h e)
  rank_is k (Allocated v) e h = absurd (no_both k.is_allocatable h.0 e)

  -- ---- integers of either kind are one

  alike_base : (t s : Base) → alike t s ≡ true → is_number s ≡ false → t ≡ s
  alike_base t s e f = base_same t s (other (is_number t) (is_number s) (same_type t s) f e)
    where
      other : (a b d : Bool) → b ≡ false → ((a && b) || d) ≡ true → d ≡ true
      other true true d f e = cc
      other true false d f e = e
      other false b d f e = e

  alike_number : (t s : Base) → alike t s ≡ true → is_number s ≡ true → is_number t ≡ true
  alike_number base.Integer s e f = refl
  alike_number base.Long s e f = refl
  alike_number base.Logical base.Integer e f = cc
  alike_number base.Logical base.Long e f = cc
  alike_number base.Logical base.Logical e f = cc
  alike_number base.Logical (base.Derived u) e f = cc
  alike_number (base.Derived t) base.Integer e f = cc
  alike_number (base.Derived t) base.Long e f = cc
  alike_number (base.Derived t) base.Logical e f = cc
  alike_number (base.Derived t) (base.Derived u) e f = cc

  mutual
    numbers_alike : (t s : Base) (n : ℕ) (v : Value) → is_number t ≡ true → is_number s ≡ true → IsOf types (of_kind s n) v → IsOf types (of_kind t n) v
    numbers_alike t s n (Number z) e f h = (swap (nat_eq n 0) h.0, h.1)
      where
        swap : (b : Bool) → (b && is_number s) ≡ true → (b && is_number t) ≡ true
        swap true g = e
        swap false g = cc
    numbers_alike t s n (Truth b) e f h = absurd (no_truth s f (and_is _ _ h).1)
    numbers_alike t s n (Composite vs) e f h = absurd (no_derived types s h.1 f h.2)
    numbers_alike t s n (Array ss vs) e f h = (h.0, h.1, h.2, h.3, elements_alike t s vs e f h.4)
    numbers_alike t s n Unallocated e f h = cc
    numbers_alike t s n (Allocated v) e f h = absurd (no_both false h.0 refl)

    elements_alike : (t s : Base) (vs : Values) → is_number t ≡ true → is_number s ≡ true → AreElements types (of_kind s 0) vs → AreElements types (of_kind t 0) vs
    elements_alike t s none e f h = tt
    elements_alike t s (more v vs) e f h = (numbers_alike t s 0 v e f h.0, elements_alike t s vs e f h.1)

  alike_by : (b : Bool) (t s : Base) (n : ℕ) (v : Value) → is_number s ≡ b → alike t s ≡ true → IsOf types (of_kind s n) v → IsOf types (of_kind t n) v
  alike_by true t s n v f e h = numbers_alike t s n v (alike_number t s e f) f h
  alike_by false t s n v f e h = subst (λ (x : Base). IsOf types (of_kind x n) v) (sym (alike_base t s e f)) h

  pub alike_is : (t : Base) (k : Kind) (v : Value) → alike t k.of ≡ true → k.is_allocatable ≡ false → IsOf types k v → IsOf types (of_kind t k.rank) v
  alike_is t k v e f h = alike_by (is_number k.of) t k.of k.rank v refl e (same_held k v f h)
