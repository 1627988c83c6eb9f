-- References to intrinsic functions are scalars of the types that are said.
use Rattle.std.proofs.Common.{◌≡◌, ℕ, ◌+◌, true, false, ◌&&◌, not, List, [], ◌∷◌, length, map, Option, Some, None, refl, sym, ap, ◌∙◌, nat_lt}
use Rattle.std.specs.Prelude.{⊤, ◌==◌}
use Rattle.f3_program.specs.declared.declarations.Base.{Base}
use Rattle.f3_program.specs.declared.declarations.Base.TheVariants as base_is
use Rattle.f3_program.specs.declared.declarations.Declared.{Declared}
use Rattle.f3_program.specs.declared.declarations.Kind.{Kind}
use Rattle.f3_program.specs.declared.expression.BinaryOperator.{BinaryOperator}
use Rattle.f3_program.specs.declared.expression.Query.{Query}
use Rattle.f3_program.specs.declared.program.Program.{Program}
use Rattle.f3_kinds.specs.declared.types.DataType.{DataType}
use Rattle.f3_kinds.specs.declared.types.DataType.TheVariants.{Integer, Logical}
use Rattle.f3_tree.specs.declared.expression.IntegerKind.TheVariants.{Four}
use Rattle.f3_kinds.specs.declared.types.Wanted.TheVariants as wanted
use Rattle.f3_kinds.specs.declared.said.Form.TheVariants.{Computed}
use Rattle.f3_kinds.specs.declared.said.Has.{Has}
use Rattle.f3_kinds.specs.declared.said.Said.{Said}
use Rattle.f3_kinds.specs.declared.said.Given as said
use Rattle.f3_kinds.specs.declared.said.Given.TheVariants.{Value, Triplet}
use Rattle.f3_kinds.specs.declared.things.Intrinsic.{Intrinsic}
use Rattle.f3_kinds.specs.declared.things.Intrinsic.TheVariants as i
use Rattle.f3_kinds.specs.Things.{map_or}
use Rattle.f3_kinds.specs.Rows.{has_type, is_known, fits, unless}
use Rattle.f3_kinds.specs.Operands.{type_in}
use Rattle.f3_kinds.specs.Calls.{least_count, is_within, actual_fits, actual_right, actual_rows, or_first, integer_type, typed_result}
use Rattle.f3_meaning_whole.specs.Permitted.{Each}
use Rattle.f3_meaning_whole.specs.Formed.{of_kind, found, only, is_number, is_whole_number, Given}
use Rattle.f3_elaboration.specs.Nodes as n
use Rattle.f3_elaboration.specs.Nodes.{ExpressionNode, ArgumentNode}
use Rattle.f3_elaboration.specs.Context.{Surroundings, base}
use Rattle.f3_elaboration.specs.Expressions as x
use Rattle.f3_elaboration.specs.Expressions.{intrinsic_value, nested, given_value, asked, itself, is_whole_allocatable}
use Rattle.f3_lawful_laws.proofs.Facts.{no, first, second, holds, left, right, otherwise, when_true}
use Rattle.f3_lawful_laws.proofs.Intrinsics.{IsPlain}
use Rattle.f3_formed_laws.specs.Nodes.{value_kind, argument}
use Rattle.f3_formed_laws.proofs.Bases.{alike_numbers, alike_equal}
use Rattle.f3_formed_laws.proofs.Alike.{IsKind, IsOf, IsGiven, AreGiven}
use Rattle.f3_formed_laws.proofs.Scalars.{Scalar, scalar, typed_of}
use Rattle.f3_formed_laws.proofs.Operators.{plain_as, unary_is, binary_is, type_number}
use Rattle.f3_formed_laws.proofs.Holding.{itself_kind}
use Rattle.f3_formed_laws.proofs.Passing.{held_by}
use Rattle.f3_formed_laws.proofs.Selecting.{positive}

-- a value with what is said of it
abbrev pub Pair : Type 0
Pair = ExpressionNode × Said

abbrev pub unkeyed : Pair → said.Given
unkeyed q = Value None q.1

-- each but MOVE_ALLOC
abbrev pub IsFunction : Intrinsic → Type 0
IsFunction i.MoveAlloc = ⊥
IsFunction r = ⊤

abbrev pub result_as : Option DataType → Has
result_as t = record { data_type = t; rank = 0; is_allocatable = false; form = Computed }

module _ (p : Program) (vs : List Declared) (ns : List Kind) (s : Surroundings) where
  -- arguments without a break have no keywords
  pub record Zipped (gs : List x.Given) (ys : List said.Given) : Type 0 where
    pub pairs : List Pair
    pub nodes : map given_value gs ≡ map (λ (q : Pair). q.0) pairs
    pub saids : ys ≡ map unkeyed pairs
    pub are : Each (λ (q : Pair). IsOf p vs ns s q.0 (q.1).has) pairs

  pub zipped : (r : Intrinsic) (t : Option DataType) (k : ℕ) (gs : List x.Given) (ys : List said.Given) → AreGiven p vs ns s gs ys → actual_rows r t k ys ≡ [] → Zipped gs ys
  zipped r t k [] [] h e = record { pairs = []; nodes = refl; saids = refl; are = tt }
  zipped r t k [] (y ∷ ys) h e = absurd h
  zipped r t k (g ∷ gs) [] h e = absurd h
  zipped r t k (g ∷ gs) (y ∷ ys) h e =
      go g y h.0 (holds _ _ (first _ _ e)) (zipped r (or_first t (integer_type y)) (k + 1) gs ys h.1 (second (unless (actual_right r t k y) _) _ e))
    where
      go : (g : x.Given) (y : said.Given) → IsGiven p vs ns s g y → actual_right r t k y ≡ true → Zipped gs ys → Zipped (g ∷ gs) (y ∷ ys)
      go (x.value l e) (Value None z) h f rest = record {
        pairs = (e, z) ∷ rest.pairs;
        nodes = ap (λ es. e ∷ es) rest.nodes;
        saids = ap (λ zs. Value None z ∷ zs) rest.saids;
        are = (h.1, rest.are);
      }
      go (x.value l e) (Value (Some m) z) h f rest = no (sym f)
      go (x.value l e) (Triplet q a b c) h f rest = absurd h
      go (x.triplet a b c) (Value l z) h f rest = absurd h
      go (x.triplet a b c) (Triplet q d e z) h f rest = no (sym f)

  -- ---- one argument

  fits_of : (r : Intrinsic) (t : Option DataType) (k : ℕ) (q : Pair) → IsOf p vs ns s q.0 (q.1).has → actual_right r t k (unkeyed q) ≡ true → actual_fits r t k q.1 ≡ true
  fits_of r t k q h f = otherwise (not (has_type (q.1).has)) _ (right (is_within r k) _ f) (ap not (typed_of p vs ns s q.0 (q.1).has h))

  -- an array or a scalar that is asked of, and is no allocatable
  pub record Asked (e : ExpressionNode) : Type 0 where
    pub given : Given
    pub is : argument p vs ns (asked e) ≡ Some given
    pub plain : (given.kind).is_allocatable ≡ false
    pub array : nat_lt 0 (given.kind).rank ≡ true

  asked_is : (e : ExpressionNode) (o : Option Has) → IsOf p vs ns s e o → map_or false (λ (h : Has). not (h.rank == 0)) o ≡ true → Asked e
  asked_is e None h f = absurd h
  asked_is e (Some y) h f = go e h
    where
      go : (e : ExpressionNode) → IsKind p vs ns s e y → Asked e
      go (n.variable d) h = record {
        given = record { number = 0; kind = of_kind (base s y.data_type) y.rank; is_variable = true };
        is = ap (λ o. found o (λ (j : Kind). Some (record { number = 0; kind = j; is_variable = true }))) (h.is_as).0;
        plain = refl;
        array = positive y.rank f;
      }
      go e h = record {
        given = record { number = 0; kind = of_kind h.of y.rank; is_variable = false };
        is = ap (λ o. found o (λ (j : Kind). Some (record { number = 0; kind = j; is_variable = false }))) h.value;
        plain = refl;
        array = positive y.rank f;
      }

  sized : (e : ExpressionNode) → Asked e → value_kind p vs ns (n.size (asked e)) ≡ Some (of_kind base_is.Integer 0)
  sized e a =
      ap (λ o. found o (λ (g : Given). only (not g.kind.is_allocatable && nat_lt 0 g.kind.rank) (of_kind base_is.Integer 0))) a.is
      ∙ ap (λ b. only (not b && nat_lt 0 (a.given.kind).rank) (of_kind base_is.Integer 0)) a.plain ∙ ap (λ b. only b (of_kind base_is.Integer 0)) a.array

  bounded : (q : Query) (e d : ExpressionNode) → Asked e → Scalar p vs ns s wanted.Integer d → value_kind p vs ns (n.bound q (asked e) d) ≡ Some (of_kind base_is.Integer 0)
  bounded q e d a h =
      ap (λ o. found o (λ (g : Given). found (value_kind p vs ns d) (λ k. only (not g.kind.is_allocatable && (nat_lt 0 g.kind.rank && is_whole_number k)) (of_kind base_is.Integer 0)))) a.is
      ∙ ap (λ o. found o (λ k. only (not (a.given.kind).is_allocatable && (nat_lt 0 (a.given.kind).rank && is_whole_number k)) (of_kind base_is.Integer 0))) h.value
      ∙ ap (λ b. only (not b && (nat_lt 0 (a.given.kind).rank && is_number h.of)) (of_kind base_is.Integer 0)) a.plain
      ∙ ap (λ b. only (b && is_number h.of) (of_kind base_is.Integer 0)) a.array
      ∙ ap (λ b. only b (of_kind base_is.Integer 0)) h.wanted

  -- ---- results

  -- a number of the type that is said
  number_is : (e : ExpressionNode) (t : Option DataType) → is_known t ≡ true → Scalar p vs ns s wanted.Integer e → is_number (base s t) ≡ true → IsPlain e
      → IsKind p vs ns s e (result_as t)
  number_is e t known h w plain = record {
    typed = known;
    of = h.of;
    value = h.value;
    alike_to = alike_numbers h.of (base s t) h.wanted w;
    is_as = plain_as p vs ns s e (result_as t) plain refl tt;
  }

  exactly : (e : ExpressionNode) (t : Option DataType) → is_known t ≡ true → value_kind p vs ns e ≡ Some (of_kind (base s t) 0) → IsPlain e → IsKind p vs ns s e (result_as t)
  exactly e t known h plain = record {
    typed = known;
    of = base s t;
    value = h;
    alike_to = alike_equal (base s t) (base s t) refl;
    is_as = plain_as p vs ns s e (result_as t) plain refl tt;
  }

  integer_of : (q : Pair) → IsOf p vs ns s q.0 (q.1).has → fits wanted.Integer q.1 ≡ true → Scalar p vs ns s wanted.Integer q.0
  integer_of q h f = scalar p vs ns s wanted.Integer q.0 (q.1).has h f

  type_of_first : (q : Pair) → fits wanted.Integer q.1 ≡ true → is_number (base s (integer_type (unkeyed q))) ≡ true
  type_of_first q f =
      ap (λ t. is_number (base s t)) (when_true (fits wanted.Integer q.1) (type_in (q.1).has) None f) ∙ type_number p vs ns s (q.1).has f

  -- MAX and MIN of more than two
  nested_is : (f : BinaryOperator) (of : Base) (e : ExpressionNode) (qs : List Pair) → is_number of ≡ true → Scalar p vs ns s wanted.Integer e → IsPlain e
      → Each (λ (q : Pair). Scalar p vs ns s wanted.Integer q.0) qs
      → Scalar p vs ns s wanted.Integer (nested f of e (map (λ (q : Pair). q.0) qs)) × IsPlain (nested f of e (map (λ (q : Pair). q.0) qs))
  nested_is f of e [] w h plain hs = (h, plain)
  nested_is f of e (q ∷ qs) w h plain hs = nested_is f of (n.binary f of e q.0) qs w (binary_is p vs ns s wanted.Integer f of e q.0 tt h hs.0 w) tt hs.1

  -- ---- by the function

  abbrev IsSaid : Intrinsic → List Pair → Type 0
  IsSaid r qs =
      IsKind p vs ns s (intrinsic_value (base s (typed_result r (map unkeyed qs))) r (map (λ (q : Pair). q.0) qs)) (result_as (typed_result r (map unkeyed qs)))

  abbrev AreSaid : List Pair → Type 0
  AreSaid qs = Each (λ (q : Pair). IsOf p vs ns s q.0 (q.1).has) qs

  -- a function whose arguments are all integers
  abbrev TakesIntegers : Intrinsic → Type 0
  TakesIntegers r = (t : Option DataType) (k : ℕ) (z : Said) → actual_fits r t k z ≡ true → fits wanted.Integer z ≡ true

  integers : (r : Intrinsic) → TakesIntegers r → (t : Option DataType) (k : ℕ) (qs : List Pair) → AreSaid qs → actual_rows r t k (map unkeyed qs) ≡ []
      → Each (λ (q : Pair). fits wanted.Integer q.1 ≡ true) qs
  integers r takes t k [] h e = tt
  integers r takes t k (q ∷ qs) h e = (
    takes t k q.1 (fits_of r t k q h.0 (holds _ _ (first _ _ e))),
    integers r takes (or_first t (integer_type (unkeyed q))) (k + 1) qs h.1 (second (unless (actual_right r t k (unkeyed q)) _) _ e),
  )

  scalars : (qs : List Pair) → AreSaid qs → Each (λ (q : Pair). fits wanted.Integer q.1 ≡ true) qs → Each (λ (q : Pair). Scalar p vs ns s wanted.Integer q.0) qs
  scalars [] h f = tt
  scalars (q ∷ qs) h f = (integer_of q h.0 f.0, scalars qs h.1 f.1)

  absolute_is : (q : Pair) → AreSaid (q ∷ []) → actual_rows i.Abs None 0 (map unkeyed (q ∷ [])) ≡ [] → is_known (integer_type (unkeyed q)) ≡ true → IsSaid i.Abs (q ∷ [])
  absolute_is q h e known =
      let f = (integers i.Abs (λ t k z f. f) None 0 (q ∷ []) h e).0 in
      number_is _ (integer_type (unkeyed q)) known (unary_is p vs ns s wanted.Integer _ _ q.0 tt (integer_of q h.0 f) (type_of_first q f)) (type_of_first q f) tt

  two_are : (o : BinaryOperator) (q z : Pair) → AreSaid (q ∷ z ∷ []) → fits wanted.Integer q.1 ≡ true → fits wanted.Integer z.1 ≡ true → is_known (integer_type (unkeyed q)) ≡ true
      → IsKind p vs ns s (n.binary o (base s (integer_type (unkeyed q))) q.0 z.0) (result_as (integer_type (unkeyed q)))
  two_are o q z h f g known =
      number_is _ (integer_type (unkeyed q)) known
      (binary_is p vs ns s wanted.Integer o (base s (integer_type (unkeyed q))) q.0 z.0 tt (integer_of q h.0 f) (integer_of z h.1.0 g) (type_of_first q f)) (type_of_first q f) tt

  more_are : (o : BinaryOperator) (q z : Pair) (qs : List Pair) → AreSaid (q ∷ z ∷ qs) → Each (λ (q : Pair). fits wanted.Integer q.1 ≡ true) (q ∷ z ∷ qs)
      → is_known (integer_type (unkeyed q)) ≡ true
      → IsKind p vs ns s (nested o (base s (integer_type (unkeyed q))) q.0 (map (λ (q : Pair). q.0) (z ∷ qs))) (result_as (integer_type (unkeyed q)))
  more_are o q z qs h f known =
      let of : Base = base s (integer_type (unkeyed q)) in
      let w : is_number of ≡ true = type_of_first q f.0 in
      let made =
      nested_is o of (n.binary o of q.0 z.0) qs w (binary_is p vs ns s wanted.Integer o of q.0 z.0 tt (integer_of q h.0 f.0) (integer_of z h.1.0 f.1.0) w) tt
      (scalars qs h.1.1 f.1.1) in
      number_is _ (integer_type (unkeyed q)) known made.0 w made.1

  allocated_is : (q : Pair) → IsOf p vs ns s q.0 (q.1).has → map_or false (λ (h : Has). h.is_allocatable) (q.1).has ≡ true → (of : Base)
      → IsKind p vs ns s (intrinsic_value of i.Allocated (q.0 ∷ [])) (result_as (Some Logical))
  allocated_is q h f of = by_has q.0 (q.1).has h f
    where
      by_node : (e : ExpressionNode) (y : Has) → IsKind p vs ns s e y → y.is_allocatable ≡ true → IsKind p vs ns s (intrinsic_value of i.Allocated (e ∷ [])) (result_as (Some Logical))
      by_node (n.variable d) y h f =
          exactly (n.allocated (itself d)) (Some Logical) refl
          (ap (λ o. found o (λ (k : Kind). only k.is_allocatable (of_kind base_is.Logical 0)))
          (itself_kind p vs ns d (base s y.data_type) y.rank true (h.is_as).0 (sym (held_by (is_whole_allocatable d) y y.form (h.is_as).1 f)))) tt
      by_node e y h f = no (sym f ∙ (h.is_as).0)

      by_has : (e : ExpressionNode) (o : Option Has) → IsOf p vs ns s e o → map_or false (λ (h : Has). h.is_allocatable) o ≡ true
          → IsKind p vs ns s (intrinsic_value of i.Allocated (e ∷ [])) (result_as (Some Logical))
      by_has e None h f = absurd h
      by_has e (Some y) h f = by_node e y h f

  -- one too many
  too_many : (r : Intrinsic) (t : Option DataType) (k : ℕ) (q : Pair) (qs : List Pair) → actual_rows r t k (map unkeyed (q ∷ qs)) ≡ [] → is_within r k ≡ false → ⊥
  too_many r t k q qs e f = no (sym (left (is_within r k) _ (holds _ _ (first _ _ e))) ∙ f)

  next_rows : (r : Intrinsic) (t : Option DataType) (k : ℕ) (q : Pair) (qs : List Pair) → actual_rows r t k (map unkeyed (q ∷ qs)) ≡ []
      → actual_rows r (or_first t (integer_type (unkeyed q))) (k + 1) (map unkeyed qs) ≡ []
  next_rows r t k q qs e = second (unless (actual_right r t k (unkeyed q)) _) _ e

  first_fits : (r : Intrinsic) (t : Option DataType) (k : ℕ) (q : Pair) (qs : List Pair) → IsOf p vs ns s q.0 (q.1).has → actual_rows r t k (map unkeyed (q ∷ qs)) ≡ []
      → actual_fits r t k q.1 ≡ true
  first_fits r t k q qs h e = fits_of r t k q h (holds _ _ (first _ _ e))

  -- a bound, or the size, of a dimension
  bound_is : (r : Intrinsic) (b : Query) (q z : Pair) → AreSaid (q ∷ z ∷ []) → map_or false (λ (h : Has). not (h.rank == 0)) (q.1).has ≡ true → fits wanted.Integer z.1 ≡ true
      → IsKind p vs ns s (n.bound b (asked q.0) z.0) (result_as (Some (Integer Four)))
  bound_is r b q z h f g =
      exactly (n.bound b (asked q.0) z.0) (Some (Integer Four)) refl (bounded b q.0 z.0 (asked_is q.0 (q.1).has h.0 f) (integer_of z h.1.0 g)) tt

  pub intrinsic_is : (r : Intrinsic) → IsFunction r → (qs : List Pair) → AreSaid qs → actual_rows r None 0 (map unkeyed qs) ≡ []
      → nat_lt (length (map unkeyed qs)) (least_count r) ≡ false → is_known (typed_result r (map unkeyed qs)) ≡ true → IsSaid r qs
  intrinsic_is i.Abs w [] h e c known = no c
  intrinsic_is i.Abs w (q ∷ []) h e c known = absolute_is q h e known
  intrinsic_is i.Abs w (q ∷ z ∷ qs) h e c known = absurd (too_many i.Abs _ 1 z qs (next_rows i.Abs None 0 q (z ∷ qs) e) refl)
  intrinsic_is i.Mod w [] h e c known = no c
  intrinsic_is i.Mod w (q ∷ []) h e c known = no c
  intrinsic_is i.Mod w (q ∷ z ∷ []) h e c known =
      let f = integers i.Mod (λ t k z f. left _ _ f) None 0 (q ∷ z ∷ []) h e in two_are _ q z h f.0 f.1.0 known
  intrinsic_is i.Mod w (q ∷ z ∷ y ∷ qs) h e c known =
      absurd (too_many i.Mod _ 2 y qs (next_rows i.Mod _ 1 z (y ∷ qs) (next_rows i.Mod None 0 q (z ∷ y ∷ qs) e)) refl)
  intrinsic_is i.Modulo w [] h e c known = no c
  intrinsic_is i.Modulo w (q ∷ []) h e c known = no c
  intrinsic_is i.Modulo w (q ∷ z ∷ []) h e c known =
      let f = integers i.Modulo (λ t k z f. left _ _ f) None 0 (q ∷ z ∷ []) h e in two_are _ q z h f.0 f.1.0 known
  intrinsic_is i.Modulo w (q ∷ z ∷ y ∷ qs) h e c known =
      absurd (too_many i.Modulo _ 2 y qs (next_rows i.Modulo _ 1 z (y ∷ qs) (next_rows i.Modulo None 0 q (z ∷ y ∷ qs) e)) refl)
  intrinsic_is i.Max w [] h e c known = no c
  intrinsic_is i.Max w (q ∷ []) h e c known = no c
  intrinsic_is i.Max w (q ∷ z ∷ qs) h e c known = more_are _ q z qs h (integers i.Max (λ t k z f. left _ _ f) None 0 (q ∷ z ∷ qs) h e) known
  intrinsic_is i.Min w [] h e c known = no c
  intrinsic_is i.Min w (q ∷ []) h e c known = no c
  intrinsic_is i.Min w (q ∷ z ∷ qs) h e c known = more_are _ q z qs h (integers i.Min (λ t k z f. left _ _ f) None 0 (q ∷ z ∷ qs) h e) known
  intrinsic_is i.Size w [] h e c known = no c
  intrinsic_is i.Size w (q ∷ []) h e c known =
      exactly (n.size (asked q.0)) (Some (Integer Four)) refl (sized q.0 (asked_is q.0 (q.1).has h.0 (first_fits i.Size None 0 q [] h.0 e))) tt
  intrinsic_is i.Size w (q ∷ z ∷ []) h e c known =
      bound_is i.Size _ q z h (first_fits i.Size None 0 q (z ∷ []) h.0 e) (first_fits i.Size (or_first None (integer_type (unkeyed q))) 1 z [] h.1.0 (next_rows i.Size None 0 q (z ∷ []) e))
  intrinsic_is i.Size w (q ∷ z ∷ y ∷ qs) h e c known =
      absurd (too_many i.Size _ 2 y qs (next_rows i.Size _ 1 z (y ∷ qs) (next_rows i.Size None 0 q (z ∷ y ∷ qs) e)) refl)
  intrinsic_is i.LowerBound w [] h e c known = no c
  intrinsic_is i.LowerBound w (q ∷ []) h e c known = no c
  intrinsic_is i.LowerBound w (q ∷ z ∷ []) h e c known =
      bound_is i.LowerBound _ q z h (first_fits i.LowerBound None 0 q (z ∷ []) h.0 e) (first_fits i.LowerBound (or_first None (integer_type (unkeyed q))) 1 z [] h.1.0 (next_rows i.LowerBound None 0 q (z ∷ []) e))
  intrinsic_is i.LowerBound w (q ∷ z ∷ y ∷ qs) h e c known =
      absurd (too_many i.LowerBound _ 2 y qs (next_rows i.LowerBound _ 1 z (y ∷ qs) (next_rows i.LowerBound None 0 q (z ∷ y ∷ qs) e)) refl)
  intrinsic_is i.UpperBound w [] h e c known = no c
  intrinsic_is i.UpperBound w (q ∷ []) h e c known = no c
  intrinsic_is i.UpperBound w (q ∷ z ∷ []) h e c known =
      bound_is i.UpperBound _ q z h (first_fits i.UpperBound None 0 q (z ∷ []) h.0 e) (first_fits i.UpperBound (or_first None (integer_type (unkeyed q))) 1 z [] h.1.0 (next_rows i.UpperBound None 0 q (z ∷ []) e))
  intrinsic_is i.UpperBound w (q ∷ z ∷ y ∷ qs) h e c known =
      absurd (too_many i.UpperBound _ 2 y qs (next_rows i.UpperBound _ 1 z (y ∷ qs) (next_rows i.UpperBound None 0 q (z ∷ y ∷ qs) e)) refl)
  intrinsic_is i.Allocated w [] h e c known = no c
  intrinsic_is i.Allocated w (q ∷ []) h e c known = allocated_is q h.0 (first_fits i.Allocated None 0 q [] h.0 e) base_is.Logical
  intrinsic_is i.Allocated w (q ∷ z ∷ qs) h e c known = absurd (too_many i.Allocated _ 1 z qs (next_rows i.Allocated None 0 q (z ∷ qs) e) refl)
  intrinsic_is i.MoveAlloc w qs h e c known = absurd w
