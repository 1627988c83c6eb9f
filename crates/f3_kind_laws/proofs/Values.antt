-- A named constant whose declaration breaks no rule is a scalar with a value of its type.
use Rattle.std.proofs.Common.{◌≡◌, ℕ, Bool, true, false, ◌&&◌, ◌||◌, not, nat_eq, [], Option, Some, None, refl, sym, ap, ◌∙◌, if◌then◌else◌, arith}
use Rattle.std.specs.List.{list_any}
use mathlib.Core.Path.{subst}
use Rattle.f3_rules.specs.declared.rule.Rule.TheVariants.{T1, T2}
use Rattle.f3_tree.specs.declared.expression.IntegerKind.{IntegerKind}
use Rattle.f3_tree.specs.declared.declaration.TypeSpecifier.{TypeSpecifier}
use Rattle.f3_tree.specs.declared.declaration.TypeSpecifier.TheVariants as specifier
use Rattle.f3_tree.specs.Declarations as t
use Rattle.f3_tree.specs.Declarations.{ShapeTree, EntityTree, DeclarationTree}
use Rattle.f3_tree.specs.Expressions as e
use Rattle.f3_tree.specs.Expressions.{Tree}
use Rattle.f3_kinds.specs.declared.types.DataType.{DataType}
use Rattle.f3_kinds.specs.declared.types.DataType.TheVariants.{Integer, Logical, Derived}
use Rattle.f3_kinds.specs.declared.types.Object.{Object}
use Rattle.f3_kinds.specs.declared.types.Scalar.{Scalar}
use Rattle.f3_kinds.specs.declared.types.Scalar.TheVariants.{Number, Truth}
use Rattle.f3_kinds.specs.Rows.{at_name, at_place}
use Rattle.f3_kinds.specs.Things.{map_or, Context}
use Rattle.f3_kinds.specs.Typing.{said, breaks}
use Rattle.f3_kinds.specs.Values.{converted, fits_kind, has_value, value_of}
use Rattle.f3_type_rules.specs.Attributes.{any_intent, conflicts, has, is_derived, is_open}
use Rattle.f3_type_rules.specs.Constants.{constant_rows, speaks}
use Rattle.f3_type_rules.specs.Declarations.{constant_value, entity_rows, given_value}
use Rattle.f3_type_rules.specs.Names.{attributes_of, dimensions, is_allocatable, is_given, object_of, shape_of, type_of}
use Rattle.f3_type_rules.specs.Shapes.{elements, initial_fits, initial_right, shape_rows, size_rows}
use Rattle.f3_type_rules.specs.Walks.{context, Known, Spot}
use Rattle.f3_lawful_laws.specs.Blocks.{IsStepWritten}
use Rattle.f3_lawful_laws.specs.Written.{IsWritten}
use Rattle.f3_lawful_laws.proofs.Facts.{no, nothing, same, first, second, holds, left, otherwise, negated_back}
use Rattle.f3_lawful_laws.proofs.Positions.{eq_same}
use Rattle.f3_formed_laws.proofs.Facts.{denied, neither}

-- ---- values of a type

abbrev pub is_of : DataType → Scalar → Bool
is_of (Integer k) (Number j z) = true
is_of (Integer k) (Truth b) = false
is_of Logical (Number j z) = false
is_of Logical (Truth b) = true
is_of (Derived e) v = false

abbrev pub is_of_some : Option DataType → Scalar → Bool
is_of_some None v = false
is_of_some (Some d) v = is_of d v

right_value : (d : DataType) (o : Option Scalar) (v : Scalar) → converted d o ≡ Some v → is_of d v ≡ true
right_value (Integer k) (Some (Number j z)) v is = by (fits_kind k z) is
  where
    by : (b : Bool) → (if b then Some (Number k z) else None) ≡ Some v → is_of (Integer k) v ≡ true
    by true is = ap (is_of (Integer k)) (sym (same is))
    by false is = nothing is
right_value (Integer k) (Some (Truth b)) v is = nothing is
right_value (Integer k) None v is = nothing is
right_value Logical (Some (Truth b)) v is = ap (is_of Logical) (sym (same is))
right_value Logical (Some (Number j z)) v is = nothing is
right_value Logical None v is = nothing is
right_value (Derived n) (Some (Number j z)) v is = nothing is
right_value (Derived n) (Some (Truth b)) v is = nothing is
right_value (Derived n) None v is = nothing is

-- the value that a declaration gives is of its type
pub given_right : (c : Context) (b : Bool) (d : Option DataType) (x : Option Tree) (v : Scalar) → given_value c b d x ≡ Some v → is_of_some d v ≡ true
given_right c true (Some d) (Some x) v is = right_value d (value_of c x) v is
given_right c true (Some d) None v is = nothing is
given_right c true None (Some x) v is = nothing is
given_right c true None None v is = nothing is
given_right c false d x v is = nothing is

-- ---- attributes: T1

when_and : (a b : Bool) → a ≡ true → (a && b) ≡ false → b ≡ false
when_and true b e f = f
when_and false b e f = no (sym e)

never_and : (a b : Bool) → b ≡ true → (a && b) ≡ false → a ≡ false
never_and true b e f = no (sym e ∙ f)
never_and false b e f = refl

-- what stands beside PARAMETER: an initializer, and neither a shape, ALLOCATABLE nor a derived type
pub record IsPlain (d : DeclarationTree) (x : EntityTree) : Type 0 where
  pub initial : is_given x.initial ≡ true
  pub shape : is_given (shape_of (d, x)) ≡ false
  pub allocatable : has t.allocatable d ≡ false
  pub typed : is_derived d.specifier ≡ false

plain : (s : Spot) (d : DeclarationTree) (x : EntityTree) → has t.parameter d ≡ true → conflicts s (d, x) ≡ false → IsPlain d x
plain s d x constant free =
    let i = neither _ _ free in
    let h = neither _ _ i.0 in
    let g = neither _ _ h.0 in
    let f = neither _ _ g.0 in
    let e' = neither _ _ f.0 in
    let d' = neither _ _ e'.0 in
    let c = neither _ _ d'.0 in
    let b = neither _ _ c.0 in
    let beside : (not (is_given x.initial) || has t.save d || has any_intent d || is_given (shape_of (d, x)) || is_derived d.specifier) ≡ false =
    when_and (has t.parameter d) _ constant c.1 in
    let four = neither _ _ beside in
    let three = neither _ _ four.0 in
    let two = neither _ _ three.0 in
    let one = neither _ _ two.0 in
    record {
      initial = denied (is_given x.initial) one.0;
      shape = three.1;
      allocatable = held (has t.allocatable d) (has t.parameter d) (is_given x.initial) (not (is_open (shape_of (d, x)))) constant b.1;
      typed = four.1;
    }
  where
    held : (a b c e : Bool) → b ≡ true → (a && (b || c || e)) ≡ false → a ≡ false
    held true b c e is f = no (sym is ∙ (neither b c (neither (b || c) e f).0).0)
    held false b c e is f = refl

no_rank : (o : Option ShapeTree) → is_given o ≡ false → map_or 0 dimensions o ≡ 0
no_rank None e = refl
no_rank (Some s) e = no e

some_given : (o : Option Tree) → is_given o ≡ true → (x : Tree) × (o ≡ Some x)
some_given None e = no (sym e)
some_given (Some x) e = (x, refl)

-- ---- initializers: T2

-- a scalar is not initialized by an array constructor
fits_value : (c : Context) (d : DataType) (rank : ℕ) (size : Option ℕ) (x : Tree) → rank ≡ 0 → initial_fits c d rank size x ≡ true
    → has_value (converted d (value_of c x)) ≡ true
fits_value c d rank size (e.array p es) scalar fits =
    let one : rank ≡ 1 = eq_same rank 1 (left (nat_eq rank 1) _ (left (nat_eq rank 1 && _) _ fits)) in absurd (omega (arith, one, scalar))
fits_value c d rank size (e.integer p n) scalar fits = fits
fits_value c d rank size (e.truth p b) scalar fits = fits
fits_value c d rank size (e.text p k) scalar fits = fits
fits_value c d rank size (e.designator ps) scalar fits = fits
fits_value c d rank size (e.group p x) scalar fits = fits
fits_value c d rank size (e.signed p s x) scalar fits = fits
fits_value c d rank size (e.negation p x) scalar fits = fits
fits_value c d rank size (e.comparison x r y) scalar fits = fits
fits_value c d rank size (e.chain x os) scalar fits = fits

value_given : (o : Option Scalar) → has_value o ≡ true → (v : Scalar) × (o ≡ Some v)
value_given None e = no (sym e)
value_given (Some v) e = (v, refl)

-- the type of a declaration that is not of a derived type
plain_right : (c : Context) (s : TypeSpecifier) (o : Option DataType) (b : Bool) (rank : ℕ) (size : Option ℕ) (x : Tree) → is_derived s ≡ false
    → ((k : IntegerKind) → s ≡ specifier.Integer k → o ≡ Some (Integer k)) → (s ≡ specifier.Logical → o ≡ Some Logical) → rank ≡ 0
    → initial_right c o rank size x ≡ true → b ≡ true → (v : Scalar) × (given_value c b o (Some x) ≡ Some v)
plain_right c (specifier.Integer k) o b rank size x plain integer logical scalar fits is =
    let typed = integer k refl in
    let v = value_given (converted (Integer k) (value_of c x)) (fits_value c (Integer k) rank size x scalar (ap (λ o. initial_right c o rank size x) (sym typed) ∙ fits)) in
    (v.0, ap (λ o. given_value c b o (Some x)) typed ∙ ap (λ b. given_value c b (Some (Integer k)) (Some x)) is ∙ v.1)
plain_right c specifier.Logical o b rank size x plain integer logical scalar fits is =
    let typed = logical refl in
    let v = value_given (converted Logical (value_of c x)) (fits_value c Logical rank size x scalar (ap (λ o. initial_right c o rank size x) (sym typed) ∙ fits)) in
    (v.0, ap (λ o. given_value c b o (Some x)) typed ∙ ap (λ b. given_value c b (Some Logical) (Some x)) is ∙ v.1)
plain_right c (specifier.Derived n) o b rank size x plain integer logical scalar fits is = no plain

-- ---- a named constant

-- its declaration gives it a value
abbrev pub IsGiven : Spot → DeclarationTree → Known → EntityTree → Type 0
IsGiven s d k x = (v : Scalar) × (constant_value s d k x ≡ Some v)

module _ (s : Spot) (speaking : (values : Known) (x : Tree) → IsWritten x → breaks (context s values) x ≡ [] → speaks (said (context s values) x) ≡ true) where
  pub constant_given : (d : DeclarationTree) (k : Known) (x : EntityTree) → entity_rows s d k x ≡ [] → has t.parameter d ≡ true → IsStepWritten x.initial → IsGiven s d k x
  constant_given d k x none constant written =
      let c : Context = context s k in
      let o : Object = object_of (s.scene).names s.scope (d, x) in
      let two = second (shape_rows c x.shape) _ none in
      let h = plain s d x constant (negated_back (conflicts s (d, x)) (holds _ (at_name 5 T1 x.name) (first _ _ two))) in
      let given = some_given x.initial h.initial in
      let scalar : o.rank ≡ 0 = no_rank (shape_of (d, x)) h.shape in
      let rows : map_or [] (λ e. constant_rows 5 c (initial_right c o.data_type o.rank (elements c (shape_of (d, x))) e) e) x.initial ≡ [] =
      second (size_rows s k (d, x)) _ (second _ _ two) in
      let here : constant_rows 5 c (initial_right c o.data_type o.rank (elements c (shape_of (d, x))) given.0) given.0 ≡ [] =
      ap (map_or [] (λ e. constant_rows 5 c (initial_right c o.data_type o.rank (elements c (shape_of (d, x))) e) e)) (sym given.1) ∙ rows in
      let spoken : speaks (said c given.0) ≡ true = speaking k given.0 (subst IsStepWritten given.1 written) (first (breaks c given.0) _ here) in
      let right : initial_right c o.data_type o.rank (elements c (shape_of (d, x))) given.0 ≡ true =
      otherwise (not (speaks (said c given.0))) _ (holds _ (at_place 5 T2 (said c given.0).place) (second (breaks c given.0) _ here)) (ap not spoken) in
      let is : (has t.parameter d && nat_eq o.rank 0) ≡ true = ap (λ b. b && nat_eq o.rank 0) constant ∙ ap (λ n. nat_eq n 0) scalar in
      let v = plain_right c d.specifier o.data_type (has t.parameter d && nat_eq o.rank 0) o.rank (elements c (shape_of (d, x))) given.0 h.typed
      (λ i e. ap (type_of (s.scene).names s.scope) e) (λ e. ap (type_of (s.scene).names s.scope) e) scalar right is in
      (v.0, ap (given_value c (has t.parameter d && nat_eq o.rank 0) o.data_type) given.1 ∙ v.1)

-- it is a scalar, and no allocatable
pub constant_scalar : (s : Spot) (d : DeclarationTree) (k : Known) (x : EntityTree) → entity_rows s d k x ≡ [] → has t.parameter d ≡ true
    → (map_or 0 dimensions (shape_of (d, x)) ≡ 0) × (list_any is_allocatable (attributes_of d) ≡ false)
constant_scalar s d k x none constant =
    let two = second (shape_rows (context s k) x.shape) _ none in
    let h = plain s d x constant (negated_back (conflicts s (d, x)) (holds _ (at_name 5 T1 x.name) (first _ _ two))) in
    (no_rank (shape_of (d, x)) h.shape, h.allocatable)
