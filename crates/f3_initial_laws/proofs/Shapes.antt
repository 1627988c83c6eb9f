-- The bounds of what is declared without a break are numbers, and its elements as many in the elaborated program as the rules count.
use Rattle.std.proofs.Common.{◌≡◌, ℕ, suc, ◌*◌, ◌≤◌, Bool, true, false, ◌||◌, not, nat_lt, List, [], ◌∷◌, ◌++◌, length, map, Option, None, Some, refl, sym, ap, ◌∙◌, arith, inl, inr}
use Rattle.std.specs.Prelude.{⊤, ℤ, pos, min, ◌^◌, ◌-◌}
use Rattle.std.specs.List.{flat_map}
use Rattle.std.proofs.Math.Nat.{min-eq_left}
use Rattle.std.proofs.lemmas.Bool.Decides.{leb_tells}
use Rattle.f3_lookups.specs.declared.lookup.Lookup.{Lookup}
use Rattle.f3_rules.specs.declared.rule.Rule.TheVariants.{T2}
use Rattle.f3_tree.specs.declared.expression.IntegerKind.{IntegerKind}
use Rattle.f3_tree.specs.declared.expression.IntegerKind.TheVariants.{Four}
use Rattle.f3_tree.specs.Declarations.{Bounds, ShapeTree, explicit, deferred, AttributeTree, access, protected, parameter, save, allocatable, dimension, intent}
use Rattle.f3_tree.specs.Declarations.{Placed, EntityTree, DeclarationTree}
use Rattle.f3_tree.specs.Expressions.{Tree as Expression}
use Rattle.f3_tree.specs.Tree.{Tree}
use Rattle.f3_program.specs.declared.program.Program.{Program}
use Rattle.f3_kinds.specs.declared.types.Scalar.{Scalar}
use Rattle.f3_kinds.specs.declared.types.Scalar.TheVariants.{Number, Truth}
use Rattle.f3_kinds.specs.Rows.{at_place}
use Rattle.f3_kinds.specs.Things.{map_or, Context}
use Rattle.f3_kinds.specs.Typing.{said, breaks}
use Rattle.f3_kinds.specs.Values.{value_of, is_number}
use Rattle.f3_meaning_whole.specs.Permitted.{Each}
use Rattle.f3_meaning_whole.specs.Value.{count}
use Rattle.f3_meaning_whole.specs.Shape.{spans_declared}
use Rattle.f3_type_rules.specs.Attributes.{is_deferred}
use Rattle.f3_type_rules.specs.Constants.{constant_rows, speaks}
use Rattle.f3_type_rules.specs.Names.{attributes_of, dimension_in, last_of, or_else, shape_of, dimensions}
use Rattle.f3_type_rules.specs.Scene.{context_in}
use Rattle.f3_type_rules.specs.Shapes.{bound_rows, shape_rows, dimension_rows, extent, bounds_extent, elements, at_most, are_dimensions_small, multiplied}
use Rattle.f3_type_rules.specs.Walks.{Known}
use Rattle.f3_elaboration.specs.Declarations as e
use Rattle.f3_elaboration.specs.Declarations.{Whole}
use Rattle.f3_elaboration.specs.DeclaredViews.{program_view}
use Rattle.f3_elaboration.specs.Program.{elaborated}
use Rattle.f3_lawful_laws.specs.Blocks.{IsStepWritten}
use Rattle.f3_lawful_laws.specs.Entities.{units_of, whole_of}
use Rattle.f3_lawful_laws.specs.Written.{IsWritten}
use Rattle.f3_lawful_laws.proofs.Facts.{no, first, second, holds, otherwise, left, negated_back}
use Rattle.f3_entity_laws.specs.Things.{Home, unit_in, number_of, IsHome}
use Rattle.f3_agreement_laws.specs.Unbroken.{IsUnbroken}
use Rattle.f3_kind_laws.proofs.Typed.{speaks_of}
use Rattle.f3_initial_laws.specs.Written.{AreBoundsWritten, IsShapeWritten, IsShapeGiven, IsAttributeWritten}
use Rattle.f3_initial_laws.proofs.Monotone.{Within, value_within}
use Rattle.f3_constant_laws.specs.Kept.{Keeps}
use Rattle.f3_constant_laws.proofs.Units.{final}

-- ---- bounds that are numbers

abbrev pub IsNumber : Context → Expression → Type 0
IsNumber c x = is_number (value_of c x) ≡ true

abbrev LowerIs : Context → Option Expression → Type 0
LowerIs c None = ⊤
LowerIs c (Some x) = IsNumber c x

abbrev BoundsAre : Context → Bounds → Type 0
BoundsAre c b = LowerIs c b.lower × IsNumber c b.upper

abbrev pub ShapeIs : Context → ShapeTree → Type 0
ShapeIs c (explicit bs) = Each (BoundsAre c) bs
ShapeIs c (deferred ls) = ⊤

abbrev pub PerhapsIs : Context → Option ShapeTree → Type 0
PerhapsIs c None = ⊤
PerhapsIs c (Some s) = ShapeIs c s

record ANumber (o : Option Scalar) : Type 0 where
  kind : IntegerKind
  value : ℤ
  is : o ≡ Some (Number kind value)

number_in : (o : Option Scalar) → is_number o ≡ true → ANumber o
number_in None h = no (sym h)
number_in (Some (Truth b)) h = no (sym h)
number_in (Some (Number k z)) h = record { kind = k; value = z; is = refl }

number_within : (x y : Option Scalar) → Within x y → is_number x ≡ true → is_number y ≡ true
number_within x y m h = let n = number_in x h in ap is_number (m (Number n.kind n.value) n.is)

-- ---- extents

lower_in : Context → Bounds → Option Scalar
lower_in c b = map_or (Some (Number Four (pos 1))) (value_of c) b.lower

small_extent : (n : ℕ) → nat_lt 9223372036854775807 n ≡ false → min n (2 ^ 64 - 1) * 1 ≡ 1 * n
small_extent n h =
    let le : n ≤ 2 ^ 64 - 1 =
    elim (leb_tells (suc 9223372036854775807) n) [ inl k ↦ no (sym k.0 ∙ h) | inr k ↦ (let x = k.1 in omega (arith, x)) ] in
    let same : min n (2 ^ 64 - 1) ≡ n = min-eq_left le in
    omega (arith, same)

module _ (t : Tree) (look : ℕ → ℕ → Lookup) (order : List ℕ) (p : Program) (free : IsUnbroken t look order) (seen : program_view p ≡ elaborated t look order)
    (h : Home) (home : IsHome (units_of t) h) where
  abbrev w : Whole
  w = whole_of t look order

  -- what is known at a declaration there, and behind all
  abbrev pub earlier : Known → Context
  earlier k = context_in w.scene (unit_in h).scope (number_of h) 5 k.values

  abbrev pub later : Context
  later = e.context w (unit_in h).scope (number_of h)

  abbrev pub Stays : Known → Type 0
  Stays k = Keeps k (final t look order free)

  pub value_stays : (k : Known) → Stays k → (x : Expression) → Within (value_of (earlier k) x) (value_of later x)
  value_stays k keeps x = value_within (earlier k) later (λ symbol. refl) keeps x

  value_kept : (k j : Known) → Keeps k j → (x : Expression) → Within (value_of (earlier k) x) (value_of (earlier j) x)
  value_kept k j keeps x = value_within (earlier k) (earlier j) (λ symbol. refl) keeps x

  -- a constant that is written, and breaks no rule, is right
  pub is_right : (k : Known) (right : Bool) (x : Expression) → IsWritten x → constant_rows 5 (earlier k) right x ≡ [] → right ≡ true
  is_right k right x written rows =
      otherwise (not (speaks (said (earlier k) x))) right
      (holds (not (speaks (said (earlier k) x)) || right) (at_place 5 T2 (said (earlier k) x).place) (second (breaks (earlier k) x) _ rows))
      (ap not (speaks_of t look order p free seen h home k.values x written (first (breaks (earlier k) x) _ rows)))

  -- ---- shapes

  bound_is : (k : Known) (x : Expression) → IsWritten x → bound_rows (earlier k) x ≡ [] → IsNumber (earlier k) x
  bound_is k x written rows = is_right k (is_number (value_of (earlier k) x)) x written rows

  lower_is : (k : Known) (o : Option Expression) → IsStepWritten o → map_or [] (bound_rows (earlier k)) o ≡ [] → LowerIs (earlier k) o
  lower_is k None written rows = tt
  lower_is k (Some x) written rows = bound_is k x written rows

  bounds_are : (k : Known) (bs : List Bounds) → Each AreBoundsWritten bs
      → flat_map (λ (b : Bounds). map_or [] (bound_rows (earlier k)) b.lower ++ bound_rows (earlier k) b.upper) bs ≡ [] → Each (BoundsAre (earlier k)) bs
  bounds_are k [] written rows = tt
  bounds_are k (b ∷ bs) written rows =
      let own = first (map_or [] (bound_rows (earlier k)) b.lower ++ bound_rows (earlier k) b.upper) _ rows in (
        (
          lower_is k b.lower written.0.0 (first (map_or [] (bound_rows (earlier k)) b.lower) _ own),
          bound_is k b.upper written.0.1 (second (map_or [] (bound_rows (earlier k)) b.lower) _ own),
        ),
        bounds_are k bs written.1 (second (map_or [] (bound_rows (earlier k)) b.lower ++ bound_rows (earlier k) b.upper) _ rows),
      )

  shape_is : (k : Known) (s : ShapeTree) → IsShapeWritten s → shape_rows (earlier k) (Some s) ≡ [] → ShapeIs (earlier k) s
  shape_is k (explicit bs) written rows = bounds_are k bs written rows
  shape_is k (deferred ls) written rows = tt

  lower_kept : (k j : Known) → Keeps k j → (o : Option Expression) → LowerIs (earlier k) o → LowerIs (earlier j) o
  lower_kept k j keeps None is = tt
  lower_kept k j keeps (Some x) is = number_within (value_of (earlier k) x) (value_of (earlier j) x) (value_kept k j keeps x) is

  bounds_kept : (k j : Known) → Keeps k j → (bs : List Bounds) → Each (BoundsAre (earlier k)) bs → Each (BoundsAre (earlier j)) bs
  bounds_kept k j keeps [] is = tt
  bounds_kept k j keeps (b ∷ bs) is = (
    (
      lower_kept k j keeps b.lower is.0.0,
      number_within (value_of (earlier k) b.upper) (value_of (earlier j) b.upper) (value_kept k j keeps b.upper) is.0.1,
    ),
    bounds_kept k j keeps bs is.1,
  )

  perhaps_kept : (k j : Known) → Keeps k j → (o : Option ShapeTree) → PerhapsIs (earlier k) o → PerhapsIs (earlier j) o
  perhaps_kept k j keeps None is = tt
  perhaps_kept k j keeps (Some (explicit bs)) is = bounds_kept k j keeps bs is
  perhaps_kept k j keeps (Some (deferred ls)) is = tt

  -- the shape of DIMENSION
  last_is : (k : Known) (rest : List Placed) (o : Option ShapeTree) → PerhapsIs (earlier k) o → Each (λ (a : Placed). IsAttributeWritten a.attribute) rest
      → flat_map (dimension_rows (earlier k)) (map (λ (a : Placed). a.attribute) rest) ≡ []
      → PerhapsIs (earlier k) (last_of o (flat_map dimension_in (map (λ (a : Placed). a.attribute) rest)))
  last_is k [] o is written rows = is
  last_is k (a ∷ rest) o is written rows =
      go a.attribute written.0 (first (dimension_rows (earlier k) a.attribute) _ rows)
      (λ q i. last_is k rest q i written.1 (second (dimension_rows (earlier k) a.attribute) _ rows))
    where
      go : (b : AttributeTree) → IsAttributeWritten b → dimension_rows (earlier k) b ≡ []
          → ((q : Option ShapeTree) → PerhapsIs (earlier k) q → PerhapsIs (earlier k) (last_of q (flat_map dimension_in (map (λ (a : Placed). a.attribute) rest))))
          → PerhapsIs (earlier k) (last_of o (dimension_in b ++ flat_map dimension_in (map (λ (a : Placed). a.attribute) rest)))
      go (dimension s) written rows more = more (Some s) (shape_is k s written rows)
      go (access x) written rows more = more o is
      go protected written rows more = more o is
      go parameter written rows more = more o is
      go save written rows more = more o is
      go allocatable written rows more = more o is
      go (intent x) written rows more = more o is

  pub shape_there : (k j : Known) → Keeps k j → (d : DeclarationTree) (x : EntityTree) → Each (λ (a : Placed). IsAttributeWritten a.attribute) d.attributes
      → IsShapeGiven x.shape → flat_map (dimension_rows (earlier k)) (attributes_of d) ≡ [] → shape_rows (earlier j) x.shape ≡ []
      → PerhapsIs (earlier j) (shape_of (d, x))
  shape_there k j keeps d x attributes written rows own = go x.shape written own
    where
      go : (o : Option ShapeTree) → IsShapeGiven o → shape_rows (earlier j) o ≡ []
          → PerhapsIs (earlier j) (or_else o (last_of None (flat_map dimension_in (attributes_of d))))
      go (Some s) written own = shape_is j s written own
      go None written own =
          perhaps_kept k j keeps (last_of None (flat_map dimension_in (attributes_of d))) (last_is k d.attributes None tt attributes rows)

  -- ---- elements

  record Extent (k : Known) (b : Bounds) : Type 0 where
    size : ℕ
    counted : bounds_extent (earlier k) b ≡ Some size
    elaborated : bounds_extent later b ≡ Some size

  extent_in : (k : Known) → Stays k → (b : Bounds) → BoundsAre (earlier k) b → Extent k b
  extent_in k keeps b is = by_lower b.lower refl is.0
    where
      upper : ANumber (value_of (earlier k) b.upper)
      upper = number_in (value_of (earlier k) b.upper) is.1

      by_number : (i : IntegerKind) (z : ℤ) → map_or (Some (Number Four (pos 1))) (value_of (earlier k)) b.lower ≡ Some (Number i z)
          → map_or (Some (Number Four (pos 1))) (value_of later) b.lower ≡ Some (Number i z) → Extent k b
      by_number i z one two = record {
        size = _;
        counted = ap (λ o. extent o (value_of (earlier k) b.upper)) one ∙ ap (extent (Some (Number i z))) upper.is;
        elaborated =
            ap (λ o. extent o (value_of later b.upper)) two
            ∙ ap (extent (Some (Number i z))) (value_stays k keeps b.upper (Number upper.kind upper.value) upper.is);
      }

      by_lower : (o : Option Expression) → b.lower ≡ o → LowerIs (earlier k) o → Extent k b
      by_lower None e l =
          by_number Four (pos 1) (ap (map_or (Some (Number Four (pos 1))) (value_of (earlier k))) e) (ap (map_or (Some (Number Four (pos 1))) (value_of later)) e)
      by_lower (Some x) e l =
          let n = number_in (value_of (earlier k) x) l in
          by_number n.kind n.value (ap (map_or (Some (Number Four (pos 1))) (value_of (earlier k))) e ∙ n.is)
          (ap (map_or (Some (Number Four (pos 1))) (value_of later)) e ∙ value_stays k keeps x (Number n.kind n.value) n.is)

  -- an array of one dimension has as many elements as the rules count
  pub record Sized (k : Known) (shape : Option ShapeTree) : Type 0 where
    pub size : ℕ
    pub counted : elements (earlier k) shape ≡ Some size
    pub elaborated : count (spans_declared (e.dimensions later shape)) ≡ size

  pub sized : (k : Known) → Stays k → (shape : Option ShapeTree) → map_or 0 dimensions shape ≡ 1 → is_deferred shape ≡ false → PerhapsIs (earlier k) shape
      → are_dimensions_small (earlier k) shape ≡ true → Sized k shape
  sized k keeps None rank plain is small = absurd (let one : 0 ≡ 1 = rank in omega (arith, one))
  sized k keeps (Some (deferred ls)) rank plain is small = no plain
  sized k keeps (Some (explicit [])) rank plain is small = absurd (let one : 0 ≡ 1 = rank in omega (arith, one))
  sized k keeps (Some (explicit (b ∷ c ∷ bs))) rank plain is small =
      absurd (let one : suc (suc (length bs)) ≡ 1 = rank in omega (arith, one))
  sized k keeps (Some (explicit (b ∷ []))) rank plain is small =
      let x : Extent k b = extent_in k keeps b is.0 in
      let few : nat_lt 9223372036854775807 x.size ≡ false =
      negated_back (nat_lt 9223372036854775807 x.size) (ap (at_most 9223372036854775807) (sym x.counted) ∙ left (at_most 9223372036854775807 (bounds_extent (earlier k) b)) _ small) in
      record {
        size = 1 * x.size;
        counted = ap (λ o. multiplied (Some 1) o) x.counted;
        elaborated = ap (λ o. map_or 0 (λ n. min n (2 ^ 64 - 1)) o * 1) x.elaborated ∙ small_extent x.size few;
      }
