-- What is declared without a break is initialized with constants of its type: one for all elements, or one for each.
use Rattle.std.proofs.Common.{◌≡◌, ℕ, suc, ◌<◌, Bool, true, false, ◌&&◌, ◌||◌, not, nat_eq, nat_lt, List, [], ◌∷◌, ◌++◌, length, Option, None, Some, refl, sym, ap, ◌∙◌, arith, inl, inr, if◌then◌else◌}
use Rattle.std.specs.Prelude.{ℤ, pos, negsuc}
use Rattle.std.proofs.lemmas.Bool.Decides.{leb_tells}
use Rattle.f3_lookups.specs.declared.lookup.Lookup.{Lookup}
use Rattle.f3_rules.specs.declared.rule.Rule.TheVariants.{T1, T5}
use Rattle.f3_tree.specs.declared.expression.IntegerKind.{IntegerKind}
use Rattle.f3_tree.specs.declared.expression.IntegerKind.TheVariants.{Four, Eight}
use Rattle.f3_tree.specs.declared.declaration.TypeSpecifier.{TypeSpecifier}
use Rattle.f3_tree.specs.declared.declaration.TypeSpecifier.TheVariants as specifier
use Rattle.f3_tree.specs.Declarations.{allocatable, ShapeTree, EntityTree, DeclarationTree, Placed}
use Rattle.f3_tree.specs.Expressions as e
use Rattle.f3_tree.specs.Tree.{Tree}
use Rattle.f3_program.specs.declared.declarations.Base.{Base}
use Rattle.f3_program.specs.declared.declarations.Base.TheVariants as base
use Rattle.f3_program.specs.declared.declarations.Constant.{Constant}
use Rattle.f3_program.specs.declared.declarations.Dimension.{Dimension}
use Rattle.f3_program.specs.declared.program.Program.{Program}
use Rattle.f3_kinds.specs.declared.types.DataType.{DataType}
use Rattle.f3_kinds.specs.declared.types.DataType.TheVariants.{Integer, Logical, Derived}
use Rattle.f3_kinds.specs.declared.types.Object.{Object}
use Rattle.f3_kinds.specs.declared.types.Scalar.{Scalar}
use Rattle.f3_kinds.specs.declared.types.Scalar.TheVariants.{Number, Truth}
use Rattle.f3_kinds.specs.Rows.{at_name, unless, is_intrinsic_type}
use Rattle.f3_kinds.specs.Things.{map_or, Context}
use Rattle.f3_kinds.specs.Values.{value_of, converted, has_value, fits_kind}
use Rattle.f3_meaning_whole.specs.Arithmetic.{fits}
use Rattle.f3_meaning_whole.specs.Permitted.{Each}
use Rattle.f3_meaning_whole.specs.Formed.{all}
use Rattle.f3_meaning_whole.specs.Value.{count}
use Rattle.f3_meaning_whole.specs.Shape.{spans_declared}
use Rattle.f3_cell_kinds.specs.Sense.{constant_fits}
use Rattle.f3_type_rules.specs.Attributes.{has, is_deferred, is_derived, conflicts}
use Rattle.f3_type_rules.specs.Constants.{constant_rows}
use Rattle.f3_type_rules.specs.Names.{Names, is_given, shape_of, object_of, type_of}
use Rattle.f3_type_rules.specs.Shapes.{shape_rows, size_rows, elements, initial_fits, initial_right, all_converted, are_dimensions_small, at_most, cells_in}
use Rattle.f3_type_rules.specs.Shapes as shapes
use Rattle.f3_type_rules.specs.Walks.{Known, Spot, is_among}
use Rattle.f3_elaboration.specs.Nodes.{DeclaredNode}
use Rattle.f3_elaboration.specs.Declarations as elaborated
use Rattle.f3_elaboration.specs.Declarations.{Whole, constant_of, constants, initial, initial_values, declared}
use Rattle.f3_elaboration.specs.DeclaredViews.{program_view}
use Rattle.f3_elaboration.specs.Numbers.{base_by, base_of}
use Rattle.f3_elaboration.specs.Program.{elaborated as elaborated_program}
use Rattle.f3_lawful_laws.specs.Blocks.{IsStepWritten}
use Rattle.f3_lawful_laws.specs.Entities.{units_of, whole_of}
use Rattle.f3_lawful_laws.proofs.Facts.{no, nothing, same, first, second, holds, both, left, right, otherwise, negated_back}
use Rattle.f3_lawful_laws.proofs.Positions.{eq_same}
use Rattle.f3_formed_laws.proofs.Facts.{neither}
use Rattle.f3_formed_laws.proofs.Bases.{number_base}
use Rattle.f3_formed_laws.proofs.Declared.{Stands, stands}
use Rattle.f3_entity_laws.specs.Things.{Home, unit_in, number_of, IsHome}
use Rattle.f3_agreement_laws.specs.Unbroken.{IsUnbroken}
use Rattle.f3_initial_laws.specs.Written.{IsAttributeWritten, IsEntityWritten}
use Rattle.f3_initial_laws.proofs.Monotone.{converted_within}
use Rattle.f3_constant_laws.specs.Kept.{Kept}
use Rattle.f3_initial_laws.proofs.Shapes.{earlier, later, Stays, value_stays, is_right, shape_there, Sized, sized}
use Rattle.f3_constant_laws.proofs.Units.{final}

-- values that fit what is declared with a type and dimensions
abbrev pub values_fit : Base → List Dimension → List Constant → Bool
values_fit of ds xs = all (constant_fits of) xs && (nat_lt (length xs) 2 || nat_eq (length xs) (count (spans_declared ds)))

abbrev pub node_fits : DeclaredNode → Bool
node_fits y = values_fit (y.kind).of y.dimensions y.initial

-- ---- one constant

less : (m n : ℕ) → m < 9223372036854775808 → nat_lt n m ≡ true → nat_lt n 9223372036854775808 ≡ true
less m n lt is = elim (leb_tells (suc n) m) [
  | inl h ↦ elim (leb_tells (suc n) 9223372036854775808) [ inl k ↦ k.0 | inr k ↦ (let x = h.1 in let y = k.1 in let z = lt in absurd (omega (arith, x, y, z))) ]
  | inr h ↦ no (sym is ∙ h.0)
]

pub word : (k : IntegerKind) (z : ℤ) → fits_kind k z ≡ true → fits base.Long z ≡ true
word Four (pos n) h = less 2147483648 n (omega arith) h
word Four (negsuc n) h = less 2147483648 n (omega arith) h
word Eight (pos n) h = h
word Eight (negsuc n) h = h

scalar_fits : (type : ℕ → ℕ) (d : DataType) (o : Option Scalar) (s : Scalar) → converted d o ≡ Some s
    → constant_fits (base_by type (Some d)) (constant_of (Some s)) ≡ true
scalar_fits type (Integer k) (Some (Number j z)) s is = go (fits_kind k z) refl is
  where
    go : (b : Bool) → fits_kind k z ≡ b → (if b then Some (Number k z) else None) ≡ Some s → constant_fits (base_by type (Some (Integer k))) (constant_of (Some s)) ≡ true
    go true f is =
        ap (λ v. constant_fits (base_by type (Some (Integer k))) (constant_of (Some v))) (sym (same is)) ∙ both _ _ (number_base type k) (word k z f)
    go false f is = nothing is
scalar_fits type (Integer k) (Some (Truth b)) s is = nothing is
scalar_fits type (Integer k) None s is = nothing is
scalar_fits type Logical (Some (Truth b)) s is = ap (λ v. constant_fits base.Logical (constant_of (Some v))) (sym (same is))
scalar_fits type Logical (Some (Number j z)) s is = nothing is
scalar_fits type Logical None s is = nothing is
scalar_fits type (Derived n) (Some (Number j z)) s is = nothing is
scalar_fits type (Derived n) (Some (Truth b)) s is = nothing is
scalar_fits type (Derived n) None s is = nothing is

value_given : (o : Option Scalar) → has_value o ≡ true → (v : Scalar) × (o ≡ Some v)
value_given None e = no (sym e)
value_given (Some v) e = (v, refl)

-- ---- attributes

-- what is initialized is not of a derived type: T1
not_derived : (s : Spot) (x : DeclarationTree × EntityTree) → conflicts s x ≡ false → is_given (x.1).initial ≡ true → is_derived (x.0).specifier ≡ false
not_derived s x free given =
    let i = neither _ _ free in
    let h = neither _ _ i.0 in
    let g = neither _ _ h.0 in
    let f = neither _ _ g.0 in
    let e' = neither _ _ f.0 in
    let d = neither _ _ e'.0 in
    by (is_given (x.1).initial) (is_among s.dummies x.1 || is_among s.results x.1) (is_derived (x.0).specifier) given d.1
  where
    by : (a b c : Bool) → a ≡ true → (a && (b || c)) ≡ false → c ≡ false
    by true b c e f = (neither b c f).1
    by false b c e f = no (sym e)

derived_type : (names : Names) (scope n : ℕ) (x : TypeSpecifier) → type_of names scope x ≡ Some (Derived n) → is_derived x ≡ true
derived_type names scope n (specifier.Integer k) e = no (ap is_intrinsic_type (same e))
derived_type names scope n specifier.Logical e = no (ap is_intrinsic_type (same e))
derived_type names scope n (specifier.Derived m) e = refl

not_both : (a b : Bool) → (a && b) ≡ false → a ≡ true → b ≡ false
not_both true b e f = e
not_both false b e f = no (sym f)

-- an initialized name has a shape with bounds: T1
bounded : (held param given opens deferring dummy : Bool) → (held && (param || given || not opens)) ≡ false → given ≡ true
    → (deferring && not held && not dummy) ≡ false → dummy ≡ false → deferring ≡ false
bounded true param given opens deferring dummy e g f d = no (sym g ∙ (neither param given (neither (param || given) (not opens) e).0).1)
bounded false param given opens true true e g f d = d
bounded false param given opens true false e g f d = f
bounded false param given opens false dummy e g f d = refl

module _ (t : Tree) (look : ℕ → ℕ → Lookup) (order : List ℕ) (p : Program) (free : IsUnbroken t look order) (seen : program_view p ≡ elaborated_program t look order)
    (h : Home) (home : IsHome (units_of t) h) where
  abbrev w : Whole
  w = whole_of t look order

  abbrev of_type : Option DataType → Base
  of_type d = base_of w.numbers d

  module _ (k : Known) (stays : Stays t look order p free seen h home k) where
    -- ---- values

    abbrev now : Context
    now = earlier t look order p free seen h home k

    abbrev behind_all : Context
    behind_all = later t look order p free seen h home

    one_fits : (d : DataType) (x : e.Tree) → has_value (converted d (value_of now x)) ≡ true
        → constant_fits (of_type (Some d)) (constant_of (converted d (value_of behind_all x))) ≡ true
    one_fits d x given =
        let v = value_given (converted d (value_of now x)) given in
        let there = converted_within d (value_of now x) (value_of behind_all x) (value_stays t look order p free seen h home k stays x) v.0 v.1 in
        ap (λ o. constant_fits (of_type (Some d)) (constant_of o)) there ∙ scalar_fits _ d (value_of now x) v.0 v.1

    all_fit : (d : DataType) (es : e.Trees) → all_converted now d es ≡ true → all (constant_fits (of_type (Some d))) (constants behind_all d es) ≡ true
    all_fit d e.no_trees given = refl
    all_fit d (e.trees x es) given =
        both (constant_fits (of_type (Some d)) (constant_of (converted d (value_of behind_all x)))) _ (one_fits d x (left (has_value (converted d (value_of now x))) _ given))
        (all_fit d es (right (has_value (converted d (value_of now x))) _ given))

    long : (d : DataType) (es : e.Trees) → length (constants behind_all d es) ≡ shapes.count es
    long d e.no_trees = refl
    long d (e.trees x es) = let more = long d es in omega (arith, more)

    -- an array has as many values as elements
    record Counted (size : Option ℕ) (ds : List Dimension) : Type 0 where
      number : ℕ
      said : size ≡ Some number
      is : count (spans_declared ds) ≡ number

    either : (a b : Bool) → b ≡ true → (a || b) ≡ true
    either true b e = refl
    either false b e = e

    array_fits : (d : DataType) (rank : ℕ) (size : Option ℕ) (ds : List Dimension) (es : e.Trees)
        → (nat_eq rank 1 && all_converted now d es && map_or true (nat_eq (shapes.count es)) size) ≡ true → (rank ≡ 1 → Counted size ds)
        → values_fit (of_type (Some d)) ds (constants behind_all d es) ≡ true
    array_fits d rank size ds es f counted =
        let own = left (nat_eq rank 1 && all_converted now d es) _ f in
        let c : Counted size ds = counted (eq_same rank 1 (left (nat_eq rank 1) _ own)) in
        let all_of : nat_eq (shapes.count es) c.number ≡ true =
        ap (map_or true (nat_eq (shapes.count es))) (sym c.said) ∙ right (nat_eq rank 1 && all_converted now d es) _ f in
        both (all (constant_fits (of_type (Some d))) (constants behind_all d es)) _ (all_fit d es (right (nat_eq rank 1) _ own))
        (either (nat_lt (length (constants behind_all d es)) 2) _ (ap (λ n. nat_eq n (count (spans_declared ds))) (long d es) ∙ ap (nat_eq (shapes.count es)) c.is ∙ all_of))

    scalar_alone : (d : DataType) (ds : List Dimension) (x : e.Tree) → has_value (converted d (value_of now x)) ≡ true
        → values_fit (of_type (Some d)) ds (constant_of (converted d (value_of behind_all x)) ∷ []) ≡ true
    scalar_alone d ds x f = both (constant_fits (of_type (Some d)) (constant_of (converted d (value_of behind_all x))) && true) true (both _ _ (one_fits d x f) refl) refl

    type_fits : (d : DataType) (rank : ℕ) (size : Option ℕ) (ds : List Dimension) (x : e.Tree) → initial_fits now d rank size x ≡ true → (rank ≡ 1 → Counted size ds)
        → values_fit (of_type (Some d)) ds (initial_values behind_all d x) ≡ true
    type_fits d rank size ds (e.array q es) f counted = array_fits d rank size ds es f counted
    type_fits d rank size ds (e.integer q n) f counted = scalar_alone d ds (e.integer q n) f
    type_fits d rank size ds (e.truth q b) f counted = scalar_alone d ds (e.truth q b) f
    type_fits d rank size ds (e.text q n) f counted = scalar_alone d ds (e.text q n) f
    type_fits d rank size ds (e.designator ps) f counted = scalar_alone d ds (e.designator ps) f
    type_fits d rank size ds (e.group q x) f counted = scalar_alone d ds (e.group q x) f
    type_fits d rank size ds (e.signed q s x) f counted = scalar_alone d ds (e.signed q s x) f
    type_fits d rank size ds (e.negation q x) f counted = scalar_alone d ds (e.negation q x) f
    type_fits d rank size ds (e.comparison x r y) f counted = scalar_alone d ds (e.comparison x r y) f
    type_fits d rank size ds (e.chain x os) f counted = scalar_alone d ds (e.chain x os) f

    given_fits : (d : Option DataType) (rank : ℕ) (size : Option ℕ) (ds : List Dimension) (x : e.Tree) → ((n : ℕ) → d ≡ Some (Derived n) → ⊥)
        → initial_right now d rank size x ≡ true → (rank ≡ 1 → Counted size ds) → values_fit (of_type d) ds (initial behind_all d (Some x)) ≡ true
    given_fits None rank size ds x plain f counted = refl
    given_fits (Some (Derived n)) rank size ds x plain f counted = absurd (plain n refl)
    given_fits (Some (Integer i)) rank size ds x plain f counted = type_fits (Integer i) rank size ds x f counted
    given_fits (Some Logical) rank size ds x plain f counted = type_fits Logical rank size ds x f counted

    none_fits : (d : Option DataType) (ds : List Dimension) → values_fit (of_type d) ds (initial behind_all d None) ≡ true
    none_fits None ds = refl
    none_fits (Some d) ds = refl

  -- ---- one declared name

  abbrev pub spot : Bool → Bool → List ℕ → List ℕ → List ℕ → Spot
  spot typed pure dummies results listed = record {
    scene = w.scene;
    unit = (unit_in h).scope;
    scope = number_of h;
    is_type = typed;
    is_pure = pure;
    dummies = dummies;
    results = results;
    listed = listed;
  }

  module _ (typed pure : Bool) (dummies results listed : List ℕ) (d : DeclarationTree) (x : EntityTree)
      (kept : Kept (spot typed pure dummies results listed) d (final t look order free) x)
      (attributes : Each (λ (a : Placed). IsAttributeWritten a.attribute) d.attributes) (written : IsEntityWritten x) where
    abbrev s : Spot
    s = spot typed pure dummies results listed

    abbrev c : Context
    c = earlier t look order p free seen h home kept.here

    abbrev o : Object
    o = object_of (w.scene).names (number_of h) (d, x)

    abbrev shape : Option ShapeTree
    shape = shape_of (d, x)

    no_conflict : conflicts s (d, x) ≡ false
    no_conflict = negated_back (conflicts s (d, x)) (holds _ (at_name 5 T1 x.name) (first _ _ (second (shape_rows c x.shape) _ kept.rows)))

    behind : (size_rows s kept.here (d, x) ++ map_or [] (λ e. constant_rows 5 c (initial_right c o.data_type o.rank (elements c shape) e) e) x.initial) ≡ []
    behind = second (unless (not (conflicts s (d, x))) (at_name 5 T1 x.name)) _ (second (shape_rows c x.shape) _ kept.rows)

    module _ (given : is_given x.initial ≡ true) where
      at : Stands s (d, x)
      at = stands s (d, x) no_conflict

      no_dummy : is_among s.dummies x ≡ false
      no_dummy = (neither (is_among s.dummies x) (is_among s.results x) (not_both (is_given x.initial) _ at.initial given)).0

      is_bounded : is_deferred shape ≡ false
      is_bounded = bounded (has allocatable d) _ (is_given x.initial) _ (is_deferred shape) (is_among s.dummies x) at.opened given at.deferring no_dummy

      is_small : are_dimensions_small c shape ≡ true
      is_small =
          let all_of = holds _ (at_name 5 T5 x.name) (first (size_rows s kept.here (d, x)) _ behind) in
          right (at_most 16777216 (cells_in s kept.here (d, x))) _ (otherwise (is_among s.dummies x) _ (right _ _ all_of) no_dummy)

      plain : (n : ℕ) → o.data_type ≡ Some (Derived n) → ⊥
      plain n e = no (sym (derived_type (w.scene).names (number_of h) n d.specifier e) ∙ not_derived s (d, x) no_conflict given)

      counted : o.rank ≡ 1 → Counted kept.here kept.ended (elements c shape) (elaborated.dimensions (later t look order p free seen h home) shape)
      counted rank =
          let z : Sized t look order p free seen h home kept.here shape =
          sized t look order p free seen h home kept.here kept.ended shape rank is_bounded
          (shape_there t look order p free seen h home kept.start kept.here kept.started d x attributes written.0 kept.dimensions (first (shape_rows c x.shape) _ kept.rows))
          is_small in
          record { number = z.size; said = z.counted; is = z.elaborated }

    pub declared_fits : node_fits (declared w (unit_in h).scope (number_of h) (d, x)) ≡ true
    declared_fits = go x.initial refl written.1 (second (size_rows s kept.here (d, x)) _ behind)
      where
        go : (i : Option e.Tree) → x.initial ≡ i → IsStepWritten i
            → map_or [] (λ e. constant_rows 5 c (initial_right c o.data_type o.rank (elements c shape) e) e) i ≡ []
            → values_fit (of_type o.data_type) (elaborated.dimensions (later t look order p free seen h home) shape)
            (initial (later t look order p free seen h home) o.data_type i) ≡ true
        go None is written rows = none_fits kept.here kept.ended o.data_type _
        go (Some y) is written rows =
            let given : is_given x.initial ≡ true = ap is_given is in
            given_fits kept.here kept.ended o.data_type o.rank (elements c shape) _ y (plain given)
            (is_right t look order p free seen h home kept.here (initial_right c o.data_type o.rank (elements c shape) y) y written rows) (counted given)
