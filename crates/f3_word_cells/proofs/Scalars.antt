-- Which values and objects are scalars.
use Rattle.std.proofs.Common.{◌≡◌, ◌≢◌, ◌∙◌, inl, inr, ℕ, Bool, true, false, List, [], ◌∷◌, length, refl, sym, subst, ap}
use Rattle.std.specs.Prelude.{◌⊎◌, Some, ℤ, pos, nat_eq, nat_lt, ◌||◌}
use Rattle.std.proofs.lemmas.List.{length-map}
use Rattle.std.proofs.lemmas.Bool.{eqb-true}
use Rattle.f3_program.specs.declared.declarations.Base.{Base}
use Rattle.f3_program.specs.declared.declarations.Base.TheVariants as base
use Rattle.f3_program.specs.declared.declarations.Constant.{Constant}
use Rattle.f3_program.specs.declared.declarations.Constant.TheVariants as constant
use Rattle.f3_program.specs.declared.declarations.Derived.{Derived}
use Rattle.f3_program.specs.declared.declarations.Kind.{Kind}
use Rattle.f3_program.specs.declared.program.Program.{Program}
use Rattle.f3_desc.specs.declared.descriptor.Dim.{Dim}
use Rattle.f3_live_blocks.specs.Blocks.{Live}
use Rattle.f3_meaning_whole.specs.Value.{Span, Value, Number, Truth, Composite, Array, Unallocated, Allocated, Values, count}
use Rattle.f3_meaning_whole.specs.Reference.{Reach, One, Many, Reference}
use Rattle.f3_meaning_whole.specs.Arithmetic.{constant_value, fits}
use Rattle.f3_meaning_whole.specs.Permitted.{same_type}
use Rattle.f3_meaning_whole.specs.Formed.{is_number, is_scalar, is_whole_number, is_condition}
use Rattle.f3_meaning_whole.specs.Shape.{Shape, Whole, Logical, Record}
use Rattle.f3_meaning_whole.specs.Act.{derived_of}
use Rattle.f3_meaning_whole.specs.Store.{Path}
use Rattle.f3_cell_kinds.specs.Holds.{IsOf, Refers, Reaches}
use Rattle.f3_cell_kinds.proofs.Asked.{and_is, not_is, or_is}
use Rattle.f3_cell_kinds.proofs.Scalars.{no_truth, no_derived, no_rank, no_both}
use Rattle.f3_rooms.specs.Held.{Empty}
use Rattle.f3_rooms.specs.Forms.{words_for}
use Rattle.f3_rooms.specs.Values.{laid, object}
use Rattle.f3_rooms.specs.Rooms.{Rooms}
use Rattle.f3_rooms.specs.Places.{is_scalar_shape}
use Rattle.f3_room_arrays.specs.Elements.{StandsAt, Tells}
use Rattle.f3_word_cells.specs.declared.cell.Area.{Area}
use Rattle.f3_word_cells.specs.declared.cell.Datum.{Datum}
use Rattle.f3_word_cells.specs.declared.cell.Datum.TheVariants as datum
use Rattle.f3_word_cells.specs.declared.cell.Object.{Object}
use Rattle.f3_word_cells.specs.declared.cell.Object.TheVariants as o
use Rattle.f3_word_cells.specs.Areas.{AreThere, IsBlock, IsDatum, IsObject, shape_for, span_of, spans_of, types_of, value_in}

-- ---- kinds

pub scalar_held : (k : Kind) → is_scalar k ≡ true → k.is_allocatable ≡ false
scalar_held k e = not_is _ (and_is _ _ e).0

pub scalar_rank : (k : Kind) → is_scalar k ≡ true → nat_eq k.rank 0 ≡ true
scalar_rank k e = (and_is _ _ e).1

pub whole_scalar : (k : Kind) → is_whole_number k ≡ true → is_scalar k ≡ true
whole_scalar k e = (and_is _ _ e).0

pub whole_number : (k : Kind) → is_whole_number k ≡ true → is_number k.of ≡ true
whole_number k e = (and_is _ _ e).1

pub condition_scalar : (k : Kind) → is_condition k ≡ true → is_scalar k ≡ true
condition_scalar k e = (and_is _ _ e).0

pub condition_truth : (k : Kind) → is_condition k ≡ true → same_type k.of base.Logical ≡ true
condition_truth k e = (and_is _ _ e).1

-- the shapes of types that are not derived
pub shape_of_number : (p : Program) (of : Base) → is_number of ≡ true → shape_for p of ≡ Whole
shape_of_number p base.Integer e = refl
shape_of_number p base.Long e = refl
shape_of_number p base.Logical e = absurd (cc)
shape_of_number p (base.Derived t) e = absurd (cc)

pub shape_of_truth : (p : Program) (of : Base) → same_type of base.Logical ≡ true → shape_for p of ≡ Logical
shape_of_truth p base.Integer e = absurd (cc)
shape_of_truth p base.Long e = absurd (cc)
shape_of_truth p base.Logical e = refl
shape_of_truth p (base.Derived t) e = absurd (cc)

-- ---- values of kinds

module _ (types : List Derived) where
  pub number_value : (k : Kind) (v : Value) → is_whole_number k ≡ true → IsOf types k v → (z : ℤ) × (v ≡ Number z) × (fits base.Long z ≡ true)
  number_value k (Number z) e h = (z, refl, h.1)
  number_value k (Truth b) e h = absurd (no_truth k.of (whole_number k e) (condition_truth k h))
  number_value k (Composite vs) e h = absurd (no_derived types k.of h.1 (whole_number k e) h.2)
  number_value k (Array ss vs) e h = absurd (no_rank k.rank (scalar_rank k (whole_scalar k e)) h.1)
  number_value k Unallocated e h = absurd (no_both k.is_allocatable h (scalar_held k (whole_scalar k e)))
  number_value k (Allocated v) e h = absurd (no_both k.is_allocatable h.0 (scalar_held k (whole_scalar k e)))

  pub truth_type : (t : Base) → same_type t base.Logical ≡ true → (is_number t || same_type t base.Logical) ≡ true
  truth_type base.Integer e = absurd (cc)
  truth_type base.Long e = absurd (cc)
  truth_type base.Logical e = refl
  truth_type (base.Derived t) e = absurd (cc)

  no_type : (t : Base) (y : Derived) → same_type t base.Logical ≡ true → derived_of types t ≡ Some y → ⊥
  no_type base.Integer y e f = cc
  no_type base.Long y e f = cc
  no_type base.Logical y e f = cc
  no_type (base.Derived t) y e f = cc

  no_derived_there : (t : Base) (y : Derived) → (is_number t || same_type t base.Logical) ≡ true → derived_of types t ≡ Some y → ⊥
  no_derived_there base.Integer y e f = cc
  no_derived_there base.Long y e f = cc
  no_derived_there base.Logical y e f = cc
  no_derived_there (base.Derived t) y e f = cc

  pub truth_value : (k : Kind) (v : Value) → is_condition k ≡ true → IsOf types k v → (b : Bool) × (v ≡ Truth b)
  truth_value k (Number z) e h = absurd (no_truth k.of (whole_number k h.0) (condition_truth k e))
  truth_value k (Truth b) e h = (b, refl)
  truth_value k (Composite vs) e h = absurd (no_type k.of h.1 (condition_truth k e) h.2)
  truth_value k (Array ss vs) e h = absurd (no_rank k.rank (scalar_rank k (condition_scalar k e)) h.1)
  truth_value k Unallocated e h = absurd (no_both k.is_allocatable h (scalar_held k (condition_scalar k e)))
  truth_value k (Allocated v) e h = absurd (no_both k.is_allocatable h.0 (scalar_held k (condition_scalar k e)))

-- ---- values in blocks

-- what words of a block may be: one object of derived type, or an array
pub data Large (ds : List Dim) (v : Value) : Type 0 where
  IsComposite : (vs : Values) → ds ≡ [] → v ≡ Composite vs → Large ds v
  IsArray : (ss : List Span) (vs : Values) → ss ≡ spans_of ds → v ≡ Array ss vs → Large ds v

large : (m : Live) (ds : List Dim) (s : Shape) (b : ℕ) → (ds ≢ []) ⊎ (is_scalar_shape s ≡ false)
    → Large ds (laid (length ds) (spans_of ds) (words_for s) (object m s) b 0 Empty)
large m [] Whole b (inl some) = absurd (some refl)
large m [] Whole b (inr other) = absurd (cc)
large m [] Logical b (inl some) = absurd (some refl)
large m [] Logical b (inr other) = absurd (cc)
large m [] (Record t parts) b h = IsComposite _ refl refl
large m (d ∷ ds) s b h = IsArray _ _ refl refl

pub large_block : (p : Program) (m : Live) (a : Area) → IsBlock p m a → Large a.elements.dims.items (value_in p m a)
large_block p m a h = large m a.elements.dims.items (shape_for p a.of) a.elements.block h.large

module _ (p : Program) (m : Live) where
  -- a value of a block is no scalar
  no_number : (ds : List Dim) (v : Value) (z : ℤ) → Large ds v → v ≡ Number z → ⊥
  no_number ds v z (IsComposite vs none is) e = cc
  no_number ds v z (IsArray ss vs same is) e = cc

  no_truth_there : (ds : List Dim) (v : Value) (b : Bool) → Large ds v → v ≡ Truth b → ⊥
  no_truth_there ds v b (IsComposite vs none is) e = cc
  no_truth_there ds v b (IsArray ss vs same is) e = cc

  -- ---- which datum is of a kind

  -- a whole number
  pub number_datum : (k : Kind) (d : Datum) (v : Value) → is_whole_number k ≡ true → IsOf p.types.items k v → IsDatum p m d v
      → (z : ℤ) × (d ≡ datum.Scalar (constant.Number z)) × (v ≡ Number z) × (fits base.Long z ≡ true)
  number_datum k (datum.Scalar (constant.Number z)) v e of is =
      let there : IsOf p.types.items k (Number z) = subst (λ (y : Value). IsOf p.types.items k y) is of in (z, refl, is, there.1)
  number_datum k (datum.Scalar (constant.Truth b)) v e of is =
      let there : IsOf p.types.items k (Truth b) = subst (λ (y : Value). IsOf p.types.items k y) is of in
      absurd (no_truth k.of (whole_number k e) (condition_truth k there))
  number_datum k (datum.Block a) v e of is =
      let x = number_value p.types.items k v e of in absurd (no_number a.elements.dims.items (value_in p m a) x.0 (large_block p m a is.0) (sym is.1 ∙ x.1))

  -- a condition
  pub truth_datum : (k : Kind) (d : Datum) (v : Value) → is_condition k ≡ true → IsOf p.types.items k v → IsDatum p m d v
      → (b : Bool) × (d ≡ datum.Scalar (constant.Truth b)) × (v ≡ Truth b)
  truth_datum k (datum.Scalar (constant.Number z)) v e of is =
      let there : IsOf p.types.items k (Number z) = subst (λ (y : Value). IsOf p.types.items k y) is of in
      absurd (no_truth k.of (whole_number k there.0) (condition_truth k e))
  truth_datum k (datum.Scalar (constant.Truth b)) v e of is = (b, refl, is)
  truth_datum k (datum.Block a) v e of is =
      let x = truth_value p.types.items k v e of in
      absurd (no_truth_there a.elements.dims.items (value_in p m a) x.0 (large_block p m a is.0) (sym is.1 ∙ x.1))

  -- what a block is of a kind that is a scalar, or an array
  no_array : (k : Kind) (ss : List Span) (vs : Values) → is_scalar k ≡ true → IsOf p.types.items k (Array ss vs) → ⊥
  no_array k ss vs e h = no_rank k.rank (scalar_rank k e) h.1

  no_composite : (k : Kind) (vs : Values) → (is_number k.of || same_type k.of base.Logical) ≡ true → IsOf p.types.items k (Composite vs) → ⊥
  no_composite k vs e h = no_derived_there p.types.items k.of h.1 e h.2

  not_large : (k : Kind) (ds : List Dim) (v : Value) → is_scalar k ≡ true → (is_number k.of || same_type k.of base.Logical) ≡ true → IsOf p.types.items k v
      → Large ds v → ⊥
  not_large k ds v e f of (IsComposite vs none is) = no_composite k vs f (subst (λ (y : Value). IsOf p.types.items k y) is of)
  not_large k ds v e f of (IsArray ss vs same is) = no_array k ss vs e (subst (λ (y : Value). IsOf p.types.items k y) is of)

  -- any scalar that is not of derived type
  pub scalar_datum : (k : Kind) (d : Datum) (v : Value) → is_scalar k ≡ true → (is_number k.of || same_type k.of base.Logical) ≡ true
      → IsOf p.types.items k v → IsDatum p m d v → (c : Constant) × (d ≡ datum.Scalar c) × (v ≡ constant_value c)
  scalar_datum k (datum.Scalar c) v e f of is = (c, refl, is)
  scalar_datum k (datum.Block a) v e f of is =
      absurd (not_large k a.elements.dims.items (value_in p m a) e f (subst (λ (y : Value). IsOf p.types.items k y) is.1 of) (large_block p m a is.0))

  -- the kind of a scalar
  pub scalar_kind : (k : Kind) (c : Constant) (v : Value) → IsOf p.types.items k v → v ≡ constant_value c → is_scalar k ≡ true
  scalar_kind k (constant.Number z) v of is = let h : IsOf p.types.items k (Number z) = subst (λ (y : Value). IsOf p.types.items k y) is of in whole_scalar k h.0
  scalar_kind k (constant.Truth b) v of is = let h : IsOf p.types.items k (Truth b) = subst (λ (y : Value). IsOf p.types.items k y) is of in condition_scalar k h

  -- it is not of derived type
  of_scalar : (k : Kind) (c : Constant) (v : Value) → IsOf p.types.items k v → v ≡ constant_value c → (is_number k.of || same_type k.of base.Logical) ≡ true
  of_scalar k (constant.Number z) v of is =
      let h : IsOf p.types.items k (Number z) = subst (λ (y : Value). IsOf p.types.items k y) is of in
      ap (λ b. b || same_type k.of base.Logical) (whole_number k h.0)
  of_scalar k (constant.Truth b) v of is =
      let h : IsOf p.types.items k (Truth b) = subst (λ (y : Value). IsOf p.types.items k y) is of in
      truth_type p.types.items k.of (condition_truth k h)

  block_rank : (k : Kind) (ds : List Dim) (v : Value) → IsOf p.types.items k v → Large ds v → (k.is_allocatable ≡ false) × (length ds ≡ k.rank)
  block_rank k ds v of (IsComposite vs none is) =
      let h : IsOf p.types.items k (Composite vs) = subst (λ (y : Value). IsOf p.types.items k y) is of in
      (scalar_held k h.0, ap length none ∙ sym (eqb-true k.rank 0 (scalar_rank k h.0)))
  block_rank k ds v of (IsArray ss vs same is) =
      let h : IsOf p.types.items k (Array ss vs) = subst (λ (y : Value). IsOf p.types.items k y) is of in
      (h.0, sym (ap length same ∙ length-map ds span_of) ∙ h.2)

  -- no value is allocatable
  pub datum_held : (k : Kind) (d : Datum) (v : Value) → IsOf p.types.items k v → IsDatum p m d v → k.is_allocatable ≡ false
  datum_held k (datum.Scalar c) v of is = scalar_held k (scalar_kind k c v of is)
  datum_held k (datum.Block a) v of is =
      (block_rank k a.elements.dims.items (value_in p m a) (subst (λ (y : Value). IsOf p.types.items k y) is.1 of) (large_block p m a is.0)).0

  -- the rank of a block
  pub datum_rank : (k : Kind) (a : Area) (v : Value) → IsOf p.types.items k v → IsDatum p m (datum.Block a) v → length a.elements.dims.items ≡ k.rank
  datum_rank k a v of is =
      (block_rank k a.elements.dims.items (value_in p m a) (subst (λ (y : Value). IsOf p.types.items k y) is.1 of) (large_block p m a is.0)).1

  -- an array is a block
  pub array_datum : (k : Kind) (d : Datum) (v : Value) → nat_lt 0 k.rank ≡ true → IsOf p.types.items k v → IsDatum p m d v
      → (a : Area) × (d ≡ datum.Block a) × IsBlock p m a × (v ≡ value_in p m a) × (length a.elements.dims.items ≡ k.rank)
  array_datum k (datum.Scalar c) v e of is = absurd (no_rank k.rank (scalar_rank k (scalar_kind k c v of is)) e)
  array_datum k (datum.Block a) v e of is = (a, refl, is.0, is.1, datum_rank k a v of is)

  -- so is an object of derived type
  pub derived_datum : (k : Kind) (d : Datum) (v : Value) → (is_number k.of || same_type k.of base.Logical) ≡ false → IsOf p.types.items k v → IsDatum p m d v
      → (a : Area) × (d ≡ datum.Block a) × IsBlock p m a × (v ≡ value_in p m a) × (length a.elements.dims.items ≡ k.rank)
  derived_datum k (datum.Scalar c) v e of is = absurd (no_both (is_number k.of || same_type k.of base.Logical) (of_scalar k c v of is) e)
  derived_datum k (datum.Block a) v e of is = (a, refl, is.0, is.1, datum_rank k a v of is)

-- ---- which object is of a kind

one_of : (k : Kind) (reach : Reach) → is_scalar k ≡ true → Reaches k reach → reach ≡ One
one_of k One e h = refl
one_of k (Many ss ps) e h = absurd (no_rank k.rank (scalar_rank k e) h.1)

many_of : (k : Kind) (reach : Reach) → nat_lt 0 k.rank ≡ true → k.is_allocatable ≡ false → Reaches k reach
    → (ss : List Span) × (ps : List Path) × (reach ≡ Many ss ps) × (length ss ≡ k.rank) × (length ps ≡ count ss)
many_of k One e f h = absurd (no_rank k.rank (or_is _ _ h f) e)
many_of k (Many ss ps) e f h = (ss, ps, refl, h.2, h.3)

-- how many objects a reference reaches
pub one_reached : (k : Kind) (r : Reference) → is_scalar k ≡ true → Refers k r → r.reach ≡ One
one_reached k r e h = one_of k r.reach e h.1

pub many_reached : (k : Kind) (r : Reference) → nat_lt 0 k.rank ≡ true → k.is_allocatable ≡ false → Refers k r
    → (ss : List Span) × (ps : List Path) × (r.reach ≡ Many ss ps) × (length ss ≡ k.rank) × (length ps ≡ count ss)
many_reached k r e f h = many_of k r.reach e f h.1

no_one : (ss : List Span) (ps : List Path) → One ≡ Many ss ps → ⊥
no_one ss ps e = cc

module _ (p : Program) (x : Rooms) where
  -- one object
  pub one_object : (k : Kind) (a : Area) (r : Reference) → is_scalar k ≡ true → Refers k r → IsObject p x (o.Stands a) r
      → (a.elements.dims.items ≡ []) × StandsAt (types_of p) x a.elements.block (shape_for p a.of) (pos a.elements.offset) r.path × (a.of ≡ k.of)
  one_object k a r e refers is =
      let there : AreThere p x a r.path One = subst (λ (y : Reach). AreThere p x a r.path y) (one_reached k r e refers) is.1 in
      (there.0, there.1, sym is.0 ∙ refers.0)

  many_there : (k : Kind) (a : Area) (q : Path) (ss : List Span) (ps : List Path) → length ss ≡ k.rank → AreThere p x a q (Many ss ps) → length a.elements.dims.items ≡ k.rank
  many_there k a q ss ps e h = sym (ap length h.1 ∙ length-map a.elements.dims.items span_of) ∙ e

  -- elements of an array
  pub many_object : (k : Kind) (w : Object) (r : Reference) → nat_lt 0 k.rank ≡ true → k.is_allocatable ≡ false → Refers k r → IsObject p x w r
      → (a : Area) × (w ≡ o.Stands a) × (ps : List Path) × (r.reach ≡ Many (spans_of a.elements.dims.items) ps) × (a.elements.dims.items ≢ [])
      × Tells (types_of p) x a.elements (shape_for p a.of) ps × (length a.elements.dims.items ≡ k.rank) × (a.of ≡ k.of)
  many_object k (o.Held of c) r e f refers is =
      let there = many_reached k r e f refers in absurd (no_one there.0 there.1 (sym is.1 ∙ there.2))
  many_object k (o.Stands a) r e f refers is =
      let y = many_reached k r e f refers in
      let there : AreThere p x a r.path (Many y.0 y.1) = subst (λ (z : Reach). AreThere p x a r.path z) y.2 is.1 in
      (a, refl, y.1, y.2 ∙ ap (λ (ss : List Span). Many ss y.1) there.1, there.0, there.2, many_there k a r.path y.0 y.1 y.3 there, sym is.0 ∙ refers.0)
