-- Dummies are for the objects that the machine over values has.
use Rattle.std.proofs.Common.{◌≡◌, ◌∙◌, ℕ, zero, suc, ◌+◌, ◌<◌, Bool, true, false, List, [], ◌∷◌, ◌++◌, length, map, refl, sym, ap, subst, arith, append_assoc, if◌then◌else◌}
use Rattle.std.specs.Prelude.{⊤, ◌⊎◌, nat_eq, Some, slice_get, slice_index_or, pos}
use Rattle.std.specs.declared.alloc.Global.{Global}
use Rattle.std.proofs.lemmas.Bool.{eqb-true}
use Rattle.std.proofs.lemmas.List.{length-append}
use Rattle.f3_program.specs.declared.declarations.Base.{Base}
use Rattle.f3_program.specs.declared.declarations.Base.TheVariants as base
use Rattle.f3_program.specs.declared.declarations.Constant.{Constant}
use Rattle.f3_program.specs.declared.declarations.Constant.TheVariants as constant
use Rattle.f3_program.specs.declared.declarations.Derived.{Derived}
use Rattle.f3_program.specs.declared.declarations.Kind.{Kind}
use Rattle.f3_program.specs.declared.program.Dummy.{Dummy}
use Rattle.f3_program.specs.declared.program.Program.{Program}
use Rattle.f3_meaning_whole.specs.Arithmetic.{constant_value}
use Rattle.f3_meaning_whole.specs.Value.{Value, Unallocated}
use Rattle.f3_meaning_whole.specs.Store.{Local, get}
use Rattle.f3_meaning_whole.specs.Reference.{Read, reach_of}
use Rattle.f3_meaning_whole.specs.Act.{passed_at, to_root, whole}
use Rattle.f3_meaning_whole.specs.Act as m
use Rattle.f3_meaning_whole.specs.Exec.{argument_at, bound, dummies, held}
use Rattle.f3_meaning_whole.specs.Formed.{all, all_given, alike, dummy_takes, fits_dummy, given_for, is_number, is_scalar}
use Rattle.f3_meaning_whole.specs.Permitted.{same_type}
use Rattle.f3_meaning_whole.specs.Formed as formed
use Rattle.f3_meaning_whole.specs.Shape.{spans_declared}
use Rattle.f3_code.specs.Exec.{is_held}
use Rattle.f3_cell_kinds.specs.Holds.{IsOf}
use Rattle.f3_cell_kinds.proofs.Asked.{and_is, some_is, some_same}
use Rattle.f3_cell_kinds.proofs.Reaching.{AllPassed}
use Rattle.f3_rooms.specs.Forms.{Laid, words_for}
use Rattle.f3_rooms.specs.Places.{found, is_scalar_shape}
use Rattle.f3_rooms.specs.Rooms.{Known, Rooms, Slot, Stands as Stood, store_of}
use Rattle.f3_rooms.specs.Laws.{with_level}
use Rattle.f3_rooms.specs.Ways.{numbers, settled, variable_in}
use Rattle.f3_rooms.proofs.Whole.{locals_stand}
use Rattle.f3_live_blocks.specs.Blocks.{Live}
use Rattle.f3_desc.specs.declared.descriptor.Dim.{Dim}
use Rattle.f3_desc.specs.Laws.{IsContiguous, size_of}
use Rattle.f3_word_cells.specs.declared.cell.Area.{Area}
use Rattle.f3_word_cells.specs.declared.cell.Datum.{Datum}
use Rattle.f3_word_cells.specs.declared.cell.Datum.TheVariants as datum
use Rattle.f3_word_cells.specs.declared.cell.Object.TheVariants as o
use Rattle.f3_word_cells.specs.declared.cell.Passed.TheVariants as passed
use Rattle.f3_word_cells.specs.declared.cell.Cell.{Cell}
use Rattle.f3_word_cells.specs.declared.cell.Cell.TheVariants as c
use Rattle.f3_word_cells.specs.declared.state.Name.{Name}
use Rattle.f3_word_cells.specs.Areas.{AreThere, IsDatum, IsObject, shape_for, spans_of, types_of}
use Rattle.f3_word_cells.specs.Cells.{AreNames}
use Rattle.f3_word_cells.specs.States.{IsLaid, is_held_at}
use Rattle.f3_word_cells.proofs.Within.{object_within, rooms_with_level}
use Rattle.f3_word_areas.specs.Parts.{AreDimsOf, IsPart}
use Rattle.f3_word_areas.proofs.There.{part-there}
use Rattle.f3_word_calls.proofs.Holding.{AreShort, IsShort, declared_as, dimension_of, held_there, room_for, slot_of, slots_of}
use Rattle.f3_word_entries.specs.Names.{AreNamed, IsNamed, held_object, numbered}
use Rattle.f3_word_entries.proofs.Arguments.{Correspond}

-- the values that are held, in the order of the arguments
abbrev pub held_data : List Cell → List Datum
held_data [] = []
held_data (c.Argument (passed.Given k d) ∷ cs) = d ∷ held_data cs
held_data (z ∷ cs) = held_data cs

-- ---- types

pub alike_shape : (p : Program) (t u : Base) → alike t u ≡ true → shape_for p t ≡ shape_for p u
alike_shape p base.Integer base.Integer e = refl
alike_shape p base.Integer base.Long e = refl
alike_shape p base.Long base.Integer e = refl
alike_shape p base.Long base.Long e = refl
alike_shape p base.Logical base.Logical e = refl
alike_shape p (base.Derived t) (base.Derived u) e = ap (λ n. shape_for p (base.Derived n)) (eqb-true t u e)
alike_shape p base.Integer base.Logical e = absurd (cc)
alike_shape p base.Integer (base.Derived u) e = absurd (cc)
alike_shape p base.Long base.Logical e = absurd (cc)
alike_shape p base.Long (base.Derived u) e = absurd (cc)
alike_shape p base.Logical base.Integer e = absurd (cc)
alike_shape p base.Logical base.Long e = absurd (cc)
alike_shape p base.Logical (base.Derived u) e = absurd (cc)
alike_shape p (base.Derived t) base.Integer e = absurd (cc)
alike_shape p (base.Derived t) base.Long e = absurd (cc)
alike_shape p (base.Derived t) base.Logical e = absurd (cc)

number_shape : (p : Program) (of : Base) → is_number of ≡ true → is_scalar_shape (shape_for p of) ≡ true
number_shape p base.Integer e = refl
number_shape p base.Long e = refl
number_shape p base.Logical e = absurd (cc)
number_shape p (base.Derived t) e = absurd (cc)

logical_shape : (p : Program) (of : Base) → same_type of base.Logical ≡ true → is_scalar_shape (shape_for p of) ≡ true
logical_shape p base.Integer e = absurd (cc)
logical_shape p base.Long e = absurd (cc)
logical_shape p base.Logical e = refl
logical_shape p (base.Derived t) e = absurd (cc)

constant_shape : (p : Program) (types : List Derived) (k : Kind) (z : Constant) → IsOf types k (constant_value z) → is_scalar_shape (shape_for p k.of) ≡ true
constant_shape p types k (constant.Number z) is = number_shape p k.of (and_is (is_scalar k) (is_number k.of) is.0).1
constant_shape p types k (constant.Truth b) is = logical_shape p k.of (and_is (is_scalar k) (same_type k.of base.Logical) is).1

-- a dummy takes a value of a type alike
alike_of : (d : Dummy) (g : formed.Given) → dummy_takes d g ≡ true → g.is_variable ≡ false → alike d.kind.of g.kind.of ≡ true
alike_of d g e f =
    let a = and_is _ _ e in
    subst (λ (b : Bool). (if b then same_type d.kind.of g.kind.of else alike d.kind.of g.kind.of) ≡ true) f a.0

-- ---- lists

get_last : {A : Type 0} (xs : List A) (y : A) → slice_get (xs ++ y ∷ []) (length xs) ≡ Some y
get_last [] y = refl
get_last (x ∷ xs) y = get_last xs y

pub index_amid : {A : Type 0} (xs ys : List A) (y d : A) → slice_index_or (xs ++ y ∷ ys) (length xs) d ≡ y
index_amid [] ys y d = refl
index_amid (x ∷ xs) ys y d = index_amid xs ys y d

numbers_append : (ss ts : List Slot) → numbers (ss ++ ts) ≡ numbers ss + numbers ts
numbers_append [] ts = omega arith
numbers_append (Known v ∷ ss) ts = let e = numbers_append ss ts in omega (arith, e)
numbers_append (Stood r ∷ ss) ts = let e = numbers_append ss ts in omega (arith, e)

same_spans : (ds : List Dim) → spans_declared (map dimension_of ds) ≡ spans_of ds
same_spans [] = refl
same_spans (d ∷ ds) = ap (λ ss. record { lower = d.lower; extent = d.extent } ∷ ss) (same_spans ds)

held_dims : (n : ℕ) (ds : List Dim) → (size_of ds ≡ 0) ⊎ IsContiguous (pos n) ds → AreDimsOf n (settled (Laid (length ds) (spans_declared (map dimension_of ds)))) ds
held_dims n [] is = (refl, refl)
held_dims n (d ∷ ds) is = ((λ e. cc), sym (same_spans (d ∷ ds)), is)

module _ (p : Program) (h : Global) (live : Live) (x : Rooms) (ns : List Name) (unit : ℕ) (slots : List Slot) (values : List Value)
    (there : slice_index_or (store_of (types_of p) live (with_level x slots)).levels (length x.levels) [] ≡ values) where
  abbrev level : ℕ
  level = length x.levels

  abbrev inner : Rooms
  inner = with_level x slots

  slot_more : (ss : List Slot) (d : Datum) (short : IsShort d) → numbers (ss ++ slot_of h d short ∷ []) ≡ suc (numbers ss)
  slot_more ss (datum.Scalar k) short = let e = numbers_append ss (slot_of h (datum.Scalar k) short ∷ []) in omega (arith, e)
  slot_more ss (datum.Block a) short = let e = numbers_append ss (slot_of h (datum.Block a) short ∷ []) in omega (arith, e)

  -- a value that is held stands on the level
  held_is : (d : Dummy) (g : formed.Given) (it : Datum) (short : IsShort it) (v : Value) (slot : ℕ) (front behind : List Slot) (before after : List Value)
      → slots ≡ front ++ slot_of h it short ∷ behind → values ≡ before ++ v ∷ after → slot ≡ numbers front → slot ≡ length before
      → dummy_takes d g ≡ true → g.is_variable ≡ false → IsOf p.types.items g.kind v → IsDatum p live it v → IsLaid p g.kind it
      → IsObject p inner (held_object d.kind.of it) (to_root (Local level slot) d.kind.of Read unit v)
  held_is d g (datum.Scalar k) short v slot front behind before after all vs at many takes lent of is laid =
      let shape = alike_shape p d.kind.of g.kind.of (alike_of d g takes lent) in
      let scalar : is_scalar_shape (shape_for p d.kind.of) ≡ true =
      ap is_scalar_shape shape ∙ constant_shape p p.types.items g.kind k (subst (IsOf p.types.items g.kind) is of) in
      subst (λ ss. IsObject p (with_level x ss) (o.Held d.kind.of k) (to_root (Local level slot) d.kind.of Read unit v)) (sym all)
      (subst (λ i. IsObject p (with_level x (front ++ slot_of h (datum.Scalar k) short ∷ behind)) (o.Held d.kind.of k) (to_root (Local level i) d.kind.of Read unit v)) (sym at)
      (subst (λ w. IsObject p (with_level x (front ++ slot_of h (datum.Scalar k) short ∷ behind)) (o.Held d.kind.of k) (to_root (Local level (numbers front)) d.kind.of Read unit w)) (sym is)
      (held_there p x front behind d.kind.of k unit scalar)))
  held_is d g (datum.Block a) short v slot front behind before after all vs at many takes lent of is laid =
      let shape = alike_shape p d.kind.of g.kind.of (alike_of d g takes lent) in
      let ts = types_of p in
      let r = room_for p h live a short in
      let area : Area = record { elements = a.elements; of = d.kind.of } in
      let stands : slice_get inner.levels level ≡ Some (front ++ Stood r ∷ behind) = get_last x.levels slots ∙ ap Some all in
      let first : numbers front + 0 ≡ slot = omega (arith, at) in
      let leads : found ts inner (Local level slot) [] ≡ Some (variable_in ts r 0 (declared_as h a short)) =
      subst (λ i. found ts inner (Local level i) [] ≡ Some (variable_in ts r 0 (declared_as h a short))) first
      (locals_stand ts inner level front behind r stands 0 (declared_as h a short) refl) in
      let part : IsPart ts (variable_in ts r 0 (declared_as h a short)) area = record {
        block = refl;
        offset = is.0.offset;
        shape = shape ∙ sym laid;
        dims = held_dims (words_for (shape_for p a.of)) a.elements.dims.items is.0.contiguous;
      } in
      let reads : get (store_of ts live inner) (whole (Local level slot)) ≡ v =
      ap (λ us. slice_index_or us slot Unallocated) (there ∙ vs) ∙ ap (λ i. slice_index_or (before ++ v ∷ after) i Unallocated) many ∙ index_amid before after v Unallocated in (
        refl,
        subst (λ w. AreThere p inner area (whole (Local level slot)) (reach_of (whole (Local level slot)) w)) reads
            (part-there p live inner (Local level slot) [] (variable_in ts r 0 (declared_as h a short)) area leads part),
      )

  -- ---- one dummy

  -- it takes each argument of its number
  abbrev pub Takes : Dummy → ℕ → List formed.Given → Type 0
  Takes d k [] = ⊤
  Takes d k (g ∷ gs) = (nat_eq g.number k ≡ true → dummy_takes d g ≡ true) × Takes d k gs

  takes_of : (ds : List Dummy) (d : Dummy) (k : ℕ) (gs : List formed.Given) → slice_get ds k ≡ Some d → all (fits_dummy ds) gs ≡ true → Takes d k gs
  takes_of ds d k [] e fits = tt
  takes_of ds d k (g ∷ gs) e fits =
      let a = and_is (fits_dummy ds g) (all (fits_dummy ds) gs) fits in
      let v = some_is (slice_get ds g.number) (λ (y : Dummy). dummy_takes y g) a.0 in (
        λ same.
            let at : slice_get ds g.number ≡ Some d = ap (slice_get ds) (eqb-true g.number k same) ∙ e in
            let is : v.0 ≡ d = some_same (sym v.1 ∙ at) in
            subst (λ (y : Dummy). dummy_takes y g ≡ true) is v.2,
        takes_of ds d k gs e a.1,
      )

  passed_by : (b : Bool) (n : ℕ) → b ≡ false → nat_eq (if b then suc n else n) 1 ≡ true → nat_eq n 1 ≡ true
  passed_by true n e f = absurd (cc)
  passed_by false n e f = f

  -- what its name is for, and whether that is a value that is held
  abbrev IsNameAt : Dummy → ℕ → List m.Passed → ℕ → Name → Type 0
  IsNameAt d k ps slot n = IsObject p inner n.object (bound d (argument_at k d.kind.of ps level slot unit)) × (is_held (passed_at k ps) ≡ n.is_held)

  named : (d : Dummy) (k : ℕ) (n : Name) (gs : List formed.Given) (ps : List m.Passed) (cs : List Cell) → Correspond p x live ns gs ps cs
      → AllPassed p.types.items gs ps → Takes d k gs → nat_eq (given_for k gs) 1 ≡ true → (short : AreShort (held_data cs)) (slot : ℕ) (front : List Slot) (before : List Value)
      → slots ≡ front ++ slots_of h (held_data cs) short → values ≡ before ++ held ps → slot ≡ numbers front → slot ≡ length before
      → IsNamed d (numbered k cs) n → IsNameAt d k ps slot n
  named d k n [] ps cs are given takes one short slot front before all vs at many is = absurd (cc)
  named d k n (g ∷ gs) [] cs are given takes one short slot front before all vs at many is = absurd given
  named d k n (g ∷ gs) (a ∷ ps) [] are given takes one short slot front before all vs at many is = absurd are
  named d k n (g ∷ gs) (m.Given i v ∷ ps) (c.Argument (passed.Given j it) ∷ cs) are given takes one short slot front before all vs at many is =
      by (nat_eq i k) refl (subst (λ l. IsNamed d (if nat_eq l k then Some (passed.Given j it) else numbered k cs) n) (sym are.0.0.0) is)
      (λ e. named d k n gs ps cs are.1 given.1 takes.1 (passed_by (nat_eq g.number k) (given_for k gs) (ap (λ l. nat_eq l k) given.0.1 ∙ e) one) short.1 (suc slot)
      (front ++ slot_of h it short.0 ∷ []) (before ++ v ∷ []) (all ∙ sym (append_assoc front (slot_of h it short.0 ∷ []) (slots_of h (held_data cs) short.1)))
      (vs ∙ sym (append_assoc before (v ∷ []) (held ps))) (let f = slot_more front it short.0 in omega (arith, f, at)) (let f = length-append before (v ∷ []) in omega (arith, f, many)))
    where
      by : (b : Bool) → nat_eq i k ≡ b → IsNamed d (if b then Some (passed.Given j it) else numbered k cs) n
          → (nat_eq i k ≡ false → IsNamed d (numbered k cs) n → IsNameAt d k ps (suc slot) n)
          → IsObject p inner n.object (bound d (if b then to_root (Local level slot) d.kind.of Read unit v else argument_at k d.kind.of ps level (suc slot) unit))
          × (is_held (if b then Some (m.Given i v) else passed_at k ps) ≡ n.is_held)
      by true e is further = (
        is.1 p inner (to_root (Local level slot) d.kind.of Read unit v)
            (held_is d g it short.0 v slot front (slots_of h (held_data cs) short.1) before (held ps) all vs at many (takes.0 (ap (λ l. nat_eq l k) given.0.1 ∙ e)) given.0.0 given.0.2
            are.0.0.1 are.0.1),
        sym is.0,
      )
      by false e is further = further e is
  named d k n (g ∷ gs) (m.Lent i r ∷ ps) (c.Argument (passed.Lent j z) ∷ cs) are given takes one short slot front before all vs at many is =
      by (nat_eq i k) refl (subst (λ l. IsNamed d (if nat_eq l k then Some (passed.Lent j z) else numbered k cs) n) (sym are.0.0.0) is)
      (λ e. named d k n gs ps cs are.1 given.1 takes.1 (passed_by (nat_eq g.number k) (given_for k gs) (ap (λ l. nat_eq l k) given.0.1 ∙ e) one) short slot
      front before all vs at many)
    where
      by : (b : Bool) → nat_eq i k ≡ b → IsNamed d (if b then Some (passed.Lent j z) else numbered k cs) n
          → (nat_eq i k ≡ false → IsNamed d (numbered k cs) n → IsNameAt d k ps slot n)
          → IsObject p inner n.object (bound d (if b then r else argument_at k d.kind.of ps level slot unit))
          × (is_held (if b then Some (m.Lent i r) else passed_at k ps) ≡ n.is_held)
      by true e is further = (is.1 p inner r (object_within p x inner (rooms_with_level x slots) z r are.0.0.1), sym is.0)
      by false e is further = further e is
  named d k n (g ∷ gs) (m.Given i v ∷ ps) (c.Argument (passed.Lent j z) ∷ cs) are given takes one short slot front before all vs at many is = absurd are.0.0
  named d k n (g ∷ gs) (m.Lent i v ∷ ps) (c.Argument (passed.Given j z) ∷ cs) are given takes one short slot front before all vs at many is = absurd are.0.0
  named d k n (g ∷ gs) (a ∷ ps) (z ∷ cs) are given takes one short slot front before all vs at many is = absurd are.0

  -- ---- all

  module _ (gs : List formed.Given) (ps : List m.Passed) (cs : List Cell) (are : Correspond p x live ns gs ps cs) (given : AllPassed p.types.items gs ps)
      (ds : List Dummy) (fits : all (fits_dummy ds) gs ≡ true) (short : AreShort (held_data cs)) (these : slots ≡ slots_of h (held_data cs) short) (vs : values ≡ held ps) where
    pub all_named : (k : ℕ) (es : List Dummy) (added : List Name) → ((i : ℕ) (d : Dummy) → slice_get es i ≡ Some d → slice_get ds (k + i) ≡ Some d)
        → all_given k es gs ≡ true → AreNamed cs k es added
        → AreNames p inner added (dummies k es ps level unit)
        × (length added ≡ length es)
        × ((i : ℕ) → i < length es → is_held (passed_at (k + i) ps) ≡ is_held_at added i)
    all_named k [] [] at each names = (tt, refl, λ i less. absurd (omega (arith, less)))
    all_named k [] (n ∷ added) at each names = absurd names
    all_named k (d ∷ es) [] at each names = absurd names
    all_named k (d ∷ es) (n ∷ added) at each names =
        let a = and_is (nat_eq (given_for k gs) 1) (all_given (suc k) es gs) each in
        let here : k + 0 ≡ k = omega arith in
        let one = named d k n gs ps cs are given (takes_of ds d k gs (ap (slice_get ds) (sym here) ∙ at 0 d refl) fits) a.0 short 0 [] [] these vs refl refl names.0 in
        let more = all_named (suc k) es added (λ i y e. let up : suc k + i ≡ k + suc i = omega arith in ap (slice_get ds) up ∙ at (suc i) y e) a.1 names.1 in
        ((one.0, more.0), ap suc more.1, held_each one.1 more.2)
      where
        held_each : is_held (passed_at k ps) ≡ n.is_held → ((i : ℕ) → i < length es → is_held (passed_at (suc k + i) ps) ≡ is_held_at added i)
            → (i : ℕ) → i < length (d ∷ es) → is_held (passed_at (k + i) ps) ≡ is_held_at (n ∷ added) i
        held_each one more zero less = let here : k + 0 ≡ k = omega arith in ap (λ l. is_held (passed_at l ps)) here ∙ one
        held_each one more (suc i) less =
            let up : k + suc i ≡ suc k + i = omega arith in
            ap (λ l. is_held (passed_at l ps)) up ∙ more i (omega (arith, less))
