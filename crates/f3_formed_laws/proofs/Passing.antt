-- Arguments are of the kinds of their dummies, one for each.
use Rattle.std.proofs.Common.{◌≡◌, ℕ, zero, suc, ◌+◌, ◌<◌, Bool, true, false, ◌&&◌, ◌||◌, not, List, [], ◌∷◌, length, map, Option, Some, None, refl, sym, ap, ◌∙◌}
use Rattle.std.proofs.Common.{if◌then◌else◌, nat_eq, arith}
use Rattle.std.specs.Prelude.{◌==◌, slice_get}
use Rattle.std.specs.List.{list_any}
use mathlib.Core.Path.{subst}
use Rattle.f3_program.specs.declared.declarations.Base.{Base}
use Rattle.f3_program.specs.declared.declarations.Declared.{Declared}
use Rattle.f3_program.specs.declared.declarations.Kind.{Kind}
use Rattle.f3_program.specs.declared.program.Dummy as program
use Rattle.f3_program.specs.declared.program.Procedure.{Procedure}
use Rattle.f3_program.specs.declared.program.Program.{Program}
use Rattle.f3_kinds.specs.declared.types.Object.{Object}
use Rattle.f3_kinds.specs.declared.said.Form.{Form}
use Rattle.f3_kinds.specs.declared.said.Form.TheVariants.{Computed, Constant, Variable}
use Rattle.f3_kinds.specs.declared.said.Has.{Has}
use Rattle.f3_kinds.specs.declared.said.Given as said
use Rattle.f3_kinds.specs.declared.said.Given.TheVariants.{Value, Triplet}
use Rattle.f3_kinds.specs.declared.things.Dummy.{Dummy}
use Rattle.f3_kinds.specs.Things.{map_or}
use Rattle.f3_kinds.specs.Rows.{has_type, is_known, unless}
use Rattle.f3_kinds.specs.Calls.{Matched, match_next, matched, argument_fits, argument_rows, place_for, has_fits_dummy, is_free, is_keyed, added, no_match, is_complete}
use Rattle.f3_meaning_whole.specs.Permitted.{Each, same_type}
use Rattle.f3_meaning_whole.specs.Formed.{of_kind, found, some, alike, same_truth, given_all, Given, dummy_takes, fits_dummy, kinds_of, all, all_given, only, result_kind, referenced}
use Rattle.f3_elaboration.specs.Nodes as n
use Rattle.f3_elaboration.specs.Nodes.{ExpressionNode, DesignatorNode}
use Rattle.f3_elaboration.specs.Context.{Surroundings, base}
use Rattle.f3_elaboration.specs.Expressions as x
use Rattle.f3_elaboration.specs.Expressions.{passed, passed_for, arguments_for, given_value, number_for, allocatable_dummy, itself, is_whole_allocatable}
use Rattle.f3_lawful_laws.specs.Agreement.{KnowsDummies}
use Rattle.f3_lawful_laws.proofs.Facts.{no, nothing, same, first, second, holds, both, left, right, otherwise, negated_back}
use Rattle.f3_lawful_laws.proofs.Positions.{eq_same, eq_self}
use Rattle.f3_lawful_laws.proofs.Passing.{Fits, fits_by, numbered, known_same, alike_by}
use Rattle.f3_formed_laws.specs.Nodes.{value_kind, object_kind, argument, arguments}
use Rattle.f3_formed_laws.specs.Agreement.{kind_of, HasDummies}
use Rattle.f3_formed_laws.proofs.Facts.{when_only, same_self, implied}
use Rattle.f3_formed_laws.proofs.Bases.{alike_back}
use Rattle.f3_formed_laws.proofs.Alike.{IsHeldAs, IsAs, IsKind, IsOf, IsGiven, AreGiven}
use Rattle.f3_formed_laws.proofs.Components.{DummyAt, dummy_at, as_long}
use Rattle.f3_formed_laws.proofs.Holding.{itself_kind, kind_by}
use Rattle.f3_formed_laws.proofs.Counting.{Once, once_none, once_more, added_longer, all_stand, each_dummy}

-- what is said to be allocatable is a whole allocatable
pub held_by : (held : Bool) (h : Has) (f : Form) → IsHeldAs held h f → h.is_allocatable ≡ true → held ≡ true
held_by held h (Variable e) i a = sym i ∙ a
held_by held h Computed i a = no (sym a ∙ i)
held_by held h Constant i a = no (sym a ∙ i)

module _ (p : Program) (vs : List Declared) (ns : List Kind) (s : Surroundings) where
  -- ---- one argument

  -- it has the number, and is taken by a dummy of the kind
  pub record Passes (o : Object) (number : ℕ) (node : n.ArgumentNode) : Type 0 where
    pub given : Given
    pub is : argument p vs ns node ≡ Some given
    pub number_is : given.number ≡ number
    pub takes : (d : program.Dummy) → d.kind ≡ kind_of s o → dummy_takes d given ≡ true

  -- a dummy of a kind takes a variable of this kind, and a value of a type that agrees
  variable_taken : (o : Object) (number : ℕ) (k : Kind) → k ≡ kind_of s o → (d : program.Dummy) → d.kind ≡ kind_of s o
      → dummy_takes d (record { number = number; kind = k; is_variable = true }) ≡ true
  variable_taken o number k is d e =
      ap (λ (z : Kind). same_type z.of k.of && (nat_eq z.rank k.rank && same_truth z.is_allocatable k.is_allocatable)) e
      ∙ ap (λ (z : Kind). same_type (base s o.data_type) z.of && (nat_eq o.rank z.rank && same_truth o.is_allocatable z.is_allocatable)) is
      ∙ both _ _ (alike_by (base s o.data_type) (base s o.data_type) refl) (both _ _ (eq_self o.rank) (same_self o.is_allocatable))

  value_taken : (o : Object) (number : ℕ) (t : Base) → alike (base s o.data_type) t ≡ true → o.is_allocatable ≡ false → (d : program.Dummy) → d.kind ≡ kind_of s o
      → dummy_takes d (record { number = number; kind = of_kind t o.rank; is_variable = false }) ≡ true
  value_taken o number t a f d e =
      ap (λ (z : Kind). alike z.of t && (nat_eq z.rank o.rank && same_truth z.is_allocatable false)) e
      ∙ both _ _ a (both _ _ (eq_self o.rank) (ap (λ b. same_truth b false) f))

  given_object : (number : ℕ) (d : DesignatorNode) (k : Kind) → object_kind p vs ns d ≡ Some k
      → argument p vs ns (n.object number d) ≡ Some (record { number = number; kind = k; is_variable = true })
  given_object number d k e = ap (λ o. found o (λ (j : Kind). Some (record { number = number; kind = j; is_variable = true }))) e

  given_value_is : (number : ℕ) (e : ExpressionNode) (k : Kind) → value_kind p vs ns e ≡ Some k
      → argument p vs ns (n.value number e) ≡ Some (record { number = number; kind = k; is_variable = false })
  given_value_is number e k h = ap (λ o. found o (λ (j : Kind). Some (record { number = number; kind = j; is_variable = false }))) h

  -- what is said of an argument that fits a dummy
  record Fitting (o : Object) (h : Has) : Type 0 where
    pub whole : o.is_allocatable ≡ true → h.is_allocatable ≡ true
    pub rank : h.rank ≡ o.rank
    pub of : base s o.data_type ≡ base s h.data_type

  fitting : (o : Object) (h : Has) → is_known o.data_type ≡ true → has_type (Some h) ≡ true → has_fits_dummy o (Some h) ≡ true → Fitting o h
  fitting o h known typed f =
      let fits = otherwise (not (has_type (Some h))) _ f (ap not typed) in
      record {
        whole = implied o.is_allocatable h.is_allocatable (left _ _ (left _ _ fits));
        rank = eq_same h.rank o.rank (right (not o.is_allocatable || h.is_allocatable) _ (left _ _ fits));
        of = known_same s.type o.data_type h.data_type known typed (right ((not o.is_allocatable || h.is_allocatable) && (h.rank == o.rank)) _ fits);
      }

  variable_passes : (o : Object) (number : ℕ) (d : DesignatorNode) (h : Has) → IsAs p vs ns s (n.variable d) h → Fitting o h
      → Passes o number (passed o.is_allocatable number (n.variable d))
  variable_passes o number d h is f = go o.is_allocatable refl
    where
      go : (b : Bool) → o.is_allocatable ≡ b → Passes o number (n.object number (if b then itself d else d))
      go true e = record {
        given = record { number = number; kind = record { of = base s h.data_type; rank = h.rank; is_allocatable = true }; is_variable = true };
        is =
            given_object number (itself d) (record { of = base s h.data_type; rank = h.rank; is_allocatable = true })
            (itself_kind p vs ns d (base s h.data_type) h.rank true is.0 (sym (held_by (is_whole_allocatable d) h h.form is.1 (f.whole e))));
        number_is = refl;
        takes =
            variable_taken o number (record { of = base s h.data_type; rank = h.rank; is_allocatable = true })
            (kind_by (record { of = base s h.data_type; rank = h.rank; is_allocatable = true }) (base s o.data_type) o.rank o.is_allocatable (sym f.of) f.rank (sym e));
      }
      go false e = record {
        given = record { number = number; kind = of_kind (base s h.data_type) h.rank; is_variable = true };
        is = given_object number d (of_kind (base s h.data_type) h.rank) is.0;
        number_is = refl;
        takes =
            variable_taken o number (of_kind (base s h.data_type) h.rank)
            (kind_by (of_kind (base s h.data_type) h.rank) (base s o.data_type) o.rank o.is_allocatable (sym f.of) f.rank (sym e));
      }

  value_passes : (o : Object) (number : ℕ) (e : ExpressionNode) (h : Has) → IsKind p vs ns s e h → h.is_allocatable ≡ false → Fitting o h
      → Passes o number (n.value number e)
  value_passes o number e h is plain f = record {
    given = record { number = number; kind = of_kind is.of o.rank; is_variable = false };
    is = given_value_is number e (of_kind is.of o.rank) (is.value ∙ ap (λ r. Some (of_kind is.of r)) f.rank);
    number_is = refl;
    takes =
        value_taken o number is.of (ap (λ t. alike t is.of) f.of ∙ alike_back is.of (base s h.data_type) is.alike_to)
        (never o.is_allocatable (λ a. no (sym (f.whole a) ∙ plain)));
  }
    where
      never : (m : Bool) → (m ≡ true → ⊥) → m ≡ false
      never true h = absurd (h refl)
      never false h = refl

  pub one_passes : (o : Object) (number : ℕ) (e : ExpressionNode) (h : Option Has) → is_known o.data_type ≡ true → IsOf p vs ns s e h → has_fits_dummy o h ≡ true
      → Passes o number (passed o.is_allocatable number e)
  one_passes o number e None known is f = absurd is
  one_passes o number e (Some h) known is f = go e is
    where
      go : (e : ExpressionNode) → IsKind p vs ns s e h → Passes o number (passed o.is_allocatable number e)
      go (n.variable d) is = variable_passes o number d h is.is_as (fitting o h known is.typed f)
      go e is = value_passes o number e h is is.is_as.0 (fitting o h known is.typed f)

  -- ---- all arguments

  dummy_known : (ds : List (ℕ × Dummy)) (k : ℕ) (d : ℕ × Dummy) → KnowsDummies ds → slice_get ds k ≡ Some d → is_known ((d.1).object).data_type ≡ true
  dummy_known [] k d h e = nothing e
  dummy_known (y ∷ ds) zero d h e = ap (λ (y : ℕ × Dummy). is_known ((y.1).object).data_type) (sym (same e)) ∙ h.0
  dummy_known (y ∷ ds) (suc k) d h e = dummy_known ds k d h.1 e

  -- not one that is taken
  new_place : (ds : List (ℕ × Dummy)) (i : ℕ) (y : said.Given) (m : Matched) (k : ℕ) → argument_fits ds i y m ≡ true → place_for ds i y ≡ Some k
      → list_any (nat_eq k) m.taken ≡ false
  new_place ds i y m k f e =
      negated_back _ (left _ _ (ap (is_free ds m.taken y) (sym e) ∙ right (is_keyed y || not m.keyed) _ f))

  below : {A : Type 0} (xs : List A) (k : ℕ) (x : A) → slice_get xs k ≡ Some x → k < length xs
  below [] k x e = nothing e
  below (y ∷ ys) zero x e = (let h : 0 < suc (length ys) = omega arith in h)
  below (y ∷ ys) (suc k) x e = let h : k < length ys = below ys k x e in (let g : suc k < suc (length ys) = omega (arith, h) in g)

  -- the arguments from a position on, and those that are taken behind them
  pub record PassAll (ds : List (ℕ × Dummy)) (xs : List program.Dummy) (i : ℕ) (gs : List x.Given) (ys : List said.Given) (m : Matched) : Type 0 where
    pub given : List Given
    pub are : given_all (arguments p vs ns (arguments_for ds i gs)) ≡ Some given
    pub fit : Each (λ (g : Given). fits_dummy xs g ≡ true) given
    pub once : Once m.taken given
    pub low : Each (λ (g : Given). g.number < length ds) given
    pub many : length (matched ds i ys m).taken ≡ length m.taken + length given

  joined : (ds : List (ℕ × Dummy)) (xs : List program.Dummy) (i : ℕ) (g : x.Given) (gs : List x.Given) (y : said.Given) (ys : List said.Given) (m : Matched)
      → kinds_of xs ≡ map (λ (d : ℕ × Dummy). kind_of s (d.1).object) ds → (k : ℕ) (d : ℕ × Dummy) → place_for ds i y ≡ Some k → slice_get ds k ≡ Some d
      → list_any (nat_eq k) m.taken ≡ false → Passes (d.1).object k (passed_for ds (number_for ds i g) (given_value g)) → PassAll ds xs (i + 1) gs ys (match_next ds i y m)
      → PassAll ds xs i (g ∷ gs) (y ∷ ys) m
  joined ds xs i g gs y ys m kinds k d place there new one rest =
      let at : DummyAt s xs k d.1 = dummy_at s xs ds k d kinds there in
      let taken : added m.taken (place_for ds i y) ≡ added m.taken (Some (one.given).number) = ap (added m.taken) (place ∙ ap (λ z. Some z) (sym one.number_is)) in
      let new_number : list_any (nat_eq (one.given).number) m.taken ≡ false = ap (λ z. list_any (nat_eq z) m.taken) one.number_is ∙ new in
      record {
        given = one.given ∷ rest.given;
        are =
            ap (λ o. found o (λ z. found (given_all (arguments p vs ns (arguments_for ds (i + 1) gs))) (λ zs. Some (z ∷ zs)))) one.is
            ∙ ap (λ o. found o (λ zs. Some (one.given ∷ zs))) rest.are;
        fit = (
          ap (λ z. some (slice_get xs z) (λ d. dummy_takes d one.given)) one.number_is ∙ ap (λ o. some o (λ d. dummy_takes d one.given)) at.there
              ∙ one.takes at.dummy at.kind,
          rest.fit,
        );
        once = once_more m.taken one.given rest.given new_number (subst (λ ts. Once ts rest.given) taken rest.once);
        low = (subst (λ z. z < length ds) (sym one.number_is) (below ds k d there), rest.low);
        many =
            let longer : length (added m.taken (place_for ds i y)) ≡ suc (length m.taken) = ap length taken ∙ added_longer m.taken (one.given).number new_number in
            let behind : length (matched ds (i + 1) ys (match_next ds i y m)).taken ≡ length (added m.taken (place_for ds i y)) + length rest.given = rest.many in
            (let q : length (matched ds (i + 1) ys (match_next ds i y m)).taken ≡ length m.taken + suc (length rest.given) = omega (arith, longer, behind) in q);
      }

  passed_is : (ds : List (ℕ × Dummy)) (k j : ℕ) (d : ℕ × Dummy) (e : ExpressionNode) → k ≡ j → slice_get ds j ≡ Some d → passed_for ds k e ≡ passed ((d.1).object).is_allocatable j e
  passed_is ds k j d e is there = ap (λ z. passed_for ds z e) is ∙ ap (λ z. passed (allocatable_dummy (map_or None (λ (q : ℕ × Dummy). Some q.1) z)) j e) there

  with_first : (ds : List (ℕ × Dummy)) (xs : List program.Dummy) (i : ℕ) (g : x.Given) (gs : List x.Given) (y : said.Given) (ys : List said.Given) (m : Matched) → KnowsDummies ds
      → kinds_of xs ≡ map (λ (d : ℕ × Dummy). kind_of s (d.1).object) ds → IsGiven p vs ns s g y → argument_fits ds i y m ≡ true
      → PassAll ds xs (i + 1) gs ys (match_next ds i y m) → PassAll ds xs i (g ∷ gs) (y ∷ ys) m
  with_first ds xs i (x.value l e) gs (Value k z) ys m known kinds h f rest =
      let at : Fits ds i (Value k z) = fits_by ds i (Value k z) m f in
      let number : number_for ds i (x.value l e) ≡ at.number = ap (λ j. number_for ds i (x.value j e)) h.0 ∙ numbered ds i e k z at.number at.place in
      joined ds xs i (x.value l e) gs (Value k z) ys m kinds at.number at.dummy at.place at.there (new_place ds i (Value k z) m at.number f at.place)
      (subst (Passes (at.dummy.1).object at.number) (sym (passed_is ds (number_for ds i (x.value l e)) at.number at.dummy e number at.there))
      (one_passes (at.dummy.1).object at.number e z.has (dummy_known ds at.number at.dummy known at.there) h.1 at.fits))
      rest
  with_first ds xs i (x.value l e) gs (Triplet q a b c) ys m known kinds h f rest = absurd h
  with_first ds xs i (x.triplet a b c) gs (Value k z) ys m known kinds h f rest = absurd h
  with_first ds xs i (x.triplet a b c) gs (Triplet q d e z) ys m known kinds h f rest = no (sym (Fits.fits (fits_by ds i (Triplet q d e z) m f)))

  pub pass_all : (ds : List (ℕ × Dummy)) (xs : List program.Dummy) (i : ℕ) (gs : List x.Given) (ys : List said.Given) (m : Matched) → KnowsDummies ds
      → kinds_of xs ≡ map (λ (d : ℕ × Dummy). kind_of s (d.1).object) ds → AreGiven p vs ns s gs ys → argument_rows ds i ys m ≡ [] → PassAll ds xs i gs ys m
  pass_all ds xs i [] [] m known kinds h e = record {
    given = [];
    are = refl;
    fit = tt;
    once = once_none m.taken;
    low = tt;
    many = (let q : length m.taken ≡ length m.taken + 0 = omega arith in q);
  }
  pass_all ds xs i [] (y ∷ ys) m known kinds h e = absurd h
  pass_all ds xs i (g ∷ gs) [] m known kinds h e = absurd h
  pass_all ds xs i (g ∷ gs) (y ∷ ys) m known kinds h e =
      with_first ds xs i g gs y ys m known kinds h.0 (holds _ _ (first _ _ e))
      (pass_all ds xs (i + 1) gs ys (match_next ds i y m) known kinds h.1 (second (unless (argument_fits ds i y m) _) _ e))

  -- ---- a reference

  all_of : (f : Given → Bool) (gs : List Given) → Each (λ (g : Given). f g ≡ true) gs → all f gs ≡ true
  all_of f [] h = refl
  all_of f (g ∷ gs) h = both (f g) _ h.0 (all_of f gs h.1)

  -- a reference to a procedure is of the kind of its result
  pub reference_is : (e : ℕ) (ds : List (ℕ × Dummy)) (q : HasDummies p s e ds) (gs : List x.Given) (ys : List said.Given) → KnowsDummies ds
      → AreGiven p vs ns s gs ys → argument_rows ds 0 ys no_match ≡ [] → is_complete ds ys ≡ true
      → value_kind p vs ns (n.reference (s.procedure e) (arguments_for ds 0 gs)) ≡ Some (result_kind (q.procedure).result)
  reference_is e ds q gs ys known h rows complete =
      let xs : List program.Dummy = (q.procedure).dummies.items in
      let a : PassAll ds xs 0 gs ys no_match = pass_all ds xs 0 gs ys no_match known q.dummies h rows in
      let count : length (matched ds 0 ys no_match).taken ≡ length ds = eq_same (length (matched ds 0 ys no_match).taken) (length ds) complete in
      let many : length (matched ds 0 ys no_match).taken ≡ 0 + length a.given = a.many in
      let number : length a.given ≡ length ds = omega (arith, count, many) in
      let long : length xs ≡ length ds = as_long (λ (d : program.Dummy). d.kind) (λ (d : ℕ × Dummy). kind_of s (d.1).object) xs ds q.dummies in
      ap (λ o. found o (referenced p vs ns (s.procedure e))) a.are
      ∙ ap (λ o. found o (λ (q : Procedure). only (all (fits_dummy q.dummies.items) a.given && all_given 0 q.dummies.items a.given) (result_kind q.result))) q.there
      ∙ when_only _ (result_kind (q.procedure).result)
      (both (all (fits_dummy xs) a.given) _ (all_of (fits_dummy xs) a.given a.fit)
      (each_dummy 0 xs a.given
      (λ j lt. all_stand (length ds) a.given a.once.once a.low number j (let l : j < 0 + length xs = lt in let m : j < length ds = omega (arith, l, long) in m))))
