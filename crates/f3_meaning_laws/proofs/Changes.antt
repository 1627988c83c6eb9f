-- Every change is permitted.
use Rattle.std.proofs.Common.{◌≡◌, ℕ, zero, suc, ◌+◌, arith, ℤ, pos, Bool, true, false, List, [], ◌∷◌, ◌++◌, Option, None, Some, refl, sym, ap, ◌∙◌, if◌then◌else◌}
use Rattle.std.specs.Prelude.{⊤, T, not, length, slice_get, slice_index_or, nat_eq, nat_lt, ◌||◌, is_none, unwrap_or}
use mathlib.Core.Path.{subst}
use lib.Dec.{eqb→eq}
use Rattle.f3_places.specs.declared.source.Place.{Place}
use Rattle.f3_program.specs.declared.declarations.Base.{Base}
use Rattle.f3_program.specs.declared.declarations.Base.TheVariants as base
use Rattle.f3_program.specs.declared.declarations.Component.{Component}
use Rattle.f3_program.specs.declared.declarations.Declared.{Declared}
use Rattle.f3_program.specs.declared.declarations.Derived.{Derived}
use Rattle.f3_program.specs.declared.declarations.Final.{Final}
use Rattle.f3_program.specs.declared.declarations.Kind.{Kind}
use Rattle.f3_program.specs.declared.expression.Argument as a
use Rattle.f3_program.specs.declared.expression.Designator as d
use Rattle.f3_program.specs.declared.expression.Expression as e
use Rattle.f3_program.specs.declared.expression.Name.{Name}
use Rattle.f3_program.specs.declared.expression.Name.TheVariants as n
use Rattle.f3_program.specs.declared.expression.Selection as l
use Rattle.f3_program.specs.declared.expression.Subscript as u
use Rattle.f3_program.specs.declared.statement.Bounds.{Bounds}
use Rattle.f3_program.specs.declared.statement.Item.{Item}
use Rattle.f3_program.specs.declared.statement.Item.TheVariants as item
use Rattle.f3_program.specs.declared.statement.Request.{Request}
use Rattle.f3_program.specs.declared.statement.Selector.{Selector}
use Rattle.f3_program.specs.declared.statement.Selector.TheVariants as selector
use Rattle.f3_program.specs.declared.statement.Statement as s
use Rattle.f3_program.specs.declared.program.Dummy.{Dummy}
use Rattle.f3_program.specs.declared.program.Intent.{Intent}
use Rattle.f3_program.specs.declared.program.Intent.TheVariants as intent
use Rattle.f3_program.specs.declared.program.Procedure.{Procedure}
use Rattle.f3_program.specs.declared.program.Program.{Program}
use Rattle.f3_meaning_whole.specs.Value.{Span, Value, Number, Truth, Composite, Array, Unallocated, Allocated, truth_of, number_of, count, conforms, spans_of, joined}
use Rattle.f3_meaning_whole.specs.Store.{Root, Static, Local, Path}
use Rattle.f3_meaning_whole.specs.Reference.{Right, Define, Read, Selected, Language, Reach, One, Many, Reference, paths_by, paths, spans, is_pinned}
use Rattle.f3_meaning_whole.specs.declared.run_error.RunError.{RunError}
use Rattle.f3_meaning_whole.specs.declared.run_error.RunError.TheVariants.{NotAllocated}
use Rattle.f3_meaning_laws.specs.Laws.{Stands}
use Rattle.f3_meaning_whole.specs.Ran.{Ran, gives, fails}
use Rattle.f3_meaning_whole.specs.Shape.{Shape, Whole, Logical, Record, Parts, nothing, and, shape_in, final_for}
use Rattle.f3_meaning_whole.specs.Act.{set, given, Setting, Here, Passed, Given, Lent, Calls, at, lending, named, selecting, associating, type_of, derived_of, component_type, to_root, moved, right_to, Chosen, picks, picks_in_each, contents}
use Rattle.f3_meaning_whole.specs.Eval.{by_reach, value, bounds, argument, arguments, locate, select, select_in_each, chosen, subscript}
use Rattle.f3_meaning_whole.specs.Destroy.{final_of, is_destroyed, deallocate_by, release_by, finish_by, finalize, destroy, destroy_parts, finish}
use Rattle.f3_meaning_whole.specs.Exec.{Flow, Onward, Cycled, Left, Returned, onward, next_turn, turns, counted, where_out, unless_failed, status_number, declared_in, Association, held_by, allocate, too_many, initialize, overwrite, fill, renew, assign, answer, dimensions, allocate_all, deallocate, deallocate_all, take_over, move_alloc, items, selectors, increment, some_meets, exec, block, finish_locals, outs, called, right_of, based_reach, bound, dummies, argument_at, shown_reach, associated, associates, left_at, new_value, variables, held}
use Rattle.f3_meaning_whole.specs.Run.{call_of, calls_of, main_of, runs, run_of, setting_of, first_here, first_store, first_world, changes}
use Rattle.f3_meaning_whole.specs.Permitted.{Each, Permitted, is_define, is_in, same_type, Lendable, Scope, lendable, unknown, dummies_in, names_of, names_in, name_of, designated, selectable_of, selectable_in, selectable, MayPass, MayPassAll, MayValue, MayArgument, MayArguments, MayLocate, MayTake, MaySubscripts, MaySubscript, MayDefine, MayDefineAs, MayStat, MayBound, MayRequest, MayItem, MayBe, names_by, naming, MayExec, MayBlock, scope_of, MayRun, IsFinalOf, HaveFinals, IsLawful, numbers, IsAt}
use Rattle.f3_meaning_laws.proofs.Keeping.{no, not_read, defines, AllAt, Keeps, Honest, Like, Part, bind_keeps, weaken, gives_keeps, gives_safe, fails_keeps, stops_keeps, beyond_keeps, looks_keeps, looks_safe, if_keeps, each_keeps, set_keeps, clear_keeps, honest_moved, honest_root, honest_local, static_declared, static_home, component_keeps, contents_keeps, picked_like, in_each_like, like_itself}
use Rattle.f3_meaning_laws.proofs.Shapes.{from_zero, IsShape, AreParts, shapes_are}
use Rattle.f3_meaning_laws.proofs.Quiet.{Safe, built_safe, converted_safe, apply_safe, change_safe, claim_safe, claim_for_safe, read_safe, begins_safe, enter_safe, leave_safe, printed_safe, print_safe, places_keep, result_safe, asked_safe, structure_safe, request_safe, unless_safe}

-- an honest reference of what is known of a name or a designator
record Known (p : Program) (b : Lendable) (r : Reference) : Type 0 where
  honest : Honest p r
  right : b.may_define ≡ true → r.right ≡ Define
  of : r.of ≡ b.of

known_like : (p : Program) (b : Lendable) (r q : Reference) → Known p b r → Like p r q → Known p b q
known_like p b r q k h = record { honest = h.honest; right = λ e. h.same ∙ k.right e; of = h.of ∙ k.of }

known_part : (p : Program) (b : Lendable) (i : ℕ) (r q : Reference) → Known p b r → Part p i r q → Known p (record { may_define = b.may_define; of = component_type p.types.items b.of i }) q
known_part p b i r q k h = record { honest = h.honest; right = λ e. h.same ∙ k.right e; of = h.of ∙ ap (λ t. component_type p.types.items t i) k.of }

-- what is passed to dummies: a value where it may not be defined, or an object that fits
abbrev IsPassed : Program → List Lendable → Passed → Type 0
IsPassed p ds (Given k v) = (slice_index_or ds k unknown).may_define ≡ false
IsPassed p ds (Lent k r) = Known p (slice_index_or ds k unknown) r

-- names with what is known of them
abbrev NamesAs : Program → List Lendable → List Reference → Type 0
NamesAs p [] [] = ⊤
NamesAs p [] (r ∷ rs) = ⊥
NamesAs p (b ∷ bs) [] = ⊥
NamesAs p (b ∷ bs) (r ∷ rs) = Known p b r × NamesAs p bs rs

names-append : (p : Program) (bs cs : List Lendable) (rs qs : List Reference) → NamesAs p bs rs → NamesAs p cs qs → NamesAs p (bs ++ cs) (rs ++ qs)
names-append p [] cs [] qs h k = k
names-append p [] cs (r ∷ rs) qs h k = absurd h
names-append p (b ∷ bs) cs [] qs h k = absurd h
names-append p (b ∷ bs) cs (r ∷ rs) qs h k = (h.0, names-append p bs cs rs qs h.1 k)

name_at : (p : Program) (bs : List Lendable) (rs : List Reference) → NamesAs p bs rs → (i : ℕ) (r : Reference) → Known p unknown r → Known p (slice_index_or bs i unknown) (slice_index_or rs i r)
name_at p [] [] h i r k = k
name_at p [] (q ∷ qs) h i r k = absurd h
name_at p (b ∷ bs) [] h i r k = absurd h
name_at p (b ∷ bs) (q ∷ qs) h zero r k = h.0
name_at p (b ∷ bs) (q ∷ qs) h (suc i) r k = name_at p bs qs h.1 i r k

-- a statement that stands in this scope
record Fits (p : Program) (scope : Scope) (here : Here) : Type 0 where
  in_unit : here.unit ≡ scope.unit
  variables : here.variables ≡ scope.variables
  names : NamesAs p scope.names here.names

types_agree : (a b : Base) → same_type a b ≡ true → a ≡ b
types_agree base.Integer base.Integer e = refl
types_agree base.Long base.Long e = refl
types_agree base.Logical base.Logical e = refl
types_agree (base.Derived t) (base.Derived u) e = ap base.Derived (eqb→eq t u (subst T (sym e) tt))
types_agree base.Integer base.Long e = no e
types_agree base.Integer base.Logical e = no e
types_agree base.Integer (base.Derived u) e = no e
types_agree base.Long base.Integer e = no e
types_agree base.Long base.Logical e = no e
types_agree base.Long (base.Derived u) e = no e
types_agree base.Logical base.Integer e = no e
types_agree base.Logical base.Long e = no e
types_agree base.Logical (base.Derived u) e = no e
types_agree (base.Derived t) base.Integer e = no e
types_agree (base.Derived t) base.Long e = no e
types_agree (base.Derived t) base.Logical e = no e

negated : (b : Bool) → b ≡ false → not b ≡ true
negated true e = no (sym e)
negated false e = refl

negated_back : (b : Bool) → not b ≡ true → b ≡ false
negated_back true e = no e
negated_back false e = refl

second : (a b : Bool) → (a || b) ≡ true → a ≡ false → b ≡ true
second true b h e = no (sym e)
second false b h e = h

each_get : {A : Type 0} (P : A → Type 0) (xs : List A) → Each P xs → (i : ℕ) (x : A) → slice_get xs i ≡ Some x → P x
each_get P [] h i x e = absurd (subst (λ o. T (is_none o)) e tt)
each_get P (y ∷ ys) h zero x e = subst P (ap (λ o. unwrap_or o y) e) h.0
each_get P (y ∷ ys) h (suc i) x e = each_get P ys h.1 i x e

selected_at_home : (p : Program) (unit : ℕ) (of : Base) (k : ℕ) (y : Derived) (c : Component) → derived_of p.types.items of ≡ Some y → slice_get y.components.items k ≡ Some c → c.is_private ≡ true → selectable p unit of k ≡ true → unit ≡ y.home
selected_at_home p unit of k y c e d b h = eqb→eq unit y.home (subst T (sym at_home) tt)
  where
    in_type : selectable_in unit (Some y) k ≡ true
    in_type = subst (λ o. selectable_in unit o k ≡ true) e h

    of_component : selectable_of unit y.home (Some c) ≡ true
    of_component = subst (λ o. selectable_of unit y.home o ≡ true) d in_type

    at_home : nat_eq unit y.home ≡ true
    at_home = subst (λ q. (if q then nat_eq unit y.home else true) ≡ true) b of_component

-- ---- dummies

abbrev Agree : List Lendable → ℕ → List Dummy → Type 0
Agree bs k [] = ⊤
Agree bs k (x ∷ xs) = (slice_index_or bs k unknown ≡ lendable x) × Agree bs (suc k) xs

agree_shift : (b : Lendable) (bs : List Lendable) (k : ℕ) (ds : List Dummy) → Agree bs k ds → Agree (b ∷ bs) (suc k) ds
agree_shift b bs k [] h = tt
agree_shift b bs k (x ∷ xs) h = (h.0, agree_shift b bs (suc k) xs h.1)

agree_all : (ds : List Dummy) → Agree (names_of ds) 0 ds
agree_all [] = tt
agree_all (x ∷ xs) = (refl, agree_shift (lendable x) (names_of xs) 0 xs (agree_all xs))

module _ (p : Program) where
  argument_known : (bs : List Lendable) (k : ℕ) (of : Base) (ps : List Passed) (level slot unit : ℕ) → of ≡ (slice_index_or bs k unknown).of → Each (IsPassed p bs) ps → Known p (slice_index_or bs k unknown) (argument_at k of ps level slot unit)
  argument_known bs k of [] level slot unit e h = record { honest = honest_local p (suc level) 0 of Define unit Unallocated; right = λ d. refl; of = e }
  argument_known bs k of (Given j v ∷ ps) level slot unit e h = by (nat_eq j k) refl (argument_known bs k of ps level (suc slot) unit e h.1)
    where
      by : (b : Bool) → nat_eq j k ≡ b → Known p (slice_index_or bs k unknown) (argument_at k of ps level (suc slot) unit) → Known p (slice_index_or bs k unknown) (if b then to_root (Local level slot) of Read unit v else argument_at k of ps level (suc slot) unit)
      by true q rest = record { honest = honest_local p level slot of Read unit v; right = λ d. no (sym h.0 ∙ ap (λ m. (slice_index_or bs m unknown).may_define) (eqb→eq j k (subst T (sym q) tt)) ∙ d); of = e }
      by false q rest = rest
  argument_known bs k of (Lent j r ∷ ps) level slot unit e h = by (nat_eq j k) refl (argument_known bs k of ps level slot unit e h.1)
    where
      by : (b : Bool) → nat_eq j k ≡ b → Known p (slice_index_or bs k unknown) (argument_at k of ps level slot unit) → Known p (slice_index_or bs k unknown) (if b then r else argument_at k of ps level slot unit)
      by true q rest = subst (λ m. Known p (slice_index_or bs m unknown) r) (eqb→eq j k (subst T (sym q) tt)) h.0
      by false q rest = rest

  right_back : (i : Intent) (r : Right) → right_of i r ≡ Define → r ≡ Define
  right_back intent.In r e = not_read e
  right_back intent.Out r e = e
  right_back intent.InOut r e = e

  right_on : (i : Intent) (r : Right) → not (is_in i) ≡ true → r ≡ Define → right_of i r ≡ Define
  right_on intent.In r b e = no b
  right_on intent.Out r b e = e
  right_on intent.InOut r b e = e

  based_rooted : (t : Root) (ks : List ℕ) (q : Path) (ls : List ℤ) (reach : Reach) → AllAt t ks (paths_by q reach) → AllAt t ks (paths_by q (based_reach ls reach))
  based_rooted t ks q ls One a = a
  based_rooted t ks q ls (Many ss ps) a = a

  bound_known : (x : Dummy) (r : Reference) (b : Lendable) → b ≡ lendable x → Known p b r → Known p (lendable x) (bound x r)
  bound_known x r b e k = record {
    honest = record { home = λ d. k.honest.home (right_back x.intent r.right d); made = k.honest.made; start = k.honest.start; rooted = k.honest.rooted; typed = k.honest.typed; ends = k.honest.ends; parts = based_rooted r.path.root (numbers r.makers) r.path x.lowers.items r.reach k.honest.parts };
    right = λ d. right_on x.intent r.right d (k.right (ap (λ (l : Lendable). l.may_define) e ∙ d));
    of = k.of ∙ ap (λ (l : Lendable). l.of) e;
  }

  names_of_dummies : (bs : List Lendable) (k : ℕ) (ds : List Dummy) (ps : List Passed) (level unit : ℕ) → Agree bs k ds → Each (IsPassed p bs) ps → NamesAs p (names_of ds) (dummies k ds ps level unit)
  names_of_dummies bs k [] ps level unit a h = tt
  names_of_dummies bs k (x ∷ xs) ps level unit a h = (
    bound_known x (argument_at k x.kind.of ps level 0 unit) (slice_index_or bs k unknown) a.0 (argument_known bs k x.kind.of ps level 0 unit (sym (ap (λ (l : Lendable). l.of) a.0)) h),
    names_of_dummies bs (suc k) xs ps level unit a.1 h,
  )

abbrev CallsKeep : Setting → Calls → Type 0
CallsKeep g calls = (here : Here) (f : ℕ) (ps : List Passed) → Each (IsPassed g.program (names_in g.program f)) ps → Safe g.program (calls here f ps)

-- the procedure, if there is one, takes an object of this type
abbrev Takes : Program → Base → Option ℕ → Type 0
Takes p of None = ⊤
Takes p of (Some f) = of ≡ (slice_index_or (names_in p f) 0 unknown).of

one_takes : (p : Program) (t rank : ℕ) (fs : List Final) → Each (IsFinalOf p t) fs → Takes p (base.Derived t) (final_for rank fs)
one_takes p t rank [] h = tt
one_takes p t rank (f ∷ fs) h = by (nat_eq f.rank rank) (one_takes p t rank fs h.1)
  where
    by : (b : Bool) → Takes p (base.Derived t) (final_for rank fs) → Takes p (base.Derived t) (if b then Some f.procedure else final_for rank fs)
    by true rest = types_agree _ _ h.0
    by false rest = rest

zero_add : (k : ℕ) → k ≡ k + 0
zero_add k = omega arith

suc_add : (k i : ℕ) → suc k + i ≡ k + suc i
suc_add k i = omega arith

takes_of : (p : Program) (k : ℕ) (types : List Derived) (t rank : ℕ) → HaveFinals p k types → Takes p (base.Derived (k + t)) (final_of (slice_get types t) rank)
takes_of p k [] t rank h = tt
takes_of p k (y ∷ ys) zero rank h = subst (λ j. Takes p (base.Derived j) (final_for rank y.finals.items)) (zero_add k) (one_takes p k rank y.finals.items h.0)
takes_of p k (y ∷ ys) (suc t) rank h = subst (λ j. Takes p (base.Derived j) (final_of (slice_get ys t) rank)) (suc_add k t) (takes_of p (suc k) ys t rank h.1)

abbrev AreShaped : Setting → Type 0
AreShaped g = (of : Base) → IsShape g.program.types.items (shape_in g.shapes of) of

module _ (g : Setting) (calls : Calls) (c : CallsKeep g calls) (shaped : AreShaped g) (finals : HaveFinals g.program 0 g.program.types.items) where
  named_keeps : (scope : Scope) (y : Name) (here : Here) → Fits g.program scope here → Keeps g.program (Known g.program (name_of g.program scope y)) (named g y here)
  named_keeps scope (n.Static i) here f = looks_keeps g.program _ (λ w. record {
    honest = honest_root g.program (Static i) _ _ here.unit _ (λ d. static_home g.program i here.unit d) (static_declared g.program i);
    right = λ e. defines _ (subst (λ t. is_define (right_to t (slice_get g.program.statics.items i)) ≡ true) (sym f.in_unit) e);
    of = refl;
  })
  named_keeps scope (n.Local i) here f = looks_keeps g.program _ (λ w. record {
    honest = honest_local g.program here.level i _ Define here.unit _;
    right = λ e. refl;
    of = ap (λ ds. type_of (slice_get ds i)) f.variables;
  })
  named_keeps scope (n.Lent i) here f = gives_keeps g.program _ (name_at g.program scope.names here.names f.names i _ (record { honest = honest_local g.program 0 0 base.Integer Read 0 Unallocated; right = λ e. no e; of = refl }))

  picks_keep : (r : Reference) (reach : Reach) (cs : List Chosen) (here : Here) → Honest g.program r → AllAt r.path.root (numbers r.makers) (paths_by r.path reach) → Keeps g.program (Like g.program r) (picks r reach cs here)
  picks_keep r One cs here h a = gives_keeps g.program r (like_itself g.program r h)
  picks_keep r (Many ss ps) cs here h a = bind_keeps g.program (places_keep g.program ss cs here) (λ ks z. gives_keeps g.program _ (picked_like g.program r ps _ ks h a))

  in_each_keeps : (ss : List Span) (r : Reference) (cs : List Chosen) (here : Here) → Honest g.program r → Keeps g.program (Like g.program r) (picks_in_each ss r cs here)
  in_each_keeps ss r cs here h = bind_keeps g.program (places_keep g.program ss cs here) (λ ks z. gives_keeps g.program _ (in_each_like g.program r ks h))

  like_then : (r q t : Reference) → Like g.program r q → Like g.program q t → Like g.program r t
  like_then r q t h k = record { honest = k.honest; same = k.same ∙ h.same; of = k.of ∙ h.of }

  opened_or : (b : Bool) (r : Reference) (here : Here) → Honest g.program r → Keeps g.program (Like g.program r) (if b then contents r here else gives r)
  opened_or b r here h = if_keeps g.program b (contents_keeps g.program r here h) (gives_keeps g.program r (like_itself g.program r h))

  by_reach_keeps : {A : Type 0} {P : A → Type 0} (reach : Reach) {m k : Ran A} → Keeps g.program P m → Keeps g.program P k → Keeps g.program P (by_reach reach m k)
  by_reach_keeps One h k = h
  by_reach_keeps (Many ss ps) h k = k

  module _ (scope : Scope) where
    mutual
      value_keeps : (x : e.Expression) (here : Here) → Fits g.program scope here → MayValue g.program scope x → Safe g.program (value g calls x here)
      value_keeps (e.Literal z) here f m = gives_safe g.program _
      value_keeps (e.Variable' q x) here f m = bind_keeps g.program (locate_keeps x here f m) (λ r k. read_safe g.program r here)
      value_keeps (e.Group' q x) here f m = bind_keeps g.program (value_keeps x here f m) (λ v z. gives_safe g.program _)
      value_keeps (e.Unary' o t q x) here f m = bind_keeps g.program (value_keeps x here f m) (λ v z. change_safe g.program o t v here.place)
      value_keeps (e.Binary' o t q x r y) here f m = bind_keeps g.program (value_keeps x here f m.0) (λ v z. bind_keeps g.program (value_keeps y here f m.1) (λ w z. apply_safe g.program o t v w here.place))
      value_keeps (e.Array' k xs) here f m = bind_keeps g.program (given_keep xs here f m) (λ ps z. built_safe g.program (Array (record { lower = pos 1; extent = length (given ps) } ∷ []) (joined (given ps))) here)
      value_keeps (e.Structure' t k xs) here f m = bind_keeps g.program (given_keep xs here f m) (λ ps z. bind_keeps g.program (structure_safe g.program _ 0 ps here) (λ vs z. built_safe g.program (Composite vs) here))
      value_keeps (e.Call' i k xs) here f m = bind_keeps g.program (passed_keep (names_in g.program i) xs here f m.0 m.1) (λ ps h. bind_keeps g.program (c here i ps h) (λ v z. result_safe g.program v here))
      value_keeps (e.Allocated' q x) here f m = bind_keeps g.program (locate_keeps x here f m) (λ r k. looks_safe g.program _)
      value_keeps (e.Size' q x) here f m = bind_keeps g.program (bounds_keep x here f m) (λ ss z. converted_safe g.program _ _ here.place)
      value_keeps (e.Bound' o q x r y) here f m = bind_keeps g.program (bounds_keep x here f m.0) (λ ss z. bind_keeps g.program (value_keeps y here f m.1) (λ v z. asked_safe g.program o ss _ here))

      bounds_keep : (x : a.Argument) (here : Here) → Fits g.program scope here → MayArgument g.program scope x → Safe g.program (bounds g calls x here)
      bounds_keep (a.Value' k q x) here f m = bind_keeps g.program (value_keeps x here f m) (λ v z. gives_safe g.program _)
      bounds_keep (a.Variable' k q x) here f m = bind_keeps g.program (locate_keeps x here f m) (λ r z. gives_safe g.program _)

      passes_keeps : (bs : List Lendable) (x : a.Argument) (here : Here) → Fits g.program scope here → MayArgument g.program scope x → MayPass g.program scope bs x → Keeps g.program (IsPassed g.program bs) (argument g calls x here)
      passes_keeps bs (a.Value' k q x) here f m i = bind_keeps g.program (value_keeps x here f m) (λ v z. bind_keeps g.program (claim_for_safe g.program v here) (λ done z. gives_keeps g.program (Given k v) i))
      passes_keeps bs (a.Variable' k q x) here f m i = bind_keeps g.program (locate_keeps x here f m) (λ r h. gives_keeps g.program (Lent k r) (record {
        honest = h.honest;
        right = λ b. h.right (second (not (slice_index_or bs k unknown).may_define) _ i.0 (ap not b));
        of = h.of ∙ types_agree _ _ i.1;
      }))

      passed_keep : {m : _} (bs : List Lendable) (xs : e.Row_of-Argument m) (here : Here) → Fits g.program scope here → MayArguments g.program scope xs → MayPassAll g.program scope bs xs → Keeps g.program (Each (IsPassed g.program bs)) (arguments g calls xs here)
      passed_keep bs e.end_of-Argument here f m i = gives_keeps g.program [] tt
      passed_keep bs (e.more_of-Argument x rest) here f m i = bind_keeps g.program (passes_keeps bs x here f m.0 i.0) (λ y h. bind_keeps g.program (passed_keep bs rest here f m.1 i.1) (λ ps k. gives_keeps g.program (y ∷ ps) (h, k)))

      argument_keeps : (x : a.Argument) (here : Here) → Fits g.program scope here → MayArgument g.program scope x → Safe g.program (argument g calls x here)
      argument_keeps (a.Value' k q x) here f m = bind_keeps g.program (value_keeps x here f m) (λ v z. bind_keeps g.program (claim_for_safe g.program v here) (λ done z. gives_safe g.program _))
      argument_keeps (a.Variable' k q x) here f m = bind_keeps g.program (locate_keeps x here f m) (λ r h. gives_safe g.program _)

      given_keep : {m : _} (xs : e.Row_of-Argument m) (here : Here) → Fits g.program scope here → MayArguments g.program scope xs → Safe g.program (arguments g calls xs here)
      given_keep e.end_of-Argument here f m = gives_safe g.program _
      given_keep (e.more_of-Argument x rest) here f m = bind_keeps g.program (argument_keeps x here f m.0) (λ y h. bind_keeps g.program (given_keep rest here f m.1) (λ ps k. gives_safe g.program _))

      locate_keeps : (x : d.Designator) (here : Here) → Fits g.program scope here → MayLocate g.program scope x → Keeps g.program (Known g.program (designated g.program scope x)) (locate g calls x here)
      locate_keeps (d.Name x how) here f m =
          bind_keeps g.program (named_keeps scope x here f) (λ r k. weaken g.program (λ q h. known_like g.program (name_of g.program scope x) r q k h) (select_keeps how r here k.honest f m))
      locate_keeps (d.Component' p x k how) here f m =
          bind_keeps g.program (locate_keeps x here f m.0) (λ r h.
          bind_keeps g.program (component_keeps g k (Selected here.unit) r h.honest (λ y z s b e. f.in_unit ∙ selected_at_home g.program scope.unit (designated g.program scope x).of k y z (ap (derived_of g.program.types.items) (sym h.of) ∙ s) b e m.1)) (λ q i.
          weaken g.program (λ u j. known_like g.program (designated g.program scope (d.Component' p x k how)) q u (known_part g.program (designated g.program scope x) k r q h i) j) (by_reach_keeps r.reach (select_keeps how q here i.honest f m.2) (each_select_keeps how _ q here i.honest f m.2))))

      select_keeps : (how : l.Selection) (r : Reference) (here : Here) → Honest g.program r → Fits g.program scope here → MayTake g.program scope how → Keeps g.program (Like g.program r) (select g calls how r here)
      select_keeps l.Whole r here h f m = gives_keeps g.program r (like_itself g.program r h)
      select_keeps l.Contents r here h f m = contents_keeps g.program r here h
      select_keeps (l.Elements' o k xs) r here h f m =
          bind_keeps g.program (chosen_keep xs here f m) (λ cs z. bind_keeps g.program (opened_or o r here h) (λ q i. weaken g.program (λ t j. like_then r q t i j) (picks_keep q q.reach cs here i.honest i.honest.parts)))

      each_select_keeps : (how : l.Selection) (ss : List Span) (r : Reference) (here : Here) → Honest g.program r → Fits g.program scope here → MayTake g.program scope how → Keeps g.program (Like g.program r) (select_in_each g calls how ss r here)
      each_select_keeps l.Whole ss r here h f m = gives_keeps g.program r (like_itself g.program r h)
      each_select_keeps l.Contents ss r here h f m = contents_keeps g.program r here h
      each_select_keeps (l.Elements' o k xs) ss r here h f m = bind_keeps g.program (chosen_keep xs here f m) (λ cs z. in_each_keeps ss r cs here h)

      chosen_keep : {m : _} (xs : l.Row_of-Subscript m) (here : Here) → Fits g.program scope here → MaySubscripts g.program scope xs → Safe g.program (chosen g calls xs here)
      chosen_keep l.end_of-Subscript here f m = gives_safe g.program _
      chosen_keep (l.more_of-Subscript x rest) here f m = bind_keeps g.program (subscript_keeps x here f m.0) (λ y z. bind_keeps g.program (chosen_keep rest here f m.1) (λ ys z. gives_safe g.program _))

      subscript_keeps : (x : u.Subscript) (here : Here) → Fits g.program scope here → MaySubscript g.program scope x → Safe g.program (subscript g calls x here)
      subscript_keeps (u.At' q x) here f m = bind_keeps g.program (value_keeps x here f m) (λ v z. gives_safe g.program _)
      subscript_keeps (u.Range' b q x b' r y s z) here f m =
          bind_keeps g.program (if_keeps g.program b (bind_keeps g.program (value_keeps x here f m.0) (λ v z. gives_safe g.program _)) (gives_safe g.program _)) (λ lower w. bind_keeps g.program (if_keeps g.program b' (bind_keeps g.program (value_keeps y here f m.1) (λ v z. gives_safe g.program _)) (gives_safe g.program _)) (λ upper w. bind_keeps g.program (value_keeps z here f m.2) (λ v w. gives_safe g.program _)))

    -- a variable in a definition context
    define_keeps : (x : d.Designator) (here : Here) → Fits g.program scope here → MayDefine g.program scope x → Keeps g.program (Known g.program (record { may_define = true; of = (designated g.program scope x).of })) (locate g calls x here)
    define_keeps x here f m = weaken g.program (λ r k. record { honest = k.honest; right = λ e. k.right m.1; of = k.of }) (locate_keeps x here f m.0)

    define_as : (k : Kind) (x : d.Designator) (here : Here) → Fits g.program scope here → MayDefineAs g.program scope k x → Keeps g.program (Known g.program (record { may_define = true; of = k.of })) (locate g calls x here)
    define_as k x here f m = weaken g.program (λ r h. record { honest = h.honest; right = h.right; of = h.of ∙ types_agree _ _ m.1 }) (define_keeps x here f m.0)

  -- ---- destroying

  -- may be defined, and is of this type
  abbrev Objects : Base → Reference → Type 0
  Objects of r = Known g.program (record { may_define = true; of = of }) r

  objects_like : (of : Base) (r q : Reference) → Objects of r → Like g.program r q → Objects of q
  objects_like of r q k h = known_like g.program (record { may_define = true; of = of }) r q k h

  set_object : (of : Base) (r : Reference) (v : Value) (here : Here) → Objects of r → Safe g.program (set r v here)
  set_object of r v here k = set_keeps g.program r v here k.honest (k.right refl)

  open_object : (of : Base) (r : Reference) (here : Here) → Objects of r → Keeps g.program (Objects of) (contents r here)
  open_object of r here k = weaken g.program (λ q h. objects_like of r q k h) (contents_keeps g.program r here k.honest)

  finalize_keeps : (of : Base) (o : Option ℕ) (r : Reference) (here : Here) → Objects of r → Takes g.program of o → Safe g.program (finalize g calls o r here)
  finalize_keeps of None r here k t = gives_safe g.program tt
  finalize_keeps of (Some f) r here k t = bind_keeps g.program (c here f (Lent 0 r ∷ []) (record { honest = k.honest; right = λ e. k.right refl; of = k.of ∙ t }, tt)) (λ v z. gives_safe g.program tt)

  -- destroying or the like, of what may be defined
  abbrev Destroys : Base → (Reference → Here → Ran ⊤) → Type 0
  Destroys of act = (r : Reference) (here : Here) → Objects of r → Safe g.program (act r here)

  deallocate_keeps : (of : Base) (act : Reference → Here → Ran ⊤) → Destroys of act → Destroys of (deallocate_by act)
  deallocate_keeps of act a r here k =
      if_keeps g.program (is_pinned r.path here.lent) (fails_keeps g.program _ here.place)
      (bind_keeps g.program (open_object of r here k) (λ q i. bind_keeps g.program (a q here i) (λ done z. set_object of r Unallocated here k)))

  release_keeps : (of : Base) (act : Reference → Here → Ran ⊤) → Destroys of act → Destroys of (release_by act)
  release_keeps of act a r here k = bind_keeps g.program (looks_safe g.program _) (λ x z. if_keeps g.program x (deallocate_keeps of act a r here k) (gives_safe g.program tt))

  finish_by_keeps : (of : Base) (act : Reference → Here → Ran ⊤) → Destroys of act → (k : Kind) → Destroys of (finish_by act k)
  finish_by_keeps of act a k r here h = if_keeps g.program k.is_allocatable (release_keeps of act a r here h) (a r here h)

  mutual
    destroy_keeps : (s : Shape) (of : Base) → IsShape g.program.types.items s of → Destroys of (destroy g calls s)
    destroy_keeps Whole of w r here k = gives_safe g.program tt
    destroy_keeps Logical of w r here k = gives_safe g.program tt
    destroy_keeps (Record t parts) of w r here k =
        if_keeps g.program (is_destroyed g.program.types.items (Record t parts)) (bind_keeps g.program (finalize_keeps of _ r (lending (r ∷ []) here) k (subst (λ b. Takes g.program b (final_of (slice_get g.program.types.items t) (length (spans r.reach)))) (ap base.Derived (from_zero t) ∙ sym w.0) (takes_of g.program 0 g.program.types.items t (length (spans r.reach)) finals))) (λ done z.
        bind_keeps g.program (each_keeps g.program (paths r) _ (IsAt r.path.root (numbers r.makers)) k.honest.parts (λ q e. parts_keep parts of t 0 w.1 (moved r q One) (lending (r ∷ []) here) (record { honest = honest_moved g.program r k.honest q e.0 One (e, tt); right = k.right; of = k.of }))) (λ done z.
        clear_keeps g.program r here k.honest (k.right refl)))) (gives_safe g.program tt)

    parts_keep : (xs : Parts) (of : Base) (t k : ℕ) → AreParts g.program.types.items xs of k → Destroys of (destroy_parts g calls xs t k)
    parts_keep nothing of t k w r here h = gives_safe g.program tt
    parts_keep (and x s rest) of t k w r here h =
        bind_keeps g.program (component_keeps g k Language r h.honest (λ y z s b e. tt)) (λ q i.
        bind_keeps g.program (finish_by_keeps (component_type g.program.types.items of k) (destroy g calls s) (destroy_keeps s (component_type g.program.types.items of k) w.0) x.declared.kind q here (known_part g.program (record { may_define = true; of = of }) k r q h i)) (λ done z.
        parts_keep rest of t (suc k) w.1 r here h))

  destroy_of : (of : Base) → Destroys of (destroy g calls (shape_in g.shapes of))
  destroy_of of = destroy_keeps (shape_in g.shapes of) of (shaped of)

  finish_keeps : (k : Kind) → Destroys k.of (finish g calls k)
  finish_keeps k r here h = finish_by_keeps k.of (destroy g calls (shape_in g.shapes k.of)) (destroy_of k.of) k r here h

  -- ---- statements

  onward_keeps : (flow : Flow) {m : Ran Flow} → Safe g.program m → Safe g.program (onward flow m)
  onward_keeps Onward h = h
  onward_keeps Cycled h = gives_safe g.program _
  onward_keeps Left h = gives_safe g.program _
  onward_keeps (Returned place) h = gives_safe g.program _

  next_keeps : (flow : Flow) {m : Ran Flow} → Safe g.program m → Safe g.program (next_turn flow m)
  next_keeps Onward h = h
  next_keeps Cycled h = h
  next_keeps Left h = gives_safe g.program _
  next_keeps (Returned place) h = gives_safe g.program _

  turns_keep : (n : ℕ) (test : Ran Bool) (body : Ran Flow) → Safe g.program test → Safe g.program body → Safe g.program (turns n test body)
  turns_keep zero test body t b = bind_keeps g.program t (λ x z. if_keeps g.program x (beyond_keeps g.program) (gives_safe g.program _))
  turns_keep (suc n) test body t b = bind_keeps g.program t (λ x z. if_keeps g.program x (bind_keeps g.program b (λ flow z. next_keeps flow (turns_keep n test body t b))) (gives_safe g.program _))

  counted_keep : (n k : ℕ) (body : Ran Flow) (next : Ran ⊤) → Safe g.program body → Safe g.program next → Safe g.program (counted n k body next)
  counted_keep n zero body next b x = gives_safe g.program _
  counted_keep zero (suc k) body next b x = beyond_keeps g.program
  counted_keep (suc n) (suc k) body next b x = bind_keeps g.program b (λ flow z. next_keeps flow (bind_keeps g.program x (λ done z. counted_keep n k body next b x)))

  module _ (n : ℕ) where
    overwrite_keeps : (k : Kind) (r : Reference) (v : Value) (here : Here) → Objects k.of r → Safe g.program (overwrite g n calls k r v here)
    overwrite_keeps k r v here h =
        bind_keeps g.program (destroy_of k.of r here h) (λ done z. bind_keeps g.program (converted_safe g.program k.of v here.place) (λ v z. bind_keeps g.program (claim_for_safe g.program v here) (λ done z. set_object k.of r v here h)))

    fill_keeps : (k : Kind) (r : Reference) (v : Value) (here : Here) → Objects k.of r → Safe g.program (fill g n calls k r v here)
    fill_keeps k r v here h =
        bind_keeps g.program (claim_safe g.program here) (λ done z. bind_keeps g.program (set_object k.of r (new_value g k (spans_of v)) here h) (λ done z. bind_keeps g.program (open_object k.of r here h) (λ q i. bind_keeps g.program (converted_safe g.program k.of v here.place) (λ v z. set_object k.of q v here i))))

    filled_or : (k : Kind) (r : Reference) (v : Value) (here : Here) → Objects k.of r → Safe g.program (if nat_eq k.rank (length (spans_of v)) then fill g n calls k r v here else fails NotAllocated here.place)
    filled_or k r v here h = if_keeps g.program (nat_eq k.rank (length (spans_of v))) (fill_keeps k r v here h) (fails_keeps g.program _ here.place)

    renew_keeps : (k : Kind) (r : Reference) (old v : Value) (here : Here) → Objects k.of r → Safe g.program (renew g n calls k r old v here)
    renew_keeps k r (Allocated x) v here h =
        if_keeps g.program (conforms (spans_of x) v) (bind_keeps g.program (open_object k.of r here h) (λ q i. overwrite_keeps k q v here i))
        (bind_keeps g.program (deallocate_keeps k.of (destroy g calls (shape_in g.shapes k.of)) (destroy_of k.of) r here h) (λ done z. fill_keeps k r v here h))
    renew_keeps k r (Number z) v here h = filled_or k r v here h
    renew_keeps k r (Truth z) v here h = filled_or k r v here h
    renew_keeps k r (Composite vs) v here h = filled_or k r v here h
    renew_keeps k r (Array ss vs) v here h = filled_or k r v here h
    renew_keeps k r Unallocated v here h = filled_or k r v here h

    assign_keeps : (k : Kind) (r : Reference) (v : Value) (here : Here) → Objects k.of r → Safe g.program (assign g n calls k r v here)
    assign_keeps k r v here h =
        if_keeps g.program k.is_allocatable (bind_keeps g.program (looks_safe g.program _) (λ old z. renew_keeps k r old v here h))
        (if_keeps g.program (conforms (spans r.reach) v) (overwrite_keeps k r v here h) (fails_keeps g.program _ here.place))

    allocate_keeps : (k : Kind) (r : Reference) (ss : List Span) (here : Here) → Objects k.of r → Safe g.program (allocate g k r ss here)
    allocate_keeps k r ss here h =
        bind_keeps g.program (looks_safe g.program _) (λ already z. if_keeps g.program already (gives_safe g.program _) (if_keeps g.program (too_many ss || nat_lt 16777216 (count ss)) (gives_safe g.program _) (bind_keeps g.program (request_safe g.program) (λ refused z. if_keeps g.program refused (gives_safe g.program _) (bind_keeps g.program (set_object k.of r (new_value g k ss) here h) (λ done z. gives_safe g.program _))))))

    one_keeps : (k : Kind) (r : Reference) (here : Here) → Objects k.of r → Safe g.program (deallocate g n calls k r here)
    one_keeps k r here h =
        bind_keeps g.program (looks_safe g.program _) (λ x z. if_keeps g.program x (if_keeps g.program (is_pinned r.path here.lent) (gives_safe g.program _) (bind_keeps g.program (deallocate_keeps k.of (destroy g calls (shape_in g.shapes k.of)) (destroy_of k.of) r here h) (λ done z. gives_safe g.program _))) (gives_safe g.program _))

    take_keeps : (of : Base) (from to : Reference) (v : Value) (here : Here) → Objects of from → Objects of to → Safe g.program (take_over g n calls from to v here)
    take_keeps of from to (Allocated v) here h i = if_keeps g.program (is_pinned from.path here.lent) (fails_keeps g.program _ here.place) (bind_keeps g.program (set_object of from Unallocated here h) (λ done z. set_object of to (Allocated v) here i))
    take_keeps of from to (Number z) here h i = gives_safe g.program tt
    take_keeps of from to (Truth z) here h i = gives_safe g.program tt
    take_keeps of from to (Composite vs) here h i = gives_safe g.program tt
    take_keeps of from to (Array ss vs) here h i = gives_safe g.program tt
    take_keeps of from to Unallocated here h i = gives_safe g.program tt

    move_keeps : (k : Kind) (from to : Reference) (here : Here) → Objects k.of from → Objects k.of to → Safe g.program (move_alloc g n calls k from to here)
    move_keeps k from to here h i =
        bind_keeps g.program (finish_keeps k to (lending (from ∷ to ∷ []) here) i) (λ done z. bind_keeps g.program (looks_safe g.program _) (λ v z. take_keeps k.of from to v (lending (from ∷ to ∷ []) here) h i))

    failed_keeps : (status : Option RunError) {m : Ran (Option RunError)} → Safe g.program m → Safe g.program (unless_failed status m)
    failed_keeps None h = h
    failed_keeps (Some error) h = gives_safe g.program _

    module _ (scope : Scope) where
      answer_keeps : (status : Option RunError) (o : Option d.Designator) (here : Here) → Fits g.program scope here → MayStat g.program scope o → Safe g.program (answer g n calls status o here)
      answer_keeps None None here f m = gives_safe g.program tt
      answer_keeps (Some error) None here f m = fails_keeps g.program error here.place
      answer_keeps status (Some x) here f m = bind_keeps g.program (define_keeps scope x here f m) (λ r k. set_keeps g.program r (Number (pos (status_number status))) here k.honest (k.right refl))

      dimensions_keep : (bs : List Bounds) (here : Here) → Fits g.program scope here → Each (MayBound g.program scope) bs → Safe g.program (dimensions g n calls bs here)
      dimensions_keep [] here f m = gives_safe g.program _
      dimensions_keep (b ∷ bs) here f m = bind_keeps g.program (value_keeps scope b.lower here f m.0.0) (λ v z. bind_keeps g.program (value_keeps scope b.upper here f m.0.1) (λ w z. bind_keeps g.program (dimensions_keep bs here f m.1) (λ ss z. gives_safe g.program _)))

      allocate_all_keep : (rs : List Request) (here : Here) → Fits g.program scope here → Each (MayRequest g.program scope) rs → Safe g.program (allocate_all g n calls rs here)
      allocate_all_keep [] here f m = gives_safe g.program _
      allocate_all_keep (r ∷ rs) here f m =
          bind_keeps g.program (define_as scope r.kind r.object here f m.0.0) (λ h k. bind_keeps g.program (dimensions_keep r.bounds.items here f m.0.1) (λ ss z. bind_keeps g.program (allocate_keeps r.kind h ss here k) (λ status z. failed_keeps status (allocate_all_keep rs here f m.1))))

      deallocate_all_keep : (rs : List Request) (here : Here) → Fits g.program scope here → Each (MayRequest g.program scope) rs → Safe g.program (deallocate_all g n calls rs here)
      deallocate_all_keep [] here f m = gives_safe g.program _
      deallocate_all_keep (r ∷ rs) here f m =
          bind_keeps g.program (define_as scope r.kind r.object here f m.0.0) (λ h k. bind_keeps g.program (one_keeps r.kind h here k) (λ status z. failed_keeps status (deallocate_all_keep rs here f m.1)))

      items_keep : (xs : List Item) (here : Here) → Fits g.program scope here → Each (MayItem g.program scope) xs → Safe g.program (items g n calls xs here)
      items_keep [] here f m = printed_safe g.program _
      items_keep (item.Value x ∷ xs) here f m = bind_keeps g.program (value_keeps scope x here f m.0) (λ v z. bind_keeps g.program (print_safe g.program v) (λ done z. items_keep xs here f m.1))
      items_keep (item.Text t ∷ xs) here f m = bind_keeps g.program (printed_safe g.program _) (λ done z. items_keep xs here f m.1)

      increment_keeps : (x : d.Designator) (k : Kind) (step : ℤ) (here : Here) → Fits g.program scope here → MayDefine g.program scope x → Safe g.program (increment g n calls x k step here)
      increment_keeps x k step here f m =
          bind_keeps g.program (define_keeps scope x here f m) (λ r i. bind_keeps g.program (looks_safe g.program _) (λ old z. bind_keeps g.program (converted_safe g.program k.of _ here.place) (λ v z. set_keeps g.program r v here i.honest (i.right refl))))

      shown_rooted : (t : Root) (ks : List ℕ) (q : Path) (reach : Reach) → AllAt t ks (paths_by q reach) → AllAt t ks (paths_by q (shown_reach reach))
      shown_rooted t ks q One a = a
      shown_rooted t ks q (Many ss ps) a = a

      associated_known : (b : Lendable) (r : Reference) → Known g.program b r → Known g.program b (associated r)
      associated_known b r k = record { honest = honest_moved g.program r k.honest r.path refl _ (shown_rooted r.path.root (numbers r.makers) r.path r.reach k.honest.parts); right = k.right; of = k.of }

      AsSelected : List Selector → List Association → Type 0
      AsSelected xs found = (level slot u : ℕ) → NamesAs g.program (names_by g.program scope xs) (associates found level slot u)

      selectors_keep : (xs : List Selector) (here : Here) → Fits g.program scope here → Each (MayBe g.program scope) xs → Keeps g.program (AsSelected xs) (selectors g n calls xs here)
      unfolding AsSelected
      selectors_keep [] here f m = gives_keeps g.program _ (λ level slot u. tt)
      selectors_keep (selector.Variable x ∷ xs) here f m =
          bind_keeps g.program (locate_keeps scope x here f m.0) (λ r k. bind_keeps g.program (selectors_keep xs here f m.1) (λ ps h. gives_keeps g.program _ (λ level slot u. (associated_known _ r k, h level slot u))))
      selectors_keep (selector.Value k x ∷ xs) here f m =
          bind_keeps g.program (value_keeps scope x here f m.0) (λ v z. bind_keeps g.program (claim_for_safe g.program v here) (λ done z. bind_keeps g.program (selectors_keep xs here f m.1) (λ ps h. gives_keeps g.program _ (λ level slot u. (record { honest = honest_local g.program level slot k.of Read u v; right = λ e. no e; of = refl }, h level (suc slot) u)))))

    fits_at : (scope : Scope) (here : Here) (place : Place) → Fits g.program scope here → Fits g.program scope (at place here)
    fits_at scope here place f = record { in_unit = f.in_unit; variables = f.variables; names = f.names }

    fits_selected : (scope : Scope) (here : Here) (v : Value) → Fits g.program scope here → Fits g.program scope (selecting v here)
    fits_selected scope here v f = record { in_unit = f.in_unit; variables = f.variables; names = f.names }

    fits_more : (scope : Scope) (xs : List Selector) (here : Here) (found : List Association) (level : ℕ) → Fits g.program scope here → AsSelected scope xs found
        → Fits g.program (naming (names_by g.program scope xs) scope) (associating (associates found level 0 here.unit) here)
    unfolding AsSelected
    fits_more scope xs here found level f h = record { in_unit = f.in_unit; variables = f.variables; names = names-append g.program scope.names (names_by g.program scope xs) here.names (associates found level 0 here.unit) f.names (h level 0 here.unit) }

    mutual
      exec_keeps : (x : s.Statement) (scope : Scope) (here : Here) → Fits g.program scope here → MayExec g.program x scope → Safe g.program (exec g n calls x here)
      exec_keeps (s.At' place true q x) scope here f m = bind_keeps g.program (begins_safe g.program (at place here)) (λ done z. exec_keeps x scope (at place here) (fits_at scope here place f) m)
      exec_keeps (s.At' place false q x) scope here f m = exec_keeps x scope (at place here) (fits_at scope here place f) m
      exec_keeps (s.Block' k xs) scope here f m = block_keeps xs scope here f m
      exec_keeps (s.Assign x k y) scope here f m =
          bind_keeps g.program (value_keeps scope y here f m.1) (λ v z. bind_keeps g.program (define_as scope k x here f m.0) (λ r i. bind_keeps g.program (assign_keeps k r v here i) (λ done z. gives_safe g.program _)))
      exec_keeps (s.Call x) scope here f m = bind_keeps g.program (value_keeps scope x here f m) (λ v z. gives_safe g.program _)
      exec_keeps (s.MoveAlloc k true x y) scope here f m =
          bind_keeps g.program (define_as scope k x here f m.0) (λ r i. bind_keeps g.program (define_as scope k y here f m.1) (λ q j. bind_keeps g.program (move_keeps k r q here i j) (λ done z. gives_safe g.program _)))
      exec_keeps (s.MoveAlloc k false x y) scope here f m =
          bind_keeps g.program (define_as scope k x here f m.0) (λ r i. bind_keeps g.program (define_as scope k y here f m.1) (λ q j. bind_keeps g.program (move_keeps k q r here j i) (λ done z. gives_safe g.program _)))
      exec_keeps (s.Allocate rs stat) scope here f m = bind_keeps g.program (allocate_all_keep scope rs.items here f m.0) (λ status z. bind_keeps g.program (answer_keeps scope status stat here f m.1) (λ done z. gives_safe g.program _))
      exec_keeps (s.Deallocate rs stat) scope here f m = bind_keeps g.program (deallocate_all_keep scope rs.items here f m.0) (λ status z. bind_keeps g.program (answer_keeps scope status stat here f m.1) (λ done z. gives_safe g.program _))
      exec_keeps (s.Print xs) scope here f m = bind_keeps g.program (items_keep scope xs.items here f m) (λ done z. gives_safe g.program _)
      exec_keeps (s.Stop code) scope here f m = stops_keeps g.program code
      exec_keeps s.Return scope here f m = gives_safe g.program _
      exec_keeps s.Cycle scope here f m = gives_safe g.program _
      exec_keeps s.Exit scope here f m = gives_safe g.program _
      exec_keeps (s.If' x q y r z) scope here f m =
          bind_keeps g.program (value_keeps scope x here f m.0) (λ v w. if_keeps g.program (truth_of v) (exec_keeps y scope here f m.1) (exec_keeps z scope here f m.2))
      exec_keeps (s.Select' x q y) scope here f m =
          bind_keeps g.program (value_keeps scope x here f m.0) (λ v w. exec_keeps y scope (selecting v here) (fits_selected scope here v f) m.1)
      exec_keeps (s.Case' rs q x r y) scope here f m = if_keeps g.program (some_meets g n calls rs.items here.selected) (exec_keeps x scope here f m.0) (exec_keeps y scope here f m.1)
      exec_keeps (s.While' x q y) scope here f m = turns_keep n _ _ (bind_keeps g.program (value_keeps scope x here f m.0) (λ v z. gives_safe g.program _)) (exec_keeps y scope here f m.1)
      exec_keeps (s.Count' x k from to step q y) scope here f m =
          bind_keeps g.program (value_keeps scope from here f m.1) (λ v z. bind_keeps g.program (converted_safe g.program k.of v here.place) (λ first z. bind_keeps g.program (value_keeps scope to here f m.2) (λ v z. bind_keeps g.program (converted_safe g.program k.of v here.place) (λ last z. bind_keeps g.program (value_keeps scope step here f m.3) (λ v z. bind_keeps g.program (converted_safe g.program k.of v here.place) (λ by z. bind_keeps g.program (unless_safe g.program (number_of by) here) (λ done z. bind_keeps g.program (define_keeps scope x here f m.0) (λ r i. bind_keeps g.program (set_keeps g.program r first here i.honest (i.right refl)) (λ done z. counted_keep n _ _ _ (exec_keeps y scope here f m.4) (increment_keeps scope x k (number_of by) here f m.0))))))))))
      exec_keeps (s.Associate' xs q y) scope here f m =
          bind_keeps g.program (selectors_keep scope xs.items here f m.0) (λ ps h. bind_keeps g.program (looks_safe g.program _) (λ level z. bind_keeps g.program (enter_safe g.program (held_by ps)) (λ done z. bind_keeps g.program (exec_keeps y (naming (names_by g.program scope xs.items) scope) (associating (associates ps level 0 here.unit) here) (fits_more scope xs.items here ps level f h) m.1) (λ flow z. bind_keeps g.program (leave_safe g.program level) (λ done z. gives_safe g.program _)))))

      block_keeps : {k : _} (xs : s.Row_of-Statement k) (scope : Scope) (here : Here) → Fits g.program scope here → MayBlock g.program xs scope → Safe g.program (block g n calls xs here)
      block_keeps s.end_of-Statement scope here f m = gives_safe g.program _
      block_keeps (s.more_of-Statement x rest) scope here f m = bind_keeps g.program (exec_keeps x scope here f m.0) (λ flow z. onward_keeps flow (block_keeps rest scope here f m.1))

    -- ---- calls

    locals_keep : (ds : List Declared) (i : ℕ) (here : Here) → Safe g.program (finish_locals g n calls ds i here)
    locals_keep [] i here = gives_safe g.program tt
    locals_keep (x ∷ xs) i here =
        bind_keeps g.program (looks_keeps g.program {P = Objects x.kind.of} _ (λ w. record { honest = honest_local g.program here.level i x.kind.of Define here.unit _; right = λ e. refl; of = refl })) (λ r k. bind_keeps g.program (finish_keeps x.kind r here k) (λ done z. locals_keep xs (suc i) here))

    initialize_keeps : (k : Kind) (r : Reference) (here : Here) → Objects k.of r → Safe g.program (initialize g n calls k r here)
    initialize_keeps k r here h = if_keeps g.program k.is_allocatable (gives_safe g.program tt) (set_object k.of r _ here h)

    out_keeps : (x : Dummy) (i : Intent) (r : Reference) (m : Ran ⊤) → Known g.program (record { may_define = not (is_in i); of = x.kind.of }) r → (Objects x.kind.of r → Safe g.program m) → Safe g.program (where_out i m)
    out_keeps x intent.In r m k h = gives_safe g.program tt
    out_keeps x intent.Out r m k h = h k
    out_keeps x intent.InOut r m k h = gives_safe g.program tt

    outs_keep : (ds : List Dummy) (rs : List Reference) (here : Here) → NamesAs g.program (names_of ds) rs → Safe g.program (outs g n calls ds rs here)
    outs_keep [] rs here h = gives_safe g.program tt
    outs_keep (x ∷ xs) [] here h = gives_safe g.program tt
    outs_keep (x ∷ xs) (r ∷ rs) here h =
        bind_keeps g.program (out_keeps x x.intent r _ h.0 (λ i. bind_keeps g.program (finish_keeps x.kind r here i) (λ done z. initialize_keeps x.kind r here i))) (λ done z. outs_keep xs rs here h.1)

    left_safe : (flow : Flow) (end : Place) (here : Here) → Safe g.program (left_at flow end here)
    left_safe (Returned place) end here = gives_safe g.program _
    left_safe Onward end here = bind_keeps g.program (begins_safe g.program (at end here)) (λ done z. gives_safe g.program _)
    left_safe Cycled end here = gives_safe g.program _
    left_safe Left end here = gives_safe g.program _

    called_keeps : (q : Procedure) (ps : List Passed) (here : Here) → Each (IsPassed g.program (names_of q.dummies.items)) ps → MayRun g.program q → Safe g.program (called g n calls q ps here)
    called_keeps q ps here h m =
        bind_keeps g.program (claim_safe g.program here) (λ done z. bind_keeps g.program (looks_safe g.program _) (λ level z. bind_keeps g.program (enter_safe g.program (held ps)) (λ done z. bind_keeps g.program (enter_safe g.program (variables g q)) (λ done z.
        let names = names_of_dummies g.program (names_of q.dummies.items) 0 q.dummies.items ps level here.unit (agree_all q.dummies.items) h in
        bind_keeps g.program (outs_keep q.dummies.items _ _ names) (λ done z. bind_keeps g.program (exec_keeps q.body (scope_of q) _ (record { in_unit = refl; variables = refl; names = names }) m) (λ flow z. bind_keeps g.program (left_safe flow q.end _) (λ place z. bind_keeps g.program (locals_keep q.locals.items 0 _) (λ done z. bind_keeps g.program (looks_safe g.program _) (λ v z. bind_keeps g.program (claim_for_safe g.program v (at place here)) (λ done z. bind_keeps g.program (leave_safe g.program level) (λ done z. gives_safe g.program _)))))))))))

    procedure_keeps : (o : Option Procedure) (ps : List Passed) (here : Here) → Each (IsPassed g.program (names_of (dummies_in o))) ps → ((q : Procedure) → o ≡ Some q → MayRun g.program q) → Safe g.program (call_of g n calls o ps here)
    procedure_keeps None ps here h m = gives_safe g.program _
    procedure_keeps (Some q) ps here h m = called_keeps q ps here h (m q refl)

    main_keeps : (scope : Scope) (here : Here) → Fits g.program scope here → MayExec g.program g.program.main.body scope → Safe g.program (main_of g n calls here)
    main_keeps scope here f m =
        bind_keeps g.program (claim_safe g.program here) (λ done z. bind_keeps g.program (enter_safe g.program (variables g g.program.main)) (λ done z. bind_keeps g.program (exec_keeps g.program.main.body scope here f m) (λ flow z. begins_safe g.program (at g.program.main.end here))))

calls_keep : (depth : ℕ) (g : Setting) (n : ℕ) → AreShaped g → IsLawful g.program → CallsKeep g (calls_of depth g n)
unfolding calls_of
calls_keep zero g n s m here f ps h = fails_keeps g.program _ here.place
calls_keep (suc depth) g n s m here f ps h = procedure_keeps g (calls_of depth g n) (calls_keep depth g n s m) s m.in_types n (slice_get g.program.procedures.items f) ps here h (each_get (MayRun g.program) g.program.procedures.items m.in_procedures f)

runs_keep : (p : Program) → IsLawful p → (n : ℕ) (answers : ℕ → Bool) → Each (Permitted p) (changes (run_of p n answers).out) × Stands (first_store (setting_of p)) (run_of p n answers).out
unfolding run_of runs
runs_keep p m n answers =
    let shaped : AreShaped (setting_of p) = shapes_are p.types.items in
    let k = (main_keeps (setting_of p) (calls_of 1000 (setting_of p) n) (calls_keep 1000 (setting_of p) n shaped m) shaped m.in_types n (record { unit = p.main.unit; variables = declared_in p.main; names = [] }) (first_here (setting_of p)) (record { in_unit = refl; variables = refl; names = tt }) m.in_main).always (first_world (setting_of p) answers) in
    (k.0, k.1)

pub changes_are_permitted : (p : Program) → IsLawful p → (n : ℕ) (answers : ℕ → Bool) → Each (Permitted p) (changes (run_of p n answers).out)
changes_are_permitted p m n answers = (runs_keep p m n answers).0

pub stages_stand : (p : Program) → IsLawful p → (n : ℕ) (answers : ℕ → Bool) → Stands (first_store (setting_of p)) (run_of p n answers).out
stages_stand p m n answers = (runs_keep p m n answers).1
