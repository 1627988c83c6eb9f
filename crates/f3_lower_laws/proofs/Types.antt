-- The routines of types do what destroying does by their trees.
use Rattle.std.proofs.Common.{◌≡◌, ℕ, zero, suc, ◌+◌, ◌<◌, ◌≤◌, Bool, true, false, List, [], ◌∷◌, ◌++◌, length, Option, None, Some, refl, sym, ap, ◌∙◌}
use Rattle.std.proofs.Common.{arith, if◌then◌else◌}
use mathlib.Core.Path.{subst}
use Rattle.std.specs.Prelude.{⊤, ◌&&◌, nat_eq, nat_lt, slice_get, slice_index_or}
use Rattle.std.proofs.lemmas.Bool.{eqb-true, eqb-false, ltb-true, ltb-false}
use Rattle.std.proofs.Math.Seq.{get_or-append_seam}
use Rattle.f3_program.specs.declared.declarations.Base.{Base}
use Rattle.f3_program.specs.declared.declarations.Base.TheVariants as base
use Rattle.f3_program.specs.declared.declarations.Component.{Component}
use Rattle.f3_program.specs.declared.declarations.Derived.{Derived}
use Rattle.f3_program.specs.declared.declarations.Final.{Final}
use Rattle.f3_program.specs.declared.declarations.Kind.{Kind}
use Rattle.f3_program.specs.declared.program.Program.{Program}
use Rattle.f3_meaning_whole.specs.Reference.{One, Reference, paths, spans, is_pinned}
use Rattle.f3_meaning_whole.specs.Ran.{Ran, ◌>>=◌, gives, each}
use Rattle.f3_meaning_whole.specs.Shape.{Shape, Whole, Record, Parts, shape_in, parts_in, shapes_from, shapes_of, final_for}
use Rattle.f3_meaning_whole.specs.Act.{Here, Lent, Calls, clear, lending, contents, moved, components_of}
use Rattle.f3_meaning_whole.specs.Run.{setting_of}
use Rattle.f3_meaning_whole.specs.Destroy.{deallocate_by, finish_by, release_by, final_of, is_destroyed, finalize, destroy, destroy_parts}
use Rattle.f3_code.specs.Work.{Work, Rest, And, Lending, Of_elements, Routine, Clear, If_allocated, Of_contents, Routines, work, routines_of}
use Rattle.f3_code.specs.Lower.{finals_in, final_work, object_work, finish_work, routine_of, routines_from, routines}
use Rattle.f3_lower_laws.proofs.Expressions.{bare}
use Rattle.f3_lower_laws.proofs.Runs.{bind_same, then_same, bind_assoc, if_same, each_same}

-- ---- numbers

one_more : {A : Type 0} (xs : List A) (x : A) → length (xs ++ x ∷ []) ≡ suc (length xs)
one_more [] x = refl
one_more (y ∷ xs) x = ap suc (one_more xs x)

lower_same : (t m : ℕ) → nat_eq t m ≡ false → nat_lt t (suc m) ≡ nat_lt t m
lower_same t m e = by (nat_lt t (suc m)) (nat_lt t m) refl refl
  where
    apart : t ≡ m → ⊥
    apart = eqb-false t m e

    by : (b c : Bool) → nat_lt t (suc m) ≡ b → nat_lt t m ≡ c → b ≡ c
    by true true f h = refl
    by false false f h = refl
    by true false f h =
        let below : t < suc m = ltb-true t (suc m) f in
        let above : m ≤ t = ltb-false t m h in
        absurd (apart (omega arith))
    by false true f h =
        let above : suc m ≤ t = ltb-false t (suc m) f in
        let below : t < m = ltb-true t m h in
        absurd (omega arith)

not_last : (m : ℕ) → nat_lt m (suc m) ≡ false → ⊥
not_last m e = let above : suc m ≤ m = ltb-false m (suc m) e in absurd (omega arith)

-- elsewhere than at its end a longer list is the same
elsewhere : {A : Type 0} (xs : List A) (x y : A) (t : ℕ) → (t ≡ length xs → ⊥) → slice_index_or (xs ++ x ∷ []) t y ≡ slice_index_or xs t y
elsewhere [] x y zero apart = absurd (apart refl)
elsewhere [] x y (suc t) apart = refl
elsewhere (z ∷ xs) x y zero apart = refl
elsewhere (z ∷ xs) x y (suc t) apart = elsewhere xs x y t (λ e. apart (ap suc e))

-- a longer list is the same before its end
front_same : {A : Type 0} (xs : List A) (x y : A) (t : ℕ) → t < length xs → slice_index_or (xs ++ x ∷ []) t y ≡ slice_index_or xs t y
front_same xs x y t below = elsewhere xs x y t (λ e. apart t (length xs) below e)
  where
    apart : (t n : ℕ) → t < n → t ≡ n → ⊥
    apart t n below e = absurd (omega arith)

-- the trees of further types change none of those in front
front_kept : (ts : List Derived) (shapes : List Shape) (t : ℕ) → t < length shapes →
    slice_index_or (shapes_from shapes ts) t Whole ≡ slice_index_or shapes t Whole
front_kept [] shapes t below = refl
front_kept (x ∷ ts) shapes t below =
    front_kept ts (shapes ++ newest ∷ []) t (subst (λ k. t < k) (sym (one_more shapes newest)) (further t (length shapes) below))
    ∙ front_same shapes newest Whole t below
  where
    newest : Shape
    newest = Record (length shapes) (parts_in shapes x.components.items)

    further : (t n : ℕ) → t < n → t < suc n
    further t n below = omega arith

module _ (p : Program) (calls : Calls) where
  finals_same : (routines : Routines) (fs : List Final) (r : Reference) (here : Here) → work (bare p) calls routines (final_work fs) r here
      ≡ finalize (setting_of p) calls (final_for (length (spans r.reach)) fs) r here
  finals_same routines [] r here = refl
  finals_same routines (f ∷ fs) r here = by (nat_eq f.rank (length (spans r.reach))) (finals_same routines fs r here)
    where
      by : (b : Bool) {rest : Ran ⊤} → rest ≡ finalize (setting_of p) calls (final_for (length (spans r.reach)) fs) r here →
          (if b then (calls here f.procedure (Lent 0 r ∷ []) >>= λ v. gives tt) else rest)
          ≡ finalize (setting_of p) calls (if b then Some f.procedure else final_for (length (spans r.reach)) fs) r here
      by true h = refl
      by false h = h

  final_same : (routines : Routines) (o : Option Derived) (r : Reference) (here : Here) →
      work (bare p) calls routines (final_work (finals_in o)) r here ≡ finalize (setting_of p) calls (final_of o (length (spans r.reach))) r here
  final_same routines None r here = refl
  final_same routines (Some t) r here = finals_same routines t.finals.items r here

  -- the routines of so many types, and their trees
  pub record Follow (m : ℕ) (shapes : List Shape) (older : List Work) : Type 0 where
    pub shapes_are : length shapes ≡ m
    pub routines_are : length older ≡ m
    pub inside : (t : ℕ) → nat_lt t m ≡ true → slice_index_or shapes t Whole ≡ Record t (components_of (slice_index_or shapes t Whole))
    pub outside : (t : ℕ) → nat_lt t m ≡ false → slice_index_or shapes t Whole ≡ Whole
    pub whole : (t : ℕ) → nat_lt t m ≡ true → slice_index_or (shapes_of p.types.items) t Whole ≡ slice_index_or shapes t Whole
    pub by : (t : ℕ) (r : Reference) (here : Here) → routines_of (bare p) calls older t r here
        ≡ destroy_parts (setting_of p) calls (components_of (slice_index_or shapes t Whole)) t 0 r here

  module _ (m : ℕ) (shapes : List Shape) (older : List Work) (follow : Follow m shapes older) where
    pub object_same : (of : Base) (r : Reference) (here : Here) →
        work (bare p) calls (routines_of (bare p) calls older) (object_work p.types.items m of) r here
        ≡ destroy (setting_of p) calls (shape_in shapes of) r here
    object_same base.Integer r here = refl
    object_same base.Long r here = refl
    object_same base.Logical r here = refl
    object_same (base.Derived t) r here = derived (nat_lt t m) refl
      where
        whole_work : Work
        whole_work = And (Lending (And (final_work (finals_in (slice_get p.types.items t))) (Of_elements (Routine t)))) Clear

        inner : Here
        inner = lending (r ∷ []) here

        destroyed : (parts : Parts) → components_of (slice_index_or shapes t Whole) ≡ parts → (b : Bool) →
            work (bare p) calls (routines_of (bare p) calls older) (if b then whole_work else Rest) r here
            ≡ (if b then (finalize (setting_of p) calls (final_of (slice_get p.types.items t) (length (spans r.reach))) r inner >>= λ done.
            each (paths r) (λ q. destroy_parts (setting_of p) calls parts t 0 (moved r q One) inner) >>= λ done. clear r here) else gives tt)
        destroyed parts e false = refl
        destroyed parts e true =
            bind_assoc (work (bare p) calls (routines_of (bare p) calls older) (final_work (finals_in (slice_get p.types.items t))) r inner)
            (λ done. each (paths r) (λ q. routines_of (bare p) calls older t (moved r q One) inner)) (λ done. clear r here)
            ∙ bind_same (final_same _ (slice_get p.types.items t) r inner)
            (λ done. bind_same (each_same (paths r) (λ q. follow.by t (moved r q One) inner
            ∙ ap (λ (parts : Parts). destroy_parts (setting_of p) calls parts t 0 (moved r q One) inner) e)) (λ done. refl))

        derived : (b : Bool) → nat_lt t m ≡ b → work (bare p) calls (routines_of (bare p) calls older)
            (if b && is_destroyed p.types.items (slice_index_or (shapes_of p.types.items) t Whole) then whole_work else Rest) r here
            ≡ destroy (setting_of p) calls (slice_index_or shapes t Whole) r here
        derived true e =
            ap (λ (s : Shape). work (bare p) calls (routines_of (bare p) calls older) (if is_destroyed p.types.items s then whole_work else Rest) r here)
            (follow.whole t e ∙ follow.inside t e)
            ∙ destroyed (components_of (slice_index_or shapes t Whole)) refl
            (is_destroyed p.types.items (Record t (components_of (slice_index_or shapes t Whole))))
            ∙ ap (λ (s : Shape). destroy (setting_of p) calls s r here) (sym (follow.inside t e))
        derived false e = ap (λ (s : Shape). destroy (setting_of p) calls s r here) (sym (follow.outside t e))

    pub freed_same : (of : Base) (r : Reference) (here : Here) →
        work (bare p) calls (routines_of (bare p) calls older) (Of_contents (object_work p.types.items m of)) r here
        ≡ deallocate_by (destroy (setting_of p) calls (shape_in shapes of)) r here
    freed_same of r here = if_same (is_pinned r.path here.lent) refl (then_same (contents r here) (λ q. bind_same (object_same of q here) (λ done. refl)))

    pub finish_same : (k : Kind) (r : Reference) (here : Here) →
        work (bare p) calls (routines_of (bare p) calls older) (finish_work p.types.items m k) r here
        ≡ finish_by (destroy (setting_of p) calls (shape_in shapes k.of)) k r here
    finish_same k r here = by_allocatable k.is_allocatable
      where
        by_allocatable : (b : Bool) → work (bare p) calls (routines_of (bare p) calls older)
            (if b then If_allocated (Of_contents (object_work p.types.items m k.of)) else object_work p.types.items m k.of) r here
            ≡ (if b then release_by (destroy (setting_of p) calls (shape_in shapes k.of)) r here
            else destroy (setting_of p) calls (shape_in shapes k.of) r here)
        by_allocatable true = then_same _ (λ b. if_same b (freed_same k.of r here) refl)
        by_allocatable false = object_same k.of r here

    routine_same : (cs : List Component) (k t : ℕ) (r : Reference) (here : Here) →
        work (bare p) calls (routines_of (bare p) calls older) (routine_of p.types.items m k cs) r here
        ≡ destroy_parts (setting_of p) calls (parts_in shapes cs) t k r here
    routine_same [] k t r here = refl
    routine_same (c ∷ cs) k t r here =
        bind_assoc _ _ _ ∙ then_same _ (λ q. bind_same (finish_same c.declared.kind q here) (λ done. routine_same cs (suc k) t r here))

  -- no type, and no routine
  no_types : Follow 0 [] []
  no_types = record {
    shapes_are = refl;
    routines_are = refl;
    inside = λ t e. absurd (none t e);
    outside = λ t e. refl;
    whole = λ t e. absurd (none t e);
    by = λ t r here. refl;
  }
    where
      none : (t : ℕ) → nat_lt t 0 ≡ true → ⊥
      none t e = let below : t < 0 = ltb-true t 0 e in absurd (omega arith)

  -- one type more
  one_type_more : (m : ℕ) (shapes : List Shape) (older : List Work) → Follow m shapes older → (cs : List Component) (ts : List Derived) →
      shapes_from (shapes ++ Record m (parts_in shapes cs) ∷ []) ts ≡ shapes_of p.types.items →
      Follow (suc m) (shapes ++ Record m (parts_in shapes cs) ∷ []) (routine_of p.types.items m 0 cs ∷ older)
  one_type_more m shapes older follow cs ts all = record {
    shapes_are = one_more shapes newest ∙ ap suc follow.shapes_are;
    routines_are = ap suc follow.routines_are;
    inside = λ t e. inside_by t (nat_eq t m) refl e;
    outside = λ t e. outside_by t (nat_eq t m) refl e;
    whole = λ t e. ap (λ (ss : List Shape). slice_index_or ss t Whole) (sym all) ∙ front_kept ts longer t (within t e);
    by = λ t r here. ap (λ (l : ℕ). if nat_eq t l then first r here else routines_of (bare p) calls older t r here) follow.routines_are
        ∙ by_number t r here (nat_eq t m) refl;
  }
    where
      newest : Shape
      newest = Record m (parts_in shapes cs)

      longer : List Shape
      longer = shapes ++ newest ∷ []

      within : (t : ℕ) → nat_lt t (suc m) ≡ true → t < length longer
      within t e = subst (λ k. t < k) (sym (one_more shapes newest ∙ ap suc follow.shapes_are)) (ltb-true t (suc m) e)

      first : Reference → Here → Ran ⊤
      first r here = work (bare p) calls (routines_of (bare p) calls older) (routine_of p.types.items m 0 cs) r here

      last : (t : ℕ) → nat_eq t m ≡ true → slice_index_or longer t Whole ≡ newest
      last t e = ap (λ (k : ℕ). slice_index_or longer k Whole) (eqb-true t m e ∙ sym follow.shapes_are) ∙ get_or-append_seam shapes newest [] Whole

      before : (t : ℕ) → nat_eq t m ≡ false → slice_index_or longer t Whole ≡ slice_index_or shapes t Whole
      before t e = elsewhere shapes newest Whole t (λ d. eqb-false t m e (d ∙ follow.shapes_are))

      inside_by : (t : ℕ) (b : Bool) → nat_eq t m ≡ b → nat_lt t (suc m) ≡ true → slice_index_or longer t Whole
          ≡ Record t (components_of (slice_index_or longer t Whole))
      inside_by t true e d = last t e ∙ ap (λ (k : ℕ). Record k (parts_in shapes cs)) (sym (eqb-true t m e))
          ∙ ap (λ (s : Shape). Record t (components_of s)) (sym (last t e))
      inside_by t false e d = before t e ∙ follow.inside t (sym (lower_same t m e) ∙ d) ∙ ap (λ (s : Shape). Record t (components_of s)) (sym (before t e))

      outside_by : (t : ℕ) (b : Bool) → nat_eq t m ≡ b → nat_lt t (suc m) ≡ false → slice_index_or longer t Whole ≡ Whole
      outside_by t true e d = absurd (not_last m (ap (λ (k : ℕ). nat_lt k (suc m)) (sym (eqb-true t m e)) ∙ d))
      outside_by t false e d = before t e ∙ follow.outside t (sym (lower_same t m e) ∙ d)

      by_number : (t : ℕ) (r : Reference) (here : Here) (b : Bool) → nat_eq t m ≡ b →
          (if b then first r here else routines_of (bare p) calls older t r here)
          ≡ destroy_parts (setting_of p) calls (components_of (slice_index_or longer t Whole)) t 0 r here
      by_number t r here true e = routine_same m shapes older follow cs 0 t r here
          ∙ ap (λ (s : Shape). destroy_parts (setting_of p) calls (components_of s) t 0 r here) (sym (last t e))
      by_number t r here false e = follow.by t r here ∙ ap (λ (s : Shape). destroy_parts (setting_of p) calls (components_of s) t 0 r here) (sym (before t e))

  types_more : (ts : List Derived) (m : ℕ) (shapes : List Shape) (older : List Work) → Follow m shapes older →
      shapes_from shapes ts ≡ shapes_of p.types.items → Follow (m + length ts) (shapes_from shapes ts) (routines_from p.types.items older ts)
  types_more [] m shapes older follow all = subst (λ k. Follow k shapes older) (nothing_more m) follow
    where
      nothing_more : (m : ℕ) → m ≡ m + 0
      nothing_more m = omega arith
  types_more (x ∷ ts) m shapes older follow all =
      subst (λ k. Follow k (shapes_from shapes (x ∷ ts)) (routines_from p.types.items older (x ∷ ts))) (counted m (length ts))
      (subst (λ k. Follow (suc m + length ts) (shapes_from (shapes ++ Record k (parts_in shapes x.components.items) ∷ []) ts)
      (routines_from p.types.items older (x ∷ ts))) (sym follow.shapes_are)
      (subst (λ k. Follow (suc m + length ts) (shapes_from (shapes ++ Record m (parts_in shapes x.components.items) ∷ []) ts)
      (routines_from p.types.items (routine_of p.types.items k 0 x.components.items ∷ older) ts)) (sym follow.routines_are)
      (types_more ts (suc m) (shapes ++ Record m (parts_in shapes x.components.items) ∷ []) (routine_of p.types.items m 0 x.components.items ∷ older)
      (one_type_more m shapes older follow x.components.items ts (numbered ∙ all)) (numbered ∙ all))))
    where
      counted : (m k : ℕ) → suc m + k ≡ m + suc k
      counted m k = omega arith

      numbered : shapes_from (shapes ++ Record m (parts_in shapes x.components.items) ∷ []) ts ≡ shapes_from shapes (x ∷ ts)
      numbered = ap (λ (k : ℕ). shapes_from (shapes ++ Record k (parts_in shapes x.components.items) ∷ []) ts) (sym follow.shapes_are)

  -- the routines of all types follow their trees
  pub all_follow : Follow (length p.types.items) (shapes_of p.types.items) (routines p.types.items)
  all_follow = subst (λ k. Follow k (shapes_of p.types.items) (routines p.types.items)) (from_zero (length p.types.items))
      (types_more p.types.items 0 [] [] no_types refl)
    where
      from_zero : (k : ℕ) → 0 + k ≡ k
      from_zero k = omega arith
