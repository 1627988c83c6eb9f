-- What the language does to objects fits their kinds.
use Rattle.std.proofs.Common.{◌≡◌, ◌∙◌, sym, refl, ap, ℕ, zero, suc, ◌+◌, Bool, true, false, ◌&&◌, ◌||◌, not, List, [], ◌∷◌, length, Option, Some, None, subst, arith, if◌then◌else◌}
use Rattle.std.specs.Prelude.{nat_lt, nat_eq, slice_get, slice_index_or}
use Rattle.std.proofs.lemmas.Bool.{eqb-true}
use Rattle.std.proofs.Math.Dec.{eqb-suc-zero}
use Rattle.f3_program.specs.declared.declarations.Base.{Base}
use Rattle.f3_program.specs.declared.declarations.Base.TheVariants as base
use Rattle.f3_program.specs.declared.declarations.Component.{Component}
use Rattle.f3_program.specs.declared.declarations.Derived.{Derived}
use Rattle.f3_program.specs.declared.declarations.Final.{Final}
use Rattle.f3_program.specs.declared.declarations.Kind.{Kind}
use Rattle.f3_program.specs.declared.program.Intent.{Intent}
use Rattle.f3_program.specs.declared.program.Intent.TheVariants as intent
use Rattle.f3_program.specs.declared.program.Program.{Program}
use Rattle.f3_meaning_whole.specs.Act.{component_in, component_of}
use Rattle.f3_meaning_whole.specs.Shape.{Whole, shapes_of}
use Rattle.f3_meaning_whole.specs.Destroy.{is_destroyed}
use Rattle.f3_meaning_whole.specs.Formed.{all, of_kind, referenced, takes}
use Rattle.f3_meaning_whole.specs.Run.{setting_of}
use Rattle.f3_code.specs.Work as w
use Rattle.f3_code.specs.Core as c
use Rattle.f3_code.specs.Lower.{finals_in, final_work, object_work, finish_work, routine_of, routines_from, routines, is_derived, discard_work, destroy_work, end_work, initial, overwriting, filling, assigning, out_work}
use Rattle.f3_cell_kinds.specs.Effect.{held_kind}
use Rattle.f3_cell_kinds.specs.Values.{kind_of_part, component_at}
use Rattle.f3_cell_kinds.specs.Sense.{final_fits}
use Rattle.f3_cell_kinds.proofs.Asked.{and_is, or_is, some_is, kind_same}
use Rattle.f3_cell_kinds.proofs.OfWork.{passed, WorkFits}
use Rattle.f3_cell_kinds.proofs.OfParts.{TransferFits}

module _ (p : Program) where
  -- the final subroutines of each type can be called
  abbrev pub FinalsFit : Type 0
  FinalsFit = (t : ℕ) (y : Derived) → slice_get p.types.items t ≡ Some y → all (final_fits p (base.Derived t)) y.finals.items ≡ true

  finals_fit : (t : ℕ) (k : Kind) (fs : List Final) → k.of ≡ base.Derived t → k.is_allocatable ≡ false → all (final_fits p (base.Derived t)) fs ≡ true →
      WorkFits p k (final_work fs)
  finals_fit t k [] of held fits = tt
  finals_fit t k (f ∷ fs) of held fits =
      let a = and_is _ _ fits in (
        held,
        λ same.
            let v = some_is _ _ a.0 in
            let is = kind_same k (base.Derived t) f.rank false of (sym (eqb-true f.rank k.rank same)) held in
            (v.0, subst (λ (y : Kind). referenced p [] [] f.procedure (passed y ∷ []) ≡ Some v.0) (sym is) v.1),
        λ other. finals_fit t k fs of held a.1,
      )

  finals_of : FinalsFit → (t : ℕ) (o : Option Derived) → slice_get p.types.items t ≡ o → all (final_fits p (base.Derived t)) (finals_in o) ≡ true
  finals_of fits t None e = refl
  finals_of fits t (Some y) e = fits t y e

  derived_fits : FinalsFit → (b : Bool) (t : ℕ) (k : Kind) → k.of ≡ base.Derived t → k.is_allocatable ≡ false →
      WorkFits p k (if b then w.And (w.Lending (w.And (final_work (finals_in (slice_get p.types.items t))) (w.Of_elements (w.Routine t)))) w.Clear else w.Rest)
  derived_fits fits true t k of held =
      ((finals_fit t k _ of held (finals_of fits t _ refl), (held, ap (λ (b : Base). of_kind b 0) of)), tt)
  derived_fits fits false t k of held = tt

  object_fits : FinalsFit → (m : ℕ) (k : Kind) (of : Base) → k.of ≡ of → k.is_allocatable ≡ false → WorkFits p k (object_work p.types.items m of)
  object_fits fits m k base.Integer e held = tt
  object_fits fits m k base.Long e held = tt
  object_fits fits m k base.Logical e held = tt
  object_fits fits m k (base.Derived t) e held = derived_fits fits (nat_lt t m && is_destroyed p.types.items (slice_index_or (shapes_of p.types.items) t Whole)) t k e held

  finish_fits_by : FinalsFit → (m : ℕ) (k : Kind) (b : Bool) → k.is_allocatable ≡ b →
      WorkFits p k (if b then w.If_allocated (w.Of_contents (object_work p.types.items m k.of)) else object_work p.types.items m k.of)
  finish_fits_by fits m k true e = (e, (e, object_fits fits m (held_kind k) k.of refl refl))
  finish_fits_by fits m k false e = object_fits fits m k k.of refl e

  pub finish_fits : FinalsFit → (m : ℕ) (k : Kind) → WorkFits p k (finish_work p.types.items m k)
  finish_fits fits m k = finish_fits_by fits m k k.is_allocatable refl

  pub end_fits : FinalsFit → (k : Kind) → WorkFits p k (end_work (setting_of p) k)
  end_fits fits k = finish_fits fits (length p.types.items) k

  pub destroy_fits : FinalsFit → (k : Kind) → k.is_allocatable ≡ false → WorkFits p k (destroy_work (setting_of p) k.of)
  destroy_fits fits k held = object_fits fits (length p.types.items) k k.of refl held

  pub contents_fit : FinalsFit → (k : Kind) → k.is_allocatable ≡ true → WorkFits p k (w.Of_contents (destroy_work (setting_of p) k.of))
  contents_fit fits k held = (held, destroy_fits fits (held_kind k) refl)

  discard_fits_by : (b : Bool) (k : Kind) → WorkFits p k (if b then w.Discard else w.Rest)
  discard_fits_by true k = tt
  discard_fits_by false k = tt

  pub discard_fits : (j k : Kind) → WorkFits p k (discard_work j)
  discard_fits j k = discard_fits_by (is_derived j.of || not (nat_eq j.rank 0)) k

  set_fits : (b : Bool) (k : Kind) → k.is_allocatable ≡ b → WorkFits p k (if b then w.Rest else w.Set (initial (setting_of p) k.of))
  set_fits true k e = tt
  set_fits false k e = (e, refl)

  pub out_fits : FinalsFit → (d : Intent) (k : Kind) → WorkFits p k (out_work (setting_of p) d k)
  out_fits fits intent.In k = tt
  out_fits fits intent.Out k = (end_fits fits k, set_fits k.is_allocatable k refl)
  out_fits fits intent.InOut k = tt

  -- ---- assignments

  same_rank : (k j : Kind) → takes k j ≡ true → nat_lt 0 j.rank ≡ true → j.rank ≡ k.rank
  same_rank k j e more =
      let a = and_is _ _ e in let b = and_is _ _ a.1 in
      eqb-true j.rank k.rank (or_is _ _ b.1 (no_rank j.rank more))
    where
      no_rank : (n : ℕ) → nat_lt 0 n ≡ true → nat_eq n 0 ≡ false
      no_rank zero e = cc
      no_rank (suc n) e = eqb-suc-zero n

  filling_fits : (k j : Kind) → k.is_allocatable ≡ true → takes k j ≡ true → j.rank ≡ k.rank → TransferFits p k j (filling (setting_of p) k)
  filling_fits k j held fit same = (held, fit, refl, same, refl, (held, (refl, refl, fit)))

  overwriting_fits : FinalsFit → (k j : Kind) → k.is_allocatable ≡ false → takes k j ≡ true → TransferFits p k j (overwriting (setting_of p) k)
  overwriting_fits fits k j held fit = (destroy_fits fits k held, (refl, held, fit))

  assigning_fits_by : FinalsFit → (k j : Kind) (b : Bool) → k.is_allocatable ≡ b → takes k j ≡ true → TransferFits p k j (if b
      then c.By_state (c.In_contents (overwriting (setting_of p) k)) (c.Behind (w.Of_contents (destroy_work (setting_of p) k.of)) (filling (setting_of p) k))
      (c.Of_rank k.rank (filling (setting_of p) k))
      else c.Conforming (overwriting (setting_of p) k))
  assigning_fits_by fits k j true held fit = (
    held,
    fit,
    (held, overwriting_fits fits (held_kind k) j refl fit),
    (λ more. (contents_fit fits k held, filling_fits k j held fit (same_rank k j fit more))),
    (fit, λ same. filling_fits k j held fit (sym (eqb-true k.rank j.rank same))),
  )
  assigning_fits_by fits k j false held fit = (fit, overwriting_fits fits k j held fit)

  pub assigning_fits : FinalsFit → (k j : Kind) → takes k j ≡ true → TransferFits p k j (assigning (setting_of p) k)
  assigning_fits fits k j fit = assigning_fits_by fits k j k.is_allocatable refl fit

  -- ---- routines

  -- from a number on these are the components of a type
  abbrev ComponentsFrom : Base → ℕ → List Component → Type 0
  ComponentsFrom of n [] = Unit {0}
  ComponentsFrom of n (x ∷ xs) = (component_of p.types.items of n ≡ Some x) × ComponentsFrom of (suc n) xs

  routine_fits : FinalsFit → (m t n : ℕ) (xs : List Component) → ComponentsFrom (base.Derived t) n xs →
      WorkFits p (of_kind (base.Derived t) 0) (routine_of p.types.items m n xs)
  routine_fits fits m t n [] are = tt
  routine_fits fits m t n (x ∷ xs) are =
      let same : component_at p (of_kind (base.Derived t) 0) n ≡ x.declared.kind = ap kind_of_part are.0 in (
        (refl, x, are.0, subst (λ (y : Kind). WorkFits p y (finish_work p.types.items m x.declared.kind)) (sym same) (finish_fits fits m x.declared.kind)),
        routine_fits fits m t (suc n) xs are.1,
      )

  -- each routine fits an object of its type
  abbrev pub RoutinesFit : List w.Work → Type 0
  RoutinesFit [] = Unit {0}
  RoutinesFit (x ∷ xs) = WorkFits p (of_kind (base.Derived (length xs)) 0) x × RoutinesFit xs

  components_from : (of : Base) (n : ℕ) (xs : List Component) → ((k : ℕ) → slice_get xs k ≡ component_of p.types.items of (n + k)) → ComponentsFrom of n xs
  components_from of n [] f = tt
  components_from of n (x ∷ xs) f =
      let here : n ≡ n + 0 = omega arith in (
        ap (component_of p.types.items of) here ∙ sym (f 0),
        components_from of (suc n) xs (λ k. let there : n + suc k ≡ suc n + k = omega arith in f (suc k) ∙ ap (component_of p.types.items of) there),
      )

  routines_all : FinalsFit → (older : List w.Work) (ts : List Derived) → RoutinesFit older →
      ((k : ℕ) → slice_get ts k ≡ slice_get p.types.items (length older + k)) → RoutinesFit (routines_from p.types.items older ts)
  routines_all fits older [] are f = are
  routines_all fits older (t ∷ ts) are f =
      let n = length older in
      let here : n + 0 ≡ n = omega arith in
      let found : Some t ≡ slice_get p.types.items n = f 0 ∙ ap (slice_get p.types.items) here in
      let parts = components_from (base.Derived n) 0 t.components.items (λ k.
      let same : k ≡ 0 + k = omega arith in
      ap (λ o. component_in o k) found ∙ ap (component_of p.types.items (base.Derived n)) same) in
      routines_all fits (routine_of p.types.items n 0 t.components.items ∷ older) ts (routine_fits fits n n 0 t.components.items parts, are)
      (λ k. let there : n + suc k ≡ suc n + k = omega arith in f (suc k) ∙ ap (slice_get p.types.items) there)

  pub routines_fit : FinalsFit → RoutinesFit (routines p.types.items)
  routines_fit fits = routines_all fits [] p.types.items tt (λ k. let same : k ≡ 0 + k = omega arith in ap (slice_get p.types.items) same)
