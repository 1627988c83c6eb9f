-- The final subroutines of a lawful program that is well formed can be called with objects of their types.
use Rattle.std.proofs.Common.{◌≡◌, ℕ, zero, suc, ◌+◌, Bool, true, false, ◌&&◌, not, nat_eq, List, [], ◌∷◌, Option, None, Some, refl, sym, ap, ◌∙◌, arith}
use Rattle.std.specs.Prelude.{slice_get, slice_index_or}
use Rattle.f3_program.specs.declared.declarations.Base.TheVariants as base
use Rattle.f3_program.specs.declared.declarations.Component as c
use Rattle.f3_program.specs.declared.declarations.Derived.{Derived}
use Rattle.f3_program.specs.declared.declarations.Final.{Final}
use Rattle.f3_program.specs.declared.declarations.Kind.{Kind}
use Rattle.f3_program.specs.declared.program.Dummy.{Dummy}
use Rattle.f3_program.specs.declared.program.Procedure.{Procedure}
use Rattle.f3_program.specs.declared.program.Program.{Program}
use Rattle.f3_meaning_whole.specs.Permitted.{Each, unknown, dummies_in, names_of, same_type, IsFinalOf, HaveFinals}
use Rattle.f3_meaning_whole.specs.Formed.{all, some, found, only, of_kind, same_truth, Given, fits_dummy, all_given, result_kind, is_declared, is_final, are_types}
use Rattle.f3_cell_kinds.specs.Sense.{final_fits}
use Rattle.f3_lawful_laws.proofs.Facts.{no, nothing, same, both, left, right}
use Rattle.f3_lawful_laws.proofs.Passing.{alike_by}
use Rattle.f3_formed_laws.proofs.Bases.{type_same}
use Rattle.f3_fitted_laws.specs.Laws.{FinalsFit}

-- the only dummy of a final subroutine
record Only (p : Program) (f : Final) : Type 0 where
  procedure : Procedure
  dummy : Dummy
  there : slice_get p.procedures.items f.procedure ≡ Some procedure
  only : procedure.dummies.items ≡ dummy ∷ []
  fits : (nat_eq dummy.kind.rank f.rank && not dummy.kind.is_allocatable) ≡ true

only_of : (p : Program) (f : Final) → is_final p f ≡ true → Only p f
only_of p f h = by_procedure (slice_get p.procedures.items f.procedure) refl
  where
    by_dummies : (q : Procedure) → slice_get p.procedures.items f.procedure ≡ Some q → (ds : List Dummy) → q.dummies.items ≡ ds → Only p f
    by_dummies q e [] d = no (sym h ∙ (let g : is_final p f ≡ false = rw e (rw d refl) in g))
    by_dummies q e (y ∷ []) d =
        let g : is_final p f ≡ (nat_eq y.kind.rank f.rank && not y.kind.is_allocatable) = rw e (rw d refl) in
        record { procedure = q; dummy = y; there = e; only = d; fits = sym g ∙ h }
    by_dummies q e (y ∷ z ∷ ys) d = no (sym h ∙ (let g : is_final p f ≡ false = rw e (rw d refl) in g))

    by_procedure : (o : Option Procedure) → slice_get p.procedures.items f.procedure ≡ o → Only p f
    by_procedure None e = no (sym h ∙ (let g : is_final p f ≡ false = rw e refl in g))
    by_procedure (Some q) e = by_dummies q e q.dummies.items refl

unallocated : (b : Bool) → not b ≡ true → same_truth b false ≡ true
unallocated true h = no (sym h)
unallocated false h = refl

some_only : (b : Bool) (k : Kind) → b ≡ true → some (only b k) (λ k. true) ≡ true
some_only true k h = refl
some_only false k h = no (sym h)

-- an object of the type, of the rank
abbrev given_to : (k : ℕ) → Final → List Given
given_to k f = record { number = 0; kind = of_kind (base.Derived k) f.rank; is_variable = true } ∷ []

final_is : (p : Program) (k : ℕ) (f : Final) → is_final p f ≡ true → IsFinalOf p k f → final_fits p (base.Derived k) f ≡ true
final_is p k f h typed =
    let o : Only p f = only_of p f h in
    let of : same_type (base.Derived k) o.dummy.kind.of ≡ true =
    sym (ap (λ q. same_type (base.Derived k) (slice_index_or (names_of (dummies_in q)) 0 unknown).of) o.there
    ∙ ap (λ ds. same_type (base.Derived k) (slice_index_or (names_of ds) 0 unknown).of) o.only) ∙ typed in
    let there : same_type o.dummy.kind.of (base.Derived k) ≡ true =
    alike_by o.dummy.kind.of (base.Derived k) (sym (type_same (base.Derived k) o.dummy.kind.of of)) in
    let takes : (same_type o.dummy.kind.of (base.Derived k) && (nat_eq o.dummy.kind.rank f.rank && same_truth o.dummy.kind.is_allocatable false)) ≡ true =
    both _ _ there
    (both _ _ (left (nat_eq o.dummy.kind.rank f.rank) _ o.fits) (unallocated o.dummy.kind.is_allocatable (right (nat_eq o.dummy.kind.rank f.rank) _ o.fits))) in
    ap (λ z. some (found z (λ (q : Procedure). only (all (fits_dummy q.dummies.items) (given_to k f) && all_given 0 q.dummies.items (given_to k f)) (result_kind q.result))) (λ k. true)) o.there
    ∙ ap (λ ds. some (only (all (fits_dummy ds) (given_to k f) && all_given 0 ds (given_to k f)) (result_kind o.procedure.result)) (λ k. true)) o.only
    ∙ some_only _ (result_kind o.procedure.result) (both _ _ (both _ _ takes refl) refl)

finals_are : (p : Program) (k : ℕ) (fs : List Final) → all (is_final p) fs ≡ true → Each (IsFinalOf p k) fs → all (final_fits p (base.Derived k)) fs ≡ true
finals_are p k [] h t = refl
finals_are p k (f ∷ fs) h t =
    both (final_fits p (base.Derived k) f) _ (final_is p k f (left (is_final p f) _ h) t.0) (finals_are p k fs (right (is_final p f) _ h) t.1)

types_are : (p : Program) (k : ℕ) (ys : List Derived) → are_types p k ys ≡ true → HaveFinals p k ys → (i : ℕ) (y : Derived) → slice_get ys i ≡ Some y
    → all (final_fits p (base.Derived (k + i))) y.finals.items ≡ true
types_are p k [] h t i y at = nothing at
types_are p k (z ∷ ys) h t zero y at =
    let own = left (all (is_final p) z.finals.items) _ (right (all (λ (c : c.Component). is_declared k c.declared) z.components.items) _ h) in
    let here : all (final_fits p (base.Derived k)) z.finals.items ≡ true = finals_are p k z.finals.items own t.0 in
    ap (λ (x : Derived). all (final_fits p (base.Derived (k + 0))) x.finals.items) (sym (same at))
    ∙ ap (λ n. all (final_fits p (base.Derived n)) z.finals.items) (let e : k + 0 ≡ k = omega arith in e) ∙ here
types_are p k (z ∷ ys) h t (suc i) y at =
    ap (λ n. all (final_fits p (base.Derived n)) y.finals.items) (let e : k + suc i ≡ suc k + i = omega arith in e)
    ∙ types_are p (suc k) ys
    (right (all (is_final p) z.finals.items) _ (right (all (λ (c : c.Component). is_declared k c.declared) z.components.items) _ h)) t.1 i y at

pub finals : FinalsFit
finals p formed lawful k y at =
    ap (λ n. all (final_fits p (base.Derived n)) y.finals.items) (let e : k ≡ 0 + k = omega arith in e)
    ∙ types_are p 0 p.types.items (left (are_types p 0 p.types.items) _ formed) lawful.in_types k y at
