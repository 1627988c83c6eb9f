-- Each dummy has one argument, and there are no others.
use Rattle.std.proofs.Common.{◌≡◌, ◌≢◌, ◌∙◌, ℕ, zero, suc, ◌+◌, ◌≤◌, ◌<◌, Bool, true, false, List, [], ◌∷◌, length, refl, sym, subst, arith, if◌then◌else◌}
use Rattle.std.specs.Prelude.{nat_eq, Some, slice_get}
use Rattle.std.proofs.lemmas.Bool.{eq-eqb, eqb-true}
use Rattle.f3_program.specs.declared.declarations.Derived.{Derived}
use Rattle.f3_program.specs.declared.declarations.Kind.{Kind}
use Rattle.f3_program.specs.declared.program.Dummy.{Dummy}
use Rattle.f3_program.specs.declared.program.Procedure.{Procedure}
use Rattle.f3_program.specs.declared.program.Program.{Program}
use Rattle.f3_meaning_whole.specs.Act.{Passed, Given, Lent, passed_at}
use Rattle.f3_meaning_whole.specs.Formed.{all, all_given, dummy_takes, fits_dummy, given_for, only, referenced}
use Rattle.f3_meaning_whole.specs.Formed as formed
use Rattle.f3_code.specs.Exec.{is_held}
use Rattle.f3_cell_kinds.proofs.Asked.{and_is, found_is, only_is, some_is, some_same}
use Rattle.f3_cell_kinds.proofs.Reaching.{AllPassed}

pub get_below : {A : Type 0} (xs : List A) (i : ℕ) (y : A) → slice_get xs i ≡ Some y → i < length xs
get_below [] i y e = absurd (cc)
get_below (x ∷ xs) zero y e = omega arith
get_below (x ∷ xs) (suc i) y e = let less = get_below xs i y e in omega (arith, less)

-- ---- counts

-- how many arguments dummies have
abbrev counts : ℕ → List Dummy → List formed.Given → ℕ
counts k [] gs = 0
counts k (d ∷ ds) gs = given_for k gs + counts (suc k) ds gs

counts_none : (k : ℕ) (ds : List Dummy) → counts k ds [] ≡ 0
counts_none k [] = refl
counts_none k (d ∷ ds) = let e = counts_none (suc k) ds in omega (arith, e)

counts_each : (k : ℕ) (ds : List Dummy) (gs : List formed.Given) → all_given k ds gs ≡ true → counts k ds gs ≡ length ds
counts_each k [] gs each = refl
counts_each k (d ∷ ds) gs each =
    let a = and_is (nat_eq (given_for k gs) 1) (all_given (suc k) ds gs) each in
    let one = eqb-true (given_for k gs) 1 a.0 in
    let more = counts_each (suc k) ds gs a.1 in
    omega (arith, one, more)

one_more : (b : Bool) (n m : ℕ) → b ≡ true → (if b then suc n else n) + m ≡ suc (n + m)
one_more true n m e = omega arith
one_more false n m e = absurd (cc)

none_more : (b : Bool) (n : ℕ) → b ≡ false → (if b then suc n else n) ≡ n
none_more true n e = absurd (cc)
none_more false n e = refl

differ : (a b : ℕ) → a ≢ b → nat_eq a b ≡ false
differ a b ne = by (nat_eq a b) refl
  where
    by : (t : Bool) → nat_eq a b ≡ t → t ≡ false
    by true e = absurd (ne (eqb-true a b e))
    by false e = refl

apart : (a b : ℕ) → nat_eq a b ≡ false → a ≢ b
apart a b e same = let is = eq-eqb a b same in absurd (cc)

next : {a b : ℕ} → a ≢ b → b ≤ a → suc b ≤ a
next ne from = omega (arith, from, ne)

counts_before : (g : formed.Given) (gs : List formed.Given) (k : ℕ) (ds : List Dummy) → g.number < k → counts k ds (g ∷ gs) ≡ counts k ds gs
counts_before g gs k [] less = refl
counts_before g gs k (d ∷ ds) less =
    let one = none_more (nat_eq g.number k) (given_for k gs) (differ g.number k (λ e. omega (arith, e, less))) in
    let more = counts_before g gs (suc k) ds (omega (arith, less)) in
    omega (arith, one, more)

counts_more : (g : formed.Given) (gs : List formed.Given) (k : ℕ) (ds : List Dummy) → k ≤ g.number → g.number < k + length ds
    → counts k ds (g ∷ gs) ≡ suc (counts k ds gs)
counts_more g gs k [] from less = absurd (omega (arith, from, less))
counts_more g gs k (d ∷ ds) from less =
    by (λ above. counts_more g gs (suc k) ds above (omega (arith, less))) (nat_eq g.number k) refl
  where
    by : (suc k ≤ g.number → counts (suc k) ds (g ∷ gs) ≡ suc (counts (suc k) ds gs)) → (t : Bool) → nat_eq g.number k ≡ t
        → counts k (d ∷ ds) (g ∷ gs) ≡ suc (counts k (d ∷ ds) gs)
    by further true e =
        let same = eqb-true g.number k e in
        let one = one_more (nat_eq g.number k) (given_for k gs) (counts (suc k) ds (g ∷ gs)) e in
        let more = counts_before g gs (suc k) ds (omega (arith, same)) in
        omega (arith, one, more)
    by further false e =
        let ne : g.number ≢ k = apart g.number k e in
        let one = none_more (nat_eq g.number k) (given_for k gs) e in
        let more = further (next ne from) in
        omega (arith, one, more)

number_below : (ds : List Dummy) (g : formed.Given) → fits_dummy ds g ≡ true → g.number < length ds
number_below ds g fits =
    let x = some_is (slice_get ds g.number) (λ (d : Dummy). dummy_takes d g) fits in
    get_below ds g.number x.0 x.1

counts_all : (ds : List Dummy) (gs : List formed.Given) → all (fits_dummy ds) gs ≡ true → counts 0 ds gs ≡ length gs
counts_all ds [] fits = counts_none 0 ds
counts_all ds (g ∷ gs) fits =
    let a = and_is (fits_dummy ds g) (all (fits_dummy ds) gs) fits in
    let below = number_below ds g a.0 in
    let more = counts_more g gs 0 ds (omega arith) (omega (arith, below)) in
    let rest = counts_all ds gs a.1 in
    omega (arith, more, rest)

-- ---- a call

pub record IsFor (ds : List Dummy) (gs : List formed.Given) : Type 0 where
  pub fits : all (fits_dummy ds) gs ≡ true
  pub each : all_given 0 ds gs ≡ true
  pub many : length gs ≡ length ds

pub arguments_for : (p : Program) (f : ℕ) (gs : List formed.Given) (q : Procedure) (k : Kind) → slice_get p.procedures.items f ≡ Some q
    → referenced p [] [] f gs ≡ Some k → IsFor q.dummies.items gs
arguments_for p f gs q k at_f is =
    let v = found_is (slice_get p.procedures.items f) _ k is in
    let same : v.0 ≡ q = some_same (sym v.1 ∙ at_f) in
    let a = and_is _ _ (only_is _ _ k v.2).0 in
    let fits = subst (λ (z : Procedure). all (fits_dummy z.dummies.items) gs ≡ true) same a.0 in
    let each = subst (λ (z : Procedure). all_given 0 z.dummies.items gs ≡ true) same a.1 in
    record { fits = fits; each = each; many = sym (counts_all q.dummies.items gs fits) ∙ counts_each 0 q.dummies.items gs each }

-- no argument has a number behind the last dummy
pub none_behind : (types : List Derived) (ds : List Dummy) (gs : List formed.Given) (ps : List Passed) (k : ℕ) → all (fits_dummy ds) gs ≡ true → AllPassed types gs ps
    → length ds ≤ k → is_held (passed_at k ps) ≡ false
none_behind types ds [] [] k fits are past = refl
none_behind types ds [] (a ∷ ps) k fits are past = absurd are
none_behind types ds (g ∷ gs) [] k fits are past = absurd are
none_behind types ds (g ∷ gs) (Given i v ∷ ps) k fits are past =
    let a = and_is (fits_dummy ds g) (all (fits_dummy ds) gs) fits in
    let below = number_below ds g a.0 in
    let is = are.0.1 in
    passes (nat_eq i k) (differ i k (λ e. omega (arith, e, is, below, past))) (Given i v) (passed_at k ps) (none_behind types ds gs ps k a.1 are.1 past)
  where
    passes : (b : Bool) → b ≡ false → (x : Passed) (o : _) → is_held o ≡ false → is_held (if b then Some x else o) ≡ false
    passes true e x o h = absurd (cc)
    passes false e x o h = h
none_behind types ds (g ∷ gs) (Lent i r ∷ ps) k fits are past =
    let a = and_is (fits_dummy ds g) (all (fits_dummy ds) gs) fits in
    let below = number_below ds g a.0 in
    let is = are.0.1 in
    passes (nat_eq i k) (differ i k (λ e. omega (arith, e, is, below, past))) (Lent i r) (passed_at k ps) (none_behind types ds gs ps k a.1 are.1 past)
  where
    passes : (b : Bool) → b ≡ false → (x : Passed) (o : _) → is_held o ≡ false → is_held (if b then Some x else o) ≡ false
    passes true e x o h = absurd (cc)
    passes false e x o h = h
