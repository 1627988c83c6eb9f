-- What is declared of the variables of an activation.
use Rattle.std.proofs.Common.{◌≡◌, ℕ, zero, suc, ◌<◌, ◌≤◌, List, [], ◌∷◌, ◌++◌, length, refl, ap, ◌∙◌, arith, Option, None, Some}
use Rattle.std.specs.Prelude.{slice_get}
use Rattle.f3_program.specs.declared.declarations.Declared.{Declared}
use Rattle.f3_meaning_whole.specs.Exec.{with_result}

got_here : (ds es : List Declared) (i : ℕ) → i < length ds → slice_get (ds ++ es) i ≡ slice_get ds i
got_here [] es i h = absurd (omega arith)
got_here (d ∷ ds) es zero h = refl
got_here (d ∷ ds) es (suc i) h = got_here ds es i (omega arith)

got_last : (ds : List Declared) (e : Declared) → slice_get (ds ++ e ∷ []) (length ds) ≡ Some e
got_last [] e = refl
got_last (d ∷ ds) e = got_last ds e

got_past : (ds : List Declared) (i : ℕ) → length ds ≤ i → slice_get ds i ≡ None
got_past [] i h = refl
got_past (d ∷ ds) zero h = absurd (omega arith)
got_past (d ∷ ds) (suc i) h = got_past ds i (omega arith)

got_behind : (ds : List Declared) (e : Declared) (i : ℕ) → length ds < i → slice_get (ds ++ e ∷ []) i ≡ None
got_behind [] e zero h = absurd (omega arith)
got_behind [] e (suc i) h = refl
got_behind (d ∷ ds) e zero h = absurd (omega arith)
got_behind (d ∷ ds) e (suc i) h = got_behind ds e i (omega arith)

pub declared_here : (ds : List Declared) (r : Option Declared) (i : ℕ) → i < length ds → slice_get (with_result ds r) i ≡ slice_get ds i
declared_here ds None i h = refl
declared_here ds (Some e) i h = got_here ds (e ∷ []) i h

pub declared_result : (ds : List Declared) (e : Declared) (i : ℕ) → i ≡ length ds → slice_get (with_result ds (Some e)) i ≡ Some e
declared_result ds e i h = ap (slice_get (ds ++ e ∷ [])) h ∙ got_last ds e

pub declared_past : (ds : List Declared) (r : Option Declared) (i : ℕ) → length ds < i → slice_get (with_result ds r) i ≡ None
declared_past ds None i h = got_past ds i (omega arith)
declared_past ds (Some e) i h = got_behind ds e i h

pub declared_none : (ds : List Declared) (i : ℕ) → length ds ≤ i → slice_get (with_result ds None) i ≡ None
declared_none ds i h = got_past ds i h
