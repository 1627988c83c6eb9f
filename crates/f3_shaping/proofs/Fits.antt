-- Elements one by one.
use Rattle.std.proofs.Common.{◌≡◌, ℕ, zero, suc, ◌<◌, List, [], ◌∷◌, length, drop, refl, sym, ap, ◌∙◌, arith, Bool, true, false, get_or, Box, Global}
use Rattle.f3_program.specs.declared.declarations.Base.{Base}
use Rattle.f3_meaning_whole.specs.Value as m
use Rattle.f3_meaning_whole.specs.Value.{joined}
use Rattle.f3_meaning_whole.specs.Arithmetic.{all_fit, value_fits}
use Rattle.f3_data.specs.declared.value.Elements.{Elements}
use Rattle.f3_data.specs.declared.value.Value as v
use Rattle.f3_data.proofs.Rows.{array_is}
use Rattle.f3_data.specs.Values.{value_of, values_of}
use Rattle.f3_shaping.specs.Results.{element_fits}

fit_more : (t : Base) (x : m.Value) (vs : m.Values) → element_fits t x ≡ true → all_fit t (m.more x vs) ≡ all_fit t vs
fit_more t (m.Number z) vs h = rw h refl
fit_more t (m.Truth b) vs h = refl
fit_more t (m.Composite xs) vs h = refl
fit_more t (m.Array ss xs) vs h = refl
fit_more t m.Unallocated vs h = refl
fit_more t (m.Allocated x) vs h = refl

unfit_one : (t : Base) (x : m.Value) (vs : m.Values) → element_fits t x ≡ false → all_fit t (m.more x vs) ≡ false
unfit_one t (m.Number z) vs h = rw h refl
unfit_one t (m.Truth b) vs h = cc
unfit_one t (m.Composite xs) vs h = cc
unfit_one t (m.Array ss xs) vs h = cc
unfit_one t m.Unallocated vs h = cc
unfit_one t (m.Allocated x) vs h = cc

pub fit_next : (t : Base) (xs : List v.Value) (i : ℕ) (x : v.Value) → i < length xs → x ≡ get_or xs i x → element_fits t (value_of x) ≡ true →
    all_fit t (joined (values_of (drop i xs))) ≡ all_fit t (joined (values_of (drop (suc i) xs)))
fit_next t [] i x h e f = absurd (omega arith)
fit_next t (y ∷ xs) zero x h e f = fit_more t (value_of y) _ (ap (λ u. element_fits t (value_of u)) (sym e) ∙ f)
fit_next t (y ∷ xs) (suc i) x h e f = fit_next t xs i x (omega arith) e f

pub unfit_at : (t : Base) (xs : List v.Value) (i : ℕ) (x : v.Value) → i < length xs → x ≡ get_or xs i x → element_fits t (value_of x) ≡ false →
    all_fit t (joined (values_of (drop i xs))) ≡ false
unfit_at t [] i x h e f = absurd (omega arith)
unfit_at t (y ∷ xs) zero x h e f = unfit_one t (value_of y) _ (ap (λ u. element_fits t (value_of u)) (sym e) ∙ f)
unfit_at t (y ∷ xs) (suc i) x h e f = unfit_at t xs i x (omega arith) e f

pub array_fits : (t : Base) (x : v.Value) (b : Box Elements Global) (ys : List v.Value) (fits : Bool) → x ≡ v.Array b →
    ys ≡ b.value.values.items → fits ≡ all_fit t (joined (values_of ys)) → fits ≡ value_fits t (value_of x)
array_fits t x b ys fits e f h = h ∙ ap (λ us. all_fit t (joined (values_of us))) f ∙ sym (ap (value_fits t) (ap value_of e ∙ array_is b))
