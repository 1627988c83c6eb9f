-- One value for each element.
use Rattle.std.proofs.Common.{◌≡◌, ℕ, zero, suc, List, [], ◌∷◌, refl, ap, ◌∙◌, false, Box, Global}
use Rattle.std.specs.Prelude.{replicate}
use Rattle.f3_meaning_whole.specs.Value as m
use Rattle.f3_meaning_whole.specs.Value.{joined, listed, spread}
use Rattle.f3_data.specs.declared.value.Elements.{Elements}
use Rattle.f3_data.specs.declared.value.Value as v
use Rattle.f3_data.specs.Values.{value_of, values_of}
use Rattle.f3_data.proofs.Rows.{array_is}
use Rattle.f3_shaping.specs.Results.{is_array}

pub listed_joined : (vs : List m.Value) → listed (joined vs) ≡ vs
listed_joined [] = refl
listed_joined (v ∷ vs) = ap (λ us. v ∷ us) (listed_joined vs)

pub spread_elements : (b : Box Elements Global) (n : ℕ) → spread n (value_of (v.Array b)) ≡ values_of b.value.values.items
spread_elements b zero = ap (spread zero) (array_is b) ∙ listed_joined (values_of b.value.values.items)
spread_elements b (suc n) = ap (spread (suc n)) (array_is b) ∙ listed_joined (values_of b.value.values.items)

pub spread_single : (n : ℕ) (x : m.Value) → is_array x ≡ false → spread n x ≡ replicate n x
spread_single n (m.Array ss vs) h = cc
spread_single zero (m.Number z) h = refl
spread_single (suc n) (m.Number z) h = ap (λ us. m.Number z ∷ us) (spread_single n (m.Number z) h)
spread_single zero (m.Truth b) h = refl
spread_single (suc n) (m.Truth b) h = ap (λ us. m.Truth b ∷ us) (spread_single n (m.Truth b) h)
spread_single zero (m.Composite vs) h = refl
spread_single (suc n) (m.Composite vs) h = ap (λ us. m.Composite vs ∷ us) (spread_single n (m.Composite vs) h)
spread_single zero m.Unallocated h = refl
spread_single (suc n) m.Unallocated h = ap (λ us. m.Unallocated ∷ us) (spread_single n m.Unallocated h)
spread_single zero (m.Allocated x) h = refl
spread_single (suc n) (m.Allocated x) h = ap (λ us. m.Allocated x ∷ us) (spread_single n (m.Allocated x) h)
