-- The elements of a section are those that are selected of the whole.
use Rattle.std.proofs.Common.{◌≡◌, ◌∙◌, sym, ap, subst, refl, inl, inr, ⊎_elim, ℕ, zero, suc, ◌<◌, ◌^◌, List, [], ◌∷◌, ◌++◌, arith}
use Rattle.std.specs.Prelude.{◌⊎◌, ℤ, pos, ◌+ℤ◌, ◌-ℤ◌, ◌*ℤ◌, ◌≤ℤ◌, ◌<ℤ◌, All, map, FitsSigned}
use Rattle.std.specs.List.{AllZip, flat_map}
use Rattle.std.specs.Int.{int_wrap, w64}
use Rattle.std.proofs.Math.IntN.{*ℤ_comm}
use Rattle.std.proofs.lemmas.Int.{ints, int_wrap_fits}
use Rattle.std.proofs.lemmas.List.Elements.{All-head, All-tail, All-nil, All-cons}
use Rattle.std.proofs.lemmas.List.Folds.{flat_map-map}
use Rattle.f3_desc.specs.declared.descriptor.Descriptor.{Descriptor}
use Rattle.f3_desc.specs.declared.descriptor.Dim.{Dim}
use Rattle.f3_desc.specs.declared.descriptor.Triplet.{Triplet}
use Rattle.f3_desc.specs.declared.descriptor.Triplet.TheVariants.{At, Range}
use Rattle.f3_desc.specs.Inner.Congruent.{IsCongruent}
use Rattle.f3_desc.specs.Descriptor.{HasElement, HasPlaces, IsWithin, progression, choices, subscripts, place, places}
use Rattle.f3_desc.specs.Section.{IsSection, SelectsWithin, count, selected, extents}
use Rattle.f3_desc.specs.Inner.Cuts.{cut_of, first_of}
use Rattle.f3_desc.proofs.Congruences.{mul-add, congruent-exact}
use Rattle.f3_desc.proofs.Members.{In, in-All, in-map, from-map, in-choices, from-choices, in-subscripts}
use Rattle.f3_desc.proofs.Spots.{from, spots, spots-cons, spaced, moved, same-progression}

-- the dimensions that the triplets leave
abbrev pub cuts_of : List Dim → List Triplet → List Dim
cuts_of (d ∷ ds) (t ∷ ts) = cut_of d t ++ cuts_of ds ts
cuts_of _ _ = []

-- each triplet selects of its dimension within its bounds
abbrev pub Within : List Dim → List Triplet → Type 0
Within ds ts = AllZip (λ d t. All (IsWithin d) (selected t)) ds ts

-- each triplet selects something
abbrev Begins : List Triplet → Type 0
Begins [] = Unit {0}
Begins (t ∷ ts) = ((xs : List ℤ) × (selected t ≡ first_of t ∷ xs)) × Begins ts

-- each place from at on is one of a block
abbrev InRange : ℤ → List Dim → Type 0
InRange at ds = (ss : List ℤ) → AllZip IsWithin ds ss → (pos 0 ≤ℤ from at ds ss) × (from at ds ss <ℤ pos (2 ^ 63))

firsts-within : (ds : List Dim) (ts : List Triplet) → Within ds ts → Begins ts → AllZip IsWithin ds (map first_of ts)
firsts-within [] [] h b = tt
firsts-within [] (t ∷ ts) h b = absurd h
firsts-within (d ∷ ds) [] h b = absurd h
firsts-within (d ∷ ds) (t ∷ ts) h b =
    (All-head (IsWithin d) (first_of t) b.0.0 (subst (λ (xs : List ℤ). All (IsWithin d) xs) b.0.1 h.0), firsts-within ds ts h.1 b.1)

-- one subscript of the first dimension
fixed : (at : ℤ) (d : Dim) (ds : List Dim) (s : ℤ) → IsWithin d s → InRange at (d ∷ ds) → InRange (at +ℤ ((s -ℤ d.lower) *ℤ d.stride)) ds
fixed at d ds s h r ss w =
    let range = r (s ∷ ss) (h, w) in
    let is : from at (d ∷ ds) (s ∷ ss) ≡ from (at +ℤ ((s -ℤ d.lower) *ℤ d.stride)) ds ss = omega (arith, ints) in
    subst (λ (z : ℤ). (pos 0 ≤ℤ z) × (z <ℤ pos (2 ^ 63))) is range

single : (at : ℤ) (d : Dim) (ds : List Dim) (s : ℤ) (yss : List (List ℤ)) → map (from at (d ∷ ds)) (flat_map (λ ss. map (λ x. x ∷ ss) (s ∷ [])) yss) ≡ map (from (at +ℤ ((s -ℤ d.lower) *ℤ d.stride)) ds) yss
single at d ds s [] = refl
single at d ds s (ss ∷ yss) =
    let first : from at (d ∷ ds) (s ∷ ss) ≡ from (at +ℤ ((s -ℤ d.lower) *ℤ d.stride)) ds ss = omega (arith, ints) in
    λ i. first i ∷ single at d ds s yss i

-- a stride between two elements fits
stride-fits : (at : ℤ) (d : Dim) (ds : List Dim) (f k : ℤ) (ss : List ℤ) → InRange at (d ∷ ds) → IsWithin d f → IsWithin d (f +ℤ k) → AllZip IsWithin ds ss → FitsSigned w64 (k *ℤ d.stride)
stride-fits at d ds f k ss r h l w =
    let here = r (f ∷ ss) (h, w) in
    let there = r ((f +ℤ k) ∷ ss) (l, w) in
    let apart : (f +ℤ k) -ℤ d.lower ≡ (f -ℤ d.lower) +ℤ k = omega (arith, ints) in
    let more : ((f +ℤ k) -ℤ d.lower) *ℤ d.stride ≡ ((f -ℤ d.lower) *ℤ d.stride) +ℤ (k *ℤ d.stride) = ap (λ z. z *ℤ d.stride) apart ∙ mul-add (f -ℤ d.lower) k d.stride in
    let low = here.0 in let high = here.1 in let low' = there.0 in let high' = there.1 in
    omega (arith, ints)

stride-same : (at : ℤ) (d : Dim) (ds : List Dim) (f k : ℤ) (n : ℕ) (ss : List ℤ) → InRange at (d ∷ ds) → All (IsWithin d) (progression f k n) → AllZip IsWithin ds ss → (n ≡ 0) ⊎ ((n ≡ 1) ⊎ (int_wrap w64 (d.stride *ℤ k) ≡ k *ℤ d.stride))
stride-same at d ds f k zero ss r h w = inl refl
stride-same at d ds f k (suc zero) ss r h w = inr (inl refl)
stride-same at d ds f k (suc (suc n)) ss r h w =
    let first = All-head (IsWithin d) f (progression (f +ℤ k) k (suc n)) h in
    let rest = All-tail (IsWithin d) f (progression (f +ℤ k) k (suc n)) h in
    let second = All-head (IsWithin d) (f +ℤ k) (progression ((f +ℤ k) +ℤ k) k n) rest in
    let fits = stride-fits at d ds f k ss r first second w in
    inr (inr (ap (int_wrap w64) (*ℤ_comm d.stride k) ∙ int_wrap_fits w64 (k *ℤ d.stride) fits))

-- the places of a range of the first dimension
range-spots : (at p0 : ℤ) (d : Dim) (ds cs : List Dim) (f k w : ℤ) (n : ℕ) (xss yss : List (List ℤ)) → ((n ≡ 0) ⊎ ((n ≡ 1) ⊎ (w ≡ k *ℤ d.stride)))
    → spots p0 cs yss ≡ spots (at +ℤ ((f -ℤ d.lower) *ℤ d.stride)) ds xss
    → spots p0 ((record { lower = pos 1; extent = n; stride = w }) ∷ cs) (progression (pos 1) (pos 1) n ∷ yss) ≡ spots at (d ∷ ds) (progression f k n ∷ xss)
range-spots at p0 d ds cs f k w n xss yss same ih =
    let left : Dim = record { lower = pos 1; extent = n; stride = w } in
    let x : ℤ = (f -ℤ d.lower) *ℤ d.stride in
    let first : (p : ℤ) → map (λ s. ((s -ℤ pos 1) *ℤ w) +ℤ p) (progression (pos 1) (pos 1) n) ≡ progression p w n = λ p.
    spaced (pos 1) w p (pos 1) (pos 1) n ∙ (let a : ((pos 1 -ℤ pos 1) *ℤ w) +ℤ p ≡ p = omega (arith, ints) in let b : pos 1 *ℤ w ≡ w = omega (arith, ints) in λ i. progression (a i) (b i) n) in
    let second : (p : ℤ) → map (λ s. ((s -ℤ d.lower) *ℤ d.stride) +ℤ p) (progression f k n) ≡ progression (x +ℤ p) (k *ℤ d.stride) n = λ p. spaced d.lower d.stride p f k n in
    let bridge : (p : ℤ) → progression p w n ≡ progression p (k *ℤ d.stride) n = λ p. ⊎_elim (λ e. ap (progression p w) e ∙ sym (ap (progression p (k *ℤ d.stride)) e)) (λ e. same-progression p w (k *ℤ d.stride) n e) same in
    spots-cons p0 left cs (progression (pos 1) (pos 1) n) (choices yss)
    ∙ (λ i. flat_map (λ p. (first p ∙ bridge p) i) (ih i))
    ∙ ap (flat_map (λ p. progression p (k *ℤ d.stride) n)) (moved at x ds (choices xss))
    ∙ flat_map-map (λ p. progression p (k *ℤ d.stride) n) (λ p. x +ℤ p) (spots at ds xss)
    ∙ (λ i. flat_map (λ p. sym (second p) i) (spots at ds xss))
    ∙ sym (spots-cons at d ds (progression f k n) (choices xss))

regroup : (at : ℤ) (d : Dim) (ds : List Dim) (s : ℤ) (ss : List ℤ) → from at (d ∷ ds) (s ∷ ss) ≡ from (at +ℤ ((s -ℤ d.lower) *ℤ d.stride)) ds ss
regroup at d ds s ss = omega (arith, ints)

-- where each triplet selects something
cut-spots : (at : ℤ) (ds : List Dim) (ts : List Triplet) → InRange at ds → Within ds ts → Begins ts → spots (from at ds (map first_of ts)) (cuts_of ds ts) (map subscripts (cuts_of ds ts)) ≡ spots at ds (map selected ts)
cut-spots at [] [] r h b = let e : (at +ℤ pos 0) +ℤ pos 0 ≡ at +ℤ pos 0 = omega (arith, ints) in ap (λ z. z ∷ []) e
cut-spots at [] (t ∷ ts) r h b = absurd h
cut-spots at (d ∷ ds) [] r h b = absurd h
cut-spots at (d ∷ ds) (At s ∷ ts) r h b =
    let here : IsWithin d s = All-head (IsWithin d) s [] h.0 in
    let ih = cut-spots (at +ℤ ((s -ℤ d.lower) *ℤ d.stride)) ds ts (fixed at d ds s here r) h.1 b.1 in
    ap (λ z. spots z (cuts_of ds ts) (map subscripts (cuts_of ds ts))) (regroup at d ds s (map first_of ts)) ∙ ih ∙ sym (single at d ds s (choices (map selected ts)))
cut-spots at (d ∷ ds) (Range f t k ∷ ts) r h b =
    let here : IsWithin d f = All-head (IsWithin d) f b.0.0 (subst (λ (xs : List ℤ). All (IsWithin d) xs) b.0.1 h.0) in
    let rest = firsts-within ds ts h.1 b.1 in
    let ih = cut-spots (at +ℤ ((f -ℤ d.lower) *ℤ d.stride)) ds ts (fixed at d ds f here r) h.1 b.1 in
    let same = stride-same at d ds f k (count f t k) (map first_of ts) r h.0 rest in
    range-spots at (from at (d ∷ ds) (f ∷ map first_of ts)) d ds (cuts_of ds ts) f k (int_wrap w64 (d.stride *ℤ k)) (count f t k) (map selected ts) (map subscripts (cuts_of ds ts)) same
    (ap (λ z. spots z (cuts_of ds ts) (map subscripts (cuts_of ds ts))) (regroup at d ds f (map first_of ts)) ∙ ih)

nothing : (xss : List (List ℤ)) → flat_map (λ (ss : List ℤ). map (λ (s : ℤ). s ∷ ss) []) xss ≡ []
nothing [] = refl
nothing (ss ∷ xss) = nothing xss

-- with an empty list nothing can be chosen
none-left : (xss : List (List ℤ)) (xs : List ℤ) → choices xss ≡ [] → choices (xs ∷ xss) ≡ []
none-left xss xs e = ap (flat_map (λ (ss : List ℤ). map (λ (s : ℤ). s ∷ ss) xs)) e

counted : (f k : ℤ) (n : ℕ) → ((xs : List ℤ) × (progression f k n ≡ f ∷ xs)) ⊎ (n ≡ 0)
counted f k zero = inr refl
counted f k (suc n) = inl (progression (f +ℤ k) k n, refl)

-- the triplets all select something, or there is no element
abbrev Outcome : List Dim → List Triplet → Type 0
Outcome ds ts = Begins ts ⊎ ((choices (map selected ts) ≡ []) × (choices (map subscripts (cuts_of ds ts)) ≡ []))

outcome-range : (d : Dim) (ds : List Dim) (f t k : ℤ) (ts : List Triplet) → ((xs : List ℤ) × (selected (Range f t k) ≡ f ∷ xs)) ⊎ (count f t k ≡ 0) → Outcome ds ts → Outcome (d ∷ ds) (Range f t k ∷ ts)
outcome-range d ds f t k ts c o = ⊎_elim
    (λ b. ⊎_elim (λ h. inl (h, b)) (λ e. inr (
      ap (λ (n : ℕ). choices (progression f k n ∷ map selected ts)) e ∙ nothing (choices (map selected ts)),
      ap (λ (n : ℕ). choices (progression (pos 1) (pos 1) n ∷ map subscripts (cuts_of ds ts))) e ∙ nothing (choices (map subscripts (cuts_of ds ts))),
    )) c)
    (λ e. inr (none-left (map selected ts) (selected (Range f t k)) e.0, none-left (map subscripts (cuts_of ds ts)) (progression (pos 1) (pos 1) (count f t k)) e.1)) o

outcome : (ds : List Dim) (ts : List Triplet) → Within ds ts → Outcome ds ts
outcome [] [] h = inl tt
outcome [] (t ∷ ts) h = absurd h
outcome (d ∷ ds) [] h = absurd h
outcome (d ∷ ds) (At s ∷ ts) h = ⊎_elim (λ b. inl (([], refl), b)) (λ e. inr (none-left (map selected ts) (s ∷ []) e.0, e.1)) (outcome ds ts h.1)
outcome (d ∷ ds) (Range f t k ∷ ts) h = outcome-range d ds f t k ts (counted f k (count f t k)) (outcome ds ts h.1)

cuts-lower : (ds : List Dim) (ts : List Triplet) → All (λ d. d.lower ≡ pos 1) (cuts_of ds ts)
cuts-lower [] ts = All-nil (λ d. d.lower ≡ pos 1)
cuts-lower (d ∷ ds) [] = All-nil (λ d. d.lower ≡ pos 1)
cuts-lower (d ∷ ds) (At s ∷ ts) = cuts-lower ds ts
cuts-lower (d ∷ ds) (Range f t k ∷ ts) = All-cons (λ d. d.lower ≡ pos 1) (record { lower = pos 1; extent = count f t k; stride = int_wrap w64 (d.stride *ℤ k) }) (cuts_of ds ts) refl (cuts-lower ds ts)

cuts-extent : (ds : List Dim) (ts : List Triplet) → Within ds ts → map (λ d. d.extent) (cuts_of ds ts) ≡ extents ts
cuts-extent [] [] h = refl
cuts-extent [] (t ∷ ts) h = absurd h
cuts-extent (d ∷ ds) [] h = absurd h
cuts-extent (d ∷ ds) (At s ∷ ts) h = cuts-extent ds ts h.1
cuts-extent (d ∷ ds) (Range f t k ∷ ts) h = ap (λ ns. count f t k ∷ ns) (cuts-extent ds ts h.1)

-- each choice of what is selected is an element of the whole
chosen-within : (ds : List Dim) (ts : List Triplet) (ss : List ℤ) → Within ds ts → AllZip (λ xs s. In s xs) (map selected ts) ss → AllZip IsWithin ds ss
chosen-within [] [] [] h m = tt
chosen-within [] [] (s ∷ ss) h m = absurd m
chosen-within [] (t ∷ ts) ss h m = absurd h
chosen-within (d ∷ ds) [] ss h m = absurd h
chosen-within (d ∷ ds) (t ∷ ts) [] h m = absurd m
chosen-within (d ∷ ds) (t ∷ ts) (s ∷ ss) h m = (in-All (IsWithin d) s (selected t) h.0 m.0, chosen-within ds ts ss h.1 m.1)

pub dims-in : (ds : List Dim) (ss : List ℤ) → AllZip IsWithin ds ss → AllZip (λ xs s. In s xs) (map subscripts ds) ss
dims-in [] [] h = tt
dims-in [] (s ∷ ss) h = absurd h
dims-in (d ∷ ds) [] h = absurd h
dims-in (d ∷ ds) (s ∷ ss) h = (in-subscripts d s h.0, dims-in ds ss h.1)

-- the place of an element of the section is that of an element of the whole
pub section-place : (a s : Descriptor) (ts : List Triplet) (ss : List ℤ) → SelectsWithin a ts → places s ≡ map (place a) (choices (map selected ts)) → HasElement s ss → (rs : List ℤ) × (HasElement a rs × (place s ss ≡ place a rs))
section-place a s ts ss h e w =
    let there = in-map (place s) ss (choices (map subscripts s.dims.items)) (in-choices (map subscripts s.dims.items) ss (dims-in s.dims.items ss w)) in
    let found = from-map (place a) (place s ss) (choices (map selected ts)) (subst (λ (zs : List ℤ). In (place s ss) zs) e there) in
    (found.0, (chosen-within a.dims.items ts found.0 h (from-choices (map selected ts) found.0 found.1.0), found.1.1))

elements-are : (a s : Descriptor) (ts : List Triplet) → HasPlaces a → SelectsWithin a ts → s.dims.items ≡ cuts_of a.dims.items ts → s.offset < 2 ^ 64 → IsCongruent (pos s.offset) (place a (map first_of ts)) → places s ≡ map (place a) (choices (map selected ts))
elements-are a s ts fits h dims small near =
    ap (λ (ds : List Dim). spots (pos s.offset) ds (map subscripts ds)) dims
    ∙ ⊎_elim
    (λ b.
    let range = fits (map first_of ts) (firsts-within a.dims.items ts h b) in
    let exact = congruent-exact s.offset (place a (map first_of ts)) near small range.0 range.1 in
    ap (λ (z : ℤ). spots z (cuts_of a.dims.items ts) (map subscripts (cuts_of a.dims.items ts))) exact ∙ cut-spots (pos a.offset) a.dims.items ts fits h b)
    (λ e. ap (map (from (pos s.offset) (cuts_of a.dims.items ts))) e.1 ∙ sym (ap (map (place a)) e.0))
    (outcome a.dims.items ts h)

pub section-is : (a s : Descriptor) (ts : List Triplet) → HasPlaces a → SelectsWithin a ts → s.block ≡ a.block → s.dims.items ≡ cuts_of a.dims.items ts → s.offset < 2 ^ 64 → IsCongruent (pos s.offset) (place a (map first_of ts)) → IsSection a ts s
section-is a s ts fits h block dims small near =
    let same = elements-are a s ts fits h dims small near in
    record {
      block = block;
      lower = subst (λ (ds : List Dim). All (λ d. d.lower ≡ pos 1) ds) (sym dims) (cuts-lower a.dims.items ts);
      extent = ap (map (λ (d : Dim). d.extent)) dims ∙ cuts-extent a.dims.items ts h;
      elements = same;
      within = λ ss w.
          let found = section-place a s ts ss h same w in
          let range = fits found.0 found.1.0 in
          subst (λ (z : ℤ). (pos 0 ≤ℤ z) × (z <ℤ pos (2 ^ 63))) (sym found.1.1) range;
    }
