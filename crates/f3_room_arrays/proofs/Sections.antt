-- What sections tell of.
use Rattle.std.proofs.Common.{◌≡◌, ◌∙◌, sym, ap, subst, refl, inl, inr, ℕ, zero, suc, ◌+◌, ◌*◌, List, [], ◌∷◌, ◌++◌}
use Rattle.std.specs.Prelude.{Some, ℤ, ◌-ℤ◌, map, flat_map, nat_abs, slice_get, unsigned_abs}
use Rattle.std.specs.List.{All, AllZip}
use Rattle.std.proofs.lemmas.List.{map-append}
use Rattle.f3_meaning_whole.specs.Shape.{Shape}
use Rattle.f3_meaning_whole.specs.Store.{Path}
use Rattle.f3_meaning_whole.specs.Act.{added, elements_at, places_in}
use Rattle.f3_desc.specs.declared.descriptor.Descriptor.{Descriptor}
use Rattle.f3_desc.specs.declared.descriptor.Dim.{Dim}
use Rattle.f3_desc.specs.declared.descriptor.Triplet.{Triplet}
use Rattle.f3_desc.specs.Descriptor.{HasElement, IsWithin, choices, place, places}
use Rattle.f3_desc.specs.Section.{selected}
use Rattle.f3_desc.specs.Laws.{number}
use Rattle.f3_desc.proofs.Members.{In, in-All, from-choices}
use Rattle.f3_desc.proofs.Orders.{ordered}
use Rattle.f3_rooms.specs.Rooms.{Rooms}
use Rattle.f3_room_arrays.specs.Elements.{StandsAt, Tells}
use Rattle.f3_room_arrays.specs.Laws.{SectionsAreTold, NumbersArePlaces, numbers}

-- what stands beside an element of a list
pub zip-get : {A B : Type 0} (R : A → B → Type 0) (xs : List A) (ys : List B) (k : ℕ) (x : A) → AllZip R xs ys → slice_get xs k ≡ Some x → (y : B) × ((slice_get ys k ≡ Some y) × R x y)
zip-get R [] ys k x all e = absurd cc
zip-get R (z ∷ xs) [] k x all e = absurd all
zip-get {A} R (z ∷ xs) (y ∷ ys) zero x all e = let same : z ≡ x = cc in (y, (refl, subst (λ (w : A). R w y) same all.0))
zip-get R (z ∷ xs) (y ∷ ys) (suc k) x all e = zip-get R xs ys k x all.1 e

-- the selected subscripts are within bounds
chosen-within : (ds : List Dim) (cs : List Triplet) (ss : List ℤ) → AllZip (λ d t. All (IsWithin d) (selected t)) ds cs → AllZip (λ xs s. In s xs) (map selected cs) ss → AllZip IsWithin ds ss
chosen-within [] [] [] within chosen = tt
chosen-within [] [] (s ∷ ss) within chosen = absurd chosen
chosen-within [] (c ∷ cs) ss within chosen = absurd within
chosen-within (d ∷ ds) [] ss within chosen = absurd within
chosen-within (d ∷ ds) (c ∷ cs) [] within chosen = absurd chosen
chosen-within (d ∷ ds) (c ∷ cs) (s ∷ ss) within chosen = (in-All (IsWithin d) s (selected c) within.0 chosen.0, chosen-within ds cs ss within.1 chosen.1)

module _ (ts : List Shape) (x : Rooms) (a : Descriptor) (s : Shape) (ps : List Path) (tells : Tells ts x a s ps) where
  -- some of the elements
  some-told : (sss : List (List ℤ)) → ((ss : List ℤ) → In ss sss → HasElement a ss) → AllZip (StandsAt ts x a.block s) (map (place a) sss) (elements_at ps (map (number a.dims.items) sss))
  some-told [] has = tt
  some-told (ss ∷ sss) has =
      let found = zip-get (StandsAt ts x a.block s) (places a) ps (number a.dims.items ss) (place a ss) tells (ordered a ss (has ss (inl refl))) in
      let rest = some-told sss (λ other m. has other (inr m)) in
      subst (λ o. AllZip (StandsAt ts x a.block s) (place a ss ∷ map (place a) sss) (added o (elements_at ps (map (number a.dims.items) sss)))) (sym found.1.0) (found.1.1, rest)

pub sections_are_told : SectionsAreTold
sections_are_told ts x a b s ps cs tells within section =
    let chosen = choices (map selected cs) in
    let told = some-told ts x a s ps tells chosen (λ ss m. chosen-within a.dims.items cs ss within (from-choices (map selected cs) ss m)) in
    subst (λ (k : ℕ). AllZip (StandsAt ts x k s) (places b) (elements_at ps (numbers a.dims.items cs))) (sym section.block)
    (subst (λ (zs : List ℤ). AllZip (StandsAt ts x a.block s) zs (elements_at ps (numbers a.dims.items cs))) (sym section.elements) told)

-- ---- the meaning's numbers

line : (d : Dim) (ds : List Dim) (rest xs : List ℤ) → map (number (d ∷ ds)) (map (λ s. s ∷ rest) xs) ≡ map (λ z. unsigned_abs (z -ℤ d.lower) + d.extent * number ds rest) xs
line d ds rest [] = refl
line d ds rest (x ∷ xs) = ap (λ l. (unsigned_abs (x -ℤ d.lower) + d.extent * number ds rest) ∷ l) (line d ds rest xs)

pub lines : (d : Dim) (ds : List Dim) (xs : List ℤ) (yss : List (List ℤ)) → map (number (d ∷ ds)) (flat_map (λ rest. map (λ s. s ∷ rest) xs) yss)
    ≡ flat_map (λ k. map (λ z. unsigned_abs (z -ℤ d.lower) + d.extent * k) xs) (map (number ds) yss)
lines d ds xs [] = refl
lines d ds xs (ys ∷ yss) =
    map-append (number (d ∷ ds)) (map (λ s. s ∷ ys) xs) (flat_map (λ rest. map (λ s. s ∷ rest) xs) yss)
    ∙ (λ i. line d ds ys xs i ++ lines d ds xs yss i)

pub numbers_are_places : NumbersArePlaces
numbers_are_places [] [] [] [] alike = refl
numbers_are_places (s ∷ ss) (h ∷ hs) (d ∷ ds) (c ∷ cs) alike =
    let at : List ℤ → List ℕ → ℤ → ℕ → List ℕ = λ xs ks low n. flat_map (λ k. map (λ z. nat_abs (z -ℤ low) + n * k) xs) ks in
    ap (λ (xs : List ℤ). at xs (places_in ss hs) s.lower s.extent) alike.2
    ∙ ap (λ (ks : List ℕ). at (selected c) ks s.lower s.extent) (numbers_are_places ss hs ds cs alike.3)
    ∙ ap (λ (low : ℤ). at (selected c) (numbers ds cs) low s.extent) (sym alike.0)
    ∙ ap (λ (n : ℕ). at (selected c) (numbers ds cs) d.lower n) (sym alike.1)
    ∙ sym (lines d ds (selected c) (choices (map selected cs)))
numbers_are_places [] [] [] (c ∷ cs) alike = absurd alike
numbers_are_places [] [] (d ∷ ds) [] alike = absurd alike
numbers_are_places [] [] (d ∷ ds) (c ∷ cs) alike = absurd alike
numbers_are_places [] (h ∷ hs) [] [] alike = absurd alike
numbers_are_places [] (h ∷ hs) [] (c ∷ cs) alike = absurd alike
numbers_are_places [] (h ∷ hs) (d ∷ ds) [] alike = absurd alike
numbers_are_places [] (h ∷ hs) (d ∷ ds) (c ∷ cs) alike = absurd alike
numbers_are_places (s ∷ ss) [] [] [] alike = absurd alike
numbers_are_places (s ∷ ss) [] [] (c ∷ cs) alike = absurd alike
numbers_are_places (s ∷ ss) [] (d ∷ ds) [] alike = absurd alike
numbers_are_places (s ∷ ss) [] (d ∷ ds) (c ∷ cs) alike = absurd alike
numbers_are_places (s ∷ ss) (h ∷ hs) [] [] alike = absurd alike
numbers_are_places (s ∷ ss) (h ∷ hs) [] (c ∷ cs) alike = absurd alike
numbers_are_places (s ∷ ss) (h ∷ hs) (d ∷ ds) [] alike = absurd alike
