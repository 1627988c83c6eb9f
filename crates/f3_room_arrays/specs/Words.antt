-- Words of one block that are copied to another, in many places (own rule).
use Rattle.std.specs.Prelude.{ℕ, ℤ, ◌+ℤ◌, ◌≤ℤ◌, pos, List, ◌∷◌, take, drop, map, unsigned_abs}
use Rattle.std.specs.List.{All}
use Rattle.f3_desc.specs.declared.descriptor.Dim.{Dim}
use Rattle.f3_desc.specs.Descriptor.{choices, distance, subscripts}
use Rattle.f3_objects.specs.Holds.{with_words_at}

-- so many words from a place on
abbrev pub words_at : List ℤ → ℤ → ℕ → List ℤ
words_at ws z n = take n (drop (unsigned_abs z) ws)

-- At each of the first places stand so many words, those at the second place with its number, copied in their order.
abbrev pub copied : ℕ → List ℤ → List ℤ → List ℤ → List ℤ → List ℤ
copied n us ws (z ∷ zs) (y ∷ ys) = copied n (with_words_at us (unsigned_abs z) (words_at ws y n)) ws zs ys
copied n us ws zs ys = us

-- so many words from the place on lie within so many
pub record IsInside (size n : ℕ) (z : ℤ) : Type 0 where
  pub from : pos 0 ≤ℤ z
  pub to : (z +ℤ pos n) ≤ℤ pos size

abbrev pub AreInside : ℕ → ℕ → List ℤ → Type 0
AreInside size n zs = All (IsInside size n) zs

-- the places of the elements of an array with these dimensions, from a place on (f3_desc, Descriptor)
abbrev pub places_from : ℤ → List Dim → List ℤ
places_from at ds = map (λ ss. at +ℤ distance ds ss) (choices (map subscripts ds))
