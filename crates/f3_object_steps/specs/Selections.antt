-- Elements that are selected, by their places.
use Rattle.std.specs.Prelude.{⊤, ℕ, ◌<◌, [], ◌+◌, ◌*◌, ◌-ℤ◌, pos, nat_abs, nat_lt, filter, map, length, true, ◌≡◌, List, ◌∷◌}
use Rattle.std.specs.List.{flat_map}
use Rattle.f3_meaning_whole.specs.Value.{Span}
use Rattle.f3_meaning_whole.specs.Act.{Chosen, At, Range, is_inside, all_inside, places_in, spans_in, subscripts_in}
use Rattle.f3_data.specs.Values.{spans_of}
use Rattle.f3_object_steps.specs.declared.places.Selected.{Selected}

-- those below a limit
abbrev pub kept : ℕ → List ℕ → List ℕ
kept limit ks = filter (λ k. nat_lt k limit) ks

-- the places of a row, by how far they are in it
abbrev pub row_of : List ℕ → ℕ → ℕ → List ℕ
row_of offsets extent k = map (λ o. o + extent * k) offsets

-- the places of a row that are selected in a dimension
abbrev pub rows_of : Span → Chosen → ℕ → List ℕ
rows_of s c k = map (λ z. nat_abs (z -ℤ s.lower) + s.extent * k) (subscripts_in s c)

-- the bounds of a section with a dimension more, of so many subscripts
abbrev pub spans_with : Chosen → ℕ → List Span → List Span
spans_with (At z) n ss = ss
spans_with (Range lower upper step) n ss = record { lower = pos 1; extent = n } ∷ ss

-- what is selected in one dimension more, of what was selected in those behind
abbrev pub Widened : Span → Chosen → Selected → ℕ → Selected → Type 0
Widened s c old limit new = (is_inside s (subscripts_in s c) ≡ true)
    × (new.places.items ≡ kept limit (flat_map (row_of (map (λ z. nat_abs (z -ℤ s.lower)) (subscripts_in s c)) s.extent) old.places.items))
    × (spans_of new.spans.items ≡ spans_with c (length (subscripts_in s c)) (spans_of old.spans.items))

-- the elements and bounds of what is selected of an array, of elements before a limit
abbrev pub AreSelected : List Span → List Chosen → ℕ → Selected → Type 0
AreSelected ss cs limit x = (all_inside ss cs ≡ true) × (x.places.items ≡ kept limit (places_in ss cs)) × (spans_of x.spans.items ≡ spans_in ss cs)

-- all are below a number
abbrev pub AreBelow : ℕ → List ℕ → Type 0
AreBelow n [] = ⊤
AreBelow n (k ∷ ks) = (k < n) × AreBelow n ks
