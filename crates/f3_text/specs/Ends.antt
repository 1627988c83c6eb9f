-- The end of a source (own rule: the place just past its last byte).
use Rattle.std.specs.Prelude.{ℕ, ◌+◌, List, [], ◌∷◌, length, count_by, Bool, ◌==◌, if◌then◌else◌}
use Rattle.std.specs.List.{list_any}
use Rattle.f3_places.specs.declared.source.Place.{Place}

unfoldable pub has_feed : List ℕ → Bool
has_feed bs = list_any (λ b. b == 10) bs

-- the bytes behind the last line feed
unfoldable pub behind_feeds : List ℕ → List ℕ
behind_feeds [] = []
behind_feeds (b ∷ bs) = if has_feed (b ∷ bs) then behind_feeds bs else b ∷ bs

unfoldable pub end_of : ℕ → List ℕ → Place
end_of file bytes = record { file = file; line = 1 + count_by (λ b. b == 10) bytes; column = 1 + length (behind_feeds bytes) }
