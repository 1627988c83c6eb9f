-- Walks over the dummies and the arguments of MOVE_ALLOC.
use Rattle.std.proofs.Common.{◌≡◌, refl, ℕ, ◌+◌, nat_eq, nat_lt, cond, Bool, not, length, map, List, [], ◌∷◌, None, Some, ap, sym, ◌∙◌}
use Rattle.std.specs.List.{prefix_len, position, position_or_len}
use Rattle.std.proofs.lemmas.List.{length-map}
use Rattle.f3_kinds.specs.declared.things.Dummy.{Dummy}
use Rattle.f3_kinds.specs.Things.{place_of}

first_len : (t : ℕ → Bool) (ds : List (ℕ × Dummy)) → prefix_len t (map (λ (d : ℕ × Dummy). d.0) ds) ≡ prefix_len (λ (d : ℕ × Dummy). t d.0) ds
first_len t [] = refl
first_len t (d ∷ ds) = ap (λ n. cond (t d.0) (1 + n) 0) (first_len t ds)

-- the place of a name
pub named_at : (symbol : ℕ) (ds : List (ℕ × Dummy)) → position (λ (d : ℕ × Dummy). nat_eq symbol d.0) ds ≡ place_of ds symbol
named_at symbol ds =
    ap (λ n. cond (nat_lt n (length ds)) (Some n) None) (sym (first_len (λ n. not (nat_eq symbol n)) ds))
    ∙ ap (λ n. cond (nat_lt (position_or_len (nat_eq symbol) (map (λ (d : ℕ × Dummy). d.0) ds)) n) (Some (position_or_len (nat_eq symbol) (map (λ (d : ℕ × Dummy). d.0) ds))) None) (sym (length-map ds (λ (d : ℕ × Dummy). d.0)))
