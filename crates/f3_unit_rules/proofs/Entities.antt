-- The entities that scopes declare first.
use Rattle.std.proofs.Common.{◌≡◌, ℕ, zero, suc, ◌+◌, ◌<◌, ◌≤◌, ◌⊎◌, inl, inr, List, [], ◌∷◌, ◌++◌, length, map, take, get_or, Some, slice_get, ap, sym, ◌∙◌, refl, add-one, arith}
use Rattle.std.proofs.lemmas.List.{length-append, length-map}
use Rattle.std.proofs.lemmas.Option.{slice_get_within}
use Rattle.f3_access.specs.Access.{entities_of, first_entity}
use Rattle.f3_scopes.specs.declared.outline.Outline.{Outline}
use Rattle.f3_scopes.specs.Outlines.{Scope, scope_view, own_view}
use Rattle.f3_part_rules.specs.Members.{AreFirsts}

next_first : (xs : List Outline) (i : ℕ) (x : Outline) → i < length xs → x ≡ get_or xs i x
    → first_entity (map scope_view xs) (suc i) ≡ first_entity (map scope_view xs) i + length (x.declared).items
next_first [] i x lt is = absurd (omega (arith, lt))
next_first (y ∷ ys) zero x lt is =
    let one = length-append (scope_view y).declared [] in
    let two = length-map (y.declared).items own_view in
    let three = ap (λ (z : Outline). length (z.declared).items) is in
    omega (arith, one, two, three)
next_first (y ∷ ys) (suc i) x lt is =
    let more = next_first ys i x (omega (arith, lt)) is in
    let one = length-append (scope_view y).declared (entities_of (take (suc i) (map scope_view ys))) in
    let two = length-append (scope_view y).declared (entities_of (take i (map scope_view ys))) in
    omega (arith, more, one, two)

-- the scope behind one declares its first entity behind all that this one declares
pub first_more : (xs : List Outline) (i : ℕ) (x : Outline) → i < length xs → x ≡ get_or xs i x
    → first_entity (map scope_view xs) (i + 1) ≡ first_entity (map scope_view xs) i + length (x.declared).items
first_more xs i x lt is = ap (first_entity (map scope_view xs)) (add-one i) ∙ next_first xs i x lt is

pub first_within : (scopes : List Scope) (i : ℕ) → first_entity scopes i ≤ length (entities_of scopes)
first_within [] i = within i
  where
    within : (i : ℕ) → first_entity [] i ≤ length (entities_of [])
    within zero = omega arith
    within (suc i) = omega arith
first_within (s ∷ ss) zero = omega arith
first_within (s ∷ ss) (suc i) =
    let one = length-append s.declared (entities_of (take i ss)) in
    let two = length-append s.declared (entities_of ss) in
    let more = first_within ss i in
    omega (arith, one, two, more)

-- what stands in a list with one item more stood there before, or is that item
pushed : (xs : List ℕ) (e n f : ℕ) → slice_get (xs ++ (e ∷ [])) n ≡ Some f → (slice_get xs n ≡ Some f) ⊎ ((n ≡ length xs) × (e ≡ f))
pushed [] e zero f at = inr (refl, cc)
pushed [] e (suc n) f at = absurd (let past = slice_get_within (e ∷ []) (suc n) f at in omega (arith, past))
pushed (x ∷ xs) e zero f at = inl at
pushed (x ∷ xs) e (suc n) f at = elim (pushed xs e n f at) [ inl a ↦ inl a | inr b ↦ inr (ap suc b.0, b.1) ]

-- one scope more
pub firsts_more : (scopes : List Scope) (xs : List ℕ) (e : ℕ) → e ≡ first_entity scopes (length xs) → AreFirsts scopes xs → AreFirsts scopes (xs ++ (e ∷ []))
firsts_more scopes xs e h before n f at = elim (pushed xs e n f at) [
  | inl a ↦ before n f a
  | inr b ↦ sym b.1 ∙ h ∙ ap (first_entity scopes) (sym b.0)
]
