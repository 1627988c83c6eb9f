-- A walk over the values of a structure constructor, and one over the components: one more.
use Rattle.std.proofs.Common.{◌≡◌, refl, inl, inr, ℕ, ◌+◌, ◌<◌, ◌&&◌, ◌||◌, nat_eq, Bool, true, false, not, length, drop, get_or, List, ◌∷◌, Option, None, Some, ap, sym, ◌∙◌, arith}
use Rattle.std.specs.List.{list_any}
use Rattle.std.proofs.lemmas.List.{at_drop_more}
use Rattle.std.proofs.lemmas.Option.{slice_get_cases}
use Rattle.f3_rules.specs.declared.breaks.Break.{Break}
use Rattle.f3_kinds.specs.declared.said.Given.{Given}
use Rattle.f3_kinds.specs.declared.things.Component.{Component}
use Rattle.f3_kinds.specs.Things.{map_or, at_place_of}
use Rattle.f3_kinds.specs.Designators.{is_triplet}
use Rattle.f3_kinds.specs.Calls.{Matched, added, place_for, is_keyed, is_new, match_next, matched, in_order, are_given, given_rows, constructor_given}
use Rattle.f3_typed_parts.specs.Noted.{noted}
use Rattle.f3_typed_parts.proofs.Noting.{noted_more}

abbrev pub state : List ℕ → Bool → Matched
state taken keyed = record { taken = taken; keyed = keyed }

abbrev pub rows_at : Bool → List (ℕ × Component) → ℕ → Given → List Break
rows_at inside ks p g = given_rows inside (map_or None (at_place_of ks) (place_for ks p g)) g

pub values_more : (inside : Bool) (ks : List (ℕ × Component)) (gs : List Given) (p : ℕ) (d : Given) (before after whole : Option Break)
    → p < length gs
    → after ≡ noted before (rows_at inside ks p (get_or gs p d))
    → noted before (constructor_given inside ks p (drop p gs)) ≡ whole
    → noted after (constructor_given inside ks (p + 1) (drop (p + 1) gs)) ≡ whole
values_more inside ks gs p d before after whole lt a h =
    ap (λ (x : Option Break). noted x (constructor_given inside ks (p + 1) (drop (p + 1) gs))) a
    ∙ noted_more before (rows_at inside ks p (get_or gs p d)) (constructor_given inside ks (p + 1) (drop (p + 1) gs))
    ∙ ap (noted before) (sym (at_drop_more (λ (xs : List Given). constructor_given inside ks p xs) gs p d lt)) ∙ h

next_state : (ks : List (ℕ × Component)) (i : ℕ) (g : Given) (taken taken' : List ℕ) (keyed keyed' : Bool) (place : Option ℕ)
    → place ≡ place_for ks i g → taken' ≡ added taken place → keyed' ≡ (keyed || is_keyed g)
    → state taken' keyed' ≡ match_next ks i g (state taken keyed)
next_state ks i g taken taken' keyed keyed' place a t k =
    ap (λ x. state x keyed') (t ∙ ap (added taken) a) ∙ ap (λ x. state (added taken (place_for ks i g)) x) k

and_three : (r a b : Bool) → ((r && a) && b) ≡ (r && (a && b))
and_three false a b = refl
and_three true a b = refl

-- one value more, as the code goes
pub order_more : (ks : List (ℕ × Component)) (gs : List Given) (i : ℕ) (d : Given) (taken taken' : List ℕ) (keyed keyed' : Bool) (place : Option ℕ) (fit right right' w : Bool) (u : Matched)
    → i < length gs
    → place ≡ place_for ks i (get_or gs i d)
    → fit ≡ (not (is_triplet (get_or gs i d)) && (is_keyed (get_or gs i d) || not keyed) && is_new taken place)
    → taken' ≡ added taken place
    → keyed' ≡ (keyed || is_keyed (get_or gs i d))
    → right' ≡ (right && fit)
    → (right && in_order ks i (drop i gs) (state taken keyed)) ≡ w
    → matched ks i (drop i gs) (state taken keyed) ≡ u
    → ((right' && in_order ks (i + 1) (drop (i + 1) gs) (state taken' keyed')) ≡ w)
    × (matched ks (i + 1) (drop (i + 1) gs) (state taken' keyed') ≡ u)
order_more ks gs i d taken taken' keyed keyed' place fit right right' w u lt a f t k r h1 h2 = (
  (ap (λ x. x && in_order ks (i + 1) rest (state taken' keyed')) (r ∙ ap (λ x. right && x) (f ∙ ap (λ x. not (is_triplet g) && (is_keyed g || not keyed) && is_new taken x) a))
      ∙ ap (λ x. (right && (not (is_triplet g) && (is_keyed g || not keyed) && is_new taken (place_for ks i g))) && in_order ks (i + 1) rest x) n
      ∙ and_three right (not (is_triplet g) && (is_keyed g || not keyed) && is_new taken (place_for ks i g)) (in_order ks (i + 1) rest (match_next ks i g m))
      ∙ ap (λ x. right && x) (sym (at_drop_more (λ xs. in_order ks i xs m) gs i d lt)) ∙ h1),
  (ap (λ x. matched ks (i + 1) rest x) n ∙ sym (at_drop_more (λ xs. matched ks i xs m) gs i d lt) ∙ h2),
)
  where
    g : Given
    g = get_or gs i d

    m : Matched
    m = state taken keyed

    rest : List Given
    rest = drop (i + 1) gs

    n : state taken' keyed' ≡ match_next ks i g m
    n = next_state ks i g taken taken' keyed keyed' place a t k

abbrev pub given_at : ℕ → List ℕ → Option Component → Bool
given_at place taken k = map_or true (λ (k : Component). k.is_initialized || (k.object).is_allocatable || list_any (nat_eq place) taken) k

given_step : (ks : List (ℕ × Component)) (taken : List ℕ) (i : ℕ) → i < length ks
    → (given_at i taken (at_place_of ks i) && are_given (i + 1) (drop (i + 1) ks) taken) ≡ are_given i (drop i ks) taken
given_step ks taken i lt = elim ((slice_get_cases ks i).1) [
  | inl h ↦
      ap (λ (o : Option (ℕ × Component)). given_at i taken (map_or None (λ (x : ℕ × Component). Some x.1) o) && are_given (i + 1) (drop (i + 1) ks) taken) h.2
      ∙ ap (λ (x : ℕ × Component). are_given i (x ∷ drop (i + 1) ks) taken) (sym h.3)
      ∙ sym (at_drop_more (λ (xs : List (ℕ × Component)). are_given i xs taken) ks i h.0 lt)
  | inr h ↦ absurd (omega (arith, lt, h.0))
]

-- one component more
pub given_more : (ks : List (ℕ × Component)) (taken : List ℕ) (i : ℕ) (fit right right' whole : Bool) → i < length ks
    → fit ≡ given_at i taken (at_place_of ks i) → right' ≡ (right && fit)
    → (right && are_given i (drop i ks) taken) ≡ whole
    → (right' && are_given (i + 1) (drop (i + 1) ks) taken) ≡ whole
given_more ks taken i fit right right' whole lt f r h =
    ap (λ x. x && are_given (i + 1) (drop (i + 1) ks) taken) (r ∙ ap (λ x. right && x) f)
    ∙ and_three right (given_at i taken (at_place_of ks i)) (are_given (i + 1) (drop (i + 1) ks) taken)
    ∙ ap (λ x. right && x) (given_step ks taken i lt) ∙ h
