-- A walk over arguments or values: one more.
use Rattle.std.proofs.Common.{◌≡◌, refl, ℕ, ◌+◌, ◌<◌, ◌&&◌, ◌||◌, Bool, true, false, not, length, drop, get_or, List, Option, ap, sym, ◌∙◌}
use Rattle.std.proofs.lemmas.List.{at_drop_more}
use Rattle.f3_rules.specs.declared.breaks.Break.{Break}
use Rattle.f3_kinds.specs.declared.said.Given.{Given}
use Rattle.f3_kinds.specs.declared.things.Dummy.{Dummy}
use Rattle.f3_kinds.specs.Rows.{at_place, unless}
use Rattle.f3_kinds.specs.Calls.{Matched, is_free, added, place_for, is_keyed, match_next, all_fit, argument_fits, argument_rows, matched, given_place}
use Rattle.f3_rules.specs.declared.rule.Rule.TheVariants.{T8}
use Rattle.f3_typed_parts.specs.Noted.{noted}
use Rattle.f3_typed_parts.proofs.Noting.{noted_more}

abbrev pub state : List ℕ → Bool → Matched
state taken keyed = record { taken = taken; keyed = keyed }

pub next_state : (ds : List (ℕ × Dummy)) (i : ℕ) (g : Given) (taken taken' : List ℕ) (keyed keyed' : Bool) (place : Option ℕ)
    → place ≡ place_for ds i g → taken' ≡ added taken place → keyed' ≡ (keyed || is_keyed g)
    → state taken' keyed' ≡ match_next ds i g (state taken keyed)
next_state ds i g taken taken' keyed keyed' place a t k =
    ap (λ x. state x keyed') (t ∙ ap (added taken) a) ∙ ap (λ x. state (added taken (place_for ds i g)) x) k

and_more : (a b c : Bool) → ((a && b) && c) ≡ (a && (b && c))
and_more true b c = refl
and_more false b c = refl

-- one argument more, as the code goes
pub matching_more : (ds : List (ℕ × Dummy)) (gs : List Given) (i : ℕ) (d : Given) (taken taken' : List ℕ) (keyed keyed' : Bool) (place : Option ℕ) (fit right right' w : Bool) (before after v : Option Break) (u : Matched)
    → i < length gs
    → place ≡ place_for ds i (get_or gs i d)
    → fit ≡ ((is_keyed (get_or gs i d) || not keyed) && is_free ds taken (get_or gs i d) place)
    → after ≡ noted before (unless fit (at_place 6 T8 (given_place (get_or gs i d))))
    → taken' ≡ added taken place
    → keyed' ≡ (keyed || is_keyed (get_or gs i d))
    → right' ≡ (right && fit)
    → (right && all_fit ds i (drop i gs) (state taken keyed)) ≡ w
    → matched ds i (drop i gs) (state taken keyed) ≡ u
    → noted before (argument_rows ds i (drop i gs) (state taken keyed)) ≡ v
    → ((right' && all_fit ds (i + 1) (drop (i + 1) gs) (state taken' keyed')) ≡ w)
    × (matched ds (i + 1) (drop (i + 1) gs) (state taken' keyed') ≡ u)
    × (noted after (argument_rows ds (i + 1) (drop (i + 1) gs) (state taken' keyed')) ≡ v)
matching_more ds gs i d taken taken' keyed keyed' place fit right right' w before after v u lt a f o t k r h1 h2 h3 = (
  (ap (λ x. x && all_fit ds (i + 1) rest (state taken' keyed')) (r ∙ ap (λ x. right && x) f')
      ∙ ap (λ x. (right && argument_fits ds i g m) && all_fit ds (i + 1) rest x) n
      ∙ and_more right (argument_fits ds i g m) (all_fit ds (i + 1) rest (match_next ds i g m))
      ∙ ap (λ x. right && x) (sym (at_drop_more (λ xs. all_fit ds i xs m) gs i d lt)) ∙ h1),
  (ap (λ x. matched ds (i + 1) rest x) n ∙ sym (at_drop_more (λ xs. matched ds i xs m) gs i d lt) ∙ h2),
  (ap (λ x. noted x (argument_rows ds (i + 1) rest (state taken' keyed'))) (o ∙ ap (λ x. noted before (unless x (at_place 6 T8 (given_place g)))) f')
      ∙ ap (λ x. noted (noted before (unless (argument_fits ds i g m) (at_place 6 T8 (given_place g)))) (argument_rows ds (i + 1) rest x)) n
      ∙ noted_more before (unless (argument_fits ds i g m) (at_place 6 T8 (given_place g))) (argument_rows ds (i + 1) rest (match_next ds i g m))
      ∙ ap (noted before) (sym (at_drop_more (λ xs. argument_rows ds i xs m) gs i d lt)) ∙ h3),
)
  where
    g : Given
    g = get_or gs i d

    m : Matched
    m = state taken keyed

    rest : List Given
    rest = drop (i + 1) gs

    n : state taken' keyed' ≡ match_next ds i g m
    n = next_state ds i g taken taken' keyed keyed' place a t k

    f' : fit ≡ argument_fits ds i g m
    f' = f ∙ ap (λ x. (is_keyed g || not keyed) && is_free ds taken g x) a
