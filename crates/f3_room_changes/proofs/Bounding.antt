-- The bounds of an allocatable, written one after another.
use Rattle.std.proofs.Common.{◌≡◌, ℕ, zero, suc, ◌+◌, ◌*◌, ◌<◌, ◌≤◌, ◌^◌, pos, Bool, true, false, List, [], ◌∷◌, length, drop, get_or, nat_lt, refl, sym, ap, subst, ◌∙◌, arith}
use Rattle.std.specs.Prelude.{if◌then◌else◌}
use Rattle.std.proofs.lemmas.Bool.{ltb-true}
use Rattle.std.proofs.lemmas.List.{drop_more, drop_all}
use Rattle.f3_live_blocks.specs.Blocks.{Live, IsLive, words_of}
use Rattle.f3_meaning_whole.specs.Exec.{too_many}
use Rattle.f3_data.specs.declared.value.Span.{Span}
use Rattle.f3_data.specs.Values.{spans_of}
use Rattle.f3_rooms.specs.Places.{with_word}
use Rattle.f3_rooms.specs.Laws.{with_bounds}
use Rattle.f3_rooms.proofs.Words.{put_live, put_long}

pub as_many : (ss : List Span) → length (spans_of ss) ≡ length ss
as_many [] = refl
as_many (s ∷ ss) = ap suc (as_many ss)

-- each extent is a signed number of 64 bits
first_counted : (t : Bool) (n : ℕ) (rest : Bool) → nat_lt n (2 ^ 63) ≡ t → (if t then rest else true) ≡ false → (n < 2 ^ 63) × (rest ≡ false)
first_counted true n rest e f = (ltb-true n (2 ^ 63) e, f)
first_counted false n rest e f = absurd (cc)

pub one_counted : (ss : List Span) (i : ℕ) (d : Span) → too_many (spans_of ss) ≡ false → i < length ss → (get_or ss i d).extent < 2 ^ 63
one_counted [] i d e lt = absurd (omega arith)
one_counted (s ∷ ss) zero d e lt = (first_counted (nat_lt s.extent (2 ^ 63)) s.extent (too_many (spans_of ss)) refl e).0
one_counted (s ∷ ss) (suc i) d e lt = one_counted ss i d (first_counted (nat_lt s.extent (2 ^ 63)) s.extent (too_many (spans_of ss)) refl e).1 (omega arith)

-- so many dimensions are written, and what is still to be written is what will then be there
pub record Writes (old now : Live) (b o place i : ℕ) (ss : List Span) : Type 0 where
  pub told : with_bounds now b place (spans_of (drop i ss)) ≡ with_bounds old b o (spans_of ss)
  pub live : IsLive now b
  pub long : length (words_of now b) ≡ length (words_of old b)
  pub reached : place ≡ o + 2 * i

pub writes_none : (m : Live) (b o : ℕ) (ss : List Span) → IsLive m b → Writes m m b o o 0 ss
writes_none m b o ss live = record { told = refl; live = live; long = refl; reached = omega arith }

module _ (old now : Live) (b o place i : ℕ) (ss : List Span) (w : Writes old now b o place i ss) where
  pub writes_more : (d : Span) → i < length ss → (mid : Live) → mid ≡ with_word now b place (get_or ss i d).lower
      → (new : Live) → new ≡ with_word mid b (place + 1) (pos (get_or ss i d).extent) → Writes old new b o (place + 2) (i + 1) ss
  writes_more d lt mid first new second =
      let s : Span = get_or ss i d in
      let one : Live = with_word now b place s.lower in
      let two : Live = with_word one b (place + 1) (pos s.extent) in
      let e : new ≡ two = second ∙ ap (λ (k : Live). with_word k b (place + 1) (pos s.extent)) first in
      record {
        told = ap (λ (k : Live). with_bounds k b (place + 2) (spans_of (drop (i + 1) ss))) e
            ∙ ap (λ (l : List Span). with_bounds now b place (spans_of l)) (sym (drop_more ss i d lt)) ∙ w.told;
        live = subst (λ (k : Live). IsLive k b) (sym e) (put_live one b (place + 1) (pos s.extent) b (put_live now b place s.lower b w.live));
        long = ap (λ (k : Live). length (words_of k b)) e ∙ put_long one b (place + 1) (pos s.extent) b ∙ put_long now b place s.lower b ∙ w.long;
        reached = let r = w.reached in omega arith;
      }

  -- after the lower bound
  pub lower_live : (d : Span) (mid : Live) → mid ≡ with_word now b place (get_or ss i d).lower → IsLive mid b
  lower_live d mid first = subst (λ (k : Live). IsLive k b) (sym first) (put_live now b place (get_or ss i d).lower b w.live)

  pub lower_long : (d : Span) (mid : Live) → mid ≡ with_word now b place (get_or ss i d).lower → length (words_of mid b) ≡ length (words_of old b)
  lower_long d mid first = ap (λ (k : Live). length (words_of k b)) first ∙ put_long now b place (get_or ss i d).lower b ∙ w.long

  pub writes_all : length ss ≤ i → now ≡ with_bounds old b o (spans_of ss)
  writes_all ge = ap (λ (l : List Span). with_bounds now b place (spans_of l)) (sym (drop_all i ss ge)) ∙ w.told
