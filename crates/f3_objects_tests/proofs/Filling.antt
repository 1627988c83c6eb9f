-- Laws on a block whose words are written one after another.
use Rattle.std.proofs.Common.{◌≡◌, ℕ, ℤ, pos, ◌+◌, ◌<◌, List, [], ◌∷◌, ◌++◌, length, take, set, get_or, refl, ap, sym, subst, ◌∙◌, arith, is_some}
use Rattle.std.specs.Prelude.{None, Ok, IfOk, Result}
use Rattle.std.specs.FinMap.{get}
use Rattle.std.proofs.Math.Seq.{take-length}
use Rattle.std.proofs.lemmas.List.{length-set, length-replicate, take_more, take_more_set}
use Rattle.f3_live_blocks.specs.Blocks.{Live, IsLive, words_in, words_of, with_taken, with_words}
use Rattle.f3_live_blocks.proofs.Laws.{get-insert_same, get-insert_other}
use Rattle.f3_objects.proofs.Changes.{not_dead}
use Rattle.f3_objects.proofs.Writes.{words-with, live-with}

-- a new block of the length of these words has the first so many of them, and all else is unchanged
pub record Fills (old now : Live) (b : ℕ) (words : List ℤ) (i : ℕ) : Type 0 where
  pub live : IsLive now b
  pub size : length (words_of now b) ≡ length words
  pub front : take i (words_of now b) ≡ take i words
  pub kept : (q : ℕ) → IsLive old q → get now q ≡ get old q

pub fills_none : (old now : Live) (b : ℕ) (words : List ℤ) → get old b ≡ None → now ≡ with_taken old b (length words) → Fills old now b words 0
fills_none old now b words fresh e = record {
  live = ap (λ (m : Live). is_some (get m b)) e ∙ ap is_some (get-insert_same old b _);
  size = ap (λ (m : Live). length (words_of m b)) e ∙ (ap (λ o. length (words_in o)) (get-insert_same old b _) ∙ length-replicate (length words) (pos 0));
  front = refl;
  kept = λ q l. ap (λ (m : Live). get m q) e ∙ get-insert_other old b _ q (λ i. not_dead old q l (ap (get old) i ∙ fresh));
}

pub fills_more : (old mid new : Live) (b : ℕ) (words : List ℤ) (i : ℕ) (z : ℤ) → get old b ≡ None → Fills old mid b words i → i < length words → z ≡ get_or words i (pos 0) → new ≡ with_words mid b (set (words_of mid b) i z) → Fills old new b words (i + 1)
fills_more old mid new b words i z fresh f l same e =
    let there : words_of new b ≡ set (words_of mid b) i (get_or words i (pos 0)) = ap (λ (m : Live). words_of m b) e ∙ (words-with mid b _ ∙ ap (set (words_of mid b) i) same) in
    let P : Live → Type 0 = λ m. IsLive m b in
    let size = f.size in
    record {
      live = subst P (sym e) (live-with mid b _);
      size = ap length there ∙ (length-set (words_of mid b) i _ ∙ f.size);
      front = ap (take (i + 1)) there ∙ (take_more_set (words_of mid b) i _ (omega arith) ∙ (ap (λ (l : List ℤ). l ++ get_or words i (pos 0) ∷ []) f.front ∙ sym (take_more words i (pos 0) l)));
      kept = λ q h. ap (λ (m : Live). get m q) e ∙ (get-insert_other mid b _ q (λ j. not_dead old q h (ap (get old) j ∙ fresh)) ∙ f.kept q h);
    }

pub fills_all : (old now : Live) (b : ℕ) (words : List ℤ) (i : ℕ) → Fills old now b words i → i ≡ length words → words_of now b ≡ words
fills_all old now b words i f e =
    sym (take-length (words_of now b)) ∙ (ap (λ (n : ℕ). take n (words_of now b)) (f.size ∙ sym e) ∙ (f.front ∙ (ap (λ (n : ℕ). take n words) e ∙ take-length words)))

pub if_ok : {T E : Type 0} (r : Result T E) (x : T) (P : T → Type 0) → r ≡ Ok x → IfOk r P → P x
if_ok r x P e h = let Q : _ → Type 0 = λ o. IfOk o P in subst Q e h
