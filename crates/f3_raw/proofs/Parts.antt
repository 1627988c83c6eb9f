-- Two runs that do not meet are taken out of the words in memory, and put back with other words in the second. Assumes `Logic`.
use Rattle.std.proofs.Common.{◌≡◌, ℕ, ◌+◌, ◌-◌, ◌*◌, ◌≤◌, ℤ, List, [], ◌∷◌, ◌++◌, length, take, drop, refl, sym, ap, subst, ◌∙◌, arith, inl, inr}
use Rattle.std.proofs.lemmas.List.{length-take-le, length-drop, drop-drop, take-take, take_all, drop-take, take-append-drop}
use Rattle.std.specs.List.{slice_range}
use native.Mathlib.Nat.{suc-ne-zero, zero-add}
use seplogic.Ra.Ura.{Ura}
use base.Logic.{SProp, ent, sep, emp, id⊢}
use base.Fml.{Fml, fsep}
use types.Logic.{Logic, sem}
use types.Kit.{‵, ◌⊛◌, ◌$◌, ◌∵◌, !, qed, by, move, keep, use0, use1, use2, split, rewrite, fsplit, fjoin, done}
use Rattle.f3_raw.specs.Words.{written, overwritten, Apart}
use Rattle.f3_raw.proofs.Runs.{length-written}
use Rattle.f3_raw.proofs.Rows.{words_at, words_cut, words_glue}

-- the n words from a on
abbrev pub run : List ℤ → ℕ → ℕ → List ℤ
run ws a n = take n (drop a ws)

around : (ws : List ℤ) (a n : ℕ) → take a ws ++ (run ws a n ++ drop (a + n) ws) ≡ ws
around ws a n = ap (λ l. take a ws ++ (run ws a n ++ l)) (sym (drop-drop n a ws)) ∙ ap (λ l. take a ws ++ l) (take-append-drop n (drop a ws)) ∙ take-append-drop a ws

pub length-run : (ws : List ℤ) (a n : ℕ) → a + n ≤ length ws → length (run ws a n) ≡ n
length-run ws a n le = length-take-le n (drop a ws) (omega (arith, length-drop a ws))

pub is_range : (ws : List ℤ) (a n : ℕ) → run ws a n ≡ slice_range ws a (a + n)
is_range ws a n = ap (λ k. take k (drop a ws)) (omega arith)

-- with as many words in the run, the list keeps its length
over : (ws : List ℤ) (b m : ℕ) (xs : List ℤ) → b + m ≤ length ws → length xs ≡ m → take b ws ++ (xs ++ drop (b + m) ws) ≡ overwritten ws b xs
over ws b m xs le e =
    let same : written ws b xs ≡ take b ws ++ (xs ++ drop (b + m) ws) = ap (λ k. take b ws ++ (xs ++ drop (b + k) ws)) e in
    let all : length (written ws b xs) ≤ length ws = omega (arith, length-written ws b xs (omega arith)) in
    sym same ∙ sym (take_all (length ws) (written ws b xs) all)

nil_of : (ws : List ℤ) → length ws ≡ 0 → ws ≡ []
nil_of [] e = refl
nil_of (x ∷ xs) e = absurd (suc-ne-zero (length xs) e)

module _ {M : Type 1} {𝓤 : Ura M} (𝓛 : Logic 𝓤) (b o : ℕ) where
  abbrev ◌⊢◌ : SProp 𝓤 → SProp 𝓤 → Type 1
  P ⊢ Q = ent 𝓤 P Q

  abbrev ◌∗◌ : SProp 𝓤 → SProp 𝓤 → SProp 𝓤
  P ∗ Q = sep 𝓤 P Q

  infix 26 ◌⊢◌
  infixr 35 ◌∗◌
  -- words k places after (b, o)
  abbrev words : List ℤ → ℕ → SProp 𝓤
  words ws k = sem 𝓛 (words_at ws b (k * 8 + o))

  -- the words before a run and after it
  abbrev Around : List ℤ → ℕ → ℕ → ℕ → Fml
  Around ws k a n = fsep (words_at (take a ws) b (k * 8 + o)) (words_at (drop (a + n) ws) b ((k + (a + n)) * 8 + o))

  run_out : (ws : List ℤ) (k a n : ℕ) → a + n ≤ length ws → words ws k ⊢ words (run ws a n) (k + a) ∗ sem 𝓛 (Around ws k a n)
  run_out ws k a n le =
      let rest = drop (a + n) ws in
      let first : a * 8 + (k * 8 + o) ≡ (k + a) * 8 + o = omega arith in
      let second : n * 8 + ((k + a) * 8 + o) ≡ (k + (a + n)) * 8 + o = omega arith in
      qed 𝓛 (‵ (words_at ws b (k * 8 + o)) ∷ []) ∵ rewrite ! 0 (λ (l : List ℤ). ‵ (words_at l b (k * 8 + o))) (sym (around ws a n)) refl $
      use1 𝓛 (‵ (words_at (take a ws) b (k * 8 + o)) ⊛ ‵ (words_at (run ws a n ++ rest) b (a * 8 + (k * 8 + o)))) (words_cut 𝓛 a (take a ws) (run ws a n ++ rest) b (k * 8 + o) (length-take-le a ws (omega arith))) $ split ! $
      rewrite ! 1 (λ (j : ℕ). ‵ (words_at (run ws a n ++ rest) b j)) first refl $ move ! (1 ∷ []) $
      use1 𝓛 (‵ (words_at (run ws a n) b ((k + a) * 8 + o)) ⊛ ‵ (words_at rest b (n * 8 + ((k + a) * 8 + o)))) (words_cut 𝓛 n (run ws a n) rest b ((k + a) * 8 + o) (length-run ws a n le)) $ split ! $
      rewrite ! 1 (λ (j : ℕ). ‵ (words_at rest b j)) second refl $ move ! (2 ∷ 1 ∷ []) $ fjoin ! $ move ! (1 ∷ 0 ∷ []) $ done !

  run_in : (ws : List ℤ) (k a n : ℕ) (xs : List ℤ) → a + n ≤ length ws → length xs ≡ n → words xs (k + a) ∗ sem 𝓛 (Around ws k a n) ⊢ words (take a ws ++ (xs ++ drop (a + n) ws)) k
  run_in ws k a n xs le e =
      let rest = drop (a + n) ws in
      let first : a * 8 + (k * 8 + o) ≡ (k + a) * 8 + o = omega arith in
      let second : n * 8 + ((k + a) * 8 + o) ≡ (k + (a + n)) * 8 + o = omega arith in
      qed 𝓛 (‵ (words_at xs b ((k + a) * 8 + o)) ∷ ‵ (Around ws k a n) ∷ []) ∵ move ! (1 ∷ []) $ fsplit ! $ rewrite ! 1 (λ (j : ℕ). ‵ (words_at rest b j)) (sym second) refl $ move ! (2 ∷ 1 ∷ []) $
      use2 𝓛 (‵ (words_at (xs ++ rest) b ((k + a) * 8 + o))) (words_glue 𝓛 n xs rest b ((k + a) * 8 + o) e) $ rewrite ! 0 (λ (j : ℕ). ‵ (words_at (xs ++ rest) b j)) (sym first) refl $ move ! (1 ∷ 0 ∷ []) $
      by ! (words_glue 𝓛 a (take a ws) (xs ++ rest) b (k * 8 + o) (length-take-le a ws (omega arith)))

  -- the same from the first word on
  first_out : (ws : List ℤ) (a n : ℕ) → a + n ≤ length ws → words ws 0 ⊢ words (run ws a n) a ∗ sem 𝓛 (Around ws 0 a n)
  first_out ws a n le = subst (λ j. words ws 0 ⊢ words (run ws a n) j ∗ sem 𝓛 (Around ws 0 a n)) (zero-add a) (run_out ws 0 a n le)

  first_in : (ws : List ℤ) (a n : ℕ) (xs : List ℤ) → a + n ≤ length ws → length xs ≡ n → words xs a ∗ sem 𝓛 (Around ws 0 a n) ⊢ words (overwritten ws a xs) 0
  first_in ws a n xs le e = subst (λ (u : ℕ × List ℤ). words xs u.0 ∗ sem 𝓛 (Around ws 0 a n) ⊢ words u.1 0) (λ i. (zero-add a i, over ws a n xs le e i)) (run_in ws 0 a n xs le e)

  first_back : (ws : List ℤ) (a n : ℕ) → a + n ≤ length ws → words (run ws a n) a ∗ sem 𝓛 (Around ws 0 a n) ⊢ words ws 0
  first_back ws a n le = subst (λ (u : ℕ × List ℤ). words (run ws a n) u.0 ∗ sem 𝓛 (Around ws 0 a n) ⊢ words u.1 0) (λ i. (zero-add a i, around ws a n i)) (run_in ws 0 a n (run ws a n) le (length-run ws a n le))

  empty : (ws : List ℤ) (k : ℕ) → length ws ≡ 0 → emp 𝓤 ⊢ words ws k
  empty [] k e = id⊢ 𝓤 (emp 𝓤)
  empty (x ∷ xs) k e = absurd (suc-ne-zero (length xs) e)

  -- the words, cut into the two runs and the rest, and what they are with xs in the second
  pub record Parted (ws : List ℤ) (a n c m : ℕ) : Type 2 where
    pub rest : SProp 𝓤
    pub out : words ws 0 ⊢ words (run ws a n) a ∗ (words (run ws c m) c ∗ rest)
    pub back : (xs : List ℤ) → length xs ≡ m → words xs c ∗ (words (run ws a n) a ∗ rest) ⊢ words (overwritten ws c xs) 0

  module _ (ws : List ℤ) (a n c m : ℕ) (le : a + n ≤ length ws) (le' : c + m ≤ length ws) where
    abbrev first : List ℤ
    first = run ws a n

    abbrev second : List ℤ
    second = run ws c m

    first_empty : n ≡ 0 → Parted ws a n c m
    first_empty z = record {
      rest = sem 𝓛 (Around ws 0 c m);
      out = qed 𝓛 (‵ (words_at ws b (0 * 8 + o)) ∷ []) ∵ use1 𝓛 (‵ (words_at second b (c * 8 + o)) ⊛ ‵ (Around ws 0 c m)) (first_out ws c m le') $ split ! $
          use0 𝓛 (‵ (words_at first b (a * 8 + o))) (empty first a (length-run ws a n le ∙ z)) $ done !;
      back = λ xs e. qed 𝓛 (‵ (words_at xs b (c * 8 + o)) ∷ ‵ (words_at first b (a * 8 + o)) ∷ ‵ (Around ws 0 c m) ∷ []) ∵ keep ! (0 ∷ 2 ∷ []) $ by ! (first_in ws c m xs le' e);
    }

    second_empty : m ≡ 0 → Parted ws a n c m
    second_empty z = record {
      rest = sem 𝓛 (Around ws 0 a n);
      out = qed 𝓛 (‵ (words_at ws b (0 * 8 + o)) ∷ []) ∵ use1 𝓛 (‵ (words_at first b (a * 8 + o)) ⊛ ‵ (Around ws 0 a n)) (first_out ws a n le) $ split ! $
          use0 𝓛 (‵ (words_at second b (c * 8 + o))) (empty second c (length-run ws c m le' ∙ z)) $ move ! (1 ∷ 0 ∷ []) $ done !;
      back = λ xs e.
          let none : xs ≡ second = nil_of xs (e ∙ z) ∙ sym (nil_of second (length-run ws c m le' ∙ z)) in
          let same : ws ≡ overwritten ws c xs = sym (around ws c m) ∙ ap (λ l. take c ws ++ (l ++ drop (c + m) ws)) (sym none) ∙ over ws c m xs le' e in
          qed 𝓛 (‵ (words_at xs b (c * 8 + o)) ∷ ‵ (words_at first b (a * 8 + o)) ∷ ‵ (Around ws 0 a n) ∷ []) ∵ keep ! (1 ∷ 2 ∷ []) $
          use2 𝓛 (‵ (words_at ws b (0 * 8 + o))) (first_back ws a n le) $ rewrite ! 0 (λ (l : List ℤ). ‵ (words_at l b (0 * 8 + o))) same refl $ done !;
    }

    first_below : a + n ≤ c → Parted ws a n c m
    first_below lower =
        let low = take c ws in let high = drop (c + m) ws in let at = (0 + (c + m)) * 8 + o in
        let fits : a + n ≤ length low = omega (arith, length-take-le c ws (omega arith)) in
        let here : run low a n ≡ first =
        ap (λ (k : ℕ). take n (drop a (take k ws))) {x = c} {y = a + (c - a)} (omega arith) ∙ ap (take n) (drop-take a (c - a) ws) ∙ take-take n (c - a) (drop a ws) (omega arith) in
        record {
          rest = sem 𝓛 (fsep (Around low 0 a n) (words_at high b at));
          out = qed 𝓛 (‵ (words_at ws b (0 * 8 + o)) ∷ []) ∵ use1 𝓛 (‵ (words_at second b (c * 8 + o)) ⊛ ‵ (Around ws 0 c m)) (first_out ws c m le') $ split ! $ move ! (1 ∷ []) $ fsplit ! $
              use1 𝓛 (‵ (words_at (run low a n) b (a * 8 + o)) ⊛ ‵ (Around low 0 a n)) (first_out low a n fits) $ split ! $ rewrite ! 0 (λ (l : List ℤ). ‵ (words_at l b (a * 8 + o))) here refl $
              move ! (1 ∷ 2 ∷ []) $ fjoin ! $ move ! (1 ∷ 2 ∷ 0 ∷ []) $ done !;
          back = λ xs e. qed 𝓛 (‵ (words_at xs b (c * 8 + o)) ∷ ‵ (words_at first b (a * 8 + o)) ∷ ‵ (fsep (Around low 0 a n) (words_at high b at)) ∷ []) ∵ move ! (2 ∷ []) $ fsplit ! $
              rewrite ! 3 (λ (l : List ℤ). ‵ (words_at l b (a * 8 + o))) (sym here) refl $ move ! (3 ∷ 0 ∷ []) $ use2 𝓛 (‵ (words_at low b (0 * 8 + o))) (first_back low a n fits) $ fjoin ! $ move ! (1 ∷ 0 ∷ []) $
              by ! (first_in ws c m xs le' e);
        }

    second_below : c + m ≤ a → Parted ws a n c m
    second_below lower =
        let low = take c ws in let high = drop (c + m) ws in let k = c + m in let far = a - (c + m) in
        let fits : far + n ≤ length high = omega (arith, length-drop (c + m) ws) in
        let at : k + far ≡ a = omega arith in
        let here : run high far n ≡ first = ap (take n) (drop-drop far (c + m) ws) ∙ ap (λ j. take n (drop j ws)) at in
        record {
          rest = sem 𝓛 (fsep (words_at low b (0 * 8 + o)) (Around high k far n));
          out = qed 𝓛 (‵ (words_at ws b (0 * 8 + o)) ∷ []) ∵ use1 𝓛 (‵ (words_at second b (c * 8 + o)) ⊛ ‵ (Around ws 0 c m)) (first_out ws c m le') $ split ! $ move ! (1 ∷ []) $ fsplit ! $ move ! (1 ∷ []) $
              rewrite ! 0 (λ (j : ℕ). ‵ (words_at high b (j * 8 + o))) (zero-add k) refl $
              use1 𝓛 (‵ (words_at (run high far n) b ((k + far) * 8 + o)) ⊛ ‵ (Around high k far n)) (run_out high k far n fits) $ split ! $
              rewrite ! 0 (λ (u : List ℤ × ℕ). ‵ (words_at u.0 b (u.1 * 8 + o))) (λ i. (here i, at i)) refl $ move ! (2 ∷ 1 ∷ []) $ fjoin ! $ move ! (1 ∷ 2 ∷ 0 ∷ []) $ done !;
          back = λ xs e. qed 𝓛 (‵ (words_at xs b (c * 8 + o)) ∷ ‵ (words_at first b (a * 8 + o)) ∷ ‵ (fsep (words_at low b (0 * 8 + o)) (Around high k far n)) ∷ []) ∵ move ! (2 ∷ []) $ fsplit ! $
              rewrite ! 3 (λ (u : List ℤ × ℕ). ‵ (words_at u.0 b (u.1 * 8 + o))) (sym (λ i. (here i, at i))) refl $ move ! (3 ∷ 1 ∷ []) $
              use2 𝓛 (‵ (words_at (take far high ++ (run high far n ++ drop (far + n) high)) b (k * 8 + o))) (run_in high k far n (run high far n) fits (length-run high far n fits)) $
              rewrite ! 0 (λ (u : List ℤ × ℕ). ‵ (words_at u.0 b (u.1 * 8 + o))) (λ i. (around high far n i, sym (zero-add k) i)) refl $ move ! (1 ∷ 0 ∷ []) $ fjoin ! $ move ! (1 ∷ 0 ∷ []) $
              by ! (first_in ws c m xs le' e);
        }

    pub parted : Apart a n c m → Parted ws a n c m
    parted (inl z) = first_empty z
    parted (inr (inl z)) = second_empty z
    parted (inr (inr (inl lower))) = first_below lower
    parted (inr (inr (inr lower))) = second_below lower
