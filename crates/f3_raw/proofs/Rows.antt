-- Words side by side in memory, and room for more after them. Assumes `Logic`.
use Rattle.std.proofs.Common.{◌≡◌, ℕ, zero, suc, ◌+◌, ◌-◌, ◌*◌, ◌<◌, ◌≤◌, ◌^◌, ℤ, List, [], ◌∷◌, ◌++◌, length, length-append, refl, sym, ap, subst, ◌∙◌, arith, w64}
use seplogic.Ra.Ura.{Ura}
use base.Fraction.{full_share}
use base.Logic.{SProp, ent, sep, emp, via, mono_r, mono∗, emp∗, snd∗, assoc∗, assoc'}
use base.Fml.{Fml, feq, fsep, fat, froom}
use mir.Syntax.{ty_int}
use mir.Val.{vint, of_z, hbits}
use lib.Signed.{mag}
use types.Logic.{Logic, sem}
use types.Kit.{‵, ◌$◌, ◌∵◌, !, qed, by, move, use0, use1, use2, rewrite, fsplit, fjoin, feq_i, feq_l, done}
use denote.Array.{Array}
use denote.ArrayMemory.{Array-apart, Array-whole}
use denote.Builtin.{i64}
use denote.Index.{row, place, place_is}
use denote.Memory.{part_at}
use denote.RawPtr.{block_ptr}
use denote.RawPtr.Room.{past, room_glue}
use denote.Signed.{sint_in, sint_out}
use denote.Steps.{nothing}
use Rattle.f3_raw.specs.Ownership.{words_type, memory_owns}

-- words from (b, o) on
abbrev pub words_at : List ℤ → ℕ → ℕ → Fml
words_at ws b o = row i64 full_share ws b o

past_at : (n o : ℕ) → past (ty_int w64) n o ≡ o + n * 8
past_at zero o = omega arith
past_at (suc n) o = omega (arith, past_at n (o + 8))

module _ {M : Type 1} {𝓤 : Ura M} (𝓛 : Logic 𝓤) where
  open 𝓛 use {H}

  abbrev ◌⊢◌ : SProp 𝓤 → SProp 𝓤 → Type 1
  P ⊢ Q = ent 𝓤 P Q

  abbrev ◌∗◌ : SProp 𝓤 → SProp 𝓤 → SProp 𝓤
  P ∗ Q = sep 𝓤 P Q

  abbrev ⟦◌⟧ : Fml → SProp 𝓤
  ⟦ P ⟧ = sem 𝓛 P

  infix 26 ◌⊢◌
  infixr 35 ◌∗◌
  pub array_out : (ws : List ℤ) (b o : ℕ) → ⟦ part_at (Array i64 (length ws)) full_share ws b o ⟧ ⊢ ⟦ words_at ws b o ⟧
  array_out ws b o =
      qed 𝓛 (‵ (part_at (Array i64 (length ws)) full_share ws b o) ∷ []) ∵
      use1 𝓛 (‵ (fsep (feq ℕ (length ws) (length ws)) (words_at ws b o))) (Array-apart 𝓛 i64 full_share tt (length ws) ws b o) $ fsplit ! $ feq_l ! (λ _. done !)

  pub array_in : (ws : List ℤ) (b o : ℕ) → ⟦ words_at ws b o ⟧ ⊢ ⟦ part_at (Array i64 (length ws)) full_share ws b o ⟧
  array_in ws b o =
      qed 𝓛 (‵ (words_at ws b o) ∷ []) ∵ feq_i ! ℕ (length ws) (length ws) refl $ fjoin ! $ by ! (Array-whole 𝓛 i64 full_share (length ws) ws b o)

  cut : (xs ys : List ℤ) (b o : ℕ) → ⟦ words_at (xs ++ ys) b o ⟧ ⊢ ⟦ words_at xs b o ⟧ ∗ ⟦ words_at ys b (place 8 o (length xs)) ⟧
  cut [] ys b o = emp∗ 𝓤 ⟦ words_at ys b o ⟧
  cut (x ∷ xs) ys b o =
      via 𝓤 (⟦ part_at i64 full_share x b o ⟧ ∗ (⟦ words_at xs b (o + 8) ⟧ ∗ ⟦ words_at ys b (place 8 (o + 8) (length xs)) ⟧)) (mono_r 𝓤 ⟦ part_at i64 full_share x b o ⟧ (cut xs ys b (o + 8)))
      (assoc' 𝓤 ⟦ part_at i64 full_share x b o ⟧ ⟦ words_at xs b (o + 8) ⟧ ⟦ words_at ys b (place 8 (o + 8) (length xs)) ⟧)

  glue : (xs ys : List ℤ) (b o : ℕ) → ⟦ words_at xs b o ⟧ ∗ ⟦ words_at ys b (place 8 o (length xs)) ⟧ ⊢ ⟦ words_at (xs ++ ys) b o ⟧
  glue [] ys b o = snd∗ 𝓤 (emp 𝓤) ⟦ words_at ys b o ⟧
  glue (x ∷ xs) ys b o =
      via 𝓤 (⟦ part_at i64 full_share x b o ⟧ ∗ (⟦ words_at xs b (o + 8) ⟧ ∗ ⟦ words_at ys b (place 8 (o + 8) (length xs)) ⟧))
      (assoc∗ 𝓤 ⟦ part_at i64 full_share x b o ⟧ ⟦ words_at xs b (o + 8) ⟧ ⟦ words_at ys b (place 8 (o + 8) (length xs)) ⟧) (mono_r 𝓤 ⟦ part_at i64 full_share x b o ⟧ (glue xs ys b (o + 8)))

  -- a run after n words lies where the machine finds it
  pub words_cut : (n : ℕ) (xs ys : List ℤ) (b o : ℕ) → length xs ≡ n → ⟦ words_at (xs ++ ys) b o ⟧ ⊢ ⟦ words_at xs b o ⟧ ∗ ⟦ words_at ys b (n * 8 + o) ⟧
  words_cut n xs ys b o e = subst (λ (k : ℕ). ⟦ words_at (xs ++ ys) b o ⟧ ⊢ ⟦ words_at xs b o ⟧ ∗ ⟦ words_at ys b k ⟧) (place_is 8 o (length xs) ∙ ap (λ k. k * 8 + o) e) (cut xs ys b o)

  pub words_glue : (n : ℕ) (xs ys : List ℤ) (b o : ℕ) → length xs ≡ n → ⟦ words_at xs b o ⟧ ∗ ⟦ words_at ys b (n * 8 + o) ⟧ ⊢ ⟦ words_at (xs ++ ys) b o ⟧
  words_glue n xs ys b o e = subst (λ (k : ℕ). ⟦ words_at xs b o ⟧ ∗ ⟦ words_at ys b k ⟧ ⊢ ⟦ words_at (xs ++ ys) b o ⟧) (place_is 8 o (length xs) ∙ ap (λ k. k * 8 + o) e) (glue xs ys b o)

  -- memory for no word is nothing
  pub nothing_owned : (b o : ℕ) → emp 𝓤 ⊢ ⟦ memory_owns (block_ptr b o) 0 [] ⟧
  nothing_owned b o = via 𝓤 (emp 𝓤 ∗ emp 𝓤) (emp∗ 𝓤 (emp 𝓤)) (qed 𝓛 (‵ (words_at [] b o) ∷ ‵ (words_at [] b (o + 0)) ∷ []) ∵
      use1 𝓛 (‵ (part_at (Array i64 0) full_share [] b o)) (array_in [] b o) $ move ! (1 ∷ []) $ use1 𝓛 (‵ (froom (words_type 0) b (o + 0))) (𝓛.laws.room_nil (ty_int w64) b (o + 0)) $ move ! (1 ∷ 0 ∷ []) $ fjoin ! $ done !)

  -- room in which no word is written
  pub fresh : (n b o : ℕ) → H.room (words_type n) b o ⊢ ⟦ memory_owns (block_ptr b o) n [] ⟧
  fresh n b o =
      let all : n ≡ n - 0 = omega arith in let from : o ≡ o + 0 * 8 = omega arith in
      qed 𝓛 (‵ (froom (words_type n) b o) ∷ []) ∵ rewrite ! 0 (λ (u : ℕ × ℕ). ‵ (froom (words_type u.0) b u.1)) (λ i. (all i, from i)) refl $
      use0 𝓛 (‵ (part_at (Array i64 0) full_share [] b o)) (array_in [] b o) $ fjoin ! $ done !

  -- the first place of the room after n words, and the room after it
  pub spare_out : (n size b o : ℕ) → n < size → H.room (words_type (size - n)) b (o + n * 8) ⊢ H.room (ty_int w64) b (n * 8 + o) ∗ H.room (words_type (size - (n + 1))) b (o + (n + 1) * 8)
  spare_out n size b o less =
      let more : suc (size - (n + 1)) ≡ size - n = omega arith in
      let at : o + n * 8 ≡ n * 8 + o = omega arith in
      let next : o + n * 8 + 8 ≡ o + (n + 1) * 8 = omega arith in
      subst (λ (u : ℕ × ℕ × ℕ). H.room (words_type u.0) b (o + n * 8) ⊢ H.room (ty_int w64) b u.1 ∗ H.room (words_type (size - (n + 1))) b u.2) (λ i. (more i, at i, next i))
      (𝓛.laws.room_uncons (ty_int w64) (size - (n + 1)) b (o + n * 8))

  -- one more word, and what is left of the room
  pub appended : (n size b o : ℕ) (ws : List ℤ) (word : ℤ) → length ws ≡ n → mag word < 2 ^ hbits w64
      → ⟦ words_at ws b o ⟧ ∗ (H.at full_share (ty_int w64) b (n * 8 + o) (vint w64 (of_z w64 word)) ∗ H.room (words_type (size - (n + 1))) b (o + (n + 1) * 8)) ⊢ ⟦ memory_owns (block_ptr b o) size (ws ++ word ∷ []) ⟧
  appended n size b o ws word e fits =
      let long : n + 1 ≡ length (ws ++ word ∷ []) = omega (arith, e, length-append ws (word ∷ [])) in
      qed 𝓛 (‵ (words_at ws b o) ∷ ‵ (fat full_share (ty_int w64) b (n * 8 + o) (vint w64 (of_z w64 word))) ∷ ‵ (froom (words_type (size - (n + 1))) b (o + (n + 1) * 8)) ∷ []) ∵
      rewrite ! 2 (λ (k : ℕ). ‵ (froom (words_type (size - k)) b (o + k * 8))) long refl $
      move ! (1 ∷ []) $ use1 𝓛 (‵ (part_at i64 full_share word b (n * 8 + o))) (sint_in 𝓛 full_share w64 word b (n * 8 + o) fits) $
      nothing ! $ move ! (1 ∷ 0 ∷ []) $ fjoin ! $ move ! (1 ∷ 0 ∷ []) $
      use2 𝓛 (‵ (words_at (ws ++ word ∷ []) b o)) (words_glue n ws (word ∷ []) b o e) $
      use1 𝓛 (‵ (part_at (Array i64 (length (ws ++ word ∷ []))) full_share (ws ++ word ∷ []) b o)) (array_in (ws ++ word ∷ []) b o) $ fjoin ! $ done !

  -- a word let go leaves room
  word_room : (x : ℤ) (b o : ℕ) → ⟦ part_at i64 full_share x b o ⟧ ⊢ H.room (ty_int w64) b o
  word_room x b o = via 𝓤 (H.at full_share (ty_int w64) b o (vint w64 (of_z w64 x))) (sint_out 𝓛 full_share w64 x b o) (𝓛.laws.at_room (ty_int w64) b o (vint w64 (of_z w64 x)))

  words_room : (ws : List ℤ) (b o : ℕ) → ⟦ words_at ws b o ⟧ ⊢ H.room (words_type (length ws)) b o
  words_room [] b o = 𝓛.laws.room_nil (ty_int w64) b o
  words_room (x ∷ ws) b o =
      via 𝓤 (H.room (ty_int w64) b o ∗ H.room (words_type (length ws)) b (o + 8)) (mono∗ 𝓤 (word_room x b o) (words_room ws b (o + 8))) (𝓛.laws.room_cons (ty_int w64) (length ws) b o)

  -- with its words let go, the memory is room again
  pub all_room : (size b o : ℕ) (ws : List ℤ) → length ws ≤ size → ⟦ memory_owns (block_ptr b o) size ws ⟧ ⊢ H.room (words_type size) b o
  all_room size b o ws le =
      let n = length ws in
      let whole : n + (size - n) ≡ size = omega arith in
      qed 𝓛 (‵ (memory_owns (block_ptr b o) size ws) ∷ []) ∵ fsplit ! $ use1 𝓛 (‵ (words_at ws b o)) (array_out ws b o) $ use1 𝓛 (‵ (froom (words_type n) b o)) (words_room ws b o) $
      rewrite ! 1 (λ (k : ℕ). ‵ (froom (words_type (size - n)) b k)) (sym (past_at n o)) refl $
      use2 𝓛 (‵ (froom (words_type (n + (size - n))) b o)) (room_glue 𝓛 (ty_int w64) n (size - n) b o) $ rewrite ! 0 (λ (k : ℕ). ‵ (froom (words_type k) b o)) whole refl $ done !
