-- Laws on moving an allocatable.
use Rattle.std.proofs.Common.{◌≡◌, ◌≢◌, ℕ, ℤ, pos, ◌+◌, ◌-◌, ◌*◌, ◌<◌, ◌≤◌, ◌⊎◌, inl, inr, List, [], ◌∷◌, ◌++◌, length, take, drop, set, get_or, refl, ap, sym, subst, ◌∙◌, arith}
use Rattle.std.specs.Prelude.{None}
use Rattle.std.specs.FinMap.{get}
use Rattle.std.proofs.lemmas.Bool.{cases_eq}
use Rattle.std.proofs.lemmas.List.{length-set, take_more, get_or-drop, length-take-le, length-drop}
use Rattle.f3_live_blocks.specs.Blocks.{Live, IsLive, words_of, with_words}
use Rattle.f3_heap_laws.specs.Account.{used_by}
use Rattle.f3_live_blocks.proofs.Laws.{get-insert_other, words-insert_other, live-insert}
use Rattle.f3_desc.specs.Shape.{Shape, Holder}
use Rattle.f3_objects.specs.Tree.{Tree, words, times, first_block, IsHolder, unallocated, allocated, Fits}
use Rattle.f3_objects.specs.Holds.{Holds, Moves, with_words_at, with_moved}
use Rattle.f3_objects.proofs.Trees.{size-fits}
use Rattle.f3_objects.proofs.Spans.{length-written, written_there, written_same, window_before, window_behind, window_set_before, window_set_behind, window_anew, read_outside}
use Rattle.f3_objects.proofs.Changes.{same_live, same_words, held-same}
use Rattle.f3_objects.proofs.Holders.{first_word_is}
use Rattle.f3_objects.proofs.Writes.{Wrote, words-with, wrote_words, wrote_live, wrote_length, wrote_more}
use Rattle.f3_objects.proofs.Used.{used-with_words}

-- two parts of one block are one and the same, or do not meet
abbrev pub Apart : ℕ → ℕ → ℕ → Type 0
Apart a b n = (a ≡ b) ⊎ ((a + n ≤ b) ⊎ (b + n ≤ a))

-- what is read from the first while words are written into the second
pub read_wrote : (old now : Live) (from a to b n i : ℕ) (ys : List ℤ) (d : ℤ) → Wrote old now to b ys → length ys ≡ i → i < n → b + n ≤ length (words_of old to) → (from ≡ to → Apart a b n) → get_or (words_of now from) (a + i) d ≡ get_or (words_of old from) (a + i) d
read_wrote old now from a to b n i ys d w e l m ap' = elim (cases_eq from to) [
  | inr ne ↦ ap (λ (x : Live). get_or (words_of x from) (a + i) d) w.is ∙ ap (λ (x : List ℤ). get_or x (a + i) d) (words-insert_other old to _ from ne)
  | inl is ↦
      let out : (a + i < b) ⊎ (b + length ys ≤ a + i) = outside (ap' is) in
      let same : words_of now from ≡ with_words_at (words_of old from) b ys = ap (words_of now) is ∙ (wrote_words old now to b ys w ∙ ap (λ (x : ℕ). with_words_at (words_of old x) b ys) (sym is)) in
      let le : b ≤ length (words_of old from) = (let k : length (words_of old from) ≡ length (words_of old to) = ap (λ (x : ℕ). length (words_of old x)) is in omega arith) in
      ap (λ (x : List ℤ). get_or x (a + i) d) same ∙ read_outside (words_of old from) b (a + i) ys d le out
]
  where
    outside : Apart a b n → (a + i < b) ⊎ (b + length ys ≤ a + i)
    outside (inl x) = inr (omega arith)
    outside (inr (inl x)) = inl (omega arith)
    outside (inr (inr x)) = inr (omega arith)

pub wrote_from : (old now : Live) (from to b : ℕ) (ys : List ℤ) → Wrote old now to b ys → b + length ys ≤ length (words_of old to) → IsLive old from → (IsLive now from) × (length (words_of now from) ≡ length (words_of old from))
wrote_from old now from to b ys w l h = elim (cases_eq from to) [
  | inl e ↦ (let P : ℕ → Type 0 = λ x. IsLive now x in subst P (sym e) (wrote_live old now to b ys w), ap (λ (x : ℕ). length (words_of now x)) e ∙ (wrote_length old now to b ys l w ∙ ap (λ (x : ℕ). length (words_of old x)) (sym e)))
  | inr n ↦
      let same : get now from ≡ get old from = ap (λ (m : Live). get m from) w.is ∙ get-insert_other old to _ from n in
      (same_live old now from same h, ap length (same_words old now from same))
]

-- one word more
pub moved_more : (old mid new : Live) (from a to b n i : ℕ) (word : ℤ) → Wrote old mid to b (take i (drop a (words_of old from))) → i < n → a + n ≤ length (words_of old from) → b + n ≤ length (words_of old to) → (from ≡ to → Apart a b n) → word ≡ get_or (words_of mid from) (a + i) (pos 0) → new ≡ with_words mid to (set (words_of mid to) (b + i) word) → Wrote old new to b (take (i + 1) (drop a (words_of old from)))
moved_more old mid new from a to b n i word w l la lb apart r e =
    let ws = drop a (words_of old from) in
    let size : length ws ≡ length (words_of old from) - a = length-drop a (words_of old from) in
    let len : length (take i ws) ≡ i = length-take-le i ws (omega arith) in
    let read : word ≡ get_or ws i (pos 0) = r ∙ (read_wrote old mid from a to b n i (take i ws) (pos 0) w len l lb apart ∙ sym (get_or-drop a (words_of old from) i (pos 0))) in
    let more = wrote_more old mid new to b i (take i ws) word w len (omega arith) e in
    let P : List ℤ → Type 0 = λ x. Wrote old new to b x in
    subst P (ap (λ (x : ℤ). take i ws ++ x ∷ []) read ∙ sym (take_more ws i (pos 0) (omega arith))) more

-- an allocatable's words: one, and its bounds
record Split (rank : ℕ) (t : Tree) : Type 0 where
  dims : List ℤ
  sized : length dims ≡ 2 * rank
  word : ℤ
  is : words t ≡ word ∷ (dims ++ [])

split_in : (rank : ℕ) (P : Tree → Type 0) (t : Tree) → IsHolder rank P t → Split rank t
split_in rank P t (unallocated d e) = record { dims = d; sized = e; word = pos 0; is = refl }
split_in rank P t (allocated b d c e r) = record { dims = d; sized = e; word = pos b; is = refl }

none_zero : (rank : ℕ) (P : Tree → Type 0) (t : Tree) → IsHolder rank P t → first_block t ≡ None → (dims : List ℤ) × (words t ≡ pos 0 ∷ (dims ++ []))
none_zero rank P t (unallocated d e) f = (d, refl)
none_zero rank P t (allocated b d c e r) f = cc

-- both within one list of words
module _ (ws : List ℤ) (a b : ℕ) (x : ℤ) (ds : List ℤ) (e : take (length (x ∷ ds)) (drop a ws) ≡ x ∷ ds) (la : a + length (x ∷ ds) ≤ length ws) (lb : b + length (x ∷ ds) ≤ length ws) where
  stays : Apart a b (length (x ∷ ds)) → take (length (x ∷ ds)) (drop a (with_words_at ws b (x ∷ ds))) ≡ x ∷ ds
  stays (inl is) =
      let P : ℕ → Type 0 = λ k. take (length (x ∷ ds)) (drop k ws) ≡ x ∷ ds in
      let f = subst P is e in
      ap (λ (l : List ℤ). take (length (x ∷ ds)) (drop a l)) (written_same ws b (x ∷ ds) f) ∙ e
  stays (inr (inl l)) = window_before ws b a (length (x ∷ ds)) (x ∷ ds) l (omega arith) ∙ e
  stays (inr (inr l)) = window_behind ws b a (length (x ∷ ds)) (x ∷ ds) l (omega arith) ∙ e

  source_there : Apart a b (length (x ∷ ds)) → take (length (pos 0 ∷ ds)) (drop a (set (with_words_at ws b (x ∷ ds)) a (pos 0))) ≡ pos 0 ∷ ds
  source_there k = window_anew (with_words_at ws b (x ∷ ds)) a x (pos 0) ds (stays k)

  target_there : Apart a b (length (x ∷ ds)) → (a ≡ b → x ≡ pos 0) → take (length (x ∷ ds)) (drop b (set (with_words_at ws b (x ∷ ds)) a (pos 0))) ≡ x ∷ ds
  target_there (inl is) z =
      let zero : x ≡ pos 0 = z is in
      let P : ℕ → Type 0 = λ k. take (length (pos 0 ∷ ds)) (drop k (set (with_words_at ws b (x ∷ ds)) a (pos 0))) ≡ pos 0 ∷ ds in
      let f = subst P is (source_there (inl is)) in
      f ∙ ap (λ (y : ℤ). y ∷ ds) (sym zero)
  target_there (inr (inl l)) z = window_set_before (with_words_at ws b (x ∷ ds)) a b (length (x ∷ ds)) (pos 0) (omega arith) ∙ written_there ws b (x ∷ ds) (omega arith)
  target_there (inr (inr l)) z = window_set_behind (with_words_at ws b (x ∷ ds)) a b (length (x ∷ ds)) (pos 0) l ∙ written_there ws b (x ∷ ds) (omega arith)

module _ (old : Live) (from a to b : ℕ) (x : ℤ) (ds : List ℤ) (e : take (length (x ∷ ds)) (drop a (words_of old from)) ≡ x ∷ ds) (la : a + length (x ∷ ds) ≤ length (words_of old from)) (lb : b + length (x ∷ ds) ≤ length (words_of old to)) (apart : from ≡ to → Apart a b (length (x ∷ ds))) where
  from_apart : from ≢ to → words_of (with_moved old from a to b (x ∷ ds)) from ≡ set (words_of old from) a (pos 0)
  from_apart n =
      let mid = with_words old to (with_words_at (words_of old to) b (x ∷ ds)) in
      words-with mid from (set (words_of mid from) a (pos 0)) ∙ ap (λ (l : List ℤ). set l a (pos 0)) (words-insert_other old to _ from n)

  from_same : from ≡ to → words_of (with_moved old from a to b (x ∷ ds)) from ≡ set (with_words_at (words_of old from) b (x ∷ ds)) a (pos 0)
  from_same is =
      let mid = with_words old to (with_words_at (words_of old to) b (x ∷ ds)) in
      let first : words_of mid from ≡ with_words_at (words_of old from) b (x ∷ ds) = ap (words_of mid) is ∙ (words-with old to _ ∙ ap (λ (q : ℕ). with_words_at (words_of old q) b (x ∷ ds)) (sym is)) in
      words-with mid from (set (words_of mid from) a (pos 0)) ∙ ap (λ (l : List ℤ). set l a (pos 0)) first

  same_length : from ≡ to → length (words_of old from) ≡ length (words_of old to)
  same_length is = ap (λ (q : ℕ). length (words_of old q)) is

  -- the source's words, with no allocation
  pub moved_source : take (length (pos 0 ∷ ds)) (drop a (words_of (with_moved old from a to b (x ∷ ds)) from)) ≡ pos 0 ∷ ds
  moved_source = elim (cases_eq from to) [
    | inr n ↦ ap (λ (l : List ℤ). take (length (pos 0 ∷ ds)) (drop a l)) (from_apart n) ∙ window_anew (words_of old from) a x (pos 0) ds e
    | inl is ↦
        let k = same_length is in
        ap (λ (l : List ℤ). take (length (pos 0 ∷ ds)) (drop a l)) (from_same is) ∙ source_there (words_of old from) a b x ds e la (omega arith) (apart is)
  ]

  pub source_length : length (words_of (with_moved old from a to b (x ∷ ds)) from) ≡ length (words_of old from)
  source_length = elim (cases_eq from to) [
    | inr n ↦ ap length (from_apart n) ∙ length-set (words_of old from) a (pos 0)
    | inl is ↦
        let k = same_length is in
        ap length (from_same is) ∙ (length-set (with_words_at (words_of old from) b (x ∷ ds)) a (pos 0) ∙ length-written (words_of old from) b (x ∷ ds) (omega arith))
  ]

  to_apart : to ≢ from → words_of (with_moved old from a to b (x ∷ ds)) to ≡ with_words_at (words_of old to) b (x ∷ ds)
  to_apart n =
      let mid = with_words old to (with_words_at (words_of old to) b (x ∷ ds)) in
      words-insert_other mid from _ to n ∙ words-with old to _

  -- the target's words
  pub moved_target : (from ≡ to → a ≡ b → x ≡ pos 0) → take (length (x ∷ ds)) (drop b (words_of (with_moved old from a to b (x ∷ ds)) to)) ≡ x ∷ ds
  moved_target z = elim (cases_eq to from) [
    | inr n ↦ ap (λ (l : List ℤ). take (length (x ∷ ds)) (drop b l)) (to_apart n) ∙ written_there (words_of old to) b (x ∷ ds) (omega arith)
    | inl si ↦
        let is = sym si in
        let k = same_length is in
        ap (λ (q : ℕ). take (length (x ∷ ds)) (drop b (words_of (with_moved old from a to b (x ∷ ds)) q))) si ∙ (ap (λ (l : List ℤ). take (length (x ∷ ds)) (drop b l)) (from_same is) ∙ target_there (words_of old from) a b x ds e la (omega arith) (apart is) (z is))
  ]

  pub target_length : length (words_of (with_moved old from a to b (x ∷ ds)) to) ≡ length (words_of old to)
  target_length = elim (cases_eq to from) [
    | inr n ↦ ap length (to_apart n) ∙ length-written (words_of old to) b (x ∷ ds) lb
    | inl si ↦
        ap (λ (q : ℕ). length (words_of (with_moved old from a to b (x ∷ ds)) q)) si ∙ (source_length ∙ same_length (sym si))
  ]

  pub moved_live : (q : ℕ) → IsLive old q → IsLive (with_moved old from a to b (x ∷ ds)) q
  moved_live q l = live-insert _ from _ q (live-insert old to _ q l)

  pub moved_other : (q : ℕ) → q ≢ from → q ≢ to → get (with_moved old from a to b (x ∷ ds)) q ≡ get old q
  moved_other q f t = get-insert_other _ from _ q f ∙ get-insert_other old to _ q t

-- what stands where after a move
pub moves : (old new : Live) (from a to b rank : ℕ) (s s' : Shape) (t u : Tree) → Holds old from a (Holder rank s) t → Holds old to b (Holder rank s') u → first_block u ≡ None → times to t ≡ 0 → (from ≡ to → Apart a b (1 + 2 * rank)) → new ≡ with_moved old from a to b (words t) → Moves old new from a to b rank s t
moves old new from a to b rank s s' t u h k none beneath apart e =
    let p = split_in rank (Fits s) t h.fits in
    let z = none_zero rank (Fits s') u k.fits none in
    let n : length (words t) ≡ 1 + 2 * rank = size-fits (Holder rank s) t h.fits in
    let m : length (words u) ≡ 1 + 2 * rank = size-fits (Holder rank s') u k.fits in
    let x = p.word in
    let ds = p.dims ++ [] in
    let n' : length (x ∷ ds) ≡ 1 + 2 * rank = sym (ap length p.is) ∙ n in
    let there : take (length (x ∷ ds)) (drop a (words_of old from)) ≡ x ∷ ds = (let P : List ℤ → Type 0 = λ l. take (length l) (drop a (words_of old from)) ≡ l in let f = h.stands.there in subst P p.is f) in
    let la : a + length (x ∷ ds) ≤ length (words_of old from) = (let w = h.stands.within in omega arith) in
    let lb : b + length (x ∷ ds) ≤ length (words_of old to) = (let w = k.stands.within in omega arith) in
    let ap' : from ≡ to → Apart a b (length (x ∷ ds)) = (λ is. let P : ℕ → Type 0 = λ c. Apart a b c in subst P (sym n') (apart is)) in
    let zero : from ≡ to → a ≡ b → x ≡ pos 0 = (λ is same. same_first (words_of old from) (words_of old to) a b x ds (z.0 ++ []) (ap (words_of old) is) same there (let P : List ℤ → Type 0 = λ l. take (length l) (drop b (words_of old to)) ≡ l in let f = k.stands.there in subst P z.1 f)) in
    let e' : new ≡ with_moved old from a to b (x ∷ ds) = e ∙ ap (with_moved old from a to b) p.is in
    let P : Live → Type 0 = λ m. Moves old m from a to b rank s t in
    let Q : List ℤ → Type 0 = λ l. take (length l) (drop b (words_of (with_moved old from a to b (x ∷ ds)) to)) ≡ l in
    let mine = with_moved old from a to b (x ∷ ds) in
    subst P (sym e') (record {
      is = ap (with_moved old from a to b) (sym p.is);
      target = record {
        stands = record {
          live = moved_live old from a to b x ds there la lb ap' to k.stands.live;
          within = let l = target_length old from a to b x ds there la lb ap' in omega arith;
          there = subst Q (sym p.is) (moved_target old from a to b x ds there la lb ap' zero);
          held = held-same old mine t (λ q i.
              let nf : q ≢ from = λ is. let d = h.stands.apart in let c : 0 < times from t = (let R : ℕ → Type 0 = λ y. 0 < times y t in subst R is i) in omega arith in
              let nt : q ≢ to = λ is. let c : 0 < times to t = (let R : ℕ → Type 0 = λ y. 0 < times y t in subst R is i) in omega arith in
              moved_other old from a to b x ds there la lb ap' q nf nt) h.stands.held;
          once = h.stands.once;
          apart = beneath;
        };
        fits = h.fits;
      };
      source = (
        p.dims,
        record {
          stands = record {
            live = moved_live old from a to b x ds there la lb ap' from h.stands.live;
            within = let l = source_length old from a to b x ds there la lb ap' in omega arith;
            there = moved_source old from a to b x ds there la lb ap';
            held = tt;
            once = λ q. omega arith;
            apart = refl;
          };
          fits = unallocated p.dims p.sized;
        },
      );
    })
  where
    same_first : (v w : List ℤ) (a b : ℕ) (x : ℤ) (ds cs : List ℤ) → v ≡ w → a ≡ b → take (length (x ∷ ds)) (drop a v) ≡ x ∷ ds → take (length (pos 0 ∷ cs)) (drop b w) ≡ pos 0 ∷ cs → x ≡ pos 0
    same_first v w a b x ds cs ev ea f g =
        let h : get_or w b (pos 0) ≡ pos 0 = first_word_is w b (pos 0) cs g in
        let k : get_or v a (pos 0) ≡ x = first_word_is v a x ds f in
        sym k ∙ (ap (λ (l : List ℤ). get_or l a (pos 0)) ev ∙ (ap (λ (j : ℕ). get_or w j (pos 0)) ea ∙ h))

pub holder_bounds : (m : Live) (a n rank : ℕ) (s : Shape) (t : Tree) → Holds m a n (Holder rank s) t → n + (1 + 2 * rank) ≤ length (words_of m a)
holder_bounds m a n rank s t h = let w = h.stands.within in let l = size-fits (Holder rank s) t h.fits in omega arith

-- the end of the loop, and the last word
pub moved_all : (old mid new : Live) (from a to b rank i : ℕ) (s : Shape) (t : Tree) → Holds old from a (Holder rank s) t → 1 + 2 * rank ≤ i → i ≤ 1 + 2 * rank → Wrote old mid to b (take i (drop a (words_of old from))) → new ≡ with_words mid from (set (words_of mid from) a (pos 0)) → new ≡ with_moved old from a to b (words t)
moved_all old mid new from a to b rank i s t h l m w e =
    let n : i ≡ length (words t) = (let k = size-fits (Holder rank s) t h.fits in omega arith) in
    let whole : take i (drop a (words_of old from)) ≡ words t = ap (λ (k : ℕ). take k (drop a (words_of old from))) n ∙ h.stands.there in
    let is : mid ≡ with_words old to (with_words_at (words_of old to) b (words t)) = w.is ∙ ap (λ (l : List ℤ). with_words old to (with_words_at (words_of old to) b l)) whole in
    e ∙ ap (λ (x : Live). with_words x from (set (words_of x from) a (pos 0))) is

pub taken_length : (old : Live) (from a n i : ℕ) → i ≤ n → a + n ≤ length (words_of old from) → length (take i (drop a (words_of old from))) ≡ i
taken_length old from a n i l w = length-take-le i (drop a (words_of old from)) (let k = length-drop a (words_of old from) in omega arith)

-- words written over words, and then one word
pub used_moved : (old mid new : Live) (from a to b : ℕ) (ys : List ℤ) → IsLive old from → IsLive old to → Wrote old mid to b ys → b + length ys ≤ length (words_of old to) → new ≡ with_words mid from (set (words_of mid from) a (pos 0)) → used_by new ≡ used_by old
used_moved old mid new from a to b ys from_live to_live w fit is =
    let k = wrote_from old mid from to b ys w fit from_live in
    ap used_by is
    ∙ (used-with_words mid from (set (words_of mid from) a (pos 0)) k.0 (length-set (words_of mid from) a (pos 0))
    ∙ (ap used_by w.is ∙ used-with_words old to _ to_live (length-written (words_of old to) b ys fit)))
