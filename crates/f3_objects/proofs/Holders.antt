-- Laws on allocatables.
use Rattle.std.proofs.Common.{◌≡◌, ◌≢◌, ℕ, ℤ, pos, ◌+◌, ◌<◌, ◌⊎◌, inl, inr, cond, true, false, Bool, nat_eq, List, [], ◌∷◌, ◌++◌, length, take, drop, set, get_or, refl, ap, sym, subst, ◌∙◌, arith, is_some}
use Rattle.std.specs.Prelude.{Option, None, Some, IfSome, IsSome, ◌↔◌, ◌<ℤ◌}
use Rattle.std.proofs.lemmas.Int.{ints}
use Rattle.std.specs.FinMap.{get, remove}
use Rattle.std.proofs.lemmas.Bool.{eq-eqb, ne_eqb, cases_eq}
use Rattle.std.proofs.lemmas.List.{take_all, get_or-take, get_or-drop}
use Rattle.f3_live_blocks.specs.Blocks.{Live, IsLive, words_of, pins_of, with_words}
use Rattle.f3_live_blocks.proofs.Laws.{get-insert_other, get-remove_same, get-remove_other, live-insert_same, words-insert_same, pins-insert_same, live-remove_other, words-remove_other, pins-remove_other}
use Rattle.f3_desc.specs.Shape.{Shape, Holder, Times}
use Rattle.f3_objects.specs.Tree.{Tree, End, Unallocated, Allocated, words, times, one_at, elements, first_block, IsHolder, unallocated, allocated, Fits, IsBare}
use Rattle.f3_objects.specs.Holds.{Stands, Holds, IsContents, Replaces, Frees, is_free, left, with_words_at}
use Rattle.f3_objects.proofs.Trees.{zero_or_more, left-bare, is_free-bare, size-left, free-left, size-fits}
use Rattle.f3_objects.proofs.Spans.{written_same, written_whole, written_first}
use Rattle.f3_objects.proofs.Changes.{not_dead, same_live, same_words, same_pins, replaces_same}

abbrev one_of : Bool → ℕ
one_of k = cond k 1 0

-- whether a name is the block's own
pub own_or_other : (q b : ℕ) → ((q ≡ b) × (one_at q b ≡ 1)) ⊎ ((q ≢ b) × (one_at q b ≡ 0))
own_or_other q b = elim (cases_eq q b) [
  | inl e ↦ inl (e, ap one_of (eq-eqb q b e))
  | inr n ↦ inr (n, ap one_of (ne_eqb q b n))
]

own_once : (b : ℕ) → one_at b b ≡ 1
own_once b = ap one_of (eq-eqb b b refl)

-- an allocatable with a block
pub record Allocation (m : Live) (b : ℕ) (s : Shape) (t : Tree) : Type 0 where
  pub dims : List ℤ
  pub contents : Tree
  pub is : t ≡ Allocated b dims contents End
  pub inside : IsContents m b s (elements dims) contents
  pub positive : 0 < b

some_same : (a b : ℕ) → Some a ≡ Some b → a ≡ b
some_same a b e = cc

pub contents_of : (m : Live) (block at b : ℕ) (dims : List ℤ) (c : Tree) (s : Shape) → Stands m block at (Allocated b dims c End) → Fits (Times (elements dims) s) c → IsContents m b s (elements dims) c
contents_of m block at b dims c s st f =
    let h = st.held in
    let own = own_once b in
    let once = st.once b in
    record {
      holds = record {
        stands = record {
          live = h.0;
          within = let e : length (words_of m b) ≡ length (words c) = ap length h.1 in omega arith;
          there = ap (take (length (words c))) h.1 ∙ take_all (length (words c)) (words c) (omega arith);
          held = h.2;
          once = λ q. let o = st.once q in omega arith;
          apart = omega arith;
        };
        fits = f;
      };
      exact = h.1;
    }

allocation_in : (m : Live) (block at rank : ℕ) (s : Shape) (b : ℕ) (t : Tree) → IsHolder rank (Fits s) t → Stands m block at t → first_block t ≡ Some b → Allocation m b s t
allocation_in m block at rank s b t (unallocated d e) st f = cc
allocation_in m block at rank s b t (allocated b' d c e r) st f =
    let same : b' ≡ b = some_same b' b f in
    let P : ℕ → Type 0 = λ x. Allocation m x s (Allocated b' d c End) in
    subst P same (record { dims = d; contents = c; is = refl; inside = contents_of m block at b' d c s st r; positive = st.held.4 })

pub allocation : (m : Live) (block at rank : ℕ) (s : Shape) (b : ℕ) (t : Tree) → Holds m block at (Holder rank s) t → first_block t ≡ Some b → Allocation m b s t
allocation m block at rank s b t h f = allocation_in m block at rank s b t h.fits h.stands f

bare_holder : (rank : ℕ) (P : Tree → Type 0) (t : Tree) → IsHolder rank P t → first_block t ≡ None → IsBare t
bare_holder rank P t (unallocated d e) f = λ q. refl
bare_holder rank P t (allocated b d c e r) f = cc

-- nothing is given where nothing stands beneath
pub frees_bare : (m : Live) (block at : ℕ) (t : Tree) → Stands m block at t → IsBare t → Frees m m block at t true
frees_bare m block at t s bare = record {
  replaced = let P : Tree → Type 0 = λ u. Replaces m m block at t u in subst P (sym (left-bare (pins_of m) t bare)) (replaces_same m block at t s);
  answered = sym (is_free-bare (pins_of m) t bare);
}

pub frees_none : (m : Live) (block at rank : ℕ) (s : Shape) (t : Tree) → Holds m block at (Holder rank s) t → first_block t ≡ None → Frees m m block at t true
frees_none m block at rank s t h f = frees_bare m block at t h.stands (bare_holder rank (Fits s) t h.fits f)

-- a pinned block stays
pinned_left : (p : ℕ → ℕ) (b : ℕ) (d : List ℤ) (c : Tree) → 0 < p b → (left p (Allocated b d c End) ≡ Allocated b d c End) × (is_free p (Allocated b d c End) ≡ false)
pinned_left p b d c l =
    let e : nat_eq (p b) 0 ≡ false = ne_eqb (p b) 0 (λ z. omega arith) in
    (rw e refl, rw e refl)

pub frees_pinned : (m : Live) (block at rank : ℕ) (s : Shape) (b : ℕ) (t : Tree) → Holds m block at (Holder rank s) t → first_block t ≡ Some b → 0 < pins_of m b → Frees m m block at t false
frees_pinned m block at rank s b t h f l =
    let a = allocation m block at rank s b t h f in
    let k = pinned_left (pins_of m) b a.dims a.contents l in
    let stays : left (pins_of m) t ≡ t = ap (left (pins_of m)) a.is ∙ (k.0 ∙ sym a.is) in
    record {
      replaced = let P : Tree → Type 0 = λ u. Replaces m m block at t u in subst P (sym stays) (replaces_same m block at t h.stands);
      answered = sym (ap (is_free (pins_of m)) a.is ∙ k.1);
    }

-- what changes beneath an allocatable
module _ (old new : Live) (block at b : ℕ) (dims : List ℤ) (c c' : Tree) (s : Stands old block at (Allocated b dims c End)) (r : Replaces old new b 0 c c') where
  block_not_own : block ≢ b
  block_not_own = λ e. let a = s.apart in let o : one_at block b ≡ 1 = ap one_of (eq-eqb block b e) in omega arith

  block_not_in : times block c ≡ 0
  block_not_in = let a = s.apart in omega arith

  own_not_in : times b c ≡ 0
  own_not_in = let o = own_once b in let a = s.once b in omega arith

  block_not_new : times block c' ≡ 0
  block_not_new = elim (zero_or_more (times block c')) [
    | inl z ↦ z
    | inr z ↦ absurd (not_dead old block s.live ((r.taken block z block_not_in).0))
  ]

  pub own_not_new : times b c' ≡ 0
  own_not_new = elim (zero_or_more (times b c')) [
    | inl z ↦ z
    | inr z ↦ absurd (not_dead old b s.held.0 ((r.taken b z own_not_in).0))
  ]

  pub holder_stays : get new block ≡ get old block
  holder_stays = r.others block block_not_own block_not_new block_not_in

  pub holder_written : words_of new block ≡ with_words_at (words_of old block) at (pos b ∷ (dims ++ []))
  holder_written = same_words old new block holder_stays ∙ sym (written_same (words_of old block) at (pos b ∷ (dims ++ [])) s.there)

  pub replaces_beneath : length (words c') ≡ length (words c) → Replaces old new block at (Allocated b dims c End) (Allocated b dims c' End)
  replaces_beneath e = record {
    live = same_live old new block holder_stays s.live;
    written = holder_written;
    pinned = same_pins old new block holder_stays;
    held = (r.live, r.written ∙ written_whole (words_of old b) (words c') (ap length s.held.1 ∙ sym e), r.held, tt, s.held.4);
    taken = λ q p n. elim (own_or_other q b) [
      | inl o ↦ let o1 = o.1 in absurd (omega arith)
      | inr o ↦ let o1 = o.1 in r.taken q (omega arith) (omega arith)
    ];
    kept = λ q p n. elim (own_or_other q b) [
      | inl o ↦ let P : ℕ → Type 0 = λ x. pins_of new x ≡ pins_of old x in subst P (sym o.0) r.pinned
      | inr o ↦ let o1 = o.1 in r.kept q (omega arith) (omega arith)
    ];
    given = λ q n p. elim (own_or_other q b) [
      | inl o ↦ let o1 = o.1 in absurd (omega arith)
      | inr o ↦ let o1 = o.1 in r.given q (omega arith) (omega arith)
    ];
    others = λ q ne n p. elim (own_or_other q b) [
      | inl o ↦ let o1 = o.1 in absurd (omega arith)
      | inr o ↦ let o1 = o.1 in r.others q o.0 (omega arith) (omega arith)
    ];
  }

-- contents that could not all be given stay, and so does their block
stuck_left : (p : ℕ → ℕ) (b : ℕ) (d : List ℤ) (c : Tree) → p b ≡ 0 → is_free p c ≡ false → (left p (Allocated b d c End) ≡ Allocated b d (left p c) End) × (is_free p (Allocated b d c End) ≡ false)
stuck_left p b d c z f =
    let e : nat_eq (p b) 0 ≡ true = eq-eqb (p b) 0 z in
    (rw (e, f) refl, rw (e, f) refl)

pub frees_stuck : (old new : Live) (block at b : ℕ) (s : Shape) (t : Tree) → Stands old block at t → (a : Allocation old b s t) → pins_of old b ≡ 0 → Frees old new b 0 a.contents false → Frees old new block at t false
frees_stuck old new block at b s t st a z f =
    let k = stuck_left (pins_of old) b a.dims a.contents z (sym f.answered) in
    let P : Tree → Type 0 = λ x. Stands old block at x in
    let st' = subst P a.is st in
    let r = replaces_beneath old new block at b a.dims a.contents (left (pins_of old) a.contents) st' f.replaced (size-left (pins_of old) a.contents) in
    let Q : Tree → Type 0 = λ x. Replaces old new block at x (Allocated b a.dims (left (pins_of old) a.contents) End) in
    let R : Tree → Type 0 = λ x. Replaces old new block at t x in
    record {
      replaced = subst R (sym (ap (left (pins_of old)) a.is ∙ k.0)) (subst Q (sym a.is) r);
      answered = sym (ap (is_free (pins_of old)) a.is ∙ k.1);
    }

-- contents that were all given go before their block
given_left : (p : ℕ → ℕ) (b : ℕ) (d : List ℤ) (c : Tree) → p b ≡ 0 → is_free p c ≡ true → (left p (Allocated b d c End) ≡ Unallocated d End) × (is_free p (Allocated b d c End) ≡ true)
given_left p b d c z f =
    let e : nat_eq (p b) 0 ≡ true = eq-eqb (p b) 0 z in
    (rw (e, f) refl, rw (e, f) refl)

module _ (old mid new : Live) (block at b : ℕ) (dims : List ℤ) (c c' : Tree) (s : Stands old block at (Allocated b dims c End)) (r : Replaces old mid b 0 c c') (bare : IsBare c') (e : new ≡ with_words (remove mid b) block (set (words_of (remove mid b) block) at (pos 0))) where
  apart_block : block ≢ b
  apart_block = block_not_own old mid block at b dims c c' s r

  block_same : get mid block ≡ get old block
  block_same = holder_stays old mid block at b dims c c' s r

  words_same : words_of (remove mid b) block ≡ words_of old block
  words_same = words-remove_other mid b block apart_block ∙ same_words old mid block block_same

  other_same : (q : ℕ) → q ≢ block → q ≢ b → get new q ≡ get mid q
  other_same q ne nb = ap (λ (m : Live). get m q) e ∙ (get-insert_other (remove mid b) block _ q ne ∙ get-remove_other mid b q nb)

  own_gone : get new b ≡ None
  own_gone = ap (λ (m : Live). get m b) e ∙ (get-insert_other (remove mid b) block _ b (λ i. apart_block (sym i)) ∙ get-remove_same mid b)

  pub replaces_given : Replaces old new block at (Allocated b dims c End) (Unallocated dims End)
  replaces_given = record {
    live = ap (λ (m : Live). is_some (get m block)) e ∙ live-insert_same (remove mid b) block _;
    written =
        ap (λ (m : Live). words_of m block) e ∙ (words-insert_same (remove mid b) block _
        ∙ (ap (λ (l : List ℤ). set l at (pos 0)) words_same
        ∙ written_first (words_of old block) at (pos b) (pos 0) (dims ++ []) (let w = s.within in omega arith) s.there));
    pinned = ap (λ (m : Live). pins_of m block) e ∙ (pins-insert_same (remove mid b) block _ ∙ (pins-remove_other mid b block apart_block ∙ same_pins old mid block block_same));
    held = tt;
    taken = λ q p n. absurd (omega arith);
    kept = λ q p n. absurd (omega arith);
    given = λ q n p. elim (own_or_other q b) [
      | inl o ↦ let P : ℕ → Type 0 = λ x. get new x ≡ None in subst P (sym o.0) own_gone
      | inr o ↦
          let o1 = o.1 in
          let ne : q ≢ block = λ i. let a = s.apart in let x : 0 < times block (Allocated b dims c End) = (let P : ℕ → Type 0 = λ x. 0 < times x (Allocated b dims c End) in subst P i p) in omega arith in
          other_same q ne o.0 ∙ r.given q (bare q) (omega arith)
    ];
    others = λ q ne n p. elim (own_or_other q b) [
      | inl o ↦ let o1 = o.1 in absurd (omega arith)
      | inr o ↦ let o1 = o.1 in other_same q ne o.0 ∙ r.others q o.0 (bare q) (omega arith)
    ];
  }

pub frees_given : (old mid new : Live) (block at b : ℕ) (s : Shape) (t : Tree) → Stands old block at t → (a : Allocation old b s t) → pins_of old b ≡ 0 → Frees old mid b 0 a.contents true → new ≡ with_words (remove mid b) block (set (words_of (remove mid b) block) at (pos 0)) → Frees old new block at t true
frees_given old mid new block at b s t st a z f e =
    let free : is_free (pins_of old) a.contents ≡ true = sym f.answered in
    let k = given_left (pins_of old) b a.dims a.contents z free in
    let P : Tree → Type 0 = λ x. Stands old block at x in
    let st' = subst P a.is st in
    let r = replaces_given old mid new block at b a.dims a.contents (left (pins_of old) a.contents) st' f.replaced (free-left (pins_of old) a.contents free) e in
    let Q : Tree → Type 0 = λ x. Replaces old new block at x (Unallocated a.dims End) in
    let R : Tree → Type 0 = λ x. Replaces old new block at t x in
    record {
      replaced = subst R (sym (ap (left (pins_of old)) a.is ∙ k.0)) (subst Q (sym a.is) r);
      answered = sym (ap (is_free (pins_of old)) a.is ∙ k.1);
    }

-- the holder's block and the allocatable's stay live while contents are given
pub holder_after : (old mid : Live) (block at b : ℕ) (s : Shape) (t : Tree) (c' : Tree) → Stands old block at t → (a : Allocation old b s t) → Replaces old mid b 0 a.contents c' → (IsLive (remove mid b) block) × (words_of (remove mid b) block ≡ words_of old block)
holder_after old mid block at b s t c' st a r =
    let P : Tree → Type 0 = λ x. Stands old block at x in
    let st' = subst P a.is st in
    let ne = block_not_own old mid block at b a.dims a.contents c' st' r in
    let same = holder_stays old mid block at b a.dims a.contents c' st' r in
    (live-remove_other mid b block ne (same_live old mid block same st.live), words-remove_other mid b block ne ∙ same_words old mid block same)

no_positive : pos 0 <ℤ pos 0 → ⊥
no_positive h = absurd (omega (arith, ints))

none_is_none : IsSome {T = ℕ} None → ⊥
none_is_none h = cc

-- what a holder's first word names
word_named : (b : ℕ) (o : Option ℕ) (z : ℤ) → z ≡ pos b → 0 < b → IfSome o (λ x. z ≡ pos x) → (IsSome o ↔ (pos 0 <ℤ z)) → o ≡ Some b
word_named b None z e p n s =
    let k : pos 0 <ℤ pos b = omega (arith, ints) in
    let P : ℤ → Type 0 = λ x. pos 0 <ℤ x in
    let h = s.1 (subst P (sym e) k) in
    absurd (none_is_none h)
word_named b (Some x) z e p n s = let k : pos x ≡ pos b = sym n ∙ e in cc

word_none : (o : Option ℕ) (z : ℤ) → z ≡ pos 0 → (IsSome o ↔ (pos 0 <ℤ z)) → o ≡ None
word_none None z e s = refl
word_none (Some x) z e s = let P : ℤ → Type 0 = λ y. pos 0 <ℤ y in absurd (no_positive (subst P e (s.0 refl)))

pub first_word_is : (ws : List ℤ) (at : ℕ) (x : ℤ) (xs : List ℤ) → take (length (x ∷ xs)) (drop at ws) ≡ x ∷ xs → get_or ws at (pos 0) ≡ x
first_word_is ws at x xs e =
    let a : get_or (take (length (x ∷ xs)) (drop at ws)) 0 (pos 0) ≡ get_or (drop at ws) 0 (pos 0) = get_or-take (length (x ∷ xs)) (drop at ws) 0 (pos 0) (omega arith) in
    let b : get_or (drop at ws) 0 (pos 0) ≡ get_or ws (at + 0) (pos 0) = get_or-drop at ws 0 (pos 0) in
    let n : at + 0 ≡ at = omega arith in
    sym (b ∙ ap (λ (k : ℕ). get_or ws k (pos 0)) n) ∙ (sym a ∙ ap (λ (l : List ℤ). get_or l 0 (pos 0)) e)

read_in : (m : Live) (block at rank : ℕ) (s : Shape) (t : Tree) (o : Option ℕ) (z : ℤ) → IsHolder rank (Fits s) t → Stands m block at t → z ≡ get_or (words_of m block) at (pos 0) → IfSome o (λ x. z ≡ pos x) → (IsSome o ↔ (pos 0 <ℤ z)) → o ≡ first_block t
read_in m block at rank s t o z (unallocated d e) st r n p = word_none o z (r ∙ first_word_is (words_of m block) at (pos 0) (d ++ []) st.there) p
read_in m block at rank s t o z (allocated b d c e f) st r n p = word_named b o z (r ∙ first_word_is (words_of m block) at (pos b) (d ++ []) st.there) st.held.4 n p

pub holder_read : (m : Live) (block at rank : ℕ) (s : Shape) (t : Tree) (o : Option ℕ) (z : ℤ) → Holds m block at (Holder rank s) t → z ≡ get_or (words_of m block) at (pos 0) → IfSome o (λ x. z ≡ pos x) → (IsSome o ↔ (pos 0 <ℤ z)) → o ≡ first_block t
holder_read m block at rank s t o z h r n p = read_in m block at rank s t o z h.fits h.stands r n p

-- what changes once contents were given, their block, and the holder's word
pub frees_holder : (old mid gone new : Live) (block at b : ℕ) (s : Shape) (t : Tree) → Stands old block at t → (a : Allocation old b s t) → pins_of old b ≡ 0 → Frees old mid b 0 a.contents true → gone ≡ remove mid b → new ≡ with_words gone block (set (words_of gone block) at (pos 0)) → Frees old new block at t true
frees_holder old mid gone new block at b s t st a z f e n =
    frees_given old mid new block at b s t st a z f (let P : Live → Type 0 = λ m. new ≡ with_words m block (set (words_of m block) at (pos 0)) in subst P e n)

pub holder_gone : (old mid gone : Live) (block at b : ℕ) (s : Shape) (t : Tree) (ok : Bool) → Stands old block at t → (a : Allocation old b s t) → Frees old mid b 0 a.contents ok → gone ≡ remove mid b → (IsLive gone block) × (words_of gone block ≡ words_of old block)
holder_gone old mid gone block at b s t ok st a f e =
    let P : Live → Type 0 = λ m. (IsLive m block) × (words_of m block ≡ words_of old block) in
    subst P (sym e) (holder_after old mid block at b s t (left (pins_of old) a.contents) st a f.replaced)

-- a holder's word lies within its block
pub holder_within : (m : Live) (block at rank : ℕ) (s : Shape) (t : Tree) → Holds m block at (Holder rank s) t → at < length (words_of m block)
holder_within m block at rank s t h = let w = h.stands.within in let l = size-fits (Holder rank s) t h.fits in omega arith
