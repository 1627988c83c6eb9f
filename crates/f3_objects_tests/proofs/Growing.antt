-- Laws on objects that get more blocks.
use Rattle.std.proofs.Common.{zero, suc, ◌≡◌, ◌≢◌, ℕ, ℤ, pos, ◌+◌, ◌-◌, ◌*◌, ◌<◌, ◌≤◌, inl, inr, List, [], ◌∷◌, ◌++◌, length, length-append, map, drop, set, get_or, replicate, refl, ap, sym, subst, ◌∙◌, arith, is_some}
use Rattle.std.specs.Prelude.{None, Some}
use Rattle.std.specs.FinMap.{get}
use Rattle.std.proofs.lemmas.List.{drop_more, drop_all, append-nil, length-replicate}
use Rattle.f3_live_blocks.specs.Blocks.{Live, IsLive, words_in, pins_in, words_of, pins_of, with_taken, with_words}
use Rattle.f3_live_blocks.proofs.Laws.{get-insert_same, get-insert_other, live-insert_same, words-insert_same, pins-insert_same}
use Rattle.f3_desc.specs.Shape.{Shape, Holder, Times, row, shape_at, width}
use Rattle.f3_objects.specs.Tree.{Tree, End, Unallocated, Allocated, ◌⊕◌, words, times, elements, Joins, Repeats, IsHolder, unallocated, allocated, Fits, IsBare, blank}
use Rattle.f3_objects.specs.Holds.{Stands, Holds, IsContents, Replaces, with_words_at}
use Rattle.f3_objects.proofs.Trees.{append-End, append-append, size-append, times-append, times_own, zero_or_more, size-fits}
use Rattle.f3_objects.proofs.Blanks.{words-blank, blank-fits, blank-bare, held-bare}
use Rattle.f3_objects.proofs.Writes.{Wrote, wrote_none, wrote_more, words-with}
use Rattle.f3_objects.proofs.Holders.{own_or_other, contents_of, own_not_new, replaces_beneath}
use Rattle.f3_objects.proofs.Changes.{not_dead, same_live, same_words, same_pins, held-live, stands_front, stands_behind, stands_replaced, replaces_same, replaces_beside, replaces_then}
use Rattle.f3_objects_tests.specs.Grows.{Grows, dims_of}

-- nothing was allocated
pub grows_same : (m : Live) (block at : ℕ) (s : Shape) (t : Tree) → Holds m block at s t → Grows m m block at s t
grows_same m block at s t h = record { grown = t; fits = h.fits; once = h.stands.once; replaced = replaces_same m block at t h.stands }

-- a front of t has grown, and the rest has P; with any rest that has P it makes a whole with Q
pub record Growing (old now : Live) (block at place : ℕ) (P Q : Tree → Type 0) (t : Tree) : Type 0 where
  pub done : Tree
  pub rest : Tree
  pub split : t ≡ done ⊕ rest
  pub here : place ≡ at + length (words done)
  pub grown : Tree
  pub sized : length (words grown) ≡ length (words done)
  pub replaced : Replaces old now block at done grown
  pub once : (q : ℕ) → times q grown ≤ 1
  pub has : P rest
  pub fits : (v : Tree) → P v → Q (grown ⊕ v)

pub growing_none : (m : Live) (block at : ℕ) (s : Shape) (t : Tree) → Holds m block at s t → Growing m m block at at (Fits s) (Fits s) t
growing_none m block at s t h = record {
  done = End;
  rest = t;
  split = refl;
  here = omega arith;
  grown = End;
  sized = refl;
  replaced = replaces_same m block at End (stands_front m block at End t h.stands);
  once = λ q. omega arith;
  has = h.fits;
  fits = λ v p. p;
}

pub growing_all : (old now : Live) (block at place : ℕ) (s : Shape) (t : Tree) → Growing old now block at place (λ x. x ≡ End) (Fits s) t → Grows old now block at s t
growing_all old now block at place s t f =
    let whole : t ≡ f.done = f.split ∙ (ap (λ (x : Tree). f.done ⊕ x) f.has ∙ append-End f.done) in
    let P : Tree → Type 0 = λ x. Replaces old now block at x f.grown in
    let Q : Tree → Type 0 = λ x. Fits s x in
    record { grown = f.grown; fits = subst Q (append-End f.grown) (f.fits End refl); once = f.once; replaced = subst P (sym whole) f.replaced }

module _ (old mid new : Live) (block at place : ℕ) (s : Shape) (P Q : Tree → Type 0) (t : Tree) (st : Stands old block at t) (bare : IsBare t) (f : Growing old mid block at place (Joins (Fits s) P) Q t) where
  regrouped : t ≡ (f.done ⊕ f.has.front) ⊕ f.has.back
  regrouped = f.split ∙ (ap (λ (x : Tree). f.done ⊕ x) f.has.split ∙ sym (append-append f.done f.has.front f.has.back))

  bare_parts : (q : ℕ) → (times q f.done ≡ 0) × (times q f.has.front ≡ 0)
  bare_parts q =
      let a = bare q in
      let b : times q t ≡ times q (f.done ⊕ f.has.front) + times q f.has.back = ap (times q) regrouped ∙ times-append q (f.done ⊕ f.has.front) f.has.back in
      let c = times-append q f.done f.has.front in
      (omega arith, omega arith)

  -- the next part, which has not grown
  pub part_stands : Stands mid block place f.has.front
  part_stands =
      let S : Tree → Type 0 = λ x. Stands old block at x in
      let R : ℕ → Type 0 = λ n. Stands mid block n f.rest in
      let T : Tree → Type 0 = λ x. Stands mid block place x in
      let rest = subst R (sym f.here) (stands_behind old mid block at f.done f.rest f.grown (subst S f.split st) f.sized f.replaced) in
      stands_front mid block place f.has.front f.has.back (subst T f.has.split rest)

  pub part_bare : IsBare f.has.front
  part_bare q = (bare_parts q).1

  pub part_within : (w n : ℕ) → w ≡ width s → at + length (words t) < n → place + w < n
  part_within w n e l =
      let a : length (words t) ≡ length (words (f.done ⊕ f.has.front)) + length (words f.has.back) = ap (λ (x : Tree). length (words x)) regrouped ∙ size-append (f.done ⊕ f.has.front) f.has.back in
      let b = size-append f.done f.has.front in
      let c = size-fits s f.has.front f.has.first in
      let h = f.here in
      omega arith

  fresh : (q : ℕ) → get mid q ≡ None → get old q ≡ None
  fresh q n =
      let ne : q ≢ block = λ i. not_dead mid block f.replaced.live (ap (get mid) (sym i) ∙ n) in
      elim (zero_or_more (times q f.grown)) [
        | inl z ↦ sym (f.replaced.others q ne z (bare_parts q).0) ∙ n
        | inr z ↦ absurd (not_dead mid q (held-live mid q f.grown f.replaced.held z) n)
      ]

  pub growing_more : (w : ℕ) → w ≡ width s → Grows mid new block place s f.has.front → Growing old new block at (place + w) P Q t
  growing_more w e g =
      let S : Tree → Type 0 = λ x. Stands old block at x in
      let both = stands_front old block at (f.done ⊕ f.has.front) f.has.back (subst S regrouped st) in
      let G : ℕ → Type 0 = λ n. Replaces mid new block n f.has.front g.grown in
      let same : length (words g.grown) ≡ length (words f.has.front) = size-fits s g.grown g.fits ∙ sym (size-fits s f.has.front f.has.first) in
      record {
        done = f.done ⊕ f.has.front;
        rest = f.has.back;
        split = regrouped;
        here = let h = f.here in let l = size-append f.done f.has.front in let k = size-fits s f.has.front f.has.first in omega arith;
        grown = f.grown ⊕ g.grown;
        sized = let a = size-append f.grown g.grown in let b = size-append f.done f.has.front in let k = f.sized in omega arith;
        replaced = replaces_beside old mid new block at f.done f.has.front f.grown g.grown both f.sized f.replaced (subst G f.here g.replaced) (λ q p n. fresh q ((g.replaced.taken q p n).0));
        once = λ q.
            let a = times-append q f.grown g.grown in
            let b = f.once q in
            let d = g.once q in
            elim (zero_or_more (times q f.grown)) [
              | inl z ↦ omega arith
              | inr z ↦ elim (zero_or_more (times q g.grown)) [
                | inl y ↦ omega arith
                | inr y ↦ absurd (not_dead mid q (held-live mid q f.grown f.replaced.held z) ((g.replaced.taken q y (bare_parts q).1).0))
              ]
            ];
        has = f.has.second;
        fits = λ v p.
            let R : Tree → Type 0 = λ x. Q x in
            subst R (sym (append-append f.grown g.grown v)) (f.fits (g.grown ⊕ v) (record { front = g.grown; back = v; split = refl; first = g.fits; second = p }));
      }

-- elements and parts
pub growing_element : (old now : Live) (block at place n i : ℕ) (P Q : Tree → Type 0) (t : Tree) → i < n → Growing old now block at place (Repeats (n - i) P) Q t → Growing old now block at place (Joins P (Repeats (n - (i + 1)) P)) Q t
growing_element old now block at place n i P Q t l f =
    let e : n - i ≡ suc (n - (i + 1)) = omega arith in
    let F : ℕ → Type 0 = λ k. Growing old now block at place (Repeats k P) Q t in
    subst F e f

pub grows_elements : (old now : Live) (block at place n i : ℕ) (P : Tree → Type 0) (s : Shape) (t : Tree) → n ≤ i → Growing old now block at place (Repeats (n - i) P) (Fits s) t → Grows old now block at s t
grows_elements old now block at place n i P s t l f =
    let e : n - i ≡ 0 = omega arith in
    let F : ℕ → Type 0 = λ k. Growing old now block at place (Repeats k P) (Fits s) t in
    growing_all old now block at place s t (subst F e f)

pub growing_part : (old now : Live) (block at place i : ℕ) (ss : List Shape) (parts : List ℕ) (Q : Tree → Type 0) (t : Tree) → i < length parts → Growing old now block at place (Fits (row (map (shape_at ss) (drop i parts)))) Q t → Growing old now block at place (Joins (Fits (shape_at ss (get_or parts i 0))) (Fits (row (map (shape_at ss) (drop (i + 1) parts))))) Q t
growing_part old now block at place i ss parts Q t l f =
    let F : List ℕ → Type 0 = λ k. Growing old now block at place (Fits (row (map (shape_at ss) k))) Q t in
    subst F (drop_more parts i 0 l) f

pub grows_parts : (old now : Live) (block at place i : ℕ) (ss : List Shape) (parts : List ℕ) (s : Shape) (t : Tree) → length parts ≤ i → Growing old now block at place (Fits (row (map (shape_at ss) (drop i parts)))) (Fits s) t → Grows old now block at s t
grows_parts old now block at place i ss parts s t l f =
    let F : List ℕ → Type 0 = λ k. Growing old now block at place (Fits (row (map (shape_at ss) k))) (Fits s) t in
    growing_all old now block at place s t (subst F (drop_all i parts l) f)

-- words written one after another
pub wrote_first : (old new : Live) (b at : ℕ) (y z : ℤ) → IsLive old b → at < length (words_of old b) → z ≡ y → new ≡ with_words old b (set (words_of old b) at z) → Wrote old new b at (y ∷ [])
wrote_first old new b at y z h l v e =
    let n : at ≡ at + 0 = omega arith in
    wrote_more old old new b at 0 [] y (wrote_none old b at h) refl (omega arith) (e ∙ (ap (λ (x : ℤ). with_words old b (set (words_of old b) at x)) v ∙ ap (λ (k : ℕ). with_words old b (set (words_of old b) k y)) n))

pub wrote_next : (old mid new : Live) (b at i : ℕ) (ys : List ℤ) (y z : ℤ) → Wrote old mid b at ys → length ys ≡ i → at + i < length (words_of old b) → z ≡ y → new ≡ with_words mid b (set (words_of mid b) (at + i) z) → Wrote old new b at (ys ++ y ∷ [])
wrote_next old mid new b at i ys y z w n l v e = wrote_more old mid new b at i ys y w n l (e ∙ ap (λ (x : ℤ). with_words mid b (set (words_of mid b) (at + i) x)) v)

-- a new block of zeros for an allocatable
module _ (old mid : Live) (block at b n : ℕ) (d₀ dims : List ℤ) (c : Tree) (s : Stands old block at (Unallocated d₀ End)) (none : get old b ≡ None) (zeros : words c ≡ replicate n (pos 0)) (bare : IsBare c) (positive : 0 < b) (e : mid ≡ with_words (with_taken old b n) block (with_words_at (words_of (with_taken old b n) block) at (pos b ∷ dims))) where
  other : block ≢ b
  other = λ i. not_dead old block s.live (ap (get old) i ∙ none)

  same_taken : get (with_taken old b n) block ≡ get old block
  same_taken = get-insert_other old b _ block other

  other_mid : (q : ℕ) → q ≢ block → q ≢ b → get mid q ≡ get old q
  other_mid q ne nb = ap (λ (m : Live). get m q) e ∙ (get-insert_other (with_taken old b n) block _ q ne ∙ get-insert_other old b _ q nb)

  own_mid : get mid b ≡ Some (record { words = replicate n (pos 0); pins = 0 })
  own_mid = ap (λ (m : Live). get m b) e ∙ (get-insert_other (with_taken old b n) block _ b (λ i. other (sym i)) ∙ get-insert_same old b _)

  pub linked : Replaces old mid block at (Unallocated d₀ End) (Allocated b dims c End)
  linked = record {
    live = ap (λ (m : Live). is_some (get m block)) e ∙ live-insert_same (with_taken old b n) block _;
    written =
        ap (λ (m : Live). words_of m block) e ∙ (words-with (with_taken old b n) block _
        ∙ (ap (λ (l : List ℤ). with_words_at l at (pos b ∷ dims)) (same_words old (with_taken old b n) block same_taken)
        ∙ ap (λ (l : List ℤ). with_words_at (words_of old block) at (pos b ∷ l)) (sym (append-nil dims))));
    pinned = ap (λ (m : Live). pins_of m block) e ∙ (pins-insert_same (with_taken old b n) block _ ∙ same_pins old (with_taken old b n) block same_taken);
    held = (ap is_some own_mid, ap words_in own_mid ∙ sym zeros, held-bare mid c bare, tt, positive);
    taken = λ q p z. elim (own_or_other q b) [
      | inl o ↦
          let P : ℕ → Type 0 = λ x. (get old x ≡ None) × (pins_of mid x ≡ 0) in
          subst P (sym o.0) (none, ap pins_in own_mid)
      | inr o ↦ let o1 = o.1 in let k = bare q in absurd (omega arith)
    ];
    kept = λ q p z. absurd (omega arith);
    given = λ q p z. absurd (omega arith);
    others = λ q ne z p. elim (own_or_other q b) [
      | inl o ↦ let o1 = o.1 in absurd (omega arith)
      | inr o ↦ other_mid q ne o.0
    ];
  }

-- the holder that has grown
holder_bounds : (rank : ℕ) (P : Tree → Type 0) (t : Tree) → IsHolder rank P t → IsBare t → (d : List ℤ) × (t ≡ Unallocated d End) × (length d ≡ 2 * rank)
holder_bounds rank P t (unallocated d e) b = (d, refl, e)
holder_bounds rank P t (allocated x d c e r) b = absurd (let k = b x in let p = times_own x d c End in omega arith)

elements_of : (rank n : ℕ) → rank < 2 → (rank ≡ 0 → n ≡ 1) → elements (dims_of rank n) ≡ n
elements_of zero n l e = sym (e refl)
elements_of (suc r) n l e = omega arith

length_of : (rank n : ℕ) → rank < 2 → length (dims_of rank n) ≡ 2 * rank
length_of zero n l = omega arith
length_of (suc r) n l = omega arith

-- an allocatable got a block of so many objects of zeros
pub record Linked (old mid : Live) (block at b rank n : ℕ) (s : Shape) (t : Tree) : Type 0 where
  pub bounds : List ℤ
  pub was : t ≡ Unallocated bounds End
  pub replaced : Replaces old mid block at t (Allocated b (dims_of rank n) (blank (Times n s)) End)
  pub holds : Holds mid block at (Holder rank s) (Allocated b (dims_of rank n) (blank (Times n s)) End)
  pub inside : IsContents mid b s n (blank (Times n s))

pub link_holds : (old mid : Live) (block at b rank n w : ℕ) (s : Shape) (t : Tree) → Holds old block at (Holder rank s) t → IsBare t → get old b ≡ None → rank < 2 → (rank ≡ 0 → n ≡ 1) → w ≡ n * width s → 0 < b → mid ≡ with_words (with_taken old b w) block (with_words_at (words_of (with_taken old b w) block) at (pos b ∷ dims_of rank n)) → Linked old mid block at b rank n s t
link_holds old mid block at b rank n w s t h bare none r one size positive e =
    let u = holder_bounds rank (Fits s) t h.fits bare in
    let S : Tree → Type 0 = λ x. Stands old block at x in
    let c = blank (Times n s) in
    let st = subst S u.1 h.stands in
    let zeros : words c ≡ replicate w (pos 0) = words-blank (Times n s) ∙ ap (λ (k : ℕ). replicate k (pos 0)) (sym size) in
    let l = linked old mid block at b w u.0 (dims_of rank n) c st none zeros (blank-bare (Times n s)) positive e in
    let P : Tree → Type 0 = λ x. Replaces old mid block at x (Allocated b (dims_of rank n) c End) in
    let len : length (words (Allocated b (dims_of rank n) c End)) ≡ length (words (Unallocated u.0 End)) = (let a = length-append (dims_of rank n) [] in let d = length-append u.0 [] in let f = length_of rank n r in let g = u.2 in omega arith) in
    let stands = stands_replaced old mid block at (Unallocated u.0 End) (Allocated b (dims_of rank n) c End) st len l (λ q. let k = blank-bare (Times n s) q in elim (own_or_other q b) [ inl o ↦ let o1 = o.1 in omega arith | inr o ↦ let o1 = o.1 in omega arith ]) in
    let Q : ℕ → Type 0 = λ k. Fits (Times k s) c in
    let holds : Holds mid block at (Holder rank s) (Allocated b (dims_of rank n) c End) = record { stands = stands; fits = allocated b (dims_of rank n) c (length_of rank n r) (subst Q (sym (elements_of rank n r one)) (blank-fits (Times n s))) } in
    record {
      bounds = u.0;
      was = u.1;
      replaced = subst P (sym u.1) l;
      holds = holds;
      inside = let a = contents_of mid block at b (dims_of rank n) c s stands (subst Q (sym (elements_of rank n r one)) (blank-fits (Times n s))) in let R : ℕ → Type 0 = λ k. IsContents mid b s k c in subst R (elements_of rank n r one) a;
    }

-- an allocatable whose block's objects have grown
pub grows_holder : (old mid new : Live) (block at b rank n : ℕ) (s : Shape) (t : Tree) → Holds old block at (Holder rank s) t → IsBare t → rank < 2 → (rank ≡ 0 → n ≡ 1) → Linked old mid block at b rank n s t → Grows mid new b 0 (Times n s) (blank (Times n s)) → Grows old new block at (Holder rank s) t
grows_holder old mid new block at b rank n s t h bare r one l g =
    let c = blank (Times n s) in
    let dims = dims_of rank n in
    let st = l.holds.stands in
    let same : length (words g.grown) ≡ length (words c) = size-fits (Times n s) g.grown g.fits ∙ sym (size-fits (Times n s) c (blank-fits (Times n s))) in
    let beneath = replaces_beneath mid new block at b dims c g.grown st g.replaced same in
    let own = own_not_new mid new block at b dims c g.grown st g.replaced in
    let k = size-fits (Holder rank s) t h.fits in
    let m = size-fits (Holder rank s) (Allocated b dims c End) l.holds.fits in
    let w = h.stands.within in
    let Q : ℕ → Type 0 = λ k. Repeats k (Fits s) g.grown in
    record {
      grown = Allocated b dims g.grown End;
      fits = allocated b dims g.grown (length_of rank n r) (subst Q (sym (elements_of rank n r one)) g.fits);
      once = λ q. let o = g.once q in elim (own_or_other q b) [
        | inl e ↦ let e1 = e.1 in let z : times q g.grown ≡ 0 = (let P : ℕ → Type 0 = λ x. times x g.grown ≡ 0 in subst P (sym e.0) own) in omega arith
        | inr e ↦ let e1 = e.1 in omega arith
      ];
      replaced = replaces_then old mid new block at t (Allocated b dims c End) (Allocated b dims g.grown End) w h.stands.live (m ∙ sym k) refl l.replaced beneath (λ q i j. let z = bare q in absurd (omega arith)) h.stands.apart;
    }

-- a new block changes no other
pub after_take : (old mid : Live) (block at b n rank : ℕ) (s : Shape) (t : Tree) → Holds old block at (Holder rank s) t → get old b ≡ None → mid ≡ with_taken old b n → (IsLive mid block) × (at + (1 + 2 * rank) ≤ length (words_of mid block))
after_take old mid block at b n rank s t h none e =
    let ne : block ≢ b = λ i. not_dead old block h.stands.live (ap (get old) i ∙ none) in
    let same : get mid block ≡ get old block = ap (λ (m : Live). get m block) e ∙ get-insert_other old b _ block ne in
    let size = size-fits (Holder rank s) t h.fits in
    let w = h.stands.within in
    let len : length (words_of mid block) ≡ length (words_of old block) = ap length (same_words old mid block same) in
    (same_live old mid block same h.stands.live, omega arith)

-- what has grown stands
pub grows_holds : (old new : Live) (block at : ℕ) (s : Shape) (t : Tree) → Holds old block at s t → (g : Grows old new block at s t) → Holds new block at s g.grown
grows_holds old new block at s t h g = record {
  stands = stands_replaced old new block at t g.grown h.stands (size-fits s g.grown g.fits ∙ sym (size-fits s t h.fits)) g.replaced g.once;
  fits = g.fits;
}

pub zeros_length : (m n : Live) (b k : ℕ) → n ≡ with_taken m b k → (IsLive n b) × (length (words_of n b) ≡ k)
zeros_length m n b k e =
    (ap (λ (x : Live). is_some (get x b)) e ∙ live-insert_same m b _, ap (λ (x : Live). length (words_of x b)) e ∙ (ap length (words-insert_same m b _) ∙ length-replicate k (pos 0)))
