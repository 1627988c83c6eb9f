-- A step from a live block to the one before it, by the tag of that one.
use Rattle.std.proofs.Common.{◌≡◌, ℕ, zero, suc, ℤ, pos, ◌+◌, ◌-◌, ◌<◌, ◌≤◌, List, [], ◌∷◌, ◌++◌, length, get_or, sym, ap, ◌∙◌, arith, append_assoc}
use mir.Syntax.{w64}
use Rattle.std.specs.Int.{cast_unsigned}
use Rattle.f3_heap_laws.specs.Account.{r}
use Rattle.f3_heap_laws.specs.Placed.{extent}
use Rattle.f3_heap_laws.specs.Segments.{Segment, Used, Free, seg_size, seg_block, last_free, Lays, UsedAt, segments, free_size_of, header}
use Rattle.f3_heap_laws.proofs.Segs.{r-above, seg_positive, last_free-append}
use Rattle.f3_heap_laws.proofs.BlockReads.{seg-extent-append}
use Rattle.f3_heap_laws.proofs.Neighbours.{segments-before, tag_word, nil, snoc, snoc_of}

-- the live block that ends at `at`, by its tag
pub record Passed (none : ℕ) (segs : List Segment) (ws : List ℤ) (at : ℕ) : Type 0 where
  pub below : r (cast_unsigned w64 (get_or ws (at - 1) (pos 0))) ≤ at
  pub some : 0 < r (cast_unsigned w64 (get_or ws (at - 1) (pos 0)))
  pub block : UsedAt segs (at - r (cast_unsigned w64 (get_or ws (at - 1) (pos 0))))
  pub same : last_free none 0 (segments ws (at - r (cast_unsigned w64 (get_or ws (at - 1) (pos 0))))) ≡ last_free none 0 (segments ws at)

-- the free block that ends at `at`, by its tag
pub record Found (none : ℕ) (ws : List ℤ) (at : ℕ) : Type 0 where
  pub below : free_size_of (get_or ws (at - 1) (pos 0)) ≤ at
  pub last : last_free none 0 (segments ws at) ≡ at - free_size_of (get_or ws (at - 1) (pos 0))

module _ (none : ℕ) (segs : List Segment) (ws : List ℤ) (first end at : ℕ) (h : Lays none segs ws first end) (fits : end ≤ none) (u : UsedAt segs at) where
  here_is : segments ws at ≡ u.front
  here_is = segments-before none segs ws first end h u.front (Used u.content u.pins ∷ u.back) at u.split u.place

  abbrev pub tag : ℤ
  tag = get_or ws (at - 1) (pos 0)

  sum : (f : List Segment) (s : Segment) → u.front ≡ f ++ s ∷ [] → at ≡ extent seg_block seg_size f + seg_size s
  sum f s e = omega (arith, u.place, ap (extent seg_block seg_size) e, seg-extent-append f (s ∷ []))

  tag-is : (f : List Segment) (s : Segment) → u.front ≡ f ++ s ∷ [] → tag ≡ header s
  tag-is f s e = tag_word none segs ws first end at h fits u.front u.content u.pins u.back u.split u.place f s e

  pass : (f : List Segment) (c : List ℤ) (n : ℕ) → u.front ≡ f ++ Used c n ∷ [] → Passed none segs ws at
  pass f c n e =
      let t = ap (λ z. r (cast_unsigned w64 z)) (tag-is f (Used c n) e) in
      let back' : List Segment = Used c n ∷ (Used u.content u.pins ∷ u.back) in
      let split' : segs ≡ f ++ back' = u.split ∙ ap (λ l. l ++ Used u.content u.pins ∷ u.back) e ∙ append_assoc f (Used c n ∷ []) (Used u.content u.pins ∷ u.back) in
      let place' : at - r (cast_unsigned w64 tag) ≡ extent seg_block seg_size f = omega (arith, t, sum f (Used c n) e) in
      record {
        below = omega (arith, t, sum f (Used c n) e);
        some = omega (arith, t, r-above (length c));
        block = record { front = f; content = c; pins = n; back = Used u.content u.pins ∷ u.back; split = split'; place = place' };
        same = ap (last_free none 0) (segments-before none segs ws first end h f back' (at - r (cast_unsigned w64 tag)) split' place') ∙ sym (ap (last_free none 0) (here_is ∙ e) ∙ last_free-append none 0 f (Used c n ∷ []));
      }

  find : (f : List Segment) (j : List ℤ) → u.front ≡ f ++ Free j ∷ [] → Found none ws at
  find f j e =
      let t = ap free_size_of (tag-is f (Free j) e) in
      record {
        below = omega (arith, t, sum f (Free j) e);
        last = ap (last_free none 0) (here_is ∙ e) ∙ last_free-append none 0 f (Free j ∷ []) ∙ omega (arith, t, sum f (Free j) e);
      }

  module _ (some : 0 < at) where
    pass_by : (f : List Segment) (s : Segment) → u.front ≡ f ++ s ∷ [] → free_size_of tag ≡ 0 → Passed none segs ws at
    pass_by f (Used c n) e z = pass f c n e
    pass_by f (Free j) e z = absurd (omega (arith, z, ap free_size_of (tag-is f (Free j) e)))

    pub passed : free_size_of tag ≡ 0 → Passed none segs ws at
    passed z = elim (snoc_of u.front) [ nil e ↦ absurd (omega (arith, u.place, ap (extent seg_block seg_size) e, some)) | snoc f s e ↦ pass_by f s e z ]

    find_by : (f : List Segment) (s : Segment) → u.front ≡ f ++ s ∷ [] → 0 < free_size_of tag → Found none ws at
    find_by f (Used c n) e z = absurd (omega (arith, z, ap free_size_of (tag-is f (Used c n) e)))
    find_by f (Free j) e z = find f j e

    pub found : 0 < free_size_of tag → Found none ws at
    found z = elim (snoc_of u.front) [ nil e ↦ absurd (omega (arith, u.place, ap (extent seg_block seg_size) e, some)) | snoc f s e ↦ find_by f s e z ]

-- before the first place stands no free block
pub none-at_first : (none : ℕ) (segs : List Segment) (ws : List ℤ) (first end : ℕ) (h : Lays none segs ws first end) (u : UsedAt segs 0) → last_free none 0 (segments ws 0) ≡ none
none-at_first none segs ws first end h u =
    ap (last_free none 0) (segments-before none segs ws first end h u.front (Used u.content u.pins ∷ u.back) 0 u.split u.place)
    ∙ elim (snoc_of u.front) [
      | nil e ↦ ap (last_free none 0) e
      | snoc f s e ↦ absurd (omega (arith, u.place, ap (extent seg_block seg_size) e, seg-extent-append f (s ∷ []), seg_positive s))
    ]

-- behind a free block stands something
pub some-left : (none : ℕ) (segs : List Segment) (ws : List ℤ) (first end at : ℕ) (h : Lays none segs ws first end) (u : UsedAt segs at) → last_free none 0 (segments ws at) < none → 0 < at
some-left none segs ws first end zero h u l = absurd (omega (arith, none-at_first none segs ws first end h u, l))
some-left none segs ws first end (suc n) h u l = omega arith
