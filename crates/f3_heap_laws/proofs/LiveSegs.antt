-- The live blocks of segments, where a part of them is replaced.
use Rattle.std.proofs.Common.{◌≡◌, ℕ, ℤ, ◌+◌, ◌-◌, ◌<◌, ◌≤◌, Bool, true, false, cond, List, [], ◌∷◌, ◌++◌, length, refl, sym, ap, subst, ◌∙◌, arith, append-nil, ◌⊎◌, inl, inr, is_some, IsTrue}
use Rattle.std.specs.Prelude.{Option, None, Some}
use Rattle.std.specs.Ordering.{nat_cmp, eq_by_cmp}
use Rattle.std.specs.FinMap.{get, insert, remove, empty, get-empty, same_map, nat_cmp-IsAntisymmetric}
use Rattle.std.specs.FinMap.Entries.{find}
use Rattle.std.specs.Cmp.{nat_cmp_total}
use native.Mathlib.Decide.{dec_lt}
use Prim.{yes, no}
use Rattle.std.specs.List.{sum_by}
use Rattle.f3_heap_laws.specs.Account.{r, used_by}
use Rattle.f3_live_blocks.specs.Blocks.{Block, IsLive, words_in, pins_in, words_of, pins_of}
use Rattle.f3_heap_laws.specs.Placed.{extent, named_from, live_from}
use Rattle.f3_heap_laws.specs.Segments.{Segment, Used, Free, seg_size, seg_block, seg_used, live_segments, AllFree, UsedAt}
use Rattle.f3_heap_laws.proofs.Placed.{get-live, get-at, find-before, find-past, find-append, named-append, or_else, extent-append, replace-insert, replace-remove, used-live, block_used}
use Rattle.f3_live_blocks.proofs.Names.{same-self, same-is}
use Rattle.f3_heap_laws.proofs.Segs.{seg_positive}

pub live-nil : live_segments [] ≡ empty
unfolding live_segments
live-nil = same_map nat_cmp_total nat_cmp-IsAntisymmetric _ _ (λ q. get-live seg_block seg_size seg_positive 1 [] q ∙ sym (get-empty nat_cmp q))

nothing : (o : Option Block) → o ≡ None → IsTrue (is_some o) → ⊥
nothing o e h = cc

-- a name that is found is none before the segments
not_before : (p q : ℕ) (ss : List Segment) → IsTrue (is_some (find nat_cmp q (named_from seg_block seg_size p ss))) → p ≤ q
not_before p q ss h = elim (dec_lt q p) [ yes l ↦ absurd (nothing _ (find-before seg_block seg_size seg_positive q p ss l) h) | no n ↦ omega arith ]

-- a live block is one of the segments
found : (p q : ℕ) (ss : List Segment) → IsTrue (is_some (find nat_cmp q (named_from seg_block seg_size p ss))) → (at : ℕ) → q ≡ p + at → UsedAt ss at
found p q [] h at e = absurd (nothing None refl h)
found p q (Used ws pins ∷ ss) h at e =
    elim (eq_by_cmp nat_cmp q p) as (λ t. eq_by_cmp nat_cmp q p ≡ t → IsTrue (is_some (cond t (Some (record { words = ws; pins = pins })) (find nat_cmp q (named_from seg_block seg_size (p + r (length ws)) ss)))) → UsedAt (Used ws pins ∷ ss) at) [
      | true ↦ λ t k. record { front = []; content = ws; pins = pins; back = ss; split = refl; place = (let z : q ≡ p = same-is q p t in omega arith) }
      | false ↦ λ t k.
          let b = not_before (p + r (length ws)) q ss k in
          let u = found (p + r (length ws)) q ss k (at - r (length ws)) (omega arith) in
          record { front = Used ws pins ∷ u.front; content = u.content; pins = u.pins; back = u.back; split = ap (λ l. Used ws pins ∷ l) u.split; place = omega (arith, u.place) }
    ] refl h
found p q (Free junk ∷ ss) h at e =
    let b = not_before (p + (length junk + 4)) q ss h in
    let u = found (p + (length junk + 4)) q ss h (at - (length junk + 4)) (omega arith) in
    record { front = Free junk ∷ u.front; content = u.content; pins = u.pins; back = u.back; split = ap (λ l. Free junk ∷ l) u.split; place = omega (arith, u.place) }

pub live-at : (segs : List Segment) (at b : ℕ) → at + 1 ≡ b → IsLive (live_segments segs) b → UsedAt segs at
unfolding live_segments
live-at segs at b e h = found 1 b segs (ap is_some (sym (get-live seg_block seg_size seg_positive 1 segs b)) ∙ h) at (omega arith)

-- and its words and pins are the segment's
module _ (segs : List Segment) (at b : ℕ) (e : at + 1 ≡ b) (u : UsedAt segs at) where
  pub used-get : get (live_segments segs) b ≡ Some (record { words = u.content; pins = u.pins })
  unfolding live_segments
  used-get = ap (λ ss. get (live_from seg_block seg_size 1 ss) b) u.split ∙ get-at seg_block seg_size seg_positive 1 u.front (Used u.content u.pins) u.back b (omega (arith, u.place))

  pub used-content : words_of (live_segments segs) b ≡ u.content
  used-content = ap words_in used-get

  pub used-pin : pins_of (live_segments segs) b ≡ u.pins
  used-pin = ap pins_in used-get

-- past the segments nothing is live
pub past-none : (segs : List Segment) (b : ℕ) → extent seg_block seg_size segs < b → get (live_segments segs) b ≡ None
unfolding live_segments
past-none segs b h = get-live seg_block seg_size seg_positive 1 segs b ∙ find-past seg_block seg_size seg_positive b 1 segs (omega arith)

-- a free block is not live
pub free-none : (front : List Segment) (junk : List ℤ) (back : List Segment) (b : ℕ) → b ≡ 1 + extent seg_block seg_size front → get (live_segments (front ++ Free junk ∷ back)) b ≡ None
unfolding live_segments
free-none front junk back b e = get-at seg_block seg_size seg_positive 1 front (Free junk) back b e

differs : (q p : ℕ) → q ≡ p → eq_by_cmp nat_cmp q p ≡ false → ⊥
differs q p h e = let k = subst (λ m. eq_by_cmp nat_cmp q m ≡ true) h (same-self q) in cc

-- no free block is found
pub find-all_free : (q p : ℕ) (ss : List Segment) → AllFree ss → find nat_cmp q (named_from seg_block seg_size p ss) ≡ None
find-all_free q p [] f = refl
find-all_free q p (Used ws pins ∷ ss) f = absurd f
find-all_free q p (Free junk ∷ ss) f = find-all_free q (p + (length junk + 4)) ss f

find_used : (q p : ℕ) (ws : List ℤ) (pins : ℕ) (ss : List Segment) → AllFree ss → find nat_cmp q (named_from seg_block seg_size p (Used ws pins ∷ ss)) ≡ cond (eq_by_cmp nat_cmp q p) (Some (record { words = ws; pins = pins })) None
find_used q p ws pins ss f = ap (cond (eq_by_cmp nat_cmp q p) (Some (record { words = ws; pins = pins }))) (find-all_free q (p + r (length ws)) ss f)

-- a free block becomes a live one and free ones
pub take-live : (front back left : List Segment) (junk content : List ℤ) (pins b : ℕ) → b ≡ 1 + extent seg_block seg_size front → AllFree left → r (length content) + extent seg_block seg_size left ≡ length junk + 4
    → live_segments (front ++ (Used content pins ∷ (left ++ back))) ≡ insert (live_segments (front ++ Free junk ∷ back)) b (record { words = content; pins = pins })
unfolding live_segments
take-live front back left junk content pins b e f same =
    replace-insert seg_block seg_size seg_positive 1 front (Free junk ∷ []) (Used content pins ∷ left) back (ap (λ k. named_from seg_block seg_size k back) (omega arith)) b (record { words = content; pins = pins }) (omega arith)
    (λ q. find_used q (1 + extent seg_block seg_size front) content pins left f ∙ ap (λ k. cond (eq_by_cmp nat_cmp q k) (Some (record { words = content; pins = pins })) None) (sym e))

-- a live block more at the end
pub take-end : (segs : List Segment) (content : List ℤ) (pins b : ℕ) → b ≡ 1 + extent seg_block seg_size segs → live_segments (segs ++ (Used content pins ∷ [])) ≡ insert (live_segments segs) b (record { words = content; pins = pins })
unfolding live_segments
take-end segs content pins b e =
    replace-insert seg_block seg_size seg_positive 1 segs [] (Used content pins ∷ []) [] refl b (record { words = content; pins = pins }) (omega arith)
    (λ q. find_used q (1 + extent seg_block seg_size segs) content pins [] tt ∙ ap (λ k. cond (eq_by_cmp nat_cmp q k) (Some (record { words = content; pins = pins })) None) (sym e))
    ∙ ap (λ ss. insert (live_from seg_block seg_size 1 ss) b (record { words = content; pins = pins })) (append-nil segs)

shadow : (t : Bool) (k : Block) (o : Option Block) → (t ≡ false → o ≡ None) → cond t (Some k) None ≡ cond t (Some k) o
shadow true k o e = refl
shadow false k o e = sym (e refl)

or_none : (o : Option Block) → or_else None o ≡ o
unfolding or_else
or_none o = refl

twice : (t : Bool) (o : Option Block) → cond t None (cond t o None) ≡ None
twice true o = refl
twice false o = refl

three_sums : (a c b : ℕ) → b ≡ 1 + (a + c) → 1 + a + c ≡ b
three_sums a c b e = omega arith

-- another content or pin count
pub change-live : (front back : List Segment) (old new : List ℤ) (pins n b : ℕ) → b ≡ 1 + extent seg_block seg_size front → length new ≡ length old
    → live_segments (front ++ (Used new n ∷ back)) ≡ insert (live_segments (front ++ (Used old pins ∷ back))) b (record { words = new; pins = n })
unfolding live_segments
change-live front back old new pins n b e same =
    replace-insert seg_block seg_size seg_positive 1 front (Used old pins ∷ []) (Used new n ∷ []) back (ap (λ k. named_from seg_block seg_size k back) (ap (λ k. 1 + extent seg_block seg_size front + (r k + 0)) same)) b (record { words = new; pins = n }) (omega arith)
    (λ q. find_used q (1 + extent seg_block seg_size front) new n [] tt
    ∙ ap (λ k. cond (eq_by_cmp nat_cmp q k) (Some (record { words = new; pins = n })) None) (sym e)
    ∙ shadow (eq_by_cmp nat_cmp q b) (record { words = new; pins = n }) _ (λ t. find_used q (1 + extent seg_block seg_size front) old pins [] tt ∙ ap (λ k. cond (eq_by_cmp nat_cmp q k) (Some (record { words = old; pins = pins })) None) (sym e) ∙ ap (λ v. cond v (Some (record { words = old; pins = pins })) None) t))

ends_same : (front lefts rights news back : List Segment) (content : List ℤ) (pins : ℕ) → ((back ≡ []) ⊎ (extent seg_block seg_size news ≡ extent seg_block seg_size (lefts ++ Used content pins ∷ rights))) → named_from seg_block seg_size (1 + extent seg_block seg_size front + extent seg_block seg_size news) back ≡ named_from seg_block seg_size (1 + extent seg_block seg_size front + extent seg_block seg_size (lefts ++ Used content pins ∷ rights)) back
ends_same front lefts rights news back content pins (inl n) = ap (named_from seg_block seg_size (1 + extent seg_block seg_size front + extent seg_block seg_size news)) n ∙ sym (ap (named_from seg_block seg_size (1 + extent seg_block seg_size front + extent seg_block seg_size (lefts ++ Used content pins ∷ rights))) n)
ends_same front lefts rights news back content pins (inr z) = ap (λ k. named_from seg_block seg_size (1 + extent seg_block seg_size front + k) back) z

-- a live block and free ones become no live block
pub give-live : (front lefts rights news back : List Segment) (content : List ℤ) (pins b : ℕ) → AllFree lefts → AllFree rights → AllFree news → b ≡ 1 + (extent seg_block seg_size front + extent seg_block seg_size lefts)
    → ((back ≡ []) ⊎ (extent seg_block seg_size news ≡ extent seg_block seg_size (lefts ++ Used content pins ∷ rights)))
    → live_segments (front ++ (news ++ back)) ≡ remove (live_segments (front ++ ((lefts ++ Used content pins ∷ rights) ++ back))) b
unfolding live_segments
give-live front lefts rights news back content pins b fl fr fn e same =
    replace-remove seg_block seg_size seg_positive 1 front (lefts ++ Used content pins ∷ rights) news back (ends_same front lefts rights news back content pins same) b (omega arith)
    (omega (arith, extent-append seg_block seg_size seg_positive lefts (Used content pins ∷ rights), seg_positive (Used content pins)))
    (λ q. find-all_free q (1 + extent seg_block seg_size front) news fn
    ∙ sym (ap (cond (eq_by_cmp nat_cmp q b) None) (ap (find nat_cmp q) (named-append seg_block seg_size seg_positive (1 + extent seg_block seg_size front) lefts (Used content pins ∷ rights)) ∙ find-append q _ _
    ∙ ap (λ o. or_else o (find nat_cmp q (named_from seg_block seg_size (1 + extent seg_block seg_size front + extent seg_block seg_size lefts) (Used content pins ∷ rights)))) (find-all_free q (1 + extent seg_block seg_size front) lefts fl)
    ∙ or_none _ ∙ find_used q (1 + extent seg_block seg_size front + extent seg_block seg_size lefts) content pins rights fr
    ∙ ap (λ k. cond (eq_by_cmp nat_cmp q k) (Some (record { words = content; pins = pins })) None) (three_sums (extent seg_block seg_size front) (extent seg_block seg_size lefts) b e))
    ∙ twice (eq_by_cmp nat_cmp q b) (Some (record { words = content; pins = pins }))))

seg_account : (s : Segment) → block_used (seg_block s) ≡ seg_used s
unfolding block_used
seg_account (Used ws pins) = refl
seg_account (Free junk) = refl

same_sums : (segs : List Segment) → sum_by (λ s. block_used (seg_block s)) segs ≡ sum_by seg_used segs
same_sums segs = simp seg_account

pub used-segments : (segs : List Segment) → used_by (live_segments segs) ≡ sum_by seg_used segs
unfolding live_segments
used-segments segs = used-live seg_block seg_size seg_positive 1 segs ∙ same_sums segs
