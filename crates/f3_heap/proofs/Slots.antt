-- The slots of the plain map, read and changed one at a time.
use Rattle.std.proofs.Common.{◌≡◌, ◌≢◌, ℕ, ℤ, suc, ◌+◌, ◌-◌, ◌<◌, ◌≤◌, List, [], ◌∷◌, ◌++◌, length, cond, true, false, Bool, refl, sym, ap, subst, ◌∙◌, arith, is_some, IsTrue, get_or, set, take, drop, append-nil}
use Rattle.std.specs.Prelude.{Option, None, Some}
use Rattle.std.specs.Ordering.{nat_cmp, eq_by_cmp}
use Rattle.std.specs.FinMap.{get, insert, remove, empty, get-empty, same_map, nat_cmp-IsAntisymmetric}
use Rattle.std.specs.FinMap.Entries.{find}
use Rattle.std.specs.Cmp.{nat_cmp_total}
use native.Mathlib.Decide.{dec_lt}
use Prim.{yes, no}
use Rattle.std.specs.List.{sum_by}
use Rattle.std.proofs.lemmas.List.{set_split, set-get_or, length-take-le}
use Rattle.std.proofs.lemmas.List.Sums.{sum_by-set, sum_by_push, get_or-le-sum_by}
use Rattle.f3_heap.specs.declared.plain.Slot.{Slot}
use Rattle.std.proofs.lemmas.List.Elements.{All-set, All-push}
use Rattle.std.specs.Prelude.{nat_le}
use Rattle.std.proofs.lemmas.Bool.Decides.{nat_tests}
use Rattle.f3_live_blocks.specs.Blocks.{Heap, Block, Live, IsLive, words_of, pins_of, words_in, pins_in, with_words, with_pins}
use Rattle.f3_heap_laws.specs.Account.{r, used_by}
use Rattle.f3_heap_laws.specs.Placed.{extent, named_from, live_from}
use Rattle.f3_heap.specs.Plain.{slot_block, one_each, slot_used, live_slots, IsAccounted, IsPut, reused, pushed}
use Rattle.f3_heap_laws.proofs.Placed.{get-live, get-at, find-past, find-first, find-other, replace-insert, replace-remove, used-live, block_used}
use Rattle.f3_live_blocks.proofs.Names.{same-self, same-is}

one-positive : (s : Slot) → 0 < one_each s
one-positive s = omega arith

pub extent-length : (xs : List Slot) → extent slot_block one_each xs ≡ length xs
extent-length [] = refl
extent-length (x ∷ xs) = omega (arith, extent-length xs)

pub live-nil : live_slots [] ≡ empty
unfolding live_slots
live-nil = same_map nat_cmp_total nat_cmp-IsAntisymmetric _ _ (λ q. get-live slot_block one_each one-positive 1 [] q ∙ sym (get-empty nat_cmp q))

split_at_place : (xs : List Slot) (i : ℕ) (d : Slot) → i < length xs → xs ≡ take i xs ++ get_or xs i d ∷ drop (suc i) xs
split_at_place xs i d h = sym (set-get_or xs i d) ∙ set_split xs i (get_or xs i d) h

-- slot i is the block with the word i + 1
pub get-slot : (xs : List Slot) (i : ℕ) (d : Slot) → i < length xs → get (live_slots xs) (i + 1) ≡ slot_block (get_or xs i d)
unfolding live_slots
get-slot xs i d h =
    ap (λ l. get (live_from slot_block one_each 1 l) (i + 1)) (split_at_place xs i d h)
    ∙ get-at slot_block one_each one-positive 1 (take i xs) (get_or xs i d) (drop (suc i) xs) (i + 1) (omega (arith, extent-length (take i xs), length-take-le i xs (omega arith)))

not_some : (o : Option Block) → o ≡ None → IsTrue (is_some o) → ⊥
not_some o e h = cc

-- a live block is one of the slots
pub live-within : (xs : List Slot) (i b : ℕ) → i + 1 ≡ b → IsLive (live_slots xs) b → i < length xs
unfolding live_slots
live-within xs i b e h =
    elim (dec_lt i (length xs)) [
      | yes l ↦ l
      | no n ↦ absurd (not_some _ (get-live slot_block one_each one-positive 1 xs b ∙ find-past slot_block one_each one-positive b 1 xs (omega (arith, extent-length xs))) h)
    ]

flag_at : (v : Bool) (k : Block) → IsTrue (is_some {T = Block} (cond v (Some k) None)) → v ≡ true
flag_at true k h = refl
flag_at false k h = absurd (not_some None refl h)

flag : (s : Slot) → IsTrue (is_some (slot_block s)) → s.live ≡ true
flag s h = flag_at s.live (record { words = s.words.items; pins = s.pins }) h

module _ (xs : List Slot) (i b : ℕ) (d : Slot) (is : i + 1 ≡ b) (live : IsLive (live_slots xs) b) where
  found : get (live_slots xs) b ≡ slot_block (get_or xs i d)
  found = ap (get (live_slots xs)) (sym is) ∙ get-slot xs i d (live-within xs i b is live)

  pub slot-live : (get_or xs i d).live ≡ true
  slot-live = flag (get_or xs i d) (rw found at live)

  pub slot-words : words_of (live_slots xs) b ≡ (get_or xs i d).words.items
  slot-words = ap words_in found ∙ ap (λ t. words_in (cond t (Some (record { words = (get_or xs i d).words.items; pins = (get_or xs i d).pins })) None)) slot-live

  pub slot-pins : pins_of (live_slots xs) b ≡ (get_or xs i d).pins
  slot-pins = ap pins_in found ∙ ap (λ t. pins_in (cond t (Some (record { words = (get_or xs i d).words.items; pins = (get_or xs i d).pins })) None)) slot-live

block_is : (s : Slot) → s.live ≡ true → slot_block s ≡ Some (record { words = s.words.items; pins = s.pins })
block_is s e = ap (λ t. cond t (Some (record { words = s.words.items; pins = s.pins })) None) e

none_is : (s : Slot) → s.live ≡ false → slot_block s ≡ None
none_is s e = ap (λ t. cond t (Some (record { words = s.words.items; pins = s.pins })) None) e

differs : (q p : ℕ) → q ≡ p → eq_by_cmp nat_cmp q p ≡ false → ⊥
differs q p h e = let k = subst (λ m. eq_by_cmp nat_cmp q m ≡ true) h (same-self q) in cc

one_found : (s t : Slot) (p q : ℕ) → find nat_cmp q (named_from slot_block one_each p (s ∷ [])) ≡ cond (eq_by_cmp nat_cmp q p) (slot_block s) (find nat_cmp q (named_from slot_block one_each p (t ∷ [])))
one_found s t p q =
    elim (eq_by_cmp nat_cmp q p) as (λ v. eq_by_cmp nat_cmp q p ≡ v → find nat_cmp q (named_from slot_block one_each p (s ∷ [])) ≡ cond v (slot_block s) (find nat_cmp q (named_from slot_block one_each p (t ∷ [])))) [
      | true ↦ λ e. ap (λ k. find nat_cmp k (named_from slot_block one_each p (s ∷ []))) (same-is q p e) ∙ find-first slot_block one_each one-positive p s []
      | false ↦ λ e. let ne : q ≢ p = (λ h. differs q p h e) in find-other slot_block one_each one-positive q p s [] ne ∙ sym (find-other slot_block one_each one-positive q p t [] ne)
    ] refl

module _ (xs : List Slot) (i b : ℕ) (s d : Slot) (is : i + 1 ≡ b) (within : i < length xs) where
  before : 1 + extent slot_block one_each (take i xs) ≡ b
  before = omega (arith, extent-length (take i xs), length-take-le i xs (omega arith))

  pub set-live : s.live ≡ true → live_slots (set xs i s) ≡ insert (live_slots xs) b (record { words = s.words.items; pins = s.pins })
  unfolding live_slots
  set-live e =
      ap (live_from slot_block one_each 1) (set_split xs i s within)
      ∙ replace-insert slot_block one_each one-positive 1 (take i xs) (get_or xs i d ∷ []) (s ∷ []) (drop (suc i) xs) refl b (record { words = s.words.items; pins = s.pins }) (omega (arith, before))
      (λ q. one_found s (get_or xs i d) _ q ∙ ap (λ o. cond (eq_by_cmp nat_cmp q (1 + extent slot_block one_each (take i xs))) o (find nat_cmp q (named_from slot_block one_each (1 + extent slot_block one_each (take i xs)) (get_or xs i d ∷ [])))) (block_is s e)
      ∙ ap (λ k. cond (eq_by_cmp nat_cmp q k) (Some (record { words = s.words.items; pins = s.pins })) (find nat_cmp q (named_from slot_block one_each (1 + extent slot_block one_each (take i xs)) (get_or xs i d ∷ [])))) before)
      ∙ ap (λ l. insert (live_from slot_block one_each 1 l) b (record { words = s.words.items; pins = s.pins })) (sym (split_at_place xs i d within))

  pub set-dead : s.live ≡ false → live_slots (set xs i s) ≡ remove (live_slots xs) b
  unfolding live_slots
  set-dead e =
      ap (live_from slot_block one_each 1) (set_split xs i s within)
      ∙ replace-remove slot_block one_each one-positive 1 (take i xs) (get_or xs i d ∷ []) (s ∷ []) (drop (suc i) xs) refl b (omega (arith, before)) (omega (arith, before))
      (λ q. one_found s (get_or xs i d) _ q ∙ ap (λ o. cond (eq_by_cmp nat_cmp q (1 + extent slot_block one_each (take i xs))) o (find nat_cmp q (named_from slot_block one_each (1 + extent slot_block one_each (take i xs)) (get_or xs i d ∷ [])))) (none_is s e)
      ∙ ap (λ k. cond (eq_by_cmp nat_cmp q k) None (find nat_cmp q (named_from slot_block one_each (1 + extent slot_block one_each (take i xs)) (get_or xs i d ∷ [])))) before)
      ∙ ap (λ l. remove (live_from slot_block one_each 1 l) b) (sym (split_at_place xs i d within))

-- one slot more
pub push-live : (xs : List Slot) (s : Slot) → s.live ≡ true → live_slots (xs ++ s ∷ []) ≡ insert (live_slots xs) (length xs + 1) (record { words = s.words.items; pins = s.pins })
unfolding live_slots
push-live xs s e =
    let before : 1 + extent slot_block one_each xs ≡ length xs + 1 = omega (arith, extent-length xs) in
    replace-insert slot_block one_each one-positive 1 xs [] (s ∷ []) [] refl (length xs + 1) (record { words = s.words.items; pins = s.pins }) (omega (arith, extent-length xs))
    (λ q. elim (eq_by_cmp nat_cmp q (length xs + 1)) as (λ v. eq_by_cmp nat_cmp q (length xs + 1) ≡ v → find nat_cmp q (named_from slot_block one_each (1 + extent slot_block one_each xs) (s ∷ [])) ≡ cond v (Some (record { words = s.words.items; pins = s.pins })) None) [
      | true ↦ λ h. ap (λ k. find nat_cmp k (named_from slot_block one_each (1 + extent slot_block one_each xs) (s ∷ []))) (same-is q _ h ∙ sym before) ∙ find-first slot_block one_each one-positive (1 + extent slot_block one_each xs) s [] ∙ block_is s e
      | false ↦ λ h. find-other slot_block one_each one-positive q (1 + extent slot_block one_each xs) s [] (λ k. differs q _ (k ∙ before) h)
    ] refl)
    ∙ ap (λ l. insert (live_from slot_block one_each 1 l) (length xs + 1) (record { words = s.words.items; pins = s.pins })) (append-nil xs)

slot_account : (s : Slot) → block_used (slot_block s) ≡ slot_used s
unfolding block_used
slot_account s = elim (s.live) as (λ b. block_used (cond b (Some (record { words = s.words.items; pins = s.pins })) None) ≡ cond b (r (length s.words.items)) 0) [ true ↦ refl | false ↦ refl ]

same_sums : (xs : List Slot) → sum_by (λ s. block_used (slot_block s)) xs ≡ sum_by slot_used xs
same_sums xs = simp slot_account

pub used-slots : (xs : List Slot) → used_by (live_slots xs) ≡ sum_by slot_used xs
unfolding live_slots
used-slots xs = used-live slot_block one_each one-positive 1 xs ∙ same_sums xs

-- what an operation on the slot of a live block does to the map
module _ (xs : List Slot) (i b : ℕ) (s : Slot) (m : Live) (same_map : live_slots xs ≡ m) (is : i + 1 ≡ b) (live_here : IsLive m b) (read : s ≡ get_or xs i s) where
  live : IsLive (live_slots xs) b
  live = subst (λ (l : Live). IsLive l b) (sym same_map) live_here

  pub index-within : i < length xs
  index-within = live-within xs i b is live

  s-live : s.live ≡ true
  s-live = ap (λ (t : Slot). t.live) read ∙ slot-live xs i b s is live

  s-words : s.words.items ≡ words_of (live_slots xs) b
  s-words = ap (λ (t : Slot). t.words.items) read ∙ sym (slot-words xs i b s is live)

  s-pins : s.pins ≡ pins_of (live_slots xs) b
  s-pins = ap (λ (t : Slot). t.pins) read ∙ sym (slot-pins xs i b s is live)

  pub read-pins : s.pins ≡ pins_of m b
  read-pins = s-pins ∙ ap (λ l. pins_of l b) same_map

  pub read-words : s.words.items ≡ words_of m b
  read-words = s-words ∙ ap (λ l. words_of l b) same_map

  pub slot-pinned : (t : Slot) (n : ℕ) → t.live ≡ s.live → t.words.items ≡ s.words.items → t.pins ≡ n → live_slots (set xs i t) ≡ with_pins m b n
  slot-pinned t n l w p =
      set-live xs i b t s is (live-within xs i b is live) (l ∙ s-live)
      ∙ ap (insert (live_slots xs) b) (λ j. record { words = (w ∙ s-words) j; pins = p j })
      ∙ ap (λ l. with_pins l b n) same_map

  pub slot-written : (t : Slot) (ws : List ℤ) → t.live ≡ s.live → t.words.items ≡ ws → t.pins ≡ s.pins → live_slots (set xs i t) ≡ with_words m b ws
  slot-written t ws l w p =
      set-live xs i b t s is (live-within xs i b is live) (l ∙ s-live)
      ∙ ap (insert (live_slots xs) b) (λ j. record { words = w j; pins = (p ∙ s-pins) j })
      ∙ ap (λ l. with_words l b ws) same_map

  pub slot-given : (t : Slot) → t.live ≡ false → live_slots (set xs i t) ≡ remove m b
  slot-given t l = set-dead xs i b t s is (live-within xs i b is live) l ∙ ap (λ l. remove l b) same_map

  s-used : slot_used s ≡ r (length s.words.items)
  s-used = ap (λ t. cond t (r (length s.words.items)) 0) s-live

  s-same-used : slot_used (get_or xs i s) ≡ slot_used s
  s-same-used = ap slot_used (sym read)

  pub size-within : (used : ℕ) → used ≡ sum_by slot_used xs → r (length s.words.items) ≤ used
  size-within used e = omega (arith, get_or-le-sum_by slot_used xs i s (live-within xs i b is live), s-used, s-same-used)

  pub given-accounted : (t : Slot) (size used scratch : ℕ) → t.live ≡ false → length t.words.items ≤ scratch → IsAccounted xs size used scratch → IsAccounted (set xs i t) size (used - r (length s.words.items)) scratch
  given-accounted t size used scratch l small h = record {
    account = omega (arith, h.account, sum_by-set slot_used xs i t s (live-within xs i b is live), s-used, s-same-used, ap (λ v. cond v (r (length t.words.items)) 0) l);
    within = omega (arith, h.within);
    room = All-set (λ z. length z.words.items ≤ scratch) xs i t small h.room;
  }

  pub written-accounted : (t : Slot) (size used scratch : ℕ) → t.live ≡ s.live → length t.words.items ≡ length s.words.items → IsAccounted xs size used scratch → IsAccounted (set xs i t) size used scratch
  written-accounted t size used scratch l same h = record {
    account = h.account ∙ (let e : slot_used t ≡ slot_used s = (λ j. cond (l j) (r (same j)) 0) in omega (arith, sum_by-set slot_used xs i t s (live-within xs i b is live), s-same-used, e));
    within = h.within;
    room = All-set (λ z. length z.words.items ≤ scratch) xs i t (let small : length (get_or xs i s).words.items ≤ scratch = h.room i s (live-within xs i b is live) in let e : length s.words.items ≡ length (get_or xs i s).words.items = ap (λ (z : Slot). length z.words.items) read in omega arith) h.room;
  }

-- a new block in a free slot or behind the last one
pub taken-account : (xs : List Slot) (i : ℕ) (t d : Slot) (size used scratch more w : ℕ) → i < length xs → (get_or xs i d).live ≡ false → t.live ≡ true → length t.words.items ≡ w → w ≤ more → scratch ≤ more → used + r w ≤ size → IsAccounted xs size used scratch → IsAccounted (set xs i t) size (used + r w) more
taken-account xs i t d size used scratch more w within free l len fits longer room h =
    let old : slot_used (get_or xs i d) ≡ 0 = ap (λ v. cond v (r (length (get_or xs i d).words.items)) 0) free in
    let new : slot_used t ≡ r w = (λ j. cond (l j) (r (len j)) 0) in
    record {
      account = omega (arith, h.account, sum_by-set slot_used xs i t d within, old, new);
      within = room;
      room = All-set (λ z. length z.words.items ≤ more) xs i t (omega arith) (λ k e b. let small : length (get_or xs k e).words.items ≤ scratch = h.room k e b in omega arith);
    }

pub pushed-account : (xs : List Slot) (t : Slot) (size used scratch more w : ℕ) → t.live ≡ true → length t.words.items ≡ w → w ≤ more → scratch ≤ more → used + r w ≤ size → IsAccounted xs size used scratch → IsAccounted (xs ++ t ∷ []) size (used + r w) more
pushed-account xs t size used scratch more w l len fits longer room h =
    let new : slot_used t ≡ r w = (λ j. cond (l j) (r (len j)) 0) in
    record {
      account = omega (arith, h.account, sum_by_push slot_used xs t, new);
      within = room;
      room = All-push (λ z. length z.words.items ≤ more) xs t (λ k e b. let small : length (get_or xs k e).words.items ≤ scratch = h.room k e b in omega arith) (omega arith);
    }

-- its name was nobody's
pub free-none : (xs : List Slot) (i : ℕ) (d : Slot) → i < length xs → (get_or xs i d).live ≡ false → get (live_slots xs) (i + 1) ≡ None
free-none xs i d within free = get-slot xs i d within ∙ none_is (get_or xs i d) free

pub past-none : (xs : List Slot) → get (live_slots xs) (length xs + 1) ≡ None
unfolding live_slots
past-none xs = get-live slot_block one_each one-positive 1 xs (length xs + 1) ∙ find-past slot_block one_each one-positive (length xs + 1) 1 xs (omega (arith, extent-length xs))

pub room_is : (n used size : ℕ) → used ≤ size → nat_le n (size - used) ≡ nat_le (used + n) size
room_is n used size h = grind (arith, nat_tests)

pub put-fresh : {xs new : List Slot} {t : Slot} {i : ℕ} (b : ℕ) → b ≡ i + 1 → IsPut xs t i new → get (live_slots xs) b ≡ None
put-fresh {xs} {new} {t} b e (reused {i = i} within free is) = ap (get (live_slots xs)) e ∙ free-none xs i t within (free t)
put-fresh {xs} b e (pushed {i = i} at is) = ap (get (live_slots xs)) (e ∙ ap (λ n. n + 1) at) ∙ past-none xs

pub put-taken : {xs new : List Slot} {t : Slot} {i : ℕ} (b : ℕ) → b ≡ i + 1 → t.live ≡ true → IsPut xs t i new → live_slots new ≡ insert (live_slots xs) b (record { words = t.words.items; pins = t.pins })
put-taken {xs} {new} {t} b e l (reused {i = i} within free is) = ap live_slots is ∙ set-live xs i b t t (sym e) within l
put-taken {xs} {new} {t} b e l (pushed {i = i} at is) = ap live_slots is ∙ push-live xs t l ∙ ap (λ n. insert (live_slots xs) n (record { words = t.words.items; pins = t.pins })) (sym (e ∙ ap (λ n. n + 1) at))

pub put-account : {xs new : List Slot} {t : Slot} {i : ℕ} (size used scratch more w : ℕ) → t.live ≡ true → length t.words.items ≡ w → w ≤ more → scratch ≤ more → used + r w ≤ size → IsAccounted xs size used scratch → IsPut xs t i new → IsAccounted new size (used + r w) more
put-account {xs} {new} {t} size used scratch more w l len fits longer room h (reused {i = i} within free is) =
    subst (λ ys. IsAccounted ys size (used + r w) more) (sym is) (taken-account xs i t t size used scratch more w within (free t) l len fits longer room h)
put-account {xs} {new} {t} size used scratch more w l len fits longer room h (pushed at is) =
    subst (λ ys. IsAccounted ys size (used + r w) more) (sym is) (pushed-account xs t size used scratch more w l len fits longer room h)

below : (m n : ℕ) → nat_le m n ≡ true → m ≤ n
below m n e = grind (arith, nat_tests)

-- where the test said that there is room
pub fits_in : (h : Heap) (xs : List Slot) (size used w : ℕ) (b : Bool) → ◌≡◌ {A = Heap} (record { blocks = live_slots xs; size = size }) h → used ≡ sum_by slot_used xs → b ≡ true → b ≡ nat_le (used_by h.blocks + r w) h.size → used + r w ≤ size
fits_in h xs size used w b is account t e =
    let le : used_by h.blocks + r w ≤ h.size = below _ _ (sym e ∙ t) in
    let here = subst (λ (k : Heap). used_by k.blocks + r w ≤ k.size) (sym is) le in
    omega (arith, here, used-slots xs, account)
