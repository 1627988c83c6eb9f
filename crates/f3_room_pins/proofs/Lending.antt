-- Lending pins the blocks along a path, and the end of it unpins them.
use Rattle.std.proofs.Common.{◌≡◌, ◌≢◌, inl, inr, ℕ, ◌+◌, ◌-◌, ◌<◌, List, [], ◌∷◌, ◌++◌, length, is_some, pos, Bool, true, false, refl, sym, ap, subst, ◌∙◌, arith}
use Rattle.std.proofs.lemmas.Bool.{cases_eq}
use Rattle.std.proofs.lemmas.Bool.Decides.{nat_tests}
use Rattle.std.specs.Prelude.{nat_eq, if◌then◌else◌, slice_index_or}
use Rattle.f3_live_blocks.specs.Blocks.{Live, IsLive, words_of, pins_of, with_pins}
use Rattle.f3_live_blocks.proofs.Laws.{get-insert_other, live-insert, words-insert_same, words-insert_other, pins-insert_same, pins-insert_other}
use Rattle.f3_meaning_whole.specs.Shape.{Shape}
use Rattle.f3_meaning_whole.specs.Reference.{Reference}
use Rattle.f3_rooms.specs.Held.{times}
use Rattle.f3_rooms.specs.Rooms.{Rooms, blocks_of}
use Rattle.f3_rooms.specs.Sound.{IsSound}
use Rattle.f3_rooms.proofs.Framing.{one_here, Kept}
use Rattle.f3_rooms.proofs.Keeping.{store_stays, rooms_persist}
use Rattle.f3_rooms.proofs.Living.{all_live}
use Rattle.f3_rooms.proofs.Within.{one_more}
use Rattle.f3_room_pins.specs.Pins.{blocks_lent, times_lent, ArePinned}
use Rattle.f3_room_pins.specs.Laws.{with_pinned, with_unpinned, ArePinnedNow, LendingPins, EndingUnpins}
use Rattle.f3_room_pins.proofs.Through.{in_store}

-- pins change, and nothing else
record IsPins (m n : Live) : Type 0 where
  live : (b : ℕ) → IsLive m b → IsLive n b
  back : (b : ℕ) → IsLive n b → IsLive m b
  words : (b : ℕ) → words_of n b ≡ words_of m b

one_pins : (m : Live) (b k : ℕ) → IsLive m b → IsPins m (with_pins m b k)
one_pins m b k here = record {
  live = λ q l. live-insert m b (record { words = words_of m b; pins = k }) q l;
  back = λ q l. elim (cases_eq q b) [
    | inl e ↦ subst (IsLive m) (sym e) here
    | inr ne ↦ ap is_some (sym (get-insert_other m b (record { words = words_of m b; pins = k }) q ne)) ∙ l
  ];
  words = λ q. elim (cases_eq q b) [
    | inl e ↦ subst (λ c. words_of (with_pins m b k) c ≡ words_of m c) (sym e) (words-insert_same m b (record { words = words_of m b; pins = k }))
    | inr ne ↦ words-insert_other m b (record { words = words_of m b; pins = k }) q ne
  ];
}

no_pins : (m : Live) → IsPins m m
no_pins m = record { live = λ b l. l; back = λ b l. l; words = λ b. refl }

pins_then : (m n p : Live) → IsPins m n → IsPins n p → IsPins m p
pins_then m n p first next = record {
  live = λ b l. next.live b (first.live b l);
  back = λ b l. first.back b (next.back b l);
  words = λ b. next.words b ∙ first.words b;
}

abbrev AreLive : List ℕ → Live → Type 0
AreLive bs m = (q : ℕ) → 0 < times q bs → IsLive m q

all_pins : (bs : List ℕ) (m : Live) → AreLive bs m → IsPins m (with_pinned bs m)
all_pins [] m live = no_pins m
all_pins (b ∷ bs) m live =
    let n : Live = with_pins m b (pins_of m b + 1) in
    let first : IsPins m n = one_pins m b (pins_of m b + 1) (live b (one_here b bs)) in
    pins_then m n (with_pinned bs n) first (all_pins bs n (λ q some. first.live q (live q (omega arith))))

all_unpins : (bs : List ℕ) (m : Live) → AreLive bs m → IsPins m (with_unpinned bs m)
all_unpins [] m live = no_pins m
all_unpins (b ∷ bs) m live =
    let n : Live = with_pins m b (pins_of m b - 1) in
    let first : IsPins m n = one_pins m b (pins_of m b - 1) (live b (one_here b bs)) in
    pins_then m n (with_unpinned bs n) first (all_unpins bs n (λ q some. first.live q (live q (omega arith))))

-- ---- how many

not_here : (q b : ℕ) (bs : List ℕ) → q ≢ b → times q (b ∷ bs) ≡ times q bs
not_here q b bs ne = by (nat_eq q b) refl
  where
    by : (t : Bool) → nat_eq q b ≡ t → (if t then 1 else 0) + times q bs ≡ times q bs
    by true e = absurd (ne (grind (arith, nat_tests)))
    by false e = omega arith

pinned_more : (bs : List ℕ) (m : Live) (q : ℕ) → pins_of (with_pinned bs m) q ≡ pins_of m q + times q bs
pinned_more [] m q = omega arith
pinned_more (b ∷ bs) m q =
    let n : Live = with_pins m b (pins_of m b + 1) in
    let i = pinned_more bs n q in
    elim (cases_eq q b) [
      | inl e ↦
          let s : pins_of n q ≡ pins_of m q + 1 = subst (λ c. pins_of n c ≡ pins_of m c + 1) (sym e) (pins-insert_same m b (record { words = words_of m b; pins = pins_of m b + 1 })) in
          let o = one_more q b bs e in
          omega arith
      | inr ne ↦
          let s : pins_of n q ≡ pins_of m q = pins-insert_other m b (record { words = words_of m b; pins = pins_of m b + 1 }) q ne in
          let o = not_here q b bs ne in
          omega arith
    ]

pinned_less : (bs : List ℕ) (m : Live) (q : ℕ) → pins_of (with_unpinned bs m) q ≡ pins_of m q - times q bs
pinned_less [] m q = omega arith
pinned_less (b ∷ bs) m q =
    let n : Live = with_pins m b (pins_of m b - 1) in
    let i = pinned_less bs n q in
    elim (cases_eq q b) [
      | inl e ↦
          let s : pins_of n q ≡ pins_of m q - 1 = subst (λ c. pins_of n c ≡ pins_of m c - 1) (sym e) (pins-insert_same m b (record { words = words_of m b; pins = pins_of m b - 1 })) in
          let o = one_more q b bs e in
          omega arith
      | inr ne ↦
          let s : pins_of n q ≡ pins_of m q = pins-insert_other m b (record { words = words_of m b; pins = pins_of m b - 1 }) q ne in
          let o = not_here q b bs ne in
          omega arith
    ]

-- ---- the store

module _ (ts : List Shape) (m n : Live) (x : Rooms) (sound : IsSound ts m x) (pins : IsPins m n) where
  kept : Kept m n (blocks_of x)
  kept b some = record {
    live = pins.live b;
    long = ap length (pins.words b);
    same = λ i. ap (λ ws. slice_index_or ws i (pos 0)) (pins.words b);
  }

  now : (lent : List Reference) → ArePinned ts n x lent → ArePinnedNow ts m n x lent
  now lent pinned = record { pinned = pinned; store = store_stays ts m n x kept; sound = rooms_persist ts m n x sound kept; live = pins.back }

times_between : (ts : List Shape) (x : Rooms) (b : ℕ) (before behind : List Reference) (l : Reference)
    → times_lent ts x b (before ++ l ∷ behind) ≡ times_lent ts x b (before ++ behind) + times b (blocks_lent ts x l)
times_between ts x b [] behind l = omega arith
times_between ts x b (k ∷ before) behind l = let i = times_between ts x b before behind l in omega arith

lent_live : (ts : List Shape) (m : Live) (x : Rooms) → IsSound ts m x → (l : Reference) → AreLive (blocks_lent ts x l) m
lent_live ts m x sound l q some = all_live ts m x sound q (in_store ts x l.path.root l.path.steps q some)

pub lending_pins : LendingPins
lending_pins ts m x lent l sound pinned =
    let n : Live = with_pinned (blocks_lent ts x l) m in
    now ts m n x sound (all_pins (blocks_lent ts x l) m (lent_live ts m x sound l)) (l ∷ lent) (λ b some. let e = pinned b some in let k = pinned_more (blocks_lent ts x l) m b in omega arith)

pub ending_unpins : EndingUnpins
ending_unpins ts m x before behind l sound pinned =
    let n : Live = with_unpinned (blocks_lent ts x l) m in
    now ts m n x sound (all_unpins (blocks_lent ts x l) m (lent_live ts m x sound l)) (before ++ behind)
    (λ b some. let e = pinned b some in let k = pinned_less (blocks_lent ts x l) m b in let t = times_between ts x b before behind l in omega arith)
