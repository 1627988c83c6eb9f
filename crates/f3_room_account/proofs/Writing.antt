-- Words that are written make no block live.
use Rattle.std.proofs.Common.{◌≡◌, ◌⊎◌, inl, inr, ℕ, zero, suc, ℤ, pos, ◌+◌, List, [], ◌∷◌, is_some, refl, sym, ap, subst, ◌∙◌, arith}
use Rattle.std.proofs.lemmas.Bool.{cases_eq}
use Rattle.std.specs.Prelude.{None, replicate, slice_set}
use Rattle.std.specs.FinMap.{get, insert}
use Rattle.f3_live_blocks.specs.Blocks.{Block, Live, IsLive, words_of, pins_of, with_taken}
use Rattle.f3_live_blocks.proofs.Laws.{get-insert_other, live-insert}
use Rattle.f3_meaning_whole.specs.Value.{Span}
use Rattle.f3_rooms.specs.Held.{Empty, Holds, blocks_in, times}
use Rattle.f3_rooms.specs.Rooms.{Rooms}
use Rattle.f3_rooms.specs.Places.{with_word, rooms_with}
use Rattle.f3_rooms.specs.Laws.{with_bounds, with_holder, without}
use Rattle.f3_rooms.proofs.Freeing.{emptied}
use Rattle.f3_rooms.proofs.Within.{one_more, store_owns, part_lies}
use Rattle.f3_room_account.specs.Laws.{AreAll, WordsKeepAll, AllocatingKeepsAll, FreeingKeepsAll, MovingKeepsAll}
use Rattle.f3_room_account.proofs.Using.{own_dead, others_live}
use Rattle.f3_room_account.proofs.Keeping.{parts_keep_all, moves_keep_all}

-- a block is put
put_live : (m : Live) (b : ℕ) (k : Block) (q : ℕ) → IsLive (insert m b k) q → (q ≡ b) ⊎ IsLive m q
put_live m b k q live = elim (cases_eq q b) [
  | inl e ↦ inl e
  | inr ne ↦ inr (ap is_some (sym (get-insert_other m b k q ne)) ∙ live)
]

-- in the place of one
put_there : (m : Live) (b : ℕ) (k : Block) (q : ℕ) → IsLive m b → IsLive (insert m b k) q → IsLive m q
put_there m b k q here live = elim (put_live m b k q live) [
  | inl e ↦ subst (IsLive m) (sym e) here
  | inr was ↦ was
]

word_live : (m : Live) (b i : ℕ) (z : ℤ) (q : ℕ) → IsLive m b → IsLive (with_word m b i z) q → IsLive m q
word_live m b i z q here live = put_there m b (record { words = slice_set (words_of m b) i z; pins = pins_of m b }) q here live

word_stays : (m : Live) (b i : ℕ) (z : ℤ) (q : ℕ) → IsLive m q → IsLive (with_word m b i z) q
word_stays m b i z q live = live-insert m b (record { words = slice_set (words_of m b) i z; pins = pins_of m b }) q live

bounds_live : (m : Live) (b o : ℕ) (ss : List Span) (q : ℕ) → IsLive m b → IsLive (with_bounds m b o ss) q → IsLive m q
bounds_live m b o [] q here live = live
bounds_live m b o (s ∷ ss) q here live =
    let n : Live = with_word m b o s.lower in
    let p : Live = with_word n b (o + 1) (pos s.extent) in
    let there : IsLive n b = word_stays m b o s.lower b here in
    word_live m b o s.lower q here
    (word_live n b (o + 1) (pos s.extent) q there (bounds_live p b (o + 2) ss q (word_stays n b (o + 1) (pos s.extent) b there) live))

holder_live : (m : Live) (b o c : ℕ) (ss : List Span) (q : ℕ) → IsLive m b → IsLive (with_holder m b o c ss) q → IsLive m q
holder_live m b o c ss q here live =
    word_live m b o (pos c) q here (bounds_live (with_word m b o (pos c)) b (o + 1) ss q (word_stays m b o (pos c) b here) live)

pub words_keep_all : WordsKeepAll
words_keep_all ts m x sound all r way f at i z b live = all b (word_live m f.block i z b (part_lies ts m x sound r way f at).live live)

pub allocating_keeps_all : AllocatingKeepsAll
allocating_keeps_all ts m x sound all r way f at none c n ss =
    parts_keep_all ts m (with_holder (with_taken m c n) f.block f.at c ss) x sound all r way f at (Holds c ss Empty) (λ b live.
    let here : IsLive (with_taken m c n) f.block = live-insert m c new f.block (part_lies ts m x sound r way f at).live in
    elim (put_live m c new b (holder_live (with_taken m c n) f.block f.at c ss b here live)) [
      | inl e ↦ inr (let o = one_more b c [] e in omega arith)
      | inr was ↦ inl (was, ap (λ h. times b (blocks_in h)) none)
    ])
  where
    new : Block
    new = record { words = replicate n (pos 0); pins = 0 }

-- what is left of blocks
left_live : (m : Live) (bs : List ℕ) (q : ℕ) → IsLive (without bs m) q → IsLive m q × (times q bs ≡ 0)
left_live m bs q live = by (times q bs) refl
  where
    dead : get (without bs m) q ≡ None → IsLive (without bs m) q → ⊥
    dead none live = cc

    by : (k : ℕ) → times q bs ≡ k → IsLive m q × (times q bs ≡ 0)
    by zero e = (ap is_some (sym (others_live m bs q e)) ∙ live, e)
    by (suc k) e = absurd (dead (own_dead m bs q (omega arith)) live)

pub freeing_keeps_all : FreeingKeepsAll
freeing_keeps_all ts m x sound all r way f at =
    let bs : List ℕ = blocks_in f.held in
    let apart : times f.block bs ≡ 0 = (let own = (store_owns ts x r way f at).block in let one = sound.apart f.block in omega arith) in
    let here : IsLive (without bs m) f.block = ap is_some (others_live m bs f.block apart) ∙ (part_lies ts m x sound r way f at).live in
    parts_keep_all ts m (with_word (without bs m) f.block f.at (pos 0)) x sound all r way f at Empty
    (λ b live. inl (left_live m bs b (word_live (without bs m) f.block f.at (pos 0) b here live)))

pub moving_keeps_all : MovingKeepsAll
moving_keeps_all ts m x sound all r q way other f g from rank form c ss h held to none =
    let mid : Live = with_word m f.block f.at (pos 0) in
    let n : Live = with_holder mid g.block g.at c ss in
    let y : Rooms = rooms_with x r way Empty in
    let was = emptied ts m x sound r way f from rank form m (λ b z. refl) in
    let here : IsLive m f.block = (part_lies ts m x sound r way f from).live in
    let there : IsLive mid g.block = (part_lies ts mid y was.sound q other g to).live in
    subst (λ u. AreAll n (rooms_with y q other u)) held
    (moves_keep_all ts m n x sound all r q way other f g from rank form to none (λ b live. word_live m f.block f.at (pos 0) b here (holder_live mid g.block g.at c ss b there live)))
