-- Words that are written change no pins.
use Rattle.std.proofs.Common.{◌≡◌, ◌≢◌, ℕ, pos, ◌+◌, ◌<◌, List, [], ◌∷◌, replicate, refl, sym, ap, subst, ◌∙◌, arith}
use Rattle.f3_live_blocks.specs.Blocks.{Block, Live, pins_in, pins_of, with_taken}
use Rattle.f3_live_blocks.proofs.Laws.{pins-insert_same, pins-insert_other}
use Rattle.f3_meaning_whole.specs.Value.{Span}
use Rattle.f3_rooms.specs.Held.{Empty, Holds, blocks_in, times}
use Rattle.f3_rooms.specs.Rooms.{Rooms, blocks_of}
use Rattle.f3_rooms.specs.Places.{with_word, rooms_with}
use Rattle.f3_rooms.specs.Laws.{with_bounds, with_holder, without}
use Rattle.f3_rooms.proofs.Allocating.{only_one}
use Rattle.f3_rooms.proofs.Living.{new_none}
use Rattle.f3_room_account.proofs.Using.{others_live}
use Rattle.f3_room_pins.specs.Laws.{KeepsLent, WordsKeepPins, AllocatingKeepsPins, FreeingKeepsPins, MovingKeepsPins}
use Rattle.f3_room_pins.proofs.Changing.{same_pins, changes_keep_pins, moves_keep_pins}

bounds_pins : (m : Live) (b o : ℕ) (ss : List Span) (q : ℕ) → pins_of (with_bounds m b o ss) q ≡ pins_of m q
bounds_pins m b o [] q = refl
bounds_pins m b o (s ∷ ss) q =
    let n : Live = with_word m b o s.lower in
    let p : Live = with_word n b (o + 1) (pos s.extent) in
    bounds_pins p b (o + 2) ss q ∙ (same_pins n b (o + 1) (pos s.extent) q ∙ same_pins m b o s.lower q)

holder_pins : (m : Live) (b o c : ℕ) (ss : List Span) (q : ℕ) → pins_of (with_holder m b o c ss) q ≡ pins_of m q
holder_pins m b o c ss q = bounds_pins (with_word m b o (pos c)) b (o + 1) ss q ∙ same_pins m b o (pos c) q

pub words_keep_pins : WordsKeepPins
words_keep_pins ts m x lent pinned b i z q some = same_pins m b i z q ∙ pinned q some

pub allocating_keeps_pins : AllocatingKeepsPins
allocating_keeps_pins ts m x lent sound pinned there r way f at none c n ss fresh =
    changes_keep_pins ts m (with_holder (with_taken m c n) f.block f.at c ss) x lent sound pinned there r way f at
    (λ b lt. absurd (let z : times b (blocks_in f.held) ≡ 0 = ap (λ h. times b (blocks_in h)) none in omega arith)) (Holds c ss Empty) (record {
      others = λ b lt. holder_pins (with_taken m c n) f.block f.at c ss b ∙ pins-insert_other m c new b (not_new b lt);
      held = λ b lt. holder_pins (with_taken m c n) f.block f.at c ss b ∙ subst (λ k. pins_of (with_taken m c n) k ≡ 0) (sym (only_one b c lt)) (pins-insert_same m c new);
    })
  where
    new : Block
    new = record { words = replicate n (pos 0); pins = 0 }

    not_new : (b : ℕ) → times b (blocks_in f.held) < times b (blocks_of x) → b ≢ c
    not_new b lt e = let z = new_none ts m x sound c fresh in let s : times b (blocks_of x) ≡ times c (blocks_of x) = ap (λ k. times k (blocks_of x)) e in omega arith

pub freeing_keeps_pins : FreeingKeepsPins
freeing_keeps_pins ts m x lent sound pinned there r way f at bare =
    let bs : List ℕ = blocks_in f.held in
    changes_keep_pins ts m (with_word (without bs m) f.block f.at (pos 0)) x lent sound pinned there r way f at bare Empty (record {
      others = λ b lt. same_pins (without bs m) f.block f.at (pos 0) b ∙ ap pins_in (others_live m bs b (let one = sound.apart b in omega arith));
      held = λ b lt. absurd (omega arith);
    })

pub moving_keeps_pins : MovingKeepsPins
moving_keeps_pins ts m x lent sound pinned there r q way other f g from rank form c ss h held bare to none =
    let mid : Live = with_word m f.block f.at (pos 0) in
    let n : Live = with_holder mid g.block g.at c ss in
    let y : Rooms = rooms_with x r way Empty in
    subst (λ u. KeepsLent ts n x (rooms_with y q other u) lent) held
    (moves_keep_pins ts m n x lent sound pinned there r q way other f g from rank form bare to none (λ b some. holder_pins mid g.block g.at c ss b ∙ same_pins m f.block f.at (pos 0) b))
