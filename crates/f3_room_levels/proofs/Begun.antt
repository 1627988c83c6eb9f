-- A level that begins in a new block.
use Rattle.std.proofs.Common.{◌≡◌, ◌≢◌, inl, inr, ℕ, zero, suc, ◌+◌, ◌<◌, ◌≤◌, ℤ, pos, List, [], ◌∷◌, ◌++◌, length, get_or, replicate, refl, sym, ap, subst, ◌∙◌, arith}
use Rattle.std.proofs.lemmas.Bool.{cases_eq}
use Rattle.std.proofs.lemmas.List.{length-replicate, length-set, append-nil}
use Rattle.std.specs.Prelude.{None}
use Rattle.std.specs.FinMap.{get as find}
use Rattle.f3_program.specs.declared.declarations.Declared.{Declared}
use Rattle.f3_heap_laws.specs.Account.{used_by, r as taken_for}
use Rattle.f3_heap_laws.specs.Answers.{sizes}
use Rattle.f3_live_blocks.specs.Blocks.{Live, IsLive, words_of, with_taken}
use Rattle.f3_heap_laws.proofs.Answers.{sizes-with_words, used-taken, used_same}
use Rattle.f3_live_blocks.proofs.Laws.{get-insert_other, live-insert_same, words-insert_same, fresh-apart}
use Rattle.f3_meaning_whole.specs.Value.{Value}
use Rattle.f3_meaning_whole.specs.Shape.{Shape}
use Rattle.f3_meaning_whole.specs.Store.{Store}
use Rattle.f3_rooms.specs.Held.{times}
use Rattle.f3_rooms.specs.Forms.{total}
use Rattle.f3_rooms.specs.Rooms.{Slot, Stands, Rooms, room_values, level_values, level_blocks, blocks_of, store_of}
use Rattle.f3_rooms.specs.Places.{with_word}
use Rattle.f3_rooms.specs.Sound.{IsRoom, IsSound}
use Rattle.f3_rooms.specs.Laws.{Keeps}
use Rattle.f3_rooms.proofs.Allocating.{only_one, at_most_one}
use Rattle.f3_rooms.proofs.Levels.{levels_begin}
use Rattle.f3_rooms.proofs.Living.{all_live, new_none}
use Rattle.f3_rooms.proofs.Words.{put_live}
use Rattle.f3_room_objects.proofs.Windows.{WordsAre}
use Rattle.f3_room_levels.specs.Initial.{AllCanBegin, initial_words, initial_values}
use Rattle.f3_room_levels.specs.Levels.{begun, BeginsLevel, Begins}
use Rattle.f3_room_levels.specs.Writing.{with_words_from, IsBlank}
use Rattle.f3_room_levels.proofs.Initials.{front_begun}
use Rattle.f3_room_levels.proofs.Widths.{initial_many}
use Rattle.f3_room_levels.proofs.Written.{written_from, from_are, from_others}

zero_at : (k i : ℕ) → get_or (replicate k (pos 0)) i (pos 0) ≡ pos 0
zero_at zero zero = refl
zero_at zero (suc i) = refl
zero_at (suc k) zero = refl
zero_at (suc k) (suc i) = zero_at k i

-- the lengths of blocks stay
sizes_from : (m : Live) (b o : ℕ) (ws : List ℤ) → IsLive m b → sizes (with_words_from m b o ws) ≡ sizes m
sizes_from m b o [] live = refl
sizes_from m b o (w ∷ ws) live =
    sizes_from (with_word m b o w) b (o + 1) ws (put_live m b o w b live)
    ∙ sizes-with_words m b _ live (length-set (words_of m b) o w)

module _ (m mid : Live) (words b : ℕ) (taken : mid ≡ with_taken m b words) where
  mid_words : words_of mid b ≡ replicate words (pos 0)
  mid_words = ap (λ (k : Live). words_of k b) taken ∙ words-insert_same m b _

  mid_live : IsLive mid b
  mid_live = subst (λ (k : Live). IsLive k b) (sym taken) (live-insert_same m b _)

  mid_long : length (words_of mid b) ≡ words
  mid_long = ap length mid_words ∙ length-replicate words (pos 0)

  pub taken_blank : (n : ℕ) → n ≤ words → IsBlank mid b 0 n
  taken_blank n fits = record {
    live = mid_live;
    within = let e = mid_long in omega arith;
    zeros = λ i from before. ap (λ ws. get_or ws i (pos 0)) mid_words ∙ zero_at words i;
  }

  mid_other : (q : ℕ) → q ≢ b → find mid q ≡ find m q
  mid_other q ne = ap (λ (k : Live). find k q) taken ∙ get-insert_other m b _ q ne

  module _ (n : Live) (ws : List ℤ) (written : n ≡ with_words_from mid b 0 ws) where
    pub begun_used : find m b ≡ None → used_by n ≡ used_by m + taken_for words
    begun_used fresh =
        used_same mid n (ap sizes written ∙ sizes_from mid b 0 ws mid_live)
        ∙ ap used_by taken ∙ used-taken m b words fresh

    begun_other : (q : ℕ) → q ≢ b → find n q ≡ find m q
    begun_other q ne = ap (λ (k : Live). find k q) written ∙ from_others mid b 0 ws q ne ∙ mid_other q ne

    begun_live : IsLive n b
    begun_live = subst (λ (k : Live). IsLive k b) (sym written) ((written_from mid b 0 ws).live b mid_live)

    begun_long : length (words_of n b) ≡ words
    begun_long = ap (λ (k : Live). length (words_of k b)) written ∙ (written_from mid b 0 ws).long b ∙ mid_long

module _ (ts : List Shape) (m mid n : Live) (ds : List Declared) (words b : ℕ) (fresh : find m b ≡ None) (taken : mid ≡ with_taken m b words) (can : AllCanBegin ts ds) (long : total ts ds ≤ words)
    (written : n ≡ with_words_from mid b 0 (initial_words ts ds)) where
  abbrev ws : List ℤ
  ws = initial_words ts ds

  abbrev l : List Slot
  l = Stands (begun b ds) ∷ []

  there : WordsAre n b 0 ws
  there = subst (λ (k : Live). WordsAre k b 0 ws) (sym written)
      (from_are mid b 0 ws (let e = initial_many ts ds can in let f = mid_long m mid words b taken in omega arith))

  front : (room_values ts n (begun b ds) ≡ initial_values ts ds) × IsRoom ts n (begun b ds)
  front = front_begun ts n b ds can (begun_live m mid words b taken n ws written) (let e = begun_long m mid words b taken n ws written in omega arith) there

  keeps : (x : Rooms) → IsSound ts m x → Keeps m n x
  keeps x sound q some = begun_other m mid words b taken n ws written q (fresh-apart m b q fresh (all_live ts m x sound q some))

  apart : (x : Rooms) → IsSound ts m x → (q : ℕ) → times q (blocks_of x) + times q (level_blocks l) ≤ 1
  apart x sound q = elim (cases_eq q b) [
    | inl e ↦ (let none : times q (blocks_of x) ≡ 0 = subst (λ p. times p (blocks_of x) ≡ 0) (sym e) (new_none ts m x sound b fresh) in let one = at_most_one q b in omega arith)
    | inr ne ↦ (
        let none : times q (b ∷ []) ≡ 0 = not_here q b ne in
        let one : times q (blocks_of x) ≤ 1 = sound.apart q in
        omega arith
        )
  ]
    where
      small : (k : ℕ) → (0 < k → ⊥) → k ≡ 0
      small zero h = refl
      small (suc k) h = absurd (h (omega arith))

      not_here : (q b : ℕ) → q ≢ b → times q (b ∷ []) ≡ 0
      not_here q b ne = small (times q (b ∷ [])) (λ some. ne (only_one q b some))

  level : (x : Rooms) → IsSound ts m x → BeginsLevel ts m n ds b x
  level x sound =
      let more = levels_begin ts m n x l sound (keeps x sound) (front.1, tt) (apart x sound) in
      let values : level_values ts n l ≡ initial_values ts ds = append-nil (room_values ts n (begun b ds)) ∙ front.0 in
      record {
        store = more.0
            ∙ ap (λ (vs : List Value). let s : Store = record { statics = (store_of ts m x).statics; levels = (store_of ts m x).levels ++ vs ∷ [] } in s) values;
        sound = more.1;
      }

  pub begins : Begins ts m n ds words b
  begins = record {
    fresh = fresh;
    is = written ∙ ap (λ (k : Live). with_words_from k b 0 ws) taken;
    room = front.1;
    values = front.0;
    level = level;
  }
