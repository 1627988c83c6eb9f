-- What an allocatable holds is moved to another.
use Rattle.std.proofs.Common.{◌≡◌, ◌≢◌, ◌⊎◌, inl, inr, ℕ, zero, suc, ◌+◌, ◌-◌, ◌*◌, ◌<◌, ◌≤◌, ℤ, pos, List, [], ◌∷◌, ◌++◌, length, take, drop, get_or, refl, sym, ap, subst, ◌∙◌, arith, append-nil, is_some}
use Rattle.std.proofs.lemmas.Bool.{cases_eq, cases_lt}
use Rattle.f3_live_blocks.specs.Blocks.{Live, IsLive, words_of, with_words}
use Rattle.std.specs.FinMap.{get as find}
use Rattle.f3_live_blocks.proofs.Laws.{get-insert_other, live-insert, live-insert_same, words-insert_same, words-insert_other}
use Rattle.f3_meaning_whole.specs.Value.{Span}
use Rattle.f3_objects.specs.Tree.{words}
use Rattle.f3_objects.specs.Holds.{with_words_at, with_moved}
use Rattle.f3_objects.proofs.Spans.{length-written, written_there, read_outside}
use Rattle.f3_rooms.specs.Held.{Held, Empty, Holds}
use Rattle.f3_rooms.specs.Forms.{Form, Allocatable, form_words, words_for}
use Rattle.f3_rooms.specs.Values.{word}
use Rattle.f3_rooms.specs.Rooms.{Rooms, blocks_of}
use Rattle.f3_rooms.specs.Places.{Found, with_word, rooms_with}
use Rattle.f3_rooms.specs.Sound.{TellBounds, IsForm, IsObject, IsHolder, IsAllocated, IsSound}
use Rattle.f3_rooms.specs.Laws.{IsWithin, with_bounds, with_holder}
use Rattle.f3_rooms.proofs.Framing.{Steady, Kept}
use Rattle.f3_rooms.proofs.Keeping.{store_stays, rooms_persist}
use Rattle.f3_rooms.proofs.Moving.{objects_move}
use Rattle.f3_rooms.proofs.Freeing.{emptied}
use Rattle.f3_rooms.proofs.Within.{part_lies}
use Rattle.f3_rooms.proofs.Words.{IsWritten, put_long, put_there, put_apart, written_holder, holder_names, holder_told}
use Rattle.f3_room_objects.specs.Trees.{bounds_of, object_tree, formed_tree, tree_at}
use Rattle.f3_room_objects.specs.Changes.{MovesAreMoves}
use Rattle.f3_room_objects.proofs.Windows.{WordsAre, window, from_are, length-bounds}

-- bounds are words
tell_are : (m : Live) (b o : ℕ) (ss : List Span) → TellBounds m b o ss → WordsAre m b o (bounds_of ss)
tell_are m b o [] tell = tt
tell_are m b o (s ∷ ss) tell =
    let e : o + 2 ≡ (o + 1) + 1 = omega arith in
    (tell.0, (tell.1, subst (λ i. WordsAre m b i (bounds_of ss)) e (tell_are m b (o + 2) ss tell.2)))

are_at : (m : Live) (b o : ℕ) (ws : List ℤ) (j : ℕ) → WordsAre m b o ws → j < length ws → word m b (o + j) ≡ get_or ws j (pos 0)
are_at m b o [] j are lt = absurd (omega arith)
are_at m b o (w ∷ ws) zero are lt = let e : o + 0 ≡ o = omega arith in ap (word m b) e ∙ are.0
are_at m b o (w ∷ ws) (suc j) are lt = let e : o + suc j ≡ (o + 1) + j = omega arith in ap (word m b) e ∙ are_at m b (o + 1) ws j are.1 (omega arith)

-- words that are written at a place
module _ (m : Live) (b o : ℕ) (ws : List ℤ) (fits : o + length ws ≤ length (words_of m b)) where
  abbrev written : Live
  written = with_words m b (with_words_at (words_of m b) o ws)

  long_written : length (words_of written b) ≡ length (words_of m b)
  long_written = ap length (words-insert_same m b _) ∙ length-written (words_of m b) o ws fits

  are_written : WordsAre written b o ws
  are_written = from_are written b o ws (window written b o (length ws) (let e = long_written in omega arith)
      ∙ ap (λ us. take (length ws) (drop o us)) (words-insert_same m b _) ∙ written_there (words_of m b) o ws (omega arith))

  is_written : IsWritten m written b o (length ws)
  is_written = record {
    live = λ q live. live-insert m b _ q live;
    long = λ q. elim (cases_eq q b) [
      | inl e ↦ ap (λ k. length (words_of written k)) e ∙ long_written ∙ ap (λ k. length (words_of m k)) (sym e)
      | inr ne ↦ ap length (words-insert_other m b _ q ne)
    ];
    same = λ q i aside. elim (cases_eq q b) [
      | inl e ↦ ap (λ k. word written k i) e ∙ ap (λ us. get_or us i (pos 0)) (words-insert_same m b _)
          ∙ read_outside (words_of m b) o i ws (pos 0) (omega arith) (aside e) ∙ ap (λ k. word m k i) (sym e)
      | inr ne ↦ ap (λ us. get_or us i (pos 0)) (words-insert_other m b _ q ne)
    ];
  }

-- ---- moving

bounds_find : (m : Live) (b o : ℕ) (ss : List Span) (q : ℕ) → q ≢ b → find (with_bounds m b o ss) q ≡ find m q
bounds_find m b o [] q ne = refl
bounds_find m b o (s ∷ ss) q ne =
    let one : Live = with_word m b o s.lower in
    bounds_find (with_word one b (o + 1) (pos s.extent)) b (o + 2) ss q ne ∙ get-insert_other one b _ q ne ∙ get-insert_other m b _ q ne

module _ (m : Live) (from a to b c : ℕ) (ss : List Span) where
  abbrev ws : List ℤ
  ws = pos c ∷ (bounds_of ss ++ [])

  wide : length ws ≡ 1 + 2 * length ss
  wide = let e = length-bounds ss in ap (λ ds. suc (length ds)) (append-nil (bounds_of ss)) ∙ omega arith

  module _ (source : a + (1 + 2 * length ss) ≤ length (words_of m from)) (target : b + (1 + 2 * length ss) ≤ length (words_of m to))
      (apart : from ≡ to → (a + (1 + 2 * length ss) ≤ b) ⊎ (b + (1 + 2 * length ss) ≤ a)) where
    -- first written, then emptied
    abbrev mid : Live
    mid = with_words m to (with_words_at (words_of m to) b ws)

    abbrev moved : Live
    moved = with_word mid from a (pos 0)

    -- first emptied, then written
    abbrev bare : Live
    bare = with_word m from a (pos 0)

    abbrev held : Live
    held = with_holder bare to b c ss

    fits : b + length ws ≤ length (words_of m to)
    fits = let e = wide in omega arith

    mid_written : IsWritten m mid to b (1 + 2 * length ss)
    mid_written = subst (IsWritten m mid to b) wide (is_written m to b ws fits)

    held_written : IsWritten bare held to b (1 + 2 * length ss)
    held_written = written_holder bare to b c ss

    fits_bare : b + (1 + 2 * length ss) ≤ length (words_of bare to)
    fits_bare = let e = put_long m from a (pos 0) to in omega arith

    held_are : WordsAre held to b ws
    held_are = (
      holder_names bare to b c ss fits_bare,
      subst (WordsAre held to (b + 1)) (sym (append-nil (bounds_of ss))) (tell_are held to (b + 1) ss (holder_told bare to b c ss fits_bare)),
    )

    -- the word that was emptied is none of those that were written
    not_emptied : (q i : ℕ) → q ≡ to → b ≤ i → i < b + (1 + 2 * length ss) → q ≡ from → i ≢ a
    not_emptied q i e low high f g = elim (apart (sym f ∙ e)) [ inl before ↦ omega arith | inr after ↦ omega arith ]

    inside : (i : ℕ) → b ≤ i → i < b + (1 + 2 * length ss) → word moved to i ≡ word held to i
    inside i low high =
        let j : ℕ = i - b in
        let e : i ≡ b + j = omega arith in
        let w = wide in
        let lt : j < length ws = omega arith in
        put_apart mid from a (pos 0) to i (not_emptied to i refl low high)
        ∙ ap (word mid to) e ∙ are_at mid to b ws j (are_written m to b ws fits) lt
        ∙ sym (are_at held to b ws j held_are lt) ∙ ap (word held to) (sym e)

    zeroed : (q : ℕ) → q ≡ from → word moved q a ≡ word bare q a
    zeroed q e =
        let long : length (words_of mid from) ≡ length (words_of m from) = mid_written.long from in
        ap (λ k. word moved k a) e ∙ put_there mid from a (pos 0) (omega arith) ∙ sym (put_there m from a (pos 0) (omega arith)) ∙ ap (λ k. word bare k a) (sym e)

    outside : (q i : ℕ) → (q ≡ to → (i < b) ⊎ (b + (1 + 2 * length ss) ≤ i)) → word moved q i ≡ word bare q i
    outside q i aside = elim (cases_eq i a) [
      | inl e ↦ elim (cases_eq q from) [
        | inl f ↦ ap (word moved q) e ∙ zeroed q f ∙ ap (word bare q) (sym e)
        | inr ne ↦ put_apart mid from a (pos 0) q i (λ f. absurd (ne f)) ∙ mid_written.same q i aside ∙ sym (put_apart m from a (pos 0) q i (λ f. absurd (ne f)))
      ]
      | inr ne ↦ put_apart mid from a (pos 0) q i (λ f. ne) ∙ mid_written.same q i aside ∙ sym (put_apart m from a (pos 0) q i (λ f. ne))
    ]

    same : (q i : ℕ) → word moved q i ≡ word held q i
    same q i = elim (cases_eq q to) [
      | inl e ↦ elim (cases_lt i b) [
        | inl before ↦ outside q i (λ f. inl before) ∙ sym (held_written.same q i (λ f. inl before))
        | inr low ↦ elim (cases_lt i (b + (1 + 2 * length ss))) [
          | inl high ↦ ap (λ k. word moved k i) e ∙ inside i low high ∙ ap (λ k. word held k i) (sym e)
          | inr after ↦ outside q i (λ f. inr after) ∙ sym (held_written.same q i (λ f. inr after))
        ]
      ]
      | inr ne ↦ outside q i (λ f. absurd (ne f)) ∙ sym (held_written.same q i (λ f. absurd (ne f)))
    ]

    long : (q : ℕ) → length (words_of moved q) ≡ length (words_of held q)
    long q = put_long mid from a (pos 0) q ∙ mid_written.long q ∙ sym (held_written.long q ∙ put_long m from a (pos 0) q)

    live : (q : ℕ) → IsLive held q → IsLive moved q
    live q there = elim (cases_eq q from) [
      | inl e ↦ subst (IsLive moved) (sym e) (live-insert_same mid from _)
      | inr ne ↦ elim (cases_eq q to) [
        | inl e ↦ live-insert mid from _ q (subst (IsLive mid) (sym e) (live-insert_same m to _))
        | inr far ↦
            let e : find held q ≡ find m q = bounds_find (with_word bare to b (pos c)) to (b + 1) ss q far ∙ get-insert_other bare to _ q far ∙ get-insert_other m from _ q ne in
            let f : find moved q ≡ find m q = get-insert_other mid from _ q ne ∙ get-insert_other m to _ q far in
            ap is_some (f ∙ sym e) ∙ there
      ]
    ]

    steady : (q : ℕ) → Steady held moved q
    steady q = record { live = live q; long = long q; same = same q }

moved_words : (m : Live) (f : Found) (rank c : ℕ) (ss : List Span) (h : Held) → f.form ≡ Allocatable rank → f.held ≡ Holds c ss h → words (tree_at m f) ≡ ws m f.block f.at 0 0 c ss
moved_words m f rank c ss h is held =
    ap (λ k. words (formed_tree m f.form (words_for f.shape) (object_tree m f.shape) f.block f.at k)) held
    ∙ ap (λ (k : Form). words (formed_tree m k (words_for f.shape) (object_tree m f.shape) f.block f.at (Holds c ss h))) is

lies_wide : (m : Live) (f : Found) (rank : ℕ) → f.form ≡ Allocatable rank → IsWithin m f → f.at + (1 + 2 * rank) ≤ length (words_of m f.block)
lies_wide m f rank is within = subst (λ (k : Form). f.at + form_words k (words_for f.shape) ≤ length (words_of m f.block)) is within.within

pub moves_are_moves : MovesAreMoves
moves_are_moves ts m n x sound r q way other f g from rank is c ss h held to form none shape apart moves =
    let k : Live = with_word m f.block f.at (pos 0) in
    let y : Rooms = rooms_with x r way Empty in
    let z : Rooms = rooms_with y q other (Holds c ss h) in
    let done = objects_move ts m x sound r q way other f g from rank is c ss h held to form none shape in
    let here : IsAllocated m rank (words_for f.shape) (IsObject m f.shape) f.block f.at c ss h
    = subst (λ k. IsHolder m rank (words_for f.shape) (IsObject m f.shape) f.block f.at k) held
    (subst (λ (k : Form). IsForm m k (words_for f.shape) (IsObject m f.shape) f.block f.at f.held) is (part_lies ts m x sound r way f from).form) in
    let ranked : length ss ≡ rank = here.ranked in
    let source : f.at + (1 + 2 * rank) ≤ length (words_of m f.block) = lies_wide m f rank is (part_lies ts m x sound r way f from) in
    let bare : IsSound ts k y = (emptied ts m x sound r way f from rank is m (λ b z. refl)).sound in
    let target : g.at + (1 + 2 * rank) ≤ length (words_of k g.block) = lies_wide k g rank form (part_lies ts k y bare q other g to) in
    let long = put_long m f.block f.at (pos 0) g.block in
    let p : Live = with_moved m f.block f.at g.block g.at (ws m f.block f.at 0 0 c ss) in
    let e : n ≡ p = moves.is ∙ ap (with_moved m f.block f.at g.block g.at) (moved_words m f rank c ss h is held) in
    let kept : Kept (with_holder k g.block g.at c ss) n (blocks_of z) = subst (λ v. Kept (with_holder k g.block g.at c ss) v (blocks_of z)) (sym e) (λ b some.
    steady m f.block f.at g.block g.at c ss (omega arith) (omega arith)
    (subst (λ j. f.block ≡ g.block → (f.at + (1 + 2 * j) ≤ g.at) ⊎ (g.at + (1 + 2 * j) ≤ f.at)) (sym ranked) apart) b) in
    (store_stays ts (with_holder k g.block g.at c ss) n z kept ∙ done.0, rooms_persist ts (with_holder k g.block g.at c ss) n z done.1 kept)
