-- Parts whose trees become others.
use Rattle.std.proofs.Common.{◌≡◌, ◌≢◌, ◌⊎◌, inl, inr, ℕ, ◌+◌, ◌<◌, ◌≤◌, pos, Bool, true, false, List, length, take, drop, get_or, nat_eq, refl, sym, ap, subst, ◌∙◌, arith}
use Rattle.std.proofs.lemmas.Bool.Decides.{nat_tests}
use Rattle.std.specs.Prelude.{Some}
use Rattle.std.specs.FinMap.{get as find}
use Rattle.f3_live_blocks.specs.Blocks.{Live, IsLive, words_of}
use Rattle.f3_meaning_whole.specs.Shape.{Shape}
use Rattle.f3_meaning_whole.specs.Store.{Root, Step}
use Rattle.f3_objects.specs.Tree.{Tree, words, times as times_beneath, Fits}
use Rattle.f3_objects.specs.Holds.{Replaces as TreeReplaces}
use Rattle.f3_objects.proofs.Changes.{not_dead, same_live, same_words}
use Rattle.f3_objects.proofs.Spans.{length-written, written_there, read_outside}
use Rattle.f3_objects.proofs.Trees.{zero_or_more}
use Rattle.f3_rooms.specs.Held.{blocks_in, times}
use Rattle.f3_rooms.specs.Forms.{form_words, words_for}
use Rattle.f3_rooms.specs.Values.{word}
use Rattle.f3_rooms.specs.Rooms.{Rooms, blocks_of}
use Rattle.f3_rooms.specs.Places.{Found, found}
use Rattle.f3_rooms.specs.Sound.{IsForm, IsObject, IsSound}
use Rattle.f3_rooms.specs.Laws.{IsWithin, with_held_in}
use Rattle.f3_rooms.proofs.Living.{all_live}
use Rattle.f3_rooms.proofs.Within.{parts_are_within}
use Rattle.f3_room_objects.specs.Trees.{layout_of, formed_tree, object_tree, tree_at, HaveBounds}
use Rattle.f3_room_objects.specs.Laws.{IsApart, BecomesTree, TreesReplaceParts}
use Rattle.f3_room_objects.proofs.Windows.{window, from_are}
use Rattle.f3_room_objects.proofs.Growing.{part_grown, parts_are_apart}
use Rattle.f3_room_objects.proofs.Planting.{Sits, Planted, part_wide, part_planted}

split : (q b : ℕ) → (q ≡ b) ⊎ (q ≢ b)
split q b = by (nat_eq q b) refl
  where
    by : (t : Bool) → nat_eq q b ≡ t → (q ≡ b) ⊎ (q ≢ b)
    by true f = inl (grind (arith, nat_tests))
    by false f = inr (grind (arith, nat_tests))

module _ (ts : List Shape) (m n : Live) (x : Rooms) (sound : IsSound ts m x) (r : Root) (way : List Step) (f : Found) (at : found ts x r way ≡ Some f) (u : Tree)
    (fits : Fits (layout_of f) u) (bounds : HaveBounds u) (few : (q : ℕ) → times_beneath q u ≤ 1) (change : TreeReplaces m n f.block f.at (tree_at m f) u) where
  abbrev k : ℕ
  k = form_words f.form (words_for f.shape)

  within : IsWithin m f
  within = (parts_are_within ts m x sound r way f at).0

  apart : IsApart f
  apart = parts_are_apart ts m x sound r way f at

  -- the blocks beneath the tree that was there
  were : (q : ℕ) → times_beneath q (tree_at m f) ≡ times q (blocks_in f.held)
  were = (part_grown m f within).counted

  wide : length (words u) ≡ k
  wide = part_wide f.form f.shape u fits

  fitting : f.at + length (words u) ≤ length (words_of m f.block)
  fitting = let long : f.at + k ≤ length (words_of m f.block) = within.within in let e : length (words u) ≡ k = wide in omega arith

  long_new : length (words_of n f.block) ≡ length (words_of m f.block)
  long_new = ap length change.written ∙ length-written (words_of m f.block) f.at (words u) fitting

  sits : Sits n f.block f.at u
  sits = record {
    words = from_are n f.block f.at (words u) (window n f.block f.at (length (words u)) (let e : length (words_of n f.block) ≡ length (words_of m f.block) = long_new in let g = fitting in omega arith)
        ∙ ap (λ ws. take (length (words u)) (drop f.at ws)) change.written ∙ written_there (words_of m f.block) f.at (words u) (let g = fitting in omega arith));
    held = change.held;
    bounds = bounds;
  }

  planted : Planted (formed_tree n f.form (words_for f.shape) (object_tree n f.shape)) (IsForm n f.form (words_for f.shape) (IsObject n f.shape)) f.block f.at u
  planted = part_planted n f.form f.shape f.block f.at u fits sits

  -- a block of the store that is none of the part's
  abbrev IsOther : ℕ → Type 0
  IsOther q = times q (blocks_in f.held) < times q (blocks_of x)

  alive : (q : ℕ) → IsOther q → IsLive m q
  alive q lt = all_live ts m x sound q (omega arith)

  none_held : (q : ℕ) → IsOther q → times_beneath q (tree_at m f) ≡ 0
  none_held q lt = let e = were q in let g = sound.apart q in omega arith

  -- what is live is not taken
  none_taken : (q : ℕ) → IsLive m q → times_beneath q (tree_at m f) ≡ 0 → times_beneath q u ≡ 0
  none_taken q live none = elim (zero_or_more (times_beneath q u)) [ inl e ↦ e | inr some ↦ absurd (not_dead m q live (change.taken q some none).0) ]

  untouched : (q : ℕ) → q ≢ f.block → IsOther q → find n q ≡ find m q
  untouched q ne lt = change.others q ne (none_taken q (alive q lt) (none_held q lt)) (none_held q lt)

  live : (q : ℕ) → IsOther q → IsLive n q × (length (words_of n q) ≡ length (words_of m q))
  live q lt = elim (split q f.block) [
    | inl e ↦ (subst (IsLive n) (sym e) change.live, ap (λ c. length (words_of n c)) e ∙ long_new ∙ ap (λ c. length (words_of m c)) (sym e))
    | inr ne ↦ (same_live m n q (untouched q ne lt) (alive q lt), ap length (same_words m n q (untouched q ne lt)))
  ]

  outside : (i : ℕ) → (i < f.at) ⊎ (f.at + k ≤ i) → word n f.block i ≡ word m f.block i
  outside i away =
      let g = fitting in
      let e : f.at + k ≡ f.at + length (words u) = ap (λ j. f.at + j) (sym wide) in
      ap (λ ws. get_or ws i (pos 0)) change.written
      ∙ read_outside (words_of m f.block) f.at i (words u) (pos 0) (omega arith) (subst (λ j. (i < f.at) ⊎ (j ≤ i)) e away)

  same : (b i : ℕ) → IsOther b → (b ≡ f.block → (i < f.at) ⊎ (f.at + k ≤ i)) → word n b i ≡ word m b i
  same b i lt away = elim (split b f.block) [
    | inl e ↦ ap (λ c. word n c i) e ∙ outside i (away e) ∙ ap (λ c. word m c i) (sym e)
    | inr ne ↦ ap (λ ws. get_or ws i (pos 0)) (same_words m n b (untouched b ne lt))
  ]

  -- the part as it is now, and the blocks beneath
  abbrev now : Found
  now = with_held_in f planted.holds

  length_kept : f.at + k ≤ length (words_of n f.block)
  length_kept = let g = fitting in let e : length (words u) ≡ k = wide in let h : length (words_of n f.block) ≡ length (words_of m f.block) = long_new in omega arith

  are : (q : ℕ) → times_beneath q u ≡ times q (blocks_in planted.holds)
  are q = ap (times_beneath q) (sym planted.is) ∙ (part_grown n now (record { live = change.live; within = length_kept; form = planted.has })).counted q

  apart_now : (q : ℕ) → 0 < times q (blocks_in planted.holds) → times q (blocks_of x) ≤ times q (blocks_in f.held)
  apart_now q some = elim (zero_or_more (times q (blocks_of x))) [
    | inl none ↦ omega arith
    | inr there ↦ elim (zero_or_more (times_beneath q (tree_at m f))) [
      | inl none ↦
          let e : times_beneath q u ≡ 0 = none_taken q (all_live ts m x sound q there) none in
          let g = are q in
          absurd (omega arith)
      | inr held ↦ let e = were q in let g = sound.apart q in omega arith
    ]
  ]

  replaced : BecomesTree m n x f u
  replaced = record {
    held = planted.holds;
    replaces = record {
      live = live;
      same = same;
      form = planted.has;
      once = λ q. let e = are q in let g = few q in omega arith;
      apart = apart_now;
    };
    is = planted.is;
  }

pub trees_replace_parts : TreesReplaceParts
trees_replace_parts ts m n x sound r way f at u fits bounds few change = replaced ts m n x sound r way f at u fits bounds few change
