-- Variables that begin in a new block, and the block that is given back.
use Rattle.std.proofs.Common.{◌≡◌, ◌≢◌, inl, inr, ℕ, ◌+◌, ◌≤◌, ℤ, pos, List, [], ◌∷◌, length, refl, sym, ap, subst, ◌∙◌, arith}
use Rattle.std.proofs.lemmas.Bool.{cases_eq}
use Rattle.std.proofs.lemmas.Cmp.{nat_cmp_total}
use Rattle.std.proofs.lemmas.List.{length-replicate}
use Rattle.std.specs.FinMap.{get as find, remove, same_map, nat_cmp-IsAntisymmetric}
use Rattle.f3_program.specs.declared.declarations.Declared.{Declared}
use Rattle.f3_heap_laws.specs.Account.{used_by, r as taken_for}
use Rattle.f3_live_blocks.specs.Blocks.{Live, words_of, pins_of, pins_in, with_taken}
use Rattle.f3_live_blocks.proofs.Laws.{get-insert_other, get-remove_same, get-remove_other, pins-insert_same, words-insert_same}
use Rattle.f3_meaning_whole.specs.Shape.{Shape}
use Rattle.f3_register_states.specs.Inner.Alike.{AreAlike}
use Rattle.f3_register_states.proofs.Alike.{turned, same_can, same_total}
use Rattle.f3_rooms.specs.Forms.{total}
use Rattle.f3_rooms.specs.Places.{with_word}
use Rattle.f3_room_levels.specs.Initial.{AllCanBegin, initial_words}
use Rattle.f3_room_levels.specs.Levels.{Begins as BeginsAt}
use Rattle.f3_room_levels.specs.Writing.{with_words_from}
use Rattle.f3_room_levels.proofs.Written.{from_others, written_long}
use Rattle.f3_word_cells.specs.declared.scene.Frame.{Frame}
use Rattle.f3_word_cells.specs.Scenes.{IsFrame}
use Rattle.f3_word_start.specs.Begins.{HasTaken}

pins_from : (m : Live) (b o : ℕ) (ws : List ℤ) → pins_of (with_words_from m b o ws) b ≡ pins_of m b
pins_from m b o [] = refl
pins_from m b o (w ∷ ws) = pins_from (with_word m b o w) b (o + 1) ws ∙ pins-insert_same m b _

module _ (ts : List Shape) (m n : Live) (ds : List Declared) (words b : ℕ) (h : BeginsAt ts m n ds words b) where
  pub elsewhere : (q : ℕ) → q ≢ b → find n q ≡ find m q
  elsewhere q ne = ap (λ (k : Live). find k q) h.is ∙ from_others (with_taken m b words) b 0 (initial_words ts ds) q ne ∙ get-insert_other m b _ q ne

  pub unpinned : pins_of n b ≡ 0
  unpinned = ap (λ (k : Live). pins_of k b) h.is ∙ pins_from (with_taken m b words) b 0 (initial_words ts ds) ∙ pins-insert_same m b _

  pub pins_elsewhere : (q : ℕ) → q ≢ b → pins_of n q ≡ pins_of m q
  pins_elsewhere q ne = ap pins_in (elsewhere q ne)

  long : length (words_of n b) ≡ words
  long = written_long (with_taken m b words) n b 0 (initial_words ts ds) h.is ∙ ap length (words-insert_same m b _) ∙ length-replicate words (pos 0)

  pub given_back : remove n b ≡ m
  given_back = same_map nat_cmp_total nat_cmp-IsAntisymmetric (remove n b) m all
    where
      all : (q : ℕ) → find (remove n b) q ≡ find m q
      all q = elim (cases_eq q b) [
        | inl e ↦ ap (find (remove n b)) e ∙ get-remove_same n b ∙ sym h.fresh ∙ ap (find m) (sym e)
        | inr ne ↦ get-remove_other n b q ne ∙ elsewhere q ne
      ]

  pub has_taken : used_by n ≡ used_by m + taken_for words → HasTaken m n words
  has_taken used = record { block = b; fresh = h.fresh; long = long; others = elsewhere; used = used }

-- what is declared as the variables of a frame can begin, and has room
module _ (ts ss : List Shape) (same : ss ≡ ts) (ds us : List Declared) (alike : AreAlike ds us) (f : Frame) (so : IsFrame ts ds f) where
  pub can : AllCanBegin ss us
  can = subst (λ rs. AllCanBegin rs us) (sym same) (same_can ts us ds (turned ds us alike) so.begin)

  pub fits : total ss us ≤ f.words
  fits = subst (λ rs. total rs us ≤ f.words) (sym same) (let e = same_total ts ds us alike in let w = so.words in omega arith)
