-- What an allocatable holds is given back with all beneath.
use Rattle.std.proofs.Common.{◌≡◌, inl, inr, ℕ, ◌+◌, ◌*◌, ◌<◌, ◌≤◌, pos, List, [], ◌∷◌, length, get_or, is_some, refl, sym, ap, subst, ◌∙◌, arith}
use Rattle.std.specs.Prelude.{Some}
use Rattle.std.specs.FinMap.{get as find, remove}
use Rattle.f3_live_blocks.specs.Blocks.{Live, words_in, words_of}
use Rattle.f3_live_blocks.proofs.Laws.{get-remove_other}
use Rattle.f3_meaning_whole.specs.Value.{Unallocated}
use Rattle.f3_meaning_whole.specs.Shape.{Shape}
use Rattle.f3_meaning_whole.specs.Store.{Root, Step, put}
use Rattle.f3_rooms.specs.Held.{Empty, blocks_in, times}
use Rattle.f3_rooms.specs.Forms.{Form, Allocatable, form_words, words_for}
use Rattle.f3_rooms.specs.Values.{word, formed, object}
use Rattle.f3_rooms.specs.Rooms.{Rooms, store_of, blocks_of}
use Rattle.f3_rooms.specs.Places.{Found, found, with_word, rooms_with}
use Rattle.f3_rooms.specs.Sound.{IsForm, IsObject, IsSound}
use Rattle.f3_rooms.specs.Laws.{path_at, Replaces, without, Becomes, ObjectsAreFreed}
use Rattle.f3_rooms.proofs.Within.{one_more, size_of, store_owns, part_lies}
use Rattle.f3_rooms.proofs.Stores.{part_replaced}
use Rattle.f3_rooms.proofs.Living.{all_live}
use Rattle.f3_rooms.proofs.Words.{IsWritten, written_word, put_there}

-- a block that is not among those that go
without_other : (bs : List ℕ) (m : Live) (q : ℕ) → times q bs ≡ 0 → find (without bs m) q ≡ find m q
without_other [] m q none = refl
without_other (b ∷ bs) m q none = without_other bs (remove m b) q (omega arith) ∙ get-remove_other m b q (λ e. let k = one_more q b bs e in omega arith)

module _ (ts : List Shape) (m : Live) (x : Rooms) (sound : IsSound ts m x) (r : Root) (way : List Step) (f : Found) (at : found ts x r way ≡ Some f) (rank : ℕ) (is : f.form ≡ Allocatable rank)
    (mid : Live) (kept : (q : ℕ) → times q (blocks_in f.held) ≡ 0 → find mid q ≡ find m q) where
  abbrev pub n : Live
  n = with_word mid f.block f.at (pos 0)

  written : IsWritten mid n f.block f.at 1
  written = written_word mid f.block f.at (pos 0)

  -- blocks of the store that do not go
  stays : (b : ℕ) → times b (blocks_in f.held) < times b (blocks_of x) → find mid b ≡ find m b
  stays b lt = let one = sound.apart b in kept b (omega arith)

  names_none : word n f.block f.at ≡ pos 0
  names_none =
      let within : f.at + size_of f ≤ length (words_of m f.block) = (part_lies ts m x sound r way f at).within in
      let size : size_of f ≡ 1 + 2 * rank = ap (λ (form : Form). form_words form (words_for f.shape)) is in
      let same : length (words_of mid f.block) ≡ length (words_of m f.block) = ap (λ b. length (words_in b)) (stays f.block (store_owns ts x r way f at).block) in
      put_there mid f.block f.at (pos 0) (omega arith)

  pub empties : Replaces m n x f Empty
  empties = record {
    live = λ b lt. (written.live b (ap is_some (stays b lt) ∙ all_live ts m x sound b (omega arith)), written.long b ∙ ap (λ k. length (words_in k)) (stays b lt));
    same = λ b i lt aside.
        written.same b i (λ e. elim (aside e) [
          | inl before ↦ inl before
          | inr after ↦ inr (let size : size_of f ≡ 1 + 2 * rank = ap (λ (form : Form). form_words form (words_for f.shape)) is in omega arith)
        ])
        ∙ ap (λ k. get_or (words_in k) i (pos 0)) (stays b lt);
    form = subst (λ (form : Form). IsForm n form (words_for f.shape) (IsObject n f.shape) f.block f.at Empty) (sym is) names_none;
    once = λ q. omega arith;
    apart = λ q lt. absurd (omega arith);
  }

  pub emptied : Becomes ts m n x (rooms_with x r way Empty) r way Unallocated
  emptied =
      let t = (part_replaced ts m n x sound r way f at Empty empties).0 in
      record {
        store = t.store ∙ ap (put (store_of ts m x) (path_at r way)) (ap (λ (form : Form). formed form (words_for f.shape) (object n f.shape) f.block f.at Empty) is);
        sound = t.sound;
      }

  pub emptied_counts : (q : ℕ) → times q (blocks_of (rooms_with x r way Empty)) + times q (blocks_in f.held) ≤ times q (blocks_of x)
  emptied_counts q = let c = (part_replaced ts m n x sound r way f at Empty empties).1 q in omega arith

pub objects_are_freed : ObjectsAreFreed
objects_are_freed ts m x sound r way f at rank is c ss h held =
    emptied ts m x sound r way f at rank is (without (c ∷ blocks_in h) m)
    (λ q none. without_other (c ∷ blocks_in h) m q (ap (λ k. times q (blocks_in k)) (sym held) ∙ none))
