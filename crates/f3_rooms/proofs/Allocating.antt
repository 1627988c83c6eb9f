-- An allocatable that holds nothing gets a new block of zeros.
use Rattle.std.proofs.Common.{◌≡◌, ◌≢◌, inl, inr, ℕ, zero, suc, ◌+◌, ◌*◌, ◌<◌, ◌≤◌, pos, Bool, true, false, nat_eq, List, [], ◌∷◌, length, get_or, replicate, refl, sym, ap, subst, ◌∙◌, arith}
use Rattle.std.proofs.lemmas.Bool.{eqb-true}
use Rattle.std.proofs.lemmas.List.{length-replicate}
use Rattle.std.specs.Prelude.{None, Some, if◌then◌else◌}
use Rattle.std.specs.FinMap.{get as find, empty}
use Rattle.f3_live_blocks.specs.Blocks.{Live, words_of, with_taken}
use Rattle.f3_live_blocks.proofs.Laws.{live-insert, live-insert_same, words-insert_same, words-insert_other, fresh-apart}
use Rattle.f3_meaning_whole.specs.Value.{Span, Allocated}
use Rattle.f3_meaning_whole.specs.Shape.{Shape}
use Rattle.f3_meaning_whole.specs.Store.{Root, Step, put}
use Rattle.f3_rooms.specs.Held.{Held, Empty, Holds, times}
use Rattle.f3_rooms.specs.Forms.{Form, Allocatable, form_words, laid_words, words_for}
use Rattle.f3_rooms.specs.Values.{formed, object}
use Rattle.f3_rooms.specs.Rooms.{Rooms, store_of, blocks_of}
use Rattle.f3_rooms.specs.Places.{Found, value_at, found, rooms_with}
use Rattle.f3_rooms.specs.Sound.{IsForm, IsObject, IsAllocated, IsSound}
use Rattle.f3_rooms.specs.Laws.{path_at, Replaces, with_held_in, with_holder, blank, Becomes, AreZeros, ObjectsAreAllocated}
use Rattle.f3_rooms.proofs.Within.{size_of, part_lies}
use Rattle.f3_rooms.proofs.Stores.{parts_are_replaced}
use Rattle.f3_rooms.proofs.Living.{all_live, new_none}
use Rattle.f3_rooms.proofs.Zeros.{laid_alike, laid_bare, object_alike, object_bare}
use Rattle.f3_rooms.proofs.Words.{IsWritten, written_holder, holder_names, holder_told}

pub only_one : (q c : ℕ) → 0 < times q (c ∷ []) → q ≡ c
only_one q c lt = by (nat_eq q c) refl lt
  where
    by : (t : Bool) → nat_eq q c ≡ t → 0 < (if t then 1 else 0) + 0 → q ≡ c
    by true e some = eqb-true q c e
    by false e some = absurd (omega arith)

pub at_most_one : (q c : ℕ) → times q (c ∷ []) ≤ 1
at_most_one q c = by (nat_eq q c)
  where
    by : (t : Bool) → (if t then 1 else 0) + 0 ≤ 1
    by true = omega arith
    by false = omega arith

zeros_read : (k i : ℕ) → get_or (replicate k (pos 0)) i (pos 0) ≡ pos 0
zeros_read zero zero = refl
zeros_read zero (suc i) = refl
zeros_read (suc k) zero = refl
zeros_read (suc k) (suc i) = zeros_read k i

module _ (ts : List Shape) (m : Live) (x : Rooms) (sound : IsSound ts m x) (r : Root) (way : List Step) (f : Found) (at : found ts x r way ≡ Some f) (rank : ℕ) (is : f.form ≡ Allocatable rank)
    (none : f.held ≡ Empty) (c : ℕ) (ss : List Span) (ranked : length ss ≡ rank) (free : find m c ≡ None) (named : 0 < c) where
  abbrev w : ℕ
  w = words_for f.shape

  abbrev mid : Live
  mid = with_taken m c (laid_words rank ss w)

  abbrev n : Live
  n = with_holder mid f.block f.at c ss

  abbrev u : Held
  u = Holds c ss Empty

  size : size_of f ≡ 1 + 2 * length ss
  size = let e : size_of f ≡ 1 + 2 * rank = ap (λ (form : Form). form_words form w) is in omega arith

  written : IsWritten mid n f.block f.at (1 + 2 * length ss)
  written = written_holder mid f.block f.at c ss

  own : f.block ≢ c
  own = fresh-apart m c f.block free (part_lies ts m x sound r way f at).live

  long : f.at + (1 + 2 * length ss) ≤ length (words_of mid f.block)
  long =
      let within : f.at + size_of f ≤ length (words_of m f.block) = (part_lies ts m x sound r way f at).within in
      let same : length (words_of mid f.block) ≡ length (words_of m f.block) = ap length (words-insert_other m c _ f.block own) in
      let e = size in omega arith

  zeros : AreZeros n c 0 (laid_words rank ss w)
  zeros i low high = written.same c i (λ e. absurd (own (sym e))) ∙ ap (λ ws. get_or ws i (pos 0)) (words-insert_same m c _) ∙ zeros_read (laid_words rank ss w) i

  allocated : IsAllocated n rank w (IsObject n f.shape) f.block f.at c ss Empty
  allocated = record {
    names = holder_names mid f.block f.at c ss long;
    named = named;
    bounds = holder_told mid f.block f.at c ss long;
    ranked = ranked;
    live = written.live c (live-insert_same m c _);
    words = written.long c ∙ ap length (words-insert_same m c _) ∙ length-replicate (laid_words rank ss w) (pos 0);
    within = laid_bare n w (IsObject n f.shape) (object_bare n f.shape) rank ss c 0 zeros;
  }

  -- blocks of the store are others
  known : (b : ℕ) → 0 < times b (blocks_of x) → b ≢ c
  known b lt = fresh-apart m c b free (all_live ts m x sound b lt)

  replaces : Replaces m n x f u
  replaces = record {
    live = λ b lt. (written.live b (live-insert m c _ b (all_live ts m x sound b (omega arith))), written.long b ∙ ap length (words-insert_other m c _ b (known b (omega arith))));
    same = λ b i lt aside.
        written.same b i (λ e. elim (aside e) [ inl before ↦ inl before | inr after ↦ inr (let g = size in omega arith) ])
        ∙ ap (λ ws. get_or ws i (pos 0)) (words-insert_other m c _ b (known b (omega arith)));
    form = subst (λ (form : Form). IsForm n form w (IsObject n f.shape) f.block f.at u) (sym is) allocated;
    once = λ q. at_most_one q c;
    apart = λ q lt. let e = only_one q c lt in let z = new_none ts m x sound c free in let g : times q (blocks_of x) ≡ times c (blocks_of x) = ap (λ b. times b (blocks_of x)) e in omega arith;
  }

  value : value_at n (with_held_in f u) ≡ Allocated (blank rank ss f.shape)
  value = ap (λ (form : Form). formed form w (object n f.shape) f.block f.at u) is ∙ ap Allocated (laid_alike n w (object n f.shape) (object empty f.shape) (object_alike n f.shape) rank ss c 0 0 zeros)

  becomes : Becomes ts m n x (rooms_with x r way u) r way (Allocated (blank rank ss f.shape))
  becomes =
      let t = parts_are_replaced ts m n x sound r way f at u replaces in
      record { store = t.store ∙ ap (put (store_of ts m x) (path_at r way)) value; sound = t.sound }

pub objects_are_allocated : ObjectsAreAllocated
objects_are_allocated ts m x sound r way f at rank is none c ss ranked free named = becomes ts m x sound r way f at rank is none c ss ranked free named
