-- Laws on two allocatables in a block, and on places for them.
use Rattle.std.proofs.Common.{rules, ◌≡◌, ◌≢◌, ℕ, ℤ, pos, ◌+◌, ◌≤◌, inl, inr, List, [], ◌∷◌, ◌++◌, length, take, drop, refl, ap, sym, subst, ◌∙◌, arith}
use Rattle.std.specs.Prelude.{None, slice_index_or}
use Rattle.std.specs.FinMap.{get}
use Rattle.std.proofs.Math.Seq.{take-length}
use Rattle.std.proofs.lemmas.Bool.{cases_eq}
use Rattle.f3_live_blocks.specs.Blocks.{Live, IsLive, words_of}
use Rattle.f3_heap_laws.specs.Answers.{Take}
use Rattle.f3_desc.specs.Shape.{Shape, Plain, Holder, Times, shape_at, shapes_from}
use Rattle.f3_desc.specs.Layout.{pieces_of, shapes, shape_in}
use Rattle.f3_desc.specs.declared.layout.Layout.{Layout}
use Rattle.f3_desc.specs.declared.piece.Piece.{Piece}
use Rattle.f3_objects.specs.Tree.{Tree, End, Word, Unallocated, Allocated, words, times, Fits, unallocated, allocated, Value, Present, value, blank}
use Rattle.f3_objects.specs.Holds.{Held, Holds}
use Rattle.f3_objects.specs.Copies.{Ready, Copies}
use Rattle.f3_objects.proofs.Changes.{not_dead, same_live, same_words}
use Rattle.f3_objects.proofs.Blanks.{blank-fits, blank-bare, held-bare}
use Rattle.f3_objects_tests.specs.Lists.{AreLists, AreReady, IsHead}

-- two allocatables of rank 1
abbrev pub pair : Shape
pair = Times 2 (Holder 1 Plain)

-- the first has this block, with two numbers
abbrev pub two : ℕ → Tree
two b = Allocated b (pos 1 ∷ pos 2 ∷ []) (Word (pos 40) (Word (pos 41) End)) (Unallocated (pos 0 ∷ pos 0 ∷ []) End)

two-fits : (b : ℕ) → Fits pair (two b)
two-fits b = record {
  front = Allocated b (pos 1 ∷ pos 2 ∷ []) (Word (pos 40) (Word (pos 41) End)) End;
  back = Unallocated (pos 0 ∷ pos 0 ∷ []) End;
  split = refl;
  first = allocated b (pos 1 ∷ pos 2 ∷ []) (Word (pos 40) (Word (pos 41) End)) refl (record {
    front = Word (pos 40) End;
    back = Word (pos 41) End;
    split = refl;
    first = (pos 40, refl);
    second = record { front = Word (pos 41) End; back = End; split = refl; first = (pos 41, refl); second = refl };
  });
  second = record { front = Unallocated (pos 0 ∷ pos 0 ∷ []) End; back = End; split = refl; first = unallocated (pos 0 ∷ pos 0 ∷ []) refl; second = refl };
}

two-once : (b q : ℕ) → times q (two b) ≤ 1
two-once b q = elim (cases_eq q b) [
  | inl e ↦ let same : times q (two b) ≡ 1 = search rules in omega arith
  | inr n ↦ let other : times q (two b) ≡ 0 = search rules in omega arith
]

two-apart : (b q : ℕ) → q ≢ b → times q (two b) ≡ 0
two-apart b q n = search rules

-- an object that is all of a block's words
all_of : (m : Live) (b : ℕ) (s : Shape) (t : Tree) → IsLive m b → words_of m b ≡ words t → Held m t → ((q : ℕ) → times q t ≤ 1) → times b t ≡ 0 → Fits s t → Holds m b 0 s t
all_of m b s t live e held once apart fits = record {
  stands = record {
    live = live;
    within = let l = ap length e in omega arith;
    there = ap (take (length (words t))) e ∙ take-length (words t);
    held = held;
    once = once;
    apart = apart;
  };
  fits = fits;
}

pub two_held : (m : Live) (a b : ℕ) → AreLists m a b → Held m (two a)
two_held m a b h = (h.beneath, h.contents, tt, tt, h.positive)

pub two_hold : (m : Live) (a b : ℕ) → AreLists m a b → Holds m b 0 pair (two a)
two_hold m a b h = all_of m b pair (two a) h.live h.written (two_held m a b h) (two-once a) (two-apart a b h.apart) (two-fits a)

-- zeros stand where nothing is allocated
pub blank_holds : (m : Live) (b at : ℕ) (s : Shape) → IsLive m b → at + length (words (blank s)) ≤ length (words_of m b) → take (length (words (blank s))) (drop at (words_of m b)) ≡ words (blank s) → Holds m b at s (blank s)
blank_holds m b at s live l e = record {
  stands = record {
    live = live;
    within = l;
    there = e;
    held = held-bare m (blank s) (blank-bare s);
    once = λ q. let z = blank-bare s q in omega arith;
    apart = blank-bare s b;
  };
  fits = blank-fits s;
}

-- no element stands anywhere
pub none_hold : (m : Live) (b at : ℕ) (s : Shape) → IsLive m b → at ≤ length (words_of m b) → Holds m b at (Times 0 s) End
none_hold m b at s live l = record {
  stands = record { live = live; within = omega arith; there = refl; held = tt; once = λ q. omega arith; apart = refl };
  fits = refl;
}

pub lists_kept : (m n : Live) (a b : ℕ) → AreLists m a b → ((q : ℕ) → IsLive m q → get n q ≡ get m q) → AreLists n a b
lists_kept m n a b h kept = record {
  beneath = same_live m n a (kept a h.beneath) h.beneath;
  live = same_live m n b (kept b h.live) h.live;
  apart = h.apart;
  positive = h.positive;
  contents = same_words m n a (kept a h.beneath) ∙ h.contents;
  written = same_words m n b (kept b h.live) ∙ h.written;
}

-- a new block is none of those that were live
pub new_apart : (m : Live) (b q : ℕ) → get m b ≡ None → IsLive m q → b ≢ q
new_apart m b q fresh live e = not_dead m q live (ap (get m) (sym e) ∙ fresh)

-- a new block of zeros is there for their copy
pub are_ready : (m n : Live) (a b c : ℕ) → AreLists m a b → get m c ≡ None → IsLive n c → words_of n c ≡ pos 0 ∷ pos 0 ∷ pos 0 ∷ pos 0 ∷ pos 0 ∷ pos 0 ∷ [] → ((q : ℕ) → IsLive m q → get n q ≡ get m q) → AreReady n a b c
are_ready m n a b c h fresh live zeros kept = record {
  known = lists_kept m n a b h kept;
  live = live;
  apart = new_apart m c b fresh h.live;
  beneath = new_apart m c a fresh h.beneath;
  zeros = zeros;
}

pub ready_for : (m : Live) (a b c : ℕ) → AreReady m a b c → Ready m b 0 c 0 pair (two a) (blank pair)
ready_for m a b c h = record {
  source = two_hold m a b h.known;
  target = blank_holds m c 0 pair h.live (let n = ap length h.zeros in omega arith) (ap (λ (xs : List ℤ). take 6 (drop 0 xs)) h.zeros);
  apart = h.apart;
  beneath = two-apart a c h.beneath;
  bare = blank-bare pair;
}

-- a new block is ready for a copy of the two
pub two_ready : (m n : Live) (a b c at : ℕ) → AreLists m a b → get m c ≡ None → ((q : ℕ) → IsLive m q → get n q ≡ get m q) → Holds n c at pair (blank pair) → Ready n b 0 c at pair (two a) (blank pair)
two_ready m n a b c at h fresh kept target = record {
  source = two_hold n a b (lists_kept m n a b h kept);
  target = target;
  apart = new_apart m c b fresh h.live;
  beneath = two-apart a c (new_apart m c a fresh h.beneath);
  bare = blank-bare pair;
}

head : (m : Live) (b : ℕ) (t : Tree) (rest : List ℤ) (d : List ℤ) (v w : Value) → value t ≡ Present d v w → IsLive m b → words_of m b ≡ words t ++ rest → Held m t → IsHead m b
head m b End rest d v w e live f h = cc
head m b (Word x t) rest d v w e live f h = cc
head m b (Unallocated x t) rest d v w e live f h = cc
head m b (Allocated x ds c t) rest d v w e live f h = record {
  live = live;
  within = let l = ap length f in omega arith;
  beneath = λ q g.
      let here : slice_index_or (words_of m b) 0 (pos 0) ≡ pos x = ap (λ (l : List ℤ). slice_index_or l 0 (pos 0)) f in
      let named : pos x ≡ pos q = sym here ∙ g in
      let same : x ≡ q = cc in
      let P : ℕ → Type 0 = λ n. IsLive m n in
      subst P same h.0;
}

pub copied_head : (old new : Live) (a c : ℕ) (s : Shape) (u : Tree) (W : List Take → Type 0) → Copies old new c 0 s (two a) u [] W → IsHead new c
copied_head old new a c s u W k = head new c k.copy _ _ _ _ (k.equal refl) k.replaced.live k.replaced.written k.replaced.held

-- the shape of the second piece
pub list-shape : (l : Layout) → pieces_of l ≡ Piece.Word ∷ Piece.Allocatable 1 0 ∷ [] → shape_in l 1 ≡ Holder 1 Plain
list-shape l e = unfold shapes in ap (λ (ps : List Piece). shape_at (shapes_from [] ps) 1) e
