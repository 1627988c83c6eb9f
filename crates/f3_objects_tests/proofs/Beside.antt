-- Laws on two objects in one heap.
use Rattle.std.proofs.Common.{◌≡◌, ◌≢◌, ℕ, ℤ, ◌<◌, ◌≤◌, inl, inr, Bool, List, [], length, take, drop, ap, sym, subst, ◌∙◌, arith}
use Rattle.std.specs.Prelude.{None, Result, Ok, Err, OnOk, OnErr}
use Rattle.std.specs.FinMap.{get, remove}
use Rattle.f3_live_blocks.specs.Blocks.{Live, IsLive, words_of, pins_of, with_taken, with_words}
use Rattle.f3_live_blocks.proofs.Laws.{get-insert_other, get-remove_other}
use Rattle.f3_desc.specs.Shape.{Shape}
use Rattle.f3_objects.specs.Tree.{Tree, words, times, Fits, blank}
use Rattle.f3_objects.specs.Holds.{Holds, Replaces, Frees}
use Rattle.f3_heap_laws.specs.Answers.{Take}
use Rattle.f3_objects.specs.Copies.{Ready, Copies, Empties}
use Rattle.f3_objects.proofs.Trees.{zero_or_more, times-left, size-fits}
use Rattle.f3_objects.proofs.Blanks.{blank-bare, held-bare}
use Rattle.f3_objects.proofs.Spans.{written_there}
use Rattle.f3_objects.proofs.Writes.{Wrote, wrote_words, wrote_live, wrote_length}
use Rattle.f3_objects.proofs.Changes.{not_dead, same_live, same_words, held-live, held-same, stands_replaced}

-- an object whose blocks are unchanged
pub holds_same : (m n : Live) (a at : ℕ) (s : Shape) (t : Tree) → Holds m a at s t → get n a ≡ get m a → ((q : ℕ) → 0 < times q t → get n q ≡ get m q) → Holds n a at s t
holds_same m n a at s t h e f =
    let same = same_words m n a e in
    record {
      stands = record {
        live = same_live m n a e h.stands.live;
        within = let w = h.stands.within in let l : length (words_of n a) ≡ length (words_of m a) = ap length same in omega arith;
        there = ap (λ (x : List ℤ). take (length (words t)) (drop at x)) same ∙ h.stands.there;
        held = held-same m n t f h.stands.held;
        once = h.stands.once;
        apart = h.stands.apart;
      };
      fits = h.fits;
    }

pub holds_kept : (m n : Live) (a at : ℕ) (s : Shape) (t : Tree) → Holds m a at s t → ((q : ℕ) → IsLive m q → get n q ≡ get m q) → Holds n a at s t
holds_kept m n a at s t h f = holds_same m n a at s t h (f a h.stands.live) (λ q p. f q (held-live m q t h.stands.held p))

-- a new block of zeros leaves all others
pub new_kept : (old mid new : Live) (b n : ℕ) (ws : List ℤ) → get old b ≡ None → mid ≡ with_taken old b n → new ≡ with_words mid b ws → (q : ℕ) → IsLive old q → get new q ≡ get old q
new_kept old mid new b n ws none e f q l =
    let ne : q ≢ b = λ i. not_dead old q l (ap (get old) i ∙ none) in
    ap (λ (m : Live). get m q) f ∙ (get-insert_other mid b _ q ne ∙ (ap (λ (m : Live). get m q) e ∙ get-insert_other old b _ q ne))

-- what is freed is beneath the object
pub frees_elsewhere : (old new : Live) (block at : ℕ) (t : Tree) (ok : Bool) → Frees old new block at t ok → (q : ℕ) → q ≢ block → times q t ≡ 0 → get new q ≡ get old q
frees_elsewhere old new block at t ok f q ne z = let l = times-left (pins_of old) q t in f.replaced.others q ne (omega arith) z

pub gives_elsewhere : {T E : Type 0} (mid new : Live) (b : ℕ) (r : Result T E) → OnOk r (new ≡ remove mid b) → OnErr r (new ≡ mid) → (q : ℕ) → q ≢ b → get new q ≡ get mid q
gives_elsewhere mid new b (Ok x) e f q ne = ap (λ (m : Live). get m q) e ∙ get-remove_other mid b q ne
gives_elsewhere mid new b (Err x) e f q ne = ap (λ (m : Live). get m q) f

-- a blank object that was made beside another
pub ready_beside : (old new : Live) (a b : ℕ) (s : Shape) (t : Tree) → Holds old a 0 s t → get old b ≡ None → ((q : ℕ) → IsLive old q → get new q ≡ get old q) → Holds new b 0 s (blank s) → Ready new a 0 b 0 s t (blank s)
ready_beside old new a b s t h none kept k = record {
  source = holds_kept old new a 0 s t h kept;
  target = k;
  apart = λ i. not_dead old a h.stands.live (ap (get old) (sym i) ∙ none);
  beneath = elim (zero_or_more (times b t)) [
    | inl z ↦ z
    | inr z ↦ absurd (not_dead old b (held-live old b t h.stands.held z) none)
  ];
  bare = blank-bare s;
}

-- what stands at the target, with none of the blocks that were live before
pub record Target (old new : Live) (b : ℕ) (s : Shape) : Type 0 where
  pub tree : Tree
  pub holds : Holds new b 0 s tree
  pub apart : (q : ℕ) → IsLive old q → times q tree ≡ 0

target_of : (old new : Live) (a b : ℕ) (s : Shape) (t u v : Tree) → Ready old a 0 b 0 s t u → Replaces old new b 0 u v → Fits s v → ((q : ℕ) → times q v ≤ 1) → Target old new b s
target_of old new a b s t u v r p f once = record {
  tree = v;
  holds = record { stands = stands_replaced old new b 0 u v r.target.stands (size-fits s v f ∙ sym (size-fits s u r.target.fits)) p once; fits = f };
  apart = λ q l. elim (zero_or_more (times q v)) [
    | inl z ↦ z
    | inr z ↦ absurd (not_dead old q l ((p.taken q z (r.bare q)).0))
  ];
}

-- what is left at the target after a fault
target_left : (old new : Live) (a b : ℕ) (s : Shape) (t u : Tree) → Ready old a 0 b 0 s t u → Empties old new b 0 s → Target old new b s
target_left old new a b s t u r c =
    let w : Wrote old new b 0 (words c.rest) = record { is = c.is } in
    let n : length (words c.rest) ≡ length (words u) = size-fits s c.rest c.fits ∙ sym (size-fits s u r.target.fits) in
    let room = r.target.stands.within in
    let k = wrote_length old new b 0 (words c.rest) (omega arith) w in
    record {
      tree = c.rest;
      holds = record {
        stands = record {
          live = wrote_live old new b 0 (words c.rest) w;
          within = omega arith;
          there = ap (λ (x : List ℤ). take (length (words c.rest)) (drop 0 x)) (wrote_words old new b 0 (words c.rest) w) ∙ written_there (words_of old b) 0 (words c.rest) (omega arith);
          held = held-bare new c.rest c.bare;
          once = λ q. let z = c.bare q in omega arith;
          apart = c.bare b;
        };
        fits = c.fits;
      };
      apart = λ q l. c.bare q;
    }

pub target_after : {T E : Type 0} (old new : Live) (a b : ℕ) (s : Shape) (t u : Tree) (r : Result T E) → Ready old a 0 b 0 s t u → (W : List Take → Type 0) → OnOk r ((t u : Tree) → Ready old a 0 b 0 s t u → Copies old new b 0 s t u [] W) → OnErr r ((t u : Tree) → Ready old a 0 b 0 s t u → Empties old new b 0 s) → Target old new b s
target_after old new a b s t u (Ok x) h W e f = let c = e t u h in target_of old new a b s t u c.copy h c.replaced c.fits c.once
target_after old new a b s t u (Err x) h W e f = target_left old new a b s t u h (f t u h)

-- the source after the target has been given back
pub source_left : (old mid new : Live) (a b : ℕ) (s : Shape) (t u : Tree) → Ready old a 0 b 0 s t u → Holds mid a 0 s t → (v : Target old mid b s) → ((x : Tree) → Holds mid b 0 s x → (q : ℕ) → q ≢ b → times q x ≡ 0 → get new q ≡ get mid q) → Holds new a 0 s t
source_left old mid new a b s t u r h v f = holds_same mid new a 0 s t h (f v.tree v.holds a (λ i. r.apart (sym i)) (v.apart a r.source.stands.live)) (λ q p.
    let ne : q ≢ b = λ i. let z = r.beneath in let y : 0 < times b t = (let P : ℕ → Type 0 = λ x. 0 < times x t in subst P i p) in omega arith in
    f v.tree v.holds q ne (v.apart q (held-live old q t r.source.stands.held p)))
