-- One object is copied over words of another block.
use Rattle.std.proofs.Common.{◌≡◌, ◌≢◌, ◌∙◌, sym, ap, subst, refl, ℕ, ◌+◌, ◌<◌, ◌≤◌, List, [], ◌∷◌, ◌++◌, length, take, drop, arith, is_some, IsTrue}
use Rattle.std.specs.Prelude.{Option, None, ℤ, map}
use Rattle.std.specs.Prelude.{Result, Ok, Err, OnOk, OnErr, IfErr}
use Rattle.std.specs.FinMap.{get}
use Rattle.f3_live_blocks.specs.Blocks.{Block, Live, IsLive, words_of, with_words}
use Rattle.f3_heap_laws.specs.Answers.{Answer, Sizes, Take, Allowed, Tried}
use Rattle.f3_live_blocks.proofs.Laws.{get-insert_other, live-insert, words-insert_other}
use Rattle.f3_desc.specs.Shape.{Shape, width}
use Rattle.f3_objects.specs.Tree.{Tree, words, times, IsBare, blank}
use Rattle.f3_objects.specs.Holds.{Holds, with_words_at}
use Rattle.f3_objects.specs.Copies.{Ready, Copies, Empties, Refuses, fault_of, faults, takings}
use Rattle.f3_objects.specs.declared.copy.TreeFault.{TreeFault}
use Rattle.f3_objects.proofs.Changes.{held-same}
use Rattle.f3_objects.proofs.Spans.{written_again}
use Rattle.f3_objects.proofs.Trees.{size-fits}
use Rattle.f3_objects.proofs.Writes.{words-with, with_words_again}
use Rattle.f3_room_arrays.specs.Inner.Clones.{IsReady, Clones, Spoils}
use Rattle.f3_room_arrays.specs.Copies.{IsAnswer}

-- a live block is there
pub there-is : (m : Live) (q : ℕ) → IsLive m q → get m q ≡ None → ⊥
there-is m q live none = absent (subst (λ o. IsTrue (is_some o)) none live)
  where
    absent : IsTrue (is_some (let n : Option Block = None in n)) → ⊥
    absent h = cc

module _ (old mid : Live) (from from_at to to_at : ℕ) (s : Shape) (t : Tree) (zs : List ℤ) (ready : IsReady old from from_at to to_at s t) (is : mid ≡ with_words old to (with_words_at (words_of old to) to_at zs)) where
  mid-other : (q : ℕ) → q ≢ to → get mid q ≡ get old q
  mid-other q ne = ap (λ (m : Live). get m q) is ∙ get-insert_other old to _ q ne

  from-other : from ≢ to
  from-other e = ready.apart (sym e)

  from-words : words_of mid from ≡ words_of old from
  from-words = ap (λ (m : Live). words_of m from) is ∙ words-insert_other old to _ from from-other

  pub clone-ready : Holds mid to to_at s (blank s) → IsBare (blank s) → Ready mid from from_at to to_at s t (blank s)
  clone-ready target bare = record {
    source = record {
      stands = record {
        live = subst (λ (m : Live). IsLive m from) (sym is) (live-insert old to _ from ready.source.stands.live);
        within = subst (λ (ws : List ℤ). from_at + length (words t) ≤ length ws) (sym from-words) ready.source.stands.within;
        there = ap (λ (ws : List ℤ). take (length (words t)) (drop from_at ws)) from-words ∙ ready.source.stands.there;
        held = held-same old mid t (λ q lt. mid-other q (λ e. none q e lt)) ready.source.stands.held;
        once = ready.source.stands.once;
        apart = ready.source.stands.apart;
      };
      fits = ready.source.fits;
    };
    target = target;
    apart = ready.apart;
    beneath = ready.beneath;
    bare = bare;
  }
    where
      none : (q : ℕ) → q ≡ to → 0 < times q t → ⊥
      none q e lt = let g : times q t ≡ times to t = ap (λ b. times b t) e in let z = ready.beneath in omega arith

  mid-words : words_of mid to ≡ with_words_at (words_of old to) to_at zs
  mid-words = ap (λ (m : Live). words_of m to) is ∙ words-with old to _

  module _ (many : length zs ≡ width s) where
    pub clone-done : (new : Live) (W : List Take → Type 0) → Holds mid to to_at s (blank s) → IsBare (blank s) → Copies mid new to to_at s t (blank s) [] W → Clones old new to to_at s t
    clone-done new W target bare c =
        let size : length (words c.copy) ≡ width s = size-fits s c.copy c.fits in
        let room = ready.within in
        let fresh : (q : ℕ) → 0 < times q c.copy → get mid q ≡ None = λ q lt. (c.replaced.taken q lt (bare q)).0 in
        let other : (q : ℕ) → 0 < times q c.copy → q ≢ to = λ q lt e. there-is mid to target.stands.live (subst (λ b. get mid b ≡ None) e (fresh q lt)) in
        record {
          copy = c.copy;
          fits = c.fits;
          once = c.once;
          equal = c.equal refl;
          live = c.replaced.live;
          words = c.replaced.written ∙ ap (λ (ws : List ℤ). with_words_at ws to_at (words c.copy)) mid-words ∙ written_again (words_of old to) to_at zs (words c.copy) (omega arith) (omega arith);
          held = c.replaced.held;
          taken = λ q lt. (sym (mid-other q (other q lt)) ∙ fresh q lt, (c.replaced.taken q lt (bare q)).1);
          others = λ q ne none. c.replaced.others q ne none (bare q) ∙ mid-other q ne;
        }

    pub clone-spoiled : (new : Live) → Empties mid new to to_at s → Spoils old new to to_at (width s)
    clone-spoiled new e =
        let size : length (words e.rest) ≡ width s = size-fits s e.rest e.fits in
        let room = ready.within in
        record {
          words = words e.rest;
          many = size;
          is = e.is ∙ ap (λ (ws : List ℤ). with_words mid to (with_words_at ws to_at (words e.rest))) mid-words
              ∙ ap (with_words mid to) (written_again (words_of old to) to_at zs (words e.rest) (omega arith) (omega arith))
              ∙ ap (λ (m : Live). with_words m to (with_words_at (words_of old to) to_at (words e.rest))) is ∙ with_words_again old to _ _;
        }

-- the last take was answered so
pub last-answered : {R : Type 0} (allows : R → Sizes → ℕ → Answer → Type 0) (spent : R → R) (kept : R) (m : Sizes) (ks refused : List Take) (answer : Answer)
    → Allowed allows spent kept m (ks ++ refused) → map (λ k. k.answer) refused ≡ answer ∷ [] → IsAnswer allows answer
last-answered allows spent kept m [] [] answer allowed e = absurd cc
last-answered allows spent kept m [] (k ∷ ks) answer allowed e =
    let same : k.answer ≡ answer = cc in
    (kept, m, k.asked, subst (allows kept m k.asked) same allowed.0)
last-answered allows spent kept m (k ∷ ks) refused answer allowed e = last-answered allows spent (spent kept) _ ks refused answer allowed.1 e

-- ---- by what a call answered

pub on-ok : {T E : Type 0} {P Q : Type 0} (r : Result T E) → (P → Q) → OnOk r P → OnOk r Q
on-ok (Ok x) f p = f p
on-ok (Err e) f p = tt

pub on-err : {T E : Type 0} {P Q : Type 0} (r : Result T E) → (P → Q) → OnErr r P → OnErr r Q
on-err (Ok x) f p = tt
on-err (Err e) f p = f p

module _ {R : Type 0} (allows : R → Sizes → ℕ → Answer → Type 0) (spent : R → R) (kept next : R) (m : Sizes) (t : Tree) where
  pub answered-of : {T : Type 0} (r : Result T TreeFault) → OnErr r (Refuses t (faults r) (Tried allows spent kept next m)) → IfErr r (λ fault. IsAnswer allows (fault_of fault))
  answered-of (Ok x) refuses = tt
  answered-of (Err fault) refuses = last-answered allows spent kept m (takings refuses.part) refuses.refused (fault_of fault) refuses.took.allowed refuses.told
