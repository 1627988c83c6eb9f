-- Laws on a copy that is given back after a fault.
use Rattle.std.proofs.Common.{zero, suc, ◌≡◌, ℕ, ◌+◌, ◌≤◌, cond, true, false, Bool, nat_eq, List, ◌++◌, length, ap, sym, subst, ◌∙◌, arith}
use Rattle.f3_live_blocks.specs.Blocks.{Live, words_of, pins_of}
use Rattle.f3_heap_laws.specs.Account.{used_by}
use Rattle.f3_desc.specs.Shape.{Shape, Nothing, Plain, Holder, Both, Times}
use Rattle.f3_objects.specs.Tree.{Tree, End, Unallocated, Allocated, words, elements, Joins, Repeats, IsHolder, unallocated, allocated, Fits, IsBare}
use Rattle.f3_objects.specs.Holds.{Holds, Replaces, Frees, is_free, left}
use Rattle.f3_objects.specs.Copies.{Ready, Copies, Empties, Refuses, takings}
use Rattle.f3_heap_laws.specs.Answers.{Answer, Take}
use Rattle.f3_objects.proofs.Trees.{left-append, size-left, free-left, size-fits}
use Rattle.f3_objects.proofs.Changes.{stands_replaced, stands_elsewhere, replaces_then}
use Rattle.f3_objects.proofs.Spans.{length-written}
use Rattle.f3_objects.proofs.Used.{only_words, used-with_words}
use Rattle.f3_objects.proofs.Freeing.{is_free-none}

module _ (p : ℕ → ℕ) where
  joined_left : (P Q : Tree → Type 0) → ((t : Tree) → P t → P (left p t)) → ((t : Tree) → Q t → Q (left p t)) → (t : Tree) → Joins P Q t → Joins P Q (left p t)
  joined_left P Q f g t j = record {
    front = left p j.front;
    back = cond (is_free p j.front) (left p j.back) j.back;
    split = ap (left p) j.split ∙ left-append p j.front j.back;
    first = f j.front j.first;
    second = elim (is_free p j.front) as (λ k. Q (cond k (left p j.back) j.back)) [
      | true ↦ g j.back j.second
      | false ↦ j.second
    ];
  }

  repeated_left : (n : ℕ) (P : Tree → Type 0) → ((t : Tree) → P t → P (left p t)) → (t : Tree) → Repeats n P t → Repeats n P (left p t)
  repeated_left zero P f t e = ap (left p) e
  repeated_left (suc n) P f t j = joined_left P (Repeats n P) f (repeated_left n P f) t j

  holder_left : (rank : ℕ) (P : Tree → Type 0) → ((t : Tree) → P t → P (left p t)) → (t : Tree) → IsHolder rank P t → IsHolder rank P (left p t)
  holder_left rank P f t (unallocated d e) = unallocated d e
  holder_left rank P f t (allocated b d c e r) = elim (nat_eq (p b) 0) as (λ k. IsHolder rank P (cond k (cond (is_free p c) (Unallocated d End) (Allocated b d (left p c) End)) (Allocated b d c End))) [
    | true ↦ elim (is_free p c) as (λ k. IsHolder rank P (cond k (Unallocated d End) (Allocated b d (left p c) End))) [
      | true ↦ unallocated d e
      | false ↦ allocated b d (left p c) e (repeated_left (elements d) P f c r)
    ]
    | false ↦ allocated b d c e r
  ]

  -- what is left has the same shape
  pub fits-left : (s : Shape) (t : Tree) → Fits s t → Fits s (left p t)
  fits-left Nothing t e = ap (left p) e
  fits-left Plain t h = (h.0, ap (left p) h.1)
  fits-left (Holder rank of) t h = holder_left rank (Fits of) (fits-left of) t h
  fits-left (Both s r) t j = joined_left (Fits s) (Fits r) (fits-left s) (fits-left r) t j
  fits-left (Times n s) t j = repeated_left n (Fits s) (fits-left s) t j

-- after a fault
pub record Emptied (old new : Live) (from from_at to to_at : ℕ) (s : Shape) (t : Tree) : Type 0 where
  pub empty : Empties old new to to_at s
  pub used : used_by new ≡ used_by old
  pub source : Holds new from from_at s t

module _ (old mid : Live) (from from_at to to_at : ℕ) (s : Shape) (t u : Tree) (faults : List Answer) (r : Ready old from from_at to to_at s t u) {W : List Take → Type 0} (c : Copies old mid to to_at s t u faults W) where
  pub copy_size : length (words c.copy) ≡ length (words u)
  copy_size = size-fits s c.copy c.fits ∙ sym (size-fits s u r.target.fits)

  -- the copy stands where it was to be
  pub copy_holds : Holds mid to to_at s c.copy
  copy_holds = record { stands = stands_replaced old mid to to_at u c.copy r.target.stands copy_size c.replaced c.once; fits = c.fits }

  -- its blocks are new, so none of them is pinned
  pub copy_free : is_free (pins_of mid) c.copy ≡ true
  copy_free = is_free-none (pins_of mid) c.copy (λ q l. (c.replaced.taken q l (r.bare q)).1)

  -- the object still stands
  pub source_stands : Holds mid from from_at s t
  source_stands = record { stands = stands_elsewhere old mid from from_at t to to_at u c.copy r.source.stands c.replaced r.apart r.beneath r.bare; fits = r.source.fits }

  -- what it took tells why it ended
  pub refuses : (V : List Take → Type 0) → ((ks : List Take) → W ks → V ks) → Refuses t faults V
  refuses V weaker = record { part = c.copy; refused = c.refused; told = c.told; more = c.more; asked = c.asked; took = weaker (takings c.copy ++ c.refused) c.took }

  pub empties : (new : Live) → Frees mid new to to_at c.copy true → Emptied old new from from_at to to_at s t
  empties new f =
      let p = pins_of mid in
      let bare : IsBare (left p c.copy) = free-left p c.copy (sym f.answered) in
      let all : Replaces old new to to_at u (left p c.copy) = replaces_then old mid new to to_at u c.copy (left p c.copy) r.target.stands.within r.target.stands.live copy_size (size-left p c.copy) c.replaced f.replaced (λ q x y. absurd (let b = bare q in omega arith)) (r.bare to) in
      let is = only_words old new to to_at u (left p c.copy) all r.bare bare in
      let size : length (words (left p c.copy)) ≡ length (words u) = size-left p c.copy ∙ copy_size in
      let fit : to_at + length (words (left p c.copy)) ≤ length (words_of old to) = (let w = r.target.stands.within in omega arith) in
      record {
        empty = record { rest = left p c.copy; fits = fits-left p s c.copy c.fits; bare = bare; is = is };
        used = ap used_by is ∙ used-with_words old to _ r.target.stands.live (length-written (words_of old to) to_at (words (left p c.copy)) fit);
        source = record { stands = stands_elsewhere old new from from_at t to to_at u (left p c.copy) r.source.stands all r.apart r.beneath r.bare; fits = r.source.fits };
      }

  -- whatever giving it back answers, since none of its blocks is pinned
  pub emptied_by : (new : Live) (ok : Bool) → Frees mid new to to_at c.copy ok → Emptied old new from from_at to to_at s t
  emptied_by new ok f = let F : Bool → Type 0 = λ b. Frees mid new to to_at c.copy b in empties new (subst F (f.answered ∙ copy_free) f)
