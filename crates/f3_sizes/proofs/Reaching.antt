-- The lines of a part that ways lead to.
use Rattle.std.proofs.Common.{◌≡◌, ◌≤◌, ◌<◌, ◌⊎◌, ℕ, zero, suc, ◌+◌, ◌*◌, true, List, [], ◌++◌, take, drop, length, get_or, append-nil, replicate, Option, None, Some, refl, sym, ap, ◌∙◌, subst, arith, inl, inr, below_more, max}
use Rattle.std.specs.Prelude.{slice_get, is_some}
use Rattle.std.specs.Ordering.{nat_cmp, ord_max}
use Rattle.std.proofs.lemmas.Grind.{common_steps}
use Rattle.std.proofs.lemmas.List.{take_all, drop_all}
use Rattle.std.proofs.lemmas.Option.{slice_get_within, get_or_from_slice_get}
use Rattle.f3_gen_values.specs.declared.line.Line.{Line}
use Rattle.f3_sizes.specs.Part.{ArePart, IsNoted, AreNoted, Grows, IsClosed, IsBegun, IsGreatest, IsDepth, unnoted}
use Rattle.std.proofs.lemmas.List.Folds.{sum_by-replicate}
use Rattle.f3_sizes.proofs.Notes.{one_if_none}
use Rattle.f3_sizes.proofs.Ways.{noted_on}
use Rattle.f3_sizes.proofs.Passing.{leads_on, read_note}

abbrev Notes : Type 0
Notes = List (Option ℕ)

pub record Reached (lines : List Line) (first : ℕ) (hs : Notes) (from : ℕ) : Type 0 where
  pub begun : (height : ℕ → ℕ) → ArePart height first lines → IsBegun height first lines hs
  pub start : IsNoted hs 0
  pub closed : IsClosed lines hs from

none_at : (n k h : ℕ) → slice_get (replicate n None) k ≡ Some (Some h) → ⊥
none_at zero k h e = cc
none_at (suc n) zero h e = cc
none_at (suc n) (suc k) h e = none_at n k h e

all_unnoted : (n : ℕ) → unnoted (replicate n None) ≡ n
all_unnoted n =
    let all : unnoted (replicate n None) ≡ n * 1 = sum_by-replicate one_if_none n None in
    omega (arith, all)

none_length : (n : ℕ) → length (replicate {A = Option ℕ} n None) ≡ n
none_length zero = refl
none_length (suc n) = ap suc (none_length n)

-- nothing was noted before
pub none_noted : (height : ℕ → ℕ) (n : ℕ) → AreNoted height (replicate n None)
none_noted height n = record { right = λ k h e. absurd (none_at n k h e); few = λ k h e. absurd (none_at n k h e) }

-- and then the first line
pub begins : (lines : List Line) (first : ℕ) (hs none : Notes) → first ≤ 1 → length hs ≡ length none → IsNoted hs 0 →
    none ≡ replicate (length lines) None → ((height : ℕ → ℕ) → AreNoted height none → first ≡ height 0 →
    first + 2 * unnoted none ≤ 2 * length none + 2 → AreNoted height hs) → Reached lines first hs 0
begins lines first hs none low as_many there is noted =
    let same : length hs ≡ length lines = as_many ∙ ap (λ (ns : Notes). length ns) is ∙ none_length (length lines) in record {
      begun = λ height p. record {
        part = p;
        noted = noted height (subst (λ ns. AreNoted height ns) (sym is) (none_noted height (length lines))) (sym p.begins)
            (omega (arith, low, ap (λ ns. unnoted ns) is, ap (λ (ns : Notes). length ns) is, all_unnoted (length lines), none_length (length lines)));
        same = same;
      };
      start = there;
      closed = λ k l lt is n. absurd (omega (arith, lt));
    }

pub again : (lines : List Line) (first : ℕ) (old new : Notes) (from at : ℕ) → Reached lines first old from → Grows old new →
    ((height : ℕ → ℕ) (first : ℕ) → IsBegun height first lines old → IsBegun height first lines new) → IsClosed lines new at → Reached lines first new at
again lines first old new from at r g b c = record {
  begun = λ height p. b height first (r.begun height p);
  start = noted_on old new 0 g r.start;
  closed = c;
}

-- ---- the greatest

noted_is : (hs : Notes) (k : ℕ) → IsNoted hs k → is_some (get_or hs k None) ≡ true
noted_is hs k n = ap is_some (get_or_from_slice_get hs k (Some n.0) None n.1)

is_noted_so : (hs : Notes) (k : ℕ) → is_some (get_or hs k None) ≡ true → IsNoted hs k
is_noted_so hs k e = by_read (get_or hs k None) refl e
  where
    by_read : (o : Option ℕ) → get_or hs k None ≡ o → is_some o ≡ true → IsNoted hs k
    by_read None is e = cc
    by_read (Some h) is e = (h, read_note hs k h is)

pub greatest_none : (hs : Notes) → IsGreatest hs 0 0
greatest_none hs = record { all = λ k h lt e. absurd (omega (arith, lt)); met = inl refl }

pub is_depth : (lines : List Line) (first : ℕ) (hs : Notes) (n : ℕ) → (height : ℕ → ℕ) × ArePart height first lines → ((height : ℕ → ℕ) → ArePart height first lines → IsBegun height first lines hs) → length hs ≡ length lines → IsNoted hs 0 →
    IsClosed lines hs (length lines) → IsGreatest hs (length hs) n → IsDepth lines first n
is_depth lines first hs n part begun same start closed g = record {
  reached = λ k. is_some (get_or hs k None);
  begins = noted_is hs 0 start;
  within = λ k e. let there = is_noted_so hs k e in omega (arith, slice_get_within hs k (Some there.0) there.1, same);
  closed = λ k l is e. leads_on k l.act (noted_is hs) (closed k l (slice_get_within lines k l is) is (is_noted_so hs k e));
  low = λ height p k e.
      let there = is_noted_so hs k e in
      let right = (begun height p).noted.right k there.0 there.1 in
      omega (arith, right, g.all k there.0 (slice_get_within hs k (Some there.0) there.1) there.1);
  met = λ height p. by_met height p g.met;
  few = by_few g.met;
}
  where
    by_met : (height : ℕ → ℕ) → ArePart height first lines → ((n ≡ 0) ⊎ ((k : ℕ) × (slice_get hs k ≡ Some (Some n)))) → (k : ℕ) × (k < length lines) × (n ≤ height k)
    by_met height p (inl e) = (0, p.some, omega (arith, e))
    by_met height p (inr m) = (m.0, omega (arith, slice_get_within hs m.0 (Some n) m.1, same), omega (arith, (begun height p).noted.right m.0 n m.1))

    by_few : ((n ≡ 0) ⊎ ((k : ℕ) × (slice_get hs k ≡ Some (Some n)))) → n ≤ 2 * length lines
    by_few (inl e) = omega (arith, e)
    by_few (inr m) = omega (arith, (begun part.0 part.1).noted.few m.0 n m.1, same)

-- what was written over a whole vector
pub written : (a b : Notes) (n : ℕ) → length a ≡ length b → n ≡ length b → take n (a ++ drop (length a) b) ≡ a
written a b n e m =
    let none : drop (length a) b ≡ [] = drop_all (length a) b (omega arith) in
    ap (λ xs. take n (a ++ xs)) none ∙ ap (take n) (append-nil a) ∙ take_all n a (omega arith)

-- one line more
pub greatest_more : (hs : Notes) (i n h : ℕ) → IsGreatest hs i n → get_or hs i None ≡ Some h → IsGreatest hs (i + 1) (max n h)
greatest_more hs i n h g read = record {
  all = λ k x lt e. below_more (λ k. (x : ℕ) → slice_get hs k ≡ Some (Some x) → x ≤ max n h) i (λ k lt x e. omega (arith, g.all k x lt e)) (λ x e.
      let same : x ≡ h = let s : Some x ≡ Some h = sym (get_or_from_slice_get hs i (Some x) None e) ∙ read in cc in
      omega (arith, same)) k lt x e;
  met = by_order (max_is n h) g.met;
}
  where
    max_is : (a b : ℕ) → (max a b ≡ a) ⊎ (max a b ≡ b)
    max_is a b = grind arith

    by_order : ((max n h ≡ n) ⊎ (max n h ≡ h)) → ((n ≡ 0) ⊎ ((k : ℕ) × (slice_get hs k ≡ Some (Some n)))) →
        (max n h ≡ 0) ⊎ ((k : ℕ) × (slice_get hs k ≡ Some (Some (max n h))))
    by_order (inl e) (inl z) = inl (e ∙ z)
    by_order (inl e) (inr m) = inr (m.0, m.1 ∙ ap (λ y. Some (Some y)) (sym e))
    by_order (inr e) m = inr (i, read_note hs i h read ∙ ap (λ y. Some (Some y)) (sym e))

pub greatest_none_more : (hs : Notes) (i n : ℕ) → IsGreatest hs i n → ((h : ℕ) → get_or hs i None ≡ Some h → ⊥) → IsGreatest hs (i + 1) n
greatest_none_more hs i n g none = record {
  all = λ k x lt e. below_more (λ k. (x : ℕ) → slice_get hs k ≡ Some (Some x) → x ≤ n) i (λ k lt x e. g.all k x lt e)
      (λ x e. absurd (none x (get_or_from_slice_get hs i (Some x) None e))) k lt x e;
  met = g.met;
}

pub greatest_less : (hs : Notes) (i j n : ℕ) → j ≤ i → IsGreatest hs i n → IsGreatest hs j n
greatest_less hs i j n le g = record { all = λ k x lt e. g.all k x (omega (arith, lt, le)) e; met = g.met }

pub ord_max_nat : (a b : ℕ) → ord_max nat_cmp a b ≡ max a b
ord_max_nat a b = grind (arith, common_steps)
