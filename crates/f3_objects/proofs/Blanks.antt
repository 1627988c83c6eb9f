-- Laws on objects of zeros.
use Rattle.std.proofs.Common.{zero, suc, ◌≡◌, ℕ, ℤ, pos, ◌+◌, ◌*◌, ◌≤◌, List, ◌∷◌, ◌++◌, length, replicate, take, drop, refl, ap, sym, ◌∙◌, arith}
use Rattle.std.proofs.lemmas.List.{replicate-append-replicate, length-replicate, append-nil}
use Rattle.f3_live_blocks.specs.Blocks.{Live, words_of}
use Rattle.f3_desc.specs.Shape.{Shape, Nothing, Plain, Holder, Both, Times, width}
use Rattle.f3_objects.specs.Tree.{Tree, End, Word, Unallocated, Allocated, words, Repeats, unallocated, Fits, IsBare, blank, repeated}
use Rattle.f3_objects.specs.Holds.{Held, Holds, with_words_at}
use Rattle.f3_objects.proofs.Trees.{words-append, times-append, times_own, size-fits}
use Rattle.f3_objects.proofs.Spans.{written_there}
use Rattle.f3_objects.proofs.Writes.{Wrote, wrote_words, wrote_live, wrote_length}

-- nothing but zeros
repeated_words : (n : ℕ) (t : Tree) (w : ℕ) → words t ≡ replicate w (pos 0) → words (repeated n t) ≡ replicate (n * w) (pos 0)
repeated_words zero t w e = let z : 0 ≡ 0 * w = omega arith in ap (λ (k : ℕ). replicate k (pos 0)) z
repeated_words (suc n) t w e =
    let k : w + n * w ≡ suc n * w = omega arith in
    words-append t (repeated n t) ∙ (ap (λ (l : List ℤ). l ++ words (repeated n t)) e ∙ (ap (λ (l : List ℤ). replicate w (pos 0) ++ l) (repeated_words n t w e) ∙ (replicate-append-replicate w (n * w) (pos 0) ∙ ap (λ (j : ℕ). replicate j (pos 0)) k)))

pub words-blank : (s : Shape) → words (blank s) ≡ replicate (width s) (pos 0)
words-blank Nothing = refl
words-blank Plain = refl
words-blank (Holder rank of) = ap (λ (l : List ℤ). pos 0 ∷ l) (append-nil (replicate (2 * rank) (pos 0))) ∙ (let k : suc (2 * rank) ≡ 1 + 2 * rank = omega arith in ap (λ (n : ℕ). replicate n (pos 0)) k)
words-blank (Both s r) = words-append (blank s) (blank r) ∙ (ap (λ (l : List ℤ). l ++ words (blank r)) (words-blank s) ∙ (ap (λ (l : List ℤ). replicate (width s) (pos 0) ++ l) (words-blank r) ∙ replicate-append-replicate (width s) (width r) (pos 0)))
words-blank (Times n s) = repeated_words n (blank s) (width s) (words-blank s)

repeated_fits : (n : ℕ) (P : Tree → Type 0) (t : Tree) → P t → Repeats n P (repeated n t)
repeated_fits zero P t p = refl
repeated_fits (suc n) P t p = record { front = t; back = repeated n t; split = refl; first = p; second = repeated_fits n P t p }

pub blank-fits : (s : Shape) → Fits s (blank s)
blank-fits Nothing = refl
blank-fits Plain = (pos 0, refl)
blank-fits (Holder rank of) = unallocated (replicate (2 * rank) (pos 0)) (length-replicate (2 * rank) (pos 0))
blank-fits (Both s r) = record { front = blank s; back = blank r; split = refl; first = blank-fits s; second = blank-fits r }
blank-fits (Times n s) = repeated_fits n (Fits s) (blank s) (blank-fits s)

repeated_bare : (n : ℕ) (t : Tree) → IsBare t → IsBare (repeated n t)
repeated_bare zero t b q = refl
repeated_bare (suc n) t b q = let h = times-append q t (repeated n t) in let a = b q in let c = repeated_bare n t b q in omega arith

pub blank-bare : (s : Shape) → IsBare (blank s)
blank-bare Nothing q = refl
blank-bare Plain q = refl
blank-bare (Holder rank of) q = refl
blank-bare (Both s r) q = let h = times-append q (blank s) (blank r) in let a = blank-bare s q in let b = blank-bare r q in omega arith
blank-bare (Times n s) q = repeated_bare n (blank s) (blank-bare s) q

pub held-bare : (m : Live) (t : Tree) → IsBare t → Held m t
held-bare m End b = tt
held-bare m (Word w t) b = held-bare m t b
held-bare m (Unallocated d t) b = held-bare m t b
held-bare m (Allocated x d c t) b = absurd (let a = b x in let p = times_own x d c t in omega arith)

-- where zeros were written, a blank object stands
pub blank_holds : (old new : Live) (block at : ℕ) (s : Shape) → at + width s ≤ length (words_of old block) → Wrote old new block at (replicate (width s) (pos 0)) → Holds new block at s (blank s)
blank_holds old new block at s l w =
    let size : length (words (blank s)) ≡ width s = size-fits s (blank s) (blank-fits s) in
    let same = wrote_length old new block at (replicate (width s) (pos 0)) (let k = length-replicate (width s) (pos 0) in omega arith) w in
    let there : words_of new block ≡ with_words_at (words_of old block) at (words (blank s)) = wrote_words old new block at (replicate (width s) (pos 0)) w ∙ ap (with_words_at (words_of old block) at) (sym (words-blank s)) in
    record {
      stands = record {
        live = wrote_live old new block at (replicate (width s) (pos 0)) w;
        within = omega arith;
        there = ap (λ (x : List ℤ). take (length (words (blank s))) (drop at x)) there ∙ written_there (words_of old block) at (words (blank s)) (omega arith);
        held = held-bare new (blank s) (blank-bare s);
        once = λ q. let b = blank-bare s q in omega arith;
        apart = blank-bare s block;
      };
      fits = blank-fits s;
    }
