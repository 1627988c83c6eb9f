-- The objects of a reference, one by one.
use Rattle.std.proofs.Common.{◌≡◌, ℕ, zero, suc, ◌+◌, ◌<◌, ◌≤◌, List, [], ◌∷◌, length, map, drop, refl, sym, ap, ◌∙◌, arith}
use Rattle.std.specs.Prelude.{Option, Some, None, slice_get}
use Rattle.f3_meaning_whole.specs.Store.{Path}
use Rattle.f3_meaning_whole.specs.Reference.{Reference, One}
use Rattle.f3_meaning_whole.specs.Act.{moved}
use Rattle.f3_code.specs.State as s
use Rattle.f3_code.specs.Machine.{next_element, goes, skips}

-- the only one of a list
pub only_path : (p : Path) (k : ℕ) → k < length (p ∷ []) → slice_get (p ∷ []) k ≡ Some p
only_path p zero h = refl
only_path p (suc k) h = absurd (omega arith)

-- one of what a list becomes
pub mapped_at : (f : ℕ → Path) (ns : List ℕ) (k n : ℕ) → slice_get ns k ≡ Some n → slice_get (map f ns) k ≡ Some (f n)
mapped_at f [] k n h = cc
mapped_at f (x ∷ ns) zero n h = ap f' h
  where
    f' : Option ℕ → Option Path
    f' (Some n) = Some (f n)
    f' None = None
mapped_at f (x ∷ ns) (suc k) n h = mapped_at f ns k n h

-- those from a number on begin with the one of that number
pub drop_one : (ps : List Path) (k : ℕ) (p : Path) → slice_get ps k ≡ Some p → drop k ps ≡ p ∷ drop (k + 1) ps
drop_one [] k p h = cc
drop_one (x ∷ ps) zero p h = let e : x ≡ p = cc in rw e refl
drop_one (x ∷ ps) (suc k) p h = drop_one ps k p h ∙ ap (λ i. p ∷ drop i (x ∷ ps)) (let e : suc (k + 1) ≡ suc k + 1 = omega arith in e)

-- past the last there is none
pub drop_past : (ps : List Path) (k : ℕ) → length ps ≤ k → drop k ps ≡ []
drop_past [] zero h = refl
drop_past [] (suc k) h = refl
drop_past (x ∷ ps) zero h = absurd (omega arith)
drop_past (x ∷ ps) (suc k) h = drop_past ps k (omega arith)

-- the next element, on top of those behind it
pub walked : (mid top : List s.Cell) (ps : List Path) (k : ℕ) (p : Path) (d : ℕ) (t : s.State) (r q : Reference) → slice_get ps k ≡ Some p → q ≡ moved r p One
    → mid ≡ s.Object r ∷ drop 1 mid → top ≡ s.Elements (drop (k + 1) ps) ∷ mid → next_element (drop k ps) d r t (drop 1 mid) ≡ goes t (s.Object q ∷ top)
walked mid top ps k p d t r q h e m o =
    ap (λ ps. next_element ps d r t (drop 1 mid)) (drop_one ps k p h)
    ∙ ap (λ x. goes t (s.Object x ∷ s.Elements (drop (k + 1) ps) ∷ s.Object r ∷ drop 1 mid)) (sym e)
    ∙ ap (λ st. goes t (s.Object q ∷ s.Elements (drop (k + 1) ps) ∷ st)) (sym m)
    ∙ ap (λ st. goes t (s.Object q ∷ st)) (sym o)

-- there is none
pub walked_past : (mid : List s.Cell) (ps : List Path) (k : ℕ) (d : ℕ) (t : s.State) (r : Reference) → length ps ≤ k
    → mid ≡ s.Object r ∷ drop 1 mid → next_element (drop k ps) d r t (drop 1 mid) ≡ skips t d mid
walked_past mid ps k d t r h m = ap (λ ps. next_element ps d r t (drop 1 mid)) (drop_past ps k h) ∙ ap (λ st. skips t d st) (sym m)
