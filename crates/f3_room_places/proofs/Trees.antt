-- The trees of types, each of those before it.
use Rattle.std.proofs.Common.{◌≡◌, ℕ, zero, suc, ◌+◌, ◌<◌, ◌≤◌, List, [], ◌∷◌, ◌++◌, length, take, refl, sym, ap, ◌∙◌, arith, get_or, append_assoc}
use Rattle.std.proofs.lemmas.List.{get_or_past, length-append, get_or_append_left, append-nil}
use Rattle.std.proofs.Math.Seq.{get_or-append_seam}
use Rattle.std.specs.Prelude.{slice_index_or}
use Rattle.f3_program.specs.declared.declarations.Base.TheVariants as base
use Rattle.f3_program.specs.declared.declarations.Derived.{Derived}
use Rattle.f3_meaning_whole.specs.Shape.{Shape, Whole, Record, parts_in, shapes_from, shapes_of, shape_in}

lengths : (ss : List Shape) (ts : List Derived) → length (shapes_from ss ts) ≡ length ss + length ts
lengths ss [] = omega arith
lengths ss (t ∷ ts) =
    let r : Shape = Record (length ss) (parts_in ss t.components.items) in
    omega (arith, lengths (ss ++ r ∷ []) ts, length-append ss (r ∷ []))

pub as_many : (ts : List Derived) → length (shapes_of ts) ≡ length ts
as_many ts = omega (arith, lengths [] ts)

-- a type that is not there
pub past_types : (ts : List Derived) (t : ℕ) → length ts ≤ t → shape_in (shapes_of ts) (base.Derived t) ≡ Whole
past_types ts t h = get_or_past (shapes_of ts) t Whole (omega (arith, lengths [] ts))

kept : (ss : List Shape) (ts : List Derived) (i : ℕ) → i < length ss → slice_index_or (shapes_from ss ts) i Whole ≡ slice_index_or ss i Whole
kept ss [] i h = refl
kept ss (t ∷ ts) i h =
    let r : Shape = Record (length ss) (parts_in ss t.components.items) in
    kept (ss ++ r ∷ []) ts i (omega (arith, length-append ss (r ∷ []))) ∙ get_or_append_left ss (r ∷ []) Whole i h

tree_at : (ss : List Shape) (ts : List Derived) (k n : ℕ) (x d : Derived) → n ≡ length ss + k → k < length ts → x ≡ get_or ts k d
    → slice_index_or (shapes_from ss ts) n Whole ≡ Record n (parts_in (shapes_from ss (take k ts)) x.components.items)
tree_at ss [] k n x d h l e = absurd (omega arith)
tree_at ss (t ∷ ts) zero n x d h l e =
    let r : Shape = Record (length ss) (parts_in ss t.components.items) in
    let same : n ≡ length ss = omega arith in
    rw same (kept (ss ++ r ∷ []) ts (length ss) (omega (arith, length-append ss (r ∷ []))) ∙ get_or-append_seam ss r [] Whole ∙ ap (λ (y : Derived).
    Record (length ss) (parts_in ss y.components.items)) (sym e))
tree_at ss (t ∷ ts) (suc k) n x d h l e =
    let r : Shape = Record (length ss) (parts_in ss t.components.items) in
    tree_at (ss ++ r ∷ []) ts k n x d (omega (arith, length-append ss (r ∷ []))) (omega arith) e

-- the tree of a type is over those of the types before it
pub tree_is : (ts : List Derived) (t : ℕ) (x d : Derived) → t < length ts → x ≡ get_or ts t d
    → shape_in (shapes_of ts) (base.Derived t) ≡ Record t (parts_in (shapes_of (take t ts)) x.components.items)
tree_is ts t x d h e = tree_at [] ts t t x d (omega arith) h e

-- ---- the trees of the types before one

newer : List Shape → List Derived → List Shape
newer ss [] = []
newer ss (t ∷ ts) = let r : Shape = Record (length ss) (parts_in ss t.components.items) in r ∷ newer (ss ++ r ∷ []) ts

newer_behind : (ss : List Shape) (ts : List Derived) → shapes_from ss ts ≡ ss ++ newer ss ts
unfolding newer
newer_behind ss [] = sym (append-nil ss)
newer_behind ss (t ∷ ts) =
    let r : Shape = Record (length ss) (parts_in ss t.components.items) in newer_behind (ss ++ r ∷ []) ts ∙ simp append_assoc

newer_before : (ss : List Shape) (ts : List Derived) (k : ℕ) → newer ss (take k ts) ≡ take k (newer ss ts)
unfolding newer
newer_before ss ts zero = refl
newer_before ss [] (suc k) = refl
newer_before ss (t ∷ ts) (suc k) =
    let r : Shape = Record (length ss) (parts_in ss t.components.items) in ap (λ rs. r ∷ rs) (newer_before (ss ++ r ∷ []) ts k)

pub trees_before : (ts : List Derived) (k : ℕ) → shapes_of (take k ts) ≡ take k (shapes_of ts)
trees_before ts k = newer_behind [] (take k ts) ∙ newer_before [] ts k ∙ ap (take k) (sym (newer_behind [] ts))
