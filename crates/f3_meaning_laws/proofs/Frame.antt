-- What no event touches stays.
use Rattle.std.proofs.Common.{◌≡◌, ℕ, zero, suc, ◌<◌, Bool, true, false, List, [], ◌∷◌, ◌++◌, refl, sym, ap, ◌∙◌, arith, length}
use Rattle.std.specs.Prelude.{T, ◌&&◌, nat_eq, take, slice_index_or, slice_set}
use mathlib.Core.Path.{subst}
use lib.Dec.{eqb→eq}
use Rattle.std.proofs.Math.Dec.{eqb_refl}
use Rattle.f3_meaning_whole.specs.Value.{Value, Number, Truth, Composite, Array, Unallocated, Allocated, Values, none, more}
use Rattle.f3_meaning_whole.specs.Store.{Root, Static, Local, Store, Path, Step, Component, Element, Contents, at_root, with_root, part, part_at, with_part, with_part_at, get, put, put_all, same_root, begins_with, goes_through}
use Rattle.f3_meaning_whole.specs.Reference.{paths}
use Rattle.f3_meaning_whole.specs.Ran.{Event, Printed, Changed, Began, Entered, Ended, Asked, Stage, effect, replayed}
use Rattle.f3_meaning_whole.specs.Permitted.{Each}
use Rattle.f3_meaning_laws.specs.Laws.{Stands, Apart, Outlives, Spares, IsThere, StoresAgree}
use Rattle.f3_meaning_laws.proofs.Changes.{stages_stand}
use Rattle.f3_meaning_laws.proofs.Keeping.{no}

pub data Either (A B : Type 0) : Type 0 where
  Left : A → Either A B
  Right : B → Either A B

truly : (b : Bool) → T b → b ≡ true
truly true h = refl
truly false h = absurd h

same : (n : ℕ) → nat_eq n n ≡ true
same n = truly (nat_eq n n) (eqb_refl n)

pub both : (a b : Bool) → a ≡ true → (a && b) ≡ b
both true b e = refl
both false b e = no e

-- ---- lists

up : {k n : ℕ} → k < n → suc k < suc n
up h = omega arith

slice_put : {A : Type 0} (xs : List A) (i k : ℕ) (x d : A) → Either (slice_index_or (slice_set xs i x) k d ≡ slice_index_or xs k d) ((k ≡ i) × (slice_index_or (slice_set xs i x) k d ≡ x))
slice_put [] i k x d = Left refl
slice_put (y ∷ ys) zero zero x d = Right (refl, refl)
slice_put (y ∷ ys) zero (suc k) x d = Left refl
slice_put (y ∷ ys) (suc i) zero x d = Left refl
slice_put (y ∷ ys) (suc i) (suc k) x d = by (slice_put ys i k x d)
  where
    by : Either (slice_index_or (slice_set ys i x) k d ≡ slice_index_or ys k d) ((k ≡ i) × (slice_index_or (slice_set ys i x) k d ≡ x)) → Either (slice_index_or (slice_set ys i x) k d ≡ slice_index_or ys k d) ((suc k ≡ suc i) × (slice_index_or (slice_set ys i x) k d ≡ x))
    by (Left e) = Left e
    by (Right e) = Right (ap suc e.0, e.1)

length_put : {A : Type 0} (xs : List A) (i : ℕ) (x : A) → length (slice_set xs i x) ≡ length xs
length_put [] i x = refl
length_put (y ∷ ys) zero x = refl
length_put (y ∷ ys) (suc i) x = ap suc (length_put ys i x)

taken : {A : Type 0} (xs : List A) (l k : ℕ) (d : A) → k < l → slice_index_or (take l xs) k d ≡ slice_index_or xs k d
taken xs zero k d lt = absurd (omega arith)
taken [] (suc l) k d lt = refl
taken (x ∷ xs) (suc l) zero d lt = refl
taken (x ∷ xs) (suc l) (suc k) d lt = taken xs l k d (omega arith)

length_taken : {A : Type 0} (xs : List A) (l k : ℕ) → k < l → k < length xs → k < length (take l xs)
length_taken xs zero k lt le = absurd (omega arith)
length_taken [] (suc l) k lt le = le
length_taken (x ∷ xs) (suc l) zero lt le = omega arith
length_taken (x ∷ xs) (suc l) (suc k) lt le = up (length_taken xs l k (omega arith) (omega arith))

grown : {A : Type 0} (xs ys : List A) (k : ℕ) (d : A) → k < length xs → slice_index_or (xs ++ ys) k d ≡ slice_index_or xs k d
grown [] ys k d lt = absurd (omega arith)
grown (x ∷ xs) ys zero d lt = refl
grown (x ∷ xs) ys (suc k) d lt = grown xs ys k d (omega arith)

length_grown : {A : Type 0} (xs ys : List A) (k : ℕ) → k < length xs → k < length (xs ++ ys)
length_grown [] ys k lt = absurd (omega arith)
length_grown (x ∷ xs) ys zero lt = omega arith
length_grown (x ∷ xs) ys (suc k) lt = up (length_grown xs ys k (omega arith))

-- ---- roots

pub same_roots : (t u : Root) → same_root t u ≡ true → t ≡ u
same_roots (Static i) (Static k) e = ap Static (eqb→eq i k (subst T (sym e) tt))
same_roots (Static i) (Local m k) e = no e
same_roots (Local l i) (Static k) e = no e
same_roots (Local l i) (Local m k) e = by (nat_eq l m) refl (nat_eq i k) refl
  where
    by : (a : Bool) → nat_eq l m ≡ a → (b : Bool) → nat_eq i k ≡ b → Local l i ≡ Local m k
    by true p true q = ap (λ n. Local n i) (eqb→eq l m (subst T (sym p) tt)) ∙ ap (Local m) (eqb→eq i k (subst T (sym q) tt))
    by true p false q = no (sym (rw (p, q) refl) ∙ e)
    by false p b q = no (sym (rw p refl) ∙ e)

pub root_itself : (t : Root) → same_root t t ≡ true
root_itself (Static i) = same i
root_itself (Local l i) = both (nat_eq l l) (nat_eq i i) (same l) ∙ same i

-- another root has what it had, and this one what it has now
root_put : (s : Store) (t u : Root) (v : Value) → Either (at_root (with_root s t v) u ≡ at_root s u) ((u ≡ t) × (at_root (with_root s t v) u ≡ v))
root_put s (Static i) (Static k) v = by (slice_put s.statics i k v Unallocated)
  where
    by : Either (slice_index_or (slice_set s.statics i v) k Unallocated ≡ slice_index_or s.statics k Unallocated) ((k ≡ i) × (slice_index_or (slice_set s.statics i v) k Unallocated ≡ v)) → Either (slice_index_or (slice_set s.statics i v) k Unallocated ≡ slice_index_or s.statics k Unallocated) ((Static k ≡ Static i) × (slice_index_or (slice_set s.statics i v) k Unallocated ≡ v))
    by (Left e) = Left e
    by (Right e) = Right (ap Static e.0, e.1)
root_put s (Static i) (Local m k) v = Left refl
root_put s (Local l i) (Static k) v = Left refl
root_put s (Local l i) (Local m k) v = by (slice_put s.levels l m (slice_set (slice_index_or s.levels l []) i v) []) (slice_put (slice_index_or s.levels l []) i k v Unallocated)
  where
    now : List Value
    now = slice_index_or (slice_set s.levels l (slice_set (slice_index_or s.levels l []) i v)) m []

    by : Either (slice_index_or (slice_set s.levels l (slice_set (slice_index_or s.levels l []) i v)) m [] ≡ slice_index_or s.levels m []) ((m ≡ l) × (slice_index_or (slice_set s.levels l (slice_set (slice_index_or s.levels l []) i v)) m [] ≡ slice_set (slice_index_or s.levels l []) i v))
        → Either (slice_index_or (slice_set (slice_index_or s.levels l []) i v) k Unallocated ≡ slice_index_or (slice_index_or s.levels l []) k Unallocated) ((k ≡ i) × (slice_index_or (slice_set (slice_index_or s.levels l []) i v) k Unallocated ≡ v))
        → Either (at_root (with_root s (Local l i) v) (Local m k) ≡ at_root s (Local m k)) ((Local m k ≡ Local l i) × (at_root (with_root s (Local l i) v) (Local m k) ≡ v))
    by (Left e) f = Left (ap (λ vs. slice_index_or vs k Unallocated) e)
    by (Right e) (Left f) = Left (ap (λ vs. slice_index_or vs k Unallocated) e.1 ∙ f ∙ ap (λ n. slice_index_or (slice_index_or s.levels n []) k Unallocated) (sym e.0))
    by (Right e) (Right f) = Right (ap (λ n. Local n k) e.0 ∙ ap (Local l) f.0, ap (λ vs. slice_index_or vs k Unallocated) e.1 ∙ f.1)

-- ---- parts of values

same_then : (k i : ℕ) (b : Bool) → (nat_eq k i && b) ≡ false → k ≡ i → b ≡ false
same_then k i b e f = sym (both (nat_eq k i) b (ap (λ n. nat_eq k n) (sym f) ∙ same k)) ∙ e

mutual
  part_spares : (v : Value) (a b : List Step) (x : Value) → begins_with b a ≡ false → begins_with a b ≡ false → part (with_part v a x) b ≡ part v b
  part_spares v [] b x e f = no (sym e)
  part_spares v (s ∷ a) [] x e f = no (sym f)
  part_spares (Composite vs) (Component i ∷ a) (Component k ∷ b) x e f = part_at_spares vs i k a b x (same_then k i (begins_with b a) e) (λ g. same_then i k (begins_with a b) f (sym g))
  part_spares (Composite vs) (Component i ∷ a) (Element k ∷ b) x e f = refl
  part_spares (Composite vs) (Component i ∷ a) (Contents ∷ b) x e f = refl
  part_spares (Composite vs) (Element i ∷ a) (t ∷ b) x e f = refl
  part_spares (Composite vs) (Contents ∷ a) (t ∷ b) x e f = refl
  part_spares (Array ss vs) (Element i ∷ a) (Element k ∷ b) x e f = part_at_spares vs i k a b x (same_then k i (begins_with b a) e) (λ g. same_then i k (begins_with a b) f (sym g))
  part_spares (Array ss vs) (Element i ∷ a) (Component k ∷ b) x e f = refl
  part_spares (Array ss vs) (Element i ∷ a) (Contents ∷ b) x e f = refl
  part_spares (Array ss vs) (Component i ∷ a) (t ∷ b) x e f = refl
  part_spares (Array ss vs) (Contents ∷ a) (t ∷ b) x e f = refl
  part_spares (Allocated v) (Contents ∷ a) (Contents ∷ b) x e f = part_spares v a b x e f
  part_spares (Allocated v) (Contents ∷ a) (Component k ∷ b) x e f = refl
  part_spares (Allocated v) (Contents ∷ a) (Element k ∷ b) x e f = refl
  part_spares (Allocated v) (Component i ∷ a) (t ∷ b) x e f = refl
  part_spares (Allocated v) (Element i ∷ a) (t ∷ b) x e f = refl
  part_spares (Number z) (s ∷ a) (t ∷ b) x e f = refl
  part_spares (Truth z) (s ∷ a) (t ∷ b) x e f = refl
  part_spares Unallocated (s ∷ a) (t ∷ b) x e f = refl

  part_at_spares : (vs : Values) (i k : ℕ) (a b : List Step) (x : Value) → (k ≡ i → begins_with b a ≡ false) → (k ≡ i → begins_with a b ≡ false) → part_at (with_part_at vs i a x) k b ≡ part_at vs k b
  part_at_spares none i k a b x e f = refl
  part_at_spares (more v vs) zero zero a b x e f = part_spares v a b x (e refl) (f refl)
  part_at_spares (more v vs) zero (suc k) a b x e f = refl
  part_at_spares (more v vs) (suc i) zero a b x e f = refl
  part_at_spares (more v vs) (suc i) (suc k) a b x e f = part_at_spares vs i k a b x (λ g. e (ap suc g)) (λ g. f (ap suc g))

-- ---- stores

steps_apart : (p q : Path) → q.root ≡ p.root → goes_through q p ≡ false → begins_with q.steps p.steps ≡ false
steps_apart p q e f = sym (both (same_root q.root p.root) (begins_with q.steps p.steps) (ap (λ t. same_root q.root t) (sym e) ∙ root_itself q.root)) ∙ f

put_spares : (s : Store) (p q : Path) (x : Value) → Apart q p → get (put s p x) q ≡ get s q
put_spares s p q x a = by (root_put s p.root q.root (with_part (at_root s p.root) p.steps x))
  where
    by : Either (at_root (put s p x) q.root ≡ at_root s q.root) ((q.root ≡ p.root) × (at_root (put s p x) q.root ≡ with_part (at_root s p.root) p.steps x)) → get (put s p x) q ≡ get s q
    by (Left e) = ap (λ v. part v q.steps) e
    by (Right e) = ap (λ v. part v q.steps) e.1 ∙ part_spares (at_root s p.root) p.steps q.steps x (steps_apart p q e.0 a.0) (steps_apart q p (sym e.0) a.1) ∙ ap (λ t. part (at_root s t) q.steps) (sym e.0)

put_all_spares : (ps : List Path) (vs : List Value) (s : Store) (q : Path) → Each (Apart q) ps → get (put_all ps vs s) q ≡ get s q
put_all_spares [] vs s q h = refl
put_all_spares (p ∷ ps) [] s q h = refl
put_all_spares (p ∷ ps) (v ∷ vs) s q h = put_all_spares ps vs (put s p v) q h.1 ∙ put_spares s p q v h.0

there_put : (s : Store) (t u : Root) (v : Value) → IsThere u s → IsThere u (with_root s t v)
there_put s t (Static k) v h = tt
there_put s (Static i) (Local m k) v h = h
there_put s (Local l i) (Local m k) v h = subst (λ n. m < n) (sym (length_put s.levels l _)) h

there_all : (ps : List Path) (vs : List Value) (s : Store) (u : Root) → IsThere u s → IsThere u (put_all ps vs s)
there_all [] vs s u h = h
there_all (p ∷ ps) [] s u h = h
there_all (p ∷ ps) (v ∷ vs) s u h = there_all ps vs (put s p v) u (there_put s p.root u _ h)

there_still : (e : Event) (s : Store) (q : Path) → IsThere q.root s → Spares q e → IsThere q.root (effect e s)
there_still (Printed byte) s q h k = h
there_still (Changed c vs) s q h k = there_all (paths c.reference) vs s q.root h
there_still (Began stage) s q h k = h
there_still (Entered vs) s q h k = by q.root h
  where
    by : (u : Root) → IsThere u s → IsThere u (effect (Entered vs) s)
    by (Static i) h = tt
    by (Local l i) h = length_grown s.levels (vs ∷ []) l h
there_still (Ended level) s q h k = by q.root h k
  where
    by : (u : Root) → IsThere u s → Outlives u level → IsThere u (effect (Ended level) s)
    by (Static i) h k = tt
    by (Local l i) h k = length_taken s.levels level l k h
there_still (Asked refused) s q h k = h

effect_spares : (e : Event) (s : Store) (q : Path) → IsThere q.root s → Spares q e → get (effect e s) q ≡ get s q
effect_spares (Printed byte) s q h k = refl
effect_spares (Changed c vs) s q h k = put_all_spares (paths c.reference) vs s q k
effect_spares (Began stage) s q h k = refl
effect_spares (Entered vs) s q h k = ap (λ v. part v q.steps) (by q.root h)
  where
    by : (u : Root) → IsThere u s → at_root (effect (Entered vs) s) u ≡ at_root s u
    by (Static i) h = refl
    by (Local l i) h = ap (λ ws. slice_index_or ws i Unallocated) (grown s.levels (vs ∷ []) l [] h)
effect_spares (Ended level) s q h k = ap (λ v. part v q.steps) (by q.root k)
  where
    by : (u : Root) → Outlives u level → at_root (effect (Ended level) s) u ≡ at_root s u
    by (Static i) k = refl
    by (Local l i) k = ap (λ ws. slice_index_or ws i Unallocated) (taken s.levels level l [] k)
effect_spares (Asked refused) s q h k = refl

pub spared : (es : List Event) (s : Store) (q : Path) → IsThere q.root s → Each (Spares q) es → get (replayed es s) q ≡ get s q
spared [] s q h k = refl
spared (e ∷ es) s q h k = spared es (effect e s) q (there_still e s q h k.0) k.1 ∙ effect_spares e s q h k.0

-- ---- stages

stands_after : (before rest : List Event) (s : Store) → Stands s (before ++ rest) → Stands (replayed before s) rest
stands_after [] rest s h = h
stands_after (e ∷ before) rest s h = stands_after before rest (effect e s) h.1

-- between two stages nothing happens to the store but the events
pub between_stages : (before between behind : List Event) (first second : Stage) (s : Store) (out : List Event) → out ≡ before ++ (Began first ∷ (between ++ (Began second ∷ behind))) → Stands s out → second.store ≡ replayed between first.store
between_stages before between behind first second s out e h =
    let h1 : Stands (replayed before s) (Began first ∷ (between ++ (Began second ∷ behind))) = stands_after before (Began first ∷ (between ++ (Began second ∷ behind))) s (subst (Stands s) e h) in
    let h2 : Stands (replayed between (replayed before s)) (Began second ∷ behind) = stands_after between (Began second ∷ behind) (replayed before s) h1.1 in
    h2.0 ∙ ap (replayed between) (sym h1.0)

pub stores_agree : StoresAgree
stores_agree p m n answers first between second e q h k =
    ap (λ s. get s q) (between_stages e.0 between e.1 first second _ _ e.2 (stages_stand p m n answers)) ∙ spared between first.store q h k
