-- Stores without allocatables: what is there stays there.
use Rattle.std.proofs.Common.{◌≡◌, ℕ, zero, suc, ◌<◌, Bool, true, false, ◌||◌, List, [], ◌∷◌, ◌++◌, length, take, Some, refl, subst, arith}
use Rattle.std.specs.Prelude.{nat_eq, slice_get, slice_set, slice_index_or}
use Rattle.f3_program.specs.declared.declarations.Derived.{Derived}
use Rattle.f3_program.specs.declared.declarations.Kind.{Kind}
use Rattle.f3_meaning_whole.specs.Value.{Value, Composite, Array, Unallocated, Allocated}
use Rattle.f3_meaning_whole.specs.Store.{Store, Root, Static, Local, Path, Step, Component, Element, Contents, part, with_part, at_root, with_root, put, put_all}
use Rattle.f3_cell_kinds.specs.Holds.{IsOf}
use Rattle.f3_cell_kinds.proofs.Asked.{found_is}
use Rattle.f3_cell_kinds.proofs.Parting.{missing}
use Rattle.f3_store_kinds.specs.There.{PathThere}
use Rattle.f3_store_kinds.specs.Typing.{Typing, kind_at, AreOf, AreLevels, AllOf, IsTyped, IsBefore, LeadsTo, AllLeadTo}
use Rattle.f3_store_kinds.proofs.Stores.{root_is, put_is, root_of_path}
use Rattle.f3_there_laws.proofs.Forms.{IsSet, IsThere, AreFlat, set_of_kind, held_of_set, with_there, part_held}

abbrev pub AllSet : List Value → Type 0
AllSet [] = Unit {0}
AllSet (v ∷ vs) = IsSet v × AllSet vs

abbrev pub LevelsSet : List (List Value) → Type 0
LevelsSet [] = Unit {0}
LevelsSet (vs ∷ vss) = AllSet vs × LevelsSet vss

-- No object of a store that is part of no other is allocatable.
pub record RootsSet (store : Store) : Type 0 where
  pub statics : AllSet store.statics
  pub levels : LevelsSet store.levels

-- ---- objects that are set

value_set_at : (xs : List Value) (i : ℕ) (v : Value) → AllSet xs → (IsSet (slice_index_or xs i Unallocated) → IsSet v) → AllSet (slice_set xs i v)
value_set_at [] i v h f = tt
value_set_at (x ∷ xs) zero v h f = (f h.0, h.1)
value_set_at (x ∷ xs) (suc i) v h f = (h.0, value_set_at xs i v h.1 f)

level_set_at : (xss : List (List Value)) (l : ℕ) (vs : List Value) → LevelsSet xss → (AllSet (slice_index_or xss l []) → AllSet vs) → LevelsSet (slice_set xss l vs)
level_set_at [] l vs h f = tt
level_set_at (xs ∷ xss) zero vs h f = (f h.0, h.1)
level_set_at (xs ∷ xss) (suc l) vs h f = (h.0, level_set_at xss l vs h.1 f)

root_set_at : (store : Store) (t : Root) (v : Value) → RootsSet store → (IsSet (at_root store t) → IsSet v) → RootsSet (with_root store t v)
root_set_at store (Static i) v h f = record { statics = value_set_at store.statics i v h.statics f; levels = h.levels }
root_set_at store (Local l i) v h f = record {
  statics = h.statics;
  levels = level_set_at store.levels l _ h.levels (λ k. value_set_at (slice_index_or store.levels l []) i v k f);
}

with_set : (v x : Value) (way : List Step) → IsSet v → IsSet x → IsSet (with_part v way x)
with_set v x [] h k = k
with_set (Composite vs) x (Component n ∷ way) h k = tt
with_set (Array ss vs) x (Element n ∷ way) h k = tt
with_set (Allocated v) x (Contents ∷ way) h k = absurd h
with_set v x (s ∷ way) h k = h

pub append_set : (xss : List (List Value)) (vs : List Value) → LevelsSet xss → AllSet vs → LevelsSet (xss ++ vs ∷ [])
append_set [] vs h k = (k, tt)
append_set (xs ∷ xss) vs h k = (h.0, append_set xss vs h.1 k)

pub take_set : (n : ℕ) (xss : List (List Value)) → LevelsSet xss → LevelsSet (take n xss)
take_set zero xss h = tt
take_set (suc n) [] h = tt
take_set (suc n) (xs ∷ xss) h = (h.0, take_set n xss h.1)

-- an object that there is
value_is_set : (types : List Derived) (ks : List Kind) (vs : List Value) (i : ℕ) (k : Kind) → AreOf types ks vs → slice_get ks i ≡ Some k → AllSet vs → IsSet (slice_index_or vs i Unallocated)
value_is_set types [] vs i k h e f = cc
value_is_set types (j ∷ ks) [] i k h e f = absurd h
value_is_set types (j ∷ ks) (v ∷ vs) zero k h e f = f.0
value_is_set types (j ∷ ks) (v ∷ vs) (suc i) k h e f = value_is_set types ks vs i k h.1 e f.1

level_is_set : (types : List Derived) (kss : List (List Kind)) (vss : List (List Value)) (l i : ℕ) (ks : List Kind) (k : Kind) → AreLevels types kss vss → slice_get kss l ≡ Some ks →
    slice_get ks i ≡ Some k → LevelsSet vss → IsSet (slice_index_or (slice_index_or vss l []) i Unallocated)
level_is_set types [] vss l i ks k h e e' f = cc
level_is_set types (js ∷ kss) [] l i ks k h e e' f = absurd h
level_is_set types (js ∷ kss) (vs ∷ vss) zero i ks k h e e' f = let same : js ≡ ks = cc in value_is_set types ks vs i k (subst (λ z. AreOf types z vs) same h.0) e' f.0
level_is_set types (js ∷ kss) (vs ∷ vss) (suc l) i ks k h e e' f = level_is_set types kss vss l i ks k h.1 e e' f.1

pub root_is_set : (types : List Derived) (g : Typing) (store : Store) (t : Root) (k : Kind) → IsTyped types g store → RootsSet store → kind_at g t ≡ Some k → IsSet (at_root store t)
root_is_set types g store (Static i) k typed h e = value_is_set types g.statics store.statics i k typed.statics e h.statics
root_is_set types g store (Local l i) k typed h e =
    let f = found_is (slice_get g.levels l) (λ (ks : List Kind). slice_get ks i) k e in
    level_is_set types g.levels store.levels l i f.0 k typed.levels f.1 f.2 h.levels

pub all_set : (types : List Derived) (ks : List Kind) (vs : List Value) → ((i : ℕ) (k : Kind) → slice_get ks i ≡ Some k → k.is_allocatable ≡ false) → AreOf types ks vs → AllSet vs
all_set types [] [] held h = tt
all_set types [] (v ∷ vs) held h = absurd h
all_set types (k ∷ ks) [] held h = absurd h
all_set types (k ∷ ks) (v ∷ vs) held h = (set_of_kind types k v (held 0 k refl) h.0, all_set types ks vs (λ i j e. held (suc i) j e) h.1)

-- ---- what is there

value_there : (xs : List Value) (i j : ℕ) (v : Value) (w : List Step) → (IsThere (part (slice_index_or xs i Unallocated) w) → IsThere (part v w)) →
    IsThere (part (slice_index_or xs j Unallocated) w) → IsThere (part (slice_index_or (slice_set xs i v) j Unallocated) w)
value_there [] i j v w f h = h
value_there (x ∷ xs) zero zero v w f h = f h
value_there (x ∷ xs) zero (suc j) v w f h = h
value_there (x ∷ xs) (suc i) zero v w f h = h
value_there (x ∷ xs) (suc i) (suc j) v w f h = value_there xs i j v w f h

level_there : (xss : List (List Value)) (l o i j : ℕ) (v : Value) (w : List Step) → (IsThere (part (slice_index_or (slice_index_or xss l []) i Unallocated) w) → IsThere (part v w)) →
    IsThere (part (slice_index_or (slice_index_or xss o []) j Unallocated) w) →
    IsThere (part (slice_index_or (slice_index_or (slice_set xss l (slice_set (slice_index_or xss l []) i v)) o []) j Unallocated) w)
level_there [] l o i j v w f h = h
level_there (xs ∷ xss) zero zero i j v w f h = value_there xs i j v w f h
level_there (xs ∷ xss) zero (suc o) i j v w f h = h
level_there (xs ∷ xss) (suc l) zero i j v w f h = h
level_there (xs ∷ xss) (suc l) (suc o) i j v w f h = level_there xss l o i j v w f h

root_there : (store : Store) (t u : Root) (v : Value) (w : List Step) → (IsThere (part (at_root store t) w) → IsThere (part v w)) → IsThere (part (at_root store u) w) →
    IsThere (part (at_root (with_root store t v) u) w)
root_there store (Static i) (Static j) v w f h = value_there store.statics i j v w f h
root_there store (Static i) (Local o j) v w f h = h
root_there store (Local l i) (Static j) v w f h = h
root_there store (Local l i) (Local o j) v w f h = level_there store.levels l o i j v w f h

-- ---- changes

-- what is there in one store is there in the other
abbrev pub IsKept : Store → Store → Type 0
IsKept store st = (q : Path) → PathThere store q → PathThere st q

module _ (types : List Derived) (flat : AreFlat types) (g : Typing) where
  -- the kind of what stands at a path
  pub path_held : (store : Store) (k : Kind) (p : Path) → IsTyped types g store → RootsSet store → LeadsTo types g k p → k.is_allocatable ≡ false
  path_held store k p typed roots e =
      let q = root_of_path types g p k e in
      part_held types flat p.steps q.0 k (held_of_set types q.0 (at_root store p.root) (root_is_set types g store p.root q.0 typed roots q.1) (root_is types g store p.root q.0 typed q.1)) q.2

  pub put_there : (store : Store) (k : Kind) (p : Path) (v : Value) → IsTyped types g store → LeadsTo types g k p → k.is_allocatable ≡ false → nat_eq k.rank 0 ≡ true → IsOf types k v →
      IsKept store (put store p v)
  put_there store k p v typed e held one is q h =
      let f = root_of_path types g p k e in
      root_there store p.root q.root _ q.steps (λ there. with_there types flat f.0 k (at_root store p.root) v p.steps q.steps held one (root_is types g store p.root f.0 typed f.1) f.2 is there) h

  put_set : (store : Store) (k : Kind) (p : Path) (v : Value) → RootsSet store → k.is_allocatable ≡ false → IsOf types k v → RootsSet (put store p v)
  put_set store k p v roots held is = root_set_at store p.root _ roots (λ h. with_set (at_root store p.root) v p.steps h (set_of_kind types k v held is))

  -- A store that is kept: of the same kinds, with all that was there.
  pub record Stays (store st : Store) : Type 0 where
    pub typed : IsTyped types g st
    pub roots : RootsSet st
    pub kept : IsKept store st

  pub puts_stay : (store : Store) (k : Kind) (ps : List Path) (vs : List Value) → IsTyped types g store → RootsSet store → AllLeadTo types g k ps → k.is_allocatable ≡ false →
      nat_eq k.rank 0 ≡ true → AllOf types k vs → Stays store (put_all ps vs store)
  puts_stay store k [] vs typed roots e held one is = record { typed = typed; roots = roots; kept = λ q h. h }
  puts_stay store k (p ∷ ps) [] typed roots e held one is = record { typed = typed; roots = roots; kept = λ q h. h }
  puts_stay store k (p ∷ ps) (v ∷ vs) typed roots e held one is =
      let a = put_there store k p v typed e.0 held one is.0 in
      let b = puts_stay (put store p v) k ps vs (put_is types g store k p v typed e.0 (or_right k.is_allocatable (nat_eq k.rank 0) one) is.0) (put_set store k p v roots held is.0) e.1 held one is.1 in
      record { typed = b.typed; roots = b.roots; kept = λ q h. b.kept q (a q h) }
    where
      or_right : (a b : Bool) → b ≡ true → (a || b) ≡ true
      or_right true b f = refl
      or_right false b f = f

-- ---- levels

-- what is there stands on some level
before_at : (xss : List (List Value)) (l i : ℕ) (w : List Step) → IsThere (part (slice_index_or (slice_index_or xss l []) i Unallocated) w) → l < length xss
before_at [] l i w h = absurd (h (missing w))
before_at (xs ∷ xss) zero i w h = omega arith
before_at (xs ∷ xss) (suc l) i w h = let r = before_at xss l i w h in omega (arith, r)

pub there_before : (store : Store) (q : Path) → PathThere store q → IsBefore (length store.levels) q.root
there_before store q h = by_root q.root q.steps h
  where
    by_root : (t : Root) (w : List Step) → IsThere (part (at_root store t) w) → IsBefore (length store.levels) t
    by_root (Static i) w h = tt
    by_root (Local l i) w h = before_at store.levels l i w h

begun_at : (xss yss : List (List Value)) (l i : ℕ) (w : List Step) → IsThere (part (slice_index_or (slice_index_or xss l []) i Unallocated) w) →
    IsThere (part (slice_index_or (slice_index_or (xss ++ yss) l []) i Unallocated) w)
begun_at [] yss l i w h = absurd (h (missing w))
begun_at (xs ∷ xss) yss zero i w h = h
begun_at (xs ∷ xss) yss (suc l) i w h = begun_at xss yss l i w h

pub begun_there : (store : Store) (vss : List (List Value)) → IsKept store (record { statics = store.statics; levels = store.levels ++ vss })
begun_there store vss q h = by_root q.root q.steps h
  where
    by_root : (t : Root) (w : List Step) → IsThere (part (at_root store t) w) → IsThere (part (at_root (record { statics = store.statics; levels = store.levels ++ vss }) t) w)
    by_root (Static i) w h = h
    by_root (Local l i) w h = begun_at store.levels vss l i w h

ended_at : (n : ℕ) (xss : List (List Value)) (l i : ℕ) (w : List Step) → l < n → IsThere (part (slice_index_or (slice_index_or xss l []) i Unallocated) w) →
    IsThere (part (slice_index_or (slice_index_or (take n xss) l []) i Unallocated) w)
ended_at zero xss l i w less h = absurd (omega (arith, less))
ended_at (suc n) [] l i w less h = h
ended_at (suc n) (xs ∷ xss) zero i w less h = h
ended_at (suc n) (xs ∷ xss) (suc l) i w less h = ended_at n xss l i w (omega (arith, less)) h

pub ended_there : (n : ℕ) (store : Store) (q : Path) → IsBefore n q.root → PathThere store q → PathThere (record { statics = store.statics; levels = take n store.levels }) q
ended_there n store q b h = by_root q.root q.steps b h
  where
    by_root : (t : Root) (w : List Step) → IsBefore n t → IsThere (part (at_root store t) w) → IsThere (part (at_root (record { statics = store.statics; levels = take n store.levels }) t) w)
    by_root (Static i) w b h = h
    by_root (Local l i) w b h = ended_at n store.levels l i w b h
