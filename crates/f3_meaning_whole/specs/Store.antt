-- Stores, and paths into them.
use Rattle.std.specs.Prelude.{ℕ, zero, suc, Bool, true, false, ◌&&◌, nat_eq, List, [], ◌∷◌, ◌++◌, slice_index_or, slice_set}
use Rattle.f3_meaning_whole.specs.Value.{Value, Composite, Array, Unallocated, Allocated, Values, none, more}

-- An object that is part of no other: a variable that lives for the whole run, by its number; or, by its number on a level,
-- a variable of an activation or a value that is held for a call or an ASSOCIATE.
pub data Root : Type 0 where
  Static : ℕ → Root
  Local : (level slot : ℕ) → Root

-- from an object to a part of it (ISO/IEC 1539-1:2004, 2.4.3.1 and 6.1): a component, an element by its place in array
-- element order, or what an allocatable holds
pub data Step : Type 0 where
  Component : ℕ → Step
  Element : ℕ → Step
  Contents : Step

pub record Path : Type 0 where
  pub root : Root
  pub steps : List Step

abbrev pub within : Path → Step → Path
within p s = record { root = p.root; steps = p.steps ++ s ∷ [] }

-- the components that are selected on a way, in their order
abbrev pub components : List Step → List ℕ
components [] = []
components (Component k ∷ way) = k ∷ components way
components (Element k ∷ way) = components way
components (Contents ∷ way) = components way

-- What lives for the whole run, and what lives on each level: the values that are held for a call, then the variables of
-- its activation; or the values that are held for an ASSOCIATE. Level 0 has the main program's variables.
pub record Store : Type 0 where
  pub statics : List Value
  pub levels : List (List Value)

abbrev pub at_root : Store → Root → Value
at_root store (Static i) = slice_index_or store.statics i Unallocated
at_root store (Local l i) = slice_index_or (slice_index_or store.levels l []) i Unallocated

abbrev pub with_root : Store → Root → Value → Store
with_root store (Static i) v = record { statics = slice_set store.statics i v; levels = store.levels }
with_root store (Local l i) v = record { statics = store.statics; levels = slice_set store.levels l (slice_set (slice_index_or store.levels l []) i v) }

-- a part of a value; a part that there is not is unallocated
abbrev mutual
  pub part : Value → List Step → Value
  part v [] = v
  part (Composite vs) (Component i ∷ way) = part_at vs i way
  part (Array ss vs) (Element i ∷ way) = part_at vs i way
  part (Allocated v) (Contents ∷ way) = part v way
  part v (s ∷ way) = Unallocated

  pub part_at : Values → ℕ → List Step → Value
  part_at none i way = Unallocated
  part_at (more v vs) zero way = part v way
  part_at (more v vs) (suc i) way = part_at vs i way

-- the value in which a part is another
abbrev mutual
  pub with_part : Value → List Step → Value → Value
  with_part v [] x = x
  with_part (Composite vs) (Component i ∷ way) x = Composite (with_part_at vs i way x)
  with_part (Array ss vs) (Element i ∷ way) x = Array ss (with_part_at vs i way x)
  with_part (Allocated v) (Contents ∷ way) x = Allocated (with_part v way x)
  with_part v (s ∷ way) x = v

  pub with_part_at : Values → ℕ → List Step → Value → Values
  with_part_at none i way x = none
  with_part_at (more v vs) zero way x = more (with_part v way x) vs
  with_part_at (more v vs) (suc i) way x = more v (with_part_at vs i way x)

-- what stands at a path
abbrev pub get : Store → Path → Value
get store p = part (at_root store p.root) p.steps

-- the store with another value at a path
abbrev pub put : Store → Path → Value → Store
put store p x = with_root store p.root (with_part (at_root store p.root) p.steps x)

-- each path takes its value
abbrev pub put_all : List Path → List Value → Store → Store
put_all (p ∷ ps) (v ∷ vs) store = put_all ps vs (put store p v)
put_all ps vs store = store

abbrev pub same_root : Root → Root → Bool
same_root (Static i) (Static k) = nat_eq i k
same_root (Static i) (Local l k) = false
same_root (Local l i) (Static k) = false
same_root (Local l i) (Local m k) = nat_eq l m && nat_eq i k

abbrev pub same_step : Step → Step → Bool
same_step (Component i) (Component k) = nat_eq i k
same_step (Element i) (Element k) = nat_eq i k
same_step Contents Contents = true
same_step s t = false

abbrev pub begins_with : List Step → List Step → Bool
begins_with way [] = true
begins_with [] (t ∷ ts) = false
begins_with (s ∷ ss) (t ∷ ts) = same_step s t && begins_with ss ts

-- whether a path goes through another's object, or ends there
abbrev pub goes_through : Path → Path → Bool
goes_through p q = same_root p.root q.root && begins_with p.steps q.steps
