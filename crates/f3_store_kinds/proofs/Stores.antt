-- Stores of kinds: objects that are read and changed, levels that begin and end.
use Rattle.std.proofs.Common.{◌≡◌, ap, ℕ, zero, suc, true, List, [], ◌∷◌, ◌++◌, length, take, Some, refl, subst}
use Rattle.std.specs.Prelude.{slice_get, slice_set, slice_index_or}
use Rattle.f3_program.specs.declared.declarations.Derived.{Derived}
use Rattle.f3_program.specs.declared.declarations.Kind.{Kind}
use Rattle.f3_meaning_whole.specs.Value.{Value, Unallocated}
use Rattle.f3_meaning_whole.specs.Store.{Store, Root, Static, Local, Path, at_root, with_root, get, put, put_all}
use Rattle.f3_cell_kinds.specs.Holds.{is_one, IsOf}
use Rattle.f3_cell_kinds.proofs.Asked.{found_is}
use Rattle.f3_store_kinds.proofs.Ways.{part_is, changed_is}
use Rattle.f3_store_kinds.specs.Typing.{Typing, kind_by, kind_at, cut, extended, AreOf, AreLevels, AllOf, IsTyped, LeadsTo, AllLeadTo, IsOrNone}

module _ (types : List Derived) where
  -- ---- lists of values

  value_at : (ks : List Kind) (vs : List Value) (n : ℕ) (k : Kind) → AreOf types ks vs → slice_get ks n ≡ Some k → IsOf types k (slice_index_or vs n Unallocated)
  value_at [] vs n k h e = cc
  value_at (j ∷ ks) [] n k h e = absurd h
  value_at (j ∷ ks) (v ∷ vs) zero k h e = let same : j ≡ k = cc in subst (λ (z : Kind). IsOf types z v) same h.0
  value_at (j ∷ ks) (v ∷ vs) (suc n) k h e = value_at ks vs n k h.1 e

  value_set : (ks : List Kind) (vs : List Value) (n : ℕ) (k : Kind) (x : Value) → AreOf types ks vs → slice_get ks n ≡ Some k → IsOf types k x → AreOf types ks (slice_set vs n x)
  value_set [] vs n k x h e f = cc
  value_set (j ∷ ks) [] n k x h e f = absurd h
  value_set (j ∷ ks) (v ∷ vs) zero k x h e f = let same : k ≡ j = cc in (subst (λ (z : Kind). IsOf types z x) same f, h.1)
  value_set (j ∷ ks) (v ∷ vs) (suc n) k x h e f = (h.0, value_set ks vs n k x h.1 e f)

  level_at : (kss : List (List Kind)) (vss : List (List Value)) (n : ℕ) (ks : List Kind) → AreLevels types kss vss → slice_get kss n ≡ Some ks →
      AreOf types ks (slice_index_or vss n [])
  level_at [] vss n ks h e = cc
  level_at (js ∷ kss) [] n ks h e = absurd h
  level_at (js ∷ kss) (vs ∷ vss) zero ks h e = let same : js ≡ ks = cc in subst (λ (z : List Kind). AreOf types z vs) same h.0
  level_at (js ∷ kss) (vs ∷ vss) (suc n) ks h e = level_at kss vss n ks h.1 e

  level_set : (kss : List (List Kind)) (vss : List (List Value)) (n : ℕ) (ks : List Kind) (xs : List Value) → AreLevels types kss vss → slice_get kss n ≡ Some ks →
      AreOf types ks xs → AreLevels types kss (slice_set vss n xs)
  level_set [] vss n ks xs h e f = cc
  level_set (js ∷ kss) [] n ks xs h e f = absurd h
  level_set (js ∷ kss) (vs ∷ vss) zero ks xs h e f = let same : ks ≡ js = cc in (subst (λ (z : List Kind). AreOf types z xs) same f, h.1)
  level_set (js ∷ kss) (vs ∷ vss) (suc n) ks xs h e f = (h.0, level_set kss vss n ks xs h.1 e f)

  -- ---- objects that are part of no other

  pub root_is : (g : Typing) (store : Store) (t : Root) (k : Kind) → IsTyped types g store → kind_at g t ≡ Some k → IsOf types k (at_root store t)
  root_is g store (Static i) k h e = value_at g.statics store.statics i k h.statics e
  root_is g store (Local l i) k h e =
      let f = found_is (slice_get g.levels l) (λ (ks : List Kind). slice_get ks i) k e in
      value_at f.0 (slice_index_or store.levels l []) i k (level_at g.levels store.levels l f.0 h.levels f.1) f.2

  pub root_set : (g : Typing) (store : Store) (t : Root) (k : Kind) (x : Value) → IsTyped types g store → kind_at g t ≡ Some k → IsOf types k x →
      IsTyped types g (with_root store t x)
  root_set g store (Static i) k x h e f = record { statics = value_set g.statics store.statics i k x h.statics e f; levels = h.levels }
  root_set g store (Local l i) k x h e f =
      let q = found_is (slice_get g.levels l) (λ (ks : List Kind). slice_get ks i) k e in
      record {
        statics = h.statics;
        levels = level_set g.levels store.levels l q.0 _ h.levels q.1
            (value_set q.0 (slice_index_or store.levels l []) i k x (level_at g.levels store.levels l q.0 h.levels q.1) q.2 f);
      }

  -- ---- parts

  -- the kind of the root of a path, and where its way leads from there
  pub root_of_path : (g : Typing) (p : Path) (k : Kind) → LeadsTo types g k p → (j : Kind) × (kind_at g p.root ≡ Some j) × (kind_by types p.steps j ≡ Some k)
  root_of_path g p k e = found_is (kind_at g p.root) (kind_by types p.steps) k e

  pub read_is : (g : Typing) (store : Store) (k : Kind) (p : Path) → IsTyped types g store → LeadsTo types g k p → IsOrNone types k (get store p)
  read_is g store k p h e =
      let q = root_of_path g p k e in
      part_is types q.0 k (at_root store p.root) p.steps (root_is g store p.root q.0 h q.1) q.2

  pub put_is : (g : Typing) (store : Store) (k : Kind) (p : Path) (v : Value) → IsTyped types g store → LeadsTo types g k p → is_one k ≡ true → IsOf types k v → IsTyped types g (put store p v)
  put_is g store k p v h e one f =
      let q = root_of_path g p k e in
      root_set g store p.root q.0 _ h q.1 (changed_is types q.0 k (at_root store p.root) v p.steps (root_is g store p.root q.0 h q.1) q.2 one f)

  pub puts_are : (g : Typing) (store : Store) (k : Kind) (ps : List Path) (vs : List Value) → IsTyped types g store → AllLeadTo types g k ps → is_one k ≡ true → AllOf types k vs →
      IsTyped types g (put_all ps vs store)
  puts_are g store k [] vs h e one f = h
  puts_are g store k (p ∷ ps) [] h e one f = h
  puts_are g store k (p ∷ ps) (v ∷ vs) h e one f = puts_are g (put store p v) k ps vs (put_is g store k p v h e.0 one f.0) e.1 one f.1

  -- ---- levels

  pub levels_more : (kss : List (List Kind)) (vss : List (List Value)) (ks : List Kind) (vs : List Value) → AreLevels types kss vss → AreOf types ks vs →
      AreLevels types (kss ++ ks ∷ []) (vss ++ vs ∷ [])
  levels_more [] [] ks vs h f = (f, tt)
  levels_more [] (xs ∷ vss) ks vs h f = absurd h
  levels_more (js ∷ kss) [] ks vs h f = absurd h
  levels_more (js ∷ kss) (xs ∷ vss) ks vs h f = (h.0, levels_more kss vss ks vs h.1 f)

  pub levels_less : (n : ℕ) (kss : List (List Kind)) (vss : List (List Value)) → AreLevels types kss vss → AreLevels types (take n kss) (take n vss)
  levels_less zero kss vss h = tt
  levels_less (suc n) [] [] h = tt
  levels_less (suc n) [] (xs ∷ vss) h = absurd h
  levels_less (suc n) (js ∷ kss) [] h = absurd h
  levels_less (suc n) (js ∷ kss) (xs ∷ vss) h = (h.0, levels_less n kss vss h.1)

  pub levels_many : (kss : List (List Kind)) (vss : List (List Value)) → AreLevels types kss vss → length kss ≡ length vss
  levels_many [] [] h = refl
  levels_many [] (xs ∷ vss) h = absurd h
  levels_many (js ∷ kss) [] h = absurd h
  levels_many (js ∷ kss) (xs ∷ vss) h = ap suc (levels_many kss vss h.1)

  pub begun_is : (g : Typing) (store : Store) (ks : List Kind) (vs : List Value) → IsTyped types g store → AreOf types ks vs →
      IsTyped types (extended g ks) (record { statics = store.statics; levels = store.levels ++ vs ∷ [] })
  begun_is g store ks vs h f = record { statics = h.statics; levels = levels_more g.levels store.levels ks vs h.levels f }

  pub ended_is : (g : Typing) (store : Store) (n : ℕ) → IsTyped types g store → IsTyped types (cut n g) (record { statics = store.statics; levels = take n store.levels })
  ended_is g store n h = record { statics = h.statics; levels = levels_less n g.levels store.levels h.levels }
