-- What a store takes once another value stands at a path.
use Rattle.std.proofs.Common.{◌≡◌, ◌⊎◌, inl, inr, ℕ, zero, suc, ◌+◌, ◌<◌, ◌≤◌, pos, true, List, [], ◌∷◌, length, refl, sym, ap, ◌∙◌, arith}
use Rattle.std.specs.Prelude.{slice_index_or, slice_set}
use Rattle.f3_meaning_whole.specs.Value.{Value, Number, Truth, Composite, Array, Unallocated, Allocated, Values, none, more}
use Rattle.f3_meaning_whole.specs.Store.{Root, Static, Local, Step, Component, Element, Contents, Path, Store, at_root, with_root, part, part_at, with_part, with_part_at, get, put}
use Rattle.f3_code.specs.Account.{words, row, level_words, used}
use Rattle.f3_code.proofs.Rows.{level_words_set, levels_words_set, set_past}

-- no value is each value
not_each : (v : Value) → ((x : Value) → v ≡ x) → ⊥
not_each v h = cc (h (Number (pos 0)), h (Truth true))

get_set : {X : Type 0} (xs : List X) (i : ℕ) (x d : X) → i < length xs → slice_index_or (slice_set xs i x) i d ≡ x
get_set [] i x d h = absurd (omega arith)
get_set (y ∷ xs) zero x d h = refl
get_set (y ∷ xs) (suc i) x d h = get_set xs i x d (omega arith)

below : (i n : ℕ) → (i < n) ⊎ (n ≤ i)
below i zero = inr (omega arith)
below zero (suc n) = inl (omega arith)
below (suc i) (suc n) = elim (below i n) [ inl h ↦ inl (omega arith) | inr h ↦ inr (omega arith) ]

-- in a value, at a way on which what is put is got
mutual
  with_words : (v : Value) (way : List Step) (x : Value) → ((y : Value) → part (with_part v way y) way ≡ y) →
      words (with_part v way x) + words (part v way) ≡ words v + words x
  with_words v [] x h = omega arith
  with_words (Composite vs) (Component i ∷ way) x h = with_row vs i way x h
  with_words (Array ss vs) (Element i ∷ way) x h = let e = with_row vs i way x h in omega arith
  with_words (Allocated v) (Contents ∷ way) x h = let e = with_words v way x h in omega arith
  with_words v (s ∷ way) x h = absurd (not_each Unallocated h)

  with_row : (vs : Values) (i : ℕ) (way : List Step) (x : Value) → ((y : Value) → part_at (with_part_at vs i way y) i way ≡ y) →
      row (with_part_at vs i way x) + words (part_at vs i way) ≡ row vs + words x
  with_row none i way x h = absurd (not_each Unallocated h)
  with_row (more v vs) zero way x h = let e = with_words v way x h in omega arith
  with_row (more v vs) (suc i) way x h = let e = with_row vs i way x h in omega arith

-- in a list of values
with_list : (vs : List Value) (i : ℕ) (way : List Step) (x : Value) → i < length vs →
    ((y : Value) → part (slice_index_or (slice_set vs i (with_part (slice_index_or vs i Unallocated) way y)) i Unallocated) way ≡ y) →
    level_words (slice_set vs i (with_part (slice_index_or vs i Unallocated) way x)) + words (part (slice_index_or vs i Unallocated) way) ≡ level_words vs + words x
with_list vs i way x l h =
    let v = slice_index_or vs i Unallocated in
    let e = level_words_set vs i (with_part v way x) l in
    let f = with_words v way x (λ y. ap (λ z. part z way) (sym (get_set vs i (with_part v way y) Unallocated l)) ∙ h y) in
    omega arith

-- in a store
with_store : (store : Store) (root : Root) (way : List Step) (x : Value) →
    ((y : Value) → part (at_root (with_root store root (with_part (at_root store root) way y)) root) way ≡ y) →
    used (with_root store root (with_part (at_root store root) way x)) + words (part (at_root store root) way) ≡ used store + words x
with_store store (Static i) way x h = elim (below i (length store.statics)) [
  | inl l ↦ let e = with_list store.statics i way x l h in omega arith
  | inr l ↦ absurd (not_each (part (slice_index_or store.statics i Unallocated) way) (λ y.
      ap (λ vs. part (slice_index_or vs i Unallocated) way) (sym (set_past store.statics i (with_part (slice_index_or store.statics i Unallocated) way y) l)) ∙ h y))
]
with_store store (Local l i) way x h = elim (below l (length store.levels)) [
  | inl n ↦ elim (below i (length (slice_index_or store.levels l []))) [
    | inl m ↦
        let level = slice_index_or store.levels l [] in
        let made : Value → List Value = λ y. slice_set level i (with_part (slice_index_or level i Unallocated) way y) in
        let e = with_list level i way x m (λ y. ap (λ vs. part (slice_index_or vs i Unallocated) way) (sym (get_set store.levels l (made y) [] n)) ∙ h y) in
        let f = levels_words_set store.levels l (made x) n in
        omega arith
    | inr m ↦ absurd (not_each (part (slice_index_or (slice_index_or (slice_set store.levels l (slice_index_or store.levels l [])) l []) i Unallocated) way) (λ y.
        ap (λ vs. part (slice_index_or (slice_index_or (slice_set store.levels l vs) l []) i Unallocated) way)
        (sym (set_past (slice_index_or store.levels l []) i (with_part (slice_index_or (slice_index_or store.levels l []) i Unallocated) way y) m)) ∙ h y))
  ]
  | inr n ↦ absurd (not_each (part (slice_index_or (slice_index_or store.levels l []) i Unallocated) way) (λ y.
      ap (λ ls. part (slice_index_or (slice_index_or ls l []) i Unallocated) way)
      (sym (set_past store.levels l (slice_set (slice_index_or store.levels l []) i (with_part (slice_index_or (slice_index_or store.levels l []) i Unallocated) way y)) n)) ∙ h y))
]

pub put_used : (store : Store) (p : Path) (x : Value) → ((y : Value) → get (put store p y) p ≡ y) → used (put store p x) + words (get store p) ≡ used store + words x
put_used store p x h = with_store store p.root p.steps x h
