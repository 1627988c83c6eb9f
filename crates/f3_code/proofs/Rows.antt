-- What lists of values take.
use Rattle.std.proofs.Common.{◌≡◌, ℕ, zero, suc, ◌+◌, ◌*◌, ◌<◌, ◌≤◌, List, [], ◌∷◌, ◌++◌, length, take, drop, replicate, refl, ap, arith}
use Rattle.std.specs.Prelude.{slice_index_or, slice_set}
use Rattle.f3_meaning_whole.specs.Value.{Value, Unallocated, Values, none, more, joined, listed}
use Rattle.f3_code.specs.Account.{words, row, objects, all_objects, level_words, levels_words}

-- values in a row, and as a list

pub row_joined : (vs : List Value) → row (joined vs) ≡ level_words vs
row_joined [] = refl
row_joined (v ∷ vs) = ap (λ n. words v + n) (row_joined vs)

pub row_listed : (vs : Values) → row vs ≡ level_words (listed vs)
row_listed none = refl
row_listed (more v vs) = ap (λ n. words v + n) (row_listed vs)

pub joined_listed : (vs : Values) → joined (listed vs) ≡ vs
joined_listed none = refl
joined_listed (more v vs) = ap (more v) (joined_listed vs)

-- two lists, one behind the other

pub level_words_append : (vs ws : List Value) → level_words (vs ++ ws) ≡ level_words vs + level_words ws
level_words_append [] ws = omega arith
level_words_append (v ∷ vs) ws = let e = level_words_append vs ws in omega arith

pub all_objects_append : (vs ws : List Value) → all_objects (joined (vs ++ ws)) ≡ all_objects (joined vs) + all_objects (joined ws)
all_objects_append [] ws = omega arith
all_objects_append (v ∷ vs) ws = let e = all_objects_append vs ws in omega arith

pub levels_words_append : (ls ms : List (List Value)) → levels_words (ls ++ ms) ≡ levels_words ls + levels_words ms
levels_words_append [] ms = omega arith
levels_words_append (l ∷ ls) ms = let e = levels_words_append ls ms in omega arith

-- the same value again and again

pub row_replicate : (n : ℕ) (v : Value) → row (joined (replicate n v)) ≡ n * words v
row_replicate zero v = omega arith
row_replicate (suc n) v = let e = row_replicate n v in omega arith

pub level_words_replicate : (n : ℕ) (v : Value) → level_words (replicate n v) ≡ n * words v
level_words_replicate zero v = omega arith
level_words_replicate (suc n) v = let e = level_words_replicate n v in omega arith

pub all_objects_replicate : (n : ℕ) (v : Value) → all_objects (joined (replicate n v)) ≡ n * objects v
all_objects_replicate zero v = omega arith
all_objects_replicate (suc n) v = let e = all_objects_replicate n v in omega arith

-- the first of a list, and the others

pub level_words_split : (n : ℕ) (vs : List Value) → level_words (take n vs) + level_words (drop n vs) ≡ level_words vs
level_words_split zero vs = omega arith
level_words_split (suc n) [] = refl
level_words_split (suc n) (v ∷ vs) = let e = level_words_split n vs in omega arith

pub levels_words_split : (n : ℕ) (ls : List (List Value)) → levels_words (take n ls) + levels_words (drop n ls) ≡ levels_words ls
levels_words_split zero ls = omega arith
levels_words_split (suc n) [] = refl
levels_words_split (suc n) (l ∷ ls) = let e = levels_words_split n ls in omega arith

-- one of a list is another

pub level_words_set : (vs : List Value) (i : ℕ) (v : Value) → i < length vs →
    level_words (slice_set vs i v) + words (slice_index_or vs i Unallocated) ≡ level_words vs + words v
level_words_set [] i v h = absurd (omega arith)
level_words_set (w ∷ vs) zero v h = omega arith
level_words_set (w ∷ vs) (suc i) v h = let e = level_words_set vs i v (omega arith) in omega arith

pub set_past : {X : Type 0} (xs : List X) (i : ℕ) (x : X) → length xs ≤ i → slice_set xs i x ≡ xs
set_past [] i x h = refl
set_past (y ∷ xs) zero x h = absurd (omega arith)
set_past (y ∷ xs) (suc i) x h = ap (◌∷◌ y) (set_past xs i x (omega arith))

pub levels_words_set : (ls : List (List Value)) (i : ℕ) (vs : List Value) → i < length ls →
    levels_words (slice_set ls i vs) + level_words (slice_index_or ls i []) ≡ levels_words ls + level_words vs
levels_words_set [] i vs h = absurd (omega arith)
levels_words_set (l ∷ ls) zero vs h = omega arith
levels_words_set (l ∷ ls) (suc i) vs h = let e = levels_words_set ls i vs (omega arith) in omega arith
