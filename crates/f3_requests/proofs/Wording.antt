-- Words of values that are not made.
use Rattle.std.proofs.Common.{◌≡◌, ℕ, zero, suc, ◌+◌, ◌*◌, ◌%◌, ◌^◌, ◌<◌, List, [], ◌∷◌, ◌++◌, length, get_or, take, map, replicate, refl, sym, ap, ◌∙◌, arith}
use Rattle.std.proofs.lemmas.List.{map-append, take_more}
use Rattle.f3_program.specs.declared.declarations.Constant.{Constant}
use Rattle.f3_program.specs.declared.declarations.Constant.TheVariants as constant
use Rattle.f3_meaning_whole.specs.Value.{Span, Value, joined, count}
use Rattle.f3_meaning_whole.specs.Arithmetic.{constant_value}
use Rattle.f3_meaning_whole.specs.Shape.{initialized}
use Rattle.f3_meaning_whole.specs.Exec.{vacant}
use Rattle.f3_code.specs.Account.{words, row, level_words}
use Rattle.f3_code.proofs.Modulo.{product_left, product_right}
use Rattle.f3_code.proofs.Rows.{row_replicate, level_words_append}

pub product_both : (a b : ℕ) → (a % 2 ^ 64 * (b % 2 ^ 64)) % 2 ^ 64 ≡ (a * b) % 2 ^ 64
product_both a b = product_right (a % 2 ^ 64) b ∙ product_left a b

pub constant_words : (c : Constant) → words (constant_value c) ≡ 1
constant_words (constant.Number z) = refl
constant_words (constant.Truth b) = refl

constants_words : (cs : List Constant) → row (joined (map constant_value cs)) ≡ length cs
constants_words [] = refl
constants_words (c ∷ cs) = let e = constant_words c in let f = constants_words cs in omega arith

-- the elements of an array

pub replicated : (k : ℕ) (v : Value) (n element : ℕ) → n ≡ k % 2 ^ 64 → element ≡ words v % 2 ^ 64
    → (n * element) % 2 ^ 64 ≡ row (joined (replicate k v)) % 2 ^ 64
replicated k v n element h e = rw (h, e, product_both k (words v)) (ap (λ m. m % 2 ^ 64) (sym (row_replicate k v)))

one_for_all : (k : ℕ) (c : Constant) (v : Value) (n : ℕ) → n ≡ k % 2 ^ 64 → n ≡ row (joined (initialized k (c ∷ []) v)) % 2 ^ 64
one_for_all k c v n h =
    let e : row (joined (replicate k (constant_value c))) ≡ k * 1 = row_replicate k (constant_value c) ∙ ap (λ m. k * m) (constant_words c) in
    h ∙ ap (λ m. m % 2 ^ 64) (omega arith)

one_each : (k : ℕ) (c d : Constant) (cs : List Constant) (v : Value) → length (c ∷ d ∷ cs) < 2 ^ 64
    → length (c ∷ d ∷ cs) ≡ row (joined (initialized k (c ∷ d ∷ cs) v)) % 2 ^ 64
one_each k c d cs v h = let e = constants_words (c ∷ d ∷ cs) in omega arith

pub no_constants : (cs : List Constant) (k : ℕ) (v : Value) (n element : ℕ) → length cs ≡ 0 → n ≡ k % 2 ^ 64 → element ≡ words v % 2 ^ 64
    → (n * element) % 2 ^ 64 ≡ row (joined (initialized k cs v)) % 2 ^ 64
no_constants [] k v n element l h e = replicated k v n element h e
no_constants (c ∷ cs) k v n element l h e = absurd (omega arith)

pub one_constant : (cs : List Constant) (k : ℕ) (v : Value) (n : ℕ) → length cs ≡ 1 → n ≡ k % 2 ^ 64 → n ≡ row (joined (initialized k cs v)) % 2 ^ 64
one_constant [] k v n l h = absurd (omega arith)
one_constant (c ∷ []) k v n l h = one_for_all k c v n h
one_constant (c ∷ d ∷ cs) k v n l h = absurd (omega arith)

pub many_constants : (cs : List Constant) (k : ℕ) (v : Value) (n : ℕ) → n ≡ length cs → 1 < n → n < 2 ^ 64 → n ≡ row (joined (initialized k cs v)) % 2 ^ 64
many_constants [] k v n l h s = absurd (omega arith)
many_constants (c ∷ []) k v n l h s = absurd (omega arith)
many_constants (c ∷ d ∷ cs) k v n l h s = l ∙ one_each k c d cs v (omega arith)

-- one more of several

pub one_more : {A : Type 0} (g : A → Value) (xs : List A) (x : A) (total w : ℕ) → total ≡ level_words (map g xs) % 2 ^ 64 → w ≡ words (g x) % 2 ^ 64
    → (total + w) % 2 ^ 64 ≡ level_words (map g (xs ++ x ∷ [])) % 2 ^ 64
one_more g xs x total w h e =
    let sum : level_words (map g (xs ++ x ∷ [])) ≡ level_words (map g xs) + (words (g x) + 0) =
    ap level_words (map-append g xs (x ∷ [])) ∙ level_words_append (map g xs) (g x ∷ []) in
    omega arith

pub next : {A : Type 0} (g : A → Value) (xs : List A) (i : ℕ) (x : A) (total w : ℕ) → i < length xs → x ≡ get_or xs i x
    → total ≡ level_words (map g (take i xs)) % 2 ^ 64 → w ≡ words (g x) % 2 ^ 64
    → (total + w) % 2 ^ 64 ≡ level_words (map g (take (i + 1) xs)) % 2 ^ 64
next g xs i x total w l is h e =
    one_more g (take i xs) x total w h e
    ∙ ap (λ ys. level_words (map g ys) % 2 ^ 64) (ap (λ y. take i xs ++ y ∷ []) is ∙ sym (take_more xs i x l))

-- arrays

pub vacant_is : (rank n element : ℕ) (ss : List Span) (v : Value) → 0 < rank → n ≡ count ss % 2 ^ 64 → element ≡ words v % 2 ^ 64
    → (n * element) % 2 ^ 64 ≡ words (vacant rank ss v) % 2 ^ 64
vacant_is zero n element ss v p h e = absurd (omega arith)
vacant_is (suc rank) n element ss v p h e = replicated (count ss) v n element h e
