-- What values and levels in memory take.
use Rattle.std.proofs.Common.{◌≡◌, ℕ, ◌+◌, ◌*◌, ◌-◌, ◌%◌, ◌^◌, ◌<◌, ℤ, Bool, ◌⊎◌, inl, inr, List, [], ◌∷◌, ◌++◌, length, take, drop, map, sym, ap, ◌∙◌, arith, Vec, Box, Global, get_or}
use Rattle.std.proofs.lemmas.List.{map-set, map-append, take_more, length-map, length-drop, take_all, take-append-drop}
use Rattle.std.specs.Prelude.{slice_set}
use Rattle.f3_meaning_whole.specs.Value.{joined}
use Rattle.f3_code.specs.Account.{block, words, row, objects, all_objects, level_words, levels_words}
use Rattle.f3_code.proofs.Rows.{row_joined, level_words_append, all_objects_append, levels_words_append, level_words_set, levels_words_set}
use Rattle.f3_data.specs.declared.value.Span.{Span}
use Rattle.f3_data.specs.declared.value.Elements.{Elements}
use Rattle.f3_data.specs.declared.value.Value as v
use Rattle.f3_data.specs.Values.{value_of, values_of, span_of}
use Rattle.f3_data.specs.Stores.{levels_of}
use Rattle.f3_data.specs.Taken.{taken}
use Rattle.f3_data.proofs.Rows.{composite_is, array_is, object_stands, level_stands}

pub composite_words : (vs : Vec v.Value Global) → words (value_of (v.Composite vs)) ≡ level_words (values_of vs.items)
composite_words vs = ap words (composite_is vs) ∙ row_joined (values_of vs.items)

pub array_words : (b : Box Elements Global) → words (value_of (v.Array b)) ≡ level_words (values_of b.value.values.items)
array_words b = ap words (array_is b) ∙ row_joined (values_of b.value.values.items)

pub array_objects : (b : Box Elements Global) → objects (value_of (v.Array b)) ≡ all_objects (joined (values_of b.value.values.items))
array_objects b = ap objects (array_is b)

-- a scalar takes one word
pub one_word : (x : v.Value) → ((z : ℤ) × (x ≡ v.Number z)) ⊎ (((b : Bool) × (x ≡ v.Truth b)) ⊎ (x ≡ v.Unallocated)) → words (value_of x) ≡ 1
one_word x (inl (z, e)) = ap (λ y. words (value_of y)) e
one_word x (inr (inl (b, e))) = ap (λ y. words (value_of y)) e
one_word x (inr (inr e)) = ap (λ y. words (value_of y)) e

-- one more of a list

next_of : {X Y : Type 0} (f : X → Y) (xs : List X) (i : ℕ) (x : X) → i < length xs → x ≡ get_or xs i x →
    map f (take (i + 1) xs) ≡ map f (take i xs) ++ f x ∷ []
next_of f xs i x h e = ap (map f) (take_more xs i x h ∙ ap (λ y. take i xs ++ y ∷ []) (sym e)) ∙ map-append f (take i xs) (x ∷ [])

pub words_more : (vs : List v.Value) (i : ℕ) (x : v.Value) → i < length vs → x ≡ get_or vs i x →
    level_words (values_of (take (i + 1) vs)) ≡ level_words (values_of (take i vs)) + words (value_of x)
words_more vs i x h e = ap level_words (next_of value_of vs i x h e) ∙ level_words_append (values_of (take i vs)) (value_of x ∷ []) ∙ omega arith

pub objects_more : (vs : List v.Value) (i : ℕ) (x : v.Value) → i < length vs → x ≡ get_or vs i x →
    all_objects (joined (values_of (take (i + 1) vs))) ≡ all_objects (joined (values_of (take i vs))) + objects (value_of x)
objects_more vs i x h e = ap (λ xs. all_objects (joined xs)) (next_of value_of vs i x h e)
    ∙ all_objects_append (values_of (take i vs)) (value_of x ∷ []) ∙ omega arith

pub levels_more : (ls : List (Vec v.Value Global)) (i : ℕ) (l : Vec v.Value Global) → i < length ls → l ≡ get_or ls i l →
    levels_words (levels_of (take (i + 1) ls)) ≡ levels_words (levels_of (take i ls)) + block (level_words (values_of l.items))
levels_more ls i l h e = ap levels_words (next_of (λ (u : Vec v.Value Global). values_of u.items) ls i l h e)
    ∙ levels_words_append (levels_of (take i ls)) (values_of l.items ∷ []) ∙ omega arith

-- one of a list has grown

pub one_grown : (vs : List v.Value) (i g : ℕ) (d y : v.Value) → i < length vs → d ≡ get_or vs i d →
    (words (value_of d) + g) % 2 ^ 64 ≡ words (value_of y) % 2 ^ 64 →
    (level_words (values_of vs) + g) % 2 ^ 64 ≡ level_words (values_of (slice_set vs i y)) % 2 ^ 64
one_grown vs i g d y h e f =
    let a = ap level_words (map-set value_of vs i y) in
    let b = level_words_set (values_of vs) i (value_of y) (omega (arith, length-map vs value_of)) in
    let c = ap words (object_stands vs i d h e) in
    omega arith

pub one_grown_in_row : (vs : List v.Value) (i g : ℕ) (d y : v.Value) → i < length vs → d ≡ get_or vs i d →
    (words (value_of d) + g) % 2 ^ 64 ≡ words (value_of y) % 2 ^ 64 →
    (row (joined (values_of vs)) + g) % 2 ^ 64 ≡ row (joined (values_of (slice_set vs i y))) % 2 ^ 64
one_grown_in_row vs i g d y h e f =
    let a = row_joined (values_of vs) in
    let b = row_joined (values_of (slice_set vs i y)) in
    let c = one_grown vs i g d y h e f in
    omega arith

pub level_grown : (ls : List (Vec v.Value Global)) (l g : ℕ) (d y : Vec v.Value Global) → l < length ls → d ≡ get_or ls l d →
    (level_words (values_of d.items) + g) % 2 ^ 64 ≡ level_words (values_of y.items) % 2 ^ 64 →
    (levels_words (levels_of ls) + g) % 2 ^ 64 ≡ levels_words (levels_of (slice_set ls l y)) % 2 ^ 64
level_grown ls l g d y h e f =
    let a = ap levels_words (map-set (λ (u : Vec v.Value Global). values_of u.items) ls l y) in
    let b = levels_words_set (levels_of ls) l (values_of y.items) (omega (arith, length-map ls (λ (u : Vec v.Value Global). values_of u.items))) in
    let c = ap level_words (level_stands ls l d h e) in
    omega arith

-- one of a list and another value have changed places

pub one_exchanged : (vs : List v.Value) (i a b : ℕ) (d y : v.Value) → i < length vs → d ≡ get_or vs i d →
    words (value_of d) + a ≡ words (value_of y) + b →
    level_words (values_of vs) + a ≡ level_words (values_of (slice_set vs i y)) + b
one_exchanged vs i a b d y h e f =
    let s = ap level_words (map-set value_of vs i y) in
    let n = level_words_set (values_of vs) i (value_of y) (omega (arith, length-map vs value_of)) in
    let o = ap words (object_stands vs i d h e) in
    omega arith

pub one_exchanged_in_row : (vs : List v.Value) (i a b : ℕ) (d y : v.Value) → i < length vs → d ≡ get_or vs i d →
    words (value_of d) + a ≡ words (value_of y) + b →
    row (joined (values_of vs)) + a ≡ row (joined (values_of (slice_set vs i y))) + b
one_exchanged_in_row vs i a b d y h e f =
    let s = row_joined (values_of vs) in
    let n = row_joined (values_of (slice_set vs i y)) in
    let o = one_exchanged vs i a b d y h e f in
    omega arith

-- one takes as many words as what was there
pub one_alike_in_row : (vs : List v.Value) (i : ℕ) (d y : v.Value) → i < length vs → d ≡ get_or vs i d →
    words (value_of d) ≡ words (value_of y) → row (joined (values_of vs)) ≡ row (joined (values_of (slice_set vs i y)))
one_alike_in_row vs i d y h e f =
    let o = one_exchanged_in_row vs i 0 0 d y h e (omega arith) in
    omega arith

pub level_exchanged : (ls : List (Vec v.Value Global)) (l a b : ℕ) (d y : Vec v.Value Global) → l < length ls → d ≡ get_or ls l d →
    level_words (values_of d.items) + a ≡ level_words (values_of y.items) + b →
    levels_words (levels_of ls) + a ≡ levels_words (levels_of (slice_set ls l y)) + b
level_exchanged ls l a b d y h e f =
    let s = ap levels_words (map-set (λ (u : Vec v.Value Global). values_of u.items) ls l y) in
    let n = levels_words_set (levels_of ls) l (values_of y.items) (omega (arith, length-map ls (λ (u : Vec v.Value Global). values_of u.items))) in
    let o = ap level_words (level_stands ls l d h e) in
    omega arith

-- what holds values has grown as much as these

array_row : (b : Box Elements Global) → words (value_of (v.Array b)) ≡ row (joined (values_of b.value.values.items))
array_row b = ap words (array_is b)

pub array_grown : (b d : Box Elements Global) (g : ℕ) →
    (row (joined (values_of b.value.values.items)) + g) % 2 ^ 64 ≡ row (joined (values_of d.value.values.items)) % 2 ^ 64 →
    (words (value_of (v.Array b)) + g) % 2 ^ 64 ≡ words (value_of (v.Array d)) % 2 ^ 64
array_grown b d g h =
    let s = array_row b in
    let n = array_row d in
    omega arith

pub array_exchanged : (b d : Box Elements Global) (i o : ℕ) →
    row (joined (values_of b.value.values.items)) + i ≡ row (joined (values_of d.value.values.items)) + o →
    words (value_of (v.Array b)) + i ≡ words (value_of (v.Array d)) + o
array_exchanged b d i o h =
    let s = array_row b in
    let n = array_row d in
    omega arith

-- levels that begin and end

pub entered : (ss : List v.Value) (ls : List (Vec v.Value Global)) (l : Vec v.Value Global) →
    taken ss (ls ++ l ∷ []) ≡ taken ss ls + block (level_words (values_of l.items))
entered ss ls l =
    let a = ap levels_words (map-append (λ (u : Vec v.Value Global). values_of u.items) ls (l ∷ [])) in
    let b = levels_words_append (levels_of ls) (values_of l.items ∷ []) in
    omega arith

pub ended : (ss : List v.Value) (n : ℕ) (ls : List (Vec v.Value Global)) →
    taken ss (take n ls) + levels_words (levels_of (take (length ls - n) (drop n ls))) ≡ taken ss ls
ended ss n ls =
    let rest = ap (λ ms. levels_words (levels_of ms)) (take_all (length ls - n) (drop n ls) (omega (arith, length-drop n ls))) in
    let a = ap levels_words (sym (map-append (λ (u : Vec v.Value Global). values_of u.items) (take n ls) (drop n ls))
    ∙ ap levels_of (take-append-drop n ls)) in
    let b = levels_words_append (levels_of (take n ls)) (levels_of (drop n ls)) in
    omega arith
