-- Several parts of one object that take values, and the object that takes another.
use Rattle.std.proofs.Common.{◌≡◌, ℕ, zero, suc, ◌+◌, List, [], ◌∷◌, ◌++◌, refl, sym, ap, ◌∙◌, map, None, Some, drop}
use Rattle.std.specs.Prelude.{slice_get, slice_index_or, slice_set}
use Rattle.f3_meaning_whole.specs.Value.{Value, Number, Truth, Composite, Array, Unallocated, Allocated, Values, none, more}
use Rattle.f3_meaning_whole.specs.Store.{Root, Static, Local, Store, Path, Step, Component, Element, Contents, at_root, part, part_at, with_part, with_part_at, get, put, put_all}
use Rattle.f3_data.specs.References.{element_path}
use Rattle.f3_data.specs.Each.{row_with, with_each}
use Rattle.f3_data.proofs.Counted.{drop_at, none_left, none_behind}

-- ---- values

mutual
  -- what a part of a part takes is gone where the part takes another value
  over : (v : Value) (way t : List Step) (x y : Value) → with_part (with_part v (way ++ t) x) way y ≡ with_part v way y
  over v [] t x y = refl
  over (Composite vs) (Component i ∷ way) t x y = ap Composite (over_at vs i way t x y)
  over (Composite vs) (Element i ∷ way) t x y = refl
  over (Composite vs) (Contents ∷ way) t x y = refl
  over (Array ss vs) (Element i ∷ way) t x y = ap (Array ss) (over_at vs i way t x y)
  over (Array ss vs) (Component i ∷ way) t x y = refl
  over (Array ss vs) (Contents ∷ way) t x y = refl
  over (Allocated v) (Contents ∷ way) t x y = ap Allocated (over v way t x y)
  over (Allocated v) (Component i ∷ way) t x y = refl
  over (Allocated v) (Element i ∷ way) t x y = refl
  over (Number z) (s ∷ way) t x y = refl
  over (Truth b) (s ∷ way) t x y = refl
  over Unallocated (s ∷ way) t x y = refl

  over_at : (vs : Values) (i : ℕ) (way t : List Step) (x y : Value) → with_part_at (with_part_at vs i (way ++ t) x) i way y ≡ with_part_at vs i way y
  over_at none i way t x y = refl
  over_at (more v vs) zero way t x y = ap (λ u. more u vs) (over v way t x y)
  over_at (more v vs) (suc i) way t x y = ap (more v) (over_at vs i way t x y)

mutual
  -- what the part is then
  kept : (v : Value) (way : List Step) (n : ℕ) (tail : List Step) (x : Value) → part (with_part v (way ++ Element n ∷ tail) x) way ≡ with_part (part v way) (Element n ∷ tail) x
  kept v [] n tail x = refl
  kept (Composite vs) (Component i ∷ way) n tail x = kept_at vs i way n tail x
  kept (Composite vs) (Element i ∷ way) n tail x = refl
  kept (Composite vs) (Contents ∷ way) n tail x = refl
  kept (Array ss vs) (Element i ∷ way) n tail x = kept_at vs i way n tail x
  kept (Array ss vs) (Component i ∷ way) n tail x = refl
  kept (Array ss vs) (Contents ∷ way) n tail x = refl
  kept (Allocated v) (Contents ∷ way) n tail x = kept v way n tail x
  kept (Allocated v) (Component i ∷ way) n tail x = refl
  kept (Allocated v) (Element i ∷ way) n tail x = refl
  kept (Number z) (s ∷ way) n tail x = refl
  kept (Truth b) (s ∷ way) n tail x = refl
  kept Unallocated (s ∷ way) n tail x = refl

  kept_at : (vs : Values) (i : ℕ) (way : List Step) (n : ℕ) (tail : List Step) (x : Value) → part_at (with_part_at vs i (way ++ Element n ∷ tail) x) i way ≡ with_part (part_at vs i way) (Element n ∷ tail) x
  kept_at none i way n tail x = refl
  kept_at (more v vs) zero way n tail x = kept v way n tail x
  kept_at (more v vs) (suc i) way n tail x = kept_at vs i way n tail x

mutual
  -- a part that takes what it is
  stays : (v : Value) (way : List Step) → with_part v way (part v way) ≡ v
  stays v [] = refl
  stays (Composite vs) (Component i ∷ way) = ap Composite (stays_at vs i way)
  stays (Composite vs) (Element i ∷ way) = refl
  stays (Composite vs) (Contents ∷ way) = refl
  stays (Array ss vs) (Element i ∷ way) = ap (Array ss) (stays_at vs i way)
  stays (Array ss vs) (Component i ∷ way) = refl
  stays (Array ss vs) (Contents ∷ way) = refl
  stays (Allocated v) (Contents ∷ way) = ap Allocated (stays v way)
  stays (Allocated v) (Component i ∷ way) = refl
  stays (Allocated v) (Element i ∷ way) = refl
  stays (Number z) (s ∷ way) = refl
  stays (Truth b) (s ∷ way) = refl
  stays Unallocated (s ∷ way) = refl

  stays_at : (vs : Values) (i : ℕ) (way : List Step) → with_part_at vs i way (part_at vs i way) ≡ vs
  stays_at none i way = refl
  stays_at (more v vs) zero way = ap (λ u. more u vs) (stays v way)
  stays_at (more v vs) (suc i) way = ap (more v) (stays_at vs i way)

-- a part below no value
nowhere : (way : List Step) (n : ℕ) (tail : List Step) (x : Value) → with_part Unallocated (way ++ Element n ∷ tail) x ≡ Unallocated
nowhere [] n tail x = refl
nowhere (s ∷ way) n tail x = refl

-- ---- lists, in which one changes

abbrev changed : {A : Type 0} → List A → ℕ → A → (A → A) → List A
changed xs i d f = slice_set xs i (f (slice_index_or xs i d))

changed_twice : {A : Type 0} (xs : List A) (i : ℕ) (d : A) (f g h : A → A) → ((a : A) → g (f a) ≡ h a) →
    slice_set (slice_set xs i (f (slice_index_or xs i d))) i (g (slice_index_or (slice_set xs i (f (slice_index_or xs i d))) i d)) ≡ slice_set xs i (h (slice_index_or xs i d))
changed_twice [] i d f g h e = refl
changed_twice (x ∷ xs) zero d f g h e = ap (λ y. y ∷ xs) (e x)
changed_twice (x ∷ xs) (suc i) d f g h e = ap (λ ys. x ∷ ys) (changed_twice xs i d f g h e)

changed_at : {A : Type 0} (xs : List A) (i : ℕ) (d : A) (f : A → A) → f d ≡ d → slice_index_or (slice_set xs i (f (slice_index_or xs i d))) i d ≡ f (slice_index_or xs i d)
changed_at [] i d f e = sym e
changed_at (x ∷ xs) zero d f e = refl
changed_at (x ∷ xs) (suc i) d f e = changed_at xs i d f e

unchanged : {A : Type 0} (xs : List A) (i : ℕ) (d : A) → slice_set xs i (slice_index_or xs i d) ≡ xs
unchanged [] i d = refl
unchanged (x ∷ xs) zero d = refl
unchanged (x ∷ xs) (suc i) d = ap (λ ys. x ∷ ys) (unchanged xs i d)

-- ---- stores

roots_over : (s : Store) (r : Root) (way t : List Step) (x y : Value) →
    put (put s (record { root = r; steps = way ++ t }) x) (record { root = r; steps = way }) y ≡ put s (record { root = r; steps = way }) y
roots_over s (Static i) way t x y = ap (λ vs. record { statics = vs; levels = s.levels })
    (changed_twice s.statics i Unallocated (λ v. with_part v (way ++ t) x) (λ v. with_part v way y) (λ v. with_part v way y) (λ v. over v way t x y))
roots_over s (Local l i) way t x y = ap (λ ls. record { statics = s.statics; levels = ls })
    (changed_twice s.levels l [] (λ vs. slice_set vs i (with_part (slice_index_or vs i Unallocated) (way ++ t) x)) (λ vs. slice_set vs i (with_part (slice_index_or vs i Unallocated) way y))
    (λ vs. slice_set vs i (with_part (slice_index_or vs i Unallocated) way y))
    (λ vs. changed_twice vs i Unallocated (λ v. with_part v (way ++ t) x) (λ v. with_part v way y) (λ v. with_part v way y) (λ v. over v way t x y)))

roots_kept : (s : Store) (r : Root) (way : List Step) (n : ℕ) (tail : List Step) (x : Value) →
    at_root (put s (record { root = r; steps = way ++ Element n ∷ tail }) x) r ≡ with_part (at_root s r) (way ++ Element n ∷ tail) x
roots_kept s (Static i) way n tail x = changed_at s.statics i Unallocated (λ v. with_part v (way ++ Element n ∷ tail) x) (nowhere way n tail x)
roots_kept s (Local l i) way n tail x =
    ap (λ vs. slice_index_or vs i Unallocated) (changed_at s.levels l [] (λ vs. slice_set vs i (with_part (slice_index_or vs i Unallocated) (way ++ Element n ∷ tail) x)) refl)
    ∙ changed_at (slice_index_or s.levels l []) i Unallocated (λ v. with_part v (way ++ Element n ∷ tail) x) (nowhere way n tail x)

same_there : (s : Store) (r : Root) (way : List Step) → put s (record { root = r; steps = way }) (part (at_root s r) way) ≡ s
same_there s (Static i) way = ap (λ vs. record { statics = vs; levels = s.levels })
    (ap (slice_set s.statics i) (stays (slice_index_or s.statics i Unallocated) way) ∙ unchanged s.statics i Unallocated)
same_there s (Local l i) way = ap (λ ls. record { statics = s.statics; levels = ls })
    (ap (slice_set s.levels l) (ap (slice_set (slice_index_or s.levels l []) i) (stays (slice_index_or (slice_index_or s.levels l []) i Unallocated) way) ∙ unchanged (slice_index_or s.levels l []) i Unallocated)
    ∙ unchanged s.levels l [])

append_none : (way : List Step) → way ++ [] ≡ way
append_none [] = refl
append_none (s ∷ way) = ap (λ ss. s ∷ ss) (append_none way)

twice : (s : Store) (p : Path) (x y : Value) → put (put s p x) p y ≡ put s p y
twice s p x y = ap (λ way. put (put s (record { root = p.root; steps = way }) x) p y) (sym (append_none p.steps)) ∙ roots_over s p.root p.steps [] x y

each_first : (v : Value) (tail : List Step) (n : ℕ) (ns : List ℕ) (x : Value) (xs : List Value) → with_each (with_part v (Element n ∷ tail) x) tail ns xs ≡ with_each v tail (n ∷ ns) (x ∷ xs)
each_first (Number z) tail n ns x xs = refl
each_first (Truth b) tail n ns x xs = refl
each_first (Composite vs) tail n ns x xs = refl
each_first (Array ss vs) tail n ns x xs = refl
each_first Unallocated tail n ns x xs = refl
each_first (Allocated v) tail n ns x xs = refl

no_number : (v : Value) (tail : List Step) (xs : List Value) → with_each v tail [] xs ≡ v
no_number (Number z) tail xs = refl
no_number (Truth b) tail xs = refl
no_number (Composite vs) tail xs = refl
no_number (Array ss vs) tail xs = refl
no_number Unallocated tail xs = refl
no_number (Allocated v) tail xs = refl

no_value : (v : Value) (tail : List Step) (ns : List ℕ) → with_each v tail ns [] ≡ v
no_value (Number z) tail ns = refl
no_value (Truth b) tail ns = refl
no_value (Composite vs) tail ns = refl
no_value (Array ss vs) tail [] = refl
no_value (Array ss vs) tail (n ∷ ns) = refl
no_value Unallocated tail ns = refl
no_value (Allocated v) tail ns = refl

-- all elements at once
at_once : (ns : List ℕ) (xs : List Value) (s : Store) (p : Path) (tail : List Step) → put s p (with_each (get s p) tail ns xs) ≡ put_all (map (element_path p tail) ns) xs s
at_once [] xs s p tail = ap (put s p) (no_number (get s p) tail xs) ∙ same_there s p.root p.steps
at_once (n ∷ ns) [] s p tail = ap (put s p) (no_value (get s p) tail (n ∷ ns)) ∙ same_there s p.root p.steps
at_once (n ∷ ns) (x ∷ xs) s p tail =
    let e : get (put s (element_path p tail n) x) p ≡ with_part (get s p) (Element n ∷ tail) x =
    ap (λ v. part v p.steps) (roots_kept s p.root p.steps n tail x) ∙ kept (at_root s p.root) p.steps n tail x in
    sym (sym (at_once ns xs (put s (element_path p tail n) x) p tail)
    ∙ ap (λ v. put (put s (element_path p tail n) x) p (with_each v tail ns xs)) e
    ∙ ap (put (put s (element_path p tail n) x) p) (each_first (get s p) tail n ns x xs)
    ∙ roots_over s p.root p.steps (Element n ∷ tail) x (with_each (get s p) tail (n ∷ ns) (x ∷ xs)))

-- the same, where the object is away while they take them
pub at_once_away : (ns : List ℕ) (xs : List Value) (s : Store) (p : Path) (tail : List Step) (a : Value) →
    put (put s p a) p (with_each (get s p) tail ns xs) ≡ put_all (map (element_path p tail) ns) xs s
at_once_away ns xs s p tail a = twice s p a (with_each (get s p) tail ns xs) ∙ at_once ns xs s p tail

-- ---- one after another

pub row_nothing : (vs : Values) (tail : List Step) (ns : List ℕ) → row_with vs tail ns [] ≡ vs
row_nothing vs tail [] = refl
row_nothing vs tail (n ∷ ns) = refl

pub row_more : (vs ws : Values) (tail : List Step) (ns : List ℕ) (k n : ℕ) (x : Value) (xs : List Value) → slice_get ns k ≡ Some n → ws ≡ with_part_at vs n tail x →
    row_with ws tail (drop (k + 1) ns) xs ≡ row_with vs tail (drop k ns) (x ∷ xs)
row_more vs ws tail ns k n x xs h e = ap (λ us. row_with us tail (drop (k + 1) ns) xs) e ∙ sym (ap (λ ms. row_with vs tail ms (x ∷ xs)) (drop_at k ns n h))

pub row_past : (vs : Values) (tail : List Step) (ns : List ℕ) (k : ℕ) (x : Value) (xs : List Value) → None ≡ slice_get ns k →
    row_with vs tail (drop (k + 1) ns) xs ≡ row_with vs tail (drop k ns) (x ∷ xs)
row_past vs tail ns k x xs h = ap (λ ms. row_with vs tail ms xs) (none_behind ns k h) ∙ sym (ap (λ ms. row_with vs tail ms (x ∷ xs)) (none_left ns k h))
