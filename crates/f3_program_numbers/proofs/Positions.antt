-- Places in lists that grow.
use Rattle.std.proofs.Common.{◌≡◌, ℕ, suc, ◌+◌, ◌<◌, ◌||◌, Bool, true, false, not, cond, if◌then◌else◌, List, [], ◌∷◌, ◌++◌, length, take, get_or, position, nat_eq, nat_lt}
use Rattle.std.proofs.Common.{Option, None, Some, is_none, option_map, refl, sym, ap, subst, ◌∙◌, inl, inr, arith}
use Rattle.std.specs.List.{list_any, position_or_len}
use Rattle.std.specs.Option.{option_or}
use Rattle.std.proofs.lemmas.List.{take_more, length-take-le}
use Rattle.std.proofs.lemmas.Bool.{ne_eqb}
use Rattle.std.proofs.lemmas.Bool.Decides.{eqb_tells, leb_tells}
use Rattle.std.proofs.lemmas.List.Folds.{list_any-append, list_any_more}
use Rattle.f3_numbers.specs.Table.{with_one}
use Rattle.f3_program_numbers.specs.Filled.{with_list, without}

pub eq_swap : (a b : ℕ) → nat_eq a b ≡ nat_eq b a
eq_swap a b = elim (eqb_tells a b) [
  | inl h ↦ elim (eqb_tells b a) [ inl k ↦ h.0 ∙ sym k.0 | inr k ↦ absurd (k.1 (sym h.1)) ]
  | inr h ↦ h.0 ∙ sym (ne_eqb b a (λ e. h.1 (sym e)))
]

eq_same : (a b : ℕ) → nat_eq a b ≡ true → a ≡ b
eq_same a b h = elim (eqb_tells a b) [ inl k ↦ k.1 | inr k ↦ (let e : true ≡ false = sym h ∙ k.0 in absurd (cc)) ]

lt_suc : (n l : ℕ) → nat_lt (suc n) (suc l) ≡ nat_lt n l
lt_suc n l = elim (leb_tells (suc (suc n)) (suc l)) [
  | inl h ↦ elim (leb_tells (suc n) l) [ inl k ↦ h.0 ∙ sym k.0 | inr k ↦ (let x = h.1 in let y = k.1 in absurd (omega (arith, x, y))) ]
  | inr h ↦ elim (leb_tells (suc n) l) [ inl k ↦ (let x = h.1 in let y = k.1 in absurd (omega (arith, x, y))) | inr k ↦ h.0 ∙ sym k.0 ]
]

position_cons : {X : Type 0} (p : X → Bool) (x : X) (xs : List X) → position p (x ∷ xs) ≡ cond (p x) (Some 0) (option_map suc (position p xs))
position_cons p x xs = step (p x) (position_or_len p xs) (length xs)
  where
    inner : (b : Bool) (n : ℕ) → cond b (Some (suc n)) None ≡ option_map suc (cond b (Some n) None)
    inner true n = refl
    inner false n = refl

    step : (b : Bool) (n l : ℕ) → cond (nat_lt (cond (not b) (1 + n) 0) (suc l)) (Some (cond (not b) (1 + n) 0)) None ≡ cond b (Some 0) (option_map suc (cond (nat_lt n l) (Some n) None))
    step true n l =
        let e : nat_lt 0 (suc l) ≡ true = elim (leb_tells 1 (suc l)) [ inl h ↦ h.0 | inr h ↦ (let x = h.1 in absurd (omega (arith, x))) ] in
        ap (λ b. cond b (Some 0) None) e
    step false n l =
        let e : 1 + n ≡ suc n = omega arith in
        ap (λ k. cond (nat_lt k (suc l)) (Some k) None) e ∙ ap (λ b. cond b (Some (suc n)) None) (lt_suc n l) ∙ inner (nat_lt n l) n

position_append : {X : Type 0} (p : X → Bool) (xs ys : List X) → position p (xs ++ ys) ≡ option_or (position p xs) (option_map (λ n. length xs + n) (position p ys))
position_append p [] ys = same (position p ys)
  where
    same : (q : Option ℕ) → q ≡ option_map (λ n. 0 + n) q
    same None = refl
    same (Some n) = ap (λ k. Some k) (let e : n ≡ 0 + n = omega arith in e)
position_append p (x ∷ xs) ys =
    position_cons p x (xs ++ ys) ∙ ap (λ o. cond (p x) (Some 0) (option_map suc o)) (position_append p xs ys)
    ∙ split (p x) (position p xs) (position p ys) (length xs) ∙ sym (ap (λ o. option_or o (option_map (λ n. suc (length xs) + n) (position p ys))) (position_cons p x xs))
  where
    split : (b : Bool) (o q : Option ℕ) (l : ℕ)
        → cond b (Some 0) (option_map suc (option_or o (option_map (λ n. l + n) q))) ≡ option_or (cond b (Some 0) (option_map suc o)) (option_map (λ n. suc l + n) q)
    split true o q l = refl
    split false None None l = refl
    split false None (Some n) l = ap (λ k. Some k) (let e : suc (l + n) ≡ suc l + n = omega arith in e)
    split false (Some m) q l = refl

joined : {X : Type 0} (f : ℕ → X) (b : Option X) (q : Option ℕ) (c d : Bool) (l i : ℕ) → c ≡ d → l ≡ i
    → option_or (option_or b (option_map f q)) (if c then Some (f i) else None) ≡ option_or b (option_map f (option_or q (option_map (λ n. l + n) (cond d (Some 0) None))))
joined f (Some x) q c d l i e h = refl
joined f None (Some n) c d l i e h = refl
joined f None None true true l i e h = ap (λ n. Some (f n)) (let k : i ≡ l + 0 = omega (arith, h) in k)
joined f None None false false l i e h = refl
joined f None None true false l i e h = absurd (cc)
joined f None None false true l i e h = absurd (cc)

-- one entity more of a list has its place
pub with_more : {X : Type 0} (before : ℕ → Option X) (f : ℕ → X) (xs : List ℕ) (i : ℕ) (now new : ℕ → Option X) → i < length xs
    → ((e : ℕ) → now e ≡ with_list before f (take i xs) e) → ((e : ℕ) → new e ≡ with_one now (get_or xs i 0) (f i) e) → (e : ℕ) → new e ≡ with_list before f (take (i + 1) xs) e
with_more before f xs i now new lt h g e =
    let x : ℕ = get_or xs i 0 in
    g e ∙ ap (λ o. option_or o (if nat_eq x e then Some (f i) else None)) (h e)
    ∙ joined f (before e) (position (nat_eq e) (take i xs)) (nat_eq x e) (nat_eq e x) (length (take i xs)) i (eq_swap x e) (length-take-le i xs (omega (arith, lt)))
    ∙ ap (λ o. option_or (before e) (option_map f o))
    (ap (λ o. option_or (position (nat_eq e) (take i xs)) (option_map (λ n. length (take i xs) + n) o)) (sym (position_cons (nat_eq e) x []))
    ∙ sym (position_append (nat_eq e) (take i xs) (x ∷ []))
    ∙ ap (position (nat_eq e)) (sym (take_more xs i 0 lt)))

-- of no list nothing
or_none : {X : Type 0} (o : Option X) → option_or o None ≡ o
or_none None = refl
or_none (Some x) = refl

pub with_none : {X : Type 0} (before : ℕ → Option X) (f : ℕ → X) (e : ℕ) → before e ≡ with_list before f [] e
with_none before f e = sym (or_none (before e))

-- ---- what was added, and then removed

-- an entity that was none is noted
pub noted_more : {X : Type 0} (old now : ℕ → Option X) (added : List ℕ) (x : ℕ) (y : X) → is_none (old x) ≡ true → ((e : ℕ) → now e ≡ with_one old x y e)
    → (e : ℕ) → without (added ++ (x ∷ [])) now e ≡ without added old e
noted_more old now added x y none h e =
    ap (λ b. if b then None else now e) (list_any-append (nat_eq e) added (x ∷ []))
    ∙ split (list_any (nat_eq e) added) (nat_eq e x) (now e) (old e)
    (λ same. is_no (old e) (subst (λ k. is_none (old k) ≡ true) (sym (eq_same e x same)) none))
    (λ other. h e ∙ ap (λ b. option_or (old e) (if b then Some y else None)) (eq_swap x e ∙ other) ∙ or_none (old e))
  where
    is_no : {X : Type 0} (o : Option X) → is_none o ≡ true → o ≡ None
    is_no None h = refl
    is_no (Some x) h = absurd (cc)

    split : {X : Type 0} (a b : Bool) (m o : Option X) → (b ≡ true → o ≡ None) → (b ≡ false → m ≡ o) → (if (a || (b || false)) then None else m) ≡ (if a then None else o)
    split true b m o f g = refl
    split false true m o f g = sym (f refl)
    split false false m o f g = g refl

-- and one that was one is not
pub noted_same : {X : Type 0} (old now : ℕ → Option X) (added : List ℕ) (x : ℕ) (y : X) → is_none (old x) ≡ false → ((e : ℕ) → now e ≡ with_one old x y e)
    → (e : ℕ) → without added now e ≡ without added old e
noted_same old now added x y some h e =
    ap (λ o. if list_any (nat_eq e) added then None else o) (h e ∙ here (old e) y (nat_eq x e) (λ same. subst (λ k. is_none (old k) ≡ false) (eq_same x e same) some))
  where
    there : {Z : Type 0} (o p : Option Z) → is_none o ≡ false → option_or o p ≡ o
    there None p h = absurd (cc)
    there (Some z) p h = refl

    here : {Z : Type 0} (o : Option Z) (z : Z) (b : Bool) → (b ≡ true → is_none o ≡ false) → option_or o (if b then Some z else None) ≡ o
    here o z true f = there o (Some z) (f refl)
    here o z false f = or_none o

-- one entity more is removed
pub without_more : {X : Type 0} (old now new : ℕ → Option X) (xs : List ℕ) (i : ℕ) → i < length xs → ((e : ℕ) → now e ≡ without (take i xs) old e)
    → ((e : ℕ) → new e ≡ (if nat_eq (get_or xs i 0) e then None else now e)) → (e : ℕ) → new e ≡ without (take (i + 1) xs) old e
without_more old now new xs i lt h g e =
    let x : ℕ = get_or xs i 0 in
    g e ∙ ap (λ o. if nat_eq x e then None else o) (h e) ∙ ap (λ b. if b then None else without (take i xs) old e) (eq_swap x e)
    ∙ split (list_any (nat_eq e) (take i xs)) (nat_eq e x) (old e) ∙ ap (λ b. if b then None else old e) (sym (list_any_more (nat_eq e) xs i 0 lt))
  where
    split : {Z : Type 0} (a b : Bool) (o : Option Z) → (if b then None else (if a then None else o)) ≡ (if (a || b) then None else o)
    split true true o = refl
    split true false o = refl
    split false true o = refl
    split false false o = refl
