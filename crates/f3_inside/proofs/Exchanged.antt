-- What entities are as objects, exchanged one after the other.
use Rattle.std.proofs.Common.{◌≡◌, ℕ, suc, ◌+◌, Bool, true, false, not, cond, if◌then◌else◌, List, [], ◌∷◌, ◌++◌, length, position, nat_eq, nat_lt}
use Rattle.std.proofs.Common.{Option, None, Some, option_map, refl, sym, ap, ◌∙◌, inl, inr, arith}
use Rattle.std.specs.List.{position_or_len}
use Rattle.std.proofs.Math.Path.{fun_ext}
use Rattle.std.proofs.lemmas.Bool.{ne_eqb}
use Rattle.std.proofs.lemmas.Bool.Decides.{eqb_tells, leb_tells}
use Rattle.f3_program.specs.declared.expression.Name.{Name}
use Rattle.f3_program.specs.declared.expression.Name.TheVariants.{Lent}
use Rattle.f3_kinds.specs.Things.{map_or}
use Rattle.f3_inside.specs.declared.names.Named.{Named}
use Rattle.f3_inside.specs.Exchanged.{put, put_all, lent_from}

-- ---- entities exchanged, from the last on

put_last : (ks : List Named) (k : Named) (f : ℕ → Option Name) → put_all (ks ++ (k ∷ [])) f ≡ put_all ks (put k f)
put_last [] k f = refl
put_last (x ∷ ks) k f = ap (put x) (put_last ks k f)

pub popped : (list rest : List Named) (k : Named) (now new start : ℕ → Option Name) → list ≡ rest ++ (k ∷ []) → ((e : ℕ) → new e ≡ put k now e)
    → ((e : ℕ) → put_all list now e ≡ start e) → (e : ℕ) → put_all rest new e ≡ start e
popped list rest k now new start l same h e =
    ap (λ (f : ℕ → Option Name). put_all rest f e) (fun_ext same) ∙ ap (λ (f : ℕ → Option Name). f e) (sym (put_last rest k now)) ∙ ap (λ ks. put_all ks now e) (sym l) ∙ h e

pub pushed : (before more : List Named) (k : Named) (now new start : ℕ → Option Name) → more ≡ before ++ (k ∷ []) → ((e : ℕ) → put k new e ≡ now e)
    → ((e : ℕ) → put_all before now e ≡ start e) → (e : ℕ) → put_all more new e ≡ start e
pushed before more k now new start m same h e =
    ap (λ ks. put_all ks new e) m ∙ ap (λ (f : ℕ → Option Name). f e) (put_last before k new) ∙ ap (λ (f : ℕ → Option Name). put_all before f e) (fun_ext same) ∙ h e

-- ---- the first of equal entities

eq_swap : (a b : ℕ) → nat_eq a b ≡ nat_eq b a
eq_swap a b = elim (eqb_tells a b) [
  | inl h ↦ elim (eqb_tells b a) [ inl k ↦ h.0 ∙ sym k.0 | inr k ↦ absurd (k.1 (sym h.1)) ]
  | inr h ↦ h.0 ∙ sym (ne_eqb b a (λ e. h.1 (sym e)))
]

lt_suc : (n l : ℕ) → nat_lt (suc n) (suc l) ≡ nat_lt n l
lt_suc n l = elim (leb_tells (suc (suc n)) (suc l)) [
  | inl h ↦ elim (leb_tells (suc n) l) [ inl k ↦ h.0 ∙ sym k.0 | inr k ↦ (let x = h.1 in let y = k.1 in absurd (omega (arith, x, y))) ]
  | inr h ↦ elim (leb_tells (suc n) l) [ inl k ↦ (let x = h.1 in let y = k.1 in absurd (omega (arith, x, y))) | inr k ↦ h.0 ∙ sym k.0 ]
]

position_cons : {X : Type 0} (p : X → Bool) (x : X) (xs : List X) → position p (x ∷ xs) ≡ cond (p x) (Some 0) (option_map suc (position p xs))
position_cons p x xs = step (p x) (position_or_len p xs) (length xs)
  where
    inner : (b : Bool) (n : ℕ) → cond b (Some (suc n)) None ≡ option_map suc (cond b (Some n) None)
    inner true n = refl
    inner false n = refl

    step : (b : Bool) (n l : ℕ) → cond (nat_lt (cond (not b) (1 + n) 0) (suc l)) (Some (cond (not b) (1 + n) 0)) None ≡ cond b (Some 0) (option_map suc (cond (nat_lt n l) (Some n) None))
    step true n l =
        let e : nat_lt 0 (suc l) ≡ true = elim (leb_tells 1 (suc l)) [ inl h ↦ h.0 | inr h ↦ (let x = h.1 in absurd (omega (arith, x))) ] in
        ap (λ b. cond b (Some 0) None) e
    step false n l =
        let e : 1 + n ≡ suc n = omega arith in
        ap (λ k. cond (nat_lt k (suc l)) (Some k) None) e ∙ ap (λ b. cond b (Some (suc n)) None) (lt_suc n l) ∙ inner (nat_lt n l) n

lent_split : (y : Option Name) (k : ℕ) (b : Bool) (o : Option ℕ) → (if b then Some (Lent k) else map_or y (λ (i : ℕ). Some (Lent (k + 1 + i))) o) ≡ map_or y (λ (i : ℕ). Some (Lent (k + i))) (cond b (Some 0) (option_map suc o))
lent_split y k true o = ap (λ j. Some (Lent j)) (let e : k ≡ k + 0 = omega arith in e)
lent_split y k false None = refl
lent_split y k false (Some i) = ap (λ j. Some (Lent j)) (let e : k + 1 + i ≡ k + suc i = omega arith in e)

pub lent_all : (es : List ℕ) (k : ℕ) (f : ℕ → Option Name) (e : ℕ) → put_all (lent_from k es) f e ≡ map_or (f e) (λ (i : ℕ). Some (Lent (k + i))) (position (nat_eq e) es)
lent_all [] k f e = refl
lent_all (x ∷ es) k f e =
    ap (λ o. if nat_eq x e then Some (Lent k) else o) (lent_all es (k + 1) f e)
    ∙ lent_split (f e) k (nat_eq x e) (position (nat_eq e) es)
    ∙ ap (λ b. map_or (f e) (λ (i : ℕ). Some (Lent (k + i))) (cond b (Some 0) (option_map suc (position (nat_eq e) es)))) (eq_swap x e)
    ∙ ap (map_or (f e) (λ (i : ℕ). Some (Lent (k + i)))) (sym (position_cons (nat_eq e) x es))

pub named : (o : Option Name) (k : ℕ) (q : Option ℕ) → map_or (Lent 0) (λ (x : Name). x) (map_or o (λ (i : ℕ). Some (Lent (k + i))) q) ≡ map_or (map_or (Lent 0) (λ (x : Name). x) o) (λ (i : ℕ). Lent (k + i)) q
named o k None = refl
named o k (Some i) = refl
