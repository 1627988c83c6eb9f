-- Sets of names, and answers by yes and no.
use Rattle.std.proofs.Common.{◌≡◌, ◌≢◌, List, [], ◌∷◌, length, map, nat_eq, nat_lt, Option, None, Some, refl, sym, ap, subst, ◌∙◌, Bool, true, false, not, ◌||◌, ◌==◌, if◌then◌else◌, ◌⊎◌, inl, inr, Contains, arith, option_to_list}
use Rattle.std.proofs.lemmas.Bool.{eqb-true, eq-eqb, ltb-true, lt-ltb, true≢false}
use Rattle.f3_tree.specs.declared.expression.Name.{Name}
use Rattle.f3_tree.specs.declared.declaration.Intent.{Intent}
use Rattle.f3_tree.specs.declared.declaration.Intent.TheVariants.{In, Out, InOut}
use Rattle.f3_scopes.specs.declared.outline.ScopeKind.{ScopeKind}
use Rattle.f3_scopes.specs.declared.outline.ScopeKind.TheVariants.{Module, Program, Subroutine, Function, Associate}
use Rattle.f3_scopes.specs.declared.outline.EntityKind.{EntityKind}
use Rattle.f3_scopes.specs.declared.outline.EntityKind.TheVariants as entity
use Rattle.f3_scopes.specs.Kinds.{is_module}
use Rattle.f3_scope_rules.specs.Inner.Rows.{symbols, is_known, is_function, is_variable, is_other, has_other_result}
use Rattle.f3_scope_rules.proofs.Members.{Has, has_of, contains_of, any_of, any_from, put, put_of, has_mapped, mapped_of}

-- ---- sets

pub known_of : (names : List Name) (n : Name) → is_known (symbols names) n ≡ true → (m : Name) × Contains names m × (m.symbol ≡ n.symbol)
known_of names n t =
    let r = any_of (nat_eq n.symbol) (symbols names) t in
    elim (put_of nat_eq eqb-true [] (map (λ (m : Name). m.symbol) names) r.0 r.1) [
      | inl none ↦ absurd none
      | inr h ↦ let m = mapped_of (λ (m : Name). m.symbol) names r.0 h in (m.0, contains_of names m.0 m.1, sym (eqb-true n.symbol r.0 r.2 ∙ m.2))
    ]

pub known_in : (names : List Name) (n : Name) → (m : Name) × Contains names m × (m.symbol ≡ n.symbol) → is_known (symbols names) n ≡ true
known_in names n (m, h, e) =
    any_from (nat_eq n.symbol) (symbols names) n.symbol
    (put nat_eq eqb-true [] (map (λ (m : Name). m.symbol) names) n.symbol
    (inr (subst (Has (map (λ (m : Name). m.symbol) names)) e (has_mapped (λ (m : Name). m.symbol) names m (has_of names m h)))))
    (eq-eqb n.symbol n.symbol refl)

-- ---- yes and no

pub either_of : (s t : Bool) → (s || t) ≡ true → (s ≡ true) ⊎ (t ≡ true)
either_of true t e = inl refl
either_of false t e = inr e

pub either_left : (s t : Bool) → s ≡ true → (s || t) ≡ true
either_left true t e = refl
either_left false t e = absurd (true≢false (sym e))

pub either_right : (s t : Bool) → t ≡ true → (s || t) ≡ true
either_right true t e = refl
either_right false t e = e

pub no_of : (t : Bool) → not t ≡ true → t ≡ true → ⊥
no_of true e f = true≢false (sym e)
no_of false e f = true≢false (sym f)

pub no_in : (t : Bool) → (t ≡ true → ⊥) → not t ≡ true
no_in true n = absurd (n refl)
no_in false n = refl

-- an element, where the answer is yes
pub one_of : {X : Type 0} (t : Bool) (b c : X) → Has (if t then c ∷ [] else []) b → (t ≡ true) × (b ≡ c)
one_of true b c (inl e) = (refl, e)
one_of true b c (inr n) = absurd n
one_of false b c n = absurd n

pub one_in : {X : Type 0} (t : Bool) (b c : X) → t ≡ true → b ≡ c → Has (if t then c ∷ [] else []) b
one_in t b c e same = rw e (inl same)

pub some_of : {X : Type 0} (o : Option X) (x : X) → Has (option_to_list o) x → o ≡ Some x
some_of None x h = absurd h
some_of (Some y) x (inl e) = ap Some (sym e)
some_of (Some y) x (inr n) = absurd n

pub some_in : {X : Type 0} (o : Option X) (x : X) → o ≡ Some x → Has (option_to_list o) x
some_in o x e = subst (λ p. Has (option_to_list p) x) (sym e) (inl refl)

-- ---- lengths

pub empty_of : {X : Type 0} (xs : List X) → (length xs == 0) ≡ true → xs ≡ []
empty_of [] t = refl
empty_of (x ∷ xs) t = absurd (omega (eqb-true (length (x ∷ xs)) 0 t, arith))

pub empty_in : {X : Type 0} (xs : List X) → xs ≡ [] → (length xs == 0) ≡ true
empty_in {X} xs e = ap (λ (l : List X). length l == 0) e

pub filled_of : {X : Type 0} (xs : List X) → nat_lt 0 (length xs) ≡ true → xs ≢ []
filled_of {X} xs t = λ e. true≢false (sym t ∙ ap (λ (l : List X). nat_lt 0 (length l)) e)

pub filled_in : {X : Type 0} (xs : List X) → xs ≢ [] → nat_lt 0 (length xs) ≡ true
filled_in [] n = absurd (n refl)
filled_in (x ∷ xs) n = lt-ltb 0 (length (x ∷ xs)) (omega arith)

pub two_of : {X : Type 0} (xs : List X) → nat_lt 1 (length xs) ≡ true → (x : X) × (y : X) × (others : List X) × (xs ≡ x ∷ y ∷ others)
two_of [] t = absurd (omega (ltb-true 1 0 t, arith))
two_of (x ∷ []) t = absurd (omega (ltb-true 1 1 t, arith))
two_of (x ∷ y ∷ others) t = (x, y, others, refl)

pub two_in : {X : Type 0} (xs : List X) → (x : X) × (y : X) × (others : List X) × (xs ≡ x ∷ y ∷ others) → nat_lt 1 (length xs) ≡ true
two_in {X} xs (x, y, others, e) = ap (λ (l : List X). nat_lt 1 (length l)) e ∙ lt-ltb 1 (length (x ∷ y ∷ others)) (omega arith)

-- ---- kinds

pub outside_of : (k : ScopeKind) → not (is_module k) ≡ true → k ≢ Module
outside_of k t = λ e. true≢false (sym t ∙ ap (λ (j : ScopeKind). not (is_module j)) e)

pub outside_in : (k : ScopeKind) → k ≢ Module → not (is_module k) ≡ true
outside_in Module n = absurd (n refl)
outside_in Program n = refl
outside_in Subroutine n = refl
outside_in Function n = refl
outside_in Associate n = refl

pub function_of : (k : ScopeKind) → is_function k ≡ true → k ≡ Function
function_of Module t = absurd (true≢false (sym t))
function_of Program t = absurd (true≢false (sym t))
function_of Subroutine t = absurd (true≢false (sym t))
function_of Function t = refl
function_of Associate t = absurd (true≢false (sym t))

pub variable_of : (k : EntityKind) → is_variable k ≡ true → k ≡ entity.Variable
variable_of entity.Constant t = absurd (true≢false (sym t))
variable_of entity.Variable t = refl
variable_of entity.DerivedType t = absurd (true≢false (sym t))
variable_of entity.Subroutine t = absurd (true≢false (sym t))
variable_of entity.Function t = absurd (true≢false (sym t))

pub other_of : (i : Intent) → is_other i ≡ true → i ≢ In
other_of i t = λ e. true≢false (sym t ∙ ap is_other e)

pub other_in : (i : Intent) → i ≢ In → is_other i ≡ true
other_in In n = absurd (n refl)
other_in Out n = refl
other_in InOut n = refl

pub result_of : (k : ScopeKind) (o : Option Name) → has_other_result k o ≡ true → (k ≡ Subroutine) ⊎ ((k ≡ Function) × (r : Name) × (o ≡ Some r))
result_of Module o t = absurd (true≢false (sym t))
result_of Program o t = absurd (true≢false (sym t))
result_of Subroutine o t = inl refl
result_of Function None t = absurd (true≢false (sym t))
result_of Function (Some r) t = inr (refl, r, refl)
result_of Associate o t = absurd (true≢false (sym t))

pub result_in : (k : ScopeKind) (o : Option Name) → (k ≡ Subroutine) ⊎ ((k ≡ Function) × (r : Name) × (o ≡ Some r)) → has_other_result k o ≡ true
result_in k o (inl e) = ap (λ (j : ScopeKind). has_other_result j o) e
result_in k o (inr (e, r, f)) = ap (λ (j : ScopeKind). has_other_result j o) e ∙ ap (has_other_result Function) f
