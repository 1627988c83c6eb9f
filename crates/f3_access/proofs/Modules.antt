-- Modules by their names.
use Rattle.std.proofs.Common.{◌≡◌, ℕ, zero, suc, ◌+◌, ◌<◌, List, [], ◌∷◌, Bool, true, false, Option, None, Some, ◌&&◌, ◌==◌, if◌then◌else◌, length, slice_get, refl, sym, ap, subst, ◌∙◌, arith, ◌⊎◌, inl, inr}
use Rattle.std.proofs.lemmas.Bool.{eqb-true, eq-eqb, and_parts, and_from, true≢false}
use Rattle.std.proofs.lemmas.Option.{slice_get_within}
use Rattle.f3_scopes.specs.declared.outline.ScopeKind.{ScopeKind}
use Rattle.f3_scopes.specs.declared.outline.ScopeKind.TheVariants.{Module, Program, Subroutine, Function, Associate}
use Rattle.f3_scopes.specs.Outlines.{Scope}
use Rattle.f3_access.specs.Access.{IsModule, IsUnit, ModulesDiffer}
use Rattle.f3_scopes.specs.Kinds.{is_module}
use Rattle.f3_access.specs.Listing.{is_unit, module_named}
use Rattle.f3_selecting.specs.Sources.{module_from}

pub is_a_module : (k : ScopeKind) → is_module k ≡ true → k ≡ Module
is_a_module Module t = refl
is_a_module Program t = absurd (true≢false (sym t))
is_a_module Subroutine t = absurd (true≢false (sym t))
is_a_module Function t = absurd (true≢false (sym t))
is_a_module Associate t = absurd (true≢false (sym t))

pub module_is_one : (k : ScopeKind) → k ≡ Module → is_module k ≡ true
module_is_one k e = rw e refl

pub module_is_unit : (k : ScopeKind) → k ≡ Module → is_unit k ≡ true
module_is_unit k e = rw e refl

pub is_a_unit : (s : Scope) → is_unit s.kind ≡ true → IsUnit s
is_a_unit s t = by s.kind refl t
  where
    by : (k : ScopeKind) → s.kind ≡ k → is_unit k ≡ true → IsUnit s
    by Module e t = inl e
    by Program e t = inr e
    by Subroutine e t = absurd (true≢false (sym t))
    by Function e t = absurd (true≢false (sym t))
    by Associate e t = absurd (true≢false (sym t))

-- what is found was found before, or is a module of the name
module _ (symbol : ℕ) where
  abbrev Named : List Scope → ℕ → ℕ → Type 0
  Named us k m = (j : ℕ) × (u : Scope) × (slice_get us j ≡ Some u) × (u.kind ≡ Module) × (u.name.symbol ≡ symbol) × (k + j ≡ m)

  found_from : (us : List Scope) (found : Option ℕ) (k m : ℕ) → module_from found k us symbol ≡ Some m → (found ≡ Some m) ⊎ Named us k m
  found_from [] found k m e = inl e
  found_from (u ∷ us) found k m e = by (is_module u.kind && (u.name.symbol == symbol)) refl (found_from us (if is_module u.kind && (u.name.symbol == symbol) then Some k else found) (k + 1) m e)
    where
      later : Named us (k + 1) m → Named (u ∷ us) k m
      later (j, v, at_j, kind, name, same) = (suc j, v, at_j, kind, name, omega arith)

      by : (t : Bool) → (is_module u.kind && (u.name.symbol == symbol)) ≡ t → ((if t then Some k else found) ≡ Some m) ⊎ Named us (k + 1) m → (found ≡ Some m) ⊎ Named (u ∷ us) k m
      by true t (inl e) = let p = and_parts (is_module u.kind) (u.name.symbol == symbol) t in
          let same : k ≡ m = cc in inr (zero, u, refl, is_a_module u.kind p.0, eqb-true u.name.symbol symbol p.1, omega arith)
      by true t (inr r) = inr (later r)
      by false t (inl e) = inl e
      by false t (inr r) = inr (later r)

  -- what was found is not lost
  kept_from : (us : List Scope) (a k : ℕ) → (b : ℕ) × (module_from (Some a) k us symbol ≡ Some b)
  kept_from [] a k = (a, refl)
  kept_from (u ∷ us) a k = by (is_module u.kind && (u.name.symbol == symbol)) (kept_from us k (k + 1)) (kept_from us a (k + 1))
    where
      by : (t : Bool) → (b : ℕ) × (module_from (Some k) (k + 1) us symbol ≡ Some b) → (b : ℕ) × (module_from (Some a) (k + 1) us symbol ≡ Some b)
          → (b : ℕ) × (module_from (if t then Some k else Some a) (k + 1) us symbol ≡ Some b)
      by true p q = p
      by false p q = q

  -- where there is a module of the name, one is found
  found_in : (us : List Scope) (found : Option ℕ) (k j : ℕ) (v : Scope) → slice_get us j ≡ Some v → v.kind ≡ Module → v.name.symbol ≡ symbol → (b : ℕ) × (module_from found k us symbol ≡ Some b)
  found_in [] found k j v at_j kind name = absurd (let past : j < length {A = Scope} [] = slice_get_within [] j v at_j in omega arith)
  found_in (u ∷ us) found k zero v at_j kind name =
      let same : u ≡ v = cc in
      let here : (is_module u.kind && (u.name.symbol == symbol)) ≡ true = subst (λ w. (is_module w.kind && (w.name.symbol == symbol)) ≡ true) (sym same) (and_from (is_module v.kind) (v.name.symbol == symbol) (module_is_one v.kind kind) (eq-eqb v.name.symbol symbol name)) in
      rw here (kept_from us k (k + 1))
  found_in (u ∷ us) found k (suc j) v at_j kind name = found_in us (if is_module u.kind && (u.name.symbol == symbol) then Some k else found) (k + 1) j v at_j kind name

-- what is found is a module of the name
pub named_of : (scopes : List Scope) (symbol m : ℕ) → module_named scopes symbol ≡ Some m → IsModule scopes m symbol
named_of scopes symbol m e = elim (found_from symbol scopes None 0 m e) [
  | inl n ↦ absurd (let no : ⊥ = cc in no)
  | inr r ↦ (r.1, subst (λ k. slice_get scopes k ≡ Some r.1) (let e : r.0 ≡ m = omega (arith, r.5) in e) r.2, r.3, r.4)
]

-- and a module of the name is found
pub named_in : (scopes : List Scope) → ModulesDiffer scopes → (symbol m : ℕ) → IsModule scopes m symbol → module_named scopes symbol ≡ Some m
named_in scopes differ symbol m is =
    let r = found_in symbol scopes None 0 m is.0 is.1 is.2 is.3 in
    r.1 ∙ ap Some (differ r.0 m symbol (named_of scopes symbol r.0 r.1) is)
