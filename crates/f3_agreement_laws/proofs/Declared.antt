-- The dummies and the results of procedures are declared in their specification parts.
use Rattle.std.proofs.Common.{◌≡◌, ℕ, zero, suc, ◌+◌, ◌<◌, Bool, true, false, cond, List, [], ◌∷◌, ◌++◌, length, nat_eq, Option, None, Some, Contains, option_to_list, refl, sym, ap, ◌∙◌, inl, inr, arith}
use Rattle.std.specs.Prelude.{slice_get}
use Rattle.std.specs.List.{flat_map}
use Rattle.std.specs.Map.{lookup}
use Rattle.std.proofs.lemmas.Bool.{true≢false}
use Rattle.std.proofs.lemmas.Option.{slice_get_within, slice_get-get_or, get_or_from_slice_get}
use mathlib.Core.Path.{subst}
use Rattle.f3_rules.specs.declared.breaks.Break.{Break}
use Rattle.f3_rules.specs.declared.rule.Rule.TheVariants.{N3, N10}
use Rattle.f3_scope_rules.specs.ScopeBreaks.{at, Again, header_names, DeclaredTwice, Declares, BreaksOf, ScopeBreaks}
use Rattle.f3_scopes.specs.Outlines.{Own, Scope}
use Rattle.f3_scopes.specs.Scopes.{own, declared_in, typed_result, name_or, outcome_of, scope_of_procedure, scopes_of, unit_scopes}
use Rattle.f3_tree.specs.declared.expression.Name.{Name}
use Rattle.f3_tree.specs.declared.program.ProcedureKind.{ProcedureKind}
use Rattle.f3_tree.specs.declared.program.ProcedureKind.TheVariants.{Subroutine, Function}
use Rattle.f3_tree.specs.Declarations.{EntityTree, DeclarationTree, SpecificationTree, declares, accesses, protects, saves, defines}
use Rattle.f3_tree.specs.Tree.{ProcedureTree, UnitTree, Tree}
use Rattle.f3_meaning_whole.specs.Permitted.{Each}
use Rattle.f3_type_rules.specs.Members.{Member, Numbered, units_from}
use Rattle.f3_type_rules.specs.Names.{Declared, entries_in, entries}
use Rattle.f3_lawful_laws.specs.Entities.{units_of}
use Rattle.f3_lawful_laws.proofs.Facts.{nothing, same}
use Rattle.f3_lawful_laws.proofs.Opening.{at_front, at_back, from_mapped, mapped_at}
use Rattle.f3_lawful_laws.proofs.Positions.{eq_self, eq_same}
use Rattle.f3_entity_laws.specs.Things.{of_member, IsAmong, IsHome}
use Rattle.f3_entity_laws.proofs.Entities.{homes}
use Rattle.f3_entity_laws.proofs.Lists.{split_at, flat_at, flat_block}
use Rattle.f3_entity_laws.proofs.Stands.{unit_facts}
use Rattle.f3_agreement_laws.specs.Unbroken.{DefinesNoTypes, HasOuterTypes}

-- ---- lists

pub each_get : {X : Type 0} (P : X → Type 0) (xs : List X) (i : ℕ) (x : X) → Each P xs → slice_get xs i ≡ Some x → P x
each_get P [] i x h e = nothing e
each_get P (y ∷ ys) zero x h e = subst P (same e) h.0
each_get P (y ∷ ys) (suc i) x h e = each_get P ys i x h.1 e

pub contains_at : {X : Type 0} (xs : List X) (i : ℕ) (x : X) → slice_get xs i ≡ Some x → Contains xs x
contains_at xs i x e = (i, slice_get_within xs i x e, get_or_from_slice_get xs i x x e)

pub contained_at : {X : Type 0} (xs : List X) (x : X) → Contains xs x → IsAmong xs x
contained_at xs x c = (c.0, slice_get-get_or xs c.0 x c.1 ∙ ap Some c.2)

-- a list about a place
parted : {X : Type 0} (xs : List X) (j : ℕ) (x : X) → slice_get xs j ≡ Some x → (front : List X) × (rest : List X) × (xs ≡ front ++ x ∷ rest) × (length front ≡ j)
parted [] j x e = nothing e
parted (y ∷ ys) zero x e = ([], ys, ap (λ z. z ∷ ys) (same e), refl)
parted (y ∷ ys) (suc j) x e = let r = parted ys j x e in (y ∷ r.0, r.1, ap (λ zs. y ∷ zs) r.2, ap suc r.3)

-- of two names with one symbol the later stands again
pub stands_again : (xs : List Name) (i j : ℕ) (a b : Name) → slice_get xs i ≡ Some a → slice_get xs j ≡ Some b → i < j → a.symbol ≡ b.symbol → Again xs b
stands_again xs i j a b first later lt alike =
    let r = parted xs j b later in
    let long : length r.0 ≡ j = r.3 in
    let before : slice_get r.0 i ≡ Some a = elim (split_at r.0 (b ∷ r.1) i a (ap (λ l. slice_get l i) (sym r.2) ∙ first)) [
      | inl e ↦ e
      | inr e ↦ (let place : i ≡ length r.0 + e.0 = e.2 in absurd (omega (arith, long, place, lt)))
    ] in
    (r.0, r.1, r.2, a, contains_at r.0 i a before, alike)

-- ---- the declared names of a part

-- what a name is looked up to is a declaration of it in the part
pub record IsEntry (ss : List SpecificationTree) (symbol : ℕ) (x : Declared) : Type 0 where
  pub part : IsAmong ss (declares x.0)
  pub entity : IsAmong (x.0).entities x.1
  pub name : (x.1).name.symbol ≡ symbol

entry_in : (s : SpecificationTree) (j : ℕ) (z : ℕ × Declared) → slice_get (entries_in s) j ≡ Some z
    → (s ≡ declares (z.1).0) × IsAmong ((z.1).0).entities (z.1).1 × (((z.1).1).name.symbol ≡ z.0)
entry_in (declares d) j z e =
    let found = from_mapped (λ (x : EntityTree). ((x.name).symbol, (d, x))) d.entities j z e in
    subst (λ (y : ℕ × Declared). (declares d ≡ declares (y.1).0) × IsAmong ((y.1).0).entities (y.1).1 × (((y.1).1).name.symbol ≡ y.0)) found.2
    (refl, (j, found.1), refl)
entry_in (accesses a) j z e = nothing e
entry_in (protects p ns) j z e = nothing e
entry_in (saves p) j z e = nothing e
entry_in (defines t) j z e = nothing e

looked_at : {Y : Type 0} (k : ℕ) (xs : List (ℕ × Y)) (y : Y) → lookup (nat_eq k) xs ≡ Some y → (z : ℕ × Y) × IsAmong xs z × (z.0 ≡ k) × (z.1 ≡ y)
looked_at k [] y e = nothing e
looked_at {Y} k (x ∷ xs) y e = by (nat_eq k x.0) refl e (λ e. looked_at k xs y e)
  where
    by : (b : Bool) → nat_eq k x.0 ≡ b → cond b (Some x.1) (lookup (nat_eq k) xs) ≡ Some y
        → (lookup (nat_eq k) xs ≡ Some y → (z : ℕ × Y) × IsAmong xs z × (z.0 ≡ k) × (z.1 ≡ y))
        → (z : ℕ × Y) × IsAmong (x ∷ xs) z × (z.0 ≡ k) × (z.1 ≡ y)
    by true is e more = (x, (0, refl), sym (eq_same k x.0 is), same e)
    by false is e more = let r = more e in (r.0, (suc (r.1).0, (r.1).1), r.2, r.3)

looked_none : {Y : Type 0} (k : ℕ) (xs : List (ℕ × Y)) (i : ℕ) (z : ℕ × Y) → lookup (nat_eq k) xs ≡ None → slice_get xs i ≡ Some z → nat_eq k z.0 ≡ false
looked_none k [] i z e at = nothing at
looked_none {Y} k (x ∷ xs) i z e at = by (nat_eq k x.0) refl e i at (λ i e at. looked_none k xs i z e at)
  where
    by : (b : Bool) → nat_eq k x.0 ≡ b → cond b (Some x.1) (lookup (nat_eq k) xs) ≡ None → (i : ℕ) → slice_get (x ∷ xs) i ≡ Some z
        → ((i : ℕ) → lookup (nat_eq k) xs ≡ None → slice_get xs i ≡ Some z → nat_eq k z.0 ≡ false) → nat_eq k z.0 ≡ false
    by true is e i at more = nothing (sym e)
    by false is e zero at more = ap (λ (w : ℕ × Y). nat_eq k w.0) (sym (same at)) ∙ is
    by false is e (suc i) at more = more i e at

pub entry_of : (ss : List SpecificationTree) (symbol : ℕ) (x : Declared) → lookup (nat_eq symbol) (entries ss) ≡ Some x → IsEntry ss symbol x
entry_of ss symbol x e =
    let r = looked_at symbol (entries ss) x e in
    let f = flat_at entries_in ss (r.1).0 r.0 (r.1).1 in
    let one = entry_in f.1 f.2 r.0 f.4 in
    subst (IsEntry ss symbol) r.3
    (record { part = (f.0, f.3 ∙ ap Some one.0); entity = one.1; name = one.2 ∙ r.2 })

-- where nothing is found no declaration has the name
entry_none : (ss : List SpecificationTree) (symbol : ℕ) → lookup (nat_eq symbol) (entries ss) ≡ None → (i : ℕ) (d : DeclarationTree) (j : ℕ) (x : EntityTree)
    → slice_get ss i ≡ Some (declares d) → slice_get d.entities j ≡ Some x → (x.name).symbol ≡ symbol → ⊥
entry_none ss symbol none i d j x part entity is =
    let make : EntityTree → ℕ × Declared = λ x. ((x.name).symbol, (d, x)) in
    let there = flat_block entries_in ss i (declares d) j (make x) part (mapped_at make d.entities j x entity) in
    let unlike : nat_eq symbol (x.name).symbol ≡ false = looked_none symbol (entries ss) _ (make x) none there in
    absurd (true≢false (sym (ap (nat_eq symbol) is ∙ eq_self symbol) ∙ unlike))

-- ---- procedures

unit_tree : (scopes : List Scope) (n : ℕ) (us : List UnitTree) (i : ℕ) (u : Numbered) → slice_get (units_from scopes n us) i ≡ Some u → slice_get us i ≡ Some u.tree
unit_tree scopes n [] i u e = nothing e
unit_tree scopes n (x ∷ us) zero u e = ap (λ (z : Numbered). Some z.tree) (same e)
unit_tree scopes n (x ∷ us) (suc i) u e = unit_tree scopes (n + length (unit_scopes n x)) us i u e

pub no_types : (t : Tree) → HasOuterTypes t → (u : Numbered) (m : Member) → IsHome (units_of t) (of_member u m) → DefinesNoTypes ((m.tree).part).specifications
no_types t outer u m home =
    let units = each_get (λ (u : UnitTree). Each (λ (q : ProcedureTree). DefinesNoTypes (q.part).specifications) u.procedures) t.units (home.0).0 u.tree outer
    (unit_tree (scopes_of t) 0 t.units (home.0).0 u (home.0).1) in
    each_get (λ (q : ProcedureTree). DefinesNoTypes (q.part).specifications) (u.tree).procedures (home.1).0 m.tree units
    ((unit_facts t u home.0).members (home.1).0 m (home.1).1).3

typed_named : (k : ProcedureKind) (n : Name) (j : ℕ) (d : Own) → slice_get (typed_result k n) j ≡ Some d → d.name ≡ name_or (outcome_of k) n
typed_named Subroutine n j d e = nothing e
typed_named (Function None outcome) n j d e = nothing e
typed_named (Function (Some s) outcome) n zero d e = ap (λ (z : Own). z.name) (sym (same e))
typed_named (Function (Some s) outcome) n (suc j) d e = nothing e

module _ (t : Tree) (outer : HasOuterTypes t) (none : (b : Break) → ScopeBreaks (scopes_of t) b → ⊥) (u : Numbered) (m : Member)
    (home : IsHome (units_of t) (of_member u m)) where
  abbrev here : Scope
  here = scope_of_procedure u.scope m.tree

  abbrev kind : ProcedureKind
  kind = ((m.tree).header).kind

  abbrev specifications : List SpecificationTree
  specifications = ((m.tree).part).specifications

  unbroken : (b : Break) → BreaksOf here b → ⊥
  unbroken b broken = none b (here, contains_at (scopes_of t) m.scope here (homes t (of_member u m) home), broken)

  in_part : (symbol : ℕ) → lookup (nat_eq symbol) (entries specifications) ≡ None → (s : SpecificationTree) (i j : ℕ) (d : Own)
      → slice_get specifications i ≡ Some s → slice_get (declared_in s) j ≡ Some d → d.name.symbol ≡ symbol → ⊥
  in_part symbol missing (declares x) i j d part e is =
      let found = from_mapped (own x.attributes) x.entities j d e in
      entry_none specifications symbol missing i x j found.0 part found.1 (ap (λ (z : Own). z.name.symbol) found.2 ∙ is)
  in_part symbol missing (accesses a) i j d part e is = nothing e
  in_part symbol missing (protects p ns) i j d part e is = nothing e
  in_part symbol missing (saves p) i j d part e is = nothing e
  in_part symbol missing (defines x) i j d part e is = no_types t outer u m home i x part

  -- what is found in no declaration is declared by nothing but a typed result
  undeclared : (symbol : ℕ) → lookup (nat_eq symbol) (entries specifications) ≡ None
      → ((d : Own) (j : ℕ) → slice_get (typed_result kind ((m.tree).header).name) j ≡ Some d → d.name.symbol ≡ symbol → ⊥) → Declares here symbol → ⊥
  undeclared symbol missing typed declared =
      let a = contained_at here.declared declared.0 declared.1 in
      elim (split_at (typed_result kind ((m.tree).header).name) (flat_map declared_in specifications) a.0 declared.0 a.1) [
        | inl e ↦ typed declared.0 a.0 e declared.2
        | inr e ↦
            let f = flat_at declared_in specifications e.0 declared.0 e.1 in
            in_part symbol missing f.1 f.0 f.2 declared.0 f.3 f.4 declared.2
      ]

  given : (o : Option Declared) → ((o ≡ None) → ⊥) → (x : Declared) × (o ≡ Some x)
  given None f = absurd (f refl)
  given (Some x) f = (x, refl)

  -- a dummy has another name than the result
  dummy_alone : (i : ℕ) (n : Name) → slice_get ((m.tree).header).dummies i ≡ Some n → (outcome : Option Name) → here.outcome ≡ outcome
      → (name_or outcome here.name).symbol ≡ n.symbol → ⊥
  dummy_alone i n e None is alike =
      unbroken (at N3 n) (BreaksOf.declared_twice (DeclaredTwice.in_header n
      (stands_again (header_names here) 0 (suc i) here.name n refl (at_front here.dummies (option_to_list here.outcome) i n e) (let a : 0 < suc i = omega arith in a) alike) refl))
  dummy_alone i n e (Some r) is alike =
      let within = slice_get_within here.dummies i n e in
      unbroken (at N3 r) (BreaksOf.declared_twice (DeclaredTwice.in_header r
      (stands_again (header_names here) (suc i) (suc (length here.dummies + 0)) n r (at_front here.dummies (option_to_list here.outcome) i n e)
      (at_back here.dummies (option_to_list here.outcome) 0 r (ap (λ o. slice_get (option_to_list o) 0) is))
      (let a : suc i < suc (length here.dummies + 0) = omega (arith, within) in a) (sym alike)) refl))

  pub dummy_entry : (i : ℕ) (n : Name) → slice_get ((m.tree).header).dummies i ≡ Some n
      → (x : Declared) × (lookup (nat_eq n.symbol) (entries specifications) ≡ Some x)
  dummy_entry i n e = given (lookup (nat_eq n.symbol) (entries specifications)) (λ missing.
      unbroken (at N10 n) (BreaksOf.undeclared (
        n,
        inl (contains_at here.dummies i n e),
        undeclared n.symbol missing (λ d j typed is.
            dummy_alone i n e here.outcome refl (ap (λ (z : Name). z.symbol) (sym (typed_named kind ((m.tree).header).name j d typed)) ∙ is)),
        refl,
      )))

  pub result_entry : (n : Name) → here.result ≡ Some n → typed_result kind ((m.tree).header).name ≡ []
      → (x : Declared) × (lookup (nat_eq n.symbol) (entries specifications) ≡ Some x)
  result_entry n is untyped = given (lookup (nat_eq n.symbol) (entries specifications)) (λ missing.
      unbroken (at N10 n) (BreaksOf.undeclared (
        n,
        inr is,
        undeclared n.symbol missing (λ d j typed alike. nothing (ap (λ l. slice_get l j) (sym untyped) ∙ typed)),
        refl,
      )))
