-- The scopes of a unit: constructs, procedures and the unit itself.
use Rattle.std.proofs.Common.{◌≡◌, ◌≢◌, refl, ℕ, zero, suc, ◌+◌, ◌⊎◌, inl, inr, List, [], ◌∷◌, ◌++◌, map, length, Some, ap, ◌∙◌, sym, subst, arith, slice_get}
use Rattle.std.specs.List.{flat_map}
use Rattle.std.proofs.lemmas.List.{length-append}
use Rattle.f3_nodes.proofs.Members.{Has, has_parts, has_left, has_right, has_mapped, mapped_of, has_piece, at_has}
use Rattle.f3_tree.specs.declared.expression.Name.{Name}
use Rattle.f3_tree.specs.declared.program.ProcedureKind.{ProcedureKind}
use Rattle.f3_tree.specs.declared.program.ProcedureKind.TheVariants as procedure
use Rattle.f3_tree.specs.Declarations.{UseTree}
use Rattle.f3_tree.specs.Statements.{StatementTree, acts, acts_if, branches, selects, repeats, associates}
use Rattle.f3_tree.specs.Statements.{Block, no_statements, statements, Branches, no_branches, branch}
use Rattle.f3_tree.specs.Statements.{Alternative, no_alternative, alternative, Cases, no_cases, case_block}
use Rattle.f3_tree.specs.Tree.{ProcedureTree, UnitTree}
use Rattle.f3_scopes.specs.declared.outline.ScopeKind.TheVariants as scope
use Rattle.f3_scopes.specs.Outlines.{Scope, Using}
use Rattle.f3_scopes.specs.Scopes.{using, construct_name, constructs_in, constructs_in_block, constructs_in_branches, constructs_in_alternative, constructs_in_cases}
use Rattle.f3_scopes.specs.Scopes.{procedure_kind, scope_of_unit, scope_of_procedure, procedure_scopes, procedures_from, own_scopes, unit_scopes}
use Rattle.f3_graph.specs.Units.{used_in, used_in_procedure, node_of, uses_of}
use Rattle.f3_type_rules.specs.Associates.{constructs_of, constructs_of_block, constructs_of_branches, constructs_of_other, constructs_of_cases}

-- ---- as many scopes as constructs

two_long : {X Y : Type 0} (ms ns : List X) (xs ys : List Y) → length ms ≡ length xs → length ns ≡ length ys → length (ms ++ ns) ≡ length (xs ++ ys)
two_long ms ns xs ys p q = omega (arith, p, q, length-append ms ns, length-append xs ys)

mutual
  statement_long : (host : ℕ) (around : Name) (n : ℕ) (s : StatementTree) → length (constructs_in host around n s) ≡ length (constructs_of s)
  statement_long host around n (acts p a) = refl
  statement_long host around n (acts_if p e q a) = refl
  statement_long host around n (branches bs other) =
      two_long (constructs_in_branches host around n bs) (constructs_in_alternative host around (n + length (constructs_in_branches host around n bs)) other)
      (constructs_of_branches bs) (constructs_of_other other)
      (branches_long host around n bs) (other_long host around (n + length (constructs_in_branches host around n bs)) other)
  statement_long host around n (selects p e cs) = cases_long host around n cs
  statement_long host around n (repeats p control body) = block_long host around n body
  statement_long host around n (associates p xs body) = ap suc (block_long n (construct_name around xs) (n + 1) body)

  pub block_long : (host : ℕ) (around : Name) (n : ℕ) (b : Block) → length (constructs_in_block host around n b) ≡ length (constructs_of_block b)
  block_long host around n no_statements = refl
  block_long host around n (statements s others) =
      two_long (constructs_in host around n s) (constructs_in_block host around (n + length (constructs_in host around n s)) others)
      (constructs_of s) (constructs_of_block others)
      (statement_long host around n s) (block_long host around (n + length (constructs_in host around n s)) others)

  branches_long : (host : ℕ) (around : Name) (n : ℕ) (bs : Branches) → length (constructs_in_branches host around n bs) ≡ length (constructs_of_branches bs)
  branches_long host around n no_branches = refl
  branches_long host around n (branch p e body others) =
      two_long (constructs_in_block host around n body) (constructs_in_branches host around (n + length (constructs_in_block host around n body)) others)
      (constructs_of_block body) (constructs_of_branches others)
      (block_long host around n body) (branches_long host around (n + length (constructs_in_block host around n body)) others)

  other_long : (host : ℕ) (around : Name) (n : ℕ) (o : Alternative) → length (constructs_in_alternative host around n o) ≡ length (constructs_of_other o)
  other_long host around n no_alternative = refl
  other_long host around n (alternative body) = block_long host around n body

  cases_long : (host : ℕ) (around : Name) (n : ℕ) (cs : Cases) → length (constructs_in_cases host around n cs) ≡ length (constructs_of_cases cs)
  cases_long host around n no_cases = refl
  cases_long host around n (case_block p selection body others) =
      two_long (constructs_in_block host around n body) (constructs_in_cases host around (n + length (constructs_in_block host around n body)) others)
      (constructs_of_block body) (constructs_of_cases others)
      (block_long host around n body) (cases_long host around (n + length (constructs_in_block host around n body)) others)

-- ---- a construct uses nothing, and is no module

abbrev IsPlain : Scope → Type 0
IsPlain s = (s.uses ≡ []) × (s.kind ≡ scope.Associate)

abbrev ArePlain : List Scope → Type 0
ArePlain [] = Unit {0}
ArePlain (s ∷ ss) = IsPlain s × ArePlain ss

both_plain : (xs ys : List Scope) → ArePlain xs → ArePlain ys → ArePlain (xs ++ ys)
both_plain [] ys a b = b
both_plain (x ∷ xs) ys a b = (a.0, both_plain xs ys a.1 b)

plain_in : (xs : List Scope) (x : Scope) → ArePlain xs → Has xs x → IsPlain x
plain_in [] x a h = absurd h
plain_in (y ∷ ys) x a (inl e) = subst IsPlain (sym e) a.0
plain_in (y ∷ ys) x a (inr h) = plain_in ys x a.1 h

mutual
  statement_plain : (host : ℕ) (around : Name) (n : ℕ) (s : StatementTree) → ArePlain (constructs_in host around n s)
  statement_plain host around n (acts p a) = tt
  statement_plain host around n (acts_if p e q a) = tt
  statement_plain host around n (branches bs other) =
      both_plain (constructs_in_branches host around n bs) (constructs_in_alternative host around (n + length (constructs_in_branches host around n bs)) other)
      (branches_plain host around n bs) (other_plain host around (n + length (constructs_in_branches host around n bs)) other)
  statement_plain host around n (selects p e cs) = cases_plain host around n cs
  statement_plain host around n (repeats p control body) = block_plain host around n body
  statement_plain host around n (associates p xs body) = ((refl, refl), block_plain n (construct_name around xs) (n + 1) body)

  block_plain : (host : ℕ) (around : Name) (n : ℕ) (b : Block) → ArePlain (constructs_in_block host around n b)
  block_plain host around n no_statements = tt
  block_plain host around n (statements s others) =
      both_plain (constructs_in host around n s) (constructs_in_block host around (n + length (constructs_in host around n s)) others)
      (statement_plain host around n s) (block_plain host around (n + length (constructs_in host around n s)) others)

  branches_plain : (host : ℕ) (around : Name) (n : ℕ) (bs : Branches) → ArePlain (constructs_in_branches host around n bs)
  branches_plain host around n no_branches = tt
  branches_plain host around n (branch p e body others) =
      both_plain (constructs_in_block host around n body) (constructs_in_branches host around (n + length (constructs_in_block host around n body)) others)
      (block_plain host around n body) (branches_plain host around (n + length (constructs_in_block host around n body)) others)

  other_plain : (host : ℕ) (around : Name) (n : ℕ) (o : Alternative) → ArePlain (constructs_in_alternative host around n o)
  other_plain host around n no_alternative = tt
  other_plain host around n (alternative body) = block_plain host around n body

  cases_plain : (host : ℕ) (around : Name) (n : ℕ) (cs : Cases) → ArePlain (constructs_in_cases host around n cs)
  cases_plain host around n no_cases = tt
  cases_plain host around n (case_block p selection body others) =
      both_plain (constructs_in_block host around n body) (constructs_in_cases host around (n + length (constructs_in_block host around n body)) others)
      (block_plain host around n body) (cases_plain host around (n + length (constructs_in_block host around n body)) others)

-- ---- the other scopes of a unit are no modules, and use what the unit's node uses

-- what a scope uses its unit uses
abbrev pub UsesOf : UnitTree → Scope → Type 0
UsesOf u s = (y : Using) → Has s.uses y → Has (uses_of (node_of u)) y.from

part_uses : (us : List UseTree) (y : Using) → Has (map using us) y → Has (map (λ (u : UseTree). u.from) us) y.from
part_uses us y h =
    let r = mapped_of using us y h in
    subst (Has (map (λ (u : UseTree). u.from) us)) (ap (λ (z : Using). z.from) (sym r.2)) (has_mapped (λ (u : UseTree). u.from) us r.0 r.1)

no_uses : (u : UnitTree) (s : Scope) → IsPlain s → UsesOf u s
no_uses u s plain y h = absurd (subst (λ l. Has l y) plain.0 h)

unit_uses : (u : UnitTree) → UsesOf u (scope_of_unit u)
unit_uses u y h = has_left (used_in u.part) (flat_map used_in_procedure u.procedures) y.from (part_uses (u.part).uses y h)

procedure_uses : (u : UnitTree) (host : ℕ) (p : ProcedureTree) → Has u.procedures p → UsesOf u (scope_of_procedure host p)
procedure_uses u host p has y h =
    has_right (used_in u.part) (flat_map used_in_procedure u.procedures) y.from
    (has_piece used_in_procedure u.procedures p y.from has (part_uses (p.part).uses y h))

abbrev pub IsInner : UnitTree → Scope → Type 0
IsInner u s = UsesOf u s × (s.kind ≢ scope.Module)

plain_inner : (u : UnitTree) (s : Scope) → IsPlain s → IsInner u s
plain_inner u s plain = (no_uses u s plain, λ e. (let no : scope.Associate ≡ scope.Module = sym plain.1 ∙ e in cc))

no_module : (kind : ProcedureKind) → procedure_kind kind ≢ scope.Module
no_module procedure.Subroutine e = cc
no_module (procedure.Function specifier outcome) e = cc

procedures_inner : (u : UnitTree) (host n : ℕ) (ps : List ProcedureTree) → ((p : ProcedureTree) → Has ps p → Has u.procedures p)
    → (s : Scope) → Has (procedures_from host n ps) s → IsInner u s
procedures_inner u host n [] among s h = absurd h
procedures_inner u host n (p ∷ ps) among s h =
    elim (has_parts (procedure_scopes host n p) (procedures_from host (n + length (procedure_scopes host n p)) ps) s h) [
      | inl here ↦ one u host n p (among p (inl refl)) s here
      | inr there ↦ procedures_inner u host (n + length (procedure_scopes host n p)) ps (λ q r. among q (inr r)) s there
    ]
  where
    one : (u : UnitTree) (host n : ℕ) (p : ProcedureTree) → Has u.procedures p → (s : Scope) → Has (procedure_scopes host n p) s → IsInner u s
    one u host n p has s (inl e) = subst (IsInner u) (sym e) (procedure_uses u host p has, no_module (p.header).kind)
    one u host n p has s (inr h) =
        plain_inner u s (plain_in (constructs_in_block n (p.header).name (n + 1) p.body) s (block_plain n (p.header).name (n + 1) p.body) h)

inner_rest : (n : ℕ) (u : UnitTree) (s : Scope) → Has (constructs_in_block n u.name (n + 1) u.body ++ procedures_from n (n + length (own_scopes n u)) u.procedures) s → IsInner u s
inner_rest n u s h =
    elim (has_parts (constructs_in_block n u.name (n + 1) u.body) (procedures_from n (n + length (own_scopes n u)) u.procedures) s h) [
      | inl here ↦ plain_inner u s (plain_in (constructs_in_block n u.name (n + 1) u.body) s (block_plain n u.name (n + 1) u.body) here)
      | inr there ↦ procedures_inner u n (n + length (own_scopes n u)) u.procedures (λ p r. r) s there
    ]

-- the first scope of a unit is its own, and each other an inner one
pub unit_scope_at : (n : ℕ) (u : UnitTree) (q : ℕ) (s : Scope) → slice_get (unit_scopes n u) q ≡ Some s → ((q ≡ 0) × (s ≡ scope_of_unit u)) ⊎ IsInner u s
unit_scope_at n u zero s at = inl (refl, (let same : s ≡ scope_of_unit u = cc in same))
unit_scope_at n u (suc q) s at =
    inr (inner_rest n u s (at_has (constructs_in_block n u.name (n + 1) u.body ++ procedures_from n (n + length (own_scopes n u)) u.procedures) q s at))

pub scope_uses : (n : ℕ) (u : UnitTree) (q : ℕ) (s : Scope) → slice_get (unit_scopes n u) q ≡ Some s → UsesOf u s
scope_uses n u q s at = elim (unit_scope_at n u q s at) [
  | inl here ↦ subst (UsesOf u) (sym here.1) (unit_uses u)
  | inr inner ↦ inner.0
]
