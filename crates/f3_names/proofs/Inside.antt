-- What is inside a unit: scopes with a host before them, none of which is a unit.
use Rattle.std.proofs.Common.{◌≡◌, ℕ, zero, suc, ◌+◌, ◌<◌, ◌⊎◌, List, [], ◌∷◌, ◌++◌, Some, length, slice_get, refl, subst, inl, inr, arith}
use Rattle.std.proofs.lemmas.Option.{slice_get_within}
use Rattle.f3_tree.specs.declared.expression.Name.{Name}
use Rattle.f3_tree.specs.declared.program.ProcedureKind.{ProcedureKind}
use Rattle.f3_tree.specs.declared.program.ProcedureKind.TheVariants as procedure
use Rattle.f3_tree.specs.Statements.{StatementTree, acts, acts_if, branches, selects, repeats, associates}
use Rattle.f3_tree.specs.Statements.{Block, no_statements, statements, Branches, no_branches, branch}
use Rattle.f3_tree.specs.Statements.{Alternative, no_alternative, alternative, Cases, no_cases, case_block}
use Rattle.f3_tree.specs.Tree.{ProcedureTree, UnitTree, Tree}
use Rattle.f3_scopes.specs.declared.outline.ScopeKind.TheVariants as scope
use Rattle.f3_scopes.specs.Outlines.{Scope}
use Rattle.f3_scopes.specs.Scopes.{construct_name, constructs_in, constructs_in_block, constructs_in_branches, constructs_in_alternative, constructs_in_cases}
use Rattle.f3_scopes.specs.Scopes.{procedure_kind, procedure_scopes, procedures_from, own_scopes, unit_scopes, scopes_from, scopes_of}
use Rattle.f3_access.specs.Access.{IsUnit}
use Rattle.f3_access.specs.Hosts.{host_in, HostsBefore}

abbrev pub IsInside : ℕ → Scope → Type 0
IsInside number s = (host : ℕ) × (s.host ≡ Some host) × (host < number) × (IsUnit s → ⊥)

-- such are all of these scopes, of which the first has this number
abbrev pub AreInside : ℕ → List Scope → Type 0
AreInside number [] = Unit {0}
AreInside number (s ∷ ss) = IsInside number s × AreInside (number + 1) ss

both : (n : ℕ) (xs ys : List Scope) → AreInside n xs → AreInside (n + length xs) ys → AreInside n (xs ++ ys)
both n [] ys a b = subst (λ k. AreInside k ys) (omega arith) b
both n (x ∷ xs) ys (i, a) b = (i, both (n + 1) xs ys a (subst (λ k. AreInside k ys) (omega arith) b))

pub inside_at : (n : ℕ) (xs : List Scope) (p : ℕ) (s : Scope) → AreInside n xs → slice_get xs p ≡ Some s → IsInside (n + p) s
inside_at n [] p s a at = absurd (let past = slice_get_within [] p s at in omega arith)
inside_at n (x ∷ xs) zero s a at = let same : x ≡ s = cc in subst (λ k. IsInside k s) (omega arith) (subst (IsInside n) same a.0)
inside_at n (x ∷ xs) (suc p) s a at = subst (λ k. IsInside k s) (omega arith) (inside_at (n + 1) xs p s a.1 at)

no_construct : scope.Associate ≡ scope.Module ⊎ (scope.Associate ≡ scope.Program) → ⊥
no_construct (inl e) = cc
no_construct (inr e) = cc

mutual
  statement_inside : (host : ℕ) (around : Name) (n : ℕ) → host < n → (s : StatementTree) → AreInside n (constructs_in host around n s)
  statement_inside host around n less (acts p action) = tt
  statement_inside host around n less (acts_if p e q action) = tt
  statement_inside host around n less (branches bs other) =
      both n (constructs_in_branches host around n bs) (constructs_in_alternative host around (n + length (constructs_in_branches host around n bs)) other)
      (branches_inside host around n less bs) (alternative_inside host around (n + length (constructs_in_branches host around n bs)) (omega (arith, less)) other)
  statement_inside host around n less (selects p e cs) = cases_inside host around n less cs
  statement_inside host around n less (repeats p control body) = block_inside host around n less body
  statement_inside host around n less (associates p xs body) = ((host, refl, less, no_construct), block_inside n (construct_name around xs) (n + 1) (omega arith) body)

  pub block_inside : (host : ℕ) (around : Name) (n : ℕ) → host < n → (b : Block) → AreInside n (constructs_in_block host around n b)
  block_inside host around n less no_statements = tt
  block_inside host around n less (statements s others) =
      both n (constructs_in host around n s) (constructs_in_block host around (n + length (constructs_in host around n s)) others)
      (statement_inside host around n less s) (block_inside host around (n + length (constructs_in host around n s)) (omega (arith, less)) others)

  branches_inside : (host : ℕ) (around : Name) (n : ℕ) → host < n → (bs : Branches) → AreInside n (constructs_in_branches host around n bs)
  branches_inside host around n less no_branches = tt
  branches_inside host around n less (branch p e body others) =
      both n (constructs_in_block host around n body) (constructs_in_branches host around (n + length (constructs_in_block host around n body)) others)
      (block_inside host around n less body) (branches_inside host around (n + length (constructs_in_block host around n body)) (omega (arith, less)) others)

  alternative_inside : (host : ℕ) (around : Name) (n : ℕ) → host < n → (a : Alternative) → AreInside n (constructs_in_alternative host around n a)
  alternative_inside host around n less no_alternative = tt
  alternative_inside host around n less (alternative body) = block_inside host around n less body

  cases_inside : (host : ℕ) (around : Name) (n : ℕ) → host < n → (cs : Cases) → AreInside n (constructs_in_cases host around n cs)
  cases_inside host around n less no_cases = tt
  cases_inside host around n less (case_block p selection body others) =
      both n (constructs_in_block host around n body) (constructs_in_cases host around (n + length (constructs_in_block host around n body)) others)
      (block_inside host around n less body) (cases_inside host around (n + length (constructs_in_block host around n body)) (omega (arith, less)) others)

no_unit_kind : (kind : ProcedureKind) → (procedure_kind kind ≡ scope.Module) ⊎ (procedure_kind kind ≡ scope.Program) → ⊥
no_unit_kind procedure.Subroutine (inl e) = cc
no_unit_kind procedure.Subroutine (inr e) = cc
no_unit_kind (procedure.Function specifier outcome) (inl e) = cc
no_unit_kind (procedure.Function specifier outcome) (inr e) = cc

procedures_inside : (host n : ℕ) → host < n → (ps : List ProcedureTree) → AreInside n (procedures_from host n ps)
procedures_inside host n less [] = tt
procedures_inside host n less (p ∷ ps) =
    both n (procedure_scopes host n p) (procedures_from host (n + length (procedure_scopes host n p)) ps)
    ((host, refl, less, no_unit_kind (p.header).kind), block_inside n (p.header).name (n + 1) (omega arith) p.body)
    (procedures_inside host (n + length (procedure_scopes host n p)) (omega (arith, less)) ps)

-- the scopes of a unit behind its own
abbrev pub inner : ℕ → UnitTree → List Scope
inner n u = constructs_in_block n u.name (n + 1) u.body ++ procedures_from n (n + length (own_scopes n u)) u.procedures

pub inner_inside : (n : ℕ) (u : UnitTree) → AreInside (n + 1) (inner n u)
inner_inside n u =
    let body = constructs_in_block n u.name (n + 1) u.body in
    let behind : n + length (own_scopes n u) ≡ n + 1 + length body = omega arith in
    both (n + 1) body (procedures_from n (n + length (own_scopes n u)) u.procedures) (block_inside n u.name (n + 1) (omega arith) u.body)
    (subst (λ k. AreInside k (procedures_from n (n + length (own_scopes n u)) u.procedures)) behind (procedures_inside n (n + length (own_scopes n u)) (omega arith) u.procedures))

-- each of these scopes, of which the first has this number, stands behind its host
abbrev AreBehind : ℕ → List Scope → Type 0
AreBehind number [] = Unit {0}
AreBehind number (s ∷ ss) = ((host : ℕ) → s.host ≡ Some host → host < number) × AreBehind (number + 1) ss

inside_behind : (n : ℕ) (xs : List Scope) → AreInside n xs → AreBehind n xs
inside_behind n [] a = tt
inside_behind n (x ∷ xs) ((host, e, less, outside), a) = (λ h f. (let same : host ≡ h = cc in omega (arith, less, same)), inside_behind (n + 1) xs a)

both_behind : (n : ℕ) (xs ys : List Scope) → AreBehind n xs → AreBehind (n + length xs) ys → AreBehind n (xs ++ ys)
both_behind n [] ys a b = subst (λ k. AreBehind k ys) (omega arith) b
both_behind n (x ∷ xs) ys (i, a) b = (i, both_behind (n + 1) xs ys a (subst (λ k. AreBehind k ys) (omega arith) b))

all_behind : (n : ℕ) (us : List UnitTree) → AreBehind n (scopes_from n us)
all_behind n [] = tt
all_behind n (u ∷ us) =
    both_behind n (unit_scopes n u) (scopes_from (n + length (unit_scopes n u)) us)
    (λ h e. cc, inside_behind (n + 1) (inner n u) (inner_inside n u))
    (all_behind (n + length (unit_scopes n u)) us)

behind_at : (n : ℕ) (xs : List Scope) (p host : ℕ) → AreBehind n xs → host_in (slice_get xs p) ≡ Some host → host < n + p
behind_at n [] p host a e = cc
behind_at n (x ∷ xs) zero host a e = let less = a.0 host e in omega (arith, less)
behind_at n (x ∷ xs) (suc p) host a e = let less = behind_at (n + 1) xs p host a.1 e in omega (arith, less)

pub hosts_before : (t : Tree) → HostsBefore (scopes_of t)
hosts_before t number host e = let less = behind_at 0 (scopes_of t) number host (all_behind 0 t.units) e in omega (arith, less)
