-- Blocks that a source may spell, where their constructs stand among the scopes of a program.
use Rattle.std.proofs.Common.{◌≡◌, ℕ, suc, ◌+◌, List, ◌∷◌, ◌++◌, length, Option, Some, refl, ap, arith}
use Rattle.std.specs.Prelude.{slice_get}
use Rattle.std.proofs.lemmas.List.{length-append}
use mathlib.Core.Path.{subst}
use Rattle.f3_lookups.specs.declared.lookup.Lookup.{Lookup}
use Rattle.f3_access.specs.Access.{IsVisible}
use Rattle.f3_access.specs.Lookups.{Resolves}
use Rattle.f3_scopes.specs.Outlines.{Scope}
use Rattle.f3_scopes.specs.Scopes.{scope_of_construct, construct_name, constructs_in, constructs_in_block, constructs_in_branches, constructs_in_alternative}
use Rattle.f3_scopes.specs.Scopes.{constructs_in_cases}
use Rattle.f3_tree.specs.declared.expression.Name.{Name}
use Rattle.f3_tree.specs.Statements as t
use Rattle.f3_type_rules.specs.declared.definition.Holder.{Holder}
use Rattle.f3_type_rules.specs.Associates.{constructs_of, constructs_of_block, constructs_of_branches, constructs_of_other, constructs_of_cases}
use Rattle.f3_type_rules.specs.Scene.{holders_from}
use Rattle.f3_lawful_laws.specs.Blocks.{IsPlaced, IsBlockPlaced, AreBranchesPlaced, IsOtherPlaced, AreCasesPlaced, IsSpelled, IsBlockSpelled, AreBranchesSpelled}
use Rattle.f3_lawful_laws.specs.Blocks.{IsOtherSpelled, AreCasesSpelled}
use Rattle.f3_lawful_laws.proofs.Opening.{at_front, at_back, opens}

-- ---- as many scopes as constructs

two_long : {X Y : Type 0} (ms ns : List X) (xs ys : List Y) → length ms ≡ length xs → length ns ≡ length ys → length (ms ++ ns) ≡ length (xs ++ ys)
two_long ms ns xs ys p q = omega (arith, p, q, length-append ms ns, length-append xs ys)

mutual
  statement_long : (host : ℕ) (around : Name) (n : ℕ) (s : t.StatementTree) → length (constructs_in host around n s) ≡ length (constructs_of s)
  statement_long host around n (t.acts p a) = refl
  statement_long host around n (t.acts_if p e q a) = refl
  statement_long host around n (t.branches bs other) =
      two_long (constructs_in_branches host around n bs) (constructs_in_alternative host around (n + length (constructs_in_branches host around n bs)) other)
      (constructs_of_branches bs) (constructs_of_other other) (branches_long host around n bs)
      (other_long host around (n + length (constructs_in_branches host around n bs)) other)
  statement_long host around n (t.selects p e cs) = cases_long host around n cs
  statement_long host around n (t.repeats p control body) = block_long host around n body
  statement_long host around n (t.associates p xs body) = ap suc (block_long n (construct_name around xs) (n + 1) body)

  pub block_long : (host : ℕ) (around : Name) (n : ℕ) (b : t.Block) → length (constructs_in_block host around n b) ≡ length (constructs_of_block b)
  block_long host around n t.no_statements = refl
  block_long host around n (t.statements s others) =
      two_long (constructs_in host around n s) (constructs_in_block host around (n + length (constructs_in host around n s)) others)
      (constructs_of s) (constructs_of_block others) (statement_long host around n s)
      (block_long host around (n + length (constructs_in host around n s)) others)

  branches_long : (host : ℕ) (around : Name) (n : ℕ) (bs : t.Branches) → length (constructs_in_branches host around n bs) ≡ length (constructs_of_branches bs)
  branches_long host around n t.no_branches = refl
  branches_long host around n (t.branch p e body others) =
      two_long (constructs_in_block host around n body) (constructs_in_branches host around (n + length (constructs_in_block host around n body)) others)
      (constructs_of_block body) (constructs_of_branches others) (block_long host around n body)
      (branches_long host around (n + length (constructs_in_block host around n body)) others)

  other_long : (host : ℕ) (around : Name) (n : ℕ) (o : t.Alternative) → length (constructs_in_alternative host around n o) ≡ length (constructs_of_other o)
  other_long host around n t.no_alternative = refl
  other_long host around n (t.alternative body) = block_long host around n body

  cases_long : (host : ℕ) (around : Name) (n : ℕ) (cs : t.Cases) → length (constructs_in_cases host around n cs) ≡ length (constructs_of_cases cs)
  cases_long host around n t.no_cases = refl
  cases_long host around n (t.case_block p selection body others) =
      two_long (constructs_in_block host around n body) (constructs_in_cases host around (n + length (constructs_in_block host around n body)) others)
      (constructs_of_block body) (constructs_of_cases others) (block_long host around n body)
      (cases_long host around (n + length (constructs_in_block host around n body)) others)

-- ---- a part of the scopes, from a number on

abbrev pub Lies : List Scope → ℕ → List Scope → Type 0
Lies scopes n part = (p : ℕ) (s : Scope) → slice_get part p ≡ Some s → slice_get scopes (n + p) ≡ Some s

pub lies_left : (scopes : List Scope) (n : ℕ) (xs ys : List Scope) → Lies scopes n (xs ++ ys) → Lies scopes n xs
lies_left scopes n xs ys lies p s at = lies p s (at_front xs ys p s at)

pub lies_right : (scopes : List Scope) (n : ℕ) (xs ys : List Scope) → Lies scopes n (xs ++ ys) → Lies scopes (n + length xs) ys
lies_right scopes n xs ys lies p s at =
    subst (λ k. slice_get scopes k ≡ Some s) (let e : n + (length xs + p) ≡ (n + length xs) + p = omega arith in e) (lies (length xs + p) s (at_back xs ys p s at))

pub lies_next : (scopes : List Scope) (n : ℕ) (x : Scope) (xs : List Scope) → Lies scopes n (x ∷ xs) → Lies scopes (n + 1) xs
lies_next scopes n x xs lies p s at =
    subst (λ k. slice_get scopes k ≡ Some s) (let e : n + suc p ≡ (n + 1) + p = omega arith in e) (lies (suc p) s at)

pub lies_first : (scopes : List Scope) (n : ℕ) (x : Scope) (xs : List Scope) → Lies scopes n (x ∷ xs) → slice_get scopes n ≡ Some x
lies_first scopes n x xs lies = subst (λ k. slice_get scopes k ≡ Some x) (let e : n + 0 ≡ n = omega arith in e) (lies 0 x refl)

-- ---- blocks

module _ (scopes : List Scope) (look : ℕ → ℕ → Lookup) (means : (scope symbol : ℕ) → Resolves (look scope symbol) (IsVisible scopes scope symbol)) where
  abbrev held : ℕ → Option Holder
  held l = slice_get (holders_from 0 scopes) l

  mutual
    pub statement_placed : (x : t.StatementTree) (host : ℕ) (around : Name) (next : ℕ) → IsSpelled x → Lies scopes next (constructs_in host around next x)
        → IsPlaced look held host next x
    statement_placed (t.acts p a) host around next w lies = w
    statement_placed (t.acts_if p e q a) host around next w lies = w
    statement_placed (t.branches bs other) host around next w lies =
        let own = constructs_in_branches host around next bs in (
          branches_placed bs host around next w.0 (lies_left scopes next own _ lies),
          subst (λ k. IsOtherPlaced look held host (next + k) other) (branches_long host around next bs)
              (other_placed other host around (next + length own) w.1 (lies_right scopes next own _ lies)),
        )
    statement_placed (t.selects p e cs) host around next w lies = (w.0, cases_placed cs host around next w.1 lies)
    statement_placed (t.repeats p control body) host around next w lies = (w.0, block_placed body host around next w.1 lies)
    statement_placed (t.associates p xs body) host around next w lies = (
      w.0,
      opens scopes look means host next around xs (lies_first scopes next (scope_of_construct host around xs) _ lies) w.1,
      block_placed body next (construct_name around xs) (next + 1) w.2 (lies_next scopes next (scope_of_construct host around xs) _ lies),
    )

    pub block_placed : (x : t.Block) (host : ℕ) (around : Name) (next : ℕ) → IsBlockSpelled x → Lies scopes next (constructs_in_block host around next x)
        → IsBlockPlaced look held host next x
    block_placed t.no_statements host around next w lies = tt
    block_placed (t.statements x b) host around next w lies =
        let own = constructs_in host around next x in (
          statement_placed x host around next w.0 (lies_left scopes next own _ lies),
          subst (λ k. IsBlockPlaced look held host (next + k) b) (statement_long host around next x)
              (block_placed b host around (next + length own) w.1 (lies_right scopes next own _ lies)),
        )

    branches_placed : (bs : t.Branches) (host : ℕ) (around : Name) (next : ℕ) → AreBranchesSpelled bs → Lies scopes next (constructs_in_branches host around next bs)
        → AreBranchesPlaced look held host next bs
    branches_placed t.no_branches host around next w lies = tt
    branches_placed (t.branch p e b bs) host around next w lies =
        let own = constructs_in_block host around next b in (
          w.0,
          block_placed b host around next w.1 (lies_left scopes next own _ lies),
          subst (λ k. AreBranchesPlaced look held host (next + k) bs) (block_long host around next b)
              (branches_placed bs host around (next + length own) w.2 (lies_right scopes next own _ lies)),
        )

    other_placed : (x : t.Alternative) (host : ℕ) (around : Name) (next : ℕ) → IsOtherSpelled x → Lies scopes next (constructs_in_alternative host around next x)
        → IsOtherPlaced look held host next x
    other_placed t.no_alternative host around next w lies = tt
    other_placed (t.alternative b) host around next w lies = block_placed b host around next w lies

    cases_placed : (cs : t.Cases) (host : ℕ) (around : Name) (next : ℕ) → AreCasesSpelled cs → Lies scopes next (constructs_in_cases host around next cs)
        → AreCasesPlaced look held host next cs
    cases_placed t.no_cases host around next w lies = tt
    cases_placed (t.case_block p vs b cs) host around next w lies =
        let own = constructs_in_block host around next b in (
          block_placed b host around next w.0 (lies_left scopes next own _ lies),
          subst (λ k. AreCasesPlaced look held host (next + k) cs) (block_long host around next b)
              (cases_placed cs host around (next + length own) w.1 (lies_right scopes next own _ lies)),
        )
