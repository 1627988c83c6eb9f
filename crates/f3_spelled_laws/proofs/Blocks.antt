-- A block whose statements are such that a source may spell, and whose constructs break no rule, is spelled.
use Rattle.std.proofs.Common.{ℕ, ◌+◌, List, ◌∷◌, ◌++◌, length}
use Rattle.f3_tree.specs.declared.expression.Name.{Name}
use Rattle.f3_tree.specs.Statements.{StatementTree, acts, acts_if, branches, selects, repeats, associates, Block, no_statements, statements}
use Rattle.f3_tree.specs.Statements.{Branches, no_branches, branch, Alternative, no_alternative, alternative, Cases, no_cases, case_block}
use Rattle.f3_scopes.specs.Outlines.{Scope}
use Rattle.f3_scopes.specs.Scopes.{construct_name, constructs_in, constructs_in_block, constructs_in_branches}
use Rattle.f3_scopes.specs.Scopes.{constructs_in_alternative, constructs_in_cases}
use Rattle.f3_blocks.specs.Pieces.{Piece, if_ends, select_ends, do_ends, associate_ends}
use Rattle.f3_blocks.specs.Blocks.{flat, flats, flat_if, flat_else_ifs, flat_else, flat_cases}
use Rattle.f3_meaning_whole.specs.Permitted.{Each}
use Rattle.f3_lawful_laws.specs.Blocks.{IsSpelled, IsBlockSpelled, AreBranchesSpelled, IsOtherSpelled, AreCasesSpelled}
use Rattle.f3_spelled_laws.proofs.Lists.{each_front, each_rest}
use Rattle.f3_spelled_laws.proofs.Forms.{IsPieceWritten}
use Rattle.f3_spelled_laws.proofs.Once.{IsUnbroken, construct_once}

abbrev AreWritten : List Piece → Type 0
AreWritten ps = Each IsPieceWritten ps

abbrev AreUnbroken : List Scope → Type 0
AreUnbroken scopes = Each IsUnbroken scopes

-- some scopes stand before others
front : (xs ys : List Scope) → AreUnbroken (xs ++ ys) → AreUnbroken xs
front xs ys h = each_front IsUnbroken xs ys h

behind : (xs ys : List Scope) → AreUnbroken (xs ++ ys) → AreUnbroken ys
behind xs ys h = each_rest IsUnbroken xs ys h

-- each: what is spelled, and that the statements behind it are written as well
mutual
  one : (s : StatementTree) (r : List Piece) (host : ℕ) (around : Name) (number : ℕ) → AreWritten (flat s r) → AreUnbroken (constructs_in host around number s)
      → IsSpelled s × AreWritten r
  one (acts p a) r host around number w u = w
  one (acts_if p e q a) r host around number w u = w
  one (branches bs other) r host around number w u =
      let in_bs = constructs_in_branches host around number bs in
      let in_other = constructs_in_alternative host around (number + length in_bs) other in
      let first = all_branches bs (flat_else other (if_ends ∷ r)) host around number w (front in_bs in_other u) in
      let second = last_branch other (if_ends ∷ r) host around (number + length in_bs) first.1 (behind in_bs in_other u) in
      ((first.0, second.0), (second.1).1)
  one (selects p e cs) r host around number w u =
      let inner = cases cs (select_ends ∷ r) host around number w.1 u in
      ((w.0, inner.0), (inner.1).1)
  one (repeats p control body) r host around number w u =
      let inner = block body (do_ends ∷ r) host around number w.1 u in
      ((w.0, inner.0), (inner.1).1)
  one (associates p xs body) r host around number w u =
      let inner = block body (associate_ends ∷ r) number (construct_name around xs) (number + 1) w.1 u.1 in
      ((w.0, construct_once host around xs u.0, inner.0), (inner.1).1)

  pub block : (b : Block) (r : List Piece) (host : ℕ) (around : Name) (number : ℕ) → AreWritten (flats b r)
      → AreUnbroken (constructs_in_block host around number b) → IsBlockSpelled b × AreWritten r
  block no_statements r host around number w u = (tt, w)
  block (statements s b) r host around number w u =
      let in_s = constructs_in host around number s in
      let in_b = constructs_in_block host around (number + length in_s) b in
      let first = one s (flats b r) host around number w (front in_s in_b u) in
      let second = block b r host around (number + length in_s) first.1 (behind in_s in_b u) in
      ((first.0, second.0), second.1)

  all_branches : (bs : Branches) (r : List Piece) (host : ℕ) (around : Name) (number : ℕ) → AreWritten (flat_if bs r)
      → AreUnbroken (constructs_in_branches host around number bs) → AreBranchesSpelled bs × AreWritten r
  all_branches no_branches r host around number w u = (tt, w)
  all_branches (branch p e b bs) r host around number w u =
      let in_b = constructs_in_block host around number b in
      let in_bs = constructs_in_branches host around (number + length in_b) bs in
      let first = block b (flat_else_ifs bs r) host around number w.1 (front in_b in_bs u) in
      let second = else_ifs bs r host around (number + length in_b) first.1 (behind in_b in_bs u) in
      ((w.0, first.0, second.0), second.1)

  else_ifs : (bs : Branches) (r : List Piece) (host : ℕ) (around : Name) (number : ℕ) → AreWritten (flat_else_ifs bs r)
      → AreUnbroken (constructs_in_branches host around number bs) → AreBranchesSpelled bs × AreWritten r
  else_ifs no_branches r host around number w u = (tt, w)
  else_ifs (branch p e b bs) r host around number w u =
      let in_b = constructs_in_block host around number b in
      let in_bs = constructs_in_branches host around (number + length in_b) bs in
      let first = block b (flat_else_ifs bs r) host around number w.1 (front in_b in_bs u) in
      let second = else_ifs bs r host around (number + length in_b) first.1 (behind in_b in_bs u) in
      ((w.0, first.0, second.0), second.1)

  last_branch : (other : Alternative) (r : List Piece) (host : ℕ) (around : Name) (number : ℕ) → AreWritten (flat_else other r)
      → AreUnbroken (constructs_in_alternative host around number other) → IsOtherSpelled other × AreWritten r
  last_branch no_alternative r host around number w u = (tt, w)
  last_branch (alternative b) r host around number w u = block b r host around number w.1 u

  cases : (cs : Cases) (r : List Piece) (host : ℕ) (around : Name) (number : ℕ) → AreWritten (flat_cases cs r)
      → AreUnbroken (constructs_in_cases host around number cs) → AreCasesSpelled cs × AreWritten r
  cases no_cases r host around number w u = (tt, w)
  cases (case_block p vs b cs) r host around number w u =
      let in_b = constructs_in_block host around number b in
      let in_cs = constructs_in_cases host around (number + length in_b) cs in
      let first = block b (flat_cases cs r) host around number w.1 (front in_b in_cs u) in
      let second = cases cs r host around (number + length in_b) first.1 (behind in_b in_cs u) in
      ((first.0, second.0), second.1)
