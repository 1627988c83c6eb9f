-- A block whose statements have literals of at most 64 bits has such constructs too.
use Rattle.std.proofs.Common.{List, ◌∷◌}
use Rattle.f3_tree.specs.Statements.{StatementTree, acts, acts_if, branches, selects, repeats, associates, Block, no_statements, statements}
use Rattle.f3_tree.specs.Statements.{Branches, no_branches, branch, Alternative, no_alternative, alternative, Cases, no_cases, case_block}
use Rattle.f3_blocks.specs.Pieces.{Piece, if_ends, select_ends, do_ends, associate_ends}
use Rattle.f3_blocks.specs.Blocks.{flat, flats, flat_if, flat_else_ifs, flat_else, flat_cases}
use Rattle.f3_meaning_whole.specs.Permitted.{Each}
use Rattle.f3_fitting_laws.specs.Bounded.{IsStatementBounded, IsBlockBounded, AreBranchesBounded, IsOtherBounded, AreCasesBounded}
use Rattle.f3_bounded_laws.proofs.Forms.{IsPieceBounded}

abbrev AreBounded : List Piece → Type 0
AreBounded ps = Each IsPieceBounded ps

-- each: what is bounded, and that the statements behind it are so as well
mutual
  one : (s : StatementTree) (r : List Piece) → AreBounded (flat s r) → IsStatementBounded s × AreBounded r
  one (acts p a) r w = w
  one (acts_if p e q a) r w = w
  one (branches bs other) r w =
      let first = all_branches bs (flat_else other (if_ends ∷ r)) w in
      let second = last_branch other (if_ends ∷ r) first.1 in
      ((first.0, second.0), (second.1).1)
  one (selects p e cs) r w = let inner = cases cs (select_ends ∷ r) w.1 in ((w.0, inner.0), (inner.1).1)
  one (repeats p control body) r w = let inner = block body (do_ends ∷ r) w.1 in ((w.0, inner.0), (inner.1).1)
  one (associates p xs body) r w = let inner = block body (associate_ends ∷ r) w.1 in ((w.0, inner.0), (inner.1).1)

  pub block : (b : Block) (r : List Piece) → AreBounded (flats b r) → IsBlockBounded b × AreBounded r
  block no_statements r w = (tt, w)
  block (statements s b) r w =
      let first = one s (flats b r) w in
      let second = block b r first.1 in
      ((first.0, second.0), second.1)

  all_branches : (bs : Branches) (r : List Piece) → AreBounded (flat_if bs r) → AreBranchesBounded bs × AreBounded r
  all_branches no_branches r w = (tt, w)
  all_branches (branch p e b bs) r w =
      let first = block b (flat_else_ifs bs r) w.1 in
      let second = else_ifs bs r first.1 in
      ((w.0, first.0, second.0), second.1)

  else_ifs : (bs : Branches) (r : List Piece) → AreBounded (flat_else_ifs bs r) → AreBranchesBounded bs × AreBounded r
  else_ifs no_branches r w = (tt, w)
  else_ifs (branch p e b bs) r w =
      let first = block b (flat_else_ifs bs r) w.1 in
      let second = else_ifs bs r first.1 in
      ((w.0, first.0, second.0), second.1)

  last_branch : (other : Alternative) (r : List Piece) → AreBounded (flat_else other r) → IsOtherBounded other × AreBounded r
  last_branch no_alternative r w = (tt, w)
  last_branch (alternative b) r w = block b r w.1

  cases : (cs : Cases) (r : List Piece) → AreBounded (flat_cases cs r) → AreCasesBounded cs × AreBounded r
  cases no_cases r w = (tt, w)
  cases (case_block p vs b cs) r w =
      let first = block b (flat_cases cs r) w.1 in
      let second = cases cs r first.1 in
      ((w.0, first.0, second.0), second.1)
