-- A block, and the statements that spell it (8.1).
use Rattle.std.specs.Prelude.{◌≡◌, Bool, true, false, List, [], ◌∷◌, map}
use Rattle.f3_tree.specs.Statements.{Act, return, cycle, exit, StatementTree, acts, acts_if, branches, selects, repeats, associates, Block}
use Rattle.f3_tree.specs.Statements.{no_statements, statements, Branches, no_branches, branch, Alternative, no_alternative, alternative}
use Rattle.f3_tree.specs.Statements.{Cases, no_cases, case_block}
use Rattle.f3_blocks.specs.Pieces.{Placed, Piece, act, act_if, if_begins, else_if_begins, else_begins, if_ends, select_begins, case_begins}
use Rattle.f3_blocks.specs.Pieces.{select_ends, do_begins, do_ends, associate_begins, associate_ends, piece_of}

-- the statements of a tree, and then others
abbrev mutual
  pub flat : StatementTree → List Piece → List Piece
  flat (acts p a) r = act p a ∷ r
  flat (acts_if p e q a) r = act_if p e q a ∷ r
  flat (branches bs other) r = flat_if bs (flat_else other (if_ends ∷ r))
  flat (selects p e cs) r = select_begins p e ∷ flat_cases cs (select_ends ∷ r)
  flat (repeats p c body) r = do_begins p c ∷ flats body (do_ends ∷ r)
  flat (associates p xs body) r = associate_begins p xs ∷ flats body (associate_ends ∷ r)

  pub flats : Block → List Piece → List Piece
  flats no_statements r = r
  flats (statements s ss) r = flat s (flats ss r)

  -- the first branch is of IF, the others of ELSE IF
  pub flat_if : Branches → List Piece → List Piece
  flat_if no_branches r = r
  flat_if (branch p e b bs) r = if_begins p e ∷ flats b (flat_else_ifs bs r)

  pub flat_else_ifs : Branches → List Piece → List Piece
  flat_else_ifs no_branches r = r
  flat_else_ifs (branch p e b bs) r = else_if_begins p e ∷ flats b (flat_else_ifs bs r)

  pub flat_else : Alternative → List Piece → List Piece
  flat_else no_alternative r = r
  flat_else (alternative b) r = else_begins ∷ flats b r

  pub flat_cases : Cases → List Piece → List Piece
  flat_cases no_cases r = r
  flat_cases (case_block p s b cs) r = case_begins p s ∷ flats b (flat_cases cs r)

-- RETURN stands in a procedure, CYCLE and EXIT in a DO
abbrev pub may_act : Bool → Bool → Act → Bool
may_act procedure looped return = procedure
may_act procedure looped cycle = looped
may_act procedure looped exit = looped
may_act procedure looped _ = true

abbrev pub IsSome : Branches → Type 0
IsSome no_branches = ⊥
IsSome (branch p e b bs) = Unit {0}

-- each action stands where it may, and each IF construct has an IF
abbrev mutual
  pub IsProper : Bool → Bool → StatementTree → Type 0
  IsProper procedure looped (acts p a) = may_act procedure looped a ≡ true
  IsProper procedure looped (acts_if p e q a) = may_act procedure looped a ≡ true
  IsProper procedure looped (branches bs other) = IsSome bs × AreBranches procedure looped bs × IsElse procedure looped other
  IsProper procedure looped (selects p e cs) = AreCases procedure looped cs
  IsProper procedure looped (repeats p c body) = AreProper procedure true body
  IsProper procedure looped (associates p xs body) = AreProper procedure looped body

  pub AreProper : Bool → Bool → Block → Type 0
  AreProper procedure looped no_statements = Unit {0}
  AreProper procedure looped (statements s ss) = IsProper procedure looped s × AreProper procedure looped ss

  pub AreBranches : Bool → Bool → Branches → Type 0
  AreBranches procedure looped no_branches = Unit {0}
  AreBranches procedure looped (branch p e b bs) = AreProper procedure looped b × AreBranches procedure looped bs

  pub IsElse : Bool → Bool → Alternative → Type 0
  IsElse procedure looped no_alternative = Unit {0}
  IsElse procedure looped (alternative b) = AreProper procedure looped b

  pub AreCases : Bool → Bool → Cases → Type 0
  AreCases procedure looped no_cases = Unit {0}
  AreCases procedure looped (case_block p s b cs) = AreProper procedure looped b × AreCases procedure looped cs

-- The statements spell the block, which is that of a procedure or of a program.
abbrev pub IsBlock : Bool → Block → List Placed → Type 0
IsBlock procedure b ps = AreProper procedure false b × (flats b [] ≡ map piece_of ps)
