-- Statements that a source may spell, in which each ASSOCIATE construct is a scope of its own, inside the scope that it stands in.
use Rattle.std.specs.Prelude.{◌≡◌, ⊤, ℕ, ◌+◌, false, nat_eq, position, length, List, Option, None, Some, map, slice_get}
use Rattle.f3_lookups.specs.declared.lookup.Lookup.{Lookup}
use Rattle.f3_lookups.specs.declared.lookup.Lookup.TheVariants.{One}
use Rattle.f3_tree.specs.Expressions as e
use Rattle.f3_tree.specs.Tree.{ProcedureTree, UnitTree, Tree}
use Rattle.f3_tree.specs.Statements.{Controls, forever, counted, while, AssociationTree, StatementTree, acts, acts_if, branches, selects, repeats, associates}
use Rattle.f3_tree.specs.Statements.{Block, no_statements, statements, Branches, no_branches, branch}
use Rattle.f3_tree.specs.Statements.{Alternative, no_alternative, alternative, Cases, no_cases, case_block}
use Rattle.f3_meaning_whole.specs.Permitted.{Each}
use Rattle.f3_type_rules.specs.declared.definition.Holder.{Holder}
use Rattle.f3_type_rules.specs.Associates.{constructs_of, constructs_of_branches, constructs_of_block}
use Rattle.f3_type_rules.specs.Definitions.{is_in}
use Rattle.f3_elaboration.specs.Numbers.{entity_of}
use Rattle.f3_lawful_laws.specs.Written.{IsWritten, IsActWritten}

-- ---- what a source may spell

abbrev pub IsStepWritten : Option e.Tree → Type 0
IsStepWritten None = ⊤
IsStepWritten (Some e) = IsWritten e

abbrev pub IsControlWritten : Controls → Type 0
IsControlWritten forever = ⊤
IsControlWritten (while e) = IsWritten e
IsControlWritten (counted n first last step) = IsWritten first × IsWritten last × IsStepWritten step

-- ---- scopes of constructs

-- the entity of an associate name in the construct of this number
abbrev pub entity_in : (look : ℕ → ℕ → Lookup) → (number : ℕ) → AssociationTree → ℕ
entity_in look number x = entity_of (look number (x.name).symbol)

abbrev pub IsDeclaredIn : (look : ℕ → ℕ → Lookup) → (number : ℕ) → AssociationTree → Type 0
IsDeclaredIn look number x = look number (x.name).symbol ≡ One (entity_in look number x)

-- a variable that is neither protected nor INTENT(IN)
abbrev pub IsFree : Option Holder → Type 0
IsFree None = ⊤
IsFree (Some h) = (h.is_protected ≡ false) × (is_in h.intent ≡ false)

-- no associate name stands twice
abbrev pub AreOnce : List AssociationTree → Type 0
AreOnce xs = (j k : ℕ) (x y : AssociationTree) → slice_get xs j ≡ Some x → slice_get xs k ≡ Some y → (x.name).symbol ≡ (y.name).symbol → j ≡ k

-- The construct of this number declares its associate names; what else is visible in it is visible around it.
pub record Opens (look : ℕ → ℕ → Lookup) (held : ℕ → Option Holder) (scope number : ℕ) (xs : List AssociationTree) : Type 0 where
  pub declared : Each (IsDeclaredIn look number) xs
  pub free : Each (λ (x : AssociationTree). IsFree (held (entity_in look number x))) xs
  pub around : (symbol e : ℕ) → look number symbol ≡ One e → position (nat_eq e) (map (entity_in look number) xs) ≡ None
      → look scope symbol ≡ One e

-- statements that a source may spell, in which no construct names an associate name twice
abbrev mutual
  pub IsSpelled : StatementTree → Type 0
  IsSpelled (acts p a) = IsActWritten a
  IsSpelled (acts_if p e q a) = IsWritten e × IsActWritten a
  IsSpelled (branches bs other) = AreBranchesSpelled bs × IsOtherSpelled other
  IsSpelled (selects p e cs) = IsWritten e × AreCasesSpelled cs
  IsSpelled (repeats p control body) = IsControlWritten control × IsBlockSpelled body
  IsSpelled (associates p xs body) = Each (λ (x : AssociationTree). IsWritten x.selector) xs × AreOnce xs × IsBlockSpelled body

  pub IsBlockSpelled : Block → Type 0
  IsBlockSpelled no_statements = ⊤
  IsBlockSpelled (statements x b) = IsSpelled x × IsBlockSpelled b

  pub AreBranchesSpelled : Branches → Type 0
  AreBranchesSpelled no_branches = ⊤
  AreBranchesSpelled (branch p e b bs) = IsWritten e × IsBlockSpelled b × AreBranchesSpelled bs

  pub IsOtherSpelled : Alternative → Type 0
  IsOtherSpelled no_alternative = ⊤
  IsOtherSpelled (alternative b) = IsBlockSpelled b

  pub AreCasesSpelled : Cases → Type 0
  AreCasesSpelled no_cases = ⊤
  AreCasesSpelled (case_block p vs b cs) = IsBlockSpelled b × AreCasesSpelled cs

abbrev pub IsUnitSpelled : UnitTree → Type 0
IsUnitSpelled u = IsBlockSpelled u.body × Each (λ (p : ProcedureTree). IsBlockSpelled p.body) u.procedures

-- so of all bodies of a program
abbrev pub AreBodiesSpelled : Tree → Type 0
AreBodiesSpelled t = Each IsUnitSpelled t.units

module _ (look : ℕ → ℕ → Lookup) (held : ℕ → Option Holder) where
  abbrev mutual
    pub IsPlaced : (scope next : ℕ) → StatementTree → Type 0
    IsPlaced scope next (acts p a) = IsActWritten a
    IsPlaced scope next (acts_if p e q a) = IsWritten e × IsActWritten a
    IsPlaced scope next (branches bs other) = AreBranchesPlaced scope next bs × IsOtherPlaced scope (next + length (constructs_of_branches bs)) other
    IsPlaced scope next (selects p e cs) = IsWritten e × AreCasesPlaced scope next cs
    IsPlaced scope next (repeats p control body) = IsControlWritten control × IsBlockPlaced scope next body
    IsPlaced scope next (associates p xs body) =
        Each (λ (x : AssociationTree). IsWritten x.selector) xs × Opens look held scope next xs × IsBlockPlaced next (next + 1) body

    pub IsBlockPlaced : (scope next : ℕ) → Block → Type 0
    IsBlockPlaced scope next no_statements = ⊤
    IsBlockPlaced scope next (statements x b) = IsPlaced scope next x × IsBlockPlaced scope (next + length (constructs_of x)) b

    pub AreBranchesPlaced : (scope next : ℕ) → Branches → Type 0
    AreBranchesPlaced scope next no_branches = ⊤
    AreBranchesPlaced scope next (branch p e b bs) =
        IsWritten e × IsBlockPlaced scope next b × AreBranchesPlaced scope (next + length (constructs_of_block b)) bs

    pub IsOtherPlaced : (scope next : ℕ) → Alternative → Type 0
    IsOtherPlaced scope next no_alternative = ⊤
    IsOtherPlaced scope next (alternative b) = IsBlockPlaced scope next b

    pub AreCasesPlaced : (scope next : ℕ) → Cases → Type 0
    AreCasesPlaced scope next no_cases = ⊤
    AreCasesPlaced scope next (case_block p vs b cs) = IsBlockPlaced scope next b × AreCasesPlaced scope (next + length (constructs_of_block b)) cs
