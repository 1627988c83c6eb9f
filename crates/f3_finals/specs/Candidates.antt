-- What the procedures of a module could finalize (ISO/IEC 1539-1:2004, 4.5.5).
use Rattle.std.specs.Prelude.{◌≡◌, ℕ, ◌+◌, nat_eq, List, [], ◌∷◌, length, Option, None, Some, map, if◌then◌else◌}
use Rattle.f3_scopes.specs.Scopes.{unit_scopes}
use Rattle.f3_tree.specs.Tree.{ProcedureTree, UnitTree}
use Rattle.f3_type_rules.specs.Associates.{constructs_of_block}
use Rattle.f3_type_rules.specs.Names.{Names}
use Rattle.f3_type_rules.specs.Members.{Member}
use Rattle.f3_type_rules.specs.Finals.{header_rank}
use Rattle.f3_finals.specs.declared.candidate.Candidate.{Candidate}

-- the rank of the objects of a type that it could finalize
abbrev pub rank_for : (type : ℕ) → Option Candidate → Option ℕ
rank_for t None = None
rank_for t (Some c) = if nat_eq c.data_type t then Some c.rank else None

abbrev pub member_rank : Names → (type : ℕ) → Member → Option ℕ
member_rank names t m = header_rank names t m ((m.tree).header).kind ((m.tree).header).dummies

-- one for each procedure of a module; for whatever type, it says what the rules say of the procedure
abbrev pub AreCandidates : Names → List Member → List (Option Candidate) → Type 0
AreCandidates names ms cs = (type : ℕ) → map (rank_for type) cs ≡ map (member_rank names type) ms

-- the scope behind those of procedures, of which the first has this scope
abbrev pub behind_procedures : (scope : ℕ) → List ProcedureTree → ℕ
behind_procedures scope [] = scope
behind_procedures scope (p ∷ ps) = behind_procedures (scope + 1 + length (constructs_of_block p.body)) ps

-- The scopes of a unit end where those of its procedures do.
abbrev pub UnitsEndWithProcedures : Type 0
UnitsEndWithProcedures = (scope : ℕ) (u : UnitTree)
    → behind_procedures (scope + 1 + length (constructs_of_block u.body)) u.procedures ≡ scope + length (unit_scopes scope u)
