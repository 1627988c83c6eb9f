-- In which phases the rules on types, shapes, constants and definitions are broken.
use Rattle.std.specs.Prelude.{◌≡◌, ℕ, ◌≤◌, List, Option, None, Some}
use Rattle.std.specs.List.{All, flat_map}
use Rattle.f3_lookups.specs.declared.lookup.Lookup.{Lookup}
use Rattle.f3_rules.specs.declared.rule.Rule.{Rule}
use Rattle.f3_rules.specs.declared.rule.Rule.TheVariants.{N10, N11, N12, N13, T1, T2, T3, T4, T5, T6, T7, T8, T9, T10, T11, T12, D1, D2, D3, D4, D5, D6}
use Rattle.f3_rules.specs.declared.breaks.Break.{Break}
use Rattle.f3_rules.specs.Least.{earlier_of, first_of}
use Rattle.f3_tree.specs.Tree.{Tree}
use Rattle.f3_kinds.specs.declared.types.Scalar.{Scalar}
use Rattle.f3_type_rules.specs.Members.{Numbered}
use Rattle.f3_type_rules.specs.Scene.{Scene}
use Rattle.f3_type_rules.specs.Walks.{along, Known}
use Rattle.f3_type_rules.specs.Declarations.{unit_rows, unit_next}
use Rattle.f3_type_rules.specs.Program.{unit_breaks, program_breaks}

abbrev pub BreaksHaveLatePhases : Type 0
BreaksHaveLatePhases = (t : Tree) (look : ℕ → ℕ → Lookup) (order : List ℕ) → All (λ (b : Break). (5 ≤ b.phase) × (b.phase ≤ 7)) (program_breaks t look order)

-- a break of an earlier phase comes before all of them
abbrev pub EarlyBreaksStand : Type 0
EarlyBreaksStand =
    (b : Break) → b.phase ≤ 4 → (t : Tree) (look : ℕ → ℕ → Lookup) (order : List ℕ) → earlier_of (Some b) (first_of (program_breaks t look order)) ≡ Some b

-- The phase in which a rule is broken behind those of names, if it is broken there at all; two rules have one in specification parts and
-- headers, and another in executable statements.
abbrev pub late_phase : (of_two : ℕ) → Rule → Option ℕ
late_phase phase T2 = Some phase
late_phase phase T12 = Some phase
late_phase phase T1 = Some 5
late_phase phase T3 = Some 5
late_phase phase T4 = Some 5
late_phase phase T5 = Some 5
late_phase phase N10 = Some 6
late_phase phase N11 = Some 6
late_phase phase N12 = Some 6
late_phase phase N13 = Some 6
late_phase phase T6 = Some 6
late_phase phase T7 = Some 6
late_phase phase T8 = Some 6
late_phase phase T9 = Some 6
late_phase phase T10 = Some 6
late_phase phase T11 = Some 6
late_phase phase D1 = Some 7
late_phase phase D2 = Some 7
late_phase phase D3 = Some 7
late_phase phase D4 = Some 7
late_phase phase D5 = Some 7
late_phase phase D6 = Some 7
late_phase phase _ = None

abbrev pub HasPhase : (of_two : ℕ) → Break → Type 0
HasPhase phase b = late_phase phase b.rule ≡ Some b.phase

-- in specification parts and headers, whatever is known before them, and in blocks
abbrev pub RulesTellPhases : Type 0
RulesTellPhases =
    ((s : Scene) (k : Known) (units : List Numbered) → All (HasPhase 5) (along (unit_rows s) (unit_next s) k units))
    × ((s : Scene) (values : List (ℕ × Scalar)) (units : List Numbered) → All (HasPhase 6) (flat_map (unit_breaks s values) units))
