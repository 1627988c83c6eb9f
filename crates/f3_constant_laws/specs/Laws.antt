-- In what breaks no rule each value of a named constant that is known at a declaration is the one that is known behind all units.
use Rattle.std.specs.Prelude.{ℕ, List}
use Rattle.f3_lookups.specs.declared.lookup.Lookup.{Lookup}
use Rattle.f3_tree.specs.Tree.{Tree}
use Rattle.f3_meaning_whole.specs.Permitted.{Each}
use Rattle.f3_type_rules.specs.Declarations.{unit_next}
use Rattle.f3_type_rules.specs.Program.{nothing_known, units_in}
use Rattle.f3_type_rules.specs.Walks.{after, Known}
use Rattle.f3_lawful_laws.specs.Entities.{units_of, whole_of}
use Rattle.f3_agreement_laws.specs.Unbroken.{IsUnbroken}
use Rattle.f3_constant_laws.specs.Kept.{UnitKept}

-- what the rules know behind all units, in their order
abbrev pub known_behind : Tree → (look : ℕ → ℕ → Lookup) → (order : List ℕ) → Known
known_behind t look order = after (unit_next (whole_of t look order).scene) nothing_known (units_in (units_of t) order)

abbrev pub ConstantsAreKept : Type 0
ConstantsAreKept = (t : Tree) (look : ℕ → ℕ → Lookup) (order : List ℕ) → IsUnbroken t look order
    → Each (UnitKept (whole_of t look order).scene (known_behind t look order)) (units_of t)
