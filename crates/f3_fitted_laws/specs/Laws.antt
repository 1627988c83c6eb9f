-- What breaks no rule has all that code of known kinds asks beside IsWellFormed: f3_cell_kinds' MakesSense.
use Rattle.std.specs.Prelude.{◌≡◌, ℕ, true, List, Some, slice_get}
use Rattle.f3_lookups.specs.declared.lookup.Lookup.{Lookup}
use Rattle.f3_tree.specs.Tree.{Tree}
use Rattle.f3_program.specs.declared.declarations.Base.TheVariants as base
use Rattle.f3_program.specs.declared.declarations.Derived.{Derived}
use Rattle.f3_program.specs.declared.program.Program.{Program}
use Rattle.f3_meaning_whole.specs.Permitted.{IsLawful}
use Rattle.f3_meaning_whole.specs.Formed.{all, IsWellFormed}
use Rattle.f3_cell_kinds.specs.Sense.{final_fits, MakesSense}
use Rattle.f3_elaboration.specs.Declarations.{context}
use Rattle.f3_elaboration.specs.DeclaredViews.{program_view}
use Rattle.f3_elaboration.specs.Program.{elaborated}
use Rattle.f3_lawful_laws.specs.Blocks.{AreBodiesSpelled}
use Rattle.f3_lawful_laws.specs.Entities.{whole_of, EntitiesAgree}
use Rattle.f3_formed_laws.specs.Entities.{KindsAgree}
use Rattle.f3_formed_laws.specs.Levels.{AreBodiesLevelled}
use Rattle.f3_agreement_laws.specs.Unbroken.{IsUnbroken}
use Rattle.f3_fitting_laws.specs.Bounded.{HasWords, AreBodiesBounded}
use Rattle.f3_initial_laws.specs.Written.{AreDeclarationsWritten}

-- the values of named constants have at most 64 bits, whatever is written
abbrev pub ValuesAreWords : Type 0
ValuesAreWords = (t : Tree) (look : ℕ → ℕ → Lookup) (order : List ℕ) (unit scope : ℕ) → HasWords (context (whole_of t look order) unit scope)

-- the final subroutines of a lawful program that is well formed can be called with objects of their types
abbrev pub FinalsFit : Type 0
FinalsFit = (p : Program) → IsWellFormed p → IsLawful p → (k : ℕ) (y : Derived) → slice_get p.types.items k ≡ Some y
    → all (final_fits p (base.Derived k)) y.finals.items ≡ true

-- So a program that breaks no rule fits as a whole, where the rules and the program are of the same entities and the same kinds, and its
-- bodies and declarations are such as a source may spell.
abbrev pub UnbrokenFits : Type 0
UnbrokenFits = (t : Tree) (look : ℕ → ℕ → Lookup) (order : List ℕ) (p : Program) → AreBodiesSpelled t → AreBodiesLevelled t → AreBodiesBounded t
    → AreDeclarationsWritten t → IsUnbroken t look order → program_view p ≡ elaborated t look order → EntitiesAgree p t look order → KindsAgree p t look order
    → MakesSense p
