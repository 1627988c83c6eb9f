-- What an unbroken program declares is initialized with constants of its types: as f3_cell_kinds' Sense says it.
use Rattle.std.specs.Prelude.{◌≡◌, ℕ, true, List, ◌∷◌, Some, slice_get}
use Rattle.f3_lookups.specs.declared.lookup.Lookup.{Lookup}
use Rattle.f3_tree.specs.Tree.{Tree}
use Rattle.f3_program.specs.declared.declarations.Component.{Component}
use Rattle.f3_program.specs.declared.declarations.Derived.{Derived}
use Rattle.f3_program.specs.declared.program.Procedure.{Procedure}
use Rattle.f3_program.specs.declared.program.Program.{Program}
use Rattle.f3_program.specs.declared.program.Static as x
use Rattle.f3_meaning_whole.specs.Exec.{declared_in}
use Rattle.f3_meaning_whole.specs.Formed.{all}
use Rattle.f3_cell_kinds.specs.Sense.{initial_fits}
use Rattle.f3_elaboration.specs.DeclaredViews.{program_view}
use Rattle.f3_elaboration.specs.Program.{elaborated}
use Rattle.f3_agreement_laws.specs.Unbroken.{IsUnbroken}
use Rattle.f3_initial_laws.specs.Written.{AreDeclarationsWritten}

-- Components, variables that live for the whole run, and those of the activations of procedures and of the main program: where
-- declarations are such as a source may spell, and break no rule.
abbrev pub InitialsAreOfTypes : Type 0
InitialsAreOfTypes = (t : Tree) (look : ℕ → ℕ → Lookup) (order : List ℕ) (p : Program) → AreDeclarationsWritten t → IsUnbroken t look order
    → program_view p ≡ elaborated t look order
    → ((k : ℕ) (y : Derived) → slice_get p.types.items k ≡ Some y → all (λ (c : Component). initial_fits c.declared) y.components.items ≡ true)
    × (all (λ (y : x.Static). initial_fits y.declared) p.statics.items ≡ true)
    × (all (λ (q : Procedure). all initial_fits (declared_in q)) (p.main ∷ p.procedures.items) ≡ true)
