-- Statements that break no rule have in the elaborated program what code of known kinds asks: as f3_cell_kinds' Sense says it.
use Rattle.std.specs.Prelude.{◌≡◌, ℕ, true, [], length, Option}
use Rattle.f3_tree.specs.Statements.{Act, Block}
use Rattle.f3_program.specs.declared.statement.Statement.{Statement}
use Rattle.f3_program.specs.declared.program.Program.{Program}
use Rattle.f3_cell_kinds.specs.Types.{Scope}
use Rattle.f3_cell_kinds.specs.Sense.{statement_fits}
use Rattle.f3_type_rules.specs.declared.definition.Holder.{Holder}
use Rattle.f3_type_rules.specs.Bodies.{block_breaks}
use Rattle.f3_type_rules.specs.Definitions.{Site}
use Rattle.f3_type_rules.specs.Statements.{act_breaks}
use Rattle.f3_elaboration.specs.Nodes.{block as block_node}
use Rattle.f3_elaboration.specs.Context.{Surroundings}
use Rattle.f3_elaboration.specs.Actions.{action}
use Rattle.f3_elaboration.specs.Statements.{block}
use Rattle.f3_elaboration.specs.Views.{statement_view}
use Rattle.f3_lawful_laws.specs.Written.{IsActWritten}
use Rattle.f3_lawful_laws.specs.Blocks.{IsBlockPlaced}
use Rattle.f3_formed_laws.specs.Agreement.{AgreesInKinds}
use Rattle.f3_formed_laws.specs.Levels.{IsActLevelled, IsBlockLevelled}
use Rattle.f3_fitting_laws.specs.Bounded.{HasWords, IsActBounded, IsBlockBounded}

-- so an action that breaks no rule of phase 6
abbrev pub ActionsFit : Type 0
ActionsFit = (p : Program) (c : Scope) (s : Surroundings) → AgreesInKinds p c.variables c.names s → HasWords s.context
    → (a : Act) → IsActWritten a → IsActLevelled a → IsActBounded a → act_breaks s.context a ≡ [] → (x : Statement) → statement_view x ≡ action s a
    → statement_fits p x c ≡ true

-- So do blocks, with the constructs in them. What is asked of a construct's names beside their place does not matter here.
abbrev pub BlocksFit : Type 0
BlocksFit = (p : Program) (c : Scope) (s : Surroundings) → AgreesInKinds p c.variables c.names s → HasWords s.context
    → s.lent ≡ length c.names → (site : Site) → site.context ≡ s.context → (held : ℕ → Option Holder)
    → (next : ℕ) (b : Block) → IsBlockPlaced (s.context).look held (s.context).scope next b → IsBlockLevelled b → IsBlockBounded b → block_breaks site next b ≡ []
    → (x : Statement) → statement_view x ≡ block_node (block s next b) → statement_fits p x c ≡ true
