-- What breaks no rule in a pure procedure calls pure procedures alone.
use Rattle.std.specs.Prelude.{◌≡◌, ℕ, Bool, true, List, [], Some}
use Rattle.f3_tree.specs.Statements.{Block}
use Rattle.f3_program.specs.declared.statement.Statement.{Statement}
use Rattle.f3_kinds.specs.declared.things.Dummy.{Dummy}
use Rattle.f3_kinds.specs.Things.{subroutine}
use Rattle.f3_type_rules.specs.Bodies.{block_breaks}
use Rattle.f3_type_rules.specs.Definitions.{Site}
use Rattle.f3_elaboration.specs.Context.{Surroundings}
use Rattle.f3_elaboration.specs.Nodes.{block as block_node}
use Rattle.f3_elaboration.specs.Statements.{block}
use Rattle.f3_elaboration.specs.Views.{statement_view}
use Rattle.f3_purity_laws.specs.Calls.{CallsPure}

-- what the rules take for a pure subroutine has the number of a pure procedure
abbrev pub PureOnesArePure : (pure : ℕ → Bool) → Surroundings → Type 0
PureOnesArePure pure s = (e : ℕ) (ds : List (ℕ × Dummy)) → (s.context).nature e ≡ Some (subroutine true ds) → pure (s.procedure e) ≡ true

-- A block of a pure procedure that breaks no rule calls pure procedures alone, and neither prints nor stops, once elaborated (rule D6).
abbrev pub BlocksCallPure : Type 0
BlocksCallPure = (pure : ℕ → Bool) (s : Surroundings) → PureOnesArePure pure s → (site : Site) → site.context ≡ s.context → site.is_pure ≡ true
    → (next : ℕ) (b : Block) → block_breaks site next b ≡ [] → (x : Statement) → statement_view x ≡ block_node (block s next b) → CallsPure pure x
