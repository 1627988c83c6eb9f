-- What breaks no rule is lawful, where the rules and the program speak of the same entities.
use Rattle.std.specs.Prelude.{◌≡◌, ℕ, true, List, [], Contains, Option}
use Rattle.std.specs.List.{flat_map}
use Rattle.f3_lookups.specs.declared.lookup.Lookup.{Lookup}
use Rattle.f3_access.specs.Access.{IsVisible}
use Rattle.f3_access.specs.Lookups.{Resolves}
use Rattle.f3_rules.specs.declared.breaks.Break.{Break}
use Rattle.f3_scopes.specs.Scopes.{scopes_of}
use Rattle.f3_tree.specs.Expressions as e
use Rattle.f3_tree.specs.Statements.{Act, Block}
use Rattle.f3_tree.specs.Tree.{Tree}
use Rattle.f3_program.specs.declared.expression.Expression.{Expression}
use Rattle.f3_program.specs.declared.statement.Statement.{Statement}
use Rattle.f3_program.specs.declared.program.Program.{Program}
use Rattle.f3_kinds.specs.Rows.{has_type}
use Rattle.f3_kinds.specs.Typing.{said, breaks}
use Rattle.f3_meaning_whole.specs.Permitted.{Scope, MayValue, MayExec, IsLawful}
use Rattle.f3_type_rules.specs.declared.definition.Holder.{Holder}
use Rattle.f3_type_rules.specs.Bodies.{block_breaks}
use Rattle.f3_type_rules.specs.Definitions.{Site, defined, definition_rows}
use Rattle.f3_type_rules.specs.Program.{program_breaks}
use Rattle.f3_type_rules.specs.Statements.{act_breaks}
use Rattle.f3_elaboration.specs.Nodes.{block as block_node}
use Rattle.f3_elaboration.specs.Context.{Surroundings}
use Rattle.f3_elaboration.specs.Expressions.{expression}
use Rattle.f3_elaboration.specs.Actions.{action}
use Rattle.f3_elaboration.specs.Statements.{block}
use Rattle.f3_elaboration.specs.DeclaredViews.{program_view}
use Rattle.f3_elaboration.specs.Program.{elaborated}
use Rattle.f3_elaboration.specs.Views.{expression_view, statement_view}
use Rattle.f3_lawful_laws.specs.Written.{IsWritten, IsActWritten}
use Rattle.f3_lawful_laws.specs.Agreement.{Agrees, Allows, Lends}
use Rattle.f3_lawful_laws.specs.Blocks.{IsBlockPlaced, AreBodiesSpelled}
use Rattle.f3_lawful_laws.specs.Entities.{EntitiesAgree}

-- an expression that breaks no rule has a type
abbrev pub ExpressionsHaveTypes : Type 0
ExpressionsHaveTypes = (p : Program) (scope : Scope) (s : Surroundings) → Agrees p scope s
    → (e : e.Tree) → IsWritten e → breaks s.context e ≡ [] → has_type (said s.context e).has ≡ true

-- in one that breaks no rule private components are selected in their types' modules alone, and arguments are of their dummies' types
abbrev pub ExpressionsMayStand : Type 0
ExpressionsMayStand = (p : Program) (scope : Scope) (s : Surroundings) → Agrees p scope s
    → (e : e.Tree) → IsWritten e → breaks s.context e ≡ [] → (x : Expression) → expression_view x ≡ expression s e → MayValue p scope x

-- in an action that breaks no rule definition contexts have definable variables alone, of the types that are told
abbrev pub ActionsMayRun : Type 0
ActionsMayRun = (p : Program) (scope : Scope) (s : Surroundings) → Agrees p scope s
    → (site : Site) (held : ℕ → Option Holder) → Allows p scope s site held
    → (a : Act) → IsActWritten a → act_breaks s.context a ≡ [] → flat_map (definition_rows site) (defined s.context a) ≡ []
    → (x : Statement) → statement_view x ≡ action s a → MayExec p x scope

-- so of blocks, with the constructs in them
abbrev pub BlocksMayRun : Type 0
BlocksMayRun = (p : Program) (scope : Scope) (s : Surroundings) → Agrees p scope s → Lends scope s
    → (site : Site) (held : ℕ → Option Holder) → Allows p scope s site held
    → (next : ℕ) (b : Block) → IsBlockPlaced (s.context).look held (s.context).scope next b → block_breaks site next b ≡ []
    → (x : Statement) → statement_view x ≡ block_node (block s next b) → MayExec p x scope

-- So a program that breaks no rule of phases 5 to 7 is lawful, where the rules and the program speak of the same entities: whatever
-- its names are resolved to, and along whatever order of its units.
abbrev pub UnbrokenIsLawful : Type 0
UnbrokenIsLawful = (t : Tree) (look : ℕ → ℕ → Lookup) (order : List ℕ) (p : Program) → AreBodiesSpelled t
    → ((scope symbol : ℕ) → Resolves (look scope symbol) (IsVisible (scopes_of t) scope symbol)) → program_view p ≡ elaborated t look order
    → EntitiesAgree p t look order → ((b : Break) → Contains (program_breaks t look order) b → ⊥) → IsLawful p
