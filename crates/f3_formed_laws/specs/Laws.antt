-- What breaks no rule on types makes sense in the elaborated program: as f3_meaning_whole's Formed says it.
use Rattle.std.specs.Prelude.{◌≡◌, ⊤, ℕ, true, List, [], length, Contains, Option, None, Some}
use Rattle.std.specs.List.{flat_map}
use Rattle.f3_lookups.specs.declared.lookup.Lookup.{Lookup}
use Rattle.f3_access.specs.Access.{IsVisible}
use Rattle.f3_access.specs.Lookups.{Resolves}
use Rattle.f3_rules.specs.declared.breaks.Break.{Break}
use Rattle.f3_scopes.specs.Scopes.{scopes_of}
use Rattle.f3_tree.specs.Expressions as e
use Rattle.f3_tree.specs.Statements.{Act, Block}
use Rattle.f3_tree.specs.Tree.{Tree}
use Rattle.f3_program.specs.declared.declarations.Base.{Base}
use Rattle.f3_program.specs.declared.declarations.Declared.{Declared}
use Rattle.f3_program.specs.declared.declarations.Kind.{Kind}
use Rattle.f3_program.specs.declared.expression.Designator.{Designator}
use Rattle.f3_program.specs.declared.expression.Expression.{Expression}
use Rattle.f3_program.specs.declared.statement.Statement.{Statement}
use Rattle.f3_program.specs.declared.program.Program.{Program}
use Rattle.f3_kinds.specs.declared.said.Form.{Form}
use Rattle.f3_kinds.specs.declared.said.Form.TheVariants.{Computed, Constant, Variable}
use Rattle.f3_kinds.specs.declared.said.Has.{Has}
use Rattle.f3_kinds.specs.Typing.{said, breaks}
use Rattle.f3_meaning_whole.specs.Formed.{alike, of_kind, value_kind, object_kind, is_formed, IsWellFormed}
use Rattle.f3_type_rules.specs.declared.definition.Holder.{Holder}
use Rattle.f3_type_rules.specs.Bodies.{block_breaks}
use Rattle.f3_type_rules.specs.Definitions.{Site, defined, definition_rows}
use Rattle.f3_type_rules.specs.Program.{program_breaks}
use Rattle.f3_type_rules.specs.Statements.{act_breaks}
use Rattle.f3_elaboration.specs.Nodes.{block as block_node}
use Rattle.f3_elaboration.specs.Context.{Surroundings, base}
use Rattle.f3_elaboration.specs.Expressions.{expression, itself}
use Rattle.f3_elaboration.specs.Actions.{kind, held_kind, variable, action}
use Rattle.f3_elaboration.specs.Statements.{block}
use Rattle.f3_elaboration.specs.DeclaredViews.{program_view}
use Rattle.f3_elaboration.specs.Program.{elaborated}
use Rattle.f3_elaboration.specs.Views.{expression_view, designator_view, statement_view}
use Rattle.f3_lawful_laws.specs.Written.{IsWritten, IsActWritten}
use Rattle.f3_lawful_laws.specs.Blocks.{IsBlockPlaced, AreBodiesSpelled}
use Rattle.f3_formed_laws.specs.Agreement.{AgreesInKinds}
use Rattle.f3_formed_laws.specs.Entities.{KindsAgree}
use Rattle.f3_formed_laws.specs.Levels.{IsLevelled, IsActLevelled, IsBlockLevelled, AreBodiesLevelled}

-- An expression of the program makes sense: it has the rank that is said of it, is no allocatable, and its type agrees with the one that is
-- said. Integers of either kind agree, since a literal does not tell its own.
pub record HasKind (p : Program) (variables : List Declared) (names : List Kind) (s : Surroundings) (x : Expression) (said : Option Has) : Type 0 where
  pub has : Has
  pub is_said : said ≡ Some has
  pub of : Base
  pub kind : value_kind p variables names x ≡ Some (of_kind of has.rank)
  pub agrees : alike of (base s has.data_type) ≡ true

-- an expression that breaks no rule of phase 6 makes sense, as it is said
abbrev pub ExpressionsHaveKinds : Type 0
ExpressionsHaveKinds = (p : Program) (variables : List Declared) (names : List Kind) (s : Surroundings) → AgreesInKinds p variables names s
    → (e : e.Tree) → IsWritten e → IsLevelled e → breaks s.context e ≡ [] → (x : Expression) → expression_view x ≡ expression s e
    → HasKind p variables names s x (said s.context e).has

-- the form of a variable or a part of one
abbrev pub IsForm : Form → Type 0
IsForm (Variable e) = ⊤
IsForm Computed = ⊥
IsForm Constant = ⊥

abbrev pub IsVariable : Option Has → Type 0
IsVariable None = ⊥
IsVariable (Some h) = IsForm h.form

-- a designator of a variable that breaks no rule is of the very type and rank that are said; so is a whole allocatable itself
abbrev pub VariablesHaveKinds : Type 0
VariablesHaveKinds = (p : Program) (variables : List Declared) (names : List Kind) (s : Surroundings) → AgreesInKinds p variables names s
    → (v : e.Parts) → IsWritten (e.designator v) → IsLevelled (e.designator v) → breaks s.context (e.designator v) ≡ []
    → IsVariable (said s.context (e.designator v)).has
    → ((d : Designator) → designator_view d ≡ variable s v → object_kind p variables names d ≡ Some (held_kind (kind s (e.designator v))))
    × ((d : Designator) → designator_view d ≡ itself (variable s v) → object_kind p variables names d ≡ Some (kind s (e.designator v)))

-- An action that breaks no rule of phase 6, and defines variables alone (phase 7), makes sense.
abbrev pub ActionsMakeSense : Type 0
ActionsMakeSense = (p : Program) (variables : List Declared) (names : List Kind) (s : Surroundings) → AgreesInKinds p variables names s
    → (site : Site) → site.context ≡ s.context
    → (a : Act) → IsActWritten a → IsActLevelled a → act_breaks s.context a ≡ [] → flat_map (definition_rows site) (defined s.context a) ≡ []
    → (x : Statement) → statement_view x ≡ action s a → is_formed p variables x names ≡ true

-- So do blocks, with the constructs in them. What is asked of a construct's names beside their place does not matter here.
abbrev pub BlocksMakeSense : Type 0
BlocksMakeSense = (p : Program) (variables : List Declared) (names : List Kind) (s : Surroundings) → AgreesInKinds p variables names s
    → s.lent ≡ length names → (site : Site) → site.context ≡ s.context → (held : ℕ → Option Holder)
    → (next : ℕ) (b : Block) → IsBlockPlaced (s.context).look held (s.context).scope next b → IsBlockLevelled b → block_breaks site next b ≡ []
    → (x : Statement) → statement_view x ≡ block_node (block s next b) → is_formed p variables x names ≡ true

-- So a program that breaks no rule of phases 5 to 7 makes sense as a whole, where the rules and the program are of the same kinds:
-- whatever its names are resolved to, and along whatever order of its units in which each stands.
abbrev pub UnbrokenMakesSense : Type 0
UnbrokenMakesSense = (t : Tree) (look : ℕ → ℕ → Lookup) (order : List ℕ) (p : Program) → AreBodiesSpelled t → AreBodiesLevelled t
    → ((scope symbol : ℕ) → Resolves (look scope symbol) (IsVisible (scopes_of t) scope symbol)) → program_view p ≡ elaborated t look order
    → KindsAgree p t look order → ((b : Break) → Contains (program_breaks t look order) b → ⊥) → IsWellFormed p
