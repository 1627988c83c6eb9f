-- What sources spell, and breaks no rule on scopes, has bodies as the laws on what is lawful ask for them.
use Rattle.std.specs.Prelude.{◌≡◌, List, []}
use Rattle.f3_places.specs.declared.source.Source.{Source}
use Rattle.f3_rules.specs.declared.breaks.Break.{Break}
use Rattle.f3_tree.specs.declared.program.UnitKind.TheVariants.{Module, Program}
use Rattle.f3_tree.specs.Statements.{no_statements}
use Rattle.f3_tree.specs.Tree.{UnitTree, Tree}
use Rattle.f3_parse.specs.Spells.{Spells}
use Rattle.f3_scopes.specs.Scopes.{scopes_of}
use Rattle.f3_scope_rules.specs.ScopeBreaks.{ScopeBreaks}
use Rattle.f3_meaning_whole.specs.Permitted.{Each}
use Rattle.f3_lawful_laws.specs.Blocks.{AreBodiesSpelled}

-- where sources spell a tree, and no scope of it breaks a rule on what it declares, its bodies are spelled
abbrev pub AcceptedBodiesAreSpelled : Type 0
AcceptedBodiesAreSpelled = (sources : List Source) (t : Tree) → Spells t sources
    → ((b : Break) → ScopeBreaks (scopes_of t) b → ⊥) → AreBodiesSpelled t

-- a main program that sources spell has no procedures
abbrev pub ProgramsHaveNoProcedures : Type 0
ProgramsHaveNoProcedures = (sources : List Source) (t : Tree) → Spells t sources
    → Each (λ (u : UnitTree). u.kind ≡ Program → u.procedures ≡ []) t.units

-- a module that sources spell has no executable statements
abbrev pub ModulesHaveNoStatements : Type 0
ModulesHaveNoStatements = (sources : List Source) (t : Tree) → Spells t sources
    → Each (λ (u : UnitTree). u.kind ≡ Module → u.body ≡ no_statements) t.units
