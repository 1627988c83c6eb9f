-- What the tables say of the dummies and the result of a procedure, by what it declares.
use Rattle.std.specs.Prelude.{ℕ, [], Option, None, Some}
use Rattle.f3_scopes.specs.Scopes.{name_or}
use Rattle.f3_tree.specs.declared.expression.Name.{Name}
use Rattle.f3_tree.specs.declared.program.ProcedureKind.{ProcedureKind}
use Rattle.f3_tree.specs.declared.program.ProcedureKind.TheVariants.{Subroutine, Function}
use Rattle.f3_tree.specs.Declarations.{DeclarationTree, EntityTree, declaration_view, entity_view}
use Rattle.f3_program.specs.declared.program.Intent.TheVariants.{In}
use Rattle.f3_type_rules.specs.Names.{Declared, undeclared}
use Rattle.f3_numbers.specs.Table.{kind_at}
use Rattle.f3_elaboration.specs.Nodes.{DeclaredNode, DummyNode}
use Rattle.f3_declaration_nodes.specs.declared.whole.Whole.{Whole}
use Rattle.f3_declaration_nodes.specs.Tables.{declared_by}
use Rattle.f3_declaration_nodes.specs.Variables.{dummy_by, plain_by}
use Rattle.f3_variable_nodes.specs.declared.declarations.Found.{Found}

abbrev pub found_view : Found → Declared
found_view f = (declaration_view f.declaration.now, entity_view f.entity.now)

-- a declared name by its symbol
abbrev pub entry_of : DeclarationTree → EntityTree → ℕ × Declared
entry_of d x = ((x.name).symbol, (d, x))

abbrev pub undeclared_by : Whole → DeclaredNode
undeclared_by t = record { kind = kind_at t.numbers.now undeclared; dimensions = []; initial = [] }

-- a dummy by its declaration, where there is one
abbrev pub dummy_from : Whole → (unit scope : ℕ) → Option Declared → DummyNode
dummy_from t u s (Some x) = dummy_by t u s x
dummy_from t u s None = record { kind = kind_at t.numbers.now undeclared; intent = In; lowers = [] }

abbrev pub result_from : Whole → (unit scope : ℕ) → Option Declared → DeclaredNode
result_from t u s (Some x) = declared_by t u s x
result_from t u s None = undeclared_by t

-- the result of a function, of the type before it or by its declaration
abbrev pub result_by : Whole → (unit scope : ℕ) → (ℕ → Option Declared) → ProcedureKind → Name → Option DeclaredNode
result_by t u s declared Subroutine n = None
result_by t u s declared (Function (Some x) outcome) n = Some (plain_by t s x)
result_by t u s declared (Function None outcome) n = Some (result_from t u s (declared (name_or outcome n).symbol))
