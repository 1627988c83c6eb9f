-- The breaks of the rules on what one scope declares (phase 4).
use Rattle.std.specs.Prelude.{◌≡◌, ◌≢◌, ◌⊎◌, ℕ, true, List, [], ◌∷◌, ◌++◌, Some, Contains, map, drop, if◌then◌else◌, option_to_list}
use Rattle.f3_places.specs.declared.source.Place.{Place}
use Rattle.f3_rules.specs.declared.breaks.Break.{Break}
use Rattle.f3_rules.specs.declared.rule.Rule.{Rule}
use Rattle.f3_rules.specs.declared.rule.Rule.TheVariants.{N3, N5, N6, N8, N9, N10}
use Rattle.f3_tree.specs.declared.expression.Name.{Name}
use Rattle.f3_tree.specs.declared.declaration.Accessibility.{Accessibility}
use Rattle.f3_tree.specs.declared.declaration.Intent.{Intent}
use Rattle.f3_tree.specs.declared.declaration.Intent.TheVariants.{In}
use Rattle.f3_breaks.specs.At as breaks
use Rattle.f3_scopes.specs.declared.outline.ScopeKind.TheVariants.{Module, Subroutine, Function}
use Rattle.f3_scopes.specs.declared.outline.EntityKind.TheVariants.{Variable}
use Rattle.f3_scopes.specs.Outlines.{Own, Listed, Part, Scope}

-- a rule is broken at a name
abbrev pub at : Rule → Name → Break
at rule name = breaks.at 4 rule name

-- a rule is broken at a keyword
abbrev pub at_keyword : Rule → Place → Break
at_keyword rule place = breaks.at_keyword 4 rule place

-- The name stands in the list behind the same name.
abbrev pub Again : List Name → Name → Type 0
Again names later =
    (front : List Name) × (rest : List Name) × (names ≡ front ++ later ∷ rest) × (earlier : Name)
    × Contains front earlier × (earlier.symbol ≡ later.symbol)

abbrev pub declared_names : Scope → List Name
declared_names scope = map (λ (d : Own). d.name) scope.declared

-- the names of a header in the order written: that of the procedure, the dummy arguments, that behind RESULT (12.5.2)
abbrev pub header_names : Scope → List Name
header_names scope = scope.name ∷ (scope.dummies ++ option_to_list scope.outcome)

abbrev pub component_names : List Part → List Name
component_names parts = map (λ (c : Part). c.name) parts

-- The name of the procedure does not mean its result: it is a subroutine, or a function with RESULT (12.5.2.1).
abbrev pub HasOtherResult : Scope → Type 0
HasOtherResult scope = (scope.kind ≡ Subroutine) ⊎ ((scope.kind ≡ Function) × (r : Name) × (scope.outcome ≡ Some r))

-- N3: a name that the scope has declared before, in its declarations or in the header; the declaration of a
-- procedure's own name, unless that means its result; a later component of a type; the later name (16.2, 4.5.3)
pub data DeclaredTwice (scope : Scope) (b : Break) : Type 0 where
  in_declarations : (later : Name) → Again (declared_names scope) later → b ≡ at N3 later → DeclaredTwice scope b
  in_header : (later : Name) → Again (header_names scope) later → b ≡ at N3 later → DeclaredTwice scope b
  own_name : (d : Own) → HasOtherResult scope → Contains scope.declared d → d.name.symbol ≡ scope.name.symbol → b ≡ at N3 d.name → DeclaredTwice scope b
  component : (parts : List Part) (later : Name) → Contains scope.types parts → Again (component_names parts) later → b ≡ at N3 later → DeclaredTwice scope b

-- N5: PUBLIC or PRIVATE, statement or attribute, in a procedure or a program; the keyword (5.2.1: only in a module)
pub data AccessOutside (scope : Scope) (b : Break) : Type 0 where
  statement : (s : Listed) → scope.kind ≢ Module → Contains scope.accesses s → b ≡ at_keyword N5 s.place → AccessOutside scope b
  attribute : (place : Place) → scope.kind ≢ Module → Contains scope.access_attributes place → b ≡ at_keyword N5 place → AccessOutside scope b

-- A later PUBLIC or PRIVATE without a list.
abbrev pub DefaultAgain : List Listed → Listed → Type 0
DefaultAgain statements later = (front : List Listed) × (rest : List Listed) × (statements ≡ front ++ later ∷ rest) × (later.names ≡ [])
    × (earlier : Listed) × Contains front earlier × (earlier.names ≡ [])

-- the component has an access attribute twice
abbrev pub HasTwoAccesses : Part → Type 0
HasTwoAccesses c = (first : Accessibility) × (second : Accessibility) × (others : List Accessibility) × (c.accesses ≡ first ∷ second ∷ others)

-- N6: the later of two accesses that are given to a name, or to a component; the name. A later PUBLIC or PRIVATE
-- without a list in a module; the keyword (5.2.1, 5.1.2.1)
pub data AccessTwice (scope : Scope) (b : Break) : Type 0 where
  to_name : (later : Name) → Again scope.given later → b ≡ at N6 later → AccessTwice scope b
  to_component : (parts : List Part) (c : Part) → Contains scope.types parts → Contains parts c → HasTwoAccesses c → b ≡ at N6 c.name → AccessTwice scope b
  of_module : (later : Listed) → scope.kind ≡ Module → DefaultAgain scope.accesses later → b ≡ at_keyword N6 later.place → AccessTwice scope b

-- the scope declares a variable of this name
abbrev pub DeclaresVariable : Scope → ℕ → Type 0
DeclaresVariable scope symbol = (d : Own) × Contains scope.declared d × (d.kind ≡ Variable) × (d.name.symbol ≡ symbol)

-- a PROTECTED, statement or attribute, names the name
pub data IsProtecting (scope : Scope) (n : Name) : Type 0 where
  in_statement : Contains scope.protects n → IsProtecting scope n
  as_attribute : (d : Own) → Contains scope.declared d → d.is_protected ≡ true → n ≡ d.name → IsProtecting scope n

-- N8: PROTECTED in a procedure or a program, or of a name that is no variable declared in the module; the name (5.1.2.12)
abbrev pub ProtectedMisplaced : Scope → Break → Type 0
ProtectedMisplaced scope b = (n : Name) × IsProtecting scope n × ((scope.kind ≢ Module) ⊎ (DeclaresVariable scope n.symbol → ⊥)) × (b ≡ at N8 n)

-- what a specification part declares: all but the result that a prefix types, which comes first
abbrev pub specified : Scope → List Own
specified scope = if scope.is_typed then drop 1 scope.declared else scope.declared

-- one of the dummy arguments has this name
abbrev pub IsDummy : Scope → ℕ → Type 0
IsDummy scope symbol = (n : Name) × Contains scope.dummies n × (n.symbol ≡ symbol)

-- N9: a declared dummy argument without INTENT; INTENT on something else; a dummy argument of a function that is not
-- INTENT(IN); the declared name (5.1.2.7, own rules)
pub data IntentMisplaced (scope : Scope) (b : Break) : Type 0 where
  missing : (d : Own) → Contains (specified scope) d → IsDummy scope d.name.symbol → d.intents ≡ [] → b ≡ at N9 d.name → IntentMisplaced scope b
  elsewhere : (d : Own) → Contains (specified scope) d → (IsDummy scope d.name.symbol → ⊥) → d.intents ≢ [] → b ≡ at N9 d.name → IntentMisplaced scope b
  of_function : (d : Own) (i : Intent) → Contains (specified scope) d → IsDummy scope d.name.symbol
      → scope.kind ≡ Function → Contains d.intents i → i ≢ In → b ≡ at N9 d.name → IntentMisplaced scope b

-- the scope declares the name
abbrev pub Declares : Scope → ℕ → Type 0
Declares scope symbol = (d : Own) × Contains scope.declared d × (d.name.symbol ≡ symbol)

-- N10: a dummy argument or a result that is not declared; its name in the header (5.3: there is no implicit typing)
abbrev pub Undeclared : Scope → Break → Type 0
Undeclared scope b = (n : Name) × (Contains scope.dummies n ⊎ (scope.result ≡ Some n)) × (Declares scope n.symbol → ⊥) × (b ≡ at N10 n)

-- the breaks of one scope
pub data BreaksOf (scope : Scope) (b : Break) : Type 0 where
  declared_twice : DeclaredTwice scope b → BreaksOf scope b
  access_outside : AccessOutside scope b → BreaksOf scope b
  access_twice : AccessTwice scope b → BreaksOf scope b
  protected_misplaced : ProtectedMisplaced scope b → BreaksOf scope b
  intent_misplaced : IntentMisplaced scope b → BreaksOf scope b
  undeclared : Undeclared scope b → BreaksOf scope b

-- the breaks of all scopes
abbrev pub ScopeBreaks : List Scope → Break → Type 0
ScopeBreaks scopes b = (scope : Scope) × Contains scopes scope × BreaksOf scope b
