-- The breaks of the rules on names (phases 3 and 4).
use Rattle.std.specs.Prelude.{◌≡◌, ◌⊎◌, ℕ, List, Contains, Some, slice_get}
use Rattle.f3_rules.specs.declared.breaks.Break.{Break}
use Rattle.f3_rules.specs.declared.rule.Rule.TheVariants.{N1, N2, N4, N7}
use Rattle.f3_tree.specs.declared.expression.Name.{Name}
use Rattle.f3_scopes.specs.declared.outline.ScopeKind.TheVariants.{Module}
use Rattle.f3_scopes.specs.declared.outline.UseItem.{UseItem}
use Rattle.f3_scopes.specs.Outlines.{Own, Using, Listed, Scope}
use Rattle.f3_access.specs.Access.{IsModule, IsPrivate, IsUsed, IsVisible}
pub use Rattle.f3_breaks.specs.At.{at}
use Rattle.f3_scope_rules.specs.ScopeBreaks.{ScopeBreaks}
use Rattle.f3_name_rules.specs.References as references
pub use Rattle.f3_name_rules.specs.References.{text_of}

-- A USE of the module of this number, in some scope, has an item with this use-name (11.2.1).
abbrev pub UsesName : List Scope → ℕ → Name → Type 0
UsesName scopes source name =
    (scope : Scope) × Contains scopes scope × (u : Using) × Contains scope.uses u
    × IsModule scopes source u.from.symbol × (i : UseItem) × Contains u.items i × (i.original ≡ name)

-- N1: a use-name that is not visible in the module; the use-name (11.2.1)
abbrev pub NoSuchName : List Scope → Break → Type 0
NoSuchName scopes b =
    (source : ℕ) × (name : Name) × UsesName scopes source name
    × ((entity : ℕ) → IsVisible scopes source name.symbol entity → ⊥) × (b ≡ at 3 N1 name)

-- N2: a use-name that is visible in the module but private there; the use-name (11.2.1, 5.2.1)
abbrev pub PrivateThere : List Scope → Break → Type 0
PrivateThere scopes b = (source : ℕ) × (name : Name) × UsesName scopes source name × (entity : ℕ) × IsVisible scopes source name.symbol entity
    × (from : Scope) × (slice_get scopes source ≡ Some from) × IsPrivate from name.symbol × (b ≡ at 3 N2 name)

-- the scope declares the name, or a PROTECTED statement of it names it
pub data GivesAttribute (scope : Scope) (name : Name) : Type 0 where
  declared : (d : Own) → Contains scope.declared d → name ≡ d.name → GivesAttribute scope name
  protects : Contains scope.protects name → GivesAttribute scope name

-- N4: a declaration, or a PROTECTED, of a name that a USE of the same scope brings; the name (11.2.1)
abbrev pub AttributeOnUsed : List Scope → Break → Type 0
AttributeOnUsed scopes b = (number : ℕ) × (scope : Scope) × (slice_get scopes number ≡ Some scope) × (name : Name) × GivesAttribute scope name
    × (entity : ℕ) × IsUsed scopes number name.symbol entity × (b ≡ at 4 N4 name)

-- N7: a name in the list of a PUBLIC or PRIVATE that is not visible in the module; the name (5.2.1)
abbrev pub AccessToNothing : List Scope → Break → Type 0
AccessToNothing scopes b = (number : ℕ) × (scope : Scope) × (slice_get scopes number ≡ Some scope) × (scope.kind ≡ Module)
    × (s : Listed) × Contains scope.accesses s × (name : Name) × Contains s.names name
    × ((entity : ℕ) → IsVisible scopes number name.symbol entity → ⊥) × (b ≡ at 4 N7 name)

-- the specification part or the header of the scope of this number refers to the name
abbrev pub RefersTo : List Scope → ℕ → Name → Type 0
RefersTo scopes number name = (scope : Scope) × (slice_get scopes number ≡ Some scope) × Contains scope.references name

-- N10 at such a reference
abbrev pub NotAccessible : List Scope → List (List ℕ) → Break → Type 0
NotAccessible scopes texts b = references.NotAccessible 4 scopes (RefersTo scopes) texts b

-- N11 at such a reference
abbrev pub OfSeveral : List Scope → Break → Type 0
OfSeveral scopes b = references.OfSeveral 4 scopes (RefersTo scopes) b

-- the breaks of the rules on what is visible, where these are the texts of the names
pub data AccessBreaks (scopes : List Scope) (texts : List (List ℕ)) (b : Break) : Type 0 where
  no_such_name : NoSuchName scopes b → AccessBreaks scopes texts b
  private_there : PrivateThere scopes b → AccessBreaks scopes texts b
  attribute_on_used : AttributeOnUsed scopes b → AccessBreaks scopes texts b
  access_to_nothing : AccessToNothing scopes b → AccessBreaks scopes texts b
  not_accessible : NotAccessible scopes texts b → AccessBreaks scopes texts b
  of_several : OfSeveral scopes b → AccessBreaks scopes texts b

-- the breaks of phases 3 and 4
abbrev pub NameBreaks : List Scope → List (List ℕ) → Break → Type 0
NameBreaks scopes texts b = ScopeBreaks scopes b ⊎ AccessBreaks scopes texts b
