-- The variables that the rules on types know where a body begins are those of the elaborated program.
use Rattle.std.specs.Prelude.{◌≡◌, ℕ, true, [], List, Some}
use Rattle.f3_lookups.specs.declared.lookup.Lookup.{Lookup}
use Rattle.f3_lookups.specs.declared.lookup.Lookup.TheVariants.{One}
use Rattle.f3_access.specs.Access.{IsVisible}
use Rattle.f3_access.specs.Lookups.{Resolves}
use Rattle.f3_rules.specs.declared.breaks.Break.{Break}
use Rattle.f3_scopes.specs.Scopes.{scopes_of}
use Rattle.f3_tree.specs.Tree.{Tree}
use Rattle.f3_name_rules.specs.NameBreaks.{NameBreaks}
use Rattle.f3_program.specs.declared.program.Program.{Program}
use Rattle.f3_kinds.specs.declared.said.Said.{Said}
use Rattle.f3_kinds.specs.declared.types.Object.{Object}
use Rattle.f3_kinds.specs.Things.{variable, look_here}
use Rattle.f3_meaning_whole.specs.Permitted.{Scope, name_of}
use Rattle.f3_type_rules.specs.Definitions.{Site}
use Rattle.f3_elaboration.specs.Context.{Surroundings, base}
use Rattle.f3_elaboration.specs.DeclaredViews.{program_view}
use Rattle.f3_elaboration.specs.Program.{elaborated}
use Rattle.f3_lawful_laws.specs.Agreement.{IsWithin, lend_rows}
use Rattle.f3_variable_laws.specs.Bodies.{IsFlat, InBodies}

-- The program is the elaborated one of a tree with these names, no rule on names is broken in it, and no main program has procedures.
pub record IsElaborated (p : Program) (t : Tree) (look : ℕ → ℕ → Lookup) (order : List ℕ) : Type 0 where
  pub means : (scope symbol : ℕ) → Resolves (look scope symbol) (IsVisible (scopes_of t) scope symbol)
  pub named : (b : Break) → NameBreaks (scopes_of t) t.names b → ⊥
  pub flat : IsFlat t
  pub seen : program_view p ≡ elaborated t look order

-- of each variable that a name means where a body begins
abbrev pub OfVariables : Surroundings → ((entity : ℕ) → Object → Type 0) → Type 0
OfVariables s P = (symbol e : ℕ) (o : Object) → look_here s.context symbol ≡ One e → (s.context).nature e ≡ Some (variable o) → P e o

-- the program has it with its type
abbrev pub VariablesHaveTypes : Type 0
VariablesHaveTypes = (p : Program) (t : Tree) (look : ℕ → ℕ → Lookup) (order : List ℕ) → IsElaborated p t look order
    → InBodies t look order (λ (scope : Scope) (s : Surroundings) (site : Site). OfVariables s (λ e o. (name_of p scope (s.object e)).of ≡ base s o.data_type))

-- where it is a dummy, it has the number of one
abbrev pub VariablesAreWithin : Type 0
VariablesAreWithin = (p : Program) (t : Tree) (look : ℕ → ℕ → Lookup) (order : List ℕ) → IsElaborated p t look order
    → InBodies t look order (λ (scope : Scope) (s : Surroundings) (site : Site). OfVariables s (λ e o. IsWithin s.lent (s.object e)))

-- where D1 and D2 ask nothing of it, it may be defined
abbrev pub VariablesMayBeDefined : Type 0
VariablesMayBeDefined = (p : Program) (t : Tree) (look : ℕ → ℕ → Lookup) (order : List ℕ) → IsElaborated p t look order
    → InBodies t look order (λ (scope : Scope) (s : Surroundings) (site : Site).
    OfVariables s (λ e o. (x : Said) → lend_rows site x (site.holder e) ≡ [] → (name_of p scope (s.object e)).may_define ≡ true))
