-- What follows of the rules on one scope.
use Rattle.std.specs.Prelude.{◌≡◌, ◌↔◌, ℕ, List, map}
use Rattle.f3_rules.specs.declared.breaks.Break.{Break}
use Rattle.f3_rules.specs.declared.rule.Rule.TheVariants.{N3}
use Rattle.f3_tree.specs.declared.expression.Name.{Name}
use Rattle.f3_tree.specs.Statements.{AssociationTree}
use Rattle.f3_scopes.specs.Scopes.{scope_of_construct}
use Rattle.f3_scope_rules.specs.ScopeBreaks.{at, Again, BreaksOf}

-- the names of an ASSOCIATE statement in the order written
abbrev pub associate_names : List AssociationTree → List Name
associate_names xs = map (λ (x : AssociationTree). x.name) xs

-- an ASSOCIATE construct breaks these rules exactly where an associate name stands behind the same name, by N3 at the later one
abbrev pub ConstructBreaks : Type 0
ConstructBreaks = (host : ℕ) (around : Name) (xs : List AssociationTree) (b : Break)
    → BreaksOf (scope_of_construct host around xs) b ↔ ((later : Name) × Again (associate_names xs) later × (b ≡ at N3 later))
