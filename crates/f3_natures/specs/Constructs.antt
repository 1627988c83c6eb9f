-- The constructs of a block, and their scopes.
use Rattle.std.specs.Prelude.{◌≡◌, ℕ, length}
use Rattle.f3_tree.specs.declared.expression.Name.{Name}
use Rattle.f3_tree.specs.Statements.{Block}
use Rattle.f3_scopes.specs.Scopes.{constructs_in_block}
use Rattle.f3_type_rules.specs.Associates.{constructs_of_block}

-- Wherever a block stands, it has as many constructs as it makes scopes.
abbrev pub ConstructsAreAsMany : Type 0
ConstructsAreAsMany = (host : ℕ) (around : Name) (number : ℕ) (b : Block) → length (constructs_in_block host around number b) ≡ length (constructs_of_block b)
