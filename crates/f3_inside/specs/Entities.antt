-- The entities of associate names.
use Rattle.std.specs.Prelude.{ℕ}
use Rattle.f3_lookups.specs.declared.lookup.Lookup.{Lookup}
use Rattle.f3_tree.specs.Statements.{AssociationTree}
use Rattle.f3_elaboration.specs.Numbers.{entity_of}

-- by what each scope sees
abbrev pub entity_at : (look : ℕ → ℕ → Lookup) → (number : ℕ) → AssociationTree → ℕ
entity_at look number x = entity_of (look number (x.name).symbol)
