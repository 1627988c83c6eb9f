-- What is known of a program where a declaration stands, as far as the entity that is declared next.
use Rattle.std.specs.Prelude.{ℕ, []}
use Rattle.f3_type_rules.specs.Walks.{Known}

abbrev pub before_entity : ℕ → Known
before_entity e = record { next = e; values = []; cells = [] }
