-- What stands at an associate name inside of its construct, by the chains outside of it.
use Rattle.std.specs.Prelude.{ℕ, None, false}
use Rattle.f3_kinds.specs.declared.types.Object.{Object}
use Rattle.f3_kinds.specs.declared.said.Said.{Said}
use Rattle.f3_kinds.specs.declared.said.Has.{Has}
use Rattle.f3_kinds.specs.Things.{map_or}
use Rattle.f3_kinds.specs.Operands.{type_in}
use Rattle.f3_type_rules.specs.Definitions.{Chain}
use Rattle.f3_type_rules.specs.Associates.{associate_nature, associate_chain}
use Rattle.f3_associates.specs.Standing.{Standing}

abbrev pub laid : (ℕ → Chain) → ℕ × Said → Standing
laid chain n = record { entity = n.0; nature = associate_nature n.1; holder = None; chain = associate_chain chain n.0 n.1 }

abbrev pub object_of_said : Said → Object
object_of_said s = record { data_type = type_in s.has; rank = map_or 0 (λ (h : Has). h.rank) s.has; is_allocatable = false }
