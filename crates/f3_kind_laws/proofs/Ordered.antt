-- Each unit is among those that are checked.
use Rattle.f3_type_rules.specs.Program.{units_in}
use Rattle.f3_lawful_laws.specs.Entities.{units_of}
use Rattle.f3_lawful_laws.proofs.Opening.{each_at}
use Rattle.f3_entity_laws.specs.Things.{IsAmong}
use Rattle.f3_entity_laws.proofs.Found.{unit_ordered}
use Rattle.f3_kind_laws.specs.Laws.{UnitsAreOrdered}

pub ordered : UnitsAreOrdered
ordered t order is = each_at (IsAmong (units_in (units_of t) order)) (units_of t) (λ k u at. unit_ordered t order is u (k, at))
