use Rattle.f3_object_steps.proofs.Selecting.{first_numbers_by}
use Rattle.f3_object_steps.proofs.picking.numbered.Goals as goal

pub returns-in-First : goal.returns-in-First
returns-in-First c = first_numbers_by c.args.numbers.now c.in-First.field-0 c.args.places.items c.in-First.is c.requires
