use Rattle.f3_order_laws.proofs.Firsts.{first_of_orders, named_of_orders}
use Rattle.f3_order_laws.proofs.laws.first_break_is_one.Goals as goal

pub returns : goal.returns
returns c = record { alike = first_of_orders; one = named_of_orders }
