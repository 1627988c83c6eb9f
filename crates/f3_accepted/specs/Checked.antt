-- What was accepted: its tree, an order of its units, what its names mean, and what its entities are.
use Rattle.f3_tree.specs.declared.program.Program.{Program}
use Rattle.f3_graph.specs.declared.UnitOrder.{UnitOrder}
use Rattle.f3_names.specs.declared.table.Names.{Names}
use Rattle.f3_types.specs.declared.table.Types.{Types}
use Rattle.f3_accepted.specs.declared.checked.Checked.{Checked}

abbrev pub program_of : Checked → Program
program_of checked = checked.program

abbrev pub order_of : Checked → UnitOrder
order_of checked = checked.order

abbrev pub names_of : Checked → Names
names_of checked = checked.names

abbrev pub types_of : Checked → Types
types_of checked = checked.types
