use Rattle.f3_room_pins.proofs.Lending.{lending_pins, ending_unpins}
use Rattle.f3_room_pins.proofs.laws.lending_is_pinning.Goals as goal

pub returns-clause-begin : goal.returns-clause-begin
returns-clause-begin c = lending_pins

pub returns-clause-end : goal.returns-clause-end
returns-clause-end c = ending_unpins
