use Rattle.std.proofs.Common.{refl}
use Rattle.f3_word_machine.proofs.Roomy.{told_room}
use Rattle.f3_word_machine.proofs.rooms.room_for.Goals as goal

pub returns-clause-roomy : goal.returns-clause-roomy
returns-clause-roomy c = told_room c.args.needs.now _ c.in_ok-checked_add.ensures.1 c.in_ok-names.ensures.1 refl c.in_ok-checked_add-2.ensures.1 c.in_ok-checked_add-3.ensures.1
