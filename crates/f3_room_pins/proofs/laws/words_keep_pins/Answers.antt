use Rattle.f3_room_pins.proofs.Writing.{words_keep_pins, allocating_keeps_pins, freeing_keeps_pins, moving_keeps_pins}
use Rattle.f3_room_pins.proofs.laws.words_keep_pins.Goals as goal

pub returns-clause-words : goal.returns-clause-words
returns-clause-words c = words_keep_pins

pub returns-clause-allocating : goal.returns-clause-allocating
returns-clause-allocating c = allocating_keeps_pins

pub returns-clause-freeing : goal.returns-clause-freeing
returns-clause-freeing c = freeing_keeps_pins

pub returns-clause-moving : goal.returns-clause-moving
returns-clause-moving c = moving_keeps_pins
