use Rattle.f3_room_account.proofs.Writing.{words_keep_all, allocating_keeps_all, freeing_keeps_all, moving_keeps_all}
use Rattle.f3_room_account.proofs.laws.words_keep_all.Goals as goal

pub returns-clause-words : goal.returns-clause-words
returns-clause-words c = words_keep_all

pub returns-clause-allocating : goal.returns-clause-allocating
returns-clause-allocating c = allocating_keeps_all

pub returns-clause-freeing : goal.returns-clause-freeing
returns-clause-freeing c = freeing_keeps_all

pub returns-clause-moving : goal.returns-clause-moving
returns-clause-moving c = moving_keeps_all
