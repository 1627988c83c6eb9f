use Rattle.f3_room_account.proofs.Counting.{used_is_words}
use Rattle.f3_room_account.proofs.laws.used_is_words.Goals as goal

pub returns : goal.returns
returns c = used_is_words
