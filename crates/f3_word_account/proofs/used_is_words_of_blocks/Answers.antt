use Rattle.f3_word_account.proofs.Counting.{used_is_words_of_blocks}
use Rattle.f3_word_account.proofs.used_is_words_of_blocks.Goals as goal

pub returns : goal.returns
returns c = used_is_words_of_blocks
