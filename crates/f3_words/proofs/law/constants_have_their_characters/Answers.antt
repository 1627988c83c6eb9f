use Rattle.f3_words.proofs.Characters.{written}
use Rattle.f3_words.proofs.law.constants_have_their_characters.Goals as goal

pub returns : goal.returns
returns c = written
