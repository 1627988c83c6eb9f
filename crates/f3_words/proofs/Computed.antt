-- Some texts and what they are.
use Rattle.std.proofs.Common.{refl}
use Rattle.f3_words.specs.Keywords.{keyword_of}
use Rattle.f3_words.specs.Signs.{sign_of, dot_word_of, truth_of}
use Rattle.f3_words.specs.Constants.{undoubled}
use Rattle.f3_words.specs.Examples.{Examples}

pub computed : Examples
unfolding keyword_of sign_of dot_word_of truth_of undoubled
computed = (refl, refl, refl, refl, refl, refl, refl, refl, refl, refl, refl, refl, refl, refl, refl, refl, refl, refl, refl, refl, refl, refl, refl, refl)
