use Rattle.std.proofs.Common.{refl}
use Rattle.f3_lex.specs.Examples.{pieces}
use Rattle.f3_lex.specs.Tokens.{name_length, suffix_length, integer_length, listed_length, to_closing, constant_length, front, tokens_at, tokens_of}
use Rattle.f3_lex.proofs.law.examples.Goals as goal

pub returns : goal.returns
unfolding pieces name_length suffix_length integer_length listed_length to_closing constant_length front tokens_at tokens_of
returns c = (refl, refl, refl, refl, refl, refl, refl, refl, refl, refl)
