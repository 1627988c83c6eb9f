use Rattle.std.proofs.Common.{◌∙◌, ap, rules, w64, FitsSigned}
use Rattle.std.specs.Int.{cast_unsigned}
use Rattle.std.proofs.lemmas.Int.{to_z-of_z}
use Rattle.f3_word_copies.proofs.Spreads.{congruent-behind}
use Rattle.f3_word_copies.proofs.spreading.place_behind.Goals as goal

pub returns : goal.returns
returns c = let fits : FitsSigned w64 c.args.stride = search rules in congruent-behind c.args.at c.cast_unsigned.result c.args.stride fits (c.cast_unsigned.ensures ∙ ap (cast_unsigned w64) (to_z-of_z w64 c.args.stride fits))
