use Rattle.std.proofs.Common.{pos, arith}
use Rattle.f3_meaning_whole.specs.Value.{count}
use Rattle.f3_arithmetic.specs.declared.numbers.Width.TheVariants.{Four}
use Rattle.f3_arithmetic.proofs.Limits.{unfit}
use Rattle.f3_word_cells.specs.Areas.{spans_of}
use Rattle.f3_word_values.proofs.bounds.size_of.Goals as goal

pub returns-in-None : goal.returns-in-None
returns-in-None c = λ place. unfit Four (pos (count (spans_of c.args.dims.now))) place (λ h. omega (arith, h.sfits, c.in-None.ensures))
