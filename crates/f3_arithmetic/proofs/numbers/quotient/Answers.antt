use Rattle.std.proofs.Common.{rules, ◌≡◌, int_div, ap, ◌∙◌}
use Rattle.f3_meaning_whole.specs.Value.{Number}
use Rattle.f3_meaning_whole.specs.Arithmetic.{converted}
use Rattle.f3_arithmetic.specs.Scalars.{base_of}
use Rattle.f3_arithmetic.proofs.Limits.{by_some}
use Rattle.f3_arithmetic.proofs.numbers.quotient.Goals as goal

-- src/numbers.rt:97:1
pub returns-in-Some : goal.returns-in-Some
returns-in-Some c = λ place. c.number.ensures place
    ∙ ap (λ z. converted (base_of c.args.width) (Number z) place) (search rules)
    ∙ by_some c.args.width (int_div c.args.x c.args.y) c.args.y place (search rules)
