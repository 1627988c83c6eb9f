use Rattle.std.proofs.Common.{ap, ◌∙◌, w64}
use Rattle.std.specs.Int.{w128}
use Rattle.std.proofs.lemmas.Int.{to_z-of_z}
use Rattle.f3_program.specs.declared.declarations.Base.TheVariants.{Integer}
use Rattle.f3_meaning_whole.specs.Value as m
use Rattle.f3_meaning_whole.specs.Arithmetic.{converted}
use Rattle.f3_arithmetic.specs.declared.numbers.Width.TheVariants.{Four}
use Rattle.f3_arithmetic.proofs.Limits.{unfit}
use Rattle.f3_word_values.proofs.bounds.default_number.Goals as goal

pub returns-in-Ok : goal.returns-in-Ok
returns-in-Ok c = λ place.
    let same = to_z-of_z w128 c.args.number c.ranges.number in
    let again = to_z-of_z w64 c.in-Ok.number (record { sfits = rw (c.in-Ok.ensures.1, same) (rw same at c.in-Ok.ensures.0).sfits }) in
    c.converted.ensures place ∙ ap (λ z. converted Integer (m.Number z) place) (again ∙ c.in-Ok.ensures.1 ∙ same)

pub returns-in-Err : goal.returns-in-Err
returns-in-Err c = λ place. unfit Four c.args.number place (λ h. c.in-Err.ensures (rw (to_z-of_z w128 c.args.number c.ranges.number) h))
