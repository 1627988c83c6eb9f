use Rattle.std.proofs.Common.{◌≡◌, length, map, ap, refl, subst, sym, ◌∙◌, arith}
use Rattle.std.proofs.lemmas.List.{length-map}
use Rattle.std.proofs.lemmas.Grind.{common_steps}
use Rattle.f3_meaning_whole.specs.Exec.{argument_at, bound}
use Rattle.f3_data.specs.References.{reference_of}
use Rattle.f3_cells.specs.Cells.{passed_of}
use Rattle.f3_call_steps.specs.Inner.Standing.{StandsIn, argument_of}
use Rattle.f3_call_steps.proofs.Standing.{stands_inside, argument_is}
use Rattle.f3_call_steps.proofs.arguments.few_dummies.Goals as goal

pub dummy_for-requires-clause-inside : goal.dummy_for-requires-clause-inside
dummy_for-requires-clause-inside c =
    subst (λ s. StandsIn s (length c.args.arguments.now)) (sym c.find_stand-stand.ensures)
    (stands_inside c.loop-number.number (map passed_of c.args.arguments.now) 0 0 (length c.args.arguments.now) (omega (arith, length-map c.args.arguments.now passed_of)))

pub loop-number-preserved : goal.loop-number-preserved
loop-number-preserved c =
    let dummy = c.index-declared-number.result in
    let ps = map passed_of c.args.arguments.now in
    let is : reference_of c.in_ok-dummy_for.field-0 ≡ bound dummy (argument_at c.loop-number.number dummy.kind.of ps c.args.level 0 c.args.unit) =
    c.in_ok-dummy_for.ensures
    ∙ ap (λ s. bound dummy (argument_of s dummy.kind.of ps c.args.level c.args.unit)) c.find_stand-stand.ensures
    ∙ ap (bound dummy) (argument_is c.loop-number.number dummy.kind.of ps ps c.args.level 0 0 c.args.unit refl) in
    grind (arith, common_steps, is)
