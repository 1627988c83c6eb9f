use Rattle.std.proofs.Common.{◌+◌, drop, get_or, pos, arith}
use Rattle.std.proofs.lemmas.List.{drop_all}
use Rattle.f3_program.specs.declared.declarations.Constant.{Constant}
use Rattle.f3_program.specs.declared.declarations.Constant.TheVariants as constant
use Rattle.f3_meaning_whole.specs.Shape.{shape_in}
use Rattle.f3_room_places.specs.Places.{shapes}
use Rattle.f3_room_levels.proofs.Fits.{yes, no, failed, of_next, not_of, all_of, drop_constant}
use Rattle.f3_room_levels.proofs.fitting.are_of.Goals as goal

pub loop-constant-init : goal.loop-constant-init
loop-constant-init c = (λ a. a, λ a. a)

pub returns-then-not-is_of : goal.returns-then-not-is_of
returns-then-not-is_of c =
    let s = shape_in (shapes c.args.types) c.args.of in
    let cs = c.args.constants.now in
    let i = c.loop-constant.constant-index in
    let d : Constant = constant.Number (pos 0) in
    no (not_of s (drop i cs) (drop (i + 1) cs) cs (get_or cs i d) (drop_constant cs i d c.loop-constant-test.true) c.loop-constant.invariant
    (failed c.is_of.result c.is_of.ensures c.if-not-is_of.true))

pub loop-constant-preserved : goal.loop-constant-preserved
loop-constant-preserved c =
    let s = shape_in (shapes c.args.types) c.args.of in
    let cs = c.args.constants.now in
    let i = c.loop-constant.constant-index in
    let d : Constant = constant.Number (pos 0) in
    of_next s (drop i cs) (drop (i + 1) cs) cs (get_or cs i d) (drop_constant cs i d c.loop-constant-test.true) c.loop-constant.invariant
    (c.is_of.ensures.0 c.if-not-is_of.false)

pub returns : goal.returns
returns c =
    let cs = c.args.constants.now in
    let i = c.loop-constant.constant-index in
    yes (all_of (shape_in (shapes c.args.types) c.args.of) (drop i cs) cs (drop_all i cs (omega arith)) c.loop-constant.invariant)
