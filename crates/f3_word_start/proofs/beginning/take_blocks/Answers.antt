use Rattle.std.proofs.Common.{◌≡◌, ap, ◌∙◌, inr}
use Rattle.std.specs.Prelude.{Err}
use Rattle.std.specs.FinMap.{remove}
use Rattle.f3_live_blocks.specs.Blocks.{Live, pins_of}
use Rattle.f3_heap.specs.declared.blocks.TakeFault
use Rattle.f3_meaning_whole.specs.Shape.{shapes_of}
use Rattle.f3_meaning_whole.specs.Exec.{declared_in}
use Rattle.f3_room_places.specs.Places.{shapes}
use Rattle.f3_word_cells.specs.Areas.{types_of}
use Rattle.f3_word_cells.specs.States.{statics_of}
use Rattle.f3_word_start.proofs.Taking.{can, fits, given_back, has_taken, unpinned}
use Rattle.f3_word_start.proofs.beginning.take_blocks.Goals as goal

pub begin-requires-clause-fit : goal.begin-requires-clause-fit
begin-requires-clause-fit g c =
    let p = c.args.scene.program.now in
    can (types_of p) (shapes c.args.scene.types) (ap shapes_of c.requires.scene.types) (statics_of p) c.args.statics.now c.requires.statics c.args.scene.statics.now c.requires.scene.statics

pub begin-requires-clause-long : goal.begin-requires-clause-long
begin-requires-clause-long g c =
    let p = c.args.scene.program.now in
    fits (types_of p) (shapes c.args.scene.types) (ap shapes_of c.requires.scene.types) (statics_of p) c.args.statics.now c.requires.statics c.args.scene.statics.now c.requires.scene.statics

pub begin-requires-2-clause-fit : goal.begin-requires-2-clause-fit
begin-requires-2-clause-fit g c =
    let p = c.args.scene.program.now in
    can (types_of p) (shapes c.args.scene.types) (ap shapes_of c.requires.scene.types) (declared_in p.main) c.args.main.now c.requires.main c.args.scene.main.now c.requires.scene.main

pub begin-requires-2-clause-long : goal.begin-requires-2-clause-long
begin-requires-2-clause-long g c =
    let p = c.args.scene.program.now in
    fits (types_of p) (shapes c.args.scene.types) (ap shapes_of c.requires.scene.types) (declared_in p.main) c.args.main.now c.requires.main c.args.scene.main.now c.requires.scene.main

pub give_back-requires-clause-unpinned : goal.give_back-requires-clause-unpinned
give_back-requires-clause-unpinned g c =
    ap (λ (k : Live). pins_of k c.in_ok-first.first) c.in-Err.ensures.refused
    ∙ unpinned (shapes c.args.scene.types) _ _ c.args.statics.now c.args.scene.statics.now.words c.in_ok-first.first c.in_ok-first.ensures.begun

pub returns-in-Err-clause-full : goal.returns-in-Err-clause-full
returns-in-Err-clause-full g c = λ e.
    let full : c.in-Err.fault ≡ TakeFault.TheVariants.Full = cc in
    inr (
      c.begin.new.heap,
      has_taken (shapes c.args.scene.types) _ _ c.args.statics.now c.args.scene.statics.now.words c.in_ok-first.first c.in_ok-first.ensures.begun c.in_ok-first.ensures.used,
      c.begin.ensures.kept,
      c.in-Err.ensures.full.0 (ap Err full),
    )

pub returns-in-Err-clause-refused : goal.returns-in-Err-clause-refused
returns-in-Err-clause-refused g c =
    c.give_back.ensures.given
    ∙ ap (λ (k : Live). remove k c.in_ok-first.first) c.in-Err.ensures.refused
    ∙ given_back (shapes c.args.scene.types) _ _ c.args.statics.now c.args.scene.statics.now.words c.in_ok-first.first c.in_ok-first.ensures.begun

pub returns-in_err-first-clause-kept : goal.returns-in_err-first-clause-kept
returns-in_err-first-clause-kept g c = (1, c.begin.ensures.kept)

pub returns-in-Ok-clause-kept : goal.returns-in-Ok-clause-kept
returns-in-Ok-clause-kept g c = (2, c.in-Ok.ensures.kept ∙ ap g.B.Blocks.spent c.begin.ensures.kept)

pub returns-in-Err-clause-kept : goal.returns-in-Err-clause-kept
returns-in-Err-clause-kept g c = (2, c.give_back.ensures.kept ∙ c.in-Err.ensures.kept ∙ ap g.B.Blocks.spent c.begin.ensures.kept)
