use Rattle.std.proofs.Common.{◌≤◌, map}
use Rattle.std.specs.Prelude.{All}
use Rattle.f3_meaning_whole.specs.Exec.{declared_in}
use Rattle.f3_meaning_whole.specs.Shape.{shapes_of}
use Rattle.f3_rooms.specs.Forms.{words_for}
use Rattle.f3_type_words.specs.Most.{most_words}
use Rattle.f3_type_words.specs.Tables.{AreTables}
use Rattle.f3_word_cells.specs.Scenes.{IsFrame}
use Rattle.f3_word_start.specs.Frames.{HaveFrames}
use Rattle.f3_word_start.proofs.Framing.{declared_of, framed}
use Rattle.f3_word_start.proofs.frames.Frames.new.Goals as goal

pub returns : goal.returns
returns c =
    let p = c.args.program.now in
    let ds = c.deref.result.now in
    let es = c.deref-2.result.now in
    let tabled : AreTables (shapes_of ds) c.in-Some.tables.items = rw c.in-Some.is at c.in_ok-tables.ensures.tables in
    let small : All (λ s. words_for s ≤ most_words) (shapes_of ds) = rw c.in-Some.is at c.in_ok-tables.ensures.small in
    let statics : IsFrame (shapes_of es) (map declared_of c.deref-4.result.now) c.in-Some-2.statics = rw c.in-Some-2.is at c.in_ok-statics.ensures in
    let main : IsFrame (shapes_of es) (declared_in p.main) c.in-Some-3.main = rw c.in-Some-3.is at c.in_ok-main.ensures in
    let have : HaveFrames (shapes_of es) c.deref-5.result.now c.in-Some-4.procedures.items = rw c.in-Some-4.is at c.in_ok-procedures.ensures in
    framed p _ ds es c.deref-4.result.now c.deref-5.result.now c.deref.ensures.value c.deref-2.ensures.value c.deref-4.ensures.value c.deref-5.ensures.value tabled small statics main have
