use Rattle.std.proofs.Common.{◌≡◌, ap, arith, refl, ◌∙◌, length}
use Rattle.std.proofs.lemmas.Option.{slice_get_read}
use Rattle.std.specs.Prelude.{slice_index_or}
use Rattle.f3_data.specs.Stores.{steps_of}
use Rattle.f3_room_places.specs.Places.{shapes}
use Rattle.f3_room_places.proofs.Variables.{absent_variable, parts_reached, some_stands, starts_many}
use Rattle.f3_room_places.proofs.finding.find.Goals as goal

pub returns-then-number-declared : goal.returns-then-number-declared
returns-then-number-declared g c =
    absent_variable (g.B.Blocks.blocks c.args.heap.now) c.args.types c.args.block c.args.declared.now c.args.number (steps_of c.args.steps.now) c.if-number-declared.true

pub bounds-starts-number : goal.bounds-starts-number
bounds-starts-number g c =
    let many : length c.args.starts.now ≡ length c.args.declared.now = ap length c.requires.starts ∙ starts_many (shapes c.args.types) c.args.declared.now 0 in
    omega arith

pub further-requires : goal.further-requires
further-requires g c =
    let ds = c.args.declared.now in
    let d = c.index-declared-number.result in
    some_stands (g.B.Blocks.blocks c.args.heap.now) c.args.types c.args.block ds c.args.number d (slice_get_read ds (length ds) c.args.number d refl c.if-number-declared.false c.index-declared-number.is)
    (slice_index_or c.args.starts.now c.args.number 0) (ap (λ os. slice_index_or os c.args.number 0) c.requires.starts) c.form_of.result c.form_of.ensures c.requires.tables c.requires.room

pub returns : goal.returns
returns g c =
    let ds = c.args.declared.now in
    let d = c.index-declared-number.result in
    parts_reached (g.B.Blocks.blocks c.args.heap.now) c.args.types c.args.block ds c.args.number d (slice_get_read ds (length ds) c.args.number d refl c.if-number-declared.false c.index-declared-number.is)
    (slice_index_or c.args.starts.now c.args.number 0) (ap (λ os. slice_index_or os c.args.number 0) c.requires.starts) c.form_of.result c.form_of.ensures c.requires.tables
    (steps_of c.args.steps.now) c.further.result c.further.ensures
