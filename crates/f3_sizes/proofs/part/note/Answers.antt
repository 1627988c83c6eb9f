use Rattle.std.proofs.Common.{◌∙◌, sym}
use Rattle.f3_sizes.proofs.Notes.{none_here, note_grows, note_there, note_right, set_others}
use Rattle.f3_sizes.proofs.part.note.Goals as goal

pub returns-clause-noted : goal.returns-clause-noted
returns-clause-noted c = λ height a e le.
    note_right height c.args.heights.now c.args.at c.args.cells (none_here c.args.heights.now c.args.at c.requires (sym c.is_some.ensures ∙ c.if-is_some.false)) a e le

pub returns-clause-grows : goal.returns-clause-grows
returns-clause-grows c =
    note_grows c.args.heights.now c.args.at c.args.cells (none_here c.args.heights.now c.args.at c.requires (sym c.is_some.ensures ∙ c.if-is_some.false))

pub returns-clause-there : goal.returns-clause-there
returns-clause-there c = note_there c.args.heights.now c.args.at c.args.cells c.requires

pub returns-clause-others : goal.returns-clause-others
returns-clause-others c = λ k ne. set_others c.args.heights.now c.args.at c.args.cells k ne
