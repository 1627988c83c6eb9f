use Rattle.std.proofs.Common.{ap, refl}
use Rattle.f3_program.specs.declared.declarations.Base.{Base}
use Rattle.f3_word_cells.specs.declared.cell.Area.{Area}
use Rattle.f3_room_places.specs.Places.{shapes}
use Rattle.f3_word_results.proofs.Copied.{copy-within, from-live, is-copy, to-live}
use Rattle.f3_word_results.proofs.results.copied.Goals as goal

pub copy_words-requires-clause-from_live : goal.copy_words-requires-clause-from_live
copy_words-requires-clause-from_live g c =
    from-live (shapes c.args.types) (g.B.Blocks.blocks c.args.heap.now) (g.B.Blocks.blocks c.take.new.self) c.args.declared.now c.args.area.now c.requires.there c.in-Ok.block c.room_of-words.result
    c.in-Ok.ensures.fresh c.room_of-words.ensures c.in-Ok.ensures.taken

pub copy_words-requires-clause-to_live : goal.copy_words-requires-clause-to_live
copy_words-requires-clause-to_live g c =
    to-live (shapes c.args.types) (g.B.Blocks.blocks c.args.heap.now) (g.B.Blocks.blocks c.take.new.self) c.args.declared.now c.args.area.now c.requires.there c.in-Ok.block c.room_of-words.result
    c.in-Ok.ensures.fresh c.room_of-words.ensures c.in-Ok.ensures.taken

pub copy_words-requires-clause-within : goal.copy_words-requires-clause-within
copy_words-requires-clause-within g c =
    copy-within (shapes c.args.types) (g.B.Blocks.blocks c.args.heap.now) (g.B.Blocks.blocks c.take.new.self) c.args.declared.now c.args.area.now c.requires.there c.in-Ok.block c.room_of-words.result
    c.in-Ok.ensures.fresh c.room_of-words.ensures c.in-Ok.ensures.taken

pub returns-clause-copies : goal.returns-clause-copies
returns-clause-copies g c =
    is-copy (shapes c.args.types) (g.B.Blocks.blocks c.args.heap.now) (g.B.Blocks.blocks c.take.new.self) c.args.declared.now c.args.area.now c.requires.there c.in-Ok.block c.room_of-words.result
    c.in-Ok.ensures.fresh c.room_of-words.ensures c.in-Ok.ensures.taken (g.B.Blocks.blocks c.copy_words.new.heap) _ (ap (λ (a : Area). a.of) c.copied-copy.ensures)
    (ap (λ (a : Area). (a.elements).dims) c.copied-copy.ensures) refl refl c.copy_words.ensures.words
