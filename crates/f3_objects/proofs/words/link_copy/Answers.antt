use Rattle.std.proofs.Common.{rules, w64, ◌+◌, ◌*◌, pos, length, ◌∙◌, ap, arith, ℤ, set}
use mir.Val.{SFits}
use Rattle.std.proofs.lemmas.Int.{to_z-of_z}
use Rattle.f3_live_blocks.specs.Blocks.{words_of, with_words}
use Rattle.f3_objects.proofs.Linking.{first_length, first_live, first_other, first_then}
use Rattle.f3_objects.proofs.words.link_copy.Goals as goal

pub copy_words-requires-clause-from_live : goal.copy_words-requires-clause-from_live
copy_words-requires-clause-from_live g c =
    let w = c.requires.to_within in
    first_live (g.B.Blocks.blocks c.args.heap.now) (g.B.Blocks.blocks c.write.new.self) c.args.from c.args.to c.args.to_at _ c.requires.different (omega arith) c.write.ensures.written c.args.from c.requires.from_live

pub copy_words-requires-clause-to_live : goal.copy_words-requires-clause-to_live
copy_words-requires-clause-to_live g c =
    let w = c.requires.to_within in
    first_live (g.B.Blocks.blocks c.args.heap.now) (g.B.Blocks.blocks c.write.new.self) c.args.from c.args.to c.args.to_at _ c.requires.different (omega arith) c.write.ensures.written c.args.to c.requires.to_live

pub copy_words-requires-clause-from_within : goal.copy_words-requires-clause-from_within
copy_words-requires-clause-from_within g c =
    let w = c.requires.to_within in
    let v = c.requires.from_within in
    let e = ap length (first_other (g.B.Blocks.blocks c.args.heap.now) (g.B.Blocks.blocks c.write.new.self) c.args.from c.args.to c.args.to_at _ c.requires.different (omega arith) c.write.ensures.written) in
    omega arith

pub copy_words-requires-clause-to_within : goal.copy_words-requires-clause-to_within
copy_words-requires-clause-to_within g c =
    let w = c.requires.to_within in
    let e = first_length (g.B.Blocks.blocks c.args.heap.now) (g.B.Blocks.blocks c.write.new.self) c.args.from c.args.to c.args.to_at _ c.requires.different (omega arith) c.write.ensures.written in
    omega arith

pub returns-clause-written : goal.returns-clause-written
returns-clause-written g c =
    let w = c.requires.to_within in
    let old = g.B.Blocks.blocks c.args.heap.now in
    let fits : SFits w64 c.word.result = search rules in
    let y = to_z-of_z w64 c.word.result fits ∙ c.word.ensures.value in
    let written = c.write.ensures.written ∙ ap (λ (z : ℤ). with_words old c.args.to (set (words_of old c.args.to) c.args.to_at z)) y in
    first_then old (g.B.Blocks.blocks c.write.new.self) c.args.from c.args.to c.args.to_at (pos c.args.copy) c.requires.different (omega arith) written (g.B.Blocks.blocks c.copy_words.new.heap) (c.args.from_at + 1) (2 * c.args.rank) c.copy_words.ensures.written
