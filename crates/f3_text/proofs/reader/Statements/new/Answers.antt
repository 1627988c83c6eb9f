use Rattle.std.proofs.Common.{refl}
use Rattle.f3_text.specs.Lines.{letters, line, lines_below, lines_of, is_comment}
use Rattle.f3_text.specs.Statements.{texts, all_pieces, parts, nothing, then_parts, cut_of}
use Rattle.f3_text.specs.Reader.{ahead, parts_ahead, left}
use Rattle.f3_text.proofs.reader.Statements.new.Goals as goal

pub returns : goal.returns
unfolding letters line lines_below lines_of is_comment texts all_pieces parts nothing then_parts cut_of ahead parts_ahead left
returns c = refl
