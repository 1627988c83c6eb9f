use Rattle.std.proofs.Common.{rules, ◌≡◌, length}
use Rattle.f3_room_types.proofs.PieceLaws.{pieces_more, widths_more, has_more}
use Rattle.f3_room_types.proofs.pieces.Pieces.push.Goals as goal

pub invariant_of-self-2 : goal.invariant_of-self-2
invariant_of-self-2 c = record {
  sound = pieces_more c.args.self.now.pieces.items c.push.new.self.items c.args.piece c.in_ok-push.ensures.items c.args.self.now.sound c.requires.piece;
  sized = widths_more c.args.self.now.pieces.items c.push.new.self.items c.args.piece c.args.self.now.widths.items c.reserve.new.self.items c.push_reserved.new.self.items c.args.words
      c.in_ok-push.ensures.items c.args.self.now.sized c.reserve.ensures.items c.push_reserved.ensures.items c.requires.words;
}

pub returns-clause-has : goal.returns-clause-has
returns-clause-has c =
    let number : c.len-number.result ≡ length c.args.self.now.pieces.items = search rules in
    has_more c.args.self.now.pieces.items c.push.new.self.items c.args.piece c.len-number.result c.in_ok-push.ensures.items number
