use Rattle.std.proofs.Common.{◌≡◌, ◌∙◌, sym, refl, arith, true, map, reverse}
use Rattle.std.proofs.lemmas.List.{length-reverse, length-map}
use Rattle.f3_tree.specs.Statements.{statement_view}
use Rattle.f3_blocks.specs.Machine.{may_stand, open_view, within, open_as}
use Rattle.f3_blocks.proofs.builder.BlockBuilder.open.Goals as goal

pub returns-then-len-ge-DEEPEST : goal.returns-then-len-ge-DEEPEST
returns-then-len-ge-DEEPEST c =
    let now = c.args.self.now in
    let os = reverse (map open_view now.constructs.items) in
    let stands : may_stand os ≡ true = sym c.may_stand.ensures ∙ c.if-not-may_stand.false in
    let size = length-reverse (map open_view now.constructs.items) ∙ length-map now.constructs.items open_view in
    (within (open_as c.args.opening (map statement_view now.body.items)) os, rw stands refl, (omega arith, omega (arith, size, c.len.ensures, c.if-len-ge-DEEPEST.true)))
