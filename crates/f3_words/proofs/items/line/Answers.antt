use Rattle.std.proofs.Common.{◌∙◌}
use Rattle.f3_words.specs.Lines.{seen_of}
use Rattle.f3_words.proofs.Numbers.{line_made}
use Rattle.f3_words.proofs.items.line.Goals as goal

pub returns : goal.returns
returns c = line_made c.args.statement.now (seen_of c.args.tables.now) (seen_of c.items.new.tables) c.in_ok-items.items.items c.in_ok-tokens.field-0.fault c.deref.result.now c.fault_break.result (c.deref.ensures.value ∙ c.in_ok-tokens.ensures.tokens) c.in_ok-tokens.ensures.fault c.fault_break.ensures c.in_ok-items.ensures
