use Rattle.std.proofs.Common.{sym, ◌∙◌}
use Rattle.std.proofs.lemmas.Bool.{ne_eqb}
use Rattle.f3_text.proofs.reading.is_plain.Goals as goal

pub returns : goal.returns
returns c = λ allowed. record {
  allowed = sym c.is_allowed.ensures ∙ allowed;
  no_comment = ne_eqb _ _ c.if-byte-eq33.false;
  no_end = ne_eqb _ _ c.if-byte-eq59.false;
  no_join = ne_eqb _ _ c.if-byte-eq38.false;
  no_quote = sym c.if-is_quote.ensures;
  no_opening = sym c.if-opens.ensures;
  no_closing = sym c.if-closes.ensures;
}
