use Rattle.std.proofs.Common.{◌≡◌, ◌⊎◌, ◌≢◌, slice_index, sym, ap, ◌∙◌, inl, inr, arith}
use Rattle.f3_lex.specs.Tokens.{is_name_byte}
use Rattle.f3_lex.proofs.Lengths.{name_next, no_underscore, is_kind, no_kind}
use Rattle.f3_lex.proofs.length.suffix_length.Goals as goal

pub returns-then-byte_at-ne95-clause-value : goal.returns-then-byte_at-ne95-clause-value
returns-then-byte_at-ne95-clause-value c = sym (no_underscore c.args.bytes.now (λ e. c.if-byte_at-ne95.true (c.byte_at.ensures ∙ e)))

pub returns-then-is_name_byte-clause-value : goal.returns-then-is_name_byte-clause-value
returns-then-is_name_byte-clause-value c = sym (name_next c.args.bytes.now (ap is_name_byte (sym c.byte_at-2.ensures) ∙ sym c.is_name_byte.ensures ∙ c.if-is_name_byte.true))

pub returns-in-52-clause-value : goal.returns-in-52-clause-value
returns-in-52-clause-value c =
    let one : (slice_index c.args.bytes.now 1 ≡ 52) ⊎ (slice_index c.args.bytes.now 1 ≡ 56) = elim c.in-52.is [ inl e ↦ inl (sym c.byte_at-3.ensures ∙ e) | inr e ↦ inr (sym c.byte_at-3.ensures ∙ e) ] in
    sym (is_kind c.args.bytes.now (sym c.byte_at.ensures ∙ c.if-byte_at-ne95.false) (ap is_name_byte (sym c.byte_at-2.ensures) ∙ sym c.is_name_byte.ensures ∙ c.if-is_name_byte.false) one)

pub returns-in_default-clause-value : goal.returns-in_default-clause-value
returns-in_default-clause-value c =
    let four : c.byte_at-3.result ≢ 52 = grind arith in
    let eight : c.byte_at-3.result ≢ 56 = grind arith in
    sym (no_kind c.args.bytes.now (sym c.byte_at.ensures ∙ c.if-byte_at-ne95.false) (ap is_name_byte (sym c.byte_at-2.ensures) ∙ sym c.is_name_byte.ensures ∙ c.if-is_name_byte.false) (λ e. four (c.byte_at-3.ensures ∙ e)) (λ e. eight (c.byte_at-3.ensures ∙ e)))
