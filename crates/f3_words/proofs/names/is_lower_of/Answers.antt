use Rattle.std.proofs.Common.{◌≡◌, ◌<◌, length, sym, ◌∙◌, arith}
use Rattle.std.specs.Char.{to_ascii_lowercase}
use Rattle.std.proofs.lemmas.List.{ext_get_or, get_or-map, length-map}
use Rattle.f3_lex.specs.Tokens.{lower}
use Rattle.f3_words.proofs.names.is_lower_of.Goals as goal

pub returns : goal.returns
returns c = λ same.
    let long = length-map c.args.written.now to_ascii_lowercase in
    let long_too : length c.args.name.now ≡ length (lower c.args.written.now) = omega (arith, long) in
    ext_get_or 0 c.args.name.now (lower c.args.written.now) long_too (λ k lt.
    let within : k < length c.args.written.now = omega (arith, lt) in
    let below : k < c.loop-i.i = omega (arith, within) in
    c.loop-i.invariant k below ∙ sym (get_or-map to_ascii_lowercase c.args.written.now k 0 0 within))
