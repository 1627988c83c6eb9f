use Rattle.std.proofs.Common.{◌<◌, length, get_or, sym, ap, subst, ◌∙◌, map, string_bytes}
use Rattle.f3_lex.specs.Tokens.{lower}
use Rattle.f3_words.specs.Keywords.{keyword_of}
use Rattle.f3_words.specs.Lines.{names_of}
use Rattle.f3_words.proofs.Numbers.{number_at, keyword_there}
use Rattle.f3_words.proofs.names.Names.hinted.Goals as goal

pub returns-then-is_lower_of : goal.returns-then-is_lower_of
returns-then-is_lower_of c =
    let names = names_of c.args.self.now in
    let name = lower c.args.written.now in
    let symbol = c.in_ok-symbol.field-0.now in
    let keyword = c.index.result.now in
    let keys = c.as_slice.ensures.keys in
    let place = c.in_ok-name.ensures.lookup in
    let within = subst (λ ks. symbol < length ks) keys place.3.0 in
    let is = ap string_bytes (ap (λ ks. get_or ks symbol c.in_ok-name.name.now) (sym keys) ∙ sym place.1) ∙ sym c.as_bytes.ensures.value ∙ c.is_lower_of.ensures c.if-is_lower_of.true in
    let found = number_at name c.args.self.now.set.keys symbol c.in_ok-name.name.now c.as_slice.ensures.unique within is in
    (found.0, (found.1, c.index.ensures ∙ ap (λ ks. get_or ks symbol keyword) c.args.self.now.paired ∙ ap (λ n. get_or (map keyword_of names) n keyword) found.1 ∙ keyword_there names name keyword found.0))
