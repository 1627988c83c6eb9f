use Rattle.std.proofs.Common.{sym, ap, ◌∙◌, map, get_or}
use Rattle.f3_words.specs.Keywords.{keyword_of}
use Rattle.f3_words.specs.Lines.{names_of}
use Rattle.f3_words.proofs.Numbers.{any_bytes, number_bytes, found_at, keyword_there}
use Rattle.f3_words.proofs.names.Names.find.Goals as goal

pub returns-in-Some : goal.returns-in-Some
returns-in-Some c =
    let there = sym (any_bytes c.args.name.now c.args.self.now.set.keys) ∙ sym c.in-Some.ensures.found in
    let at = found_at _ _ _ c.in-Some.ensures.index ∙ number_bytes c.args.name.now c.args.self.now.set.keys in
    (there, (at, c.index.ensures ∙ ap (λ ks. get_or ks c.in-Some.symbol c.index.result.now) c.args.self.now.paired ∙ ap (λ n. get_or (map keyword_of (names_of c.args.self.now)) n c.index.result.now) at ∙ keyword_there (names_of c.args.self.now) c.args.name.now c.index.result.now there))

pub returns-in-None : goal.returns-in-None
returns-in-None c = sym (any_bytes c.args.name.now c.args.self.now.set.keys) ∙ sym c.in-None.ensures.found
