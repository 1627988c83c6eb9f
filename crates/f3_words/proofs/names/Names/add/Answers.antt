use Rattle.std.proofs.Common.{map, string_bytes, ap, ◌∙◌}
use Rattle.f3_words.specs.Keywords.{keyword_of}
use Rattle.f3_words.specs.Lines.{names_of}
use Rattle.f3_words.proofs.Numbers.{number_keys, with_keys, keywords_more}
use Rattle.f3_words.proofs.names.Names.add.Goals as goal
use Rattle.f3_words.proofs.names.Names.add.Goals.{in-Ok, in-Err}

pub invariant_of-self-in-Ok-1 : goal.invariant_of-self-in-Ok-1
invariant_of-self-in-Ok-1 c =
    let more = ap (map string_bytes) c.in-Ok.ensures.keys ∙ with_keys c.args.name c.args.self.now.set.keys in
    let is = c.keyword-keyword.ensures ∙ ap keyword_of c.as_str.ensures.value in
    record { paired = c.in_ok-push.ensures.items ∙ keywords_more (names_of c.args.self.now) _ (string_bytes c.args.name) _ _ c.args.self.now.paired is more c.requires }

pub returns : goal.returns
returns c = elim c.match-insert_full.branch [
  | in-Ok w ↦ rw (w.result-is, w.self-is) ((w.in-Ok.ensures.index ∙ number_keys c.args.name c.args.self.now.set.keys, c.keyword-keyword.ensures ∙ ap keyword_of c.as_str.ensures.value), ap (map string_bytes) w.in-Ok.ensures.keys ∙ with_keys c.args.name c.args.self.now.set.keys)
  | in-Err w ↦ rw w.result-is tt
]
