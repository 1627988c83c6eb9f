-- One token more in the search for the first that breaks a rule.
use Rattle.std.proofs.Common.{◌≡◌, ℕ, ◌+◌, ◌<◌, ◌≤◌, List, length, get_or, drop, Option, None, Some, sym, ap, ◌∙◌}
use Rattle.std.specs.Option.{option_map}
use Rattle.std.proofs.lemmas.List.{at_drop_more, at_drop_all}
use Rattle.f3_rules.specs.declared.rule.Rule.{Rule}
use Rattle.f3_lex.specs.declared.token.Token.{Token}
use Rattle.f3_lex.specs.Tokens.{text_of}
use Rattle.f3_lex.specs.Faults.{broken_by, or_else, first_broken}

module _ (bytes : List ℕ) (tokens : List Token) (i : ℕ) (d : Token) (there : i < length tokens) (text : List ℕ) (found : Option Rule) (by : found ≡ broken_by (get_or tokens i d).kind text) (is_text : text ≡ text_of (get_or tokens i d) bytes) where
  next : first_broken bytes (drop i tokens) ≡ or_else (option_map (λ rule. ((get_or tokens i d).start, rule)) found) (first_broken bytes (drop (i + 1) tokens))
  unfolding first_broken
  next = at_drop_more (first_broken bytes) tokens i d there ∙ ap (λ f. or_else (option_map (λ rule. ((get_or tokens i d).start, rule)) f) (first_broken bytes (drop (i + 1) tokens))) (sym (by ∙ ap (broken_by (get_or tokens i d).kind) is_text))

  pub broken_here : (rule : Rule) → found ≡ Some rule → first_broken bytes (drop i tokens) ≡ Some ((get_or tokens i d).start, rule)
  broken_here rule e = next ∙ ap (λ f. or_else (option_map (λ rule. ((get_or tokens i d).start, rule)) f) (first_broken bytes (drop (i + 1) tokens))) e

  pub broken_later : found ≡ None → first_broken bytes (drop i tokens) ≡ first_broken bytes (drop (i + 1) tokens)
  broken_later e = next ∙ ap (λ f. or_else (option_map (λ rule. ((get_or tokens i d).start, rule)) f) (first_broken bytes (drop (i + 1) tokens))) e

pub broken_nowhere : (bytes : List ℕ) (tokens : List Token) (i : ℕ) → length tokens ≤ i → first_broken bytes (drop i tokens) ≡ None
unfolding first_broken
broken_nowhere bytes tokens i h = at_drop_all (first_broken bytes) tokens i h
