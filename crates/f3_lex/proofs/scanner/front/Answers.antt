use Rattle.std.proofs.Common.{◌≡◌, ◌<◌, ◌≤◌, ℕ, List, length, sym, ◌∙◌, subst}
use Rattle.f3_lex.specs.declared.token.TokenKind.{TokenKind}
use Rattle.f3_lex.specs.Tokens.{front}
use Rattle.f3_lex.proofs.Fronts.{is_name, no_name, is_integer, no_integer, is_truth, no_truth, is_word, no_word, is_constant, no_constant, is_sign, no_sign, front_within}
use Rattle.f3_lex.proofs.scanner.front.Goals as goal

-- what is the token at the front is within the bytes
within : (depth : ℕ) (bytes : List ℕ) (found : TokenKind × ℕ) → front depth bytes ≡ found → 0 < length bytes → (0 < found.1) × (found.1 ≤ length bytes)
within depth bytes found e some = let P : TokenKind × ℕ → Type 0 = λ x. (0 < x.1) × (x.1 ≤ length bytes) in subst P e (front_within depth bytes some)

pub returns-then-name-gt0-clause-value : goal.returns-then-name-gt0-clause-value
returns-then-name-gt0-clause-value c = let d = c.args.depth in let bs = c.args.bytes.now in sym (is_name d bs _ c.name_length-name.ensures c.if-name-gt0.true)

pub returns-then-name-gt0-clause-within : goal.returns-then-name-gt0-clause-within
returns-then-name-gt0-clause-within c = let d = c.args.depth in let bs = c.args.bytes.now in within d bs _ (is_name d bs _ c.name_length-name.ensures c.if-name-gt0.true)

pub returns-then-digits-gt0-clause-value : goal.returns-then-digits-gt0-clause-value
returns-then-digits-gt0-clause-value c = let d = c.args.depth in let bs = c.args.bytes.now in sym (no_name d bs _ c.name_length-name.ensures c.if-name-gt0.false ∙ is_integer d bs _ c.integer_length-digits.ensures c.if-digits-gt0.true)

pub returns-then-digits-gt0-clause-within : goal.returns-then-digits-gt0-clause-within
returns-then-digits-gt0-clause-within c = let d = c.args.depth in let bs = c.args.bytes.now in within d bs _ (no_name d bs _ c.name_length-name.ensures c.if-name-gt0.false ∙ is_integer d bs _ c.integer_length-digits.ensures c.if-digits-gt0.true)

pub returns-then-truth-gt0-clause-value : goal.returns-then-truth-gt0-clause-value
returns-then-truth-gt0-clause-value c = let d = c.args.depth in let bs = c.args.bytes.now in sym (no_name d bs _ c.name_length-name.ensures c.if-name-gt0.false ∙ no_integer d bs _ c.integer_length-digits.ensures c.if-digits-gt0.false ∙ is_truth d bs _ c.truth_length-truth.ensures c.if-truth-gt0.true)

pub returns-then-truth-gt0-clause-within : goal.returns-then-truth-gt0-clause-within
returns-then-truth-gt0-clause-within c = let d = c.args.depth in let bs = c.args.bytes.now in within d bs _ (no_name d bs _ c.name_length-name.ensures c.if-name-gt0.false ∙ no_integer d bs _ c.integer_length-digits.ensures c.if-digits-gt0.false ∙ is_truth d bs _ c.truth_length-truth.ensures c.if-truth-gt0.true)

pub returns-then-word-gt0-clause-value : goal.returns-then-word-gt0-clause-value
returns-then-word-gt0-clause-value c = let d = c.args.depth in let bs = c.args.bytes.now in sym (no_name d bs _ c.name_length-name.ensures c.if-name-gt0.false ∙ no_integer d bs _ c.integer_length-digits.ensures c.if-digits-gt0.false ∙ no_truth d bs _ c.truth_length-truth.ensures c.if-truth-gt0.false ∙ is_word d bs _ c.word_length-word.ensures c.if-word-gt0.true)

pub returns-then-word-gt0-clause-within : goal.returns-then-word-gt0-clause-within
returns-then-word-gt0-clause-within c = let d = c.args.depth in let bs = c.args.bytes.now in within d bs _ (no_name d bs _ c.name_length-name.ensures c.if-name-gt0.false ∙ no_integer d bs _ c.integer_length-digits.ensures c.if-digits-gt0.false ∙ no_truth d bs _ c.truth_length-truth.ensures c.if-truth-gt0.false ∙ is_word d bs _ c.word_length-word.ensures c.if-word-gt0.true)

pub returns-then-constant-gt0-clause-value : goal.returns-then-constant-gt0-clause-value
returns-then-constant-gt0-clause-value c = let d = c.args.depth in let bs = c.args.bytes.now in sym (no_name d bs _ c.name_length-name.ensures c.if-name-gt0.false ∙ no_integer d bs _ c.integer_length-digits.ensures c.if-digits-gt0.false ∙ no_truth d bs _ c.truth_length-truth.ensures c.if-truth-gt0.false ∙ no_word d bs _ c.word_length-word.ensures c.if-word-gt0.false ∙ is_constant d bs _ c.constant_length-constant.ensures c.if-constant-gt0.true)

pub returns-then-constant-gt0-clause-within : goal.returns-then-constant-gt0-clause-within
returns-then-constant-gt0-clause-within c = let d = c.args.depth in let bs = c.args.bytes.now in within d bs _ (no_name d bs _ c.name_length-name.ensures c.if-name-gt0.false ∙ no_integer d bs _ c.integer_length-digits.ensures c.if-digits-gt0.false ∙ no_truth d bs _ c.truth_length-truth.ensures c.if-truth-gt0.false ∙ no_word d bs _ c.word_length-word.ensures c.if-word-gt0.false ∙ is_constant d bs _ c.constant_length-constant.ensures c.if-constant-gt0.true)

pub returns-then-sign-gt0-clause-value : goal.returns-then-sign-gt0-clause-value
returns-then-sign-gt0-clause-value c = let d = c.args.depth in let bs = c.args.bytes.now in sym (no_name d bs _ c.name_length-name.ensures c.if-name-gt0.false ∙ no_integer d bs _ c.integer_length-digits.ensures c.if-digits-gt0.false ∙ no_truth d bs _ c.truth_length-truth.ensures c.if-truth-gt0.false ∙ no_word d bs _ c.word_length-word.ensures c.if-word-gt0.false ∙ no_constant d bs _ c.constant_length-constant.ensures c.if-constant-gt0.false ∙ is_sign d bs _ c.sign_length-sign.ensures c.if-sign-gt0.true)

pub returns-then-sign-gt0-clause-within : goal.returns-then-sign-gt0-clause-within
returns-then-sign-gt0-clause-within c = let d = c.args.depth in let bs = c.args.bytes.now in within d bs _ (no_name d bs _ c.name_length-name.ensures c.if-name-gt0.false ∙ no_integer d bs _ c.integer_length-digits.ensures c.if-digits-gt0.false ∙ no_truth d bs _ c.truth_length-truth.ensures c.if-truth-gt0.false ∙ no_word d bs _ c.word_length-word.ensures c.if-word-gt0.false ∙ no_constant d bs _ c.constant_length-constant.ensures c.if-constant-gt0.false ∙ is_sign d bs _ c.sign_length-sign.ensures c.if-sign-gt0.true)

pub returns-clause-value : goal.returns-clause-value
returns-clause-value c = let d = c.args.depth in let bs = c.args.bytes.now in sym (no_name d bs _ c.name_length-name.ensures c.if-name-gt0.false ∙ no_integer d bs _ c.integer_length-digits.ensures c.if-digits-gt0.false ∙ no_truth d bs _ c.truth_length-truth.ensures c.if-truth-gt0.false ∙ no_word d bs _ c.word_length-word.ensures c.if-word-gt0.false ∙ no_constant d bs _ c.constant_length-constant.ensures c.if-constant-gt0.false ∙ no_sign d bs _ c.sign_length-sign.ensures c.if-sign-gt0.false)
