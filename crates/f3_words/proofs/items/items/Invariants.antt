use Rattle.std.proofs.Common.{◌≡◌, ◌++◌, drop}
use Rattle.f3_text.specs.Reader.{spelled_of}
use Rattle.f3_words.specs.Lines.{seen_of, items_of, seen_after}
use Rattle.f3_words.specs.Inner.Numbered.{NamesAreAscii}
use Rattle.f3_words.proofs.items.items.Given as goal

abbrev pub invariant-loop-token : goal.invariant-loop-token
invariant-loop-token l = NamesAreAscii (spelled_of l.statement) l.tokens
    → (l.found.items ++ items_of (seen_of l.tables) (spelled_of l.statement) (drop l.token-index l.tokens) ≡ items_of (seen_of l.fn.tables) (spelled_of l.statement) l.tokens)
    × (seen_after (seen_of l.tables) (spelled_of l.statement) (drop l.token-index l.tokens) ≡ seen_after (seen_of l.fn.tables) (spelled_of l.statement) l.tokens)
