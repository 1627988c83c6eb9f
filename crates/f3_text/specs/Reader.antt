-- What is left of sources before a reader of statements.
use Rattle.std.specs.Prelude.{◌≡◌, ℕ, ◌+◌, List, [], map, length, Option, None, Some, Result, Ok, Err, ◌==◌, ◌<◌, if◌then◌else◌}
use Rattle.std.specs.String.{string_bytes}
use Rattle.f3_places.specs.declared.source.Source.{Source}
use Rattle.f3_rules.specs.declared.breaks.Break.{Break}
use Rattle.f3_rules.specs.declared.refusal.Refusal.{Refusal}
use Rattle.f3_text.specs.declared.letter.Letter.{Letter}
use Rattle.f3_text.specs.declared.letter.Quoting.TheVariants.{Outside}
use Rattle.f3_text.specs.declared.statement.RawStatement.{RawStatement}
use Rattle.f3_text.specs.declared.statement.TextFault.{TextFault}
use Rattle.f3_text.specs.declared.statement.TextFault.TheVariants.{Refused, Memory}
use Rattle.f3_text.specs.declared.cursor.Cursor.{Cursor}
use Rattle.f3_text.specs.declared.reader.Statements.{Statements}
use Rattle.f3_text.specs.Lines.{letters, line, lines_of, later_lines, text}
use Rattle.f3_text.specs.Statements.{Spelled, Parts, nothing, faulty, with_first, listed, joined, texts, all_pieces, parts, then_parts, parts_from}

-- the bytes of sources
abbrev pub bytes_of : List Source → List (List ℕ)
bytes_of ss = map (λ s. s.bytes.items) ss

abbrev pub spelled_of : RawStatement → Spelled
spelled_of s = record { bytes = s.bytes.items; places = s.places.items }

-- a refusal tells of a break, and names nothing
pub record Tells (r : Refusal) (b : Break) : Type 0 where
  pub place : r.place ≡ b.place
  pub rule : r.rule ≡ b.rule
  pub name : string_bytes r.name ≡ []

-- the letters from a cursor to the end of its source
unfoldable pub ahead : Cursor → List Letter
ahead c = letters c.file c.line c.column c.rest.now

-- what is left of the source of a cursor between two statements: in column 1 a line begins
unfoldable pub parts_ahead : Cursor → Parts
parts_ahead c =
    parts (all_pieces (if c.column == 1 then texts (lines_of (ahead c)) else listed (joined Outside (text Outside (line (ahead c))) (later_lines (ahead c)))))

-- what is left before a reader
unfoldable pub left : Statements → Parts
left r = then_parts (parts_ahead r.cursor) (parts_from (r.cursor.file + 1) r.room (bytes_of r.sources.now))

-- The answer of the reader's `next`, where these parts were left before it and those behind it. A fault stays, and
-- where memory ran out the same is left as before.
abbrev pub Nexts : Result (Option RawStatement) TextFault → Parts → Parts → Type 0
Nexts (Ok (Some s)) before behind = before ≡ with_first (spelled_of s) behind
Nexts (Ok None) before behind = (before ≡ nothing) × (behind ≡ nothing)
Nexts (Err (Refused r)) before behind = (b : Break) × Tells r b × (before ≡ faulty b) × (behind ≡ faulty b)
Nexts (Err Memory) before behind = behind ≡ before

-- a statement has bytes, and a place for each
pub record IsStatement (s : RawStatement) : Type 0 where
  pub some : 0 < length s.bytes.items
  pub paired : length s.bytes.items ≡ length s.places.items
