-- What the steps along sources give.
use Rattle.std.specs.Prelude.{◌≡◌, ℕ, ◌+◌, ◌<◌, ◌≤◌, List, [], length, Option, None, Some, Result, Ok, Err}
use Rattle.f3_places.specs.declared.source.Source.{Source}
use Rattle.f3_text.specs.declared.letter.Quoting.TheVariants.{Outside}
use Rattle.f3_text.specs.declared.statement.RawStatement.{RawStatement}
use Rattle.f3_text.specs.declared.statement.TextFault.{TextFault}
use Rattle.f3_text.specs.declared.cursor.Cursor.{Cursor}
use Rattle.f3_text.specs.declared.reader.Statements.{Statements}
use Rattle.f3_text.specs.Statements.{nothing, with_first, parts_from}
use Rattle.f3_text.specs.Reader.{spelled_of, ahead, parts_ahead, left, bytes_of, IsStatement}
use Rattle.f3_text.specs.Inner.Reading.{going, none, Fails}

-- where the next statement of a source begins
pub record Begins (from start : Cursor) : Type 0 where
  pub same : parts_ahead from ≡ going none Outside 0 (ahead start)
  pub within : length (ahead start) ≤ length (ahead from)
  pub file : start.file ≡ from.file

abbrev pub FindsStart : Result (Option Cursor) TextFault → Cursor → Type 0
FindsStart (Ok (Some start)) from = Begins from start
FindsStart (Ok None) from = parts_ahead from ≡ nothing
FindsStart (Err e) from = Fails e (parts_ahead from)

-- the next statement of a source
pub record IsNext (from : Cursor) (s : RawStatement) (behind : Cursor) : Type 0 where
  pub same : parts_ahead from ≡ with_first (spelled_of s) (parts_ahead behind)
  pub statement : IsStatement s
  pub file : behind.file ≡ from.file

abbrev pub FindsNext : Result (Option (RawStatement × Cursor)) TextFault → Cursor → Type 0
FindsNext (Ok (Some x)) from = IsNext from x.0 x.1
FindsNext (Ok None) from = parts_ahead from ≡ nothing
FindsNext (Err e) from = Fails e (parts_ahead from)

-- a reader that stands before the first of these sources, where the one before has this number
abbrev pub Enters : Result (Option Statements) TextFault → ℕ → ℕ → List Source → Type 0
Enters (Ok (Some r)) file room ss = (parts_from (file + 1) room (bytes_of ss) ≡ left r) × (length r.sources.now < length ss)
Enters (Ok None) file room ss = ss ≡ []
Enters (Err e) file room ss = Fails e (parts_from (file + 1) room (bytes_of ss))
