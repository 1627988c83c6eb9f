-- What the steps along a source give.
use Rattle.std.specs.Prelude.{◌≡◌, ◌≤◌, List, [], ◌∷◌, length, Bool, true, false, Option, None, Some, ◌==◌, ◌||◌, ◌&&◌, not, if◌then◌else◌}
use Rattle.f3_text.specs.declared.letter.Letter.{Letter}
use Rattle.f3_text.specs.declared.cursor.Cursor.{Cursor}
use Rattle.f3_text.specs.declared.lines.TextLine.{TextLine}
use Rattle.f3_text.specs.declared.letter.Quoting.{Quoting}
use Rattle.f3_text.specs.Lines.{ends_line, line, lines_below, lines_of, later_lines, is_comment, is_open, first_ampersand}
use Rattle.f3_text.specs.Reader.{ahead}

-- a letter, and the cursor behind it
pub record IsTaken (c : Cursor) (x : Letter) (behind : Cursor) : Type 0 where
  pub letters : ahead c ≡ x ∷ ahead behind
  pub file : behind.file ≡ c.file
  pub column : (behind.column == 1) ≡ (x.byte == 10)

abbrev pub Takes : Cursor → Option (Letter × Cursor) → Type 0
Takes c None = ahead c ≡ []
Takes c (Some x) = IsTaken c x.0 x.1

-- the `&` that a line begins with, where x is its first letter that is no blank
abbrev pub ampersand_at : Letter → List Letter → Option (Letter × List Letter)
ampersand_at x behind = if x.byte == 38 then Some (x, behind) else None

-- a line that is no comment line: its first letter that is no blank, and what stands behind that
pub record HasFirst (start : Cursor) (x : Letter) (behind : Cursor) : Type 0 where
  pub is_text : is_comment (line (ahead start)) ≡ false
  pub first : first_ampersand (line (ahead start)) ≡ ampersand_at x (line (ahead behind))
  pub below : lines_below (ahead behind) ≡ lines_below (ahead start)
  pub within : length (ahead behind) ≤ length (ahead start)
  pub file : behind.file ≡ start.file

abbrev pub FindsFirst : Cursor → Option (Letter × Cursor) → Type 0
FindsFirst start None = is_comment (line (ahead start)) ≡ true
FindsFirst start (Some x) = HasFirst start x.0 x.1

-- the first line that is no comment line
pub record IsTextLine (from : Cursor) (t : TextLine) : Type 0 where
  pub lines : lines_of (ahead from) ≡ line (ahead t.start) ∷ later_lines (ahead t.start)
  pub first : first_ampersand (line (ahead t.start)) ≡ ampersand_at t.first (line (ahead t.behind))
  pub later : later_lines (ahead t.behind) ≡ later_lines (ahead t.start)
  pub start_within : length (ahead t.start) ≤ length (ahead from)
  pub behind_within : length (ahead t.behind) ≤ length (ahead from)
  pub start_file : t.start.file ≡ from.file
  pub behind_file : t.behind.file ≡ from.file

abbrev pub FindsLine : Cursor → Option TextLine → Type 0
FindsLine from None = lines_of (ahead from) ≡ []
FindsLine from (Some t) = IsTextLine from t

-- a letter ends the text of its line: the line ends there, or a comment begins
unfoldable pub ends_text : Quoting → Letter → List Letter → Bool
ends_text w x xs = ends_line x xs || (not (is_open w) && (x.byte == 33))
