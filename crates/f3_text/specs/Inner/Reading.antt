-- A statement while it is read.
use Rattle.std.specs.Prelude.{◌≡◌, ℕ, zero, suc, ◌+◌, slice_index, true, false, ◌<◌, ◌≤◌}
use Rattle.std.specs.Prelude.{List, [], ◌∷◌, ◌++◌, map, length, None, Some, Result, Ok, Err, ◌==◌, ◌&&◌, if◌then◌else◌}
use Rattle.f3_places.specs.declared.source.Place.{Place}
use Rattle.f3_rules.specs.declared.breaks.Break.{Break}
use Rattle.f3_text.specs.declared.letter.Letter.{Letter}
use Rattle.f3_text.specs.declared.letter.Quoting.{Quoting}
use Rattle.f3_text.specs.declared.letter.Quoting.TheVariants.{Outside, Inside, Closed}
use Rattle.f3_text.specs.declared.statement.RawStatement.{RawStatement}
use Rattle.f3_text.specs.declared.statement.TextFault.{TextFault}
use Rattle.f3_text.specs.declared.statement.TextFault.TheVariants.{Refused, Memory}
use Rattle.f3_text.specs.declared.cursor.Cursor.{Cursor}
use Rattle.f3_text.specs.declared.mode.Mode.{Mode}
use Rattle.f3_text.specs.declared.mode.Step.{Step}
use Rattle.f3_text.specs.declared.mode.Step.TheVariants.{On, Separated, Ended}
use Rattle.f3_text.specs.Lines.{is_blank, is_quote, line, later_lines, text}
use Rattle.f3_text.specs.Statements.{Texts, Spelled, Parts, faulty, with_first, with_statement, unless_fault, listed, joined, pieces}
use Rattle.f3_text.specs.Statements.{all_pieces, is_allowed, opens, closes, fault_at, fault_in, depth_in, parts}
use Rattle.f3_text.specs.Reader.{Tells, spelled_of, ahead, parts_ahead}

-- a letter put to the end of a statement: a blank only behind another letter
unfoldable pub added : Spelled → Letter → Spelled
added s x = if is_blank x.byte && (length s.bytes == 0) then s else record { bytes = s.bytes ++ x.byte ∷ []; places = s.places ++ x.place ∷ [] }

unfoldable pub extended : Spelled → List Letter → Spelled
extended s p = record { bytes = s.bytes ++ map (λ x. x.byte) p; places = s.places ++ map (λ x. x.place) p }

-- a statement of which this much is read, and then these letters, and the parts behind it
unfoldable pub completed : Spelled → List Letter → Parts → Parts
completed s p rest = elim s.bytes [ [] ↦ with_statement p rest | b ∷ bs ↦ with_first (extended s p) rest ]

-- a text from where it stands in w, cut into statements, and those of the texts behind
unfoldable pub pieces_of : Quoting → Texts → Texts
pieces_of w ts = record { first = (pieces w ts.first).first; others = (pieces w ts.first).others ++ all_pieces ts.others }

-- what is left where this much of a statement is read, w and d tell how its next letter stands, and these are its texts
unfoldable pub resumed : Spelled → Quoting → ℕ → Texts → Parts
resumed s w d ts = unless_fault (fault_in w d (pieces_of w ts).first) (completed s (pieces_of w ts).first (parts (pieces_of w ts).others))

-- and where these letters are ahead
unfoldable pub going : Spelled → Quoting → ℕ → List Letter → Parts
going s w d xs = resumed s w d (joined w (text w (line xs)) (later_lines xs))

abbrev pub none : Spelled
none = record { bytes = []; places = [] }

-- as many places as bytes
abbrev pub Paired : Spelled → Type 0
Paired s = length s.bytes ≡ length s.places

-- where nothing goes on behind an `&`, the fault is at the quote of the constant that is open, or else at the `&`
abbrev pub unfinished_place : Quoting → Letter → Place
unfinished_place Outside a = a.place
unfinished_place (Inside q) a = q.place
unfinished_place (Closed q) a = a.place

-- a refusal of this break
abbrev pub Refuses : TextFault → Break → Type 0
Refuses (Refused r) b = Tells r b
Refuses Memory b = ⊥

-- the number of open parentheses behind a letter, or its fault
abbrev pub Deepens : Result ℕ TextFault → Quoting → ℕ → Letter → Type 0
Deepens (Ok e) w d x = (fault_at w d x ≡ None) × (e ≡ depth_in w d x) × (e ≤ 64)
Deepens (Err (Refused r)) w d x = (b : Break) × Tells r b × (fault_at w d x ≡ Some b)
Deepens (Err Memory) w d x = ⊥

-- a byte that is no fault outside character constants, opens and closes nothing, and begins or ends nothing
pub record IsPlain (b : ℕ) : Type 0 where
  pub allowed : is_allowed b ≡ true
  pub no_comment : (b == 33) ≡ false
  pub no_end : (b == 59) ≡ false
  pub no_join : (b == 38) ≡ false
  pub no_quote : is_quote b ≡ false
  pub no_opening : opens b ≡ false
  pub no_closing : closes b ≡ false

-- so many bytes at the front are
abbrev pub ArePlain : ℕ → List ℕ → Type 0
ArePlain n bytes = (k : ℕ) → k < n → IsPlain (slice_index bytes k)

-- so many places side by side in a line, from this one on
abbrev pub places_from : ℕ → Place → List Place
places_from zero p = []
places_from (suc n) p = p ∷ places_from n (record { file = p.file; line = p.line; column = p.column + 1 })

-- parts that begin with this fault
abbrev pub Fails : TextFault → Parts → Type 0
Fails (Refused r) p = (b : Break) × Tells r b × (p ≡ faulty b)
Fails Memory p = Unit {0}

-- the next letter of a statement is read
pub record GoesOn (before : Parts) (old : Spelled) (from : Cursor) (m : Mode) (to : Cursor) (new : Spelled) : Type 0 where
  pub same : before ≡ going new m.quoting m.depth (ahead to)
  pub paired : Paired old → Paired new
  pub within : length (ahead to) ≤ length (ahead from)
  pub file : to.file ≡ from.file

-- the statement is read, and the source goes on behind its `;`
pub record IsSeparated (before : Parts) (old : Spelled) (from : Cursor) (new : Spelled) : Type 0 where
  pub same : before ≡ completed old [] (parts (all_pieces (listed (joined Outside (text Outside (line (ahead from))) (later_lines (ahead from))))))
  pub kept : new ≡ old

abbrev pub Steps : Result Step TextFault → Spelled → Mode → Letter → Cursor → Spelled → Type 0
Steps (Ok (On m to)) old o x from new = GoesOn (going old o.quoting o.depth (x ∷ ahead from)) old from m to new
Steps (Ok Separated) old o x from new = IsSeparated (going old o.quoting o.depth (x ∷ ahead from)) old from new × (x.byte ≡ 59)
Steps (Ok Ended) old o x from new = (text o.quoting (line (x ∷ ahead from)) ≡ []) × (new ≡ old)
Steps (Err e) old o x from new = Fails e (going old o.quoting o.depth (x ∷ ahead from))

-- where an `&` joins, and nothing else stands behind it on its line
abbrev pub Joins : Result (Mode × Cursor) TextFault → Spelled → Mode → Letter → Cursor → Spelled → Type 0
Joins (Ok j) old o x from new = GoesOn (going old o.quoting o.depth (x ∷ ahead from)) old from j.0 j.1 new
Joins (Err e) old o x from new = Fails e (going old o.quoting o.depth (x ∷ ahead from))

-- a statement is read, an empty one if it has no byte
pub record IsRead (before : Parts) (from : Cursor) (s : RawStatement) (to : Cursor) : Type 0 where
  pub same : before ≡ completed (spelled_of s) [] (parts_ahead to)
  pub paired : Paired (spelled_of s)
  pub file : to.file ≡ from.file

abbrev pub Reads : Result (RawStatement × Cursor) TextFault → Parts → Cursor → Type 0
Reads (Ok x) before from = IsRead before from x.0 x.1
Reads (Err e) before from = Fails e before

abbrev pub Shortens : Result (RawStatement × Cursor) TextFault → Cursor → Type 0
Shortens (Ok x) from = (length (ahead x.1) ≤ length (ahead from)) × ((ahead from ≡ [] → ⊥) → length (ahead x.1) < length (ahead from))
Shortens (Err e) from = Unit {0}
