-- The statements of source texts, and the first fault of their text (3.3.1).
use Rattle.std.specs.Prelude.{ℕ, ◌+◌, ◌-◌, List, [], ◌∷◌, ◌++◌, map, length, Bool, true, false, Option, None, Some, ◌||◌, ◌&&◌, ◌==◌, not}
use Rattle.std.specs.Prelude.{nat_lt, if◌then◌else◌, option_map}
use Rattle.std.specs.Char.{is_ascii_alphanumeric}
use Rattle.std.specs.List.{list_any}
use Rattle.f3_places.specs.declared.source.Place.{Place}
use Rattle.f3_rules.specs.declared.rule.Rule.{Rule}
use Rattle.f3_rules.specs.declared.rule.Rule.TheVariants.{S1, S2, S8}
use Rattle.f3_rules.specs.declared.breaks.Break.{Break}
use Rattle.f3_text.specs.declared.letter.Letter.{Letter}
use Rattle.f3_text.specs.declared.letter.Quoting.{Quoting}
use Rattle.f3_text.specs.declared.letter.Quoting.TheVariants.{Outside, Inside, Closed}
use Rattle.f3_text.specs.Lines.{letters, lines_of, is_blank, all_blank, after, after_all, is_open, text, last_ampersand, first_ampersand}

-- Lines joined (3.3.1.3)

-- a text, and the texts behind it
pub record Texts : Type 0 where
  pub first : List Letter
  pub others : List (List Letter)

unfoldable pub alone : List Letter → Texts
alone t = record { first = t; others = [] }

unfoldable pub listed : Texts → List (List Letter)
listed ts = ts.first ∷ ts.others

-- letters before the first text
unfoldable pub onto : List Letter → Texts → Texts
onto xs ts = record { first = xs ++ ts.first; others = ts.others }

-- the blank for which a join stands, at the place of its `&`
unfoldable pub join_blank : Letter → Letter
join_blank a = record { byte = 32; place = a.place }

-- a line on which a statement begins: where its only letter but blanks is `&`, that stays and nothing is joined to it
unfoldable pub begun : List Letter → Texts → List (List Letter)
begun l ts = elim (first_ampersand l) [
  | Some f ↦ elim (all_blank (text Outside f.1)) [ true ↦ (f.0 ∷ []) ∷ [] | false ↦ listed ts ]
  | None ↦ listed ts
]

-- where nothing goes on behind an `&`, the text ends: the `&` stays, unless a constant is open, which is the fault then
unfoldable pub unfinished : Quoting → Letter → Texts
unfinished v a = alone (if is_open v then [] else a ∷ [])

-- The texts of lines, each with those that continue it: t is the first line without its comment, w how it begins, and
-- the later lines are no comment lines. An `&` that joins is dropped, and every other one stays.
unfoldable pub joined : Quoting → List Letter → List (List Letter) → Texts
joined w t [] = elim (last_ampersand t) [ None ↦ alone t | Some a ↦ onto a.1 (unfinished (after_all w a.1) a.0) ]
joined w t (n ∷ ls) = elim (last_ampersand t) [
  | None ↦ record { first = t; others = begun n (joined Outside (text Outside n) ls) }
  | Some a ↦ let v : Quoting = after_all w a.1 in onto a.1 (elim (first_ampersand n) [
    | Some f ↦ elim (all_blank (text v f.1)) [ true ↦ unfinished v f.0 | false ↦ joined v (text v f.1) ls ]
    | None ↦ elim (is_open v) [
      | true ↦ unfinished v a.0
      | false ↦ let u : Quoting = after v (join_blank a.0) in onto (join_blank a.0 ∷ []) (joined u (text u n) ls)
    ]
  ])
]

-- the texts of the lines of a source that are no comment lines
unfoldable pub texts : List (List Letter) → List (List Letter)
texts [] = []
texts (n ∷ ls) = begun n (joined Outside (text Outside n) ls)

-- Texts cut into statements (3.3.1.2)

unfoldable pub separates : Quoting → Letter → Bool
separates w x = not (is_open w) && (x.byte == 59)

-- a text from where it stands in w, cut at each `;` outside character constants
unfoldable pub pieces : Quoting → List Letter → Texts
pieces w [] = alone []
pieces w (x ∷ xs) = elim (separates w x) [
  | true ↦ record { first = []; others = listed (pieces Outside xs) }
  | false ↦ onto (x ∷ []) (pieces (after w x) xs)
]

unfoldable pub all_pieces : List (List Letter) → List (List Letter)
all_pieces [] = []
all_pieces (t ∷ ts) = listed (pieces Outside t) ++ all_pieces ts

-- The faults of a statement (own rules)

-- the bytes that may stand outside comments and character constants (3.1)
unfoldable pub is_allowed : ℕ → Bool
is_allowed b =
    is_ascii_alphanumeric b
    || list_any (λ c. c == b) (9 ∷ 32 ∷ 95 ∷ 61 ∷ 43 ∷ 45 ∷ 42 ∷ 47 ∷ 40 ∷ 41 ∷ 44 ∷ 46 ∷ 58 ∷ 59 ∷ 33 ∷ 37 ∷ 38 ∷ 60 ∷ 62 ∷ 91 ∷ 93 ∷ 39 ∷ 34 ∷ [])

-- `(` and `[` open, `)` and `]` close the last that is open
unfoldable pub opens : ℕ → Bool
opens b = (b == 40) || (b == 91)

unfoldable pub closes : ℕ → Bool
closes b = (b == 41) || (b == 93)

unfoldable pub depth_after : ℕ → ℕ → ℕ
depth_after d b = if opens b then d + 1 else (if closes b then d - 1 else d)

-- the rule that a byte outside character constants breaks, where d parentheses are open
unfoldable pub broken : ℕ → ℕ → Option Rule
broken d b = if b == 38 then Some S2 else (if not (is_allowed b) then Some S1 else (if opens b && (d == 64) then Some S8 else None))

-- a break of this rule at this place
unfoldable pub break_at : Rule → Place → Break
break_at r p = record { phase = 1; place = p; rule = r; name = None }

-- a constant that is not closed
unfoldable pub unclosed : Quoting → Option Break
unclosed Outside = None
unclosed (Inside q) = Some (break_at S2 q.place)
unclosed (Closed q) = None

-- the fault of a letter: none inside a constant
unfoldable pub fault_at : Quoting → ℕ → Letter → Option Break
fault_at w d x = if is_open w then None else option_map (λ r. break_at r x.place) (broken d x.byte)

unfoldable pub depth_in : Quoting → ℕ → Letter → ℕ
depth_in w d x = if is_open w then d else depth_after d x.byte

-- The first fault of a statement, from where it stands in w and d parentheses are open. Its letters stand in order of
-- place, and no letter behind the quote of a constant that is not closed is a fault: so the first met is the least.
unfoldable pub fault_in : Quoting → ℕ → List Letter → Option Break
fault_in w d [] = unclosed w
fault_in w d (x ∷ xs) = elim (fault_at w d x) [ Some f ↦ Some f | None ↦ fault_in (after w x) (depth_in w d x) xs ]

-- Sources

-- a statement: its bytes and the place of each, from the first that is no blank; blanks at its end belong to it
pub record Spelled : Type 0 where
  pub bytes : List ℕ
  pub places : List Place

unfoldable pub trimmed : List Letter → List Letter
trimmed [] = []
trimmed (x ∷ xs) = if is_blank x.byte then trimmed xs else x ∷ xs

unfoldable pub spelled : List Letter → Spelled
spelled s = record { bytes = map (λ x. x.byte) s; places = map (λ x. x.place) s }

-- statements up to the first fault, and that fault
pub record Parts : Type 0 where
  pub statements : List Spelled
  pub fault : Option Break

unfoldable pub nothing : Parts
nothing = record { statements = []; fault = None }

unfoldable pub faulty : Break → Parts
faulty b = record { statements = []; fault = Some b }

-- a statement, and then others
unfoldable pub with_first : Spelled → Parts → Parts
with_first s rest = record { statements = s ∷ rest.statements; fault = rest.fault }

-- an empty statement is dropped
unfoldable pub with_statement : List Letter → Parts → Parts
with_statement s rest = if all_blank s then rest else with_first (spelled (trimmed s)) rest

-- a statement with a fault is not examined further, and nothing behind it
unfoldable pub unless_fault : Option Break → Parts → Parts
unless_fault None ps = ps
unless_fault (Some f) ps = faulty f

unfoldable pub parts : List (List Letter) → Parts
parts [] = nothing
parts (s ∷ ss) = unless_fault (fault_in Outside 0 s) (with_statement s (parts ss))

-- statements, and then those of the sources behind, where there was no fault
unfoldable pub then_parts : Parts → Parts → Parts
then_parts a b = elim a.fault [ Some f ↦ a | None ↦ record { statements = a.statements ++ b.statements; fault = b.fault } ]

-- one source
unfoldable pub parts_of : ℕ → List ℕ → Parts
parts_of file bytes = parts (all_pieces (texts (lines_of (letters file 1 1 bytes))))

-- sources from this one on, where the earlier ones leave room for so many bytes
unfoldable pub parts_from : (file room : ℕ) → List (List ℕ) → Parts
parts_from file room [] = nothing
parts_from file room (b ∷ bs) = elim (nat_lt room (length b)) [
  | true ↦ faulty (break_at S8 (record { file = file; line = 1; column = 1 }))
  | false ↦ then_parts (parts_of file b) (parts_from (file + 1) (room - length b) bs)
]

-- The statements of sources before their first fault, and that fault: all sources together have at most 16,777,216
-- bytes, and a source with which they have more is not examined (own rule).
unfoldable pub cut_of : List (List ℕ) → Parts
cut_of sources = parts_from 1 16777216 sources
