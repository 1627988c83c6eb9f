-- The lines of a source text (3.3.1).
use Rattle.std.specs.Prelude.{ℕ, ◌+◌, List, [], ◌∷◌, Bool, true, false, Option, None, Some, ◌||◌, ◌&&◌, ◌==◌, not, if◌then◌else◌}
use Rattle.std.specs.List.{filter}
use Rattle.f3_text.specs.declared.letter.Letter.{Letter}
use Rattle.f3_text.specs.declared.letter.Quoting.{Quoting}
use Rattle.f3_text.specs.declared.letter.Quoting.TheVariants.{Outside, Inside, Closed}

-- The bytes that this page names: 9 tab, 10 line feed, 13 carriage return, 32 blank, 33 !, 34 ", 38 &, 39 ', 59 ;

-- the bytes of a source from a place on, each with its place: lines count line feeds, columns the bytes behind the last one
unfoldable pub letters : (file line column : ℕ) → List ℕ → List Letter
letters f l c [] = []
letters f l c (b ∷ bs) =
    record { byte = b; place = record { file = f; line = l; column = c } } ∷ (if b == 10 then letters f (l + 1) 1 bs else letters f l (c + 1) bs)

-- the line that a text begins with: it ends with LF, with CR LF, or with the text (own rule; 3.3.1 leaves lines to the processor)
unfoldable pub is_line_feed : List Letter → Bool
is_line_feed [] = false
is_line_feed (x ∷ xs) = x.byte == 10

unfoldable pub ends_line : Letter → List Letter → Bool
ends_line x xs = (x.byte == 10) || ((x.byte == 13) && is_line_feed xs)

unfoldable pub line : List Letter → List Letter
line [] = []
line (x ∷ xs) = if ends_line x xs then [] else x ∷ line xs

-- the lines behind it
unfoldable pub lines_below : List Letter → List (List Letter)
lines_below [] = []
lines_below (x ∷ xs) = if x.byte == 10 then line xs ∷ lines_below xs else lines_below xs

-- a tab is a blank (own rule)
unfoldable pub is_blank : ℕ → Bool
is_blank b = (b == 32) || (b == 9)

-- nothing but blanks
unfoldable pub all_blank : List Letter → Bool
all_blank [] = true
all_blank (x ∷ xs) = is_blank x.byte && all_blank xs

-- a comment line: blanks, or blanks and a comment (3.3.1.1)
unfoldable pub is_comment : List Letter → Bool
is_comment [] = true
is_comment (x ∷ xs) = (x.byte == 33) || (is_blank x.byte && is_comment xs)

-- the lines of a text that are no comment lines: the first may be the rest of a line
unfoldable pub lines_of : List Letter → List (List Letter)
lines_of xs = filter (λ l. not (is_comment l)) (line xs ∷ lines_below xs)

unfoldable pub later_lines : List Letter → List (List Letter)
later_lines xs = filter (λ l. not (is_comment l)) (lines_below xs)

-- a character constant begins with a quote and ends with the same quote, which stands there twice for itself (4.4.4)
unfoldable pub is_quote : ℕ → Bool
is_quote b = (b == 34) || (b == 39)

unfoldable pub after : Quoting → Letter → Quoting
after Outside x = if is_quote x.byte then Inside x else Outside
after (Inside q) x = if x.byte == q.byte then Closed q else Inside q
after (Closed q) x = if is_quote x.byte then Inside (if x.byte == q.byte then q else x) else Outside

unfoldable pub after_all : Quoting → List Letter → Quoting
after_all w [] = w
after_all w (x ∷ xs) = after_all (after w x) xs

unfoldable pub is_open : Quoting → Bool
is_open Outside = false
is_open (Inside q) = true
is_open (Closed q) = false

-- a line without its comment, which a `!` outside character constants begins (3.3.1.1)
unfoldable pub text : Quoting → List Letter → List Letter
text w [] = []
text w (x ∷ xs) = elim (not (is_open w) && (x.byte == 33)) [ true ↦ [] | false ↦ x ∷ text (after w x) xs ]

-- a text whose last letter that is no blank is `&`: that `&`, and what stands before it (3.3.1.3)
unfoldable pub last_ampersand : List Letter → Option (Letter × List Letter)
last_ampersand [] = None
last_ampersand (x ∷ xs) = elim (last_ampersand xs) [
  | Some found ↦ Some (found.0, x ∷ found.1)
  | None ↦ if (x.byte == 38) && all_blank xs then Some (x, []) else None
]

-- a line whose first letter that is no blank is `&`: that `&`, and what stands behind it (3.3.1.3)
unfoldable pub first_ampersand : List Letter → Option (Letter × List Letter)
first_ampersand [] = None
first_ampersand (x ∷ xs) = if is_blank x.byte then first_ampersand xs else (if x.byte == 38 then Some (x, xs) else None)
