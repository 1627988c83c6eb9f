-- One letter more of a line.
use Rattle.std.proofs.Common.{◌≡◌, ℕ, ◌+◌, ◌<◌, length, List, [], ◌∷◌, Bool, true, false, ◌==◌, ◌||◌, ◌&&◌, not, refl, sym, ◌∙◌, arith, if◌then◌else◌}
use Rattle.std.proofs.lemmas.Bool.{eq-eqb, ne_eqb, or_parts, true≢false}
use Rattle.f3_text.specs.declared.letter.Letter.{Letter}
use Rattle.f3_text.specs.declared.letter.Quoting.{Quoting}
use Rattle.f3_text.specs.declared.letter.Quoting.TheVariants.{Outside}
use Rattle.f3_text.specs.declared.cursor.Cursor.{Cursor}
use Rattle.f3_text.specs.Lines.{letters, is_line_feed, ends_line, line, lines_below, lines_of, later_lines, is_blank, all_blank, is_comment, after, is_open, text, first_ampersand, last_ampersand}
use Rattle.f3_text.specs.Statements.{alone, listed, joined, texts, pieces, all_pieces, with_statement, unless_fault, parts, fault_in, unclosed}
use Rattle.f3_text.specs.Reader.{ahead, parts_ahead}
use Rattle.f3_text.specs.Inner.Steps.{IsTaken, ampersand_at, ends_text}

-- a cursor that moved one byte on
pub taken_feed : (c d : Cursor) (y : ℕ) (ys : List ℕ) → c.rest.now ≡ y ∷ ys → d.rest.now ≡ ys → y ≡ 10 → d.file ≡ c.file → d.line ≡ c.line + 1 → d.column ≡ 1
    → IsTaken c (record { byte = y; place = record { file = c.file; line = c.line; column = c.column } }) d
unfolding ahead letters
taken_feed c d y ys e f h p q r = record {
  letters = rw (e, f, p, q, r, eq-eqb y 10 h) refl;
  file = p;
  column = rw (r, eq-eqb y 10 h) refl;
}

pub taken_more : (c d : Cursor) (y : ℕ) (ys : List ℕ) → c.rest.now ≡ y ∷ ys → d.rest.now ≡ ys → (y ≡ 10 → ⊥) → d.file ≡ c.file → d.line ≡ c.line → d.column ≡ c.column + 1 → 0 < c.column
    → IsTaken c (record { byte = y; place = record { file = c.file; line = c.line; column = c.column } }) d
unfolding ahead letters
taken_more c d y ys e f h p q r z = record {
  letters = rw (e, f, p, q, r, ne_eqb y 10 h) refl;
  file = p;
  column = rw (ne_eqb y 10 h) (ne_eqb d.column 1 (λ o. omega arith));
}

pub nothing_ahead : (c : Cursor) → c.rest.now ≡ [] → ahead c ≡ []
unfolding ahead letters
nothing_ahead c e = rw e refl

pub length_taken : (L xs : List Letter) (x : Letter) → L ≡ x ∷ xs → length xs < length L
length_taken L xs x e = rw e (omega arith)

-- line feeds
pub feed_at : (L xs : List Letter) (x : Letter) → L ≡ x ∷ xs → is_line_feed L ≡ (x.byte == 10)
unfolding is_line_feed
feed_at L xs x e = rw e refl

pub no_feed : (L : List Letter) → L ≡ [] → is_line_feed L ≡ false
unfolding is_line_feed
no_feed L e = rw e refl

pub later_feed : (L xs : List Letter) (x : Letter) → L ≡ x ∷ xs → x.byte ≡ 10 → later_lines L ≡ lines_of xs
unfolding later_lines lines_of lines_below
later_feed L xs x e h = rw (e, eq-eqb x.byte 10 h) refl

pub below_more : (L xs : List Letter) (x : Letter) → L ≡ x ∷ xs → (x.byte ≡ 10 → ⊥) → lines_below xs ≡ lines_below L
unfolding lines_below
below_more L xs x e h = rw (e, ne_eqb x.byte 10 h) refl

pub later_same : (L M : List Letter) → lines_below L ≡ lines_below M → later_lines L ≡ later_lines M
unfolding later_lines
later_same L M e = rw e refl

pub later_end : (L : List Letter) → L ≡ [] → later_lines L ≡ lines_of L
unfolding later_lines lines_of lines_below line is_comment
later_end L e = rw e refl

pub line_nothing : (L : List Letter) → L ≡ [] → line L ≡ []
unfolding line
line_nothing L e = rw e refl

-- where a line begins, or the source ends
pub parts_at_line : (c : Cursor) → (c.column == 1) ≡ true → parts_ahead c ≡ parts (all_pieces (texts (lines_of (ahead c))))
unfolding parts_ahead
parts_at_line c e = rw e refl

pub parts_at_end : (c : Cursor) → ahead c ≡ [] → parts_ahead c ≡ parts (all_pieces (texts (lines_of (ahead c))))
unfolding parts_ahead line lines_below lines_of later_lines is_comment text alone listed joined texts last_ampersand pieces all_pieces parts with_statement unless_fault all_blank fault_in unclosed
parts_at_end c e = rw e (by (c.column == 1))
  where
    by : (t : Bool) → parts (all_pieces (if t then texts (lines_of []) else listed (joined Outside (text Outside (line [])) (later_lines [])))) ≡ parts (all_pieces (texts (lines_of [])))
    by true = refl
    by false = refl

-- the text of a line
pub text_goes : (w : Quoting) (x : Letter) (xs : List Letter) → ends_text w x xs ≡ false → (ends_line x xs ≡ false) × ((not (is_open w) && (x.byte == 33)) ≡ false)
unfolding ends_text
text_goes w x xs h = or_parts (ends_line x xs) (not (is_open w) && (x.byte == 33)) h

pub not_feed : (w : Quoting) (x : Letter) (xs : List Letter) → ends_text w x xs ≡ false → x.byte ≡ 10 → ⊥
unfolding ends_line
not_feed w x xs h e = true≢false (sym (eq-eqb x.byte 10 e) ∙ (or_parts (x.byte == 10) ((x.byte == 13) && is_line_feed xs) (text_goes w x xs h).0).0)

pub line_more : (w : Quoting) (L xs : List Letter) (x : Letter) → L ≡ x ∷ xs → ends_text w x xs ≡ false → line L ≡ x ∷ line xs
unfolding line
line_more w L xs x e h = let p = text_goes w x xs h in rw (e, p.0) refl

pub text_more : (w : Quoting) (L xs : List Letter) (x : Letter) → L ≡ x ∷ xs → ends_text w x xs ≡ false → text w (line L) ≡ x ∷ text (after w x) (line xs)
unfolding text
text_more w L xs x e h = let p = text_goes w x xs h in rw (line_more w L xs x e h, p.1, text) refl

pub text_end : (w : Quoting) (L xs : List Letter) (x : Letter) → L ≡ x ∷ xs → ends_text w x xs ≡ true → text w (line L) ≡ []
unfolding ends_text line text
text_end w L xs x e h = rw e (by (ends_line x xs) (not (is_open w) && (x.byte == 33)) refl refl h)
  where
    by : (s t : Bool) → ends_line x xs ≡ s → (not (is_open w) && (x.byte == 33)) ≡ t → (s || t) ≡ true → text w (if ends_line x xs then [] else x ∷ line xs) ≡ []
    by true t p q h = rw p refl
    by false true p q h = rw p (rw (q, text) refl)
    by false false p q h = absurd (true≢false (sym h))

pub text_nothing : (w : Quoting) (L : List Letter) → L ≡ [] → text w (line L) ≡ []
unfolding line text
text_nothing w L e = rw e refl

-- comment lines
pub comment_end : (L xs : List Letter) (x : Letter) → L ≡ x ∷ xs → ends_text Outside x xs ≡ true → is_comment (line L) ≡ true
unfolding ends_text line is_comment is_open
comment_end L xs x e h = rw e (by (ends_line x xs) (x.byte == 33) refl refl h)
  where
    by : (s t : Bool) → ends_line x xs ≡ s → (x.byte == 33) ≡ t → (s || t) ≡ true → is_comment (line (x ∷ xs)) ≡ true
    by true t p q h = rw p refl
    by false true p q h = rw (p, q) refl
    by false false p q h = absurd (true≢false (sym h))

pub comment_nothing : (L : List Letter) → L ≡ [] → is_comment (line L) ≡ true
unfolding line is_comment
comment_nothing L e = rw e refl

no_mark : (x : Letter) (xs : List Letter) → ends_text Outside x xs ≡ false → (x.byte == 33) ≡ false
unfolding ends_text is_open
no_mark x xs h = (text_goes Outside x xs h).1

pub comment_more : (L xs : List Letter) (x : Letter) → L ≡ x ∷ xs → ends_text Outside x xs ≡ false → is_blank x.byte ≡ true → is_comment (line xs) ≡ is_comment (line L)
unfolding is_comment
comment_more L xs x e h b = rw (line_more Outside L xs x e h, no_mark x xs h, b) refl

pub first_more : (L xs : List Letter) (x : Letter) → L ≡ x ∷ xs → ends_text Outside x xs ≡ false → is_blank x.byte ≡ true → first_ampersand (line xs) ≡ first_ampersand (line L)
unfolding first_ampersand
first_more L xs x e h b = rw (line_more Outside L xs x e h, b) refl

pub no_comment : (L xs : List Letter) (x : Letter) → L ≡ x ∷ xs → ends_text Outside x xs ≡ false → is_blank x.byte ≡ false → is_comment (line L) ≡ false
unfolding is_comment
no_comment L xs x e h b = rw (line_more Outside L xs x e h, no_mark x xs h, b) refl

pub first_here : (L xs : List Letter) (x : Letter) → L ≡ x ∷ xs → ends_text Outside x xs ≡ false → is_blank x.byte ≡ false → first_ampersand (line L) ≡ ampersand_at x (line xs)
unfolding first_ampersand
first_here L xs x e h b = rw (line_more Outside L xs x e h, b) refl

-- lines that are no comment lines
pub lines_comment : (L : List Letter) → is_comment (line L) ≡ true → lines_of L ≡ later_lines L
unfolding lines_of later_lines
lines_comment L e = rw e refl

pub lines_text : (L : List Letter) → is_comment (line L) ≡ false → lines_of L ≡ line L ∷ later_lines L
unfolding lines_of later_lines
lines_text L e = rw e refl

pub lines_nothing : (L : List Letter) → L ≡ [] → lines_of L ≡ []
unfolding lines_of line lines_below is_comment
lines_nothing L e = rw e refl

-- blanks to the end of a text
pub blank_more : (w : Quoting) (L xs : List Letter) (x : Letter) → L ≡ x ∷ xs → ends_text w x xs ≡ false → is_blank x.byte ≡ true → all_blank (text (after w x) (line xs)) ≡ all_blank (text w (line L))
unfolding all_blank
blank_more w L xs x e h b = rw (text_more w L xs x e h, b) refl

pub not_blank : (w : Quoting) (L xs : List Letter) (x : Letter) → L ≡ x ∷ xs → ends_text w x xs ≡ false → is_blank x.byte ≡ false → all_blank (text w (line L)) ≡ false
unfolding all_blank
not_blank w L xs x e h b = rw (text_more w L xs x e h, b) refl

pub blank_end : (t : List Letter) → t ≡ [] → all_blank t ≡ true
unfolding all_blank
blank_end t e = rw e refl

pub rest_nothing : (f l k : ℕ) (bs : List ℕ) → letters f l k bs ≡ [] → bs ≡ []
unfolding letters
rest_nothing f l k [] e = refl
rest_nothing f l k (b ∷ bs) e = cc

pub something_ahead : (c : Cursor) → (c.rest.now ≡ [] → ⊥) → ahead c ≡ [] → ⊥
unfolding ahead
something_ahead c n e = n (rest_nothing c.file c.line c.column c.rest.now e)
