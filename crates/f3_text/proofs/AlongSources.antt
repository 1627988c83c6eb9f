-- From statement to statement, and from source to source.
use Rattle.std.proofs.Common.{◌≡◌, ℕ, ◌+◌, ◌-◌, ◌<◌, ◌≤◌, length, List, [], ◌∷◌, Bool, true, false, Option, None, Some, Err, ◌==◌, ◌&&◌, refl, sym, ap, ◌∙◌, arith, append-nil, vec_len}
use Rattle.std.proofs.lemmas.Bool.{eq-eqb, ne_eqb, eqb-true, eqb-false, and_parts, true≢false, lt-ltb, le-ltb}
use Rattle.f3_places.specs.declared.source.Place.{Place}
use Rattle.f3_places.specs.declared.source.Source.{Source}
use Rattle.f3_rules.specs.declared.rule.Rule.TheVariants.{S2, S8}
use Rattle.f3_rules.specs.declared.breaks.Break.{Break}
use Rattle.f3_text.specs.declared.letter.Letter.{Letter}
use Rattle.f3_text.specs.declared.letter.Quoting.TheVariants.{Outside}
use Rattle.f3_text.specs.declared.lines.TextLine.{TextLine}
use Rattle.f3_text.specs.declared.statement.RawStatement.{RawStatement}
use Rattle.f3_text.specs.declared.statement.TextFault.{TextFault}
use Rattle.f3_text.specs.declared.statement.TextFault.TheVariants.{Refused, Memory}
use Rattle.f3_text.specs.declared.cursor.Cursor.{Cursor}
use Rattle.f3_text.specs.Lines.{line, lines_of, later_lines, all_blank, is_open, text, first_ampersand}
use Rattle.f3_text.specs.Statements.{Texts, Spelled, Parts, alone, listed, onto, begun, joined, texts, separates, pieces, all_pieces, broken, break_at, fault_at, fault_in, nothing, faulty, with_first, with_statement, unless_fault, parts, then_parts, parts_of, parts_from}
use Rattle.f3_text.specs.Inner.Steps.{ampersand_at, IsTextLine}
use Rattle.f3_text.specs.declared.reader.Statements.{Statements}
use Rattle.f3_text.specs.Reader.{ahead, parts_ahead, left, bytes_of, Nexts}
use Rattle.f3_text.specs.Inner.Reading.{going, none, Fails, IsRead, completed, extended}
use Rattle.f3_text.specs.Inner.Sources.{Begins, IsNext}
use Rattle.f3_text.proofs.AlongLines.{parts_at_line, parts_at_end, lines_nothing}
use Rattle.f3_text.proofs.Going.{going_start, parts_within, mark_at}

-- behind a `;`
pub begins_here : (c : Cursor) → (c.column ≡ 1 → ⊥) → Begins c c
begins_here c n = record {
  same = parts_within c (ne_eqb c.column 1 n) ∙ going_start (ahead c);
  within = omega arith;
  file = refl;
}

-- no line is left
pub no_lines : (c : Cursor) → c.column ≡ 1 → lines_of (ahead c) ≡ [] → parts_ahead c ≡ nothing
unfolding texts all_pieces parts
no_lines c h e = parts_at_line c (eq-eqb c.column 1 h) ∙ rw e refl

-- a line begins
lone_line : (n r : List Letter) (y : Letter) (ts : Texts) → first_ampersand n ≡ Some (y, r) → all_blank (text Outside r) ≡ true → begun n ts ≡ (y ∷ []) ∷ []
unfolding begun
lone_line n r y ts e h = rw (e, begun) (rw (h, begun) refl)

begun_behind : (n r : List Letter) (y : Letter) (ts : Texts) → first_ampersand n ≡ Some (y, r) → all_blank (text Outside r) ≡ false → begun n ts ≡ listed ts
unfolding begun
begun_behind n r y ts e h = rw (e, begun) (rw (h, begun) refl)

begun_plain : (n : List Letter) (ts : Texts) → first_ampersand n ≡ None → begun n ts ≡ listed ts
unfolding begun
begun_plain n ts e = rw (e, begun) refl

lone_fault : (y : Letter) → y.byte ≡ 38 → parts (all_pieces ((y ∷ []) ∷ [])) ≡ faulty (break_at S2 y.place)
unfolding parts all_pieces listed pieces separates is_open onto alone fault_in fault_at broken unless_fault
lone_fault y e = rw e refl

at_line : (c : Cursor) (t : TextLine) → c.column ≡ 1 → IsTextLine c t → parts_ahead c ≡ parts (all_pieces (begun (line (ahead t.start)) (joined Outside (text Outside (line (ahead t.start))) (later_lines (ahead t.start)))))
unfolding texts
at_line c t h i = parts_at_line c (eq-eqb c.column 1 h) ∙ ap (λ (ls : List (List Letter)). parts (all_pieces (texts ls))) i.lines

pub begins_lone : (c : Cursor) (t : TextLine) → c.column ≡ 1 → IsTextLine c t → ((t.first.byte == 38) && all_blank (text Outside (line (ahead t.behind)))) ≡ true → parts_ahead c ≡ faulty (break_at S2 t.first.place)
begins_lone c t h i e =
    let p = and_parts (t.first.byte == 38) (all_blank (text Outside (line (ahead t.behind)))) e in
    let b : t.first.byte ≡ 38 = eqb-true t.first.byte 38 p.0 in
    at_line c t h i
    ∙ ap (λ (ts : List (List Letter)). parts (all_pieces ts)) (lone_line _ _ _ _ (i.first ∙ mark_at t.first (line (ahead t.behind)) b) p.1)
    ∙ lone_fault t.first b

begun_else : (n b : List Letter) (y : Letter) (ts : Texts) → first_ampersand n ≡ ampersand_at y b → ((y.byte == 38) && all_blank (text Outside b)) ≡ false → begun n ts ≡ listed ts
begun_else n b y ts e h = by (y.byte == 38) (all_blank (text Outside b)) refl refl
  where
    by : (s t : Bool) → (y.byte == 38) ≡ s → all_blank (text Outside b) ≡ t → begun n ts ≡ listed ts
    by false t p q = begun_plain n ts (e ∙ rw p refl)
    by true false p q = begun_behind n b y ts (e ∙ rw p refl) q
    by true true p q = let k = rw (p, q) at h in absurd (true≢false k)

pub begins_line : (c : Cursor) (t : TextLine) → c.column ≡ 1 → IsTextLine c t → ((t.first.byte == 38) && all_blank (text Outside (line (ahead t.behind)))) ≡ false → Begins c t.start
begins_line c t h i e = record {
  same =
      at_line c t h i
      ∙ ap (λ (ts : List (List Letter)). parts (all_pieces ts)) (begun_else _ _ _ _ i.first e)
      ∙ going_start (ahead t.start);
  within = i.start_within;
  file = i.start_file;
}

pub nothing_left : (c : Cursor) → ahead c ≡ [] → parts_ahead c ≡ nothing
unfolding texts all_pieces parts
nothing_left c e = parts_at_end c e ∙ rw (lines_nothing (ahead c) e) refl

-- what was read
completed_some : (bs : List ℕ) (ps : List Place) (p : Parts) → (length bs ≡ 0 → ⊥) → completed (record { bytes = bs; places = ps }) [] p ≡ with_first (record { bytes = bs; places = ps }) p
unfolding completed extended
completed_some [] ps p n = absurd (n refl)
completed_some (b ∷ bs) ps p n = rw (append-nil (b ∷ bs), append-nil ps) refl

completed_none : (bs : List ℕ) (ps : List Place) (p : Parts) → length bs ≡ 0 → completed (record { bytes = bs; places = ps }) [] p ≡ p
unfolding completed with_statement all_blank
completed_none [] ps p e = refl
completed_none (b ∷ bs) ps p e = absurd (omega arith)

pub is_next : (from at start behind : Cursor) (s : RawStatement) → parts_ahead at ≡ parts_ahead from → at.file ≡ from.file → Begins at start → IsRead (going none Outside 0 (ahead start)) start s behind
    → false ≡ (vec_len s.bytes == 0) → IsNext from s behind
is_next from at start behind s e f b r n =
    let full : length s.bytes.items ≡ 0 → ⊥ = λ e. eqb-false (vec_len s.bytes) 0 (sym n) (s.bytes.ok.0 ∙ e) in
    record {
      same = sym e ∙ b.same ∙ r.same ∙ completed_some s.bytes.items s.places.items (parts_ahead behind) full;
      statement = record { some = omega arith; paired = r.paired };
      file = r.file ∙ b.file ∙ f;
    }

pub skipped : (from at start behind : Cursor) (s : RawStatement) → parts_ahead at ≡ parts_ahead from → Begins at start → IsRead (going none Outside 0 (ahead start)) start s behind
    → true ≡ (vec_len s.bytes == 0) → parts_ahead behind ≡ parts_ahead from
skipped from at start behind s e b r n =
    sym (completed_none s.bytes.items s.places.items (parts_ahead behind) (sym s.bytes.ok.0 ∙ eqb-true (vec_len s.bytes) 0 (sym n))) ∙ sym r.same ∙ sym b.same ∙ e

pub fails_same : (e : TextFault) (p q : Parts) → Fails e p → p ≡ q → Fails e q
fails_same (Refused r) p q h k = (h.0, h.1, sym k ∙ h.2)
fails_same Memory p q h k = tt

-- sources
pub too_long : (file room : ℕ) (b : List ℕ) (bs bss : List (List ℕ)) → bss ≡ b ∷ bs → room < length b → parts_from file room bss ≡ faulty (break_at S8 (record { file = file; line = 1; column = 1 }))
unfolding parts_from
too_long file room b bs bss e h = rw e (rw (lt-ltb room (length b) h, parts_from) refl)

pub entered : (file room : ℕ) (b : List ℕ) (bs bss : List (List ℕ)) → bss ≡ b ∷ bs → length b ≤ room → parts_from file room bss ≡ then_parts (parts_of file b) (parts_from (file + 1) (room - length b) bs)
unfolding parts_from
entered file room b bs bss e h = rw e (rw (le-ltb room (length b) h, parts_from) refl)

pub source_begins : (c : Cursor) → c.line ≡ 1 → c.column ≡ 1 → parts_ahead c ≡ parts_of c.file c.rest.now
unfolding parts_ahead ahead parts_of
source_begins c l k = rw (l, k) refl

pub bytes_behind : (ss others : List Source) (s : Source) → ss ≡ s ∷ others → bytes_of ss ≡ s.bytes.items ∷ bytes_of others
bytes_behind ss others s e = rw e refl

pub reader_begins : (r : Statements) (f room : ℕ) (b : List ℕ) (bss : List (List ℕ)) → bss ≡ b ∷ bytes_of r.sources.now → length b ≤ room → r.cursor.file ≡ f → r.cursor.line ≡ 1 → r.cursor.column ≡ 1 → r.cursor.rest.now ≡ b → r.room ≡ room - length b
    → parts_from f room bss ≡ left r
unfolding left
reader_begins r f room b bss e h g l k q m =
    entered f room b (bytes_of r.sources.now) bss e h ∙ rw (source_begins r.cursor l k) (rw (g, q, m) refl)

then_first : (s : Spelled) (p q : Parts) → then_parts (with_first s p) q ≡ with_first s (then_parts p q)
unfolding then_parts with_first
then_first s p q = by p.fault refl
  where
    by : (o : Option Break) → p.fault ≡ o → then_parts (with_first s p) q ≡ with_first s (then_parts p q)
    by None e = rw (e, then_parts) refl
    by (Some b) e = rw (e, then_parts) refl

pub left_next : (o n : Statements) (s : Spelled) → parts_ahead o.cursor ≡ with_first s (parts_ahead n.cursor) → n.cursor.file ≡ o.cursor.file → n.room ≡ o.room → n.sources.now ≡ o.sources.now → left o ≡ with_first s (left n)
unfolding left
left_next o n s e f r q = rw e (then_first s (parts_ahead n.cursor) (parts_from (o.cursor.file + 1) o.room (bytes_of o.sources.now)) ∙ ap (λ (p : Parts). with_first s (then_parts (parts_ahead n.cursor) p)) (rw (f, r, q) refl))

pub left_fault : (o : Statements) (b : Break) → parts_ahead o.cursor ≡ faulty b → left o ≡ faulty b
unfolding left then_parts faulty
left_fault o b e = rw e refl

pub left_nothing : (o : Statements) → parts_ahead o.cursor ≡ nothing → left o ≡ parts_from (o.cursor.file + 1) o.room (bytes_of o.sources.now)
unfolding left then_parts nothing
left_nothing o e = rw e refl

-- a reader at a fault, and one that ran out of memory
pub stays : (e : TextFault) (o p : Parts) (n : Parts) → Fails e n → n ≡ o → p ≡ n → Nexts (Err e) o p
stays (Refused r) o p n h k q = (h.0, h.1, sym k ∙ h.2, q ∙ h.2)
stays Memory o p n h k q = q ∙ k

pub fails_left : (e : TextFault) (o : Statements) → Fails e (parts_ahead o.cursor) → Fails e (left o)
fails_left (Refused r) o h = (h.0, h.1, left_fault o h.0 h.2)
fails_left Memory o h = tt

pub left_end : (o : Statements) → parts_ahead o.cursor ≡ nothing → o.sources.now ≡ [] → left o ≡ nothing
unfolding left then_parts nothing parts_from
left_end o e f = rw (e, f) refl
