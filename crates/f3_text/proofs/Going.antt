-- One letter more of a statement.
use Rattle.std.proofs.Common.{◌≡◌, ℕ, zero, suc, ◌+◌, take, drop, append-nil, ◌-◌, ◌≤◌, length, List, [], ◌∷◌, ◌++◌, Bool, true, false, Option, None, Some, ◌==◌, ◌&&◌, not, refl, sym, ap, ◌∙◌, arith, if◌then◌else◌, append_assoc, length-append, inl, inr, Err, Ok, Result, ◌<◌}
use Rattle.std.proofs.lemmas.List.{length-take, length-drop}
use Rattle.std.proofs.lemmas.Bool.{eq-eqb, ne_eqb, eqb-true, eqb-false, or_cases, and_parts, and_right, true≢false}
use Rattle.f3_places.specs.declared.source.Place.{Place}
use Rattle.f3_rules.specs.declared.rule.Rule.{Rule}
use Rattle.f3_rules.specs.declared.rule.Rule.TheVariants.{S2}
use Rattle.f3_rules.specs.declared.breaks.Break.{Break}
use Rattle.f3_text.specs.declared.letter.Letter.{Letter}
use Rattle.f3_text.specs.declared.letter.Quoting.{Quoting}
use Rattle.f3_text.specs.declared.letter.Quoting.TheVariants.{Outside, Inside, Closed}
use Rattle.f3_text.specs.Lines.{letters, line, later_lines, ends_line, is_blank, is_quote, all_blank, after, after_all, is_open, text, first_ampersand, last_ampersand}
use Rattle.f3_text.specs.Statements.{Texts, Spelled, Parts, alone, listed, onto, join_blank, unfinished, joined, texts, separates, pieces, all_pieces, broken, is_allowed, opens, closes, depth_after, break_at, unclosed, fault_at, depth_in, fault_in, trimmed, spelled, faulty, with_first, with_statement, unless_fault, parts}
use Rattle.f3_text.specs.Inner.Steps.{ends_text, ampersand_at}
use Rattle.f3_text.proofs.AlongLines.{text_more, later_same, below_more, not_feed}
use Rattle.f3_text.specs.declared.statement.TextFault.{TextFault}
use Rattle.f3_text.specs.declared.statement.TextFault.TheVariants.{Refused, Memory}
use Rattle.f3_text.specs.Inner.Reading.{added, extended, completed, pieces_of, resumed, going, none, unfinished_place, Paired, IsPlain, ArePlain, places_from, Refuses, Fails, Deepens, Reads, IsRead, Shortens, IsSeparated}
use Rattle.f3_text.specs.declared.statement.RawStatement.{RawStatement}
use Rattle.f3_text.specs.declared.cursor.Cursor.{Cursor}
use Rattle.f3_text.specs.Reader.{ahead, spelled_of, parts_ahead}

-- faults
fault_more : (w : Quoting) (d : ℕ) (x : Letter) (xs : List Letter) → fault_at w d x ≡ None → fault_in w d (x ∷ xs) ≡ fault_in (after w x) (depth_in w d x) xs
unfolding fault_in
fault_more w d x xs e = rw (e, fault_in) refl

fault_here : (w : Quoting) (d : ℕ) (x : Letter) (xs : List Letter) (f : Break) → fault_at w d x ≡ Some f → fault_in w d (x ∷ xs) ≡ Some f
unfolding fault_in
fault_here w d x xs f e = rw (e, fault_in) refl

-- pieces
pieces_more : (w : Quoting) (x : Letter) (xs : List Letter) → separates w x ≡ false → pieces w (x ∷ xs) ≡ onto (x ∷ []) (pieces (after w x) xs)
unfolding pieces
pieces_more w x xs e = rw (e, pieces) refl

pieces_end : (w : Quoting) (x : Letter) (xs : List Letter) → separates w x ≡ true → pieces w (x ∷ xs) ≡ record { first = []; others = listed (pieces Outside xs) }
unfolding pieces
pieces_end w x xs e = rw (e, pieces) refl

-- what is read of a statement
extended_more : (s : Spelled) (x : Letter) (p : List Letter) → extended s (x ∷ p) ≡ extended (record { bytes = s.bytes ++ x.byte ∷ []; places = s.places ++ x.place ∷ [] }) p
unfolding extended
extended_more s x p = simp append_assoc

completed_more : (bs : List ℕ) (ps : List Place) (x : Letter) (p : List Letter) (rest : Parts) → length bs ≡ length ps → completed (record { bytes = bs; places = ps }) (x ∷ p) rest ≡ completed (added (record { bytes = bs; places = ps }) x) p rest
unfolding completed added with_statement all_blank trimmed spelled extended
completed_more [] [] x p rest e = by (is_blank x.byte) refl
  where
    by : (t : Bool) → is_blank x.byte ≡ t → completed none (x ∷ p) rest ≡ completed (added none x) p rest
    by true h = rw h refl
    by false h = rw h refl
completed_more [] (q ∷ qs) x p rest e = absurd (omega arith)
completed_more (b ∷ bs) ps x p rest e =
    let full : (length (b ∷ bs) == 0) ≡ false = ne_eqb (length (b ∷ bs)) 0 (λ h. omega arith) in
    rw (full, and_right (is_blank x.byte) false refl) (ap (λ s. with_first s rest) (extended_more (record { bytes = b ∷ bs; places = ps }) x p))

resumed_more : (s : Spelled) (w : Quoting) (d : ℕ) (x : Letter) (ts : Texts) → separates w x ≡ false → fault_at w d x ≡ None → Paired s
    → resumed s w d (onto (x ∷ []) ts) ≡ resumed (added s x) (after w x) (depth_in w d x) ts
unfolding resumed pieces_of onto
resumed_more s w d x ts a f e =
    rw (pieces_more w x ts.first a)
    (rw (fault_more w d x (pieces (after w x) ts.first).first f)
    (ap (unless_fault (fault_in (after w x) (depth_in w d x) (pieces (after w x) ts.first).first)) (completed_more s.bytes s.places x (pieces (after w x) ts.first).first (parts ((pieces (after w x) ts.first).others ++ all_pieces ts.others)) e)))

resumed_fault : (s : Spelled) (w : Quoting) (d : ℕ) (x : Letter) (ts : Texts) (f : Break) → separates w x ≡ false → fault_at w d x ≡ Some f → resumed s w d (onto (x ∷ []) ts) ≡ faulty f
unfolding resumed pieces_of onto unless_fault
resumed_fault s w d x ts f a e = rw (pieces_more w x ts.first a) (rw (fault_here w d x (pieces (after w x) ts.first).first f e) refl)

resumed_end : (s : Spelled) (w : Quoting) (d : ℕ) (x : Letter) (ts : Texts) → separates w x ≡ true → unclosed w ≡ None
    → resumed s w d (onto (x ∷ []) ts) ≡ completed s [] (parts (all_pieces (listed ts)))
unfolding resumed pieces_of onto unless_fault all_pieces listed fault_in
resumed_end s w d x ts a e = rw (pieces_end w x ts.first a) (rw e refl)

-- the last `&` of a text
put : Letter → Option (Letter × List Letter) → Option (Letter × List Letter)
put x None = None
put x (Some a) = Some (a.0, x ∷ a.1)

last_more : (x : Letter) (t : List Letter) → ((x.byte == 38) && all_blank t) ≡ false → last_ampersand (x ∷ t) ≡ put x (last_ampersand t)
unfolding last_ampersand put
last_more x t e = by (last_ampersand t) refl
  where
    by : (o : Option (Letter × List Letter)) → last_ampersand t ≡ o → last_ampersand (x ∷ t) ≡ put x (last_ampersand t)
    by None h = rw (h, last_ampersand) (rw e refl)
    by (Some a) h = rw (h, last_ampersand) refl

not_ampersand : (b : ℕ) → is_blank b ≡ true → (b == 38) ≡ false
unfolding is_blank
not_ampersand b e = elim (or_cases (b == 32) (b == 9) e) [
  | inl h ↦ let k = eqb-true b 32 h in ne_eqb b 38 (λ g. omega arith)
  | inr h ↦ let k = eqb-true b 9 h in ne_eqb b 38 (λ g. omega arith)
]

last_none : (t : List Letter) → all_blank t ≡ true → last_ampersand t ≡ None
unfolding last_ampersand all_blank
last_none [] e = refl
last_none (x ∷ t) e =
    let p = and_parts (is_blank x.byte) (all_blank t) e in
    rw (last_none t p.1, last_ampersand) (rw (not_ampersand x.byte p.0) refl)

last_here : (x : Letter) (t : List Letter) → x.byte ≡ 38 → all_blank t ≡ true → last_ampersand (x ∷ t) ≡ Some (x, [])
unfolding last_ampersand
last_here x t e h = rw (last_none t h, last_ampersand) (rw (eq-eqb x.byte 38 e, h) refl)

-- the texts of lines
joined_more : (w : Quoting) (x : Letter) (t : List Letter) (ls : List (List Letter)) → last_ampersand (x ∷ t) ≡ put x (last_ampersand t) → joined w (x ∷ t) ls ≡ onto (x ∷ []) (joined (after w x) t ls)
unfolding joined onto alone after_all put
joined_more w x t [] e = by (last_ampersand t) refl
  where
    by : (o : Option (Letter × List Letter)) → last_ampersand t ≡ o → joined w (x ∷ t) [] ≡ onto (x ∷ []) (joined (after w x) t [])
    by None h = let k : last_ampersand (x ∷ t) ≡ None = e ∙ ap (put x) h in rw (k, h, joined) refl
    by (Some a) h = let k : last_ampersand (x ∷ t) ≡ Some (a.0, x ∷ a.1) = e ∙ ap (put x) h in rw (k, h, joined) refl
joined_more w x t (n ∷ ls) e = by (last_ampersand t) refl
  where
    by : (o : Option (Letter × List Letter)) → last_ampersand t ≡ o → joined w (x ∷ t) (n ∷ ls) ≡ onto (x ∷ []) (joined (after w x) t (n ∷ ls))
    by None h = let k : last_ampersand (x ∷ t) ≡ None = e ∙ ap (put x) h in rw (k, h, joined) refl
    by (Some a) h = let k : last_ampersand (x ∷ t) ≡ Some (a.0, x ∷ a.1) = e ∙ ap (put x) h in rw (k, h, joined) refl

joined_end : (w : Quoting) (ls : List (List Letter)) → joined w [] ls ≡ record { first = []; others = texts ls }
unfolding joined alone texts last_ampersand
joined_end w [] = refl
joined_end w (n ∷ ls) = refl

-- a text whose last `&` joins
joined_nothing : (w : Quoting) (x : Letter) (t : List Letter) → last_ampersand (x ∷ t) ≡ Some (x, []) → joined w (x ∷ t) [] ≡ unfinished w x
unfolding joined onto after_all
joined_nothing w x t e = rw (e, joined) refl

joined_lone : (w : Quoting) (x : Letter) (t n : List Letter) (ls : List (List Letter)) (f : Letter × List Letter) → last_ampersand (x ∷ t) ≡ Some (x, []) → first_ampersand n ≡ Some f → all_blank (text w f.1) ≡ true → joined w (x ∷ t) (n ∷ ls) ≡ unfinished w f.0
unfolding joined onto after_all
joined_lone w x t n ls f e h b = rw (e, joined) (rw (h, joined) (rw (b, joined) refl))

joined_behind : (w : Quoting) (x : Letter) (t n : List Letter) (ls : List (List Letter)) (f : Letter × List Letter) → last_ampersand (x ∷ t) ≡ Some (x, []) → first_ampersand n ≡ Some f → all_blank (text w f.1) ≡ false → joined w (x ∷ t) (n ∷ ls) ≡ joined w (text w f.1) ls
unfolding joined onto after_all
joined_behind w x t n ls f e h b = rw (e, joined) (rw (h, joined) (rw (b, joined) refl))

joined_open : (w : Quoting) (x : Letter) (t n : List Letter) (ls : List (List Letter)) → last_ampersand (x ∷ t) ≡ Some (x, []) → first_ampersand n ≡ None → is_open w ≡ true → joined w (x ∷ t) (n ∷ ls) ≡ unfinished w x
unfolding joined onto after_all
joined_open w x t n ls e h b = rw (e, joined) (rw (h, joined) (rw (b, joined) refl))

joined_blank : (w : Quoting) (x : Letter) (t n : List Letter) (ls : List (List Letter)) → last_ampersand (x ∷ t) ≡ Some (x, []) → first_ampersand n ≡ None → is_open w ≡ false
    → joined w (x ∷ t) (n ∷ ls) ≡ onto (join_blank x ∷ []) (joined (after w (join_blank x)) (text (after w (join_blank x)) n) ls)
unfolding joined onto after_all
joined_blank w x t n ls e h b = rw (e, joined) (rw (h, joined) (rw (b, joined) refl))

resumed_unfinished : (s : Spelled) (w : Quoting) (d : ℕ) (a : Letter) → a.byte ≡ 38 → resumed s w d (unfinished w a) ≡ faulty (break_at S2 (unfinished_place w a))
unfolding resumed pieces_of unfinished alone is_open pieces separates onto unless_fault fault_in fault_at broken unclosed
resumed_unfinished s Outside d a e = rw e refl
resumed_unfinished s (Inside q) d a e = refl
resumed_unfinished s (Closed q) d a e = rw e refl

-- what is ahead of a letter that does not end the text of its line
later_more : (w : Quoting) (x : Letter) (xs : List Letter) → ends_text w x xs ≡ false → later_lines (x ∷ xs) ≡ later_lines xs
later_more w x xs e = later_same (x ∷ xs) xs (sym (below_more (x ∷ xs) xs x refl (not_feed w x xs e)))

going_text : (s : Spelled) (w : Quoting) (d : ℕ) (x : Letter) (xs : List Letter) → ends_text w x xs ≡ false → going s w d (x ∷ xs) ≡ resumed s w d (joined w (x ∷ text (after w x) (line xs)) (later_lines xs))
unfolding going
going_text s w d x xs e = rw (text_more w (x ∷ xs) xs x refl e) (rw (later_more w x xs e) refl)

pub going_more : (s : Spelled) (w : Quoting) (d : ℕ) (x : Letter) (xs : List Letter) → ends_text w x xs ≡ false → separates w x ≡ false
    → ((x.byte == 38) && all_blank (text (after w x) (line xs))) ≡ false → fault_at w d x ≡ None → Paired s
    → going s w d (x ∷ xs) ≡ going (added s x) (after w x) (depth_in w d x) xs
unfolding going
going_more s w d x xs e a h f p =
    let t : List Letter = text (after w x) (line xs) in
    going_text s w d x xs e
    ∙ ap (resumed s w d) (joined_more w x t (later_lines xs) (last_more x t h))
    ∙ resumed_more s w d x (joined (after w x) t (later_lines xs)) a f p

-- a plain letter
not_allowed : (k b : ℕ) → is_allowed k ≡ false → is_allowed b ≡ true → (b == k) ≡ false
not_allowed k b e h = ne_eqb b k (λ same. true≢false (sym h ∙ ap is_allowed same ∙ e))

feeds_are_not : (is_allowed 10 ≡ false) × (is_allowed 13 ≡ false)
unfolding is_allowed
feeds_are_not = (refl, refl)

plain_on : (x : Letter) (xs : List Letter) → IsPlain x.byte → ends_text Outside x xs ≡ false
unfolding ends_text ends_line is_open
plain_on x xs h = rw (not_allowed 10 x.byte feeds_are_not.0 h.allowed, not_allowed 13 x.byte feeds_are_not.1 h.allowed, h.no_comment) refl

plain_no_end : (x : Letter) → IsPlain x.byte → separates Outside x ≡ false
unfolding separates is_open
plain_no_end x h = h.no_end

plain_no_join : (x : Letter) (b : Bool) → IsPlain x.byte → ((x.byte == 38) && b) ≡ false
plain_no_join x b h = rw h.no_join refl

plain_no_fault : (d : ℕ) (x : Letter) → IsPlain x.byte → fault_at Outside d x ≡ None
unfolding fault_at broken is_open
plain_no_fault d x h = rw (h.no_join, h.allowed, h.no_opening) refl

plain_after : (x : Letter) → IsPlain x.byte → after Outside x ≡ Outside
unfolding after
plain_after x h = rw h.no_quote refl

plain_depth : (d : ℕ) (x : Letter) → IsPlain x.byte → depth_in Outside d x ≡ d
unfolding depth_in depth_after is_open
plain_depth d x h = rw (h.no_opening, h.no_closing) refl

pub going_plain : (s t : Spelled) (w : Quoting) (d : ℕ) (x : Letter) (xs : List Letter) → w ≡ Outside → IsPlain x.byte → Paired s → t ≡ added s x → going s w d (x ∷ xs) ≡ going t w d xs
going_plain s t w d x xs o h p e =
    ap (λ (v : Quoting). going s v d (x ∷ xs)) o
    ∙ going_more s Outside d x xs (plain_on x xs h) (plain_no_end x h) (plain_no_join x _ h) (plain_no_fault d x h) p
    ∙ rw (plain_after x h, plain_depth d x h) (ap (λ (u : Spelled). going u Outside d xs) (sym e))
    ∙ ap (λ (v : Quoting). going t v d xs) (sym o)

pub going_fault : (s : Spelled) (w : Quoting) (d : ℕ) (x : Letter) (xs : List Letter) (b : Break) → ends_text w x xs ≡ false → separates w x ≡ false
    → ((x.byte == 38) && all_blank (text (after w x) (line xs))) ≡ false → fault_at w d x ≡ Some b
    → going s w d (x ∷ xs) ≡ faulty b
going_fault s w d x xs b e a h f =
    let t : List Letter = text (after w x) (line xs) in
    going_text s w d x xs e
    ∙ ap (resumed s w d) (joined_more w x t (later_lines xs) (last_more x t h))
    ∙ resumed_fault s w d x (joined (after w x) t (later_lines xs)) b a f

-- a `;` outside constants
closed_there : (w : Quoting) (x : Letter) → separates w x ≡ true → unclosed w ≡ None
unfolding separates unclosed is_open
closed_there Outside x e = refl
closed_there (Inside q) x e = absurd (true≢false (sym e))
closed_there (Closed q) x e = refl

pub mark_there : (w : Quoting) (x : Letter) → separates w x ≡ true → x.byte ≡ 59
unfolding separates
mark_there w x e = eqb-true x.byte 59 (and_parts (not (is_open w)) (x.byte == 59) e).1

outside_there : (w : Quoting) (x : Letter) → separates w x ≡ true → x.byte ≡ 59 → after w x ≡ Outside
unfolding separates after is_quote is_open
outside_there Outside x e h = rw h refl
outside_there (Inside q) x e h = absurd (true≢false (sym e))
outside_there (Closed q) x e h = rw h refl

no_join : (x : Letter) (t : List Letter) → x.byte ≡ 59 → ((x.byte == 38) && all_blank t) ≡ false
no_join x t h = rw h refl

pub going_separated : (s : Spelled) (w : Quoting) (d : ℕ) (x : Letter) (xs : List Letter) → ends_text w x xs ≡ false → separates w x ≡ true
    → going s w d (x ∷ xs) ≡ completed s [] (parts (all_pieces (listed (joined Outside (text Outside (line xs)) (later_lines xs)))))
going_separated s w d x xs e a =
    let t : List Letter = text (after w x) (line xs) in
    let o : after w x ≡ Outside = outside_there w x a (mark_there w x a) in
    going_text s w d x xs e
    ∙ ap (resumed s w d) (joined_more w x t (later_lines xs) (last_more x t (no_join x t (mark_there w x a))))
    ∙ resumed_end s w d x (joined (after w x) t (later_lines xs)) a (closed_there w x a)
    ∙ ap (λ (v : Quoting). completed s [] (parts (all_pieces (listed (joined v (text v (line xs)) (later_lines xs)))))) o

-- the end of a text
pub going_end : (s : Spelled) (w : Quoting) (d : ℕ) (xs : List Letter) → text w (line xs) ≡ [] → going s w d xs ≡ unless_fault (unclosed w) (completed s [] (parts (all_pieces (texts (later_lines xs)))))
unfolding going resumed pieces_of pieces alone fault_in
going_end s w d xs e = rw e (rw (joined_end w (later_lines xs)) refl)

pub going_start : (xs : List Letter) → parts (all_pieces (listed (joined Outside (text Outside (line xs)) (later_lines xs)))) ≡ going none Outside 0 xs
unfolding going resumed pieces_of all_pieces listed parts completed
going_start xs = refl

-- an `&` that joins
pub going_nothing : (s : Spelled) (w : Quoting) (d : ℕ) (x : Letter) (xs : List Letter) → ends_text w x xs ≡ false → x.byte ≡ 38 → all_blank (text (after w x) (line xs)) ≡ true
    → later_lines xs ≡ [] → going s w d (x ∷ xs) ≡ faulty (break_at S2 (unfinished_place w x))
going_nothing s w d x xs e h b l =
    let t : List Letter = text (after w x) (line xs) in
    going_text s w d x xs e
    ∙ ap (λ (ls : List (List Letter)). resumed s w d (joined w (x ∷ t) ls)) l
    ∙ ap (resumed s w d) (joined_nothing w x t (last_here x t h b))
    ∙ resumed_unfinished s w d x h

pub going_lone : (s : Spelled) (w : Quoting) (d : ℕ) (x : Letter) (xs n : List Letter) (ls : List (List Letter)) (y : Letter) (r : List Letter) → ends_text w x xs ≡ false → x.byte ≡ 38 → all_blank (text (after w x) (line xs)) ≡ true
    → later_lines xs ≡ n ∷ ls → first_ampersand n ≡ Some (y, r) → all_blank (text w r) ≡ true → y.byte ≡ 38 → going s w d (x ∷ xs) ≡ faulty (break_at S2 (unfinished_place w y))
going_lone s w d x xs n ls y r e h b l f g k =
    let t : List Letter = text (after w x) (line xs) in
    going_text s w d x xs e
    ∙ ap (λ (ls : List (List Letter)). resumed s w d (joined w (x ∷ t) ls)) l
    ∙ ap (resumed s w d) (joined_lone w x t n ls (y, r) (last_here x t h b) f g)
    ∙ resumed_unfinished s w d y k

pub going_open : (s : Spelled) (w : Quoting) (d : ℕ) (x : Letter) (xs n : List Letter) (ls : List (List Letter)) → ends_text w x xs ≡ false → x.byte ≡ 38 → all_blank (text (after w x) (line xs)) ≡ true
    → later_lines xs ≡ n ∷ ls → first_ampersand n ≡ None → is_open w ≡ true → going s w d (x ∷ xs) ≡ faulty (break_at S2 (unfinished_place w x))
going_open s w d x xs n ls e h b l f o =
    let t : List Letter = text (after w x) (line xs) in
    going_text s w d x xs e
    ∙ ap (λ (ls : List (List Letter)). resumed s w d (joined w (x ∷ t) ls)) l
    ∙ ap (resumed s w d) (joined_open w x t n ls (last_here x t h b) f o)
    ∙ resumed_unfinished s w d x h

pub going_behind : (s : Spelled) (w : Quoting) (d : ℕ) (x : Letter) (xs n : List Letter) (ls : List (List Letter)) (y : Letter) (m : List Letter) → ends_text w x xs ≡ false → x.byte ≡ 38 → all_blank (text (after w x) (line xs)) ≡ true
    → later_lines xs ≡ n ∷ ls → first_ampersand n ≡ Some (y, line m) → all_blank (text w (line m)) ≡ false → later_lines m ≡ ls → going s w d (x ∷ xs) ≡ going s w d m
unfolding going
going_behind s w d x xs n ls y m e h b l f g k =
    let t : List Letter = text (after w x) (line xs) in
    going_text s w d x xs e
    ∙ ap (λ (ls : List (List Letter)). resumed s w d (joined w (x ∷ t) ls)) l
    ∙ ap (resumed s w d) (joined_behind w x t n ls (y, line m) (last_here x t h b) f g)
    ∙ ap (λ (ls : List (List Letter)). resumed s w d (joined w (text w (line m)) ls)) (sym k)

blank_separates : (w : Quoting) (x : Letter) → separates w (join_blank x) ≡ false
unfolding separates join_blank
blank_separates w x = and_right (not (is_open w)) false refl

blank_fault : (w : Quoting) (d : ℕ) (x : Letter) → is_open w ≡ false → fault_at w d (join_blank x) ≡ None
unfolding fault_at join_blank broken is_allowed opens
blank_fault w d x o = rw o refl

blank_depth : (w : Quoting) (d : ℕ) (x : Letter) → is_open w ≡ false → depth_in w d (join_blank x) ≡ d
unfolding depth_in depth_after join_blank opens closes
blank_depth w d x o = rw o refl

pub going_blank : (s : Spelled) (w : Quoting) (d : ℕ) (x : Letter) (xs m : List Letter) → ends_text w x xs ≡ false → x.byte ≡ 38 → all_blank (text (after w x) (line xs)) ≡ true
    → later_lines xs ≡ line m ∷ later_lines m → first_ampersand (line m) ≡ None → is_open w ≡ false → Paired s
    → going s w d (x ∷ xs) ≡ going (added s (join_blank x)) (after w (join_blank x)) d m
unfolding going
going_blank s w d x xs m e h b l f o p =
    let t : List Letter = text (after w x) (line xs) in
    let v : Quoting = after w (join_blank x) in
    going_text s w d x xs e
    ∙ ap (λ (ls : List (List Letter)). resumed s w d (joined w (x ∷ t) ls)) l
    ∙ ap (resumed s w d) (joined_blank w x t (line m) (later_lines m) (last_here x t h b) f o)
    ∙ resumed_more s w d (join_blank x) (joined v (text v (line m)) (later_lines m)) (blank_separates w x) (blank_fault w d x o) p
    ∙ ap (λ (e : ℕ). resumed (added s (join_blank x)) v e (joined v (text v (line m)) (later_lines m))) (blank_depth w d x o)

-- as many places as bytes
pub paired_added : (s : Spelled) (x : Letter) → Paired s → Paired (added s x)
unfolding added
paired_added s x e = by (is_blank x.byte && (length s.bytes == 0))
  where
    by : (t : Bool) → Paired (if t then s else record { bytes = s.bytes ++ x.byte ∷ []; places = s.places ++ x.place ∷ [] })
    by true = e
    by false = simp (length-append, e) refl

-- depth
pub fault_open : (w : Quoting) (d : ℕ) (x : Letter) → is_open w ≡ true → fault_at w d x ≡ None
unfolding fault_at
fault_open w d x e = rw e refl

pub depth_open : (w : Quoting) (d : ℕ) (x : Letter) → is_open w ≡ true → d ≡ depth_in w d x
unfolding depth_in
depth_open w d x e = rw e refl

pub fault_broken : (w : Quoting) (d : ℕ) (x : Letter) (r : Rule) → is_open w ≡ false → broken d x.byte ≡ Some r → fault_at w d x ≡ Some (break_at r x.place)
unfolding fault_at
fault_broken w d x r e h = rw (e, h) refl

pub fault_none : (w : Quoting) (d : ℕ) (x : Letter) → is_open w ≡ false → broken d x.byte ≡ None → fault_at w d x ≡ None
unfolding fault_at
fault_none w d x e h = rw (e, h) refl

pub depth_outside : (w : Quoting) (d : ℕ) (x : Letter) → is_open w ≡ false → depth_after d x.byte ≡ depth_in w d x
unfolding depth_in
depth_outside w d x e = rw e refl

shut : (d : ℕ) (c : Bool) → d ≤ 64 → (if c then d - 1 else d) ≤ 64
shut d true h = omega arith
shut d false h = h

pub depth_shallow : (d b : ℕ) → broken d b ≡ None → d ≤ 64 → depth_after d b ≤ 64
unfolding broken depth_after
depth_shallow d b e h = by (b == 38) (is_allowed b) (opens b) (d == 64) refl refl refl refl
  where
    by : (s t u v : Bool) → (b == 38) ≡ s → is_allowed b ≡ t → opens b ≡ u → (d == 64) ≡ v → depth_after d b ≤ 64
    by true t u v p q r o = let k = rw (p, broken) at e in cc
    by false false u v p q r o = let k = rw (p, q, broken) at e in cc
    by false true true true p q r o = let k = rw (p, q, r, o, broken) at e in cc
    by false true true false p q r o = let ne : d ≡ 64 → ⊥ = eqb-false d 64 o in rw (r, depth_after) (omega arith)
    by false true false v p q r o = rw (r, depth_after) (shut d (closes b) h)

-- refusals
pub fails_from : (e : TextFault) (b : Break) (p : Parts) → Refuses e b → p ≡ faulty b → Fails e p
fails_from (Refused r) b p h q = (b, h, q)
fails_from Memory b p h q = absurd h

pub deepens_from : (e : TextFault) (b : Break) (w : Quoting) (d : ℕ) (x : Letter) → Refuses e b → fault_at w d x ≡ Some b → Deepens (Err e) w d x
deepens_from (Refused r) b w d x h q = (b, h, q)
deepens_from Memory b w d x h q = absurd h

-- the fault of a letter is that of the statement
pub fails_at : (e : TextFault) (s : Spelled) (w : Quoting) (d : ℕ) (x : Letter) (xs : List Letter) → Deepens (Err e) w d x → ends_text w x xs ≡ false → separates w x ≡ false
    → ((x.byte == 38) && all_blank (text (after w x) (line xs))) ≡ false → Fails e (going s w d (x ∷ xs))
fails_at (Refused r) s w d x xs h e a k = (h.0, h.1, going_fault s w d x xs h.0 e a k h.2)
fails_at Memory s w d x xs h e a k = tt

pub mark_at : (x : Letter) (b : List Letter) → x.byte ≡ 38 → ampersand_at x b ≡ Some (x, b)
mark_at x b e = rw (eq-eqb x.byte 38 e) refl

pub no_mark_at : (x : Letter) (b : List Letter) → (x.byte ≡ 38 → ⊥) → ampersand_at x b ≡ None
no_mark_at x b e = rw (ne_eqb x.byte 38 e) refl

pub paired_same : (s t : Spelled) (x : Letter) → t ≡ added s x → Paired s → Paired t
paired_same s t x e p = rw e (paired_added s x p)

pub same_going : (s t : Spelled) (w v : Quoting) (d e : ℕ) (xs : List Letter) → t ≡ s → v ≡ w → e ≡ d → going s w d xs ≡ going t v e xs
same_going s t w v d e xs p q r = rw (p, q, r) refl

pub paired_kept : (s t : Spelled) → t ≡ s → Paired s → Paired t
paired_kept s t e p = rw e p

pub spelled_none : (bs : List ℕ) (ps : List Place) → bs ≡ [] → ps ≡ [] → record { bytes = bs; places = ps } ≡ none
spelled_none bs ps e f = rw (e, f) refl

-- a step along a statement
pub goes_along : (s : Spelled) (w : Quoting) (d : ℕ) (L xs : List Letter) (x : Letter) (p q : Parts) → going s w d L ≡ p → L ≡ x ∷ xs → going s w d (x ∷ xs) ≡ q → q ≡ p
goes_along s w d L xs x p q e f g = sym g ∙ ap (going s w d) (sym f) ∙ e

pub shorter_by : (L M N : List Letter) → length N ≤ length L → ((L ≡ [] → ⊥) → length N < length L) → length L ≤ length M → (M ≡ [] → ⊥) → length N < length M
shorter_by L [] N a b h n = absurd (n refl)
shorter_by [] (y ∷ M) N a b h n = omega arith
shorter_by (x ∷ L) (y ∷ M) N a b h n = let k = b (λ e. some_nil x L e) in omega arith
  where
    some_nil : (x : Letter) (L : List Letter) → x ∷ L ≡ [] → ⊥
    some_nil x L e = cc

pub shortens_along : (r : Result (RawStatement × Cursor) TextFault) (at from : Cursor) → Shortens r at → length (ahead at) ≤ length (ahead from) → Shortens r from
shortens_along (Ok x) at from h l = (omega arith, shorter_by (ahead at) (ahead from) (ahead x.1) h.0 h.1 l)
shortens_along (Err e) at from h l = tt

pub reads_along : (r : Result (RawStatement × Cursor) TextFault) (p q : Parts) (at from : Cursor) → Reads r p at → p ≡ q → at.file ≡ from.file → Reads r q from
reads_along (Ok x) p q at from h e f = record { same = sym e ∙ h.same; paired = h.paired; file = h.file ∙ f }
reads_along (Err (Refused r)) p q at from h e f = (h.0, h.1, sym e ∙ h.2)
reads_along (Err Memory) p q at from h e f = tt

pub parts_within : (c : Cursor) → (c.column == 1) ≡ false → parts_ahead c ≡ parts (all_pieces (listed (joined Outside (text Outside (line (ahead c))) (later_lines (ahead c)))))
unfolding parts_ahead
parts_within c e = rw e refl

pub reads_separated : (before : Parts) (s : Spelled) (new : RawStatement) (x : Letter) (from behind : Cursor) → IsSeparated before s behind (spelled_of new) → x.byte ≡ 59 → Paired s → (behind.column == 1) ≡ (x.byte == 10) → behind.file ≡ from.file
    → IsRead before from new behind
reads_separated before s new x from behind h b p k f = record {
  same = h.same ∙ ap (λ (q : Parts). completed s [] q) (sym (parts_within behind (k ∙ ap (λ (b : ℕ). b == 10) b))) ∙ ap (λ (t : Spelled). completed t [] (parts_ahead behind)) (sym h.kept);
  paired = paired_kept _ _ h.kept p;
  file = f;
}

-- plain letters
pub places_more : (n : ℕ) (p : Place) → 0 < n → places_from n p ≡ p ∷ places_from (n - 1) (record { file = p.file; line = p.line; column = p.column + 1 })
places_more zero p h = absurd (omega arith)
places_more (suc n) p h = ap (λ m. p ∷ places_from m (record { file = p.file; line = p.line; column = p.column + 1 })) (omega arith)

letters_on : (f l c b : ℕ) (bytes : List ℕ) → IsPlain b → letters f l c (b ∷ bytes) ≡ record { byte = b; place = record { file = f; line = l; column = c } } ∷ letters f l (c + 1) bytes
unfolding letters
letters_on f l c b bytes h = rw (not_allowed 10 b feeds_are_not.0 h.allowed) refl

added_some : (s : Spelled) (x : Letter) → 0 < length s.bytes → record { bytes = s.bytes ++ x.byte ∷ []; places = s.places ++ x.place ∷ [] } ≡ added s x
unfolding added
added_some s x some =
    let full : (length s.bytes == 0) ≡ false = ne_eqb (length s.bytes) 0 (λ h. omega (arith, h, some)) in
    rw (full, and_right (is_blank x.byte) false refl) refl

pub going_run : (s : Spelled) (d f l c n : ℕ) (bytes : List ℕ) → n ≤ length bytes → ArePlain n bytes → 0 < length s.bytes → Paired s
    → going s Outside d (letters f l c bytes)
    ≡ going (record { bytes = s.bytes ++ take n bytes; places = s.places ++ places_from n (record { file = f; line = l; column = c }) }) Outside d (letters f l (c + n) (drop n bytes))
going_run s d f l c zero bytes le plain some paired =
    let e : c ≡ c + 0 = omega arith in
    rw (append-nil s.bytes, append-nil s.places) (ap (λ k. going s Outside d (letters f l k bytes)) e)
going_run s d f l c (suc n) [] le plain some paired = absurd (omega (arith, le))
going_run s d f l c (suc n) (b ∷ bytes) le plain some paired =
    let p : Place = record { file = f; line = l; column = c } in
    let x : Letter = record { byte = b; place = p } in
    let t : Spelled = record { bytes = s.bytes ++ b ∷ []; places = s.places ++ p ∷ [] } in
    let is = added_some s x some in
    let long : length t.bytes ≡ length s.bytes + 1 = length-append s.bytes (b ∷ []) in
    let e : c + 1 + n ≡ c + suc n = omega arith in
    ap (going s Outside d) (letters_on f l c b bytes (plain 0 (omega arith)))
    ∙ going_plain s t Outside d x (letters f l (c + 1) bytes) refl (plain 0 (omega arith)) paired is
    ∙ going_run t d f l (c + 1) n bytes (omega (arith, le)) (λ k lt. plain (suc k) (omega (arith, lt))) (omega (arith, long)) (paired_same s t x is paired)
    ∙ rw (append_assoc s.bytes (b ∷ []) (take n bytes), append_assoc s.places (p ∷ []) (places_from n (record { file = f; line = l; column = c + 1 })), e) refl

long_letters : (f l c : ℕ) (bytes : List ℕ) → length (letters f l c bytes) ≡ length bytes
unfolding letters
long_letters f l c [] = refl
long_letters f l c (b ∷ bytes) = by (b == 10) refl (long_letters f (l + 1) 1 bytes) (long_letters f l (c + 1) bytes)
  where
    by : (t : Bool) → (b == 10) ≡ t → length (letters f (l + 1) 1 bytes) ≡ length bytes → length (letters f l (c + 1) bytes) ≡ length bytes → length (letters f l c (b ∷ bytes)) ≡ length (b ∷ bytes)
    by true e below on = rw e (ap suc below)
    by false e below on = rw e (ap suc on)

long_places : (n : ℕ) (p : Place) → length (places_from n p) ≡ n
long_places zero p = refl
long_places (suc n) p = ap suc (long_places n (record { file = p.file; line = p.line; column = p.column + 1 }))

-- a cursor that moved along plain bytes
pub going_run_on : (s : Spelled) (tb : List ℕ) (tp : List Place) (w : Quoting) (d n : ℕ) (from to : Cursor) → w ≡ Outside → n ≤ length from.rest.now → ArePlain n from.rest.now → 0 < length s.bytes → Paired s
    → tb ≡ s.bytes ++ take n from.rest.now → tp ≡ s.places ++ places_from n (record { file = from.file; line = from.line; column = from.column })
    → to.file ≡ from.file → to.line ≡ from.line → to.column ≡ from.column + n → to.rest.now ≡ drop n from.rest.now
    → going s w d (ahead from) ≡ going (record { bytes = tb; places = tp }) w d (ahead to)
unfolding ahead
going_run_on s tb tp w d n from to o le plain some paired eb ep f l c r =
    rw (o, eb, ep, f, l, c, r) (going_run s d from.file from.line from.column n from.rest.now le plain some paired)

pub paired_run : (s : Spelled) (tb : List ℕ) (tp : List Place) (n : ℕ) (bytes : List ℕ) (p : Place) → n ≤ length bytes → Paired s → tb ≡ s.bytes ++ take n bytes → tp ≡ s.places ++ places_from n p → length tb ≡ length tp
paired_run s tb tp n bytes p le paired eb ep =
    let a = length-append s.bytes (take n bytes) in
    let b = length-append s.places (places_from n p) in
    let k = length-take n bytes in
    let m = long_places n p in
    rw (eb, ep) (omega (arith, a, b, k, m, paired, le))

pub run_within : (n : ℕ) (from to : Cursor) → to.rest.now ≡ drop n from.rest.now → length (ahead to) ≤ length (ahead from)
unfolding ahead
run_within n from to r =
    let a = long_letters from.file from.line from.column from.rest.now in
    let b = long_letters to.file to.line to.column to.rest.now in
    let k = ap length r ∙ length-drop n from.rest.now in
    omega (arith, a, b, k)
