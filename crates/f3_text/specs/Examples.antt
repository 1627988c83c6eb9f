-- What the definitions make of small texts.
use Rattle.std.specs.Prelude.{◌≡◌, ℕ, zero, suc, List, [], ◌∷◌, ◌++◌, map, Option, None, Some, codes}
use Rattle.f3_places.specs.declared.source.Place.{Place}
use Rattle.f3_rules.specs.declared.rule.Rule.{Rule}
use Rattle.f3_rules.specs.declared.rule.Rule.TheVariants.{S1, S2, S8}
use Rattle.f3_rules.specs.declared.breaks.Break.{Break}
use Rattle.f3_text.specs.Statements.{Spelled, cut_of}

-- a place: source, line and column
abbrev pub at : Place → ℕ × ℕ × ℕ
at p = (p.file, p.line, p.column)

-- the place of a statement's first byte, and its bytes
abbrev pub first_place : List Place → ℕ × ℕ × ℕ
first_place [] = (0, 0, 0)
first_place (p ∷ ps) = at p

abbrev pub seen : Spelled → (ℕ × ℕ × ℕ) × List ℕ
seen s = (first_place s.places, s.bytes)

-- the rule that is broken, and where
abbrev pub told : Option Break → Option (Rule × (ℕ × ℕ × ℕ))
told None = None
told (Some b) = Some (b.rule, at b.place)

-- sources are cut into these statements, up to this fault
abbrev pub Cuts : List (List ℕ) → List ((ℕ × ℕ × ℕ) × List ℕ) → Option (Rule × (ℕ × ℕ × ℕ)) → Type 0
Cuts sources statements fault = (map seen (cut_of sources).statements ≡ statements) × (told (cut_of sources).fault ≡ fault)

-- a text of lines
abbrev pub lined : List (List ℕ) → List ℕ
lined [] = []
lined (l ∷ ls) = l ++ (10 ∷ lined ls)

abbrev pub times : ℕ → ℕ → List ℕ
times b zero = []
times b (suc n) = b ∷ times b n

-- several statements on a line, and empty ones
abbrev pub CutsSeveral : Type 0
CutsSeveral = Cuts (codes ";; program p;; end ;" ∷ []) (((1, 1, 4), codes "program p") ∷ ((1, 1, 16), codes "end ") ∷ []) None

-- comments, and comment lines; any byte may stand in them
abbrev pub CutsComments : Type 0
CutsComments =
    Cuts (lined (codes "! any & byte ' #" ∷ codes " program p ! & #" ∷ codes "" ∷ codes "end" ∷ []) ∷ [])
    (((1, 2, 2), codes "program p ") ∷ ((1, 4, 1), codes "end") ∷ []) None

-- carriage returns before line feeds, and tabs
abbrev pub CutsReturns : Type 0
CutsReturns =
    Cuts (((codes "a ! b" ++ (13 ∷ 10 ∷ 13 ∷ 10 ∷ 9 ∷ [])) ++ (codes "b" ++ (13 ∷ 10 ∷ []))) ∷ []) (((1, 1, 1), codes "a ") ∷ ((1, 3, 2), codes "b") ∷ []) None

-- a carriage return that no line feed follows
abbrev pub CutsReturnAlone : Type 0
CutsReturnAlone = Cuts ((codes "program p" ++ (10 ∷ codes "end" ++ (13 ∷ []))) ∷ []) (((1, 1, 1), codes "program p") ∷ []) (Some (S1, (1, 2, 4)))

-- signs of comments, statements and continuation in a character constant, doubled quotes, and a tab
abbrev pub CutsConstants : Type 0
CutsConstants =
    Cuts (codes "p 'it''s', \"say \"\"hi\"\"\", 'a;b!c&d'; end" ∷ [])
    (((1, 1, 1), codes "p 'it''s', \"say \"\"hi\"\"\", 'a;b!c&d'") ∷ ((1, 1, 37), codes "end") ∷ []) None

-- continuation in a literal and in a character constant
abbrev pub CutsContinued : Type 0
CutsContinued =
    Cuts (lined (codes "print *, 12&" ∷ codes "&34, 'a&" ∷ codes "! between" ∷ codes "   & b'" ∷ []) ∷ []) (((1, 1, 1), codes "print *, 1234, 'a b'") ∷ []) None

-- a continuation without a second `&` is a blank, at the place of the `&`
abbrev pub CutsBlankJoin : Type 0
CutsBlankJoin =
    (map (λ s. s.bytes) (cut_of sources).statements ≡ codes "a b " ∷ [])
    × (map (λ s. map at s.places) (cut_of sources).statements ≡ ((1, 1, 1) ∷ (1, 1, 2) ∷ (1, 4, 1) ∷ (1, 4, 2) ∷ []) ∷ [])
    × (told (cut_of sources).fault ≡ None)
  where
    sources : List (List ℕ)
    sources = lined (codes "a& ! goes on" ∷ codes "" ∷ codes "  ! between" ∷ codes "b " ∷ []) ∷ []

-- a doubled quote that a join brings together; and where that constant is not closed
abbrev pub CutsJoinedQuote : Type 0
CutsJoinedQuote = Cuts (lined (codes "print *, 'abc'&" ∷ codes "&'def'" ∷ []) ∷ []) (((1, 1, 1), codes "print *, 'abc''def'") ∷ []) None

abbrev pub CutsJoinedQuoteOpen : Type 0
CutsJoinedQuoteOpen =
    Cuts (lined (codes "program p" ∷ codes "print *, 'abc'&" ∷ codes "&'def" ∷ codes "end" ∷ []) ∷ [])
    (((1, 1, 1), codes "program p") ∷ []) (Some (S2, (1, 2, 10)))

-- constants that are not closed
abbrev pub CutsOpen : Type 0
CutsOpen = Cuts (lined (codes "p; print *, 'abc ! #" ∷ codes "end'" ∷ []) ∷ []) (((1, 1, 1), codes "p") ∷ []) (Some (S2, (1, 1, 13)))

abbrev pub CutsOpenAtEnd : Type 0
CutsOpenAtEnd = Cuts (lined (codes "program p" ∷ codes "print *, 'a&" ∷ []) ∷ []) (((1, 1, 1), codes "program p") ∷ []) (Some (S2, (1, 2, 10)))

abbrev pub CutsOpenAtLone : Type 0
CutsOpenAtLone =
    Cuts (lined (codes "program p" ∷ codes "print *, 'a&" ∷ codes "&" ∷ codes "&b'" ∷ []) ∷ []) (((1, 1, 1), codes "program p") ∷ []) (Some (S2, (1, 2, 10)))

abbrev pub CutsOpenAtPlain : Type 0
CutsOpenAtPlain = Cuts (lined (codes "print *, 'a&" ∷ codes "b'" ∷ []) ∷ []) [] (Some (S2, (1, 1, 10)))

-- an `&` out of place: alone on its line, twice; first where nothing goes on; elsewhere; and with no later line, also
-- where another source follows
abbrev pub CutsLone : Type 0
CutsLone = Cuts (lined (codes "a" ∷ codes " & ! b" ∷ codes "c" ∷ []) ∷ []) (((1, 1, 1), codes "a") ∷ []) (Some (S2, (1, 2, 2)))

abbrev pub CutsLoneBehind : Type 0
CutsLoneBehind = Cuts (lined (codes "a &" ∷ codes " &" ∷ codes "c" ∷ []) ∷ []) [] (Some (S2, (1, 2, 2)))

abbrev pub CutsFirst : Type 0
CutsFirst = Cuts (lined (codes "a" ∷ codes "& b" ∷ []) ∷ []) (((1, 1, 1), codes "a") ∷ []) (Some (S2, (1, 2, 1)))

abbrev pub CutsElsewhere : Type 0
CutsElsewhere = Cuts (codes "a; b & c" ∷ []) (((1, 1, 1), codes "a") ∷ []) (Some (S2, (1, 1, 6)))

abbrev pub CutsLast : Type 0
CutsLast =
    Cuts (lined (codes "program p" ∷ codes "print *, 1 &" ∷ codes "! end" ∷ []) ∷ codes ", 2" ∷ [])
    (((1, 1, 1), codes "program p") ∷ []) (Some (S2, (1, 2, 12)))

-- an `&` behind a `;`, and one that is first and another that is last on a line
abbrev pub CutsBehindMark : Type 0
CutsBehindMark = Cuts (lined (codes "a; &" ∷ codes "b&" ∷ codes "&&" ∷ codes "c" ∷ []) ∷ []) (((1, 1, 1), codes "a") ∷ ((1, 2, 1), codes "b c") ∷ []) None

-- a byte that is not allowed, in the second of two sources
abbrev pub CutsNotAllowed : Type 0
CutsNotAllowed =
    Cuts (codes "module m; end" ∷ codes "program p; print *, 1 # 2 & 3; end" ∷ [])
    (((1, 1, 1), codes "module m") ∷ ((1, 1, 11), codes "end") ∷ ((2, 1, 1), codes "program p") ∷ [])
    (Some (S1, (2, 1, 23)))

-- sixty-four open parentheses and brackets, the rest of a statement, and one more
abbrev pub CutsDeep : Type 0
CutsDeep = Cuts ((times 40 64 ++ (41 ∷ 91 ∷ 59 ∷ times 91 64)) ∷ []) (((1, 1, 1), times 40 64 ++ (41 ∷ 91 ∷ [])) ∷ ((1, 1, 68), times 91 64) ∷ []) None

abbrev pub CutsTooDeep : Type 0
CutsTooDeep = Cuts ((codes "program p; print *, )" ++ times 40 65) ∷ []) (((1, 1, 1), codes "program p") ∷ []) (Some (S8, (1, 1, 86)))

-- all of them
abbrev pub CutsSo : Type 0
CutsSo =
    CutsSeveral × CutsComments × CutsReturns × CutsReturnAlone × CutsConstants × CutsContinued × CutsBlankJoin
    × CutsJoinedQuote × CutsJoinedQuoteOpen × CutsOpen × CutsOpenAtEnd × CutsOpenAtLone × CutsOpenAtPlain × CutsLone
    × CutsLoneBehind × CutsFirst × CutsElsewhere × CutsLast × CutsBehindMark × CutsNotAllowed × CutsDeep × CutsTooDeep
