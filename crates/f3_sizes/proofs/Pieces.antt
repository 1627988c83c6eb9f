-- Pieces of code that lead to their own lines alone, one behind another.
use Rattle.std.proofs.Common.{◌≡◌, ◌≤◌, ◌<◌, ℕ, zero, suc, ◌+◌, ◌-◌, List, [], ◌∷◌, ◌++◌, map, length, Option, None, Some, refl, sym, ap, ◌∙◌, subst, arith, append_assoc, length-append}
use Rattle.std.specs.Prelude.{slice_get, slice_index}
use Rattle.std.proofs.lemmas.Option.{slice_get-map}
use Rattle.std.proofs.lemmas.List.{length-map}
use Rattle.std.specs.Option.{option_map}
use Rattle.f3_meaning_whole.specs.Act.{Setting}
use Rattle.f3_code.specs.Work as w
use Rattle.f3_code.specs.Core as c
use Rattle.f3_code.specs.declared.instruction.Instruction.{Instruction}
use Rattle.f3_code.specs.declared.instruction.Instruction.TheVariants as i
use Rattle.f3_code.specs.State as code
use Rattle.f3_code.specs.State.{line, Entry}
use Rattle.f3_code.specs.Code.{work_code, body_code, main_code, procedures_code, entries, routines_code, places_of}
use Rattle.f3_gen_values.specs.declared.line.Line.{Line}
use Rattle.f3_gen_values.specs.Emitted.{line_in, lines_in}
use Rattle.f3_heights.specs.Effect.{Far, effect}
use Rattle.f3_heights.specs.Heights.{IsAt}
use Rattle.f3_heights.specs.Needs.{KeptNext, KeptFar, IsKept}
use Rattle.f3_heights.specs.Program.{work_heights, body_heights, main_heights, procedures_heights, routines_heights}
use Rattle.f3_heights.specs.Room.{greatest, alike}
use Rattle.f3_heights.proofs.Parts.{LinesAt, Part, line_of}
use Rattle.f3_heights.proofs.OfProgram.{Any, body_part, main_part, routine_part, heights_all}
use Rattle.f3_heights.proofs.Regions.{all_of, Own, own}
use Rattle.f3_sizes.specs.Part.{IntoNext, IntoFar, LeadsInto, ArePart}

pub record Piece : Type 0 where
  pub first : ℕ
  pub lines : List code.Line
  pub heights : List ℕ
  pub is : (height : ℕ → ℕ) → Part height Any lines heights first
  pub some : 0 < length lines

abbrev pub lines_of : List Piece → List code.Line
lines_of [] = []
lines_of (p ∷ ps) = p.lines ++ lines_of ps

abbrev pub heights_of : List Piece → List ℕ
heights_of [] = []
heights_of (p ∷ ps) = p.heights ++ heights_of ps

abbrev pub starts_of : ℕ → List Piece → List ℕ
starts_of at [] = []
starts_of at (p ∷ ps) = at ∷ starts_of (at + length p.lines) ps

pub as_many : (p : Piece) → length p.heights ≡ length p.lines
as_many p = (p.is (λ n. 0)).same

-- ---- a piece by itself

-- where it stands from line 1 on, and only its lines have the mark
abbrev mark_in : List ℕ → ℕ → ℕ
mark_in hs = slice_index (0 ∷ alike 1 hs)

mark_within : (hs : List ℕ) (j : ℕ) → slice_index (alike 1 hs) j ≡ 1 → j < length hs
mark_within [] j e = absurd (omega (arith, e))
mark_within (h ∷ hs) zero e = omega arith
mark_within (h ∷ hs) (suc j) e = omega (arith, mark_within hs j e)

marked : (hs : List ℕ) (j : ℕ) → mark_in hs j ≡ 1 → (1 ≤ j) × (j < 1 + length hs)
marked hs zero e = absurd (omega (arith, e))
marked hs (suc j) e = let lt = mark_within hs j e in (omega arith, omega (arith, lt))

module _ (hs : List ℕ) (k : ℕ) (here : mark_in hs (1 + k) ≡ 1) where
  into_next : (o : Option ℕ) → KeptNext (mark_in hs) (1 + k) o → IntoNext (λ j. j < length hs) k o
  into_next None h = tt
  into_next (Some left) h = let m = marked hs (1 + k + 1) (h ∙ here) in omega (arith, m.1)

  into_far : (xs : List Far) → KeptFar (mark_in hs) (1 + k) xs → IntoFar (λ j. j < length hs) k xs
  into_far [] h = tt
  into_far (x ∷ xs) h = let m = marked hs (1 + k + 1 + x.over) (h.0 ∙ here) in (omega (arith, m.1), into_far xs h.1)

  into : (x : Instruction) → IsKept (mark_in hs) (1 + k) x → LeadsInto (λ j. j < length hs) k x
  into (i.GoBack d) h = let m = marked hs (1 + k - d) (h ∙ here) in (omega (arith, m.0), omega (arith, m.0, m.1))
  into i.Back h = record { next = tt; far = tt }
  into x h = record { next = into_next (effect x).next h.next; far = into_far (effect x).far h.far }

pub piece_heights : (p : Piece) → (slice_index p.heights 0 ≡ p.first) × LinesAt (slice_index p.heights) 0 p.lines
piece_heights p = (p.is (slice_index p.heights)).keeps 0 (heights_all p.heights []) tt

pub piece_line : (p : Piece) (k : ℕ) (l : code.Line) → slice_get p.lines k ≡ Some l → IsAt (slice_index p.heights) k l.act
piece_line p k l is =
    let at : 0 + k ≡ k = omega arith in
    subst (λ n. IsAt (slice_index p.heights) n l.act) at (line_of (slice_index p.heights) p.lines 0 k l (piece_heights p).1 is)

pub piece_stays : (p : Piece) (k : ℕ) (l : code.Line) → slice_get p.lines k ≡ Some l → LeadsInto (λ j. j < length p.lines) k l.act
piece_stays p k l is =
    let height = slice_index (0 ∷ p.heights) in
    let all = own height (mark_in p.heights) 1 1 p.lines p.heights p.first p.is (heights_all p.heights (0 ∷ [])) (heights_all (alike 1 p.heights) (0 ∷ [])) in
    let one = all_of (Own height (mark_in p.heights) (greatest p.heights) 1) p.lines 1 k l all.1 is in
    subst (λ n. LeadsInto (λ j. j < n) k l.act) (as_many p) (into p.heights k one.same l.act one.kept)

-- ---- as it was emitted

pub emitted_at : (g : Setting) (ls : List Line) (ms : List code.Line) (k : ℕ) (l : Line) → lines_in g ls ≡ ms → slice_get ls k ≡ Some l → slice_get ms k ≡ Some (line_in g l)
emitted_at g ls ms k l e is =
    let m : slice_get (lines_in g ls) k ≡ Some (line_in g l) = slice_get-map (line_in g) ls k ∙ ap (λ o. option_map (line_in g) o) is in
    subst (λ xs. slice_get xs k ≡ Some (line_in g l)) e m

pub emitted_from : (g : Setting) (ls : List Line) (ms : List code.Line) (k : ℕ) (m : code.Line) → lines_in g ls ≡ ms → slice_get ms k ≡ Some m →
    (l : Line) × (slice_get ls k ≡ Some l) × (l.act ≡ m.act)
emitted_from g ls ms k m e is = by_read (slice_get ls k) refl
  where
    by_read : (o : Option Line) → slice_get ls k ≡ o → (l : Line) × (slice_get ls k ≡ Some l) × (l.act ≡ m.act)
    by_read None read =
        let n : slice_get (lines_in g ls) k ≡ None = slice_get-map (line_in g) ls k ∙ ap (λ o. option_map (line_in g) o) read in
        let n' : slice_get ms k ≡ None = subst (λ xs. slice_get xs k ≡ None) e n in cc
    by_read (Some l) read =
        let same : Some (line_in g l) ≡ Some m = sym (emitted_at g ls ms k l e read) ∙ is in
        let s : line_in g l ≡ m = cc in
        (l, read, ap (λ (y : code.Line). y.act) s)

pub piece_is_part : (p : Piece) (g : Setting) (ls : List Line) → lines_in g ls ≡ p.lines → ArePart (slice_index p.heights) p.first ls
piece_is_part p g ls e =
    let same : length ls ≡ length p.lines = sym (length-map ls (line_in g)) ∙ ap (λ (xs : List code.Line). length xs) e in record {
      some = omega (arith, p.some, same);
      begins = (piece_heights p).0;
      heights = λ k l is. piece_line p k (line_in g l) (emitted_at g ls p.lines k l e is);
      stays = λ k l is. subst (λ n. LeadsInto (λ j. j < n) k l.act) (sym same) (piece_stays p k (line_in g l) (emitted_at g ls p.lines k l e is));
    }

-- ---- the pieces of a program

pub some_behind : (a : List code.Line) (l : code.Line) (b : List code.Line) → 0 < length (a ++ l ∷ b)
some_behind a l b = omega (arith, length-append a (l ∷ b))

abbrev pub main_piece : c.Program → Piece
main_piece p = record {
  first = 0;
  lines = main_code (length p.routines) p.main;
  heights = main_heights (length p.routines) p.main;
  is = λ height. main_part height (length p.routines) p.main;
  some = some_behind _ _ _;
}

abbrev pub routine_piece : w.Work → ℕ → Piece
routine_piece x m = record {
  first = 1;
  lines = work_code m None x ++ line None i.Back ∷ [];
  heights = work_heights m 0 x ++ 1 ∷ [];
  is = λ height. routine_part height x m;
  some = some_behind _ _ _;
}

abbrev pub procedure_piece : ℕ → c.Procedure → Piece
procedure_piece m q = record {
  first = 0;
  lines = body_code m q;
  heights = body_heights m q;
  is = λ height. body_part height m q;
  some = omega arith;
}

abbrev pub routine_pieces : List w.Work → List Piece
routine_pieces [] = []
routine_pieces (x ∷ xs) = routine_piece x (length xs) ∷ routine_pieces xs

abbrev pub procedure_pieces : ℕ → List c.Procedure → List Piece
procedure_pieces m [] = []
procedure_pieces m (q ∷ qs) = procedure_piece m q ∷ procedure_pieces m qs

pub routine_lines : (xs : List w.Work) → lines_of (routine_pieces xs) ≡ routines_code xs
routine_lines [] = refl
routine_lines (x ∷ xs) =
    let cx = work_code (length xs) None x in
    ap (λ ls. (cx ++ line None i.Back ∷ []) ++ ls) (routine_lines xs) ∙ append_assoc cx (line None i.Back ∷ []) (routines_code xs)

pub routine_heights : (xs : List w.Work) → heights_of (routine_pieces xs) ≡ routines_heights xs
routine_heights [] = refl
routine_heights (x ∷ xs) =
    let hx = work_heights (length xs) 0 x in
    ap (λ hs. (hx ++ 1 ∷ []) ++ hs) (routine_heights xs) ∙ append_assoc hx (1 ∷ []) (routines_heights xs)

pub procedure_lines : (m : ℕ) (qs : List c.Procedure) → lines_of (procedure_pieces m qs) ≡ procedures_code m qs
procedure_lines m [] = refl
procedure_lines m (q ∷ qs) = ap (λ ls. body_code m q ++ ls) (procedure_lines m qs)

pub procedure_heights : (m : ℕ) (qs : List c.Procedure) → heights_of (procedure_pieces m qs) ≡ procedures_heights m qs
procedure_heights m [] = refl
procedure_heights m (q ∷ qs) = ap (λ hs. body_heights m q ++ hs) (procedure_heights m qs)

pub routine_starts : (at : ℕ) (xs : List w.Work) → starts_of at (routine_pieces xs) ≡ places_of at xs
routine_starts at [] = refl
routine_starts at (x ∷ xs) =
    let cx = work_code (length xs) None x in
    let e : at + length (cx ++ line None i.Back ∷ []) ≡ at + length cx + 1 = omega (arith, length-append cx (line None i.Back ∷ [])) in
    ap (λ n. at ∷ starts_of n (routine_pieces xs)) e ∙ ap (λ ns. at ∷ ns) (routine_starts (at + length cx + 1) xs)

pub procedure_starts : (m at : ℕ) (qs : List c.Procedure) → starts_of at (procedure_pieces m qs) ≡ map (λ (e : Entry). e.at) (entries m at qs)
procedure_starts m at [] = refl
procedure_starts m at (q ∷ qs) = ap (λ ns. at ∷ ns) (procedure_starts m (at + length (body_code m q)) qs)
