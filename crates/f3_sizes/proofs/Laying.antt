-- The code that was emitted for a program is laid out in parts.
use Rattle.std.proofs.Common.{◌≡◌, ◌≤◌, ◌<◌, ℕ, zero, suc, ◌+◌, List, [], ◌∷◌, ◌++◌, map, length, take, Some, refl, sym, ap, ◌∙◌, subst, arith, append_assoc, append-nil, length-append}
use Rattle.std.specs.Prelude.{slice_get, slice_index, sum, Result, Ok, Err, IfOk}
use Rattle.std.proofs.lemmas.List.{length-map, take-map}
use Rattle.std.proofs.lemmas.List.Recursion.{is_sum_by}
use Rattle.f3_program.specs.declared.program.Procedure as x
use Rattle.f3_program.specs.declared.program.Program.{Program}
use Rattle.f3_meaning_whole.specs.Act.{Setting}
use Rattle.f3_meaning_whole.specs.Run.{setting_of}
use Rattle.f3_code.specs.Work as w
use Rattle.f3_code.specs.Core as c
use Rattle.f3_code.specs.Lower.{lowered_program, lowered_procedure}
use Rattle.f3_code.specs.State as code
use Rattle.f3_code.specs.State.{Entry, Code}
use Rattle.f3_code.specs.Code.{body_code, main_code, procedures_code, entries, routines_code, program_code}
use Rattle.f3_gen_values.specs.declared.emission.Emission.{Emission}
use Rattle.f3_gen_values.specs.declared.line.Line.{Line}
use Rattle.f3_gen_values.specs.Emitted.{line_in, lines_in}
use Rattle.f3_gen_values.specs.Emission.{entries_in, code_in}
use Rattle.f3_sizes.specs.declared.answer.Needs.{Needs}
use Rattle.f3_sizes.specs.Part.{IsDepth}
use Rattle.f3_sizes.specs.Parts.{first_of, part_lines, behind_routines, behind_main, AreDepths, AreCodeParts, AreAnswers}
use Rattle.f3_sizes.specs.Needs.{AreNeverDeeper, AreNotPadded}
use Rattle.f3_sizes.proofs.Pieces.{Piece, lines_of, starts_of, main_piece, routine_pieces, procedure_pieces, routine_lines, procedure_lines, routine_starts, procedure_starts, piece_is_part}
use Rattle.f3_sizes.proofs.Families.{take_front, stands, first_start, starts_length, AllBegin, begin_at, are_parts}
use Rattle.f3_sizes.proofs.Tiles.{Explored, explored}
use Rattle.f3_sizes.proofs.Whole.{total, AllExplored, never_deeper, not_padded}

entries_starts : (g : Setting) (ps : List x.Procedure) (ks : List ℕ) → length (entries_in g ps ks) ≡ length ps →
    (length ps ≤ length ks) × (take (length ps) ks ≡ map (λ (e : Entry). e.at) (entries_in g ps ks))
entries_starts g [] ks e = (omega arith, refl)
entries_starts g (p ∷ ps) [] e = absurd (omega (arith, e))
entries_starts g (p ∷ ps) (k ∷ ks) e =
    let r = entries_starts g ps ks (omega (arith, e)) in
    (omega (arith, r.0), ap (λ ns. k ∷ ns) r.1)

entries_length : (m at : ℕ) (qs : List c.Procedure) → length (entries m at qs) ≡ length qs
entries_length m at [] = refl
entries_length m at (q ∷ qs) = ap suc (entries_length m (at + length (body_code m q)) qs)

routines_begin : (xs : List w.Work) → AllBegin 1 (routine_pieces xs)
routines_begin [] = tt
routines_begin (x ∷ xs) = (refl, routines_begin xs)

procedures_begin : (m : ℕ) (qs : List c.Procedure) → AllBegin 0 (procedure_pieces m qs)
procedures_begin m [] = tt
procedures_begin m (q ∷ qs) = (refl, procedures_begin m qs)

-- what was found of each piece
found_all : (ps : List Piece) (ds : List ℕ) → length ds ≡ length ps → ((i : ℕ) (p : Piece) → slice_get ps i ≡ Some p → Explored p (slice_index ds i)) → AllExplored ps ds
found_all [] [] e f = tt
found_all [] (d ∷ ds) e f = absurd (omega (arith, e))
found_all (p ∷ ps) [] e f = absurd (omega (arith, e))
found_all (p ∷ ps) (d ∷ ds) e f = (f 0 p refl, found_all ps ds (omega (arith, e)) (λ i p is. f (suc i) p is))

get_within : (ps : List Piece) (i : ℕ) (p : Piece) → slice_get ps i ≡ Some p → i < length ps
get_within [] i p e = cc
get_within (q ∷ ps) zero p e = omega arith
get_within (q ∷ ps) (suc i) p e = omega (arith, get_within ps i p e)

family_found : (g : Setting) (ls : List Line) (pre : List code.Line) (ps : List Piece) (post : List code.Line) (at end first : ℕ) (starts ds : List ℕ) →
    lines_in g ls ≡ pre ++ (lines_of ps ++ post) → at ≡ length pre → end ≡ at + length (lines_of ps) → AllBegin first ps → starts_of at ps ≡ starts →
    AreDepths ls starts end first (length starts) ds → AllExplored ps ds
family_found g ls pre ps post at end first starts ds e here there begin same a =
    let many : length starts ≡ length ps = ap (λ (ns : List ℕ). length ns) (sym same) ∙ starts_length at ps in
    found_all ps ds (a.same ∙ many) (λ i p is.
    let lt = get_within ps i p is in
    let s = stands g ls pre ps post at end e here there i p is in
    let are = subst (λ ss. lines_in g (part_lines ls ss end i) ≡ p.lines) same s.are in
    let d = subst (λ n. IsDepth (part_lines ls starts end i) n (slice_index ds i)) (sym (begin_at first ps i p begin is)) (a.each i (omega (arith, lt, many))) in
    explored g (part_lines ls starts end i) p (slice_index ds i) are d)

total_sum : (ds : List ℕ) → total ds ≡ sum ds
total_sum ds = is_sum_by total (λ x. x) refl (λ _ _. refl) ds

-- ---- a program

module _ (P : Program) (E : Emission) (is : code_in P E ≡ program_code (lowered_program P)) where
  abbrev p : c.Program
  p = lowered_program P

  abbrev g : Setting
  g = setting_of P

  abbrev ls : List Line
  ls = E.lines.items

  abbrev m : ℕ
  m = length p.routines

  abbrev cm : List code.Line
  cm = main_code m p.main

  abbrev cr : List code.Line
  cr = routines_code p.routines

  abbrev cp : List code.Line
  cp = procedures_code m p.procedures

  abbrev ks : List ℕ
  ks = take (length P.procedures.items) E.procedures.items

  lines_are : lines_in g ls ≡ cm ++ (cr ++ cp)
  lines_are = ap (λ (k : Code). k.lines) is

  entries_are : entries_in g P.procedures.items E.procedures.items ≡ entries m (length cm + length cr) p.procedures
  entries_are = ap (λ (k : Code). k.procedures) is

  as_many : length (entries_in g P.procedures.items E.procedures.items) ≡ length P.procedures.items
  as_many = ap (λ (es : List Entry). length es) entries_are ∙ entries_length m (length cm + length cr) p.procedures
      ∙ length-map P.procedures.items (lowered_procedure (setting_of P))

  pub enough : length P.procedures.items ≤ length E.procedures.items
  enough = (entries_starts g P.procedures.items E.procedures.items as_many).0

  routines_start : starts_of (length cm) (routine_pieces p.routines) ≡ E.routines.items
  routines_start = routine_starts (length cm) p.routines ∙ ap (λ (k : Code). k.routines) (sym is)

  procedures_start : starts_of (length cm + length cr) (procedure_pieces m p.procedures) ≡ ks
  procedures_start = procedure_starts m (length cm + length cr) p.procedures ∙ ap (λ es. map (λ (e : Entry). e.at) es) (sym entries_are)
      ∙ sym (entries_starts g P.procedures.items E.procedures.items as_many).1

  all_lines : length ls ≡ length cm + length cr + length cp
  all_lines = sym (length-map ls (line_in g)) ∙ ap (λ (xs : List code.Line). length xs) lines_are ∙ omega (arith, length-append cm (cr ++ cp), length-append cr cp)

  behind_r : behind_routines ls ks ≡ length cm + length cr
  behind_r = ap (λ ss. first_of ss (length ls)) (sym procedures_start) ∙ first_start (length cm + length cr) (procedure_pieces m p.procedures) (length ls)
      (all_lines ∙ ap (λ (xs : List code.Line). length cm + length cr + length xs) (sym (procedure_lines m p.procedures)))

  routine_end : behind_routines ls ks ≡ length cm + length (lines_of (routine_pieces p.routines))
  routine_end = behind_r ∙ ap (λ (xs : List code.Line). length cm + length xs) (sym (routine_lines p.routines))

  behind_m : behind_main ls E.routines.items ks ≡ length cm
  behind_m = ap (λ ss. first_of ss (behind_routines ls ks)) (sym routines_start) ∙ first_start (length cm) (routine_pieces p.routines) (behind_routines ls ks) routine_end

  main_lines : lines_in g (take (behind_main ls E.routines.items ks) ls) ≡ cm
  main_lines = ap (λ n. lines_in g (take n ls)) behind_m ∙ sym (take-map (line_in g) (length cm) ls) ∙ ap (λ xs. take (length cm) xs) lines_are ∙ take_front cm (cr ++ cp)

  routine_place : lines_in g ls ≡ cm ++ (lines_of (routine_pieces p.routines) ++ cp)
  routine_place = lines_are ∙ ap (λ xs. cm ++ (xs ++ cp)) (sym (routine_lines p.routines))

  procedure_place : lines_in g ls ≡ (cm ++ cr) ++ (lines_of (procedure_pieces m p.procedures) ++ [])
  procedure_place = lines_are ∙ sym (append_assoc cm cr cp) ∙ ap (λ xs. (cm ++ cr) ++ xs) (sym (procedure_lines m p.procedures) ∙ sym (append-nil (lines_of (procedure_pieces m p.procedures))))

  procedure_end : length ls ≡ length cm + length cr + length (lines_of (procedure_pieces m p.procedures))
  procedure_end = all_lines ∙ ap (λ (xs : List code.Line). length cm + length cr + length xs) (sym (procedure_lines m p.procedures))

  pub code_parts : AreCodeParts ls E.routines.items ks
  code_parts = record {
    within = omega (arith, behind_m, all_lines);
    height = slice_index (main_piece p).heights;
    main = piece_is_part (main_piece p) g (take (behind_main ls E.routines.items ks) ls) main_lines;
    of_routines = are_parts g ls cm (routine_pieces p.routines) cp (length cm) (behind_routines ls ks) 1 E.routines.items routine_place refl routine_end (routines_begin p.routines) routines_start;
    of_procedures = are_parts g ls (cm ++ cr) (procedure_pieces m p.procedures) [] (length cm + length cr) (length ls) 0 ks procedure_place (sym (length-append cm cr)) procedure_end
        (procedures_begin m p.procedures) procedures_start;
  }

  module _ (n : Needs) (a : AreAnswers ls E.routines.items ks n) where
    of_main : Explored (main_piece p) a.main
    of_main = explored g (take (behind_main ls E.routines.items ks) ls) (main_piece p) a.main main_lines a.depth

    of_routines : AllExplored (routine_pieces p.routines) a.routine_depths
    of_routines = family_found g ls cm (routine_pieces p.routines) cp (length cm) (behind_routines ls ks) 1 E.routines.items a.routine_depths routine_place refl routine_end
        (routines_begin p.routines) routines_start a.of_routines

    of_procedures : AllExplored (procedure_pieces m p.procedures) a.procedure_depths
    of_procedures = family_found g ls (cm ++ cr) (procedure_pieces m p.procedures) [] (length cm + length cr) (length ls) 0 ks a.procedure_depths procedure_place (sym (length-append cm cr))
        procedure_end (procedures_begin m p.procedures) procedures_start a.of_procedures

    answer : n.main ≡ a.main + total a.routine_depths
    answer = a.answer ∙ ap (λ k. a.main + k) (sym (total_sum a.routine_depths))

    answers : n.procedures.items ≡ map (λ d. d + total a.routine_depths) a.procedure_depths
    answers = a.answers ∙ ap (λ k. map (λ d. d + k) a.procedure_depths) (sym (total_sum a.routine_depths))

    pub answers_never_deeper : AreNeverDeeper p n
    answers_never_deeper = never_deeper p a.main a.routine_depths a.procedure_depths of_main of_routines of_procedures n answer answers

    pub answers_not_padded : AreNotPadded p n
    answers_not_padded = not_padded p a.main a.routine_depths a.procedure_depths of_main of_routines of_procedures n answer answers

-- ---- what is told of other names for the same

pub moved : (F : List Line → List ℕ → List ℕ → Type 0) (a a' : List Line) (b b' k k' : List ℕ) → a ≡ a' → b ≡ b' → k ≡ k' → F a b k → F a' b' k'
moved F a a' b b' k k' d e f h = subst (λ x. F x b' k') d (subst (λ x. F a x k') e (subst (λ x. F a b x) f h))

pub if_ok_on : {A E : Type 0} (P Q : A → Type 0) (r : Result A E) → ((n : A) → P n → Q n) → IfOk r P → IfOk r Q
if_ok_on P Q (Ok n) f h = f n h
if_ok_on P Q (Err e) f h = tt
