-- The names that emitted lines tell are those of the code.
use Rattle.std.proofs.Common.{◌≡◌, ◌≤◌, ℕ, suc, ◌+◌, ◌-◌, ◌*◌, max, List, [], ◌∷◌, ◌++◌, map, length, take, drop, refl, sym, ap, ◌∙◌, arith, append_assoc, length-append}
use Rattle.std.specs.Prelude.{slice_range}
use Rattle.std.proofs.lemmas.List.{length-map, take-map, drop-map}
use Rattle.std.proofs.Math.Seq.{drop-append_seam}
use Rattle.f3_program.specs.declared.program.Procedure as x
use Rattle.f3_program.specs.declared.program.Program.{Program}
use Rattle.f3_meaning_whole.specs.Act.{Setting}
use Rattle.f3_meaning_whole.specs.Run.{setting_of}
use Rattle.f3_code.specs.Core as c
use Rattle.f3_code.specs.Lower.{lowered_program, lowered_procedure}
use Rattle.f3_code.specs.State as code
use Rattle.f3_code.specs.State.{Entry, Code}
use Rattle.f3_code.specs.Code.{body_code, main_code, procedures_code, entries, routines_code, program_code}
use Rattle.f3_gen_values.specs.declared.emission.Emission.{Emission}
use Rattle.f3_gen_values.specs.declared.line.Line.{Line}
use Rattle.f3_gen_values.specs.Emitted.{line_in, lines_in}
use Rattle.f3_gen_values.specs.Emission.{entries_in, code_in}
use Rattle.f3_sizes.specs.Parts.{first_of, behind_routines, behind_main}
use Rattle.f3_sizes.proofs.Pieces.{lines_of, starts_of, procedure_piece, routine_pieces, procedure_pieces, routine_lines, procedure_lines, routine_starts, procedure_starts}
use Rattle.f3_sizes.proofs.Families.{take_front, first_start}
use Rattle.f3_word_needs.specs.Names.{after_line, deepest, deepest_among, open_in, open_among, procedures_names, procedures_open, names_among, parts_open, most_names, most_open, most_dummies, dummies_among, names_told, open_told}

deepest_same : (g : Setting) (n : ℕ) (ls : List Line) → deepest_among n ls ≡ deepest n (lines_in g ls)
deepest_same g n [] = refl
deepest_same g n (l ∷ ls) = ap (λ k. max n k) (deepest_same g (after_line n l.act) ls)

open_same : (g : Setting) (ls : List Line) → open_among ls ≡ open_in (lines_in g ls)
open_same g ls = deepest_same g 0 ls

-- a piece of code between others
piece_there : (g : Setting) (ls : List Line) (pre piece rest : List code.Line) (at end : ℕ) → lines_in g ls ≡ pre ++ (piece ++ rest) → at ≡ length pre →
    end ≡ at + length piece → lines_in g (slice_range ls at end) ≡ piece
piece_there g ls pre piece rest at end e here there =
    let n : end - at ≡ length piece = omega (arith, there) in
    let behind : drop at (lines_in g ls) ≡ piece ++ rest = ap (λ k. drop k (lines_in g ls)) here ∙ ap (λ xs. drop (length pre) xs) e ∙ drop-append_seam pre (piece ++ rest) in
    let maps : lines_in g (slice_range ls at end) ≡ take (end - at) (drop at (lines_in g ls)) =
    sym (take-map (line_in g) (end - at) (drop at ls)) ∙ ap (λ xs. take (end - at) xs) (sym (drop-map (line_in g) at ls)) in
    maps ∙ ap (λ xs. take (end - at) xs) behind ∙ ap (λ k. take k (piece ++ rest)) n ∙ take_front piece rest

-- ---- procedures, one behind another

module _ (p : c.Program) (g : Setting) (ls : List Line) where
  abbrev m : ℕ
  m = length p.routines

  abbrev lowered : List x.Procedure → List c.Procedure
  lowered qs = map (lowered_procedure g) qs

  names_are : (pre : List code.Line) (qs : List x.Procedure) (at end : ℕ) → lines_in g ls ≡ pre ++ lines_of (procedure_pieces m (lowered qs)) → at ≡ length pre →
      end ≡ at + length (lines_of (procedure_pieces m (lowered qs))) →
      names_among ls (starts_of at (procedure_pieces m (lowered qs))) end qs ≡ procedures_names p (lowered qs)
  names_are pre [] at end e here there = refl
  names_are pre (q ∷ qs) at end e here there =
      let y = lowered_procedure g q in
      let one = procedure_piece m y in
      let rest = procedure_pieces m (lowered qs) in
      let n : end ≡ at + length one.lines + length (lines_of rest) = there ∙ omega (arith, length-append one.lines (lines_of rest)) in
      let next = first_of (starts_of (at + length one.lines) rest) end in
      let s = piece_there g ls pre one.lines (lines_of rest) at next e here (first_start (at + length one.lines) rest end n) in
      let same : open_among (slice_range ls at next) ≡ open_in (body_code m y) = open_same g (slice_range ls at next) ∙ ap open_in s in
      let e' = e ∙ sym (append_assoc pre one.lines (lines_of rest)) in
      let here' : at + length one.lines ≡ length (pre ++ one.lines) = omega (arith, here, length-append pre one.lines) in
      let more = names_are (pre ++ one.lines) qs (at + length one.lines) end e' here' n in
      ap (λ k. max (length q.dummies.items + 2 * k) (names_among ls (starts_of (at + length one.lines) rest) end qs)) same
      ∙ ap (λ k. max (length q.dummies.items + 2 * open_in (body_code m y)) k) more

  open_are : (pre : List code.Line) (qs : List x.Procedure) (at end : ℕ) → lines_in g ls ≡ pre ++ lines_of (procedure_pieces m (lowered qs)) → at ≡ length pre →
      end ≡ at + length (lines_of (procedure_pieces m (lowered qs))) →
      parts_open ls (starts_of at (procedure_pieces m (lowered qs))) end ≡ procedures_open p (lowered qs)
  open_are pre [] at end e here there = refl
  open_are pre (q ∷ qs) at end e here there =
      let y = lowered_procedure g q in
      let one = procedure_piece m y in
      let rest = procedure_pieces m (lowered qs) in
      let n : end ≡ at + length one.lines + length (lines_of rest) = there ∙ omega (arith, length-append one.lines (lines_of rest)) in
      let next = first_of (starts_of (at + length one.lines) rest) end in
      let s = piece_there g ls pre one.lines (lines_of rest) at next e here (first_start (at + length one.lines) rest end n) in
      let same : open_among (slice_range ls at next) ≡ open_in (body_code m y) = open_same g (slice_range ls at next) ∙ ap open_in s in
      let e' = e ∙ sym (append_assoc pre one.lines (lines_of rest)) in
      let here' : at + length one.lines ≡ length (pre ++ one.lines) = omega (arith, here, length-append pre one.lines) in
      let more = open_are (pre ++ one.lines) qs (at + length one.lines) end e' here' n in
      ap (λ k. max k (parts_open ls (starts_of (at + length one.lines) rest) end)) same ∙ ap (λ k. max (open_in (body_code m y)) k) more

dummies_are : (g : Setting) (qs : List x.Procedure) → dummies_among qs ≡ most_dummies (map (lowered_procedure g) qs)
dummies_are g [] = refl
dummies_are g (q ∷ qs) = ap (λ k. max (length q.dummies.items) k) (dummies_are g qs)

-- ---- a program

entries_starts : (g : Setting) (ps : List x.Procedure) (ks : List ℕ) → length (entries_in g ps ks) ≡ length ps →
    (length ps ≤ length ks) × (take (length ps) ks ≡ map (λ (e : Entry). e.at) (entries_in g ps ks))
entries_starts g [] ks e = (omega arith, refl)
entries_starts g (p ∷ ps) [] e = absurd (omega (arith, e))
entries_starts g (p ∷ ps) (k ∷ ks) e =
    let r = entries_starts g ps ks (omega (arith, e)) in
    (omega (arith, r.0), ap (λ ns. k ∷ ns) r.1)

entries_length : (m at : ℕ) (qs : List c.Procedure) → length (entries m at qs) ≡ length qs
entries_length m at [] = refl
entries_length m at (q ∷ qs) = ap suc (entries_length m (at + length (body_code m q)) qs)

module _ (P : Program) (E : Emission) (is : code_in P E ≡ program_code (lowered_program P)) where
  abbrev p : c.Program
  p = lowered_program P

  abbrev g : Setting
  g = setting_of P

  abbrev ls : List Line
  ls = E.lines.items

  abbrev n : ℕ
  n = length p.routines

  abbrev cm : List code.Line
  cm = main_code n p.main

  abbrev cr : List code.Line
  cr = routines_code p.routines

  abbrev cp : List code.Line
  cp = procedures_code n p.procedures

  abbrev ks : List ℕ
  ks = take (length P.procedures.items) E.procedures.items

  lines_are : lines_in g ls ≡ cm ++ (cr ++ cp)
  lines_are = ap (λ (k : Code). k.lines) is

  entries_are : entries_in g P.procedures.items E.procedures.items ≡ entries n (length cm + length cr) p.procedures
  entries_are = ap (λ (k : Code). k.procedures) is

  as_many : length (entries_in g P.procedures.items E.procedures.items) ≡ length P.procedures.items
  as_many = ap (λ (es : List Entry). length es) entries_are ∙ entries_length n (length cm + length cr) p.procedures
      ∙ length-map P.procedures.items (lowered_procedure (setting_of P))

  routines_start : starts_of (length cm) (routine_pieces p.routines) ≡ E.routines.items
  routines_start = routine_starts (length cm) p.routines ∙ ap (λ (k : Code). k.routines) (sym is)

  procedures_start : starts_of (length cm + length cr) (procedure_pieces n p.procedures) ≡ ks
  procedures_start = procedure_starts n (length cm + length cr) p.procedures ∙ ap (λ es. map (λ (e : Entry). e.at) es) (sym entries_are)
      ∙ sym (entries_starts g P.procedures.items E.procedures.items as_many).1

  all_lines : length ls ≡ length cm + length cr + length cp
  all_lines = sym (length-map ls (line_in g)) ∙ ap (λ (xs : List code.Line). length xs) lines_are ∙ omega (arith, length-append cm (cr ++ cp), length-append cr cp)

  procedure_end : length ls ≡ length cm + length cr + length (lines_of (procedure_pieces n p.procedures))
  procedure_end = all_lines ∙ ap (λ (xs : List code.Line). length cm + length cr + length xs) (sym (procedure_lines n p.procedures))

  behind_r : behind_routines ls ks ≡ length cm + length cr
  behind_r = ap (λ ss. first_of ss (length ls)) (sym procedures_start) ∙ first_start (length cm + length cr) (procedure_pieces n p.procedures) (length ls) procedure_end

  routine_end : behind_routines ls ks ≡ length cm + length (lines_of (routine_pieces p.routines))
  routine_end = behind_r ∙ ap (λ (xs : List code.Line). length cm + length xs) (sym (routine_lines p.routines))

  behind_m : behind_main ls E.routines.items ks ≡ length cm
  behind_m = ap (λ ss. first_of ss (behind_routines ls ks)) (sym routines_start) ∙ first_start (length cm) (routine_pieces p.routines) (behind_routines ls ks) routine_end

  main_lines : lines_in g (take (behind_main ls E.routines.items ks) ls) ≡ cm
  main_lines = ap (λ k. lines_in g (take k ls)) behind_m ∙ sym (take-map (line_in g) (length cm) ls) ∙ ap (λ xs. take (length cm) xs) lines_are ∙ take_front cm (cr ++ cp)

  main_same : open_among (take (behind_main ls E.routines.items ks) ls) ≡ open_in cm
  main_same = open_same g (take (behind_main ls E.routines.items ks) ls) ∙ ap open_in main_lines

  procedure_place : lines_in g ls ≡ (cm ++ cr) ++ lines_of (procedure_pieces n p.procedures)
  procedure_place = lines_are ∙ sym (append_assoc cm cr cp) ∙ ap (λ xs. (cm ++ cr) ++ xs) (sym (procedure_lines n p.procedures))

  procedures_same : names_among ls ks (length ls) P.procedures.items ≡ procedures_names p p.procedures
  procedures_same = ap (λ ss. names_among ls ss (length ls) P.procedures.items) (sym procedures_start)
      ∙ names_are p g ls (cm ++ cr) P.procedures.items (length cm + length cr) (length ls) procedure_place (sym (length-append cm cr)) procedure_end

  pub told_names : names_told ls E.routines.items ks P ≡ most_names p
  told_names =
      let z : 2 * open_in cm ≡ 0 + 2 * open_in cm = omega arith in
      ap (λ k. max (2 * k) (names_among ls ks (length ls) P.procedures.items)) main_same
      ∙ ap (λ k. max (2 * open_in cm) k) procedures_same ∙ ap (λ k. max k (procedures_names p p.procedures)) z

  pub told_open : open_told ls E.routines.items ks ≡ most_open p
  told_open =
      ap (λ k. max k (parts_open ls ks (length ls))) main_same
      ∙ ap (λ ss. max (open_in cm) (parts_open ls ss (length ls))) (sym procedures_start)
      ∙ ap (λ k. max (open_in cm) k)
      (open_are p g ls (cm ++ cr) P.procedures.items (length cm + length cr) (length ls) procedure_place (sym (length-append cm cr)) procedure_end)

pub told_dummies : (P : Program) → dummies_among P.procedures.items ≡ most_dummies (lowered_program P).procedures
told_dummies P = dummies_are (setting_of P) P.procedures.items

-- ---- what is told of other names for the same

pub names_moved : (P : Program) (a a' : List Line) (b b' k k' : List ℕ) → a ≡ a' → b ≡ b' → k ≡ k' → names_told a b k P ≡ names_told a' b' k' P
names_moved P a a' b b' k k' d e f = ap (λ x. names_told x b k P) d ∙ ap (λ x. names_told a' x k P) e ∙ ap (λ x. names_told a' b' x P) f

pub open_moved : (a a' : List Line) (b b' k k' : List ℕ) → a ≡ a' → b ≡ b' → k ≡ k' → open_told a b k ≡ open_told a' b' k'
open_moved a a' b b' k k' d e f = ap (λ x. open_told x b k) d ∙ ap (λ x. open_told a' x k) e ∙ ap (λ x. open_told a' b' x) f
