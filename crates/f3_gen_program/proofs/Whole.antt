-- The code of a whole program.
use Rattle.std.proofs.Common.{◌≡◌, ℕ, ◌+◌, ◌-◌, ◌++◌, List, ◌∷◌, [], length, map, reverse, refl, sym, ap, ◌∙◌, arith}
use Rattle.std.proofs.lemmas.List.{map-append, reverse-append, reverse-reverse}
use Rattle.f3_program.specs.declared.program.Program.{Program}
use Rattle.f3_meaning_whole.specs.Run.{setting_of}
use Rattle.f3_code.specs.Core as o
use Rattle.f3_code.specs.Lower.{lowered_main, lowered_procedure, lowered_program, routines}
use Rattle.f3_code.specs.State as c
use Rattle.f3_code.specs.Code.{entries, main_code, places_of, procedures_code, program_code, routines_code}
use Rattle.f3_gen_values.specs.declared.line.Line.{Line}
use Rattle.f3_gen_values.specs.Emitted.{line_in, lines_in}
use Rattle.f3_gen_procedures.specs.Ends.{procedure_ends, routine_ends}
use Rattle.f3_gen_procedures.proofs.Newest.{length-routines_from}
use Rattle.f3_gen_values.specs.declared.emission.Emission.{Emission}
use Rattle.f3_gen_program.proofs.EmittedFor.{EmittedFor}
use Rattle.f3_gen_values.specs.Emission.{code_in, entries_in}
use Rattle.f3_gen_program.proofs.ForProgram.{for_then}
use Rattle.f3_gen_program.proofs.Placed.{procedures_placed, routines_placed}

turned : (f : Line → c.Line) (xs : List Line) → map f (reverse xs) ≡ reverse (map f xs)
turned f [] = refl
turned f (x ∷ xs) = ap (λ l. map f l) (reverse-append (x ∷ []) xs) ∙ map-append f (reverse xs) (x ∷ []) ∙ ap (λ l. l ++ f x ∷ []) (turned f xs)
    ∙ sym (reverse-append (f x ∷ []) (map f xs))

abbrev code_of_parts : List c.Line → List c.Entry → List ℕ → c.Code
code_of_parts ls es rs = record { lines = ls; procedures = es; routines = rs }

-- a program with so many types
abbrev assembled : ℕ → o.Program → c.Code
assembled m q = record {
  lines = main_code m q.main ++ (routines_code q.routines ++ procedures_code m q.procedures);
  procedures = entries m (length (main_code m q.main) + length (routines_code q.routines)) q.procedures;
  routines = places_of (length (main_code m q.main)) q.routines;
}

pub whole : (p : Program) (l l1 l2 l3 : List Line) (pe re : List ℕ) (e : Emission) → l ≡ []
    → EmittedFor p l l1 (procedures_code (length p.types.items) (map (lowered_procedure (setting_of p)) p.procedures.items))
    → EmittedFor p l1 l2 (routines_code (routines p.types.items))
    → EmittedFor p l2 l3 (main_code (length p.types.items) (lowered_main (setting_of p) p.main))
    → pe ≡ reverse (procedure_ends (length p.types.items) (length l) (map (lowered_procedure (setting_of p)) p.procedures.items))
    → re ≡ reverse (routine_ends (length l1) (routines p.types.items))
    → e.lines.items ≡ reverse l3 → e.procedures.items ≡ map (λ k. length l3 - k) (reverse pe) → e.routines.items ≡ map (λ k. length l3 - k) (reverse re)
    → code_in p e ≡ program_code (lowered_program p)
whole p l l1 l2 l3 pe re e none u v w ends_p ends_r all_lines all_p all_r =
    let n1 : length l1 ≡ length l + length (procedures_code (length p.types.items) (map (lowered_procedure (setting_of p)) p.procedures.items)) = u.longer in
    let n2 : length l2 ≡ length l1 + length (routines_code (routines p.types.items)) = v.longer in
    let n3 : length l3 ≡ length l2 + length (main_code (length p.types.items) (lowered_main (setting_of p) p.main)) = w.longer in
    let start : lines_in (setting_of p) l ≡ [] = ap (lines_in (setting_of p)) none in
    let in_lines : lines_in (setting_of p) e.lines.items ≡ (assembled (length p.types.items) (lowered_program p)).lines
    = ap (lines_in (setting_of p)) all_lines ∙ turned (line_in (setting_of p)) l3
    ∙ ap reverse ((for_then (for_then u v) w).in_front ∙ ap (λ x. x ++ reverse (assembled (length p.types.items) (lowered_program p)).lines) start)
    ∙ reverse-reverse (assembled (length p.types.items) (lowered_program p)).lines in
    let from_p : length l + (length (main_code (length p.types.items) (lowered_main (setting_of p) p.main)) + length (routines_code (routines p.types.items))
    + length (procedures_code (length p.types.items) (map (lowered_procedure (setting_of p)) p.procedures.items))) ≡ length l3 = omega arith in
    let from_r : length l1 + (length (main_code (length p.types.items) (lowered_main (setting_of p) p.main)) + length (routines_code (routines p.types.items))) ≡ length l3 = omega arith in
    let in_procedures : entries_in (setting_of p) p.procedures.items e.procedures.items ≡ (assembled (length p.types.items) (lowered_program p)).procedures
    = ap (λ ks. entries_in (setting_of p) p.procedures.items ks)
    (all_p ∙ ap (λ ks. map (λ k. length l3 - k) ks) (ap reverse ends_p ∙ reverse-reverse (procedure_ends (length p.types.items) (length l) (map (lowered_procedure (setting_of p)) p.procedures.items))))
    ∙ procedures_placed (setting_of p) (length p.types.items) (length l) (length l3)
    (length (main_code (length p.types.items) (lowered_main (setting_of p) p.main)) + length (routines_code (routines p.types.items))) p.procedures.items from_p in
    let in_routines : e.routines.items ≡ (assembled (length p.types.items) (lowered_program p)).routines
    = all_r ∙ ap (λ ks. map (λ k. length l3 - k) ks) (ap reverse ends_r ∙ reverse-reverse (routine_ends (length l1) (routines p.types.items)))
    ∙ routines_placed (length l1) (length l3) (length (main_code (length p.types.items) (lowered_main (setting_of p) p.main))) (routines p.types.items) from_r in
    let so_many : length p.types.items ≡ length (routines p.types.items) = sym (length-routines_from p.types.items [] p.types.items ∙ omega arith) in
    ap (λ ls. code_of_parts ls (entries_in (setting_of p) p.procedures.items e.procedures.items) e.routines.items) in_lines
    ∙ ap (λ es. code_of_parts (assembled (length p.types.items) (lowered_program p)).lines es e.routines.items) in_procedures
    ∙ ap (λ rs. code_of_parts (assembled (length p.types.items) (lowered_program p)).lines (assembled (length p.types.items) (lowered_program p)).procedures rs) in_routines
    ∙ ap (λ k. assembled k (lowered_program p)) so_many
