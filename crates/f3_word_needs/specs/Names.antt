-- How many names a procedure has at most, known from its code.
use Rattle.std.specs.Prelude.{ℕ, ◌+◌, ◌-◌, ◌*◌, max, List, [], ◌∷◌, length, take, slice_range}
use Rattle.f3_program.specs.declared.program.Procedure.{Procedure}
use Rattle.f3_program.specs.declared.program.Program.{Program}
use Rattle.f3_code.specs.declared.instruction.Instruction.{Instruction}
use Rattle.f3_code.specs.declared.instruction.Instruction.TheVariants as i
use Rattle.f3_code.specs.Core as c
use Rattle.f3_code.specs.State.{Line}
use Rattle.f3_code.specs.Code.{body_code, main_code}
use Rattle.f3_gen_values.specs.declared.line.Line as emitted
use Rattle.f3_sizes.specs.Parts.{first_of, behind_main}

-- How many names of ASSOCIATEs are open behind a line, where so many are before it: as an ASSOCIATE begins it opens those of its
-- selectors, and at its end it looks at these one by one. As a procedure begins it looks at its dummies so, where none is open.
abbrev pub after_line : ℕ → Instruction → ℕ
after_line n (i.Associate k) = n + k
after_line n (i.NextObject d) = n - 1
after_line n x = n

-- the greatest number that is open at lines
abbrev pub deepest : ℕ → List Line → ℕ
deepest n [] = n
deepest n (l ∷ ls) = max n (deepest (after_line n l.act) ls)

abbrev pub open_in : List Line → ℕ
open_in ls = deepest 0 ls

-- the dummies of a procedure, and twice the names of its ASSOCIATEs that are open at once: these stand among those that statements may name, and on the
-- stack
abbrev pub names_need : ℕ → List Line → ℕ
names_need dummies lines = dummies + 2 * open_in lines

abbrev pub procedure_names : c.Program → c.Procedure → ℕ
procedure_names p q = names_need (length q.dummies) (body_code (length p.routines) q)

abbrev pub main_names : c.Program → ℕ
main_names p = names_need (length p.main.dummies) (main_code (length p.routines) p.main)

abbrev pub procedures_names : c.Program → List c.Procedure → ℕ
procedures_names p [] = 0
procedures_names p (q ∷ qs) = max (procedure_names p q) (procedures_names p qs)

-- of the main program, or of the procedure that has most
abbrev pub most_names : c.Program → ℕ
most_names p = max (main_names p) (procedures_names p p.procedures)

-- ---- what is kept: the dummies of each procedure that was called, and the names of each ASSOCIATE that is open

abbrev pub procedures_open : c.Program → List c.Procedure → ℕ
procedures_open p [] = 0
procedures_open p (q ∷ qs) = max (open_in (body_code (length p.routines) q)) (procedures_open p qs)

abbrev pub most_open : c.Program → ℕ
most_open p = max (open_in (main_code (length p.routines) p.main)) (procedures_open p p.procedures)

abbrev pub most_dummies : List c.Procedure → ℕ
most_dummies [] = 0
most_dummies (q ∷ qs) = max (length q.dummies) (most_dummies qs)

-- ---- the same of lines as they were emitted

abbrev pub deepest_among : ℕ → List emitted.Line → ℕ
deepest_among n [] = n
deepest_among n (l ∷ ls) = max n (deepest_among (after_line n l.act) ls)

abbrev pub open_among : List emitted.Line → ℕ
open_among ls = deepest_among 0 ls

-- of procedures that begin at these lines, up to a line: of the one that has most
abbrev pub names_among : List emitted.Line → List ℕ → ℕ → List Procedure → ℕ
names_among lines [] end qs = 0
names_among lines (start ∷ starts) end [] = 0
names_among lines (start ∷ starts) end (q ∷ qs) =
    max (length q.dummies.items + 2 * open_among (slice_range lines start (first_of starts end))) (names_among lines starts end qs)

-- of the main program, whose code comes first and which has no dummies, or of the procedure that has most
abbrev pub names_told : List emitted.Line → List ℕ → List ℕ → Program → ℕ
names_told lines routines starts p = max (2 * open_among (take (behind_main lines routines starts) lines))
    (names_among lines starts (length lines) p.procedures.items)

abbrev pub parts_open : List emitted.Line → List ℕ → ℕ → ℕ
parts_open lines [] end = 0
parts_open lines (start ∷ starts) end = max (open_among (slice_range lines start (first_of starts end))) (parts_open lines starts end)

abbrev pub open_told : List emitted.Line → List ℕ → List ℕ → ℕ
open_told lines routines starts = max (open_among (take (behind_main lines routines starts) lines)) (parts_open lines starts (length lines))

abbrev pub dummies_among : List Procedure → ℕ
dummies_among [] = 0
dummies_among (q ∷ qs) = max (length q.dummies.items) (dummies_among qs)
