-- No cells are known at the end of the main program.
use Rattle.std.proofs.Common.{◌≡◌, ℕ, suc, ◌+◌, ◌&&◌, List, [], ◌∷◌, ◌++◌, length, length-append, ap, sym, subst, ◌∙◌, arith}
use Rattle.std.specs.Prelude.{slice_index_or}
use Rattle.f3_program.specs.declared.program.Program.{Program}
use Rattle.f3_program.specs.declared.program.Static.{Static}
use Rattle.f3_meaning_whole.specs.Formed.{IsWellFormed, all, are_types, is_declared, are_declared, is_procedure}
use Rattle.f3_code.specs.Core as core
use Rattle.f3_code.specs.Code.{main_code}
use Rattle.f3_code.specs.Lower.{lowered_program}
use Rattle.f3_cell_kinds.specs.Types.{Site}
use Rattle.f3_cell_kinds.specs.Values.{at}
use Rattle.f3_cell_kinds.specs.Program.{scope_of, returns_of, code_sites, procedures_sites, routines_sites, program_sites}
use Rattle.f3_cell_kinds.specs.Sense.{MakesSense}
use Rattle.f3_cell_kinds.specs.Laws.{nowhere, site_at}
use Rattle.f3_cell_kinds.proofs.Asked.{and_is}
use Rattle.f3_cell_kinds.proofs.OfProgram.{main_part}
use Rattle.f3_word_account.specs.Runs.{AreIdle, IsEnd, EndsLeakNothing}
use Rattle.f3_word_account.proofs.Idle.{lines_leak_nothing}

-- the second of two sites behind others
second_is : (front : List Site) (y z : Site) (rest : List Site) → slice_index_or ((front ++ y ∷ z ∷ []) ++ rest) (length front + 1) nowhere ≡ z
second_is [] y z rest =
    let none : List Site = [] in
    let e : length none + 1 ≡ 1 = omega arith in
    ap (λ k. slice_index_or (y ∷ z ∷ rest) k nowhere) e
second_is (x ∷ front) y z rest =
    let e : length (x ∷ front) + 1 ≡ suc (length front + 1) = omega arith in
    ap (λ k. slice_index_or (x ∷ (front ++ y ∷ z ∷ []) ++ rest) k nowhere) e ∙ second_is front y z rest

module _ (p : Program) (formed : IsWellFormed p) (sense : MakesSense p) where
  abbrev whole : core.Program
  whole = lowered_program p

  abbrev m : ℕ
  m = length whole.routines

  abbrev last : Site
  last = at (returns_of p whole.main) (scope_of p whole.main) []

  abbrev front : List Site
  front = code_sites p m (returns_of p whole.main) (scope_of p whole.main) [] 0 (whole.main).body

  main_same : length (front ++ last ∷ last ∷ []) ≡ length (main_code m whole.main)
  main_same =
      let a = and_is (are_types p 0 p.types.items) (all (λ (y : Static). is_declared (length p.types.items) y.declared) p.statics.items
      && (all (are_declared p) (p.main ∷ p.procedures.items) && all (is_procedure p) (p.main ∷ p.procedures.items))) formed in
      let b = and_is _ _ a.1 in let d = and_is _ _ b.1 in
      let e = and_is _ _ d.1 in let f = and_is _ _ sense.statements in
      (main_part p (site_at p) sense.finals m sense.main e.0 f.0).same

  end_cells : (pc : ℕ) → IsEnd p pc → (site_at p pc).cells ≡ []
  end_cells pc is =
      let two : length (front ++ last ∷ last ∷ []) ≡ length front + 2 = length-append front (last ∷ last ∷ []) in
      let at : pc ≡ length front + 1 = let same = main_same in omega (arith, is, same, two) in
      ap (λ (z : Site). z.cells) (ap (λ k. slice_index_or (program_sites p) k nowhere) at
      ∙ second_is front last last (routines_sites p whole.routines ++ procedures_sites p m whole.procedures))

pub ends_leak_nothing : EndsLeakNothing
ends_leak_nothing p n w x t st told has none is =
    lines_leak_nothing p n w x t st told.fits has none (subst AreIdle (sym (end_cells p told.formed told.sense t.pc is)) tt)
