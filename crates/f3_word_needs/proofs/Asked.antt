-- What calls and ASSOCIATEs want.
use Rattle.std.proofs.Common.{◌≡◌, ◌∙◌, ℕ, suc, ◌+◌, ◌≤◌, List, [], ◌∷◌, length, map, sym, ap, subst, arith}
use Rattle.std.specs.Prelude.{zero, Some, slice_get}
use Rattle.f3_program.specs.declared.program.Procedure as x
use Rattle.f3_program.specs.declared.program.Program.{Program}
use Rattle.f3_meaning_whole.specs.Act.{Setting}
use Rattle.f3_meaning_whole.specs.Run.{setting_of}
use Rattle.f3_code.specs.declared.instruction.Instruction.TheVariants as i
use Rattle.f3_code.specs.Lower.{lowered_procedure, lowered_program}
use Rattle.f3_cell_kinds.specs.Types.{Around, Scope, Told, Site}
use Rattle.f3_cell_kinds.specs.Laws.{site_at}
use Rattle.f3_cell_kinds.proofs.Asked.{and_is, found_is, only_is}
use Rattle.f3_cell_kinds.proofs.Standing.{in_is}
use Rattle.f3_word_cells.proofs.OnTop.{line_kinds}
use Rattle.f3_word_needs.specs.Names.{most_dummies, most_open}
use Rattle.f3_word_needs.specs.Laws.{AssociatesAreFew, CallsAreFew}
use Rattle.f3_word_needs.proofs.Few.{Few, levels_in, site_has_few}
use Rattle.f3_word_needs.proofs.Givens.{givens_are_dummies}

-- a procedure has no more dummies than the one that has most
dummies_few : (g : Setting) (qs : List x.Procedure) (f : ℕ) (q : x.Procedure) → slice_get qs f ≡ Some q
    → length q.dummies.items ≤ most_dummies (map (lowered_procedure g) qs)
dummies_few g [] f q e = cc
dummies_few g (y ∷ qs) zero q e = let same : y ≡ q = cc in subst (λ (z : x.Procedure). length z.dummies.items ≤ most_dummies (map (lowered_procedure g) (y ∷ qs))) same (omega arith)
dummies_few g (y ∷ qs) (suc f) q e = omega (arith, dummies_few g qs f q e)

pub procedure_few : (p : Program) (f : ℕ) (q : x.Procedure) → slice_get p.procedures.items f ≡ Some q → length q.dummies.items ≤ most_dummies (lowered_program p).procedures
procedure_few p f q e = dummies_few (setting_of p) p.procedures.items f q e

pub calls_are_few : CallsAreFew
calls_are_few p t l f k told there act =
    let lead = line_kinds p t l (i.Call f k) told there act in
    let gs = lead.0 in
    let q = lead.1 in
    let kind = found_is (slice_get p.procedures.items f) _ lead.2 lead.5 in
    let same : kind.0 ≡ q = let e : Some kind.0 ≡ Some q = sym kind.1 ∙ lead.4 in cc in
    let fits = and_is _ _ (only_is _ _ _ kind.2).0 in
    let many = givens_are_dummies kind.0.dummies.items gs fits.0 fits.1 in
    let few = procedure_few p f kind.0 kind.1 in
    omega (arith, lead.3, many, few)

-- the names of the ASSOCIATE on top
few_of : (b : ℕ) (o : Around) (c : Scope) (n : ℕ) → o ≡ Told c → Few (λ ks. 0) b o n → n ≤ b
few_of b (Told d) c n e few = omega (arith, few)
few_of b o c n e few = cc

pub associates_are_few : AssociatesAreFew
associates_are_few p t l n told there act =
    let site = site_at p t.pc in
    let lead = in_is site.scope _ (line_kinds p t l (i.Associate n) told there act) in
    let ks = lead.2.0 in
    let leads = lead.2.2 in
    let few = site_has_few p (t.pc + 1) in
    let cells : levels_in (site_at p (t.pc + 1)).cells ≡ length ks + levels_in leads.rest = ap (λ (z : Site). levels_in z.cells) leads.next in
    let less = few_of (most_open (lowered_program p)) (site_at p (t.pc + 1)).scope _ (levels_in (site_at p (t.pc + 1)).cells) (ap (λ (z : Site). z.scope) leads.next) few in
    omega (arith, cells, less, lead.2.1)
