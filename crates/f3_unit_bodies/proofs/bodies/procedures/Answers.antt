use Rattle.std.proofs.Common.{List, map, refl, arith, ◌∙◌}
use Rattle.f3_tree.specs.declared.program.Procedure.{Procedure}
use Rattle.f3_tree.specs.Tree.{procedure_view}
use Rattle.f3_typed_parts.proofs.Noting.{noted_done}
use Rattle.f3_sites.specs.Sites.{site_of}
use Rattle.f3_unit_bodies.specs.Bodies.{width, widths, is_pure_in, body_rows, procedure_rows}
use Rattle.f3_bodies.proofs.Walk.{walked, numbered}
use Rattle.f3_unit_bodies.proofs.Standing.{settled_at, procedure_noted, procedure_width}
use Rattle.f3_unit_bodies.proofs.bodies.procedures.Goals as goal

pub body-requires-clause-settled : goal.body-requires-clause-settled
body-requires-clause-settled c = settled_at (site_of c.loop-procedure.site) (site_of c.args.site.now) c.loop-procedure.invariant.site c.requires.settled

pub loop-procedure-preserved : goal.loop-procedure-preserved
loop-procedure-preserved c =
    let s = site_of c.args.site.now in
    let m = procedure_width c.in_ok-scope.scope c.loop-procedure.scope c.procedure-item.result c.deref.result.now c.deref.ensures.value c.in_ok-scope.ensures.next in
    record {
      noted = walked (λ n (p : Procedure). body_rows s c.args.unit n (is_pure_in (procedure_view p)) (procedure_view p).body)
          (λ n (ps : List Procedure). procedure_rows s c.args.unit n (map procedure_view ps)) (λ (p : Procedure). width (procedure_view p).body) (λ n p ps. refl)
          c.args.list.now c.loop-procedure.procedure-index c.procedure-item.result c.loop-procedure.scope c.in_ok-scope.scope c.loop-procedure.first c.body.new.first _
          c.loop-procedure-test.true c.procedure-item.is
          (procedure_noted (site_of c.loop-procedure.site) s c.args.unit c.loop-procedure.scope c.is_pure.result c.procedure-item.result c.deref.result.now c.loop-procedure.first c.body.new.first
          c.loop-procedure.invariant.site c.is_pure.ensures c.deref.ensures.value c.in_ok-scope.ensures.noted)
          m c.loop-procedure.invariant.noted;
      numbers = numbered (λ (p : Procedure). width (procedure_view p).body) (λ (ps : List Procedure). widths (map procedure_view ps)) (λ p ps. refl)
          c.args.list.now c.loop-procedure.procedure-index c.procedure-item.result c.loop-procedure.scope c.in_ok-scope.scope _ c.loop-procedure-test.true c.procedure-item.is m
          c.loop-procedure.invariant.numbers;
      site = c.in_ok-scope.ensures.site ∙ c.loop-procedure.invariant.site;
    }

pub returns-clause-noted : goal.returns-clause-noted
returns-clause-noted c =
    noted_done (λ (ps : List Procedure). procedure_rows (site_of c.args.site.now) c.args.unit c.loop-procedure.scope (map procedure_view ps))
    c.args.list.now c.loop-procedure.procedure-index c.loop-procedure.first _ (omega (arith, c.loop-procedure-test.false)) refl c.loop-procedure.invariant.noted
