use Rattle.std.proofs.Common.{List, map, refl, arith, ◌∙◌, ap}
use Rattle.f3_tree.specs.declared.program.Unit.{Unit as ProgramUnit}
use Rattle.f3_tree.specs.Tree.{unit_view}
use Rattle.f3_typed_parts.specs.Noted.{noted}
use Rattle.f3_typed_parts.proofs.Noting.{noted_done}
use Rattle.f3_sites.specs.Sites.{site_of}
use Rattle.f3_unit_bodies.specs.Bodies.{unit_width, unit_widths, unit_rows, units_rows}
use Rattle.f3_bodies.proofs.Walk.{walked, numbered}
use Rattle.f3_unit_bodies.proofs.Standing.{settled_at, unit_same}
use Rattle.f3_unit_bodies.proofs.bodies.bodies.Goals as goal

pub unit_bodies-requires-clause-settled : goal.unit_bodies-requires-clause-settled
unit_bodies-requires-clause-settled c = settled_at (site_of c.loop-unit.site) (site_of c.args.site.now) c.loop-unit.invariant.site c.requires.settled

pub loop-unit-preserved : goal.loop-unit-preserved
loop-unit-preserved c =
    let s = site_of c.args.site.now in
    let same = unit_same (site_of c.loop-unit.site) s c.loop-unit.scope (unit_view c.unit-item.result) c.loop-unit.invariant.site in
    record {
      noted = walked (λ n (u : ProgramUnit). unit_rows s n (unit_view u)) (λ n (us : List ProgramUnit). units_rows s n (map unit_view us)) (λ (u : ProgramUnit). unit_width (unit_view u)) (λ n u us. refl)
          c.args.units.now c.loop-unit.unit-index c.unit-item.result c.loop-unit.scope c.in_ok-scope.scope c.loop-unit.first c.unit_bodies.new.first _
          c.loop-unit-test.true c.unit-item.is (c.in_ok-scope.ensures.noted ∙ ap (noted c.loop-unit.first) same) c.in_ok-scope.ensures.next c.loop-unit.invariant.noted;
      numbers = numbered (λ (u : ProgramUnit). unit_width (unit_view u)) (λ (us : List ProgramUnit). unit_widths (map unit_view us)) (λ u us. refl)
          c.args.units.now c.loop-unit.unit-index c.unit-item.result c.loop-unit.scope c.in_ok-scope.scope _ c.loop-unit-test.true c.unit-item.is c.in_ok-scope.ensures.next
          c.loop-unit.invariant.numbers;
      site = c.in_ok-scope.ensures.site ∙ c.loop-unit.invariant.site;
    }

pub returns-clause-noted : goal.returns-clause-noted
returns-clause-noted c =
    noted_done (λ (us : List ProgramUnit). units_rows (site_of c.args.site.now) c.loop-unit.scope (map unit_view us))
    c.args.units.now c.loop-unit.unit-index c.loop-unit.first _ (omega (arith, c.loop-unit-test.false)) refl c.loop-unit.invariant.noted
