use Rattle.std.proofs.Common.{◌≡◌, ◌+◌, ◌*◌, map, drop}
use Rattle.f3_tree.specs.Statements.{statement_view, block_of}
use Rattle.f3_scopes.specs.Blocks.{branches_view, branches_in, cases_view, cases_in}
use Rattle.f3_type_rules.specs.Bodies.{block_breaks, branch_breaks, case_breaks}
use Rattle.f3_typed_parts.specs.Noted.{noted}
use Rattle.f3_sites.specs.Sites.{site_of}
use Rattle.f3_associates.specs.Standing.{room_of}
use Rattle.f3_bodies.specs.Inner.Counts.{count_of_block, count_of_branches, count_of_cases}
use Rattle.f3_bodies.specs.Inner.Weights.{weight, weight_of_block}
use Rattle.f3_bodies.proofs.blocks.+blocks.Given as goal

abbrev pub invariant-block-loop-statement : goal.invariant-block-loop-statement
invariant-block-loop-statement l = record {
  noted : noted l.first (block_breaks (site_of l.fn.site) l.next (block_of (map statement_view (drop l.statement-index l.statements))))
      ≡ noted l.fn.first (block_breaks (site_of l.fn.site) l.fn.next (block_of (map statement_view l.statements)));
  numbers : l.next + count_of_block (block_of (map statement_view (drop l.statement-index l.statements))) ≡ l.fn.next + count_of_block (block_of (map statement_view l.statements));
  site : site_of l.site ≡ site_of l.fn.site;
  room : room_of l.site ≡ room_of l.fn.site;
}

abbrev pub invariant-branches-loop-e : goal.invariant-branches-loop-e
invariant-branches-loop-e l = record {
  noted : noted l.first (branch_breaks (site_of l.fn.site) l.next (branches_view (drop l.e-index l.e-items)))
      ≡ noted l.fn.first (branch_breaks (site_of l.fn.site) l.fn.next (branches_in (statement_view l.fn.statement)));
  numbers : l.next + count_of_branches (branches_view (drop l.e-index l.e-items)) ≡ l.fn.next + count_of_branches (branches_in (statement_view l.fn.statement));
  site : site_of l.site ≡ site_of l.fn.site;
  room : room_of l.site ≡ room_of l.fn.site;
}

abbrev pub invariant-cases-loop-body : goal.invariant-cases-loop-body
invariant-cases-loop-body l = record {
  noted : noted l.first (case_breaks (site_of l.fn.site) l.next (cases_view (drop l.body-index l.body-items)))
      ≡ noted l.fn.first (case_breaks (site_of l.fn.site) l.fn.next (cases_in (statement_view l.fn.statement)));
  numbers : l.next + count_of_cases (cases_view (drop l.body-index l.body-items)) ≡ l.fn.next + count_of_cases (cases_in (statement_view l.fn.statement));
  site : site_of l.site ≡ site_of l.fn.site;
  room : room_of l.site ≡ room_of l.fn.site;
}

abbrev pub decreases-block : goal.decreases-block
decreases-block l = 2 * weight_of_block (block_of (map statement_view l.statements.now))

abbrev pub decreases-one : goal.decreases-one
decreases-one l = 2 * weight (statement_view l.statement.now) + 1

abbrev pub decreases-branches : goal.decreases-branches
decreases-branches l = 2 * weight (statement_view l.statement.now)

abbrev pub decreases-cases : goal.decreases-cases
decreases-cases l = 2 * weight (statement_view l.statement.now)
