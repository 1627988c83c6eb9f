use Rattle.std.proofs.Common.{◌+◌, ◌*◌, ◌≤◌, length, drop}
use Rattle.f3_program.specs.declared.statement.Statement.{size-Statement}
use Rattle.f3_code.specs.Lower.{lowered}
use Rattle.f3_code.specs.Code.{code_of}
use Rattle.f3_gen_work.specs.EmittedIn.{EmittedIn}
use Rattle.f3_gen_statements.specs.Chain.{chain_code}
use Rattle.f3_gen_statements.specs.Leading.{lowered_list, ways_from}
use Rattle.f3_gen_statements.proofs.statement.+statement.Given as goal

abbrev pub invariant-emit_block-loop-i : goal.invariant-emit_block-loop-i
invariant-emit_block-loop-i l = record {
  within : l.i ≤ length l.list;
  emitted : EmittedIn l.site.types.now l.fn.code.items l.code.items (λ g. code_of (length l.site.types.now) l.site.place (lowered_list g (drop l.i l.list)) (ways_from l.fn.code.items l.site.exits));
}

abbrev pub decreases-emit_block-loop-i : goal.decreases-emit_block-loop-i
decreases-emit_block-loop-i l = l.i

abbrev pub invariant-emit_statement-loop-i : goal.invariant-emit_statement-loop-i
invariant-emit_statement-loop-i l = record {
  within : l.i ≤ length l.chain.links.items;
  emitted : EmittedIn l.site.types.now l.fn.code.items l.code.items (λ g. chain_code (length l.site.types.now) g (drop l.i l.chain.links.items)
      (code_of (length l.site.types.now) l.chain.place (lowered g l.chain.last.now) (ways_from l.fn.code.items l.site.exits)) (ways_from l.fn.code.items l.site.exits));
}

abbrev pub decreases-emit_statement-loop-i : goal.decreases-emit_statement-loop-i
decreases-emit_statement-loop-i l = l.i

abbrev pub decreases-emit_statement : goal.decreases-emit_statement
decreases-emit_statement l = 3 * size-Statement l.statement.now + 1

abbrev pub decreases-emit_single : goal.decreases-emit_single
decreases-emit_single l = 3 * size-Statement l.statement.now

abbrev pub decreases-emit_at : goal.decreases-emit_at
decreases-emit_at l = 3 * size-Statement l.inner.now + 2

abbrev pub decreases-emit_block : goal.decreases-emit_block
decreases-emit_block l = 3 * goal.size-emit_block l + 2

abbrev pub decreases-emit_link : goal.decreases-emit_link
decreases-emit_link l = 3 * size-Statement l.link.then.now + 2

abbrev pub decreases-emit_while : goal.decreases-emit_while
decreases-emit_while l = 3 * size-Statement l.body.now + 2

abbrev pub decreases-emit_count : goal.decreases-emit_count
decreases-emit_count l = 3 * size-Statement l.body.now + 2

abbrev pub decreases-emit_select : goal.decreases-emit_select
decreases-emit_select l = 3 * size-Statement l.cases.now + 2

abbrev pub decreases-emit_associate : goal.decreases-emit_associate
decreases-emit_associate l = 3 * size-Statement l.body.now + 2
