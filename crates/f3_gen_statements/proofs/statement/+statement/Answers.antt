use Rattle.std.proofs.Common.{◌≡◌, ◌-◌, ◌∷◌, [], length, refl, sym, ap, ◌∙◌, append_assoc, arith}
use Rattle.std.proofs.lemmas.List.{length-map}
use Rattle.f3_code.specs.Core as o
use Rattle.f3_code.specs.Lower.{lowered, selecting}
use Rattle.f3_code.specs.State.{line}
use Rattle.f3_code.specs.declared.instruction.Instruction.TheVariants as i
use Rattle.f3_code.specs.Code.{code_of, locate_code}
use Rattle.f3_gen_work.proofs.Emitting.{by_types, in_types, on_ok, same_in, then_in}
use Rattle.f3_gen_statements.specs.Leading.{lowered_list, ways_from}
use Rattle.f3_gen_statements.proofs.Chains.{taken_in, turn_in}
use Rattle.f3_gen_statements.proofs.Constructs.{count_in, scoped_in, while_in}
use Rattle.f3_gen_statements.proofs.Lists.{block_is, count_is, discards_any, limits_then}
use Rattle.f3_gen_statements.proofs.statement.+statement.Goals as goal

pub emit_statement-loop-i-preserved : goal.emit_statement-loop-i-preserved
emit_statement-loop-i-preserved t c =
    let links = c.in_ok-chain.chain.links.items in
    let ways = ways_from c.args.code.now.items c.args.site.exits in
    record {
      within = omega arith;
      emitted = turn_in (λ g. code_of (length c.args.site.types.now) c.in_ok-chain.chain.place (lowered g c.in_ok-chain.chain.last.now) ways)
          links c.index.result.now c.loop-i.i (c.loop-i.i - 1) (c.len.result - c.len-behind.result) (omega arith) (omega arith) c.index.ensures
          c.requires c.loop-i.invariant.emitted c.in_ok-emit_link.ensures (omega arith);
    }

pub emit_link-returns : goal.emit_link-returns
emit_link-returns t c =
    on_ok c.emit_test.result (λ last. taken_in c.args.link _ _ c.requires c.in_ok-put.ensures c.in_ok-emit_statement.ensures last (omega arith))
    c.emit_test.ensures

pub emit_while-returns : goal.emit_while-returns
emit_while-returns t c =
    while_in _ c.args.site.place c.args.condition.now c.len-behind.result _ _ (λ g. lowered g c.args.body.now) c.requires (omega arith)
    c.in_ok-put.ensures c.in_ok-emit_statement.ensures c.in_ok-put-2.ensures c.in_ok-emit_value.ensures c.close_loop.ensures
    (omega arith) refl (omega arith) refl refl refl

pub emit_count-returns : goal.emit_count-returns
emit_count-returns t c =
    on_ok c.emit_object_then-2.result (λ last. same_in _ (then_in (count_in _ c.args.site.place c.len-behind.result _ _ (λ g. lowered g c.args.body.now) c.requires (omega arith)
    c.in_ok-put.ensures c.in_ok-put-2.ensures c.in_ok-emit_object_then.ensures c.in_ok-emit_statement.ensures c.in_ok-put-3.ensures c.close_loop.ensures
    (omega arith) refl (omega arith) refl refl refl) (in_types last))
    (λ g e. sym (append_assoc (locate_code c.args.site.place c.args.variable.now) (line c.args.site.place i.CountBegin ∷ []) _)))
    c.emit_object_then-2.ensures

pub emit_associate-returns : goal.emit_associate-returns
emit_associate-returns t c =
    on_ok c.emit_selectors.result (λ last. same_in _ (then_in (then_in (then_in (then_in (by_types c.in_ok-emit_scope_end.ensures) (in_types c.in_ok-exits.ensures.emitted))
    (scoped_in c.in_ok-exits.exits c.args.site.place (λ g. lowered g c.args.body.now) c.in_ok-exits.ensures.scoped c.in_ok-emit_statement.ensures)) (in_types c.in_ok-put.ensures)) (by_types last))
    (λ g e. rw (length-map c.args.selectors.now (selecting g), discards_any (length c.args.site.types.now) c.args.site.place g c.args.selectors.now)))
    c.emit_selectors.ensures

pub emit_single-returns-in-Block : goal.emit_single-returns-in-Block
emit_single-returns-in-Block t c =
    on_ok c.emit_block.result (λ last. same_in _ last (λ g e.
    let in_list : lowered g c.args.statement.now ≡ lowered_list g c.deref-in-Block.result.now = rw (c.in-Block.is, c.deref-in-Block.ensures.value) (block_is g c.in-Block.list) in
    ap (λ z. code_of (length c.args.site.types.now) c.args.site.place z (ways_from c.args.code.now.items c.args.site.exits)) in_list))
    c.emit_block.ensures

pub emit_single-returns-in_ok-emit_count-in-Count : goal.emit_single-returns-in_ok-emit_count-in-Count
emit_single-returns-in_ok-emit_count-in-Count t c =
    on_ok c.emit_limits.result (λ last. same_in _ (then_in c.in_ok-emit_count-in-Count.ensures (in_types last)) (λ g e.
    let in_core : lowered g c.args.statement.now ≡ o.Count c.in-Count.x c.in-Count.kind c.in-Count.from c.in-Count.to c.in-Count.by (lowered g c.deref-in-Count.result.now)
    = rw (c.in-Count.is, c.deref-in-Count.ensures) (count_is g c.in-Count.x c.in-Count.kind c.in-Count.from c.in-Count.to c.in-Count.by c.in-Count.body) in
    ap (λ z. code_of (length c.args.site.types.now) c.args.site.place z (ways_from c.args.code.now.items c.args.site.exits)) in_core
    ∙ limits_then c.args.site.place c.in-Count.kind c.in-Count.from c.in-Count.to c.in-Count.by _))
    c.emit_limits.ensures
