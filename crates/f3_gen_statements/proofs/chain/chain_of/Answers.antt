use Rattle.std.proofs.Common.{◌≡◌, ◌<◌, refl, arith}
use Rattle.f3_program.specs.declared.statement.Statement.{size-Statement}
use Rattle.f3_meaning_whole.specs.Act.{Setting}
use Rattle.f3_code.specs.Core as o
use Rattle.f3_code.specs.Lower.{lowered}
use Rattle.f3_gen_statements.proofs.Chains.{case_more, if_more, met_smaller, next_smaller, other_smaller, parts_more, taken_smaller}
use Rattle.f3_gen_statements.proofs.chain.chain_of.Goals as goal

pub loop-last-preserved-in-If-1 : goal.loop-last-preserved-in-If-1
loop-last-preserved-in-If-1 c =
    let z = c.loop-last.last.now in
    let x = c.deref.result in
    let y = c.deref-last-in-If.result.now in
    let is : (g : Setting) → lowered g z ≡ o.If c.in-If.e (lowered g x.now) (lowered g y) = λ g. rw (c.in-If.is, c.deref.ensures, c.deref-last-in-If.ensures) refl in
    let taken : size-Statement x.now < size-Statement z = rw (c.in-If.is, c.deref.ensures) (taken_smaller c.in-If.e c.in-If.then c.in-If.other) in
    let behind : size-Statement y < size-Statement z = rw (c.in-If.is, c.deref-last-in-If.ensures) (other_smaller c.in-If.e c.in-If.then c.in-If.other) in
    record {
      code = if_more c.loop-last.links.items c.push.new.self.items _ c.args.place c.args.statement.now z y c.in-If.e c.in_ok-push-in-If.ensures.items
          (λ k. refl) is c.loop-last.invariant.code;
      parts = parts_more (size-Statement c.args.statement.now) c.loop-last.links.items c.push.new.self.items _ c.in_ok-push-in-If.ensures.items
          c.loop-last.invariant.parts (omega arith);
      within = omega arith;
    }

pub loop-last-preserved : goal.loop-last-preserved
loop-last-preserved c =
    let z = c.loop-last.last.now in
    let x = c.deref-in-Case-2.result in
    let y = c.deref-last-in-Case.result.now in
    let is : (g : Setting) → lowered g z ≡ o.Case c.deref-in-Case.result.now (lowered g x.now) (lowered g y)
    = λ g. rw (c.in-Case.is, c.deref-in-Case.ensures.value, c.deref-in-Case-2.ensures, c.deref-last-in-Case.ensures) refl in
    let taken : size-Statement x.now < size-Statement z = rw (c.in-Case.is, c.deref-in-Case-2.ensures) (met_smaller c.in-Case.ranges c.in-Case.then c.in-Case.other) in
    let behind : size-Statement y < size-Statement z = rw (c.in-Case.is, c.deref-last-in-Case.ensures) (next_smaller c.in-Case.ranges c.in-Case.then c.in-Case.other) in
    record {
      code = case_more c.loop-last.links.items c.push-in-Case.new.self.items _ c.args.place c.args.statement.now z y c.deref-in-Case.result.now
          c.in_ok-push-in-Case.ensures.items (λ k. refl) is c.loop-last.invariant.code;
      parts = parts_more (size-Statement c.args.statement.now) c.loop-last.links.items c.push-in-Case.new.self.items _ c.in_ok-push-in-Case.ensures.items
          c.loop-last.invariant.parts (omega arith);
      within = omega arith;
    }
