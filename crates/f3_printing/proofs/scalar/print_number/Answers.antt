use Rattle.std.proofs.Common.{rules, OnErr}
use Rattle.std.specs.Prelude.{Result, Ok, Err}
use Rattle.std.specs.Fmt.{signed_decimal}
use Rattle.f3_output.proofs.Outputs.{faulted_before, faulted_behind}
use Rattle.f3_printing.proofs.scalar.print_number.Goals as goal

or_err : {A E : Type 0} (r : Result A E) {P Q : Type 0} → (P → Q) → OnErr r P → OnErr r Q
or_err (Ok z) f p = p
or_err (Err e) f p = f p

-- src/scalar.rt:36:5
pub returns-in_err-write-clause-front : goal.returns-in_err-write-clause-front
returns-in_err-write-clause-front g c = search (rules, faulted_before (signed_decimal c.args.number) c.in_err-write.ensures.front)

-- src/scalar.rt:30:1
pub returns-clause-front : goal.returns-clause-front
returns-clause-front g c = or_err c.write-2.result (λ f. search (rules, faulted_behind c.in_ok-write.ensures.all f)) c.write-2.ensures.front
