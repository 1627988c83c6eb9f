use Rattle.std.proofs.Common.{◌≡◌, ◌∙◌, ℤ, List, true, false, map, subst, arith}
use Rattle.std.specs.Prelude.{IfOk, MatchOption, ◌-ℤ◌, nat_abs}
use Rattle.f3_meaning_whole.specs.Act.{is_inside}
use Rattle.f3_data.specs.Values.{span_of}
use Rattle.f3_object_steps.proofs.Stepping.{from_first}
use Rattle.f3_object_steps.proofs.subscripts.offsets.Goals as goal

pub returns-in-Some : goal.returns-in-Some
returns-in-Some c =
    subst (λ (zs : List ℤ). IfOk c.offsets_from.result (λ found. MatchOption found (is_inside (span_of c.args.span) zs ≡ false) (λ v. (is_inside (span_of c.args.span) zs ≡ true) × (v.items ≡ map (λ z. nat_abs (z -ℤ c.args.span.lower)) zs))))
    (from_first (span_of c.args.span) c.walk_of-walk.result c.in-Some.first (omega arith) c.in-Some.ensures.value.0 c.in-Some.ensures.value.1 ∙ c.walk_of-walk.ensures.subscripts)
    c.offsets_from.ensures
