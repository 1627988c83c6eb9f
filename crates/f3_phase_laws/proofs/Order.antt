-- A break of an earlier phase comes before late ones.
use Rattle.std.proofs.Common.{◌≡◌, refl, ap, ℕ, ◌≤◌, Bool, false, nat_lt, List, Option, Some, None, arith, if◌then◌else◌}
use Rattle.std.specs.Prelude.{◌&&◌, ◌||◌, ◌==◌}
use Rattle.std.specs.List.{All, Contains}
use Rattle.std.proofs.lemmas.List.Elements.{All-contains}
use Rattle.std.proofs.lemmas.Bool.Decides.{nat_tests}
use Rattle.f3_rules.specs.declared.breaks.Break.{Break}
use Rattle.f3_rules.specs.Least.{is_before, earlier_of, first_of, LeastAs}
use Rattle.f3_rules.proofs.Firsts.{first_is_least}
use Rattle.f3_type_rules.specs.Program.{program_breaks}
use Rattle.f3_phase_laws.specs.Laws.{EarlyBreaksStand}
use Rattle.f3_phase_laws.proofs.Program.{late}

abbrev IsLate : Break → Type 0
IsLate b = (5 ≤ b.phase) × (b.phase ≤ 7)

lower : (m n : ℕ) (others : Bool) → m ≤ 4 → 5 ≤ n → (nat_lt n m || ((n == m) && others)) ≡ false
lower m n others le ge = grind (arith, nat_tests)

not_before : (b f : Break) → b.phase ≤ 4 → 5 ≤ f.phase → is_before f b ≡ false
unfolding is_before
not_before b f le ge = lower b.phase f.phase _ le ge

stands : (b : Break) → b.phase ≤ 4 → (bs : List Break) → All IsLate bs → (f : Option Break) → LeastAs f (Contains bs) → earlier_of (Some b) f ≡ Some b
stands b le bs all None l = refl
stands b le bs all (Some f) l =
    let high : IsLate f = All-contains IsLate bs f all l.0 in
    ap (λ (t : Bool). if t then Some f else Some b) (not_before b f le high.0)

pub early_stand : EarlyBreaksStand
early_stand b le t look order =
    stands b le (program_breaks t look order) (late t look order) (first_of (program_breaks t look order)) (first_is_least (program_breaks t look order)).as_said
