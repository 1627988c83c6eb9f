use Rattle.std.proofs.Common.{◌≡◌, ◌-◌, ◌*◌, refl, rules, arith}
use Rattle.std.specs.Int.RustNames.{unsigned_abs}
use Rattle.f3_data.specs.Values.{span_of}
use Rattle.f3_object_steps.proofs.Stepping.{past_all, past_down, past_many, past_up}
use Rattle.f3_object_steps.proofs.subscripts.offsets_from.Goals as goal

pub returns-then-behind-span : goal.returns-then-behind-span
returns-then-behind-span c =
    past_many (span_of c.args.span) c.args.walk.step c.args.first (c.args.walk.left - 1) c.requires.moves c.requires.inside (omega (arith, c.saturating_sub-behind.ensures))

pub returns-in_default : goal.returns-in_default
returns-in_default c =
    let e : c.saturating_sub-behind.result ≡ c.args.walk.left - 1 = omega (arith, c.saturating_sub-behind.ensures) in
    let p : c.saturating_sub-behind.result * c.distance_of.result ≡ (c.args.walk.left - 1) * unsigned_abs c.args.walk.step = rw (e, c.distance_of.ensures) refl in
    past_all (span_of c.args.span) c.args.walk.step c.args.first (c.args.walk.left - 1) c.requires.inside (omega (arith, p, c.in_default.ensures))

pub returns-then-way-first : goal.returns-then-way-first
returns-then-way-first c =
    let e : c.saturating_sub-behind.result ≡ c.args.walk.left - 1 = omega (arith, c.saturating_sub-behind.ensures) in
    let p : c.saturating_sub-behind.result * c.distance_of.result ≡ (c.args.walk.left - 1) * unsigned_abs c.args.walk.step = rw (e, c.distance_of.ensures) refl in
    past_down (span_of c.args.span) c.args.walk.step c.args.first (c.args.walk.left - 1) (search rules) c.requires.inside (omega (arith, p, c.in-Some.ensures))

pub returns-then-way-span : goal.returns-then-way-span
returns-then-way-span c =
    let e : c.saturating_sub-behind.result ≡ c.args.walk.left - 1 = omega (arith, c.saturating_sub-behind.ensures) in
    let p : c.saturating_sub-behind.result * c.distance_of.result ≡ (c.args.walk.left - 1) * unsigned_abs c.args.walk.step = rw (e, c.distance_of.ensures) refl in
    past_up (span_of c.args.span) c.args.walk.step c.args.first (c.args.walk.left - 1) (search rules) c.requires.inside (omega (arith, p, c.in-Some.ensures))
