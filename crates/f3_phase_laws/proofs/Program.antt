-- The breaks of a whole program.
use Rattle.std.proofs.Common.{◌≡◌, ℕ, ◌+◌, ◌≤◌, Bool, true, false, nat_eq, List, Option, None, Some, refl, sym, ap, ◌∙◌, arith}
use Rattle.std.specs.Prelude.{nat_le, ◌&&◌}
use Rattle.std.specs.List.{All, flat_map}
use Rattle.std.proofs.lemmas.List.Elements.{All-append, All-weaker}
use Rattle.std.proofs.lemmas.List.Sums.{AllPass-from_list_all}
use Rattle.std.proofs.lemmas.Bool.{eqb-true, true≢false}
use Rattle.std.proofs.lemmas.Bool.Decides.{nat_tests}
use Rattle.f3_rules.specs.declared.breaks.Break.{Break}
use Rattle.f3_rules.specs.declared.rule.Rule.{Rule}
use Rattle.f3_rules.specs.declared.rule.Rule.TheVariants.{T2, T12}
use Rattle.f3_scopes.specs.Scopes.{scopes_of}
use Rattle.f3_kinds.specs.declared.types.Scalar.{Scalar}
use Rattle.f3_kinds.specs.Things.{map_or}
use Rattle.f3_type_rules.specs.Members.{Member, Numbered, units_from}
use Rattle.f3_type_rules.specs.Scene.{Scene, site_in, names_of, scene_of}
use Rattle.f3_type_rules.specs.Walks.{after, along, Known}
use Rattle.f3_type_rules.specs.Declarations.{spot_of, unit_rows, unit_next}
use Rattle.f3_type_rules.specs.Program.{member_breaks, unit_breaks, nothing_known, units_in}
use Rattle.f3_phase_laws.specs.Laws.{late_phase, HasPhase, BreaksHaveLatePhases, RulesTellPhases}
use Rattle.f3_phase_laws.proofs.Lists.{is_timely, Timely, each, lists, walk}
use Rattle.f3_phase_laws.proofs.Declarations.{unit_timely}
use Rattle.f3_phase_laws.proofs.Statements.{block_timely}

-- ---- specification parts, and blocks

parts_timely : (s : Scene) (k : Known) (us : List Numbered) → Timely 5 (along (unit_rows s) (unit_next s) k us)
parts_timely s k us = walk (unit_rows s) (unit_next s) k us (unit_timely s)

member_timely : (s : Scene) (values : List (ℕ × Scalar)) (unit : ℕ) (m : Member) → Timely 6 (member_breaks s values unit m)
member_timely s values unit m = block_timely (site_in s unit m.scope (spot_of s unit m).is_pure values) refl (m.scope + 1) (m.tree).body

body_timely : (s : Scene) (values : List (ℕ × Scalar)) (u : Numbered) → Timely 6 (unit_breaks s values u)
body_timely s values u = search (lists, block_timely (site_in s u.scope u.scope false values) refl, member_timely)

blocks_timely : (s : Scene) (values : List (ℕ × Scalar)) (us : List Numbered) → Timely 6 (flat_map (unit_breaks s values) us)
blocks_timely s values us = each (unit_breaks s values) us (body_timely s values)

-- ---- the laws

told : (here phase : ℕ) (o : Option ℕ) → map_or false (nat_eq phase) o ≡ true → o ≡ Some phase
told here phase None h = absurd (true≢false (sym h))
told here phase (Some n) h = ap (λ k. Some k) (sym (eqb-true phase n h))

have_phases : (here : ℕ) (bs : List Break) → Timely here bs → All (HasPhase here) bs
have_phases here bs timely =
    All-weaker (λ b. is_timely here b ≡ true) (HasPhase here) (λ b h. told here b.phase (late_phase here b.rule) h) bs (AllPass-from_list_all (is_timely here) bs timely.passes)

pub rules_tell : RulesTellPhases
rules_tell = (λ s k us. have_phases 5 _ (parts_timely s k us), λ s values us. have_phases 6 _ (blocks_timely s values us))

abbrev IsLate : Break → Type 0
IsLate b = (5 ≤ b.phase) × (b.phase ≤ 7)

is_late : ℕ → Bool
is_late phase = nat_le 5 phase && nat_le phase 7

rule_late : (here : ℕ) → is_late here ≡ true → (r : Rule) → map_or true is_late (late_phase here r) ≡ true
unfolding is_late
rule_late here h T2 = h
rule_late here h T12 = h
rule_late here h r = refl

bounds : (phase : ℕ) → is_late phase ≡ true → (5 ≤ phase) × (phase ≤ 7)
unfolding is_late
bounds phase h = (grind (arith, nat_tests), grind (arith, nat_tests))

break_late : (here : ℕ) → is_late here ≡ true → (b : Break) → HasPhase here b → IsLate b
break_late here h b told = bounds b.phase (ap (map_or true is_late) (sym told) ∙ rule_late here h b.rule)

all_late : (here : ℕ) → is_late here ≡ true → (bs : List Break) → All (HasPhase here) bs → All IsLate bs
all_late here h bs all = All-weaker (HasPhase here) IsLate (break_late here h) bs all

pub late : BreaksHaveLatePhases
unfolding is_late
late t look order =
    let units : List Numbered = units_from (scopes_of t) 0 t.units in
    let ordered : List Numbered = units_in units order in
    let scene : Scene = scene_of (names_of t look) (scopes_of t) units in
    let known : Known = after (unit_next scene) nothing_known ordered in
    let parts : List Break = along (unit_rows scene) (unit_next scene) nothing_known ordered in
    let blocks : List Break = flat_map (unit_breaks scene known.values) units in
    All-append IsLate parts blocks
    (all_late 5 refl parts (rules_tell.0 scene nothing_known ordered))
    (all_late 6 refl blocks (rules_tell.1 scene known.values units))
