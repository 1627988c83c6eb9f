-- Lists of breaks that all are of the phase that their rules have here, in a specification part or in a block.
use Rattle.std.proofs.Common.{◌≡◌, ℕ, Bool, true, false, List, [], ◌∷◌, ◌++◌, Option, Some, None, refl, ap, ◌∙◌}
use Rattle.std.specs.Prelude.{◌&&◌, nat_eq, if◌then◌else◌}
use Rattle.std.specs.List.{list_all, flat_map}
use Rattle.std.proofs.lemmas.List.Folds.{list_all-append}
use Rattle.f3_rules.specs.declared.breaks.Break.{Break}
use Rattle.f3_kinds.specs.Things.{map_or}
use Rattle.f3_kinds.specs.Rows.{unless}
use Rattle.f3_type_rules.specs.Walks.{along}
use Rattle.f3_phase_laws.specs.Laws.{late_phase}

abbrev pub is_timely : (here : ℕ) → Break → Bool
is_timely here b = map_or false (nat_eq b.phase) (late_phase here b.rule)

-- a phase is that of rules with two here
abbrev pub IsHere : (here : ℕ) → ℕ → Type 0
IsHere here phase = nat_eq phase here ≡ true

pub record Timely (here : ℕ) (bs : List Break) : Type 0 where
  pub passes : list_all (is_timely here) bs ≡ true

pub none : {here : ℕ} → Timely here []
none = record { passes = refl }

pub one : {here : ℕ} (b : Break) → is_timely here b ≡ true → Timely here (b ∷ [])
one b h = record { passes = ap (λ x. x && true) h }

pub both : {here : ℕ} {xs ys : List Break} → Timely here xs → Timely here ys → Timely here (xs ++ ys)
both {here} {xs} {ys} a b = record { passes = list_all-append (is_timely here) xs ys ∙ ap (λ x. x && list_all (is_timely here) ys) a.passes ∙ b.passes }

pub one_unless : {here : ℕ} (holds : Bool) (b : Break) → is_timely here b ≡ true → Timely here (unless holds b)
one_unless true b h = none
one_unless false b h = one b h

pub when : {here : ℕ} (test : Bool) (xs ys : List Break) → Timely here xs → Timely here ys → Timely here (if test then xs else ys)
when true xs ys a b = a
when false xs ys a b = b

pub each : {here : ℕ} {X : Type 0} (f : X → List Break) (xs : List X) → ((x : X) → Timely here (f x)) → Timely here (flat_map f xs)
each f [] h = none
each f (x ∷ xs) h = both (h x) (each f xs h)

pub perhaps : {here : ℕ} {X : Type 0} (f : X → List Break) (o : Option X) → ((x : X) → Timely here (f x)) → Timely here (map_or [] f o)
perhaps f None h = none
perhaps f (Some x) h = h x

pub ruleset lists = (none, one, both, one_unless, when, each, perhaps)

pub walk : {here : ℕ} {S X : Type 0} (rows : S → X → List Break) (next : S → X → S) (s : S) (xs : List X) → ((s : S) (x : X) → Timely here (rows s x)) → Timely here (along rows next s xs)
walk rows next s [] h = none
walk rows next s (x ∷ xs) h = both (h s x) (walk rows next (next s x) xs h)
