-- The breaks of a program, phase by phase.
use Rattle.std.proofs.Common.{◌≡◌, ℕ, ◌<◌, List, [], ◌∷◌, false, refl, ap, arith, Some, inl, inr}
use Rattle.std.proofs.lemmas.Bool.{le-ltb, ne_eqb}
use Rattle.f3_rules.specs.declared.breaks.Break.{Break}
use Rattle.f3_rules.specs.Rule.{row_of}
use Rattle.f3_rules.specs.Least.{Least, before, is_before}
use Rattle.f3_tree.specs.Tree.{Tree}
use Rattle.f3_scopes.specs.Outlines.{Scope}
use Rattle.f3_scope_rules.specs.ScopeBreaks.{DeclaredTwice, AccessOutside, AccessTwice, IntentMisplaced, BreaksOf}
use Rattle.f3_scope_rules.specs.ScopeBreaks.{declared_twice, access_outside, access_twice, protected_misplaced, intent_misplaced, undeclared}
use Rattle.f3_name_rules.specs.NameBreaks.{AccessBreaks, no_such_name, private_there, attribute_on_used, access_to_nothing, not_accessible, of_several}
use Rattle.f3_graph.specs.Breaks.{UnitBreaks, name_twice, module_missing, reaches_itself, no_main_program, main_program_again}
use Rattle.f3_names.specs.Answers.{BreaksOfNames}
use Rattle.f3_name_table.specs.Answers.{EarlyBreaks, of_units, of_names}

later : (x y : ℕ) (xs ys : List ℕ) → y < x → before (x ∷ xs) (y ∷ ys) ≡ false
later x y xs ys h = rw (le-ltb x y (omega arith), ne_eqb x y (omega arith)) refl

-- no break comes before one of an earlier phase
later_phase : (f b : Break) → f.phase < b.phase → is_before b f ≡ false
unfolding is_before
later_phase f b h = later b.phase f.phase (b.place.file ∷ b.place.line ∷ b.place.column ∷ row_of b.rule ∷ []) (f.place.file ∷ f.place.line ∷ f.place.column ∷ row_of f.rule ∷ []) h

of_phase_2 : (t : Tree) (b : Break) → UnitBreaks t b → b.phase ≡ 2
of_phase_2 t b (name_twice h) = ap (λ (c : Break). c.phase) h.7
of_phase_2 t b (module_missing h) = ap (λ (c : Break). c.phase) h.5
of_phase_2 t b (reaches_itself h) = ap (λ (c : Break). c.phase) h.6
of_phase_2 t b (no_main_program h) = ap (λ (c : Break). c.phase) h.1
of_phase_2 t b (main_program_again h) = ap (λ (c : Break). c.phase) h.8

of_twice : (s : Scope) (b : Break) → DeclaredTwice s b → b.phase ≡ 4
of_twice s b (DeclaredTwice.in_declarations n h e) = ap (λ (c : Break). c.phase) e
of_twice s b (DeclaredTwice.in_header n h e) = ap (λ (c : Break). c.phase) e
of_twice s b (DeclaredTwice.own_name d o h same e) = ap (λ (c : Break). c.phase) e
of_twice s b (DeclaredTwice.component parts n h again e) = ap (λ (c : Break). c.phase) e

of_outside : (s : Scope) (b : Break) → AccessOutside s b → b.phase ≡ 4
of_outside s b (AccessOutside.statement l k h e) = ap (λ (c : Break). c.phase) e
of_outside s b (AccessOutside.attribute p k h e) = ap (λ (c : Break). c.phase) e

of_access : (s : Scope) (b : Break) → AccessTwice s b → b.phase ≡ 4
of_access s b (AccessTwice.to_name n h e) = ap (λ (c : Break). c.phase) e
of_access s b (AccessTwice.to_component parts p h i two e) = ap (λ (c : Break). c.phase) e
of_access s b (AccessTwice.of_module l k h e) = ap (λ (c : Break). c.phase) e

of_intent : (s : Scope) (b : Break) → IntentMisplaced s b → b.phase ≡ 4
of_intent s b (IntentMisplaced.missing d h dummy none e) = ap (λ (c : Break). c.phase) e
of_intent s b (IntentMisplaced.elsewhere d h dummy some e) = ap (λ (c : Break). c.phase) e
of_intent s b (IntentMisplaced.of_function d i h dummy k has other e) = ap (λ (c : Break). c.phase) e

of_scope : (s : Scope) (b : Break) → BreaksOf s b → b.phase ≡ 4
of_scope s b (declared_twice h) = of_twice s b h
of_scope s b (access_outside h) = of_outside s b h
of_scope s b (access_twice h) = of_access s b h
of_scope s b (protected_misplaced h) = ap (λ (c : Break). c.phase) h.3
of_scope s b (intent_misplaced h) = of_intent s b h
of_scope s b (undeclared h) = ap (λ (c : Break). c.phase) h.3

past_2 : (b : Break) (n : ℕ) → b.phase ≡ n → 2 < n → 2 < b.phase
past_2 b n e h = omega (arith, e, h)

-- These stand alone: `omega` reads all that is in scope, and what a program breaks is long.
below_3 : 2 < 3
below_3 = omega arith

below_4 : 2 < 4
below_4 = omega arith

from_2 : (m n : ℕ) → m ≡ 2 → 2 < n → m < n
from_2 m n e h = omega (arith, e, h)

of_visible : (scopes : List Scope) (texts : List (List ℕ)) (b : Break) → AccessBreaks scopes texts b → 2 < b.phase
of_visible scopes texts b (no_such_name h) = past_2 b 3 (ap (λ (c : Break). c.phase) h.4) below_3
of_visible scopes texts b (private_there h) = past_2 b 3 (ap (λ (c : Break). c.phase) h.8) below_3
of_visible scopes texts b (attribute_on_used h) = past_2 b 4 (ap (λ (c : Break). c.phase) h.7) below_4
of_visible scopes texts b (access_to_nothing h) = past_2 b 4 (ap (λ (c : Break). c.phase) h.9) below_4
of_visible scopes texts b (not_accessible h) = past_2 b 4 (ap (λ (c : Break). c.phase) h.5) below_4
of_visible scopes texts b (of_several h) = past_2 b 4 (ap (λ (c : Break). c.phase) h.8) below_4

past_phase_2 : (t : Tree) (b : Break) → BreaksOfNames t b → 2 < b.phase
past_phase_2 t b (inl h) = past_2 b 4 (of_scope h.0 b h.2) below_4
past_phase_2 t b (inr h) = of_visible _ _ b h

-- the least break of the first phase that has one is the least of all
pub least_of_units : (t : Tree) (f : Break) → Least (Some f) (UnitBreaks t) → Least (Some f) (EarlyBreaks t)
least_of_units t f l = record { as_said = (of_units l.as_said.0, others) }
  where
    others : (b : Break) → EarlyBreaks t b → is_before b f ≡ false
    others b (of_units h) = l.as_said.1 b h
    others b (of_names h) = later_phase f b (from_2 f.phase b.phase (of_phase_2 t f l.as_said.0) (past_phase_2 t b h))

pub least_of_names : (t : Tree) (f : Break) → ((b : Break) → UnitBreaks t b → ⊥) → Least (Some f) (BreaksOfNames t) → Least (Some f) (EarlyBreaks t)
least_of_names t f none l = record { as_said = (of_names l.as_said.0, others) }
  where
    others : (b : Break) → EarlyBreaks t b → is_before b f ≡ false
    others b (of_units h) = absurd (none b h)
    others b (of_names h) = l.as_said.1 b h
