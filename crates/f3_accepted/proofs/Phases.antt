-- The breaks of a program, phase by phase.
use Rattle.std.proofs.Common.{◌≡◌, ℕ, ◌<◌, ◌≤◌, List, [], ◌∷◌, ◌⊎◌, false, refl, ap, arith, inl, inr, Some}
use Rattle.std.proofs.lemmas.Bool.{cases_order, le-ltb, ne_eqb}
use Rattle.std.proofs.lemmas.List.Elements.{All-contains}
use Rattle.f3_rules.specs.declared.breaks.Break.{Break}
use Rattle.f3_rules.specs.Rule.{row_of}
use Rattle.f3_rules.specs.Least.{Least, before, is_before}
use Rattle.f3_tree.specs.Tree.{Tree}
use Rattle.f3_scopes.specs.Outlines.{Scope}
use Rattle.f3_graph.specs.Breaks.{UnitBreaks, name_twice, module_missing, reaches_itself, no_main_program, main_program_again}
use Rattle.f3_scope_rules.specs.ScopeBreaks as scope_rules
use Rattle.f3_name_rules.specs.NameBreaks.{AccessBreaks}
use Rattle.f3_name_rules.specs.NameBreaks as name_rules
use Rattle.f3_names.specs.Answers.{BreaksOfNames}
use Rattle.f3_type_rules.specs.Program.{program_breaks}
use Rattle.f3_types.specs.Breaks.{TypeBreaks, BreaksOfTypes, BreaksOfDefinitions}
use Rattle.f3_phase_laws.proofs.Program.{late}
use Rattle.f3_accepted.specs.Accepted.{Breaks, of_units, of_names, of_types}

later : (x y : ℕ) (xs ys : List ℕ) → y < x → before (x ∷ xs) (y ∷ ys) ≡ false
later x y xs ys h = rw (le-ltb x y (omega arith), ne_eqb x y (omega arith)) refl

-- no break comes before one of an earlier phase
later_phase : (f b : Break) → f.phase < b.phase → is_before b f ≡ false
unfolding is_before
later_phase f b h = later b.phase f.phase (b.place.file ∷ b.place.line ∷ b.place.column ∷ row_of b.rule ∷ []) (f.place.file ∷ f.place.line ∷ f.place.column ∷ row_of f.rule ∷ []) h

abbrev phase_is : {b c : Break} → b ≡ c → b.phase ≡ c.phase
phase_is e = ap (λ (c : Break). c.phase) e

of_phase_2 : (t : Tree) (b : Break) → UnitBreaks t b → b.phase ≡ 2
of_phase_2 t b (name_twice h) = phase_is h.7
of_phase_2 t b (module_missing h) = phase_is h.5
of_phase_2 t b (reaches_itself h) = phase_is h.6
of_phase_2 t b (no_main_program h) = phase_is h.1
of_phase_2 t b (main_program_again h) = phase_is h.8

-- ---- what one scope breaks is of phase 4

module _ (scope : Scope) (b : Break) where
  twice_of_4 : scope_rules.DeclaredTwice scope b → b.phase ≡ 4
  twice_of_4 (scope_rules.in_declarations later again e) = phase_is e
  twice_of_4 (scope_rules.in_header later again e) = phase_is e
  twice_of_4 (scope_rules.own_name d other has same e) = phase_is e
  twice_of_4 (scope_rules.component parts later has again e) = phase_is e

  outside_of_4 : scope_rules.AccessOutside scope b → b.phase ≡ 4
  outside_of_4 (scope_rules.statement s kind has e) = phase_is e
  outside_of_4 (scope_rules.attribute place kind has e) = phase_is e

  access_of_4 : scope_rules.AccessTwice scope b → b.phase ≡ 4
  access_of_4 (scope_rules.to_name later again e) = phase_is e
  access_of_4 (scope_rules.to_component parts c has part two e) = phase_is e
  access_of_4 (scope_rules.of_module later kind again e) = phase_is e

  intent_of_4 : scope_rules.IntentMisplaced scope b → b.phase ≡ 4
  intent_of_4 (scope_rules.missing d has dummy none e) = phase_is e
  intent_of_4 (scope_rules.elsewhere d has dummy some e) = phase_is e
  intent_of_4 (scope_rules.of_function d i has dummy kind given other e) = phase_is e

  scope_of_4 : scope_rules.BreaksOf scope b → b.phase ≡ 4
  scope_of_4 (scope_rules.declared_twice h) = twice_of_4 h
  scope_of_4 (scope_rules.access_outside h) = outside_of_4 h
  scope_of_4 (scope_rules.access_twice h) = access_of_4 h
  scope_of_4 (scope_rules.protected_misplaced h) = phase_is h.3
  scope_of_4 (scope_rules.intent_misplaced h) = intent_of_4 h
  scope_of_4 (scope_rules.undeclared h) = phase_is h.3

-- ---- what is visible breaks in phases 3 and 4

-- the phase is 3 or 4
abbrev IsOfNames : Break → Type 0
IsOfNames b = (2 < b.phase) × (b.phase < 5)

in_3 : (b : Break) → b.phase ≡ 3 → IsOfNames b
in_3 b e = (omega (arith, e), omega (arith, e))

in_4 : (b : Break) → b.phase ≡ 4 → IsOfNames b
in_4 b e = (omega (arith, e), omega (arith, e))

of_access : (scopes : List Scope) (texts : List (List ℕ)) (b : Break) → AccessBreaks scopes texts b → IsOfNames b
of_access scopes texts b (name_rules.no_such_name h) = in_3 b (phase_is h.4)
of_access scopes texts b (name_rules.private_there h) = in_3 b (phase_is h.8)
of_access scopes texts b (name_rules.attribute_on_used h) = in_4 b (phase_is h.7)
of_access scopes texts b (name_rules.access_to_nothing h) = in_4 b (phase_is h.9)
of_access scopes texts b (name_rules.not_accessible h) = in_4 b (phase_is h.5)
of_access scopes texts b (name_rules.of_several h) = in_4 b (phase_is h.8)

of_phase_3 : (t : Tree) (b : Break) → BreaksOfNames t b → IsOfNames b
of_phase_3 t b (inl h) = in_4 b (scope_of_4 h.0 b h.2)
of_phase_3 t b (inr h) = of_access _ _ b h

late_in : (t : Tree) (b : Break) → TypeBreaks t b → (5 ≤ b.phase) × (b.phase ≤ 7)
late_in t b h = All-contains (λ (b : Break). (5 ≤ b.phase) × (b.phase ≤ 7)) (program_breaks t h.0 h.1) b (late t h.0 h.1) h.4

past_phase_4 : (t : Tree) (b : Break) → TypeBreaks t b → 4 < b.phase
past_phase_4 t b h = let e = (late_in t b h).0 in omega (arith, e)

-- ---- phases 5 and 6 apart from phase 7

module _ (t : Tree) where
  below_or_at_7 : (b : Break) → TypeBreaks t b → BreaksOfTypes t b ⊎ BreaksOfDefinitions t b
  below_or_at_7 b h =
      let e = (late_in t b h).1 in
      elim (cases_order b.phase 7) [
        | inl same ↦ inr (h, same)
        | inr (inl less) ↦ inl (h, less)
        | inr (inr more) ↦ absurd (omega (arith, e, more))
      ]

  pub nothing_of_5_to_7 : ((b : Break) → BreaksOfTypes t b → ⊥) → ((b : Break) → BreaksOfDefinitions t b → ⊥) → (b : Break) → TypeBreaks t b → ⊥
  nothing_of_5_to_7 types definitions b h = elim (below_or_at_7 b h) [ inl x ↦ types b x | inr x ↦ definitions b x ]

  pub least_of_5_and_6 : (f : Break) → Least (Some f) (BreaksOfTypes t) → Least (Some f) (TypeBreaks t)
  least_of_5_and_6 f l = record { as_said = (l.as_said.0.0, others) }
    where
      others : (b : Break) → TypeBreaks t b → is_before b f ≡ false
      others b h = elim (below_or_at_7 b h) [
        | inl x ↦ l.as_said.1 b x
        | inr x ↦ (let p = l.as_said.0.1 in let q = x.1 in later_phase f b (omega (arith, p, q)))
      ]

  pub least_of_7 : (f : Break) → ((b : Break) → BreaksOfTypes t b → ⊥) → Least (Some f) (BreaksOfDefinitions t) → Least (Some f) (TypeBreaks t)
  least_of_7 f types l = record { as_said = (l.as_said.0.0, others) }
    where
      others : (b : Break) → TypeBreaks t b → is_before b f ≡ false
      others b h = elim (below_or_at_7 b h) [ inl x ↦ absurd (types b x) | inr x ↦ l.as_said.1 b x ]

-- ---- the least break of the first phase that has one is the least of all

module _ (t : Tree) (f : Break) where
  pub least_of_units : Least (Some f) (UnitBreaks t) → Least (Some f) (Breaks t)
  least_of_units l = record { as_said = (of_units l.as_said.0, others) }
    where
      others : (b : Break) → Breaks t b → is_before b f ≡ false
      others b (of_units h) = l.as_said.1 b h
      others b (of_names h) = let x = of_phase_2 t f l.as_said.0 in let y = (of_phase_3 t b h).0 in later_phase f b (omega (arith, x, y))
      others b (of_types h) = let x = of_phase_2 t f l.as_said.0 in let y = past_phase_4 t b h in later_phase f b (omega (arith, x, y))

  module _ (units : (b : Break) → UnitBreaks t b → ⊥) where
    pub least_of_names : Least (Some f) (BreaksOfNames t) → Least (Some f) (Breaks t)
    least_of_names l = record { as_said = (of_names l.as_said.0, others) }
      where
        others : (b : Break) → Breaks t b → is_before b f ≡ false
        others b (of_units h) = absurd (units b h)
        others b (of_names h) = l.as_said.1 b h
        others b (of_types h) = let x = (of_phase_3 t f l.as_said.0).1 in let y = past_phase_4 t b h in later_phase f b (omega (arith, x, y))

    pub least_of_types : ((b : Break) → BreaksOfNames t b → ⊥) → Least (Some f) (TypeBreaks t) → Least (Some f) (Breaks t)
    least_of_types names l = record { as_said = (of_types l.as_said.0, others) }
      where
        others : (b : Break) → Breaks t b → is_before b f ≡ false
        others b (of_units h) = absurd (units b h)
        others b (of_names h) = absurd (names b h)
        others b (of_types h) = l.as_said.1 b h
