-- The first break of phases 5 to 7 is the first of phases 5 and 6; or these have none, and it is the first of phase 7.
use Rattle.std.proofs.Common.{◌≡◌, ℕ, ◌<◌, ◌≤◌, Bool, true, false, List, [], ◌∷◌, Option, None, Some, refl, sym, ◌∙◌, arith, if◌then◌else◌}
use Rattle.std.specs.Prelude.{nat_lt}
use Rattle.std.proofs.lemmas.Bool.{lt-ltb, ltb-true, ltb-false, true≢false}
use Rattle.std.proofs.lemmas.List.Elements.{All-contains}
use Rattle.std.proofs.lemmas.Option.{none-some, same_Some}
use Rattle.f3_rules.specs.declared.breaks.Break.{Break}
use Rattle.f3_rules.specs.Rule.{row_of}
use Rattle.f3_rules.specs.Least.{Least, before, is_before}
use Rattle.f3_tree.specs.Tree.{Tree}
use Rattle.f3_type_rules.specs.Program.{program_breaks}
use Rattle.f3_phase_laws.proofs.Program.{late}
use Rattle.f3_types.specs.Breaks.{TypeBreaks, BreaksOfTypes, BreaksOfDefinitions}
use Rattle.f3_types.specs.Inner.Phases.{of_types}

earlier : (x y : ℕ) (xs ys : List ℕ) → x < y → before (x ∷ xs) (y ∷ ys) ≡ true
earlier x y xs ys h = rw (lt-ltb x y h) refl

earlier_phase : (f b : Break) → b.phase < f.phase → is_before b f ≡ true
unfolding is_before
earlier_phase f b h = earlier b.phase f.phase (b.place.file ∷ b.place.line ∷ b.place.column ∷ row_of b.rule ∷ []) (f.place.file ∷ f.place.line ∷ f.place.column ∷ row_of f.rule ∷ []) h

module _ (t : Tree) where
  at_most_7 : (b : Break) → TypeBreaks t b → b.phase ≤ 7
  at_most_7 b h = (All-contains (λ (b : Break). (5 ≤ b.phase) × (b.phase ≤ 7)) (program_breaks t h.0 h.1) b (late t h.0 h.1) h.4).1

  below : (f b : Break) → of_types (Some f) ≡ Some b → (f ≡ b) × (f.phase < 7)
  below f b e = by (nat_lt f.phase 7) refl e
    where
      by : (x : Bool) → nat_lt f.phase 7 ≡ x → (if x then Some f else None) ≡ Some b → (f ≡ b) × (f.phase < 7)
      by true test same = (same_Some f b same, ltb-true f.phase 7 test)
      by false test same = absurd (none-some b same)

  not_below : (f : Break) → of_types (Some f) ≡ None → 7 ≤ f.phase
  not_below f e = by (nat_lt f.phase 7) refl e
    where
      by : (x : Bool) → nat_lt f.phase 7 ≡ x → (if x then Some f else None) ≡ None → 7 ≤ f.phase
      by true test same = absurd (none-some f (sym same))
      by false test same = ltb-false f.phase 7 test

  pub first_of_types : (first : Option Break) (b : Break) → of_types first ≡ Some b → Least first (TypeBreaks t) → Least (Some b) (BreaksOfTypes t)
  first_of_types None b e l = absurd (none-some b e)
  first_of_types (Some f) b e l =
      let p = below f b e in
      rw (sym p.0) (record { as_said = ((l.as_said.0, p.1), λ c h. l.as_said.1 c h.0) })

  pub none_of_types : (first : Option Break) → of_types first ≡ None → Least first (TypeBreaks t) → (b : Break) → BreaksOfTypes t b → ⊥
  none_of_types None e l b h = l.as_said b h.0
  none_of_types (Some f) e l b h =
      let p = not_below f e in
      let q = h.1 in
      true≢false (sym (earlier_phase f b (omega (arith, p, q))) ∙ l.as_said.1 b h.0)

  pub first_of_definitions : (first : Option Break) → of_types first ≡ None → Least first (TypeBreaks t) → Least first (BreaksOfDefinitions t)
  first_of_definitions None e l = record { as_said = λ b h. l.as_said b h.0 }
  first_of_definitions (Some f) e l =
      let p = not_below f e in
      let q = at_most_7 f l.as_said.0 in
      record { as_said = ((l.as_said.0, omega (arith, p, q)), λ c h. l.as_said.1 c h.0) }
