-- The table of the first arguments of numbers.
use Rattle.std.proofs.Common.{◌≡◌, ℕ, ◌+◌, ◌<◌, true, false, List, [], ◌∷◌, length, drop, refl, sym, ap, ◌∙◌, subst, zero, suc, arith}
use Rattle.std.specs.Prelude.{nat_eq, if◌then◌else◌, Option, None, Some, slice_get}
use Rattle.std.specs.List.{slice_index_or}
use Rattle.std.proofs.lemmas.List.{get_or_read_under}
use Rattle.f3_program.specs.declared.declarations.Base.{Base}
use Rattle.f3_meaning_whole.specs.Act.{Passed, Given, Lent}
use Rattle.f3_meaning_whole.specs.Exec.{argument_at}
use Rattle.f3_call_steps.specs.declared.arguments.Stand.{Stand}
use Rattle.f3_call_steps.specs.Inner.Standing.{stand_of, first_of, AreFirsts, StandsIn, given, argument_of}

-- what the table has, or else what is found in the arguments that are left, is the first of all
abbrev pub Fills : List (Option Stand) → List Passed → List Passed → ℕ → ℕ → Type 0
Fills table ps rest position slot = (k : ℕ) → k < length table → first_of (slice_index_or table k None) (stand_of k rest position slot) ≡ stand_of k ps 0 0

-- an argument that is found is one of them
pub stands_inside : (k : ℕ) (ps : List Passed) (position slot n : ℕ) → position + length ps ≡ n → StandsIn (stand_of k ps position slot) n
stands_inside k [] position slot n is = tt
stands_inside k (Given i v ∷ ps) position slot n is =
    let here : position < n = omega arith in
    let behind : suc position + length ps ≡ n = omega arith in
    elim (nat_eq i k) as (λ same. StandsIn (if same then Some (record { position = position; slot = slot }) else stand_of k ps (suc position) (suc slot)) n) [
      | true ↦ here
      | false ↦ stands_inside k ps (suc position) (suc slot) n behind
    ]
stands_inside k (Lent i r ∷ ps) position slot n is =
    let here : position < n = omega arith in
    let behind : suc position + length ps ≡ n = omega arith in
    elim (nat_eq i k) as (λ same. StandsIn (if same then Some (record { position = position; slot = slot }) else stand_of k ps (suc position) slot) n) [
      | true ↦ here
      | false ↦ stands_inside k ps (suc position) slot n behind
    ]

-- the first one of a list's end
at_end : (xs : List Passed) (i : ℕ) (x : Passed) (rest : List Passed) → drop i xs ≡ x ∷ rest → (slice_get xs i ≡ Some x) × (drop (suc i) xs ≡ rest)
at_end [] zero x rest is = cc
at_end [] (suc i) x rest is = cc
at_end (y ∷ xs) zero x rest is = (cc, cc)
at_end (y ∷ xs) (suc i) x rest is = at_end xs i x rest is

-- what stands there is the argument of a number
pub argument_is : (k : ℕ) (of : Base) (all ps : List Passed) (level position slot unit : ℕ) → drop position all ≡ ps
    → argument_of (stand_of k ps position slot) of all level unit ≡ argument_at k of ps level slot unit
argument_is k of all [] level position slot unit is = refl
argument_is k of all (Given i v ∷ ps) level position slot unit is =
    let there = at_end all position (Given i v) ps is in
    elim (nat_eq i k) as (λ same. argument_of (if same then Some (record { position = position; slot = slot }) else stand_of k ps (suc position) (suc slot)) of all level unit
    ≡ (if same then given (Some (Given i v)) of level slot unit else argument_at k of ps level (suc slot) unit)) [
      | true ↦ ap (λ p. given p of level slot unit) there.0
      | false ↦ argument_is k of all ps level (suc position) (suc slot) unit there.1
    ]
argument_is k of all (Lent i r ∷ ps) level position slot unit is =
    let there = at_end all position (Lent i r) ps is in
    elim (nat_eq i k) as (λ same. argument_of (if same then Some (record { position = position; slot = slot }) else stand_of k ps (suc position) slot) of all level unit
    ≡ (if same then r else argument_at k of ps level slot unit)) [
      | true ↦ ap (λ p. given p of level slot unit) there.0
      | false ↦ argument_is k of all ps level (suc position) slot unit there.1
    ]

module _ (table : List (Option Stand)) (ps : List Passed) (k : ℕ) (stand : Option Stand) (firsts : AreFirsts table ps) (lt : k < length table)
    (entry : stand ≡ slice_index_or table k stand) where
  entry_is : stand ≡ stand_of k ps 0 0
  entry_is = get_or_read_under table k (length table) stand None entry lt refl ∙ firsts k lt

  -- what the table says of a number is one of the arguments
  pub entry_inside : (n : ℕ) → length ps ≡ n → StandsIn stand n
  entry_inside n is = subst (λ s. StandsIn s n) (sym entry_is) (stands_inside k ps 0 0 n (omega arith))

  -- and is its argument
  pub entry_argument : (of : Base) (level unit : ℕ) → argument_of stand of ps level unit ≡ argument_at k of ps level 0 unit
  entry_argument of level unit = ap (λ s. argument_of s of ps level unit) entry_is ∙ argument_is k of ps ps level 0 0 unit refl
