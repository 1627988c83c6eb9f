-- The first break of the first phase is one: its place and its rule.
use Rattle.std.proofs.Common.{◌≡◌, ℕ, zero, suc, ◌<◌, List, [], ◌∷◌, true, false, refl, sym, ap, ◌∙◌, arith, inl, inr}
use Rattle.std.proofs.lemmas.Bool.{cases_lt, true≢false}
use Rattle.std.proofs.lemmas.Bool.Decides.{nat_tests}
use Rattle.f3_places.specs.declared.source.Place.{Place}
use Rattle.f3_rules.specs.declared.breaks.Break.{Break}
use Rattle.f3_rules.specs.declared.rule.Rule.{Rule}
use Rattle.f3_rules.specs.declared.rule.Rule.TheVariants.{S1, S2, S3, S4, S5, S6, S7, S8, U1, U2, U3, U4, N1, N2, N3, N4, N5, N6, N7, N8, N9, N10, N11, N12, N13, T1, T2, T3, T4, T5, T6, T7, T8, T9, T10, T11, T12, D1, D2, D3, D4, D5, D6}
use Rattle.f3_rules.specs.Rule.{row_of}
use Rattle.f3_rules.specs.Least.{before, rank, is_before}
use Rattle.f3_grammar_laws.proofs.Parts.{ap3}
use Rattle.f3_source_laws.specs.Laws.{FirstBreaksAreOne}

-- the rules in the order of the table
abbrev table : List Rule
table = S1 ∷ S2 ∷ S3 ∷ S4 ∷ S5 ∷ S6 ∷ S7 ∷ S8 ∷ U1 ∷ U2 ∷ U3
    ∷ U4 ∷ N1 ∷ N2 ∷ N3 ∷ N4 ∷ N5 ∷ N6 ∷ N7 ∷ N8 ∷ N9 ∷ N10
    ∷ N11 ∷ N12 ∷ N13 ∷ T1 ∷ T2 ∷ T3 ∷ T4 ∷ T5 ∷ T6 ∷ T7 ∷ T8
    ∷ T9 ∷ T10 ∷ T11 ∷ T12 ∷ D1 ∷ D2 ∷ D3 ∷ D4 ∷ D5 ∷ D6
    ∷ []

abbrev rule_at : List Rule → ℕ → Rule
rule_at [] n = S1
rule_at (r ∷ rs) zero = r
rule_at (r ∷ rs) (suc n) = rule_at rs n

at_row : (r : Rule) → rule_at table (row_of r) ≡ r
unfolding row_of
at_row S1 = refl
at_row S2 = refl
at_row S3 = refl
at_row S4 = refl
at_row S5 = refl
at_row S6 = refl
at_row S7 = refl
at_row S8 = refl
at_row U1 = refl
at_row U2 = refl
at_row U3 = refl
at_row U4 = refl
at_row N1 = refl
at_row N2 = refl
at_row N3 = refl
at_row N4 = refl
at_row N5 = refl
at_row N6 = refl
at_row N7 = refl
at_row N8 = refl
at_row N9 = refl
at_row N10 = refl
at_row N11 = refl
at_row N12 = refl
at_row N13 = refl
at_row T1 = refl
at_row T2 = refl
at_row T3 = refl
at_row T4 = refl
at_row T5 = refl
at_row T6 = refl
at_row T7 = refl
at_row T8 = refl
at_row T9 = refl
at_row T10 = refl
at_row T11 = refl
at_row T12 = refl
at_row D1 = refl
at_row D2 = refl
at_row D3 = refl
at_row D4 = refl
at_row D5 = refl
at_row D6 = refl

same_rule : (r q : Rule) → row_of r ≡ row_of q → r ≡ q
same_rule r q same = sym (at_row r) ∙ ap (rule_at table) same ∙ at_row q

-- ---- numbers of which neither list comes before the other

less : (x y : ℕ) (xs ys : List ℕ) → x < y → before (x ∷ xs) (y ∷ ys) ≡ true
less x y xs ys lt = grind (arith, nat_tests, lt)

same : (x y : ℕ) (xs ys : List ℕ) → x ≡ y → before (x ∷ xs) (y ∷ ys) ≡ before xs ys
same x y xs ys e = grind (arith, nat_tests, e)

heads : (x y : ℕ) (xs ys : List ℕ) → before (x ∷ xs) (y ∷ ys) ≡ false → before (y ∷ ys) (x ∷ xs) ≡ false → (x ≡ y) × (before xs ys ≡ false) × (before ys xs ≡ false)
heads x y xs ys p q = elim (cases_lt x y) [
  | inl lt ↦ absurd (true≢false (sym (less x y xs ys lt) ∙ p))
  | inr ge ↦ elim (cases_lt y x) [
    | inl gt ↦ absurd (true≢false (sym (less y x ys xs gt) ∙ q))
    | inr le ↦
        let e : x ≡ y = omega (arith, ge, le) in
        (e, sym (same x y xs ys e) ∙ p, sym (same y x ys xs (sym e)) ∙ q)
  ]
]

abbrev place_of : ℕ → ℕ → ℕ → Place
place_of file line column = record { file = file; line = line; column = column }

alike : (a b : Break) → before (rank a) (rank b) ≡ false → before (rank b) (rank a) ≡ false → (a.place ≡ b.place) × (a.rule ≡ b.rule)
alike a b p q =
    let rest = λ (c : Break). c.place.file ∷ c.place.line ∷ c.place.column ∷ row_of c.rule ∷ [] in
    let phase = heads a.phase b.phase (rest a) (rest b) p q in
    let behind = λ (c : Break). c.place.line ∷ c.place.column ∷ row_of c.rule ∷ [] in
    let file = heads a.place.file b.place.file (behind a) (behind b) phase.1 phase.2 in
    let line = heads a.place.line b.place.line (a.place.column ∷ row_of a.rule ∷ []) (b.place.column ∷ row_of b.rule ∷ []) file.1 file.2 in
    let column = heads a.place.column b.place.column (row_of a.rule ∷ []) (row_of b.rule ∷ []) line.1 line.2 in
    let row = heads (row_of a.rule) (row_of b.rule) [] [] column.1 column.2 in
    (ap3 place_of file.0 line.0 column.0, same_rule a.rule b.rule row.0)

neither : (a b : Break) → is_before a b ≡ false → is_before b a ≡ false → (a.place ≡ b.place) × (a.rule ≡ b.rule)
unfolding is_before
neither a b p q = alike a b p q

pub firsts : FirstBreaksAreOne
firsts r q sources a b =
    let first = (a.1).as_said in
    let other = (b.1).as_said in
    let same = neither a.0 b.0 (other.1 a.0 first.0) (first.1 b.0 other.0) in
    ((a.2).place ∙ same.0 ∙ sym (b.2).place, (a.2).rule ∙ same.1 ∙ sym (b.2).rule, (a.2).name ∙ sym (b.2).name)
