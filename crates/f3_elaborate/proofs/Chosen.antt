-- The first main program.
use Rattle.std.proofs.Common.{◌≡◌, ℕ, zero, suc, ◌+◌, ◌<◌, List, [], ◌∷◌, Option, None, Some, Bool, true, false, cond, length, take, filter, slice_get, refl, ap, subst, ◌∙◌, arith}
use Rattle.std.specs.Option.{option_map}
use Rattle.f3_scopes.specs.Outlines.{Scope}
use Rattle.f3_scopes.specs.Scopes.{unit_scopes}
use Rattle.f3_tree.specs.Tree.{UnitTree}
use Rattle.f3_type_rules.specs.Members.{Numbered, numbered, units_from}
use Rattle.f3_elaboration.specs.Program.{is_main, main_unit}
use Rattle.f3_elaborate.specs.Inner.Units.{main_place}

abbrev placed : Bool → Option ℕ → Option ℕ
placed b o = cond b (Some 0) (option_map suc o)

-- a place behind others
behind : (b : Bool) (o : Option ℕ) → placed b o ≡ None → (b ≡ false) × (o ≡ None)
behind true o h = absurd (cc)
behind false None h = (refl, refl)
behind false (Some i) h = absurd (cc)

later : (b : Bool) (o : Option ℕ) (i : ℕ) → b ≡ false → o ≡ Some i → placed b o ≡ Some (suc i)
later b o i e h = ap (λ x. placed x o) e ∙ ap (λ x. placed false x) h

none_later : (b : Bool) (o : Option ℕ) → b ≡ false → o ≡ None → placed b o ≡ None
none_later b o e h = ap (λ x. placed x o) e ∙ ap (λ x. placed false x) h

-- the first is where one is, and none before it
pub found_at : (us : List UnitTree) (i : ℕ) (u : UnitTree) → slice_get us i ≡ Some u → is_main u.kind ≡ true → main_place (take i us) ≡ None → main_place us ≡ Some i
found_at [] i u there is before = absurd (cc)
found_at (x ∷ us) zero u there is before =
    let same : x ≡ u = cc in
    ap (λ (y : UnitTree). placed (is_main y.kind) (main_place us)) same ∙ ap (λ b. placed b (main_place us)) is
found_at (x ∷ us) (suc i) u there is before =
    let cut = behind (is_main x.kind) (main_place (take i us)) before in
    later (is_main x.kind) (main_place us) i cut.0 (found_at us i u there is cut.1)

none_next : (us : List UnitTree) (i : ℕ) (u : UnitTree) → slice_get us i ≡ Some u → is_main u.kind ≡ false → main_place (take i us) ≡ None → main_place (take (suc i) us) ≡ None
none_next [] i u there is before = refl
none_next (x ∷ us) zero u there is before =
    let same : x ≡ u = cc in
    none_later (is_main x.kind) None (ap (λ (y : UnitTree). is_main y.kind) same ∙ is) refl
none_next (x ∷ us) (suc i) u there is before =
    let cut = behind (is_main x.kind) (main_place (take i us)) before in
    none_later (is_main x.kind) (main_place (take (suc i) us)) cut.0 (none_next us i u there is cut.1)

pub none_more : (us : List UnitTree) (i : ℕ) (u : UnitTree) → slice_get us i ≡ Some u → is_main u.kind ≡ false → main_place (take i us) ≡ None → main_place (take (i + 1) us) ≡ None
none_more us i u there is before = subst (λ k. main_place (take k us) ≡ None) (let e : suc i ≡ i + 1 = omega arith in e) (none_next us i u there is before)

-- the unit there
abbrev first_of_kept : Bool → Numbered → List Numbered → Option Numbered
first_of_kept b u us = slice_get (cond b (u ∷ us) us) 0

kept : (b : Bool) (u : Numbered) (us : List Numbered) (o : Option ℕ) (i : ℕ) (xs : List Numbered) → placed b o ≡ Some i
    → ((k : ℕ) → o ≡ Some k → slice_get us 0 ≡ slice_get xs k) → first_of_kept b u us ≡ slice_get (u ∷ xs) i
kept true u us o i xs at h = let same : 0 ≡ i = cc in ap (λ k. slice_get (u ∷ xs) k) same
kept false u us None i xs at h = absurd (cc)
kept false u us (Some k) i xs at h = let same : suc k ≡ i = cc in h k refl ∙ ap (λ n. slice_get (u ∷ xs) n) same

pub main_found : (scopes : List Scope) (start : ℕ) (us : List UnitTree) (i : ℕ) → main_place us ≡ Some i → main_unit (units_from scopes start us) ≡ slice_get (units_from scopes start us) i
main_found scopes start [] i at = absurd (cc)
main_found scopes start (u ∷ us) i at =
    let rest : List Numbered = units_from scopes (start + length (unit_scopes start u)) us in
    kept (is_main u.kind) (numbered scopes start u) (filter (λ (x : Numbered). is_main (x.tree).kind) rest) (main_place us) i rest at
    (λ k e. main_found scopes (start + length (unit_scopes start u)) us k e)

none_kept : (b : Bool) (u : Numbered) (us : List Numbered) → b ≡ false → slice_get us 0 ≡ None → first_of_kept b u us ≡ None
none_kept b u us e h = ap (λ x. first_of_kept x u us) e ∙ h

pub main_missing : (scopes : List Scope) (start : ℕ) (us : List UnitTree) → main_place us ≡ None → main_unit (units_from scopes start us) ≡ None
main_missing scopes start [] at = refl
main_missing scopes start (u ∷ us) at =
    let cut = behind (is_main u.kind) (main_place us) at in
    let rest : List Numbered = units_from scopes (start + length (unit_scopes start u)) us in
    none_kept (is_main u.kind) (numbered scopes start u) (filter (λ (x : Numbered). is_main (x.tree).kind) rest) cut.0
    (main_missing scopes (start + length (unit_scopes start u)) us cut.1)

within : (b : Bool) (o : Option ℕ) (i n : ℕ) → placed b o ≡ Some i → ((k : ℕ) → o ≡ Some k → k < n) → i < n + 1
within true o i n at h = let same : 0 ≡ i = cc in omega (arith, same)
within false None i n at h = absurd (cc)
within false (Some k) i n at h =
    let same : suc k ≡ i = cc in
    let lt = h k refl in
    omega (arith, same, lt)

pub main_within : (us : List UnitTree) (i : ℕ) → main_place us ≡ Some i → i < length us
main_within [] i at = absurd (cc)
main_within (u ∷ us) i at = let lt = within (is_main u.kind) (main_place us) i (length us) at (λ k e. main_within us k e) in omega (arith, lt)
