-- What stands again, and what passes find.
use Rattle.std.proofs.Common.{◌≡◌, ℕ, List, [], ◌∷◌, nat_eq, None, refl, sym, ap, subst, ◌∙◌, Bool, true, false, ◌&&◌, if◌then◌else◌, ◌⊎◌, inl, inr, Contains}
use Rattle.std.specs.List.{list_any}
use Rattle.std.proofs.lemmas.Bool.{eqb-true, eq-eqb, and_parts, and_from, true≢false}
use Rattle.f3_rules.specs.declared.breaks.Break.{Break}
use Rattle.f3_rules.specs.declared.rule.Rule.{Rule}
use Rattle.f3_rules.specs.declared.rule.Rule.TheVariants.{N6}
use Rattle.f3_rules.specs.Least.{Least, first_of}
use Rattle.f3_rules.proofs.Firsts.{first_is_least, least_same, least_none}
use Rattle.f3_tree.specs.declared.expression.Name.{Name}
use Rattle.f3_scopes.specs.declared.outline.ScopeKind.{ScopeKind}
use Rattle.f3_scopes.specs.declared.outline.ScopeKind.TheVariants.{Module, Program, Subroutine, Function, Associate}
use Rattle.f3_scopes.specs.Outlines.{Listed}
use Rattle.f3_scope_rules.specs.ScopeBreaks.{at, at_keyword, DefaultAgain}
use Rattle.f3_scopes.specs.Kinds.{is_module}
use Rattle.f3_scope_rules.specs.Inner.Rows.{pass, again_row, again_next, AgainIn, is_default, default_row, default_next}
use Rattle.f3_scope_rules.proofs.Members.{Has, has_of, contains_of, any_of, any_from, key_put, key_of}
use Rattle.f3_scope_rules.proofs.Passing.{after, pass_of, has_pass}
use Rattle.f3_scope_rules.proofs.Known.{one_of, one_in, either_of, either_right, empty_of, empty_in}

-- ---- names

seen_of : (seen : List ℕ) (xs : List Name) (n : ℕ) → Has (after again_next seen xs) n → Has seen n ⊎ ((y : Name) × Has xs y × (y.symbol ≡ n))
seen_of seen [] n h = inl h
seen_of seen (x ∷ xs) n h = elim (seen_of (again_next seen x) xs n h) [
  | inl s ↦ elim (key_of nat_eq eqb-true seen x.symbol n s) [ inl old ↦ inl old | inr e ↦ inr (x, inl refl, sym e) ]
  | inr (y, hy, e) ↦ inr (y, inr hy, e)
]

seen_in : (seen : List ℕ) (xs : List Name) (n : ℕ) → Has seen n ⊎ ((y : Name) × Has xs y × (y.symbol ≡ n)) → Has (after again_next seen xs) n
seen_in seen [] n (inl s) = s
seen_in seen [] n (inr y) = absurd y.1
seen_in seen (x ∷ xs) n (inl s) = seen_in (again_next seen x) xs n (inl (key_put nat_eq eqb-true seen x.symbol n (inl s)))
seen_in seen (x ∷ xs) n (inr (y, inl e, same)) = seen_in (again_next seen x) xs n (inl (key_put nat_eq eqb-true seen x.symbol n (inr (sym same ∙ ap (λ (w : Name). w.symbol) e))))
seen_in seen (x ∷ xs) n (inr (y, inr h, same)) = seen_in (again_next seen x) xs n (inr (y, h, same))

pub least_again : (rule : Rule) (names : List Name) → Least (first_of (pass (again_row rule) again_next [] names)) (AgainIn rule names)
least_again rule names = least_same (first_is_least (pass (again_row rule) again_next [] names)) to from
  where
    to : (b : Break) → Contains (pass (again_row rule) again_next [] names) b → AgainIn rule names b
    to b h =
        let r = pass_of (again_row rule) again_next [] names b (has_of (pass (again_row rule) again_next [] names) b h) in
        let seen = after again_next [] r.0 in
        let o = one_of (list_any (nat_eq r.1.symbol) seen) b (at rule r.1) r.4 in
        let a = any_of (nat_eq r.1.symbol) seen o.0 in
        elim (seen_of [] r.0 a.0 a.1) [
          | inl n ↦ absurd n
          | inr (y, hy, e) ↦ (r.1, (r.0, r.2, r.3, y, contains_of r.0 y hy, e ∙ sym (eqb-true r.1.symbol a.0 a.2)), o.1)
        ]

    from : (b : Break) → AgainIn rule names b → Contains (pass (again_row rule) again_next [] names) b
    from b (later, (front, rest, split, earlier, before, same), is) =
        let seen = after again_next [] front in
        let known : Has seen later.symbol = seen_in [] front later.symbol (inr (earlier, has_of front earlier before, same)) in
        let test : list_any (nat_eq later.symbol) seen ≡ true = any_from (nat_eq later.symbol) seen later.symbol known (eq-eqb later.symbol later.symbol refl) in
        contains_of (pass (again_row rule) again_next [] names) b (subst (λ l. Has (pass (again_row rule) again_next [] l) b) (sym split) (has_pass (again_row rule) again_next [] front later rest b (one_in (list_any (nat_eq later.symbol) seen) b (at rule later) test is)))

-- ---- PUBLIC and PRIVATE without a list

had_of : (had : Bool) (xs : List Listed) → after default_next had xs ≡ true → (had ≡ true) ⊎ ((y : Listed) × Has xs y × (y.names ≡ []))
had_of had [] e = inl e
had_of had (x ∷ xs) e = elim (had_of (default_next had x) xs e) [
  | inl s ↦ elim (either_of had (is_default x) s) [ inl old ↦ inl old | inr m ↦ inr (x, inl refl, empty_of x.names m) ]
  | inr (y, hy, k) ↦ inr (y, inr hy, k)
]

had_in : (had : Bool) (xs : List Listed) → (had ≡ true) ⊎ ((y : Listed) × Has xs y × (y.names ≡ [])) → after default_next had xs ≡ true
had_in had [] (inl s) = s
had_in had [] (inr y) = absurd y.1
had_in had (x ∷ xs) (inl s) = had_in (default_next had x) xs (inl (rw s refl))
had_in had (x ∷ xs) (inr (y, inl e, k)) = had_in (default_next had x) xs (inl (either_right had (is_default x) (empty_in x.names (sym (ap (λ (w : Listed). w.names) e) ∙ k))))
had_in had (x ∷ xs) (inr (y, inr h, k)) = had_in (default_next had x) xs (inr (y, h, k))

abbrev pub DefaultIn : ScopeKind → List Listed → Break → Type 0
DefaultIn k ss b = (later : Listed) × (k ≡ Module) × DefaultAgain ss later × (b ≡ at_keyword N6 later.place)

least_module : (ss : List Listed) → Least (first_of (pass default_row default_next false ss)) (DefaultIn Module ss)
least_module ss = least_same (first_is_least (pass default_row default_next false ss)) to from
  where
    to : (b : Break) → Contains (pass default_row default_next false ss) b → DefaultIn Module ss b
    to b h =
        let r = pass_of default_row default_next false ss b (has_of (pass default_row default_next false ss) b h) in
        let had = after default_next false r.0 in
        let o = one_of (had && is_default r.1) b (at_keyword N6 r.1.place) r.4 in
        let t = and_parts had (is_default r.1) o.0 in
        elim (had_of false r.0 t.0) [
          | inl n ↦ absurd (true≢false (sym n))
          | inr (y, hy, k) ↦ (r.1, refl, (r.0, r.2, r.3, empty_of r.1.names t.1, y, contains_of r.0 y hy, k), o.1)
        ]

    from : (b : Break) → DefaultIn Module ss b → Contains (pass default_row default_next false ss) b
    from b (later, here, (front, rest, split, empty, earlier, before, none), is) =
        let had = after default_next false front in
        let first : had ≡ true = had_in false front (inr (earlier, has_of front earlier before, none)) in
        let test : (had && is_default later) ≡ true = and_from had (is_default later) first (empty_in later.names empty) in
        contains_of (pass default_row default_next false ss) b (subst (λ l. Has (pass default_row default_next false l) b) (sym split) (has_pass default_row default_next false front later rest b (one_in (had && is_default later) b (at_keyword N6 later.place) test is)))

pub least_default : (k : ScopeKind) (ss : List Listed) → Least (if is_module k then first_of (pass default_row default_next false ss) else None) (DefaultIn k ss)
least_default Module ss = least_module ss
least_default Program ss = least_none {P = DefaultIn Program ss} (λ b h. absurd (true≢false (sym (ap is_module h.1))))
least_default Subroutine ss = least_none {P = DefaultIn Subroutine ss} (λ b h. absurd (true≢false (sym (ap is_module h.1))))
least_default Function ss = least_none {P = DefaultIn Function ss} (λ b h. absurd (true≢false (sym (ap is_module h.1))))
least_default Associate ss = least_none {P = DefaultIn Associate ss} (λ b h. absurd (true≢false (sym (ap is_module h.1))))
