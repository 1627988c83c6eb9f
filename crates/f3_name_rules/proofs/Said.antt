-- A break is in the row of a name exactly where a rule says so.
use Rattle.std.proofs.Common.{◌≡◌, ◌≢◌, ℕ, List, [], ◌∷◌, refl, sym, subst, ◌∙◌, inl, inr, Bool, true, false, if◌then◌else◌, nat_eq, Some, slice_get}
use Rattle.std.specs.List.{list_any}
use Rattle.std.proofs.lemmas.Bool.{eqb-true, eq-eqb}
use Rattle.f3_rules.specs.declared.breaks.Break.{Break}
use Rattle.f3_rules.specs.declared.rule.Rule.TheVariants.{N1, N2, N4, N7, N10, N11}
use Rattle.f3_tree.specs.declared.expression.Name.{Name}
use Rattle.f3_scopes.specs.Outlines.{Scope}
use Rattle.f3_lookups.specs.declared.lookup.Lookup.{Lookup}
use Rattle.f3_lookups.specs.declared.lookup.Lookup.TheVariants.{One, Nothing, Several}
use Rattle.f3_access.specs.declared.table.Tables.{Tables}
use Rattle.f3_access.specs.Access.{IsPrivate, IsUsed, IsVisible}
use Rattle.f3_access.specs.Lookups.{ResolvesAs}
use Rattle.f3_access.specs.Tables.{AreTables, used_of, private_of}
use Rattle.f3_access.proofs.Members.{Has, has_of, contains_of, any_of, any_from}
use Rattle.f3_name_rules.specs.Intrinsics.{is_intrinsic}
use Rattle.f3_breaks.specs.At.{at}
use Rattle.f3_name_rules.specs.NameBreaks.{text_of, UsesName, GivesAttribute, RefersTo, AccessBreaks, no_such_name, private_there, attribute_on_used, not_accessible, of_several}
use Rattle.f3_name_rules.specs.Inner.Rows.{seen_row, attribute_row, missing_row, found_row}

-- a break or none
one_of : (t : Bool) (b c : Break) → Has (if t then c ∷ [] else []) b → (t ≡ true) × (b ≡ c)
one_of true b c (inl e) = (refl, e)
one_of true b c (inr n) = absurd n
one_of false b c n = absurd n

one_in : (t : Bool) (b c : Break) → t ≡ true → b ≡ c → Has (if t then c ∷ [] else []) b
one_in t b c e same = rw e (inl same)

module _ (scopes : List Scope) (texts : List (List ℕ)) (tables : Tables) (are : AreTables scopes tables) (b : Break) where
  -- use-names
  module _ (source : ℕ) (name : Name) where
    pub seen_said : (l : Lookup) → ResolvesAs l (IsVisible scopes source name.symbol) → UsesName scopes source name → (from : Scope) → slice_get scopes source ≡ Some from
        → Has (seen_row l (private_of tables source name.symbol) name) b → AccessBreaks scopes texts b
    seen_said Nothing r uses from at_source (inl e) = no_such_name (source, name, uses, r, e)
    seen_said Nothing r uses from at_source (inr n) = absurd n
    seen_said (One d) r uses from at_source h =
        let o = one_of (private_of tables source name.symbol) b (at 3 N2 name) h in
        private_there (source, name, uses, d, r.0, from, at_source, (are.private source name.symbol from at_source).0 o.0, o.1)
    seen_said Several r uses from at_source h =
        let o = one_of (private_of tables source name.symbol) b (at 3 N2 name) h in
        private_there (source, name, uses, r.0, r.2, from, at_source, (are.private source name.symbol from at_source).0 o.0, o.1)

    pub row_of_missing : (l : Lookup) → ResolvesAs l (IsVisible scopes source name.symbol) → ((entity : ℕ) → IsVisible scopes source name.symbol entity → ⊥) → b ≡ at 3 N1 name
        → Has (seen_row l (private_of tables source name.symbol) name) b
    row_of_missing Nothing r none e = inl e
    row_of_missing (One d) r none e = absurd (none d r.0)
    row_of_missing Several r none e = absurd (none r.0 r.2)

    pub row_of_private : (l : Lookup) → ResolvesAs l (IsVisible scopes source name.symbol) → (entity : ℕ) → IsVisible scopes source name.symbol entity
        → (from : Scope) → slice_get scopes source ≡ Some from → IsPrivate from name.symbol → b ≡ at 3 N2 name → Has (seen_row l (private_of tables source name.symbol) name) b
    row_of_private Nothing r entity visible from at_source private e = absurd (r entity visible)
    row_of_private (One d) r entity visible from at_source private e =
        one_in (private_of tables source name.symbol) b (at 3 N2 name) ((are.private source name.symbol from at_source).1 private) e
    row_of_private Several r entity visible from at_source private e =
        one_in (private_of tables source name.symbol) b (at 3 N2 name) ((are.private source name.symbol from at_source).1 private) e

  module _ (number : ℕ) (name : Name) where
    -- attributes
    pub attribute_said : (scope : Scope) → slice_get scopes number ≡ Some scope → GivesAttribute scope name → Has (attribute_row tables number name) b → AccessBreaks scopes texts b
    attribute_said scope at_number gives h =
        let o = one_of (list_any (nat_eq name.symbol) (used_of tables number)) b (at 4 N4 name) h in
        let a = any_of (nat_eq name.symbol) (used_of tables number) o.0 in
        let u = (are.used number name.symbol).0 (contains_of (used_of tables number) name.symbol (subst (Has (used_of tables number)) (sym (eqb-true name.symbol a.0 a.2)) a.1)) in
        attribute_on_used (number, scope, at_number, name, gives, u.0, u.1, o.1)

    pub row_of_used : (entity : ℕ) → IsUsed scopes number name.symbol entity → b ≡ at 4 N4 name → Has (attribute_row tables number name) b
    row_of_used entity used e =
        one_in (list_any (nat_eq name.symbol) (used_of tables number)) b (at 4 N4 name)
        (any_from (nat_eq name.symbol) (used_of tables number) name.symbol (has_of (used_of tables number) name.symbol ((are.used number name.symbol).1 (entity, used))) (eq-eqb name.symbol name.symbol refl)) e

    -- names that are given an access
    pub missing_said : (l : Lookup) → ResolvesAs l (IsVisible scopes number name.symbol) → Has (missing_row l name) b → ((entity : ℕ) → IsVisible scopes number name.symbol entity → ⊥) × (b ≡ at 4 N7 name)
    missing_said Nothing r (inl e) = (r, e)
    missing_said Nothing r (inr n) = absurd n
    missing_said (One d) r h = absurd h
    missing_said Several r h = absurd h

    pub row_of_nothing : (l : Lookup) → ResolvesAs l (IsVisible scopes number name.symbol) → ((entity : ℕ) → IsVisible scopes number name.symbol entity → ⊥) → b ≡ at 4 N7 name → Has (missing_row l name) b
    row_of_nothing Nothing r none e = inl e
    row_of_nothing (One d) r none e = absurd (none d r.0)
    row_of_nothing Several r none e = absurd (none r.0 r.2)

    -- references
    unknown_said : (t : Bool) → is_intrinsic (text_of texts name.symbol) ≡ t → RefersTo scopes number name → ((entity : ℕ) → IsVisible scopes number name.symbol entity → ⊥)
        → Has (if t then [] else at 4 N10 name ∷ []) b → AccessBreaks scopes texts b
    unknown_said true t refers none h = absurd h
    unknown_said false t refers none (inl e) = not_accessible (number, name, refers, none, t, e)
    unknown_said false t refers none (inr n) = absurd n

    pub found_said : (l : Lookup) → ResolvesAs l (IsVisible scopes number name.symbol) → RefersTo scopes number name → Has (found_row l (is_intrinsic (text_of texts name.symbol)) name) b → AccessBreaks scopes texts b
    found_said (One d) r refers h = absurd h
    found_said Several r refers (inl e) = of_several (number, name, refers, r.0, r.1, r.2, r.3, r.4, e)
    found_said Several r refers (inr n) = absurd n
    found_said Nothing r refers h = unknown_said (is_intrinsic (text_of texts name.symbol)) refl refers r h

    pub row_of_unknown : (l : Lookup) → ResolvesAs l (IsVisible scopes number name.symbol) → ((entity : ℕ) → IsVisible scopes number name.symbol entity → ⊥)
        → is_intrinsic (text_of texts name.symbol) ≡ false → b ≡ at 4 N10 name → Has (found_row l (is_intrinsic (text_of texts name.symbol)) name) b
    row_of_unknown (One d) r none t e = absurd (none d r.0)
    row_of_unknown Several r none t e = absurd (none r.0 r.2)
    row_of_unknown Nothing r none t e = rw t (inl e)

    pub row_of_several : (l : Lookup) → ResolvesAs l (IsVisible scopes number name.symbol) → (d e : ℕ) → IsVisible scopes number name.symbol d → IsVisible scopes number name.symbol e → d ≢ e → b ≡ at 4 N11 name
        → Has (found_row l (is_intrinsic (text_of texts name.symbol)) name) b
    row_of_several (One c) r d e visible also_visible apart q = absurd (apart (r.1 d visible ∙ sym (r.1 e also_visible)))
    row_of_several Several r d e visible also_visible apart q = inl q
    row_of_several Nothing r d e visible also_visible apart q = absurd (r d visible)
