-- What a scope declares is found alone under its name, where no rule on names is broken.
use Rattle.std.proofs.Common.{◌≡◌, refl, sym, ap, subst, ◌∙◌, inl, inr, ℕ, ◌+◌, ◌<◌, Some, slice_get}
use Rattle.std.proofs.lemmas.Bool.{cases_order}
use Rattle.f3_rules.specs.declared.breaks.Break.{Break}
use Rattle.f3_rules.specs.declared.rule.Rule.TheVariants.{N3, N4}
use Rattle.f3_tree.specs.Tree.{Tree}
use Rattle.f3_nodes.proofs.Members.{contains_of, at_has}
use Rattle.f3_scopes.specs.Outlines.{Own, Scope}
use Rattle.f3_scopes.specs.Scopes.{scopes_of}
use Rattle.f3_lookups.specs.declared.lookup.Lookup.{Lookup}
use Rattle.f3_lookups.specs.declared.lookup.Lookup.TheVariants.{One, Nothing, Several}
use Rattle.f3_access.specs.Access.{first_entity, IsDeclared, IsOwn, IsUsed, IsVisible}
use Rattle.f3_access.specs.Lookups.{ResolvesAs, Resolves}
use Rattle.f3_breaks.specs.At as breaks
use Rattle.f3_scope_rules.specs.ScopeBreaks.{at, declared_names, DeclaredTwice, BreaksOf}
use Rattle.f3_name_rules.specs.NameBreaks.{GivesAttribute, AccessBreaks, NameBreaks}
use Rattle.f3_agreement_laws.proofs.Declared.{stands_again}
use Rattle.f3_lawful_laws.proofs.Facts.{same}
use Rattle.f3_lawful_laws.proofs.Opening.{mapped_at}

module _ (t : Tree) (look : ℕ → ℕ → Lookup) (means : (scope symbol : ℕ) → Resolves (look scope symbol) (IsVisible (scopes_of t) scope symbol))
    (none : (b : Break) → NameBreaks (scopes_of t) t.names b → ⊥) where
  -- N3
  twice : (number : ℕ) (s : Scope) → slice_get (scopes_of t) number ≡ Some s → (j k : ℕ) (a b : Own) → slice_get s.declared j ≡ Some a
      → slice_get s.declared k ≡ Some b → j < k → a.name.symbol ≡ b.name.symbol → ⊥
  twice number s there j k a b x y lt e =
      none (at N3 b.name) (inl (
        s,
        contains_of (scopes_of t) s (at_has (scopes_of t) number s there),
        BreaksOf.declared_twice (DeclaredTwice.in_declarations b.name
            (stands_again (declared_names s) j k a.name b.name (mapped_at (λ (d : Own). d.name) s.declared j a x) (mapped_at (λ (d : Own). d.name) s.declared k b y) lt e)
            refl),
      ))

  -- so a name is declared once in a scope
  pub declared_once : (number symbol d e : ℕ) → IsDeclared (scopes_of t) number symbol d → IsDeclared (scopes_of t) number symbol e → d ≡ e
  declared_once number symbol d e (s, j, a, at_s, at_a, named_a, sum_a) (r, k, b, at_r, at_b, named_b, sum_b) =
      let is : r ≡ s = same (sym at_r ∙ at_s) in
      let there : slice_get s.declared k ≡ Some b = subst (λ (z : Scope). slice_get z.declared k ≡ Some b) is at_b in
      elim (cases_order j k) [
        | inl e ↦ sym sum_a ∙ ap (λ i. first_entity (scopes_of t) number + i) e ∙ sum_b
        | inr (inl less) ↦ absurd (twice number s at_s j k a b at_a there less (named_a ∙ sym named_b))
        | inr (inr more) ↦ absurd (twice number s at_s k j b a there at_a more (named_b ∙ sym named_a))
      ]

  -- N4
  never_used : (number symbol d e : ℕ) → IsDeclared (scopes_of t) number symbol d → IsUsed (scopes_of t) number symbol e → ⊥
  never_used number symbol d e (s, j, a, at_s, at_a, named, sum) used =
      none (breaks.at 4 N4 a.name) (inr (AccessBreaks.attribute_on_used (
        number,
        s,
        at_s,
        a.name,
        GivesAttribute.declared a (contains_of s.declared a (at_has s.declared j a at_a)) refl,
        e,
        subst (λ z. IsUsed (scopes_of t) number z e) (sym named) used,
        refl,
      )))

  own_is : (number symbol e : ℕ) → IsOwn (scopes_of t) number symbol e → (d : ℕ) → IsDeclared (scopes_of t) number symbol d → e ≡ d
  own_is number symbol e (IsOwn.declared a b c own) d declared = declared_once a b c d own declared
  own_is number symbol e (IsOwn.used a b c source original brought own) d declared = absurd (never_used a b d c declared (source, original, brought, own))

  -- and it is all that is visible there under this name
  pub only : (number symbol e : ℕ) → IsVisible (scopes_of t) number symbol e → (d : ℕ) → IsDeclared (scopes_of t) number symbol d → e ≡ d
  only number symbol e (IsVisible.own a b c own) d declared = own_is a b c own d declared
  only number symbol e (IsVisible.around a b c host hosted hidden seen) d declared = absurd (hidden d (IsOwn.declared a b d declared))

  pub alone : (number symbol d : ℕ) → IsDeclared (scopes_of t) number symbol d → look number symbol ≡ One d
  alone number symbol d declared = go (look number symbol) refl (means number symbol).as_said
    where
      go : (l : Lookup) → look number symbol ≡ l → ResolvesAs l (IsVisible (scopes_of t) number symbol) → look number symbol ≡ One d
      go (One e) is r = is ∙ ap One (only number symbol e r.0 d declared)
      go Nothing is r = absurd (r d (IsVisible.own number symbol d (IsOwn.declared number symbol d declared)))
      go Several is r = absurd (r.4 (only number symbol r.0 r.2 d declared ∙ sym (only number symbol r.1 r.3 d declared)))
