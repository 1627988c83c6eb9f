-- What is visible under a text is what is visible under its number.
use Rattle.std.proofs.Common.{◌≡◌, ℕ, ◌↔◌, List, Option, Some, map, slice_get, string_bytes, sym, subst}
use Rattle.f3_tree.specs.Tree.{Tree}
use Rattle.f3_scopes.specs.Scopes.{scopes_of}
use Rattle.f3_lookups.specs.declared.lookup.Lookup.{Lookup}
use Rattle.f3_lookups.specs.declared.lookup.Lookup.TheVariants.{One, Nothing, Several}
use Rattle.f3_access.specs.Lookups.{Resolves}
use Rattle.f3_access.specs.Access.{IsVisible}
use Rattle.f3_names.specs.declared.table.Names.{Names}
use Rattle.f3_names.specs.Tables.{AreNames, lookup_at, IsVisibleAs}

resolves_same : (l : Lookup) (P Q : ℕ → Type 0) → Resolves l P → ((e : ℕ) → P e → Q e) → ((e : ℕ) → Q e → P e) → Resolves l Q
resolves_same (One e) P Q r to from = record { as_said = (to e r.as_said.0, λ d q. r.as_said.1 d (from d q)) }
resolves_same Nothing P Q r to from = record { as_said = λ d q. r.as_said d (from d q) }
resolves_same Several P Q r to from =
    let (d, e, p, q, differ) = r.as_said in
    record { as_said = (d, e, to d p, to e q, differ) }

pub resolved : (t : Tree) (names : Names) (scope symbol : ℕ) (text : List ℕ) (found : Option ℕ) → AreNames t names → found ≡ Some symbol
    → ((k : ℕ) → (found ≡ Some k) ↔ (slice_get (map string_bytes names.texts.keys) k ≡ Some text)) → Resolves (lookup_at names scope symbol) (IsVisibleAs t scope text)
resolved t names scope symbol text found are is decides =
    let here : slice_get t.names symbol ≡ Some text = subst (λ xs. slice_get xs symbol ≡ Some text) are.texts ((decides symbol).0 is) in
    let only : (k : ℕ) → slice_get t.names k ≡ Some text → k ≡ symbol =
    λ k at. (let again = (decides k).1 (subst (λ xs. slice_get xs k ≡ Some text) (sym are.texts) at) in cc) in
    resolves_same (lookup_at names scope symbol) (IsVisible (scopes_of t) scope symbol) (IsVisibleAs t scope text) (are.tables.resolves scope symbol)
    (λ e visible. (symbol, here, visible))
    (λ e seen. subst (λ k. IsVisible (scopes_of t) scope k e) (only seen.0 seen.1) seen.2)
