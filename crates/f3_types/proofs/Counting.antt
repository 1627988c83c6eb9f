-- What is known of as many entities as there are.
use Rattle.std.proofs.Common.{◌≡◌, ◌<◌, ℕ, zero, suc, List, [], ◌∷◌, Option, None, Some, IsSome, length, slice_get, refl, sym, ap, ◌∙◌, arith}
use Rattle.std.specs.Prelude.{option_map}
use Rattle.std.proofs.lemmas.List.{length-map}
use Rattle.f3_lookups.specs.declared.lookup.Lookup.{Lookup}
use Rattle.f3_lookups.specs.declared.lookup.Lookup.TheVariants.{One}
use Rattle.f3_access.specs.declared.table.Tables.{Tables}
use Rattle.f3_access.specs.Access.{entities_of}
use Rattle.f3_access.specs.Tables.{AreTables, lookup_of}
use Rattle.f3_distinct_laws.proofs.Entities.{looked_up_entity}
use Rattle.f3_scopes.specs.Scopes.{scopes_of}
use Rattle.f3_tree.specs.Tree.{Tree}
use Rattle.f3_kinds.specs.declared.things.Thing.{Thing}
use Rattle.f3_typed_parts.specs.Known.{nature_of}
use Rattle.f3_type_rules.specs.Names.{Names}
use Rattle.f3_sites.specs.declared.site.Site.{Site as Place}
use Rattle.f3_sites.specs.Sites.{site_of}
use Rattle.f3_associates.specs.Known.{IsSettled}
use Rattle.f3_natures.specs.Natures.{natures_of, kept}
use Rattle.f3_natures.proofs.Standing.{units_long, program_same}

-- each entity has a nature
pub natures_long : (names : Names) (t : Tree) → length (natures_of names t) ≡ length (entities_of (scopes_of t))
natures_long names t =
    sym (length-map (natures_of names t) kept) ∙ sym (ap length (program_same names t.units)) ∙ units_long names 0 0 t.units

some_at : {X : Type 0} (xs : List X) (i : ℕ) → i < length xs → IsSome (slice_get xs i)
some_at [] i lt = absurd (omega (arith, lt))
some_at (x ∷ xs) zero lt = refl
some_at (x ∷ xs) (suc i) lt = some_at xs i (omega (arith, lt))

mapped : (o : Option Thing) → IsSome o → IsSome (option_map nature_of o)
mapped None h = h
mapped (Some x) h = refl

-- where these tables look names up, what is known of as many entities as there are is known of all that are looked up
pub settled : (t : Tree) (tables : Tables) (p : Place) → AreTables (scopes_of t) tables → lookup_of p.known.tables.now ≡ lookup_of tables
    → length p.known.things.items ≡ length (entities_of (scopes_of t)) → IsSettled (site_of p)
settled t tables p are same long scope symbol e found =
    let here : lookup_of tables scope symbol ≡ One e = ap (λ (l : ℕ → ℕ → Lookup). l scope symbol) (sym same) ∙ found in
    let lt : e < length (entities_of (scopes_of t)) = looked_up_entity (scopes_of t) tables scope symbol e are here in
    mapped (slice_get p.known.things.items e) (some_at p.known.things.items e (omega (arith, lt, long)))
