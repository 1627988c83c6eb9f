-- What the entities of associate names are is known where it is of all entities that names have.
use Rattle.std.proofs.Common.{◌≡◌, ℕ, refl, List, [], ◌∷◌, map, IsSome}
use Rattle.std.specs.List.{All, flat_map}
use Rattle.std.proofs.lemmas.List.Elements.{All-nil, All-cons, All-append, All-same}
use Rattle.f3_lookups.specs.declared.lookup.Lookup.{Lookup}
use Rattle.f3_lookups.specs.declared.lookup.Lookup.TheVariants.{One, Nothing, Several}
use Rattle.f3_kinds.specs.declared.said.Said.{Said}
use Rattle.f3_kinds.specs.Typing.{said}
use Rattle.f3_tree.specs.Statements.{AssociationTree}
use Rattle.f3_type_rules.specs.Definitions.{Site}
use Rattle.f3_type_rules.specs.Associates.{entities_at, associated}
use Rattle.f3_associates.specs.Known.{IsSettled, AreKnown}
use Rattle.f3_associates.specs.Inner.Said.{with_said}

abbrev Is : Site → ℕ × Said → Type 0
Is s n = IsSome ((s.context).nature n.0)

one_known : (s : Site) (d : Said) (l : Lookup) → ((e : ℕ) → l ≡ One e → IsSome ((s.context).nature e)) → All (Is s) (map (with_said d) (entities_at l))
one_known s d (One e) h = All-cons (Is s) (e, d) [] (h e refl) (All-nil (Is s))
one_known s d Nothing h = All-nil (Is s)
one_known s d Several h = All-nil (Is s)

settled_known : (s : Site) (number : ℕ) (xs : List AssociationTree) → IsSettled s → AreKnown s (flat_map (associated s.context number) xs)
settled_known s number [] h = All-nil (Is s)
settled_known s number (x ∷ xs) h =
    All-append (Is s) (associated s.context number x) (flat_map (associated s.context number) xs)
    (one_known s (said s.context x.selector) ((s.context).look number (x.name).symbol) (h number (x.name).symbol)) (settled_known s number xs h)

pub known_of : (s : Site) (number : ℕ) (xs : List AssociationTree) (names : List (ℕ × Said)) → names ≡ flat_map (associated s.context number) xs → IsSettled s → AreKnown s names
known_of s number xs names e h = All-same (Is s) names (flat_map (associated s.context number) xs) e (settled_known s number xs h)
