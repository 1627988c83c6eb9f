-- The names to which specification parts give an access or PROTECTED, and where access attributes stand (5.1.2.1, 5.2).
use Rattle.std.specs.Prelude.{List, [], ◌∷◌, map, Option, Some, None}
use Rattle.std.specs.List.{flat_map}
use Rattle.f3_places.specs.declared.source.Place.{Place}
use Rattle.f3_tree.specs.declared.expression.Name.{Name}
use Rattle.f3_tree.specs.declared.declaration.Accessibility.{Accessibility}
use Rattle.f3_tree.specs.Declarations.{AttributeTree, access, Placed, EntityTree, SpecificationTree, declares, accesses, protects, defines}

abbrev pub access_of : AttributeTree → List Accessibility
access_of (access a) = a ∷ []
access_of _ = []

-- the place of an access attribute
abbrev pub access_place : Placed → List Place
access_place p = map (λ (a : Accessibility). p.place) (access_of p.attribute)

abbrev pub accesses_of : List Placed → List Accessibility
accesses_of ps = flat_map (λ (p : Placed). access_of p.attribute) ps

abbrev pub access_list : Option (Place × Accessibility) → List Accessibility
access_list None = []
access_list (Some x) = x.1 ∷ []

abbrev pub access_places : Option (Place × Accessibility) → List Place
access_places None = []
access_places (Some x) = x.0 ∷ []

abbrev pub access_places_in : SpecificationTree → List Place
access_places_in (declares d) = flat_map access_place d.attributes
access_places_in (defines t) = access_places t.access
access_places_in _ = []

-- a name, once for each of these accesses
abbrev pub each_time : Name → List Accessibility → List Name
each_time n [] = []
each_time n (a ∷ others) = n ∷ each_time n others

abbrev pub given_to : List Accessibility → EntityTree → List Name
given_to times e = each_time e.name times

-- the names to which an access is given: a declared name by each access attribute, and each name of a list
abbrev pub given_in : SpecificationTree → List Name
given_in (declares d) = flat_map (given_to (accesses_of d.attributes)) d.entities
given_in (accesses a) = a.names
given_in (defines t) = each_time t.name (access_list t.access)
given_in _ = []

abbrev pub protects_in : SpecificationTree → List Name
protects_in (protects p names) = names
protects_in _ = []
