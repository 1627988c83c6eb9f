-- What attributes say of a declared name.
use Rattle.std.proofs.Common.{◌≡◌, ◌≤◌, refl, sym, ap, ◌∙◌, ℕ, List, [], ◌∷◌, map, length, drop, Option, None, Some}
use Rattle.std.proofs.lemmas.List.{at_drop_all}
use Rattle.std.specs.Option.{option_map}
use Rattle.std.specs.List.{flat_map}
use Rattle.f3_tree.specs.Declarations.{ShapeTree, EntityTree, DeclarationTree}
use Rattle.f3_type_rules.specs.Names.{Names, last_of, attributes_of, dimension_in}
use Rattle.f3_natures.specs.Objects.{common_of, described_by, described_of}

pub last_of_map : {X Y : Type 0} (f : X → Y) (o : Option X) (xs : List X) → last_of (option_map f o) (map f xs) ≡ option_map f (last_of o xs)
last_of_map f o [] = refl
last_of_map f o (x ∷ xs) = last_of_map f (Some x) xs

dimensioned : (names : Names) (scope : ℕ) (d : DeclarationTree) (x : EntityTree) (o : Option ShapeTree) → last_of None (flat_map dimension_in (attributes_of d)) ≡ o → x.shape ≡ None
    → described_by (common_of names scope d) x ≡ described_of names scope (d, x)
dimensioned names scope d x None e s = rw (s, e) refl
dimensioned names scope d x (Some t) e s = rw (s, e) refl

shaped : (names : Names) (scope : ℕ) (d : DeclarationTree) (x : EntityTree) (o : Option ShapeTree) → x.shape ≡ o
    → described_by (common_of names scope d) x ≡ described_of names scope (d, x)
shaped names scope d x None s = dimensioned names scope d x (last_of None (flat_map dimension_in (attributes_of d))) refl s
shaped names scope d x (Some t) s = rw s refl

pub described_same : (names : Names) (scope : ℕ) (d : DeclarationTree) (x : EntityTree) → described_by (common_of names scope d) x ≡ described_of names scope (d, x)
described_same names scope d x = shaped names scope d x x.shape refl

-- a loop that keeps the last, at the end of the list
pub last_done : {X Y : Type 0} (f : List X → List Y) (xs : List X) (i : ℕ) (o whole : Option Y) → length xs ≤ i → f [] ≡ [] → last_of o (f (drop i xs)) ≡ whole → o ≡ whole
last_done f xs i o whole le e h = sym (ap (last_of o) (at_drop_all f xs i le ∙ e)) ∙ h
