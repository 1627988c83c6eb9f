-- Attributes that stand somewhere.
use Rattle.std.proofs.Common.{◌≡◌, List, [], ◌∷◌, Bool, true, false, ◌||◌, length, filter, cond, refl, ap, ◌∙◌, arith}
use Rattle.std.specs.Prelude.{nat_lt}
use Rattle.std.specs.List.{list_any}
use Rattle.std.proofs.lemmas.Bool.Decides.{nat_tests}
use Rattle.f3_tree.specs.Declarations.{AttributeTree, access, protected, parameter, save, allocatable, dimension, intent}
use Rattle.f3_type_rules.specs.Names.{attributes_of, is_allocatable}
use Rattle.f3_type_rules.specs.Attributes.{same_sort}
use Rattle.f3_declared.specs.declared.attributes.Reading.{Reading}
use Rattle.f3_declared.specs.declared.attributes.Kinds.{Kinds}
use Rattle.f3_declared.specs.Declarations.{IsRead, tree_of}

pub once_any : {X : Type 0} (p : X → Bool) (xs : List X) → nat_lt 0 (length (filter p xs)) ≡ list_any p xs
once_any p [] = refl
once_any {X = X} p (x ∷ xs) = step (p x) (filter p xs) (list_any p xs) (once_any p xs)
  where
    step : (b : Bool) (ys : List X) (c : Bool) → nat_lt 0 (length ys) ≡ c → nat_lt 0 (length (cond b (x ∷ ys) ys)) ≡ (b || c)
    step true ys c h = grind (arith, nat_tests)
    step false ys c h = h

same_allocatable : (x : AttributeTree) → same_sort allocatable x ≡ is_allocatable x
same_allocatable (access a) = refl
same_allocatable protected = refl
same_allocatable parameter = refl
same_allocatable save = refl
same_allocatable allocatable = refl
same_allocatable (dimension s) = refl
same_allocatable (intent i) = refl

any_allocatable : (xs : List AttributeTree) → list_any (same_sort allocatable) xs ≡ list_any is_allocatable xs
any_allocatable [] = refl
any_allocatable (x ∷ xs) = ap (λ b. b || list_any (same_sort allocatable) xs) (same_allocatable x) ∙ ap (λ b. is_allocatable x || b) (any_allocatable xs)

pub allocatable_once : (r : Reading) → IsRead r → r.kinds.allocatable.once ≡ list_any is_allocatable (attributes_of (tree_of r))
allocatable_once r h =
    ap (λ (k : Kinds). k.allocatable.once) h.kinds ∙ once_any (same_sort allocatable) (attributes_of (tree_of r)) ∙ any_allocatable (attributes_of (tree_of r))
