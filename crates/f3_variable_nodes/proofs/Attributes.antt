-- Attributes that stand in a declaration.
use Rattle.std.proofs.Common.{◌≡◌, ap, ◌∙◌}
use Rattle.f3_tree.specs.Declarations.{parameter, save}
use Rattle.f3_type_rules.specs.Attributes.{has, same_sort}
use Rattle.f3_type_rules.specs.Names.{attributes_of}
use Rattle.f3_declared.specs.declared.attributes.Kinds.{Kinds}
use Rattle.f3_declared.specs.declared.attributes.Reading.{Reading}
use Rattle.f3_declared.specs.Declarations.{IsRead, tree_of}
use Rattle.f3_declared.proofs.Sorts.{once_any}

pub has_parameter : (r : Reading) → IsRead r → r.kinds.parameter.once ≡ has parameter (tree_of r)
has_parameter r h = ap (λ (k : Kinds). k.parameter.once) h.kinds ∙ once_any (same_sort parameter) (attributes_of (tree_of r))

pub has_save : (r : Reading) → IsRead r → r.kinds.save.once ≡ has save (tree_of r)
has_save r h = ap (λ (k : Kinds). k.save.once) h.kinds ∙ once_any (same_sort save) (attributes_of (tree_of r))
