-- Which variables are taken, by what was read of their declarations.
use Rattle.std.proofs.Common.{◌≡◌, Bool, true, false, not, ◌&&◌, if◌then◌else◌, ap, sym, ◌∙◌}
use Rattle.f3_tree.specs.Declarations.{parameter, save}
use Rattle.f3_type_rules.specs.Attributes.{has, same_sort}
use Rattle.f3_type_rules.specs.Names.{Declared, attributes_of}
use Rattle.f3_type_rules.specs.Walks.{is_among}
use Rattle.f3_declared.specs.declared.attributes.Reading.{Reading}
use Rattle.f3_declared.specs.declared.attributes.Kinds.{Kinds}
use Rattle.f3_declared.specs.Declarations.{IsRead, tree_of}
use Rattle.f3_declared.proofs.Sorts.{once_any}
use Rattle.f3_program_numbers.specs.Chosen.{Choice, is_saved_name, takes}

pub parameter_once : (r : Reading) → IsRead r → r.kinds.parameter.once ≡ has parameter (tree_of r)
parameter_once r h = ap (λ (k : Kinds). k.parameter.once) h.kinds ∙ once_any (same_sort parameter) (attributes_of (tree_of r))

pub save_once : (r : Reading) → IsRead r → r.kinds.save.once ≡ has save (tree_of r)
save_once r h = ap (λ (k : Kinds). k.save.once) h.kinds ∙ once_any (same_sort save) (attributes_of (tree_of r))

abbrev by_choice : Choice → Declared → (constant saved : Bool) → Bool
by_choice w x c s = not c && (if s then w.saved else (w.unsaved && not (is_among w.header x.1)))

pub constant_not : (w : Choice) (x : Declared) (c : Bool) → c ≡ has parameter x.0 → c ≡ true → false ≡ takes w x
constant_not w x c is h = sym (ap (λ b. by_choice w x b (is_saved_name x)) (sym is ∙ h))

pub saved_taken : (w : Choice) (x : Declared) (c s : Bool) → c ≡ has parameter x.0 → c ≡ false → s ≡ is_saved_name x → s ≡ true → w.saved ≡ takes w x
saved_taken w x c s is h so k =
    sym (ap (λ b. by_choice w x b (is_saved_name x)) (sym is ∙ h) ∙ ap (λ b. by_choice w x false b) (sym so ∙ k))

pub other_taken : (w : Choice) (x : Declared) (c s i : Bool) → c ≡ has parameter x.0 → c ≡ false → s ≡ is_saved_name x → s ≡ false → w.unsaved ≡ true
    → i ≡ is_among w.header x.1 → not i ≡ takes w x
other_taken w x c s i is h so k u among =
    sym (ap (λ b. by_choice w x b (is_saved_name x)) (sym is ∙ h) ∙ ap (λ b. by_choice w x false b) (sym so ∙ k)
    ∙ ap (λ b. b && not (is_among w.header x.1)) u ∙ ap not (sym among))
