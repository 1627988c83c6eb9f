-- An expression that has a value has the same where more named constants are known.
use Rattle.std.proofs.Common.{◌≡◌, ℕ, Bool, true, false, Option, None, Some, refl, sym, ap, ◌∙◌, if◌then◌else◌}
use Rattle.f3_lookups.specs.declared.lookup.Lookup.{Lookup}
use Rattle.f3_lookups.specs.declared.lookup.Lookup.TheVariants.{One, Nothing, Several}
use Rattle.f3_tree.specs.declared.expression.Operator.{Operator}
use Rattle.f3_tree.specs.declared.expression.Relation.{Relation}
use Rattle.f3_tree.specs.declared.expression.Sign.{Sign}
use Rattle.f3_tree.specs.declared.expression.Sign.TheVariants.{Plus, Minus}
use Rattle.f3_tree.specs.Expressions.{Tree, integer, truth, text, designator, group, array, signed, negation, comparison, chain, Rest, no_more, more}
use Rattle.f3_tree.specs.Expressions.{Parts, no_parts, parts, bare, within}
use Rattle.f3_kinds.specs.declared.types.DataType.{DataType}
use Rattle.f3_kinds.specs.declared.types.DataType.TheVariants.{Integer, Logical, Derived}
use Rattle.f3_kinds.specs.declared.types.Scalar.{Scalar}
use Rattle.f3_kinds.specs.declared.types.Scalar.TheVariants.{Number, Truth}
use Rattle.f3_kinds.specs.Things.{Context, look_here}
use Rattle.f3_kinds.specs.Values.{value_at, named_value, value_of, chain_value, is_power, apply, signed_value, denied, compared, converted}
use Rattle.f3_lawful_laws.proofs.Facts.{nothing}

-- what has a value has the same there
abbrev pub Within : Option Scalar → Option Scalar → Type 0
Within x y = (z : Scalar) → x ≡ Some z → y ≡ Some z

-- ---- operations

signed_within : (s : Sign) (x y : Option Scalar) → Within x y → Within (signed_value s x) (signed_value s y)
signed_within Plus None y m z h = nothing h
signed_within Minus None y m z h = nothing h
signed_within s (Some x) y m z h = ap (signed_value s) (m x refl) ∙ h

denied_within : (x y : Option Scalar) → Within x y → Within (denied x) (denied y)
denied_within None y m z h = nothing h
denied_within (Some x) y m z h = ap denied (m x refl) ∙ h

compared_within : (r : Relation) (x y u v : Option Scalar) → Within x u → Within y v → Within (compared r x y) (compared r u v)
compared_within r None y u v m n z h = nothing h
compared_within r (Some (Number k x)) None u v m n z h = nothing h
compared_within r (Some (Truth x)) None u v m n z h = nothing h
compared_within r (Some x) (Some y) u v m n z h = ap (λ o. compared r o v) (m x refl) ∙ ap (compared r (Some x)) (n y refl) ∙ h

apply_within : (o : Operator) (x y u v : Option Scalar) → Within x u → Within y v → Within (apply o x y) (apply o u v)
apply_within o None y u v m n z h = nothing h
apply_within o (Some (Number k x)) None u v m n z h = nothing h
apply_within o (Some (Truth x)) None u v m n z h = nothing h
apply_within o (Some x) (Some y) u v m n z h = ap (λ w. apply o w v) (m x refl) ∙ ap (apply o (Some x)) (n y refl) ∙ h

pub converted_within : (d : DataType) (x y : Option Scalar) → Within x y → Within (converted d x) (converted d y)
converted_within (Integer k) None y m z h = nothing h
converted_within Logical None y m z h = nothing h
converted_within (Derived t) None y m z h = nothing h
converted_within d (Some x) y m z h = ap (converted d) (m x refl) ∙ h

-- ---- expressions

module _ (a b : Context) (looks : (symbol : ℕ) → look_here a symbol ≡ look_here b symbol) (known : (e : ℕ) → Within (a.value e) (b.value e)) where
  value_at_within : (l : Lookup) → Within (value_at a l) (value_at b l)
  value_at_within (One e) z h = known e z h
  value_at_within Nothing z h = nothing h
  value_at_within Several z h = nothing h

  named_within : (ps : Parts) → Within (named_value a ps) (named_value b ps)
  named_within no_parts z h = nothing h
  named_within (parts n bare no_parts) z h = ap (value_at b) (sym (looks n.symbol)) ∙ value_at_within (look_here a n.symbol) z h
  named_within (parts n bare (parts m g ps)) z h = nothing h
  named_within (parts n (within list) ps) z h = nothing h

  mutual
    pub value_within : (e : Tree) → Within (value_of a e) (value_of b e)
    value_within (integer p n) z h = h
    value_within (truth p t) z h = h
    value_within (text p k) z h = nothing h
    value_within (designator ps) z h = named_within ps z h
    value_within (group p e) z h = value_within e z h
    value_within (array p es) z h = nothing h
    value_within (signed p s e) z h = signed_within s (value_of a e) (value_of b e) (λ y g. value_within e y g) z h
    value_within (negation p e) z h = denied_within (value_of a e) (value_of b e) (λ y g. value_within e y g) z h
    value_within (comparison e r f) z h =
        compared_within r (value_of a e) (value_of a f) (value_of b e) (value_of b f) (λ y g. value_within e y g) (λ y g. value_within f y g) z h
    value_within (chain e os) z h = chain_within os (value_of a e) (value_of b e) (λ y g. value_within e y g) z h

    chain_within : (os : Rest) (x y : Option Scalar) → Within x y → Within (chain_value a x os) (chain_value b y os)
    chain_within no_more x y m z h = m z h
    chain_within (more o e os) x y m z h =
        go (is_power o)
        (λ w g.
        apply_within o x (chain_value a (value_of a e) os) y (chain_value b (value_of b e) os) m
        (λ v f. chain_within os (value_of a e) (value_of b e) (λ u i. value_within e u i) v f) w g)
        (λ w g.
        chain_within os (apply o x (value_of a e)) (apply o y (value_of b e))
        (λ v f. apply_within o x (value_of a e) y (value_of b e) m (λ u i. value_within e u i) v f) w g) h
      where
        go : (t : Bool) → Within (apply o x (chain_value a (value_of a e) os)) (apply o y (chain_value b (value_of b e) os))
            → Within (chain_value a (apply o x (value_of a e)) os) (chain_value b (apply o y (value_of b e)) os)
            → (if t then apply o x (chain_value a (value_of a e) os) else chain_value a (apply o x (value_of a e)) os) ≡ Some z
            → (if t then apply o y (chain_value b (value_of b e) os) else chain_value b (apply o y (value_of b e)) os) ≡ Some z
        go true f g h = f z h
        go false f g h = g z h
