-- Objects without the bounds behind them.
use Rattle.std.specs.Prelude.{List, [], ◌∷◌, Option, None}
use Rattle.f3_tree.specs.declared.expression.Name.{Name}

-- parts without what is given behind the last
abbrev pub unbound : {X : Type 0} → List (Name × Option X) → List (Name × Option X)
unbound [] = []
unbound (p ∷ []) = (p.0, None) ∷ []
unbound (p ∷ q ∷ ps) = p ∷ unbound (q ∷ ps)
