-- Lists that are read one by one.
use Rattle.std.proofs.Common.{◌≡◌, ℕ, ◌+◌, ◌<◌, List, [], ◌∷◌, ◌++◌, map, length, drop, get_or, append_assoc, refl, ap, sym, ◌∙◌}
use Rattle.std.proofs.lemmas.List.{at_drop_more}
use Rattle.f3_tree.specs.declared.expression.Expression.{Expression}
use Rattle.f3_tree.specs.Expressions.{expression_view, trees_of}
use Rattle.f3_program.specs.declared.declarations.Constant.{Constant}
use Rattle.f3_kinds.specs.declared.types.DataType.{DataType}
use Rattle.f3_kinds.specs.Things.{Context}
use Rattle.f3_kinds.specs.Values.{converted, value_of}
use Rattle.f3_elaboration.specs.Declarations.{constant_of, constants}

pub map_map : {X Y Z : Type 0} (f : Y → Z) (g : X → Y) (xs : List X) → map (λ x. f (g x)) xs ≡ map f (map g xs)
map_map f g [] = refl
map_map f g (x ∷ xs) = ap (λ ys. f (g x) ∷ ys) (map_map f g xs)

pub all_constants : (c : Context) (t : DataType) (xs : List Expression)
    → map (λ (e : Expression). constant_of (converted t (value_of c (expression_view e)))) xs ≡ constants c t (trees_of (map expression_view xs))
all_constants c t [] = refl
all_constants c t (x ∷ xs) = ap (λ (cs : List Constant). constant_of (converted t (value_of c (expression_view x))) ∷ cs) (all_constants c t xs)

-- a loop over items, each of which makes some: one item more
pub grown_more : {Y Z : Type 0} (f : Y → List Z) (rows : List Y → List Z) → ((y : Y) (ys : List Y) → rows (y ∷ ys) ≡ f y ++ rows ys)
    → (ys : List Y) (i : ℕ) (y : Y) (before after whole : List Z) → i < length ys → y ≡ get_or ys i y
    → after ≡ before ++ f y → before ++ rows (drop i ys) ≡ whole → after ++ rows (drop (i + 1) ys) ≡ whole
grown_more f rows more ys i y before after whole lt is e h =
    ap (λ zs. zs ++ rows (drop (i + 1) ys)) (e ∙ ap (λ z. before ++ f z) is)
    ∙ append_assoc before (f (get_or ys i y)) (rows (drop (i + 1) ys))
    ∙ ap (λ zs. before ++ zs) (sym (at_drop_more rows ys i y lt ∙ more (get_or ys i y) (drop (i + 1) ys))) ∙ h
