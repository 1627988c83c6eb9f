-- Lists in memory, and lists of a tree.
use Rattle.std.proofs.Common.{◌≡◌, refl, ℕ, ◌+◌, ◌<◌, length, drop, get_or, List, [], ◌∷◌, ◌++◌, map, Option, None, Some, ap, ◌∙◌, sym}
use Rattle.std.proofs.lemmas.List.{map-append}
use Rattle.std.specs.Global.{Vec}
use Rattle.std.specs.List.{flat_map}
use Rattle.f3_rules.specs.declared.breaks.Break.{Break}
use Rattle.f3_tree.specs.declared.expression.Name.{Name}
use Rattle.f3_tree.specs.declared.expression.Operator.{Operator}
use Rattle.f3_tree.specs.declared.expression.Expression.{Expression}
use Rattle.f3_tree.specs.declared.expression.Argument.{Argument}
use Rattle.f3_tree.specs.Expressions.{Tree, Parts, no_parts, designator, ArgumentTree, expression_view, argument_view, trees_of, rest_of, arguments_of, parts_list, part_view, behind_list}
use Rattle.f3_scopes.specs.Names.{operand_view}
use Rattle.f3_kinds.specs.declared.said.Said.{Said}
use Rattle.f3_kinds.specs.declared.said.Given.{Given}
use Rattle.f3_kinds.specs.Things.{Context}
use Rattle.f3_kinds.specs.Designators.{Part}
use Rattle.f3_kinds.specs.Typing.{said, said_rest, said_all, said_parts, said_behind, said_arguments, breaks, breaks_rest, breaks_all, breaks_parts, breaks_behind, breaks_arguments, breaks_argument, designator_rows}
use Rattle.f3_typing.specs.Lists.{said_item, breaks_item, said_operand, breaks_operand, said_given, breaks_given, said_part, breaks_part, parts_in}
use Rattle.f3_kinds.specs.declared.said.Role.TheVariants as role
use Rattle.f3_typed_parts.specs.declared.known.Part.{Part as Described}
use Rattle.f3_typed_parts.specs.Known.{part_of}
use Rattle.f3_typed_parts.proofs.Noting.{noted_more, noted_none, pushed_more}
use Rattle.f3_typed_parts.specs.Noted.{noted}

pub rest_same : (c : Context) (xs : List (Operator × Expression)) → said_rest c (rest_of (map operand_view xs)) ≡ map (said_operand c) xs
rest_same c [] = refl
rest_same c (x ∷ xs) = ap (λ (ss : List Said). said_operand c x ∷ ss) (rest_same c xs)

pub rest_breaks : (c : Context) (xs : List (Operator × Expression)) → breaks_rest c (rest_of (map operand_view xs)) ≡ flat_map (breaks_operand c) xs
rest_breaks c [] = refl
rest_breaks c (x ∷ xs) = ap (λ (bs : List Break). breaks_operand c x ++ bs) (rest_breaks c xs)

pub all_same : (c : Context) (xs : List Expression) → said_all c (trees_of (map expression_view xs)) ≡ map (said_item c) xs
all_same c [] = refl
all_same c (x ∷ xs) = ap (λ (ss : List Said). said_item c x ∷ ss) (all_same c xs)

pub all_breaks : (c : Context) (xs : List Expression) → breaks_all c (trees_of (map expression_view xs)) ≡ flat_map (breaks_item c) xs
all_breaks c [] = refl
all_breaks c (x ∷ xs) = ap (λ (bs : List Break). breaks_item c x ++ bs) (all_breaks c xs)

pub arguments_same : (c : Context) (xs : List Argument) → said_arguments c (arguments_of (map argument_view xs)) ≡ map (said_given c) xs
arguments_same c [] = refl
arguments_same c (x ∷ xs) = ap (λ (gs : List Given). said_given c x ∷ gs) (arguments_same c xs)

pub arguments_breaks : (c : Context) (xs : List Argument) → breaks_arguments c (arguments_of (map argument_view xs)) ≡ flat_map (breaks_given c) xs
arguments_breaks c [] = refl
arguments_breaks c (x ∷ xs) = ap (λ (bs : List Break). breaks_given c x ++ bs) (arguments_breaks c xs)

part_same : (c : Context) (n : Name) (b : Option (Vec Argument)) (rest : List Part) → (n, said_behind c (behind_list (part_view (n, b)).1)) ∷ rest ≡ said_part c (n, b) ∷ rest
part_same c n None rest = refl
part_same c n (Some v) rest = ap (λ (gs : List Given). (n, Some gs) ∷ rest) (arguments_same c v.items)

pub parts_same : (c : Context) (xs : List (Name × Option (Vec Argument))) → said_parts c (parts_list (map part_view xs)) ≡ map (said_part c) xs
parts_same c [] = refl
parts_same c (x ∷ xs) = part_same c x.0 x.1 (said_parts c (parts_list (map part_view xs))) ∙ ap (λ (ps : List Part). said_part c x ∷ ps) (parts_same c xs)

part_breaks : (c : Context) (n : Name) (b : Option (Vec Argument)) → breaks_behind c (behind_list (part_view (n, b)).1) ≡ breaks_part c (n, b)
part_breaks c n None = refl
part_breaks c n (Some v) = arguments_breaks c v.items

pub parts_breaks : (c : Context) (xs : List (Name × Option (Vec Argument))) → breaks_parts c (parts_list (map part_view xs)) ≡ flat_map (breaks_part c) xs
parts_breaks c [] = refl
parts_breaks c (x ∷ xs) = ap (λ (bs : List Break). bs ++ breaks_parts c (parts_list (map part_view xs))) (part_breaks c x.0 x.1) ∙ ap (λ (bs : List Break). breaks_part c x ++ bs) (parts_breaks c xs)

-- what is shown of a tree holds of what it is the view of
pub said_view : (c : Context) (e e' : Expression) (t : Tree) (s : Said) → e ≡ e' → expression_view e' ≡ t → s ≡ said c t → s ≡ said c (expression_view e)
said_view c e e' t s is v h = h ∙ ap (said c) (sym (ap expression_view is ∙ v))

pub breaks_view : (c : Context) (e e' : Expression) (t : Tree) (before after : Option Break) → e ≡ e' → expression_view e' ≡ t → after ≡ noted before (breaks c t) → after ≡ noted before (breaks c (expression_view e))
breaks_view c e e' t before after is v h = h ∙ ap (λ (x : Tree). noted before (breaks c x)) (sym (ap expression_view is ∙ v))

pub given_view : (c : Context) (a a' : Argument) (t : ArgumentTree) (before after : Option Break) → a ≡ a' → argument_view a' ≡ t → after ≡ noted before (breaks_argument c t) → after ≡ noted before (breaks_argument c (argument_view a))
given_view c a a' t before after is v h = h ∙ ap (λ (x : ArgumentTree). noted before (breaks_argument c x)) (sym (ap argument_view is ∙ v))

-- a designator: what was noted of its parts, and then of itself
pub designator_noted : (c : Context) (t : Tree) (ps : Parts) (ds : List Part) (before mid after : Option Break) → t ≡ designator ps → ds ≡ said_parts c (parts_in t) → mid ≡ noted before (breaks_parts c (parts_in t))
    → after ≡ noted mid (designator_rows c role.Expression ds) → after ≡ noted before (breaks c t)
designator_noted c t ps ds before mid after v s m a =
    a ∙ ap (λ x. noted x (designator_rows c role.Expression ds)) m
    ∙ ap (λ (xs : List Part). noted (noted before (breaks_parts c (parts_in t))) (designator_rows c role.Expression xs)) s
    ∙ noted_more before (breaks_parts c (parts_in t)) (designator_rows c role.Expression (said_parts c (parts_in t)))
    ∙ ap (λ (x : Tree). noted before (breaks_parts c (parts_in x) ++ designator_rows c role.Expression (said_parts c (parts_in x)))) v
    ∙ sym (ap (λ (x : Tree). noted before (breaks c x)) v)

-- a part, pushed
pub part_more : (c : Context) (xs : List (Name × Option (Vec Argument))) (i : ℕ) (x : Name × Option (Vec Argument)) (ys ys' : List Described) (y : Described) (whole : List Part) → i < length xs → x ≡ get_or xs i x
    → part_of y ≡ said_part c x → ys' ≡ ys ++ (y ∷ [])
    → map part_of ys ++ map (said_part c) (drop i xs) ≡ whole → map part_of ys' ++ map (said_part c) (drop (i + 1) xs) ≡ whole
part_more c xs i x ys ys' y whole lt is e t h =
    pushed_more (said_part c) xs i x (map part_of ys) (map part_of ys') whole (part_of y) lt is e (ap (map part_of) t ∙ map-append part_of ys (y ∷ [])) h

abbrev pair : Name → Option (List Given) → Part
pair m g = (m, g)

pub part_made : (c : Context) (n : Name) (b : Option (Vec Argument)) (v : Vec Argument) (y : Part) (gs : List Given) (xs : List Argument) → y ≡ (n, Some gs) → gs ≡ map (said_given c) xs → xs ≡ v.items → b ≡ Some v → y ≡ said_part c (n, b)
part_made c n b v y gs xs e s l i =
    e ∙ ap (λ (hs : List Given). pair n (Some hs)) (s ∙ ap (map (said_given c)) l) ∙ ap (λ (x : Option (Vec Argument)). said_part c (n, x)) (sym i)

pub part_noted : (c : Context) (n : Name) (b : Option (Vec Argument)) (v : Vec Argument) (xs : List Argument) (before after : Option Break) → after ≡ noted before (flat_map (breaks_given c) xs) → xs ≡ v.items → b ≡ Some v → after ≡ noted before (breaks_part c (n, b))
part_noted c n b v xs before after h l i =
    h ∙ ap (λ (ys : List Argument). noted before (flat_map (breaks_given c) ys)) l ∙ ap (λ (x : Option (Vec Argument)). noted before (breaks_part c (n, x))) (sym i)

-- what is no designator has no parts
pub other_said : (c : Context) (t t' : Tree) (ys : List Described) → ys ≡ [] → t ≡ t' → parts_in t' ≡ no_parts → map part_of ys ≡ said_parts c (parts_in t)
other_said c t t' ys e v n = ap (map part_of) e ∙ ap (said_parts c) (sym n) ∙ ap (λ (x : Tree). said_parts c (parts_in x)) (sym v)

pub other_noted : (c : Context) (t t' : Tree) (a : Option Break) → t ≡ t' → parts_in t' ≡ no_parts → a ≡ noted a (breaks_parts c (parts_in t))
other_noted c t t' a v n = sym (noted_none a) ∙ ap (λ (ps : Parts). noted a (breaks_parts c ps)) (sym n) ∙ ap (λ (x : Tree). noted a (breaks_parts c (parts_in x))) (sym v)
