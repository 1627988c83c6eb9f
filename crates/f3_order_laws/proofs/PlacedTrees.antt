-- Whole expressions break rules at places of their own.
use Rattle.std.proofs.Common.{ℕ, Bool, not, ◌||◌, List, ◌++◌, None, Some}
use Rattle.std.specs.List.{flat_map}
use Rattle.f3_places.specs.declared.source.Place.{Place}
use Rattle.f3_rules.specs.declared.rule.Rule.TheVariants.{T2}
use Rattle.f3_rules.specs.declared.breaks.Break.{Break}
use Rattle.f3_tree.specs.Expressions.{Tree, integer, truth, text, designator, group, array, signed, negation, comparison, chain, Rest, no_more, more}
use Rattle.f3_tree.specs.Expressions.{Trees, no_trees, trees, Parts, no_parts, parts, Behind, bare, within, Arguments, no_arguments, arguments}
use Rattle.f3_tree.specs.Expressions.{ArgumentTree, value, triplet, Perhaps, absent, present}
use Rattle.f3_kinds.specs.declared.types.Wanted.{Wanted}
use Rattle.f3_kinds.specs.declared.types.Wanted.TheVariants as wanted
use Rattle.f3_kinds.specs.declared.said.Role.TheVariants as role
use Rattle.f3_kinds.specs.Things.{Context}
use Rattle.f3_kinds.specs.Rows.{at_place, unless, scalar_rows}
use Rattle.f3_kinds.specs.Operands.{array_rows, chain_rows}
use Rattle.f3_kinds.specs.Typing.{designator_said, designator_rows, level_of}
use Rattle.f3_kinds.specs.Typing.{said, said_rest, said_all, said_parts, said_behind, said_arguments, said_argument, said_perhaps}
use Rattle.f3_kinds.specs.Typing.{breaks, breaks_rest, breaks_all, breaks_parts, breaks_behind, breaks_arguments, breaks_argument, breaks_perhaps}
use Rattle.f3_type_rules.specs.Constants.{speaks, constant_rows}
use Rattle.f3_order_laws.specs.Places.{keyword_places, unwritten, tree_places, rest_places, trees_places, parts_places, behind_places, arguments_places, argument_places, perhaps_places}
use Rattle.f3_order_laws.proofs.PlacedExpressions as placed

module _ (P : Place → Type 0) (c : Context) where
  abbrev Are : List Place → Type 0
  Are = placed.Are P

  abbrev At : List Break → Type 0
  At = placed.At P

  front : (ps qs : List Place) → Are (ps ++ qs) → Are ps
  front = placed.front P

  back : (ps qs : List Place) → Are (ps ++ qs) → Are qs
  back = placed.back P

  -- ---- what is said

  designator_place : (ps : Parts) → Are (unwritten ps ++ parts_places ps) → P (designator_said c role.Expression (said_parts c ps)).place
  designator_place no_parts a = a.0
  designator_place (parts n b ps) a = a.0

  mutual
    pub said_at : (e : Tree) → Are (tree_places e) → P (said c e).place
    said_at (integer p n) a = a.0
    said_at (truth p t) a = a.0
    said_at (text p k) a = a.0
    said_at (designator ps) a = designator_place ps a
    said_at (group p e) a = a.0
    said_at (array p es) a = a.0
    said_at (signed p s e) a = a.0
    said_at (negation p e) a = a.0
    said_at (comparison e relation f) a = said_at e (front (tree_places e) (tree_places f) a)
    said_at (chain e os) a = said_at e (front (tree_places e) (rest_places os) a)

    rest_at : (os : Rest) → Are (rest_places os) → placed.AllSaidAt P (said_rest c os)
    rest_at no_more a = tt
    rest_at (more o e os) a = (said_at e (front (tree_places e) (rest_places os) a), rest_at os (back (tree_places e) (rest_places os) a))

    all_at : (es : Trees) → Are (trees_places es) → placed.AllSaidAt P (said_all c es)
    all_at no_trees a = tt
    all_at (trees e es) a = (said_at e (front (tree_places e) (trees_places es) a), all_at es (back (tree_places e) (trees_places es) a))

    parts_at : (ps : Parts) → Are (parts_places ps) → placed.PartsAt P (said_parts c ps)
    parts_at no_parts a = tt
    parts_at (parts n b ps) a = (a.0, behind_at b (front (behind_places b) (parts_places ps) a.1), parts_at ps (back (behind_places b) (parts_places ps) a.1))

    behind_at : (b : Behind) → Are (behind_places b) → placed.BehindAt P (said_behind c b)
    behind_at bare a = tt
    behind_at (within list) a = arguments_at list a

    arguments_at : (list : Arguments) → Are (arguments_places list) → placed.GivensAt P (said_arguments c list)
    arguments_at no_arguments a = tt
    arguments_at (arguments x others) a =
        (argument_at x (front (argument_places x) (arguments_places others) a), arguments_at others (back (argument_places x) (arguments_places others) a))

    argument_at : (x : ArgumentTree) → Are (argument_places x) → placed.GivenAt P (said_argument c x)
    argument_at (value None e) a = said_at e a
    argument_at (value (Some keyword) e) a = (a.0, said_at e a.1)
    argument_at (triplet p first last stride) a =
        let rest = back (perhaps_places first) (perhaps_places last ++ perhaps_places stride) a.1 in (
          a.0,
          perhaps_at first (front (perhaps_places first) (perhaps_places last ++ perhaps_places stride) a.1),
          perhaps_at last (front (perhaps_places last) (perhaps_places stride) rest),
          perhaps_at stride (back (perhaps_places last) (perhaps_places stride) rest),
        )

    perhaps_at : (x : Perhaps) → Are (perhaps_places x) → placed.PerhapsAt P (said_perhaps c x)
    perhaps_at absent a = tt
    perhaps_at (present e) a = said_at e a

  -- ---- what is broken

  scalar_breaks : (want : Wanted) (e : Tree) → Are (tree_places e) → At (breaks c e) → At (breaks c e ++ scalar_rows want (said c e))
  scalar_breaks want e a inner = placed.both P (breaks c e) (scalar_rows want (said c e)) inner (placed.scalar_at P want (said c e) (said_at e a))

  chain_at : (e : Tree) (os : Rest) → Are (tree_places e) → Are (rest_places os) → At (chain_rows (level_of os) (said c e) (said_rest c os))
  chain_at e os a r =
      placed.both P (scalar_rows (level_of os) (said c e)) (flat_map (scalar_rows (level_of os)) (said_rest c os))
      (placed.scalar_at P (level_of os) (said c e) (said_at e a)) (placed.scalars_at P (level_of os) (said_rest c os) (rest_at os r))

  two_at : (e f : Tree) → Are (tree_places e) → Are (tree_places f) → At (scalar_rows wanted.Integer (said c e) ++ scalar_rows wanted.Integer (said c f))
  two_at e f a b =
      placed.both P (scalar_rows wanted.Integer (said c e)) (scalar_rows wanted.Integer (said c f))
      (placed.scalar_at P wanted.Integer (said c e) (said_at e a)) (placed.scalar_at P wanted.Integer (said c f) (said_at f b))

  mutual
    pub breaks_at : (e : Tree) → Are (tree_places e) → At (breaks c e)
    breaks_at (integer p n) a = tt
    breaks_at (truth p t) a = tt
    breaks_at (text p k) a = (a.0, tt)
    breaks_at (designator ps) a =
        let b = back (unwritten ps) (parts_places ps) a in
        placed.both P (breaks_parts c ps) (designator_rows c role.Expression (said_parts c ps))
        (breaks_parts_at ps b) (placed.designator_at P c role.Expression (said_parts c ps) (parts_at ps b))
    breaks_at (group p e) a = breaks_at e a.1
    breaks_at (array p es) a = placed.both P (breaks_all c es) (array_rows (said_all c es)) (breaks_all_at es a.1) (placed.array_at P (said_all c es) (all_at es a.1))
    breaks_at (signed p s e) a = scalar_breaks wanted.Integer e a.1 (breaks_at e a.1)
    breaks_at (negation p e) a = scalar_breaks wanted.Logical e a.1 (breaks_at e a.1)
    breaks_at (comparison e relation f) a =
        let x = front (tree_places e) (tree_places f) a in
        let y = back (tree_places e) (tree_places f) a in
        let own : List Break = scalar_rows wanted.Integer (said c e) ++ scalar_rows wanted.Integer (said c f) in
        placed.both P (breaks c e) (breaks c f ++ own) (breaks_at e x) (placed.both P (breaks c f) own (breaks_at f y) (two_at e f x y))
    breaks_at (chain e os) a =
        let x = front (tree_places e) (rest_places os) a in
        let y = back (tree_places e) (rest_places os) a in
        let own : List Break = chain_rows (level_of os) (said c e) (said_rest c os) in
        placed.both P (breaks c e) (breaks_rest c os ++ own) (breaks_at e x) (placed.both P (breaks_rest c os) own (breaks_rest_at os y) (chain_at e os x y))

    breaks_rest_at : (os : Rest) → Are (rest_places os) → At (breaks_rest c os)
    breaks_rest_at no_more a = tt
    breaks_rest_at (more o e os) a =
        placed.both P (breaks c e) (breaks_rest c os) (breaks_at e (front (tree_places e) (rest_places os) a)) (breaks_rest_at os (back (tree_places e) (rest_places os) a))

    breaks_all_at : (es : Trees) → Are (trees_places es) → At (breaks_all c es)
    breaks_all_at no_trees a = tt
    breaks_all_at (trees e es) a =
        placed.both P (breaks c e) (breaks_all c es) (breaks_at e (front (tree_places e) (trees_places es) a)) (breaks_all_at es (back (tree_places e) (trees_places es) a))

    breaks_parts_at : (ps : Parts) → Are (parts_places ps) → At (breaks_parts c ps)
    breaks_parts_at no_parts a = tt
    breaks_parts_at (parts n b ps) a =
        placed.both P (breaks_behind c b) (breaks_parts c ps)
        (breaks_behind_at b (front (behind_places b) (parts_places ps) a.1)) (breaks_parts_at ps (back (behind_places b) (parts_places ps) a.1))

    breaks_behind_at : (b : Behind) → Are (behind_places b) → At (breaks_behind c b)
    breaks_behind_at bare a = tt
    breaks_behind_at (within list) a = breaks_arguments_at list a

    breaks_arguments_at : (list : Arguments) → Are (arguments_places list) → At (breaks_arguments c list)
    breaks_arguments_at no_arguments a = tt
    breaks_arguments_at (arguments x others) a =
        placed.both P (breaks_argument c x) (breaks_arguments c others)
        (breaks_argument_at x (front (argument_places x) (arguments_places others) a)) (breaks_arguments_at others (back (argument_places x) (arguments_places others) a))

    breaks_argument_at : (x : ArgumentTree) → Are (argument_places x) → At (breaks_argument c x)
    breaks_argument_at (value keyword e) a = breaks_at e (back (keyword_places keyword) (tree_places e) a)
    breaks_argument_at (triplet p first last stride) a =
        let rest = back (perhaps_places first) (perhaps_places last ++ perhaps_places stride) a.1 in
        placed.both P (breaks_perhaps c first) (breaks_perhaps c last ++ breaks_perhaps c stride)
        (breaks_perhaps_at first (front (perhaps_places first) (perhaps_places last ++ perhaps_places stride) a.1))
        (placed.both P (breaks_perhaps c last) (breaks_perhaps c stride)
        (breaks_perhaps_at last (front (perhaps_places last) (perhaps_places stride) rest)) (breaks_perhaps_at stride (back (perhaps_places last) (perhaps_places stride) rest)))

    breaks_perhaps_at : (x : Perhaps) → Are (perhaps_places x) → At (breaks_perhaps c x)
    breaks_perhaps_at absent a = tt
    breaks_perhaps_at (present e) a = breaks_at e a

  pub constant_at : (phase : ℕ) (is_right : Bool) (e : Tree) → Are (tree_places e) → At (constant_rows phase c is_right e)
  constant_at phase is_right e a =
      let b : Break = at_place phase T2 (said c e).place in
      let t : Bool = not (speaks (said c e)) || is_right in
      placed.both P (breaks c e) (unless t b) (breaks_at e a) (placed.unless_at P t b (said_at e a))
