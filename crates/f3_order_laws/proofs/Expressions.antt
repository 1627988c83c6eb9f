-- What is said of an expression, and what it breaks, does not hang on the values of named constants.
use Rattle.std.proofs.Common.{◌≡◌, refl, ℕ, Bool, ◌&&◌, List, [], ◌∷◌, ◌++◌, Option, Some, ap, ◌∙◌}
use Rattle.f3_rules.specs.declared.breaks.Break.{Break}
use Rattle.f3_tree.specs.declared.expression.Name.{Name}
use Rattle.f3_tree.specs.Expressions.{Tree, integer, truth, text, designator, group, array, signed, negation, comparison, chain, Rest, no_more, more}
use Rattle.f3_tree.specs.Expressions.{Trees, no_trees, trees, Parts, no_parts, parts, Behind, bare, within, Arguments, no_arguments, arguments}
use Rattle.f3_tree.specs.Expressions.{ArgumentTree, value, triplet, Perhaps, absent, present}
use Rattle.f3_kinds.specs.declared.types.Object.{Object}
use Rattle.f3_kinds.specs.declared.types.Scalar.{Scalar}
use Rattle.f3_kinds.specs.declared.types.Wanted.TheVariants as wanted
use Rattle.f3_kinds.specs.declared.said.Has.{Has}
use Rattle.f3_kinds.specs.declared.said.Said.{Said}
use Rattle.f3_kinds.specs.declared.said.Given.{Given}
use Rattle.f3_kinds.specs.declared.said.Given.TheVariants.{Value, Triplet}
use Rattle.f3_kinds.specs.declared.said.Reach.{Reach}
use Rattle.f3_kinds.specs.declared.said.Role.{Role}
use Rattle.f3_kinds.specs.declared.said.Role.TheVariants as role
use Rattle.f3_kinds.specs.Things.{Context}
use Rattle.f3_kinds.specs.Rows.{scalar_rows}
use Rattle.f3_kinds.specs.Operands.{chain_said, chain_rows, comparison_said, signed_said, not_said, group_said, array_said, array_rows}
use Rattle.f3_kinds.specs.Designators.{Part, step, step_rows, along, along_rows, enter, enter_rows, start, reach_rows, reached_parts, is_allocation, is_last, object_reach, object_rows, reach_has}
use Rattle.f3_kinds.specs.Typing.{Sense, unmeant, object, reference, intrinsic_reference, construction, sense, sense_has, sense_parts, sense_rows, named_said, designator_said, designator_rows, level_of}
use Rattle.f3_kinds.specs.Typing.{said, said_rest, said_all, said_parts, said_behind, said_arguments, said_argument, said_perhaps}
use Rattle.f3_kinds.specs.Typing.{breaks, breaks_rest, breaks_all, breaks_parts, breaks_behind, breaks_arguments, breaks_argument, breaks_perhaps}

-- what is known somewhere, with these values
abbrev pub valued : Context → (ℕ → Option Scalar) → Context
valued c v = record c { value = v }

-- lists of breaks one behind the other
pub joined : {xs ys zs ws : List Break} → xs ≡ ys → zs ≡ ws → xs ++ zs ≡ ys ++ ws
joined {xs} {ys} {zs} {ws} e f = ap (λ (l : List Break). l ++ zs) e ∙ ap (λ (l : List Break). ys ++ l) f

abbrev part : Name → Option (List Given) → Part
part n g = (n, g)

module _ (c : Context) (v w : ℕ → Option Scalar) where
  abbrev a : Context
  a = valued c v

  abbrev b : Context
  b = valued c w

  -- ---- designators

  along_same : (u : Role) (ps : List Part) (r : Option Reach) → along a u ps r ≡ along b u ps r
  along_same u [] r = refl
  along_same u (p ∷ ps) r = along_same u ps (step a (is_allocation u && is_last ps) p r)

  along_rows_same : (u : Role) (ps : List Part) (r : Option Reach) → along_rows a u ps r ≡ along_rows b u ps r
  along_rows_same u [] r = refl
  along_rows_same u (p ∷ ps) r =
      ap (λ (bs : List Break). step_rows a (is_allocation u && is_last ps) p r ++ bs) (along_rows_same u ps (step a (is_allocation u && is_last ps) p r))

  reach_same : (u : Role) (o : Object) (p : Part) (ps : List Part) → object_reach a u o p ps ≡ object_reach b u o p ps
  reach_same u o p ps = along_same u ps (enter (is_allocation u && is_last ps) (start o) o p.1)

  object_rows_same : (u : Role) (o : Object) (p : Part) (ps : List Part) → object_rows a u o p ps ≡ object_rows b u o p ps
  object_rows_same u o p ps =
      ap (λ (bs : List Break). enter_rows (is_allocation u && is_last ps) o p ++ (bs ++ reach_rows u p.0 (object_reach a u o p ps)))
      (along_rows_same u ps (enter (is_allocation u && is_last ps) (start o) o p.1))
      ∙ ap (λ (r : Option Reach). enter_rows (is_allocation u && is_last ps) o p ++ (along_rows b u ps (enter (is_allocation u && is_last ps) (start o) o p.1) ++ reach_rows u p.0 r))
      (reach_same u o p ps)

  has_same : (u : Role) (p : Part) (ps : List Part) (s : Sense) → sense_has a u p ps s ≡ sense_has b u p ps s
  has_same u p ps (unmeant d) = refl
  has_same u p ps (object form o) = ap (reach_has form u) (reach_same u o p ps)
  has_same u p ps (reference ds o gs) = refl
  has_same u p ps (intrinsic_reference i gs) = refl
  has_same u p ps (construction t inside ks f gs) = refl

  sense_parts_same : (u : Role) (p : Part) (ps : List Part) (s : Sense) → sense_parts a u p ps s ≡ sense_parts b u p ps s
  sense_parts_same u p ps (unmeant d) = refl
  sense_parts_same u p ps (object form o) = ap (reached_parts (is_allocation u && is_last ps) o p ps) (reach_same u o p ps)
  sense_parts_same u p ps (reference ds o gs) = refl
  sense_parts_same u p ps (intrinsic_reference i gs) = refl
  sense_parts_same u p ps (construction t inside ks f gs) = refl

  sense_rows_same : (u : Role) (p : Part) (ps : List Part) (s : Sense) → sense_rows a u p ps s ≡ sense_rows b u p ps s
  sense_rows_same u p ps (unmeant d) = refl
  sense_rows_same u p ps (object form o) = object_rows_same u o p ps
  sense_rows_same u p ps (reference ds o gs) = refl
  sense_rows_same u p ps (intrinsic_reference i gs) = refl
  sense_rows_same u p ps (construction t inside ks f gs) = refl

  designator_same : (u : Role) (ps : List Part) → designator_said a u ps ≡ designator_said b u ps
  designator_same u [] = refl
  designator_same u (p ∷ ps) =
      ap (λ (t : Bool). named_said p.0 t (sense_has a u p ps (sense a u p ps))) (sense_parts_same u p ps (sense a u p ps))
      ∙ ap (λ (h : Option Has). named_said p.0 (sense_parts b u p ps (sense b u p ps)) h) (has_same u p ps (sense a u p ps))

  rows_same : (u : Role) (ps : List Part) → designator_rows a u ps ≡ designator_rows b u ps
  rows_same u [] = refl
  rows_same u (p ∷ ps) = sense_rows_same u p ps (sense a u p ps)

  -- ---- what is said of expressions

  mutual
    pub said_same : (e : Tree) → said a e ≡ said b e
    said_same (integer p n) = refl
    said_same (truth p t) = refl
    said_same (text p k) = refl
    said_same (designator ps) = ap (designator_said a role.Expression) (parts_same ps) ∙ designator_same role.Expression (said_parts b ps)
    said_same (group p e) = ap (group_said p) (said_same e)
    said_same (array p es) = ap (array_said p) (all_same es)
    said_same (signed p s e) = ap (signed_said p) (said_same e)
    said_same (negation p e) = ap (not_said p) (said_same e)
    said_same (comparison e relation f) = ap (λ (s : Said). comparison_said s (said a f)) (said_same e) ∙ ap (comparison_said (said b e)) (said_same f)
    said_same (chain e os) = ap (λ (s : Said). chain_said (level_of os) s (said_rest a os)) (said_same e) ∙ ap (chain_said (level_of os) (said b e)) (rest_same os)

    rest_same : (os : Rest) → said_rest a os ≡ said_rest b os
    rest_same no_more = refl
    rest_same (more o e os) = ap (λ (s : Said). s ∷ said_rest a os) (said_same e) ∙ ap (λ (ss : List Said). said b e ∷ ss) (rest_same os)

    all_same : (es : Trees) → said_all a es ≡ said_all b es
    all_same no_trees = refl
    all_same (trees e es) = ap (λ (s : Said). s ∷ said_all a es) (said_same e) ∙ ap (λ (ss : List Said). said b e ∷ ss) (all_same es)

    parts_same : (ps : Parts) → said_parts a ps ≡ said_parts b ps
    parts_same no_parts = refl
    parts_same (parts n h ps) =
        ap (λ (g : Option (List Given)). part n g ∷ said_parts a ps) (behind_same h) ∙ ap (λ (xs : List Part). part n (said_behind b h) ∷ xs) (parts_same ps)

    behind_same : (h : Behind) → said_behind a h ≡ said_behind b h
    behind_same bare = refl
    behind_same (within list) = ap (λ (gs : List Given). Some gs) (arguments_same list)

    arguments_same : (list : Arguments) → said_arguments a list ≡ said_arguments b list
    arguments_same no_arguments = refl
    arguments_same (arguments x others) =
        ap (λ (g : Given). g ∷ said_arguments a others) (argument_same x) ∙ ap (λ (gs : List Given). said_argument b x ∷ gs) (arguments_same others)

    argument_same : (x : ArgumentTree) → said_argument a x ≡ said_argument b x
    argument_same (value keyword e) = ap (λ (s : Said). Value keyword s) (said_same e)
    argument_same (triplet p first last stride) =
        ap (λ (s : Option Said). Triplet p s (said_perhaps a last) (said_perhaps a stride)) (perhaps_same first)
        ∙ ap (λ (s : Option Said). Triplet p (said_perhaps b first) s (said_perhaps a stride)) (perhaps_same last)
        ∙ ap (λ (s : Option Said). Triplet p (said_perhaps b first) (said_perhaps b last) s) (perhaps_same stride)

    perhaps_same : (x : Perhaps) → said_perhaps a x ≡ said_perhaps b x
    perhaps_same absent = refl
    perhaps_same (present e) = ap (λ (s : Said). Some s) (said_same e)

  -- ---- what they break

  designator_breaks_same : (ps : Parts) → designator_rows a role.Expression (said_parts a ps) ≡ designator_rows b role.Expression (said_parts b ps)
  designator_breaks_same ps = ap (designator_rows a role.Expression) (parts_same ps) ∙ rows_same role.Expression (said_parts b ps)

  chain_breaks_same : (e : Tree) (os : Rest) → chain_rows (level_of os) (said a e) (said_rest a os) ≡ chain_rows (level_of os) (said b e) (said_rest b os)
  chain_breaks_same e os = ap (λ (s : Said). chain_rows (level_of os) s (said_rest a os)) (said_same e) ∙ ap (chain_rows (level_of os) (said b e)) (rest_same os)

  mutual
    pub breaks_same : (e : Tree) → breaks a e ≡ breaks b e
    breaks_same (integer p n) = refl
    breaks_same (truth p t) = refl
    breaks_same (text p k) = refl
    breaks_same (designator ps) = joined (breaks_parts_same ps) (designator_breaks_same ps)
    breaks_same (group p e) = breaks_same e
    breaks_same (array p es) = joined (breaks_all_same es) (ap array_rows (all_same es))
    breaks_same (signed p s e) = joined (breaks_same e) (ap (scalar_rows wanted.Integer) (said_same e))
    breaks_same (negation p e) = joined (breaks_same e) (ap (scalar_rows wanted.Logical) (said_same e))
    breaks_same (comparison e relation f) =
        joined (breaks_same e)
        (joined (breaks_same f) (joined (ap (scalar_rows wanted.Integer) (said_same e)) (ap (scalar_rows wanted.Integer) (said_same f))))
    breaks_same (chain e os) = joined (breaks_same e) (joined (breaks_rest_same os) (chain_breaks_same e os))

    breaks_rest_same : (os : Rest) → breaks_rest a os ≡ breaks_rest b os
    breaks_rest_same no_more = refl
    breaks_rest_same (more o e os) = joined (breaks_same e) (breaks_rest_same os)

    breaks_all_same : (es : Trees) → breaks_all a es ≡ breaks_all b es
    breaks_all_same no_trees = refl
    breaks_all_same (trees e es) = joined (breaks_same e) (breaks_all_same es)

    breaks_parts_same : (ps : Parts) → breaks_parts a ps ≡ breaks_parts b ps
    breaks_parts_same no_parts = refl
    breaks_parts_same (parts n h ps) = joined (breaks_behind_same h) (breaks_parts_same ps)

    breaks_behind_same : (h : Behind) → breaks_behind a h ≡ breaks_behind b h
    breaks_behind_same bare = refl
    breaks_behind_same (within list) = breaks_arguments_same list

    breaks_arguments_same : (list : Arguments) → breaks_arguments a list ≡ breaks_arguments b list
    breaks_arguments_same no_arguments = refl
    breaks_arguments_same (arguments x others) = joined (breaks_argument_same x) (breaks_arguments_same others)

    breaks_argument_same : (x : ArgumentTree) → breaks_argument a x ≡ breaks_argument b x
    breaks_argument_same (value keyword e) = breaks_same e
    breaks_argument_same (triplet p first last stride) =
        joined (breaks_perhaps_same first) (joined (breaks_perhaps_same last) (breaks_perhaps_same stride))

    breaks_perhaps_same : (x : Perhaps) → breaks_perhaps a x ≡ breaks_perhaps b x
    breaks_perhaps_same absent = refl
    breaks_perhaps_same (present e) = breaks_same e
