-- The type and the rank of an expression, and its breaks of phase 6 (ISO/IEC 1539-1:2004, 7.1.4): bottom up, what is said of an
-- expression hangs on what is said of its parts alone.
use Rattle.std.specs.Prelude.{ℕ, Bool, true, false, ◌==◌, List, [], ◌∷◌, ◌++◌, Option, None, Some, if◌then◌else◌}
use Rattle.f3_places.specs.declared.source.Place.{Place}
use Rattle.f3_rules.specs.declared.rule.Rule.TheVariants.{N10, N11, T6, T9}
use Rattle.f3_rules.specs.declared.breaks.Break.{Break}
use Rattle.f3_tree.specs.declared.expression.Name.{Name}
use Rattle.f3_tree.specs.Expressions.{Tree, integer, truth, text, designator, group, array, signed, negation, comparison, chain, Rest, no_more, more}
use Rattle.f3_tree.specs.Expressions.{Trees, no_trees, trees, Parts, no_parts, parts, Behind, bare, within, Arguments, no_arguments, arguments}
use Rattle.f3_tree.specs.Expressions.{ArgumentTree, value, triplet, Perhaps, absent, present}
use Rattle.f3_kinds.specs.declared.types.DataType.TheVariants.{Integer, Logical}
use Rattle.f3_kinds.specs.declared.types.Object.{Object}
use Rattle.f3_kinds.specs.declared.said.Form.{Form}
use Rattle.f3_kinds.specs.declared.said.Form.TheVariants.{Constant, Variable}
use Rattle.f3_kinds.specs.declared.types.Wanted.{Wanted}
use Rattle.f3_kinds.specs.declared.types.Wanted.TheVariants as wanted
use Rattle.f3_kinds.specs.declared.said.Has.{Has}
use Rattle.f3_kinds.specs.declared.said.Said.{Said}
use Rattle.f3_kinds.specs.declared.said.Given.{Given}
use Rattle.f3_kinds.specs.declared.said.Given.TheVariants.{Value, Triplet}
use Rattle.f3_kinds.specs.declared.said.Role.{Role}
use Rattle.f3_kinds.specs.declared.said.Role.TheVariants as role
use Rattle.f3_kinds.specs.declared.things.Component.{Component}
use Rattle.f3_kinds.specs.declared.things.Dummy.{Dummy}
use Rattle.f3_kinds.specs.declared.things.Intrinsic.{Intrinsic}
use Rattle.f3_kinds.specs.declared.things.Intrinsic.TheVariants as intrinsic_is
use Rattle.f3_kinds.specs.Things.{Nature, constant, variable, derived, subroutine, function, Context, Meaning, nothing, several, intrinsic, entity, meaning_of}
use Rattle.f3_kinds.specs.Rows.{at_place, at_name, computed, literal_kind, scalar_rows}
use Rattle.f3_kinds.specs.Operands.{unnamed, chain_said, chain_rows, comparison_said, signed_said, not_said, group_said, array_said, array_rows, wanted_by}
use Rattle.f3_kinds.specs.Designators.{Part, parts_typed, is_of_heap, object_reach, object_rows, object_parts, reach_has}
use Rattle.f3_kinds.specs.Calls.{are_right, function_has, function_rows, intrinsic_has, intrinsic_rows, intrinsic_parts, constructor_has}
use Rattle.f3_kinds.specs.Calls.{constructor_rows, constructor_parts}

-- ---- a designator, by what its first name means

-- what it is: nothing that may stand there, with the break that says so; an object; a reference to a function; a reference to an
-- intrinsic function; or a constructor of the type that is this entity
pub data Sense : Type 0 where
  unmeant : Break → Sense
  object : Form → Object → Sense
  reference : List (ℕ × Dummy) → Object → List Given → Sense
  intrinsic_reference : Intrinsic → List Given → Sense
  construction : ℕ → Bool → List (ℕ × Component) → Bool → List Given → Sense

-- With parentheses behind its only name a designator may be a reference or a constructor, in an expression.
abbrev pub called : Role → List Part → Option (List Given) → Option (List Given)
called role.Expression [] (Some gs) = Some gs
called _ _ _ = None

-- T9: a name that is no variable, function or type where one is needed; the name
abbrev pub sense_entity : ℕ → Role → Name → ℕ → Nature → Option (List Given) → Sense
sense_entity unit u n e (variable o) gs = object (Variable e) o
sense_entity unit u n e (constant o) gs = if is_of_heap u then unmeant (at_name 6 T9 n) else object Constant o
sense_entity unit u n e (function pure ds o) (Some gs) = reference ds o gs
sense_entity unit u n e (function pure ds o) None = unmeant (at_name 6 T9 n)
sense_entity unit u n e (derived home ks f) (Some gs) = construction e (home == unit) ks f gs
sense_entity unit u n e (derived home ks f) None = unmeant (at_name 6 T9 n)
sense_entity unit u n e (subroutine pure ds) gs = unmeant (at_name 6 T9 n)

abbrev pub sense_intrinsic : Name → Intrinsic → Option (List Given) → Sense
sense_intrinsic n intrinsic_is.MoveAlloc gs = unmeant (at_name 6 T9 n)
sense_intrinsic n i None = unmeant (at_name 6 T9 n)
sense_intrinsic n i (Some gs) = intrinsic_reference i gs

-- N10, N11: a name that nothing has, or several entities; the name
abbrev pub sense_of : ℕ → Role → Name → Meaning → Option (List Given) → Sense
sense_of unit u n nothing gs = unmeant (at_name 6 N10 n)
sense_of unit u n several gs = unmeant (at_name 6 N11 n)
sense_of unit u n (intrinsic i) gs = sense_intrinsic n i gs
sense_of unit u n (entity e nature) gs = sense_entity unit u n e nature gs

abbrev pub sense : Context → Role → Part → List Part → Sense
sense c u p ps = sense_of c.unit u p.0 (meaning_of c (p.0).symbol) (called u ps p.1)

abbrev pub sense_has : Context → Role → Part → List Part → Sense → Option Has
sense_has c u p ps (unmeant b) = None
sense_has c u p ps (object form o) = reach_has form u (object_reach c u o p ps)
sense_has c u p ps (reference ds o gs) = function_has ds o gs
sense_has c u p ps (intrinsic_reference i gs) = intrinsic_has i gs
sense_has c u p ps (construction t inside ks f gs) = constructor_has c.phase t inside ks f gs

-- whether the parts have types; of what has no meaning, where all that is given has
abbrev pub sense_parts : Context → Role → Part → List Part → Sense → Bool
sense_parts c u p ps (unmeant b) = parts_typed (p ∷ ps)
sense_parts c u p ps (object form o) = object_parts c u o p ps
sense_parts c u p ps (reference ds o gs) = are_right ds gs
sense_parts c u p ps (intrinsic_reference i gs) = intrinsic_parts i gs
sense_parts c u p ps (construction t inside ks f gs) = constructor_parts inside ks gs

abbrev pub sense_rows : Context → Role → Part → List Part → Sense → List Break
sense_rows c u p ps (unmeant b) = b ∷ []
sense_rows c u p ps (object form o) = object_rows c u o p ps
sense_rows c u p ps (reference ds o gs) = function_rows p.0 ds gs
sense_rows c u p ps (intrinsic_reference i gs) = intrinsic_rows p.0 i gs
sense_rows c u p ps (construction t inside ks f gs) = constructor_rows c.phase p.0 inside ks f gs

abbrev pub named_said : Name → Bool → Option Has → Said
named_said n typed has = record { place = n.place; lead = Some n.symbol; has = has; are_parts_typed = typed }

-- where no part is written, which no source spells
abbrev pub nowhere : Place
nowhere = record { file = 0; line = 0; column = 0 }

abbrev pub designator_said : Context → Role → List Part → Said
designator_said c u [] = unnamed nowhere false None
designator_said c u (p ∷ ps) = named_said p.0 (sense_parts c u p ps (sense c u p ps)) (sense_has c u p ps (sense c u p ps))

abbrev pub designator_rows : Context → Role → List Part → List Break
designator_rows c u [] = []
designator_rows c u (p ∷ ps) = sense_rows c u p ps (sense c u p ps)

-- ---- expressions

-- the operators of one level are of one sort
abbrev pub level_of : Rest → Wanted
level_of no_more = wanted.Integer
level_of (more o e os) = wanted_by o

abbrev mutual
  pub said : Context → Tree → Said
  said c (integer p n) = unnamed p true (Some (computed (Integer (literal_kind n)) 0))
  said c (truth p b) = unnamed p true (Some (computed Logical 0))
  said c (text p k) = unnamed p true None
  said c (designator ps) = designator_said c role.Expression (said_parts c ps)
  said c (group p e) = group_said p (said c e)
  said c (array p es) = array_said p (said_all c es)
  said c (signed p s e) = signed_said p (said c e)
  said c (negation p e) = not_said p (said c e)
  said c (comparison e relation f) = comparison_said (said c e) (said c f)
  said c (chain e os) = chain_said (level_of os) (said c e) (said_rest c os)

  pub said_rest : Context → Rest → List Said
  said_rest c no_more = []
  said_rest c (more o e os) = said c e ∷ said_rest c os

  pub said_all : Context → Trees → List Said
  said_all c no_trees = []
  said_all c (trees e es) = said c e ∷ said_all c es

  pub said_parts : Context → Parts → List Part
  said_parts c no_parts = []
  said_parts c (parts n b ps) = (n, said_behind c b) ∷ said_parts c ps

  pub said_behind : Context → Behind → Option (List Given)
  said_behind c bare = None
  said_behind c (within list) = Some (said_arguments c list)

  pub said_arguments : Context → Arguments → List Given
  said_arguments c no_arguments = []
  said_arguments c (arguments a others) = said_argument c a ∷ said_arguments c others

  pub said_argument : Context → ArgumentTree → Given
  said_argument c (value keyword e) = Value keyword (said c e)
  said_argument c (triplet p first last stride) = Triplet p (said_perhaps c first) (said_perhaps c last) (said_perhaps c stride)

  pub said_perhaps : Context → Perhaps → Option Said
  said_perhaps c absent = None
  said_perhaps c (present e) = Some (said c e)

-- The breaks of phase 6 of an expression: those of its parts, and its own. T6: a character constant that is no item; the
-- constant.
abbrev mutual
  pub breaks : Context → Tree → List Break
  breaks c (integer p n) = []
  breaks c (truth p b) = []
  breaks c (text p k) = at_place 6 T6 p ∷ []
  breaks c (designator ps) = breaks_parts c ps ++ designator_rows c role.Expression (said_parts c ps)
  breaks c (group p e) = breaks c e
  breaks c (array p es) = breaks_all c es ++ array_rows (said_all c es)
  breaks c (signed p s e) = breaks c e ++ scalar_rows wanted.Integer (said c e)
  breaks c (negation p e) = breaks c e ++ scalar_rows wanted.Logical (said c e)
  breaks c (comparison e relation f) = breaks c e ++ (breaks c f ++ (scalar_rows wanted.Integer (said c e) ++ scalar_rows wanted.Integer (said c f)))
  breaks c (chain e os) = breaks c e ++ (breaks_rest c os ++ chain_rows (level_of os) (said c e) (said_rest c os))

  pub breaks_rest : Context → Rest → List Break
  breaks_rest c no_more = []
  breaks_rest c (more o e os) = breaks c e ++ breaks_rest c os

  pub breaks_all : Context → Trees → List Break
  breaks_all c no_trees = []
  breaks_all c (trees e es) = breaks c e ++ breaks_all c es

  pub breaks_parts : Context → Parts → List Break
  breaks_parts c no_parts = []
  breaks_parts c (parts n b ps) = breaks_behind c b ++ breaks_parts c ps

  pub breaks_behind : Context → Behind → List Break
  breaks_behind c bare = []
  breaks_behind c (within list) = breaks_arguments c list

  pub breaks_arguments : Context → Arguments → List Break
  breaks_arguments c no_arguments = []
  breaks_arguments c (arguments a others) = breaks_argument c a ++ breaks_arguments c others

  pub breaks_argument : Context → ArgumentTree → List Break
  breaks_argument c (value keyword e) = breaks c e
  breaks_argument c (triplet p first last stride) = breaks_perhaps c first ++ (breaks_perhaps c last ++ breaks_perhaps c stride)

  pub breaks_perhaps : Context → Perhaps → List Break
  breaks_perhaps c absent = []
  breaks_perhaps c (present e) = breaks c e

-- ---- designators where no expression stands

abbrev pub designator_at : Context → Role → Parts → Said
designator_at c u ps = designator_said c u (said_parts c ps)

abbrev pub designator_breaks : Context → Role → Parts → List Break
designator_breaks c u ps = breaks_parts c ps ++ designator_rows c u (said_parts c ps)
