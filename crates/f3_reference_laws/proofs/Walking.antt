-- What is elaborated refers to functions alone.
use Rattle.std.proofs.Common.{◌≡◌, ℕ, ◌+◌, Bool, true, false, ◌&&◌, List, [], ◌∷◌, Option, Some, None, map, refl, if◌then◌else◌}
use Rattle.std.specs.Prelude.{⊤, slice_get}
use Rattle.f3_lookups.specs.declared.lookup.Lookup.{Lookup}
use Rattle.f3_lookups.specs.declared.lookup.Lookup.TheVariants.{One, Nothing, Several}
use Rattle.f3_tree.specs.declared.expression.Sign.{Sign}
use Rattle.f3_tree.specs.declared.expression.Sign.TheVariants.{Plus, Minus}
use Rattle.f3_tree.specs.Expressions as t
use Rattle.f3_program.specs.declared.declarations.Base.{Base}
use Rattle.f3_program.specs.declared.expression.BinaryOperator.{BinaryOperator}
use Rattle.f3_program.specs.declared.expression.BinaryOperator.TheVariants as o
use Rattle.f3_program.specs.declared.program.Program.{Program}
use Rattle.f3_kinds.specs.declared.types.DataType.{DataType}
use Rattle.f3_kinds.specs.declared.types.Object.{Object}
use Rattle.f3_kinds.specs.declared.things.Component.{Component}
use Rattle.f3_kinds.specs.declared.things.Dummy.{Dummy}
use Rattle.f3_kinds.specs.declared.things.Intrinsic.{Intrinsic}
use Rattle.f3_kinds.specs.declared.things.Intrinsic.TheVariants as i
use Rattle.f3_kinds.specs.Things.{map_or, Nature, constant, variable, derived, subroutine, function, Context, nothing, intrinsic, entity, entity_or}
use Rattle.f3_kinds.specs.Things.{meaning_by, meaning_of, look_here, component_of}
use Rattle.f3_meaning_whole.specs.Permitted.{Each}
use Rattle.f3_elaboration.specs.Nodes as n
use Rattle.f3_elaboration.specs.Nodes.{ExpressionNode, DesignatorNode, SelectionNode}
use Rattle.f3_elaboration.specs.Context.{Surroundings}
use Rattle.f3_elaboration.specs.Expressions as x
use Rattle.f3_elaboration.specs.Expressions.{Given, Part, Operand, signed, joined, is_power, given_value, or_one, subscript, subscripts, held, selection, components_of, number_of, along, variable_of, unheld, itself, passed, is_whole_allocatable, stored, passed_for, stored_for, number_for, arguments_for, components_for, nested, intrinsic_value, given_in, meant, designated, type_of, operand, expression, chain, items, parts, behind, given, given_by, perhaps}
use Rattle.f3_pure_laws.specs.References.{is_function}
use Rattle.f3_reference_laws.proofs.Nodes.{NodeRefers, PassedRefers, NodesRefer, PlaceRefers, TakenRefers, ChosenRefer, OneRefers}

-- a name of a function means a procedure with a result
abbrev pub FunctionsAre : Program → Surroundings → Type 0
FunctionsAre p s = (e : ℕ) (pure : Bool) (ds : List (ℕ × Dummy)) (o : Object) → (s.context).nature e ≡ Some (function pure ds o)
    → is_function (slice_get p.procedures.items (s.procedure e)) ≡ true

module _ (p : Program) where
  -- ---- what is given

  abbrev pub PerhapsRefers : Option ExpressionNode → Type 0
  PerhapsRefers None = ⊤
  PerhapsRefers (Some e) = NodeRefers p e

  abbrev pub GivenRefers : Given → Type 0
  GivenRefers (x.value k e) = NodeRefers p e
  GivenRefers (x.triplet a b c) = PerhapsRefers a × PerhapsRefers b × PerhapsRefers c

  abbrev pub AllGivenRefer : List Given → Type 0
  AllGivenRefer gs = Each GivenRefers gs

  abbrev pub BehindRefers : Option (List Given) → Type 0
  BehindRefers None = ⊤
  BehindRefers (Some gs) = AllGivenRefer gs

  abbrev pub PartsRefer : List Part → Type 0
  PartsRefer ps = Each (λ (q : Part). BehindRefers q.1) ps

  pub one_refers : (o : Option ExpressionNode) → PerhapsRefers o → NodeRefers p (or_one o)
  one_refers None h = tt
  one_refers (Some e) h = h

  value_refers : (g : Given) → GivenRefers g → NodeRefers p (given_value g)
  value_refers (x.value k e) h = h
  value_refers (x.triplet a b c) h = tt

  values_refer : (gs : List Given) → AllGivenRefer gs → Each (NodeRefers p) (map given_value gs)
  values_refer [] h = tt
  values_refer (g ∷ gs) h = (value_refers g h.0, values_refer gs h.1)

  pub in_refers : (b : Option (List Given)) → BehindRefers b → AllGivenRefer (map_or [] (λ gs. gs) b)
  in_refers None h = tt
  in_refers (Some gs) h = h

  -- ---- designators

  subscript_refers : (g : Given) → GivenRefers g → OneRefers p (subscript g)
  subscript_refers (x.value k e) h = h
  subscript_refers (x.triplet a b c) h = (one_refers a h.0, one_refers b h.1, one_refers c h.2)

  subscripts_refer : (gs : List Given) → AllGivenRefer gs → ChosenRefer p (subscripts gs)
  subscripts_refer [] h = tt
  subscripts_refer (g ∷ gs) h = (subscript_refers g h.0, subscripts_refer gs h.1)

  held_refers : (b : Bool) → TakenRefers p (held b)
  held_refers true = tt
  held_refers false = tt

  selection_refers : (o : Object) (b : Option (List Given)) → BehindRefers b → TakenRefers p (selection o b)
  selection_refers o None h = held_refers o.is_allocatable
  selection_refers o (Some gs) h = subscripts_refer gs h

  along_refers : (c : Context) (d : DesignatorNode) (o : Object) (ps : List Part) → PlaceRefers p d → PartsRefer ps → PlaceRefers p (along c d o ps)
  along_refers c d o [] h k = h
  along_refers c d o (q ∷ ps) h k =
      by (component_of (components_of c o.data_type) (q.0).symbol) (λ m. along_refers c (n.component d (number_of (components_of c o.data_type) (q.0).symbol) (selection m.object q.1)) m.object ps (h, selection_refers m.object q.1 k.0) k.1)
    where
      by : (m : Option Component) → ((m : Component) → PlaceRefers p (along c (n.component d (number_of (components_of c o.data_type) (q.0).symbol) (selection m.object q.1)) m.object ps))
          → PlaceRefers p (map_or d (λ (m : Component). along c (n.component d (number_of (components_of c o.data_type) (q.0).symbol) (selection m.object q.1)) m.object ps) m)
      by None f = h
      by (Some m) f = f m

  unheld_refers : (how : SelectionNode) → TakenRefers p how → TakenRefers p (unheld how)
  unheld_refers n.whole h = tt
  unheld_refers n.contents h = tt
  unheld_refers (n.elements o xs) h = h

  pub itself_refers : (d : DesignatorNode) → PlaceRefers p d → PlaceRefers p (itself d)
  itself_refers (n.name y how) h = unheld_refers how h
  itself_refers (n.component d k how) h = (h.0, unheld_refers how h.1)

  -- ---- arguments

  if_refers : (b : Bool) (d : DesignatorNode) → PlaceRefers p d → PlaceRefers p (if b then itself d else d)
  if_refers true d h = itself_refers d h
  if_refers false d h = h

  passed_refers : (b : Bool) (k : ℕ) (e : ExpressionNode) → NodeRefers p e → PassedRefers p (passed b k e)
  passed_refers b k (n.variable d) h = if_refers b d h
  passed_refers b k (n.literal c) h = h
  passed_refers b k (n.group e) h = h
  passed_refers b k (n.unary f of e) h = h
  passed_refers b k (n.binary f of e y) h = h
  passed_refers b k (n.array xs) h = h
  passed_refers b k (n.structure t xs) h = h
  passed_refers b k (n.reference f xs) h = h
  passed_refers b k (n.allocated d) h = h
  passed_refers b k (n.size y) h = h
  passed_refers b k (n.bound f y z) h = h

  stored_if : (b : Bool) (k : ℕ) (d : DesignatorNode) → PlaceRefers p d → PassedRefers p (if b then n.object k (itself d) else n.value k (n.variable d))
  stored_if true k d h = itself_refers d h
  stored_if false k d h = h

  stored_refers : (b : Bool) (k : ℕ) (e : ExpressionNode) → NodeRefers p e → PassedRefers p (stored b k e)
  stored_refers b k (n.variable d) h = stored_if (b && is_whole_allocatable d) k d h
  stored_refers b k (n.literal c) h = h
  stored_refers b k (n.group e) h = h
  stored_refers b k (n.unary f of e) h = h
  stored_refers b k (n.binary f of e y) h = h
  stored_refers b k (n.array xs) h = h
  stored_refers b k (n.structure t xs) h = h
  stored_refers b k (n.reference f xs) h = h
  stored_refers b k (n.allocated d) h = h
  stored_refers b k (n.size y) h = h
  stored_refers b k (n.bound f y z) h = h

  pub arguments_refer : (ds : List (ℕ × Dummy)) (j : ℕ) (gs : List Given) → AllGivenRefer gs → NodesRefer p (arguments_for ds j gs)
  arguments_refer ds j [] h = tt
  arguments_refer ds j (g ∷ gs) h = (passed_refers _ (number_for ds j g) (given_value g) (value_refers g h.0), arguments_refer ds (j + 1) gs h.1)

  components_refer : (ks : List (ℕ × Component)) (j : ℕ) (gs : List Given) → AllGivenRefer gs → NodesRefer p (components_for ks j gs)
  components_refer ks j [] h = tt
  components_refer ks j (g ∷ gs) h = (stored_refers _ (number_for ks j g) (given_value g) (value_refers g h.0), components_refer ks (j + 1) gs h.1)

  -- ---- intrinsic functions

  nested_refers : (f : BinaryOperator) (of : Base) (e : ExpressionNode) (es : List ExpressionNode) → NodeRefers p e → Each (NodeRefers p) es → NodeRefers p (nested f of e es)
  nested_refers f of e [] h k = h
  nested_refers f of e (y ∷ ys) h k = nested_refers f of (n.binary f of e y) ys (h, k.0) k.1

  allocated_refers : (of : Base) (e : ExpressionNode) → NodeRefers p e → NodeRefers p (intrinsic_value of i.Allocated (e ∷ []))
  allocated_refers of (n.variable d) h = itself_refers d h
  allocated_refers of (n.literal c) h = tt
  allocated_refers of (n.group e) h = tt
  allocated_refers of (n.unary f g e) h = tt
  allocated_refers of (n.binary f g e y) h = tt
  allocated_refers of (n.array xs) h = tt
  allocated_refers of (n.structure t xs) h = tt
  allocated_refers of (n.reference f xs) h = tt
  allocated_refers of (n.allocated d) h = tt
  allocated_refers of (n.size y) h = tt
  allocated_refers of (n.bound f y z) h = tt

  intrinsic_refers : (of : Base) (f : Intrinsic) (es : List ExpressionNode) → Each (NodeRefers p) es → NodeRefers p (intrinsic_value of f es)
  intrinsic_refers of i.Abs [] h = tt
  intrinsic_refers of i.Abs (y ∷ []) h = h.0
  intrinsic_refers of i.Abs (y ∷ z ∷ es) h = tt
  intrinsic_refers of i.Mod [] h = tt
  intrinsic_refers of i.Mod (y ∷ []) h = tt
  intrinsic_refers of i.Mod (y ∷ z ∷ []) h = (h.0, h.1.0)
  intrinsic_refers of i.Mod (y ∷ z ∷ e ∷ es) h = tt
  intrinsic_refers of i.Modulo [] h = tt
  intrinsic_refers of i.Modulo (y ∷ []) h = tt
  intrinsic_refers of i.Modulo (y ∷ z ∷ []) h = (h.0, h.1.0)
  intrinsic_refers of i.Modulo (y ∷ z ∷ e ∷ es) h = tt
  intrinsic_refers of i.Max [] h = tt
  intrinsic_refers of i.Max (y ∷ es) h = nested_refers o.Max of y es h.0 h.1
  intrinsic_refers of i.Min [] h = tt
  intrinsic_refers of i.Min (y ∷ es) h = nested_refers o.Min of y es h.0 h.1
  intrinsic_refers of i.Size [] h = tt
  intrinsic_refers of i.Size (y ∷ []) h = passed_refers false 0 y h.0
  intrinsic_refers of i.Size (y ∷ z ∷ []) h = (passed_refers false 0 y h.0, h.1.0)
  intrinsic_refers of i.Size (y ∷ z ∷ e ∷ es) h = tt
  intrinsic_refers of i.LowerBound [] h = tt
  intrinsic_refers of i.LowerBound (y ∷ []) h = tt
  intrinsic_refers of i.LowerBound (y ∷ z ∷ []) h = (passed_refers false 0 y h.0, h.1.0)
  intrinsic_refers of i.LowerBound (y ∷ z ∷ e ∷ es) h = tt
  intrinsic_refers of i.UpperBound [] h = tt
  intrinsic_refers of i.UpperBound (y ∷ []) h = tt
  intrinsic_refers of i.UpperBound (y ∷ z ∷ []) h = (passed_refers false 0 y h.0, h.1.0)
  intrinsic_refers of i.UpperBound (y ∷ z ∷ e ∷ es) h = tt
  intrinsic_refers of i.Allocated [] h = tt
  intrinsic_refers of i.Allocated (y ∷ []) h = allocated_refers of y h.0
  intrinsic_refers of i.Allocated (y ∷ z ∷ es) h = none y
    where
      none : (y : ExpressionNode) → NodeRefers p (intrinsic_value of i.Allocated (y ∷ z ∷ es))
      none (n.variable d) = tt
      none (n.literal c) = tt
      none (n.group e) = tt
      none (n.unary f g e) = tt
      none (n.binary f g e y) = tt
      none (n.array xs) = tt
      none (n.structure t xs) = tt
      none (n.reference f xs) = tt
      none (n.allocated d) = tt
      none (n.size y) = tt
      none (n.bound f y z) = tt
  intrinsic_refers of i.MoveAlloc es h = tt

  -- ---- expressions

  module _ (s : Surroundings) (functions : FunctionsAre p s) where
    meant_refers : (of : Option DataType) (q : Part) (ps : List Part) → BehindRefers q.1 → PartsRefer ps → NodeRefers p (meant s of q ps (meaning_of s.context (q.0).symbol))
    meant_refers of q ps h k = by_look (look_here s.context (q.0).symbol)
      where
        by_entity : (e : ℕ) (nature : Nature) → (s.context).nature e ≡ Some nature → NodeRefers p (meant s of q ps (entity e nature))
        by_entity e (variable w) is = along_refers s.context (n.name (s.object e) (selection w q.1)) w ps (selection_refers w q.1 h) k
        by_entity e (constant w) is = tt
        by_entity e (function pure ds w) is = (functions e pure ds w is, arguments_refer ds 0 (given_in q) (in_refers q.1 h))
        by_entity e (derived home ks f) is = components_refer ks 0 (given_in q) (in_refers q.1 h)
        by_entity e (subroutine pure ds) is = tt

        by_nature : (e : ℕ) (m : Option Nature) → (s.context).nature e ≡ m → NodeRefers p (meant s of q ps (entity_or e m))
        by_nature e None is = tt
        by_nature e (Some nature) is = by_entity e nature is

        by_name : (m : Option Intrinsic) → NodeRefers p (meant s of q ps (map_or nothing intrinsic m))
        by_name None = tt
        by_name (Some f) = intrinsic_refers _ f (map given_value (given_in q)) (values_refer (given_in q) (in_refers q.1 h))

        by_look : (l : Lookup) → NodeRefers p (meant s of q ps (meaning_by s.context (q.0).symbol l))
        by_look (One e) = by_nature e ((s.context).nature e) refl
        by_look Nothing = by_name ((s.context).intrinsic (q.0).symbol)
        by_look Several = tt

    designated_refers : (of : Option DataType) (ps : List Part) → PartsRefer ps → NodeRefers p (designated s of ps)
    designated_refers of [] h = tt
    designated_refers of (q ∷ ps) h = meant_refers of q ps h.0 h.1

    signed_refers : (sign : Sign) (of : Base) (e : ExpressionNode) → NodeRefers p e → NodeRefers p (signed sign of e)
    signed_refers Plus of e h = h
    signed_refers Minus of e h = h

    chosen_refers : (b : Bool) (y z : Operand) → NodeRefers p y.0 → NodeRefers p z.0 → NodeRefers p (if b then y else z).0
    chosen_refers true y z h k = h
    chosen_refers false y z h k = k

    mutual
      pub expression_refers : (e : t.Tree) → NodeRefers p (expression s e)
      expression_refers (t.integer q z) = tt
      expression_refers (t.truth q b) = tt
      expression_refers (t.text q k) = tt
      expression_refers (t.designator ps) = designated_refers (type_of s (t.designator ps)) (parts s ps) (parts_refer ps)
      expression_refers (t.group q e) = expression_refers e
      expression_refers (t.array q es) = items_refer es
      expression_refers (t.signed q sign e) = signed_refers sign _ (expression s e) (expression_refers e)
      expression_refers (t.negation q e) = expression_refers e
      expression_refers (t.comparison e r f) = (expression_refers e, expression_refers f)
      expression_refers (t.chain e os) = chain_refers (operand s e (expression s e)) os (expression_refers e)

      chain_refers : (y : Operand) (os : t.Rest) → NodeRefers p y.0 → NodeRefers p (chain s y os).0
      chain_refers y t.no_more h = h
      chain_refers y (t.more w e os) h =
          chosen_refers (is_power w) (joined s w y (chain s (operand s e (expression s e)) os)) (chain s (joined s w y (operand s e (expression s e))) os)
          (h, chain_refers (operand s e (expression s e)) os (expression_refers e))
          (chain_refers (joined s w y (operand s e (expression s e))) os (h, expression_refers e))

      items_refer : (es : t.Trees) → NodesRefer p (items s es)
      items_refer t.no_trees = tt
      items_refer (t.trees e es) = (expression_refers e, items_refer es)

      pub parts_refer : (ps : t.Parts) → PartsRefer (parts s ps)
      parts_refer t.no_parts = tt
      parts_refer (t.parts name b ps) = (behind_refers b, parts_refer ps)

      behind_refers : (b : t.Behind) → BehindRefers (behind s b)
      behind_refers t.bare = tt
      behind_refers (t.within list) = given_refer list

      pub given_refer : (list : t.Arguments) → AllGivenRefer (given s list)
      given_refer t.no_arguments = tt
      given_refer (t.arguments g others) = (one_given g, given_refer others)

      one_given : (g : t.ArgumentTree) → GivenRefers (given_by s g)
      one_given (t.value keyword e) = expression_refers e
      one_given (t.triplet q first last stride) = (perhaps_refers first, perhaps_refers last, perhaps_refers stride)

      perhaps_refers : (m : t.Perhaps) → PerhapsRefers (perhaps s m)
      perhaps_refers t.absent = tt
      perhaps_refers (t.present e) = expression_refers e
