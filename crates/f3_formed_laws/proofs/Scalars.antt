-- What has types, and what is a scalar of a type that is wanted.
use Rattle.std.proofs.Common.{◌≡◌, true, List, [], ◌∷◌, Option, Some, None, refl, sym, ap, ◌∙◌}
use Rattle.std.specs.List.{list_all}
use Rattle.f3_program.specs.declared.declarations.Base.{Base}
use Rattle.f3_program.specs.declared.declarations.Declared.{Declared}
use Rattle.f3_program.specs.declared.declarations.Kind.{Kind}
use Rattle.f3_program.specs.declared.program.Program.{Program}
use Rattle.f3_kinds.specs.declared.types.DataType.{DataType}
use Rattle.f3_kinds.specs.declared.types.Wanted.{Wanted}
use Rattle.f3_kinds.specs.declared.types.Wanted.TheVariants as wanted
use Rattle.f3_kinds.specs.declared.said.Has.{Has}
use Rattle.f3_kinds.specs.declared.said.Said.{Said}
use Rattle.f3_kinds.specs.declared.said.Given.{Given}
use Rattle.f3_kinds.specs.declared.said.Given.TheVariants.{Value, Triplet}
use Rattle.f3_kinds.specs.Rows.{has_type, has_fits, type_fits}
use Rattle.f3_kinds.specs.Designators.{Part, is_typed, is_typed_perhaps, are_typed, parts_typed}
use Rattle.f3_meaning_whole.specs.Formed.{alike, of_kind, some, is_whole_number, is_condition}
use Rattle.f3_elaboration.specs.Nodes.{ExpressionNode}
use Rattle.f3_elaboration.specs.Context.{Surroundings, base}
use Rattle.f3_elaboration.specs.Expressions as x
use Rattle.f3_lawful_laws.proofs.Facts.{no, both, left, right}
use Rattle.f3_lawful_laws.proofs.Positions.{eq_same}
use Rattle.f3_formed_laws.specs.Nodes.{value_kind}
use Rattle.f3_formed_laws.proofs.Bases.{is_wanted_base, wanted_base, wanted_alike}
use Rattle.f3_formed_laws.proofs.Alike.{IsOf, MayBeOf, IsGiven, AreGiven, IsBehind, AreParts}

module _ (p : Program) (vs : List Declared) (ns : List Kind) (s : Surroundings) where
  -- ---- types

  pub typed_of : (e : ExpressionNode) (o : Option Has) → IsOf p vs ns s e o → has_type o ≡ true
  typed_of e None h = absurd h
  typed_of e (Some y) h = h.typed

  perhaps_typed : (a : Option ExpressionNode) (b : Option Said) → MayBeOf p vs ns s a b → is_typed_perhaps b ≡ true
  perhaps_typed None None h = refl
  perhaps_typed None (Some y) h = absurd h
  perhaps_typed (Some e) None h = absurd h
  perhaps_typed (Some e) (Some y) h = typed_of e y.has h

  pub given_typed : (g : x.Given) (y : Given) → IsGiven p vs ns s g y → is_typed y ≡ true
  given_typed (x.value k e) (Value l y) h = typed_of e y.has h.1
  given_typed (x.value k e) (Triplet q a b c) h = absurd h
  given_typed (x.triplet a b c) (Value l y) h = absurd h
  given_typed (x.triplet a b c) (Triplet q d e f) h = both _ _ (both _ _ (perhaps_typed a d h.0) (perhaps_typed b e h.1)) (perhaps_typed c f h.2)

  pub all_typed : (gs : List x.Given) (ys : List Given) → AreGiven p vs ns s gs ys → list_all is_typed ys ≡ true
  all_typed [] [] h = refl
  all_typed [] (y ∷ ys) h = absurd h
  all_typed (g ∷ gs) [] h = absurd h
  all_typed (g ∷ gs) (y ∷ ys) h = both _ _ (given_typed g y h.0) (all_typed gs ys h.1)

  pub behind_typed : (g : Option (List x.Given)) (y : Option (List Given)) → IsBehind p vs ns s g y → are_typed y ≡ true
  behind_typed None None h = refl
  behind_typed None (Some ys) h = absurd h
  behind_typed (Some gs) None h = absurd h
  behind_typed (Some gs) (Some ys) h = all_typed gs ys h

  pub all_parts_typed : (qs : List x.Part) (rs : List Part) → AreParts p vs ns s qs rs → parts_typed rs ≡ true
  all_parts_typed [] [] h = refl
  all_parts_typed [] (r ∷ rs) h = absurd h
  all_parts_typed (q ∷ qs) [] h = absurd h
  all_parts_typed (q ∷ qs) (r ∷ rs) h = both _ _ (behind_typed q.1 r.1 h.1) (all_parts_typed qs rs h.2)

  -- ---- scalars

  pub record Scalar (want : Wanted) (e : ExpressionNode) : Type 0 where
    pub of : Base
    pub value : value_kind p vs ns e ≡ Some (of_kind of 0)
    pub wanted : is_wanted_base want of ≡ true

  pub type_wanted : (want : Wanted) (of : Base) (d : Option DataType) → alike of (base s d) ≡ true → type_fits want d ≡ true → is_wanted_base want of ≡ true
  type_wanted want of None a f = no (sym f)
  type_wanted want of (Some d) a f = wanted_alike want of (base s (Some d)) a (wanted_base s.type want d f)

  pub scalar : (want : Wanted) (e : ExpressionNode) (o : Option Has) → IsOf p vs ns s e o → has_fits want o ≡ true → Scalar want e
  scalar want e None h f = absurd h
  scalar want e (Some y) h f = record {
    of = h.of;
    value = h.value ∙ ap (λ r. Some (of_kind h.of r)) (eq_same y.rank 0 (right (type_fits want y.data_type) _ f));
    wanted = type_wanted want h.of y.data_type h.alike_to (left _ _ f);
  }

  pub whole_number : (e : ExpressionNode) → Scalar wanted.Integer e → some (value_kind p vs ns e) is_whole_number ≡ true
  whole_number e h = ap (λ k. some k is_whole_number) h.value ∙ h.wanted

  pub condition : (e : ExpressionNode) → Scalar wanted.Logical e → some (value_kind p vs ns e) is_condition ≡ true
  condition e h = ap (λ k. some k is_condition) h.value ∙ h.wanted
