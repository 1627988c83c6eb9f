-- Array constructors are arrays of the type that is said.
use Rattle.std.proofs.Common.{◌≡◌, Bool, true, false, ◌&&◌, List, [], ◌∷◌, Option, Some, None, refl, sym, ap, ◌∙◌}
use Rattle.std.specs.Prelude.{⊤}
use Rattle.std.specs.List.{list_all}
use Rattle.f3_tree.specs.Expressions as t
use Rattle.f3_program.specs.declared.declarations.Base.{Base}
use Rattle.f3_program.specs.declared.declarations.Declared.{Declared}
use Rattle.f3_program.specs.declared.declarations.Kind.{Kind}
use Rattle.f3_program.specs.declared.program.Program.{Program}
use Rattle.f3_kinds.specs.declared.types.DataType.{DataType}
use Rattle.f3_kinds.specs.declared.types.Wanted.TheVariants as wanted
use Rattle.f3_kinds.specs.declared.said.Has.{Has}
use Rattle.f3_kinds.specs.Rows.{has_type, fits, computed, is_known}
use Rattle.f3_kinds.specs.Operands.{has_same, same_known, type_in, array_has}
use Rattle.f3_kinds.specs.Typing.{said, said_all}
use Rattle.f3_meaning_whole.specs.Permitted.{Each}
use Rattle.f3_meaning_whole.specs.Formed.{alike, all, of_kind, found, is_scalar, given_all, constructed, Given}
use Rattle.f3_elaboration.specs.Nodes as n
use Rattle.f3_elaboration.specs.Nodes.{ExpressionNode}
use Rattle.f3_elaboration.specs.Context.{Surroundings, base}
use Rattle.f3_elaboration.specs.Expressions.{expression, items}
use Rattle.f3_lawful_laws.proofs.Facts.{no, both, left, right}
use Rattle.f3_formed_laws.specs.Nodes.{arguments}
use Rattle.f3_formed_laws.proofs.Facts.{when_only}
use Rattle.f3_formed_laws.proofs.Bases.{alike_back, alike_through, known_alike}
use Rattle.f3_formed_laws.proofs.Alike.{IsKind, IsOf}
use Rattle.f3_formed_laws.proofs.Scalars.{Scalar, scalar, typed_of}

module _ (p : Program) (vs : List Declared) (ns : List Kind) (s : Surroundings) where
  abbrev pub ItemsAre : t.Trees → Type 0
  ItemsAre t.no_trees = ⊤
  ItemsAre (t.trees e es) = IsOf p vs ns s (expression s e) (said s.context e).has × ItemsAre es

  -- a scalar of a type that agrees
  abbrev IsItem : Base → Given → Type 0
  IsItem t g = (is_scalar g.kind ≡ true) × (alike g.kind.of t ≡ true)

  pub record Items (of : Base) (es : t.Trees) : Type 0 where
    pub given : List Given
    pub all_given : given_all (arguments p vs ns (items s es)) ≡ Some given
    pub each : Each (IsItem of) given

  item_alike : (d : Option DataType) (e : t.Tree) → is_known d ≡ true → (h : IsOf p vs ns s (expression s e) (said s.context e).has) → has_same d (said s.context e) ≡ true
      → (at : Scalar p vs ns s wanted.Intrinsic (expression s e)) → alike at.of (base s d) ≡ true
  item_alike d e k h f at = go (said s.context e).has h f
    where
      go : (o : Option Has) → IsOf p vs ns s (expression s e) o → same_known d (type_in o) ≡ true → alike at.of (base s d) ≡ true
      go None h f = absurd h
      go (Some y) h f =
          let kinds : Some (of_kind at.of 0) ≡ Some (of_kind h.of y.rank) = sym at.value ∙ h.value in
          let types : at.of ≡ h.of = ap (of_in at.of) kinds in
          ap (λ z. alike z (base s d)) types
          ∙ alike_through h.of (base s y.data_type) (base s d) h.alike_to (alike_back (base s d) (base s y.data_type) (known_alike s.type d y.data_type k h.typed f))
        where
          of_in : Base → Option Kind → Base
          of_in t None = t
          of_in t (Some k) = k.of

  -- one and the others
  record Joined (of : Base) (e : t.Tree) (es : t.Trees) : Type 0 where
    pub first : Base
    pub others : List Given
    pub all_given : given_all (arguments p vs ns (items s (t.trees e es))) ≡ Some (record { number = 0; kind = of_kind first 0; is_variable = false } ∷ others)
    pub first_alike : alike first of ≡ true
    pub each : Each (IsItem of) others

  joined : (d : Option DataType) (e : t.Tree) (es : t.Trees) → is_known d ≡ true → IsOf p vs ns s (expression s e) (said s.context e).has
      → fits wanted.Intrinsic (said s.context e) ≡ true → has_same d (said s.context e) ≡ true → Items (base s d) es → Joined (base s d) e es
  joined d e es k h f g rest =
      let at : Scalar p vs ns s wanted.Intrinsic (expression s e) = scalar p vs ns s wanted.Intrinsic (expression s e) (said s.context e).has h f in
      record {
        first = at.of;
        others = rest.given;
        all_given =
            ap (λ o. found (found o (λ (j : Kind). Some (record { number = 0; kind = j; is_variable = false }))) (λ (x : Given). found (given_all (arguments p vs ns (items s es))) (λ xs. Some (x ∷ xs)))) at.value
            ∙ ap (λ o. found o (λ (xs : List Given). Some (record { number = 0; kind = of_kind at.of 0; is_variable = false } ∷ xs))) rest.all_given;
        first_alike = item_alike d e k h g at;
        each = rest.each;
      }

  items_are : (d : Option DataType) (es : t.Trees) → is_known d ≡ true → ItemsAre es → list_all (fits wanted.Intrinsic) (said_all s.context es) ≡ true
      → list_all (has_same d) (said_all s.context es) ≡ true → Items (base s d) es
  items_are d t.no_trees k h f g = record { given = []; all_given = refl; each = tt }
  items_are d (t.trees e es) k h f g =
      let rest : Items (base s d) es = items_are d es k h.1 (right (fits wanted.Intrinsic (said s.context e)) _ f) (right (has_same d (said s.context e)) _ g) in
      let both_of : Joined (base s d) e es = joined d e es k h.0 (left _ _ f) (left _ _ g) rest in
      record {
        given = record { number = 0; kind = of_kind both_of.first 0; is_variable = false } ∷ both_of.others;
        all_given = both_of.all_given;
        each = ((refl, both_of.first_alike), both_of.each);
      }

  all_alike : (t u : Base) (gs : List Given) → alike u t ≡ true → Each (IsItem t) gs → all (λ (x : Given). is_scalar x.kind && alike x.kind.of u) gs ≡ true
  all_alike t u [] e h = refl
  all_alike t u (g ∷ gs) e h =
      both (is_scalar g.kind && alike g.kind.of u) _ (both (is_scalar g.kind) _ h.0.0 (alike_through g.kind.of t u h.0.1 (alike_back u t e))) (all_alike t u gs e h.1)

  known : (o : Option Has) → has_type o ≡ true → is_known (type_in o) ≡ true
  known None t = no (sym t)
  known (Some y) t = t

  pub array_is : (e : t.Tree) (es : t.Trees) → ItemsAre (t.trees e es) → list_all (fits wanted.Intrinsic) (said_all s.context (t.trees e es)) ≡ true
      → list_all (has_same (type_in (said s.context e).has)) (said_all s.context (t.trees e es)) ≡ true → (right : Bool) → right ≡ true
      → IsOf p vs ns s (n.array (items s (t.trees e es))) (array_has right (type_in (said s.context e).has))
  array_is e es h f g b r =
      let k = known (said s.context e).has (typed_of p vs ns s (expression s e) (said s.context e).has h.0) in
      let rest : Items (base s (type_in (said s.context e).has)) es =
      items_are (type_in (said s.context e).has) es k h.1 (right (fits wanted.Intrinsic (said s.context e)) _ f)
      (right (has_same (type_in (said s.context e).has) (said s.context e)) _ g) in
      by_type (type_in (said s.context e).has) k (joined (type_in (said s.context e).has) e es k h.0 (left _ _ f) (left _ _ g) rest) b r
    where
      by_joined : (d : DataType) → Joined (base s (Some d)) e es → IsKind p vs ns s (n.array (items s (t.trees e es))) (computed d 1)
      by_joined d j = record {
        typed = refl;
        of = j.first;
        value =
            ap (λ o. found o constructed) j.all_given
            ∙ when_only _ (of_kind j.first 1)
            (all_alike (base s (Some d)) j.first (record { number = 0; kind = of_kind j.first 0; is_variable = false } ∷ j.others) j.first_alike ((refl, j.first_alike), j.each));
        alike_to = j.first_alike;
        is_as = (refl, tt);
      }

      by_type : (d : Option DataType) → is_known d ≡ true → Joined (base s d) e es → (right : Bool) → right ≡ true
          → IsOf p vs ns s (n.array (items s (t.trees e es))) (array_has right d)
      by_type None k j right r = no (sym k)
      by_type (Some d) k j true r = by_joined d j
      by_type (Some d) k j false r = no (sym r)
