-- What breaks no rule has a type: designators of objects.
use Rattle.std.proofs.Common.{◌≡◌, ℕ, Bool, true, false, ◌&&◌, ◌||◌, not, List, [], ◌∷◌, Option, Some, None, refl, sym, ap, ◌∙◌, if◌then◌else◌}
use Rattle.std.specs.Prelude.{◌==◌, nat_eq}
use Rattle.std.specs.List.{flat_map, list_all}
use Rattle.f3_tree.specs.declared.expression.Name.{Name}
use Rattle.f3_kinds.specs.declared.types.DataType.{DataType}
use Rattle.f3_kinds.specs.declared.types.DataType.TheVariants.{Integer, Logical, Derived}
use Rattle.f3_kinds.specs.declared.types.Object.{Object}
use Rattle.f3_kinds.specs.declared.types.Wanted.TheVariants as wanted
use Rattle.f3_kinds.specs.declared.said.Said.{Said}
use Rattle.f3_kinds.specs.declared.said.Given.{Given}
use Rattle.f3_kinds.specs.declared.said.Given.TheVariants.{Value, Triplet}
use Rattle.f3_kinds.specs.declared.said.Reach.{Reach}
use Rattle.f3_kinds.specs.declared.said.Selected.TheVariants as is
use Rattle.f3_kinds.specs.declared.things.Component.{Component}
use Rattle.f3_kinds.specs.Things.{Nature, constant, variable, derived, subroutine, function, Context, component_of}
use Rattle.f3_kinds.specs.Rows.{is_known}
use Rattle.f3_kinds.specs.Designators.{Part, subscript_fits, fits_perhaps, subscript_rows, rows_perhaps, is_typed, is_typed_perhaps, are_typed}
use Rattle.f3_kinds.specs.Designators.{are_fit, part_rows, count_is_right, rank_left, enter, enter_rows, allowed, select_in, select_of, select}
use Rattle.f3_kinds.specs.Designators.{step_selected_rows}
use Rattle.f3_kinds.specs.Designators.{is_bare}
use Rattle.f3_lawful_laws.specs.Agreement.{KnowsComponents}
use Rattle.f3_lawful_laws.proofs.Facts.{no, not_nil, first, second, holds, both, left, right, when_true, when_false, nothing, same}
use Rattle.f3_lawful_laws.proofs.Typed.{fit}

-- ---- subscripts

perhaps_fit : (o : Option Said) → is_typed_perhaps o ≡ true → rows_perhaps o ≡ [] → fits_perhaps o ≡ true
perhaps_fit None t e = refl
perhaps_fit (Some s) t e = fit wanted.Integer s t e

subscript_fit : (g : Given) → is_typed g ≡ true → subscript_rows g ≡ [] → subscript_fits g ≡ true
subscript_fit (Value None s) t e = fit wanted.Integer s t e
subscript_fit (Value (Some keyword) s) t e = not_nil e
subscript_fit (Triplet place a b c) t e =
    both _ _ (both _ _ (perhaps_fit a (left _ _ (left _ _ t)) (first _ _ e)) (perhaps_fit b (right _ _ (left _ _ t)) (first _ _ (second (rows_perhaps a) _ e))))
    (perhaps_fit c (right _ _ t) (second _ _ (second (rows_perhaps a) _ e)))

all_fit : (gs : List Given) → list_all is_typed gs ≡ true → flat_map subscript_rows gs ≡ [] → list_all subscript_fits gs ≡ true
all_fit [] t e = refl
all_fit (g ∷ gs) t e = both _ _ (subscript_fit g (left _ _ t) (first _ _ e)) (all_fit gs (right _ _ t) (second _ _ e))

part_fit : (b : Option (List Given)) → are_typed b ≡ true → part_rows b ≡ [] → are_fit b ≡ true
part_fit None t e = refl
part_fit (Some gs) t e = all_fit gs t e

-- ---- the parts

-- what is reached without a break
pub record Reached (r : Reach) : Type 0 where
  pub fit : r.is_fit ≡ true
  pub known : is_known (r.object).data_type ≡ true

-- what is reached by it
abbrev pub entered : Bool → Reach → Object → Option (List Given) → Reach
entered bounds r o b = record {
  object = o;
  is_fit = r.is_fit && are_fit b;
  rank = if r.rank == 0 then rank_left bounds o b else r.rank;
  offends = r.offends || (not (r.rank == 0) && (o.is_allocatable || not (rank_left bounds o b == 0)));
  is_allocatable = o.is_allocatable && (is_bare b || bounds);
}

-- one part more is entered, and is this object
pub record Enters (bounds : Bool) (r : Reach) (o : Object) (b : Option (List Given)) : Type 0 where
  pub reach : Reach
  pub is : enter bounds r o b ≡ Some reach
  pub reach_is : reach ≡ entered bounds r o b
  pub object : reach.object ≡ o
  pub fit : reach.is_fit ≡ true

free : (a b : Bool) → b ≡ true → (a && not b) ≡ false
free true true e = refl
free false true e = refl
free a false e = no (sym e)

pub enters : (bounds : Bool) (r : Reach) (o : Object) (p : Part) → r.is_fit ≡ true → are_typed p.1 ≡ true → enter_rows bounds o p ≡ [] → Enters bounds r o p.1
enters bounds r o p f t e =
    let fitting : are_fit p.1 ≡ true = part_fit p.1 t (first _ _ e) in
    let counted : count_is_right bounds o p.1 ≡ true = holds _ _ (sym (when_true (are_fit p.1) _ _ fitting) ∙ second (part_rows p.1) _ e) in
    record {
      reach = entered bounds r o p.1;
      is = when_false _ _ _ (free (are_fit p.1) _ counted);
      reach_is = refl;
      object = refl;
      fit = both _ _ f fitting;
    }

-- ---- components

pub component_known : (ks : List (ℕ × Component)) (symbol : ℕ) (k : Component) → KnowsComponents ks → component_of ks symbol ≡ Some k → is_known (k.object).data_type ≡ true
component_known [] symbol k h e = nothing e
component_known (x ∷ xs) symbol k h e = here (nat_eq symbol x.0) e (λ f. component_known xs symbol k h.1 f)
  where
    here : (b : Bool) → (if b then Some x.1 else component_of xs symbol) ≡ Some k → (component_of xs symbol ≡ Some k → is_known (k.object).data_type ≡ true)
        → is_known (k.object).data_type ≡ true
    here true e go = ap (λ (y : Component). is_known (y.object).data_type) (sym (same e)) ∙ h.0
    here false e go = go e

-- what is selected without a break: a component of the type, which may be selected here
pub record Selects (c : Context) (o : Object) (n : Name) (k : Component) : Type 0 where
  pub type : ℕ
  pub home : ℕ
  pub components : List (ℕ × Component)
  pub finalizable : Bool
  pub of : o.data_type ≡ Some (Derived type)
  pub nature : c.nature type ≡ Some (derived home components finalizable)
  pub component : component_of components n.symbol ≡ Some k
  pub free : (not k.is_private || (home == c.unit)) ≡ true

selects_allowed : (c : Context) (o : Object) (n : Name) (type home : ℕ) (ks : List (ℕ × Component)) (f : Bool) (bounds : Bool) (p : Part)
    → o.data_type ≡ Some (Derived type) → c.nature type ≡ Some (derived home ks f)
    → (found : Option Component) → component_of ks n.symbol ≡ found
    → step_selected_rows bounds p (allowed (home == c.unit) found) ≡ []
    → (k : Component) × (allowed (home == c.unit) found ≡ is.Component k) × Selects c o n k
selects_allowed c o n type home ks f bounds p of nature None e h = not_nil h
selects_allowed c o n type home ks f bounds p of nature (Some k) e h = here (not k.is_private || (home == c.unit)) refl h
  where
    here : (b : Bool) → (not k.is_private || (home == c.unit)) ≡ b → step_selected_rows bounds p (if b then is.Component k else is.Hidden) ≡ []
        → (j : Component) × ((if not k.is_private || (home == c.unit) then is.Component k else is.Hidden) ≡ is.Component j) × Selects c o n j
    here true f h = (
      k,
      when_true _ _ _ f,
      record { type = type; home = home; components = ks; finalizable = _; of = of; nature = nature; component = e; free = f },
    )
    here false f h = not_nil h

-- a part behind %, without a break and behind what has a known type, is a component that may be selected
pub selects : (c : Context) (bounds : Bool) (o : Object) (p : Part) → is_known o.data_type ≡ true → step_selected_rows bounds p (select c o p.0) ≡ []
    → (k : Component) × (select c o p.0 ≡ is.Component k) × Selects c o p.0 k
selects c bounds o p t h = by_type o.data_type refl t h
  where
    by_nature : (type : ℕ) → o.data_type ≡ Some (Derived type) → (n : Option Nature) → c.nature type ≡ n
        → step_selected_rows bounds p (select_in c.unit (p.0).symbol n) ≡ []
        → (k : Component) × (select_in c.unit (p.0).symbol n ≡ is.Component k) × Selects c o p.0 k
    by_nature type of (Some (derived home ks f)) e h = selects_allowed c o p.0 type home ks f bounds p of e _ refl h
    by_nature type of (Some (constant x)) e h = not_nil h
    by_nature type of (Some (variable x)) e h = not_nil h
    by_nature type of (Some (subroutine pure ds)) e h = not_nil h
    by_nature type of (Some (function pure ds x)) e h = not_nil h
    by_nature type of None e h = not_nil h

    by_type : (d : Option DataType) → o.data_type ≡ d → is_known d ≡ true → step_selected_rows bounds p (select_of c (p.0).symbol d) ≡ []
        → (k : Component) × (select_of c (p.0).symbol d ≡ is.Component k) × Selects c o p.0 k
    by_type None of t h = no (sym t)
    by_type (Some (Integer k)) of t h = not_nil h
    by_type (Some Logical) of t h = not_nil h
    by_type (Some (Derived type)) of t h = by_nature type of (c.nature type) refl h
