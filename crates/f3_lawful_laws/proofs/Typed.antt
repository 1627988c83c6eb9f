-- What breaks no rule has a type: parts of expressions.
use Rattle.std.proofs.Common.{◌≡◌, Bool, true, false, ◌&&◌, List, [], ◌∷◌, ◌++◌, Option, Some, None, refl, sym, ap, ◌∙◌, if◌then◌else◌}
use Rattle.std.specs.Prelude.{⊤, ◌==◌}
use Rattle.std.specs.List.{flat_map, list_all}
use Rattle.f3_places.specs.declared.source.Place.{Place}
use Rattle.f3_rules.specs.declared.rule.Rule.TheVariants.{T6}
use Rattle.f3_tree.specs.declared.expression.IntegerKind.{IntegerKind}
use Rattle.f3_kinds.specs.declared.types.DataType.{DataType}
use Rattle.f3_kinds.specs.declared.types.Wanted.{Wanted}
use Rattle.f3_kinds.specs.declared.types.Wanted.TheVariants as wanted
use Rattle.f3_kinds.specs.declared.said.Has.{Has}
use Rattle.f3_kinds.specs.declared.said.Said.{Said}
use Rattle.f3_kinds.specs.Rows.{at_place, is_known, has_type, fits, has_fits, type_fits, type_rows, has_rows, scalar_rows}
use Rattle.f3_kinds.specs.Operands.{chain_said, chain_rows, comparison_said, signed_said, not_said, group_said, array_said, array_rows, mixed_rows, has_same}
use Rattle.f3_kinds.specs.Operands.{when_right, result_of, array_has, type_in, enclosed}
use Rattle.f3_lawful_laws.proofs.Facts.{no, not_nil, first, second, holds, both, when_true}

abbrev pub IsTyped : Said → Type 0
IsTyped s = has_type s.has ≡ true

abbrev pub AreTyped : List Said → Type 0
AreTyped [] = ⊤
AreTyped (s ∷ ss) = IsTyped s × AreTyped ss

-- ---- what has to be a scalar of a type, and breaks no rule

pub has_fit : (want : Wanted) (place : Place) (h : Option Has) → has_type h ≡ true → has_rows want place h ≡ [] → has_fits want h ≡ true
has_fit want place None t e = no (sym t)
has_fit want place (Some h) t e = typed want place h h.data_type t e
  where
    typed : (want : Wanted) (place : Place) (h : Has) (d : Option DataType) → is_known d ≡ true → type_rows want h.rank place d ≡ [] → (type_fits want d && (h.rank == 0)) ≡ true
    typed want place h None t e = no (sym t)
    typed want place h (Some d) t e = both _ _ (holds _ _ (first _ _ e)) (holds _ _ (second _ _ e))

pub fit : (want : Wanted) (s : Said) → IsTyped s → scalar_rows want s ≡ [] → fits want s ≡ true
fit want s t e = has_fit want s.place s.has t e

-- ---- operators

result_known : (want : Wanted) (k : IntegerKind) → has_type (Some (result_of want k)) ≡ true
result_known wanted.Integer k = refl
result_known wanted.Logical k = refl
result_known wanted.Intrinsic k = refl

righted : (b : Bool) (h : Has) → b ≡ true → has_type (Some h) ≡ true → has_type (when_right b h) ≡ true
righted b h e t = ap has_type (when_true b (Some h) None e) ∙ t

pub group_typed : (p : Place) (s : Said) → IsTyped s → IsTyped (group_said p s)
group_typed p s t = enclosed_typed s.has t
  where
    enclosed_typed : (h : Option Has) → has_type h ≡ true → has_type (enclosed h) ≡ true
    enclosed_typed None t = no (sym t)
    enclosed_typed (Some h) t = t

pub signed_typed : (p : Place) (s : Said) → IsTyped s → scalar_rows wanted.Integer s ≡ [] → IsTyped (signed_said p s)
signed_typed p s t e = righted _ _ (fit wanted.Integer s t e) refl

pub not_typed : (p : Place) (s : Said) → IsTyped s → scalar_rows wanted.Logical s ≡ [] → IsTyped (not_said p s)
not_typed p s t e = righted _ _ (fit wanted.Logical s t e) refl

pub comparison_typed : (s r : Said) → IsTyped s → IsTyped r → scalar_rows wanted.Integer s ++ scalar_rows wanted.Integer r ≡ [] → IsTyped (comparison_said s r)
comparison_typed s r t u e =
    righted _ _ (both _ _ (fit wanted.Integer s t (first _ _ e)) (fit wanted.Integer r u (second _ _ e))) refl

all_fit : (want : Wanted) (ss : List Said) → AreTyped ss → flat_map (scalar_rows want) ss ≡ [] → list_all (fits want) ss ≡ true
all_fit want [] t e = refl
all_fit want (s ∷ ss) t e = both _ _ (fit want s t.0 (first _ _ e)) (all_fit want ss t.1 (second _ _ e))

pub chain_typed : (want : Wanted) (s : Said) (ss : List Said) → IsTyped s → AreTyped ss → chain_rows want s ss ≡ [] → IsTyped (chain_said want s ss)
chain_typed want s ss t ts e = righted _ _ (both _ _ (fit want s t (first _ _ e)) (all_fit want ss ts (second _ _ e))) (result_known want _)

-- ---- array constructors

all_same : (d : Option DataType) (ss : List Said) → mixed_rows d ss ≡ [] → list_all (has_same d) ss ≡ true
all_same d [] e = refl
all_same d (s ∷ ss) e = here (has_same d s) e (λ f. all_same d ss f)
  where
    here : (b : Bool) → (if b then mixed_rows d ss else at_place 6 T6 s.place ∷ []) ≡ [] → (mixed_rows d ss ≡ [] → list_all (has_same d) ss ≡ true)
        → (b && list_all (has_same d) ss) ≡ true
    here true e go = go e
    here false e go = not_nil e

pub array_typed : (p : Place) (s : Said) (ss : List Said) → IsTyped s → AreTyped ss → array_rows (s ∷ ss) ≡ [] → IsTyped (array_said p (s ∷ ss))
array_typed p s ss t ts e =
    let fitting : list_all (fits wanted.Intrinsic) (s ∷ ss) ≡ true = all_fit wanted.Intrinsic (s ∷ ss) (t, ts) (first _ _ e) in
    let mixed : mixed_rows (type_in s.has) (s ∷ ss) ≡ [] = sym (when_true _ _ _ fitting) ∙ second _ _ e in
    known s.has t _ (both _ _ fitting (all_same (type_in s.has) (s ∷ ss) mixed))
  where
    known : (h : Option Has) → has_type h ≡ true → (b : Bool) → b ≡ true → has_type (array_has b (type_in h)) ≡ true
    known None t b e = no (sym t)
    known (Some h) t b e = of h.data_type t b e
      where
        of : (d : Option DataType) → is_known d ≡ true → (b : Bool) → b ≡ true → has_type (array_has b d) ≡ true
        of None t b e = no (sym t)
        of (Some d) t b e = righted b _ e refl
