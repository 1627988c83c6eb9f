-- What breaks no rule has a type: references and constructors.
use Rattle.std.proofs.Common.{◌≡◌, ℕ, ◌+◌, Bool, true, false, ◌&&◌, ◌||◌, not, nat_eq, List, [], ◌∷◌, length, Option, Some, None, refl, sym, ap, ◌∙◌}
use Rattle.std.proofs.Common.{if◌then◌else◌, nat_lt}
use Rattle.std.specs.Prelude.{slice_get}
use Rattle.std.specs.List.{list_all}
use Rattle.f3_rules.specs.declared.breaks.Break.{Break}
use Rattle.f3_tree.specs.declared.expression.Name.{Name}
use Rattle.f3_kinds.specs.declared.types.DataType.{DataType}
use Rattle.f3_kinds.specs.declared.types.Object.{Object}
use Rattle.f3_kinds.specs.declared.types.Wanted.TheVariants as wanted
use Rattle.f3_kinds.specs.declared.said.Has.{Has}
use Rattle.f3_kinds.specs.declared.said.Said.{Said}
use Rattle.f3_kinds.specs.declared.said.Given.{Given}
use Rattle.f3_kinds.specs.declared.said.Given.TheVariants.{Value, Triplet}
use Rattle.f3_kinds.specs.declared.things.Component.{Component}
use Rattle.f3_kinds.specs.declared.things.Dummy.{Dummy}
use Rattle.f3_kinds.specs.declared.things.Intrinsic.{Intrinsic}
use Rattle.f3_kinds.specs.declared.things.Intrinsic.TheVariants as i
use Rattle.f3_kinds.specs.Things.{map_or}
use Rattle.f3_kinds.specs.Rows.{has_type, is_known, fits, has_fits, type_fits, unless}
use Rattle.f3_kinds.specs.Operands.{type_in}
use Rattle.f3_kinds.specs.Designators.{is_typed}
use Rattle.f3_kinds.specs.Calls.{Matched, match_next, no_match, argument_fits, argument_rows, all_fit, is_complete, are_right, function_rows, function_has, result_has}
use Rattle.f3_kinds.specs.Calls.{least_count, is_within, actual_fits, actual_right, actual_rows, integer_type, no_breaks, intrinsic_parts}
use Rattle.f3_kinds.specs.Calls.{intrinsic_rows, intrinsic_has, typed_result, constructor_given, constructor_parts, constructor_rows, constructor_has, keeps_type, is_constructed}
use Rattle.f3_lawful_laws.proofs.Facts.{no, not_nil, first, second, holds, both, left, right, negated_back, otherwise, when_true}

-- ---- arguments

pub fitting : (ds : List (ℕ × Dummy)) (position : ℕ) (gs : List Given) (m : Matched) → argument_rows ds position gs m ≡ [] → all_fit ds position gs m ≡ true
fitting ds position [] m e = refl
fitting ds position (g ∷ gs) m e =
    both _ _ (holds _ _ (first _ _ e)) (fitting ds (position + 1) gs (match_next ds position g m) (second (unless (argument_fits ds position g m) _) _ e))

-- two conditions of which the second is asked where the first holds
asked : (a b : Bool) (x : Break) → a ≡ true → unless (not a || b) x ≡ [] → b ≡ true
asked true b x h e = holds b x e
asked false b x h e = no (sym h)

pub function_typed : (n : Name) (ds : List (ℕ × Dummy)) (o : Object) (gs : List Given) → is_known o.data_type ≡ true → list_all is_typed gs ≡ true
    → function_rows n ds gs ≡ [] → has_type (function_has ds o gs) ≡ true
function_typed n ds o gs known t e =
    let fit : are_right ds gs ≡ true = both _ _ t (fitting ds 0 gs no_match (first _ _ e)) in
    let complete : is_complete ds gs ≡ true = asked (are_right ds gs) (is_complete ds gs) _ fit (second (argument_rows ds 0 gs no_match) _ e) in
    ap has_type (when_true _ (Some (result_has o)) None (both _ _ fit complete)) ∙ known

-- ---- intrinsic functions

no_break : (bs : List Break) → bs ≡ [] → no_breaks bs ≡ true
no_break [] e = refl
no_break (b ∷ bs) e = not_nil e

fit_known : (h : Option Has) → has_fits wanted.Integer h ≡ true → is_known (type_in h) ≡ true
fit_known None e = no (sym e)
fit_known (Some h) e = of h.data_type (left _ _ e)
  where
    of : (d : Option DataType) → type_fits wanted.Integer d ≡ true → is_known d ≡ true
    of None e = no (sym e)
    of (Some d) e = refl

integer_known : (s : Said) → fits wanted.Integer s ≡ true → is_known (integer_type (Value None s)) ≡ true
integer_known s e = ap is_known (when_true (fits wanted.Integer s) (type_in s.has) None e) ∙ fit_known s.has e

-- an intrinsic function with an integer as its first argument
abbrev TakesInteger : Intrinsic → Type 0
TakesInteger r = (s : Said) → actual_fits r None 0 s ≡ true → fits wanted.Integer s ≡ true

first_known : (r : Intrinsic) → TakesInteger r → (g : Given) → is_typed g ≡ true → actual_right r None 0 g ≡ true → is_known (integer_type g) ≡ true
first_known r takes (Value None s) t e =
    integer_known s (takes s (otherwise (not (has_type s.has)) _ (right (is_within r 0) _ e) (ap not t)))
first_known r takes (Value (Some keyword) s) t e = no (sym e)
first_known r takes (Triplet place a b c) t e = no (sym e)

from_first : (r : Intrinsic) → TakesInteger r → (gs : List Given) → list_all is_typed gs ≡ true → actual_rows r None 0 gs ≡ []
    → (nat_lt (length gs) (least_count r) ≡ false → nat_lt 0 (least_count r) ≡ true) → nat_lt (length gs) (least_count r) ≡ false
    → is_known (map_or None integer_type (slice_get gs 0)) ≡ true
from_first r takes [] t e some count = no (sym (some count) ∙ count)
from_first r takes (g ∷ gs) t e some count = first_known r takes g (left _ _ t) (holds _ _ (first _ _ e))

typed_by_first : (r : Intrinsic) (gs : List Given) → list_all is_typed gs ≡ true → actual_rows r None 0 gs ≡ [] → nat_lt (length gs) (least_count r) ≡ false
    → is_known (typed_result r gs) ≡ true
typed_by_first i.Abs gs t e count = from_first i.Abs (λ s h. h) gs t e (λ h. refl) count
typed_by_first i.Mod gs t e count = from_first i.Mod (λ s h. left _ _ h) gs t e (λ h. refl) count
typed_by_first i.Modulo gs t e count = from_first i.Modulo (λ s h. left _ _ h) gs t e (λ h. refl) count
typed_by_first i.Max gs t e count = from_first i.Max (λ s h. left _ _ h) gs t e (λ h. refl) count
typed_by_first i.Min gs t e count = from_first i.Min (λ s h. left _ _ h) gs t e (λ h. refl) count
typed_by_first i.MoveAlloc gs t e count = from_first i.MoveAlloc (λ s h. left _ _ h) gs t e (λ h. refl) count
typed_by_first i.Size gs t e count = refl
typed_by_first i.LowerBound gs t e count = refl
typed_by_first i.UpperBound gs t e count = refl
typed_by_first i.Allocated gs t e count = refl

if_parts : (b : Bool) (x : List Break) → b ≡ true → (if b then x else []) ≡ [] → x ≡ []
if_parts true x h e = e
if_parts false x h e = no (sym h)

pub intrinsic_counted : (n : Name) (r : Intrinsic) (gs : List Given) → list_all is_typed gs ≡ true → intrinsic_rows n r gs ≡ []
    → nat_lt (length gs) (least_count r) ≡ false
intrinsic_counted n r gs t e =
    let parts : intrinsic_parts r gs ≡ true = both _ _ t (no_break _ (first _ _ e)) in
    negated_back _ (holds (not (nat_lt (length gs) (least_count r))) _ (if_parts (intrinsic_parts r gs) _ parts (second (actual_rows r None 0 gs) _ e)))

pub intrinsic_typed : (n : Name) (r : Intrinsic) (gs : List Given) → list_all is_typed gs ≡ true → intrinsic_rows n r gs ≡ [] → has_type (intrinsic_has r gs) ≡ true
intrinsic_typed n r gs t e =
    let parts : intrinsic_parts r gs ≡ true = both _ _ t (no_break _ (first _ _ e)) in
    let count = holds (not (nat_lt (length gs) (least_count r))) _ (if_parts (intrinsic_parts r gs) _ parts (second (actual_rows r None 0 gs) _ e)) in
    ap has_type (when_true (intrinsic_parts r gs && not (nat_lt (length gs) (least_count r))) _ None (both _ _ parts count))
    ∙ typed_by_first r gs t (first _ _ e) (negated_back _ count)

-- ---- constructors

pub constructor_typed : (phase : ℕ) (n : Name) (type : ℕ) (inside : Bool) (ks : List (ℕ × Component)) (f : Bool) (gs : List Given) → list_all is_typed gs ≡ true
    → constructor_rows phase n inside ks f gs ≡ [] → has_type (constructor_has phase type inside ks f gs) ≡ true
constructor_typed phase n type inside ks f gs t e =
    let parts : constructor_parts inside ks gs ≡ true = both _ _ t (no_break _ (first _ _ e)) in
    let behind = if_parts (constructor_parts inside ks gs) _ parts (second (constructor_given inside ks 0 gs) _ e) in
    ap has_type (when_true (constructor_parts inside ks gs && is_constructed ks gs && keeps_type phase f) _ None
    (both _ _ (both _ _ parts (holds _ _ (first _ _ behind))) (ap (λ b. b || not (nat_eq phase 6)) (holds _ _ (second (unless (is_constructed ks gs) _) _ behind)))))
