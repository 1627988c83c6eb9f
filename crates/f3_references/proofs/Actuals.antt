-- A walk over the arguments of an intrinsic function: one more.
use Rattle.std.proofs.Common.{◌≡◌, ℕ, ◌+◌, ◌<◌, Bool, length, drop, get_or, List, Option, ap, sym, ◌∙◌}
use Rattle.std.proofs.lemmas.List.{at_drop_more}
use Rattle.f3_rules.specs.declared.breaks.Break.{Break}
use Rattle.f3_rules.specs.declared.rule.Rule.TheVariants.{T8}
use Rattle.f3_kinds.specs.declared.said.Given.{Given}
use Rattle.f3_kinds.specs.declared.things.Intrinsic.{Intrinsic}
use Rattle.f3_kinds.specs.declared.types.DataType.{DataType}
use Rattle.f3_kinds.specs.Rows.{at_place, unless}
use Rattle.f3_kinds.specs.Calls.{actual_right, actual_rows, or_first, integer_type, given_place}
use Rattle.f3_typed_parts.specs.Noted.{noted}
use Rattle.f3_typed_parts.proofs.Noting.{noted_more}

pub actuals_more : (i : Intrinsic) (gs : List Given) (p : ℕ) (d : Given) (t t' : Option DataType) (fit : Bool) (before after whole : Option Break)
    → p < length gs
    → fit ≡ actual_right i t p (get_or gs p d)
    → after ≡ noted before (unless fit (at_place 6 T8 (given_place (get_or gs p d))))
    → t' ≡ or_first t (integer_type (get_or gs p d))
    → noted before (actual_rows i t p (drop p gs)) ≡ whole
    → noted after (actual_rows i t' (p + 1) (drop (p + 1) gs)) ≡ whole
actuals_more i gs p d t t' fit before after whole lt f a e h =
    ap (λ (x : Option DataType). noted after (actual_rows i x (p + 1) rest)) e
    ∙ ap (λ (x : Option Break). noted x (actual_rows i (or_first t (integer_type g)) (p + 1) rest)) (a ∙ ap (λ (x : Bool). noted before (unless x (at_place 6 T8 (given_place g)))) f)
    ∙ noted_more before (unless (actual_right i t p g) (at_place 6 T8 (given_place g))) (actual_rows i (or_first t (integer_type g)) (p + 1) rest)
    ∙ ap (noted before) (sym (at_drop_more (λ (xs : List Given). actual_rows i t p xs) gs p d lt)) ∙ h
  where
    g : Given
    g = get_or gs p d

    rest : List Given
    rest = drop (p + 1) gs
