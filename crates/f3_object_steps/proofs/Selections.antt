-- What is selected, dimension by dimension.
use Rattle.std.proofs.Common.{◌≡◌, ℕ, false, List, ◌∷◌, length, refl, sym, ap, ◌∙◌, map, Option, None, Some, Result, subst}
use Rattle.std.specs.Prelude.{IfOk, MatchOption, ◌-ℤ◌, nat_abs}
use Rattle.std.proofs.lemmas.Result.{IfOk-weaker}
use Rattle.std.specs.List.{flat_map}
use Rattle.f3_meaning_whole.specs.Act.{all_inside, is_inside, places_in, subscripts_in}
use Rattle.f3_data.specs.declared.value.Span.{Span}
use Rattle.f3_data.specs.Values.{span_of, spans_of}
use Rattle.std.specs.declared.alloc.AllocError.{AllocError}
use Rattle.f3_cells.specs.declared.cell.Chosen.{Chosen}
use Rattle.f3_cells.specs.Cells.{chosen_of}
use Rattle.f3_object_steps.specs.declared.places.Selected.{Selected}
use Rattle.f3_object_steps.specs.Selections.{kept, row_of, spans_with, AreSelected, Widened}
use Rattle.f3_object_steps.proofs.Selecting.{one_more, all_inside_more, not_inside_here, spans_more}

wide : (others : List Span) (span : Span) (rest : List Chosen) (choice : Chosen) (limit : ℕ) (behind : Selected)
    → AreSelected (spans_of others) (map chosen_of rest) limit behind → (found : Option Selected)
    → MatchOption found (is_inside (span_of span) (subscripts_in (span_of span) (chosen_of choice)) ≡ false) (Widened (span_of span) (chosen_of choice) behind limit)
    → MatchOption found (all_inside (spans_of (span ∷ others)) (map chosen_of (choice ∷ rest)) ≡ false) (AreSelected (spans_of (span ∷ others)) (map chosen_of (choice ∷ rest)) limit)
wide others span rest choice limit behind b None h = not_inside_here (span_of span) (chosen_of choice) (spans_of others) (map chosen_of rest) h
wide others span rest choice limit behind b (Some x) h = (
  all_inside_more (span_of span) (chosen_of choice) (spans_of others) (map chosen_of rest) h.0 b.0,
  h.1 ∙ ap (λ ks. kept limit (flat_map (row_of (map (λ z. nat_abs (z -ℤ span.lower)) (subscripts_in (span_of span) (chosen_of choice))) span.extent) ks)) b.1
      ∙ one_more (span_of span) (chosen_of choice) limit (map (λ z. nat_abs (z -ℤ span.lower)) (subscripts_in (span_of span) (chosen_of choice))) (places_in (spans_of others) (map chosen_of rest)) refl h.0,
  h.2 ∙ ap (spans_with (chosen_of choice) (length (subscripts_in (span_of span) (chosen_of choice)))) b.2 ∙ spans_more (span_of span) (chosen_of choice) (spans_of others) (map chosen_of rest),
)

pub selection_more : (spans others : List Span) (span : Span) (chosen rest : List Chosen) (choice : Chosen) (limit : ℕ) (behind : Selected) (r : Result (Option Selected) AllocError)
    → spans ≡ span ∷ others → chosen ≡ choice ∷ rest → AreSelected (spans_of others) (map chosen_of rest) limit behind
    → IfOk r (λ found. MatchOption found (is_inside (span_of span) (subscripts_in (span_of span) (chosen_of choice)) ≡ false) (Widened (span_of span) (chosen_of choice) behind limit))
    → IfOk r (λ found. MatchOption found (all_inside (spans_of spans) (map chosen_of chosen) ≡ false) (AreSelected (spans_of spans) (map chosen_of chosen) limit))
selection_more spans others span chosen rest choice limit behind r e f b h =
    let cs' : IfOk r (λ found. MatchOption found (all_inside (spans_of (span ∷ others)) (map chosen_of (choice ∷ rest)) ≡ false) (AreSelected (spans_of (span ∷ others)) (map chosen_of (choice ∷ rest)) limit)) =
    IfOk-weaker r _ _ (λ found k. wide others span rest choice limit behind b found k) h in
    subst (λ (xs : List Span). IfOk r (λ found. MatchOption found (all_inside (spans_of xs) (map chosen_of chosen) ≡ false) (AreSelected (spans_of xs) (map chosen_of chosen) limit))) (sym e)
    (subst (λ (ys : List Chosen). IfOk r (λ found. MatchOption found (all_inside (spans_of (span ∷ others)) (map chosen_of ys) ≡ false) (AreSelected (spans_of (span ∷ others)) (map chosen_of ys) limit))) (sym f) cs')
