-- Arguments that are taken.
use Rattle.std.proofs.Common.{◌≡◌, ℕ, List, [], ◌∷◌, ◌++◌, map, Option, Err, refl, sym, ap, ◌∙◌}
use Rattle.std.proofs.lemmas.List.{map-append}
use Rattle.f3_places.specs.declared.source.Place.{Place}
use Rattle.f3_program.specs.declared.program.Program.{Program}
use Rattle.f3_meaning_whole.specs.Value as m
use Rattle.f3_meaning_whole.specs.Ran.{World, ◌>>=◌, gives}
use Rattle.f3_meaning_whole.specs.Act as a
use Rattle.f3_meaning_whole.specs.Act.{given}
use Rattle.f3_code.specs.State.{Code, Next}
use Rattle.f3_code.specs.State as s
use Rattle.f3_code.specs.Machine.{on_many, performs}
use Rattle.f3_meaning_whole.specs.Eval.{built}
use Rattle.f3_value_steps.specs.Ends.{vector_of}
use Rattle.f3_data.specs.declared.value.Value.{Value}
use Rattle.f3_data.specs.Values.{values_of}
use Rattle.f3_cells.specs.declared.cell.Cell.{Cell}
use Rattle.f3_cells.specs.declared.cell.Passed.{Passed}
use Rattle.f3_cells.specs.declared.state.Stop.{Stop}
use Rattle.f3_cells.specs.declared.state.Stop.TheVariants as stop
use Rattle.f3_cells.specs.Cells.{cells_of, passed_of}
use Rattle.f3_cells.specs.Follows.{Follows}
use Rattle.f3_cells.specs.Popped.{PoppedMany}

-- there are not so many of them
pub not_popped : {X Y : Type 0} (view : X → Y) (of : s.Cell → Option Y) (k : ℕ) (e : Stop) (old new : List Cell) (code : Code) (p : Program)
    (f : List Y → List s.Cell → Next)
    (to : s.State) (place : Place) → PoppedMany view of k (Err e) old new → Follows code (on_many of k [] (cells_of p old) f) (Err e) to place
not_popped view of k stop.Stuck old new code p f to place h = ([], h p f, refl)
not_popped view of k stop.Memory old new code p f to place h = tt
not_popped view of k stop.Done old new code p f to place h = absurd h
not_popped view of k (stop.Stopped number) old new code p f to place h = absurd h
not_popped view of k (stop.Failed error) old new code p f to place h = absurd h
not_popped view of k stop.Lost old new code p f to place h = absurd h
not_popped view of k stop.Refused old new code p f to place h = absurd h

given_append : (ps qs : List a.Passed) → given (ps ++ qs) ≡ given ps ++ given qs
given_append [] qs = refl
given_append (a.Given k v ∷ ps) qs = ap (λ vs. v ∷ vs) (given_append ps qs)
given_append (a.Lent k r ∷ ps) qs = given_append ps qs

-- one more argument
pub given_more : (xs : List Passed) (x : Passed) (vs ws : List Value) → values_of vs ≡ given (map passed_of xs)
    → values_of ws ≡ values_of vs ++ given (passed_of x ∷ [])
    → values_of ws ≡ given (map passed_of (xs ++ x ∷ []))
given_more xs x vs ws before more =
    more ∙ ap (λ us. us ++ given (passed_of x ∷ [])) before ∙ sym (given_append (map passed_of xs) (passed_of x ∷ []))
    ∙ ap given (sym (map-append passed_of xs (x ∷ [])))

performs_given : (v : m.Value) (here : a.Here) (w : World) (f : m.Value → World → s.State) → performs (gives v >>= λ x. built x here) w f ≡ performs
    (built v here) w f
unfolding ◌>>=◌ gives
performs_given v here w f = refl

-- an array of the values among arguments
pub array_made : (next : Next) (v : m.Value) (vs : List m.Value) (ps : List a.Passed) (here : a.Here) (w : World) (f : m.Value → World → s.State)
    → next ≡ performs (built (vector_of (given ps)) here) w f → v ≡ vector_of vs → vs ≡ given ps → next ≡ performs (gives v >>= λ x. built x here) w f
array_made next v vs ps here w f e is made =
    e ∙ ap (λ us. performs (built (vector_of us) here) w f) (sym made) ∙ ap (λ x. performs (built x here) w f) (sym is) ∙ sym (performs_given v here w f)
