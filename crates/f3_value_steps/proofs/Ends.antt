-- What a part of a run comes to.
use Rattle.std.proofs.Common.{◌≡◌, [], ◌∷◌, Result, Ok, Err, Bool, true, false, refl, sym, ap, ◌∙◌, subst}
use Rattle.std.specs.Prelude.{⊤, if◌then◌else◌}
use Rattle.f3_places.specs.declared.source.Place.{Place}
use Rattle.f3_program.specs.declared.program.Program.{Program}
use Rattle.f3_meaning_whole.specs.Value as m
use Rattle.f3_meaning_whole.specs.Act.{Here, needs_storage, claim}
use Rattle.f3_meaning_whole.specs.Eval.{built}
use Rattle.f3_meaning_whole.specs.declared.run_error.RunError.{RunError}
use Rattle.f3_meaning_whole.specs.Ran.{World, Ran, gives, fails, asks, ◌>>=◌}
use Rattle.f3_meaning_whole.specs.Store.{Store}
use Rattle.f3_code.specs.State.{Code, Next, Goes, Stays, Failed, Datum}
use Rattle.f3_code.specs.State as s
use Rattle.f3_code.specs.Machine.{on, performs}
use Rattle.f3_data.specs.declared.value.Value.{Value}
use Rattle.f3_data.specs.Values.{value_of}
use Rattle.f3_data.specs.Stores.{store_of}
use Rattle.f3_shaping.specs.Results.{value_ran}
use Rattle.f3_cells.specs.declared.state.State.{State}
use Rattle.f3_cells.specs.declared.state.Stop.{Stop}
use Rattle.f3_cells.specs.Cells.{cells_of}
use Rattle.f3_cells.specs.States.{state_of, world_of, granted}
use Rattle.f3_cells.specs.Follows.{Follows}
use Rattle.f3_value_steps.specs.Ends.{Finishes, FinishesBuilt}

pub performs_gives : {A : Type 0} (x : A) (w : World) (f : A → World → s.State) → performs (gives x) w f ≡ Goes [] (f x w)
unfolding gives
performs_gives x w f = refl

pub performs_fails : {A : Type 0} (error : RunError) (place : Place) (w : World) (f : A → World → s.State)
    → performs (fails error place) w f ≡ Stays [] (Failed error place)
unfolding fails
performs_fails error place w f = refl

-- a world whose heap grants each request
abbrev pub granted_world : Store → World
granted_world store = record { store = store; answers = granted }

-- an operation gave a value or an error
pub finished : (code : Code) (next : Next) (given : Result Value RunError) (run : Ran m.Value) (r : Result ⊤ Stop) (place : Place) (p : Program)
    (mid new : State)
    → Finishes given r mid new → value_ran given place ≡ run
    → next ≡ performs run (world_of mid.store) (λ y. on (state_of p mid) (Datum y ∷ cells_of p mid.stack.items)) → Follows code next r (state_of p new) place
finished code next given run r place p mid new h e q =
    let f : m.Value → World → s.State = λ y. on (state_of p mid) (Datum y ∷ cells_of p mid.stack.items) in
    subst (λ n. Follows code n r (state_of p new) place) (sym (q ∙ ap (λ a. performs a (world_of mid.store) f) (sym e))) (h p code place)

-- storage is granted
claimed : (v : m.Value) (here : Here) (store : Store) (f : m.Value → World → s.State) (b : Bool) → b ≡ needs_storage v
    → performs ((if b then claim here else gives tt) >>= λ done. gives v) (granted_world store) f ≡ Goes [] (f v (granted_world store))
unfolding ◌>>=◌ gives asks fails
claimed v here store f true e = refl
claimed v here store f false e = refl

pub built_granted : (v : m.Value) (here : Here) (store : Store) (f : m.Value → World → s.State)
    → performs (built v here) (granted_world store) f ≡ Goes [] (f v (granted_world store))
built_granted v here store f = claimed v here store f (needs_storage v) refl

pub performs_built : (v : m.Value) (here : Here) (store : Store) (f : m.Value → World → s.State)
    → performs (gives v >>= λ x. built x here) (granted_world store) f ≡ Goes [] (f v (granted_world store))
unfolding ◌>>=◌ gives
performs_built v here store f = claimed v here store f (needs_storage v) refl

pub performs_failed : (error : RunError) (here : Here) (w : World) (f : m.Value → World → s.State)
    → performs (fails error here.place >>= λ x. built x here) w f ≡ Stays [] (Failed error here.place)
unfolding ◌>>=◌ fails
performs_failed error here w f = refl

pub finished_built : (code : Code) (next : Next) (given : Result Value RunError) (run : Ran m.Value) (r : Result ⊤ Stop) (here : Here) (p : Program)
    (mid new : State)
    → FinishesBuilt given r mid new → value_ran given here.place ≡ run
    → next ≡ performs (run >>= λ x. built x here) (world_of mid.store) (λ y. on (state_of p mid) (Datum y ∷ cells_of p mid.stack.items))
    → Follows code next r (state_of p new) here.place
finished_built code next given run r here p mid new h e q =
    let f : m.Value → World → s.State = λ y. on (state_of p mid) (Datum y ∷ cells_of p mid.stack.items) in
    subst (λ n. Follows code n r (state_of p new) here.place) (sym (q ∙ ap (λ a. performs (a >>= λ x. built x here) (world_of mid.store) f) (sym e)))
    (h p code here)

pub built_finishes : (given : Result Value RunError) (r : Result ⊤ Stop) (mid new : State) → Finishes given r mid new → FinishesBuilt given r mid new
built_finishes (Ok v) r mid new h = λ p code here.
    let f : m.Value → World → s.State = λ y. on (state_of p mid) (Datum y ∷ cells_of p mid.stack.items) in
    subst (λ n. Follows code n r (state_of p new) here.place)
    (performs_gives (value_of v) (world_of mid.store) f ∙ sym (performs_built (value_of v) here (store_of mid.store) f)) (h p code here.place)
built_finishes (Err e) r mid new h = λ p code here.
    let f : m.Value → World → s.State = λ y. on (state_of p mid) (Datum y ∷ cells_of p mid.stack.items) in
    subst (λ n. Follows code n r (state_of p new) here.place)
    (performs_fails e here.place (world_of mid.store) f ∙ sym (performs_failed e here (world_of mid.store) f)) (h p code here.place)
