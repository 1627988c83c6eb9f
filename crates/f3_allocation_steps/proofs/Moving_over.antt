-- What a MOVE_ALLOC comes to.
use Rattle.std.proofs.Common.{◌≡◌, true, false, List, [], ◌++◌, length, refl, sym, ap, ◌∙◌}
use Rattle.std.specs.Prelude.{⊤, Err}
use Rattle.f3_meaning_whole.specs.Value as v
use Rattle.f3_meaning_whole.specs.Value.{spread}
use Rattle.f3_meaning_whole.specs.Store as t
use Rattle.f3_meaning_whole.specs.Store.{put_all, get}
use Rattle.f3_meaning_whole.specs.Reference as m
use Rattle.f3_meaning_whole.specs.Reference.{paths, is_pinned}
use Rattle.f3_meaning_whole.specs.declared.run_error.RunError.TheVariants.{InUse}
use Rattle.f3_meaning_whole.specs.Ran.{Gives, Fails, World, ◌>>=◌, gives, fails, looks, does, behind}
use Rattle.f3_meaning_whole.specs.Act.{Setting, Here, change}
use Rattle.f3_meaning_whole.specs.Exec.{take_over}
use Rattle.f3_code.specs.Machine.{no_calls, performs, ends_so}
use Rattle.f3_code.specs.State as s
use Rattle.f3_cells.specs.declared.state.Stop.{Stop}
use Rattle.f3_cells.specs.declared.state.Stop.TheVariants as stop
use Rattle.f3_cells.specs.Follows.{Follows}
use Rattle.f3_allocation_steps.specs.Acts.{TakesOver}
use Rattle.f3_data.specs.declared.store.Store.{Store}
use Rattle.f3_data.specs.Stores.{store_of}
use Rattle.f3_cells.specs.States.{world_of, granted}

nothing : (from to : m.Reference) (g : Setting) (here : Here) (w : World) (x : v.Value) → v.is_allocated x ≡ false
    → (take_over g 0 no_calls from to x here).from w ≡ record { out = []; end = Gives tt w }
unfolding gives
nothing from to g here w (v.Number z) h = refl
nothing from to g here w (v.Truth b) h = refl
nothing from to g here w (v.Composite xs) h = refl
nothing from to g here w (v.Array ss xs) h = refl
nothing from to g here w v.Unallocated h = refl
nothing from to g here w (v.Allocated x) h = cc

something : (from to : m.Reference) (g : Setting) (here : Here) (old new : Store) (x : v.Value) → is_pinned from.path here.lent ≡ false
    → store_of new ≡ put_all (paths to) (spread (length (paths to)) (v.Allocated x)) (put_all (paths from) (spread (length (paths from)) v.Unallocated) (store_of old))
    → (take_over g 0 no_calls from to (v.Allocated x) here).from (world_of old) ≡ record { out = change from here (spread (length (paths from)) v.Unallocated) ++ change to here (spread (length (paths to)) (v.Allocated x)); end = Gives tt (world_of new) }
unfolding ◌>>=◌ does
something from to g here old new x h n = rw h
    (ap (λ (st : t.Store). record { out = change from here (spread (length (paths from)) v.Unallocated) ++ change to here (spread (length (paths to)) (v.Allocated x)); end = Gives tt (record { store = st; answers = granted }) }) (sym n))

in_use : (from to : m.Reference) (g : Setting) (here : Here) (w : World) (x : v.Value) → is_pinned from.path here.lent ≡ true
    → (take_over g 0 no_calls from to (v.Allocated x) here).from w ≡ record { out = []; end = Fails InUse here.place }
unfolding fails
in_use from to g here w x h = rw h refl

-- it held nothing
pub kept : (from to : m.Reference) (g : Setting) (here : Here) (old : Store) → v.is_allocated (get (store_of old) from.path) ≡ false
    → (looks (λ store. get store from.path) >>= λ x. take_over g 0 no_calls from to x here).from (world_of old) ≡ record { out = []; end = Gives tt (world_of old) }
unfolding ◌>>=◌ looks
kept from to g here old h = ap (behind []) (nothing from to g here (world_of old) (get (store_of old) from.path) h)

-- it went to the other
pub went_over : (from to : m.Reference) (g : Setting) (here : Here) (old new : Store) (x : v.Value) → get (store_of old) from.path ≡ v.Allocated x → is_pinned from.path here.lent ≡ false
    → store_of new ≡ put_all (paths to) (spread (length (paths to)) (v.Allocated x)) (put_all (paths from) (spread (length (paths from)) v.Unallocated) (store_of old))
    → (looks (λ store. get store from.path) >>= λ x. take_over g 0 no_calls from to x here).from (world_of old)
    ≡ record { out = change from here (spread (length (paths from)) v.Unallocated) ++ change to here (spread (length (paths to)) (v.Allocated x)); end = Gives tt (world_of new) }
unfolding ◌>>=◌ looks
went_over from to g here old new x e h n = ap (λ y. behind [] ((take_over g 0 no_calls from to y here).from (world_of old))) e ∙ ap (behind []) (something from to g here old new x h n)

-- it is in use
pub was_in_use : (from to : m.Reference) (g : Setting) (here : Here) (old : Store) (x : v.Value) → get (store_of old) from.path ≡ v.Allocated x → is_pinned from.path here.lent ≡ true
    → (looks (λ store. get store from.path) >>= λ x. take_over g 0 no_calls from to x here).from (world_of old) ≡ record { out = []; end = Fails InUse here.place }
unfolding ◌>>=◌ looks
was_in_use from to g here old x e h = ap (λ y. behind [] ((take_over g 0 no_calls from to y here).from (world_of old))) e ∙ ap (behind []) (in_use from to g here (world_of old) x h)

-- it did not
pub not_over : (code : s.Code) (end : s.State) (here : Here) (from to : m.Reference) (lent : List m.Reference) (e : Stop) (old new : Store) (g : Setting) (k : ⊤ → World → s.State) (next : s.Next)
    → next ≡ performs (looks (λ store. get store from.path) >>= λ x. take_over g 0 no_calls from to x here) (world_of old) k → here.lent ≡ lent
    → TakesOver from to lent (Err e) old new → Follows code next (Err e) end here.place
not_over code end here from to lent (stop.Failed error) old new g k next n l h = ([], n ∙ ap (λ o. ends_so o.out o.end k) (h g here l), refl)
not_over code end here from to lent stop.Memory old new g k next n l h = tt
not_over code end here from to lent stop.Stuck old new g k next n l h = absurd h
not_over code end here from to lent stop.Done old new g k next n l h = absurd h
not_over code end here from to lent (stop.Stopped number) old new g k next n l h = absurd h
not_over code end here from to lent stop.Lost old new g k next n l h = absurd h
not_over code end here from to lent stop.Refused old new g k next n l h = absurd h
