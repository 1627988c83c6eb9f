-- What an ALLOCATE comes to, where the heap grants each request.
use Rattle.std.proofs.Common.{◌≡◌, ℕ, zero, suc, ◌<◌, ◌≤◌, ◌^◌, ℤ, Bool, true, false, nat_lt, List, [], ◌∷◌, length, get_or, map, refl, sym, ap, ◌∙◌, arith}
use Rattle.std.specs.Prelude.{Option, None, Some, if◌then◌else◌}
use Rattle.std.proofs.lemmas.Grind.{common_steps}
use Rattle.f3_meaning_whole.specs.Value as v
use Rattle.f3_meaning_whole.specs.Value.{spread}
use Rattle.f3_meaning_whole.specs.Store as t
use Rattle.f3_meaning_whole.specs.Store.{put_all, get}
use Rattle.f3_meaning_whole.specs.Reference as m
use Rattle.f3_meaning_whole.specs.Reference.{paths}
use Rattle.f3_meaning_whole.specs.declared.run_error.RunError.TheVariants.{AlreadyAllocated, ArrayTooLarge}
use Rattle.f3_meaning_whole.specs.Ran.{Asked, Gives, ◌>>=◌, gives, looks, does, asks}
use Rattle.f3_meaning_whole.specs.Act.{Here, change}
use Rattle.f3_meaning_whole.specs.Exec.{vacant, too_many}
use Rattle.f3_code.specs.Exec.{allocate}
use Rattle.f3_arithmetic.specs.Turns.{turns_of}
use Rattle.f3_data.specs.declared.store.Store.{Store}
use Rattle.f3_data.specs.Stores.{store_of}
use Rattle.f3_cells.specs.Popped.{extent_in}
use Rattle.f3_cells.specs.States.{world_of, granted}
use Rattle.f3_allocation_steps.specs.Acts.{too_large}

pub already_there : (rank : ℕ) (x : v.Value) (h : m.Reference) (ss : List v.Span) (here : Here) (store : Store) → v.is_allocated (get (store_of store) h.path) ≡ true
    → (allocate rank x h ss here).from (world_of store) ≡ record { out = []; end = Gives (Some AlreadyAllocated) (world_of store) }
unfolding ◌>>=◌ looks gives
already_there rank x h ss here store e = rw e refl

pub not_made : (rank : ℕ) (x : v.Value) (h : m.Reference) (ss : List v.Span) (here : Here) (store : Store) → v.is_allocated (get (store_of store) h.path) ≡ false → too_large ss ≡ true
    → (allocate rank x h ss here).from (world_of store) ≡ record { out = []; end = Gives (Some ArrayTooLarge) (world_of store) }
unfolding ◌>>=◌ looks gives
not_made rank x h ss here store e f = rw e (rw f refl)

pub made : (rank : ℕ) (x y : v.Value) (h : m.Reference) (ss : List v.Span) (here : Here) (old new : Store) → v.is_allocated (get (store_of old) h.path) ≡ false → too_large ss ≡ false
    → y ≡ v.Allocated (vacant rank ss x) → store_of new ≡ put_all (paths h) (spread (length (paths h)) y) (store_of old)
    → (allocate rank x h ss here).from (world_of old) ≡ record { out = Asked false ∷ change h here (spread (length (paths h)) (v.Allocated (vacant rank ss x))); end = Gives None (world_of new) }
unfolding ◌>>=◌ looks gives does asks
made rank x y h ss here old new e f i n = rw e (rw f
    (ap (λ (st : t.Store). record { out = Asked false ∷ change h here (spread (length (paths h)) (v.Allocated (vacant rank ss x))); end = Gives None (record { store = st; answers = granted }) })
    (sym (n ∙ ap (λ y. put_all (paths h) (spread (length (paths h)) y) (store_of old)) i))))

either : (b c : Bool) → c ≡ true → (if b then c else true) ≡ true
either true c h = h
either false c h = refl

-- a dimension has too many subscripts
pub too_many_at : (xs : List (ℤ × Option ℕ)) (k : ℕ) (d : ℤ × Option ℕ) → k < length xs → 2 ^ 64 ≤ turns_of ((get_or xs k d).1) → too_many (map extent_in xs) ≡ true
too_many_at [] k d h e = absurd (omega arith)
too_many_at (x ∷ xs) zero d h e = let n : nat_lt (turns_of (x.1)) (2 ^ 63) ≡ false = grind (arith, common_steps) in rw n refl
too_many_at (x ∷ xs) (suc k) d h e = let n : too_many (map extent_in xs) ≡ true = too_many_at xs k d (omega arith) e in
    either (nat_lt (turns_of (x.1)) (2 ^ 63)) (too_many (map extent_in xs)) n
