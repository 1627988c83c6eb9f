-- Parts of runs that leave as many levels as there were.
use Rattle.std.proofs.Common.{◌≡◌, ℕ, zero, suc, ◌+◌, ◌≤◌, Bool, true, false, List, [], ◌∷◌, ◌++◌, length, take, map, None, refl, ap, ◌∙◌, subst, arith, if◌then◌else◌, length-append, ◌||◌}
use Rattle.std.specs.Prelude.{slice_set, nat_lt}
use Rattle.f3_program.specs.declared.expression.Name.{Name}
use Rattle.f3_program.specs.declared.expression.Name.TheVariants as n
use Rattle.f3_meaning_whole.specs.Value.{Span, Value, Number, Truth, Composite, Array, Unallocated, Allocated, count, spread, cleared, is_allocated}
use Rattle.f3_meaning_whole.specs.Store.{Store, Root, Static, Local, Path, with_root, get, put, put_all}
use Rattle.f3_meaning_whole.specs.Reference.{Maker, Reach, One, Many, Reference, paths, is_pinned}
use Rattle.f3_meaning_whole.specs.declared.run_error.RunError.TheVariants.{InUse}
use Rattle.f3_meaning_whole.specs.Ran.{Ran, End, Gives, Fails, Stops, Beyond}
use Rattle.f3_meaning_whole.specs.Eval.{by_reach}
use Rattle.f3_meaning_whole.specs.Act.{Setting, Here, Chosen, set, clear, enter, leave, named, component, contents_by, contents, opened, picks, picks_in_each, places}
use Rattle.f3_meaning_whole.specs.Exec.{take_over, too_many, vacant}
use Rattle.f3_code.specs.Exec.{allocate}
use Rattle.f3_code.specs.Machine.{selects, opens, no_calls}
use Rattle.f3_store_kinds.proofs.After.{IsAfter, After, gives_after, fails_after, does_after, bind_after, calm_after, calm_then, if_after}
use Rattle.f3_store_kinds.proofs.Still.{Still, gives_still, fails_still, looks_still, then_still, request_still}

abbrev pub many : Store → ℕ
many store = length store.levels

-- so many levels afterwards
abbrev pub Sized : {A : Type 0} → ℕ → Store → Ran A → Type 0
Sized {A} n store r = After {A = A} (λ x st. many st ≡ n) store r

pub still_sized : {A : Type 0} {store : Store} {r : Ran A} → Still store r → Sized (many store) store r
still_sized {store = store} {r = r} h = record { by = λ w e. by_end _ ((calm_after h).by w e) }
  where
    by_end : {A : Type 0} (end : End A) → IsAfter (λ x st. Unit {0} × (st ≡ store)) end → IsAfter (λ x st. many st ≡ many store) end
    by_end (Gives x w) h = ap many h.1
    by_end (Fails error place) h = tt
    by_end (Stops code) h = tt
    by_end Beyond h = tt

-- ---- stores

set_length : {A : Type 0} (xs : List A) (i : ℕ) (x : A) → length (slice_set xs i x) ≡ length xs
set_length [] i x = refl
set_length (y ∷ xs) zero x = refl
set_length (y ∷ xs) (suc i) x = ap suc (set_length xs i x)

root_many : (store : Store) (r : Root) (v : Value) → many (with_root store r v) ≡ many store
root_many store (Static i) v = refl
root_many store (Local l i) v = set_length store.levels l _

put_many : (ps : List Path) (vs : List Value) (store : Store) → many (put_all ps vs store) ≡ many store
put_many [] vs store = refl
put_many (p ∷ ps) [] store = refl
put_many (p ∷ ps) (v ∷ vs) store = put_many ps vs (put store p v) ∙ root_many store p.root _

take_many : {A : Type 0} (k : ℕ) (xs : List A) → length (take k xs) ≤ k
take_many zero xs = omega arith
take_many (suc k) [] = omega arith
take_many (suc k) (x ∷ xs) = omega (arith, take_many k xs)

module _ (store : Store) where
  pub set_sized : (r : Reference) (v : Value) (here : Here) → Sized (many store) store (set r v here)
  set_sized r v here = does_after {P = λ x st. many st ≡ many store} _ (put_many (paths r) (spread (length (paths r)) v) store)

  pub clear_sized : (r : Reference) (here : Here) → Sized (many store) store (clear r here)
  clear_sized r here = does_after {P = λ x st. many st ≡ many store} _ (put_many (paths r) (map (λ p. cleared (get store p)) (paths r)) store)

  pub enter_sized : (n : ℕ) (vs : List Value) → many store ≡ n → Sized (n + 1) store (enter vs)
  enter_sized n vs e = does_after {P = λ x st. many st ≡ n + 1} _ (let f : length (store.levels ++ vs ∷ []) ≡ n + 1 = omega (arith, length-append store.levels (vs ∷ []), e) in f)

  pub leave_after : (n : ℕ) → After (λ x st. many st ≤ n) store (leave n)
  leave_after n = does_after {P = λ x st. many st ≤ n} _ (take_many n store.levels)

  -- ---- objects

  pub named_still : (g : Setting) (x : Name) (here : Here) → Still store (named g x here)
  named_still g (n.Static i) here = looks_still store _
  named_still g (n.Local i) here = looks_still store _
  named_still g (n.Lent i) here = gives_still store _

  pub component_still : (g : Setting) (k : ℕ) (maker : Maker) (r : Reference) → Still store (component g k maker r)
  component_still g k maker r = looks_still store _

  opened_still : (r : Reference) (v : Value) (here : Here) → Still store (opened r v here)
  opened_still r (Allocated v) here = gives_still store _
  opened_still r (Number z) here = fails_still store _ here.place
  opened_still r (Truth b) here = fails_still store _ here.place
  opened_still r (Composite vs) here = fails_still store _ here.place
  opened_still r (Array ss vs) here = fails_still store _ here.place
  opened_still r Unallocated here = fails_still store _ here.place

  contents_by_still : (reach : Reach) (r : Reference) (here : Here) → Still store (contents_by reach r here)
  contents_by_still One r here = then_still store (looks_still store (λ store. get store r.path)) (λ v. opened_still r v here)
  contents_by_still (Many ss ps) r here = fails_still store _ here.place

  pub contents_still : (r : Reference) (here : Here) → Still store (contents r here)
  contents_still r here = contents_by_still r.reach r here

  if_still : {A : Type 0} (b : Bool) {x y : Ran A} → Still store x → Still store y → Still store (if b then x else y)
  if_still true h k = h
  if_still false h k = k

  pub opens_still : (r : Reference) (here : Here) → Still store (opens r here)
  opens_still r here = if_still (is_pinned r.path here.lent) (fails_still store _ here.place) (contents_still r here)

  places_still : (ss : List Span) (cs : List Chosen) (here : Here) → Still store (places ss cs here)
  places_still ss cs here = if_still _ (fails_still store _ here.place) (if_still _ (gives_still store _) (fails_still store _ here.place))

  picks_still : (r : Reference) (reach : Reach) (cs : List Chosen) (here : Here) → Still store (picks r reach cs here)
  picks_still r One cs here = gives_still store r
  picks_still r (Many ss ps) cs here = then_still store (places_still ss cs here) (λ ks. gives_still store _)

  pub picks_in_each_still : (ss : List Span) (r : Reference) (cs : List Chosen) (here : Here) → Still store (picks_in_each ss r cs here)
  picks_in_each_still ss r cs here = then_still store (places_still ss cs here) (λ ks. gives_still store _)

  pub selects_still : (is_opened : Bool) (cs : List Chosen) (r : Reference) (here : Here) → Still store (selects is_opened cs r here)
  selects_still is_opened cs r here = then_still store (if_still is_opened (contents_still r here) (gives_still store r)) (λ q. picks_still q q.reach cs here)

  pub by_reach_still : {A : Type 0} (reach : Reach) {x y : Ran A} → Still store x → Still store y → Still store (by_reach reach x y)
  by_reach_still One h k = h
  by_reach_still (Many ss ps) h k = k

  -- ---- objects that change

  pub allocate_sized : (rank : ℕ) (v : Value) (h : Reference) (ss : List Span) (here : Here) → Sized (many store) store (allocate rank v h ss here)
  allocate_sized rank v h ss here = calm_then (looks_still store (λ store. is_allocated (get store h.path))) (λ b t.
      if_after b (λ e. gives_after _ refl) (λ e. if_after (too_many ss || nat_lt 16777216 (count ss)) (λ e. gives_after _ refl) (λ e.
      calm_then (request_still store) (λ c t. if_after c (λ e. gives_after _ refl) (λ e.
      bind_after (λ y st. many st ≡ many store) (set_sized h (Allocated (vacant rank ss v)) here) (λ y st u. gives_after None u))))))

  pub take_over_sized : (g : Setting) (from to : Reference) (v : Value) (here : Here) → Sized (many store) store (take_over g 0 no_calls from to v here)
  take_over_sized g from to (Allocated v) here = if_after (is_pinned from.path here.lent) (λ e. fails_after InUse here.place)
      (λ e. bind_after (λ y st. many st ≡ many store) (set_sized from Unallocated here) (λ y st u. subst (λ n. Sized n st (set to (Allocated v) here)) u (again st)))
    where
      again : (st : Store) → Sized (many st) st (set to (Allocated v) here)
      again st = does_after {P = λ x s. many s ≡ many st} _ (put_many (paths to) (spread (length (paths to)) (Allocated v)) st)
  take_over_sized g from to (Number z) here = gives_after tt refl
  take_over_sized g from to (Truth b) here = gives_after tt refl
  take_over_sized g from to (Composite vs) here = gives_after tt refl
  take_over_sized g from to (Array ss vs) here = gives_after tt refl
  take_over_sized g from to Unallocated here = gives_after tt refl
