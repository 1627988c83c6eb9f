-- What quiet events leave as it was.
use Rattle.std.proofs.Common.{◌≡◌, ℕ, zero, suc, ◌≤◌, Bool, true, false, List, [], ◌∷◌, ◌++◌, refl, sym, ap, ◌∙◌, length, take, arith}
use Rattle.std.specs.Prelude.{⊤, ◌&&◌, slice_set}
use mathlib.Core.Path.{subst}
use Rattle.std.proofs.lemmas.Bool.{leb-true, le-leb}
use Rattle.f3_program.specs.declared.expression.Expression.{Expression}
use Rattle.f3_program.specs.declared.program.Program.{Program}
use Rattle.f3_meaning_whole.specs.Value.{Value}
use Rattle.f3_meaning_whole.specs.Store.{Root, Static, Local, Store, Path, put, put_all, with_root, get, same_root}
use Rattle.f3_meaning_whole.specs.Reference.{paths}
use Rattle.f3_meaning_whole.specs.Ran.{Event, Printed, Changed, Began, Entered, Ended, Asked, effect, replayed, World, End, Gives, Fails, Stops, Beyond, Ran}
use Rattle.f3_meaning_whole.specs.Act.{Here, Passed}
use Rattle.f3_meaning_whole.specs.Eval.{value, locate}
use Rattle.f3_meaning_whole.specs.Permitted.{Each}
use Rattle.f3_meaning_whole.specs.Run.{setting_of, calls_of}
use Rattle.f3_meaning_laws.specs.Laws.{Apart, Outlives, Spares, IsThere}
use Rattle.f3_meaning_laws.proofs.Frame.{same_roots, spared}
use Rattle.f3_meaning_laws.proofs.Keeping.{no}
use Rattle.f3_pure_laws.specs.References.{Refers}
use Rattle.f3_pure_laws.specs.Pure.{definable_in, IsPure}
use Rattle.f3_pure_laws.specs.Laws.{IsFree, IsQuiet, NeverStops, AreNewFree, IsPassedFree, is_new, FunctionsChangeNothing, PlacesChangeNothing, FunctionsAreQuiet, PureCallsAreQuiet, PureCallsKeep}
use Rattle.f3_pure_laws.proofs.Running.{Has, OnGives, Runs, Quiet, weaken}
use Rattle.f3_pure_laws.proofs.Values.{value_quiet, locate_runs}
use Rattle.f3_pure_laws.proofs.Executing.{calls_run}

-- ---- levels

abbrev Levels : Type 0
Levels = List (List Value)

-- the same static variables and the same levels below this one, all of which are there
abbrev IsSame : ℕ → Store → Store → Type 0
IsSame level s t = (t.statics ≡ s.statics) × (take level t.levels ≡ take level s.levels) × (level ≤ length t.levels)

same_then : (level : ℕ) (s t u : Store) → IsSame level s t → IsSame level t u → IsSame level s u
same_then level s t u h k = (k.0 ∙ h.0, k.1 ∙ h.1, k.2)

take_put : (level l : ℕ) (xs : Levels) (x : List Value) → level ≤ l → take level (slice_set xs l x) ≡ take level xs
take_put zero l xs x h = refl
take_put (suc level) l [] x h = refl
take_put (suc level) zero (y ∷ ys) x h = absurd (omega arith)
take_put (suc level) (suc l) (y ∷ ys) x h = ap (λ zs. y ∷ zs) (take_put level l ys x (omega arith))

length_put : (xs : Levels) (l : ℕ) (x : List Value) → length (slice_set xs l x) ≡ length xs
length_put [] l x = refl
length_put (y ∷ ys) zero x = refl
length_put (y ∷ ys) (suc l) x = ap suc (length_put ys l x)

take_more : (level : ℕ) (xs : Levels) (x : List Value) → level ≤ length xs → take level (xs ++ x ∷ []) ≡ take level xs
take_more zero xs x h = refl
take_more (suc level) [] x h = absurd (omega arith)
take_more (suc level) (y ∷ ys) x h = ap (λ zs. y ∷ zs) (take_more level ys x (omega arith))

length_more : (level : ℕ) (xs : Levels) (x : List Value) → level ≤ length xs → level ≤ length (xs ++ x ∷ [])
length_more zero xs x h = omega arith
length_more (suc level) [] x h = absurd (omega arith)
length_more (suc level) (y ∷ ys) x h = let k : level ≤ length (ys ++ x ∷ []) = length_more level ys x (omega arith) in omega arith

take_fewer : (level l : ℕ) (xs : Levels) → level ≤ l → take level (take l xs) ≡ take level xs
take_fewer zero l xs h = refl
take_fewer (suc level) zero xs h = absurd (omega arith)
take_fewer (suc level) (suc l) [] h = refl
take_fewer (suc level) (suc l) (y ∷ ys) h = ap (λ zs. y ∷ zs) (take_fewer level l ys (omega arith))

length_fewer : (level l : ℕ) (xs : Levels) → level ≤ l → level ≤ length xs → level ≤ length (take l xs)
length_fewer zero l xs h k = omega arith
length_fewer (suc level) zero xs h k = absurd (omega arith)
length_fewer (suc level) (suc l) [] h k = absurd (omega arith)
length_fewer (suc level) (suc l) (y ∷ ys) h k = let i : level ≤ length (take l ys) = length_fewer level l ys (omega arith) (omega arith) in omega arith

take_all : (level : ℕ) (xs : Levels) → length xs ≡ level → take level xs ≡ xs
take_all zero [] h = refl
take_all zero (y ∷ ys) h = absurd (omega arith)
take_all (suc level) [] h = refl
take_all (suc level) (y ∷ ys) h = ap (λ zs. y ∷ zs) (take_all level ys (omega arith))

-- ---- changes on new levels

put_same : (level : ℕ) (s : Store) (t : Root) (v : Value) → is_new level t ≡ true → level ≤ length s.levels → IsSame level s (with_root s t v)
put_same level s (Static i) v e h = no e
put_same level s (Local l i) v e h = (refl, take_put level l s.levels _ (leb-true level l e), subst (λ k. level ≤ k) (sym (length_put s.levels l _)) h)

all_same : (level : ℕ) (ps : List Path) (vs : List Value) (s : Store) → Each (IsFree (is_new level)) ps → level ≤ length s.levels → IsSame level s (put_all ps vs s)
all_same level [] vs s e h = (refl, refl, h)
all_same level (p ∷ ps) [] s e h = (refl, refl, h)
all_same level (p ∷ ps) (v ∷ vs) s e h =
    let k = put_same level s p.root _ e.0 h in
    same_then level s (put s p v) (put_all ps vs (put s p v)) k (all_same level ps vs (put s p v) e.1 k.2)

effect_same : (level : ℕ) (e : Event) (s : Store) → IsQuiet level (is_new level) e → level ≤ length s.levels → IsSame level s (effect e s)
effect_same level (Printed byte) s q h = absurd q
effect_same level (Changed c vs) s q h = all_same level (paths c.reference) vs s q h
effect_same level (Began stage) s q h = (refl, refl, h)
effect_same level (Entered vs) s q h = (refl, take_more level s.levels vs h, length_more level s.levels vs h)
effect_same level (Ended l) s q h = (refl, take_fewer level l s.levels q, length_fewer level l s.levels q h)
effect_same level (Asked refused) s q h = (refl, refl, h)

replayed_same : (level : ℕ) (es : List Event) (s : Store) → Each (IsQuiet level (is_new level)) es → level ≤ length s.levels → IsSame level s (replayed es s)
replayed_same level [] s q h = (refl, refl, h)
replayed_same level (e ∷ es) s q h =
    let k = effect_same level e s q.0 h in
    same_then level s (effect e s) (replayed es (effect e s)) k (replayed_same level es (effect e s) q.1 k.2)

stores_same : (s t : Store) → t.statics ≡ s.statics → t.levels ≡ s.levels → t ≡ s
stores_same s t e h = ap (λ (x : List Value). record { statics = x; levels = t.levels }) e ∙ ap (λ (x : Levels). record { statics = s.statics; levels = x }) h

restored : (s t : Store) → IsSame (length s.levels) s t → length t.levels ≡ length s.levels → t ≡ s
restored s t h e = stores_same s t h.0 (sym (take_all (length s.levels) t.levels e) ∙ h.1 ∙ take_all (length s.levels) s.levels refl)

-- ---- expressions

never_stops : {A : Type 0} (level : ℕ) (free : Root → Bool) (b : ℕ) (P : A → Type 0) (s : Store) (out : List Event) (end : End A) → OnGives level free b P s out end → NeverStops end
never_stops level free b P s out (Gives x w) h = tt
never_stops level free b P s out (Fails error place) h = tt
never_stops level free b P s out (Stops code) h = h
never_stops level free b P s out Beyond h = tt

-- what happens in a quiet part of a run
quiet_events : {A : Type 0} (level : ℕ) (free : Root → Bool) (m : Ran A) (w : World) → Runs level free level level (λ x. ⊤) m → Has level w.store → Each (IsQuiet level free) (m.from w).out × NeverStops (m.from w).end
quiet_events level free m w h e = ((h.always w e).0, never_stops level free level (λ x. ⊤) w.store (m.from w).out (m.from w).end (h.always w e).1)

new_free : (level : ℕ) → AreNewFree level (is_new level)
new_free level l i h = le-leb level l h

quiet_expression : (p : Program) (pure : ℕ → Bool) → IsPure p pure → (depth n : ℕ) (x : Expression) → Refers p x → (here : Here) (level : ℕ)
    → Quiet level (is_new level) level (value (setting_of p) (calls_of depth (setting_of p) n) x here)
quiet_expression p pure m depth n x r here level =
    value_quiet p pure m.functions level (is_new level) (calls_of depth (setting_of p) n) (calls_run p pure m level (is_new level) (new_free level) n depth) level (omega arith) x here r

pub functions_are_quiet : FunctionsAreQuiet
functions_are_quiet p pure m depth n x r here w =
    quiet_events (length w.store.levels) (is_new (length w.store.levels)) (value (setting_of p) (calls_of depth (setting_of p) n) x here) w (quiet_expression p pure m depth n x r here (length w.store.levels)) refl

unchanged : {A : Type 0} (m : Ran A) (w after : World) (x : A) → Runs (length w.store.levels) (is_new (length w.store.levels)) (length w.store.levels) (length w.store.levels) (λ y. ⊤) m
    → (m.from w).end ≡ Gives x after → after.store ≡ w.store
unchanged m w after x h e =
    let level : ℕ = length w.store.levels in
    let k = h.always w refl in
    let g = subst (OnGives level (is_new level) level (λ y. ⊤) w.store (m.from w).out) e k.1 in
    restored w.store after.store (subst (IsSame level w.store) (sym g.1) (replayed_same level _ w.store k.0 (omega arith))) g.2

pub functions_change_nothing : FunctionsChangeNothing
functions_change_nothing p pure m depth n x r here w after v e =
    unchanged (value (setting_of p) (calls_of depth (setting_of p) n) x here) w after v (quiet_expression p pure m depth n x r here (length w.store.levels)) e

pub places_change_nothing : PlacesChangeNothing
places_change_nothing p pure m depth n x r here w after q e =
    let level : ℕ = length w.store.levels in
    unchanged (locate (setting_of p) (calls_of depth (setting_of p) n) x here) w after q
    (weaken level (is_new level) (λ y h. tt) (locate_runs p pure m.functions level (is_new level) (calls_of depth (setting_of p) n) (calls_run p pure m level (is_new level) (new_free level) n depth) level (omega arith) x here r)) e

-- ---- calls

quiet_call : (p : Program) (pure : ℕ → Bool) → IsPure p pure → (depth n f : ℕ) → pure f ≡ true → (ps : List Passed) (here : Here) (level : ℕ) (free : Root → Bool) → AreNewFree level free
    → Each (IsPassedFree (definable_in p f) free) ps → Quiet level free level (calls_of depth (setting_of p) n here f ps)
quiet_call p pure m depth n f e ps here level free new h = calls_run p pure m level free new n depth level (omega arith) here f ps e h

pub pure_calls_are_quiet : PureCallsAreQuiet
pure_calls_are_quiet p pure m depth n f e ps here w free new h =
    quiet_events (length w.store.levels) free (calls_of depth (setting_of p) n here f ps) w (quiet_call p pure m depth n f e ps here (length w.store.levels) free new h) refl

differ : (free : Root → Bool) (t u : Root) → free t ≡ false → free u ≡ true → (b : Bool) → same_root t u ≡ b → b ≡ false
differ free t u f g false e = refl
differ free t u f g true e = no (sym f ∙ ap free (same_roots t u e) ∙ g)

either : (a b : Bool) → a ≡ false → (a && b) ≡ false
either false b e = refl
either true b e = no (sym e)

all_apart : (free : Root → Bool) (q : Path) → free q.root ≡ false → (ps : List Path) → Each (IsFree free) ps → Each (Apart q) ps
all_apart free q f [] h = tt
all_apart free q f (p ∷ ps) h = (
  (either _ _ (differ free q.root p.root f h.0 _ refl), either _ _ (backward p.root h.0 (same_root p.root q.root) refl)),
  all_apart free q f ps h.1,
)
  where
    backward : (u : Root) → free u ≡ true → (b : Bool) → same_root u q.root ≡ b → b ≡ false
    backward u g false e = refl
    backward u g true e = no (sym f ∙ ap free (sym (same_roots u q.root e)) ∙ g)

outlives : (t : Root) (s : Store) (l : ℕ) → IsThere t s → length s.levels ≤ l → Outlives t l
outlives (Static i) s l h k = tt
outlives (Local j i) s l h k = omega arith

event_spares : (free : Root → Bool) (q : Path) (s : Store) → IsThere q.root s → free q.root ≡ false → (e : Event) → IsQuiet (length s.levels) free e → Spares q e
event_spares free q s t f (Printed byte) h = tt
event_spares free q s t f (Changed c vs) h = all_apart free q f (paths c.reference) h
event_spares free q s t f (Began stage) h = tt
event_spares free q s t f (Entered vs) h = tt
event_spares free q s t f (Ended l) h = outlives q.root s l t h
event_spares free q s t f (Asked refused) h = tt

all_spare : (free : Root → Bool) (q : Path) (s : Store) → IsThere q.root s → free q.root ≡ false → (es : List Event) → Each (IsQuiet (length s.levels) free) es → Each (Spares q) es
all_spare free q s t f [] h = tt
all_spare free q s t f (e ∷ es) h = (event_spares free q s t f e h.0, all_spare free q s t f es h.1)

pub pure_calls_keep : PureCallsKeep
pure_calls_keep p pure m depth n f e ps here w after v free new h i =
    let level : ℕ = length w.store.levels in
    let k = (quiet_call p pure m depth n f e ps here level free new h).always w refl in
    let g = subst (OnGives level free level (λ x. ⊤) w.store ((calls_of depth (setting_of p) n here f ps).from w).out) i k.1 in
    (g.2, λ q t o. ap (λ s. get s q) g.1 ∙ spared _ w.store q t (all_spare free q w.store t o _ k.0))
