-- Instructions take what they want.
use Rattle.std.proofs.Common.{◌≡◌, ℕ, zero, suc, ◌+◌, Bool, true, false, List, [], ◌∷◌, ◌++◌, length, take, Option, None, Some, ap, arith, slice_get, nat_lt, if◌then◌else◌}
use Rattle.f3_meaning_whole.specs.Value.{Value}
use Rattle.f3_meaning_whole.specs.Store.{Store}
use Rattle.f3_meaning_whole.specs.declared.run_error.RunError.TheVariants.{CallsTooDeep}
use Rattle.f3_meaning_whole.specs.Ran.{Event, ◌>>=◌, gives, looks, does, asks}
use Rattle.f3_meaning_whole.specs.Act.{Here, Passed, Given, Lent}
use Rattle.f3_meaning_whole.specs.Exec.{held}
use Rattle.f3_code.specs.State.{Entry, Cell, Argument, State, Failed, Next, Goes, Stays}
use Rattle.f3_code.specs.Machine.{performs, begun, entered, called_at, argument_of, on_many}
use Rattle.f3_code.specs.Account.{block, level_words, used}
use Rattle.f3_code.proofs.Rows.{levels_words_append, levels_words_split}
use Rattle.f3_code.specs.Wants.{wants, given_words}
use Rattle.f3_code.specs.Wants as wants
use Rattle.f3_code.specs.Heap.{granted, with_answers}
use Rattle.f3_account_laws.specs.Laws.{CallsTakeWhatTheyWant, LevelsAreGivenBack}

-- the store behind an instruction, and an empty one where it goes no further
abbrev pub store_after : Next → Store
store_after (Goes out t) = t.world.store
store_after (Stays out halt) = record { statics = []; levels = [] }

-- ---- calls

-- the arguments that are collected, and where it goes on with them
arguments_go : (k : ℕ) (xs : List Passed) (stack : List Cell) (f : List Passed → List Cell → Next) (out : List Event) (t : State) →
    on_many argument_of k xs stack f ≡ Goes out t →
    (ps : List Passed) × (st : List Cell) × (f ps st ≡ Goes out t) × (level_words (held ps) ≡ given_words (take k stack) + level_words (held xs))
arguments_go zero xs stack f out t e = (xs, stack, e, omega arith)
arguments_go (suc k) xs [] f out t e = cc e
arguments_go (suc k) xs (Argument (Given j v) ∷ stack) f out t e =
    let more = arguments_go k (Given j v ∷ xs) stack f out t e in (more.0, more.1, more.2, omega (arith, more.3))
arguments_go (suc k) xs (Argument (Lent j r) ∷ stack) f out t e =
    let more = arguments_go k (Lent j r ∷ xs) stack f out t e in (more.0, more.1, more.2, omega (arith, more.3))
arguments_go (suc k) xs (c ∷ stack) f out t e = cc e

-- storage for an activation takes a block for what is held, and one for the variables
begun_takes : (s : State) (stack : List Cell) (here : Here) (entry : Entry) (ps : List Passed) (out : List Event) (t : State) →
    performs (begun ps entry.initial here) (record { store = s.world.store; answers = granted }) (entered (with_answers granted s) stack here entry ps) ≡ Goes out t →
    used t.world.store ≡ used s.world.store + (block (level_words (held ps)) + block (level_words entry.initial))
unfolding ◌>>=◌ gives looks does asks
begun_takes s stack here entry ps out t e =
    let levels : List (List Value) = s.world.store.levels in
    let after : used (record { statics = s.world.store.statics; levels = (levels ++ held ps ∷ []) ++ entry.initial ∷ [] }) ≡ used t.world.store = ap (λ n. used (store_after n)) e in
    let a = levels_words_append (levels ++ held ps ∷ []) (entry.initial ∷ []) in
    let b = levels_words_append levels (held ps ∷ []) in
    omega arith

called_takes : (b : Bool) (o : Option Entry) (s : State) (stack cells : List Cell) (here : Here) (ps : List Passed) (w : ℕ) (out : List Event) (t : State) →
    level_words (held ps) ≡ given_words cells → (if b then wants.called o cells else None) ≡ Some w →
    (if b then called_at o (with_answers granted s) stack here ps else Stays [] (Failed CallsTooDeep here.place)) ≡ Goes out t →
    used t.world.store ≡ used s.world.store + w
called_takes false o s stack cells here ps w out t h d e = cc d
called_takes true None s stack cells here ps w out t h d e = cc d
called_takes true (Some entry) s stack cells here ps w out t h d e =
    let taken = begun_takes s stack here entry ps out t e in
    let wanted : block (given_words cells) + block (level_words entry.initial) ≡ w = cc d in
    omega (arith, h, taken, wanted)

pub calls_take_what_they_want : CallsTakeWhatTheyWant
calls_take_what_they_want f k v s limit g code here w out t d e =
    let found = arguments_go k [] s.stack _ out t e in
    called_takes (nat_lt (length s.frames) limit) (slice_get code.procedures f) s found.1 (take k s.stack) here found.0 w out t (omega (arith, found.3)) d found.2

-- ---- levels

pub levels_are_given_back : LevelsAreGivenBack
levels_are_given_back level store = let e = levels_words_split level store.levels in omega arith
