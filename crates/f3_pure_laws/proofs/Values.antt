-- Expressions that refer to functions alone are quiet.
use Rattle.std.proofs.Common.{◌≡◌, ℕ, zero, suc, ◌≤◌, pos, Bool, true, false, List, [], ◌∷◌, Option, None, Some, refl, sym, ap, ◌∙◌, map, length}
use Rattle.std.specs.Prelude.{not, slice_get, slice_index_or}
use Rattle.f3_program.specs.declared.declarations.Base.TheVariants as base
use Rattle.f3_program.specs.declared.expression.Argument as w
use Rattle.f3_program.specs.declared.expression.Designator as d
use Rattle.f3_program.specs.declared.expression.Expression as e
use Rattle.f3_program.specs.declared.expression.Name.{Name}
use Rattle.f3_program.specs.declared.expression.Name.TheVariants as n
use Rattle.f3_program.specs.declared.expression.Selection as l
use Rattle.f3_program.specs.declared.expression.Subscript as u
use Rattle.f3_program.specs.declared.program.Dummy.{Dummy}
use Rattle.f3_program.specs.declared.program.Procedure.{Procedure}
use Rattle.f3_program.specs.declared.program.Program.{Program}
use Rattle.f3_meaning_whole.specs.Value.{Span, Composite, Array, Unallocated, joined}
use Rattle.f3_meaning_whole.specs.Store.{Root, Static, Local, get}
use Rattle.f3_meaning_whole.specs.Reference.{Define, Read, Selected, Reach, One, Many, Reference}
use Rattle.f3_meaning_whole.specs.Ran.{Ran}
use Rattle.f3_meaning_whole.specs.Act.{Here, Passed, Given, Lent, Calls, named, given, to_root, right_to, static_type, type_of, whole}
use Rattle.f3_meaning_whole.specs.Eval.{by_reach, value, bounds, argument, arguments, locate, select, select_in_each, chosen, subscript}
use Rattle.f3_meaning_whole.specs.Run.{setting_of}
use Rattle.f3_meaning_whole.specs.Permitted.{Each, dummies_in}
use Rattle.f3_meaning_laws.proofs.Keeping.{no}
use Rattle.f3_pure_laws.specs.References.{is_function, Refers, ArgumentRefers, AllRefer, RefersIn, SelectionRefers, SubscriptsRefer, SubscriptRefers}
use Rattle.f3_pure_laws.specs.Pure.{definable, definable_in, first_name, IsGiven, OwnsPassed, OwnsAllPassed, is_own}
use Rattle.f3_pure_laws.specs.Laws.{IsPassedFree}
use Rattle.f3_pure_laws.proofs.Running.{Runs, Quiet, bind_runs, weaken, gives_runs, gives_quiet, looks_runs, looks_quiet, if_runs}
use Rattle.f3_pure_laws.proofs.Parts.{converted_quiet, apply_quiet, change_quiet, claim_for_quiet, built_quiet, read_quiet, result_quiet, asked_quiet, structure_quiet}
use Rattle.f3_pure_laws.proofs.Roots.{IsMine, Follows, root_mine, component_runs, contents_runs, opened_or, picks_runs, each_runs_in}

-- calls of pure procedures are quiet
abbrev pub CallsRun : (pure : ℕ → Bool) → Program → ℕ → (Root → Bool) → Calls → Type 0
CallsRun pure p level free calls = (a : ℕ) → level ≤ a → (here : Here) (f : ℕ) (ps : List Passed) → pure f ≡ true
    → Each (IsPassedFree (definable_in p f) free) ps → Quiet level free a (calls here f ps)

-- the functions of a program are pure, and define no dummy
abbrev pub ArePure : (pure : ℕ → Bool) → Program → Type 0
ArePure pure p = (f : ℕ) (q : Procedure) → slice_get p.procedures.items f ≡ Some q → is_function (Some q) ≡ true → (pure f ≡ true) × Each IsGiven q.dummies.items

none_definable : (ds : List Dummy) → Each IsGiven ds → (k : ℕ) → slice_index_or (map definable ds) k false ≡ false
none_definable [] h k = refl
none_definable (x ∷ xs) h zero = ap not h.0
none_definable (x ∷ xs) h (suc k) = none_definable xs h.1 k

function_pure : (pure : ℕ → Bool) (p : Program) → ArePure pure p → (f : ℕ) (o : Option Procedure) → slice_get p.procedures.items f ≡ o → is_function o ≡ true
    → (pure f ≡ true) × ((k : ℕ) → slice_index_or (map definable (dummies_in o)) k false ≡ false)
function_pure pure p h f None e t = no t
function_pure pure p h f (Some q) e t = ((h f q e t).0, none_definable q.dummies.items (h f q e t).1)

passed_none : (free : Root → Bool) (ds : List Bool) → ((k : ℕ) → slice_index_or ds k false ≡ false) → (ps : List Passed) → Each (IsPassedFree ds free) ps
passed_none free ds h [] = tt
passed_none free ds h (Given k v ∷ ps) = (tt, passed_none free ds h ps)
passed_none free ds h (Lent k r ∷ ps) = (λ e. no (sym (h k) ∙ e), passed_none free ds h ps)

module _ (p : Program) (pure : ℕ → Bool) (functions : ArePure pure p) (level : ℕ) (free : Root → Bool) where
  -- what a name means is at free roots
  abbrev pub IsName : Here → Name → Type 0
  IsName here (n.Static i) = free (Static i) ≡ true
  IsName here (n.Local i) = free (Local here.level i) ≡ true
  IsName here (n.Lent i) = IsMine free (slice_index_or here.names i (to_root (Local 0 0) base.Integer Read 0 Unallocated))

  module _ (calls : Calls) (c : CallsRun pure p level free calls) (a : ℕ) (le : level ≤ a) where
    named_runs : (y : Name) (here : Here) → Runs level free a a (λ r. IsName here y → IsMine free r) (named (setting_of p) y here)
    named_runs (n.Static i) here = looks_runs level free _ (λ s e h. root_mine free (Static i) (static_type (slice_get p.statics.items i)) (right_to here.unit (slice_get p.statics.items i)) here.unit (get s (whole (Static i))) h)
    named_runs (n.Local i) here = looks_runs level free _ (λ s e h. root_mine free (Local here.level i) (type_of (slice_get here.variables i)) Define here.unit (get s (whole (Local here.level i))) h)
    named_runs (n.Lent i) here = gives_runs level free _ (λ h. h)

    reach_runs : {A : Type 0} {P : A → Type 0} (reach : Reach) {m k : Ran A} → Runs level free a a P m → Runs level free a a P k → Runs level free a a P (by_reach reach m k)
    reach_runs One h k = h
    reach_runs (Many ss ps) h k = k

    call_quiet : (here : Here) (f : ℕ) (ps : List Passed) → is_function (slice_get p.procedures.items f) ≡ true → Quiet level free a (calls here f ps)
    call_quiet here f ps h =
        let k = function_pure pure p functions f (slice_get p.procedures.items f) refl h in
        c a le here f ps k.0 (passed_none free (definable_in p f) k.1 ps)

    mutual
      pub value_quiet : (x : e.Expression) (here : Here) → Refers p x → Quiet level free a (value (setting_of p) calls x here)
      value_quiet (e.Literal z) here m = gives_quiet level free _
      value_quiet (e.Variable' q x) here m = bind_runs level free (locate_runs x here m) (λ r k. read_quiet level free a r here)
      value_quiet (e.Group' q x) here m = bind_runs level free (value_quiet x here m) (λ v z. gives_quiet level free _)
      value_quiet (e.Unary' o t q x) here m = bind_runs level free (value_quiet x here m) (λ v z. change_quiet level free a o t v here.place)
      value_quiet (e.Binary' o t q x r y) here m = bind_runs level free (value_quiet x here m.0) (λ v z. bind_runs level free (value_quiet y here m.1) (λ t' z. apply_quiet level free a o t v t' here.place))
      value_quiet (e.Array' k xs) here m = bind_runs level free (arguments_quiet xs here m) (λ ps z. built_quiet level free a (Array (record { lower = pos 1; extent = length (given ps) } ∷ []) (joined (given ps))) here)
      value_quiet (e.Structure' t k xs) here m = bind_runs level free (arguments_quiet xs here m) (λ ps z. bind_runs level free (structure_quiet level free a _ 0 ps here) (λ vs z. built_quiet level free a (Composite vs) here))
      value_quiet (e.Call' i k xs) here m = bind_runs level free (arguments_quiet xs here m.1) (λ ps h. bind_runs level free (call_quiet here i ps m.0) (λ v z. result_quiet level free a v here))
      value_quiet (e.Allocated' q x) here m = bind_runs level free (locate_runs x here m) (λ r k. looks_quiet level free _)
      value_quiet (e.Size' q x) here m = bind_runs level free (bounds_quiet x here m) (λ ss z. converted_quiet level free a _ _ here.place)
      value_quiet (e.Bound' o q x r y) here m = bind_runs level free (bounds_quiet x here m.0) (λ ss z. bind_runs level free (value_quiet y here m.1) (λ v z. asked_quiet level free a o ss _ here))

      bounds_quiet : (x : w.Argument) (here : Here) → ArgumentRefers p x → Quiet level free a (bounds (setting_of p) calls x here)
      bounds_quiet (w.Value' k q x) here m = bind_runs level free (value_quiet x here m) (λ v z. gives_quiet level free _)
      bounds_quiet (w.Variable' k q x) here m = bind_runs level free (locate_runs x here m) (λ r z. gives_quiet level free _)

      argument_quiet : (x : w.Argument) (here : Here) → ArgumentRefers p x → Quiet level free a (argument (setting_of p) calls x here)
      argument_quiet (w.Value' k q x) here m = bind_runs level free (value_quiet x here m) (λ v z. bind_runs level free (claim_for_quiet level free a v here) (λ done z. gives_quiet level free _))
      argument_quiet (w.Variable' k q x) here m = bind_runs level free (locate_runs x here m) (λ r h. gives_quiet level free _)

      arguments_quiet : {m : _} (xs : e.Row_of-Argument m) (here : Here) → AllRefer p xs → Quiet level free a (arguments (setting_of p) calls xs here)
      arguments_quiet e.end_of-Argument here m = gives_quiet level free _
      arguments_quiet (e.more_of-Argument x rest) here m = bind_runs level free (argument_quiet x here m.0) (λ y h. bind_runs level free (arguments_quiet rest here m.1) (λ ps k. gives_quiet level free _))

      pub locate_runs : (x : d.Designator) (here : Here) → RefersIn p x → Runs level free a a (λ r. IsName here (first_name x) → IsMine free r) (locate (setting_of p) calls x here)
      locate_runs (d.Name x how) here m = bind_runs level free (named_runs x here) (λ r k. weaken level free (λ q h i. h (k i)) (select_runs how r here m))
      locate_runs (d.Component' p' x k how) here m =
          bind_runs level free (locate_runs x here m.0) (λ r h. bind_runs level free (component_runs free level (setting_of p) k (Selected here.unit) r) (λ q i.
          weaken level free (λ u j t. j (i (h t))) (reach_runs r.reach (select_runs how q here m.1) (each_select_runs how _ q here m.1))))

      select_runs : (how : l.Selection) (r : Reference) (here : Here) → SelectionRefers p how → Runs level free a a (Follows free r) (select (setting_of p) calls how r here)
      select_runs l.Whole r here m = gives_runs level free r (λ h. h)
      select_runs l.Contents r here m = contents_runs free level r here
      select_runs (l.Elements' o k xs) r here m =
          bind_runs level free (chosen_quiet xs here m) (λ cs z. bind_runs level free (opened_or free level o r here) (λ q i. weaken level free (λ t j h. j (i h)) (picks_runs free level q q.reach cs here (λ h. h.1))))

      each_select_runs : (how : l.Selection) (ss : List Span) (r : Reference) (here : Here) → SelectionRefers p how → Runs level free a a (Follows free r) (select_in_each (setting_of p) calls how ss r here)
      each_select_runs l.Whole ss r here m = gives_runs level free r (λ h. h)
      each_select_runs l.Contents ss r here m = contents_runs free level r here
      each_select_runs (l.Elements' o k xs) ss r here m = bind_runs level free (chosen_quiet xs here m) (λ cs z. each_runs_in free level ss r cs here)

      chosen_quiet : {m : _} (xs : l.Row_of-Subscript m) (here : Here) → SubscriptsRefer p xs → Quiet level free a (chosen (setting_of p) calls xs here)
      chosen_quiet l.end_of-Subscript here m = gives_quiet level free _
      chosen_quiet (l.more_of-Subscript x rest) here m = bind_runs level free (subscript_quiet x here m.0) (λ y z. bind_runs level free (chosen_quiet rest here m.1) (λ ys z. gives_quiet level free _))

      subscript_quiet : (x : u.Subscript) (here : Here) → SubscriptRefers p x → Quiet level free a (subscript (setting_of p) calls x here)
      subscript_quiet (u.At' q x) here m = bind_runs level free (value_quiet x here m) (λ v z. gives_quiet level free _)
      subscript_quiet (u.Range' b q x b' r y s z) here m =
          bind_runs level free (if_runs level free b (bind_runs level free (value_quiet x here m.0) (λ v z. gives_quiet level free _)) (gives_quiet level free _)) (λ lower i. bind_runs level free (if_runs level free b' (bind_runs level free (value_quiet y here m.1) (λ v z. gives_quiet level free _)) (gives_quiet level free _)) (λ upper i. bind_runs level free (value_quiet z here m.2) (λ v i. gives_quiet level free _)))

    -- arguments of a CALL
    passed_runs : (names ds : List Bool) (here : Here) → ((y : Name) → is_own names y ≡ true → IsName here y) → (x : w.Argument) → ArgumentRefers p x → OwnsPassed p pure names ds x → Runs level free a a (IsPassedFree ds free) (argument (setting_of p) calls x here)
    passed_runs names ds here f (w.Value' k q x) m o = bind_runs level free (value_quiet x here m) (λ v z. bind_runs level free (claim_for_quiet level free a v here) (λ done z. gives_runs level free _ tt))
    passed_runs names ds here f (w.Variable' k q x) m o = bind_runs level free (locate_runs x here m) (λ r h. gives_runs level free _ (λ i. h (f (first_name x) (o i))))

    pub all_passed_run : {k : _} (names ds : List Bool) (here : Here) → ((y : Name) → is_own names y ≡ true → IsName here y) → (xs : e.Row_of-Argument k) → AllRefer p xs → OwnsAllPassed p pure names ds xs → Runs level free a a (Each (IsPassedFree ds free)) (arguments (setting_of p) calls xs here)
    all_passed_run names ds here f e.end_of-Argument m o = gives_runs level free [] tt
    all_passed_run names ds here f (e.more_of-Argument x rest) m o = bind_runs level free (passed_runs names ds here f x m.0 o.0) (λ y h. bind_runs level free (all_passed_run names ds here f rest m.1 o.1) (λ ps k. gives_runs level free (y ∷ ps) (h, k)))
