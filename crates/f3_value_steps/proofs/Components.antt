-- Components one by one.
use Rattle.std.proofs.Common.{◌≡◌, ℕ, zero, suc, ◌+◌, ◌<◌, ◌≤◌, add-one, List, [], ◌∷◌, ◌++◌, length, take, drop}
use Rattle.std.proofs.Common.{Option, Some, Result, Ok, Err, Bool, true, false, get_or, refl, sym, ap, ◌∙◌, arith}
use Rattle.std.specs.Prelude.{IfOk, if◌then◌else◌, slice_index_or}
use Rattle.std.proofs.Math.Seq.{drop-cons, get_or-append_seam}
use Rattle.std.proofs.lemmas.List.{append-nil, drop_all, get_or_past, length-append, get_or_append_left}
use Rattle.f3_program.specs.declared.declarations.Component.{Component}
use Rattle.f3_program.specs.declared.declarations.Declared.{Declared}
use Rattle.f3_program.specs.declared.declarations.Derived.{Derived}
use Rattle.f3_meaning_whole.specs.Value as m
use Rattle.f3_meaning_whole.specs.Value.{joined, none, more}
use Rattle.f3_meaning_whole.specs.Store.{Store, get}
use Rattle.f3_meaning_whole.specs.Reference.{Reference}
use Rattle.f3_meaning_whole.specs.declared.run_error.RunError.{RunError}
use Rattle.f3_meaning_whole.specs.Ran.{Event, World, End, Gives, Fails, Stops, Beyond, Outcome, Ran, after, ◌>>=◌, gives, fails, looks, asks}
use Rattle.f3_meaning_whole.specs.Shape.{Shape, Whole, Record, parts_in, shapes_from, shapes_of, shape_in, initial_of, initial_declared}
use Rattle.f3_meaning_whole.specs.Act.{fitted_contents, Here, Passed, Lent, claim}
use Rattle.f3_meaning_whole.specs.Act.{claim_for, needs_storage, passed_at, fitted_argument, structure, components_of}
use Rattle.f3_meaning_whole.specs.Eval.{built}
use Rattle.f3_code.specs.State.{State, Stays, Failed}
use Rattle.f3_code.specs.Machine.{ends_so, performs}
use Rattle.f3_data.specs.declared.value.Value.{Value}
use Rattle.f3_data.specs.Values.{value_of, values_of}
use Rattle.f3_shaping.specs.Results.{value_ran}
use Rattle.std.proofs.Math.Path.{fun_ext}
use Rattle.f3_value_steps.proofs.Ends.{performs_gives, performs_fails, built_granted}
use Rattle.f3_value_steps.specs.Inner.Structures.{world_with, Takes, Builds}

-- ---- what follows a component

then_so : (out : List Event) (e : End m.Values) (v : m.Value) (k : m.Values → Ran m.Value) (f : m.Value → World → State)
    → ends_so (after (after (record { out = out; end = e }) (λ vs. gives (more v vs))) k).out
    (after (after (record { out = out; end = e }) (λ vs. gives (more v vs))) k).end f
    ≡ ends_so (after (record { out = out; end = e }) (λ vs. k (more v vs))).out (after (record { out = out; end = e }) (λ vs. k (more v vs))).end f
unfolding gives
then_so out (Gives x w) v k f = ap (λ es. ends_so (es ++ ((k (more v x)).from w).out) ((k (more v x)).from w).end f) (append-nil out)
then_so out (Fails error place) v k f = refl
then_so out (Stops code) v k f = refl
then_so out Beyond v k f = refl

claimed : (v : m.Value) (here : Here) (store : Store) (b : Bool) (r : Ran m.Values) (k : m.Values → Ran m.Value) (f : m.Value → World → State)
    → performs (((if b then claim here else gives tt) >>= λ done. r >>= λ vs. gives (more v vs)) >>= k) (world_with store) f
    ≡ performs (r >>= λ vs. k (more v vs)) (world_with store) f
unfolding ◌>>=◌ gives asks fails
claimed v here store true r k f = then_so (r.from (world_with store)).out (r.from (world_with store)).end v k f
claimed v here store false r k f = then_so (r.from (world_with store)).out (r.from (world_with store)).end v k f

-- a component took a value
pub takes_one : (r : Ran m.Value) (v : m.Value) (rest : Ran m.Values) (here : Here) (store : Store) (k : m.Values → Ran m.Value) (f : m.Value → World → State)
    → r.from (world_with store) ≡ (gives v).from (world_with store)
    → performs ((r >>= λ v. claim_for v here >>= λ done. rest >>= λ vs. gives (more v vs)) >>= k) (world_with store) f
    ≡ performs (rest >>= λ vs. k (more v vs)) (world_with store) f
unfolding ◌>>=◌ gives
takes_one r v rest here store k f e =
    let g : m.Value → Ran m.Values = λ v. claim_for v here >>= λ done. rest >>= λ vs. gives (more v vs) in
    ap (λ (o : Outcome m.Value). ends_so (after (after o g) k).out (after (after o g) k).end f) e ∙ claimed v here store (needs_storage v) rest k f

pub takes_none : (r : Ran m.Value) (error : RunError) (rest : Ran m.Values) (here : Here) (store : Store) (k : m.Values → Ran m.Value)
    (f : m.Value → World → State)
    → r.from (world_with store) ≡ (fails error here.place).from (world_with store)
    → performs ((r >>= λ v. claim_for v here >>= λ done. rest >>= λ vs. gives (more v vs)) >>= k) (world_with store) f ≡ Stays [] (Failed error here.place)
unfolding ◌>>=◌ fails
takes_none r error rest here store k f e =
    let g : m.Value → Ran m.Values = λ v. claim_for v here >>= λ done. rest >>= λ vs. gives (more v vs) in
    ap (λ (o : Outcome m.Value). ends_so (after (after o g) k).out (after (after o g) k).end f) e

-- all have taken theirs
gives_then : (vs : m.Values) (k : m.Values → Ran m.Value) (w : World) (f : m.Value → World → State) → performs (gives vs >>= k) w f ≡ performs (k vs) w f
unfolding ◌>>=◌ gives
gives_then vs k w f = refl

-- ---- a constructor

-- behind values, others
abbrev pub ahead : List m.Value → m.Values → m.Values
ahead [] vs = vs
ahead (x ∷ xs) vs = more x (ahead xs vs)

ahead_more : (xs : List m.Value) (x : m.Value) (vs : m.Values) → ahead (xs ++ x ∷ []) vs ≡ ahead xs (more x vs)
ahead_more [] x vs = refl
ahead_more (y ∷ xs) x vs = ap (more y) (ahead_more xs x vs)

ahead_none : (xs : List m.Value) → ahead xs none ≡ joined xs
ahead_none [] = refl
ahead_none (x ∷ xs) = ap (more x) (ahead_none xs)

values_more : (xs : List Value) (x : Value) → values_of (xs ++ x ∷ []) ≡ values_of xs ++ value_of x ∷ []
values_more [] x = refl
values_more (y ∷ xs) x = ap (λ vs. value_of y ∷ vs) (values_more xs x)

-- so many components have taken these values
abbrev pub SoFar : List Shape → List Component → List Passed → Store → ℕ → List Value → Type 0
SoFar shapes cs ps store i found = (here : Here) (k : m.Values → Ran m.Value) (f : m.Value → World → State)
    → performs (structure (parts_in shapes cs) 0 ps here >>= k) (world_with store) f
    ≡ performs (structure (parts_in shapes (drop i cs)) i ps here >>= λ vs. k (ahead (values_of found) vs)) (world_with store) f

pub so_far_none : (shapes : List Shape) (cs : List Component) (ps : List Passed) (store : Store) (found : List Value) → found ≡ [] → SoFar shapes cs ps store 0 found
so_far_none shapes cs ps store found e = λ here k f. rw e refl

pub so_far_more : (types : List Derived) (cs : List Component) (ps : List Passed) (store : Store) (i : ℕ) (found : List Value) (c d : Component) (v : Value)
    → i < length cs → c ≡ get_or cs i d → SoFar (shapes_of types) cs ps store i found → Takes types c.declared ps i store (Ok v)
    → SoFar (shapes_of types) cs ps store (i + 1) (found ++ v ∷ [])
so_far_more types cs ps store i found c d v h e before took = λ here k f.
    let shapes : List Shape = shapes_of types in
    let rest : Ran m.Values = structure (parts_in shapes (drop (suc i) cs)) (suc i) ps here in
    let is : Component → Ran m.Value = λ c. fitted_argument c.declared (initial_declared c.declared (initial_of (shape_in shapes c.declared.kind.of)))
    (passed_at i ps) here in
    let g : m.Values → Ran m.Value = λ vs. k (ahead (values_of found) vs) in
    before here k f
    ∙ ap (λ xs. performs (structure (parts_in shapes xs) i ps here >>= g) (world_with store) f) (drop-cons cs i d h)
    ∙ ap (λ (x : Component). performs ((is x >>= λ v. claim_for v here >>= λ done. rest >>= λ vs. gives (more v vs)) >>= g) (world_with store) f) (sym e)
    ∙ takes_one (is c) (value_of v) rest here store g f (took here)
    ∙ ap (λ n. performs (structure (parts_in shapes (drop n cs)) n ps here >>= λ vs. g (more (value_of v) vs)) (world_with store) f) (sym (add-one i))
    ∙ ap (λ (h : m.Values → m.Values). performs (structure (parts_in shapes (drop (i + 1) cs)) (i + 1) ps here >>= λ vs. k (h vs)) (world_with store) f)
    (fun_ext (λ vs. sym (ahead_more (values_of found) (value_of v) vs) ∙ ap (λ xs. ahead xs vs) (sym (values_more found v))))

pub so_far_fails : (types : List Derived) (cs : List Component) (ps : List Passed) (store : Store) (i : ℕ) (found : List Value) (c d : Component)
    (error : RunError)
    → i < length cs → c ≡ get_or cs i d → SoFar (shapes_of types) cs ps store i found → Takes types c.declared ps i store (Err error)
    → Builds (parts_in (shapes_of types) cs) ps store (Err error)
so_far_fails types cs ps store i found c d error h e before took = λ here f.
    let shapes : List Shape = shapes_of types in
    let rest : Ran m.Values = structure (parts_in shapes (drop (suc i) cs)) (suc i) ps here in
    let is : Component → Ran m.Value = λ c. fitted_argument c.declared (initial_declared c.declared (initial_of (shape_in shapes c.declared.kind.of)))
    (passed_at i ps) here in
    let g : m.Values → Ran m.Value = λ vs. built (m.Composite (ahead (values_of found) vs)) here in
    before here (λ vs. built (m.Composite vs) here) f
    ∙ ap (λ xs. performs (structure (parts_in shapes xs) i ps here >>= g) (world_with store) f) (drop-cons cs i d h)
    ∙ ap (λ (x : Component). performs ((is x >>= λ v. claim_for v here >>= λ done. rest >>= λ vs. gives (more v vs)) >>= g) (world_with store) f) (sym e)
    ∙ takes_none (is c) error rest here store g f (took here)
    ∙ sym (performs_fails error here.place (world_with store) f)

-- the value of a type that is built stands where its storage is granted
type_built : (vs : m.Values) (v : Value) (here : Here) (store : Store) (f : m.Value → World → State) → value_of v ≡ m.Composite vs
    → performs (built (m.Composite vs) here) (world_with store) f ≡ performs (value_ran (Ok v) here.place) (world_with store) f
type_built vs v here store f is =
    ap (λ x. performs (built x here) (world_with store) f) (sym is)
    ∙ built_granted (value_of v) here store f
    ∙ sym (performs_gives (value_of v) (world_with store) f)

pub so_far_all : (types : List Derived) (cs : List Component) (ps : List Passed) (store : Store) (i : ℕ) (found : List Value) (v : Value) → length cs ≤ i
    → SoFar (shapes_of types) cs ps store i found → value_of v ≡ m.Composite (joined (values_of found)) → Builds (parts_in (shapes_of types) cs) ps store (Ok v)
so_far_all types cs ps store i found v h before is = λ here f.
    let g : m.Values → Ran m.Value = λ vs. built (m.Composite (ahead (values_of found) vs)) here in
    before here (λ vs. built (m.Composite vs) here) f
    ∙ ap (λ xs. performs (structure (parts_in (shapes_of types) xs) i ps here >>= g) (world_with store) f) (drop_all i cs h)
    ∙ gives_then none g (world_with store) f
    ∙ ap (λ vs. performs (built (m.Composite vs) here) (world_with store) f) (ahead_none (values_of found))
    ∙ type_built (joined (values_of found)) v here store f is

-- ---- types

lengths : (ss : List Shape) (ts : List Derived) → length (shapes_from ss ts) ≡ length ss + length ts
lengths ss [] = omega arith
lengths ss (t ∷ ts) = let h : length (shapes_from (ss ++ Record (length ss) (parts_in ss t.components.items) ∷ []) ts) ≡ length
    (ss ++ Record (length ss) (parts_in ss t.components.items) ∷ []) + length ts = lengths _ ts in
    omega (arith, length-append ss (Record (length ss) (parts_in ss t.components.items) ∷ []))

kept : (ss : List Shape) (ts : List Derived) (i : ℕ) → i < length ss → slice_index_or (shapes_from ss ts) i Whole ≡ slice_index_or ss i Whole
kept ss [] i h = refl
kept ss (t ∷ ts) i h =
    let r : Shape = Record (length ss) (parts_in ss t.components.items) in
    kept (ss ++ r ∷ []) ts i (omega (arith, length-append ss (r ∷ []))) ∙ get_or_append_left ss (r ∷ []) Whole i h

tree_at : (ss : List Shape) (ts : List Derived) (k n : ℕ) (x d : Derived) → n ≡ length ss + k → k < length ts → x ≡ get_or ts k d →
    slice_index_or (shapes_from ss ts) n Whole ≡ Record n (parts_in (shapes_from ss (take k ts)) x.components.items)
tree_at ss [] k n x d h l e = absurd (omega arith)
tree_at ss (t ∷ ts) zero n x d h l e =
    let r : Shape = Record (length ss) (parts_in ss t.components.items) in
    let same : n ≡ length ss = omega arith in
    rw same (kept (ss ++ r ∷ []) ts (length ss) (omega (arith, length-append ss (r ∷ []))) ∙ get_or-append_seam ss r [] Whole
    ∙ ap (λ (y : Derived). Record (length ss) (parts_in ss y.components.items)) (sym e))
tree_at ss (t ∷ ts) (suc k) n x d h l e =
    let r : Shape = Record (length ss) (parts_in ss t.components.items) in
    tree_at (ss ++ r ∷ []) ts k n x d (omega (arith, length-append ss (r ∷ []))) (omega arith) e

-- the components of a type, among the types before it
pub of_type : (ts : List Derived) (t : ℕ) (x d : Derived) (cs : List Component) (ps : List Passed) (store : Store) (r : Result Value RunError)
    → t < length ts → x ≡ get_or ts t d
    → cs ≡ x.components.items → Builds (parts_in (shapes_of (take t ts)) cs) ps store r → Builds
    (components_of (slice_index_or (shapes_of ts) t Whole)) ps store r
of_type ts t x d cs ps store r h e is builds = λ here f.
    ap (λ (s : Shape). performs (structure (components_of s) 0 ps here >>= λ vs. built (m.Composite vs) here) (world_with store) f) (tree_at [] ts t t x d (omega arith) h e)
    ∙ ap (λ xs. performs (structure (parts_in (shapes_of (take t ts)) xs) 0 ps here >>= λ vs. built (m.Composite vs) here) (world_with store) f) (sym is)
    ∙ builds here f

pub of_none : (ts : List Derived) (t : ℕ) (v : Value) (ps : List Passed) (store : Store) → length ts ≤ t → value_of v ≡ m.Composite none
    → Builds (components_of (slice_index_or (shapes_of ts) t Whole)) ps store (Ok v)
of_none ts t v ps store h is = λ here f.
    ap (λ (s : Shape). performs (structure (components_of s) 0 ps here >>= λ vs. built (m.Composite vs) here) (world_with store) f)
    (get_or_past (shapes_of ts) t Whole (omega (arith, lengths [] ts)))
    ∙ gives_then none (λ vs. built (m.Composite vs) here) (world_with store) f
    ∙ type_built none v here store f is

-- an object is read from the store
pub takes_lent : {X : Type 0} (types : List Derived) (d : Declared) (ps : List Passed) (k : ℕ) (store : Store) (r : Result (Result Value RunError) X)
    (n : ℕ) (object : Reference) (v : m.Value)
    → passed_at k ps ≡ Some (Lent n object) → v ≡ get store object.path → IfOk r (λ x. (here : Here) → value_ran x here.place ≡ fitted_contents d v here)
    → IfOk r (λ x. Takes types d ps k store x)
unfolding ◌>>=◌ looks
takes_lent types d ps k store (Err x) n object v e f h = tt
takes_lent types d ps k store (Ok x) n object v e f h = λ here.
    let initial : m.Value = initial_declared d (initial_of (shape_in (shapes_of types) d.kind.of)) in
    ap (λ (o : Option Passed). (fitted_argument d initial o here).from (world_with store)) e
    ∙ ap (λ (u : m.Value). (fitted_contents d u here).from (world_with store)) (sym f)
    ∙ ap (λ (m : Ran m.Value). m.from (world_with store)) (sym (h here))

pub of_type_if : {X : Type 0} (ts : List Derived) (t : ℕ) (x d : Derived) (cs : List Component) (ps : List Passed) (store : Store)
    (r : Result (Result Value RunError) X) → t < length ts
    → x ≡ get_or ts t d → cs ≡ x.components.items → IfOk r (λ b. Builds (parts_in (shapes_of (take t ts)) cs) ps store b)
    → IfOk r (λ b. Builds (components_of (slice_index_or (shapes_of ts) t Whole)) ps store b)
of_type_if ts t x d cs ps store (Err e) h i c b = tt
of_type_if ts t x d cs ps store (Ok r) h i c b = of_type ts t x d cs ps store r h i c b
