-- Parts of runs whose changes are permitted.
use Rattle.std.proofs.Common.{◌≡◌, ℕ, zero, suc, Bool, true, false, List, [], ◌∷◌, ◌++◌, map, Option, Some, refl, sym, ap, ◌∙◌, if◌then◌else◌, append-nil, slice_get}
use Rattle.std.specs.Prelude.{⊤, T, nat_eq}
use mathlib.Core.Path.{subst}
use lib.Dec.{eqb→eq}
use Rattle.f3_places.specs.declared.source.Place.{Place}
use Rattle.f3_program.specs.declared.declarations.Base.{Base}
use Rattle.f3_program.specs.declared.declarations.Derived.{Derived}
use Rattle.f3_program.specs.declared.program.Static as x
use Rattle.f3_program.specs.declared.program.Program.{Program}
use Rattle.f3_meaning_whole.specs.Value.{Span, Value, Number, Truth, Composite, Array, Unallocated, Allocated, Values}
use Rattle.f3_meaning_whole.specs.Value as v
use Rattle.f3_meaning_whole.specs.Store.{Root, Static, Local, Store, Path, Step, Contents, Element, within, get, components}
use Rattle.f3_meaning_whole.specs.Store as kept
use Rattle.f3_meaning_whole.specs.Reference.{Right, Define, Read, Maker, Reach, One, Many, Reference, reach_of, elements_from, paths, paths_by, Made}
use Rattle.f3_meaning_whole.specs.declared.run_error.RunError.{RunError}
use Rattle.f3_meaning_whole.specs.Ran.{Event, Printed, Changed, Began, Entered, Ended, Asked, effect, replayed, World, End, Gives, Fails, Stops, Beyond, Ran, go_on, ◌>>=◌, gives, fails, stops, beyond, looks, does, asks, each}
use Rattle.f3_meaning_whole.specs.Act.{Setting, Here, set, clear, in_each, picked, moved, component_path, component_reach, component, opened, contents, right_to, to_root, added, elements_at, first_of, contents_by, whole, static_type, component_type}
use Rattle.f3_meaning_whole.specs.Run.{changes}
use Rattle.f3_meaning_whole.specs.Permitted.{Each, FromHome, IsMadeWell, IsDeclared, IsTyped, Permitted, is_define, numbers, IsAt}
use Rattle.f3_meaning_laws.specs.Laws.{Stands, along}

pub no : {A : Type 0} → false ≡ true → A
no h = absurd (subst T (sym h) tt)

pub not_read : {A : Type 0} → Read ≡ Define → A
not_read h = absurd (subst (λ r. T (is_define r)) (sym h) tt)

pub defines : (r : Right) → is_define r ≡ true → r ≡ Define
defines Define e = refl
defines Read e = no e

pub changes-append : (a b : List Event) → changes (a ++ b) ≡ changes a ++ changes b
changes-append [] b = refl
changes-append (Printed byte ∷ a) b = changes-append a b
changes-append (Changed c vs ∷ a) b = ap (λ l. c ∷ l) (changes-append a b)
changes-append (Began stage ∷ a) b = changes-append a b
changes-append (Entered vs ∷ a) b = changes-append a b
changes-append (Ended level ∷ a) b = changes-append a b
changes-append (Asked refused ∷ a) b = changes-append a b

pub changes-printed : (bytes : List ℕ) → changes (map Printed bytes) ≡ []
changes-printed [] = refl
changes-printed (b ∷ bs) = changes-printed bs

pub each-append : {A : Type 0} (P : A → Type 0) (xs ys : List A) → Each P xs → Each P ys → Each P (xs ++ ys)
each-append P [] ys h k = k
each-append P (x ∷ xs) ys h k = (h.0, each-append P xs ys h.1 k)

pub replayed-append : (a b : List Event) (s : Store) → replayed (a ++ b) s ≡ replayed b (replayed a s)
replayed-append [] b s = refl
replayed-append (e ∷ a) b s = replayed-append a b (effect e s)

stands-append : (a b : List Event) (s : Store) → Stands s a → Stands (replayed a s) b → Stands s (a ++ b)
stands-append [] b s h k = k
stands-append (e ∷ a) b s h k = (h.0, stands-append a b (effect e s) h.1 k)

pub printed-stands : (bytes : List ℕ) (s : Store) → Stands s (map Printed bytes)
printed-stands [] s = tt
printed-stands (b ∷ bs) s = (tt, printed-stands bs s)

-- what it gives is so, and the store is the one that the events make
abbrev pub OnGives : {A : Type 0} → (A → Type 0) → Store → List Event → End A → Type 0
OnGives P s out (Gives x w) = P x × (w.store ≡ replayed out s)
OnGives P s out (Fails error place) = ⊤
OnGives P s out (Stops code) = ⊤
OnGives P s out Beyond = ⊤

later : {A : Type 0} (P : A → Type 0) (s t : Store) (a b : List Event) → t ≡ replayed a s → (end : End A) → OnGives P t b end → OnGives P s (a ++ b) end
later P s t a b e (Gives x w) h = (h.0, h.1 ∙ ap (replayed b) e ∙ sym (replayed-append a b s))
later P s t a b e (Fails error place) h = tt
later P s t a b e (Stops code) h = tt
later P s t a b e Beyond h = tt

along-append : (types : List Derived) (of : Base) (ks : List ℕ) (k : ℕ) → along types of (ks ++ k ∷ []) ≡ component_type types (along types of ks) k
along-append types of [] k = refl
along-append types of (j ∷ ks) k = along-append types (component_type types of j) ks k

typed-append : (types : List Derived) (of : Base) (ms : List Made) (m : Made) → IsTyped types of ms → m.of ≡ along types of (numbers ms) → IsTyped types of (ms ++ m ∷ [])
typed-append types of [] m h e = (e, tt)
typed-append types of (x ∷ ms) m h e = (h.0, typed-append types (component_type types of x.component) ms m h.1 e)

abbrev is_static : Root → Bool
is_static (Static i) = true
is_static (Local l i) = false

abbrev slot_of : Root → ℕ
slot_of (Static i) = i
slot_of (Local l i) = i

not_static : {A : Type 0} (l i k : ℕ) → Local l i ≡ Static k → A
not_static l i k e = absurd (subst (λ t. T (is_static t)) (sym e) tt)

abbrev pub AllAt : Root → List ℕ → List Path → Type 0
AllAt t ks ps = Each (IsAt t ks) ps

components-append : (a b : List Step) → components (a ++ b) ≡ components a ++ components b
components-append [] b = refl
components-append (kept.Component k ∷ a) b = ap (λ l. k ∷ l) (components-append a b)
components-append (Element k ∷ a) b = components-append a b
components-append (Contents ∷ a) b = components-append a b

numbers-append : (ms : List Made) (m : Made) → numbers (ms ++ m ∷ []) ≡ numbers ms ++ m.component ∷ []
numbers-append [] m = refl
numbers-append (x ∷ ms) m = ap (λ l. x.component ∷ l) (numbers-append ms m)

within_same : (t : Root) (ks : List ℕ) (q : Path) (s : Step) → components (s ∷ []) ≡ [] → IsAt t ks q → IsAt t ks (within q s)
within_same t ks q s e h = (h.0, components-append q.steps (s ∷ []) ∙ ap (λ l. components q.steps ++ l) e ∙ append-nil (components q.steps) ∙ h.1)

within_component : (t : Root) (ks : List ℕ) (q : Path) (k : ℕ) → IsAt t ks q → IsAt t (ks ++ k ∷ []) (within q (kept.Component k))
within_component t ks q k h = (h.0, components-append q.steps (kept.Component k ∷ []) ∙ ap (λ l. l ++ k ∷ []) h.1)

elements_from_at : (t : Root) (ks : List ℕ) (i : ℕ) (q : Path) (vs : Values) → IsAt t ks q → AllAt t ks (elements_from i q vs)
elements_from_at t ks i q v.none h = tt
elements_from_at t ks i q (v.more x vs) h = (within_same t ks q (Element i) refl h, elements_from_at t ks (suc i) q vs h)

pub reach_at : (t : Root) (ks : List ℕ) (q : Path) (x : Value) → IsAt t ks q → AllAt t ks (paths_by q (reach_of q x))
reach_at t ks q (Number z) h = (h, tt)
reach_at t ks q (Truth b) h = (h, tt)
reach_at t ks q (Composite vs) h = (h, tt)
reach_at t ks q (Array ss vs) h = elements_from_at t ks 0 q vs h
reach_at t ks q Unallocated h = (h, tt)
reach_at t ks q (Allocated x) h = (h, tt)

all_within_same : (t : Root) (ks : List ℕ) (s : Step) → components (s ∷ []) ≡ [] → (ps : List Path) → AllAt t ks ps → AllAt t ks (map (λ q. within q s) ps)
all_within_same t ks s e [] h = tt
all_within_same t ks s e (q ∷ ps) h = (within_same t ks q s e h.0, all_within_same t ks s e ps h.1)

all_within_component : (t : Root) (ks : List ℕ) (k : ℕ) (ps : List Path) → AllAt t ks ps → AllAt t (ks ++ k ∷ []) (map (λ q. within q (kept.Component k)) ps)
all_within_component t ks k [] h = tt
all_within_component t ks k (q ∷ ps) h = (within_component t ks q k h.0, all_within_component t ks k ps h.1)

added_at : (t : Root) (ks : List ℕ) (ps : List Path) → AllAt t ks ps → (k : ℕ) (qs : List Path) → AllAt t ks qs → AllAt t ks (added (slice_get ps k) qs)
added_at t ks [] h k qs a = a
added_at t ks (p ∷ ps) h zero qs a = (h.0, a)
added_at t ks (p ∷ ps) h (suc k) qs a = added_at t ks ps h.1 k qs a

elements_are_at : (t : Root) (ks : List ℕ) (ps : List Path) → AllAt t ks ps → (is : List ℕ) → AllAt t ks (elements_at ps is)
elements_are_at t ks ps h [] = tt
elements_are_at t ks ps h (i ∷ is) = added_at t ks ps h i (elements_at ps is) (elements_are_at t ks ps h is)

in_each_at : (t : Root) (ks : List ℕ) (q : Path) (reach : Reach) (is : List ℕ) → AllAt t ks (paths_by q reach) → AllAt t ks (paths_by q (in_each reach is))
in_each_at t ks q One is h = h
in_each_at t ks q (Many ss ps) is h = all_within_same t ks _ refl ps h

component_root : (reach : Reach) (q : Path) (k : ℕ) → (component_path reach q k).root ≡ q.root
component_root One q k = refl
component_root (Many ss ps) q k = refl

component_at : (t : Root) (ks : List ℕ) (reach : Reach) (q : Path) (k : ℕ) (store : Store) → AllAt t ks (paths_by q reach) → AllAt t (ks ++ k ∷ []) (paths_by (component_path reach q k) (component_reach reach q k store))
component_at t ks One q k store h = reach_at t (ks ++ k ∷ []) (within q (kept.Component k)) _ (within_component t ks q k h.0)
component_at t ks (Many ss ps) q k store h = all_within_component t ks k ps h

module _ (p : Program) where
  -- the changes are permitted, the stages stand, and what it gives is so
  pub record Keeps {A : Type 0} (P : A → Type 0) (r : Ran A) : Type 0 where
    pub always : (w : World) → Each (Permitted p) (changes (r.from w).out) × Stands w.store (r.from w).out × OnGives P w.store (r.from w).out (r.from w).end

  -- A reference whose right to define comes from the home of its root, and whose components were selected by those who may.
  pub record Honest (r : Reference) : Type 0 where
    pub home : r.right ≡ Define → FromHome p r.path.root r.origin
    pub made : Each (IsMadeWell p) r.makers
    pub start : Base
    pub rooted : IsDeclared p r.path.root start
    pub typed : IsTyped p.types.items start r.makers
    pub ends : along p.types.items start (numbers r.makers) ≡ r.of
    pub parts : AllAt r.path.root (numbers r.makers) (paths r)

  -- an honest reference with the same right and type
  pub record Like (r q : Reference) : Type 0 where
    pub honest : Honest q
    pub same : q.right ≡ r.right
    pub of : q.of ≡ r.of

  -- an honest reference with the same right to a component
  pub record Part (k : ℕ) (r q : Reference) : Type 0 where
    pub honest : Honest q
    pub same : q.right ≡ r.right
    pub of : q.of ≡ component_type p.types.items r.of k

  pub bind_keeps : {A B : Type 0} {P : A → Type 0} {Q : B → Type 0} {m : Ran A} {f : A → Ran B} → Keeps P m → ((x : A) → P x → Keeps Q (f x)) → Keeps Q (m >>= f)
  unfolding ◌>>=◌
  bind_keeps {A} {B} {P} {Q} {m} {f} k h = record { always = λ w. by w.store (m.from w).out (m.from w).end (k.always w).0 (k.always w).1 (k.always w).2 }
    where
      by : (s : Store) (out : List Event) (end : End A) → Each (Permitted p) (changes out) → Stands s out → OnGives P s out end
          → Each (Permitted p) (changes (go_on out end f).out) × Stands s (go_on out end f).out × OnGives Q s (go_on out end f).out (go_on out end f).end
      by s out (Gives x w) a b q = (
        rw (changes-append out ((f x).from w).out) (each-append (Permitted p) _ _ a ((h x q.0).always w).0),
        stands-append out ((f x).from w).out s b (subst (λ t. Stands t ((f x).from w).out) q.1 ((h x q.0).always w).1),
        later Q s w.store out ((f x).from w).out q.1 ((f x).from w).end ((h x q.0).always w).2,
      )
      by s out (Fails error place) a b q = (a, b, tt)
      by s out (Stops code) a b q = (a, b, tt)
      by s out Beyond a b q = (a, b, tt)

  pub weaken : {A : Type 0} {P Q : A → Type 0} {m : Ran A} → ((x : A) → P x → Q x) → Keeps P m → Keeps Q m
  weaken {A} {P} {Q} {m} h k = record { always = λ w. ((k.always w).0, (k.always w).1, by w.store (m.from w).out (m.from w).end (k.always w).2) }
    where
      by : (s : Store) (out : List Event) (end : End A) → OnGives P s out end → OnGives Q s out end
      by s out (Gives x w) q = (h x q.0, q.1)
      by s out (Fails error place) q = tt
      by s out (Stops code) q = tt
      by s out Beyond q = tt

  pub gives_keeps : {A : Type 0} {P : A → Type 0} (x : A) → P x → Keeps P (gives x)
  unfolding gives
  gives_keeps x h = record { always = λ w. (tt, tt, (h, refl)) }

  pub gives_safe : {A : Type 0} (x : A) → Keeps {A = A} (λ y. ⊤) (gives x)
  gives_safe x = gives_keeps x tt

  pub fails_keeps : {A : Type 0} {P : A → Type 0} (error : RunError) (place : Place) → Keeps P (fails error place)
  unfolding fails
  fails_keeps error place = record { always = λ w. (tt, tt, tt) }

  pub stops_keeps : {A : Type 0} {P : A → Type 0} (code : Option ℕ) → Keeps P (stops code)
  unfolding stops
  stops_keeps code = record { always = λ w. (tt, tt, tt) }

  pub beyond_keeps : {A : Type 0} {P : A → Type 0} → Keeps P beyond
  unfolding beyond
  beyond_keeps = record { always = λ w. (tt, tt, tt) }

  pub looks_keeps : {A : Type 0} {P : A → Type 0} (f : Store → A) → ((s : Store) → P (f s)) → Keeps P (looks f)
  unfolding looks
  looks_keeps f h = record { always = λ w. (tt, tt, (h w.store, refl)) }

  pub looks_safe : {A : Type 0} (f : Store → A) → Keeps {A = A} (λ y. ⊤) (looks f)
  looks_safe f = looks_keeps f (λ w. tt)

  -- no change happens
  pub does_safe : (events : Store → List Event) → ((s : Store) → changes (events s) ≡ []) → ((s : Store) → Stands s (events s)) → Keeps (λ y. ⊤) (does events)
  unfolding does
  does_safe events h k = record { always = λ w. (rw (h w.store) tt, k w.store, (tt, refl)) }

  pub asks_safe : Keeps (λ y. ⊤) asks
  unfolding asks
  asks_safe = record { always = λ w. (tt, tt, (tt, refl)) }

  pub if_keeps : {A : Type 0} {P : A → Type 0} (b : Bool) {r s : Ran A} → Keeps P r → Keeps P s → Keeps P (if b then r else s)
  if_keeps true h k = h
  if_keeps false h k = k

  pub each_keeps : {A : Type 0} (xs : List A) (act : A → Ran ⊤) (P : A → Type 0) → Each P xs → ((x : A) → P x → Keeps (λ y. ⊤) (act x)) → Keeps (λ y. ⊤) (each xs act)
  each_keeps [] act P e h = gives_safe tt
  each_keeps (x ∷ xs) act P e h = bind_keeps (h x e.0) (λ y z. each_keeps xs act P e.1 h)

  -- ---- references

  permitted : (r : Reference) (unit : ℕ) → Honest r → r.right ≡ Define → Permitted p (record { reference = r; executing = unit })
  permitted r unit h d = record { by_right = d; from_home = h.home d; by_makers = h.made; root_type = h.start; by_root = h.rooted; by_types = h.typed; by_steps = h.parts }

  pub set_keeps : (r : Reference) (x : Value) (here : Here) → Honest r → r.right ≡ Define → Keeps (λ y. ⊤) (set r x here)
  unfolding does
  set_keeps r x here h d = record { always = λ w. ((permitted r here.unit h d, tt), (tt, tt), (tt, refl)) }

  pub clear_keeps : (r : Reference) (here : Here) → Honest r → r.right ≡ Define → Keeps (λ y. ⊤) (clear r here)
  unfolding does
  clear_keeps r here h d = record { always = λ w. ((permitted r here.unit h d, tt), (tt, tt), (tt, refl)) }

  pub honest_moved : (r : Reference) → Honest r → (q : Path) → q.root ≡ r.path.root → (reach : Reach) → AllAt r.path.root (numbers r.makers) (paths_by q reach) → Honest (moved r q reach)
  honest_moved r h q e reach a = record {
    home = λ d. subst (λ t. FromHome p t r.origin) (sym e) (h.home d);
    made = h.made;
    start = h.start;
    rooted = subst (λ t. IsDeclared p t h.start) (sym e) h.rooted;
    typed = h.typed;
    ends = h.ends;
    parts = subst (λ t. AllAt t (numbers r.makers) (paths_by q reach)) (sym e) a;
  }

  -- a root: by the right to read, or with a fact on its home
  pub honest_root : (t : Root) (of : Base) (right : Right) (unit : ℕ) (x : Value) → (right ≡ Define → FromHome p t unit) → IsDeclared p t of → Honest (to_root t of right unit x)
  honest_root t of right unit x f d = record { home = f; made = tt; start = of; rooted = d; typed = tt; ends = refl; parts = reach_at t [] (whole t) x (refl, refl) }

  pub local_home : (l i unit : ℕ) → FromHome p (Local l i) unit
  local_home l i unit k y e s b = not_static l i k e

  pub local_declared : (l i : ℕ) (of : Base) → IsDeclared p (Local l i) of
  local_declared l i of k y e s = not_static l i k e

  pub honest_local : (l i : ℕ) (of : Base) (right : Right) (unit : ℕ) (x : Value) → Honest (to_root (Local l i) of right unit x)
  honest_local l i of right unit x = honest_root (Local l i) of right unit x (λ d. local_home l i unit) (local_declared l i of)

  pub static_declared : (i : ℕ) → IsDeclared p (Static i) (static_type (slice_get p.statics.items i))
  static_declared i k y e s = ap (λ j. static_type (slice_get p.statics.items j)) (ap slot_of e) ∙ ap static_type s

  -- a unit that may define a variable is its home, where it is protected
  pub from_home : (o : Option x.Static) (unit : ℕ) (y : x.Static) → o ≡ Some y → y.is_protected ≡ true → right_to unit o ≡ Define → unit ≡ y.home
  from_home o unit y e b d = by (nat_eq y.home unit) refl
    where
      right : (if y.is_protected then (if nat_eq y.home unit then Define else Read) else Define) ≡ Define
      right = subst (λ t. right_to unit t ≡ Define) e d

      by : (c : Bool) → nat_eq y.home unit ≡ c → unit ≡ y.home
      by true k = sym (eqb→eq y.home unit (subst T (sym k) tt))
      by false k = not_read (sym (rw (b, k) refl) ∙ right)

  opened_keeps : (r : Reference) (x : Value) (here : Here) → Honest r → IsAt r.path.root (numbers r.makers) r.path → Keeps (Like r) (opened r x here)
  opened_keeps r (Allocated x) here h a = gives_keeps _ (record { honest = honest_moved r h (within r.path Contents) refl _ (reach_at r.path.root (numbers r.makers) (within r.path Contents) x (within_same r.path.root (numbers r.makers) r.path Contents refl a)); same = refl; of = refl })
  opened_keeps r (Number z) here h a = fails_keeps _ _
  opened_keeps r (Truth b) here h a = fails_keeps _ _
  opened_keeps r (Composite vs) here h a = fails_keeps _ _
  opened_keeps r (Array ss vs) here h a = fails_keeps _ _
  opened_keeps r Unallocated here h a = fails_keeps _ _

  contents_by_keeps : (reach : Reach) (r : Reference) (here : Here) → Honest r → AllAt r.path.root (numbers r.makers) (paths_by r.path reach) → Keeps (Like r) (contents_by reach r here)
  contents_by_keeps One r here h a = bind_keeps (looks_safe _) (λ x u. opened_keeps r x here h a.0)
  contents_by_keeps (Many ss ps) r here h a = fails_keeps _ _

  pub contents_keeps : (r : Reference) (here : Here) → Honest r → Keeps (Like r) (contents r here)
  contents_keeps r here h = contents_by_keeps r.reach r here h h.parts

  first_like : (r : Reference) (ps : List Path) → Honest r → AllAt r.path.root (numbers r.makers) ps → Like r (first_of r ps)
  first_like r [] h a = record { honest = honest_moved r h r.path refl _ tt; same = refl; of = refl }
  first_like r (q ∷ ps) h a = record { honest = honest_moved r h q a.0.0 One (a.0, tt); same = refl; of = refl }

  pub picked_like : (r : Reference) (ps : List Path) (ss : List Span) (ks : List ℕ) → Honest r → AllAt r.path.root (numbers r.makers) ps → Like r (picked r ps ss ks)
  picked_like r ps [] ks h a = first_like r (elements_at ps ks) h (elements_are_at r.path.root (numbers r.makers) ps a ks)
  picked_like r ps (s ∷ ss) ks h a = record { honest = honest_moved r h r.path refl _ (elements_are_at r.path.root (numbers r.makers) ps a ks); same = refl; of = refl }

  pub in_each_like : (r : Reference) (ks : List ℕ) → Honest r → Like r (moved r r.path (in_each r.reach ks))
  in_each_like r ks h = record { honest = honest_moved r h r.path refl _ (in_each_at r.path.root (numbers r.makers) r.path r.reach ks h.parts); same = refl; of = refl }

  pub like_itself : (r : Reference) → Honest r → Like r r
  like_itself r h = record { honest = h; same = refl; of = refl }

  pub static_home : (i unit : ℕ) → right_to unit (slice_get p.statics.items i) ≡ Define → FromHome p (Static i) unit
  static_home i unit d k y e s b = from_home (slice_get p.statics.items i) unit y (ap (λ j. slice_get p.statics.items j) (ap slot_of e) ∙ s) b d

pub component_keeps : (g : Setting) (k : ℕ) (maker : Maker) (r : Reference) → Honest g.program r → IsMadeWell g.program (record { of = r.of; component = k; maker = maker }) → Keeps g.program (Part g.program k r) (component g k maker r)
component_keeps g k maker r h m = looks_keeps g.program _ (λ s. record {
  honest = record {
    home = λ d. subst (λ t. FromHome g.program t r.origin) (sym (component_root r.reach r.path k)) (h.home d);
    made = each-append (IsMadeWell g.program) r.makers _ h.made (m, tt);
    start = h.start;
    rooted = subst (λ t. IsDeclared g.program t h.start) (sym (component_root r.reach r.path k)) h.rooted;
    typed = typed-append g.program.types.items h.start r.makers (record { of = r.of; component = k; maker = maker }) h.typed (sym h.ends);
    ends = ap (along g.program.types.items h.start) (numbers-append r.makers (record { of = r.of; component = k; maker = maker })) ∙ along-append g.program.types.items h.start (numbers r.makers) k ∙ ap (λ t. component_type g.program.types.items t k) h.ends;
    parts = subst (λ u. AllAt u (numbers (r.makers ++ record { of = r.of; component = k; maker = maker } ∷ [])) (paths_by (component_path r.reach r.path k) (component_reach r.reach r.path k s))) (sym (component_root r.reach r.path k)) (subst (λ ks. AllAt r.path.root ks (paths_by (component_path r.reach r.path k) (component_reach r.reach r.path k s))) (sym (numbers-append r.makers (record { of = r.of; component = k; maker = maker }))) (component_at r.path.root (numbers r.makers) r.reach r.path k s h.parts));
  };
  same = refl;
  of = refl;
})
