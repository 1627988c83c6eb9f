-- References to objects at free roots.
use Rattle.std.proofs.Common.{◌≡◌, ℕ, zero, suc, Bool, true, ℤ, List, [], ◌∷◌, map, if◌then◌else◌, slice_get}
use Rattle.f3_program.specs.declared.declarations.Base.{Base}
use Rattle.f3_meaning_whole.specs.Value.{Span, Value, Number, Truth, Composite, Array, Unallocated, Allocated, Values}
use Rattle.f3_meaning_whole.specs.Value as v
use Rattle.f3_meaning_whole.specs.Store.{Root, Static, Local, Store, Path, Step, Contents, Element, within, get}
use Rattle.f3_meaning_whole.specs.Store as kept
use Rattle.f3_meaning_whole.specs.Reference.{Right, Maker, Reach, One, Many, Reference, reach_of, elements_from, paths, paths_by}
use Rattle.f3_meaning_whole.specs.Act.{Setting, Here, in_each, picked, picks, picks_in_each, Chosen, component_path, component_reach, component, opened, contents, to_root, added, elements_at, first_of, contents_by, whole, spans_in}
use Rattle.f3_meaning_whole.specs.Ran.{gives}
use Rattle.f3_meaning_whole.specs.Exec.{based_reach, shown_reach, associated, bound}
use Rattle.f3_meaning_whole.specs.Permitted.{Each}
use Rattle.f3_program.specs.declared.program.Dummy.{Dummy}
use Rattle.f3_pure_laws.specs.Laws.{IsFree}
use Rattle.f3_pure_laws.proofs.Running.{Runs, bind_runs, gives_runs, fails_runs, looks_runs, looks_quiet, if_runs}
use Rattle.f3_pure_laws.proofs.Parts.{places_quiet}

module _ (free : Root → Bool) where
  -- the object, and all that is meant of it, is at free roots
  abbrev pub IsMine : Reference → Type 0
  IsMine r = (free r.path.root ≡ true) × Each (IsFree free) (paths r)

  -- so if the other is
  abbrev pub Follows : Reference → Reference → Type 0
  Follows r q = IsMine r → IsMine q

  elements_free : (i : ℕ) (q : Path) (vs : Values) → IsFree free q → Each (IsFree free) (elements_from i q vs)
  elements_free i q v.none h = tt
  elements_free i q (v.more x vs) h = (h, elements_free (suc i) q vs h)

  reach_free : (q : Path) (x : Value) → IsFree free q → Each (IsFree free) (paths_by q (reach_of q x))
  reach_free q (Number z) h = (h, tt)
  reach_free q (Truth b) h = (h, tt)
  reach_free q (Composite vs) h = (h, tt)
  reach_free q (Array ss vs) h = elements_free 0 q vs h
  reach_free q Unallocated h = (h, tt)
  reach_free q (Allocated x) h = (h, tt)

  pub root_mine : (t : Root) (of : Base) (right : Right) (unit : ℕ) (x : Value) → free t ≡ true → IsMine (to_root t of right unit x)
  root_mine t of right unit x h = (h, reach_free (whole t) x h)

  all_within : (s : Step) (ps : List Path) → Each (IsFree free) ps → Each (IsFree free) (map (λ q. within q s) ps)
  all_within s [] h = tt
  all_within s (q ∷ ps) h = (h.0, all_within s ps h.1)

  added_free : (ps : List Path) → Each (IsFree free) ps → (k : ℕ) (qs : List Path) → Each (IsFree free) qs → Each (IsFree free) (added (slice_get ps k) qs)
  added_free [] h k qs e = e
  added_free (p ∷ ps) h zero qs e = (h.0, e)
  added_free (p ∷ ps) h (suc k) qs e = added_free ps h.1 k qs e

  elements_at_free : (ps : List Path) → Each (IsFree free) ps → (is : List ℕ) → Each (IsFree free) (elements_at ps is)
  elements_at_free ps h [] = tt
  elements_at_free ps h (i ∷ is) = added_free ps h i (elements_at ps is) (elements_at_free ps h is)

  first_mine : (r : Reference) (ps : List Path) → free r.path.root ≡ true → Each (IsFree free) ps → IsMine (first_of r ps)
  first_mine r [] h e = (h, tt)
  first_mine r (q ∷ ps) h e = (e.0, (e.0, tt))

  picked_mine : (r : Reference) (ps : List Path) (ss : List Span) (ks : List ℕ) → free r.path.root ≡ true → Each (IsFree free) ps → IsMine (picked r ps ss ks)
  picked_mine r ps [] ks h e = first_mine r (elements_at ps ks) h (elements_at_free ps e ks)
  picked_mine r ps (s ∷ ss) ks h e = (h, elements_at_free ps e ks)

  in_each_free : (q : Path) (reach : Reach) (ks : List ℕ) → Each (IsFree free) (paths_by q reach) → Each (IsFree free) (paths_by q (in_each reach ks))
  in_each_free q One ks h = h
  in_each_free q (Many ss ps) ks h = all_within _ ps h

  component_mine : (reach : Reach) (q : Path) (k : ℕ) (store : Store) → free q.root ≡ true → Each (IsFree free) (paths_by q reach)
      → (free (component_path reach q k).root ≡ true) × Each (IsFree free) (paths_by (component_path reach q k) (component_reach reach q k store))
  component_mine One q k store h e = (h, reach_free (within q (kept.Component k)) _ h)
  component_mine (Many ss ps) q k store h e = (h, all_within _ ps e)

  -- ---- dummies and associate names

  based_free : (q : Path) (ls : List ℤ) (reach : Reach) → Each (IsFree free) (paths_by q reach) → Each (IsFree free) (paths_by q (based_reach ls reach))
  based_free q ls One h = h
  based_free q ls (Many ss ps) h = h

  pub bound_mine : (d : Dummy) (r : Reference) → IsMine r → IsMine (bound d r)
  bound_mine d r h = (h.0, based_free r.path d.lowers.items r.reach h.1)

  shown_free : (q : Path) (reach : Reach) → Each (IsFree free) (paths_by q reach) → Each (IsFree free) (paths_by q (shown_reach reach))
  shown_free q One h = h
  shown_free q (Many ss ps) h = h

  pub associated_mine : (r : Reference) → IsMine r → IsMine (associated r)
  associated_mine r h = (h.0, shown_free r.path r.reach h.1)

  -- ---- from reference to reference

  module _ (level : ℕ) where
    pub component_runs : {a : ℕ} (g : Setting) (k : ℕ) (maker : Maker) (r : Reference) → Runs level free a a (Follows r) (component g k maker r)
    component_runs g k maker r = looks_runs level free _ (λ s e h. component_mine r.reach r.path k s h.0 h.1)

    opened_runs : {a : ℕ} (r : Reference) (x : Value) (here : Here) → Runs level free a a (Follows r) (opened r x here)
    opened_runs r (Allocated x) here = gives_runs level free _ (λ h. (h.0, reach_free (within r.path Contents) x h.0))
    opened_runs r (Number z) here = fails_runs level free _ _
    opened_runs r (Truth b) here = fails_runs level free _ _
    opened_runs r (Composite vs) here = fails_runs level free _ _
    opened_runs r (Array ss vs) here = fails_runs level free _ _
    opened_runs r Unallocated here = fails_runs level free _ _

    contents_by_runs : {a : ℕ} (reach : Reach) (r : Reference) (here : Here) → Runs level free a a (Follows r) (contents_by reach r here)
    contents_by_runs One r here = bind_runs level free (looks_quiet level free _) (λ x u. opened_runs r x here)
    contents_by_runs (Many ss ps) r here = fails_runs level free _ _

    pub contents_runs : {a : ℕ} (r : Reference) (here : Here) → Runs level free a a (Follows r) (contents r here)
    contents_runs r here = contents_by_runs r.reach r here

    pub opened_or : {a : ℕ} (b : Bool) (r : Reference) (here : Here) → Runs level free a a (Follows r) (if b then contents r here else gives r)
    opened_or b r here = if_runs level free b (contents_runs r here) (gives_runs level free r (λ h. h))

    pub picks_runs : {a : ℕ} (r : Reference) (reach : Reach) (cs : List Chosen) (here : Here) → (IsMine r → Each (IsFree free) (paths_by r.path reach)) → Runs level free a a (Follows r) (picks r reach cs here)
    picks_runs r One cs here e = gives_runs level free r (λ h. h)
    picks_runs {a} r (Many ss ps) cs here e = bind_runs level free (places_quiet level free a ss cs here) (λ ks u. gives_runs level free _ (λ h. picked_mine r ps (spans_in ss cs) ks h.0 (e h)))

    pub each_runs_in : {a : ℕ} (ss : List Span) (r : Reference) (cs : List Chosen) (here : Here) → Runs level free a a (Follows r) (picks_in_each ss r cs here)
    each_runs_in {a} ss r cs here = bind_runs level free (places_quiet level free a ss cs here) (λ ks u. gives_runs level free _ (λ h. (h.0, in_each_free r.path r.reach ks h.1)))
