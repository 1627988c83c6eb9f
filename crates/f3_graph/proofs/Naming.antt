-- The numbers that stand for modules, and the links between them.
use Rattle.std.proofs.Common.{◌≡◌, ◌≢◌, ℕ, zero, suc, ◌+◌, ◌<◌, List, [], ◌∷◌, ◌++◌, length, map, refl, sym, ap, subst, ◌∙◌, arith, Bool, true, false, if◌then◌else◌, ◌&&◌, ◌==◌, Option, None, Some, ◌⊎◌, inl, inr, option_to_list, get_or, set, drop, append_assoc}
use Rattle.std.specs.List.{slice_get}
use Rattle.std.proofs.lemmas.Bool.{eqb-true, eqb-false, eq-eqb, ne_eqb, cases_eq}
use Rattle.std.proofs.lemmas.List.{at_drop_more, map-set, get_or-map, get_or-set_same, get_or-set_other, length-map, append-nil}
use Rattle.std.specs.Global.{Vec}
use Rattle.std.proofs.lemmas.List.Elements.{Contains-get_or}
use Rattle.f3_nodes.specs.Nodes.{Graph, targets_of}
use Rattle.std.proofs.lemmas.Option.{slice_get_within}
use Rattle.f3_tree.specs.declared.expression.Name.{Name}
use Rattle.f3_tree.specs.declared.program.UnitKind.{UnitKind}
use Rattle.f3_tree.specs.declared.program.UnitKind.TheVariants.{Module, Program as MainProgram}
use Rattle.f3_graph.specs.declared.links.Link.{Link}
use Rattle.f3_graph.specs.Units.{Node, uses_of}
use Rattle.f3_graph.specs.declared.unit.UnitUses.{UnitUses}
use Rattle.f3_graph.specs.Inner.Views.{node_view, nodes_view}
use Rattle.f3_graph.specs.Inner.Links.{is_module, last_module, module_of, home, link_of, links_from, links_of, targets, Inside}
use Rattle.f3_nodes.proofs.Members.{Has, has_of, has_parts, has_left, has_right, has_mapped, mapped_of, at_has}

-- a module of this name stands at this number
pub record Stands (units : List Node) (v n : ℕ) : Type 0 where
  pub unit : Node
  pub here : slice_get units v ≡ Some unit
  pub kind : unit.kind ≡ Module
  pub name : unit.name.symbol ≡ n

last_some : (u : ℕ) (found : Option ℕ) (units : List Node) (n v : ℕ) → last_module u found units n ≡ Some v
    → (found ≡ Some v) ⊎ ((k : ℕ) × (unit : Node) × (slice_get units k ≡ Some unit) × (u + k ≡ v) × (unit.kind ≡ Module) × (unit.name.symbol ≡ n))
last_some u found [] n v e = inl e
last_some u found (x ∷ xs) n v e = elim (last_some (u + 1) (if is_module x.kind && (x.name.symbol == n) then Some u else found) xs n v e) [
  | inl f ↦ by x.kind refl (x.name.symbol == n) refl f
  | inr (k, unit, at, same, kind, name) ↦ inr (suc k, unit, at, omega (arith, same), kind, name)
]
  where
    by : (kind : UnitKind) → x.kind ≡ kind → (t : Bool) → (x.name.symbol == n) ≡ t → (if is_module kind && t then Some u else found) ≡ Some v
        → (found ≡ Some v) ⊎ ((k : ℕ) × (unit : Node) × (slice_get (x ∷ xs) k ≡ Some unit) × (u + k ≡ v) × (unit.kind ≡ Module) × (unit.name.symbol ≡ n))
    by Module k true t f = let same : u ≡ v = cc in inr (zero, x, refl, omega (arith, same), k, eqb-true x.name.symbol n t)
    by Module k false t f = inl f
    by MainProgram k t e f = inl f

last_none : (u : ℕ) (found : Option ℕ) (units : List Node) (n : ℕ) → last_module u found units n ≡ None → (found ≡ None) × ((unit : Node) → Has units unit → unit.kind ≡ Module → unit.name.symbol ≢ n)
last_none u found [] n e = (e, λ unit h. absurd h)
last_none u found (x ∷ xs) n e = by x.kind refl (x.name.symbol == n) refl (last_none (u + 1) (if is_module x.kind && (x.name.symbol == n) then Some u else found) xs n e)
  where
    Rest : Type 0
    Rest = (unit : Node) → Has xs unit → unit.kind ≡ Module → unit.name.symbol ≢ n

    by : (kind : UnitKind) → x.kind ≡ kind → (t : Bool) → (x.name.symbol == n) ≡ t → ((if is_module kind && t then Some u else found) ≡ None) × ((unit : Node) → Has xs unit → unit.kind ≡ Module → unit.name.symbol ≢ n)
        → (found ≡ None) × ((unit : Node) → Has (x ∷ xs) unit → unit.kind ≡ Module → unit.name.symbol ≢ n)
    by Module k true t r = let no : ⊥ = (let e = r.0 in cc) in absurd no
    by Module k false t r = (
      r.0,
      λ unit h m. elim h [
        | inl same ↦ subst (λ w. w.name.symbol ≢ n) (sym same) (eqb-false x.name.symbol n t)
        | inr rest ↦ r.1 unit rest m
      ],
    )
    by MainProgram k t e r = (
      r.0,
      λ unit h m. elim h [
        | inl same ↦ let clash : MainProgram ≡ Module = sym k ∙ sym (ap (λ w. w.kind) same) ∙ m in let no : ⊥ = cc in absurd no
        | inr rest ↦ r.1 unit rest m
      ],
    )

pub module_some : (units : List Node) (n v : ℕ) → module_of units n ≡ Some v → Stands units v n
module_some units n v e = elim (last_some 0 None units n v e) [
  | inl f ↦ let no : ⊥ = cc in absurd no
  | inr (k, unit, at, same, kind, name) ↦ record { unit = unit; here = subst (λ w. slice_get units w ≡ Some unit) (omega (arith, same)) at; kind = kind; name = name }
]

pub module_none : (units : List Node) (n : ℕ) → module_of units n ≡ None → (unit : Node) → Has units unit → unit.kind ≡ Module → unit.name.symbol ≢ n
module_none units n e = (last_none 0 None units n e).1

pub module_there : (units : List Node) (n : ℕ) (unit : Node) → Has units unit → unit.kind ≡ Module → unit.name.symbol ≡ n → (v : ℕ) × (module_of units n ≡ Some v)
module_there units n unit h kind name = by (module_of units n) refl
  where
    by : (o : Option ℕ) → module_of units n ≡ o → (v : ℕ) × (module_of units n ≡ Some v)
    by None e = absurd (module_none units n e unit h kind name)
    by (Some v) e = (v, e)

-- two modules at one number are one
pub same_name : (units : List Node) (v a b : ℕ) → Stands units v a → Stands units v b → a ≡ b
same_name units v a b s t =
    let both : s.unit ≡ t.unit = (let p : Some s.unit ≡ Some t.unit = sym s.here ∙ t.here in cc) in
    sym s.name ∙ ap (λ w. w.name.symbol) both ∙ t.name

-- links ------------------------------------------------------------------------------------------

-- a link comes from a USE in a unit
pub record Comes (find : ℕ → Option ℕ) (units : List Node) (u : ℕ) (link : Link) : Type 0 where
  pub number : ℕ
  pub unit : Node
  pub name : Name
  pub here : slice_get units number ≡ Some unit
  pub used : Has (uses_of unit) name
  pub is : link ≡ link_of find (u + number) unit name

pub comes_of : (find : ℕ → Option ℕ) (u : ℕ) (units : List Node) (link : Link) → Has (links_from find u units) link → Comes find units u link
comes_of find u [] link h = absurd h
comes_of find u (unit ∷ units) link h = elim (has_parts (map (link_of find u unit) (uses_of unit)) (links_from find (u + 1) units) link h) [
  | inl a ↦ let r = mapped_of (link_of find u unit) (uses_of unit) link a in
      let at : u ≡ u + 0 = omega arith in
      record { number = 0; unit = unit; name = r.0; here = refl; used = r.1; is = r.2 ∙ ap (λ k. link_of find k unit r.0) at }
  | inr b ↦ let r = comes_of find (u + 1) units link b in
      let at : (u + 1) + r.number ≡ u + suc r.number = omega arith in
      record { number = suc r.number; unit = r.unit; name = r.name; here = r.here; used = r.used; is = r.is ∙ ap (λ k. link_of find k r.unit r.name) at }
]

pub comes_in : (find : ℕ → Option ℕ) (u : ℕ) (units : List Node) (k : ℕ) (unit : Node) (x : Name) → slice_get units k ≡ Some unit → Has (uses_of unit) x → Has (links_from find u units) (link_of find (u + k) unit x)
comes_in find u [] k unit x e h = let no : ⊥ = cc in absurd no
comes_in find u (y ∷ ys) zero unit x e h =
    let same : y ≡ unit = cc in
    let at : u ≡ u + 0 = omega arith in
    has_left (map (link_of find u y) (uses_of y)) (links_from find (u + 1) ys) (link_of find (u + 0) unit x)
    (subst (λ w. Has (map (link_of find u w) (uses_of w)) (link_of find (u + 0) unit x)) (sym same)
    (subst (λ k. Has (map (link_of find u unit) (uses_of unit)) (link_of find k unit x)) at (has_mapped (link_of find u unit) (uses_of unit) x h)))
comes_in find u (y ∷ ys) (suc k) unit x e h =
    let at : (u + 1) + k ≡ u + suc k = omega arith in
    has_right (map (link_of find u y) (uses_of y)) (links_from find (u + 1) ys) (link_of find (u + suc k) unit x)
    (subst (λ m. Has (links_from find (u + 1) ys) (link_of find m unit x)) at (comes_in find (u + 1) ys k unit x e h))

-- the unit of a link
pub home_of : (units : List Node) (k : ℕ) (unit : Node) (h n : ℕ) → slice_get units k ≡ Some unit → home unit.kind (module_of units unit.name.symbol) k ≡ h → Stands units h n → (unit.kind ≡ Module) × (unit.name.symbol ≡ n)
home_of units k unit h n at e stands = by unit.kind refl (module_of units unit.name.symbol) refl e
  where
    by : (kind : UnitKind) → unit.kind ≡ kind → (o : Option ℕ) → module_of units unit.name.symbol ≡ o → home kind o k ≡ h → (unit.kind ≡ Module) × (unit.name.symbol ≡ n)
    by Module kind None none f = absurd (module_none units unit.name.symbol none unit (at_has units k unit at) kind refl)
    by Module kind (Some m) some f = (kind, same_name units h unit.name.symbol n (module_some units unit.name.symbol h (some ∙ ap Some f)) stands)
    by MainProgram kind o is f =
        let there : slice_get units h ≡ Some unit = subst (λ w. slice_get units w ≡ Some unit) f at in
        let both : stands.unit ≡ unit = (let p : Some stands.unit ≡ Some unit = sym stands.here ∙ there in cc) in
        let clash : MainProgram ≡ Module = sym kind ∙ sym (ap (λ w. w.kind) both) ∙ stands.kind in
        let no : ⊥ = cc in absurd no

pub home_is : (units : List Node) (k : ℕ) (unit : Node) (h : ℕ) → unit.kind ≡ Module → module_of units unit.name.symbol ≡ Some h → home unit.kind (module_of units unit.name.symbol) k ≡ h
home_is units k unit h kind e = ap (λ w. home w (module_of units unit.name.symbol) k) kind ∙ ap (λ o. home Module o k) e

pub inside : (units : List Node) → Inside (links_of units) (length units)
inside units link c =
    let r = comes_of (module_of units) 0 units link (has_of (links_of units) link c) in
    let within = slice_get_within units r.number r.unit r.here in (
      subst (λ w. w.home < length units) (sym r.is) (by r.unit.kind (module_of units r.unit.name.symbol) refl (0 + r.number) (omega (arith, within))),
      λ t e. (let s = module_some units r.name.symbol t (sym (ap (λ w. w.target) r.is) ∙ e) in slice_get_within units t s.unit s.here),
    )
  where
    by : (kind : UnitKind) (o : Option ℕ) → (let n = (comes_of (module_of units) 0 units link (has_of (links_of units) link c)).unit.name.symbol in module_of units n ≡ o) → (k : ℕ) → k < length units → home kind o k < length units
    by Module None e k lt = lt
    by Module (Some m) e k lt = let n = (comes_of (module_of units) 0 units link (has_of (links_of units) link c)).unit.name.symbol in let s = module_some units n m e in slice_get_within units m s.unit s.here
    by MainProgram o e k lt = lt

-- where links lead
pub targets_link : (ls : List Link) (a v : ℕ) → Has (targets ls a) v → (l : Link) × Has ls l × (l.home ≡ a) × (l.target ≡ Some v)
targets_link [] a v h = absurd h
targets_link (l ∷ ls) a v h = elim (has_parts (if l.home == a then option_to_list l.target else []) (targets ls a) v h) [
  | inl here ↦ by (l.home == a) refl l.target refl here
  | inr rest ↦ let r = targets_link ls a v rest in (r.0, inr r.1, r.2, r.3)
]
  where
    by : (t : Bool) → (l.home == a) ≡ t → (o : Option ℕ) → l.target ≡ o → Has (if t then option_to_list o else []) v → (m : Link) × Has (l ∷ ls) m × (m.home ≡ a) × (m.target ≡ Some v)
    by true e (Some w) f (inl same) = (l, inl refl, eqb-true l.home a e, f ∙ ap Some (sym same))
    by true e (Some w) f (inr n) = absurd n
    by true e None f n = absurd n
    by false e o f n = absurd n

pub link_targets : (ls : List Link) (l : Link) (v : ℕ) → Has ls l → l.target ≡ Some v → Has (targets ls l.home) v
link_targets [] l v h e = absurd h
link_targets (m ∷ ls) l v (inl same) e =
    let test : (m.home == l.home) ≡ true = eq-eqb m.home l.home (sym (ap (λ w. w.home) same)) in
    let there : m.target ≡ Some v = sym (ap (λ w. w.target) same) ∙ e in
    has_left (if m.home == l.home then option_to_list m.target else []) (targets ls l.home) v (rw (test, there) (inl refl))
link_targets (m ∷ ls) l v (inr h) e = has_right (if m.home == l.home then option_to_list m.target else []) (targets ls l.home) v (link_targets ls l v h e)

abbrev link_with : (ℕ → Option ℕ) → ℕ → Name → Link
link_with find h x = record { home = h; target = find x.symbol; name = x }

-- the code makes the links of one unit more
pub links_step : (find : ℕ → Option ℕ) (units : List UnitUses) (i : ℕ) (unit : UnitUses) (before later : List Link) (h : ℕ) (uses : List Name) (whole : List Link) → i < length units → unit ≡ get_or units i unit
    → h ≡ home unit.kind (find unit.name.symbol) i → uses ≡ unit.uses.items → later ≡ before ++ map (λ x. record { home = h; target = find x.symbol; name = x }) uses
    → before ++ links_from find i (nodes_view (drop i units)) ≡ whole → later ++ links_from find (i + 1) (nodes_view (drop (i + 1) units)) ≡ whole
links_step find units i unit before later h uses whole lt at eh eu e inv =
    let rest = links_from find (i + 1) (nodes_view (drop (i + 1) units)) in
    let node = node_view unit in
    let here : later ≡ before ++ map (link_of find i node) (uses_of node) = e ∙ ap (λ n. before ++ map (link_with find n) uses) eh ∙ ap (λ us. before ++ map (link_of find i node) us) eu in
    ap (λ l. l ++ rest) here
    ∙ append_assoc before (map (link_of find i node) (uses_of node)) rest
    ∙ ap (λ l. before ++ l) (sym (at_drop_more (λ us. links_from find i (nodes_view us)) units i unit lt ∙ ap (λ w. links_from find i (nodes_view (w ∷ drop (i + 1) units))) (sym at)))
    ∙ inv

-- the code adds the step of a link
pub connect_steps : (g : Graph) (h : ℕ) (old new : Vec ℕ) (t : ℕ) (o : Option ℕ) → h < length g → old ≡ get_or g h old → new.items ≡ old.items ++ t ∷ [] → o ≡ Some t
    → (a : ℕ) → targets_of (set g h new) a ≡ targets_of g a ++ (if h == a then option_to_list o else [])
connect_steps g h old new t o lt at e is a = elim (cases_eq a h) [
  | inl same ↦
      let test : (h == a) ≡ true = eq-eqb h a (sym same) in
      let here : targets_of (set g h new) h ≡ new.items = ap (λ l. get_or l h []) (map-set (λ (v : Vec ℕ). v.items) g h new) ∙ get_or-set_same (map (λ (v : Vec ℕ). v.items) g) h new.items [] (omega (arith, length-map g (λ (v : Vec ℕ). v.items))) in
      let was : targets_of g h ≡ old.items = get_or-map (λ (v : Vec ℕ). v.items) g h old [] lt ∙ ap (λ (v : Vec ℕ). v.items) (sym at) in
      ap (targets_of (set g h new)) same ∙ here ∙ e ∙ ap (λ l. l ++ t ∷ []) (sym was ∙ ap (targets_of g) (sym same))
      ∙ ap (λ p. targets_of g a ++ option_to_list p) (sym is) ∙ ap (λ b. targets_of g a ++ (if b then option_to_list o else [])) (sym test)
  | inr ne ↦
      let test : (h == a) ≡ false = ne_eqb h a (λ q. ne (sym q)) in
      ap (λ l. get_or l a []) (map-set (λ (v : Vec ℕ). v.items) g h new) ∙ get_or-set_other (map (λ (v : Vec ℕ). v.items) g) h a new.items [] ne
      ∙ sym (append-nil (targets_of g a)) ∙ ap (λ b. targets_of g a ++ (if b then option_to_list o else [])) (sym test)
]

-- what the code reads of a list of links
abbrev pub no_link : Link
no_link = record { home = 0; target = None; name = record { symbol = 0; place = record { file = 0; line = 0; column = 0 } } }

pub inside_at : (links : List Link) (count i : ℕ) → Inside links count → i < length links
    → let link = get_or links i no_link in (link.home < count) × ((t : ℕ) → link.target ≡ Some t → t < count)
inside_at links count i h lt = h (get_or links i no_link) (Contains-get_or links i no_link lt)
