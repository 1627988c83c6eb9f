-- Orders of the units.
use Rattle.std.proofs.Common.{◌≡◌, ◌≢◌, ℕ, zero, suc, ◌+◌, ◌<◌, List, [], ◌∷◌, ◌++◌, length, take, get_or, refl, sym, ap, subst, ◌∙◌, arith, Option, None, Some, inl, inr, Contains, is_some, true}
use Rattle.std.specs.List.{slice_get}
use Rattle.std.proofs.lemmas.Bool.{cases_order, true≢false}
use Rattle.std.proofs.lemmas.Option.{slice_get_within}
use Rattle.std.proofs.lemmas.List.{length-map, length-take, get_or-take, get_or_default}
use Rattle.f3_rules.specs.declared.breaks.Break.{Break}
use Rattle.f3_rules.specs.declared.rule.Rule.TheVariants.{U1}
use Rattle.f3_tree.specs.declared.program.UnitKind.TheVariants.{Module}
use Rattle.f3_tree.specs.Tree.{Tree}
use Rattle.f3_graph.specs.Units.{Node, nodes_of, uses_of, Uses, Reaches}
use Rattle.f3_graph.specs.declared.unit.UnitUses.{UnitUses}
use Rattle.f3_graph.specs.Inner.Views.{node_view, nodes_view}
use Rattle.f3_graph.specs.Breaks.{at, NameTwice, ReachesItself, UnitBreaks}
use Rattle.f3_graph.specs.Inner.Links.{module_of, home, link_of, links_from, links_of, targets, IsGraph}
use Rattle.f3_nodes.specs.Nodes.{Graph, targets_of, Leads, InRange, IsNodeOrder, Ordered}
use Rattle.f3_graph.specs.Order.{IsOrderOf}
use Rattle.f3_graph.specs.declared.links.Link.{Link}
use Rattle.f3_tree.specs.declared.program.UnitKind.{UnitKind}
use Rattle.f3_tree.specs.declared.program.UnitKind.TheVariants.{Program as MainProgram}
use Rattle.f3_nodes.proofs.Members.{Has, has_of, contains_of, has_at, at_has}
use Rattle.f3_graph.proofs.Naming.{module_some, module_there, comes_in}
use Rattle.f3_graph.proofs.Cycling.{leads, goes_round, cycle_is, in_range}
use Rattle.f3_nodes.proofs.Walking.{no_cycle}
use Rattle.std.specs.Global.{Vec}

-- what stands before a place of a list
split_at : (xs : List Node) (j : ℕ) (q : Node) → slice_get xs j ≡ Some q
    → (front : List Node) × (rest : List Node) × (xs ≡ front ++ q ∷ rest) × ((i : ℕ) (p : Node) → i < j → slice_get xs i ≡ Some p → Has front p)
split_at [] j q e = let no : ⊥ = cc in absurd no
split_at (x ∷ xs) zero q e = let same : x ≡ q = cc in ([], xs, ap (λ w. w ∷ xs) same, λ i p lt h. absurd (omega arith))
split_at (x ∷ xs) (suc j) q e =
    let r = split_at xs j q e in
    (x ∷ r.0, r.1, ap (λ l. x ∷ l) r.2, before r.0 r.3)
  where
    before : (front : List Node) → ((i : ℕ) (p : Node) → i < j → slice_get xs i ≡ Some p → Has front p) → (i : ℕ) (p : Node) → i < suc j → slice_get (x ∷ xs) i ≡ Some p → Has (x ∷ front) p
    before front f zero p lt h = inl (let same : p ≡ x = cc in same)
    before front f (suc i) p lt h = inr (f i p (omega arith) h)

-- where no name is taken twice, units of one name are one
module _ (units : List Node) (once : (b : Break) → NameTwice units b → ⊥) where
  apart : (i j : ℕ) (p q : Node) → i < j → slice_get units i ≡ Some p → slice_get units j ≡ Some q → p.name.symbol ≢ q.name.symbol
  apart i j p q lt a b same =
      let r = split_at units j q b in
      once (at U1 q.name) (r.0, q, r.1, r.2, p, contains_of r.0 p (r.3 i p lt a), same, refl)

  alone : (i j : ℕ) (p q : Node) → slice_get units i ≡ Some p → slice_get units j ≡ Some q → p.name.symbol ≡ q.name.symbol → i ≡ j
  alone i j p q a b same = elim (cases_order i j) [
    | inl e ↦ e
    | inr (inl less) ↦ absurd (apart i j p q less a b same)
    | inr (inr more) ↦ absurd (apart j i q p more b a (sym same))
  ]

  -- each module stands for itself
  itself : (v : ℕ) (source : Node) (n : ℕ) → slice_get units v ≡ Some source → source.kind ≡ Module → source.name.symbol ≡ n → module_of units n ≡ Some v
  itself v source n here kind name =
      let m = module_there units n source (at_has units v source here) kind name in
      let s = module_some units n m.0 m.1 in
      m.1 ∙ ap Some (alone m.0 v s.unit source s.here here (s.name ∙ sym name))

  home_itself : (u : ℕ) (unit : Node) → slice_get units u ≡ Some unit → home unit.kind (module_of units unit.name.symbol) u ≡ u
  home_itself u unit here = by unit.kind refl
    where
      by : (kind : UnitKind) → unit.kind ≡ kind → home kind (module_of units unit.name.symbol) u ≡ u
      by Module kind = ap (λ o. home Module o u) (itself u unit unit.name.symbol here kind refl)
      by MainProgram kind = refl

  pub is_order : (g : Graph) → ((a : ℕ) → targets_of g a ≡ targets (links_of units) a) → length g ≡ length units → (order : List ℕ) → IsNodeOrder g order → IsOrderOf units order
  is_order g steps long order is = record {
    within = λ k lt. rw (sym long) (is.within k lt);
    once = is.once;
    all = λ u lt. is.all u (rw long lt);
    after = λ k unit x v source lt here used there kind name.
        (let u = get_or order k 0 in
        let l = link_of (module_of units) (0 + u) unit x in
        let at_u : l.home ≡ u = (let same : 0 + u ≡ u = omega arith in ap (home unit.kind (module_of units unit.name.symbol)) same ∙ home_itself u unit here) in
        let on : Has (links_of units) l = comes_in (module_of units) 0 units u unit x here (has_of (uses_of unit) x used) in
        is.after k v lt (subst (λ w. Contains (targets_of g w) v) at_u (leads units g steps l v on (itself v source x.symbol there kind name))));
  }

-- where units stand in order, a module stands behind what it reaches
abbrev Before : List Node → List ℕ → ℕ → ℕ → Type 0
Before units order k n = (v : ℕ) (source : Node) → slice_get units v ≡ Some source → source.kind ≡ Module → source.name.symbol ≡ n → Contains (take k order) v

number_at : (order : List ℕ) (k v : ℕ) → Contains (take k order) v → (j : ℕ) × (j < k) × (j < length order) × (get_or order j 0 ≡ v)
number_at order k v c =
    let below : c.0 < k = omega (arith, c.1, length-take k order) in
    let within : c.0 < length order = omega (arith, c.1, length-take k order) in
    (c.0, below, within, get_or_default order c.0 0 v within ∙ sym (get_or-take k order c.0 v below) ∙ c.2)

sooner : (order : List ℕ) (j k v : ℕ) → j < k → Contains (take j order) v → Contains (take k order) v
sooner order j k v lt c =
    let n = number_at order j v c in
    let inside : n.0 < length (take k order) = omega (arith, length-take k order, n.1, n.2) in
    (n.0, inside, get_or-take k order n.0 v (omega (arith, n.1)) ∙ get_or_default order n.0 v 0 n.2 ∙ n.3)

use_before : (units : List Node) (order : List ℕ) → IsOrderOf units order → (k a b : ℕ) → Uses units a b → Before units order k a → Before units order k b
use_before units order is k a b (unit, (has, kind, name), x, used, same) before v source there its_kind its_name =
    let u = has_at units unit (has_of units unit has) in
    let n = number_at order k u.0 (before u.0 unit u.1 kind name) in
    let here : slice_get units (get_or order n.0 0) ≡ Some unit = subst (λ w. slice_get units w ≡ Some unit) (sym n.3) u.1 in
    sooner order n.0 k v n.1 (is.after n.0 unit x v source n.2 here used there its_kind (its_name ∙ sym same))

reach_before : (units : List Node) (order : List ℕ) → IsOrderOf units order → (k a b : ℕ) → Reaches units a b → Before units order k a → Before units order k b
reach_before units order is k a b (Reaches.at_once a' b' u) before = use_before units order is k a' b' u before
reach_before units order is k a c (Reaches.through a' b' c' u r) before = reach_before units order is k b' c' r (use_before units order is k a' b' u before)

pub no_cycle_of_units : (units : List Node) (order : List ℕ) (b : Break) → IsOrderOf units order → ReachesItself units b → ⊥
no_cycle_of_units units order b is (unit, has, kind, x, used, way, said) =
    let u = has_at units unit (has_of units unit has) in
    let inside = slice_get_within units u.0 unit u.1 in
    let on = is.all u.0 inside in
    let at_u : get_or order on.0 0 ≡ u.0 = get_or_default order on.0 0 u.0 on.1 ∙ on.2 in
    let here : slice_get units (get_or order on.0 0) ≡ Some unit = subst (λ w. slice_get units w ≡ Some unit) (sym at_u) u.1 in
    let before_x : Before units order on.0 x.symbol = λ v source there its_kind its_name. is.after on.0 unit x v source on.1 here used there its_kind its_name in
    let before_itself : Before units order on.0 unit.name.symbol = elim way [
      | inl same ↦ subst (Before units order on.0) same before_x
      | inr path ↦ reach_before units order is on.0 x.symbol unit.name.symbol path before_x
    ] in
    let earlier = number_at order on.0 u.0 (before_itself u.0 unit u.1 kind refl) in
    is.once earlier.0 on.0 earlier.1 on.1 (earlier.3 ∙ sym at_u)

-- as many nodes as units
pub many : (units : List UnitUses) → length (nodes_view units) ≡ length units
many units = length-map units node_view

-- what the code finds: the links of the units
pub linked : (us : List Node) (find : ℕ → Option ℕ) (links : List Link) → ((n : ℕ) → find n ≡ module_of us n) → links ≡ links_from find 0 us → links ≡ links_of us
linked us find links same e = e ∙ ap (λ (f : ℕ → Option ℕ). links_from f 0 us) (λ j n. same n j)

-- and their graph
pub record Knows (us : List Node) (links : List Link) (g : Graph) : Type 0 where
  pub links_are : links ≡ links_of us
  pub graph : IsGraph links (length us) g
  pub range : InRange g

pub known : (us : List Node) (links ls : List Link) (n : ℕ) (g : Graph) → links ≡ links_of us → ls ≡ links → n ≡ length us → IsGraph ls n g → Knows us links g
known us links ls n g e el en graph = record {
  links_are = e;
  graph = subst (λ l. IsGraph l (length us) g) el (subst (λ m. IsGraph ls m g) en graph);
  range = in_range us g (λ a. graph.steps a ∙ ap (λ l. targets l a) (el ∙ e)) (graph.long ∙ en);
}

-- an order has no node that reaches itself
pub ordered : (g : Graph) (found : Option (Vec ℕ)) → Ordered g found → is_some found ≡ true → InRange g → (u : ℕ) → Leads g u u → ⊥
ordered g None o e range u r = true≢false (sym e)
ordered g (Some order) o e range u r = no_cycle g order.items u o (back u u r) r
  where
    back : (a b : ℕ) → Leads g a b → b < length g
    back a b (Leads.at_once a' b' c) = range a' b' c
    back a c (Leads.through a' b' c' h r) = back b' c' r

pub in_order : (program : Tree) (us : List Node) (g : Graph) (links : List Link) (found : Option (Vec ℕ)) (order : Vec ℕ) → us ≡ nodes_of program → found ≡ Some order → Ordered g found → Knows us links g
    → ((b : Break) → UnitBreaks program b → ⊥) → IsOrderOf (nodes_of program) order.items
in_order program us g links found order same is o knows none =
    subst (λ ns. IsOrderOf ns order.items) same
    (is_order us (λ b h. none b (UnitBreaks.name_twice (subst (λ ns. NameTwice ns b) same h))) g (λ a. knows.graph.steps a ∙ ap (λ ls. targets ls a) knows.links_are) knows.graph.long order.items (subst (Ordered g) is o))

pub no_order : (program : Tree) (us : List Node) (g : Graph) (links : List Link) (found : Option (Vec ℕ)) → us ≡ nodes_of program → found ≡ None → Ordered g found → Knows us links g
    → ((b : Break) → UnitBreaks program b → ⊥) → ⊥
no_order program us g links found same is o knows none =
    let steps : (a : ℕ) → targets_of g a ≡ targets (links_of us) a = λ a. knows.graph.steps a ∙ ap (λ ls. targets ls a) knows.links_are in
    let r = subst (Ordered g) is o in
    let b = goes_round us g steps r.0 r.1 in
    none b.0 (UnitBreaks.reaches_itself (subst (λ ns. ReachesItself ns b.0) same (cycle_is us g steps b.0 b.1)))
