-- Modules reach themselves exactly where the numbers that stand for them do.
use Rattle.std.proofs.Common.{◌≡◌, ◌≢◌, ℕ, ◌+◌, ◌<◌, List, [], ◌∷◌, length, refl, sym, ap, subst, ◌∙◌, arith, Option, None, Some, ◌⊎◌, inl, inr, Contains, Bool, true, false, IsTrue, ◌↔◌, if◌then◌else◌, take, get_or, ◌++◌}
use Rattle.std.specs.List.{slice_get, flat_map}
use Rattle.std.proofs.lemmas.Bool.{true≢false}
use Rattle.std.proofs.lemmas.List.{take_more}
use Rattle.std.proofs.lemmas.List.Elements.{Contains-push, Contains-push_cases, Contains-append_left}
use Rattle.f3_rules.specs.declared.breaks.Break.{Break}
use Rattle.f3_rules.specs.declared.rule.Rule.TheVariants.{U2, U3}
use Rattle.f3_rules.specs.Least.{Least, first_of, earlier_of, is_before}
use Rattle.f3_rules.proofs.Firsts.{first_is_least, least_same, least_both, least_one, least_none}
use Rattle.f3_tree.specs.declared.expression.Name.{Name}
use Rattle.f3_tree.specs.declared.program.UnitKind.TheVariants.{Module}
use Rattle.f3_graph.specs.declared.links.Link.{Link}
use Rattle.f3_tree.specs.Tree.{Tree}
use Rattle.f3_graph.specs.Units.{Node, nodes_of, uses_of, Uses, Reaches}
use Rattle.f3_graph.specs.Breaks.{at, NameTwice, ModuleMissing, ReachesItself, NoMainProgram, MainProgramAgain, UnitBreaks}
use Rattle.f3_graph.specs.Inner.Links.{module_of, home, link_of, links_of, targets, IsGraph, Cycles, CyclesIn, missing, missing_at, may_be_first}
use Rattle.f3_nodes.specs.Nodes.{Graph, targets_of, Leads, InRange}
use Rattle.f3_nodes.proofs.Members.{Has, has_of, contains_of, has_at, at_has, has_piece, piece_of}
use Rattle.f3_graph.proofs.Naming.{Stands, module_some, module_none, module_there, comes_of, comes_in, home_of, home_is, inside, targets_link, link_targets}

-- any path begins with a step
first_step_of : (g : Graph) (a c : ℕ) → Leads g a c → (v : ℕ) × Contains (targets_of g a) v × ((v ≡ c) ⊎ Leads g v c)
first_step_of g a c (Leads.at_once a' c' h) = (c', h, inl refl)
first_step_of g a c (Leads.through a' b' c' h r) = (b', h, inr r)

-- a module that reaches one is there
begins : (units : List Node) (a c : ℕ) → Reaches units a c → (v : ℕ) × (module_of units a ≡ Some v)
begins units a c (Reaches.at_once a' c' (unit, (has, kind, name), x, used, same)) = module_there units a' unit (has_of units unit has) kind name
begins units a c (Reaches.through a' b' c' (unit, (has, kind, name), x, used, same) r) = module_there units a' unit (has_of units unit has) kind name

module _ (units : List Node) (g : Graph) (steps : (a : ℕ) → targets_of g a ≡ targets (links_of units) a) where
  pub leads : (l : Link) (v : ℕ) → Has (links_of units) l → l.target ≡ Some v → Contains (targets_of g l.home) v
  leads l v h e = contains_of (targets_of g l.home) v (subst (λ ts. Has ts v) (sym (steps l.home)) (link_targets (links_of units) l v h e))

  led : (a v : ℕ) → Contains (targets_of g a) v → (l : Link) × Has (links_of units) l × (l.home ≡ a) × (l.target ≡ Some v)
  led a v c = targets_link (links_of units) a v (subst (λ ts. Has ts v) (steps a) (has_of (targets_of g a) v c))

  -- a USE of a module is a step
  use_leads : (a b h v : ℕ) → Uses units a b → module_of units a ≡ Some h → module_of units b ≡ Some v → Contains (targets_of g h) v
  use_leads a b h v (unit, (has, kind, name), x, used, same) eh ev =
      let k = has_at units unit (has_of units unit has) in
      let l = link_of (module_of units) (0 + k.0) unit x in
      let at_h : l.home ≡ h = home_is units (0 + k.0) unit h kind (ap (module_of units) name ∙ eh) in
      subst (λ w. Contains (targets_of g w) v) at_h (leads l v (comes_in (module_of units) 0 units k.0 unit x k.1 (has_of (uses_of unit) x used)) (ap (module_of units) same ∙ ev))

  pub reach_leads : (a c h v : ℕ) → Reaches units a c → module_of units a ≡ Some h → module_of units c ≡ Some v → Leads g h v
  reach_leads a c h v (Reaches.at_once a' c' u) eh ev = Leads.at_once h v (use_leads a' c' h v u eh ev)
  reach_leads a c h v (Reaches.through a' b' c' u r) eh ev =
      let m = begins units b' c' r in
      Leads.through h m.0 v (use_leads a' b' h m.0 u eh m.1) (reach_leads b' c' m.0 v r m.1 ev)

  -- a step from a module is a USE
  leads_use : (h v a : ℕ) → Contains (targets_of g h) v → Stands units h a → (b : ℕ) × (module_of units b ≡ Some v) × Uses units a b
  leads_use h v a c stands =
      let l = led h v c in
      let r = comes_of (module_of units) 0 units l.0 l.1 in
      let at_h = sym (ap (λ w. w.home) r.is) ∙ l.2 in
      let there : slice_get units (0 + r.number) ≡ Some r.unit = subst (λ w. slice_get units w ≡ Some r.unit) (omega arith) r.here in
      let same = home_of units (0 + r.number) r.unit h a there at_h stands in
      (r.name.symbol, sym (ap (λ w. w.target) r.is) ∙ l.3, (r.unit, (contains_of units r.unit (at_has units r.number r.unit r.here), same.0, same.1), r.name, contains_of (uses_of r.unit) r.name r.used, refl))

  pub leads_reach : (h v a : ℕ) → Leads g h v → Stands units h a → (b : ℕ) × Stands units v b × Reaches units a b
  leads_reach h v a (Leads.at_once h' v' c) stands =
      let s = leads_use h' v' a c stands in
      (s.0, module_some units s.0 v' s.1, Reaches.at_once a s.0 s.2)
  leads_reach h v a (Leads.through h' m' v' c r) stands =
      let s = leads_use h' m' a c stands in
      let t = leads_reach m' v' s.0 r (module_some units s.0 m' s.1) in
      (t.0, t.1, Reaches.through a s.0 t.0 s.2 t.2)

  pub cycle_is : (b : Break) → CyclesIn g (links_of units) b → ReachesItself units b
  cycle_is b (link, c, (t, target, way, is)) =
      let r = comes_of (module_of units) 0 units link (has_of (links_of units) link c) in
      let x = r.name in
      let to : module_of units x.symbol ≡ Some t = sym (ap (λ w. w.target) r.is) ∙ target in
      let at_home : home r.unit.kind (module_of units r.unit.name.symbol) (0 + r.number) ≡ link.home = sym (ap (λ w. w.home) r.is) in
      let there : slice_get units (0 + r.number) ≡ Some r.unit = subst (λ w. slice_get units w ≡ Some r.unit) (omega arith) r.here in
      let has = contains_of units r.unit (at_has units r.number r.unit r.here) in
      let used = contains_of (uses_of r.unit) x r.used in
      let said : b ≡ at U3 x = is ∙ ap (λ w. at U3 w.name) r.is in
      elim way [
        | inl same ↦
            let o = home_of units (0 + r.number) r.unit link.home x.symbol there at_home (subst (λ w. Stands units w x.symbol) same (module_some units x.symbol t to)) in
            (r.unit, has, o.0, x, used, inl (sym o.1), said)
        | inr path ↦
            let s = leads_reach t link.home x.symbol path (module_some units x.symbol t to) in
            let o = home_of units (0 + r.number) r.unit link.home s.0 there at_home s.1 in
            (r.unit, has, o.0, x, used, inr (subst (Reaches units x.symbol) (sym o.1) s.2), said)
      ]

  pub is_cycle : (b : Break) → ReachesItself units b → CyclesIn g (links_of units) b
  is_cycle b (unit, has, kind, x, used, way, is) =
      let k = has_at units unit (has_of units unit has) in
      let l = link_of (module_of units) (0 + k.0) unit x in
      let h = module_there units unit.name.symbol unit (has_of units unit has) kind refl in
      let at_h : l.home ≡ h.0 = home_is units (0 + k.0) unit h.0 kind h.1 in
      let on = contains_of (links_of units) l (comes_in (module_of units) 0 units k.0 unit x k.1 (has_of (uses_of unit) x used)) in
      elim way [
        | inl same ↦ (l, on, (h.0, ap (module_of units) same ∙ h.1, inl (sym at_h), is))
        | inr path ↦
            let t = begins units x.symbol unit.name.symbol path in
            (l, on, (t.0, t.1, inr (subst (Leads g t.0) (sym at_h) (reach_leads x.symbol unit.name.symbol t.0 h.0 path t.1 h.1)), is))
      ]

  -- a number that reaches itself is a break
  pub goes_round : (u : ℕ) → Leads g u u → (b : Break) × CyclesIn g (links_of units) b
  goes_round u r =
      let s = first_step_of g u u r in
      let l = led u s.0 s.1 in
      (at U3 l.0.name, (l.0, contains_of (links_of units) l.0 l.1, (s.0, l.3, elim s.2 [ inl e ↦ inl (e ∙ sym l.2) | inr p ↦ inr (subst (Leads g s.0) (sym l.2) p) ], refl)))

  pub in_range : length g ≡ length units → InRange g
  in_range long a v c = let l = led a v c in rw long ((inside units l.0 (contains_of (links_of units) l.0 l.1)).1 v l.3)

-- USE of a module that is missing
pub least_missing : (units : List Node) → Least (first_of (flat_map missing (links_of units))) (ModuleMissing units)
least_missing units = least_same (first_is_least (flat_map missing (links_of units))) to from
  where
    one_of : (o : Option ℕ) (x : Name) (b : Break) → Has (missing_at o x) b → (o ≡ None) × (b ≡ at U2 x)
    one_of None x b (inl e) = (refl, e)
    one_of None x b (inr n) = absurd n
    one_of (Some t) x b n = absurd n

    to : (b : Break) → Contains (flat_map missing (links_of units)) b → ModuleMissing units b
    to b c =
        let p = piece_of missing (links_of units) b (has_of (flat_map missing (links_of units)) b c) in
        let r = comes_of (module_of units) 0 units p.0 p.1 in
        let o = one_of p.0.target p.0.name b p.2 in (
          r.unit,
          contains_of units r.unit (at_has units r.number r.unit r.here),
          r.name,
          contains_of (uses_of r.unit) r.name r.used,
          λ source has kind. module_none units r.name.symbol (sym (ap (λ w. w.target) r.is) ∙ o.0) source (has_of units source has) kind,
          o.1 ∙ ap (λ w. at U2 w.name) r.is,
        )

    lacks : (x : Name) → ((source : Node) → Contains units source → source.kind ≡ Module → source.name.symbol ≢ x.symbol) → (o : Option ℕ) → module_of units x.symbol ≡ o → (b : Break) → b ≡ at U2 x → Has (missing_at o x) b
    lacks x lacking None e b is = inl is
    lacks x lacking (Some v) e b is = let s = module_some units x.symbol v e in absurd (lacking s.unit (contains_of units s.unit (at_has units v s.unit s.here)) s.kind s.name)

    from : (b : Break) → ModuleMissing units b → Contains (flat_map missing (links_of units)) b
    from b (unit, has, x, used, lacking, is) =
        let k = has_at units unit (has_of units unit has) in
        let l = link_of (module_of units) (0 + k.0) unit x in
        contains_of (flat_map missing (links_of units)) b
        (has_piece missing (links_of units) l b (comes_in (module_of units) 0 units k.0 unit x k.1 (has_of (uses_of unit) x used)) (lacks x lacking (module_of units x.symbol) refl b is))

-- a break is a number that reaches itself
pub round : (g : Graph) (links : List Link) → ((a : ℕ) → targets_of g a ≡ targets links a) → (b : Break) → CyclesIn g links b → (u : ℕ) × Leads g u u
round g links steps b (link, c, (t, target, way, is)) =
    let first : Contains (targets_of g link.home) t = contains_of (targets_of g link.home) t (subst (λ ts. Has ts t) (sym (steps link.home)) (link_targets links link t (has_of links link c) target)) in
    (link.home, elim way [ inl e ↦ Leads.at_once link.home link.home (subst (Contains (targets_of g link.home)) e first) | inr p ↦ Leads.through link.home t link.home first p ])

-- the rule at one USE
pub one_cycle : (g : Graph) (link : Link) (t : ℕ) (broken : Bool) (found : Option Break) → link.target ≡ Some t → IsTrue broken ↔ ((t ≡ link.home) ⊎ Leads g t link.home)
    → found ≡ first_of (if broken then at U3 link.name ∷ [] else []) → Least found (Cycles g link)
one_cycle g link t broken found target iff e = subst (λ f. Least f (Cycles g link)) (sym e) (by broken iff)
  where
    by : (b : Bool) → IsTrue b ↔ ((t ≡ link.home) ⊎ Leads g t link.home) → Least (first_of (if b then at U3 link.name ∷ [] else [])) (Cycles g link)
    by true i = least_one (at U3 link.name) (t, target, i.0 refl, refl) (λ b h. h.3)
    by false i = least_none (λ b h. true≢false (sym (i.1 (let same : t ≡ h.0 = (let p : Some t ≡ Some h.0 = sym target ∙ h.1 in cc) in elim h.2 [ inl q ↦ inl (same ∙ q) | inr r ↦ inr (subst (λ w. Leads g w link.home) (sym same) r) ]))))

pub no_target : (g : Graph) (link : Link) → link.target ≡ None → Least None (Cycles g link)
no_target g link e = least_none (λ b h. let p : None ≡ Some h.0 = sym e ∙ h.1 in let no : ⊥ = cc in no)

-- one USE more
pub cycles_more : (g : Graph) (links : List Link) (i : ℕ) (d : Link) (first found : Option Break) → i < length links → Least first (CyclesIn g (take i links)) → Least found (Cycles g (get_or links i d))
    → Least (earlier_of first found) (CyclesIn g (take (i + 1) links))
cycles_more g links i d first found lt a b = subst (λ l. Least (earlier_of first found) (CyclesIn g l)) (sym (take_more links i d lt)) (least_same (least_both a b) to from)
  where
    to : (c : Break) → CyclesIn g (take i links) c ⊎ Cycles g (get_or links i d) c → CyclesIn g (take i links ++ get_or links i d ∷ []) c
    to c (inl (link, on, y)) = (link, Contains-append_left (take i links) (get_or links i d ∷ []) link on, y)
    to c (inr y) = (get_or links i d, Contains-push (take i links) (get_or links i d), y)

    from : (c : Break) → CyclesIn g (take i links ++ get_or links i d ∷ []) c → CyclesIn g (take i links) c ⊎ Cycles g (get_or links i d) c
    from c (link, on, y) = elim (Contains-push_cases (take i links) (get_or links i d) link on) [
      | inl old ↦ inl (link, old, y)
      | inr same ↦ inr (subst (λ w. Cycles g w c) (sym same) y)
    ]

-- one USE more, at which a break comes too late
pub cycles_late : (g : Graph) (links : List Link) (i : ℕ) (d : Link) (first : Option Break) → i < length links → Least first (CyclesIn g (take i links)) → may_be_first (get_or links i d).name first ≡ false
    → Least first (CyclesIn g (take (i + 1) links))
cycles_late g links i d None lt a e = absurd (true≢false e)
cycles_late g links i d (Some f) lt a e = subst (λ l. Least (Some f) (CyclesIn g l)) (sym (take_more links i d lt)) (record {
  as_said = (
    (a.as_said.0.0, Contains-append_left (take i links) (get_or links i d ∷ []) a.as_said.0.0 a.as_said.0.1, a.as_said.0.2),
    λ b h. elim (Contains-push_cases (take i links) (get_or links i d) h.0 h.1) [
      | inl old ↦ a.as_said.1 b (h.0, old, h.2)
      | inr same ↦ ap (λ w. is_before w f) (h.2.3 ∙ ap (λ w. at U3 w.name) (sym same)) ∙ e
    ],
  );
})

-- all rules together
pub least_units : (program : Tree) (g : Graph) (links : List Link) (names lacking cycles mains : Option Break) → links ≡ links_of (nodes_of program) → IsGraph links (length (nodes_of program)) g
    → Least names (NameTwice (nodes_of program)) → lacking ≡ first_of (flat_map (λ l. missing l) links) → Least cycles (CyclesIn g links) → Least mains (λ b. NoMainProgram program b ⊎ MainProgramAgain (nodes_of program) b)
    → Least (earlier_of (earlier_of names (earlier_of lacking cycles)) mains) (UnitBreaks program)
least_units program g links names lacking cycles mains same graph n l c m =
    let us = nodes_of program in
    let steps : (a : ℕ) → targets_of g a ≡ targets (links_of us) a = λ a. graph.steps a ∙ ap (λ ls. targets ls a) same in
    let lack : Least lacking (ModuleMissing us) = subst (λ f. Least f (ModuleMissing us)) (sym (l ∙ ap (λ ls. first_of (flat_map missing ls)) same)) (least_missing us) in
    let round_about : Least cycles (ReachesItself us) = least_same (subst (λ ls. Least cycles (CyclesIn g ls)) same c) (cycle_is us g steps) (is_cycle us g steps) in
    least_same (least_both (least_both n (least_both lack round_about)) m) to from
  where
    to : (b : Break) → ((NameTwice (nodes_of program) b ⊎ (ModuleMissing (nodes_of program) b ⊎ ReachesItself (nodes_of program) b)) ⊎ (NoMainProgram program b ⊎ MainProgramAgain (nodes_of program) b)) → UnitBreaks program b
    to b (inl (inl h)) = UnitBreaks.name_twice h
    to b (inl (inr (inl h))) = UnitBreaks.module_missing h
    to b (inl (inr (inr h))) = UnitBreaks.reaches_itself h
    to b (inr (inl h)) = UnitBreaks.no_main_program h
    to b (inr (inr h)) = UnitBreaks.main_program_again h

    from : (b : Break) → UnitBreaks program b → ((NameTwice (nodes_of program) b ⊎ (ModuleMissing (nodes_of program) b ⊎ ReachesItself (nodes_of program) b)) ⊎ (NoMainProgram program b ⊎ MainProgramAgain (nodes_of program) b))
    from b (UnitBreaks.name_twice h) = inl (inl h)
    from b (UnitBreaks.module_missing h) = inl (inr (inl h))
    from b (UnitBreaks.reaches_itself h) = inl (inr (inr h))
    from b (UnitBreaks.no_main_program h) = inr (inl h)
    from b (UnitBreaks.main_program_again h) = inr (inr h)
