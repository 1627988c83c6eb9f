-- A USE whose target stands on a higher level closes no cycle.
use Rattle.std.proofs.Common.{◌≡◌, ℕ, ◌+◌, ◌<◌, ◌≤◌, List, length, get_or, take, refl, sym, ap, subst, ◌∙◌, arith, inl, inr, Bool, true, false, ◌&&◌, Option, None}
use Rattle.std.proofs.lemmas.Bool.{true≢false, le-leb}
use Rattle.f3_rules.specs.declared.breaks.Break.{Break}
use Rattle.f3_rules.specs.Least.{Least}
use Rattle.f3_rules.proofs.Firsts.{least_none, earlier_none}
use Rattle.f3_nodes.specs.Nodes.{Graph}
use Rattle.f3_nodes.specs.Levels.{level, AreLevels}
use Rattle.f3_graph.specs.declared.links.Link.{Link}
use Rattle.f3_graph.specs.Inner.Links.{Cycles, CyclesIn, may_return, returns_to, may_be_first}
use Rattle.f3_graph.proofs.Cycling.{cycles_more, cycles_late}

module _ (g : Graph) (links : List Link) (levels : List ℕ) (are : AreLevels g levels) where
  returns : (link : Link) (b : Break) → Cycles g link b → may_return levels link ≡ true
  returns link b (t, target, way, is) =
      let down : level levels t ≤ level levels link.home = elim way [ inl e ↦ (let same : level levels t ≡ level levels link.home = ap (level levels) e in omega (arith, same)) | inr r ↦ are t link.home r ] in
      ap (λ o. returns_to levels o link.home) target ∙ le-leb (level levels t) (level levels link.home) down

  -- one USE more that need not be searched
  pub cycles_skipped : (i : ℕ) (d : Link) (first : Option Break) → i < length links → Least first (CyclesIn g (take i links)) → (may_return levels (get_or links i d) && may_be_first (get_or links i d).name first) ≡ false
      → Least first (CyclesIn g (take (i + 1) links))
  cycles_skipped i d first lt least e = by (may_return levels (get_or links i d)) refl e
    where
      by : (t : Bool) → may_return levels (get_or links i d) ≡ t → (t && may_be_first (get_or links i d).name first) ≡ false → Least first (CyclesIn g (take (i + 1) links))
      by true r late = cycles_late g links i d first lt least late
      by false r late = subst (λ f. Least f (CyclesIn g (take (i + 1) links))) (earlier_none first)
          (cycles_more g links i d first None lt least (least_none (λ b h. true≢false (sym (returns (get_or links i d) b h) ∙ r))))
