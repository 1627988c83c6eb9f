-- What breaks no rule breaks none where variables of other scopes count as protected.
use Rattle.std.proofs.Common.{◌≡◌, ℕ, ◌+◌, Bool, true, false, ◌&&◌, ◌||◌, not, List, [], ◌∷◌, ◌++◌, Option, Some, None, refl, ap, ◌∙◌, if◌then◌else◌}
use Rattle.std.specs.Prelude.{◌==◌, length, nat_eq}
use Rattle.std.specs.Map.{lookup}
use Rattle.std.specs.List.{flat_map}
use Rattle.std.specs.Option.{option_map}
use Rattle.f3_rules.specs.declared.breaks.Break.{Break}
use Rattle.f3_places.specs.declared.source.Place.{Place}
use Rattle.f3_tree.specs.Statements as a
use Rattle.f3_kinds.specs.declared.said.Form.{Form}
use Rattle.f3_kinds.specs.declared.said.Form.TheVariants.{Computed, Constant, Variable}
use Rattle.f3_kinds.specs.declared.said.Has.{Has}
use Rattle.f3_kinds.specs.declared.said.Said.{Said}
use Rattle.f3_kinds.specs.Things.{map_or}
use Rattle.f3_type_rules.specs.declared.definition.Holder.{Holder}
use Rattle.f3_type_rules.specs.Associates.{associated, site_inside, constructs_of, constructs_of_branches, constructs_of_block}
use Rattle.f3_type_rules.specs.Bodies.{act_rows, control_rows, selector_rows, statement_breaks, block_breaks, branch_breaks, other_breaks, case_breaks}
use Rattle.f3_type_rules.specs.Cases.{select_breaks}
use Rattle.f3_type_rules.specs.Definitions.{Site, protected_rows, intent_rows, active_rows, holder_rows, link_rows, form_rows, definition_rows, defined, do_variables, in_loop}
use Rattle.f3_type_rules.specs.Statements.{act_breaks, condition_breaks, control_breaks}
use Rattle.f3_lawful_laws.proofs.Facts.{first, second, holds}
use Rattle.f3_purity_laws.specs.Guarded.{barred, guard, asking, Guards, GuardedBlocks}

join : (xs ys : List Break) → xs ≡ [] → ys ≡ [] → xs ++ ys ≡ []
join xs ys e f = ap (λ z. z ++ ys) e ∙ f

unguarded : (p s : Bool) (x h : Holder) → (not p || s) ≡ true → (if p && not s then x else h) ≡ h
unguarded false s x h e = refl
unguarded true true x h e = refl
unguarded true false x h e = cc

guard_same : (site : Site) (x : Said) (h : Holder) → holder_rows site x h ≡ [] → guard site h ≡ h
guard_same site x h e =
    unguarded site.is_pure (h.scope == site.body) (barred (site.context).unit h) h (holds _ _ (second (intent_rows x h) _ (second (protected_rows site x h) _ e)))

holder_free : (site : Site) (x : Said) (o : Option Holder) → map_or [] (holder_rows site x) o ≡ [] → map_or [] (holder_rows site x) (option_map (guard site) o) ≡ []
holder_free site x None e = e
holder_free site x (Some h) e = ap (holder_rows site x) (guard_same site x h e) ∙ e

module _ (site : Site) (holder : ℕ → Option Holder) (g : Guards holder site) where
  link_free : (x : Said) (l : ℕ) → link_rows site x l ≡ [] → link_rows (asking holder site) x l ≡ []
  link_free x l e =
      join (active_rows site x l) _ (first (active_rows site x l) _ e)
      (ap (map_or [] (holder_rows site x)) (g l) ∙ holder_free site x (site.holder l) (second (active_rows site x l) _ e))

  links_free : (x : Said) (ls : List ℕ) → flat_map (link_rows site x) ls ≡ [] → flat_map (link_rows (asking holder site) x) ls ≡ []
  links_free x [] e = refl
  links_free x (l ∷ ls) e = join (link_rows (asking holder site) x l) _ (link_free x l (first (link_rows site x l) _ e)) (links_free x ls (second (link_rows site x l) _ e))

  form_free : (x : Said) (f : Form) → form_rows site x f ≡ [] → form_rows (asking holder site) x f ≡ []
  form_free x (Variable d) e = join _ _ (first _ _ e) (links_free x (site.chain d).links (second _ _ e))
  form_free x Computed e = e
  form_free x Constant e = e

  has_free : (x : Said) (o : Option Has) → map_or [] (λ (h : Has). form_rows site x h.form) o ≡ [] → map_or [] (λ (h : Has). form_rows (asking holder site) x h.form) o ≡ []
  has_free x None e = refl
  has_free x (Some h) e = form_free x h.form e

  all_free : (xs : List Said) → flat_map (definition_rows site) xs ≡ [] → flat_map (definition_rows (asking holder site)) xs ≡ []
  all_free [] e = refl
  all_free (x ∷ xs) e = join (definition_rows (asking holder site) x) _ (has_free x x.has (first _ _ e)) (all_free xs (second (definition_rows site x) _ e))

  act_free : (place : Place) (act : a.Act) → act_rows site place act ≡ [] → act_rows (asking holder site) place act ≡ []
  act_free place act e =
      let k = second (act_breaks site.context act) _ e in
      join (act_breaks site.context act) _ (first _ _ e)
      (join _ _ (all_free (defined site.context act) (first _ _ k)) (second (flat_map (definition_rows site) (defined site.context act)) _ k))

  control_free : (control : a.Controls) → control_rows site control ≡ [] → control_rows (asking holder site) control ≡ []
  control_free control e = join (control_breaks site.context control) _ (first _ _ e) (all_free (do_variables site.context control) (second (control_breaks site.context control) _ e))

  -- in a construct
  guards_inside : (next : ℕ) (xs : List a.AssociationTree) → Guards (site_inside next xs (asking holder site)).holder (site_inside next xs site)
  guards_inside next xs e = by (lookup (nat_eq e) (flat_map (associated site.context next) xs))
    where
      by : (o : Option Said) → map_or (holder e) (λ s. None) o ≡ option_map (guard site) (map_or (site.holder e) (λ s. None) o)
      by None = g e
      by (Some s) = refl

mutual
  statement_free : (y : a.StatementTree) (site : Site) (holder : ℕ → Option Holder) → Guards holder site → (next : ℕ) → statement_breaks site next y ≡ [] → statement_breaks (asking holder site) next y ≡ []
  statement_free (a.acts q act) site holder g next h = act_free site holder g q act h
  statement_free (a.acts_if q e r act) site holder g next h = join (condition_breaks site.context e) _ (first _ _ h) (act_free site holder g r act (second (condition_breaks site.context e) _ h))
  statement_free (a.branches bs other) site holder g next h =
      join _ _ (branches_free bs site holder g next (first _ _ h)) (other_free other site holder g (next + length (constructs_of_branches bs)) (second (branch_breaks site next bs) _ h))
  statement_free (a.selects q e cs) site holder g next h =
      join (select_breaks site.context e cs) _ (first _ _ h) (cases_free cs site holder g next (second (select_breaks site.context e cs) _ h))
  statement_free (a.repeats q control body) site holder g next h =
      join _ _ (control_free site holder g control (first _ _ h)) (block_free body (in_loop site control) holder g next (second (control_rows site control) _ h))
  statement_free (a.associates q xs body) site holder g next h =
      join (selector_rows site xs) _ (first _ _ h)
      (block_free body (site_inside next xs site) (site_inside next xs (asking holder site)).holder (guards_inside site holder g next xs) (next + 1) (second (selector_rows site xs) _ h))

  block_free : (b : a.Block) (site : Site) (holder : ℕ → Option Holder) → Guards holder site → (next : ℕ) → block_breaks site next b ≡ [] → block_breaks (asking holder site) next b ≡ []
  block_free a.no_statements site holder g next h = refl
  block_free (a.statements y b) site holder g next h =
      join _ _ (statement_free y site holder g next (first _ _ h)) (block_free b site holder g (next + length (constructs_of y)) (second (statement_breaks site next y) _ h))

  branches_free : (bs : a.Branches) (site : Site) (holder : ℕ → Option Holder) → Guards holder site → (next : ℕ) → branch_breaks site next bs ≡ [] → branch_breaks (asking holder site) next bs ≡ []
  branches_free a.no_branches site holder g next h = refl
  branches_free (a.branch q e b bs) site holder g next h =
      let k = second (condition_breaks site.context e) _ h in
      join (condition_breaks site.context e) _ (first _ _ h)
      (join _ _ (block_free b site holder g next (first _ _ k)) (branches_free bs site holder g (next + length (constructs_of_block b)) (second (block_breaks site next b) _ k)))

  other_free : (other : a.Alternative) (site : Site) (holder : ℕ → Option Holder) → Guards holder site → (next : ℕ) → other_breaks site next other ≡ [] → other_breaks (asking holder site) next other ≡ []
  other_free a.no_alternative site holder g next h = refl
  other_free (a.alternative b) site holder g next h = block_free b site holder g next h

  cases_free : (cs : a.Cases) (site : Site) (holder : ℕ → Option Holder) → Guards holder site → (next : ℕ) → case_breaks site next cs ≡ [] → case_breaks (asking holder site) next cs ≡ []
  cases_free a.no_cases site holder g next h = refl
  cases_free (a.case_block q vs b cs) site holder g next h =
      join _ _ (block_free b site holder g next (first _ _ h)) (cases_free cs site holder g (next + length (constructs_of_block b)) (second (block_breaks site next b) _ h))

pub guarded_blocks : GuardedBlocks
guarded_blocks site holder g next b h = block_free b site holder g next h
