-- ASSOCIATE constructs: their numbers, and what their names are (ISO/IEC 1539-1:2004, 8.1.4).
use Rattle.std.specs.Prelude.{ℕ, false, true, nat_eq, List, [], ◌∷◌, ◌++◌, None, Some, map}
use Rattle.std.specs.List.{flat_map}
use Rattle.std.specs.Map.{lookup}
use Rattle.f3_lookups.specs.declared.lookup.Lookup.{Lookup}
use Rattle.f3_lookups.specs.declared.lookup.Lookup.TheVariants.{One}
use Rattle.f3_tree.specs.Statements.{AssociationTree, StatementTree, acts, acts_if, branches, selects, repeats, associates}
use Rattle.f3_tree.specs.Statements.{Block, no_statements, statements, Branches, no_branches, branch}
use Rattle.f3_tree.specs.Statements.{Alternative, no_alternative, alternative, Cases, no_cases, case_block}
use Rattle.f3_kinds.specs.declared.said.Form.{Form}
use Rattle.f3_kinds.specs.declared.said.Form.TheVariants.{Computed, Constant, Variable}
use Rattle.f3_kinds.specs.declared.said.Has.{Has}
use Rattle.f3_kinds.specs.declared.said.Said.{Said}
use Rattle.f3_kinds.specs.Things.{map_or, Nature, variable, Context}
use Rattle.f3_kinds.specs.Operands.{type_in}
use Rattle.f3_kinds.specs.Typing.{said}
use Rattle.f3_type_rules.specs.Definitions.{Chain, Site}

-- The constructs of a statement or a block, each by its associations, in the order of their numbers: that of their places, a
-- construct before those within it.
abbrev mutual
  pub constructs_of : StatementTree → List (List AssociationTree)
  constructs_of (acts p a) = []
  constructs_of (acts_if p e q a) = []
  constructs_of (branches bs other) = constructs_of_branches bs ++ constructs_of_other other
  constructs_of (selects p e cs) = constructs_of_cases cs
  constructs_of (repeats p control body) = constructs_of_block body
  constructs_of (associates p xs body) = xs ∷ constructs_of_block body

  pub constructs_of_block : Block → List (List AssociationTree)
  constructs_of_block no_statements = []
  constructs_of_block (statements s b) = constructs_of s ++ constructs_of_block b

  pub constructs_of_branches : Branches → List (List AssociationTree)
  constructs_of_branches no_branches = []
  constructs_of_branches (branch p e b bs) = constructs_of_block b ++ constructs_of_branches bs

  pub constructs_of_other : Alternative → List (List AssociationTree)
  constructs_of_other no_alternative = []
  constructs_of_other (alternative b) = constructs_of_block b

  pub constructs_of_cases : Cases → List (List AssociationTree)
  constructs_of_cases no_cases = []
  constructs_of_cases (case_block p vs b cs) = constructs_of_block b ++ constructs_of_cases cs

-- ---- what the associate names of a construct are in its block

abbrev pub entities_at : Lookup → List ℕ
entities_at (One e) = e ∷ []
entities_at _ = []

-- The entity of an associate name, which the construct of this number declares, with what is said of its selector, which is resolved
-- outside.
abbrev pub associated : Context → (number : ℕ) → AssociationTree → List (ℕ × Said)
associated c number x = map (λ (e : ℕ). (e, said c x.selector)) (entities_at (c.look number (x.name).symbol))

-- a variable of the type and the rank of its selector, which is never allocatable
abbrev pub associate_nature : Said → Nature
associate_nature s = variable record { data_type = type_in s.has; rank = map_or 0 (λ (h : Has). h.rank) s.has; is_allocatable = false }

abbrev pub plain_chain : ℕ → Chain
plain_chain e = record { links = e ∷ []; ends = true }

-- the chain of an associate name, by what its selector is
abbrev pub selected_chain : (ℕ → Chain) → ℕ → Form → Chain
selected_chain chain e Computed = record { links = e ∷ []; ends = false }
selected_chain chain e Constant = record { links = e ∷ []; ends = false }
selected_chain chain e (Variable d) = record { links = e ∷ (chain d).links; ends = (chain d).ends }

abbrev pub associate_chain : (ℕ → Chain) → ℕ → Said → Chain
associate_chain chain e s = map_or (plain_chain e) (λ (h : Has). selected_chain chain e h.form) s.has

abbrev pub context_inside : (number : ℕ) → List (ℕ × Said) → Context → Context
context_inside number names c = record c { scope = number; nature = λ e. map_or (c.nature e) (λ s. Some (associate_nature s)) (lookup (nat_eq e) names) }

-- Inside the construct of this number: of an associate name itself nothing is asked but that it is no active DO variable.
abbrev pub site_inside : (number : ℕ) → List AssociationTree → Site → Site
site_inside number xs site =
    let names : List (ℕ × Said) = flat_map (associated site.context number) xs in
    record site {
      context = context_inside number names site.context;
      holder = λ e. map_or (site.holder e) (λ s. None) (lookup (nat_eq e) names);
      chain = λ e. map_or (site.chain e) (associate_chain site.chain e) (lookup (nat_eq e) names);
    }
