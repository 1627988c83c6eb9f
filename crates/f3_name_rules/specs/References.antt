-- What breaks the rules on names where a name is referred to. Phases differ in what they take for a reference.
use Rattle.std.specs.Prelude.{◌≡◌, ◌≢◌, ℕ, false, List, []}
use Rattle.std.specs.List.{slice_index_or}
use Rattle.f3_rules.specs.declared.breaks.Break.{Break}
use Rattle.f3_rules.specs.declared.rule.Rule.TheVariants.{N10, N11}
use Rattle.f3_tree.specs.declared.expression.Name.{Name}
use Rattle.f3_scopes.specs.Outlines.{Scope}
use Rattle.f3_access.specs.Access.{IsVisible}
use Rattle.f3_breaks.specs.At.{at}
use Rattle.f3_name_rules.specs.Intrinsics.{is_intrinsic}

-- the text of a name by its number, where these are the texts of all; nothing where there is none
abbrev pub text_of : List (List ℕ) → ℕ → List ℕ
text_of texts symbol = slice_index_or texts symbol []

-- nothing is visible in the scope of this number under the name
abbrev pub IsNowhere : List Scope → ℕ → Name → Type 0
IsNowhere scopes number name = (entity : ℕ) → IsVisible scopes number name.symbol entity → ⊥

module _ (phase : ℕ) (scopes : List Scope) (RefersTo : ℕ → Name → Type 0) where
  -- N10: a reference to a name that no entity and no intrinsic procedure has; the name (5.3: there is no implicit typing)
  abbrev pub NotAccessible : List (List ℕ) → Break → Type 0
  NotAccessible texts b = (number : ℕ) × (name : Name) × RefersTo number name × IsNowhere scopes number name
      × (is_intrinsic (text_of texts name.symbol) ≡ false) × (b ≡ at phase N10 name)

  -- N11: a reference to a name that several entities have; the name (11.2.1)
  abbrev pub OfSeveral : Break → Type 0
  OfSeveral b = (number : ℕ) × (name : Name) × RefersTo number name
      × (d : ℕ) × (e : ℕ) × IsVisible scopes number name.symbol d × IsVisible scopes number name.symbol e × (d ≢ e) × (b ≡ at phase N11 name)
