-- Array constructors have values as items, and structure constructors the values that they take.
use Rattle.std.proofs.Common.{◌≡◌, ℕ, ◌+◌, Bool, true, false, ◌&&◌, ◌||◌, not, List, [], ◌∷◌, Option, Some, None, refl, sym, ap, ◌∙◌, if◌then◌else◌, nat_eq}
use Rattle.std.specs.Prelude.{⊤, slice_get}
use Rattle.f3_tree.specs.Expressions as t
use Rattle.f3_program.specs.declared.declarations.Base.TheVariants as base_is
use Rattle.f3_program.specs.declared.declarations.Component as program
use Rattle.f3_program.specs.declared.declarations.Derived.{Derived}
use Rattle.f3_program.specs.declared.declarations.Kind.{Kind}
use Rattle.f3_program.specs.declared.program.Program.{Program}
use Rattle.f3_kinds.specs.declared.said.Has.{Has}
use Rattle.f3_kinds.specs.declared.said.Given as said
use Rattle.f3_kinds.specs.declared.said.Given.TheVariants.{Value, Triplet}
use Rattle.f3_kinds.specs.declared.things.Component.{Component}
use Rattle.f3_meaning_whole.specs.Formed.{Given, all, some, found, only, given_all, alike, takes, component_takes, fits_component, at_most_once, structured, of_kind}
use Rattle.f3_cell_kinds.specs.Types.{Scope}
use Rattle.f3_cell_kinds.specs.Effect.{are_values, is_whole_for, are_for}
use Rattle.f3_elaboration.specs.Nodes as n
use Rattle.f3_elaboration.specs.Nodes.{ExpressionNode, ArgumentNode, ArgumentNodes, DesignatorNode}
use Rattle.f3_elaboration.specs.Context.{Surroundings, base}
use Rattle.f3_elaboration.specs.Expressions as x
use Rattle.f3_elaboration.specs.Expressions.{expression, items, itself, is_whole_allocatable, stored, stored_for, number_for, given_value, components_for}
use Rattle.f3_lawful_laws.proofs.Facts.{no, nothing, same, both, left, right}
use Rattle.f3_formed_laws.specs.Nodes.{value_kind, argument, arguments}
use Rattle.f3_formed_laws.proofs.Facts.{only_some}
use Rattle.f3_formed_laws.proofs.Alike.{IsKind, IsOf, AreGiven}
use Rattle.f3_formed_laws.proofs.Holding.{itself_kind}

-- a list of options that are all there
cons_given : {A : Type 0} (o : Option A) (r : Option (List A)) (gs : List A) → found o (λ x. found r (λ xs. Some (x ∷ xs))) ≡ Some gs
    → (x : A) × (xs : List A) × (o ≡ Some x) × (r ≡ Some xs) × (gs ≡ x ∷ xs)
cons_given None r gs e = nothing e
cons_given (Some x) None gs e = nothing e
cons_given (Some x) (Some xs) gs e = (x, xs, refl, refl, sym (same e))

pub found_some : {A B : Type 0} (o : Option A) (f : A → Option B) (y : B) → found o f ≡ Some y → (x : A) × (o ≡ Some x) × (f x ≡ Some y)
found_some None f y e = nothing e
found_some (Some x) f y e = (x, refl, e)

-- of a variable a whole allocatable is given
abbrev pub is_whole : Given → Bool
is_whole g = not g.is_variable || g.kind.is_allocatable

abbrev is_value : Given → Bool
is_value g = not g.is_variable

module _ (p : Program) (c : Scope) where
  -- so is whatever is given by each argument
  abbrev AllSo : (Given → Bool) → ArgumentNodes → Type 0
  AllSo f n.no_arguments = ⊤
  AllSo f (n.arguments z zs) = ((g : Given) → argument p c.variables c.names z ≡ Some g → f g ≡ true) × AllSo f zs

  given_so : (f : Given → Bool) (zs : ArgumentNodes) → AllSo f zs → (gs : List Given) → given_all (arguments p c.variables c.names zs) ≡ Some gs → all f gs ≡ true
  given_so f n.no_arguments h gs e = ap (all f) (sym (same e))
  given_so f (n.arguments z zs) h gs e =
      let r = cons_given (argument p c.variables c.names z) (given_all (arguments p c.variables c.names zs)) gs e in
      ap (all f) r.4 ∙ both (f r.0) _ (h.0 r.0 r.2) (given_so f zs h.1 r.1 r.3)

  value_so : (k : ℕ) (e : ExpressionNode) (g : Given) → argument p c.variables c.names (n.value k e) ≡ Some g → is_value g ≡ true
  value_so k e g h =
      let r = found_some (value_kind p c.variables c.names e) (λ (j : Kind). Some (record { number = k; kind = j; is_variable = false })) g h in
      ap is_value (sym (same r.2))

  -- ---- array constructors

  items_so : (s : Surroundings) (es : t.Trees) → AllSo is_value (items s es)
  items_so s t.no_trees = tt
  items_so s (t.trees e es) = (value_so 0 (expression s e), items_so s es)

  pub items_are_values : (s : Surroundings) (es : t.Trees) (gs : List Given) → given_all (arguments p c.variables c.names (items s es)) ≡ Some gs → are_values gs ≡ true
  items_are_values s es gs e = given_so is_value (items s es) (items_so s es) gs e

  -- ---- structure constructors

  value_whole : (k : ℕ) (e : ExpressionNode) (g : Given) → argument p c.variables c.names (n.value k e) ≡ Some g → is_whole g ≡ true
  value_whole k e g h = ap (λ b. b || g.kind.is_allocatable) (value_so k e g h)

  module _ (s : Surroundings) where
    abbrev Is : ExpressionNode → Option Has → Type 0
    Is e o = IsOf p c.variables c.names s e o

    stored_whole : (b : Bool) (k : ℕ) (e : ExpressionNode) (o : Option Has) → Is e o → (g : Given) → argument p c.variables c.names (stored b k e) ≡ Some g
        → is_whole g ≡ true
    stored_whole b k e None h g a = absurd h
    stored_whole b k e (Some y) h g a = go e h a
      where
        by_test : (d : DesignatorNode) → IsKind p c.variables c.names s (n.variable d) y → (w : Bool) → (b && is_whole_allocatable d) ≡ w
            → argument p c.variables c.names (if w then n.object k (itself d) else n.value k (n.variable d)) ≡ Some g → is_whole g ≡ true
        by_test d h false e a = value_whole k (n.variable d) g a
        by_test d h true e a =
            ap is_whole
            (same (sym a ∙ ap (λ o. found o (λ (j : Kind). Some (record { number = k; kind = j; is_variable = true })))
            (itself_kind p c.variables c.names d (base s y.data_type) y.rank true (h.is_as).0 (sym (right b _ e)))))

        go : (e : ExpressionNode) → IsKind p c.variables c.names s e y → argument p c.variables c.names (stored b k e) ≡ Some g → is_whole g ≡ true
        go (n.variable d) h a = by_test d h (b && is_whole_allocatable d) refl a
        go e h a = value_whole k e g a

    components_so : (ks : List (ℕ × Component)) (j : ℕ) (gs : List x.Given) (ys : List said.Given) → AreGiven p c.variables c.names s gs ys
        → AllSo is_whole (components_for ks j gs)
    components_so ks j [] ys h = tt
    components_so ks j (g ∷ gs) [] h = absurd h
    components_so ks j (x.value l e ∷ gs) (Value m z ∷ ys) h =
        (stored_whole _ (number_for ks j (x.value l e)) e z.has h.0.1, components_so ks (j + 1) gs ys h.1)
    components_so ks j (x.value l e ∷ gs) (Triplet q a b d ∷ ys) h = absurd h.0
    components_so ks j (x.triplet a b d ∷ gs) (Value m z ∷ ys) h = absurd h.0
    components_so ks j (x.triplet a b d ∷ gs) (Triplet q e f z ∷ ys) h =
        (value_whole (number_for ks j (x.triplet a b d)) x.no_value, components_so ks (j + 1) gs ys h.1)

    held_taken : (k : Kind) (g : Given) → component_takes k g ≡ true → g.kind.is_allocatable ≡ true → k.is_allocatable ≡ true
    held_taken k g t h = go k.is_allocatable refl t
      where
        go : (b : Bool) → k.is_allocatable ≡ b
            → (if b then alike k.of g.kind.of && nat_eq k.rank g.kind.rank && (not g.kind.is_allocatable || g.is_variable) else takes k g.kind) ≡ true → k.is_allocatable ≡ true
        go true e t = e
        go false e t =
            no (sym (left (not g.kind.is_allocatable) _ (right (alike k.of g.kind.of) _ t)) ∙ ap not h)

    one_whole : (cs : List program.Component) (g : Given) → fits_component cs g ≡ true → is_whole g ≡ true → is_whole_for cs g ≡ true
    one_whole cs g f w = go g.is_variable w
      where
        at : (o : Option program.Component) → some o (λ (c : program.Component). component_takes c.declared.kind g) ≡ true → g.kind.is_allocatable ≡ true
            → some o (λ (c : program.Component). c.declared.kind.is_allocatable) ≡ true
        at None t h = no (sym t)
        at (Some z) t h = held_taken z.declared.kind g t h

        go : (b : Bool) → (not b || g.kind.is_allocatable) ≡ true
            → (not b || (g.kind.is_allocatable && some (slice_get cs g.number) (λ (c : program.Component). c.declared.kind.is_allocatable))) ≡ true
        go false w = refl
        go true w = both g.kind.is_allocatable _ w (at (slice_get cs g.number) f w)

    all_whole : (cs : List program.Component) (hs gs : List Given) → all (λ g. fits_component cs g && at_most_once hs g) gs ≡ true → all is_whole gs ≡ true
        → all (is_whole_for cs) gs ≡ true
    all_whole cs hs [] f w = refl
    all_whole cs hs (g ∷ gs) f w =
        both (is_whole_for cs g) _ (one_whole cs g (left (fits_component cs g) _ (left (fits_component cs g && at_most_once hs g) _ f)) (left (is_whole g) _ w))
        (all_whole cs hs gs (right (fits_component cs g && at_most_once hs g) _ f) (right (is_whole g) _ w))

    pub structure_for : (of : ℕ) (ks : List (ℕ × Component)) (gs : List x.Given) (ys : List said.Given) → AreGiven p c.variables c.names s gs ys → (k : Kind)
        → value_kind p c.variables c.names (n.structure of (components_for ks 0 gs)) ≡ Some k
        → some (given_all (arguments p c.variables c.names (components_for ks 0 gs))) (are_for p.types.items of) ≡ true
    structure_for of ks gs ys h k e =
        let r = found_some (given_all (arguments p c.variables c.names (components_for ks 0 gs))) (structured p c.variables c.names of) k e in
        ap (λ o. some o (are_for p.types.items of)) r.1
        ∙ go (slice_get p.types.items of) r.0 r.2 (given_so is_whole (components_for ks 0 gs) (components_so ks 0 gs ys h) r.0 r.1)
      where
        go : (o : Option Derived) (zs : List Given)
            → found o (λ (y : Derived). only (all (λ g. fits_component y.components.items g && at_most_once zs g) zs) (of_kind (base_is.Derived of) 0)) ≡ Some k
            → all is_whole zs ≡ true → some o (λ (y : Derived). all (is_whole_for y.components.items) zs) ≡ true
        go None zs e w = nothing e
        go (Some y) zs e w =
            all_whole y.components.items zs zs
            (only_some (all (λ g. fits_component y.components.items g && at_most_once zs g) zs) (of_kind (base_is.Derived of) 0) k e).0 w
