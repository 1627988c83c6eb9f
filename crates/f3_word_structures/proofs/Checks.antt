-- Components are looked at from the first on.
use Rattle.std.proofs.Common.{◌≡◌, ◌∙◌, ℕ, suc, ◌+◌, ◌<◌, ◌≤◌, Bool, true, false, List, [], ◌∷◌, length, refl, sym, ap, subst, arith}
use Rattle.std.specs.Prelude.{Option, None, Some, Ok, Err, nat_eq, nat_lt, if◌then◌else◌, slice_get, slice_index_or}
use Rattle.std.proofs.lemmas.Bool.{eqb-true, ltb-false, ltb-true}
use Rattle.std.proofs.lemmas.Option.{get_or_from_slice_get, slice_get-get_or, slice_get_within}
use Rattle.f3_program.specs.declared.declarations.Component.{Component}
use Rattle.f3_program.specs.declared.declarations.Kind.{Kind}
use Rattle.f3_program.specs.declared.program.Program.{Program}
use Rattle.f3_live_blocks.specs.Blocks.{Live}
use Rattle.f3_meaning_whole.specs.Act as m
use Rattle.f3_meaning_whole.specs.Act.{passed_at}
use Rattle.f3_meaning_whole.specs.Value.{Value}
use Rattle.f3_meaning_whole.specs.declared.run_error.RunError.{RunError}
use Rattle.f3_room_places.specs.declared.types.Types.{Types}
use Rattle.f3_word_cells.specs.declared.cell.Cell.{Cell}
use Rattle.f3_word_cells.specs.declared.cell.Cell.TheVariants as c
use Rattle.f3_word_cells.specs.declared.cell.Datum.{Datum}
use Rattle.f3_word_cells.specs.declared.cell.Passed.TheVariants as passed
use Rattle.f3_word_copies.specs.Fits.{CanFit}
use Rattle.f3_word_structures.specs.Fitting.{AreGiven, Tested, TestedAt, TestedFor}
use Rattle.f3_word_structures.specs.Members.{given_in}

module _ (p : Program) (types : Types) (live : Live) where
  -- a value in memory is the one that the machine over values finds
  pub record Finds (k : ℕ) (d : Datum) (ps : List m.Passed) : Type 0 where
    pub value : Value
    pub kind : Kind
    pub passed : passed_at k ps ≡ Some (m.Given k value)
    pub can : CanFit p types live kind d value

  abbrev Agree : ℕ → Option Datum → List m.Passed → Type 0
  Agree k None ps = passed_at k ps ≡ None
  Agree k (Some d) ps = Finds k d ps

  further : (k i : ℕ) (v : Value) (ps : List m.Passed) (o : Option Datum) → passed_at k (m.Given i v ∷ ps) ≡ passed_at k ps → Agree k o ps → Agree k o (m.Given i v ∷ ps)
  further k i v ps None there h = there ∙ h
  further k i v ps (Some x) there h = record { value = h.value; kind = h.kind; passed = there ∙ h.passed; can = h.can }

  found : (k : ℕ) (zs : List Cell) (ps : List m.Passed) → AreGiven p types live zs ps → Agree k (given_in k zs) ps
  found k [] [] are = refl
  found k [] (q ∷ ps) are = absurd are
  found k (c.Argument (passed.Given j d) ∷ zs) [] are = absurd are
  found k (c.Argument (passed.Given j d) ∷ zs) (m.Given i v ∷ ps) are = by (nat_eq j k) refl (found k zs ps are.2)
    where
      by : (b : Bool) → nat_eq j k ≡ b → Agree k (given_in k zs) ps → Agree k (given_in k (c.Argument (passed.Given j d) ∷ zs)) (m.Given i v ∷ ps)
      by true e rest =
          let here : given_in k (c.Argument (passed.Given j d) ∷ zs) ≡ Some d = ap (λ t. if t then Some d else given_in k zs) e in
          let same : nat_eq i k ≡ true = ap (λ n. nat_eq n k) are.0 ∙ e in
          let is : i ≡ k = are.0 ∙ eqb-true j k e in
          subst (λ o. Agree k o (m.Given i v ∷ ps)) (sym here) (record {
            value = v;
            kind = are.1.0;
            passed = ap (λ t. if t then Some (m.Given i v) else passed_at k ps) same ∙ ap (λ n. Some (m.Given n v)) is;
            can = are.1.1;
          })
      by false e rest =
          let here : given_in k (c.Argument (passed.Given j d) ∷ zs) ≡ given_in k zs = ap (λ t. if t then Some d else given_in k zs) e in
          let there : passed_at k (m.Given i v ∷ ps) ≡ passed_at k ps = ap (λ t. if t then Some (m.Given i v) else passed_at k ps) (ap (λ n. nat_eq n k) are.0 ∙ e) in
          subst (λ o. Agree k o (m.Given i v ∷ ps)) (sym here) (further k i v ps (given_in k zs) there rest)
  found k (c.Argument (passed.Given j d) ∷ zs) (m.Lent i r ∷ ps) are = absurd are
  found k (z ∷ zs) ps are = absurd are

  module _ (k : ℕ) (zs : List Cell) (ps : List m.Passed) (are : AreGiven p types live zs ps) where
    -- a component for which none is given takes what it has
    pub untold : given_in k zs ≡ None → (x : Component) → TestedFor x.declared (passed_at k ps) (Ok tt)
    untold none x = subst (λ a. TestedFor x.declared a (Ok tt)) (sym (subst (λ o. Agree k o ps) none (found k zs ps are))) tt

    module _ (d : Datum) (some : given_in k zs ≡ Some d) where
      pub value-found : Finds k d ps
      value-found = subst (λ o. Agree k o ps) some (found k zs ps are)

-- ---- one after another

module _ (cs : List Component) (ps : List m.Passed) (n : ℕ) where
  abbrev pub AllBefore : Type 0
  AllBefore = (k : ℕ) (x : Component) → k < n → slice_get cs k ≡ Some x → TestedFor x.declared (passed_at k ps) (Ok tt)

  pub one-more : AllBefore → ((x : Component) → slice_get cs n ≡ Some x → TestedFor x.declared (passed_at n ps) (Ok tt))
      → (k : ℕ) (x : Component) → k < n + 1 → slice_get cs k ≡ Some x → TestedFor x.declared (passed_at k ps) (Ok tt)
  one-more all one k x lt e = by (nat_lt k n) refl
    where
      by : (b : Bool) → nat_lt k n ≡ b → TestedFor x.declared (passed_at k ps) (Ok tt)
      by true less = all k x (ltb-true k n less) e
      by false more =
          let is : k ≡ n = (let h = ltb-false k n more in omega (arith, lt, h)) in
          subst (λ j. TestedFor x.declared (passed_at j ps) (Ok tt)) (sym is) (one x (ap (slice_get cs) (sym is) ∙ e))

  pub all-told : AllBefore → length cs ≤ n → (k : ℕ) (x : Component) → slice_get cs k ≡ Some x → TestedFor x.declared (passed_at k ps) (Ok tt)
  all-told all past k x e = let w = slice_get_within cs k x e in all k x (omega (arith, w, past)) e

  module _ (v : Value) (passed : passed_at n ps ≡ Some (m.Given n v)) (y : Component) where
    pub told : Tested (slice_index_or cs n y).declared v (Ok tt) → (x : Component) → slice_get cs n ≡ Some x → TestedFor x.declared (passed_at n ps) (Ok tt)
    told tested x e = subst (λ a. TestedFor x.declared a (Ok tt)) (sym passed) (subst (λ (z : Component). Tested z.declared v (Ok tt)) (get_or_from_slice_get cs n x y e) tested)

    pub told-not : (e : RunError) → Tested (slice_index_or cs n y).declared v (Err e) → n < length cs → AllBefore → TestedAt cs ps n e
    told-not e tested lt all = record {
      component = slice_index_or cs n y;
      there = slice_get-get_or cs n y lt;
      fails = subst (λ a. TestedFor (slice_index_or cs n y).declared a (Err e)) (sym passed) tested;
      before = all;
    }
