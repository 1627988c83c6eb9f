-- Components of types and dummies of procedures, in the rules and in the program.
use Rattle.std.proofs.Common.{◌≡◌, ℕ, zero, suc, Bool, true, false, cond, List, [], ◌∷◌, map, length, nat_eq, Some, option_map, refl, sym, ap, ◌∙◌}
use Rattle.std.specs.Prelude.{slice_get}
use Rattle.f3_program.specs.declared.declarations.Component as program
use Rattle.f3_program.specs.declared.program.Dummy as program_dummy
use Rattle.f3_kinds.specs.declared.things.Component.{Component}
use Rattle.f3_kinds.specs.declared.things.Dummy.{Dummy}
use Rattle.f3_kinds.specs.Things.{component_of, place_of}
use Rattle.f3_meaning_whole.specs.Formed.{kinds_of}
use Rattle.f3_elaboration.specs.Context.{Surroundings}
use Rattle.f3_lawful_laws.proofs.Facts.{no, nothing, same}
use Rattle.f3_lawful_laws.proofs.Positions.{position_cons}
use Rattle.f3_formed_laws.specs.Agreement.{kind_of, AreComponents}

-- the component of a name
pub record Standing (s : Surroundings) (xs : List program.Component) (ks : List (ℕ × Component)) (symbol : ℕ) (k : Component) : Type 0 where
  pub number : ℕ
  pub place : place_of ks symbol ≡ Some number
  pub component : program.Component
  pub there : slice_get xs number ≡ Some component
  pub kind : (component.declared).kind ≡ kind_of s k.object

standing_behind : (s : Surroundings) (x : program.Component) (xs : List program.Component) (y : ℕ × Component) (ks : List (ℕ × Component)) (symbol : ℕ) (k : Component)
    → nat_eq symbol y.0 ≡ false → Standing s xs ks symbol k → Standing s (x ∷ xs) (y ∷ ks) symbol k
standing_behind s x xs y ks symbol k b h = record {
  number = suc h.number;
  place =
      position_cons (nat_eq symbol) y.0 (map (λ x. x.0) ks) ∙ ap (λ b. cond b (Some 0) (option_map suc (place_of ks symbol))) b ∙ ap (option_map suc) h.place;
  component = h.component;
  there = h.there;
  kind = h.kind;
}

pub standing : (s : Surroundings) (xs : List program.Component) (ks : List (ℕ × Component)) (symbol : ℕ) (k : Component)
    → AreComponents s xs ks → component_of ks symbol ≡ Some k → Standing s xs ks symbol k
standing s [] [] symbol k h e = nothing e
standing s [] (y ∷ ks) symbol k h e = absurd h
standing s (x ∷ xs) [] symbol k h e = absurd h
standing s (x ∷ xs) (y ∷ ks) symbol k h e = here (nat_eq symbol y.0) refl e (λ f. standing s xs ks symbol k h.1 f)
  where
    here : (b : Bool) → nat_eq symbol y.0 ≡ b → cond b (Some y.1) (component_of ks symbol) ≡ Some k
        → (component_of ks symbol ≡ Some k → Standing s xs ks symbol k) → Standing s (x ∷ xs) (y ∷ ks) symbol k
    here true b e go = record {
      number = 0;
      place = position_cons (nat_eq symbol) y.0 (map (λ x. x.0) ks) ∙ ap (λ b. cond b (Some 0) (option_map suc (place_of ks symbol))) b;
      component = x;
      there = refl;
      kind = h.0 ∙ ap (λ (c : Component). kind_of s c.object) (same e);
    }
    here false b e go = standing_behind s x xs y ks symbol k b (go e)

-- the component at a place
pub record At (s : Surroundings) (xs : List program.Component) (place : ℕ) (k : Component) : Type 0 where
  pub component : program.Component
  pub there : slice_get xs place ≡ Some component
  pub kind : (component.declared).kind ≡ kind_of s k.object

pub component_at : (s : Surroundings) (xs : List program.Component) (ks : List (ℕ × Component)) (place : ℕ) (k : ℕ × Component)
    → AreComponents s xs ks → slice_get ks place ≡ Some k → At s xs place k.1
component_at s [] [] place k h e = nothing e
component_at s [] (y ∷ ks) place k h e = absurd h
component_at s (x ∷ xs) [] place k h e = absurd h
component_at s (x ∷ xs) (y ∷ ks) zero k h e = record {
  component = x;
  there = refl;
  kind = h.0 ∙ ap (λ (c : ℕ × Component). kind_of s (c.1).object) (same e);
}
component_at s (x ∷ xs) (y ∷ ks) (suc place) k h e =
    let rest : At s xs place k.1 = component_at s xs ks place k h.1 e in
    record { component = rest.component; there = rest.there; kind = rest.kind }

-- the dummy at a place
pub record DummyAt (s : Surroundings) (xs : List program_dummy.Dummy) (place : ℕ) (d : Dummy) : Type 0 where
  pub dummy : program_dummy.Dummy
  pub there : slice_get xs place ≡ Some dummy
  pub kind : dummy.kind ≡ kind_of s d.object

abbrev head_or : {A : Type 0} → A → List A → A
head_or x [] = x
head_or x (y ∷ ys) = y

abbrev tail_of : {A : Type 0} → List A → List A
tail_of [] = []
tail_of (y ∷ ys) = ys

abbrev is_some_in : {A : Type 0} → List A → Bool
is_some_in [] = false
is_some_in (y ∷ ys) = true

pub dummy_at : (s : Surroundings) (xs : List program_dummy.Dummy) (ds : List (ℕ × Dummy)) (place : ℕ) (d : ℕ × Dummy)
    → kinds_of xs ≡ map (λ (d : ℕ × Dummy). kind_of s (d.1).object) ds → slice_get ds place ≡ Some d → DummyAt s xs place d.1
dummy_at s xs [] place d h e = nothing e
dummy_at s [] (y ∷ ds) place d h e = no (ap is_some_in (sym h))
dummy_at s (x ∷ xs) (y ∷ ds) zero d h e = record {
  dummy = x;
  there = refl;
  kind = ap (head_or x.kind) h ∙ ap (λ (c : ℕ × Dummy). kind_of s (c.1).object) (same e);
}
dummy_at s (x ∷ xs) (y ∷ ds) (suc place) d h e =
    let rest : DummyAt s xs place d.1 = dummy_at s xs ds place d (ap tail_of h) e in
    record { dummy = rest.dummy; there = rest.there; kind = rest.kind }

pub as_long : {A B C : Type 0} (f : A → C) (g : B → C) (xs : List A) (ys : List B) → map f xs ≡ map g ys → length xs ≡ length ys
as_long f g [] [] h = refl
as_long f g [] (y ∷ ys) h = no (ap is_some_in (sym h))
as_long f g (x ∷ xs) [] h = no (ap is_some_in h)
as_long f g (x ∷ xs) (y ∷ ys) h = ap suc (as_long f g xs ys (ap tail_of h))
