-- An ASSOCIATE construct is a scope that declares its associate names, each once, inside the scope that it stands in.
use Rattle.std.proofs.Common.{◌≡◌, ℕ, zero, suc, ◌+◌, ◌<◌, Bool, true, false, cond, List, [], ◌∷◌, ◌++◌, length, take, map, position, nat_eq, Option, None, Some, option_map, Contains, refl, sym, ap, ◌∙◌, arith}
use Rattle.std.specs.Prelude.{slice_get}
use Rattle.std.proofs.lemmas.List.{length-append}
use mathlib.Core.Path.{subst}
use Rattle.f3_lookups.specs.declared.lookup.Lookup.{Lookup}
use Rattle.f3_lookups.specs.declared.lookup.Lookup.TheVariants.{One, Nothing, Several}
use Rattle.f3_access.specs.Access.{entities_of, first_entity, IsDeclared, IsCalled, alone, renamed, kept, Brings, IsOwn, IsVisible}
use Rattle.f3_access.specs.Hosts.{host_in, host_of}
use Rattle.f3_access.specs.Lookups.{ResolvesAs, Resolves}
use Rattle.f3_scopes.specs.Outlines.{Own, Scope}
use Rattle.f3_scopes.specs.Scopes.{association_own, scope_of_construct}
use Rattle.f3_tree.specs.declared.expression.Name.{Name}
use Rattle.f3_tree.specs.Statements.{AssociationTree}
use Rattle.f3_meaning_whole.specs.Permitted.{Each}
use Rattle.f3_type_rules.specs.Scene.{holder, holders_from}
use Rattle.f3_elaboration.specs.Numbers.{entity_of}
use Rattle.f3_lawful_laws.specs.Blocks.{entity_in, IsDeclaredIn, IsFree, Opens, AreOnce}
use Rattle.f3_lawful_laws.proofs.Facts.{no, nothing, same}
use Rattle.f3_lawful_laws.proofs.Positions.{eq_self, position_cons}

-- ---- lists

pub mapped_at : {A B : Type 0} (f : A → B) (xs : List A) (k : ℕ) (x : A) → slice_get xs k ≡ Some x → slice_get (map f xs) k ≡ Some (f x)
mapped_at f [] k x e = nothing e
mapped_at f (y ∷ ys) zero x e = ap (λ z. Some (f z)) (same e)
mapped_at f (y ∷ ys) (suc k) x e = mapped_at f ys k x e

pub from_mapped : {A B : Type 0} (f : A → B) (xs : List A) (k : ℕ) (y : B) → slice_get (map f xs) k ≡ Some y → (x : A) × (slice_get xs k ≡ Some x) × (f x ≡ y)
from_mapped f [] k y e = nothing e
from_mapped f (x ∷ xs) zero y e = (x, refl, same e)
from_mapped f (x ∷ xs) (suc k) y e = from_mapped f xs k y e

never_none : (b : Bool) (o : Option ℕ) → b ≡ true → cond b (Some 0) o ≡ None → ⊥
never_none true o e f = nothing (sym f)
never_none false o e f = no (sym e)

behind_none : (b : Bool) (o : Option ℕ) → cond b (Some 0) (option_map suc o) ≡ None → o ≡ None
behind_none true o f = nothing (sym f)
behind_none false None f = refl
behind_none false (Some k) f = nothing (sym f)

-- what a list has is found in it
found_in : {A : Type 0} (f : A → ℕ) (xs : List A) (e k : ℕ) (x : A) → slice_get xs k ≡ Some x → f x ≡ e → position (nat_eq e) (map f xs) ≡ None → ⊥
found_in f [] e k x there is none = nothing there
found_in f (y ∷ ys) e zero x there is none =
    never_none (nat_eq e (f y)) _ (ap (nat_eq e) (ap f (same there) ∙ is) ∙ eq_self e) (sym (position_cons (nat_eq e) (f y) (map f ys)) ∙ none)
found_in f (y ∷ ys) e (suc k) x there is none =
    found_in f ys e k x there is (behind_none (nat_eq e (f y)) _ (sym (position_cons (nat_eq e) (f y) (map f ys)) ∙ none))

pub each_at : {A : Type 0} (P : A → Type 0) (xs : List A) → ((k : ℕ) (x : A) → slice_get xs k ≡ Some x → P x) → Each P xs
each_at P [] h = tt
each_at P (x ∷ xs) h = (h 0 x refl, each_at P xs (λ k y e. h (suc k) y e))

mapped_long : {A B : Type 0} (f : A → B) (xs : List A) → length (map f xs) ≡ length xs
mapped_long f [] = refl
mapped_long f (x ∷ xs) = ap suc (mapped_long f xs)

pub at_front : {X : Type 0} (xs ys : List X) (k : ℕ) (x : X) → slice_get xs k ≡ Some x → slice_get (xs ++ ys) k ≡ Some x
at_front [] ys k x h = nothing h
at_front (z ∷ zs) ys zero x h = h
at_front (z ∷ zs) ys (suc k) x h = at_front zs ys k x h

pub at_back : {X : Type 0} (xs ys : List X) (k : ℕ) (x : X) → slice_get ys k ≡ Some x → slice_get (xs ++ ys) (length xs + k) ≡ Some x
at_back [] ys k x h = subst (λ n. slice_get ys n ≡ Some x) (let e : k ≡ 0 + k = omega arith in e) h
at_back (z ∷ zs) ys k x h =
    subst (λ n. slice_get (z ∷ zs ++ ys) n ≡ Some x) (let e : suc (length zs + k) ≡ length (z ∷ zs) + k = omega arith in e) (at_back zs ys k x h)

-- ---- what is asked of the entities of a scope

pub holder_at : (n : ℕ) (scopes : List Scope) (k : ℕ) (s : Scope) (j : ℕ) (d : Own) → slice_get scopes k ≡ Some s → slice_get s.declared j ≡ Some d
    → slice_get (holders_from n scopes) (first_entity scopes k + j) ≡ Some (holder (n + k) s d)
holder_at n [] k s j d there own = nothing there
holder_at n (z ∷ zs) zero s j d there own =
    let is : z ≡ s = same there in
    let front : slice_get (map (holder n z) z.declared ++ holders_from (n + 1) zs) j ≡ Some (holder n z d) =
    at_front (map (holder n z) z.declared) _ j (holder n z d) (mapped_at (holder n z) z.declared j d (subst (λ (s : Scope). slice_get s.declared j ≡ Some d) (sym is) own)) in
    ap (slice_get (holders_from n (z ∷ zs))) (let e : 0 + j ≡ j = omega arith in e) ∙ front ∙ ap (λ (s : Scope). Some (holder n s d)) is
    ∙ ap (λ m. Some (holder m s d)) (let e : n ≡ n + 0 = omega arith in e)
holder_at n (z ∷ zs) (suc k) s j d there own =
    let rest = holder_at (n + 1) zs k s j d there own in
    let long : length (map (holder n z) z.declared) ≡ length z.declared = mapped_long (holder n z) z.declared in
    let joined = length-append z.declared (entities_of (take k zs)) in
    let place : first_entity (z ∷ zs) (suc k) + j ≡ length (map (holder n z) z.declared) + (first_entity zs k + j) = omega (arith, long, joined) in
    ap (slice_get (holders_from n (z ∷ zs))) place
    ∙ at_back (map (holder n z) z.declared) (holders_from (n + 1) zs) (first_entity zs k + j) (holder (n + 1 + k) s d) rest
    ∙ ap (λ m. Some (holder m s d)) (let e : n + 1 + k ≡ n + suc k = omega arith in e)

-- ---- the construct

none_in : {A : Type 0} (x : A) → Contains [] x → ⊥
none_in x h = let lt : h.0 < 0 = h.1 in omega (arith, lt)

module _ (scopes : List Scope) (look : ℕ → ℕ → Lookup) (means : (scope symbol : ℕ) → Resolves (look scope symbol) (IsVisible scopes scope symbol))
    (host number : ℕ) (name : Name) (xs : List AssociationTree) (there : slice_get scopes number ≡ Some (scope_of_construct host name xs)) (once : AreOnce xs) where
  abbrev here : Scope
  here = scope_of_construct host name xs

  is_here : (s : Scope) → slice_get scopes number ≡ Some s → s ≡ here
  is_here s h = same (sym h ∙ there)

  -- no USE stands in it
  none_called : (s : Scope) (from original symbol : ℕ) → s ≡ here → IsCalled s from original symbol → ⊥
  none_called s from original symbol h (alone u i c f d a b e) = none_in u (subst (λ (s : Scope). Contains s.uses u) h c)
  none_called s from original symbol h (renamed u i c f d a b e) = none_in u (subst (λ (s : Scope). Contains s.uses u) h c)
  none_called s from original symbol h (kept u c f a b k) = none_in u (subst (λ (s : Scope). Contains s.uses u) h c)

  none_brought : (source original symbol : ℕ) → Brings scopes number source original symbol → ⊥
  none_brought source original symbol h = none_called h.0 (h.1).name.symbol original symbol (is_here h.0 h.2) h.6

  -- what it declares: an associate name
  declared_name : (symbol e : ℕ) → IsDeclared scopes number symbol e
      → (k : ℕ) × (x : AssociationTree) × (slice_get xs k ≡ Some x) × ((x.name).symbol ≡ symbol) × (first_entity scopes number + k ≡ e)
  declared_name symbol e h =
      let found = from_mapped association_own xs h.1 h.2 (subst (λ (s : Scope). slice_get s.declared h.1 ≡ Some h.2) (is_here h.0 h.3) h.4) in
      (h.1, found.0, found.1, ap (λ (o : Own). (o.name).symbol) found.2 ∙ h.5, h.6)

  owned : (k : ℕ) (x : AssociationTree) → slice_get xs k ≡ Some x → IsOwn scopes number (x.name).symbol (first_entity scopes number + k)
  owned k x h = IsOwn.declared number (x.name).symbol (first_entity scopes number + k)
      (here, k, association_own x, there, mapped_at association_own xs k x h, refl, refl)

  -- what it has of its own is declared
  own_declared : (symbol e : ℕ) → IsOwn scopes number symbol e → IsDeclared scopes number symbol e
  own_declared symbol e (IsOwn.declared a b c d) = d
  own_declared symbol e (IsOwn.used a b c source original brought own) = absurd (none_brought source original symbol brought)

  own_is : (k : ℕ) (x : AssociationTree) → slice_get xs k ≡ Some x → (symbol d : ℕ) → symbol ≡ (x.name).symbol → IsOwn scopes number symbol d
      → d ≡ first_entity scopes number + k
  own_is k x h symbol d named own =
      let found = declared_name symbol d (own_declared symbol d own) in
      sym found.4 ∙ ap (λ j. first_entity scopes number + j) (once found.0 k found.1 x found.2 h (found.3 ∙ named))

  -- each name has one entity there
  only : (k : ℕ) (x : AssociationTree) → slice_get xs k ≡ Some x → (symbol d : ℕ) → symbol ≡ (x.name).symbol → IsVisible scopes number symbol d
      → d ≡ first_entity scopes number + k
  only k x h symbol d named (IsVisible.own a b c own) = own_is k x h symbol d named own
  only k x h symbol d named (IsVisible.around a b c host hosted hidden seen) =
      absurd (hidden (first_entity scopes number + k) (subst (λ z. IsOwn scopes number z (first_entity scopes number + k)) (sym named) (owned k x h)))

  looked : (k : ℕ) (x : AssociationTree) → slice_get xs k ≡ Some x → look number (x.name).symbol ≡ One (first_entity scopes number + k)
  looked k x h = go (look number (x.name).symbol) refl (means number (x.name).symbol).as_said
    where
      go : (l : Lookup) → look number (x.name).symbol ≡ l → ResolvesAs l (IsVisible scopes number (x.name).symbol)
          → look number (x.name).symbol ≡ One (first_entity scopes number + k)
      go (One e) is r = is ∙ ap One (only k x h (x.name).symbol e refl r.0)
      go Nothing is r = absurd (r (first_entity scopes number + k) (IsVisible.own number (x.name).symbol _ (owned k x h)))
      go Several is r =
          absurd (r.4 (only k x h (x.name).symbol r.0 refl r.2 ∙ sym (only k x h (x.name).symbol r.1 refl r.3)))

  declared_there : Each (IsDeclaredIn look number) xs
  declared_there = each_at (IsDeclaredIn look number) xs (λ k x h. looked k x h ∙ ap One (sym (ap entity_of (looked k x h))))

  -- ---- what is visible around it

  hosted_by : (outer : ℕ) → host_of scopes number ≡ Some outer → outer ≡ host
  hosted_by outer h = same (sym h ∙ ap host_in there)

  -- one that is visible there and no associate name is visible around it
  seen_around : (symbol e : ℕ) → IsVisible scopes number symbol e → look number symbol ≡ One e
      → position (nat_eq e) (map (entity_in look number) xs) ≡ None
      → IsVisible scopes host symbol e × ((hiding : ℕ) → IsOwn scopes number symbol hiding → ⊥)
  seen_around symbol e (IsVisible.own a b c own) is none =
      let found = declared_name symbol e (own_declared symbol e own) in
      absurd (found_in (entity_in look number) xs e found.0 found.1 found.2 (ap (λ z. entity_of (look number z)) found.3 ∙ ap entity_of is) none)
  seen_around symbol e (IsVisible.around a b c outer hosted hidden seen) is none =
      (subst (λ z. IsVisible scopes z symbol e) (hosted_by outer hosted) seen, hidden)

  around_there : (symbol e : ℕ) → look number symbol ≡ One e → position (nat_eq e) (map (entity_in look number) xs) ≡ None → look host symbol ≡ One e
  around_there symbol e is none = go (look host symbol) refl (means host symbol).as_said
    where
      here_one : ResolvesAs (One e) (IsVisible scopes number symbol)
      here_one = subst (λ l. ResolvesAs l (IsVisible scopes number symbol)) is (means number symbol).as_said

      outside : IsVisible scopes host symbol e × ((hiding : ℕ) → IsOwn scopes number symbol hiding → ⊥)
      outside = seen_around symbol e here_one.0 is none

      inwards : (d : ℕ) → IsVisible scopes host symbol d → d ≡ e
      inwards d seen = here_one.1 d (IsVisible.around number symbol d host (ap host_in there) outside.1 seen)

      go : (l : Lookup) → look host symbol ≡ l → ResolvesAs l (IsVisible scopes host symbol) → look host symbol ≡ One e
      go (One d) at r = at ∙ ap One (inwards d r.0)
      go Nothing at r = absurd (r e outside.0)
      go Several at r = absurd (r.4 (inwards r.0 r.2 ∙ sym (inwards r.1 r.3)))

  -- ---- nothing is asked of associate names

  free_there : Each (λ (x : AssociationTree). IsFree (slice_get (holders_from 0 scopes) (entity_in look number x))) xs
  free_there = each_at (λ (x : AssociationTree). IsFree (slice_get (holders_from 0 scopes) (entity_in look number x))) xs (λ k x h.
      subst IsFree
      (sym (
      ap (slice_get (holders_from 0 scopes)) (ap entity_of (looked k x h))
      ∙ holder_at 0 scopes number here k (association_own x) there (mapped_at association_own xs k x h)
      )) (refl, refl))

  pub opens : Opens look (λ l. slice_get (holders_from 0 scopes) l) host number xs
  opens = record { declared = declared_there; free = free_there; around = around_there }
