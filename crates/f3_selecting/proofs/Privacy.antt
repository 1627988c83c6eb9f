-- What sets of names say is what the names say that were put in.
use Rattle.std.proofs.Common.{◌≡◌, ℕ, List, [], refl, sym, ap, ◌∙◌, inl, inr, Bool, true, false, not, ◌||◌, ◌&&◌, nat_eq}
use Rattle.std.specs.List.{list_any}
use Rattle.std.proofs.lemmas.Map.Views.{exact_unsigned_eq}
use Rattle.indexmap.specs.IndexSet.{insert_all}
use Rattle.f3_tree.specs.declared.declaration.Accessibility.TheVariants.{Public, Private}
use Rattle.f3_scopes.specs.Outlines.{Scope}
use Rattle.f3_selecting.specs.Private.{named, is_private, is_default}
use Rattle.f3_selecting.proofs.Members.{any_of, any_from, put, put_of}

pub same_bool : (a b : Bool) → (a ≡ true → b ≡ true) → (b ≡ true → a ≡ true) → a ≡ b
same_bool true b f g = sym (f refl)
same_bool false true f g = g refl
same_bool false false f g = refl

-- what is put into an empty set is in it
pub any_set : {T : Type 0} (eq : T → T → Bool) → ((a b : T) → eq a b ≡ true → a ≡ b) → (xs : List T) (x : T) → list_any (eq x) (insert_all eq [] xs) ≡ list_any (eq x) xs
any_set eq same xs x = same_bool (list_any (eq x) (insert_all eq [] xs)) (list_any (eq x) xs)
    (λ t. let r = any_of (eq x) (insert_all eq [] xs) t in elim (put_of eq same [] xs r.0 r.1) [ inl n ↦ absurd n | inr h ↦ any_from (eq x) xs r.0 h r.2 ])
    (λ t. let r = any_of (eq x) xs t in any_from (eq x) (insert_all eq [] xs) r.0 (put eq same [] xs r.0 (inr r.1)) r.2)

-- what is private, by sets of the names that are named
pub private_by : (scope : Scope) (private_names public_names : List ℕ) (default : Bool) → private_names ≡ insert_all nat_eq [] (named Private scope) → public_names ≡ insert_all nat_eq [] (named Public scope)
    → default ≡ list_any is_default scope.accesses → (n : ℕ) → (list_any (nat_eq n) private_names || (not (list_any (nat_eq n) public_names) && default)) ≡ is_private scope n
private_by scope private_names public_names default a b d n =
    let p : list_any (nat_eq n) private_names ≡ list_any (nat_eq n) (named Private scope) = ap (list_any (nat_eq n)) a ∙ any_set nat_eq exact_unsigned_eq (named Private scope) n in
    let q : list_any (nat_eq n) public_names ≡ list_any (nat_eq n) (named Public scope) = ap (list_any (nat_eq n)) b ∙ any_set nat_eq exact_unsigned_eq (named Public scope) n in
    ap (λ t. t || (not (list_any (nat_eq n) public_names) && default)) p
    ∙ ap (λ t. list_any (nat_eq n) (named Private scope) || (not t && default)) q
    ∙ ap (λ t. list_any (nat_eq n) (named Private scope) || (not (list_any (nat_eq n) (named Public scope)) && t)) d
