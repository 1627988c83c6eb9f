-- Where a text stands among distinct texts, and texts in lower case.
use Rattle.std.proofs.Common.{◌≡◌, ℕ, zero, suc, ◌+◌, ◌<◌, ◌≤◌, max, ◌↔◌, List, [], ◌∷◌, Bool, true, false, cond, nat_lt, Option, None, Some, IsTrue, ◌&&◌, not, length, map, slice_get, position, refl, sym, ◌∙◌, ap, subst, arith}
use Rattle.std.specs.List.{list_all, position_or_len, IsDistinct, AllByRecursion}
use Rattle.std.specs.Bool.{one_answer}
use Rattle.std.specs.Str.{bytes_eq}
use Rattle.std.specs.Char.{to_ascii_lowercase, is_ascii_uppercase}
use Rattle.std.proofs.lemmas.Slice.Eq.{bytes_eq-Decides}
use Rattle.std.proofs.lemmas.Str.Ascii.{lowercase-lowercase, lowercase_is}
use Rattle.std.proofs.lemmas.List.{length-map}
use Rattle.f3_names.specs.Texts.{lowered, longest_from}

pub lowered_again : (text : List ℕ) → map to_ascii_lowercase (map to_ascii_lowercase text) ≡ map to_ascii_lowercase text
lowered_again [] = refl
lowered_again (c ∷ cs) = let first = lowercase-lowercase c in let rest = lowered_again cs in cc

pub decided : (result : Bool) (a b : List ℕ) → (IsTrue result) ↔ (a ≡ b) → result ≡ bytes_eq b a
decided result a b h = let decides = bytes_eq-Decides b a in one_answer {P = a ≡ b} result (bytes_eq b a) h (λ t. sym (decides.0 t), λ e. decides.1 (sym e))

lower_stays : (c : ℕ) → not (is_ascii_uppercase c) ≡ true → to_ascii_lowercase c ≡ c
lower_stays c h = grind (arith, lowercase_is)

lower_only : (c : ℕ) → to_ascii_lowercase c ≡ c → not (is_ascii_uppercase c) ≡ true
lower_only c h = grind (arith, lowercase_is)

both_true : (a b : Bool) → (a && b) ≡ true → (a ≡ true) × (b ≡ true)
both_true true true h = (refl, refl)
both_true true false h = cc
both_true false b h = cc

no_capital : (text : List ℕ) → list_all (λ b. not (is_ascii_uppercase b)) text ≡ true → map to_ascii_lowercase text ≡ text
no_capital [] h = refl
no_capital (c ∷ cs) h =
    let parts = both_true (not (is_ascii_uppercase c)) (list_all (λ b. not (is_ascii_uppercase b)) cs) h in
    let first = lower_stays c parts.0 in
    let rest = no_capital cs parts.1 in
    cc

only_lower : (text : List ℕ) → map to_ascii_lowercase text ≡ text → list_all (λ b. not (is_ascii_uppercase b)) text ≡ true
only_lower [] h = refl
only_lower (c ∷ cs) h =
    let head : to_ascii_lowercase c ≡ c = cc in
    let tail : map to_ascii_lowercase cs ≡ cs = cc in
    let first = lower_only c head in
    let rest = only_lower cs tail in
    cc

pub is_lower_case : (text name : List ℕ) → map to_ascii_lowercase text ≡ map to_ascii_lowercase name → (IsTrue (list_all (λ b. not (is_ascii_uppercase b)) text)) ↔ (text ≡ map to_ascii_lowercase name)
is_lower_case text name same = (λ h. sym (no_capital text h) ∙ same, λ h. only_lower text (same ∙ sym h))

up : Option ℕ → Option ℕ
up None = None
up (Some n) = Some (suc n)

position-cons : {K : Type 0} (p : K → Bool) (k : K) (ks : List K) → position p (k ∷ ks) ≡ cond (p k) (Some 0) (up (position p ks))
unfolding up
position-cons p k ks =
    elim (p k) as (λ b. cond (nat_lt (cond (not b) (1 + position_or_len p ks) 0) (length (k ∷ ks))) (Some (cond (not b) (1 + position_or_len p ks) 0)) None ≡ cond b (Some 0) (up (position p ks))) [
      | true ↦ grind arith
      | false ↦ grind arith
    ]

no_later : {K : Type 0} (v : K → List ℕ) (k : K) (ks : List K) (symbol : ℕ) → AllByRecursion (λ y. bytes_eq (v k) (v y) ≡ false) ks → slice_get (map v ks) symbol ≡ Some (v k) → ⊥
no_later v k [] symbol apart at = cc
no_later v k (y ∷ ys) zero (differs, others) at =
    let same : v k ≡ v y = cc in
    let equal = (bytes_eq-Decides (v k) (v y)).1 same in
    cc
no_later v k (y ∷ ys) (suc symbol) (differs, others) at = no_later v k ys symbol others at

lift : (found : Option ℕ) (symbol : ℕ) → up found ≡ Some (suc symbol) → found ≡ Some symbol
unfolding up
lift None symbol h = cc
lift (Some n) symbol h = cc

no_first : (found : Option ℕ) → up found ≡ Some 0 → ⊥
unfolding up
no_first None h = cc
no_first (Some n) h = cc

Stands : {K : Type 0} (v : K → List ℕ) (text : List ℕ) (ks : List K) (found : Option ℕ) → Type 0
Stands v text ks found = (symbol : ℕ) → (found ≡ Some symbol) ↔ (slice_get (map v ks) symbol ≡ Some text)

stands_on : {K : Type 0} (v : K → List ℕ) (text : List ℕ) (k : K) (ks : List K) (found : Option ℕ) (b : Bool) → bytes_eq text (v k) ≡ b → AllByRecursion (λ y. bytes_eq (v k) (v y) ≡ false) ks
    → Stands v text ks found → Stands v text (k ∷ ks) (cond b (Some 0) (up found))
unfolding Stands up
stands_on v text k ks found true is apart rest zero = (λ h. ap Some (sym ((bytes_eq-Decides text (v k)).0 is)), λ h. refl)
stands_on v text k ks found true is apart rest (suc symbol) =
    (λ h. cc, λ h. absurd (no_later v k ks symbol apart (subst (λ t. slice_get (map v ks) symbol ≡ Some t) ((bytes_eq-Decides text (v k)).0 is) h)))
stands_on v text k ks found false is apart rest zero = (
  λ h. absurd (no_first found h),
  λ h. (let same : text ≡ v k = cc in let equal = (bytes_eq-Decides text (v k)).1 same in cc),
)
stands_on v text k ks found false is apart rest (suc symbol) = (λ h. (rest symbol).0 (lift found symbol h), λ h. ap up ((rest symbol).1 h))

stands : {K : Type 0} (v : K → List ℕ) (text : List ℕ) (ks : List K) → IsDistinct (λ a b. bytes_eq (v a) (v b)) ks → Stands v text ks (position (λ k. bytes_eq text (v k)) ks)
unfolding Stands IsDistinct
stands v text [] distinct = λ symbol. (λ h. cc, λ h. cc)
stands v text (k ∷ ks) (apart, distinct) =
    subst (Stands v text (k ∷ ks)) (sym (position-cons (λ x. bytes_eq text (v x)) k ks))
    (stands_on v text k ks (position (λ x. bytes_eq text (v x)) ks) (bytes_eq text (v k)) refl apart (stands v text ks distinct))

pub found_at : {K : Type 0} (v : K → List ℕ) (text : List ℕ) (ks : List K) → IsDistinct (λ a b. bytes_eq (v a) (v b)) ks → (symbol : ℕ)
    → (position (λ k. bytes_eq text (v k)) ks ≡ Some symbol) ↔ (slice_get (map v ks) symbol ≡ Some text)
unfolding Stands
found_at v text ks distinct = stands v text ks distinct

-- no text is longer than the longest
longest_kept : (long : ℕ) (texts : List (List ℕ)) → long ≤ longest_from long texts
longest_kept long [] = omega arith
longest_kept long (text ∷ texts) = omega (arith, longest_kept (max long (length text)) texts)

within_longest : (long : ℕ) (texts : List (List ℕ)) (symbol : ℕ) (text : List ℕ) → slice_get texts symbol ≡ Some text → length text ≤ longest_from long texts
within_longest long [] symbol text at = cc
within_longest long (t ∷ texts) zero text at = let same : t ≡ text = cc in omega (arith, longest_kept (max long (length t)) texts, ap length same)
within_longest long (t ∷ texts) (suc symbol) text at = within_longest (max long (length t)) texts symbol text at

pub none_longer : (texts : List (List ℕ)) (name : List ℕ) (long : ℕ) → long ≡ longest_from 0 texts → long < length name → (symbol : ℕ) → (None ≡ Some symbol) ↔ (slice_get texts symbol ≡ Some (lowered name))
none_longer texts name long is longer symbol = (
  λ h. cc,
  λ at. absurd (let within = within_longest 0 texts symbol (lowered name) at in let same = length-map name to_ascii_lowercase in omega (arith, within, same, is, longer)),
)
