-- Parts that may be left out.
use Rattle.std.proofs.Common.{◌≡◌, List, [], ◌∷◌, ◌++◌, Option, Some, None, Result, Ok, Err, map, refl, sym, ap, subst, ◌∙◌, inl, inr}
use Rattle.std.specs.Prelude.{◌⊎◌}
use Rattle.std.specs.Option.{option_map}
use Rattle.std.specs.Borrow.{Bor}
use Rattle.std.specs.Global.{Vec}
use Rattle.f3_words.specs.declared.error.ReadError.{ReadError}
use Rattle.f3_words.specs.declared.error.ReadError.TheVariants.{Memory, NoForm}
use Rattle.f3_words.specs.declared.item.Word.{Word}
use Rattle.f3_words.specs.declared.item.Word.TheVariants.{Comma}
use Rattle.f3_words.specs.declared.item.Item.{Item}
use Rattle.f3_words.specs.Lists.{EatsList}
use Rattle.f3_words.specs.Reads.{IsRead, Fails, Reads as ReadsOne}
use Rattle.f3_reading.specs.Parts.{EatsWord, Lacks, Perhaps, BehindComma}
use Rattle.f3_reading.specs.Lists.{Reader, AreRead, ReadsPerhaps, MayBeRead, ReadsOthers, OthersAreRead}
use Rattle.f3_reading.proofs.Words.{same_tail, lacked}
use Rattle.f3_reading.proofs.Elements.{list_reads}

left_out : {A : Type 0} (w : Word) (Is : A → List Item → List Item → Type 0) (ts r : List Item) → r ≡ ts → Lacks w ts → IsRead (Perhaps w Is) ts None r
left_out {A} w Is ts r same none = record { eats = (sym same, none); only = λ y s h. by y s h }
  where
    by : (y : Option A) (s : List Item) → Perhaps w Is y ts s → (y ≡ None) × (s ≡ r)
    by None s h = (refl, sym h.0 ∙ sym same)
    by (Some x) s h = absurd (lacked w ts h.0 none h.1)

there : {A : Type 0} (w : Word) (Is : A → List Item → List Item → Type 0) (ts a : List Item) (x : A) (r : List Item) → EatsWord w ts a → IsRead Is a x r → IsRead (Perhaps w Is) ts (Some x) r
there {A} w Is ts a x r begins is = record { eats = (a, begins, is.eats); only = λ y s h. by y s h }
  where
    by : (y : Option A) (s : List Item) → Perhaps w Is y ts s → (y ≡ Some x) × (s ≡ r)
    by None s h = absurd (lacked w ts a h.1 begins)
    by (Some z) s h =
        let same = is.only z s (subst (λ (l : List Item). Is z l s) (same_tail w w ts a h.0 begins h.1) h.2) in
        (ap (λ (v : A). Some v) same.0, same.1)

broken_off : {A : Type 0} (w : Word) (Is : A → List Item → List Item → Type 0) (ts a : List Item) → EatsWord w ts a → Fails Is a → Fails (Perhaps w Is) ts
broken_off w Is ts a begins none None s h = lacked w ts a h.1 begins
broken_off w Is ts a begins none (Some z) s h = none z s (subst (λ (l : List Item). Is z l s) (same_tail w w ts a h.0 begins h.1) h.2)

module _ {T A : Type 0} (w : Word) (Reads : Reader T) (Is : A → List Item → List Item → Type 0) (seen : T → A)
    (reads : (ts : List Item) (result : Result (T × Bor (List Item)) ReadError) → Reads ts result → ReadsOne Is seen result ts) where
  read_perhaps : (result : Result (Option T × Bor (List Item)) ReadError) (ts : List Item) → ReadsPerhaps w Reads result ts → ReadsOne (Perhaps w Is) (λ (x : Option T). option_map seen x) result ts
  read_perhaps (Ok (None, r)) ts h = left_out w Is ts r.now h.0 h.1
  read_perhaps (Ok (Some x, r)) ts h = there w Is ts h.0 (seen x) r.now h.1 (reads h.0 (Ok (x, r)) h.2)
  read_perhaps (Err Memory) ts h = tt
  read_perhaps (Err NoForm) ts h = broken_off w Is ts h.0 h.1 (reads h.0 (Err NoForm) h.2)

pub perhaps_reads : {T A : Type 0} (Is : A → List Item → List Item → Type 0) (seen : T → A) {w : Word} {Reads : Reader T} {result : Result (Option T × Bor (List Item)) ReadError} {ts : List Item}
    → MayBeRead w Reads result ts → ((us : List Item) (one : Result (T × Bor (List Item)) ReadError) → Reads us one → ReadsOne Is seen one us) → ReadsOne (Perhaps w Is) (λ (x : Option T). option_map seen x) result ts
perhaps_reads Is seen {w} {Reads} {result} {ts} h reads = read_perhaps w Reads Is seen reads result ts h.is

-- ---- a list behind a comma

none_behind : {A : Type 0} (Are : List A → List Item → List Item → Type 0) (ts r : List Item) (xs : List A) → xs ≡ [] → r ≡ ts → Lacks Comma ts → IsRead (BehindComma Are) ts xs r
none_behind {A} Are ts r xs none same lacks = record { eats = inr (none, sym same, lacks); only = λ y s h. by y s h }
  where
    by : (y : List A) (s : List Item) → BehindComma Are y ts s → (y ≡ xs) × (s ≡ r)
    by y s (inl h) = absurd (lacked Comma ts h.0 lacks h.1)
    by y s (inr h) = (h.0 ∙ sym none, sym h.1 ∙ sym same)

some_behind : {A : Type 0} (Are : List A → List Item → List Item → Type 0) (ts a r : List Item) (xs : List A) → EatsWord Comma ts a → IsRead Are a xs r → IsRead (BehindComma Are) ts xs r
some_behind {A} Are ts a r xs begins is = record { eats = inl (a, begins, is.eats); only = λ y s h. by y s h }
  where
    by : (y : List A) (s : List Item) → BehindComma Are y ts s → (y ≡ xs) × (s ≡ r)
    by y s (inl h) = is.only y s (subst (λ (l : List Item). Are y l s) (same_tail Comma Comma ts a h.0 begins h.1) h.2)
    by y s (inr h) = absurd (lacked Comma ts a h.2 begins)

not_behind : {A : Type 0} (Are : List A → List Item → List Item → Type 0) (ts a : List Item) → EatsWord Comma ts a → Fails Are a → Fails (BehindComma Are) ts
not_behind Are ts a begins none y s (inl h) = none y s (subst (λ (l : List Item). Are y l s) (same_tail Comma Comma ts a h.0 begins h.1) h.2)
not_behind Are ts a begins none y s (inr h) = lacked Comma ts a h.2 begins

module _ {T A : Type 0} (Reads : Reader T) (Is : A → List Item → List Item → Type 0) (seen : T → A)
    (reads : (ts : List Item) (result : Result (T × Bor (List Item)) ReadError) → Reads ts result → ReadsOne Is seen result ts) where
  read_others : (result : Result (Vec T × Bor (List Item)) ReadError) (ts : List Item) → ReadsOthers Reads result ts → ReadsOne (BehindComma (EatsList Is)) (λ (v : Vec T). map seen v.items) result ts
  read_others (Ok x) ts (inl h) = some_behind (EatsList Is) ts h.0 x.1.now (map seen x.0.items) h.1 (list_reads Is seen h.2 reads)
  read_others (Ok x) ts (inr h) = none_behind (EatsList Is) ts x.1.now (map seen x.0.items) (ap (map seen) h.0) h.1 h.2
  read_others (Err Memory) ts h = tt
  read_others (Err NoForm) ts h = not_behind (EatsList Is) ts h.0 h.1 (list_reads Is seen h.2 reads)

pub others_read : {T A : Type 0} (Is : A → List Item → List Item → Type 0) (seen : T → A) {Reads : Reader T} {result : Result (Vec T × Bor (List Item)) ReadError} {ts : List Item}
    → OthersAreRead Reads result ts → ((us : List Item) (one : Result (T × Bor (List Item)) ReadError) → Reads us one → ReadsOne Is seen one us) → ReadsOne (BehindComma (EatsList Is)) (λ (v : Vec T). map seen v.items) result ts
others_read Is seen {Reads} {result} {ts} h reads = read_others Reads Is seen reads result ts h.is

-- the same of a part that is seen as it is
plain : {T : Type 0} (w : Word) (Is : T → List Item → List Item → Type 0) (result : Result (Option T × Bor (List Item)) ReadError) (ts : List Item)
    → ReadsOne (Perhaps w Is) (λ (x : Option T). option_map (λ (y : T). y) x) result ts → ReadsOne (Perhaps w Is) (λ (x : Option T). x) result ts
plain w Is (Ok (None, r)) ts h = h
plain w Is (Ok (Some x, r)) ts h = h
plain w Is (Err Memory) ts h = tt
plain w Is (Err NoForm) ts h = h

pub plain_perhaps : {T : Type 0} (Is : T → List Item → List Item → Type 0) {w : Word} {Reads : Reader T} {result : Result (Option T × Bor (List Item)) ReadError} {ts : List Item}
    → MayBeRead w Reads result ts → ((us : List Item) (one : Result (T × Bor (List Item)) ReadError) → Reads us one → ReadsOne Is (λ (x : T). x) one us) → ReadsOne (Perhaps w Is) (λ (x : Option T). x) result ts
plain_perhaps {T} Is {w} {Reads} {result} {ts} h reads = plain w Is result ts (perhaps_reads Is (λ (x : T). x) h reads)
