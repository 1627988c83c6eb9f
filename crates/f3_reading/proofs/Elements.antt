-- Elements of a list, read one after the other.
use Rattle.std.proofs.Common.{◌≡◌, ◌≤◌, ◌<◌, length, arith, List, [], ◌∷◌, ◌++◌, true, false, map, Result, Ok, Err, refl, sym, ap, subst, ◌∙◌, append_assoc}
use Rattle.std.proofs.lemmas.Bool.{true≢false}
use Rattle.std.specs.Borrow.{Bor}
use Rattle.std.specs.Global.{Vec}
use Rattle.f3_words.specs.declared.error.ReadError.{ReadError}
use Rattle.f3_words.specs.declared.item.Word.{Word}
use Rattle.f3_words.specs.Lists.{starts, is_comma, EatsRun, Separated, EatsList}
use Rattle.f3_words.specs.Reads.{IsRead, Fails, Reads as ReadsOne}
use Rattle.f3_words.specs.declared.error.ReadError.TheVariants.{Memory, NoForm}
use Rattle.f3_words.specs.declared.item.Word.TheVariants.{Comma}
use Rattle.f3_words.specs.declared.item.Item.{Item}
use Rattle.f3_reading.specs.Parts.{EatsWord, Lacks}
use Rattle.f3_reading.specs.Lists.{Reader, Lists, Stops, ReadsList, AreRead}

-- what was read goes on with what the rest begins with
pub record Until {T : Type 0} (Reads : Reader T) (ts : List Item) (found : List T) (rest : List Item) : Type 0 where
  pub goes_on : (xs : List T) (r : List Item) → Lists Reads xs rest r → Lists Reads (found ++ xs) ts r
  pub stops : (xs : List T) → Stops Reads xs rest → Stops Reads (found ++ xs) ts
  pub shorter : length rest ≤ length ts

pub begins : {T : Type 0} (Reads : Reader T) (ts : List Item) → Until Reads ts [] ts
begins Reads ts = record { goes_on = λ xs r h. h; stops = λ xs h. h; shorter = omega arith }

next : {T : Type 0} (Reads : Reader T) (rest tail : List Item) (x : T) (a : Bor (List Item)) (xs : List T) (r : List Item) → Reads rest (Ok (x, a)) → EatsWord Comma a.now tail → Lists Reads xs tail r → Lists Reads (x ∷ xs) rest r
next Reads rest tail x a [] r is comma h = absurd h
next Reads rest tail x a (y ∷ ys) r is comma h = (a, tail, is, comma, h)

pub one_more : {T : Type 0} (Reads : Reader T) (ts rest tail : List Item) (found : List T) (x : T) (a : Bor (List Item))
    → Until Reads ts found rest → Reads rest (Ok (x, a)) → EatsWord Comma a.now tail → length tail ≤ length rest → Until Reads ts (found ++ x ∷ []) tail
one_more {T} Reads ts rest tail found x a s is comma le = record {
  goes_on = λ xs r h. subst (λ (l : List T). Lists Reads l ts r) (sym (append_assoc found (x ∷ []) xs)) (s.goes_on (x ∷ xs) r (next Reads rest tail x a xs r is comma h));
  stops = λ xs h. subst (λ (l : List T). Stops Reads l ts) (sym (append_assoc found (x ∷ []) xs)) (s.stops (x ∷ xs) (a, tail, is, comma, h));
  shorter = omega (arith, s.shorter, le);
}

pub over : {T : Type 0} (Reads : Reader T) (ts rest : List Item) (found : List T) (x : T) (a : Bor (List Item))
    → Until Reads ts found rest → Reads rest (Ok (x, a)) → Lacks Comma a.now → Lists Reads (found ++ x ∷ []) ts a.now
over Reads ts rest found x a s is none = s.goes_on (x ∷ []) a.now (a, is, refl, none)

pub refused : {T : Type 0} (Reads : Reader T) (ts rest : List Item) (found : List T) (e : ReadError)
    → Until Reads ts found rest → Reads rest (Err e) → ReadsList Reads (Err e) ts
refused Reads ts rest found Memory s is = tt
refused Reads ts rest found NoForm s is = (found ++ [], s.stops [] is)

-- ---- lists whose first element is known

comma_starts : (ts tail : List Item) → EatsWord Comma ts tail → starts is_comma ts ≡ true
unfolding EatsWord
comma_starts ts tail h = ap (starts is_comma) h.1 ∙ ap is_comma h.2

lacks_comma : (ts : List Item) → Lacks Comma ts → starts is_comma ts ≡ false
unfolding Lacks EatsWord
lacks_comma [] h = refl
lacks_comma (i ∷ ts) h = by i.word (λ e. h ts (i, refl, e))
  where
    by : (w : Word) → (w ≡ Comma → ⊥) → is_comma w ≡ false
    by Comma n = absurd (n refl)
    by w n = refl

first : {A : Type 0} (Is : A → List Item → List Item → Type 0) (ts after : List Item) (x : A) (all : List A) (r : List Item)
    → IsRead Is ts x after → EatsList Is all ts r → (xs : List A) × (all ≡ x ∷ xs) × EatsRun is_comma (Separated Is) xs after r
first {A} Is ts after x all r a h =
    let same = a.only h.0 h.2 h.4 in
    (h.1, h.3 ∙ ap (λ (y : A). y ∷ h.1) same.0, subst (λ (l : List Item). EatsRun is_comma (Separated Is) h.1 l r) same.1 h.5)

-- nothing goes on
ended : {A : Type 0} (Is : A → List Item → List Item → Type 0) (ts : List Item) (xs : List A) (r : List Item) → starts is_comma ts ≡ false → EatsRun is_comma (Separated Is) xs ts r → (xs ≡ []) × (r ≡ ts)
ended Is ts [] r none h = (refl, sym h.0)
ended Is ts (x ∷ xs) r none h = absurd (true≢false (sym h.4 ∙ ap (starts is_comma) (sym h.3) ∙ none))

alone : {A : Type 0} (Is : A → List Item → List Item → Type 0) (ts : List Item) (x : A) (after r : List Item)
    → IsRead Is ts x after → after ≡ r → Lacks Comma r → IsRead (EatsList Is) ts (x ∷ []) r
alone {A} Is ts x after r a is none = record {
  eats = (x, [], after, refl, a.eats, (is, lacks_comma r none));
  only = λ all s h.
      let n = first Is ts after x all s a h in
      let o = ended Is r n.0 s (lacks_comma r none) (subst (λ (l : List Item). EatsRun is_comma (Separated Is) n.0 l s) is n.2) in
      (n.1 ∙ ap (λ (l : List A). x ∷ l) o.0, o.1);
}

-- behind a comma
run_tail : {A : Type 0} (Is : A → List Item → List Item → Type 0) (ts tail : List Item) (xs : List A) (r : List Item) → EatsWord Comma ts tail → EatsRun is_comma (Separated Is) xs ts r → EatsList Is xs tail r
unfolding EatsWord
run_tail Is ts tail [] r c h = absurd (true≢false (sym (comma_starts ts tail c) ∙ ap (starts is_comma) h.0 ∙ h.1))
run_tail Is ts tail (x ∷ xs) r c h =
    let same : tail ≡ h.1 = let e : c.0 ∷ tail ≡ h.0 ∷ h.1 = sym c.1 ∙ h.3 in cc in
    (x, xs, h.2, refl, subst (λ (l : List Item). Is x l h.2) (sym same) h.5, h.6)

tail_run : {A : Type 0} (Is : A → List Item → List Item → Type 0) (ts tail : List Item) (xs : List A) (r : List Item) → EatsWord Comma ts tail → EatsList Is xs tail r → EatsRun is_comma (Separated Is) xs ts r
unfolding EatsWord
tail_run {A} Is ts tail xs r c h =
    subst (λ (l : List A). EatsRun is_comma (Separated Is) l ts r) (sym h.3) (c.0, tail, h.2, c.1, ap is_comma c.2, h.4, h.5)

joined : {A : Type 0} (Is : A → List Item → List Item → Type 0) (ts after tail : List Item) (x : A) (others : List A) (r : List Item)
    → IsRead Is ts x after → EatsWord Comma after tail → IsRead (EatsList Is) tail others r → IsRead (EatsList Is) ts (x ∷ others) r
joined {A} Is ts after tail x others r a c b = record {
  eats = (x, others, after, refl, a.eats, tail_run Is after tail others r c b.eats);
  only = λ all s h.
      let n = first Is ts after x all s a h in
      let o = b.only n.0 s (run_tail Is after tail n.0 s c n.2) in
      (n.1 ∙ ap (λ (l : List A). x ∷ l) o.0, o.1);
}

no_first : {A : Type 0} (Is : A → List Item → List Item → Type 0) (ts : List Item) → Fails Is ts → Fails (EatsList Is) ts
no_first Is ts a all r h = a h.0 h.2 h.4

no_other : {A : Type 0} (Is : A → List Item → List Item → Type 0) (ts after tail : List Item) (x : A)
    → IsRead Is ts x after → EatsWord Comma after tail → Fails (EatsList Is) tail → Fails (EatsList Is) ts
no_other Is ts after tail x a c none all r h =
    let n = first Is ts after x all r a h in
    none n.0 r (run_tail Is after tail n.0 r c n.2)

-- where each answer of the reader is the one value that the tokens spell, so is the list's
module _ {T A : Type 0} (Reads : Reader T) (Is : A → List Item → List Item → Type 0) (seen : T → A)
    (reads : (ts : List Item) (result : Result (T × Bor (List Item)) ReadError) → Reads ts result → ReadsOne Is seen result ts) where
  read_list : (xs : List T) (ts r : List Item) → Lists Reads xs ts r → IsRead (EatsList Is) ts (map seen xs) r
  read_list [] ts r h = absurd h
  read_list (x ∷ []) ts r h = let one : IsRead Is ts (seen x) (h.0).now = reads ts (Ok (x, h.0)) h.1 in alone Is ts (seen x) (h.0).now r one h.2 h.3
  read_list (x ∷ y ∷ xs) ts r h =
      let one : IsRead Is ts (seen x) (h.0).now = reads ts (Ok (x, h.0)) h.2 in
      joined Is ts (h.0).now h.1 (seen x) (map seen (y ∷ xs)) r one h.3 (read_list (y ∷ xs) h.1 r h.4)

  read_stops : (xs : List T) (ts : List Item) → Stops Reads xs ts → Fails (EatsList Is) ts
  read_stops [] ts h = no_first Is ts (reads ts (Err NoForm) h)
  read_stops (x ∷ xs) ts h =
      let one : IsRead Is ts (seen x) (h.0).now = reads ts (Ok (x, h.0)) h.2 in
      no_other Is ts (h.0).now h.1 (seen x) one h.3 (read_stops xs h.1 h.4)

  read_all : (result : Result (Vec T × Bor (List Item)) ReadError) (ts : List Item) → ReadsList Reads result ts → ReadsOne (EatsList Is) (λ (v : Vec T). map seen v.items) result ts
  read_all (Ok x) ts h = read_list x.0.items ts x.1.now h
  read_all (Err Memory) ts h = tt
  read_all (Err NoForm) ts h = read_stops h.0 ts h.1

pub list_reads : {T A : Type 0} (Is : A → List Item → List Item → Type 0) (seen : T → A) {Reads : Reader T} {result : Result (Vec T × Bor (List Item)) ReadError} {ts : List Item}
    → AreRead Reads result ts → ((us : List Item) (one : Result (T × Bor (List Item)) ReadError) → Reads us one → ReadsOne Is seen one us) → ReadsOne (EatsList Is) (λ (v : Vec T). map seen v.items) result ts
list_reads Is seen {Reads} {result} {ts} h reads = read_all Reads Is seen reads result ts h.is

map_same : {A : Type 0} (xs : List A) → map (λ (x : A). x) xs ≡ xs
map_same [] = refl
map_same {A} (x ∷ xs) = ap (λ (l : List A). x ∷ l) (map_same xs)

unseen : {T : Type 0} (Is : T → List Item → List Item → Type 0) (result : Result (Vec T × Bor (List Item)) ReadError) (ts : List Item)
    → ReadsOne (EatsList Is) (λ (v : Vec T). map (λ (x : T). x) v.items) result ts → ReadsOne (EatsList Is) (λ (v : Vec T). v.items) result ts
unseen {T} Is (Ok x) ts h = subst (λ (l : List T). IsRead (EatsList Is) ts l x.1.now) (map_same x.0.items) h
unseen Is (Err Memory) ts h = tt
unseen Is (Err NoForm) ts h = h

-- the same of elements that are seen as they are
pub plain_reads : {T : Type 0} (Is : T → List Item → List Item → Type 0) {Reads : Reader T} {result : Result (Vec T × Bor (List Item)) ReadError} {ts : List Item}
    → AreRead Reads result ts → ((us : List Item) (one : Result (T × Bor (List Item)) ReadError) → Reads us one → ReadsOne Is (λ (x : T). x) one us) → ReadsOne (EatsList Is) (λ (v : Vec T). v.items) result ts
plain_reads {T} Is {Reads} {result} {ts} h reads = unseen Is result ts (list_reads Is (λ (x : T). x) h reads)

-- a reader at a reference to the tokens
pub at_tokens : {T A : Type 0} (Is : A → List Item → List Item → Type 0) (seen : T → A) (ts us : List Item) (one : Result (T × Bor (List Item)) ReadError) → ts ≡ us → ReadsOne Is seen one ts → ReadsOne Is seen one us
at_tokens Is seen ts us one same h = subst (λ (l : List Item). ReadsOne Is seen one l) same h
