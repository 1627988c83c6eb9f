-- Names, character constants and their numbers.
use Rattle.std.proofs.Common.{◌≡◌, ℕ, zero, suc, ◌+◌, ◌<◌, ◌≤◌, List, [], ◌∷◌, ◌++◌, length, map, get_or, drop, Bool, true, false, Option, Some, None, String, string_bytes, refl, sym, ap, subst, ◌∙◌, append_assoc, add-one, Contains, cond, if◌then◌else◌, option_map, ◌||◌, not, ltb, arith, true≢false}
use Rattle.std.specs.Str.{IsAscii, bytes_eq}
use lib.Pointwise.{bytes_decides}
use Rattle.std.specs.String.{string_eq}
use Rattle.std.specs.List.{list_any, position_or_len, AllByRecursion, IsDistinct}
use Rattle.std.proofs.Math.Seq.{drop-cons}
use Rattle.std.proofs.lemmas.List.{append-nil, map-append, drop_all}
use Rattle.std.proofs.lemmas.List.Elements.{Contains-get_or}
use Rattle.f3_rules.specs.declared.refusal.Refusal.{Refusal}
use Rattle.f3_rules.specs.declared.rule.Rule.{Rule}
use Rattle.f3_rules.specs.declared.breaks.Break.{Break}
use Rattle.f3_text.specs.declared.statement.RawStatement.{RawStatement}
use Rattle.f3_text.specs.Statements.{Spelled}
use Rattle.f3_text.specs.Reader.{spelled_of}
use Rattle.f3_lex.proofs.Laws.{name_is_ascii}
use Rattle.f3_lex.specs.declared.token.Token.{Token}
use Rattle.f3_lex.specs.declared.token.TokenKind.TheVariants as kind
use Rattle.f3_lex.specs.Tokens.{text_of, tokens_of}
use Rattle.f3_lex.specs.Faults.{place_at, first_broken, fault_of, HasFault}
use Rattle.f3_words.specs.declared.item.Item.{Item}
use Rattle.f3_words.specs.declared.item.Keyword.{Keyword}
use Rattle.f3_words.specs.Keywords.{keyword_of}
use Rattle.f3_words.specs.Lines.{Line, Seen, broken, number, with_name, item_of, seen_behind, items_of, seen_after, place_in, line_of, seen_over}
use Rattle.f3_words.specs.Inner.Numbered.{NamesAreAscii, AreItems}

abbrev pub lined : List Item → Option Break → Line
lined is fault = record { items = is; fault = fault }

abbrev pub seeing : List (List ℕ) → List (List ℕ) → Seen
seeing names texts = record { names = names; texts = texts }

-- the keys of a table are looked up by their bytes
pub number_bytes : {Y : Type 0} (name : List ℕ) (keys : List (String Y)) → position_or_len (λ k. bytes_eq name (string_bytes k)) keys ≡ number (map string_bytes keys) name
number_bytes name [] = refl
number_bytes name (k ∷ ks) = ap (λ n. cond (not (bytes_eq name (string_bytes k))) (1 + n) 0) (number_bytes name ks)

pub number_keys : {Y : Type 0} (name : String Y) (keys : List (String Y)) → position_or_len (string_eq name) keys ≡ number (map string_bytes keys) (string_bytes name)
number_keys name keys = number_bytes (string_bytes name) keys

pub any_bytes : {Y : Type 0} (name : List ℕ) (keys : List (String Y)) → list_any (λ k. bytes_eq name (string_bytes k)) keys ≡ list_any (bytes_eq name) (map string_bytes keys)
any_bytes name [] = refl
any_bytes name (k ∷ ks) = ap (λ b. bytes_eq name (string_bytes k) || b) (any_bytes name ks)

any_keys : {Y : Type 0} (name : String Y) (keys : List (String Y)) → list_any (string_eq name) keys ≡ list_any (bytes_eq (string_bytes name)) (map string_bytes keys)
any_keys name [] = refl
any_keys name (k ∷ ks) = ap (λ b. string_eq name k || b) (any_keys name ks)

pub with_keys : {Y : Type 0} (name : String Y) (keys : List (String Y)) → map string_bytes (if list_any (string_eq name) keys then keys else keys ++ name ∷ []) ≡ with_name (map string_bytes keys) (string_bytes name)
with_keys {Y} name keys = by (list_any (string_eq name) keys) refl
  where
    by : (b : Bool) → list_any (string_eq name) keys ≡ b → map string_bytes (if list_any (string_eq name) keys then keys else keys ++ name ∷ []) ≡ with_name (map string_bytes keys) (string_bytes name)
    by true e = rw (e, sym (any_keys name keys) ∙ e) refl
    by false e = rw (e, sym (any_keys name keys) ∙ e) (map-append string_bytes keys (name ∷ []))

-- the number that a search gives
pub found_at : (n p m : ℕ) → Some n ≡ cond (ltb p m) (Some p) None → n ≡ p
found_at n p m e = by (ltb p m) e
  where
    by : (b : Bool) → Some n ≡ cond b (Some p) None → n ≡ p
    by true h = cc
    by false h = cc

-- the keyword of a name stands at its number
pub keyword_there : (names : List (List ℕ)) (name : List ℕ) (d : Keyword) → list_any (bytes_eq name) names ≡ true → get_or (map keyword_of names) (number names name) d ≡ keyword_of name
keyword_there [] name d any = absurd (let e : false ≡ true = any in cc)
keyword_there (n ∷ names) name d any = by (bytes_eq name n) refl (keyword_there names name d)
  where
    by : (b : Bool) → bytes_eq name n ≡ b → (list_any (bytes_eq name) names ≡ true → get_or (map keyword_of names) (number names name) d ≡ keyword_of name)
        → get_or (map keyword_of (n ∷ names)) (number (n ∷ names) name) d ≡ keyword_of name
    by true e later = rw e (ap keyword_of (sym ((bytes_decides name n).0 e)))
    by false e later =
        let step : 1 + number names name ≡ suc (number names name) = omega arith in
        rw e (ap (λ m. get_or (map keyword_of (n ∷ names)) m d) step ∙ later (rw e at any))

-- a name that is new
pub keywords_more : (names after : List (List ℕ)) (name : List ℕ) (ks : List Keyword) (k : Keyword) → ks ≡ map keyword_of names → k ≡ keyword_of name → after ≡ with_name names name → list_any (bytes_eq name) names ≡ false
    → ks ++ k ∷ [] ≡ map keyword_of after
keywords_more names after name ks k paired is more absent =
    ap (λ x. x ++ k ∷ []) paired
    ∙ ap (λ x. map keyword_of names ++ x ∷ []) is
    ∙ sym (map-append keyword_of names (name ∷ []))
    ∙ ap (map keyword_of) (sym (more ∙ rw absent refl))

-- a name stands at one place of a table
apart_at : {Y : Type 0} (name : List ℕ) (k : String Y) (ks : List (String Y)) (i : ℕ) (d : String Y) → AllByRecursion (λ y. string_eq k y ≡ false) ks → i < length ks → string_bytes (get_or ks i d) ≡ name → bytes_eq name (string_bytes k) ≡ false
apart_at name k [] i d all lt is = absurd (omega arith)
apart_at name k (x ∷ ks) (suc i) d all lt is = apart_at name k ks i d all.1 (omega arith) is
apart_at name k (x ∷ ks) zero d all lt is = by (bytes_eq name (string_bytes k)) refl
  where
    by : (b : Bool) → bytes_eq name (string_bytes k) ≡ b → bytes_eq name (string_bytes k) ≡ false
    by false e = e
    by true e = absurd (true≢false (sym ((bytes_decides (string_bytes k) (string_bytes x)).1 (sym ((bytes_decides name (string_bytes k)).0 e) ∙ sym is)) ∙ all.0))

pub number_at : {Y : Type 0} (name : List ℕ) (keys : List (String Y)) (i : ℕ) (d : String Y) → IsDistinct string_eq keys → i < length keys → string_bytes (get_or keys i d) ≡ name
    → (list_any (bytes_eq name) (map string_bytes keys) ≡ true) × (i ≡ number (map string_bytes keys) name)
unfolding IsDistinct
number_at name [] i d distinct lt is = absurd (omega arith)
number_at name (k ∷ ks) zero d distinct lt is = let same = (bytes_decides name (string_bytes k)).1 (sym is) in rw same (refl, refl)
number_at name (k ∷ ks) (suc i) d distinct lt is =
    let other = apart_at name k ks i d distinct.0 (omega arith) is in
    let later = number_at name ks i d distinct.1 (omega arith) is in
    rw other (later.0, omega (arith, later.1))

-- one token more
pub items_step : (seen next : Seen) (s : Spelled) (ts : List Token) (i : ℕ) (d : Token) (found whole : List Item) (it : Item) → i < length ts → it ≡ item_of seen s (get_or ts i d) → next ≡ seen_behind seen s (get_or ts i d)
    → found ++ items_of seen s (drop i ts) ≡ whole → (found ++ it ∷ []) ++ items_of next s (drop (i + 1) ts) ≡ whole
items_step seen next s ts i d found whole it lt is behind e =
    let t = get_or ts i d in
    ap (λ n. (found ++ it ∷ []) ++ items_of next s (drop n ts)) (add-one i)
    ∙ ap (λ x. (found ++ x ∷ []) ++ items_of next s (drop (suc i) ts)) is
    ∙ ap (λ x. (found ++ item_of seen s t ∷ []) ++ items_of x s (drop (suc i) ts)) behind
    ∙ append_assoc found (item_of seen s t ∷ []) (items_of (seen_behind seen s t) s (drop (suc i) ts))
    ∙ ap (λ x. found ++ items_of seen s x) (sym (drop-cons ts i d lt))
    ∙ e

pub seen_step : (seen next whole : Seen) (s : Spelled) (ts : List Token) (i : ℕ) (d : Token) → i < length ts → next ≡ seen_behind seen s (get_or ts i d)
    → seen_after seen s (drop i ts) ≡ whole → seen_after next s (drop (i + 1) ts) ≡ whole
seen_step seen next whole s ts i d lt behind e =
    ap (λ n. seen_after next s (drop n ts)) (add-one i)
    ∙ ap (λ x. seen_after x s (drop (suc i) ts)) behind
    ∙ ap (λ x. seen_after seen s x) (sym (drop-cons ts i d lt))
    ∙ e

-- the fault of a statement as a break
fault_by : (found : Option Refusal) (o : Option (ℕ × Rule)) (statement : RawStatement) → HasFault found (option_map (λ (start, rule). (place_at statement start, rule)) o)
    → option_map (λ (r : Refusal). broken r.rule r.place) found ≡ option_map (λ f. broken f.1 (place_in (spelled_of statement) f.0)) o
fault_by None None statement h = refl
fault_by None (Some f) statement h = absurd h
fault_by (Some r) None statement h = absurd h
fault_by (Some r) (Some f) statement h = rw (h.0, h.1) refl

pub fault_is : (found : Option Refusal) (statement : RawStatement) → HasFault found (fault_of statement)
    → option_map (λ (r : Refusal). broken r.rule r.place) found ≡ option_map (λ f. broken f.1 (place_in (spelled_of statement) f.0)) (first_broken statement.bytes.items (tokens_of statement.bytes.items))
fault_is found statement h = fault_by found (first_broken statement.bytes.items (tokens_of statement.bytes.items)) statement h

-- each name among the tokens is ASCII
pub ascii_at : (s : Spelled) (ts : List Token) (i : ℕ) (d : Token) → i < length ts → NamesAreAscii s ts → (get_or ts i d).kind ≡ kind.Name → IsAscii (text_of (get_or ts i d) s.bytes)
ascii_at s ts i d lt ascii named = ascii (get_or ts i d) (Contains-get_or ts i d lt) named

pub items_over : (seen : Seen) (s : Spelled) (ts : List Token) (i : ℕ) (found whole : List Item) → length ts ≤ i → found ++ items_of seen s (drop i ts) ≡ whole → found ≡ whole
items_over seen s ts i found whole le e = sym (append-nil found) ∙ ap (λ x. found ++ items_of seen s x) (sym (drop_all i ts le)) ∙ e

pub seen_over_end : (seen whole : Seen) (s : Spelled) (ts : List Token) (i : ℕ) → length ts ≤ i → seen_after seen s (drop i ts) ≡ whole → seen ≡ whole
seen_over_end seen whole s ts i le e = ap (λ x. seen_after seen s x) (sym (drop_all i ts le)) ∙ e

-- a line from its tokens
pub line_made : (statement : RawStatement) (before behind : Seen) (is : List Item) (found : Option Refusal) (ts : List Token) (made : Option Break) → ts ≡ tokens_of statement.bytes.items → HasFault found (fault_of statement)
    → made ≡ option_map (λ (r : Refusal). broken r.rule r.place) found → AreItems before behind (spelled_of statement) ts is
    → (lined is made ≡ line_of before (spelled_of statement)) × (behind ≡ seen_over before (spelled_of statement))
line_made statement before behind is found ts made cut has fault numbered =
    let both = numbered (λ t there named. name_is_ascii statement.bytes.items t (subst (λ x. Contains x t) cut there) named) in
    let s = spelled_of statement in
    (ap (λ x. lined x made) (both.0 ∙ ap (items_of before s) cut) ∙ ap (lined (items_of before s (tokens_of statement.bytes.items))) (fault ∙ fault_is found statement has), both.1 ∙ ap (seen_after before s) cut)
