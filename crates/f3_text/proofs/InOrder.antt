-- The bytes of statements stand in order of place.
use Rattle.std.proofs.Common.{◌≡◌, ℕ, ◌+◌, ◌-◌, ◌≤◌, ◌<◌, length, map, List, [], ◌∷◌, ◌++◌, Bool, true, false, Option, None, Some, ◌⊎◌, inl, inr, ◌==◌, ◌&&◌, not, refl, sym, ap, subst, ◌∙◌, arith, append_assoc, if◌then◌else◌}
use Rattle.std.proofs.lemmas.Bool.{lt-ltb, le-ltb, eq-eqb}
use Rattle.std.proofs.lemmas.List.{map-append}
use Rattle.std.specs.Prelude.{nat_lt}
use Rattle.std.specs.List.{filter}
use Rattle.f3_rules.specs.Least.{before}
use Rattle.f3_places.specs.declared.source.Place.{Place}
use Rattle.f3_rules.specs.declared.rule.Rule.{Rule}
use Rattle.f3_rules.specs.declared.rule.Rule.TheVariants.{S2}
use Rattle.f3_rules.specs.declared.breaks.Break.{Break}
use Rattle.f3_text.specs.declared.letter.Letter.{Letter}
use Rattle.f3_text.specs.declared.letter.Quoting.{Quoting}
use Rattle.f3_text.specs.declared.letter.Quoting.TheVariants.{Outside, Inside, Closed}
use Rattle.f3_text.specs.Lines.{letters, is_line_feed, ends_line, line, lines_below, lines_of, is_comment, is_blank, is_quote, all_blank, after, after_all, is_open, text, first_ampersand, last_ampersand}
use Rattle.f3_text.specs.Statements.{Texts, Spelled, Parts, alone, listed, onto, join_blank, begun, unfinished, joined, texts, separates, pieces, all_pieces, broken, break_at, unclosed, fault_at, depth_in, fault_in, trimmed, spelled, nothing, faulty, with_first, with_statement, unless_fault, parts, then_parts, parts_of, parts_from, cut_of}
use Rattle.f3_text.specs.Laws.{EachOf, Precedes, Ascend, places_in, place_of, StandInOrder}

-- some of the places of a list, in its order
abbrev Sub : List Place → List Place → Type 0
Sub [] qs = Unit {0}
Sub (p ∷ ps) [] = ⊥
Sub (p ∷ ps) (q ∷ qs) = ((p ≡ q) × Sub ps qs) ⊎ Sub (p ∷ ps) qs

sub_all : (ps : List Place) → Sub ps ps
sub_all [] = tt
sub_all (p ∷ ps) = inl (refl, sub_all ps)

sub_skip : (ps qs : List Place) (q : Place) → Sub ps qs → Sub ps (q ∷ qs)
sub_skip [] qs q a = tt
sub_skip (p ∷ ps) qs q a = inr a

sub_trans : (ps qs rs : List Place) → Sub ps qs → Sub qs rs → Sub ps rs
sub_trans [] qs rs a b = tt
sub_trans (p ∷ ps) [] rs a b = absurd a
sub_trans (p ∷ ps) (q ∷ qs) [] a b = absurd b
sub_trans (p ∷ ps) (q ∷ qs) (r ∷ rs) (inl a) (inl b) = inl (a.0 ∙ b.0, sub_trans ps qs rs a.1 b.1)
sub_trans (p ∷ ps) (q ∷ qs) (r ∷ rs) (inr a) (inl b) = inr (sub_trans (p ∷ ps) qs rs a b.1)
sub_trans (p ∷ ps) (q ∷ qs) (r ∷ rs) a (inr b) = inr (sub_trans (p ∷ ps) (q ∷ qs) rs a b)

sub_before : (qs ps rs : List Place) → Sub ps rs → Sub ps (qs ++ rs)
sub_before [] ps rs a = a
sub_before (q ∷ qs) ps rs a = sub_skip ps (qs ++ rs) q (sub_before qs ps rs a)

sub_append : (ps qs rs ss : List Place) → Sub ps qs → Sub rs ss → Sub (ps ++ rs) (qs ++ ss)
sub_append [] qs rs ss a b = sub_before qs rs ss b
sub_append (p ∷ ps) [] rs ss a b = absurd a
sub_append (p ∷ ps) (q ∷ qs) rs ss (inl a) b = inl (a.0, sub_append ps qs rs ss a.1 b)
sub_append (p ∷ ps) (q ∷ qs) rs ss (inr a) b = inr (sub_append (p ∷ ps) qs rs ss a b)

sub_front : (ps qs : List Place) → Sub ps (ps ++ qs)
sub_front [] qs = tt
sub_front (p ∷ ps) qs = inl (refl, sub_front ps qs)

-- the places of letters, and of lists of them
pl : List Letter → List Place
pl xs = map (λ x. x.place) xs

flat : List (List Letter) → List Place
flat [] = []
flat (t ∷ ts) = pl t ++ flat ts

flat-append : (ss ts : List (List Letter)) → flat (ss ++ ts) ≡ flat ss ++ flat ts
unfolding flat
flat-append [] ts = refl
flat-append (s ∷ ss) ts = ap (λ (p : List Place). pl s ++ p) (flat-append ss ts) ∙ sym (append_assoc (pl s) (flat ss) (flat ts))

pl-append : (xs ys : List Letter) → pl (xs ++ ys) ≡ pl xs ++ pl ys
unfolding pl
pl-append xs ys = map-append (λ x. x.place) xs ys

-- lines
lines_sub : (xs : List Letter) → Sub (flat (line xs ∷ lines_below xs)) (pl xs)
unfolding flat pl line lines_below ends_line
lines_sub [] = tt
lines_sub (x ∷ xs) = by (x.byte == 10) ((x.byte == 13) && is_line_feed xs) refl refl (lines_sub xs)
  where
    by : (s t : Bool) → (x.byte == 10) ≡ s → ((x.byte == 13) && is_line_feed xs) ≡ t → Sub (flat (line xs ∷ lines_below xs)) (pl xs) → Sub (flat (line (x ∷ xs) ∷ lines_below (x ∷ xs))) (pl (x ∷ xs))
    by true t p q h = rw p (sub_skip _ _ x.place h)
    by false true p q h = rw (p, q) (sub_skip _ _ x.place (sub_trans (flat (lines_below xs)) (pl (line xs) ++ flat (lines_below xs)) (pl xs) (sub_before (pl (line xs)) _ _ (sub_all _)) h))
    by false false p q h = rw (p, q) (inl (refl, h))

filter_sub : (t : List Letter → Bool) (ls : List (List Letter)) → Sub (flat (filter t ls)) (flat ls)
unfolding flat
filter_sub t [] = tt
filter_sub t (l ∷ ls) = by (t l) (filter_sub t ls)
  where
    by : (b : Bool) → Sub (flat (filter t ls)) (flat ls) → Sub (flat (if b then l ∷ filter t ls else filter t ls)) (pl l ++ flat ls)
    by true h = sub_append (pl l) (pl l) _ _ (sub_all (pl l)) h
    by false h = sub_before (pl l) _ _ h

text_sub : (w : Quoting) (l : List Letter) → Sub (pl (text w l)) (pl l)
unfolding pl text
text_sub w [] = tt
text_sub w (x ∷ l) = by (not (is_open w) && (x.byte == 33)) refl (text_sub (after w x) l)
  where
    by : (t : Bool) → (not (is_open w) && (x.byte == 33)) ≡ t → Sub (pl (text (after w x) l)) (pl l) → Sub (pl (text w (x ∷ l))) (pl (x ∷ l))
    by true e h = rw (e, text) tt
    by false e h = rw (e, text) (inl (refl, h))

-- the last and the first `&`
last_there : (x : Letter) (t : List Letter) (a : Letter × List Letter) (s : Bool) → (if s then Some (x, []) else None) ≡ Some a → Sub (pl a.1 ++ a.0.place ∷ []) (pl (x ∷ t))
unfolding pl
last_there x t a true k = let k2 : (x, []) ≡ a = cc in rw (← k2) (inl (refl, tt))
last_there x t a false k = cc

last_sub : (t : List Letter) (a : Letter × List Letter) → last_ampersand t ≡ Some a → Sub (pl a.1 ++ a.0.place ∷ []) (pl t)
unfolding pl last_ampersand
last_sub [] a e = cc
last_sub (x ∷ t) a e = by (last_ampersand t) refl (λ b f. last_sub t b f)
  where
    by : (o : Option (Letter × List Letter)) → last_ampersand t ≡ o → ((b : Letter × List Letter) → last_ampersand t ≡ Some b → Sub (pl b.1 ++ b.0.place ∷ []) (pl t)) → Sub (pl a.1 ++ a.0.place ∷ []) (pl (x ∷ t))
    by (Some b) h more = let k = rw (h, last_ampersand) at e in let k2 : (b.0, x ∷ b.1) ≡ a = cc in rw (← k2) (inl (refl, more b h))
    by None h more = let k = rw (h, last_ampersand) at e in last_there x t a ((x.byte == 38) && all_blank t) k

first_sub : (n : List Letter) (f : Letter × List Letter) → first_ampersand n ≡ Some f → Sub (f.0.place ∷ pl f.1) (pl n)
unfolding pl first_ampersand
first_sub [] f e = cc
first_sub (x ∷ n) f e = by (is_blank x.byte) (x.byte == 38) refl refl (λ h. first_sub n f h)
  where
    by : (s t : Bool) → is_blank x.byte ≡ s → (x.byte == 38) ≡ t → (first_ampersand n ≡ Some f → Sub (f.0.place ∷ pl f.1) (pl n)) → Sub (f.0.place ∷ pl f.1) (pl (x ∷ n))
    by true t p q more = let k = rw p at e in sub_skip (f.0.place ∷ pl f.1) (pl n) x.place (more k)
    by false true p q more = let k = rw (p, q) at e in let k2 : (x, n) ≡ f = cc in rw (← k2) (inl (refl, sub_all (pl n)))
    by false false p q more = let k = rw (p, q) at e in cc

-- texts of lines
onto_flat : (xs : List Letter) (ts : Texts) → flat (listed (onto xs ts)) ≡ pl xs ++ flat (listed ts)
unfolding flat listed onto
onto_flat xs ts = ap (λ (p : List Place). p ++ flat ts.others) (pl-append xs ts.first) ∙ append_assoc (pl xs) (pl ts.first) (flat ts.others)

unfinished_sub : (v : Quoting) (a : Letter) (qs : List Place) → Sub (flat (listed (unfinished v a))) (a.place ∷ qs)
unfolding flat listed unfinished alone pl
unfinished_sub v a qs = by (is_open v)
  where
    by : (t : Bool) → Sub (flat ((if t then [] else a ∷ []) ∷ [])) (a.place ∷ qs)
    by true = tt
    by false = inl (refl, tt)

-- letters before an `&`, and what goes on behind it
onto_sub : (t : List Letter) (a : Letter × List Letter) (ts : Texts) (qs : List Place) → last_ampersand t ≡ Some a → Sub (flat (listed ts)) (a.0.place ∷ qs) → Sub (flat (listed (onto a.1 ts))) (pl t ++ qs)
onto_sub t a ts qs e h =
    rw (onto_flat a.1 ts)
    (sub_trans (pl a.1 ++ flat (listed ts)) ((pl a.1 ++ a.0.place ∷ []) ++ qs) (pl t ++ qs)
    (rw (append_assoc (pl a.1) (a.0.place ∷ []) qs) (sub_append (pl a.1) (pl a.1) _ _ (sub_all (pl a.1)) h))
    (sub_append _ _ qs qs (last_sub t a e) (sub_all qs)))

begun_lone : (n : List Letter) (ts : Texts) (qs : List Place) (f : Letter × List Letter) (s : Bool) → first_ampersand n ≡ Some f → Sub (flat (listed ts)) (pl n ++ qs) → Sub (flat (elim s [ true ↦ (f.0 ∷ []) ∷ [] | false ↦ listed ts ])) (pl n ++ qs)
unfolding flat pl
begun_lone n ts qs f true e h = sub_trans (f.0.place ∷ []) (f.0.place ∷ pl f.1) (pl n ++ qs) (inl (refl, tt)) (sub_trans (f.0.place ∷ pl f.1) (pl n) (pl n ++ qs) (first_sub n f e) (sub_front (pl n) qs))
begun_lone n ts qs f false e h = h

begun_sub : (n : List Letter) (ts : Texts) (qs : List Place) → Sub (flat (listed ts)) (pl n ++ qs) → Sub (flat (begun n ts)) (pl n ++ qs)
unfolding begun
begun_sub n ts qs h = by (first_ampersand n) refl
  where
    by : (o : Option (Letter × List Letter)) → first_ampersand n ≡ o → Sub (flat (begun n ts)) (pl n ++ qs)
    by None e = rw (e, begun) h
    by (Some f) e = rw (e, begun) (begun_lone n ts qs f (all_blank (text Outside f.1)) e h)

text_flat : (w : Quoting) (n : List Letter) (qs : List Place) → Sub (pl (text w n) ++ qs) (pl n ++ qs)
text_flat w n qs = sub_append (pl (text w n)) (pl n) qs qs (text_sub w n) (sub_all qs)

-- what stands behind an `&`, in its parts
behind_first : (v : Quoting) (n : List Letter) (f : Letter × List Letter) (a : Place) (qs : List Place) (ts : Texts) (s : Bool) → first_ampersand n ≡ Some f → Sub (flat (listed ts)) (pl (text v f.1) ++ qs)
    → Sub (flat (listed (elim s [ true ↦ unfinished v f.0 | false ↦ ts ]))) (a ∷ (pl n ++ qs))
behind_first v n f a qs ts true e h =
    sub_skip (flat (listed (unfinished v f.0))) (pl n ++ qs) a
    (sub_trans _ (f.0.place ∷ pl f.1) _ (unfinished_sub v f.0 (pl f.1)) (sub_trans (f.0.place ∷ pl f.1) (pl n) (pl n ++ qs) (first_sub n f e) (sub_front (pl n) qs)))
behind_first v n f a qs ts false e h =
    sub_skip (flat (listed ts)) (pl n ++ qs) a
    (sub_trans _ (pl (text v f.1) ++ qs) _ h
    (sub_append (pl (text v f.1)) (pl n) qs qs (sub_trans (pl (text v f.1)) (pl f.1) (pl n) (text_sub v f.1) (sub_trans (pl f.1) (f.0.place ∷ pl f.1) (pl n) (sub_skip (pl f.1) (pl f.1) f.0.place (sub_all (pl f.1))) (first_sub n f e))) (sub_all qs)))

behind_none : (v u : Quoting) (n : List Letter) (a : Letter) (qs : List Place) (ts : Texts) (s : Bool) → Sub (flat (listed ts)) (pl (text u n) ++ qs)
    → Sub (flat (listed (elim s [ true ↦ unfinished v a | false ↦ onto (join_blank a ∷ []) ts ]))) (a.place ∷ (pl n ++ qs))
unfolding join_blank pl
behind_none v u n a qs ts true h = unfinished_sub v a (pl n ++ qs)
behind_none v u n a qs ts false h = rw (onto_flat (join_blank a ∷ []) ts) (inl (refl, sub_trans _ (pl (text u n) ++ qs) _ h (text_flat u n qs)))

abbrev behind_of : Quoting → List Letter → Letter → List (List Letter) → Option (Letter × List Letter) → Texts
behind_of v n a ls None = elim (is_open v) [
  | true ↦ unfinished v a
  | false ↦ let u : Quoting = after v (join_blank a) in onto (join_blank a ∷ []) (joined u (text u n) ls)
]
behind_of v n a ls (Some f) = elim (all_blank (text v f.1)) [ true ↦ unfinished v f.0 | false ↦ joined v (text v f.1) ls ]

behind_sub : (v : Quoting) (n : List Letter) (a : Letter) (ls : List (List Letter)) (o : Option (Letter × List Letter)) → first_ampersand n ≡ o
    → ((u : Quoting) (m : List Letter) → Sub (flat (listed (joined u m ls))) (pl m ++ flat ls)) → Sub (flat (listed (behind_of v n a ls o))) (a.place ∷ (pl n ++ flat ls))
behind_sub v n a ls None e more = let u : Quoting = after v (join_blank a) in behind_none v u n a (flat ls) (joined u (text u n) ls) (is_open v) (more u (text u n))
behind_sub v n a ls (Some f) e more = behind_first v n f a.place (flat ls) (joined v (text v f.1) ls) (all_blank (text v f.1)) e (more v (text v f.1))

joined_goes : (w : Quoting) (t n : List Letter) (ls : List (List Letter)) (a : Letter × List Letter) → last_ampersand t ≡ Some a → joined w t (n ∷ ls) ≡ onto a.1 (behind_of (after_all w a.1) n a.0 ls (first_ampersand n))
unfolding joined
joined_goes w t n ls a e = by (first_ampersand n) refl
  where
    by : (o : Option (Letter × List Letter)) → first_ampersand n ≡ o → joined w t (n ∷ ls) ≡ onto a.1 (behind_of (after_all w a.1) n a.0 ls (first_ampersand n))
    by None h = rw (e, joined) (rw (h, joined, behind_of) refl)
    by (Some f) h = rw (e, joined) (rw (h, joined, behind_of) refl)

joined_sub : (w : Quoting) (t : List Letter) (ls : List (List Letter)) → Sub (flat (listed (joined w t ls))) (pl t ++ flat ls)
unfolding joined flat listed alone
joined_sub w t [] = by (last_ampersand t) refl
  where
    by : (o : Option (Letter × List Letter)) → last_ampersand t ≡ o → Sub (flat (listed (joined w t []))) (pl t ++ [])
    by None e = rw (e, joined) (sub_all (pl t ++ []))
    by (Some a) e = rw (e, joined) (onto_sub t a (unfinished (after_all w a.1) a.0) [] e (unfinished_sub (after_all w a.1) a.0 []))
joined_sub w t (n ∷ ls) = by (last_ampersand t) refl (λ u m. joined_sub u m ls)
  where
    by : (o : Option (Letter × List Letter)) → last_ampersand t ≡ o → ((u : Quoting) (m : List Letter) → Sub (flat (listed (joined u m ls))) (pl m ++ flat ls)) → Sub (flat (listed (joined w t (n ∷ ls)))) (pl t ++ (pl n ++ flat ls))
    by None e more = rw (e, joined) (sub_append (pl t) (pl t) _ _ (sub_all (pl t)) (begun_sub n (joined Outside (text Outside n) ls) (flat ls) (sub_trans _ (pl (text Outside n) ++ flat ls) _ (more Outside (text Outside n)) (text_flat Outside n (flat ls)))))
    by (Some a) e more = rw (joined_goes w t n ls a e) (onto_sub t a (behind_of (after_all w a.1) n a.0 ls (first_ampersand n)) (pl n ++ flat ls) e (behind_sub (after_all w a.1) n a.0 ls (first_ampersand n) refl more))

texts_sub : (ls : List (List Letter)) → Sub (flat (texts ls)) (flat ls)
unfolding texts flat
texts_sub [] = tt
texts_sub (n ∷ ls) = begun_sub n (joined Outside (text Outside n) ls) (flat ls) (sub_trans _ (pl (text Outside n) ++ flat ls) _ (joined_sub Outside (text Outside n) ls) (text_flat Outside n (flat ls)))

-- pieces
pieces_sub : (w : Quoting) (t : List Letter) → Sub (flat (listed (pieces w t))) (pl t)
unfolding pieces flat listed alone pl
pieces_sub w [] = tt
pieces_sub w (x ∷ t) = by (separates w x) refl (pieces_sub Outside t) (pieces_sub (after w x) t)
  where
    by : (s : Bool) → separates w x ≡ s → Sub (flat (listed (pieces Outside t))) (pl t) → Sub (flat (listed (pieces (after w x) t))) (pl t) → Sub (flat (listed (pieces w (x ∷ t)))) (pl (x ∷ t))
    by true e h k = rw (e, pieces) (sub_skip (flat (listed (pieces Outside t))) (pl t) x.place h)
    by false e h k = rw (e, pieces) (rw (onto_flat (x ∷ []) (pieces (after w x) t)) (inl (refl, k)))

all_pieces_sub : (ts : List (List Letter)) → Sub (flat (all_pieces ts)) (flat ts)
unfolding all_pieces flat
all_pieces_sub [] = tt
all_pieces_sub (t ∷ ts) = rw (flat-append (listed (pieces Outside t)) (all_pieces ts)) (sub_append _ (pl t) _ (flat ts) (pieces_sub Outside t) (all_pieces_sub ts))

-- statements and their fault
quote_place : Quoting → List Place
quote_place Outside = []
quote_place (Inside q) = q.place ∷ []
quote_place (Closed q) = q.place ∷ []

quote_sub : (w : Quoting) (x : Letter) (qs : List Place) → Sub (quote_place (after w x) ++ qs) (quote_place w ++ (x.place ∷ qs))
unfolding quote_place after
quote_sub Outside x qs = by (is_quote x.byte)
  where
    by : (t : Bool) → Sub (quote_place (if t then Inside x else Outside) ++ qs) (x.place ∷ qs)
    by true = sub_all (x.place ∷ qs)
    by false = sub_skip qs qs x.place (sub_all qs)
quote_sub (Inside q) x qs = by (x.byte == q.byte)
  where
    by : (t : Bool) → Sub (quote_place (if t then Closed q else Inside q) ++ qs) (q.place ∷ x.place ∷ qs)
    by true = inl (refl, sub_skip qs qs x.place (sub_all qs))
    by false = inl (refl, sub_skip qs qs x.place (sub_all qs))
quote_sub (Closed q) x qs = by (is_quote x.byte) (x.byte == q.byte)
  where
    by : (t u : Bool) → Sub (quote_place (if t then Inside (if u then q else x) else Outside) ++ qs) (q.place ∷ x.place ∷ qs)
    by true true = inl (refl, sub_skip qs qs x.place (sub_all qs))
    by true false = sub_skip (x.place ∷ qs) (x.place ∷ qs) q.place (sub_all (x.place ∷ qs))
    by false u = sub_skip qs (x.place ∷ qs) q.place (sub_skip qs qs x.place (sub_all qs))

at_place : (w : Quoting) (d : ℕ) (x : Letter) (b : Break) → fault_at w d x ≡ Some b → b.place ≡ x.place
unfolding fault_at break_at
at_place w d x b e = by (is_open w) (broken d x.byte) refl refl
  where
    by : (t : Bool) (o : Option Rule) → is_open w ≡ t → broken d x.byte ≡ o → b.place ≡ x.place
    by true o p q = let k = rw p at e in cc
    by false None p q = let k = rw (p, q) at e in cc
    by false (Some r) p q = let k = rw (p, q) at e in let k2 : record { phase = 1; place = x.place; rule = r; name = None } ≡ b = cc in ap (λ (c : Break). c.place) (sym k2)

fault_sub : (w : Quoting) (d : ℕ) (s : List Letter) (b : Break) → fault_in w d s ≡ Some b → Sub (b.place ∷ []) (quote_place w ++ pl s)
unfolding fault_in unclosed break_at quote_place pl
fault_sub Outside d [] b e = cc
fault_sub (Inside q) d [] b e = let k2 : record { phase = 1; place = q.place; rule = S2; name = None } ≡ b = cc in inl (ap (λ (c : Break). c.place) (sym k2), tt)
fault_sub (Closed q) d [] b e = cc
fault_sub w d (x ∷ s) b e = by (fault_at w d x) refl (λ h. fault_sub (after w x) (depth_in w d x) s b h)
  where
    by : (o : Option Break) → fault_at w d x ≡ o → (fault_in (after w x) (depth_in w d x) s ≡ Some b → Sub (b.place ∷ []) (quote_place (after w x) ++ pl s)) → Sub (b.place ∷ []) (quote_place w ++ pl (x ∷ s))
    by None h more = let k = rw (h, fault_in) at e in sub_trans (b.place ∷ []) (quote_place (after w x) ++ pl s) (quote_place w ++ (x.place ∷ pl s)) (more k) (quote_sub w x (pl s))
    by (Some c) h more = let k = rw (h, fault_in) at e in let k2 : c ≡ b = cc in sub_before (quote_place w) (b.place ∷ []) (x.place ∷ pl s) (inl (at_place w d x b (h ∙ ap Some k2), tt))

trimmed_sub : (s : List Letter) → Sub (pl (trimmed s)) (pl s)
unfolding trimmed pl
trimmed_sub [] = tt
trimmed_sub (x ∷ s) = by (is_blank x.byte) (trimmed_sub s)
  where
    by : (t : Bool) → Sub (pl (trimmed s)) (pl s) → Sub (pl (if t then trimmed s else x ∷ s)) (pl (x ∷ s))
    by true h = sub_skip (pl (trimmed s)) (pl s) x.place h
    by false h = sub_all (pl (x ∷ s))

-- the places of parts
shown : Parts → List Place
shown p = places_in p.statements ++ place_of p.fault

statement_sub : (s : List Letter) (rest : Parts) (qs : List Place) (t : Bool) → Sub (shown rest) qs → Sub (shown (if t then rest else with_first (spelled (trimmed s)) rest)) (pl s ++ qs)
unfolding shown with_first places_in spelled pl
statement_sub s rest qs true h = sub_before (pl s) (shown rest) qs h
statement_sub s rest qs false h = rw (append_assoc (pl (trimmed s)) (places_in rest.statements) (place_of rest.fault)) (sub_append (pl (trimmed s)) (pl s) (shown rest) qs (trimmed_sub s) h)

parts_sub : (ss : List (List Letter)) → Sub (shown (parts ss)) (flat ss)
unfolding shown parts nothing flat places_in with_statement unless_fault all_blank faulty pl quote_place
parts_sub [] = tt
parts_sub (s ∷ ss) = by (fault_in Outside 0 s) refl (parts_sub ss)
  where
    by : (o : Option Break) → fault_in Outside 0 s ≡ o → Sub (shown (parts ss)) (flat ss) → Sub (shown (unless_fault (fault_in Outside 0 s) (with_statement s (parts ss)))) (pl s ++ flat ss)
    by None e h = rw (e, unless_fault) (statement_sub s (parts ss) (flat ss) (all_blank s) h)
    by (Some f) e h = rw (e, unless_fault, faulty) (sub_trans (f.place ∷ []) (pl s) (pl s ++ flat ss) (fault_sub Outside 0 s f e) (sub_front (pl s) (flat ss)))

source_sub : (file : ℕ) (bytes : List ℕ) → Sub (shown (parts_of file bytes)) (pl (letters file 1 1 bytes))
unfolding parts_of lines_of
source_sub file bytes =
    let xs : List Letter = letters file 1 1 bytes in
    let ls : List (List Letter) = line xs ∷ lines_below xs in
    sub_trans _ (flat (all_pieces (texts (lines_of xs)))) _ (parts_sub (all_pieces (texts (lines_of xs))))
    (sub_trans _ (flat (texts (lines_of xs))) _ (all_pieces_sub (texts (lines_of xs)))
    (sub_trans _ (flat (lines_of xs)) _ (texts_sub (lines_of xs))
    (sub_trans _ (flat ls) _ (filter_sub (λ l. not (is_comment l)) ls) (lines_sub xs))))

-- the order of places
place : ℕ → ℕ → ℕ → Place
place f l c = record { file = f; line = l; column = c }

less : (x y : ℕ) (xs ys : List ℕ) → x < y → before (x ∷ xs) (y ∷ ys) ≡ true
less x y xs ys h = rw (lt-ltb x y h) refl

same : (x : ℕ) (xs ys : List ℕ) → before xs ys ≡ true → before (x ∷ xs) (x ∷ ys) ≡ true
same x xs ys h = rw (le-ltb x x (omega arith), eq-eqb x x refl, h) refl

in_file : (p q : Place) → p.file < q.file → Precedes p q
in_file p q h = record { earlier = less p.file q.file (p.line ∷ p.column ∷ []) (q.line ∷ q.column ∷ []) h }

on_line : (f l c m k : ℕ) → l < m → Precedes (place f l c) (place f m k)
unfolding place
on_line f l c m k h = record { earlier = same f (l ∷ c ∷ []) (m ∷ k ∷ []) (less l m (c ∷ []) (k ∷ []) h) }

in_column : (f l c k : ℕ) → c < k → Precedes (place f l c) (place f l k)
unfolding place
in_column f l c k h = record { earlier = same f (l ∷ c ∷ []) (l ∷ k ∷ []) (same l (c ∷ []) (k ∷ []) (less c k [] [] h)) }

-- a place behind another
Behind : (l c m k : ℕ) → Type 0
Behind l c m k = (l < m) ⊎ ((l ≡ m) × (c < k))

is_behind : (f l c m k : ℕ) → Behind l c m k → Precedes (place f l c) (place f m k)
unfolding Behind
is_behind f l c m k (inl h) = on_line f l c m k h
is_behind f l c m k (inr h) = rw h.0 (in_column f m c k h.1)

more_line : (l c m k : ℕ) → Behind l c m k → Behind l c (m + 1) 1
unfolding Behind
more_line l c m k (inl h) = inl (omega arith)
more_line l c m k (inr h) = let e = h.0 in inl (omega arith)

more_column : (l c m k : ℕ) → Behind l c m k → Behind l c m (k + 1)
unfolding Behind
more_column l c m k (inl h) = inl h
more_column l c m k (inr h) = let e = h.1 in inr (h.0, omega arith)

letters_behind : (f l c m k : ℕ) (bs : List ℕ) → Behind l c m k → EachOf (Precedes (place f l c)) (pl (letters f m k bs))
unfolding pl letters place
letters_behind f l c m k [] h = tt
letters_behind f l c m k (b ∷ bs) h = (is_behind f l c m k h, by (b == 10) (letters_behind f l c (m + 1) 1 bs (more_line l c m k h)) (letters_behind f l c m (k + 1) bs (more_column l c m k h)))
  where
    by : (t : Bool) → EachOf (Precedes (place f l c)) (pl (letters f (m + 1) 1 bs)) → EachOf (Precedes (place f l c)) (pl (letters f m (k + 1) bs)) → EachOf (Precedes (place f l c)) (pl (if t then letters f (m + 1) 1 bs else letters f m (k + 1) bs))
    by true g h = g
    by false g h = h

letters_ascend : (f l c : ℕ) (bs : List ℕ) → Ascend (pl (letters f l c bs))
unfolding Ascend pl letters place Behind
letters_ascend f l c [] = tt
letters_ascend f l c (b ∷ bs) = by (b == 10) (letters_ascend f (l + 1) 1 bs) (letters_ascend f l (c + 1) bs)
  where
    by : (t : Bool) → Ascend (pl (letters f (l + 1) 1 bs)) → Ascend (pl (letters f l (c + 1) bs))
        → EachOf (Precedes (place f l c)) (pl (if t then letters f (l + 1) 1 bs else letters f l (c + 1) bs)) × Ascend (pl (if t then letters f (l + 1) 1 bs else letters f l (c + 1) bs))
    by true g h = (letters_behind f l c (l + 1) 1 bs (inl (omega arith)), g)
    by false g h = (letters_behind f l c l (c + 1) bs (inr (refl, omega arith)), h)

letters_file : (f l c : ℕ) (bs : List ℕ) → EachOf (λ p. p.file ≡ f) (pl (letters f l c bs))
unfolding pl letters
letters_file f l c [] = tt
letters_file f l c (b ∷ bs) = (refl, by (b == 10) (letters_file f (l + 1) 1 bs) (letters_file f l (c + 1) bs))
  where
    by : (t : Bool) → EachOf (λ (p : Place). p.file ≡ f) (pl (letters f (l + 1) 1 bs)) → EachOf (λ (p : Place). p.file ≡ f) (pl (letters f l (c + 1) bs)) → EachOf (λ (p : Place). p.file ≡ f) (pl (if t then letters f (l + 1) 1 bs else letters f l (c + 1) bs))
    by true g h = g
    by false g h = h

-- what holds of a list's places holds of some of them
sub_each : (P : Place → Type 0) (ps qs : List Place) → Sub ps qs → EachOf P qs → EachOf P ps
sub_each P [] qs a h = tt
sub_each P (p ∷ ps) [] a h = absurd a
sub_each P (p ∷ ps) (q ∷ qs) (inl a) h = (subst P (sym a.0) h.0, sub_each P ps qs a.1 h.1)
sub_each P (p ∷ ps) (q ∷ qs) (inr a) h = sub_each P (p ∷ ps) qs a h.1

sub_ascend : (ps qs : List Place) → Sub ps qs → Ascend qs → Ascend ps
unfolding Ascend
sub_ascend [] qs a h = tt
sub_ascend (p ∷ ps) [] a h = absurd a
sub_ascend (p ∷ ps) (q ∷ qs) (inl a) h = (sub_each (Precedes p) ps qs a.1 (subst (λ (r : Place). EachOf (Precedes r) qs) (sym a.0) h.0), sub_ascend ps qs a.1 h.1)
sub_ascend (p ∷ ps) (q ∷ qs) (inr a) h = sub_ascend (p ∷ ps) qs a h.1

-- one source behind another
each_append : (P : Place → Type 0) (ps qs : List Place) → EachOf P ps → EachOf P qs → EachOf P (ps ++ qs)
each_append P [] qs a b = b
each_append P (p ∷ ps) qs a b = (a.0, each_append P ps qs a.1 b)

file_behind : (f : ℕ) (p : Place) (qs : List Place) → p.file ≡ f → EachOf (λ q. f + 1 ≤ q.file) qs → EachOf (Precedes p) qs
file_behind f p [] e h = tt
file_behind f p (q ∷ qs) e h = let k = h.0 in (in_file p q (omega arith), file_behind f p qs e h.1)

ascend_append : (f : ℕ) (ps qs : List Place) → Ascend ps → EachOf (λ p. p.file ≡ f) ps → Ascend qs → EachOf (λ q. f + 1 ≤ q.file) qs → Ascend (ps ++ qs)
unfolding Ascend
ascend_append f [] qs a e b h = b
ascend_append f (p ∷ ps) qs a e b h = (each_append (Precedes p) ps qs a.0 (file_behind f p qs e.0 h), ascend_append f ps qs a.1 e.1 b h)

at_least : (f : ℕ) (ps : List Place) → EachOf (λ p. p.file ≡ f) ps → EachOf (λ p. f ≤ p.file) ps
at_least f [] h = tt
at_least f (p ∷ ps) h = let k = h.0 in (omega arith, at_least f ps h.1)

at_least_less : (f : ℕ) (ps : List Place) → EachOf (λ p. f + 1 ≤ p.file) ps → EachOf (λ p. f ≤ p.file) ps
at_least_less f [] h = tt
at_least_less f (p ∷ ps) h = let k = h.0 in (omega arith, at_least_less f ps h.1)

places-append : (ss ts : List Spelled) → places_in (ss ++ ts) ≡ places_in ss ++ places_in ts
unfolding places_in
places-append [] ts = refl
places-append (s ∷ ss) ts = ap (λ (p : List Place). s.places ++ p) (places-append ss ts) ∙ sym (append_assoc s.places (places_in ss) (places_in ts))

then_shown : (f : ℕ) (a b : Parts) (o : Option Break) → a.fault ≡ o → Ascend (shown a) → EachOf (λ p. p.file ≡ f) (shown a) → Ascend (shown b) → EachOf (λ q. f + 1 ≤ q.file) (shown b)
    → Ascend (shown (then_parts a b)) × EachOf (λ p. f ≤ p.file) (shown (then_parts a b))
unfolding then_parts shown
then_shown f a b (Some x) e h i j k = rw (e, then_parts) (h, at_least f _ i)
then_shown f a b None e h i j k =
    let front : Sub (places_in a.statements) (places_in a.statements ++ place_of a.fault) = sub_front (places_in a.statements) (place_of a.fault) in
    let one : Ascend (places_in a.statements) = sub_ascend _ _ front h in
    let two : EachOf (λ (p : Place). p.file ≡ f) (places_in a.statements) = sub_each _ _ _ front i in
    rw (e, then_parts) (rw (places-append a.statements b.statements) (rw (append_assoc (places_in a.statements) (places_in b.statements) (place_of b.fault))
    (ascend_append f _ _ one two j k, each_append _ _ _ (at_least f _ two) (at_least_less f _ k))))

from_shown : (file room : ℕ) (bs : List (List ℕ)) → Ascend (shown (parts_from file room bs)) × EachOf (λ p. file ≤ p.file) (shown (parts_from file room bs))
unfolding parts_from shown nothing faulty break_at Ascend places_in
from_shown file room [] = (tt, tt)
from_shown file room (b ∷ bs) = by (nat_lt room (length b)) refl (from_shown (file + 1) (room - length b) bs)
  where
    by : (t : Bool) → nat_lt room (length b) ≡ t → Ascend (shown (parts_from (file + 1) (room - length b) bs)) × EachOf (λ (p : Place). file + 1 ≤ p.file) (shown (parts_from (file + 1) (room - length b) bs))
        → Ascend (shown (parts_from file room (b ∷ bs))) × EachOf (λ (p : Place). file ≤ p.file) (shown (parts_from file room (b ∷ bs)))
    by true e h = rw (e, parts_from) ((tt, tt), (omega arith, tt))
    by false e h =
        rw (e, parts_from)
        (then_shown file (parts_of file b) (parts_from (file + 1) (room - length b) bs) (parts_of file b).fault refl
        (sub_ascend _ _ (source_sub file b) (letters_ascend file 1 1 b)) (sub_each _ _ _ (source_sub file b) (letters_file file 1 1 b)) h.0 h.1)

pub stand_in_order : StandInOrder
unfolding cut_of shown
stand_in_order sources = (from_shown 1 16777216 sources).0
