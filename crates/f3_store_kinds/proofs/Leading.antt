-- References that lead by one typing lead by those that have more.
use Rattle.std.proofs.Common.{◌≡◌, ◌∙◌, ap, ℕ, zero, suc, ◌<◌, List, [], ◌∷◌, ◌++◌, length, take, Option, Some, refl, arith}
use Rattle.std.specs.Prelude.{slice_get}
use Rattle.f3_program.specs.declared.declarations.Base.{Base}
use Rattle.f3_program.specs.declared.declarations.Derived.{Derived}
use Rattle.f3_program.specs.declared.declarations.Kind.{Kind}
use Rattle.f3_meaning_whole.specs.Store.{Root, Static, Local, Path}
use Rattle.f3_meaning_whole.specs.Reference.{Reach, One, Many, Reference}
use Rattle.f3_meaning_whole.specs.Formed.{found, of_kind}
use Rattle.f3_cell_kinds.proofs.Asked.{found_is}
use Rattle.f3_store_kinds.specs.Typing.{Typing, kind_by, kind_at, cut, extended, IsBefore, LeadsTo, AllLeadTo, IsArray, LeadsBy, Leads, EachBy, EachLeads, AreParts, PartsBy, AllLead}

-- what one has on its levels, the other has there too
pub record Within (g h : Typing) : Type 0 where
  pub statics : h.statics ≡ g.statics
  pub levels : (l : ℕ) (ks : List Kind) → slice_get g.levels l ≡ Some ks → slice_get h.levels l ≡ Some ks

get_more : {A : Type 0} (xs ys : List A) (n : ℕ) (x : A) → slice_get xs n ≡ Some x → slice_get (xs ++ ys) n ≡ Some x
get_more [] ys n x e = cc
get_more (y ∷ xs) ys zero x e = e
get_more (y ∷ xs) ys (suc n) x e = get_more xs ys n x e

pub get_behind : {A : Type 0} (xs : List A) (y : A) (ys : List A) → slice_get (xs ++ y ∷ ys) (length xs) ≡ Some y
get_behind [] y ys = refl
get_behind (x ∷ xs) y ys = get_behind xs y ys

get_less : {A : Type 0} (m n : ℕ) (xs : List A) (x : A) → slice_get (take m xs) n ≡ Some x → slice_get xs n ≡ Some x
get_less zero n xs x e = cc
get_less (suc m) n [] x e = cc
get_less (suc m) zero (y ∷ xs) x e = e
get_less (suc m) (suc n) (y ∷ xs) x e = get_less m n xs x e

get_kept : {A : Type 0} (m n : ℕ) (xs : List A) (x : A) → n < m → slice_get xs n ≡ Some x → slice_get (take m xs) n ≡ Some x
get_kept zero n xs x h e = absurd (omega arith)
get_kept (suc m) n [] x h e = cc
get_kept (suc m) zero (y ∷ xs) x h e = e
get_kept (suc m) (suc n) (y ∷ xs) x h e = get_kept m n xs x (omega arith) e

get_before : {A : Type 0} (m n : ℕ) (xs : List A) (x : A) → slice_get (take m xs) n ≡ Some x → n < m
get_before zero n xs x e = cc
get_before (suc m) n [] x e = cc
get_before (suc m) zero (y ∷ xs) x e = omega arith
get_before (suc m) (suc n) (y ∷ xs) x e = let h = get_before m n xs x e in omega (arith, h)

-- where one of two has less left, so has the other
get_cut : {A : Type 0} (m n : ℕ) (xs ys : List A) (x : A) → ((l : ℕ) (y : A) → slice_get xs l ≡ Some y → slice_get ys l ≡ Some y) → slice_get (take m xs) n ≡ Some x →
    slice_get (take m ys) n ≡ Some x
get_cut zero n xs ys x f e = cc
get_cut (suc m) n [] ys x f e = cc
get_cut (suc m) zero (y ∷ xs) [] x f e = f zero x e
get_cut (suc m) (suc n) (y ∷ xs) [] x f e = let q = f (suc n) x (get_less m n xs x e) in cc
get_cut (suc m) zero (y ∷ xs) (z ∷ ys) x f e = f zero x e
get_cut (suc m) (suc n) (y ∷ xs) (z ∷ ys) x f e = get_cut m n xs ys x (λ l w q. f (suc l) w q) e

pub within_cut : (n : ℕ) (g : Typing) → Within (cut n g) g
within_cut n g = record { statics = refl; levels = λ l ks e. get_less n l g.levels ks e }

pub within_more : (g : Typing) (ks : List Kind) → Within g (extended g ks)
within_more g ks = record { statics = refl; levels = λ l js e. get_more g.levels (ks ∷ []) l js e }

pub within_both : (n : ℕ) (g h : Typing) → Within g h → Within (cut n g) (cut n h)
within_both n g h w = record { statics = w.statics; levels = λ l ks e. get_cut n l g.levels h.levels ks w.levels e }

pub within_then : (f g h : Typing) → Within f g → Within g h → Within f h
within_then f g h v w = record { statics = w.statics ∙ v.statics; levels = λ l ks e. w.levels l ks (v.levels l ks e) }

take_front : {A : Type 0} (xs ys : List A) → take (length xs) (xs ++ ys) ≡ xs
take_front [] ys = refl
take_front (x ∷ xs) ys = ap (λ l. x ∷ l) (take_front xs ys)

-- a level that begins and ends
pub cut_more : (n : ℕ) (g : Typing) (kss : List (List Kind)) → n ≡ length g.levels → cut n (record { statics = g.statics; levels = g.levels ++ kss }) ≡ g
cut_more n g kss e =
    ap (λ (m : ℕ). cut m (record { statics = g.statics; levels = g.levels ++ kss })) e
    ∙ ap (λ (l : List (List Kind)). record { statics = g.statics; levels = l }) (take_front g.levels kss)

take_both : {A : Type 0} (xs ys zs : List A) → take (length xs) ((xs ++ ys) ++ zs) ≡ xs
take_both [] ys zs = refl
take_both (x ∷ xs) ys zs = ap (λ l. x ∷ l) (take_both xs ys zs)

-- two levels that begin and end
pub cut_two : (n : ℕ) (g : Typing) (ks js : List Kind) → n ≡ length g.levels → cut n (extended (extended g ks) js) ≡ g
cut_two n g ks js e =
    ap (λ (m : ℕ). cut m (extended (extended g ks) js)) e
    ∙ ap (λ (l : List (List Kind)). record { statics = g.statics; levels = l }) (take_both g.levels (ks ∷ []) (js ∷ []))

get_first : {A : Type 0} (xs : List A) (y z : A) → slice_get ((xs ++ y ∷ []) ++ z ∷ []) (length xs) ≡ Some y
get_first [] y z = refl
get_first (x ∷ xs) y z = get_first xs y z

get_second : {A : Type 0} (xs : List A) (y z : A) → slice_get ((xs ++ y ∷ []) ++ z ∷ []) (suc (length xs)) ≡ Some z
get_second [] y z = refl
get_second (x ∷ xs) y z = get_second xs y z

append_both : {A : Type 0} (xs : List A) (y z : A) → (xs ++ y ∷ []) ++ z ∷ [] ≡ xs ++ y ∷ z ∷ []
append_both [] y z = refl
append_both (x ∷ xs) y z = ap (λ l. x ∷ l) (append_both xs y z)

pub both_more : (g : Typing) (ks js : List Kind) → extended (extended g ks) js ≡ record { statics = g.statics; levels = g.levels ++ ks ∷ js ∷ [] }
both_more g ks js = ap (λ (l : List (List Kind)). record { statics = g.statics; levels = l }) (append_both g.levels ks js)

-- the levels of values that are held, and of variables
pub held_level : (n : ℕ) (g : Typing) (ks js : List Kind) → n ≡ length g.levels → slice_get (extended (extended g ks) js).levels n ≡ Some ks
held_level n g ks js e = ap (λ m. slice_get (extended (extended g ks) js).levels m) e ∙ get_first g.levels ks js

pub variables_level : (n : ℕ) (g : Typing) (ks js : List Kind) → n ≡ length g.levels → slice_get (extended (extended g ks) js).levels (suc n) ≡ Some js
variables_level n g ks js e = ap (λ m. slice_get (extended (extended g ks) js).levels (suc m)) e ∙ get_second g.levels ks js

pub last_level : (n : ℕ) (g : Typing) (ks : List Kind) → n ≡ length g.levels → slice_get (extended g ks).levels n ≡ Some ks
last_level n g ks e = ap (λ m. slice_get (extended g ks).levels m) e ∙ get_behind g.levels ks []

module _ (types : List Derived) where
  kind_more : (g h : Typing) (t : Root) (k : Kind) → Within g h → kind_at g t ≡ Some k → kind_at h t ≡ Some k
  kind_more g h (Static i) k w e = ap (λ (ks : List Kind). slice_get ks i) w.statics ∙ e
  kind_more g h (Local l i) k w e =
      let f = found_is (slice_get g.levels l) (λ (ks : List Kind). slice_get ks i) k e in
      ap (λ (o : Option (List Kind)). found o (λ (ks : List Kind). slice_get ks i)) (w.levels l f.0 f.1) ∙ f.2

  pub path_more : (g h : Typing) (k : Kind) (p : Path) → Within g h → LeadsTo types g k p → LeadsTo types h k p
  path_more g h k p w e =
      let f = found_is (kind_at g p.root) (kind_by types p.steps) k e in
      ap (λ (o : Option Kind). found o (kind_by types p.steps)) (kind_more g h p.root f.0 w f.1) ∙ f.2

  paths_more : (g h : Typing) (k : Kind) (ps : List Path) → Within g h → AllLeadTo types g k ps → AllLeadTo types h k ps
  paths_more g h k [] w e = tt
  paths_more g h k (p ∷ ps) w e = (path_more g h k p w e.0, paths_more g h k ps w e.1)

  array_more : (g h : Typing) (p : Path) → Within g h → IsArray types g p → IsArray types h p
  array_more g h p w a = record { kind = a.kind; leads = path_more g h a.kind p w a.leads; whole = a.whole; many = a.many }

  by_more : (g h : Typing) (k : Kind) (p : Path) (reach : Reach) → Within g h → LeadsBy types g k p reach → LeadsBy types h k p reach
  by_more g h k p One w e = path_more g h k p w e
  by_more g h k p (Many ss ps) w e = (array_more g h p w e.0, paths_more g h (of_kind k.of 0) ps w e.1)

  pub leads_more : (g h : Typing) (k : Kind) (r : Reference) → Within g h → Leads types g k r → Leads types h k r
  leads_more g h k r w e = by_more g h k r.path r.reach w e

  each_by_more : (g h : Typing) (k : Kind) (p : Path) (reach : Reach) → Within g h → EachBy types g k p reach → EachBy types h k p reach
  each_by_more g h k p One w e = path_more g h k p w e
  each_by_more g h k p (Many ss ps) w e = (array_more g h p w e.0, paths_more g h k ps w e.1)

  pub each_more : (g h : Typing) (k : Kind) (r : Reference) → Within g h → EachLeads types g k r → EachLeads types h k r
  each_more g h k r w e = each_by_more g h k r.path r.reach w e

  parts_more : (g h : Typing) (of : Base) (n : ℕ) (ps : List Path) → Within g h → AreParts types g of n ps → AreParts types h of n ps
  parts_more g h of n [] w e = tt
  parts_more g h of n (p ∷ ps) w e = ((e.0.0, e.0.1, path_more g h (of_kind of 0) e.0.0 w e.0.2), parts_more g h of n ps w e.1)

  pub parts_by_more : (g h : Typing) (of : Base) (n : ℕ) (reach : Reach) → Within g h → PartsBy types g of n reach → PartsBy types h of n reach
  parts_by_more g h of n One w e = tt
  parts_by_more g h of n (Many ss ps) w e = parts_more g h of n ps w e

  pub all_more : (g h : Typing) (ks : List Kind) (rs : List Reference) → Within g h → AllLead types g ks rs → AllLead types h ks rs
  all_more g h [] [] w e = tt
  all_more g h [] (r ∷ rs) w e = absurd e
  all_more g h (k ∷ ks) [] w e = absurd e
  all_more g h (k ∷ ks) (r ∷ rs) w e = (leads_more g h k r w e.0, all_more g h ks rs w e.1)

  -- a path from an object on another level
  pub path_kept : (n : ℕ) (g : Typing) (k : Kind) (p : Path) → IsBefore n p.root → LeadsTo types g k p → LeadsTo types (cut n g) k p
  path_kept n g k p b e =
      let f = found_is (kind_at g p.root) (kind_by types p.steps) k e in
      ap (λ (o : Option Kind). found o (kind_by types p.steps)) (by_root p.root f.0 b f.1) ∙ f.2
    where
      by_root : (t : Root) (j : Kind) → IsBefore n t → kind_at g t ≡ Some j → kind_at (cut n g) t ≡ Some j
      by_root (Static i) j b e = e
      by_root (Local l i) j b e =
          let f = found_is (slice_get g.levels l) (λ (ks : List Kind). slice_get ks i) j e in
          ap (λ (o : Option (List Kind)). found o (λ (ks : List Kind). slice_get ks i)) (get_kept n l g.levels f.0 b f.1) ∙ f.2

  -- none from those that have ended
  pub path_before : (n : ℕ) (g : Typing) (k : Kind) (p : Path) → LeadsTo types (cut n g) k p → IsBefore n p.root
  path_before n g k p e = by_root p.root (found_is (kind_at (cut n g) p.root) (kind_by types p.steps) k e).0 (found_is (kind_at (cut n g) p.root) (kind_by types p.steps) k e).1
    where
      by_root : (t : Root) (j : Kind) → kind_at (cut n g) t ≡ Some j → IsBefore n t
      by_root (Static i) j e = tt
      by_root (Local l i) j e =
          let f = found_is (slice_get (take n g.levels) l) (λ (ks : List Kind). slice_get ks i) j e in get_before n l g.levels f.0 f.1
