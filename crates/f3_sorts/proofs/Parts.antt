-- Parts of code with their sorts, one behind another.
use Rattle.std.proofs.Common.{◌≡◌, ℕ, zero, suc, ◌+◌, List, [], ◌∷◌, ◌++◌, length, Option, Some, None, refl, sym, ap, ◌∙◌, subst, arith, length-append}
use Rattle.std.specs.Prelude.{slice_get}
use Rattle.f3_code.specs.State.{Line}
use Rattle.f3_code.specs.Code.{Ways, farther}
use Rattle.f3_sorts.specs.Effect.{Sort, on, effect}
use Rattle.f3_sorts.specs.Sorts.{IsNext, AreFar, Leads, IsAt}

-- what an instruction leaves for the next line
abbrev pub left_of : Option (List Sort) → List Sort
left_of None = []
left_of (Some xs) = xs

-- so many go, and what is beneath stays
pub record Gone (h : List Sort) (k : ℕ) (left : List Sort) : Type 0 where
  pub gone : List Sort
  pub many : length gone ≡ k
  pub is : h ≡ gone ++ left

module _ (sorts : ℕ → List Sort) where
  -- these are the sorts of the lines from this one on
  abbrev pub SortsAt : ℕ → List (List Sort) → Type 0
  SortsAt pc [] = Unit {0}
  SortsAt pc (h ∷ hs) = (sorts pc ≡ h) × SortsAt (pc + 1) hs

  -- these lines, from this one on, are as their sorts ask
  abbrev pub LinesAt : ℕ → List Line → Type 0
  LinesAt pc [] = Unit {0}
  LinesAt pc (l ∷ ls) = IsAt sorts pc l.act × LinesAt (pc + 1) ls

  pub sorts_front : (pc : ℕ) (a b : List (List Sort)) → SortsAt pc (a ++ b) → SortsAt pc a
  sorts_front pc [] b h = tt
  sorts_front pc (x ∷ a) b h = (h.0, sorts_front (pc + 1) a b h.1)

  pub sorts_back : (pc : ℕ) (a b : List (List Sort)) → SortsAt pc (a ++ b) → SortsAt (pc + length a) b
  sorts_back pc [] b h = let e : pc ≡ pc + 0 = omega arith in subst (λ n. SortsAt n b) e h
  sorts_back pc (x ∷ a) b h =
      let e : pc + 1 + length a ≡ pc + length (x ∷ a) = omega arith in
      subst (λ n. SortsAt n b) e (sorts_back (pc + 1) a b h.1)

  pub lines_on : (pc : ℕ) (a b : List Line) → LinesAt pc a → LinesAt (pc + length a) b → LinesAt pc (a ++ b)
  lines_on pc [] b h k = let e : pc + 0 ≡ pc = omega arith in subst (λ n. LinesAt n b) e k
  lines_on pc (l ∷ a) b h k =
      let e : pc + length (l ∷ a) ≡ pc + 1 + length a = omega arith in
      (h.0, lines_on (pc + 1) a b h.1 (subst (λ n. LinesAt n b) e k))

  pub line_of : (lines : List Line) (base k : ℕ) (l : Line) → LinesAt base lines → slice_get lines k ≡ Some l → IsAt sorts (base + k) l.act
  line_of [] base k l h e = cc
  line_of (x ∷ lines) base zero l h e =
      let same : x ≡ l = cc in let at : base ≡ base + 0 = omega arith in
      subst (λ n. IsAt sorts n l.act) at (subst (λ y. IsAt sorts base y.act) same h.0)
  line_of (x ∷ lines) base (suc k) l h e =
      let at : base + 1 + k ≡ base + suc k = omega arith in
      subst (λ n. IsAt sorts n l.act) at (line_of lines (base + 1) k l h.1 e)

  -- a place under another name
  pub same_sorts : {h : List Sort} (pc pc' : ℕ) → pc ≡ pc' → sorts pc' ≡ h → sorts pc ≡ h
  same_sorts pc pc' e h = ap sorts e ∙ h

  -- A part of code with its sorts, which begins with such cells; `Out` says of the line behind it, and of those to which it
  -- leads, which cells stand there.
  pub record Part (Out : ℕ → Type 0) (lines : List Line) (hs : List (List Sort)) (h : List Sort) : Type 0 where
    pub same : length hs ≡ length lines
    pub keeps : (pc : ℕ) → SortsAt pc hs → Out (pc + length lines) → (sorts pc ≡ h) × LinesAt pc lines

  -- such cells stand at the line behind
  abbrev pub Onto : List Sort → ℕ → Type 0
  Onto h e = sorts e ≡ h

  -- where more is said of what is behind
  pub wider : {Out Less : ℕ → Type 0} {lines : List Line} {hs : List (List Sort)} {h : List Sort} → ((e : ℕ) → Out e → Less e) → Part Less lines hs h → Part Out lines hs h
  wider f p = record { same = p.same; keeps = λ pc has out. p.keeps pc has (f _ out) }

  pub nothing : (h : List Sort) → Part (Onto h) [] [] h
  nothing h = record { same = refl; keeps = λ pc has out. (same_sorts pc (pc + 0) (omega arith) out, tt) }

  -- a part and what stands behind it, with what the part asks of that
  pub behind_with : {Out Mid In : ℕ → Type 0} {a : List Line} {ha : List (List Sort)} {h : List Sort} (b : List Line) (hb : List (List Sort)) → length hb ≡ length b →
      ((pc : ℕ) → SortsAt pc hb → Out (pc + length b) → In pc × LinesAt pc b) → ((e : ℕ) → In e → Out (e + length b) → Mid e) →
      Part Mid a ha h → Part Out (a ++ b) (ha ++ hb) h
  behind_with {Out = Out} {a = a} {ha = ha} b hb same keeps f p = record {
    same = omega (arith, length-append ha hb, length-append a b, p.same, same);
    keeps = λ pc has out.
        let e : pc + length (a ++ b) ≡ pc + length a + length b = omega (arith, length-append a b) in
        let out' = subst Out e out in
        let has_b = subst (λ n. SortsAt (pc + n) hb) p.same (sorts_back pc ha hb has) in
        let rb = keeps (pc + length a) has_b out' in
        let ra = p.keeps pc (sorts_front pc ha hb has) (f (pc + length a) rb.0 out') in
        (ra.0, lines_on pc a b ra.1 rb.1);
  }

  -- one part behind another
  pub behind : {Out Mid : ℕ → Type 0} {a b : List Line} {ha hb : List (List Sort)} {h m : List Sort} → ((e : ℕ) → sorts e ≡ m → Out (e + length b) → Mid e) →
      Part Mid a ha h → Part Out b hb m → Part Out (a ++ b) (ha ++ hb) h
  behind {b = b} {hb = hb} {m = m} f p q = behind_with {In = λ e. sorts e ≡ m} b hb q.same q.keeps f p

  pub seq : {Out : ℕ → Type 0} {a b : List Line} {ha hb : List (List Sort)} {h m : List Sort} → Part (Onto m) a ha h → Part Out b hb m → Part Out (a ++ b) (ha ++ hb) h
  seq p q = behind (λ e is out. is) p q

  -- a line before a part, which leads to what is behind it too
  pub before : {Out : ℕ → Type 0} {b : List Line} {hb : List (List Sort)} {h m : List Sort} (l : Line) →
      ((pc : ℕ) → sorts pc ≡ h → sorts (pc + 1) ≡ m → Out (pc + 1 + length b) → IsAt sorts pc l.act) → Part Out b hb m → Part Out (l ∷ b) (h ∷ hb) h
  before {Out = Out} {b = b} l f q = record {
    same = ap suc q.same;
    keeps = λ pc has out.
        let e : pc + length (l ∷ b) ≡ pc + 1 + length b = omega arith in
        let out' = subst Out e out in
        let r = q.keeps (pc + 1) has.1 out' in
        (has.0, (f pc has.0 r.0 out', r.1));
  }

  -- a line that leads to the next one
  pub record Falls (l : Line) (h m : List Sort) : Type 0 where
    pub by : (pc : ℕ) → sorts pc ≡ h → sorts (pc + 1) ≡ m → IsAt sorts pc l.act

  pub plain : (l : Line) (rest : List Sort) → (effect l.act).far ≡ [] → ((pc : ℕ) → Leads sorts pc (effect l.act) → IsAt sorts pc l.act) →
      Falls l ((effect l.act).takes ++ rest) (left_of (effect l.act).next ++ rest)
  plain l rest none f = record {
    by = λ pc is next. f pc (record {
      rest = rest;
      before = is;
      next = to_next pc (effect l.act).next next;
      far = subst (λ x. AreFar sorts pc rest x) (sym none) tt;
    });
  }
    where
      to_next : (pc : ℕ) (o : Option (List Sort)) → sorts (pc + 1) ≡ left_of o ++ rest → IsNext sorts pc rest o
      to_next pc None is = tt
      to_next pc (Some xs) is = is

  -- the same cells under another name
  pub from_same : {l : Line} {m : List Sort} (h h' : List Sort) → h ≡ h' → Falls l h m → Falls l h' m
  from_same {l = l} {m = m} h h' e f = subst (λ x. Falls l x m) e f

  -- one cell goes
  pub drops : (l : Line) (x : Sort) (rest : List Sort) → ((pc : ℕ) → ((x : Sort) × Leads sorts pc (on (x ∷ []) [])) → IsAt sorts pc l.act) → Falls l (x ∷ rest) rest
  drops l x rest f = record { by = λ pc is next. f pc (x, record { rest = rest; before = is; next = next; far = tt }) }

  pub first : {Out : ℕ → Type 0} {l : Line} {b : List Line} {hb : List (List Sort)} {h m : List Sort} → Falls l h m → Part Out b hb m → Part Out (l ∷ b) (h ∷ hb) h
  first {l = l} f q = before l (λ pc is next out. f.by pc is next) q

  pub last : {l : Line} {h m : List Sort} → Falls l h m → Part (Onto m) (l ∷ []) (h ∷ []) h
  last {m = m} f = first f (nothing m)

  -- such cells under another name
  pub onto_same : {lines : List Line} {hs : List (List Sort)} {h : List Sort} (m m' : List Sort) → m ≡ m' → Part (Onto m) lines hs h → Part (Onto m') lines hs h
  onto_same m m' e p = wider (λ n is. is ∙ sym e) p

  -- a line that leads elsewhere alone, or nowhere
  pub before_end : {Out : ℕ → Type 0} {h : List Sort} (l : Line) → ((pc : ℕ) → sorts pc ≡ h → Out (pc + 1) → IsAt sorts pc l.act) → Part Out (l ∷ []) (h ∷ []) h
  before_end {Out = Out} l f = record {
    same = refl;
    keeps = λ pc has out. (has.0, (f pc has.0 (let e : pc + length (l ∷ []) ≡ pc + 1 = omega arith in subst Out e out), tt));
  }

  -- A line that leads to the second of two parts too, where the first goes on behind both.
  pub forked_keeps : {Out Mid : ℕ → Type 0} {a b : List Line} {ha hb : List (List Sort)} {h m n out : List Sort} (l j : Line) →
      ((pc : ℕ) → sorts pc ≡ h → sorts (pc + 1) ≡ m → sorts (pc + 1 + (length a + 1)) ≡ n → IsAt sorts pc l.act) →
      ((e : ℕ) → sorts e ≡ out → Out (e + 1 + length b) → Mid e) → ((e : ℕ) → sorts e ≡ out → sorts (e + 1) ≡ n → Out (e + 1 + length b) → IsAt sorts e j.act) →
      Part Mid a ha m → Part Out b hb n → (pc : ℕ) → SortsAt pc (h ∷ (ha ++ (out ∷ hb))) → Out (pc + length (l ∷ (a ++ (j ∷ b)))) →
      ((sorts pc ≡ h) × (sorts (pc + 1) ≡ m)) × LinesAt pc (l ∷ (a ++ (j ∷ b)))
  forked_keeps {Out = Out} {a = a} {b = b} {ha = ha} {hb = hb} {out = out} l j f g k p q pc has outs =
      let e : pc + length (l ∷ (a ++ (j ∷ b))) ≡ pc + 1 + length a + 1 + length b = omega (arith, length-append a (j ∷ b)) in
      let outs' = subst Out e outs in
      let has_b = subst (λ n. SortsAt (pc + 1 + n) (out ∷ hb)) p.same (sorts_back (pc + 1) ha (out ∷ hb) has.1) in
      let rb = q.keeps (pc + 1 + length a + 1) has_b.1 outs' in
      let ra = p.keeps (pc + 1) (sorts_front (pc + 1) ha (out ∷ hb) has.1) (g (pc + 1 + length a) has_b.0 outs') in
      let second = same_sorts (pc + 1 + (length a + 1)) (pc + 1 + length a + 1) (omega arith) rb.0 in
      ((has.0, ra.0), (f pc has.0 ra.0 second, lines_on (pc + 1) a (j ∷ b) ra.1 (k (pc + 1 + length a) has_b.0 rb.0 outs', rb.1)))

  pub forked_same : {Out Mid : ℕ → Type 0} {a b : List Line} {ha hb : List (List Sort)} {m n : List Sort} (h out : List Sort) (l j : Line) → Part Mid a ha m → Part Out b hb n →
      length (h ∷ (ha ++ (out ∷ hb))) ≡ length (l ∷ (a ++ (j ∷ b)))
  forked_same {a = a} {b = b} {ha = ha} {hb = hb} h out l j p q =
      omega (arith, length-append ha (out ∷ hb), length-append a (j ∷ b), p.same, q.same)

  pub forked : {Out Mid : ℕ → Type 0} {a b : List Line} {ha hb : List (List Sort)} {h m n out : List Sort} (l j : Line) →
      ((pc : ℕ) → sorts pc ≡ h → sorts (pc + 1) ≡ m → sorts (pc + 1 + (length a + 1)) ≡ n → IsAt sorts pc l.act) →
      ((e : ℕ) → sorts e ≡ out → Out (e + 1 + length b) → Mid e) → ((e : ℕ) → sorts e ≡ out → sorts (e + 1) ≡ n → Out (e + 1 + length b) → IsAt sorts e j.act) →
      Part Mid a ha m → Part Out b hb n → Part Out (l ∷ (a ++ (j ∷ b))) (h ∷ (ha ++ (out ∷ hb))) h
  forked {h = h} {out = out} l j f g k p q = record {
    same = forked_same h out l j p q;
    keeps = λ pc has outs. let r = forked_keeps l j f g k p q pc has outs in (r.0.0, r.1);
  }

  -- where a statement ends: which cells stand behind it, and where CYCLE, EXIT and RETURN lead
  pub record Exits (ws : Ways) (h : List Sort) (e : ℕ) : Type 0 where
    pub here : sorts e ≡ h
    pub cycle : sorts (e + ws.cycle) ≡ h
    pub exit : sorts (e + ws.exit) ≡ h
    -- which cells are left at a RETURN
    pub left : List Sort
    pub cells : Gone h ws.cells left
    pub ret : sorts (e + ws.ret) ≡ left

  pub exits_at : {ws : Ways} {h : List Sort} (e e' : ℕ) → e ≡ e' → Exits ws h e' → Exits ws h e
  exits_at {ws = ws} {h = h} e e' is x = subst (λ n. Exits ws h n) (sym is) x

  -- where so many lines more stand behind
  pub farther_exits : {ws : Ways} {h : List Sort} (k e : ℕ) → sorts e ≡ h → Exits ws h (e + k) → Exits (farther k ws) h e
  farther_exits {ws = ws} k e is x = record {
    here = is;
    cycle = same_sorts (e + (k + ws.cycle)) (e + k + ws.cycle) (omega arith) x.cycle;
    exit = same_sorts (e + (k + ws.exit)) (e + k + ws.exit) (omega arith) x.exit;
    left = x.left;
    cells = x.cells;
    ret = same_sorts (e + (k + ws.ret)) (e + k + ws.ret) (omega arith) x.ret;
  }
