-- One line more.
use Rattle.std.proofs.Common.{◌≡◌, ◌≢◌, ◌≤◌, ◌<◌, ℕ, zero, suc, ◌+◌, ◌-◌, ◌*◌, List, [], ◌∷◌, length, get_or, Option, None, Some, refl, sym, ap, ◌∙◌, subst, arith, below_more}
use Rattle.std.specs.Prelude.{slice_get}
use Rattle.std.proofs.lemmas.Option.{get_or_from_slice_get, slice_get-get_or}
use Rattle.f3_code.specs.declared.instruction.Instruction.{Instruction}
use Rattle.f3_code.specs.declared.instruction.Instruction.TheVariants as i
use Rattle.f3_gen_values.specs.declared.line.Line.{Line}
use Rattle.f3_heights.specs.Effect.{effect}
use Rattle.f3_heights.specs.Heights.{Leads, IsAt}
use Rattle.f3_sizes.specs.Part.{Onward, LeadsInto, IsNoted, AreNoted, Grows, IsReady, IsClosed, IsBegun, IsSameUpTo, unnoted}
use Rattle.f3_sizes.proofs.Ways.{grows_on, stays, noted_on, into_next_on, into_far_on, IsNote}

abbrev Notes : Type 0
Notes = List (Option ℕ)

pub onward_on : {P Q : ℕ → Type 0} (at : ℕ) (x : Instruction) → ((k : ℕ) → P k → Q k) → Onward P at (effect x) → Onward Q at (effect x)
onward_on at x f h = record { next = into_next_on at (effect x).next f h.next; far = into_far_on at (effect x).far f h.far }

pub leads_on : {P Q : ℕ → Type 0} (at : ℕ) (x : Instruction) → ((k : ℕ) → P k → Q k) → LeadsInto P at x → LeadsInto Q at x
leads_on at (i.GoBack d) f h = (h.0, f (at - d) h.1)
leads_on at x f h = onward_on at x f h

-- an instruction that does not lead back
abbrev pub IsOnward : Instruction → Type 0
IsOnward x = (d : ℕ) → x ≡ i.GoBack d → ⊥

pub leads_of : (height : ℕ → ℕ) (at : ℕ) (x : Instruction) → IsOnward x → IsAt height at x → Leads height at (effect x)
leads_of height at (i.GoBack d) n h = absurd (n d refl)
leads_of height at i.Back n h = record { rest = 0; before = omega (arith, h); next = tt; far = tt }
leads_of height at x n h = h

pub onward_of : {P : ℕ → Type 0} (at : ℕ) (x : Instruction) → IsOnward x → LeadsInto P at x → Onward P at (effect x)
onward_of at (i.GoBack d) n h = absurd (n d refl)
onward_of at x n h = h

pub into_of : {P : ℕ → Type 0} (at : ℕ) (x : Instruction) → IsOnward x → Onward P at (effect x) → LeadsInto P at x
into_of at (i.GoBack d) n h = absurd (n d refl)
into_of at x n h = h

pub ready : (height : ℕ → ℕ) (first : ℕ) (lines : List Line) (hs : Notes) (at cells : ℕ) (l : Line) → IsBegun height first lines hs → slice_get lines at ≡ Some l →
    slice_get hs at ≡ Some (Some cells) → IsOnward l.act → IsReady height hs at cells (effect l.act)
ready height first lines hs at cells l b is here n = record {
  noted = b.noted;
  here = here;
  leads = leads_of height at l.act n (b.part.heights at l is);
  onward = subst (λ m. Onward (λ j. j < m) at (effect l.act)) (sym b.same) (onward_of at l.act n (b.part.stays at l is));
}

-- ---- so far

pub record Passed (lines : List Line) (old new : Notes) (at : ℕ) : Type 0 where
  pub begun : (height : ℕ → ℕ) (first : ℕ) → IsBegun height first lines old → IsBegun height first lines new
  pub grows : Grows old new
  pub closed : IsClosed lines new at

pub passed_none : (lines : List Line) (hs : Notes) (from : ℕ) → IsClosed lines hs from → Passed lines hs hs from
passed_none lines hs from c = record { begun = λ height first b. b; grows = stays hs; closed = c }

-- before a line no less is known where more is noted of others
pub closed_on : (lines : List Line) (old new : Notes) (at : ℕ) → Grows old new → ((k : ℕ) → k < at → slice_get new k ≡ slice_get old k) → IsClosed lines old at →
    IsClosed lines new at
closed_on lines old new at g same c = λ k l lt is n.
    let was : IsNoted old k = (n.0, sym (same k lt) ∙ n.1) in
    leads_on k l.act (λ j h. noted_on old new j g h) (c k l lt is was)

pub closed_more : (lines : List Line) (hs : Notes) (at : ℕ) → IsClosed lines hs at → ((l : Line) → slice_get lines at ≡ Some l → IsNoted hs at → LeadsInto (IsNoted hs) at l.act) →
    IsClosed lines hs (at + 1)
closed_more lines hs at c here = λ k l lt is n.
    below_more (λ j. (l : Line) → slice_get lines j ≡ Some l → IsNoted hs j → LeadsInto (IsNoted hs) j l.act) at (λ j less l is n. c j l less is n) here k lt l is n

-- what is read of a line
pub read_note : (hs : Notes) (k h : ℕ) → get_or hs k None ≡ Some h → slice_get hs k ≡ Some (Some h)
read_note [] k h e = cc
read_note (x ∷ hs) zero h e = ap (λ y. Some y) e
read_note (x ∷ hs) (suc k) h e = read_note hs k h e

-- ---- a line

-- nothing was noted of it
pub unnoted_line : (lines : List Line) (old mid : Notes) (at : ℕ) → Passed lines old mid at → ((h : ℕ) → get_or mid at None ≡ Some h → ⊥) → Passed lines old mid (at + 1)
unnoted_line lines old mid at p none = record {
  begun = p.begun;
  grows = p.grows;
  closed = closed_more lines mid at p.closed (λ l is n. absurd (none n.0 (get_or_from_slice_get mid at (Some n.0) None n.1)));
}

-- it leads onward
pub onward_line : (lines : List Line) (old mid new : Notes) (at cells : ℕ) (l : Line) → Passed lines old mid at → slice_get lines at ≡ Some l → slice_get mid at ≡ Some (Some cells) →
    IsOnward l.act → ((height : ℕ → ℕ) → IsReady height mid at cells (effect l.act) → AreNoted height new) → Grows mid new → IsSameUpTo at mid new →
    Onward (IsNoted new) at (effect l.act) → length new ≡ length mid → Passed lines old new (at + 1)
onward_line lines old mid new at cells l p is here n noted g before o same = record {
  begun = λ height first b.
      let b' = p.begun height first b in
      record { part = b'.part; noted = noted height (ready height first lines mid at cells l b' is here n); same = same ∙ b'.same };
  grows = grows_on old mid new p.grows g;
  closed = closed_more lines new at (closed_on lines mid new at g (λ k lt. before k (omega arith)) p.closed) (λ x there m.
      let e : l ≡ x = let s : Some l ≡ Some x = sym is ∙ there in cc in
      subst (λ (y : Line). LeadsInto (IsNoted new) at y.act) e (into_of at l.act n o));
}

-- it leads back
pub record IsBack (height : ℕ → ℕ) (lines : List Line) (mid : Notes) (at cells over : ℕ) : Type 0 where
  pub within : at - over < length mid
  pub right : cells ≡ height (at - over)
  pub few : cells + 2 * unnoted mid ≤ 2 * length mid + 2
  pub less : over ≤ at

pub back_line : (height : ℕ → ℕ) (first : ℕ) (lines : List Line) (mid : Notes) (at cells over : ℕ) (l : Line) → IsBegun height first lines mid → slice_get lines at ≡ Some l →
    slice_get mid at ≡ Some (Some cells) → l.act ≡ i.GoBack over → IsBack height lines mid at cells over
back_line height first lines mid at cells over l b is here e =
    let same = subst (λ x. IsAt height at x) e (b.part.heights at l is) in
    let stays = subst (λ x. LeadsInto (λ j. j < length lines) at x) e (b.part.stays at l is) in
    let few = b.noted.few at cells here in record {
      within = omega (arith, stays.1, b.same);
      right = b.noted.right at cells here ∙ sym same;
      few = omega (arith, few);
      less = stays.0;
    }

back_begun : (height : ℕ → ℕ) (first : ℕ) (lines : List Line) (mid new : Notes) (at cells over : ℕ) (l : Line) → IsBegun height first lines mid →
    slice_get lines at ≡ Some l → slice_get mid at ≡ Some (Some cells) → l.act ≡ i.GoBack over → IsNote mid new (at - over) cells → length new ≡ length mid →
    IsBegun height first lines new
back_begun height first lines mid new at cells over l b is here e n same =
    let k = back_line height first lines mid at cells over l b is here e in
    record { part = b.part; noted = n.noted height b.noted k.right k.few; same = same ∙ b.same }

-- to a line of which nothing was noted
pub back_new : (lines : List Line) (old mid new : Notes) (at cells over : ℕ) (l : Line) → Passed lines old mid at → slice_get lines at ≡ Some l → slice_get mid at ≡ Some (Some cells) →
    l.act ≡ i.GoBack over → IsNote mid new (at - over) cells → length new ≡ length mid → Passed lines old new (at - over)
back_new lines old mid new at cells over l p is here e n same = record {
  begun = λ height first b. back_begun height first lines mid new at cells over l (p.begun height first b) is here e n same;
  grows = grows_on old mid new p.grows n.grows;
  closed = closed_on lines mid new (at - over) n.grows (λ k lt. let ne : k ≢ at - over = omega arith in n.others k ne)
      (λ k l lt is n. p.closed k l (omega arith) is n);
}

-- to one of which something was
pub back_known : (height : ℕ → ℕ) (first : ℕ) (lines : List Line) (old mid new : Notes) (at cells over : ℕ) (l : Line) → IsBegun height first lines old → Passed lines old mid at → slice_get lines at ≡ Some l →
    slice_get mid at ≡ Some (Some cells) → l.act ≡ i.GoBack over → IsNote mid new (at - over) cells → new ≡ mid → Passed lines old new (at + 1)
back_known height first lines old mid new at cells over l begun p is here e n same =
    let k = back_line height first lines mid at cells over l (p.begun height first begun) is here e in
    let there = subst (λ hs. IsNoted hs (at - over)) same n.there in
    let closed = closed_more lines mid at p.closed (λ x is' m.
    let s : l ≡ x = let t : Some l ≡ Some x = sym is ∙ is' in cc in
    let e' : x.act ≡ i.GoBack over = ap (λ (y : Line). y.act) (sym s) ∙ e in
    subst (λ y. LeadsInto (IsNoted mid) at y) (sym e') (k.less, there)) in
    let passed : Passed lines old mid (at + 1) = record { begun = p.begun; grows = p.grows; closed = closed } in
    subst (λ hs. Passed lines old hs (at + 1)) (sym same) passed

-- ---- the same of a line that is read

pub ready_read : (height : ℕ → ℕ) (first : ℕ) (lines : List Line) (old hs : Notes) (at cells : ℕ) (d : Line) → at < length lines → IsBegun height first lines old → Passed lines old hs at →
    get_or hs at None ≡ Some cells → IsOnward (get_or lines at d).act → IsReady height hs at cells (effect (get_or lines at d).act)
ready_read height first lines old hs at cells d lt b p read n =
    ready height first lines hs at cells (get_or lines at d) (p.begun height first b) (slice_get-get_or lines at d lt) (read_note hs at cells read) n

pub onward_read : (lines : List Line) (old mid new : Notes) (at cells : ℕ) (d : Line) → at < length lines → Passed lines old mid at → get_or mid at None ≡ Some cells →
    IsOnward (get_or lines at d).act → ((height : ℕ → ℕ) → IsReady height mid at cells (effect (get_or lines at d).act) → AreNoted height new) → Grows mid new → IsSameUpTo at mid new →
    Onward (IsNoted new) at (effect (get_or lines at d).act) → length new ≡ length mid → Passed lines old new (at + 1)
onward_read lines old mid new at cells d lt p read n noted g before o same =
    onward_line lines old mid new at cells (get_or lines at d) p (slice_get-get_or lines at d lt) (read_note mid at cells read) n noted g before o same

pub back_read : (height : ℕ → ℕ) (first : ℕ) (lines : List Line) (old mid : Notes) (at cells over : ℕ) (d : Line) → at < length lines → IsBegun height first lines old → Passed lines old mid at →
    get_or mid at None ≡ Some cells → (get_or lines at d).act ≡ i.GoBack over → IsBack height lines mid at cells over
back_read height first lines old mid at cells over d lt b p read e =
    back_line height first lines mid at cells over (get_or lines at d) (p.begun height first b) (slice_get-get_or lines at d lt) (read_note mid at cells read) e

pub new_read : (lines : List Line) (old mid new : Notes) (at cells over : ℕ) (d : Line) → at < length lines → Passed lines old mid at → get_or mid at None ≡ Some cells →
    (get_or lines at d).act ≡ i.GoBack over → IsNote mid new (at - over) cells → length new ≡ length mid → Passed lines old new (at - over)
new_read lines old mid new at cells over d lt p read e n same =
    back_new lines old mid new at cells over (get_or lines at d) p (slice_get-get_or lines at d lt) (read_note mid at cells read) e n same

pub known_read : (height : ℕ → ℕ) (first : ℕ) (lines : List Line) (old mid new : Notes) (at cells over : ℕ) (d : Line) → at < length lines → IsBegun height first lines old → Passed lines old mid at →
    get_or mid at None ≡ Some cells → (get_or lines at d).act ≡ i.GoBack over → IsNote mid new (at - over) cells → new ≡ mid → Passed lines old new (at + 1)
known_read height first lines old mid new at cells over d lt b p read e n same =
    back_known height first lines old mid new at cells over (get_or lines at d) b p (slice_get-get_or lines at d lt) (read_note mid at cells read) e n same
