-- States have few names.
use Rattle.std.proofs.Common.{◌≡◌, ◌≤◌, ℕ, suc, ◌+◌, ◌*◌, List, [], ◌∷◌, length, refl, sym, ap, subst, arith}
use Rattle.f3_program.specs.declared.declarations.Derived.{Derived}
use Rattle.f3_program.specs.declared.declarations.Kind.{Kind}
use Rattle.f3_meaning_whole.specs.Act.{Here}
use Rattle.f3_meaning_whole.specs.Reference.{Reference}
use Rattle.f3_code.specs.State.{Cell, To, Level, Frame, State}
use Rattle.f3_cell_kinds.specs.Types.{Scope, Around, Told, Untold, InRoutine, CellType, Site}
use Rattle.f3_cell_kinds.specs.Types as cell
use Rattle.f3_cell_kinds.specs.Holds.{AllRefer, Is, Knows, InScope, Stand, FramesHold, Fits}
use Rattle.f3_word_needs.specs.Counts.{cell_names, cells_names, frames_names, all_names, frames_selectors, all_selectors}
use Rattle.f3_word_needs.specs.Room.{FramesNamed}
use Rattle.f3_word_needs.proofs.Few.{levels_in, Few, IsFew, fewer, each_name, no_name}

pub refer_many : (ks : List Kind) (rs : List Reference) → AllRefer ks rs → length rs ≡ length ks
refer_many [] [] h = refl
refer_many [] (r ∷ rs) h = absurd h
refer_many (k ∷ ks) [] h = absurd h
refer_many (k ∷ ks) (r ∷ rs) h = ap suc (refer_many ks rs h.1)

module _ (types : List Derived) where
  cell_few : (x : CellType) (c : Cell) (xs : List CellType) → Is types x c → cell_names c + levels_in xs ≤ levels_in (x ∷ xs)
  cell_few (cell.Level ks) (Level level rs) xs is = omega (arith, refer_many ks rs is)
  cell_few x (Level level rs) xs is = absurd is
  cell_few x c xs is = omega (arith, fewer x xs)

  module _ (sites : ℕ → Site) (weigh : List Kind → ℕ) (b : ℕ) (few : (pc : ℕ) → IsFew weigh b (sites pc)) where
    module _ (here : Here) (own : ℕ) (low : own ≤ b) (known : (c : Scope) → Knows types here c → weigh c.names ≡ own) where
      -- so many names so far, and so many on the stack
      abbrev Low : ℕ → Around → ℕ → Type 0
      Low n (Told c) k = n + k ≤ b
      Low n o k = (k ≡ 0) × (n ≡ own)

      -- what is known of a line says so
      low_at : (o : Around) (k : ℕ) → InScope types (Knows types here) o → Few weigh b o k → Low own o k
      low_at (Told c) k h f = omega (arith, f, known c h)
      low_at Untold k h f = (f, refl)
      low_at InRoutine k h f = (f, refl)

      -- with the names of a cell
      low_more : (n : ℕ) (o : Around) (k j m : ℕ) → k + j ≤ m → n ≤ b → Low n o m → (n + k ≤ b) × Low (n + k) o j
      low_more n (Told c) k j m e le l = (omega (arith, l, e), omega (arith, l, e))
      low_more n Untold k j m e le l = (omega (arith, l.0, e, le), (omega (arith, l.0, e), omega (arith, l.0, l.1, e)))
      low_more n InRoutine k j m e le l = (omega (arith, l.0, e, le), (omega (arith, l.0, e), omega (arith, l.0, l.1, e)))

      in_routine : (n : ℕ) (o : Around) (k : ℕ) → o ≡ InRoutine → Low n o k → n ≡ own
      in_routine n (Told c) k e l = cc
      in_routine n Untold k e l = l.1
      in_routine n InRoutine k e l = l.1

      stand_few : (n : ℕ) (o : Around) (r : Kind) (xs : List CellType) (stack : List Cell) (end : Kind) → n ≤ b → Low n o (levels_in xs) →
          Stand types sites (Knows types here) o r xs stack end → n + cells_names stack ≤ b
      stand_few n o r [] [] end le l h = omega (arith, le)
      stand_few n o r (x ∷ xs) [] end le l h = absurd h
      stand_few n o r [] (To back place ∷ below) end le l h =
          let at = few back in
          let k : levels_in (sites back).cells ≡ levels_in h.1 = ap levels_in h.3 in
          let at' = subst (λ m. Few weigh b (sites back).scope m) k at in
          let same = in_routine n o (levels_in []) h.0 l in
          let rest = stand_few own (sites back).scope (sites back).returns h.1 below end low (low_at (sites back).scope (levels_in h.1) h.4 at') h.5 in
          omega (arith, rest, same)
      stand_few n o r [] (c ∷ below) end le l h = absurd h
      stand_few n o r (x ∷ xs) (c ∷ below) end le l h =
          let m = low_more n o (cell_names c) (levels_in xs) (levels_in (x ∷ xs)) (cell_few x c xs h.0) le l in
          omega (arith, stand_few (n + cell_names c) o r xs below end m.0 m.1 h.1)

      pub activation_few : (o : Around) (r : Kind) (xs : List CellType) (stack : List Cell) (end : Kind) → InScope types (Knows types here) o →
          Few weigh b o (levels_in xs) → Stand types sites (Knows types here) o r xs stack end → own + cells_names stack ≤ b
      activation_few o r xs stack end known f h = stand_few own o r xs stack end low (low_at o (levels_in xs) known f) h

  -- ---- names, and once more those of ASSOCIATEs

  module _ (sites : ℕ → Site) (b : ℕ) (few : (pc : ℕ) → IsFew each_name b (sites pc)) where
    named : (here : Here) (c : Scope) → Knows types here c → each_name c.names ≡ length here.names
    named here c h = sym (refer_many c.names here.names h.1)

    frames_few : (r : Kind) (fs : List Frame) → FramesNamed b fs → FramesHold types sites r fs → frames_names fs ≤ length fs * b
    frames_few r [] n h = omega arith
    frames_few r (f ∷ fs) n h =
        let at = subst (λ m. Few each_name b (sites f.pc).scope m) (ap levels_in h.3) (few f.pc) in
        let one = activation_few sites each_name b few f.here (length f.here.names) n.0 (named f.here) (sites f.pc).scope (sites f.pc).returns h.0 f.stack h.1 h.4 at h.5 in
        omega (arith, one, frames_few h.1 fs n.2 h.6)

    pub names_few : (t : State) → length t.here.names ≤ b → FramesNamed b t.frames → Fits types sites t → all_names t ≤ (1 + length t.frames) * b
    names_few t low frames fits =
        let one = activation_few sites each_name b few t.here (length t.here.names) low (named t.here) (sites t.pc).scope (sites t.pc).returns (sites t.pc).cells t.stack fits.end
        fits.scope (few t.pc) fits.stack in
        omega (arith, one, frames_few fits.end t.frames frames fits.frames)

    -- where statements may name something they name few
    pub told_few : (t : State) (c : Scope) → (sites t.pc).scope ≡ Told c → Fits types sites t → length t.here.names ≤ b
    told_few t c e fits = told (sites t.pc).scope e fits.scope (few t.pc)
      where
        told : (o : Around) → o ≡ Told c → InScope types (Knows types t.here) o → Few each_name b o (levels_in (sites t.pc).cells) → length t.here.names ≤ b
        told (Told d) e h f = omega (arith, f, refer_many d.names t.here.names h.1)
        told Untold e h f = cc
        told InRoutine e h f = cc

  -- ---- those of ASSOCIATEs alone

  module _ (sites : ℕ → Site) (b : ℕ) (few : (pc : ℕ) → IsFew no_name b (sites pc)) where
    none : (here : Here) (c : Scope) → Knows types here c → no_name c.names ≡ 0
    none here c h = refl

    frames_open : (r : Kind) (fs : List Frame) → FramesHold types sites r fs → frames_selectors fs ≤ length fs * b
    frames_open r [] h = omega arith
    frames_open r (f ∷ fs) h =
        let at = subst (λ m. Few no_name b (sites f.pc).scope m) (ap levels_in h.3) (few f.pc) in
        let low : 0 ≤ b = omega arith in
        let one = activation_few sites no_name b few f.here 0 low (none f.here) (sites f.pc).scope (sites f.pc).returns h.0 f.stack h.1 h.4 at h.5 in
        omega (arith, one, frames_open h.1 fs h.6)

    pub open_few : (t : State) → Fits types sites t → all_selectors t ≤ (1 + length t.frames) * b
    open_few t fits =
        let low : 0 ≤ b = omega arith in
        let one = activation_few sites no_name b few t.here 0 low (none t.here) (sites t.pc).scope (sites t.pc).returns (sites t.pc).cells t.stack fits.end fits.scope (few t.pc)
        fits.stack in
        omega (arith, one, frames_open fits.end t.frames fits.frames)
