-- Where lines lead: forks, jumps and lines that are not reached.
use Rattle.std.proofs.Common.{◌≡◌, ℕ, ◌+◌, ◌-◌, Bool, true, false, not, List, [], ◌∷◌, Option, sym, ap, ◌∙◌}
use Rattle.f3_places.specs.declared.source.Place.{Place}
use Rattle.f3_program.specs.declared.program.Program.{Program}
use Rattle.f3_code.specs.declared.instruction.Instruction.TheVariants as i
use Rattle.f3_code.specs.State.{line}
use Rattle.f3_cell_kinds.specs.Types.{CellType, Site}
use Rattle.f3_cell_kinds.specs.Effect.{on, fork, either}
use Rattle.f3_cell_kinds.specs.Kinds.{Leads, IsAt}
use Rattle.f3_cell_kinds.specs.Values.{stacked, reached_if}
use Rattle.f3_cell_kinds.proofs.Parts.{At, live_of, comes, Falls, plain, Part, before_end}

module _ (p : Program) (sites : ℕ → Site) where
  pub on_leads : (h : Site) (xs ys : List CellType) (pc : ℕ) → h.is_reached ≡ true → sites pc ≡ stacked xs h → At p sites (pc + 1) (stacked ys h) →
      Leads sites pc (on (sites pc) xs ys)
  on_leads h xs ys pc live is next = record {
    rest = h.cells;
    before = ap (λ (s : Site). s.cells) is;
    next = comes p sites h xs ys pc (pc + 1) live is next;
    far = tt;
  }

  pub fork_leads : (h : Site) (xs ys zs : List CellType) (d pc : ℕ) → h.is_reached ≡ true → sites pc ≡ stacked xs h → At p sites (pc + 1) (stacked ys h) →
      At p sites (pc + 1 + d) (stacked zs h) → Leads sites pc (fork (sites pc) xs ys d zs)
  fork_leads h xs ys zs d pc live is next far = record {
    rest = h.cells;
    before = ap (λ (s : Site). s.cells) is;
    next = comes p sites h xs ys pc (pc + 1) live is next;
    far = (comes p sites h xs zs pc (pc + 1 + d) live is far, tt);
  }

  pub either_leads : (b : Bool) (h : Site) (xs ys zs : List CellType) (d pc : ℕ) → h.is_reached ≡ true → sites pc ≡ stacked xs h →
      At p sites (pc + 1) (stacked ys (reached_if b h)) → At p sites (pc + 1 + d) (stacked zs (reached_if (not b) h)) →
      Leads sites pc (either b (sites pc) xs ys d zs)
  either_leads true h xs ys zs d pc live is next far = on_leads h xs ys pc live is next
  either_leads false h xs ys zs d pc live is next far = record {
    rest = h.cells;
    before = ap (λ (s : Site). s.cells) is;
    next = tt;
    far = (comes p sites h xs zs pc (pc + 1 + d) live is far, tt);
  }

  -- a site that is reached more seldom
  pub less : (b : Bool) (h : Site) (e : ℕ) → At p sites e h → At p sites e (reached_if b h)
  less true h e is = is
  less false h e is = λ live. cc

  -- so far on
  pub goes_on : (o : Option Place) (d : ℕ) (h : Site) (pc : ℕ) → sites pc ≡ h → At p sites (pc + 1 + d) h → IsAt p sites pc (line o (i.GoOn d))
  goes_on o d h pc is to = λ r.
      let live = live_of p sites h [] pc is r in
      record { rest = h.cells; before = ap (λ (s : Site). s.cells) is; next = tt; far = (comes p sites h [] [] pc (pc + 1 + d) live is to, tt) }

  pub on_part : {Out : ℕ → Type 0} (o : Option Place) (d : ℕ) (h : Site) → ((e : ℕ) → Out e → At p sites (e + d) h) → Part p sites Out (line o (i.GoOn d) ∷ []) (h ∷ []) h
  on_part o d h f = before_end p sites (line o (i.GoOn d)) (λ pc is out. goes_on o d h pc is (f (pc + 1) out))

  -- so far back
  pub goes_back : (o : Option Place) (d : ℕ) (h : Site) (pc : ℕ) → sites pc ≡ h → At p sites (pc - d) h → IsAt p sites pc (line o (i.GoBack d))
  goes_back o d h pc is to = λ r. to (live_of p sites h [] pc is r) ∙ sym is

  -- what is on top goes
  pub drops : (o : Option Place) (h : Site) (x : CellType) → Falls p sites (line o i.Drop) (stacked (x ∷ []) h) h
  drops o h x = plain p sites (line o i.Drop) h (x ∷ []) [] (λ pc live c b. (x, b))
