-- In a pure procedure a variable that another scope declares counts as a protected one of another module: so D5 becomes D1.
use Rattle.std.specs.Prelude.{◌≡◌, ℕ, suc, true, ◌&&◌, not, ◌==◌, if◌then◌else◌, [], Option}
use Rattle.std.specs.Option.{option_map}
use Rattle.f3_tree.specs.Statements.{Block}
use Rattle.f3_type_rules.specs.declared.definition.Holder.{Holder}
use Rattle.f3_type_rules.specs.Bodies.{block_breaks}
use Rattle.f3_type_rules.specs.Definitions.{Site}

-- what no statement of a unit may define
abbrev pub barred : (unit : ℕ) → Holder → Holder
barred unit h = record { unit = suc unit; scope = h.scope; is_protected = true; intent = h.intent }

abbrev pub guard : Site → Holder → Holder
guard site h = if site.is_pure && not (h.scope == site.body) then barred (site.context).unit h else h

-- the same place, where this is asked of variables
abbrev pub asking : (ℕ → Option Holder) → Site → Site
asking holder site = record site { holder = holder }

abbrev pub Guards : (ℕ → Option Holder) → Site → Type 0
Guards holder site = (e : ℕ) → holder e ≡ option_map (guard site) (site.holder e)

-- Where a block breaks no rule, it breaks none there.
abbrev pub GuardedBlocks : Type 0
GuardedBlocks = (site : Site) (holder : ℕ → Option Holder) → Guards holder site → (next : ℕ) (b : Block) → block_breaks site next b ≡ []
    → block_breaks (asking holder site) next b ≡ []
