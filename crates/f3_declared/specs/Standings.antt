-- How often something stands somewhere, as far as the rules on attributes ask.
use Rattle.std.specs.Prelude.{ℕ, true, ◌&&◌, ◌||◌, nat_lt}
use Rattle.f3_declared.specs.declared.attributes.Standing.{Standing}

-- so many times
abbrev pub standing : ℕ → Standing
standing n = record { once = nat_lt 0 n; twice = nat_lt 1 n }

-- once more
abbrev pub again : Standing → Standing
again s = record { once = true; twice = s.once }

-- in two places together
abbrev pub together : Standing → Standing → Standing
together a b = record { once = a.once || b.once; twice = a.twice || b.twice || (a.once && b.once) }
