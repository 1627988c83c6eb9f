use Rattle.std.proofs.Common.{◌≡◌, ◌++◌, drop, string_bytes}
use Rattle.std.specs.List.{flat_map, enumerate_from}
use Rattle.f3_listing.specs.Listing.{line_text, listing_text}
use Rattle.f3_listing.proofs.lines.listing.Given as goal

abbrev pub invariant-loop-number : goal.invariant-loop-number
invariant-loop-number l =
    string_bytes l.text ++ flat_map (λ p. line_text p.0 p.1) (enumerate_from l.number (drop l.number l.lines))
    ≡ listing_text l.lines
