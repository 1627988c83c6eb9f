use Rattle.std.proofs.Common.{ap, ◌∙◌}
use Rattle.std.proofs.lemmas.Result.{IfOk-weaker}
use Rattle.f3_listing.specs.Listing.{listing_text}
use Rattle.f3_compile.proofs.code.code.Goals as goal

pub returns : goal.returns
returns c = IfOk-weaker c.listing-text.result _ _
    (λ text h. record { emission = c.in_ok-emission.emission; is_code = c.in_ok-emission.ensures.code; shown = h ∙ ap listing_text c.deref.ensures.value })
    c.listing-text.ensures
