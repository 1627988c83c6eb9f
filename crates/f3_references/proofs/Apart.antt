-- What was met apart.
use Rattle.std.proofs.Common.{◌≡◌, refl, List, [], ◌∷◌, Bool, true, false, Option, None, Some, ap, ◌∙◌, if◌then◌else◌}
use Rattle.std.specs.Prelude.{is_none}
use Rattle.f3_rules.specs.declared.breaks.Break.{Break}
use Rattle.f3_rules.specs.Least.{is_before, earlier_of, first_of}
use Rattle.f3_kinds.specs.Calls.{no_breaks}
use Rattle.f3_typed_parts.specs.Noted.{noted}

pub settled : (a met : Option Break) (bs : List Break) → met ≡ noted None bs → earlier_of a met ≡ noted a bs
unfolding noted
settled a met bs m = ap (earlier_of a) m

either_is : (t : Bool) (x y : Break) → is_none (if t then Some x else Some y) ≡ false
either_is true x y = refl
either_is false x y = refl

some_first : (b : Break) (o : Option Break) → is_none (earlier_of (Some b) o) ≡ false
some_first b None = refl
some_first b (Some y) = either_is (is_before y b) y b

first_none : (bs : List Break) → is_none (first_of bs) ≡ no_breaks bs
first_none [] = refl
first_none (b ∷ bs) = some_first b (first_of bs)

pub settled_none : (met : Option Break) (bs : List Break) → met ≡ noted None bs → is_none met ≡ no_breaks bs
unfolding noted
settled_none met bs m = ap is_none m ∙ first_none bs
