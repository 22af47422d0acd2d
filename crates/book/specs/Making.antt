-- Why the making of a book is refused, and what its place holds after.
use Rattle.std.specs.Prelude.{Some, None, Ok, Err, Option, Result}
use Rattle.units.specs.declared.refusal.Refusal.{Refusal}
use Rattle.units.specs.declared.refusal.Refusal.TheVariants as refusals
use Rattle.book.specs.declared.MakeError.{MakeError}
use Rattle.book.specs.declared.MakeError.TheVariants.{Price, Quantity, Full}
use Rattle.book.specs.Meaning.{Meaning}

-- the refusal that stands for each, with its number
abbrev pub refusal_of : MakeError → Refusal
refusal_of Price = refusals.Price
refusal_of Quantity = refusals.Quantity
refusal_of Full = refusals.Full

-- what making answers: refused where there is a reason
abbrev pub made_unless : Option MakeError → Result (Unit {0}) MakeError
made_unless None = Ok tt
made_unless (Some e) = Err e

-- what a place means after: the new book, or what it meant before
abbrev pub filled_unless : Option MakeError → Meaning → Option Meaning → Option Meaning
filled_unless None new old = Some new
filled_unless (Some e) new old = old

-- the same of a book made by value
abbrev pub made_as : Option MakeError → Meaning → Result Meaning MakeError
made_as None new = Ok new
made_as (Some e) new = Err e

-- what such a result means, where a book of the kind means f of it
abbrev pub result_means : {B : Type 0} → (B → Meaning) → Result B MakeError → Result Meaning MakeError
result_means f (Ok b) = Ok (f b)
result_means f (Err e) = Err e

-- the answer of a making whose book goes into a place
abbrev pub fill_result : {B : Type 0} → Result B MakeError → Result (Unit {0}) MakeError
fill_result (Ok b) = Ok tt
fill_result (Err e) = Err e

-- what the place holds after: the new book, or what it held before
abbrev pub filled : {B : Type 0} → Result B MakeError → Option B → Option B
filled (Ok b) old = Some b
filled (Err e) old = old
