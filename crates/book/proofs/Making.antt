-- A book that is made by value and then put into a place: what the call answers and what the place means.
use Rattle.std.proofs.Common.{◌≡◌, Some, None, Ok, Err, Option, Result, refl}
use Rattle.std.specs.Option.{option_map}
use Rattle.book.specs.declared.MakeError.{MakeError}
use Rattle.book.specs.Meaning.{Meaning}
use Rattle.book.specs.Making.{made_unless, filled_unless, made_as, result_means, fill_result, filled}

module _ {B : Type 0} (f : B → Meaning) where
  pub fill_answers : (why : Option MakeError) (new : Meaning) (made : Result B MakeError) → result_means f made ≡ made_as why new → fill_result made ≡ made_unless why
  fill_answers None new (Ok b) e = refl
  fill_answers None new (Err x) e = cc
  fill_answers (Some y) new (Ok b) e = cc
  fill_answers (Some y) new (Err x) e = cc

  pub fill_means : (why : Option MakeError) (new : Meaning) (made : Result B MakeError) (old : Option B) → result_means f made ≡ made_as why new → option_map f (filled made old) ≡ filled_unless why new (option_map f old)
  fill_means None new (Ok b) old e = cc
  fill_means None new (Err x) old e = cc
  fill_means (Some y) new (Ok b) old e = cc
  fill_means (Some y) new (Err x) old e = cc
