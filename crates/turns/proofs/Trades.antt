-- What is gathered, decided and executed is what the rules say that a request trades.
use Rattle.std.proofs.Common.{◌≡◌, true, List, [], is_some, Some, None, Option, refl, ap, ◌∙◌}
use Rattle.units.specs.declared.Quantity.{Quantity}
use Rattle.units.specs.declared.Money.{Money}
use Rattle.book.specs.Meaning.{Meaning}
use Rattle.draw.specs.declared.offers.Eligible.{Eligible}
use Rattle.draw.specs.declared.offers.Taker.{Taker}
use Rattle.draw.specs.Offers.{eligible}
use Rattle.draw.specs.Fills.{traded}
use Rattle.rules.specs.declared.records.Answer.{Answer}
use Rattle.rules.specs.Offers.{offered, taker_of}
use Rattle.rules.specs.Step.{on_offer}
use Rattle.turns.specs.declared.seat.Wanted.{Wanted}
use Rattle.turns.specs.Turn.{holding}

-- the ranking does not matter where nothing is found
pub traded_same : (found : Option (Quantity × Money)) (rs ranking : List Eligible) → (is_some found ≡ true → rs ≡ ranking) → traded rs found ≡ traded ranking found
traded_same None rs ranking h = refl
traded_same (Some x) rs ranking h = ap (λ (v : List Eligible). traded v (Some x)) (h refl)

-- what is gathered, by the taker that a request is
pub drawn_on : (m : Meaning) (xs : List Answer) (w : Wanted) (t : Taker) (os : List Eligible) → t ≡ taker_of w.request w.side → os ≡ eligible t (offered m.buys m.sells xs) → os ≡ on_offer (holding m [] xs) w.request w.side
drawn_on m xs w t os is gathered = gathered ∙ ap (λ (v : Taker). eligible v (offered m.buys m.sells xs)) is
