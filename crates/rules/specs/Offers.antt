-- What stands under a number, and what a request or an order may draw on.
use Rattle.std.specs.Prelude.{ℕ, Bool, true, false, ◌||◌, List, [], ◌∷◌, ◌++◌, map, Some, None, filter, Option, nat_eq, nat_le}
use Rattle.units.specs.declared.side.Side.{Side}
use Rattle.units.specs.declared.side.Side.TheVariants as sides
use Rattle.ranked.specs.Lists.{ranked}
use Rattle.ranked.specs.Orders.{lower, expiry_before}
use Rattle.book.specs.declared.Offer.{Offer}
use Rattle.draw.specs.declared.offers.Offered.{Offered}
use Rattle.draw.specs.declared.offers.Taker.{Taker}
use Rattle.draw.specs.declared.offers.Eligible.{Eligible}
use Rattle.draw.specs.Sides.{no_worse}
use Rattle.draw.specs.Offers.{as_eligible}
use Rattle.draw.specs.Rankings.{request_before, trading_before}
use Rattle.draw.specs.Firms.{different, firms_of}
use Rattle.rules.specs.declared.records.Answer.{Answer}
use Rattle.rules.specs.declared.records.Request.{Request}
use Rattle.rules.specs.declared.records.Terms.{Terms}
use Rattle.rules.specs.declared.records.Terms.TheVariants.{Manual, Automatic}
use Rattle.rules.specs.State.{Kept, a_request}

-- ── lists ──

abbrev pub any : {X : Type 0} → (X → Bool) → List X → Bool
any p [] = false
any p (x ∷ xs) = p x || any p xs

abbrev pub none : {X : Type 0} → List X → Bool
none [] = true
none (x ∷ xs) = false

abbrev pub first : {X : Type 0} → List X → Option X
first [] = None
first (x ∷ xs) = Some x

-- the records of the number n
abbrev pub under : {X : Type 0} → Kept X → ℕ → List X → List X
under k n xs = filter (λ x. nat_eq (k.number x) n) xs

-- lowest number first
abbrev pub by_number : {X : Type 0} → Kept X → List X → List X
by_number k xs = ranked (lower k.number) xs

-- ── requests and their answers ──

-- the answers to the request of the number n
abbrev pub offered_to : ℕ → List Answer → List Answer
offered_to n xs = filter (λ (a : Answer). nat_eq a.request.0 n) xs

-- how many different firms these come from
abbrev pub firms : ℕ → List Answer → ℕ
firms n xs = different (firms_of (λ (a : Answer). a.firm.0) (λ (a : Answer). a.request.0) n xs)

abbrev pub automatic_terms : Terms → Bool
automatic_terms (Manual d m) = false
automatic_terms (Automatic d p m) = true

abbrev pub is_automatic : Request → Bool
is_automatic r = automatic_terms r.terms

-- the side of a request, none where it left it open
abbrev pub side_in : Terms → Option Side
side_in (Manual d m) = d
side_in (Automatic d p m) = Some d

-- the requests whose deadline is reached at the time t, in expiry ranking
abbrev pub expiring : ℕ → List Request → List Request
expiring t rs = ranked (expiry_before (λ (r : Request). r.deadline.0) (λ (r : Request). r.number.0)) (filter (λ (r : Request). nat_le r.deadline.0 t) rs)

-- the automatic requests, lowest number first
abbrev pub in_turn : List Request → List Request
in_turn rs = by_number a_request (filter is_automatic rs)

-- ── what may be drawn on ──

abbrev pub from_book : Side → Offer → Offered
from_book d o = record { number = o.number; firm = o.firm; side = d; price = o.price; left = o.left; answers_to = None }

abbrev pub from_answer : Answer → Offered
from_answer a = record { number = a.number; firm = a.firm; side = a.side; price = a.price; left = a.left; answers_to = Some a.request }

-- all that is offered: both sides of the book, and the answers
abbrev pub offered : List Offer → List Offer → List Answer → List Offered
offered buys sells xs = map (from_book sides.Buy) buys ++ (map (from_book sides.Sell) sells ++ map from_answer xs)

-- the request r, where it is on the side d
abbrev pub taker_of : Request → Side → Taker
taker_of r d = record { number = r.number; firm = r.firm; side = d }

abbrev pub request_ranking : Side → List Eligible → List Eligible
request_ranking d os = ranked (request_before d) os

-- the offers of a side of the book, as an order meets them
abbrev pub met : Side → List Offer → List Eligible
met d os = map (λ o. as_eligible (from_book d o)) os

-- those at a price that is no worse than p to an order on the side d
abbrev pub crossing : Side → ℕ → List Eligible → List Eligible
crossing d p os = filter (λ (o : Eligible). no_worse d o.price.0 p) os

abbrev pub trading_ranking : Side → List Eligible → List Eligible
trading_ranking d os = ranked (trading_before d) os
