-- The worked examples hold.
use Rattle.std.proofs.Common.{ℕ, List, refl, arith}
use Rattle.units.specs.declared.side.Side.{Side}
use Rattle.units.specs.declared.side.Side.TheVariants.{Buy, Sell}
use Rattle.ranked.proofs.Sorting.{Distinct, apart_from_distinct}
use Rattle.draw.specs.declared.offers.Eligible.{Eligible}
use Rattle.draw.specs.Offers.{named}
use Rattle.draw.specs.Rankings.{request_before}
use Rattle.draw.specs.Draws.{Good, Decides}
use Rattle.draw.specs.Walk.{walk, decided}
use Rattle.draw.specs.Examples.{sellers, bidders, few, Worked}
use Rattle.ranked.specs.Lists.{ranked}
use Rattle.draw.proofs.Finds.{Lots, walk_decides}
use Rattle.draw.proofs.Decided.{request_priced}

confirmed : (s : Side) (os : List Eligible) → Distinct named os → (lot price least most : ℕ) → Lots lot most os →
    Decides s (request_before s) os (Good s lot price least most os) (decided s lot price least most (ranked (request_before s) os))
confirmed s os d lot price least most l = walk_decides s (request_before s) os (request_priced s os (apart_from_distinct named os d)) lot price least most l

sellers_apart : Distinct named sellers
sellers_apart = (((λ e. omega arith), ((λ e. omega arith), tt)), (((λ e. omega arith), tt), (tt, tt)))

bidders_apart : Distinct named bidders
bidders_apart = (((λ e. omega arith), tt), (tt, tt))

few_apart : Distinct named few
few_apart = (((λ e. omega arith), tt), (tt, tt))

at_sellers : (price least : ℕ) → Decides Buy (request_before Buy) sellers (Good Buy 10 price least 5000 sellers) (decided Buy 10 price least 5000 (ranked (request_before Buy) sellers))
at_sellers price least = confirmed Buy sellers sellers_apart 10 price least 5000 (record { some = omega arith; whole_most = refl; whole = (refl, (refl, (refl, tt))) })

at_few : (least : ℕ) → Decides Buy (request_before Buy) few (Good Buy 1 1 least 3 few) (decided Buy 1 1 least 3 (ranked (request_before Buy) few))
at_few least = confirmed Buy few few_apart 1 1 least 3 (record { some = omega arith; whole_most = refl; whole = (refl, (refl, tt)) })

pub worked : Worked
unfolding walk
worked = (
  (refl, refl),
  (
    (refl, refl),
    (
      at_sellers 992 0,
      (
        at_sellers 991 0,
        (
          at_sellers 980 0,
          (
            at_sellers 979 0,
            (
              at_sellers 991 4440,
              (
                at_sellers 991 4450,
                (
                  confirmed Sell bidders bidders_apart 10 995 0 3000 (record { some = omega arith; whole_most = refl; whole = (refl, (refl, tt)) }),
                  (refl, ((refl, refl), (at_few 0, (at_few 3, (refl, tt))))),
                ),
              ),
            ),
          ),
        ),
      ),
    ),
  ),
)
