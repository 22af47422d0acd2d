-- Reports, and what they leave of what came.
use Rattle.std.specs.Prelude.{ℕ, ◌+◌, ◌-◌, ◌*◌, cond, List, [], ◌∷◌, map, ◌==◌, nat_lt}
use Rattle.draw.specs.declared.fills.Fill.{Fill}
use Rattle.draw.specs.declared.offers.Eligible.{Eligible}
use Rattle.draw.specs.Fills.{fills}
use Rattle.rules.specs.declared.reports.KillReason.{KillReason}
use Rattle.rules.specs.declared.reports.KillReason.TheVariants as reasons
use Rattle.rules.specs.declared.reports.Report.{Report}
use Rattle.rules.specs.declared.reports.Report.TheVariants as report
use Rattle.rules.specs.declared.reports.ReportLine.{ReportLine}
use Rattle.rules.specs.State.{Kept}

-- ── reports as numbers ──

abbrev pub reason_number : KillReason → ℕ
reason_number reasons.RequestDone = 21
reason_number reasons.AnswerDone = 22
reason_number reasons.RequestWithdrawn = 14
reason_number reasons.AnswerDropped = 20
reason_number reasons.RequestExpired = 101
reason_number reasons.AnswerExpired = 102
reason_number reasons.Withdrawn = 103

-- kind, reason, taker, maker, quantity and price
abbrev pub line_of : Report → ReportLine
line_of (report.Fill t f) = record { kind = 1; reason = 0; taker = t; maker = f.maker; quantity = f.quantity; price = f.price }
line_of (report.Kill reason n q) = record { kind = 2; reason = reason_number reason; taker = n; maker = record { 0 = 0 }; quantity = q; price = record { 0 = 0 } }

-- ── what reports fill and kill ──

-- the fill of a taker, and the kill of what is left of a number
abbrev pub filled_by : ℕ → Fill → Report
filled_by taker f = report.Fill (record { 0 = taker }) f

abbrev pub kill : KillReason → ℕ → ℕ → Report
kill reason number left = report.Kill reason (record { 0 = number }) (record { 0 = left })

-- what a report fills of the number n, as taker or maker
abbrev pub fills_of : ℕ → Report → ℕ
fills_of n (report.Fill t f) = cond (t.0 == n) f.quantity.0 0 + cond (f.maker.0 == n) f.quantity.0 0
fills_of n (report.Kill reason k q) = 0

-- what a report kills of the number n
abbrev pub kills_of : ℕ → Report → ℕ
kills_of n (report.Fill t f) = 0
kills_of n (report.Kill reason k q) = cond (k.0 == n) q.0 0

unfoldable pub filled : List Report → ℕ → ℕ
filled [] n = 0
filled (r ∷ rs) n = fills_of n r + filled rs n

unfoldable pub killed : List Report → ℕ → ℕ
killed [] n = 0
killed (r ∷ rs) n = kills_of n r + killed rs n

-- the units and the money of a fill
abbrev pub units_in : Report → ℕ
units_in (report.Fill t f) = f.quantity.0
units_in (report.Kill reason k q) = 0

abbrev pub money_in : Report → ℕ
money_in (report.Fill t f) = f.price.0 * f.quantity.0
money_in (report.Kill reason k q) = 0

-- size and money of all that the reports trade
unfoldable pub size_of : List Report → ℕ
size_of [] = 0
size_of (r ∷ rs) = units_in r + size_of rs

unfoldable pub money_of : List Report → ℕ
money_of [] = 0
money_of (r ∷ rs) = money_in r + money_of rs

-- the fills with the number n as taker
abbrev pub with_fill : ℕ → Report → List Fill → List Fill
with_fill n (report.Fill t f) fs = cond (t.0 == n) (f ∷ fs) fs
with_fill n (report.Kill reason k q) fs = fs

unfoldable pub fills_by : ℕ → List Report → List Fill
fills_by n [] = []
fills_by n (r ∷ rs) = with_fill n r (fills_by n rs)

-- ── what they leave ──

-- what the reports leave of one record
abbrev pub rest : {X : Type 0} → Kept X → List Report → X → ℕ
rest k rs x = k.left x - (filled rs (k.number x) + killed rs (k.number x))

-- the records of which the reports leave something, each with what is left
unfoldable pub remain : {X : Type 0} → Kept X → List Report → List X → List X
remain k rs [] = []
remain k rs (x ∷ xs) = cond (nat_lt 0 (rest k rs x)) (k.with_left x (rest k rs x) ∷ remain k rs xs) (remain k rs xs)

-- the fills of a taker that empty the offers in their order until n units are reached
abbrev pub pour : ℕ → List Eligible → ℕ → List Report
pour taker os n = map (filled_by taker) (fills os n)

-- the kills of records with what is left of them
abbrev pub kills : {X : Type 0} → Kept X → KillReason → List X → List Report
kills k reason xs = map (λ x. kill reason (k.number x) (k.left x)) xs
