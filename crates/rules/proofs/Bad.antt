-- Histories of wrong engines are not lawful: what the step replies and reports is, and the law leaves no choice.
use Rattle.std.proofs.Common.{◌≡◌, ℕ, false, List, [], ◌∷◌, ◌++◌, map, length, Ok, Err, ap, ◌∙◌, ap₂, rules}
use Rattle.std.specs.List.{flat_map}
use Rattle.std.proofs.ByRecursion.{All-weaker}
use Rattle.std.specs.Str.{bytes_eq}
use Rattle.std.proofs.lemmas.Bool.{both_ways}
use Rattle.std.proofs.lemmas.Slice.Eq.{bytes_eq-Decides}
use Rattle.units.specs.Refusals.{number_of}
use Rattle.draw.specs.Walk.{walk}
use Rattle.draw.specs.Fills.{fills}
use Rattle.rules.specs.declared.reports.Report.{Report}
use Rattle.rules.specs.declared.reports.Report.TheVariants as report
use Rattle.rules.specs.State.{State, Opening, greatest}
use Rattle.rules.specs.Reports.{filled, killed, size_of, money_of, remain, reason_number}
use Rattle.rules.specs.Calls.{Reply}
use Rattle.rules.specs.Step.{step, one_by_one}
use Rattle.rules.specs.History.{ledger, time, stands}
use Rattle.rules.specs.Law.{Lawful}
use Rattle.rules.specs.Examples.{seat, sent, played, history}
use Rattle.rules.specs.Run.{run, recorded}
use Rattle.rules.specs.Bite.{Bad, BadBreaks, Held, HeldBreaks, bad, held, ends_badly}
use Rattle.rules.proofs.Marks.{seat_opens, reached}
use Rattle.rules.proofs.Lawful.{step_is_lawful, runs_are_lawful}
use Rattle.rules.proofs.Only.{no_choice}

-- what the step replies and reports at the last call
abbrev right_reply : Bad → Reply
right_reply b = (step (played b.calls) (sent b.last)).reply

abbrev right_reports : Bad → List Report
right_reports b = (step (played b.calls) (sent b.last)).reports

same : (b : Bad) (s : State) → Lawful (ends_badly b) s → (right_reply b ≡ b.reply) × (right_reports b ≡ b.reports)
same b s wrong =
    no_choice (history b.calls).opening (history b.calls).events (sent b.last) (right_reply b) b.reply (right_reports b) b.reports
    (step_is_lawful (played b.calls) (sent b.last) (history b.calls) (reached b.calls)).1.each.0 wrong.each.0

-- ── by numbers that differ ──

abbrev reply_line : Reply → List ℕ
reply_line (Ok a) = a.number.0 ∷ a.count ∷ a.size.0 ∷ a.money.0 ∷ []
reply_line (Err r) = number_of r ∷ []

abbrev report_line : Report → List ℕ
report_line (report.Fill t f) = t.0 ∷ f.maker.0 ∷ f.price.0 ∷ f.quantity.0 ∷ []
report_line (report.Kill reason n q) = reason_number reason ∷ n.0 ∷ q.0 ∷ []

-- all that is replied and reported, as numbers
abbrev lines : Reply → List Report → List ℕ
lines a rs = reply_line a ++ flat_map report_line rs

breaks : (b : Bad) → bytes_eq (lines (right_reply b) (right_reports b)) (lines b.reply b.reports) ≡ false → (s : State) → Lawful (ends_badly b) s → ⊥
breaks b ne s h = let e = same b s h in both_ways _ ne ((bytes_eq-Decides _ _).1 (ap₂ lines e.0 e.1))

pub bad_breaks : BadBreaks
unfolding run step one_by_one filled killed size_of money_of remain fills walk greatest
bad_breaks = All-weaker (λ (b : Bad). bytes_eq (lines (right_reply b) (right_reports b)) (lines b.reply b.reports) ≡ false) _ breaks bad (search rules)

-- and what is held: how many offers to sell, how many answers, and the time
abbrev held_line : State → List ℕ
held_line s = length s.book.sells ∷ length s.answers ∷ s.time ∷ []

held_differs : (w : Held) → bytes_eq (held_line w.state) (held_line (stands seat (history w.calls).events)) ≡ false → Lawful (history w.calls) w.state → ⊥
held_differs w ne h =
    let o = (runs_are_lawful seat seat_opens (map sent w.calls)).opening in
    both_ways _ ne ((bytes_eq-Decides _ _).1 (ap held_line (h.holds ∙ ap (λ (z : Opening). stands z (history w.calls).events) o)))

pub held_breaks : HeldBreaks
unfolding run step one_by_one filled killed size_of money_of remain fills walk greatest recorded ledger time
held_breaks = All-weaker (λ (w : Held). bytes_eq (held_line w.state) (held_line (stands seat (history w.calls).events)) ≡ false) _ held_differs held (search rules)
