-- When a market is sound: what opening makes so, every message keeps, and an engine may rely on.
use Rattle.std.specs.Prelude.{◌≡◌, ℕ, ◌+◌, ◌≤◌, Bool, true, ◌&&◌, List, length, Some, count_by, nat_eq, nat_le}
use Rattle.std.specs.List.{AllByRecursion}
use Rattle.units.specs.declared.side.Side.{Side}
use Rattle.units.specs.Sides.{other}
use Rattle.units.specs.Ranges.{is_number, is_member, is_price, is_quantity}
use Rattle.book.specs.Meaning.{side_of}
use Rattle.book.specs.Laws as book
use Rattle.draw.specs.Offers.{Ready, Pourable}
use Rattle.draw.specs.Rankings.{request_before}
use Rattle.draw.specs.Decisions.{Shows}
use Rattle.rules.specs.declared.records.Answer.{Answer}
use Rattle.rules.specs.declared.records.Request.{Request}
use Rattle.rules.specs.declared.records.Terms.{Terms}
use Rattle.rules.specs.declared.records.Terms.TheVariants.{Manual, Automatic}
use Rattle.rules.specs.State.{Kept, State, Opening, opened, an_offer, an_answer, a_request}
use Rattle.rules.specs.Calls.{Call, Sent}
use Rattle.rules.specs.Calls.Call.{order, withdrawal, manual, automatic, answer, confirmation, clock}
use Rattle.rules.specs.Offers.{under, first, met, crossing, trading_ranking}
use Rattle.rules.specs.Step.{step, on_offer}
use Rattle.rules.specs.Status.{status_of}
use Rattle.rules.specs.Takes.{Listed}
use Rattle.rules.specs.Run.{Opens}

-- ── ranges of what the market holds beside its book ──

abbrev pub answer_in_range : ℕ → Answer → Bool
answer_in_range lot a = is_number a.number.0 && (is_member a.firm.0 && (is_price a.price.0 && is_quantity lot a.left.0))

abbrev pub limit_in_range : Terms → Bool
limit_in_range (Manual d m) = true
limit_in_range (Automatic d limit m) = is_price limit.0

abbrev pub request_in_range : ℕ → Request → Bool
request_in_range lot r = is_number r.number.0 && (is_member r.firm.0 && (limit_in_range r.terms && is_quantity lot r.left.0))

-- ── soundness ──

-- how many records have the number n
abbrev pub times : {X : Type 0} → Kept X → List X → ℕ → ℕ
times k xs n = count_by (λ x. nat_eq (k.number x) n) xs

-- how many offers, answers and requests have it
abbrev pub all_times : State → ℕ → ℕ
all_times s n = times an_offer s.book.buys n + times an_offer s.book.sells n + times an_answer s.answers n + times a_request s.requests n

pub record Sound (s : State) : Type 0 where
  -- the book keeps the laws of every book
  pub few : s.most ≤ 128
  pub book : book.Sound s.most s.book
  -- at most eight requests are open and 64 answers alive, all in range
  pub few_requests : length s.requests ≤ 8
  pub few_answers : length s.answers ≤ 64
  pub requests : AllByRecursion (λ (r : Request). request_in_range s.book.lot r ≡ true) s.requests
  pub answers : AllByRecursion (λ (a : Answer). answer_in_range s.book.lot a ≡ true) s.answers
  -- no number names two of all that is there, and none is at or above the next
  pub apart : (n : ℕ) → all_times s n ≤ 1
  pub below : (n : ℕ) → s.next ≤ n → all_times s n ≡ 0

-- ── it is kept ──

-- the firm of an order fits its field, as the laws of a book want
abbrev pub fits : Call → Bool
fits (order f d p q) = nat_le f.0 255
fits (withdrawal f n) = true
fits (manual f d q m w) = true
fits (automatic f d p q m w) = true
fits (answer f d n p q) = true
fits (confirmation f d n p) = true
fits (clock t) = true

pub record SoundIsKept : Type 0 where
  pub at_opening : (o : Opening) → Opens o → Sound (opened o)
  pub by_messages : (s : State) (m : Sent) → fits m.call ≡ true → Sound s → Sound (step s m).state

-- ── it suffices ──

-- for what draws ask of the offers of a request, what an order's fills ask of the side that it meets, what takes ask of a side of the book, room for reports,
-- and for what a status promises: its quantity or all there is, and no draw of as many units has better terms
pub record SoundSuffices : Type 0 where
  pub draws : (s : State) → Sound s → (n : ℕ) (r : Request) (d : Side) → first (under a_request n s.requests) ≡ Some r → Ready s.book.lot r.left.0 (on_offer s r d)
  pub orders : (s : State) → Sound s → (d : Side) (p : ℕ) → Pourable (trading_ranking d (crossing d p (met (other d) (side_of s.book (other d)))))
  pub takes : (s : State) → Sound s → (d : Side) → Listed (side_of s.book d)
  pub room : (s : State) (m : Sent) → Sound s → length (step s m).reports ≤ 2048
  pub statuses : (s : State) → Sound s → (n : ℕ) (r : Request) (d : Side) → first (under a_request n s.requests) ≡ Some r →
      Shows d (request_before d) r.left.0 (on_offer s r d) ((status_of s r d).size, (status_of s r d).money)
