-- A market as values: a book, the open requests, the living answers, the firms granted, the time and the next number.
use Rattle.std.specs.Prelude.{ℕ, ◌+◌, max, Bool, List, [], ◌∷◌}
use Rattle.units.specs.declared.Firm.{Firm}
use Rattle.book.specs.declared.Offer.{Offer}
use Rattle.book.specs.Meaning.{Meaning}
use Rattle.rules.specs.declared.records.Answer.{Answer}
use Rattle.rules.specs.declared.records.Request.{Request}

-- a kind of record that a number names and of which something is left
pub record Kept (X : Type 0) : Type 0 where
  pub number : X → ℕ
  pub left : X → ℕ
  pub with_left : X → ℕ → X

abbrev pub an_offer : Kept Offer
an_offer = record {
  number = λ o. o.number.0;
  left = λ o. o.left.0;
  with_left = λ o n. record { number = o.number; firm = o.firm; price = o.price; left = record { 0 = n } };
}

abbrev pub an_answer : Kept Answer
an_answer = record {
  number = λ a. a.number.0;
  left = λ a. a.left.0;
  with_left = λ a n. record { number = a.number; request = a.request; firm = a.firm; side = a.side; price = a.price; left = record { 0 = n } };
}

abbrev pub a_request : Kept Request
a_request = record {
  number = λ r. r.number.0;
  left = λ r. r.left.0;
  with_left = λ r n. record { number = r.number; firm = r.firm; left = record { 0 = n }; deadline = r.deadline; terms = r.terms };
}

-- what a market starts from: a book, how many offers a side of it has at most, whether it takes new orders, and the firms granted
pub record Opening : Type 0 where
  pub book : Meaning
  pub most : ℕ
  pub is_open : Bool
  pub granted : List Firm

-- `most`, `is_open` and `granted` never change
pub record State : Type 0 where
  pub book : Meaning
  pub most : ℕ
  pub is_open : Bool
  pub granted : List Firm
  pub requests : List Request
  pub answers : List Answer
  pub time : ℕ
  pub next : ℕ

-- the greatest number of some records, 0 where there are none
unfoldable pub greatest : {X : Type 0} → Kept X → List X → ℕ
greatest k [] = 0
greatest k (x ∷ xs) = max (k.number x) (greatest k xs)

-- no requests, the time 0, and the next number one above the greatest in the book, or 1
abbrev pub opened : Opening → State
opened o = record {
  book = o.book;
  most = o.most;
  is_open = o.is_open;
  granted = o.granted;
  requests = [];
  answers = [];
  time = 0;
  next = max (greatest an_offer o.book.buys) (greatest an_offer o.book.sells) + 1;
}
