-- What a frame of 32 bytes says, and the frame of a message.
use Rattle.std.specs.Prelude.{ℕ, ◌+◌, ◌*◌, ◌/◌, ◌%◌, Bool, true, false, cond, ◌&&◌, ◌||◌, List, [], ◌∷◌, ◌++◌, length, take, drop, Ok, Err, Option, Result, ◌==◌, nat_lt, slice_index}
use Rattle.std.specs.declared.option.Option.TheVariants as opt
use Rattle.units.specs.declared.refusal.Refusal.TheVariants as refusals
use Rattle.units.specs.declared.side.Side.{Side}
use Rattle.units.specs.declared.side.Side.TheVariants as sides
use Rattle.gateway.specs.declared.faults.Fault.{Fault}
use Rattle.gateway.specs.declared.messages.Uses.{Uses}
use Rattle.gateway.specs.declared.messages.Kind.{Kind}
use Rattle.gateway.specs.declared.messages.Kind.TheVariants as kinds
use Rattle.gateway.specs.declared.messages.Message.{Message}
use Rattle.gateway.specs.declared.messages.Message.TheVariants.{Order, Withdrawal, ManualRequest, AutoRequest, Answer, Confirmation, Clock}
use Rattle.gateway.specs.declared.writing.Layout.{Layout}
use Rattle.gateway.specs.Faults.{fault}

-- ── fields ──

-- the values of a message by name; a field that its kind does not use is 0
pub record Fields : Type 0 where
  pub kind : ℕ
  pub firm : ℕ
  pub side : ℕ
  pub number : ℕ
  pub price : ℕ
  pub quantity : ℕ
  pub minimum : ℕ
  pub time : ℕ
  pub reference : List ℕ

abbrev pub side_code : Option Side → ℕ
side_code opt.None = 0
side_code (opt.Some sides.Buy) = 1
side_code (opt.Some sides.Sell) = 2

abbrev pub kind_code : Kind → ℕ
kind_code kinds.Order = 1
kind_code kinds.Withdrawal = 2
kind_code kinds.ManualRequest = 3
kind_code kinds.AutoRequest = 4
kind_code kinds.Answer = 5
kind_code kinds.Confirmation = 6
kind_code kinds.Clock = 7

-- the number and the values of a message
abbrev pub meaning : {O : Type 0} → Message O → Fields
meaning (Order o f s p q r) = record { kind = kind_code kinds.Order; firm = f.0; side = side_code s; number = 0; price = p.0; quantity = q.0; minimum = 0; time = 0; reference = r.now }
meaning (Withdrawal f n r) = record { kind = kind_code kinds.Withdrawal; firm = f.0; side = 0; number = n.0; price = 0; quantity = 0; minimum = 0; time = 0; reference = r.now }
meaning (ManualRequest f s q m t r) = record { kind = kind_code kinds.ManualRequest; firm = f.0; side = side_code s; number = 0; price = 0; quantity = q.0; minimum = m.0; time = t.0; reference = r.now }
meaning (AutoRequest f s p q m t r) = record { kind = kind_code kinds.AutoRequest; firm = f.0; side = side_code s; number = 0; price = p.0; quantity = q.0; minimum = m.0; time = t.0; reference = r.now }
meaning (Answer f s n p q r) = record { kind = kind_code kinds.Answer; firm = f.0; side = side_code s; number = n.0; price = p.0; quantity = q.0; minimum = 0; time = 0; reference = r.now }
meaning (Confirmation f s n p r) = record { kind = kind_code kinds.Confirmation; firm = f.0; side = side_code s; number = n.0; price = p.0; quantity = 0; minimum = 0; time = 0; reference = r.now }
meaning (Clock t r) = record { kind = kind_code kinds.Clock; firm = 0; side = 0; number = 0; price = 0; quantity = 0; minimum = 0; time = t.0; reference = r.now }

abbrev pub plain : Layout → Fields
plain w =
    record {
      kind = kind_code w.kind;
      firm = w.firm.0;
      side = side_code w.side;
      number = w.number;
      price = w.price;
      quantity = w.quantity;
      minimum = w.minimum;
      time = w.time;
      reference = w.reference.now;
    }

-- ── writing ──

-- four bytes, little-endian
abbrev pub le : ℕ → List ℕ
le n = n % 256 ∷ n / 256 % 256 ∷ n / 65536 % 256 ∷ n / 16777216 % 256 ∷ []

-- the 24 bytes of a frame before the reference
abbrev pub front : Fields → List ℕ
front m = m.kind ∷ m.firm ∷ m.side ∷ 0 ∷ (le m.number ++ (le m.price ++ (le m.quantity ++ (le m.minimum ++ le m.time))))

abbrev pub encoded : Fields → List ℕ
encoded m = front m ++ m.reference

-- what writing a message answers, and what the frame that was lent holds then
abbrev pub write_answer : Fields → Result (Unit {0}) Fault
write_answer m = cond (length m.reference == 8) (Ok tt) (Err (fault refusals.Length 0 0))

abbrev pub written_over : Fields → List ℕ → List ℕ
written_over m old = cond (length m.reference == 8) (encoded m) old

-- ── reading ──

-- the kind of a code; orders are there only where the book takes them
abbrev pub kind_of : Bool → ℕ → Option Kind
kind_of orders n =
    cond (n == 1) (cond orders (opt.Some kinds.Order) opt.None)
    (cond (n == 2) (opt.Some kinds.Withdrawal)
    (cond (n == 3) (opt.Some kinds.ManualRequest)
    (cond (n == 4) (opt.Some kinds.AutoRequest)
    (cond (n == 5) (opt.Some kinds.Answer)
    (cond (n == 6) (opt.Some kinds.Confirmation)
    (cond (n == 7) (opt.Some kinds.Clock) opt.None))))))

-- the table of fields
abbrev pub uses_of : Kind → Uses
uses_of kinds.Order = record { firm = true; side = true; number = false; price = true; quantity = true; minimum = false; time = false }
uses_of kinds.Withdrawal = record { firm = true; side = false; number = true; price = false; quantity = false; minimum = false; time = false }
uses_of kinds.ManualRequest = record { firm = true; side = true; number = false; price = false; quantity = true; minimum = true; time = true }
uses_of kinds.AutoRequest = record { firm = true; side = true; number = false; price = true; quantity = true; minimum = true; time = true }
uses_of kinds.Answer = record { firm = true; side = true; number = true; price = true; quantity = true; minimum = false; time = false }
uses_of kinds.Confirmation = record { firm = true; side = true; number = true; price = true; quantity = false; minimum = false; time = false }
uses_of kinds.Clock = record { firm = false; side = false; number = false; price = false; quantity = false; minimum = false; time = true }

-- whether the byte at a place belongs to a field that is used; the byte after the side never does
abbrev pub used_at : Uses → ℕ → Bool
used_at u p =
    cond (p == 0) true (cond (p == 1) u.firm (cond (p == 2) u.side (cond (p == 3) false
    (cond (nat_lt p 8) u.number (cond (nat_lt p 12) u.price (cond (nat_lt p 16) u.quantity
    (cond (nat_lt p 20) u.minimum (cond (nat_lt p 24) u.time true))))))))

abbrev pub allowed_at : Uses → ℕ → ℕ → Bool
allowed_at u p b = used_at u p || b == 0

-- the first place, counted from p, that is not zero and belongs to no used field
abbrev pub first_stray : Uses → List ℕ → ℕ → Option ℕ
first_stray u [] p = opt.None
first_stray u (b ∷ bs) p = cond (allowed_at u p b) (first_stray u bs (p + 1)) (opt.Some p)

-- the number of the four bytes at a place, little-endian
abbrev pub field_at : List ℕ → ℕ → ℕ
field_at b at = slice_index b at + slice_index b (at + 1) * 256 + slice_index b (at + 2) * 65536 + slice_index b (at + 3) * 16777216

-- every field that is not used is zero: told by whole fields, where the first stray byte is not asked for
abbrev pub clean_fields : Uses → List ℕ → Bool
clean_fields u b =
    (((((u.firm || slice_index b 1 == 0) && (u.side || slice_index b 2 == 0) && slice_index b 3 == 0)
    && ((u.number || field_at b 4 == 0) && (u.price || field_at b 8 == 0) && (u.quantity || field_at b 12 == 0)))
    && (u.minimum || field_at b 16 == 0)) && (u.time || field_at b 20 == 0))

-- the value of a field, 0 where it is not used
abbrev pub kept : Bool → ℕ → ℕ
kept used n = cond used n 0

-- the fields that a kind uses, read from a frame
abbrev pub fields_in : Kind → List ℕ → Fields
fields_in k b =
    record {
      kind = kind_code k;
      firm = kept (uses_of k).firm (slice_index b 1);
      side = kept (uses_of k).side (slice_index b 2);
      number = kept (uses_of k).number (field_at b 4);
      price = kept (uses_of k).price (field_at b 8);
      quantity = kept (uses_of k).quantity (field_at b 12);
      minimum = kept (uses_of k).minimum (field_at b 16);
      time = kept (uses_of k).time (field_at b 20);
      reference = take 8 (drop 24 b);
    }

-- the checks in their order: length, kind, stray bytes, side
abbrev pub sided : ℕ → List ℕ → Kind → Result Fields Fault
sided place b k = cond (nat_lt 2 (slice_index b 2)) (Err (fault refusals.SideCode place 2)) (Ok (fields_in k b))

abbrev pub clean : ℕ → List ℕ → Kind → Option ℕ → Result Fields Fault
clean place b k (opt.Some at) = Err (fault refusals.Stray place at)
clean place b k opt.None = sided place b k

abbrev pub kinded : ℕ → List ℕ → Option Kind → Result Fields Fault
kinded place b opt.None = Err (fault refusals.Kind place 0)
kinded place b (opt.Some k) = clean place b k (first_stray (uses_of k) (take 24 b) 0)

-- the message of the frame b at a place of its file, or the fault
abbrev pub decoded : Bool → ℕ → List ℕ → Result Fields Fault
decoded orders place b = cond (length b == 32) (kinded place b (kind_of orders (slice_index b 0))) (Err (fault refusals.Length place 0))

abbrev pub answer : {O : Type 0} → Result (Message O) Fault → Result Fields Fault
answer (Ok m) = Ok (meaning m)
answer (Err e) = Err e
