-- The steps of the loops that gather, settle, lessen and kill.
use Rattle.std.proofs.Common.{◌≡◌, ℕ, ◌+◌, ◌<◌, ◌≤◌, Bool, true, false, cond, ◌&&◌, List, [], ◌∷◌, ◌++◌, ◌-◌, map, length, length-drop, get_or, take, drop, filter, fold, Option, Some, None, sym, refl, ap, ◌∙◌, subst, append-nil, arith, length-append, map-id}
use Rattle.std.proofs.lemmas.List.{drop_more, drop_all, length-map}
use Rattle.std.specs.List.{between, filter_map, cons_option}
use Rattle.std.specs.Iterator.{Yields, Drains}
use Rattle.std.proofs.iter.Next.{Yields-more}
use Rattle.std.proofs.lemmas.Iterator.{YieldsList}
use Rattle.std.proofs.lemmas.Iterator.Adapters.{at_most_from_yields_List}
use Rattle.std.proofs.lemmas.Iterator.Consumers.{YieldsList-end}
use borrow.Rule.Slice.PartMut.{put_mid}
use Rattle.std.proofs.lemmas.Slice.{between_to_end}
use Rattle.units.specs.declared.side.Side.{Side}
use Rattle.units.specs.declared.side.Side.TheVariants as sides
use Rattle.units.specs.Sides.{other}
use Rattle.ranked.specs.Writes.{WritesFront}
use Rattle.ranked.proofs.Fronts.{front_as, front_then}
use Rattle.book.specs.declared.Offer.{Offer}
use Rattle.book.specs.Meaning.{Meaning, side_of}
use Rattle.draw.specs.declared.offers.Eligible.{Eligible}
use Rattle.draw.specs.declared.offers.Offered.{Offered}
use Rattle.draw.specs.declared.offers.Taker.{Taker}
use Rattle.draw.specs.Offers.{eligible, admitted, is_eligible, as_eligible, same_side}
use Rattle.draw.proofs.Gathering.{eligible_append}
use Rattle.rules.specs.declared.records.Answer.{Answer}
use Rattle.rules.specs.declared.reports.Report.{Report}
use Rattle.rules.specs.Offers.{from_book, from_answer, offered}
use Rattle.rules.specs.Reports.{filled, killed, fills_of, kills_of}
use Rattle.turns.specs.Settled.{after_report, settled}

-- ── what is written ──

-- the same places, counted as the code has them
pub front_same : {Y : Type 0} {old new after : List Y} {n m : ℕ} {xs ys : List Y} → after ≡ new → m ≡ n → xs ≡ ys → WritesFront old new n xs → WritesFront old after m ys
front_same {Y} {old} {new} {after} {n} {m} {xs} {ys} s p e w = subst (λ (v : List Y). WritesFront old v m ys) (sym s) (subst (λ k. WritesFront old new k ys) (sym p) (front_as e w))

-- and behind what is written, over the rest of the list
pub front_behind : {X : Type 0} {old mid rest : List X} {n m : ℕ} {xs ys : List X} → WritesFront old mid n xs → WritesFront (between n (length mid) mid) rest m ys →
    WritesFront old (put_mid n (length mid - n) mid rest) (n + m) (xs ++ ys)
front_behind {X} {old} {mid} {rest} {n} {m} {xs} {ys} v w =
    let all : between n (length mid) mid ≡ drop n mid = between_to_end mid n (length mid) (omega arith) in
    let none : drop (length mid - n) (drop n mid) ≡ [] = drop_all (length mid - n) (drop n mid) (let e = length-drop n mid in omega arith) in
    front_same
    (ap (λ (z : List X). take n mid ++ (rest ++ z)) none ∙ ap (λ (z : List X). take n mid ++ z) (append-nil rest)) refl refl
    (front_then v (subst (λ (z : List X). WritesFront z rest m ys) all w))

-- ── what an iterator gives ──

-- where there is room for all that it gives, there is room for one item more than it gave before its next
pub room_left : {S A : Type 0} (steps : S → Option A → S → Type 0) {s r t u : S} {room : ℕ} (xs : List A) (x : A) → ((es : List A) (v : S) → Yields steps s es v → length es ≤ room) → r ≡ s → Yields steps r xs t → steps t (Some x) u → length xs < room
room_left steps {s} {r} {t} {u} xs x all q y e =
    let l = all (xs ++ x ∷ []) u (Yields-more steps s xs t x u (subst (λ z. Yields steps z xs t) q y) e) in
    let k = length-append xs (x ∷ []) in
    omega arith

pub room_for : {S A : Type 0} {steps : S → Option A → S → Type 0} {s : S} {room : ℕ} (all : List A) → length all ≤ room → YieldsList steps (λ x. x) s all → (es : List A) (v : S) → Yields steps s es v → length es ≤ room
room_for all l y = (at_most_from_yields_List y l).runs

pub all_given : {S A : Type 0} {steps : S → Option A → S → Type 0} {s : S} (es all : List A) → Drains steps s es → YieldsList steps (λ x. x) s all → es ≡ all
all_given es all d y = sym (map-id es) ∙ (YieldsList-end y es _ d.1.1 None d.0 refl d.1.2).0

-- one side of a book and the answers, as requests see them
abbrev pub seen : Meaning → Side → List Answer → List Offered
seen m d xs = map (from_book d) (side_of m d) ++ map from_answer xs

module _ (t : Taker) where
  -- the offers that are admitted, one by one, are the eligible ones
  admitted_all : (os : List Offered) → filter_map (admitted t) os ≡ eligible t os
  admitted_all [] = refl
  admitted_all (o ∷ os) = ap (cons_option (admitted t o)) (admitted_all os) ∙ go (is_eligible t o)
    where
      go : (b : Bool) → cons_option (cond b (Some (as_eligible o)) None) (eligible t os) ≡ map as_eligible (cond b (o ∷ filter (is_eligible t) os) (filter (is_eligible t) os))
      go true = refl
      go false = refl

  one_more : (es : List Eligible) (o : Offered) (os : List Offered) → length es ≤ length os → (b : Bool) → length (cons_option (cond b (Some (as_eligible o)) None) es) ≤ length (o ∷ os)
  one_more es o os l true = omega arith
  one_more es o os l false = omega arith

  admitted_few : (os : List Offered) → length (filter_map (admitted t) os) ≤ length os
  admitted_few [] = omega arith
  admitted_few (o ∷ os) = one_more (filter_map (admitted t) os) o os (admitted_few os) (is_eligible t o)

  pub drawn_few : (m : Meaning) (d : Side) (xs : List Answer) (most : ℕ) → length (side_of m d) ≤ most → length (filter_map (admitted t) (seen m d xs)) ≤ most + length xs
  drawn_few m d xs most l =
      let f = admitted_few (seen m d xs) in
      let e = length-append (map (from_book d) (side_of m d)) (map from_answer xs) in
      let p = length-map (side_of m d) (from_book d) in
      let q = length-map xs from_answer in
      omega arith

-- of the book's own side of a request nothing is eligible
own_side : (t : Taker) (d : Side) → t.side ≡ d → (os : List Offer) → eligible t (map (from_book d) os) ≡ []
own_side t d e [] = refl
own_side t sides.Buy e (o ∷ os) =
    ap (λ (s : Side). map as_eligible (cond (same_side sides.Buy (other s) && true) (from_book sides.Buy o ∷ filter (is_eligible t) (map (from_book sides.Buy) os)) (filter (is_eligible t) (map (from_book sides.Buy) os)))) e
    ∙ own_side t sides.Buy e os
own_side t sides.Sell e (o ∷ os) =
    ap (λ (s : Side). map as_eligible (cond (same_side sides.Sell (other s) && true) (from_book sides.Sell o ∷ filter (is_eligible t) (map (from_book sides.Sell) os)) (filter (is_eligible t) (map (from_book sides.Sell) os)))) e
    ∙ own_side t sides.Sell e os

-- what a request may draw on stands on the other side of the book, and among the answers
pub sides_drawn : (t : Taker) (m : Meaning) (d : Side) → d ≡ other t.side → (xs : List Answer) →
    eligible t (map (from_book d) (side_of m d)) ++ eligible t (map from_answer xs) ≡ eligible t (offered m.buys m.sells xs)
sides_drawn t m d e xs = go t.side refl e
  where
    parts : eligible t (offered m.buys m.sells xs) ≡ eligible t (map (from_book sides.Buy) m.buys) ++ (eligible t (map (from_book sides.Sell) m.sells) ++ eligible t (map from_answer xs))
    parts =
        eligible_append t (map (from_book sides.Buy) m.buys) (map (from_book sides.Sell) m.sells ++ map from_answer xs)
        ∙ ap (λ (v : List Eligible). eligible t (map (from_book sides.Buy) m.buys) ++ v) (eligible_append t (map (from_book sides.Sell) m.sells) (map from_answer xs))

    go : (s : Side) → t.side ≡ s → d ≡ other s → eligible t (map (from_book d) (side_of m d)) ++ eligible t (map from_answer xs) ≡ eligible t (offered m.buys m.sells xs)
    go sides.Buy h f =
        ap (λ (v : Side). eligible t (map (from_book v) (side_of m v)) ++ eligible t (map from_answer xs)) f
        ∙ sym (parts ∙ ap (λ (v : List Eligible). v ++ (eligible t (map (from_book sides.Sell) m.sells) ++ eligible t (map from_answer xs))) (own_side t sides.Buy h m.buys))
    go sides.Sell h f =
        ap (λ (v : Side). eligible t (map (from_book v) (side_of m v)) ++ eligible t (map from_answer xs)) f
        ∙ sym (parts ∙ ap (λ (v : List Eligible). eligible t (map (from_book sides.Buy) m.buys) ++ (v ++ eligible t (map from_answer xs))) (own_side t sides.Sell h m.sells))

pub drawn_is : (t : Taker) (m : Meaning) (d : Side) → d ≡ other t.side → (xs : List Answer) → filter_map (admitted t) (seen m d xs) ≡ eligible t (offered m.buys m.sells xs)
drawn_is t m d e xs = admitted_all t (seen m d xs) ∙ (eligible_append t (map (from_book d) (side_of m d)) (map from_answer xs) ∙ sides_drawn t m d e xs)

-- ── settling ──

pub settled_more : (m : Meaning) (d : Side) (rs : List Report) (i : ℕ) (x : Report) → i < length rs → settled m d (drop i rs) ≡ settled (after_report m d (get_or rs i x)) d (drop (i + 1) rs)
unfolding settled
settled_more m d rs i x l = ap (settled m d) (drop_more rs i x l)

pub settled_end : (m : Meaning) (d : Side) (rs : List Report) (i : ℕ) → length rs ≤ i → settled m d (drop i rs) ≡ m
unfolding settled
settled_end m d rs i l = ap (settled m d) (drop_all i rs l)

-- ── what reports leave ──

pub left_after : (rs : List Report) (n l : ℕ) → fold (λ (a : ℕ) (r : Report). a - (fills_of n r + kills_of n r)) l rs ≡ l - (filled rs n + killed rs n)
unfolding filled killed
left_after [] n l = omega arith
left_after (r ∷ rs) n l = let h = left_after rs n (l - (fills_of n r + kills_of n r)) in omega arith
