-- The takes of fills from a book are what the fills leave of it.
use Rattle.std.proofs.Common.{◌≡◌, ℕ, ◌+◌, ◌<◌, ◌≤◌, Bool, true, false, cond, not, ◌&&◌, ◌||◌, eqb, ltb, leb, List, [], ◌∷◌, sym, refl, ap, ◌∙◌, subst, ap₂, arith}
use Rattle.std.specs.List.{AllByRecursion}
use Rattle.std.proofs.ByRecursion.{All-weaker}
use Rattle.std.proofs.lemmas.Bool.{cond-true, eq-eqb, eqb-true, eqb-false, ltb-true, le-leb, and_from, and_parts, not-true}
use Rattle.units.specs.declared.side.Side.{Side}
use Rattle.units.specs.declared.side.Side.TheVariants.{Buy, Sell}
use Rattle.units.specs.Ranges.{within, is_whole}
use Rattle.book.specs.declared.Offer.{Offer}
use Rattle.book.specs.Meaning.{Meaning, side_of, with_side, has, left_of, taken, lots, can_take, after_take, in_range}
use Rattle.book.specs.Laws.{distinct, all_in_range, Sound}
use Rattle.book.proofs.Sound.{sound_from, side_distinct}
use Rattle.book.proofs.Ranges.{range_parts, within_parts}
use Rattle.draw.specs.declared.fills.Fill.{Fill}
use Rattle.rules.specs.declared.reports.Report.{Report}
use Rattle.rules.specs.declared.reports.Report.TheVariants as report
use Rattle.rules.specs.State.{an_offer}
use Rattle.rules.specs.Reports.{remain, rest, filled_by, filled, killed, fills_of}
use Rattle.rules.specs.Takes.{Listed, Without}
use Rattle.rules.proofs.Books.{book_does}
use Rattle.rules.proofs.Left.{remain_same}
use Rattle.rules.proofs.Fine.{offer_laws}
use Rattle.turns.specs.Settled.{settled, book_less, Drawn, Settles}

-- ── what reports leave of a list ──

-- of each offer that is left, what holds of it with less left
all_remain : (P Q : Offer → Type 0) (rs : List Report) → ((o : Offer) → P o → 0 < rest an_offer rs o → Q (an_offer.with_left o (rest an_offer rs o))) → (os : List Offer) → AllByRecursion P os → AllByRecursion Q (remain an_offer rs os)
unfolding remain
all_remain P Q rs f [] a = tt
all_remain P Q rs f (o ∷ os) a = go (ltb 0 (rest an_offer rs o)) refl (all_remain P Q rs f os a.1)
  where
    go : (b : Bool) → ltb 0 (rest an_offer rs o) ≡ b → AllByRecursion Q (remain an_offer rs os) → AllByRecursion Q (cond b (an_offer.with_left o (rest an_offer rs o) ∷ remain an_offer rs os) (remain an_offer rs os))
    go true e h = (f o a.0 (ltb-true 0 (rest an_offer rs o) e), h)
    go false e h = h

pub without_remain : (rs : List Report) (os : List Offer) (n : ℕ) → Without os n → Without (remain an_offer rs os) n
without_remain rs os n a = all_remain _ _ rs (λ o h l. h) os a

pub listed_remain : (rs : List Report) (os : List Offer) → Listed os → Listed (remain an_offer rs os)
unfolding remain
listed_remain rs [] a = tt
listed_remain rs (o ∷ os) a = go (ltb 0 (rest an_offer rs o)) refl (listed_remain rs os a.2)
  where
    go : (b : Bool) → ltb 0 (rest an_offer rs o) ≡ b → Listed (remain an_offer rs os) → Listed (cond b (an_offer.with_left o (rest an_offer rs o) ∷ remain an_offer rs os) (remain an_offer rs os))
    go true e h = (without_remain rs os o.number.0 a.0, ltb-true 0 (rest an_offer rs o) e, h)
    go false e h = h

-- no reports leave everything
all_left : (os : List Offer) → Listed os → remain an_offer [] os ≡ os
unfolding filled killed
all_left os a = remain_same an_offer offer_laws [] os (some os a)
  where
    some : (os : List Offer) → Listed os → AllByRecursion (λ (o : Offer). (0 < o.left.0) × (filled [] o.number.0 + killed [] o.number.0 ≡ 0)) os
    some [] a = tt
    some (o ∷ os) a = ((a.1, refl), some os a.2)

-- ── one take ──

has_not : (os : List Offer) (n : ℕ) → has os n ≡ false → Without os n
has_not [] n e = tt
has_not (o ∷ os) n e = go (eqb o.number.0 n) refl e (has_not os n)
  where
    go : (b : Bool) → eqb o.number.0 n ≡ b → (b || has os n) ≡ false → (has os n ≡ false → Without os n) → Without (o ∷ os) n
    go true f e h = let z : ◌≡◌ {A = ℕ} 0 1 = cc in absurd (omega arith)
    go false f e h = (eqb-false o.number.0 n f, h e)

-- what is asked of the number n is left, where it is no more than is left of each offer of that number
enough_left : (os : List Offer) (n a : ℕ) → AllByRecursion (λ (o : Offer). o.number.0 ≡ n → a ≤ o.left.0) os → has os n ≡ true → a ≤ left_of os n
enough_left [] n a h e = let z : ◌≡◌ {A = ℕ} 0 1 = cc in absurd (omega arith)
enough_left (o ∷ os) n a h e = go (eqb o.number.0 n) refl e (enough_left os n a h.1)
  where
    go : (b : Bool) → eqb o.number.0 n ≡ b → (b || has os n) ≡ true → (has os n ≡ true → a ≤ left_of os n) → a ≤ cond b o.left.0 (left_of os n)
    go true f e k = h.0 (eqb-true o.number.0 n f)
    go false f e k = k e

one_side : (lot t : ℕ) (f : Fill) (os : List Offer) → lots lot f.quantity.0 ≡ true → Listed os → Without os t → (has os f.maker.0 ≡ true → f.quantity.0 ≤ left_of os f.maker.0) →
    cond (has os f.maker.0 && (lots lot f.quantity.0 && leb f.quantity.0 (left_of os f.maker.0))) (taken os f.maker.0 f.quantity.0) os ≡ remain an_offer (filled_by t f ∷ []) os
one_side lot t f os whole w ne h = go (has os f.maker.0) refl
  where
    go : (b : Bool) → has os f.maker.0 ≡ b → cond (b && (lots lot f.quantity.0 && leb f.quantity.0 (left_of os f.maker.0))) (taken os f.maker.0 f.quantity.0) os ≡ remain an_offer (filled_by t f ∷ []) os
    go true e = cond-true _ _ _ (and_from _ _ whole (le-leb _ _ (h e))) ∙ book_does.take os t f w ne (h e)
    go false e = sym (book_does.elsewhere os t f w ne (has_not os f.maker.0 e))

with_cond : (m : Meaning) (d : Side) (b : Bool) (os : List Offer) → cond b (with_side m d os) m ≡ with_side m d (cond b os (side_of m d))
with_cond m Buy true os = refl
with_cond m Buy false os = refl
with_cond m Sell true os = refl
with_cond m Sell false os = refl

-- no two offers of a side share a number, and each has something left
pub record BothListed (m : Meaning) : Type 0 where
  pub buys : Listed m.buys
  pub sells : Listed m.sells

one_take : (m : Meaning) (d : Side) (t : ℕ) (f : Fill) → BothListed m → Drawn m d (filled_by t f) → (has (side_of m d) f.maker.0 ≡ true → f.quantity.0 ≤ left_of (side_of m d) f.maker.0) →
    after_take m d f.maker.0 f.quantity.0 ≡ book_less (filled_by t f ∷ []) m
one_take m Buy t f w r h =
    with_cond m Buy (can_take m Buy f.maker.0 f.quantity.0) (taken m.buys f.maker.0 f.quantity.0)
    ∙ ap₂ (λ (x y : List Offer). record { buys = x; sells = y; lot = m.lot })
    (one_side m.lot t f m.buys r.0 w.buys r.1 h)
    (sym (book_does.elsewhere m.sells t f w.sells r.2 r.3))
one_take m Sell t f w r h =
    with_cond m Sell (can_take m Sell f.maker.0 f.quantity.0) (taken m.sells f.maker.0 f.quantity.0)
    ∙ ap₂ (λ (x y : List Offer). record { buys = x; sells = y; lot = m.lot })
    (sym (book_does.elsewhere m.buys t f w.buys r.1 r.3))
    (one_side m.lot t f m.sells r.0 w.sells r.2 h)

-- ── all takes ──

drawn_less : (m : Meaning) (d : Side) (rs : List Report) (r : Report) → Drawn m d r → Drawn (book_less rs m) d r
drawn_less m Buy rs (report.Fill t f) h = (h.0, without_remain rs _ _ h.1, without_remain rs _ _ h.2, without_remain rs _ _ h.3)
drawn_less m Sell rs (report.Fill t f) h = (h.0, without_remain rs _ _ h.1, without_remain rs _ _ h.2, without_remain rs _ _ h.3)
drawn_less m d rs (report.Kill reason n q) h = absurd h

side_less : (m : Meaning) (d : Side) (rs : List Report) → side_of (book_less rs m) d ≡ remain an_offer rs (side_of m d)
side_less m Buy rs = refl
side_less m Sell rs = refl

-- what one fill takes, and the others after it
first_fill : (t : ℕ) (f : Fill) (fs : List Report) (n : ℕ) → filled (filled_by t f ∷ fs) n ≡ fills_of n (filled_by t f) + filled fs n
unfolding filled
first_fill t f fs n = refl

one_only : (t : ℕ) (f : Fill) (n : ℕ) → filled (filled_by t f ∷ []) n + killed (filled_by t f ∷ []) n ≡ fills_of n (filled_by t f)
unfolding filled killed
one_only t f n = omega arith

maker_gives : (t : ℕ) (f : Fill) (n : ℕ) → n ≡ f.maker.0 → f.quantity.0 ≤ fills_of n (filled_by t f)
maker_gives t f n e = let z = cond-true (eqb f.maker.0 n) f.quantity.0 0 (eq-eqb _ n (sym e)) in omega arith

less_settles : (m : Meaning) (d : Side) (t : ℕ) (f : Fill) (fs : List Report) → Settles m d (filled_by t f ∷ fs) → Settles (book_less (filled_by t f ∷ []) m) d fs
less_settles m d t f fs h = record {
  fills = All-weaker _ _ (λ r k. drawn_less m d (filled_by t f ∷ []) r k) fs h.fills.1;
  within = subst (AllByRecursion (λ (o : Offer). filled fs o.number.0 ≤ o.left.0)) (sym (side_less m d (filled_by t f ∷ [])))
      (all_remain (λ (o : Offer). filled (filled_by t f ∷ fs) o.number.0 ≤ o.left.0) _ (filled_by t f ∷ [])
      (λ o k l. (let a = first_fill t f fs o.number.0 in let b = one_only t f o.number.0 in omega arith)) (side_of m d) h.within);
}

pub settles : (fs : List Report) (m : Meaning) (d : Side) → BothListed m → Settles m d fs → settled m d fs ≡ book_less fs m
unfolding settled
settles [] m d w h = ap₂ (λ (x y : List Offer). record { buys = x; sells = y; lot = m.lot }) (sym (all_left m.buys w.buys)) (sym (all_left m.sells w.sells))
settles (report.Kill reason n q ∷ fs) m d w h = absurd h.fills.0
settles (report.Fill t f ∷ fs) m d w h =
    ap (λ (x : Meaning). settled x d fs) first
    ∙ (settles fs (book_less (one ∷ []) m) d (record { buys = listed_remain (one ∷ []) _ w.buys; sells = listed_remain (one ∷ []) _ w.sells }) (less_settles m d t.0 f fs h)
    ∙ ap₂ (λ (x y : List Offer). record { buys = x; sells = y; lot = m.lot }) (sym (book_does.one_more one fs m.buys)) (sym (book_does.one_more one fs m.sells)))
  where
    one : Report
    one = filled_by t.0 f

    first : after_take m d f.maker.0 f.quantity.0 ≡ book_less (one ∷ []) m
    first = one_take m d t.0 f w h.fills.0
        (enough_left (side_of m d) f.maker.0 f.quantity.0
        (All-weaker _ _ (λ o k e. (let a = first_fill t.0 f fs o.number.0 in let b = maker_gives t.0 f o.number.0 e in omega arith)) (side_of m d) h.within))

-- ── from the laws of a book ──

side_listed : (lot : ℕ) (os : List Offer) → distinct os ≡ true → all_in_range lot os ≡ true → Listed os
side_listed lot [] e h = tt
side_listed lot (o ∷ os) e h =
    let p = and_parts (not (has os o.number.0)) (distinct os) e in
    let q = and_parts (in_range lot o) (all_in_range lot os) h in
    let b = (within_parts 1 1000000 o.left.0 (and_parts (within 1 1000000 o.left.0) (is_whole lot o.left.0) (range_parts lot o q.0).left).0).0 in
    (has_not os o.number.0 (not-true _ p.0), (omega arith), side_listed lot os p.1 q.1)

lawful_listed : (most : ℕ) (m : Meaning) → Sound most m → BothListed m
lawful_listed most m g =
    let t = sound_from most m g in
    record { buys = side_listed m.lot m.buys (side_distinct most m Buy t) (g.ranged Buy); sells = side_listed m.lot m.sells (side_distinct most m Sell t) (g.ranged Sell) }

-- what the takes leave of a lawful book, told by its meaning after them
pub settles_as : (most : ℕ) (m after : Meaning) (d : Side) (fs : List Report) → Sound most m → after ≡ settled m d fs → Settles m d fs → after ≡ book_less fs m
settles_as most m after d fs g e h = e ∙ settles fs m d (lawful_listed most m g) h
