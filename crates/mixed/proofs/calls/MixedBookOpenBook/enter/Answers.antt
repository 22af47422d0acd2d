use Rattle.std.proofs.Common.{◌≡◌, false, sym, arith}
use Rattle.book.specs.Meaning.{can_enter}
use Rattle.mixed.specs.Joined.{joined}
use Rattle.kept.specs.Kept.{kept_means}
use Rattle.ladder.specs.Ladders.{ladder_means}
use Rattle.book.proofs.Answers.{refuses, stays}
use Rattle.mixed.proofs.Joining.{enter_full, enter_known, entered}
use Rattle.mixed.proofs.calls.MixedBookOpenBook.enter.Goals as goal
use Rattle.mixed.proofs.calls.MixedBookOpenBook.enter.Goals.{then-count-ge-MOST_A_SIDE-via-then-count-ge-MOST_A_SIDE, then-count-ge-MOST_A_SIDE-via-else-count-ge-MOST_A_SIDE+then-has}

pub returns-then-count-ge-MOST_A_SIDE : goal.returns-then-count-ge-MOST_A_SIDE
returns-then-count-ge-MOST_A_SIDE c =
    let b = c.args.self.now in
    let m = ladder_means b.rungs in
    let n = kept_means b.orders in
    let f : can_enter 128 (joined m n) c.args.side c.args.offer ≡ false =
    elim c.then-count-ge-MOST_A_SIDE.branch [
      | then-count-ge-MOST_A_SIDE-via-then-count-ge-MOST_A_SIDE w ↦ enter_full m n b.lots b.ok c.args.side c.args.offer (omega (arith, w.if-count-ge-MOST_A_SIDE.true, c.count.ensures))
      | then-count-ge-MOST_A_SIDE-via-else-count-ge-MOST_A_SIDE+then-has w ↦ enter_known m n b.lots b.ok c.args.side c.args.offer (sym w.if-has.ensures)
    ] in
    record { result = refuses _ f; after = stays _ _ _ f }

pub invariant_of-self : goal.invariant_of-self
invariant_of-self c = let b = c.args.self.now in let w = entered (ladder_means b.rungs) (kept_means b.orders) b.lots b.ok c.args.side c.args.offer c.enter.result (kept_means c.enter.new.self) (omega (arith, c.if-count-ge-MOST_A_SIDE.false, c.count.ensures)) (sym c.if-has.ensures) c.enter.ensures.result c.enter.ensures.after in record { lots = w.0.lots; ok = w.0.ok }

pub returns : goal.returns
returns c = let b = c.args.self.now in let w = entered (ladder_means b.rungs) (kept_means b.orders) b.lots b.ok c.args.side c.args.offer c.enter.result (kept_means c.enter.new.self) (omega (arith, c.if-count-ge-MOST_A_SIDE.false, c.count.ensures)) (sym c.if-has.ensures) c.enter.ensures.result c.enter.ensures.after in record { result = w.1; after = w.0.whole }
