use Rattle.std.proofs.Common.{◌≡◌, slice_get, Some, rules}
use Rattle.book.specs.Meaning.{side_of}
use Rattle.book.proofs.Listing.{left_more, left_fewer}
use Rattle.book.proofs.iter.SideOffersIterator.next.Goals as goal

pub returns-clause-steps : goal.returns-clause-steps
returns-clause-steps g c =
    let it = c.args.self.now in
    let os = side_of (g.B.Book.means it.book.now) it.side in
    let e : Some c.in_ok-offer.offer ≡ slice_get os it.place = rw c.in_ok-offer.was at c.offer.ensures in
    left_more os it.place c.in_ok-offer.offer e

pub returns-clause-goes : goal.returns-clause-goes
returns-clause-goes g c =
    let it = c.args.self.now in
    let os = side_of (g.B.Book.means it.book.now) it.side in
    let e : Some c.in_ok-offer.offer ≡ slice_get os it.place = rw c.in_ok-offer.was at c.offer.ensures in
    record { on = λ f. (search rules, search rules, left_fewer os it.place c.in_ok-offer.offer e); keeps = search rules; rests = search rules }
