use Rattle.std.proofs.Common.{◌≡◌, true, get_or, position, Some, sym, ◌∙◌, rules, arith}
use Rattle.book.specs.Meaning.{numbered, list_takes}
use Rattle.book.proofs.Answers.{goes, takes}
use Rattle.kept.specs.Tables.{stored}
use Rattle.kept.proofs.Places.{nothing, has_at, left_at, taken_at}
use Rattle.kept.proofs.table.TableOneSide.take.Goals as goal

pub returns-then-eq-clause-after : goal.returns-then-eq-clause-after
returns-then-eq-clause-after c =
    let os = stored c.args.self.now in
    let n = c.args.number.0 in
    let a = c.args.amount.0 in
    let k = c.in_ok-place.place in
    let f : Some k ≡ position (numbered n) os = sym c.in_ok-place.ensures.ok_part ∙ c.place.ensures in
    let l : (get_or os k nothing).left.0 ≡ a = search rules in
    let t : list_takes c.args.lot.0 os n a ≡ true = takes c.args.lot.0 os n a (has_at os n k f) (search rules) (omega (arith, left_at os n k f, l)) in
    goes _ _ _ _ t (c.remove.ensures.items ∙ taken_at os n k f a l)
