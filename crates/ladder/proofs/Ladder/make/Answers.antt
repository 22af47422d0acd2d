use Rattle.std.proofs.Common.{◌≡◌, Some, None, Ok, Err, Option, Result, MatchResult, IsOkAnd, ap, ◌∙◌, rules}
use Rattle.std.specs.Option.{option_map}
use Rattle.book.specs.declared.MakeError.{MakeError}
use Rattle.book.specs.Meaning.{Meaning}
use Rattle.book.specs.Making.{made_unless, made_as, result_means}
use Rattle.book.proofs.Making.{fill_means}
use Rattle.ladder.specs.declared.Ladder.{Ladder}
use Rattle.ladder.specs.Rungs.{ladder_refused, ladder_of}
use Rattle.ladder.specs.Ladders.{ladder_means}
use Rattle.ladder.proofs.Ladder.make.Goals as goal

-- a ladder that is raised where nothing is refused
made_is : (P : Unit {0} → Ladder → Type 0) (why : Option MakeError) (new : Meaning) (r : Result (Unit {0}) MakeError) (b : Result Ladder MakeError) → r ≡ made_unless why → MatchResult r (λ x. IsOkAnd b (P x)) (λ e. b ≡ Err e) → ((x : Unit {0}) (l : Ladder) → P x l → ladder_means l ≡ new) → result_means ladder_means b ≡ made_as why new
made_is P None new (Ok x) (Ok l) e m k = ap Ok (k x l m)
made_is P None new (Ok x) (Err y) e m k = absurd m
made_is P None new (Err z) b e m k = cc
made_is P (Some y) new (Ok x) b e m k = cc
made_is P (Some y) new (Err z) (Ok l) e m k = cc
made_is P (Some y) new (Err z) (Err w) e m k = cc

pub returns-clause-after : goal.returns-clause-after
returns-clause-after c =
    let plan = c.args.plan in
    let made = made_is _ (ladder_refused plan) (ladder_of plan) c.check.result c.map.result c.check.ensures.value c.map.ensures.cases (λ x l p. search rules) in
    ap (option_map ladder_means) c.fill.ensures.after ∙ fill_means ladder_means (ladder_refused plan) (ladder_of plan) c.map.result c.args.place.now made
