-- The side that a side trades with, and a side in words.
use Rattle.std.specs.Prelude.{ℕ, List, codes}
use Rattle.units.specs.declared.side.Side.{Side}
use Rattle.units.specs.declared.side.Side.TheVariants as sides

abbrev pub other : Side → Side
other sides.Buy = sides.Sell
other sides.Sell = sides.Buy

abbrev pub side_word : Side → List ℕ
side_word sides.Buy = codes "buy"
side_word sides.Sell = codes "sell"
