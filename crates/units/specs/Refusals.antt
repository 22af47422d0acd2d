-- The number of each refusal and the part that refuses so, with that part in words.
use Rattle.std.specs.Prelude.{ℕ, List, codes}
use Rattle.units.specs.declared.refusal.Layer.{Layer}
use Rattle.units.specs.declared.refusal.Layer.TheVariants as layers
use Rattle.units.specs.declared.refusal.Refusal.{Refusal}
use Rattle.units.specs.declared.refusal.Refusal.TheVariants as refusals

abbrev pub number_of : Refusal → ℕ
number_of refusals.Length = 1
number_of refusals.Kind = 2
number_of refusals.Stray = 3
number_of refusals.SideCode = 4
number_of refusals.ReportList = 5
number_of refusals.WorkingList = 6
number_of refusals.House = 7
number_of refusals.Time = 8
number_of refusals.Unknown = 9
number_of refusals.Price = 10
number_of refusals.Quantity = 11
number_of refusals.Minimum = 12
number_of refusals.Delay = 13
number_of refusals.WrongSide = 14
number_of refusals.NotProvider = 15
number_of refusals.Automatic = 16
number_of refusals.Full = 17
number_of refusals.NoNumber = 18

abbrev pub layer_number : Layer → ℕ
layer_number layers.File = 1
layer_number layers.Gateway = 2
layer_number layers.Market = 3

abbrev pub layer_word : Layer → List ℕ
layer_word layers.File = codes "file"
layer_word layers.Gateway = codes "gateway"
layer_word layers.Market = codes "market"

abbrev pub layer_of : Refusal → Layer
layer_of refusals.Length = layers.File
layer_of refusals.Kind = layers.Gateway
layer_of refusals.Stray = layers.Gateway
layer_of refusals.SideCode = layers.Gateway
layer_of refusals.ReportList = layers.Market
layer_of refusals.WorkingList = layers.Market
layer_of refusals.House = layers.Market
layer_of refusals.Time = layers.Market
layer_of refusals.Unknown = layers.Market
layer_of refusals.Price = layers.Market
layer_of refusals.Quantity = layers.Market
layer_of refusals.Minimum = layers.Market
layer_of refusals.Delay = layers.Market
layer_of refusals.WrongSide = layers.Market
layer_of refusals.NotProvider = layers.Market
layer_of refusals.Automatic = layers.Market
layer_of refusals.Full = layers.Market
layer_of refusals.NoNumber = layers.Market
