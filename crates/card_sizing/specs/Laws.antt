-- Laws of the counts, each on a public function whose contract cites it.
-- Source: Baccelli, Cohen, Olsder, Quadrat, Synchronization and Linearity: dates do not get later with more tokens.
use Rattle.std.specs.Prelude.{◌≡◌, ℕ, ◌≤◌, List}
use Rattle.line_base.specs.Limits.{most_cards}
use Rattle.plant_model.specs.declared.plant.Plant.{Plant}
use Rattle.plant_model.specs.Sound.{IsSound}
use Rattle.card_sizing.specs.Sized.{sized_plant, lowest}
use Rattle.card_sizing.specs.Serving.{Serves}
use Rattle.card_sizing.specs.Each.{AreLeastInOrder}

-- with each count from the lowest to the limit the plant is sound
abbrev pub CountsAreSound : Plant → Type 0
CountsAreSound p = (c : ℕ) → lowest p ≤ c → c ≤ most_cards → IsSound (sized_plant p c)

-- each count above one that serves serves, up to the limit
abbrev pub MoreCardsServe : Plant → Type 0
MoreCardsServe p = (may c d : ℕ) → Serves p may c → c ≤ d → d ≤ most_cards → Serves p may d

-- there is one list of counts that begins at the least single count and is lowered in order
abbrev pub CountsInOrderAreOne : Plant → Type 0
CountsInOrderAreOne p =
    (may : ℕ) (one other : List ℕ) → AreLeastInOrder p may one → AreLeastInOrder p may other → one ≡ other
