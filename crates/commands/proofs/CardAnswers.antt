-- Counts of cards, from what sizing answers.
use Rattle.std.proofs.Common.{◌≡◌, ℕ, false, List, inl}
use Rattle.std.specs.Prelude.{Result, Ok, Err}
use Rattle.std.proofs.lemmas.Bool.{true_from_ne_false}
use Rattle.answers.specs.CardsText.{cards_text}
use Rattle.answers.specs.declared.answer.Answer.TheVariants.{Text}
use Rattle.card_sizing.specs.Serving.{Serves}
use Rattle.card_sizing.specs.Sized.{has_single_count}
use Rattle.card_sizing.specs.Sizing.{NoneServesBelow, IsBelow}
use Rattle.card_sizing.specs.declared.sizing.Sizing.{Sizing}
use Rattle.card_sizing.specs.declared.sizing.SizingError.{SizingError}
use Rattle.card_sizing.specs.declared.sizing.SizingError.TheVariants.{NoSingleCount}
use Rattle.commands.proofs.OrNoMemory.{OrNoMemory}
use Rattle.commands.specs.Answers.{IsCards}
use Rattle.plant_model.specs.declared.plant.Plant.{Plant}

-- counts that were found are no error
abbrev found : {A : Type 0} → A → Result A SizingError
found counts = Ok counts

pub no_error : {A : Type 0} (counts : A) → found counts ≡ Err NoSingleCount → ⊥
no_error counts is = cc

-- a count of cards
pub cards_found : (p : Plant) (wait : ℕ) (sizing : Sizing) (text : List ℕ) → (has_single_count p ≡ false → ⊥) →
    Serves p wait sizing.cards → NoneServesBelow p wait sizing.cards → IsBelow p wait sizing.cards sizing.below →
    text ≡ cards_text sizing → OrNoMemory (IsCards p wait) (Ok (Text text))
cards_found p wait sizing text single serves least below is = inl (inl (record {
  sizing = sizing;
  single = true_from_ne_false (has_single_count p) single;
  serves = serves;
  least = least;
  below = below;
  written = is;
}))
