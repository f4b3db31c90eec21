-- The hands of a station while they are emptied, one after the other.
use Rattle.std.proofs.Common.{◌≡◌, ◌≢◌, ℕ, ◌+◌, ◌<◌, ◌≤◌, List, length, set, map, refl, sym, ap, ◌∙◌, arith, ⊎_elim, get_or-set_same, get_or-set_other}
use Rattle.std.specs.Prelude.{None}
use Rattle.std.proofs.Math.Seq.{map-set_same}
use Rattle.std.proofs.lemmas.Bool.{cases_eq}
use Rattle.std.proofs.lemmas.List.{length-set}
use Rattle.station_step.specs.declared.ends.Inlet.{Inlet}
use Rattle.station_step.specs.declared.ends.Inlet.TheVariants.{Local}
use Rattle.station_step.specs.declared.input.Input.{Input}
use Rattle.station_step.specs.Input.{input_at}
use Rattle.station_step.specs.Station.{bare_input}
use Rattle.station_step.proofs.Turns.{below-set}

-- the hands of the inputs below k are empty, the other inputs as they were
pub record EmptiedUpTo (k : ℕ) (before after : List Input) : Type 0 where
  pub count : length after ≡ length before
  pub inlets : (j : ℕ) → (input_at after j).inlet ≡ (input_at before j).inlet
  pub same : map bare_input after ≡ map bare_input before
  pub hands : (j : ℕ) → j < k → (input_at after j).hand ≡ None
  pub rest : (j : ℕ) → k ≤ j → input_at after j ≡ input_at before j

-- none is emptied yet
pub emptied_none : (inputs : List Input) → EmptiedUpTo 0 inputs inputs
emptied_none inputs = record {
  count = refl;
  inlets = λ j. refl;
  same = refl;
  hands = λ j lt. absurd (omega (arith, lt));
  rest = λ j le. refl;
}

-- the next hand is emptied
pub emptied_more : (k : ℕ) (before after : List Input) (input : Input) → k < length after → EmptiedUpTo k before after → input.inlet ≡ (input_at after k).inlet → input.hand ≡ None → EmptiedUpTo (k + 1) before (set after k input)
emptied_more k before after input low up_to inlet empty =
    let d : Input = record { inlet = Local 0; hand = None } in
    let here : (j : ℕ) → j ≡ k → input_at (set after k input) j ≡ input =
    λ j e. ap (input_at (set after k input)) e ∙ get_or-set_same after k input d low in
    let elsewhere : (j : ℕ) → j ≢ k → input_at (set after k input) j ≡ input_at after j =
    λ j ne. get_or-set_other after k j input d ne in
    record {
      count = length-set after k input ∙ up_to.count;
      inlets = λ j.
          ⊎_elim
          (λ (e : j ≡ k). ap (λ (i : Input). i.inlet) (here j e) ∙ inlet ∙ ap (λ n. (input_at after n).inlet) (sym e))
          (λ (ne : j ≢ k). ap (λ (i : Input). i.inlet) (elsewhere j ne))
          (cases_eq j k)
          ∙ up_to.inlets j;
      same = map-set_same bare_input after k input d (ap (λ (i : Inlet). bare_input (record { inlet = i; hand = None })) inlet) ∙ up_to.same;
      hands = below-set d (λ (j : ℕ) (i : Input). i.hand ≡ None) k after input low up_to.hands empty;
      rest = λ j le. elsewhere j (λ e. absurd (omega (arith, e))) ∙ up_to.rest j (omega arith);
    }
