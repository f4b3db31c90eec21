-- The search for heavier walks, for the functions that make it: potentials grow arc by arc, each station keeps the arc
-- that gave it its potential, and a circuit of such arcs weighs more than 0. Source: the method of Bellman and Ford for
-- longest walks, with a look for circuits among the arcs that it keeps.
use Rattle.std.specs.Prelude.{◌≡◌, ℕ, ◌+◌, ◌-◌, ◌*◌, ◌^◌, ◌<◌, ◌≤◌, ◌⊎◌, List, length, sum_by, slice_index, slice_set, All}
use Rattle.line_base.specs.declared.event.Parts.{Parts}
use Rattle.event_graph.specs.Network.{stations, arc_count, arc, delay, EndsAt}
use Rattle.event_graph.specs.Term.{work}
use Rattle.event_graph.specs.Circuit.{IsWalk, IsCircuit}
use Rattle.cycle_time.specs.Certificate.{most_potential}
use Rattle.cycle_time.specs.declared.search.Found.{Found}
use Rattle.cycle_time.specs.declared.search.Found.TheVariants.{Circuit, Potentials as Final}
use Rattle.cycle_time.specs.declared.tree.Offer.{Offer}
use Rattle.cycle_time.specs.declared.tree.Sweep.{Sweep}
use Rattle.cycle_time.specs.declared.tree.Sweep.TheVariants.{Up, Down}
use Rattle.cycle_time.specs.declared.weights.Weighing.{Weighing}
use Rattle.cycle_time.specs.declared.weights.Weighing.TheVariants.{PerArc, AtRatio}

-- what an arc adds to a walk, and what it takes away
unfoldable pub gain : Parts → Weighing → ℕ → ℕ
gain g PerArc a = 1
gain g (AtRatio time cards) a = cards * (work g a 1 + delay g a)

unfoldable pub loss : Parts → Weighing → ℕ → ℕ
loss g PerArc a = 0
loss g (AtRatio time cards) a = time * (arc g a).tokens

-- what the arcs of a walk add together, and what they take away
abbrev pub gains : Parts → Weighing → List ℕ → ℕ
gains g w arcs = sum_by (gain g w) arcs

abbrev pub losses : Parts → Weighing → List ℕ → ℕ
losses g w arcs = sum_by (loss g w) arcs

-- no arc adds more, and none takes more away, at the ratio of a circuit that has the most stations, each of its arcs
-- with the most tokens and the longest times
abbrev pub most_gain : ℕ
most_gain = 20_000_000_000_000_000

-- the most time and the most cards of a ratio of a circuit
abbrev pub IsModest : Weighing → Type 0
IsModest PerArc = Unit {0}
IsModest (AtRatio time cards) = (time ≤ 1_024_000_000_000) × (cards ≤ 5_120_000)

-- what each arc adds, and what it takes away, as lists
pub record Weighed : Type 0 where
  pub weighing : Weighing
  pub gained : List ℕ
  pub lost : List ℕ

-- the lists have the gain and the loss of each arc
pub record AreWeights (g : Parts) (lists : Weighed) : Type 0 where
  pub gain_for_each : length lists.gained ≡ arc_count g
  pub loss_for_each : length lists.lost ≡ arc_count g
  pub gains : (a : ℕ) → a < arc_count g → slice_index lists.gained a ≡ gain g lists.weighing a
  pub losses : (a : ℕ) → a < arc_count g → slice_index lists.lost a ≡ loss g lists.weighing a
  pub gains_small : (a : ℕ) → gain g lists.weighing a ≤ most_gain
  pub losses_small : (a : ℕ) → loss g lists.weighing a ≤ most_gain

-- the potential of each station, and the arc that gave it, or the number of arcs
pub record Potentials : Type 0 where
  pub potentials : List ℕ
  pub entries : List ℕ

-- each arc of the list is the entry of the station at its end
abbrev pub AreEntries : Parts → List ℕ → List ℕ → Type 0
AreEntries g entries arcs = All (λ a. slice_index entries (arc g a).to ≡ a) arcs

-- some walk that ends at station t sums to what is gained
pub record IsReached (g : Parts) (w : Weighing) (t potential : ℕ) : Type 0 where
  pub start : ℕ
  pub walk : List ℕ
  pub ends : IsWalk g start walk t
  pub sum : potential + losses g w walk ≡ gains g w walk

-- each potential is that of a walk, and comes at most from its entry; a circuit of entries gains more than it loses
pub record IsGrown (g : Parts) (w : Weighing) (p : Potentials) : Type 0 where
  pub potential_for_each : length p.potentials ≡ stations g
  pub entry_for_each : length p.entries ≡ stations g
  pub enters : (t : ℕ) → t < stations g → slice_index p.entries t < arc_count g →
      (arc g (slice_index p.entries t)).to ≡ t
  pub comes : (t : ℕ) → t < stations g → slice_index p.entries t < arc_count g →
      slice_index p.potentials t + loss g w (slice_index p.entries t)
      ≤ slice_index p.potentials (arc g (slice_index p.entries t)).from + gain g w (slice_index p.entries t)
  pub grounded : (t : ℕ) → t < stations g → arc_count g ≤ slice_index p.entries t → slice_index p.potentials t ≡ 0
  pub reached : (t : ℕ) → t < stations g → IsReached g w t (slice_index p.potentials t)
  pub heavier : (s : ℕ) (arcs : List ℕ) → 0 < length arcs → IsWalk g s arcs s → AreEntries g p.entries arcs →
      losses g w arcs < gains g w arcs

-- what arc a gives, which is more than before
pub record IsGiven (g : Parts) (w : Weighing) (potentials : List ℕ) (a before : ℕ) (offer : Offer) : Type 0 where
  pub entry : offer.entry ≡ a
  pub gives : offer.potential + loss g w a ≡ slice_index potentials (arc g a).from + gain g w a
  pub more : before < offer.potential

-- the potential that arc a gives to station t: more than t has, and at least what any other arc into t gives
pub record IsBest (g : Parts) (w : Weighing) (potentials : List ℕ) (t a potential : ℕ) : Type 0 where
  pub enters : EndsAt g t a
  pub gives : potential + loss g w a ≡ slice_index potentials (arc g a).from + gain g w a
  pub more : slice_index potentials t < potential
  pub best : (b : ℕ) → EndsAt g t b → slice_index potentials (arc g b).from + gain g w b ≤ potential + loss g w b

-- no arc into station t gives it more than it has
abbrev pub IsSettled : Parts → Weighing → List ℕ → ℕ → Type 0
IsSettled g w potentials t =
    (b : ℕ) → EndsAt g t b → slice_index potentials (arc g b).from + gain g w b ≤ slice_index potentials t + loss g w b

-- the potential is what arc a gives to its end if that is more than before, and covers what the arc gives
pub record IsBetter (g : Parts) (w : Weighing) (potentials : List ℕ) (a : ℕ) (before after : Offer) : Type 0 where
  pub covers : slice_index potentials (arc g a).from + gain g w a ≤ after.potential + loss g w a
  pub kept : before.potential ≤ after.potential
  pub cause : (after ≡ before) ⊎ IsGiven g w potentials a before.potential after

-- the potential that station t has and no arc exceeds, or the best that an arc gives it
abbrev pub IsBestOffer : Parts → Weighing → List ℕ → ℕ → Offer → Type 0
IsBestOffer g w potentials t offer =
    ((offer.potential ≡ slice_index potentials t) × IsSettled g w potentials t)
    ⊎ IsBest g w potentials t offer.entry offer.potential

-- the step of a pass over this many stations at which station t stands
abbrev pub step_of : Sweep → ℕ → ℕ → ℕ
step_of Up stations t = t
step_of Down stations t = stations - 1 - t

-- station t with this potential, which arc a gave
abbrev pub with_potential : Potentials → ℕ → ℕ → ℕ → Potentials
with_potential p t a potential =
    record { potentials = slice_set p.potentials t potential; entries = slice_set p.entries t a }

-- station t got the best that an arc gives it
pub record IsRaisedAt (g : Parts) (w : Weighing) (old new : Potentials) (t : ℕ) : Type 0 where
  pub entry : ℕ
  pub potential : ℕ
  pub best : IsBest g w old.potentials t entry potential
  pub got : new ≡ with_potential old t entry potential

-- station t keeps its potential, since no arc gives it more
pub record IsKeptAt (g : Parts) (w : Weighing) (old new : Potentials) (t : ℕ) : Type 0 where
  pub same : new ≡ old
  pub settled : IsSettled g w old.potentials t

-- no potential is below its old one
abbrev pub IsRaised : Parts → Potentials → Potentials → Type 0
IsRaised g old new = (t : ℕ) → t < stations g → slice_index old.potentials t ≤ slice_index new.potentials t

-- each arc into a station gives it at most what it has now, from the old potential of the arc's start
abbrev pub Covers : Parts → Weighing → Potentials → Potentials → Type 0
Covers g w old new =
    (a : ℕ) → a < arc_count g →
    slice_index old.potentials (arc g a).from + gain g w a ≤ slice_index new.potentials (arc g a).to + loss g w a

-- the potential of station t is more than it was
pub record HasRisen (g : Parts) (old new : Potentials) (t : ℕ) : Type 0 where
  pub exists : t < stations g
  pub more : slice_index old.potentials t < slice_index new.potentials t

-- no potential is more than this
abbrev pub IsWithin : ℕ → Potentials → Type 0
IsWithin most p = All (λ potential. potential ≤ most) p.potentials

-- a circuit that gains more than it loses, with no more arcs than there are stations
pub record IsHeavy (g : Parts) (w : Weighing) (arcs : List ℕ) : Type 0 where
  pub circuit : IsCircuit g arcs
  pub heavier : losses g w arcs < gains g w arcs
  pub few : length arcs ≤ stations g
  pub exist : All (λ a. a < arc_count g) arcs

-- a walk with fewer arcs than there are stations sums to what station t has
pub record IsSoonReached (g : Parts) (w : Weighing) (p : Potentials) (t : ℕ) : Type 0 where
  pub start : ℕ
  pub walk : List ℕ
  pub ends : IsWalk g start walk t
  pub short : length walk < stations g
  pub sum : slice_index p.potentials t + losses g w walk ≤ gains g w walk

-- each arc that gave a station its potential ends there
abbrev pub EntriesEnter : Parts → Potentials → Type 0
EntriesEnter g p =
    (t : ℕ) → t < stations g → slice_index p.entries t < arc_count g → (arc g (slice_index p.entries t)).to ≡ t

-- walks of at most n arcs sum to no more than the potentials of their ends
abbrev pub CoversWalks : Parts → Weighing → Potentials → ℕ → Type 0
CoversWalks g w p n =
    (s t : ℕ) (arcs : List ℕ) → IsWalk g s arcs t → t < stations g → length arcs ≤ n →
    gains g w arcs ≤ slice_index p.potentials t + losses g w arcs

-- no potential is more when a pass begins: no walk of fewer arcs than stations gains as much, and what one pass adds
-- leaves it below `most_potential`
abbrev pub most_before_pass : ℕ
most_before_pass = 10 ^ 23

-- potentials at which no arc gives more: each that of a walk, and none too much for a certificate
pub record AreFinal (g : Parts) (w : Weighing) (potentials : List ℕ) : Type 0 where
  pub potential_for_each : length potentials ≡ stations g
  pub settled : (a : ℕ) → a < arc_count g →
      slice_index potentials (arc g a).from + gain g w a ≤ slice_index potentials (arc g a).to + loss g w a
  pub reached : (t : ℕ) → t < stations g → IsReached g w t (slice_index potentials t)
  pub small : All (λ potential. potential ≤ most_potential) potentials

-- a circuit that gains more than it loses, or the potentials at which no arc gives more
abbrev pub Finds : Parts → Weighing → Found → Type 0
Finds g w (Circuit arcs) = IsHeavy g w arcs.items
Finds g w (Final potentials) = AreFinal g w potentials.items
