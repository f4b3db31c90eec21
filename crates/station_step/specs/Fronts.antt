-- What a station keeps to fire at once of its inputs on the shelf, and what a take at each of its fronts does. Only the
-- station and its shelf read these words.
use Rattle.std.specs.Prelude.{◌≡◌, ◌≢◌, ℕ, ◌<◌, ◌≤◌, Bool, false, List, [], Option, None, Some, IsTrue, IfSome, IfNone, length, slice_index, slice_index_or}
use Rattle.std.specs.List.{list_any, range_with_len}
use Rattle.line_base.specs.declared.event.Parts.{Parts}
use Rattle.card_queue.specs.Plain.{PlainQueue, plain_waiting}
use Rattle.event_graph.specs.GreatestValue.{greatest}
use Rattle.station_step.specs.declared.source.Source.{Source}
use Rattle.station_step.specs.Shelf.{queue_at, source_at, with_take, OnlyTakes}
use Rattle.station_step.specs.declared.fronts.Front.{Front}
use Rattle.station_step.specs.declared.input.Input.{Input}
use Rattle.station_step.specs.Ends.{inlet_queue}
use Rattle.station_step.specs.Input.{input_at}
use Rattle.station_step.specs.Kept.{saturating}
use Rattle.station_step.specs.Noted.{extras_into, delays_into}
use Rattle.station_step.specs.RingInputs.{is_ring_input}

-- the front with this number
abbrev pub front_at : List Front → ℕ → Front
front_at fronts k =
    slice_index_or fronts k (record { queue = 0; later = 0; extra = record { marker = record {}; value = 0 } })

-- what is kept with each as the delay with what is added is that sum, by the delays of their queues
abbrev pub AreLaterBy : List Source → List Front → Type 0
AreLaterBy sources fronts = (k : ℕ) → k < length fronts →
    (front_at fronts k).later ≡
    saturating (source_at sources (front_at fronts k).queue).delay (front_at fronts k).extra.value

-- the tokens that wait at a front
abbrev pub waiting_at : List PlainQueue → List Front → ℕ → List ℕ
waiting_at shelf fronts k = plain_waiting (queue_at shelf (front_at fronts k).queue)

-- what the first of them asks of the date of the job
abbrev pub front_asks : List PlainQueue → List Front → ℕ → ℕ
front_asks shelf fronts k = saturating (slice_index (waiting_at shelf fronts k) 0) (front_at fronts k).extra.value

-- each of them is at a queue of a shelf of this many, and no two at the same
abbrev pub FrontsWithin : ℕ → List Front → Type 0
FrontsWithin count fronts = (k : ℕ) → k < length fronts → (front_at fronts k).queue < count

abbrev pub FrontsApart : List Front → Type 0
FrontsApart fronts = (j k : ℕ) → j < k → k < length fronts → (front_at fronts j).queue ≢ (front_at fronts k).queue

-- none of them is at queue q
abbrev pub NoneAt : ℕ → List Front → Type 0
NoneAt q fronts = (k : ℕ) → k < length fronts → (front_at fronts k).queue ≢ q

-- a token waits at each of them
abbrev pub AreAllThere : List PlainQueue → List Front → Type 0
AreAllThere shelf fronts = (k : ℕ) → k < length fronts → waiting_at shelf fronts k ≢ []

-- of the queue at each of them the tokens are taken with which it began: the next are dates of its source
abbrev pub AreDates : List PlainQueue → List Front → Type 0
AreDates shelf fronts = (k : ℕ) → k < length fronts →
    length (queue_at shelf (front_at fronts k).queue).initial ≤ (queue_at shelf (front_at fronts k).queue).takes

-- the first token is taken at each of them where one waits at each that is a date of its source, and this is the latest
-- date that they ask for; else nothing is taken
pub record TakesEach (fronts : List Front) (old new : List PlainQueue) (latest : Option ℕ) : Type 0 where
  pub there : IfSome latest (λ _. AreAllThere old fronts)
  pub dates : IfSome latest (λ _. AreDates old fronts)
  pub date : IfSome latest (λ date. date ≡ greatest (front_asks old fronts) (range_with_len 0 (length fronts)))
  pub each : IfSome latest (λ _. (k : ℕ) → k < length fronts →
      queue_at new (front_at fronts k).queue ≡ with_take (queue_at old (front_at fronts k).queue))
  pub lacks : IfNone latest (AreAllThere old fronts → AreDates old fronts → ⊥)
  pub stays : IfNone latest (new ≡ old)
  pub only_takes : OnlyTakes old new
  pub others : (q : ℕ) → NoneAt q fronts → queue_at new q ≡ queue_at old q

-- one of these numbers is k
abbrev pub HasNumber : ℕ → List ℕ → Type 0
HasNumber k numbers = (j : ℕ) × ((j < length numbers) × (slice_index numbers j ≡ k))

-- these are the fronts of the first inputs, this many: of each that takes from a queue of the shelf there is one, in
-- their order, which is at that queue. With it stands what is noted beside its input, and the delay of its arc with that
-- added
pub record FrontsUpTo (n : ℕ) (delays extras : List ℕ) (inputs : List Input) (fronts : List Front) : Type 0 where
  pub numbers : List ℕ  -- the numbers of their inputs
  pub count : length numbers ≡ length fronts
  pub within : (j : ℕ) → j < length fronts → slice_index numbers j < n
  pub in_order : (i j : ℕ) → i < j → j < length fronts → slice_index numbers i < slice_index numbers j
  pub queues : (j : ℕ) → j < length fronts →
      inlet_queue (input_at inputs (slice_index numbers j)).inlet ≡ Some (front_at fronts j).queue
  pub extra : (j : ℕ) → j < length fronts →
      (front_at fronts j).extra.value ≡ slice_index extras (slice_index numbers j)
  pub later : (j : ℕ) → j < length fronts →
      (front_at fronts j).later ≡ saturating (slice_index delays (slice_index numbers j)) (front_at fronts j).extra.value
  pub each : (k : ℕ) → k < n → is_ring_input (input_at inputs k) ≡ false → HasNumber k numbers

-- and these those of all inputs
abbrev pub AreFronts : List ℕ → List ℕ → List Input → List Front → Type 0
AreFronts delays extras inputs fronts = FrontsUpTo (length inputs) delays extras inputs fronts

-- station t is not the feed, each job takes as long there, and no outlet can lack space; these are its fronts
pub record IsDirect (g : Parts) (t : ℕ) (inputs : List Input) (fronts : List Front)
    (fixed bounded : Bool) : Type 0 where
  pub fronts_are : (job : ℕ) → AreFronts (delays_into g t) (extras_into g t job) inputs fronts
  pub fixed_is : IsTrue fixed
  pub unbounded : bounded ≡ false
  pub inside : t ≢ 0

-- all hands are empty
abbrev pub AreEmptyHanded : List Input → Type 0
AreEmptyHanded inputs = (k : ℕ) → k < length inputs → (input_at inputs k).hand ≡ None

-- what a station keeps to fire at once: where it is direct, its fronts; where it may fire by them now, all hands are
-- empty; and whether one of its inputs is over a ring
pub record IsReadied (g : Parts) (t : ℕ) (inputs : List Input) (fronts : List Front)
    (fixed bounded rings_in direct at_once : Bool) : Type 0 where
  pub fires : IsTrue direct → IsDirect g t inputs fronts fixed bounded
  pub may : IsTrue at_once → IsTrue direct
  pub hands : IsTrue at_once → AreEmptyHanded inputs
  pub rings_are : rings_in ≡ list_any is_ring_input inputs
