-- What stands beside the inputs and the outlets of a station: words over the inputs or the outlets alone see nothing of
-- it.
use Rattle.std.proofs.Common.{◌≡◌, ℕ, suc, ◌+◌, ◌<◌, List, [], ◌∷◌, ◌++◌, length, set, map, take, get_or, refl, sym, ap, ◌∙◌, arith}
use Rattle.std.specs.Prelude.{Bool, None, All, false, if◌then◌else◌, slice_index}
use Rattle.std.proofs.Math.Seq.{map-set, map-set_same}
use Rattle.std.proofs.Math.ListN.{get_or-map}
use Rattle.std.proofs.lemmas.List.{length-set, length-map, length-append, length_push, take_more_set, take_more, take_all, append-nil, append_assoc, map-append, get_or_default}
use Rattle.std.proofs.lemmas.List as list
use Rattle.line_base.specs.declared.event.Parts.{Parts}
use Rattle.event_graph.specs.Network.{arc, ins, outs, delay, time, EndsAt}
use Rattle.event_graph.specs.Term.{work}
use Rattle.station_step.specs.declared.ends.Inlet.{Inlet}
use Rattle.station_step.specs.declared.ends.Inlet.TheVariants.{Local}
use Rattle.station_step.specs.declared.ends.Outlet.TheVariants as outlet
use Rattle.station_step.specs.declared.ends.Outlet.{Outlet}
use Rattle.station_step.specs.declared.noted.NotedInput.{NotedInput}
use Rattle.station_step.specs.declared.noted.NotedOutlet.{NotedOutlet}
use Rattle.station_step.specs.Input.{input_at, empty_handed}
use Rattle.station_step.specs.Station.{outlet_at}
use Rattle.station_step.specs.Noted.{inputs_of, extras_of, unnoted_input, outlets_of, delays_of, worked_into, extras_for, extras_into, delays_from}

abbrev pub no_input : NotedInput
no_input = record { input = record { inlet = Local 0; hand = None }; extra = 0 }

abbrev pub no_outlet : NotedOutlet
no_outlet = record { outlet = outlet.Local 0; delay = 0 }

-- ---- one of the inputs, with what is noted of it

pub input-at : (inputs : List NotedInput) (k : ℕ) → input_at (inputs_of inputs) k ≡ (get_or inputs k no_input).input
input-at inputs k = get_or-map (λ (n : NotedInput). n.input) inputs k no_input

pub extra-at : (inputs : List NotedInput) (k : ℕ) → slice_index (extras_of inputs) k ≡ (get_or inputs k no_input).extra
extra-at inputs k = get_or-map (λ (n : NotedInput). n.extra) inputs k no_input

pub outlet-at : (outlets : List NotedOutlet) (k : ℕ) → outlet_at (outlets_of outlets) k ≡ (get_or outlets k no_outlet).outlet
outlet-at outlets k = get_or-map (λ (n : NotedOutlet). n.outlet) outlets k no_outlet

pub delay-at : (outlets : List NotedOutlet) (k : ℕ) → slice_index (delays_of outlets) k ≡ (get_or outlets k no_outlet).delay
delay-at outlets k = get_or-map (λ (n : NotedOutlet). n.delay) outlets k no_outlet

pub inputs-count : (inputs : List NotedInput) → length (inputs_of inputs) ≡ length inputs
inputs-count inputs = length-map inputs (λ (n : NotedInput). n.input)

pub outlets-count : (outlets : List NotedOutlet) → length (outlets_of outlets) ≡ length outlets
outlets-count outlets = length-map outlets (λ (n : NotedOutlet). n.outlet)

-- the one that is lent at its place
pub input-lent : (inputs : List NotedInput) (k : ℕ) (lent : NotedInput) → k < length inputs → lent ≡ get_or inputs k lent → lent ≡ get_or inputs k no_input
input-lent inputs k lent low is = is ∙ get_or_default inputs k _ _ low

pub outlet-lent : (outlets : List NotedOutlet) (k : ℕ) (lent : NotedOutlet) → k < length outlets → lent ≡ get_or outlets k lent → lent ≡ get_or outlets k no_outlet
outlet-lent outlets k lent low is = is ∙ get_or_default outlets k _ _ low

-- the inputs of which nothing is noted yet
pub inputs-unnoted : (inlets : List Inlet) → inputs_of (map unnoted_input inlets) ≡ map empty_handed inlets
inputs-unnoted [] = refl
inputs-unnoted (inlet ∷ inlets) = ap (λ l. empty_handed inlet ∷ l) (inputs-unnoted inlets)

-- ---- one of them changes

pub inputs-set : (inputs : List NotedInput) (k : ℕ) (noted : NotedInput) → inputs_of (set inputs k noted) ≡ set (inputs_of inputs) k noted.input
inputs-set inputs k noted = map-set (λ (n : NotedInput). n.input) inputs k noted

pub extras-stay : (inputs : List NotedInput) (k : ℕ) (noted : NotedInput) → noted.extra ≡ (get_or inputs k no_input).extra → extras_of (set inputs k noted) ≡ extras_of inputs
extras-stay inputs k noted same = map-set_same (λ (n : NotedInput). n.extra) inputs k noted no_input same

pub outlets-set : (outlets : List NotedOutlet) (k : ℕ) (noted : NotedOutlet) → outlets_of (set outlets k noted) ≡ set (outlets_of outlets) k noted.outlet
outlets-set outlets k noted = map-set (λ (n : NotedOutlet). n.outlet) outlets k noted

pub delays-stay : (outlets : List NotedOutlet) (k : ℕ) (noted : NotedOutlet) → noted.delay ≡ (get_or outlets k no_outlet).delay → delays_of (set outlets k noted) ≡ delays_of outlets
delays-stay outlets k noted same = map-set_same (λ (n : NotedOutlet). n.delay) outlets k noted no_outlet same

-- ---- the walk that notes a job's time

-- beside the inputs below k stands what a job that takes so long adds
pub record NotedUpTo (k : ℕ) (worked : List Bool) (takes : ℕ) (before after : List NotedInput) : Type 0 where
  pub count : length after ≡ length before
  pub inputs : inputs_of after ≡ inputs_of before
  pub extras : take k (extras_of after) ≡ take k (extras_for worked takes)

-- none yet
pub noted_none : (worked : List Bool) (takes : ℕ) (inputs : List NotedInput) → NotedUpTo 0 worked takes inputs inputs
noted_none worked takes inputs = record { count = refl; inputs = refl; extras = refl }

-- one input more
pub noted_more : (k : ℕ) (worked : List Bool) (takes : ℕ) (before after : List NotedInput) (noted : NotedInput) → k < length after → length worked ≡ length after → noted.input ≡ (get_or after k no_input).input → noted.extra ≡ (if get_or worked k false then takes else 0) → NotedUpTo k worked takes before after → NotedUpTo (k + 1) worked takes before (set after k noted)
noted_more k worked takes before after noted low each input extra up_to =
    let adds : Bool → ℕ = λ is_worked. if is_worked then takes else 0 in
    record {
      count = length-set after k noted ∙ up_to.count;
      inputs = map-set_same (λ (n : NotedInput). n.input) after k noted no_input input ∙ up_to.inputs;
      extras =
          ap (take (k + 1)) (map-set (λ (n : NotedInput). n.extra) after k noted)
          ∙ take_more_set (extras_of after) k noted.extra (omega (arith, low, length-map after (λ (n : NotedInput). n.extra)))
          ∙ ap (λ xs. xs ++ noted.extra ∷ []) up_to.extras
          ∙ ap (λ n. take k (extras_for worked takes) ++ n ∷ []) (extra ∙ sym (get_or-map adds worked k false))
          ∙ sym (take_more (extras_for worked takes) k 0 (omega (arith, low, each, length-map worked adds)));
    }

-- all of them
pub noted_all : (k : ℕ) (worked : List Bool) (takes : ℕ) (before after : List NotedInput) → k ≡ length before → length worked ≡ length before → NotedUpTo k worked takes before after → extras_of after ≡ extras_for worked takes
noted_all k worked takes before after all each up_to =
    sym (take_all k (extras_of after) (omega (arith, all, up_to.count, length-map after (λ (n : NotedInput). n.extra))))
    ∙ up_to.extras
    ∙ take_all k (extras_for worked takes) (omega (arith, all, each, length-map worked (λ (is_worked : Bool). if is_worked then takes else 0)))

-- ---- the walk that notes the delays

-- the outlets so far have the delays of their arcs, and these are left
pub record DelaysUpTo (g : Parts) (t : ℕ) (noted : List NotedOutlet) (left all : List Outlet) : Type 0 where
  pub outlets : outlets_of noted ++ left ≡ all
  pub delays : delays_of noted ≡ take (length noted) (delays_from g t)

-- how many are there with those that are left
pub delays-count : (g : Parts) (t : ℕ) (noted : List NotedOutlet) (left all : List Outlet) → DelaysUpTo g t noted left all → length noted + length left ≡ length all
delays-count g t noted left all up_to =
    omega (arith, length-map noted (λ (n : NotedOutlet). n.outlet), length-append (outlets_of noted) left, ap length up_to.outlets)

-- one outlet more
pub delays_more : (g : Parts) (t : ℕ) (noted : List NotedOutlet) (o : Outlet) (d : ℕ) (left all : List Outlet) → length all ≡ length (outs g t) → d ≡ delay g (slice_index (outs g t) (length noted)) → DelaysUpTo g t noted (o ∷ left) all → DelaysUpTo g t (noted ++ record { outlet = o; delay = d } ∷ []) left all
delays_more g t noted o d left all each d_is up_to =
    let next : NotedOutlet = record { outlet = o; delay = d } in
    let k = length noted in
    let low : k < length (outs g t) = omega (arith, each, delays-count g t noted (o ∷ left) all up_to) in
    record {
      outlets =
          ap (λ xs. xs ++ left) (map-append (λ (n : NotedOutlet). n.outlet) noted (next ∷ []))
          ∙ append_assoc (outlets_of noted) (o ∷ []) left
          ∙ up_to.outlets;
      delays =
          map-append (λ (n : NotedOutlet). n.delay) noted (next ∷ [])
          ∙ ap (λ xs. xs ++ d ∷ []) up_to.delays
          ∙ ap (λ n. take k (delays_from g t) ++ n ∷ []) (d_is ∙ sym (list.get_or-map (delay g) (outs g t) k 0 0 low))
          ∙ sym (take_more (delays_from g t) k 0 (omega (arith, low, length-map (outs g t) (delay g))))
          ∙ ap (λ n. take n (delays_from g t)) (sym (length_push noted next));
    }

nothing_left : (left : List Outlet) → length left ≡ 0 → left ≡ []
nothing_left [] none = refl
nothing_left (o ∷ left) none = absurd (omega (arith, none))

-- all of them
pub delays_all : (g : Parts) (t : ℕ) (noted : List NotedOutlet) (left all : List Outlet) → length all ≡ length (outs g t) → length left ≡ 0 → DelaysUpTo g t noted left all → (outlets_of noted ≡ all) × (delays_of noted ≡ delays_from g t)
delays_all g t noted left all each none up_to = (
  sym (append-nil (outlets_of noted)) ∙ ap (λ xs. outlets_of noted ++ xs) (sym (nothing_left left none)) ∙ up_to.outlets,
  up_to.delays
      ∙ take_all (length noted) (delays_from g t) (omega (arith, each, none, delays-count g t noted left all up_to, length-map (outs g t) (delay g))),
)

-- what a job adds, by the arcs' own words
work-worked : (g : Parts) (t job takes : ℕ) (arcs : List ℕ) → takes ≡ time g t job → All (EndsAt g t) arcs → map (λ (is_worked : Bool). if is_worked then takes else 0) (map (λ a. (arc g a).worked) arcs) ≡ map (λ a. work g a job) arcs
unfolding work
work-worked g t job takes [] takes_is ends = refl
work-worked g t job takes (a ∷ arcs) takes_is ends =
    let to : (arc g a).to ≡ t = (ends 0 0 (omega arith)).1 in
    ap (λ n. (if (arc g a).worked then n else 0) ∷ map (λ (is_worked : Bool). if is_worked then takes else 0) (map (λ b. (arc g b).worked) arcs))
    (takes_is ∙ ap (λ n. time g n job) (sym to))
    ∙ ap (λ xs. work g a job ∷ xs) (work-worked g t job takes arcs takes_is (λ k d low. ends (suc k) d (omega (arith, low))))

-- what a job that takes the station's time adds, by which arcs into it are worked
pub extras-into : (g : Parts) (t job takes : ℕ) (worked : List Bool) → worked ≡ worked_into g t → takes ≡ time g t job → All (EndsAt g t) (ins g t) → extras_for worked takes ≡ extras_into g t job
extras-into g t job takes worked worked_is takes_is ends =
    ap (λ (l : List Bool). extras_for l takes) worked_is ∙ work-worked g t job takes (ins g t) takes_is ends
