-- The big plant of every seed is sound: each class of refusals refuses nothing.
use Rattle.std.proofs.Common.{◌≡◌, ℕ, zero, suc, ◌+◌, ◌-◌, ◌*◌, ◌<◌, ◌≤◌, List, [], length, get_or, codes, refl, ap, arith}
use Rattle.std.specs.Fmt.{digits}
use Rattle.std.proofs.lemmas.Bool.{le-ltb}
use Rattle.std.proofs.lemmas.List.FromFn.{length-map-range_with_len, get_or-map-range_with_len}
use Rattle.line_base.specs.Limits.{most_stages, most_stations, most_demands, most_dates, most_cards, longest_time, last_demand}
use Rattle.plant_model.specs.Line.{station_count}
use Rattle.plant_model.specs.Refusals.{each, element_above, bad_names, names_twice, machine_out_of_range, stage_out_of_range, top_out_of_range, out_of_range, all_feeds_not_later, second_finals, parts_refusals, times_counts, falling_date, demand_order, too_few_in_stage, too_few_cards, loops_not_downstream, too_large, whole_refusals}
use Rattle.plant_model.specs.Sound.{IsSound}
use Rattle.plant_model.proofs.Soundness.{IsSound-from}
use Rattle.live_plant.specs.Generator.{state_after, draw_below}
use Rattle.live_plant.specs.Big.{machine_from, machines_from, stage_from, stage_of, stages_of, date_from, dates_from, big_plant}
use Rattle.live_plant.proofs.Draws.{draw_below-lt}
use Rattle.live_plant.proofs.Lists.{date_from-le}
use Rattle.live_plant.proofs.NoneRefused.{append-none, above-none, too_few-none, larger-none, empty-none, each-none}

machine-in_range : (i j s : ℕ) (name : List ℕ) → machine_out_of_range i j (machine_from s name) ≡ []
machine-in_range i j s name =
    let servers : 1 + draw_below s 1 3 ≤ most_cards = omega (arith, draw_below-lt s 1 3 (omega arith)) in
    let time : 1 + draw_below s 2 20 ≤ longest_time = omega (arith, draw_below-lt s 2 20 (omega arith)) in
    append-none _ _ (above-none _ most_cards _ servers) (above-none _ longest_time _ time)

machines-in_range : (i s : ℕ) → each (machine_out_of_range i) (machines_from s) ≡ []
unfolding machines_from
machines-in_range i s =
    append-none (machine_out_of_range i 0 (machine_from s (codes "a"))) _ (machine-in_range i 0 s (codes "a"))
    (append-none (machine_out_of_range i 1 (machine_from (state_after 2 s) (codes "b"))) _ (machine-in_range i 1 (state_after 2 s) (codes "b"))
    (append-none (machine_out_of_range i 2 (machine_from (state_after 4 s) (codes "c"))) _ (machine-in_range i 2 (state_after 4 s) (codes "c")) refl))

stage-in_range : (i l s : ℕ) → stage_out_of_range i (stage_from s l) ≡ []
unfolding stage_from machines_from
stage-in_range i l s =
    let stock = draw_below-lt s 1 4 (omega arith) in
    let cards = draw_below-lt s 2 4 (omega arith) in
    append-none _ _ (above-none _ most_cards (draw_below s 1 4 + 1 + draw_below s 2 4) (omega arith))
    (append-none _ _ (above-none _ most_cards (draw_below s 1 4) (omega arith)) (machines-in_range i (state_after 2 s)))

pub length-stages : (seed n : ℕ) → length (stages_of seed n) ≡ n
unfolding stages_of
length-stages seed n = length-map-range_with_len (stage_of seed) 0 n

stages-in_range : (seed n : ℕ) → each stage_out_of_range (stages_of seed n) ≡ []
unfolding stages_of
stages-in_range seed n = each-none stage_out_of_range (stage_of seed) 0 n (λ i l below at. stage-in_range i l (state_after (8 * l) seed))

-- the stock of each stage has a card each
stages-have_cards : (seed n : ℕ) → each too_few_in_stage (stages_of seed n) ≡ []
unfolding stages_of stage_from
stages-have_cards seed n =
    each-none too_few_in_stage (stage_of seed) 0 n (λ i l below at. too_few-none _ _ _ (omega arith))

length-dates : (s n : ℕ) → length (dates_from s n) ≡ n
unfolding dates_from
length-dates s n = length-map-range_with_len (date_from s) 1 n

dates-in_range : (s n : ℕ) → n ≤ most_demands → each (element_above (codes "demands") last_demand) (dates_from s n) ≡ []
unfolding dates_from
dates-in_range s n few =
    each-none (element_above (codes "demands") last_demand) (date_from s) 1 n
    (λ i l below at. above-none _ last_demand (date_from s l) (omega (arith, date_from-le s l)))

date_from-grows : (s n : ℕ) → date_from s n ≤ date_from s (suc n)
unfolding date_from
date_from-grows s n = omega arith

-- the date before the one at place i
date-before : (s n i l : ℕ) → i < n → 1 + i ≡ l → get_or (dates_from s n) (i - 1) 0 ≤ date_from s l
unfolding dates_from
date-before s n zero l below at =
    let e = get_or-map-range_with_len (date_from s) 1 n 0 l 0 below at in
    omega (arith, e)
date-before s n (suc i) l below at =
    let e = get_or-map-range_with_len (date_from s) 1 n (suc i - 1) (suc i) 0 (omega arith) (omega arith) in
    let last : suc (suc i) ≡ l = omega arith in
    omega (arith, e, date_from-grows s (suc i), ap (date_from s) last)

dates-in_order : (s n : ℕ) → each (falling_date (dates_from s n)) (dates_from s n) ≡ []
unfolding dates_from
dates-in_order s n =
    each-none (falling_date (dates_from s n)) (date_from s) 1 n
    (λ i l below at. rw (le-ltb (date_from s l) (get_or (dates_from s n) (i - 1) 0) (date-before s n i l below at)) refl)

module _ (seed : ℕ) where
  named : bad_names (big_plant seed) ≡ []
  unfolding big_plant stages_of stage_from digits
  named = refl

  once : names_twice (big_plant seed) ≡ []
  unfolding big_plant stages_of stage_from machines_from digits
  once = refl

  top-in_range : top_out_of_range (big_plant seed) ≡ []
  unfolding big_plant stages_of
  top-in_range =
      let s = state_after 96 seed in
      append-none _ _ (empty-none (codes "demands") (dates_from s 2_000) (omega (arith, length-dates s 2_000)))
      (append-none _ _ (dates-in_range s 2_000 (omega arith)) refl)

  in_range : out_of_range (big_plant seed) ≡ []
  unfolding big_plant
  in_range = append-none (top_out_of_range (big_plant seed)) _ top-in_range (append-none (each stage_out_of_range (stages_of seed 12)) _ (stages-in_range seed 12) refl)

  later : all_feeds_not_later (big_plant seed) ≡ []
  unfolding big_plant stages_of stage_from
  later = refl

  one_final : second_finals (big_plant seed) ≡ []
  unfolding big_plant stages_of stage_from
  one_final = refl

  parts : parts_refusals (big_plant seed) ≡ []
  unfolding parts_refusals
  parts = rw (named, once, in_range, later, one_final) refl

  counted : times_counts (big_plant seed) ≡ []
  unfolding big_plant stages_of stage_from machines_from
  counted = refl

  in_order : demand_order (big_plant seed) ≡ []
  unfolding big_plant
  in_order = dates-in_order (state_after 96 seed) 2_000

  enough_cards : too_few_cards (big_plant seed) ≡ []
  unfolding big_plant
  enough_cards = append-none (each too_few_in_stage (stages_of seed 12)) _ (stages-have_cards seed 12) refl

  downstream : loops_not_downstream (big_plant seed) ≡ []
  unfolding big_plant
  downstream = refl

  pub fifty_stations : station_count (big_plant seed) ≡ 50
  unfolding big_plant stages_of stage_from machines_from
  fifty_stations = refl

  pub jobs : length (big_plant seed).demands ≡ 2_000
  unfolding big_plant
  jobs = length-dates (state_after 96 seed) 2_000

  small : too_large (big_plant seed) ≡ []
  unfolding big_plant
  small =
      let s = state_after 96 seed in
      let p = big_plant seed in
      let jobs = length-dates s 2_000 in
      let table : station_count p * length (dates_from s 2_000) ≤ most_dates = rw (fifty_stations, jobs) (omega arith) in
      append-none _ _ (larger-none (codes "stages") most_stages (length (stages_of seed 12)) (omega (arith, length-stages seed 12)))
      (append-none _ _ (larger-none (codes "stations") most_stations (station_count p) (omega (arith, fifty_stations)))
      (append-none _ _ (larger-none (codes "demands") most_demands (length (dates_from s 2_000)) (omega arith))
      (append-none _ _ (larger-none (codes "table") most_dates (station_count p * length (dates_from s 2_000)) table) refl)))

  whole : whole_refusals (big_plant seed) ≡ []
  unfolding whole_refusals
  whole = rw (counted, in_order, enough_cards, downstream, small) refl

-- the big plant of every seed is sound
pub big_plant-sound : (seed : ℕ) → IsSound (big_plant seed)
big_plant-sound seed = IsSound-from (big_plant seed) (parts seed) (whole seed)
