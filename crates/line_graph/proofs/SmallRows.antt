-- Each row of a sound plant's graph joins two of its stations, enters no feed, and is within the limits.
use Rattle.std.proofs.Common.{ℕ, ◌+◌, ◌<◌, ◌≤◌, eqb, length, get_or, arith}
use Rattle.std.proofs.lemmas.Bool.{cond_both, eqb-false}
use Rattle.line_base.specs.declared.limits.TheConstants.{MAX_CARDS, MAX_TIME}
use Rattle.plant_model.specs.declared.plant.CardLoop.{CardLoop}
use Rattle.plant_model.specs.declared.plant.Plant.{Plant}
use Rattle.plant_model.specs.Line.{stage_at, machine_station, station_count, receiver, starting}
use Rattle.plant_model.specs.Graph.{Row, worked_row, plain_row, onward, card_row, demand_row, line_card_row, loop_row, feed_row, rows}
use Rattle.plant_model.specs.Sound.{IsSound}
use Rattle.std.specs.List.{All}
use Rattle.plant_model.proofs.SoundPlants.{HasSoundSizes-sound, IsSoundStage-sound, IsSoundMachine-sound, IsSoundLoop-sound}
use Rattle.plant_model.proofs.LayoutStations.{last_machine-below, release-below, receiver-above}
use Rattle.plant_model.proofs.LayoutPaths.{starting-le, is_downstream-exists}
use Rattle.line_graph.proofs.GraphRows.{EachPolicyRow, EachStageRow, All-rows}

pub record IsSmallRow (p : Plant) (r : Row) : Type 0 where
  pub from : r.arc.from < station_count p
  pub to : r.arc.to < station_count p
  pub no_feed : 1 ≤ r.arc.to
  pub few_tokens : r.arc.tokens ≤ MAX_CARDS
  pub short_delay : r.delay ≤ MAX_TIME

module _ (p : Plant) (sound : IsSound p) where
  small_row : (r : Row) → r.arc.from < station_count p → r.arc.to < station_count p → 1 ≤ r.arc.to → r.arc.tokens ≤ MAX_CARDS → r.delay ≤ MAX_TIME → IsSmallRow p r
  small_row r from to no_feed few_tokens short_delay = record { from = from; to = to; no_feed = no_feed; few_tokens = few_tokens; short_delay = short_delay }

  card_row-small : (free i : ℕ) → i < length p.stages → free ≤ MAX_CARDS → IsSmallRow p (card_row p free i)
  card_row-small free i below few =
      let stage = IsSoundStage-sound p i sound below in
      let up = receiver-above p i sound below in
      record {
        from = omega (arith, up.1);
        to = omega (arith, release-below p i below);
        no_feed = omega arith;
        few_tokens = few;
        short_delay = stage.short_card_time;
      }

  demand_row-small : (i : ℕ) → i < length p.stages → IsSmallRow p (demand_row p i)
  demand_row-small i below =
      record {
        from = omega arith;
        to = omega (arith, release-below p i below);
        no_feed = omega arith;
        few_tokens = omega arith;
        short_delay = omega arith;
      }

  line_card_row-small : (i : ℕ) → i < length p.stages → IsSmallRow p (line_card_row p i)
  line_card_row-small i below =
      let sizes = HasSoundSizes-sound p sound in
      record {
        from = omega arith;
        to = omega (arith, release-below p i below);
        no_feed = omega arith;
        few_tokens = omega (arith, sizes.few_line_cards);
        short_delay = sizes.short_card_time;
      }

  loop_row-small : (k : ℕ) (d : CardLoop) → k < length p.loops → IsSmallRow p (loop_row p (get_or p.loops k d))
  loop_row-small k d below =
      let l = get_or p.loops k d in
      let good = IsSoundLoop-sound p k d sound below in
      let last = is_downstream-exists p l.first l.last sound good.first_exists good.goes_downstream in
      record {
        from = omega (arith, (receiver-above p l.last sound last).1);
        to = omega (arith, release-below p l.first good.first_exists);
        no_feed = omega arith;
        few_tokens = omega (arith, good.few_cards);
        short_delay = good.short_card_time;
      }

  onward-small : (i j : ℕ) → i < length p.stages → j < length (stage_at p i).machines → IsSmallRow p (onward p i j)
  onward-small i j below inside =
      let m = length (stage_at p i).machines in
      let stage = IsSoundStage-sound p i sound below in
      let up = receiver-above p i sound below in
      let last = last_machine-below p i below in
      cond_both (eqb (j + 1) m) (plain_row (machine_station p i j) (receiver p i) (starting p i) (stage_at p i).travel) (worked_row (machine_station p i j) (machine_station p i (j + 1)) 0) (IsSmallRow p)
      (λ is. record {
        from = omega arith;
        to = omega (arith, up.1);
        no_feed = omega (arith, up.0);
        few_tokens = starting-le p i sound below;
        short_delay = stage.short_travel;
      })
      (λ isnt. let next = eqb-false (j + 1) m isnt in record {
        from = omega arith;
        to = omega arith;
        no_feed = omega arith;
        few_tokens = omega arith;
        short_delay = omega arith;
      })

  stage_rows-small : (i : ℕ) → i < length p.stages → EachStageRow (IsSmallRow p) p i
  stage_rows-small i below =
      let some = (IsSoundStage-sound p i sound below).some_machine in
      let last = last_machine-below p i below in
      record {
        entry = small_row _ (omega arith) (omega arith) (omega arith) (omega arith) (omega arith);
        servers = λ j inside. small_row _ (omega arith) (omega arith) (omega arith) (IsSoundMachine-sound p i j sound below inside).few_servers (omega arith);
        order = λ j inside. small_row _ (omega arith) (omega arith) (omega arith) (omega arith) (omega arith);
        onward = λ j inside. onward-small i j below inside;
      }

  policy_rows-small : EachPolicyRow (IsSmallRow p) p
  policy_rows-small =
      record {
        kanban = λ is i below. card_row-small 0 i below (omega arith);
        base_stock = λ is i below. demand_row-small i below;
        extended_demand = λ is i below. demand_row-small i below;
        extended_card = λ is i below. card_row-small _ i below (omega (arith, (IsSoundStage-sound p i sound below).few_cards));
        conwip = λ cards is i below first. line_card_row-small i below;
      }

  -- each row is small
  pub rows-small : All (IsSmallRow p) (rows p)
  rows-small =
      All-rows (IsSmallRow p) p (record {
        stages = stage_rows-small;
        feed = small_row (feed_row p) (omega arith) (omega arith) (omega arith) (omega arith) (omega arith);
        policy = policy_rows-small;
        loops = loop_row-small;
      })
