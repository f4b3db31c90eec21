-- The lines of refusals, against those that the examples of the formats show.
use Rattle.std.specs.Prelude.{◌≡◌, [], ◌∷◌, codes, pos, negsuc, refl, true}
use Rattle.std.specs.Fmt.{digits}
use Rattle.plant_model.specs.declared.error.PlantError.TheVariants as plant
use Rattle.line_base.specs.declared.times.Times.TheVariants.{Fixed}
use Rattle.line_base.specs.declared.event.Arc.{Arc}
use Rattle.line_base.specs.declared.event.Parts.{Parts}
use Rattle.line_core.specs.declared.error.ReplayError.TheVariants as schedule
use Rattle.checkpoint.specs.declared.error.CheckpointError.TheVariants as checkpoint
use Rattle.live_plant.specs.Checkpoints.{checkpoint_refusal}
use Rattle.live_plant.specs.Schedules.{schedule_refusal}
use Rattle.live_plant.specs.declared.refusals.refusal.Refusal.TheVariants.{Usage, Refused, Dead, StoreFault, NoMemory, TooLong, Varying, Disk, NoCount, NothingSaved, NotEdited, NoSingleCount, NoDate, Late, TooLarge}
use Rattle.live_plant.specs.Refusal.{text_of}

-- a saw behind the release of its stage, for three jobs
abbrev saw : Arc
saw = record { from = 1; to = 2; tokens = 0; worked = true }

abbrev line : Parts
line = record {
  labels = codes "feed" ∷ codes "cut" ∷ codes "cut.saw" ∷ [];
  times = Fixed 0 ∷ Fixed 0 ∷ Fixed 3 ∷ [];
  dates = 0 ∷ 2 ∷ 4 ∷ [];
  arcs = saw ∷ [];
  delays = 0 ∷ [];
}

usage_line : text_of Usage ≡ codes "pull: the words are no command\n"
usage_line = refl

cards_line : text_of (Refused (plant.TooFewCards (codes "stage[1].cards") 1 2)) ≡ codes "plant: too few cards: stage[1].cards has 1, needs 2\n"
unfolding digits
cards_line = refl

times_line : text_of (Refused (plant.TimesCount (codes "stage[1].machine[1]") 2 3)) ≡ codes "plant: times: stage[1].machine[1] has 2, needs 3\n"
unfolding digits
times_line = refl

record_line : text_of (Refused (plant.BadRecord (codes "t.csv") 4)) ≡ codes "plant: bad record: t.csv 4\n"
unfolding digits
record_line = refl

order_line : text_of (Refused (plant.DemandOrder 2)) ≡ codes "plant: demand order: 2\n"
unfolding digits
order_line = refl

dead_line : text_of (Dead (codes "cut" ∷ codes "cut.saw" ∷ codes "weld" ∷ [])) ≡ codes "dead: cut cut.saw weld\n"
dead_line = refl

store_line : text_of (StoreFault (codes "d.csv")) ≡ codes "store: d.csv\n"
store_line = refl

memory_line : text_of NoMemory ≡ codes "memory\n"
memory_line = refl

long_line : text_of (TooLong (codes "x.toml")) ≡ codes "too long: x.toml\n"
long_line = refl

waits_line : text_of (schedule_refusal line (schedule.Empty 1 0)) ≡ codes "replay: line 1: cut.saw waits for cut\n"
unfolding digits
waits_line = refl

done_line : text_of (schedule_refusal line (schedule.Done 4 0)) ≡ codes "replay: line 4: feed is done\n"
unfolding digits
done_line = refl

unfinished_line : text_of (schedule_refusal line (schedule.Unfinished 0 0)) ≡ codes "replay: feed made 0 of 3\n"
unfolding digits
unfinished_line = refl

no_station_line : text_of (schedule_refusal line (schedule.NoStation 1)) ≡ codes "replay: line 1 is no station\n"
unfolding digits
no_station_line = refl

-- a checkpoint by hand, with one thing after another changed
form_line : text_of (checkpoint_refusal line (checkpoint.Line 19)) ≡ codes "checkpoint: line 19\n"
unfolding digits
form_line = refl

count_line : text_of (checkpoint_refusal line (checkpoint.Count 0 4 3)) ≡ codes "checkpoint: feed has 4 of 3\n"
unfolding digits
count_line = refl

marking_line : text_of (checkpoint_refusal line (checkpoint.Marking 4 0 (pos 1))) ≡ codes "checkpoint: place 4 has 0 tokens, needs 1\n"
unfolding digits
marking_line = refl

negative_line : text_of (checkpoint_refusal line (checkpoint.Marking 4 0 (negsuc 1))) ≡ codes "checkpoint: place 4 has 0 tokens, needs -2\n"
unfolding digits
negative_line = refl

date_line : text_of (checkpoint_refusal line (checkpoint.Date 2 1 4 3)) ≡ codes "checkpoint: cut.saw 1 has date 4, needs 3\n"
unfolding digits
date_line = refl

token_line : text_of (checkpoint_refusal line (checkpoint.PlaceDate 1 1 2 3)) ≡ codes "checkpoint: place 1 token 1 has date 2, needs 3\n"
unfolding digits
token_line = refl

varying_line : text_of (Varying (codes "mill.m")) ≡ codes "varying: mill.m\n"
varying_line = refl

disk_line : text_of Disk ≡ codes "disk\n"
disk_line = refl

no_count_line : text_of (NoCount 2 11) ≡ codes "no count: job 2 waits 11\n"
unfolding digits
no_count_line = refl

nothing_line : text_of NothingSaved ≡ codes "nothing saved\n"
nothing_line = refl

edits_line : text_of (NotEdited 1) ≡ codes "edits: line 1\n"
unfolding digits
edits_line = refl

no_single_line : text_of NoSingleCount ≡ codes "no single count\n"
no_single_line = refl

no_date_line : text_of (NoDate (codes "deliver") 4) ≡ codes "no date: deliver 4\n"
unfolding digits
no_date_line = refl

late_line : text_of (Late 3 6) ≡ codes "late: job 3 waits 6\n"
unfolding digits
late_line = refl

too_large_line : text_of (TooLarge 100050) ≡ codes "too large a picture: 100050 bars and lanes, at most 20000\n"
unfolding digits
too_large_line = refl
