-- What a draft says beyond its fields: the files that it names, the columns that its machines use, and when it is
-- sound.
use Rattle.std.specs.Prelude.{◌≡◌, ℕ, Bool, true, false, not, ◌&&◌, ◌==◌, nat_le, List, [], filter, Option, None, Some, is_some, IsTrue}
use Rattle.std.specs.List.{list_all, list_any, range_with_len}
use Rattle.line_base.specs.Limits.{most_cards, longest_time, last_column, last_demand, last_observed}
use Rattle.line_base.specs.Text.{is_between}
use Rattle.plant_model.specs.declared.plant.Policy.{Policy}
use Rattle.plant_model.specs.declared.plant.Policy.TheVariants.{Kanban, Conwip, BaseStock, Extended}
use Rattle.plant_model.specs.declared.plant.Machine.{Machine as MachineOf}
use Rattle.plant_model.specs.declared.plant.Stage.{Stage as StageOf}
use Rattle.plant_model.specs.Refusals.{is_reserved, names_twice_in, feeds_not_later_in, second_finals_in}
use Rattle.plant_keys.specs.Readers.{is_filled}
use Rattle.plant_file.specs.declared.draft.DraftDemands.{DraftDemands}
use Rattle.plant_file.specs.declared.draft.DraftDemands.TheVariants.{Given, File}
use Rattle.plant_file.specs.declared.draft.DraftTimes.{DraftTimes}
use Rattle.plant_file.specs.declared.draft.DraftTimes.TheVariants.{Column, Fixed, Each}
use Rattle.plant_file.specs.declared.draft.DraftLoop.{DraftLoop}
use Rattle.plant_file.specs.declared.draft.DraftPlant.{DraftPlant}

-- a machine of a plant file
abbrev pub DraftMachine : Type 0
DraftMachine = MachineOf DraftTimes

-- a stage of a plant file
abbrev pub DraftStage : Type 0
DraftStage = StageOf DraftTimes

-- the name of the demand file, if the dates stand in one
abbrev pub file_of : DraftDemands → Option (List ℕ)
file_of (Given dates) = None
file_of (File name column) = Some name

-- the column of the demand file in which the dates stand, and the first where they stand in no file
abbrev pub date_column_of : DraftDemands → ℕ
date_column_of (Given dates) = 1
date_column_of (File name column) = column

-- the name of the demand file, if there is one
abbrev pub demands_file : DraftPlant → Option (List ℕ)
demands_file d = file_of d.demands

-- the column of the demand file in which the dates stand, and the first where there is no such file
abbrev pub demands_column : DraftPlant → ℕ
demands_column d = date_column_of d.demands

-- the job times stand in this column
abbrev pub uses : ℕ → DraftTimes → Bool
uses column (Column used) = used == column
uses column (Fixed time) = false
uses column (Each times) = false

-- a machine of the draft uses this column
abbrev pub is_used : DraftPlant → ℕ → Bool
is_used d column = list_any (λ s. list_any (λ m. uses column m.times) s.machines) d.stages

-- the columns that machines use, ascending
unfoldable pub columns_of : DraftPlant → List ℕ
columns_of d = filter (is_used d) (range_with_len 1 last_column)

-- every number is at most the limit
abbrev pub are_up_to : ℕ → List ℕ → Bool
are_up_to limit numbers = list_all (λ n. nat_le n limit) numbers

-- the job times, or their column, are within their limits
abbrev pub are_sound_times : DraftTimes → Bool
are_sound_times (Column column) = is_between 1 last_column column
are_sound_times (Fixed time) = nat_le time longest_time
are_sound_times (Each times) = are_up_to longest_time times

-- the numbers of a machine are within their limits
abbrev pub is_sound_machine : DraftMachine → Bool
is_sound_machine m = nat_le m.servers most_cards && are_sound_times m.times

-- a stage has no reserved name, has a machine, and its numbers are within their limits
abbrev pub is_sound_stage : DraftStage → Bool
is_sound_stage s =
    not (is_reserved s.name)
    && (nat_le s.card_time longest_time
    && (nat_le s.cards most_cards
    && (is_filled s.machines
    && (nat_le s.stock most_cards && (nat_le s.travel longest_time && list_all is_sound_machine s.machines)))))

-- the numbers of a loop are within their limits
abbrev pub is_sound_loop : DraftLoop → Bool
is_sound_loop l = nat_le l.card_time longest_time && nat_le l.cards most_cards

-- the cards of the line are within their limit
abbrev pub is_sound_policy : Policy → Bool
is_sound_policy Kanban = true
is_sound_policy (Conwip cards) = nat_le cards most_cards
is_sound_policy BaseStock = true
is_sound_policy Extended = true

-- dates that are given are at least one, within their limit; the column of those in a file is within its limits
abbrev pub are_sound_demands : DraftDemands → Bool
are_sound_demands (Given dates) = is_filled dates && are_up_to last_demand dates
are_sound_demands (File name column) = is_between 1 last_column column

-- a draft in which nothing is wrong by itself
pub record IsSoundDraft (d : DraftPlant) : Type 0 where
  pub policy : IsTrue (is_sound_policy d.policy)
  pub card_time : IsTrue (nat_le d.card_time longest_time)
  pub demands : IsTrue (are_sound_demands d.demands)
  pub observe : IsTrue (are_up_to last_observed d.observe)
  pub filled : IsTrue (is_filled d.stages)
  pub stages : IsTrue (list_all is_sound_stage d.stages)
  pub loops : IsTrue (list_all is_sound_loop d.loops)
  pub names : names_twice_in d.stages ≡ []
  pub feeds : feeds_not_later_in d.stages ≡ []
  pub finals : second_finals_in d.stages ≡ []
  pub times_file : is_some d.times_file ≡ is_filled (columns_of d)

-- a sound draft, beside the columns that its machines use
pub record IsDraft (d : DraftPlant) (columns : List ℕ) : Type 0 where
  pub sound : IsSoundDraft d
  pub used : columns ≡ columns_of d
