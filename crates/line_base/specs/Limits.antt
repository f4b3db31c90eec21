-- The limits of a plant and of its files, as numbers. Every definition that speaks of a limit cites these; the
-- constants of the code are shown equal to them in `limits.rt`.
use Rattle.std.specs.Prelude.{ℕ}

abbrev pub most_stages : ℕ
most_stages = 64

-- the feed, each stage's release and machines, and the delivery
abbrev pub most_stations : ℕ
most_stations = 512

abbrev pub most_demands : ℕ
most_demands = 20_000

-- stations times demands
abbrev pub most_dates : ℕ
most_dates = 1_000_000

abbrev pub most_loops : ℕ
most_loops = 64

abbrev pub most_observed : ℕ
most_observed = 1_000

abbrev pub last_observed : ℕ
last_observed = 10_000_000_000_000_000

-- of cards, of starting stock and of servers, each
abbrev pub most_cards : ℕ
most_cards = 10_000

-- of a job time, a travel time and a card time, each
abbrev pub longest_time : ℕ
longest_time = 1_000_000_000

abbrev pub last_demand : ℕ
last_demand = 1_000_000_000_000

-- of a times file, counted from 1
abbrev pub last_column : ℕ
last_column = 512

abbrev pub most_workers : ℕ
most_workers = 16

-- of a ring between two workers, beyond the tokens with which its arc starts
abbrev pub most_ring_room : ℕ
most_ring_room = 10_000

-- of a chart, bars and lanes together
abbrev pub most_bars : ℕ
most_bars = 20_000

-- of a graph that is built by hand
abbrev pub most_arcs : ℕ
most_arcs = 4_096

-- of a plant, csv, schedule or edits file
abbrev pub most_file_bytes : ℕ
most_file_bytes = 67_108_864

-- of a checkpoint file, and of the content of a slot
abbrev pub most_checkpoint_bytes : ℕ
most_checkpoint_bytes = 167_772_160
