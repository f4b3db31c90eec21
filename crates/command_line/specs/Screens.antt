-- What `--help` shows, and what `help COMMAND` shows of a command, line by line: the words of the command, what it
-- writes, its options, an example, and the statuses that it may end with, its own ones before those that it shares. The
-- plants of the examples are those of the folder `examples`.
use Prim.Native.String.{String}
use Rattle.std.specs.Prelude.{ℕ, List, [], ◌∷◌, ◌++◌, ◌-◌, length, replicate, codes, Option, Some, None}
use Rattle.command_line.specs.Lines.{as_text}
use Rattle.command_line.specs.Statuses as status
use Rattle.command_line.specs.declared.topic.Topic.{Topic}
use Rattle.command_line.specs.declared.topic.Topic.TheVariants as topic

-- the words of a command, and from the same column on what it does
abbrev pub row : String → String → List ℕ
row words does = codes words ++ (replicate (43 - length (codes words)) 32 ++ codes does)

-- the commands, in the order in which a planner meets them, and the statuses that the program ends with
abbrev pub usage_lines : List (List ℕ)
usage_lines =
    row "pull lint PLANT" "writes all that is wrong with a plant file, or what may not be meant"
    ∷ row "pull check PLANT" "writes whether the plant is live, and its card circuits"
    ∷ row "pull summary PLANT" "writes waits, mean stock and backlog, and how busy each machine is"
    ∷ row "pull run PLANT" "writes the report of the plant"
    ∷ row "pull table PLANT" "writes every date as csv, with each start and whom a part serves"
    ∷ row "pull why PLANT LABEL JOB" "writes the chain of causes of one date, and where its time went"
    ∷ row "pull chart PLANT [FROM TO]" "writes a picture of the run, or of the dates from FROM to TO, as SVG"
    ∷ row "pull cards PLANT WAIT" "writes the least cards with which no job waits longer than WAIT"
    ∷ row "pull cards PLANT WAIT --each" "writes the least cards of each stage by itself"
    ∷ row "pull curve PLANT FROM TO" "writes what each count of cards from FROM to TO gives"
    ∷ row "pull latest PLANT WAIT" "writes the latest date of each job, with no wait longer than WAIT"
    ∷ row "pull cycle PLANT" "writes the cycle time, a critical circuit and the potentials"
    ∷ row "pull whatif PLANT EDITS" "writes the dates that edits of times and demand dates change"
    ∷ row "pull replay PLANT SCHEDULE" "writes the report, by the firings of a schedule"
    ∷ row "pull run PLANT --room B" "writes the report, with room for B more tokens between workers"
    ∷ row "pull run PLANT --stand" "writes the report, by workers that stand until all is done"
    ∷ row "pull run PLANT --stop-after N --save FILE" "stops after N firings, and writes the checkpoint FILE"
    ∷ row "pull resume PLANT FILE" "writes the report, from the checkpoint FILE on"
    ∷ row "pull run PLANT --every N --slots" "writes the report, and a checkpoint into a slot each N firings"
    ∷ row "pull resume PLANT --slots" "writes the report, from the newest slot on"
    ∷ row "pull big SEED" "writes the summary of the large plant of a seed"
    ∷ row "pull help COMMAND" "writes more about a command, with an example; so does COMMAND --help"
    ∷ row "pull --help" "writes this text"
    ∷ row "pull --version" "writes the name and version"
    ∷ codes ""
    ∷ codes "run, resume, curve and big take --workers W too, from 1 to 16; it is 1 where it isn't given"
    ∷ codes ""
    ∷ status.done
    ∷ status.not_utf8
    ∷ status.no_command
    ∷ status.refused
    ∷ status.dead
    ∷ status.store_failed
    ∷ status.sink_failed
    ∷ status.no_checkpoint
    ∷ status.varying
    ∷ status.no_memory
    ∷ status.too_long
    ∷ status.not_replayed
    ∷ status.disk_failed
    ∷ status.no_count
    ∷ status.nothing_saved
    ∷ status.not_edited
    ∷ status.no_single_count
    ∷ status.no_date
    ∷ status.late
    ∷ status.too_large
    ∷ []

-- the usage
abbrev pub usage : List ℕ
usage = as_text usage_lines

-- the lines of the screen of each command
abbrev pub screen_lines : Topic → List (List ℕ)
screen_lines topic.Lint =
    codes "pull lint PLANT"
    ∷ codes ""
    ∷ codes "Writes all that is wrong with the plant file PLANT and with the files that it names, a line each, 200 at"
    ∷ codes "most, and what is wanted there; or where the file stops being TOML. Where nothing is wrong it writes so,"
    ∷ codes "and then what may not be meant, a note each."
    ∷ codes ""
    ∷ codes "$ pull lint two-stage.toml"
    ∷ codes "no fault"
    ∷ codes "$ sed 's/cards = 1/cards = 99999/; s/time = 5/tim = 5/' two-stage.toml > wrong.toml"
    ∷ codes "$ pull lint wrong.toml"
    ∷ codes "plant: unknown key: stage[2].machine[1].tim (weld.torch)"
    ∷ codes "plant: missing: stage[2].machine[1].time (weld.torch)"
    ∷ codes "plant: out of range: stage[1].cards (cut) wants 0 to 10000"
    ∷ codes "plant: out of range: stage[2].cards (weld) wants 0 to 10000"
    ∷ codes ""
    ∷ status.done
    ∷ status.of_plants
screen_lines topic.Check =
    codes "pull check PLANT"
    ∷ codes ""
    ∷ codes "Writes how large the line of the plant file PLANT is, and its card circuits, each with its number of"
    ∷ codes "cards. A line that can't move is refused, with stations that wait for each other."
    ∷ codes ""
    ∷ codes "$ pull check two-stage.toml"
    ∷ codes "live 6 stations 11 arcs 3 jobs"
    ∷ codes "circuit stage cut 1"
    ∷ codes "circuit stage weld 1"
    ∷ codes ""
    ∷ status.done
    ∷ status.of_plants
screen_lines topic.Summary =
    codes "pull summary PLANT"
    ∷ codes ""
    ∷ codes "Writes the run of a plant in some twenty lines: throughput, waits, backlog, what is in process, on its"
    ∷ codes "way and in stock at each stage on average, how busy each machine is, and the busiest."
    ∷ codes ""
    ∷ codes "$ pull summary two-stage.toml"
    ∷ codes "jobs 3"
    ∷ codes "last 15"
    ∷ codes "throughput 0.200"
    ∷ codes "wait mean 3.000 most 6 job 3"
    ∷ codes "wait p50 3 p90 6 p95 6 p99 6"
    ∷ codes "at once 1 of 3"
    ∷ codes "backlog mean 0.600 most 2"
    ∷ codes "wip mean 2.000"
    ∷ codes "stage cut process 0.600 move 0.000 stock 0.400 peak 1 of 1"
    ∷ codes "stage weld process 1.000 move 0.000 stock 0.000 peak 1 of 1"
    ∷ codes "machine cut.saw servers 1 busy 0.600"
    ∷ codes "machine weld.torch servers 1 busy 1.000"
    ∷ codes "busiest weld.torch"
    ∷ codes ""
    ∷ status.done
    ∷ status.of_plants
screen_lines topic.Run =
    codes "pull run PLANT [--workers W]"
    ∷ codes "pull run PLANT --room B [--workers W]"
    ∷ codes "pull run PLANT --stand [--workers W]"
    ∷ codes "pull run PLANT --stop-after N --save FILE [--workers W]"
    ∷ codes "pull run PLANT --every N --slots [--workers W]"
    ∷ codes ""
    ∷ codes "Writes the report of a plant: LABEL JOB DATE for each job at each station, what stands where at the"
    ∷ codes "dates of observe, the peak of each stage, how long all jobs wait together, and the last date."
    ∷ codes ""
    ∷ codes "--workers W     threads, 1 to 16; 1 where it isn't given. What is written is the same with any number"
    ∷ codes "--room B        room for B more tokens in each ring between two workers, 1 to 10,000"
    ∷ codes "--stand         by workers that stay in their threads until all is done"
    ∷ codes "--stop-after N  stops once N firings are made, 0 to 1,000,000, and writes how many were"
    ∷ codes "--save FILE     the checkpoint that is written then; its name ends in .ckpt"
    ∷ codes "--every N       a checkpoint each N firings, 1 to 1,000,000"
    ∷ codes "--slots         with --every: into the two slots of pull.slots"
    ∷ codes ""
    ∷ codes "$ pull run two-stage.toml"
    ∷ codes "feed 1 0"
    ∷ codes "feed 2 2"
    ∷ codes "feed 3 4"
    ∷ codes "cut 1 0"
    ∷ codes "cut 2 5"
    ∷ codes "cut 3 10"
    ∷ codes "cut.saw 1 3"
    ∷ codes "cut.saw 2 8"
    ∷ codes "cut.saw 3 13"
    ∷ codes "weld 1 0"
    ∷ codes "weld 2 5"
    ∷ codes "weld 3 10"
    ∷ codes "weld.torch 1 5"
    ∷ codes "weld.torch 2 10"
    ∷ codes "weld.torch 3 15"
    ∷ codes "deliver 1 0"
    ∷ codes "deliver 2 5"
    ∷ codes "deliver 3 10"
    ∷ codes "peak cut 1 of 1"
    ∷ codes "peak weld 1 of 1"
    ∷ codes "waiting 9"
    ∷ codes "last 15"
    ∷ codes ""
    ∷ status.done
    ∷ status.disk_failed
    ∷ status.of_plants
screen_lines topic.Table =
    codes "pull table PLANT"
    ∷ codes ""
    ∷ codes "Writes every date of a run as csv: the station, the job, the customer whom the part serves, when the"
    ∷ codes "machine starts, and the date. The third field is empty where the part serves nobody."
    ∷ codes ""
    ∷ codes "$ pull table two-stage.toml"
    ∷ codes "station,job,serves,start,date"
    ∷ codes "feed,1,1,,0"
    ∷ codes "feed,2,2,,2"
    ∷ codes "feed,3,3,,4"
    ∷ codes "cut,1,3,,0"
    ∷ codes "cut,2,,,5"
    ∷ codes "cut,3,,,10"
    ∷ codes "cut.saw,1,3,0,3"
    ∷ codes "cut.saw,2,,5,8"
    ∷ codes "cut.saw,3,,10,13"
    ∷ codes "weld,1,2,,0"
    ∷ codes "weld,2,3,,5"
    ∷ codes "weld,3,,,10"
    ∷ codes "weld.torch,1,2,0,5"
    ∷ codes "weld.torch,2,3,5,10"
    ∷ codes "weld.torch,3,,10,15"
    ∷ codes "deliver,1,1,,0"
    ∷ codes "deliver,2,2,,5"
    ∷ codes "deliver,3,3,,10"
    ∷ codes ""
    ∷ status.done
    ∷ status.of_plants
screen_lines topic.Why =
    codes "pull why PLANT LABEL JOB"
    ∷ codes ""
    ∷ codes "Writes the chain of causes of the date of a job at a station, each line with the time that it adds to"
    ∷ codes "the one before, and then where the time went. LABEL is a station as in the report, JOB 1 to 20,000."
    ∷ codes ""
    ∷ codes "$ pull why two-stage.toml deliver 3"
    ∷ codes "weld 1 0 start 0"
    ∷ codes "weld.torch 1 5 part 5"
    ∷ codes "deliver 2 5 part 0"
    ∷ codes "weld 2 5 card 0"
    ∷ codes "weld.torch 2 10 part 5"
    ∷ codes "deliver 3 10 part 0"
    ∷ codes "share weld.torch 10"
    ∷ codes ""
    ∷ status.done
    ∷ status.no_date
    ∷ status.of_plants
screen_lines topic.Chart =
    codes "pull chart PLANT [FROM TO]"
    ∷ codes ""
    ∷ codes "Writes a picture of the run as SVG: a lane for each server of each machine with a bar for each job, and"
    ∷ codes "what stands in each stage over time. With FROM and TO, 0 to 10^16, only the dates from FROM to TO."
    ∷ codes ""
    ∷ codes "$ pull chart two-stage.toml > two-stage.svg"
    ∷ codes "$ grep -c job two-stage.svg"
    ∷ codes "6"
    ∷ codes ""
    ∷ status.done
    ∷ status.too_large
    ∷ status.of_plants
screen_lines topic.Cards =
    codes "pull cards PLANT WAIT"
    ∷ codes "pull cards PLANT WAIT --each"
    ∷ codes ""
    ∷ codes "Writes the least number of cards with which no job waits longer than WAIT, 0 to 10^16, the same at each"
    ∷ codes "stage, and why one less doesn't do."
    ∷ codes ""
    ∷ codes "--each          takes away at each stage by itself what isn't needed, and writes a line a stage"
    ∷ codes ""
    ∷ codes "$ pull cards two-stage.toml 5"
    ∷ codes "cards 2"
    ∷ codes "below job 3 waits 6"
    ∷ codes "$ pull cards two-stage.toml 5 --each"
    ∷ codes "cards cut 1 below dead cut cut.saw weld"
    ∷ codes "cards weld 2 below job 3 waits 6"
    ∷ codes "total 3"
    ∷ codes ""
    ∷ status.done
    ∷ status.no_count
    ∷ status.no_single_count
    ∷ status.of_plants
screen_lines topic.Curve =
    codes "pull curve PLANT FROM TO [--workers W]"
    ∷ codes ""
    ∷ codes "Writes what each number of cards from FROM to TO gives: the last date, the throughput, the waits and"
    ∷ codes "the parts in the line. FROM and TO are 0 to 10,000, at most 1,000 numbers."
    ∷ codes ""
    ∷ codes "--workers W     threads, 1 to 16; 1 where it isn't given. What is written is the same with any number"
    ∷ codes ""
    ∷ codes "$ pull curve two-stage.toml 0 3"
    ∷ codes "cards 0 dead"
    ∷ codes "cards 1 last 15 throughput 0.200 wait mean 3.000 most 6 wip mean 2.000"
    ∷ codes "cards 2 last 15 throughput 0.200 wait mean 0.333 most 1 wip mean 4.000"
    ∷ codes "cards 3 last 15 throughput 0.200 wait mean 0.000 most 0 wip mean 6.000"
    ∷ codes ""
    ∷ status.done
    ∷ status.no_single_count
    ∷ status.of_plants
screen_lines topic.Latest =
    codes "pull latest PLANT WAIT"
    ∷ codes ""
    ∷ codes "Writes the latest date of each job at each station with which no job waits longer than WAIT, 0 to"
    ∷ codes "10^16, and its slack, which is how much later than in the run that is. Where nothing bounds it: none."
    ∷ codes ""
    ∷ codes "$ pull latest two-stage.toml 6"
    ∷ codes "cut 1 2 slack 2"
    ∷ codes "cut 2 none"
    ∷ codes "cut 3 none"
    ∷ codes "cut.saw 1 5 slack 2"
    ∷ codes "cut.saw 2 none"
    ∷ codes "cut.saw 3 none"
    ∷ codes "weld 1 0 slack 0"
    ∷ codes "weld 2 5 slack 0"
    ∷ codes "weld 3 none"
    ∷ codes "weld.torch 1 5 slack 0"
    ∷ codes "weld.torch 2 10 slack 0"
    ∷ codes "weld.torch 3 none"
    ∷ codes "deliver 1 0 slack 0"
    ∷ codes "deliver 2 5 slack 0"
    ∷ codes "deliver 3 10 slack 0"
    ∷ codes "tight 7"
    ∷ codes ""
    ∷ status.done
    ∷ status.late
    ∷ status.of_plants
screen_lines topic.Cycle =
    codes "pull cycle PLANT"
    ∷ codes ""
    ∷ codes "Writes how fast the line can go in the long run: the cycle time, a circuit of stations that holds it,"
    ∷ codes "with the time once round and the cards on it, and potentials, by which anybody can check both."
    ∷ codes ""
    ∷ codes "$ pull cycle cell.toml"
    ∷ codes "cycle 7/2"
    ∷ codes "circuit cell cell.a cell.b deliver time 7 cards 2"
    ∷ codes "potential feed 0"
    ∷ codes "potential cell 0"
    ∷ codes "potential cell.a 6"
    ∷ codes "potential cell.b 14"
    ∷ codes "potential deliver 0"
    ∷ codes ""
    ∷ status.done
    ∷ status.varying
    ∷ status.of_plants
screen_lines topic.WhatIf =
    codes "pull whatif PLANT EDITS"
    ∷ codes ""
    ∷ codes "Writes each date that changes when the lines of the file EDITS are followed, the old one before the new"
    ∷ codes "one, and how many change. A line is `time LABEL JOB TIME` or `demand JOB DATE`."
    ∷ codes ""
    ∷ codes "$ cat slow-weld.txt"
    ∷ codes "time weld.torch 2 8"
    ∷ codes "$ pull whatif two-stage.toml slow-weld.txt"
    ∷ codes "cut 3 10 13"
    ∷ codes "cut.saw 3 13 16"
    ∷ codes "weld 3 10 13"
    ∷ codes "weld.torch 2 10 13"
    ∷ codes "weld.torch 3 15 18"
    ∷ codes "deliver 3 10 13"
    ∷ codes "changed 6"
    ∷ codes ""
    ∷ status.done
    ∷ status.not_edited
    ∷ status.of_plants
screen_lines topic.Replay =
    codes "pull replay PLANT SCHEDULE"
    ∷ codes ""
    ∷ codes "Writes the report of a plant whose stations work in the order of the file SCHEDULE, the label of a"
    ∷ codes "station on each line. Every order that can be followed to its end has the same report."
    ∷ codes ""
    ∷ codes "$ head -6 order.txt"
    ∷ codes "feed"
    ∷ codes "deliver"
    ∷ codes "weld"
    ∷ codes "cut"
    ∷ codes "cut.saw"
    ∷ codes "weld.torch"
    ∷ codes "$ pull replay two-stage.toml order.txt | tail -2"
    ∷ codes "waiting 9"
    ∷ codes "last 15"
    ∷ codes ""
    ∷ status.done
    ∷ status.not_replayed
    ∷ status.of_plants
screen_lines topic.Resume =
    codes "pull resume PLANT FILE [--workers W]"
    ∷ codes "pull resume PLANT --slots [--workers W]"
    ∷ codes ""
    ∷ codes "Writes the report of a plant, as run does, but goes on from the checkpoint FILE that a run with"
    ∷ codes "--stop-after saved, or from the newest slot of pull.slots that one with --every saved."
    ∷ codes ""
    ∷ codes "--workers W     threads, 1 to 16; 1 where it isn't given. What is written is the same with any number"
    ∷ codes "--slots         from the newest slot"
    ∷ codes ""
    ∷ codes "$ pull run two-stage.toml --stop-after 0 --save a.ckpt"
    ∷ codes "stopped 0"
    ∷ codes "$ pull resume two-stage.toml a.ckpt | tail -2"
    ∷ codes "waiting 9"
    ∷ codes "last 15"
    ∷ codes ""
    ∷ status.done
    ∷ status.no_checkpoint
    ∷ status.disk_failed
    ∷ status.nothing_saved
    ∷ status.of_plants
screen_lines topic.Big =
    codes "pull big SEED [--workers W]"
    ∷ codes ""
    ∷ codes "Runs the large plant that is drawn from a seed, 0 to 18,446,744,073,709,551,615, and writes its"
    ∷ codes "summary: 50 stations and 2,000 jobs, to try a machine with. It reads no file."
    ∷ codes ""
    ∷ codes "--workers W     threads, 1 to 16; 1 where it isn't given. What is written is the same with any number"
    ∷ codes ""
    ∷ codes "$ pull big 7"
    ∷ codes "stations 50"
    ∷ codes "jobs 2000"
    ∷ codes "firings 100000"
    ∷ codes "sum 1888621603"
    ∷ codes "peak s1 6 of 6"
    ∷ codes "peak s2 6 of 6"
    ∷ codes "peak s3 5 of 5"
    ∷ codes "peak s4 2 of 2"
    ∷ codes "peak s5 6 of 6"
    ∷ codes "peak s6 5 of 5"
    ∷ codes "peak s7 5 of 5"
    ∷ codes "peak s8 1 of 1"
    ∷ codes "peak s9 3 of 5"
    ∷ codes "peak s10 3 of 6"
    ∷ codes "peak s11 3 of 4"
    ∷ codes "peak s12 3 of 7"
    ∷ codes "waiting 8986122"
    ∷ codes "last 38078"
    ∷ codes ""
    ∷ status.done
    ∷ status.of_no_file

-- the screen of a command
unfoldable pub screen : Topic → List ℕ
screen topic = as_text (screen_lines topic)

-- the screen of a command, or the usage where none is named
abbrev pub help_text : Option Topic → List ℕ
help_text None = usage
help_text (Some topic) = screen topic
