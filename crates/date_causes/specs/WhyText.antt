-- What `why` writes of a chain of causes: `LABEL JOB DATE CAUSE ADDED` for each link, and `share LABEL SUM` for each
-- station that adds more than 0.
use Rattle.std.specs.Prelude.{ℕ, ◌==◌, if◌then◌else◌, List, [], ◌++◌, slice_index, codes, decimal}
use Rattle.std.specs.List.{flat_map, range_with_len}
use Rattle.line_base.specs.declared.event.Parts.{Parts}
use Rattle.plant_model.specs.declared.plant.Plant.{Plant}
use Rattle.plant_model.specs.Graph.{graph}
use Rattle.event_graph.specs.Network.{stations, label}
use Rattle.date_causes.specs.declared.link.Cause.{Cause}
use Rattle.date_causes.specs.declared.link.Cause.TheVariants.{DemandDate, Start, Along}
use Rattle.date_causes.specs.declared.link.Link.{Link}
use Rattle.date_causes.specs.Kinds.{kind_at, kind_word}
use Rattle.date_causes.specs.Shares.{shares}

-- a word, and a space after it
abbrev pub before_space : List ℕ → List ℕ → List ℕ
before_space word rest = word ++ (codes " " ++ rest)

-- the word of a cause
abbrev pub cause_word : Plant → Cause → List ℕ
cause_word p DemandDate = codes "date"
cause_word p Start = codes "start"
cause_word p (Along a) = kind_word (kind_at p a)

-- the line of a link at the station with this label, whose cause has this word
abbrev pub link_words : List ℕ → ℕ → ℕ → List ℕ → ℕ → List ℕ
link_words label job date cause added =
    before_space label
    (before_space (decimal job) (before_space (decimal date) (before_space cause (decimal added ++ codes "\n"))))

unfoldable pub link_line : Plant → Link → List ℕ
link_line p l = link_words (label (graph p) l.station) l.job l.date (cause_word p l.cause) l.added

-- the line of the share of the station with this label, if it is more than 0
abbrev pub share_words : List ℕ → ℕ → List ℕ
share_words label sum = if sum == 0 then [] else codes "share " ++ before_space label (decimal sum ++ codes "\n")

unfoldable pub share_line : Parts → List ℕ → ℕ → List ℕ
share_line g shares t = share_words (label g t) (slice_index shares t)

-- the lines of these shares, one for each station
unfoldable pub share_lines : Parts → List ℕ → List ℕ
share_lines g shares = flat_map (share_line g shares) (range_with_len 0 (stations g))

-- the lines of all links, and of all shares
unfoldable pub why_text : Plant → List Link → List ℕ
why_text p links = flat_map (link_line p) links ++ share_lines (graph p) (shares links (stations (graph p)))
