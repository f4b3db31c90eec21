-- How much of a date each station has added, and the links' amounts.
use Rattle.std.specs.Prelude.{ℕ, ◌==◌, if◌then◌else◌, List, map, sum_by}
use Rattle.std.specs.List.{range_with_len}
use Rattle.date_causes.specs.declared.link.Link.{Link}

-- what each link adds
abbrev pub amounts : List Link → List ℕ
amounts links = map (λ l. l.added) links

-- what all links add
abbrev pub total : List Link → ℕ
total links = sum_by (λ l. l.added) links

-- what a link adds at station t
abbrev pub added_at : ℕ → Link → ℕ
added_at t l = if l.station == t then l.added else 0

-- what the links add at station t
abbrev pub share : List Link → ℕ → ℕ
share links t = sum_by (added_at t) links

-- the shares of these many stations together
abbrev pub all_shares : List Link → ℕ → ℕ
all_shares links stations = sum_by (share links) (range_with_len 0 stations)

-- what the links add at each of these many stations
abbrev pub shares : List Link → ℕ → List ℕ
shares links stations = map (share links) (range_with_len 0 stations)
