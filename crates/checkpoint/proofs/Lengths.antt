-- How long a text of a state that firings reach is at most.
use Rattle.std.proofs.Common.{ℕ, ◌+◌, ◌*◌, ◌<◌, ◌≤◌, List, [], ◌++◌, length, map, sym, ap, ◌∙◌, subst, arith, length-append}
use Rattle.std.specs.Prelude.{All, IsTrue, codes, decimal, nat_lt}
use Rattle.std.specs.List.{flat_map, range_with_len, sum_by}
use Rattle.std.proofs.Math.Nat.{mul-le-mul_right}
use Rattle.std.proofs.lemmas.Bool.Decides.{nat_tests}
use Rattle.std.proofs.lemmas.Fmt.{length-decimal-le}
use Rattle.std.proofs.lemmas.List.{append-nil, length-map}
use Rattle.std.proofs.lemmas.List.Concat.{length-flat_map}
use Rattle.std.proofs.lemmas.List.Elements.{All-filter, All-from_get_or, All-weaker}
use Rattle.std.proofs.lemmas.List.FromFn.{length-range_with_len}
use Rattle.std.proofs.lemmas.List.Sums.{sum_by-le, length-filter, count_by-le-length}
use Rattle.line_base.specs.Text.{is_label}
use Rattle.line_base.specs.Limits.{most_arcs, most_checkpoint_bytes}
use Rattle.line_base.specs.declared.event.Parts.{Parts}
use Rattle.event_graph.specs.Network.{stations, jobs, arc_count, arc, delay, label, IsGraph}
use Rattle.event_graph.specs.Limits.{IsWithinLimits, HasFewArcs}
use Rattle.event_graph.specs.State.{State, log, place}
use Rattle.event_graph.specs.Reached.{Reached}
use Rattle.event_graph.proofs.Ranges.{All-range}
use Rattle.event_graph.proofs.Sizes.{delay-small, tokens-small}
use Rattle.line_core.specs.Consistent.{all_tokens, IsConsistent, firing_count}
use Rattle.line_core.proofs.Bounds.{fired-le, reached_is_within}
use Rattle.line_core.proofs.Consistency.{reached_is_consistent}
use Rattle.checkpoint.specs.declared.format.Format.{Format}
use Rattle.checkpoint.specs.declared.format.Format.TheVariants.{Dates, Differences}
use Rattle.checkpoint.specs.Text.{dates_text, delayed_arcs, two_words, delay_words, delays_line, head_lines, station_words, place_words, station_lines, place_lines, lines, lines_text}
use Rattle.checkpoint.specs.Length.{HasShortLabels, FitsLimit}
use Rattle.checkpoint.proofs.FilledTexts.{filled-lines}
use Rattle.checkpoint.proofs.WordLengths.{IsEarly, log_text-le, left_text-le, dated_lines-le, sum_of_sizes}

-- ---- the first lines

-- the number of an arc has at most 4 digits, and a delay at most 11
two_words-le : (a delay : ℕ) → a < 10_000 → delay < 100_000_000_000 → length (two_words a delay) ≤ 17
two_words-le a delay few short =
    omega (arith, length-append (decimal a) (codes " " ++ decimal delay), length-decimal-le 4 a (omega arith) (omega arith) (omega arith), length-decimal-le 11 delay (omega arith) (omega arith) (omega arith))

-- no more arcs have a delay than there are
delayed_arcs-le : (g : Parts) → length (delayed_arcs g) ≤ arc_count g
unfolding delayed_arcs
delayed_arcs-le g =
    let numbers = range_with_len 0 (arc_count g) in
    let late = λ (a : ℕ). nat_lt 0 (delay g a) in
    omega (arith, length-filter late numbers, count_by-le-length late numbers, length-range_with_len 0 (arc_count g))

-- the words of each arc with a delay are short
delay_words-le : (g : Parts) → IsWithinLimits g → All (λ a. length (delay_words g a) ≤ 17) (delayed_arcs g)
unfolding delayed_arcs
delay_words-le g limits =
    All-filter (λ a. nat_lt 0 (delay g a)) (λ a. length (delay_words g a) ≤ 17) (range_with_len 0 (arc_count g)) (
    All-weaker (λ a. a < arc_count g) (λ a. length (delay_words g a) ≤ 17)
    (λ a there. two_words-le a (delay g a) (omega (arith, there, limits.few_arcs)) (omega (arith, delay-small g a limits)))
    (range_with_len 0 (arc_count g)) (All-range (arc_count g)))

-- the line of the delays is short
delays_line-le : (g : Parts) → IsWithinLimits g → length (delays_line g) ≤ 100_000
unfolding delays_line
delays_line-le g limits =
    let arcs = delayed_arcs g in
    let words = flat_map (delay_words g) arcs in
    let each = sum_by-le (λ a. length (delay_words g a)) 17 arcs (delay_words-le g limits) in
    omega (arith, length-append (decimal (length arcs)) (words ++ codes "\n"), length-append words (codes "\n"), length-flat_map (delay_words g) arcs, each, delayed_arcs-le g, limits.few_arcs, length-decimal-le 4 (length arcs) (omega arith) (omega (arith, delayed_arcs-le g, limits.few_arcs)) (omega (arith, delayed_arcs-le g, limits.few_arcs)))

-- the first lines are short
head-le : (format : Format) (g : Parts) → IsWithinLimits g → length (lines_text format (head_lines format g) []) ≤ 100_100
unfolding lines_text
head-le Dates g limits = omega arith
head-le Differences g limits = omega (arith, ap length (append-nil (delays_line g)), delays_line-le g limits)

-- ---- how the lines of stations and arcs begin

-- a label is short
short_label : (text : List ℕ) → IsTrue (is_label text) → length text ≤ 49
short_label text rule = grind (arith, nat_tests)

-- where each label keeps the rule of labels, none is too long
pub short_labels : (g : Parts) → All (λ text. IsTrue (is_label text)) g.labels → HasShortLabels g
short_labels g rules = All-weaker (λ text. IsTrue (is_label text)) (λ text. length text ≤ 49) short_label g.labels rules

-- the words of each station are short
station_words-le : (g : Parts) → HasShortLabels g → All (λ t. length (station_words g t) ≤ 58) (range_with_len 0 (stations g))
unfolding station_words
station_words-le g short =
    All-weaker (λ t. t < stations g) (λ t. length (station_words g t) ≤ 58)
    (λ t there. omega (arith, length-append (label g t) (codes " "), short t [] there))
    (range_with_len 0 (stations g)) (All-range (stations g))

-- the words of each arc are short
place_words-le : (n : ℕ) → n ≤ most_arcs → All (λ a. length (place_words a) ≤ 11) (range_with_len 0 n)
unfolding place_words
place_words-le n few =
    All-weaker (λ a. a < n) (λ a. length (place_words a) ≤ 11)
    (λ a there. omega (arith, length-append (decimal a) (codes " "), length-decimal-le 4 a (omega arith) (omega (arith, there, few)) (omega (arith, there, few))))
    (range_with_len 0 n) (All-range n)

-- ---- the lines of stations and arcs, in a state that firings reach

module _ (format : Format) (g : Parts) (s : State) (graph : IsGraph g) (limits : IsWithinLimits g) (reached : Reached g s) where
  -- what holds between the logs and the places
  consistent : IsConsistent g s
  consistent = reached_is_consistent g s reached

  -- the dates of a log take 18 bytes each at most, and their count 6 with the end of the line
  log_texts-le : All (λ dates. length (dates_text format dates) ≤ 18 * length dates + 6) s.logs
  log_texts-le =
      All-from_get_or (λ dates. length (dates_text format dates) ≤ 18 * length dates + 6) s.logs [] (λ t low.
      let there : t < stations g = omega (arith, low, consistent.a_log_each) in
      log_text-le format (log s t) (omega (arith, consistent.few_dates t there, limits.few_jobs)) ((reached_is_within g s limits reached).logs t there))

  -- so do those of all logs, which have a date for each firing; their words take 58 bytes each
  stations-le : HasShortLabels g → length (lines_text format (station_lines g) s.logs) ≤ 64 * stations g + 18 * firing_count s
  unfolding station_lines
  stations-le short =
      let numbers = range_with_len 0 (stations g) in
      let many = length-range_with_len 0 (stations g) in
      let c = consistent in
      let text = dated_lines-le format (station_words g) (λ dates. 18 * length dates + 6) 58 numbers s.logs (c.a_log_each ∙ sym many) (station_words-le g short) log_texts-le in
      omega (arith, text, many, c.a_log_each, sum_of_sizes s.logs)

  -- a place has at most 10,000 tokens of the start, of 2 bytes each, and a token for each job, of 18
  place_text-le : (a : ℕ) → a < arc_count g → length (dates_text format (place s a)) ≤ 20_006 + 18 * jobs g
  unfolding all_tokens
  place_text-le a there =
      let gone = length (log s (arc g a).to) in
      let put = map (λ date. date + delay g a) (log s (arc g a).from) in
      let is = consistent.places_are_left a there in
      let early = subst (All IsEarly) is ((reached_is_within g s limits reached).places a there) in
      let many = length-map (log s (arc g a).from) (λ date. date + delay g a) in
      let few = consistent.few_dates (arc g a).from (graph.starts_exist a there) in
      let start = tokens-small g a limits in
      let left = left_text-le format gone (arc g a).tokens put (omega (arith, many, few, start, limits.few_jobs)) early in
      omega (arith, ap (λ l. length (dates_text format l)) is, left, many, few, start)

  -- and so each place
  place_texts-le : All (λ dates. length (dates_text format dates) ≤ 20_006 + 18 * jobs g) s.places
  place_texts-le =
      All-from_get_or (λ dates. length (dates_text format dates) ≤ 20_006 + 18 * jobs g) s.places [] (λ a low. place_text-le a (omega (arith, low, consistent.a_place_each)))

  -- and so all places
  places-le : length (lines_text format (place_lines g) s.places) ≤ 20_017 * arc_count g + 18 * (arc_count g * jobs g)
  unfolding place_lines
  places-le =
      let size = 20_006 + 18 * jobs g in
      let numbers = range_with_len 0 (arc_count g) in
      let many = length-range_with_len 0 (arc_count g) in
      let c = consistent in
      let text = dated_lines-le format place_words (λ _. size) 11 numbers s.places (c.a_place_each ∙ sym many) (place_words-le (arc_count g) limits.few_arcs) place_texts-le in
      let each = sum_by-le (λ (_ : List ℕ). size) size s.places (λ k dates low. omega arith) in
      let sizes = subst (λ n. sum_by (λ (_ : List ℕ). size) s.places ≤ n * size) c.a_place_each each in
      omega (arith, text, many, sizes)

  -- ---- the whole text

  -- the jobs of all arcs, where there are few arcs
  arc_jobs-le : HasFewArcs g → arc_count g * jobs g ≤ 4_180_000
  arc_jobs-le few =
      let more : arc_count g * jobs g ≤ (3 * stations g + 59) * jobs g = mul-le-mul_right (jobs g) few in
      omega (arith, more, limits.small_table, limits.few_jobs)

  -- the first lines, those of the stations, those of the arcs, and the end
  text-le : HasFewArcs g → HasShortLabels g → length (lines_text format (lines format g) (s.logs ++ s.places)) ≤ most_checkpoint_bytes
  text-le few short =
      let c = consistent in
      let head = lines_text format (head_lines format g) [] in
      let station_text = lines_text format (station_lines g) s.logs in
      let place_text = lines_text format (place_lines g) s.places in
      omega (arith, ap length (filled-lines format g s.logs s.places c.a_log_each c.a_place_each), length-append head (station_text ++ (place_text ++ codes "end\n")), length-append station_text (place_text ++ codes "end\n"), length-append place_text (codes "end\n"), head-le format g limits, stations-le short, places-le, fired-le g s c, arc_jobs-le few, limits.small_table, limits.few_stations, few)

-- no text of a state that firings reach is longer than a checkpoint may be
pub texts_fit : (g : Parts) → IsGraph g → IsWithinLimits g → HasFewArcs g → HasShortLabels g → FitsLimit g
texts_fit g graph limits few short format s reached = text-le format g s graph limits reached few short
