-- One text says one state.
use Rattle.std.proofs.Common.{◌≡◌, ℕ, ◌+◌, ◌-◌, ◌^◌, ◌<◌, ◌≤◌, List, [], ◌∷◌, ◌++◌, length, take, drop, sym, ap, ◌∙◌, refl, subst, arith, append-nil, ⊎_elim}
use Rattle.std.specs.Prelude.{All, codes, Result, Ok, Err, IfOk, IfErr, false}
use Rattle.std.proofs.lemmas.Bool.{cases_lt}
use Rattle.std.proofs.lemmas.List.{take_all, take_at, drop_at, ext_get_or, get_or_append_left, get_or-append_right, length-append, length-drop}
use Rattle.std.proofs.lemmas.List.Elements.{All-append, All-from_get_or, All-weaker, All-same, All-take, All-drop}
use Rattle.line_base.specs.declared.event.Parts.{Parts}
use Rattle.event_graph.specs.Network.{stations, arc_count, arc, IsGraph}
use Rattle.event_graph.specs.Limits.{IsWithinLimits}
use Rattle.event_graph.specs.State.{State, log, place}
use Rattle.event_graph.specs.Reached.{Reached}
use Rattle.line_core.specs.declared.error.StateError.{StateError}
use Rattle.line_core.specs.declared.error.StateError.TheVariants as Core
use Rattle.checkpoint.specs.Refusals.{of_state_error}
use Rattle.line_core.specs.Consistent.{all_tokens, LATEST_DATE}
use Rattle.line_core.specs.Parts.{first, state_refusal}
use Rattle.line_core.specs.Run.{Run, IsReached}
use Rattle.line_core.proofs.ArcTokens.{length-all_tokens}
use Rattle.line_core.proofs.Bounds.{reached_is_within}
use Rattle.line_core.proofs.Consistency.{reached_is_consistent}
use Rattle.line_core.proofs.PartsLemmas.{nothing_wrong}
use Rattle.checkpoint.specs.declared.format.Format.{Format}
use Rattle.checkpoint.specs.declared.format.Format.TheVariants.{Dates, Differences}
use Rattle.checkpoint.specs.declared.error.CheckpointError.{CheckpointError}
use Rattle.checkpoint.specs.declared.error.CheckpointError.TheVariants.{Line, Count, Marking, Date, PlaceDate, NoMemory}
use Rattle.checkpoint.specs.Text.{lines, head_lines, station_lines, place_lines, lines_text, IsTextOf}
use Rattle.checkpoint.specs.Given.{AreGiven}
use Rattle.checkpoint.specs.Text.{Fixed}
use Rattle.checkpoint.specs.Reading.{dated_line_count}
use Rattle.checkpoint.specs.Answers.{IsRefused, Tells, IsStateOrNoMemory}
use Rattle.checkpoint.proofs.FilledTexts.{dated-station_lines, dated-place_lines}
use Rattle.checkpoint.proofs.ReadDates.{IsGiven}
use Rattle.checkpoint.proofs.Unique.{HasShortLists, filled-unique, short_lists}
use Rattle.checkpoint.proofs.ReadLines.{length-lines, dated-append, one_format, text_begins_well}

-- the lists of a state, as a text takes them
abbrev pub lists_of : State → List (List ℕ)
lists_of s = s.logs ++ s.places

-- a log for each station, a place for each arc, and no date that a text can't give
pub record IsShaped (g : Parts) (s : State) : Type 0 where
  pub a_log_each : length s.logs ≡ stations g
  pub a_place_each : length s.places ≡ arc_count g
  pub given : AreGiven (lists_of s)

pub shaped_reached : (g : Parts) (s : State) → IsWithinLimits g → Reached g s → IsShaped g s
shaped_reached g s limits reached =
    let c = reached_is_consistent g s reached in
    let within = reached_is_within g s limits reached in
    let logs = All-from_get_or (All IsGiven) s.logs [] (λ t low. All-weaker (λ date. date ≤ LATEST_DATE) IsGiven (λ date h. omega arith) (log s t) (within.logs t (omega (arith, low, c.a_log_each)))) in
    let places = All-from_get_or (All IsGiven) s.places [] (λ a low. All-weaker (λ date. date ≤ LATEST_DATE) IsGiven (λ date h. omega arith) (place s a) (within.places a (omega (arith, low, c.a_place_each)))) in
    record {
      a_log_each = c.a_log_each;
      a_place_each = c.a_place_each;
      given = All-append (All IsGiven) s.logs s.places logs places;
    }

pub dated-lines : (format : Format) (g : Parts) → dated_line_count (lines format g) ≡ stations g + arc_count g
unfolding lines
dated-lines format g =
    dated-append (head_lines format g) _
    ∙ omega (arith, none format, dated-append (station_lines g) (place_lines g ++ Fixed (codes "end\n") ∷ []), dated-append (place_lines g) (Fixed (codes "end\n") ∷ []), dated-station_lines g, dated-place_lines g)
  where
    none : (f : Format) → dated_line_count (head_lines f g) ≡ 0
    none Dates = refl
    none Differences = refl

-- the lists of a state that firings reach are short
pub short_reached : (format : Format) (g : Parts) (s : State) → IsGraph g → IsWithinLimits g → Reached g s → HasShortLists (lines format g) (lists_of s)
short_reached format g s graph limits reached k low =
    let c = reached_is_consistent g s reached in
    ⊎_elim
    (λ in_logs.
    let is = get_or_append_left s.logs s.places [] k in_logs in
    omega (arith, ap length is, c.few_dates k (omega (arith, in_logs, c.a_log_each)), limits.few_jobs))
    (λ in_places.
    let a = k - length s.logs in
    let there : a < arc_count g = omega (arith, low, dated-lines format g, c.a_log_each, in_places) in
    let is = get_or-append_right s.logs s.places (length s.logs) k [] refl in_places in
    let left = ap length (c.places_are_left a there) in
    let cut = length-drop (length (log s (arc g a).to)) (all_tokens g s.logs a) in
    let made = length-all_tokens g s a in
    let few = c.few_dates (arc g a).from (graph.starts_exist a there) in
    omega (arith, ap length is, left, cut, made, few, limits.few_jobs, limits.few_tokens a (record { from = 0; to = 0; tokens = 0; worked = false }) there))
    (cases_lt k (length s.logs))

module _ (g : Parts) (bytes : List ℕ) (s u : State) (shaped_s : IsShaped g s) (shaped_u : IsShaped g u) (text_s : IsTextOf g s bytes) (text_u : IsTextOf g u bytes) where
  whole : (format : Format) (lists : List (List ℕ)) → bytes ≡ lines_text format (lines format g) lists → bytes ≡ lines_text format (take (length (lines format g)) (lines format g)) lists ++ []
  whole format lists is =
      is ∙ ap (λ l. lines_text format l lists) (sym (take_all (length (lines format g)) (lines format g) (omega arith))) ∙ sym (append-nil _)

  same_format : text_s.format ≡ text_u.format
  same_format =
      one_format text_s.format text_u.format g (length (lines text_s.format g)) (length (lines text_u.format g)) (lists_of s) (lists_of u) [] [] bytes
      (omega (arith, length-lines text_s.format g)) (omega (arith, length-lines text_u.format g)) (whole text_s.format (lists_of s) text_s.is) (whole text_u.format (lists_of u) text_u.is)

  pub one_state : HasShortLists (lines text_s.format g) (lists_of s) → HasShortLists (lines text_u.format g) (lists_of u) → s ≡ u
  one_state short_s short_u =
      let format = text_s.format in
      let is_u : bytes ≡ lines_text format (lines format g) (lists_of u) = text_u.is ∙ ap (λ f. lines_text f (lines f g) (lists_of u)) (sym same_format) in
      let short_u' = subst (λ f. HasShortLists (lines f g) (lists_of u)) (sym same_format) short_u in
      let both = append-nil (lines_text format (lines format g) (lists_of s)) ∙ sym text_s.is ∙ is_u ∙ sym (append-nil (lines_text format (lines format g) (lists_of u))) in
      let unique = filled-unique format (lines format g) (lists_of s) (lists_of u) [] [] shaped_s.given shaped_u.given short_s short_u' both in
      let long_s = length-append s.logs s.places in
      let long_u = length-append u.logs u.places in
      let long : length (lists_of s) ≡ length (lists_of u) = omega (arith, long_s, long_u, shaped_s.a_log_each, shaped_u.a_log_each, shaped_s.a_place_each, shaped_u.a_place_each) in
      let lists : lists_of s ≡ lists_of u = ext_get_or [] (lists_of s) (lists_of u) long (λ k low. unique.0 k (omega (arith, low, long_s, shaped_s.a_log_each, shaped_s.a_place_each, dated-lines format g))) in
      let logs = sym (take_at s.logs s.places (stations g) shaped_s.a_log_each) ∙ ap (take (stations g)) lists ∙ take_at u.logs u.places (stations g) shaped_u.a_log_each in
      let places = sym (drop_at s.logs s.places (stations g) shaped_s.a_log_each) ∙ ap (drop (stations g)) lists ∙ drop_at u.logs u.places (stations g) shaped_u.a_log_each in
      let by_logs : s ≡ record { logs = u.logs; places = s.places } = ap (λ (l : List (List ℕ)). let state : State = record { logs = l; places = s.places } in state) logs in
      by_logs ∙ ap (λ (p : List (List ℕ)). let state : State = record { logs = u.logs; places = p } in state) places

-- a text that isn't too long has short lists
pub short_text : (g : Parts) (bytes : List ℕ) (s : State) → IsShaped g s → (text : IsTextOf g s bytes) → length bytes < 2 ^ 32 → HasShortLists (lines text.format g) (lists_of s)
short_text g bytes s shaped text short =
    short_lists text.format (lines text.format g) (lists_of s) [] shaped.given
    (omega (arith, short, ap length text.is, length-append (lines_text text.format (lines text.format g) (lists_of s)) []))

module _ (g : Parts) (bytes : List ℕ) (limits : IsWithinLimits g) (short : length bytes < 2 ^ 32) (s : State) (reached : Reached g s) (text : IsTextOf g s bytes) where
  same_state : (u : State) → IsShaped g u → IsTextOf g u bytes → u ≡ s
  same_state u shaped text_u =
      let shaped_s = shaped_reached g s limits reached in
      one_state g bytes u s shaped shaped_s text_u text (short_text g bytes u shaped text_u short) (short_text g bytes s shaped_s text short)

  not_refused : (refusal : StateError) → ¬ IsRefused g bytes refusal
  not_refused refusal refused =
      let given = All-append (All IsGiven) refused.parts.logs refused.parts.places refused.said.logs_given refused.said.places_given in
      let same = same_state refused.parts (record { a_log_each = refused.said.a_log_each; a_place_each = refused.said.a_place_each; given = given }) refused.said.text in
      let c = reached_is_consistent g s reached in
      let nothing = ap first (nothing_wrong g s.logs s.places c.a_log_each c.a_place_each c) in
      let something = ap (λ (u : State). state_refusal g u.logs u.places) (sym same) ∙ refused.refusal_is in
      let differ : ⊥ = cc (sym nothing ∙ something) in
      differ

  -- what is answered to a text of a state that firings reach
  pub finds : (r : Result Run CheckpointError) → IfOk r (λ run. run.graph ≡ g) → IfOk r (λ run. IsTextOf g run.state bytes) → IfOk r IsReached → IfErr r (Tells g bytes) → IsStateOrNoMemory r s
  finds (Ok run) graph text_run reached_run refused =
      same_state run.state (shaped_reached g run.state limits (subst (λ h. Reached h run.state) graph reached_run.reached)) text_run
  finds (Err (Line number)) graph text_run reached_run refused =
      absurd (refused.bad (text_begins_well text.format g (lists_of s) bytes number text.read (shaped_reached g s limits reached).given text.is))
  finds (Err (Count station have limit)) graph text_run reached_run refused = absurd (not_refused _ refused)
  finds (Err (Marking arc have need)) graph text_run reached_run refused = absurd (not_refused _ refused)
  finds (Err (Date station job have need)) graph text_run reached_run refused = absurd (not_refused _ refused)
  finds (Err (PlaceDate arc token have need)) graph text_run reached_run refused = absurd (not_refused _ refused)
  finds (Err NoMemory) graph text_run reached_run refused = refl

-- two texts of states that firings reach are different, where the states are
pub texts_differ : (g : Parts) (s u : State) (bytes : List ℕ) → IsGraph g → IsWithinLimits g → Reached g s → Reached g u → IsTextOf g s bytes → IsTextOf g u bytes → s ≡ u
texts_differ g s u bytes graph limits reached_s reached_u text_s text_u =
    one_state g bytes s u (shaped_reached g s limits reached_s) (shaped_reached g u limits reached_u) text_s text_u (short_reached text_s.format g s graph limits reached_s) (short_reached text_u.format g u graph limits reached_u)

-- the parts of two lists
pub given_left : (xs ys : List (List ℕ)) → AreGiven (xs ++ ys) → AreGiven xs
given_left xs ys given =
    All-same (All IsGiven) xs (take (length xs) (xs ++ ys)) (sym (take_at xs ys (length xs) refl)) (All-take (All IsGiven) (length xs) (xs ++ ys) given)

pub given_right : (xs ys : List (List ℕ)) → AreGiven (xs ++ ys) → AreGiven ys
given_right xs ys given =
    All-same (All IsGiven) ys (drop (length xs) (xs ++ ys)) (sym (drop_at xs ys (length xs) refl)) (All-drop (All IsGiven) (length xs) (xs ++ ys) given)

-- what a refusal of the logs and places of a text says
pub tells_refusal : (g : Parts) (bytes : List ℕ) (refusal : StateError) → IsRefused g bytes refusal → Tells g bytes (of_state_error refusal)
tells_refusal g bytes (Core.Count station have limit) refused = refused
tells_refusal g bytes (Core.Marking arc have need) refused = refused
tells_refusal g bytes (Core.Date station job have need) refused = refused
tells_refusal g bytes (Core.PlaceDate arc token have need) refused = refused
tells_refusal g bytes Core.NoMemory refused = tt
