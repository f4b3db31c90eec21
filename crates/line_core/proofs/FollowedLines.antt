-- What a line of a schedule gives, and what all its lines give.
use Rattle.std.proofs.Common.{◌≡◌, ◌≢◌, ℕ, ◌+◌, ◌<◌, ◌≤◌, Bool, true, false, eqb, List, [], ◌∷◌, take, drop, length, get_or, refl, sym, ap, ◌∙◌, arith, ⊎_elim}
use Rattle.std.specs.Prelude.{None, Some, Ok, Err, not}
use Rattle.std.specs.List.{position_or_len}
use Rattle.std.specs.Str.Lines.{strip_carriage_return}
use Rattle.std.proofs.lemmas.Bool.{cases_lt, ne_eqb, eq-eqb, cond-true, cond-false}
use Rattle.std.proofs.lemmas.List.{take_all}
use Rattle.std.proofs.lemmas.List.Sums.{prefix_len_passes}
use Rattle.std.proofs.lemmas.List.Splits.{slice_split_first, slice_split_none}
use Rattle.line_base.specs.declared.event.Parts.{Parts}
use Rattle.event_graph.specs.Network.{jobs, ins}
use Rattle.event_graph.specs.State.{State, log, place}
use Rattle.event_graph.specs.Firing.{CanFire, after}
use Rattle.event_graph.proofs.ArcNumbers.{All-ins}
use Rattle.line_core.specs.declared.error.ReplayError.{ReplayError}
use Rattle.line_core.specs.declared.error.ReplayError.TheVariants.{NoStation, Done, Empty}
use Rattle.line_core.specs.Refusals.{is_empty, first_empty, first_unfinished}
use Rattle.line_core.specs.Schedule.{lines_of, station_with, fire_from, fire_named, follow_line, follow_lines, and_then, end_at}
use Rattle.line_core.proofs.Searches.{find-all}

-- a station that can fire has no empty input place
pub none_is_empty : (g : Parts) (s : State) (t : ℕ) → CanFire g s t → first_empty g s t ≡ None
none_is_empty g s t can =
    find-all (is_empty s) (ins g t) (λ k d low.
    let at = All-ins g t k d low in
    ne_eqb (length (place s (get_or (ins g t) k d))) 0 (λ none. let some = can.tokens _ at.0 at.1 in absurd (omega (arith, some, none))))

pub follow-empty : (g : Parts) (n : ℕ) (text : List ℕ) (s : State) → length text ≡ 0 → follow_line g n text s ≡ Ok s
unfolding follow_line
follow-empty g n text s none =
    cond-true (eqb (length text) 0) (Ok s) (fire_named g n s (station_with g text)) (eq-eqb (length text) 0 none)

module _ (g : Parts) (n : ℕ) (text : List ℕ) (s : State) (some : length text ≢ 0) where
  follow-named : follow_line g n text s ≡ fire_named g n s (station_with g text)
  unfolding follow_line
  follow-named = cond-false (eqb (length text) 0) (Ok s) (fire_named g n s (station_with g text)) (ne_eqb (length text) 0 some)

  pub follow-no_station : station_with g text ≡ None → follow_line g n text s ≡ Err (NoStation n)
  follow-no_station none = follow-named ∙ ap (fire_named g n s) none

  pub follow-done : (t : ℕ) → station_with g text ≡ Some t → length (log s t) ≡ jobs g → follow_line g n text s ≡ Err (Done n t)
  follow-done t found all =
      follow-named
      ∙ ap (fire_named g n s) found
      ∙ cond-true (eqb (length (log s t)) (jobs g)) (Err (Done n t)) (fire_from g n t s (first_empty g s t)) (eq-eqb _ _ all)

  follow-station : (t : ℕ) → station_with g text ≡ Some t → length (log s t) < jobs g → follow_line g n text s ≡ fire_from g n t s (first_empty g s t)
  follow-station t found more =
      follow-named
      ∙ ap (fire_named g n s) found
      ∙ cond-false (eqb (length (log s t)) (jobs g)) (Err (Done n t)) (fire_from g n t s (first_empty g s t)) (ne_eqb _ _ (λ all. absurd (omega (arith, all, more))))

  pub follow-waits : (t a : ℕ) → station_with g text ≡ Some t → length (log s t) < jobs g → first_empty g s t ≡ Some a → follow_line g n text s ≡ Err (Empty n a)
  follow-waits t a found more waits = follow-station t found more ∙ ap (fire_from g n t s) waits

  pub follow-fires : (t : ℕ) → station_with g text ≡ Some t → CanFire g s t → follow_line g n text s ≡ Ok (after g s t)
  follow-fires t found can =
      follow-station t found can.more ∙ ap (fire_from g n t s) (none_is_empty g s t can)

-- ---- the lines of a text

lines-first : (text : List ℕ) → position_or_len (λ byte. eqb byte 10) text < length text → lines_of text ≡ take (position_or_len (λ byte. eqb byte 10) text) text ∷ lines_of (drop (position_or_len (λ byte. eqb byte 10) text + 1) text)
lines-first text more = slice_split_first (λ byte. eqb byte 10) text 0 more

lines-last : (text : List ℕ) → position_or_len (λ byte. eqb byte 10) text ≡ length text → lines_of text ≡ text ∷ []
lines-last text all =
    slice_split_none (λ byte. eqb byte 10) text (λ k d low. no_feed (eqb (get_or text k d) 10) (prefix_len_passes (λ byte. not (eqb byte 10)) text k d (omega (arith, all, low))))
  where
    no_feed : (b : Bool) → not b ≡ true → b ≡ false
    no_feed true test = cc
    no_feed false test = refl

module _ (g : Parts) (n : ℕ) (text : List ℕ) (s : State) (end : ℕ) (found : end ≡ position_or_len (λ byte. eqb byte 10) text) where
  -- a line that another one follows
  pub follow-more : (next : State) → end < length text → follow_line g n (strip_carriage_return (take end text)) s ≡ Ok next → follow_lines g (lines_of text) n s ≡ follow_lines g (lines_of (drop (end + 1) text)) (n + 1) next
  unfolding follow_lines
  follow-more next more followed =
      let rest = λ (e : ℕ). follow_lines g (take e text ∷ lines_of (drop (e + 1) text)) n s in
      ap (λ lines. follow_lines g lines n s) (lines-first text (omega (arith, more, found)))
      ∙ ap rest (sym found)
      ∙ ap (λ r. and_then r (follow_lines g (lines_of (drop (end + 1) text)) (n + 1))) followed

  -- the last line
  pub follow-last : (next : State) → end ≡ length text → follow_line g n (strip_carriage_return (take end text)) s ≡ Ok next → follow_lines g (lines_of text) n s ≡ end_at next (first_unfinished g next)
  unfolding follow_lines
  follow-last next all followed =
      ap (λ lines. follow_lines g lines n s) (lines-last text (sym found ∙ all))
      ∙ ap (λ line. and_then (follow_line g n (strip_carriage_return line) s) (follow_lines g [] (n + 1))) (sym (take_all end text (omega (arith, all))))
      ∙ ap (λ r. and_then r (follow_lines g [] (n + 1))) followed

  -- a line that can't be followed
  pub follow-refused : (refusal : ReplayError) → end ≤ length text → follow_line g n (strip_carriage_return (take end text)) s ≡ Err refusal → follow_lines g (lines_of text) n s ≡ Err refusal
  unfolding follow_lines
  follow-refused refusal within refused =
      let rest = λ (e : ℕ). follow_lines g (take e text ∷ lines_of (drop (e + 1) text)) n s in
      ⊎_elim
      (λ more.
      ap (λ lines. follow_lines g lines n s) (lines-first text (omega (arith, more, found)))
      ∙ ap rest (sym found)
      ∙ ap (λ r. and_then r (follow_lines g (lines_of (drop (end + 1) text)) (n + 1))) refused)
      (λ all.
      let whole : end ≡ length text = omega (arith, all, within) in
      ap (λ lines. follow_lines g lines n s) (lines-last text (sym found ∙ whole))
      ∙ ap (λ line. and_then (follow_line g n (strip_carriage_return line) s) (follow_lines g [] (n + 1))) (sym (take_all end text (omega (arith, whole))))
      ∙ ap (λ r. and_then r (follow_lines g [] (n + 1))) refused)
      (cases_lt end (length text))
