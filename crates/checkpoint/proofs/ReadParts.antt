-- The lines of stations and arcs, read one after the other, and what they say.
use Rattle.std.proofs.Common.{◌≡◌, ℕ, zero, suc, ◌+◌, ◌<◌, ◌≤◌, ltb, List, [], ◌∷◌, ◌++◌, length, map, take, refl, sym, ap, ◌∙◌, subst, arith, append_assoc, append-nil}
use Rattle.std.specs.Prelude.{Option, None, Some, All}
use Rattle.std.proofs.lemmas.List.{length_push, map_push, get_or_push, get_or_append_left, take_all}
use Rattle.std.proofs.lemmas.List.Elements.{All-head, All-tail, All-take, All-from_get_or}
use Rattle.line_base.specs.declared.event.Parts.{Parts}
use Rattle.line_base.specs.Roomy.{RoomyLog, RoomyLogs, dates_of}
use Rattle.event_graph.specs.Network.{stations, jobs, arc_count}
use Rattle.line_core.specs.declared.error.StateError.{StateError}
use Rattle.line_core.specs.declared.error.StateError.TheVariants as Core
use Rattle.line_core.specs.Consistent.{tokens_left, state_of}
use Rattle.line_core.specs.Parts.{list_at, each_below, first, refuse_if, long_log, long_logs, wrong_token, wrong_tokens_on, wrong_tokens, state_refusals, state_refusal}
use Rattle.line_core.specs.Marked.{RefusesMarked, RefusesTokensAlone}
use Rattle.line_core.proofs.FirstRefusals.{first-front, first-none}
use Rattle.line_core.proofs.MarkedLogs.{each_below-same}
use Rattle.line_core.proofs.PartsLemmas.{few_from, given_is_consistent}
use Rattle.line_core.proofs.LastFirings.{state_of-logs}
use Rattle.checkpoint.specs.declared.format.Format.{Format}
use Rattle.checkpoint.specs.Text.{station_words, place_words}
use Rattle.checkpoint.specs.Given.{AreGiven}
use Rattle.checkpoint.specs.Answers.{IsRefused}
use Rattle.checkpoint.specs.Reading.{Reading, HasRead, HasReadLogs, HasReadPlaces, IsReadOf, KeepsLine, ComparesLine, or_first, unlike_token, unlike_tokens, unlike_places, head_count}
use Rattle.checkpoint.proofs.ReadDates.{IsGiven}
use Rattle.checkpoint.proofs.Noted.{noted_next}
use Rattle.checkpoint.proofs.ReadLines.{length-lines, line_at-station, line_at-place, read_dated, dates_of-push}

-- ---- the lines of the stations

pub logs_none : (format : Format) (g : Parts) (logs : RoomyLogs) (r : Reading) → logs.logs ≡ [] → HasRead format g (head_count format) [] r → HasReadLogs format g 0 logs None r
unfolding each_below
logs_none format g logs r none has = record {
  lists = [];
  read = subst (λ m. HasRead format g m [] r) (omega arith) has;
  a_log_each = refl;
  logs_are = ap (λ (l : List RoomyLog). map (λ (x : RoomyLog). x.dates) l) none;
  long_is = refl;
}

long_log-same : (g : Parts) (ls ms : List (List ℕ)) (t : ℕ) → list_at ls t ≡ list_at ms t → long_log g ls t ≡ long_log g ms t
unfolding long_log
long_log-same g ls ms t same =
    ap (λ l. refuse_if (ltb (jobs g) (length l)) (Core.Count t (length l) (jobs g))) same

long_log-count : (g : Parts) (ls : List (List ℕ)) (t count : ℕ) → length (list_at ls t) ≡ count → refuse_if (ltb (jobs g) count) (Core.Count t count (jobs g)) ≡ long_log g ls t
unfolding long_log
long_log-count g ls t count is = ap (λ n. refuse_if (ltb (jobs g) n) (Core.Count t n (jobs g))) (sym is)

pub logs_next : (format : Format) (g : Parts) (t : ℕ) (logs : RoomyLogs) (log : RoomyLog) (count : ℕ) (long later : Option StateError) (r after : Reading) → HasReadLogs format g t logs long r → t < stations g → KeepsLine format (station_words g t) count (jobs g) r.rest log.dates after.rest → after.text ≡ r.text → later ≡ or_first long (refuse_if (ltb (jobs g) count) (Core.Count t count (jobs g))) → HasReadLogs format g (t + 1) (record logs { logs = logs.logs ++ log ∷ [] }) later after
logs_next format g t logs log count long later r after h there line text notes =
    let n = head_count format + t in
    let lists = h.lists ++ line.dates ∷ [] in
    let next = read_dated format g n h.lists r h.read (station_words g t) line.dates after (omega (arith, there, length-lines format g)) (line_at-station format g t n refl there) line.is text line.given in
    let one_more : n + 1 ≡ head_count format + (t + 1) = omega arith in
    let last : list_at lists t ≡ line.dates = get_or_push h.lists line.dates [] t h.a_log_each in
    record {
      lists = lists;
      read = subst (λ m. HasRead format g m lists after) one_more next;
      a_log_each = length_push h.lists line.dates ∙ ap (λ m. m + 1) h.a_log_each;
      logs_are =
          dates_of-push logs log
          ∙ ap (λ l. l ++ log.dates ∷ []) h.logs_are
          ∙ ap (λ d. map (take (jobs g)) h.lists ++ d ∷ []) line.kept_is
          ∙ sym (map_push (take (jobs g)) h.lists line.dates);
      long_is =
          notes
          ∙ ap (or_first long) (long_log-count g lists t count (ap length last ∙ line.counted))
          ∙ noted_next t (long_log g h.lists) (long_log g lists) long h.long_is (λ i low.
          long_log-same g h.lists lists i (sym (get_or_append_left h.lists (line.dates ∷ []) [] i (omega (arith, low, h.a_log_each)))));
    }

-- ---- the lines of the arcs

pub places_none : (format : Format) (g : Parts) (logs : List (List ℕ)) (marking : List ℕ) (r : Reading) → marking ≡ [] → HasReadPlaces format g logs 0 marking None r r
unfolding unlike_places each_below
places_none format g logs marking r none = record {
  places = [];
  a_place_each = refl;
  read = λ lists has. subst (λ m. HasRead format g m (lists ++ []) r) (omega arith) (subst (λ l. HasRead format g (head_count format + stations g) l r) (sym (append-nil lists)) has);
  counts = sym none;
  wrong_is = refl;
}

pub places_next : (format : Format) (g : Parts) (logs : List (List ℕ)) (a : ℕ) (marking : List ℕ) (count : ℕ) (wrong later : Option StateError) (before r after : Reading) → HasReadPlaces format g logs a marking wrong before r → a < arc_count g → ComparesLine format a count (tokens_left g logs a) r.rest after.rest wrong later → after.text ≡ r.text → HasReadPlaces format g logs (a + 1) (marking ++ count ∷ []) later before after
unfolding unlike_places
places_next format g logs a marking count wrong later before r after h there line text =
    let n = head_count format + stations g + a in
    let places = h.places ++ line.dates ∷ [] in
    let one_more : n + 1 ≡ head_count format + stations g + (a + 1) = omega arith in
    let unlike = λ (l : List (List ℕ)) (b : ℕ). unlike_tokens b (list_at l b) (tokens_left g logs b) in
    record {
      places = places;
      a_place_each = length_push h.places line.dates ∙ ap (λ m. m + 1) h.a_place_each;
      read = λ lists has.
          let next = read_dated format g n (lists ++ h.places) r (h.read lists has) (place_words a) line.dates after (omega (arith, there, length-lines format g)) (line_at-place format g a n refl there) line.is text line.given in
          subst (λ l. HasRead format g (head_count format + stations g + (a + 1)) l after) (append_assoc lists h.places (line.dates ∷ [])) (subst (λ m. HasRead format g m ((lists ++ h.places) ++ line.dates ∷ []) after) one_more next);
      counts =
          map_push (λ (l : List ℕ). length l) h.places line.dates
          ∙ ap (λ l. l ++ length line.dates ∷ []) h.counts
          ∙ ap (λ m. marking ++ m ∷ []) line.counted;
      wrong_is =
          line.noted_is
          ∙ ap (λ d. or_first wrong (unlike_tokens a d (tokens_left g logs a))) (sym (get_or_push h.places line.dates [] a h.a_place_each))
          ∙ noted_next a (unlike h.places) (unlike places) wrong h.wrong_is (λ i low.
          ap (λ d. unlike_tokens i d (tokens_left g logs i)) (sym (get_or_append_left h.places (line.dates ∷ []) [] i (omega (arith, low, h.a_place_each)))));
    }

-- ---- what a text says, by what is kept of it

given_taken : (n : ℕ) (lists : List (List ℕ)) → AreGiven lists → AreGiven (map (take n) lists)
given_taken n [] given k d low = absurd (omega arith)
given_taken n (x ∷ xs) given zero d low = All-take IsGiven n x (All-head (All IsGiven) x xs given)
given_taken n (x ∷ xs) given (suc k) d low = given_taken n xs (All-tail (All IsGiven) x xs given) k d (omega arith)

pub logs_given : (g : Parts) (logs : RoomyLogs) (lists : List (List ℕ)) → dates_of logs ≡ map (take (jobs g)) lists → AreGiven lists → AreGiven (dates_of logs)
logs_given g logs lists is given = subst AreGiven (sym is) (given_taken (jobs g) lists given)

all_taken : (n : ℕ) (lists : List (List ℕ)) → All (λ l. length l ≤ n) lists → map (take n) lists ≡ lists
all_taken n [] short = refl
all_taken n (x ∷ xs) short =
    ap (λ l. l ∷ map (take n) xs) (take_all n x (All-head (λ l. length l ≤ n) x xs short))
    ∙ ap (λ l. x ∷ l) (all_taken n xs (All-tail (λ l. length l ≤ n) x xs short))

unlike-wrong : (g : Parts) (logs places : List (List ℕ)) (a : ℕ) → unlike_tokens a (list_at places a) (tokens_left g logs a) ≡ wrong_tokens_on g logs places a
unfolding unlike_tokens wrong_tokens_on wrong_token
unlike-wrong g logs places a =
    each_below-same (length (list_at places a)) (unlike_token a (list_at places a) (tokens_left g logs a)) (wrong_token g logs places a) (λ k low. refl)

unlike_places-wrong : (g : Parts) (logs places : List (List ℕ)) → unlike_places g logs (arc_count g) places ≡ wrong_tokens g logs places
unfolding unlike_places
unlike_places-wrong g logs places =
    each_below-same (arc_count g) (λ a. unlike_tokens a (list_at places a) (tokens_left g logs a)) (wrong_tokens_on g logs places) (λ a there. unlike-wrong g logs places a)

module _ (g : Parts) (bytes : List ℕ) (logs : RoomyLogs) (long : Option StateError) (marking : List ℕ) (wrong : Option StateError) (read : IsReadOf g bytes logs long marking wrong) where
  refused_as : (refusal : StateError) → state_refusal g read.parts.logs read.parts.places ≡ Some refusal → IsRefused g bytes refusal
  refused_as refusal is = record { parts = read.parts; said = read.said; refusal_is = is }

  pub long_refused : (refusal : StateError) → long ≡ Some refusal → IsRefused g bytes refusal
  unfolding state_refusals
  long_refused refusal is =
      refused_as refusal (first-front (long_logs g read.parts.logs) _ refusal (sym read.long_is ∙ is))

  module _ (none_long : long ≡ None) where
    same_logs : dates_of logs ≡ read.parts.logs
    same_logs =
        let none = first-none (long_logs g read.parts.logs) (sym read.long_is ∙ none_long) in
        let short = All-from_get_or (λ (l : List ℕ). length l ≤ jobs g) read.parts.logs [] (λ t low. few_from g read.parts.logs none t (omega (arith, low, read.said.a_log_each))) in
        read.logs_are ∙ all_taken (jobs g) read.parts.logs short

    pub marked_refused : (refusal : StateError) → RefusesMarked g (dates_of logs) marking refusal → IsRefused g bytes refusal
    marked_refused refusal refuses =
        refused_as refusal (ap (λ l. state_refusal g l read.parts.places) (sym same_logs) ∙ refuses read.parts.places read.counts)

    same_wrong : wrong ≡ first (wrong_tokens g read.parts.logs read.parts.places)
    same_wrong =
        read.wrong_is
        ∙ ap (λ l. first (unlike_places g l (arc_count g) read.parts.places)) same_logs
        ∙ ap first (unlike_places-wrong g read.parts.logs read.parts.places)

    module _ (alone : RefusesTokensAlone g (dates_of logs) marking) where
      all_wrong : state_refusals g read.parts.logs read.parts.places ≡ wrong_tokens g read.parts.logs read.parts.places
      all_wrong =
          ap (λ l. state_refusals g l read.parts.places) (sym same_logs)
          ∙ alone read.parts.places read.counts
          ∙ ap (λ l. wrong_tokens g l read.parts.places) same_logs

      pub token_refused : (refusal : StateError) → wrong ≡ Some refusal → IsRefused g bytes refusal
      token_refused refusal is = refused_as refusal (ap first all_wrong ∙ sym same_wrong ∙ is)

      pub state_said : wrong ≡ None → state_of g (dates_of logs) ≡ read.parts
      state_said is =
          let none = all_wrong ∙ first-none (wrong_tokens g read.parts.logs read.parts.places) (sym same_wrong ∙ is) in
          let consistent = given_is_consistent g read.parts.logs read.parts.places read.said.a_log_each read.said.a_place_each none in
          ap (state_of g) same_logs ∙ sym (state_of-logs g read.parts consistent)
