-- Dates that are read beside the tokens that are left on an arc.
use Rattle.std.proofs.Common.{◌≡◌, ℕ, ◌+◌, ◌<◌, ◌≤◌, eqb, List, [], ◌∷◌, ◌++◌, length, map, replicate, drop, get_or, min, refl, sym, ap, ◌∙◌, arith, subst}
use Rattle.std.proofs.Math.ListN.{get_or-map}
use Rattle.std.specs.Prelude.{Option, None, Some, not, All, codes}
use Rattle.std.proofs.lemmas.List.{get_or-drop, drop-drop, drop_min, length-append, length-replicate, length-map}
use Rattle.line_core.specs.declared.error.StateError.{StateError}
use Rattle.line_core.specs.declared.error.StateError.TheVariants.{PlaceDate}
use Rattle.line_base.specs.declared.event.Arc.{Arc}
use Rattle.line_base.specs.declared.event.Parts.{Parts}
use Rattle.line_base.specs.Roomy.{RoomyLog, RoomyLogs, log_at, dates_of}
use Rattle.event_graph.specs.Network.{stations, arc, arc_count, delay, IsGraph}
use Rattle.line_core.specs.ArcTokens.{tokens_of, AddWithin}
use Rattle.line_core.specs.Consistent.{all_tokens, tokens_left}
use Rattle.line_core.specs.Parts.{list_at, each_below, refuse_if}
use Rattle.checkpoint.specs.declared.format.Format.{Format}
use Rattle.checkpoint.specs.Text.{date_word}
use Rattle.checkpoint.specs.Given.{AreGiven}
use Rattle.checkpoint.specs.Reading.{Compares, or_first, unlike_tokens, TellsDate}
use Rattle.checkpoint.proofs.ReadDates.{IsGiven, ArePartlyRead, read_none, read_next, read_all}
use Rattle.checkpoint.proofs.Noted.{or_first-twice, unlike-push}

-- of `count` dates `number` are read and compared
pub record ArePartlyCompared (format : Format) (a count : ℕ) (left text : List ℕ) (noted : Option StateError) (before number : ℕ) (rest tokens : List ℕ) (now : Option StateError) : Type 0 where
  pub dates : List ℕ
  pub partly : ArePartlyRead format text count dates before number rest
  pub tokens_are : tokens ≡ drop number left
  pub noted_is : now ≡ or_first noted (unlike_tokens a dates left)

pub compared_none : (format : Format) (a count : ℕ) (left text : List ℕ) (noted : Option StateError) → ArePartlyCompared format a count left text noted 0 0 text left noted
unfolding unlike_tokens each_below
compared_none format a count left text noted = record {
  dates = [];
  partly = read_none format text count [] refl;
  tokens_are = refl;
  noted_is = none noted;
}
  where
    none : (o : Option StateError) → o ≡ or_first o []
    none None = refl
    none (Some refusal) = refl

module _ (format : Format) (a count : ℕ) (left text : List ℕ) (noted : Option StateError) (before number : ℕ) (rest tokens : List ℕ) (now : Option StateError) (so_far : ArePartlyCompared format a count left text noted before number rest tokens now) where
  pub compared_next : (have need : ℕ) (after tokens_after : List ℕ) (later : Option StateError) → number < count → IsGiven have → rest ≡ codes " " ++ (date_word format before have ++ after) → TellsDate format before rest (Some have) after → need ≡ get_or tokens 0 0 → tokens_after ≡ drop 1 tokens → later ≡ or_first now (refuse_if (not (eqb have need)) (PlaceDate a (number + 1) have need)) → ArePartlyCompared format a count left text noted have (number + 1) after tokens_after later
  compared_next have need after tokens_after later low given is tells needs goes_on notes =
      let dates = so_far.dates in
      let counted = so_far.partly.counted in
      let needed : need ≡ get_or left (length dates) 0 =
      needs ∙ ap (λ l. get_or l 0 0) so_far.tokens_are ∙ get_or-drop number left 0 0 ∙ ap (λ m. get_or left m 0) (omega (arith, counted))
      in
      record {
        dates = dates ++ have ∷ [];
        partly = read_next format text count dates before number rest so_far.partly have after low given is tells;
        tokens_are = goes_on ∙ ap (drop 1) so_far.tokens_are ∙ drop-drop 1 number left;
        noted_is =
            notes
            ∙ ap (λ o. or_first o (refuse_if (not (eqb have need)) (PlaceDate a (number + 1) have need))) so_far.noted_is
            ∙ or_first-twice noted (unlike_tokens a dates left) (refuse_if (not (eqb have need)) (PlaceDate a (number + 1) have need))
            ∙ ap (λ m. or_first noted (unlike_tokens a dates left ++ refuse_if (not (eqb have need)) (PlaceDate a (m + 1) have need))) (sym counted)
            ∙ ap (or_first noted) (sym (unlike-push a dates left have need needed));
      }

  pub compared_all : number ≡ count → Compares format a count left text rest noted now
  compared_all whole = record {
    dates = so_far.dates;
    given = so_far.partly.given;
    counted = so_far.partly.counted ∙ whole;
    is = read_all format text count so_far.dates before number rest so_far.partly;
    noted_is = so_far.noted_is;
  }

-- ---- the tokens that the logs leave

list_of : (logs : RoomyLogs) (k : ℕ) → (log_at logs k).dates ≡ list_at (dates_of logs) k
list_of logs k = sym (get_or-map (λ (l : RoomyLog). l.dates) logs.logs k (record { dates = []; room = 0 }))

pub left_within : (g : Parts) (logs : RoomyLogs) (a : ℕ) (x : Arc) (made : List ℕ) (late : ℕ) → x ≡ arc g a → IsGraph g → a < arc_count g → length logs.logs ≡ stations g → AreGiven (dates_of logs) → made ≡ (log_at logs x.from).dates → late ≤ 1_000_000_000 → AddWithin made late
left_within g logs a x made late read graph there a_log given is small k d low =
    let starts : x.from < stations g = subst (λ (y : Arc). y.from < stations g) (sym read) (graph.starts_exist a there) in
    let all : All IsGiven (list_at (dates_of logs) x.from) = given x.from [] (omega (arith, starts, a_log, length-map logs.logs (λ (l : RoomyLog). l.dates))) in
    let same = is ∙ list_of logs x.from in
    let early = subst (All IsGiven) (sym same) all k d low in
    omega (arith, early, small)

pub left_is : (g : Parts) (logs : RoomyLogs) (a : ℕ) (x : Arc) (taken all cut : ℕ) (made result : List ℕ) (late : ℕ) → x ≡ arc g a → taken ≡ length (log_at logs x.to).dates → made ≡ (log_at logs x.from).dates → late ≡ delay g a → all ≡ x.tokens + length made → cut ≡ min taken all → result ≡ drop cut (tokens_of x.tokens made late) → result ≡ tokens_left g (dates_of logs) a
unfolding all_tokens
left_is g logs a x taken all cut made result late read takes makes lates alls cuts is =
    let held = tokens_of x.tokens made late in
    let long : length held ≡ all =
    omega (arith, alls, length-append (replicate x.tokens 0) (map (λ date. date + late) made), length-replicate {A = ℕ} x.tokens 0, length-map made (λ date. date + late))
    in
    is
    ∙ ap (λ n. drop n held) (cuts ∙ ap (min taken) (sym long))
    ∙ drop_min taken held
    ∙ ap (λ n. drop n held) (takes ∙ ap length (list_of logs x.to) ∙ ap (λ (y : Arc). length (list_at (dates_of logs) y.to)) read)
    ∙ ap (λ l. drop (length (list_at (dates_of logs) (arc g a).to)) (tokens_of x.tokens l late)) (makes ∙ list_of logs x.from)
    ∙ ap (λ m. drop (length (list_at (dates_of logs) (arc g a).to)) (tokens_of x.tokens (list_at (dates_of logs) x.from) m)) lates
    ∙ ap (λ (y : Arc). drop (length (list_at (dates_of logs) (arc g a).to)) (tokens_of y.tokens (list_at (dates_of logs) y.from) (delay g a))) read
