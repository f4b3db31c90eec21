-- Logs with the number of tokens in each place: what is known of them before the dates of the tokens are seen.
use Rattle.std.specs.Prelude.{◌≡◌, ℕ, List, ◌++◌, length, map, slice_index, Some}
use Rattle.line_base.specs.declared.event.Parts.{Parts}
use Rattle.event_graph.specs.Network.{arc_count}
use Rattle.line_core.specs.declared.error.StateError.{StateError}
use Rattle.line_core.specs.Parts.{each_below, long_logs, wrong_count, wrong_dates, wrong_tokens, state_refusals, state_refusal}

-- 2, of arc a: with the number of tokens that it has by the marking
unfoldable pub wrong_marked : Parts → List (List ℕ) → List ℕ → ℕ → List StateError
wrong_marked g logs marking a = wrong_count g logs a (slice_index marking a)

-- 2: the places that have another number of tokens than they need
abbrev pub wrong_counts : Parts → List (List ℕ) → List ℕ → List StateError
wrong_counts g logs marking = each_below (arc_count g) (wrong_marked g logs marking)

-- all that is wrong before the dates of tokens are seen
unfoldable pub marked_refusals : Parts → List (List ℕ) → List ℕ → List StateError
marked_refusals g logs marking = long_logs g logs ++ (wrong_counts g logs marking ++ wrong_dates g logs)

-- these places have this many tokens
abbrev pub HaveCounts : List (List ℕ) → List ℕ → Type 0
HaveCounts places marking = map (λ tokens. length tokens) places ≡ marking

-- whatever the dates of this many tokens are, this is the first thing that is wrong
abbrev pub RefusesMarked : Parts → List (List ℕ) → List ℕ → StateError → Type 0
RefusesMarked g logs marking refusal =
    (places : List (List ℕ)) → HaveCounts places marking → state_refusal g logs places ≡ Some refusal

-- whatever the dates of this many tokens are, nothing but they can be wrong
abbrev pub RefusesTokensAlone : Parts → List (List ℕ) → List ℕ → Type 0
RefusesTokensAlone g logs marking =
    (places : List (List ℕ)) → HaveCounts places marking
    → state_refusals g logs places ≡ wrong_tokens g logs places
