-- What the logs of a reached state say of the tokens on an arc, where the arc and its logs were read.
use Rattle.std.proofs.Common.{◌≡◌, ℕ, ◌+◌, ◌<◌, ◌≤◌, List, drop, length, get_or, sym, ap, ◌∙◌, subst, arith}
use Rattle.line_base.specs.declared.event.Arc.{Arc}
use Rattle.event_graph.specs.Network.{arc, arc_count, delay}
use Rattle.event_graph.specs.State.{log, place}
use Rattle.event_graph.proofs.Sizes.{delay-small}
use Rattle.line_core.specs.ArcTokens.{tokens_of, AddWithin}
use Rattle.line_core.specs.Consistent.{all_tokens, IsConsistent, LATEST_DATE}
use Rattle.line_core.specs.Run.{Run, IsReached}
use Rattle.line_core.proofs.ArcTokens.{length-all_tokens}
use Rattle.line_core.proofs.Consistency.{reached_is_consistent}

module _ (r : Run) (a : ℕ) (held : IsReached r) (there : a < arc_count r.graph) (x : Arc) (is : x ≡ arc r.graph a) (taken dates : List ℕ) (at_end : taken ≡ log r.state x.to) (at_start : dates ≡ log r.state x.from) where
  consistent : IsConsistent r.graph r.state
  consistent = reached_is_consistent r.graph r.state held.reached

  taken_is : taken ≡ log r.state (arc r.graph a).to
  taken_is = at_end ∙ ap (λ (y : Arc). log r.state y.to) is

  dates_are : dates ≡ log r.state (arc r.graph a).from
  dates_are = at_start ∙ ap (λ (y : Arc). log r.state y.from) is

  -- no more were taken than were there
  pub few_taken : length taken ≤ x.tokens + length dates
  few_taken =
      omega (arith, ap length taken_is, ap length dates_are, ap (λ (y : Arc). y.tokens) is, consistent.tokens_suffice a there, length-all_tokens r.graph r.state a)

  module _ (later : ℕ) (of_arc : later ≡ delay r.graph a) where
    -- each date and the delay have a sum of 64 bits
    pub tokens_add : AddWithin dates later
    tokens_add k d low =
        let early = held.early.logs (arc r.graph a).from (held.sound.starts_exist a there) k d (subst (λ l. k < length l) dates_are low) in
        omega (arith, subst (λ l. get_or l k d ≤ LATEST_DATE) (sym dates_are) early, of_arc, delay-small r.graph a held.limits)

    -- those that are left
    pub tokens_read : drop (length taken) (tokens_of x.tokens dates later) ≡ place r.state a
    unfolding all_tokens
    tokens_read =
        ap (λ l. drop (length l) (tokens_of x.tokens dates later)) taken_is
        ∙ ap (λ (y : Arc). drop (length (log r.state (arc r.graph a).to)) (tokens_of y.tokens dates later)) is
        ∙ ap (λ l. drop (length (log r.state (arc r.graph a).to)) (tokens_of (arc r.graph a).tokens l later)) dates_are
        ∙ ap (λ n. drop (length (log r.state (arc r.graph a).to)) (tokens_of (arc r.graph a).tokens (log r.state (arc r.graph a).from) n)) of_arc
        ∙ sym (consistent.places_are_left a there)
