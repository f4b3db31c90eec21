-- What the search for a label finds.
use Rattle.std.proofs.Common.{◌≡◌, ℕ, ◌<◌, Bool, true, false, cond, List, [], ◌∷◌, get_or, refl, sym, ap, ◌∙◌, subst, arith, zero-add}
use Rattle.std.specs.Prelude.{None, Some}
use Rattle.std.specs.List.{All, find, range_with_len}
use Rattle.std.specs.Str.{bytes_eq}
use Rattle.std.proofs.lemmas.Bool.{false≢true}
use Rattle.std.proofs.lemmas.List.Elements.{All-head, All-tail}
use Rattle.std.proofs.lemmas.List.FromFn.{length-range_with_len, get_or-range_with_len}
use Rattle.std.proofs.lemmas.Slice.Eq.{bytes_eq-Decides}
use Rattle.line_base.specs.declared.event.Parts.{Parts}
use Rattle.event_graph.specs.Network.{stations, label}
use Rattle.event_graph.proofs.Ranges.{All-range}
use Rattle.line_core.specs.Schedule.{is_label_of, station_with}
use Rattle.line_core.proofs.Searches.{find-none}
use Rattle.date_causes.specs.Named.{NamesNone}

-- what is found is an element
found_is : {X : Type 0} (P : X → Type 0) (p : X → Bool) (xs : List X) (x : X) → All P xs → find p xs ≡ Some x → P x
found_is P p [] x all found = cc
found_is {X} P p (y ∷ ys) x all found =
    let by_test : (b : Bool) → cond b (Some y) (find p ys) ≡ Some x → P x =
    λ b. elim b as (λ v. cond v (Some y) (find p ys) ≡ Some x → P x) [
      | true ↦ λ e. let same : y ≡ x = cc in subst P same (All-head P y ys all)
      | false ↦ λ e. found_is P p ys x (All-tail P y ys all) e
    ] in
    by_test (p y) found

pub named_exists : (g : Parts) (text : List ℕ) (t : ℕ) → station_with g text ≡ Some t → t < stations g
named_exists g text t found =
    found_is (λ u. u < stations g) (is_label_of g text) (range_with_len 0 (stations g)) t (All-range (stations g)) found

bytes_eq-same : (a : List ℕ) → bytes_eq a a ≡ true
bytes_eq-same a = (bytes_eq-Decides a a).1 refl

pub names_none : (g : Parts) (text : List ℕ) → station_with g text ≡ None → NamesNone g text
names_none g text none t there same =
    let tested = find-none (is_label_of g text) (range_with_len 0 (stations g)) none t 0 (omega (arith, length-range_with_len 0 (stations g))) in
    let at : get_or (range_with_len 0 (stations g)) t 0 ≡ t = get_or-range_with_len 0 (stations g) t 0 there ∙ zero-add t in
    let isnt : bytes_eq (label g t) text ≡ false = ap (λ u. bytes_eq (label g u) text) (sym at) ∙ tested in
    false≢true (sym isnt ∙ (ap (λ l. bytes_eq l text) same ∙ bytes_eq-same text))
