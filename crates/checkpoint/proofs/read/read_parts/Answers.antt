use Rattle.std.proofs.Common.{◌≡◌, ℕ, List, ◌++◌, length, ap, ◌∙◌, sym, subst, arith}
use Rattle.std.proofs.lemmas.Result.{err_from_is_err_and}
use Rattle.line_base.specs.declared.event.Parts.{Parts}
use Rattle.checkpoint.specs.declared.error.CheckpointError.{CheckpointError}
use Rattle.checkpoint.specs.Answers.{Tells}
use Rattle.checkpoint.proofs.OneState.{given_left, given_right}
use Rattle.checkpoint.proofs.ReadParts.{logs_given}
use Rattle.checkpoint.proofs.read.read_parts.Goals as goal

-- what an error says of a text that is the same
tells_of : (g : Parts) (bytes same : List ℕ) (error : CheckpointError) → bytes ≡ same → Tells g bytes error → Tells g same error
tells_of g bytes same error is known = subst (λ t. Tells g t error) is known

pub returns-in_err-format-clause-refused : goal.returns-in_err-format-clause-refused
returns-in_err-format-clause-refused c =
    let p = err_from_is_err_and c.from_residual.result c.from_residual.ensures.1 in
    rw (p.1, p.2) c.in_err-format.ensures.refused

pub read_stations-requires-clause-short : goal.read_stations-requires-clause-short
read_stations-requires-clause-short c = omega (arith, c.requires.short, ap length c.in_ok-format.ensures.text)

pub returns-in_err-stations-clause-refused : goal.returns-in_err-stations-clause-refused
returns-in_err-stations-clause-refused c =
    let p = err_from_is_err_and c.from_residual-in_err-stations.result c.from_residual-in_err-stations.ensures.1 in
    rw (p.1, p.2) (tells_of c.args.graph.now _ _ _ c.in_ok-format.ensures.text c.in_err-stations.ensures.refused)

pub returns-in-Err-clause-refused : goal.returns-in-Err-clause-refused
returns-in-Err-clause-refused c =
    tells_of c.args.graph.now _ _ _ (c.in_ok-stations.ensures.text ∙ c.in_ok-format.ensures.text) c.in-Err.ensures.refused

pub returns-in-Err-read_end-clause-refused : goal.returns-in-Err-read_end-clause-refused
returns-in-Err-read_end-clause-refused c =
    tells_of c.args.graph.now _ _ _ (c.in-Ok.ensures.text ∙ c.in_ok-stations.ensures.text ∙ c.in_ok-format.ensures.text) c.in-Err-read_end.ensures.refused

pub read_places-requires-clause-short : goal.read_places-requires-clause-short
read_places-requires-clause-short c =
    omega (arith, c.requires.short, ap length (c.in_ok-stations.ensures.text ∙ c.in_ok-format.ensures.text))

pub read_places-requires-clause-given : goal.read_places-requires-clause-given
read_places-requires-clause-given c =
    let h = c.in_ok-stations.ensures.read in
    logs_given c.args.graph.now c.in_ok-stations.stations.logs h.lists h.logs_are h.read.given

pub read_places-requires-clause-read : goal.read_places-requires-clause-read
read_places-requires-clause-read c =
    let h = c.in_ok-stations.ensures.read in
    (h.lists, h.read)

pub read_end-requires-clause-short : goal.read_end-requires-clause-short
read_end-requires-clause-short c =
    let same = c.in-Ok.ensures.text ∙ c.in_ok-stations.ensures.text ∙ c.in_ok-format.ensures.text in
    omega (arith, c.requires.short, ap length same)

pub read_end-requires-clause-read : goal.read_end-requires-clause-read
read_end-requires-clause-read c =
    let h = c.in_ok-stations.ensures.read in
    let p = c.in-Ok.ensures.read in
    (h.lists ++ p.places, p.read h.lists h.read)

pub returns-in-Ok-read_end-clause-given : goal.returns-in-Ok-read_end-clause-given
returns-in-Ok-read_end-clause-given c =
    let h = c.in_ok-stations.ensures.read in
    logs_given c.args.graph.now c.in_ok-stations.stations.logs h.lists h.logs_are h.read.given

pub returns-in-Ok-read_end-clause-read : goal.returns-in-Ok-read_end-clause-read
returns-in-Ok-read_end-clause-read c =
    let h = c.in_ok-stations.ensures.read in
    let p = c.in-Ok.ensures.read in
    let has = p.read h.lists h.read in
    record {
      parts = record { logs = h.lists; places = p.places };
      said = record {
        text = record {
          format = c.in_ok-format.format;
          read = c.in_ok-format.ensures.readable;
          is = sym (c.in-Ok.ensures.text ∙ c.in_ok-stations.ensures.text ∙ c.in_ok-format.ensures.text) ∙ c.in-Ok-read_end.ensures.read (h.lists ++ p.places) has;
        };
        a_log_each = h.a_log_each;
        a_place_each = p.a_place_each;
        logs_given = given_left h.lists p.places has.given;
        places_given = given_right h.lists p.places has.given;
      };
      logs_are = h.logs_are;
      long_is = h.long_is;
      counts = p.counts;
      wrong_is = p.wrong_is;
    }
