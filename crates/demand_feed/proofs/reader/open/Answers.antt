use Rattle.std.proofs.Common.{◌∙◌, refl, sym, inr}
use Rattle.csv.specs.Reading.{Reached, strip_bom}
use Rattle.demand_feed.proofs.reader.open.Goals as goal

pub returns : goal.returns
unfolding Reached
returns c =
    let made = c.from_reader.ensures in
    let flexible = c.flexible.ensures in
    let headers = c.has_headers.ensures in
    record {
      plain = record {
        config = rw (flexible, headers) at made.config ∙ c.new.ensures.config;
        trim = rw (flexible, headers) at made.trim ∙ c.new.ensures.trim;
        flexible = rw flexible at made.flexible;
        ready = inr (inr (rw (flexible, headers) at made.has_headers, made.headers));
      };
      rest = strip_bom c.args.file.now;
      source = made.source;
      reached = (sym made.state, refl);
    }
