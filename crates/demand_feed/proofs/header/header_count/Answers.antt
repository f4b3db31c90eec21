use Rattle.std.proofs.Common.{[], refl, ◌∙◌}
use Rattle.csv.specs.Records.{fields_of}
use Rattle.demand_feed.proofs.ReadRecords.{HasGiven-begins}
use Rattle.demand_feed.proofs.header.header_count.Goals.{then-branch, else-branch}
use Rattle.demand_feed.proofs.header.header_count.Goals as goal

pub returns : goal.returns
returns c =
    let file = c.args.bytes.now in
    elim c.if-branch.branch [
      | then-branch w ↦
          let next = rw w.if-branch.true at c.in_ok-read_next.ensures.next in
          let begins = HasGiven-begins file _ c.read_next.new.reader (next file [] c.open-reader.ensures) in
          w.count-is ∙ w.headers_in-count.ensures ∙ rw begins.1 refl
      | else-branch w ↦
          let next = rw w.if-branch.false at c.in_ok-read_next.ensures.next in
          w.count-is ∙ rw (next file [] c.open-reader.ensures) refl
    ]
