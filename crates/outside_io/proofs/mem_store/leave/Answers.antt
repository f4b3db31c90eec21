use Rattle.std.proofs.Common.{◌≡◌, take, min, length, ap, ◌∙◌, arith}
use Rattle.std.proofs.lemmas.List.{take_min}
use Rattle.outside_io.proofs.mem_store.leave.Goals as goal

pub returns : goal.returns
returns c =
    let bytes = c.args.bytes.now in
    let keep = c.in-Some.keep in
    let least : c.min.result ≡ min keep (length bytes) = omega (arith, c.min.ensures) in
    let kept = ap (λ n. take n bytes) least ∙ take_min keep bytes in
    record {
      kept = rw c.in-Some.is (rw kept at c.set_file.ensures.written);
      others_stay = c.set_file.ensures.others_stay;
      no_memory = c.set_file.ensures.no_memory;
    }
