use Rattle.std.proofs.Common.{◌≡◌, ◌+◌, ◌++◌, ◌∷◌, [], ℕ, List, ap, sym, ◌∙◌, map}
use Rattle.crash_disk.specs.DiskView.{bytes_at, held_now}
use Rattle.crash_disk.specs.Memory.{span_of, byte_from, byte_after}
use Rattle.crash_disk.specs.MemDisk.{mem_view}
use Rattle.crash_disk.proofs.Replay.{bytes_at-push, read_byte}
use Rattle.crash_disk.proofs.mem_disk.MemDisk.bytes_at.Goals as goal

pub loop-i-init : goal.loop-i-init
unfolding bytes_at
loop-i-init c = c.in_ok-bytes.ensures.items

pub loop-i-preserved : goal.loop-i-preserved
loop-i-preserved c =
    let disk = c.args.self.now in
    let address = c.args.at + c.loop-i.i in
    let image = (held_now (mem_view disk)).bytes in
    let first : c.byte_of-first.result ≡ byte_from 0 (map span_of disk.first.items) address =
    c.byte_of-first.ensures ∙ ap (λ ps. byte_from 0 (map span_of ps) address) c.deref.ensures.value in
    let byte : c.byte_after.result ≡ image address =
    c.byte_after.ensures
    ∙ ap (λ b. byte_after b c.deref-in-loop-i.result.now address) first
    ∙ ap (λ calls. byte_after (byte_from 0 (map span_of disk.first.items) address) calls address) c.deref-in-loop-i.ensures.value
    ∙ read_byte disk.first.items disk.calls.items address in
    c.in_ok-push.ensures.items
    ∙ ap (λ (xs : List ℕ). xs ++ c.byte_after.result ∷ []) c.loop-i.invariant
    ∙ ap (λ b. bytes_at image c.args.at c.loop-i.i ++ b ∷ []) byte
    ∙ sym (bytes_at-push image c.args.at c.loop-i.i)
