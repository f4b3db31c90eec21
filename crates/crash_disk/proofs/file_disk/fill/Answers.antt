use Rattle.std.proofs.Common.{rules, ◌≡◌, ℕ, ◌+◌, ◌-◌, ◌≤◌, List, ◌++◌, ◌∷◌, [], take, drop, length, refl, sym, ap, ◌∙◌, append_assoc, append-nil, arith}
use Rattle.std.specs.Prelude.{Some, None}
use Rattle.std.proofs.lemmas.List.{length-take, length-drop}
use Rattle.crash_disk.specs.DiskView.{Held, bytes_at}
use Rattle.crash_disk.specs.RawFile.{RawCall, Reads, raw_now, disk_of}
use Rattle.crash_disk.proofs.RawModel.{passes_here, passes_same, filled_more, bytes_at-append, cleared_bytes, full_bytes}
use Rattle.crash_disk.proofs.RawRuns.{reads_none, reads_more, reads_end, reads_refused, reads_all, given_by-push, cleared_given, full_given}
use Rattle.crash_disk.proofs.file_disk.fill.Goals as goal

-- one more call is behind those before
more_asked : (first mid new calls : List RawCall) (at n n' filled : ℕ) (call : ℕ → RawCall) → mid ≡ first ++ calls → n' ≡ n → new ≡ mid ++ call (n' - filled) ∷ [] → new ≡ first ++ (calls ++ call (n - filled) ∷ [])
more_asked first mid new calls at n n' filled call before size once =
    once ∙ ap (λ k. mid ++ call (k - filled) ∷ []) size ∙ ap (λ xs. xs ++ call (n - filled) ∷ []) before ∙ append_assoc first calls (call (n - filled) ∷ [])

pub loop-filled-init : goal.loop-filled-init
unfolding bytes_at
loop-filled-init g c = record {
  within = omega arith;
  size = refl;
  is_open = c.requires.open;
  calls = ([], sym (append-nil (g.F.RawFile.shown c.args.file.now).asked), reads_none c.args.at (length c.args.bytes.now), refl);
  bytes = λ known. refl;
  stays = λ known. refl;
  time = λ known. passes_here (disk_of (g.F.RawFile.shown c.args.file.now));
}

pub loop-filled-preserved : goal.loop-filled-preserved
loop-filled-preserved g c =
    let before = c.loop-filled.invariant in
    let once = c.in-Ok.ensures in
    let new = c.read_once.new.bytes in
    let count = c.in-Ok.count in
    let filled = c.loop-filled.filled in
    let n = length c.args.bytes.now in
    let got = take count (drop filled new) in
    let image = (raw_now (g.F.RawFile.shown c.args.file.now)).bytes in
    let size : length got ≡ count = omega (arith, length-take count (drop filled new), length-drop filled new, once.bound, once.size) in
    record {
      within = omega (arith, once.bound, once.size);
      size = once.size ∙ before.size;
      is_open = once.open_stays;
      calls = (
        before.calls.0 ++ Reads (c.args.at + filled) (n - filled) (Some got) ∷ [],
        more_asked _ _ _ before.calls.0 c.args.at n (length c.loop-filled.bytes) filled (λ k. Reads (c.args.at + filled) k (Some got)) before.calls.1 before.size once.recorded,
        reads_more c.args.at n filled before.calls.0 got count before.calls.2 (omega (arith, c.loop-filled-test.true, before.size)) size (omega arith),
        filled_more c.loop-filled.bytes new got _ filled count once.kept before.calls.3 refl ∙ sym (given_by-push before.calls.0 (c.args.at + filled) (n - filled) got),
      );
      bytes = λ known.
          filled_more c.loop-filled.bytes new (bytes_at image (c.args.at + filled) count) (bytes_at image c.args.at filled) filled count once.kept (before.bytes known)
          (once.bytes known ∙ ap (λ (h : Held). bytes_at h.bytes (c.args.at + filled) count) (before.stays known))
          ∙ sym (bytes_at-append image c.args.at filled count);
      stays = λ known. once.stays known ∙ before.stays known;
      time = λ known. passes_same (disk_of (g.F.RawFile.shown c.args.file.now)) (disk_of (g.F.RawFile.shown c.loop-filled.file)) (disk_of (g.F.RawFile.shown c.read_once.new.file)) (before.time known) (once.time known) (before.stays known);
    }

pub returns-in-Ok-eq0-clause-asks : goal.returns-in-Ok-eq0-clause-asks
returns-in-Ok-eq0-clause-asks g c =
    let before = c.loop-filled.invariant in
    let once = c.in-Ok-eq0.ensures in
    let filled = c.loop-filled.filled in
    let n = length c.args.bytes.now in
    let none : c.in-Ok-eq0.field-0 ≡ 0 = search rules in (
      before.calls.0 ++ Reads (c.args.at + filled) (n - filled) (Some []) ∷ [],
      more_asked _ _ _ before.calls.0 c.args.at n (length c.loop-filled.bytes) filled (λ k. Reads (c.args.at + filled) k (Some [])) before.calls.1 before.size
          (once.recorded ∙ ap (λ k. (g.F.RawFile.shown c.loop-filled.file).asked ++ Reads (c.args.at + filled) (length c.loop-filled.bytes - filled) (Some (take k (drop filled c.read_once.new.bytes))) ∷ []) none),
      (
        reads_end c.args.at n filled before.calls.0 [] before.calls.2 (omega (arith, c.loop-filled-test.true, before.size)) refl,
        c.clear_behind.ensures ∙ cleared_given c.read_once.new.bytes filled n before.calls.0 (c.args.at + filled) (n - filled) (once.size ∙ before.size) (omega (arith, before.within, before.size)) (once.kept ∙ before.calls.3),
      ),
    )

pub returns-in-Ok-eq0-clause-bytes : goal.returns-in-Ok-eq0-clause-bytes
returns-in-Ok-eq0-clause-bytes g c = λ known.
    let before = c.loop-filled.invariant in
    let once = c.in-Ok-eq0.ensures in
    let n = length c.args.bytes.now in
    let none : c.in-Ok-eq0.field-0 ≡ 0 = search rules in
    let image = (raw_now (g.F.RawFile.shown c.args.file.now)).bytes in
    c.clear_behind.ensures
    ∙ cleared_bytes image c.read_once.new.bytes c.args.at c.loop-filled.filled n (once.size ∙ before.size) (omega (arith, before.within, before.size)) (once.kept ∙ before.bytes known)
    (λ i le. ap (λ (h : Held). h.bytes i) (sym (before.stays known)) ∙ once.end none c.loop-filled-test.true known i le)

pub returns-in-Ok-eq0-clause-time : goal.returns-in-Ok-eq0-clause-time
returns-in-Ok-eq0-clause-time g c = λ known.
    passes_same (disk_of (g.F.RawFile.shown c.args.file.now)) (disk_of (g.F.RawFile.shown c.loop-filled.file)) (disk_of (g.F.RawFile.shown c.read_once.new.file)) (c.loop-filled.invariant.time known) (c.in-Ok-eq0.ensures.time known) (c.loop-filled.invariant.stays known)

pub returns-in-Err-clause-asks : goal.returns-in-Err-clause-asks
returns-in-Err-clause-asks g c =
    let before = c.loop-filled.invariant in
    let once = c.in-Err.ensures in
    let filled = c.loop-filled.filled in
    let n = length c.args.bytes.now in (
      before.calls.0 ++ Reads (c.args.at + filled) (n - filled) None ∷ [],
      more_asked _ _ _ before.calls.0 c.args.at n (length c.loop-filled.bytes) filled (λ k. Reads (c.args.at + filled) k None) before.calls.1 before.size once.recorded,
      (reads_refused c.args.at n filled before.calls.0 before.calls.2 (omega (arith, c.loop-filled-test.true, before.size)), tt),
    )

pub returns-in-Err-clause-time : goal.returns-in-Err-clause-time
returns-in-Err-clause-time g c = λ known.
    passes_same (disk_of (g.F.RawFile.shown c.args.file.now)) (disk_of (g.F.RawFile.shown c.loop-filled.file)) (disk_of (g.F.RawFile.shown c.read_once.new.file)) (c.loop-filled.invariant.time known) (c.in-Err.ensures.time known) (c.loop-filled.invariant.stays known)

pub returns-clause-asks : goal.returns-clause-asks
returns-clause-asks g c =
    let before = c.loop-filled.invariant in
    let n = length c.args.bytes.now in
    let full : n ≤ c.loop-filled.filled = omega (arith, c.loop-filled-test.false, before.size) in (
      before.calls.0,
      before.calls.1,
      (
        reads_all c.args.at n c.loop-filled.filled before.calls.0 before.calls.2 full,
        full_given c.loop-filled.bytes c.loop-filled.filled n before.calls.0 before.size full before.calls.3,
      ),
    )

pub returns-clause-bytes : goal.returns-clause-bytes
returns-clause-bytes g c = λ known.
    let before = c.loop-filled.invariant in
    full_bytes (raw_now (g.F.RawFile.shown c.args.file.now)).bytes c.loop-filled.bytes c.args.at c.loop-filled.filled (length c.args.bytes.now) before.size before.within (omega (arith, c.loop-filled-test.false, before.size)) (before.bytes known)
