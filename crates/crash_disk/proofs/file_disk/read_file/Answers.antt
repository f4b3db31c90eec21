use Rattle.std.proofs.Common.{◌≡◌, ℕ, Bool, true, false, List, [], ◌∷◌, ◌++◌, refl, sym, ap, ◌∙◌, append_assoc, append-nil, length, replicate, ◌-◌, arith}
use Rattle.std.proofs.lemmas.Bool.{true≢false, false≢true}
use Rattle.crash_disk.specs.RawFile.{RawCall, Opens, ReadsOn, AsksToRead, zeros_behind, raw_now, disk_of}
use Rattle.crash_disk.specs.declared.opening.Opening.TheVariants.{Opened, Absent, Refused}
use Rattle.crash_disk.proofs.RawModel.{bytes_at-zeros, passes_here, passes_same}
use Rattle.crash_disk.proofs.file_disk.read_file.Goals as goal

-- what is read of a file that was opened for it
reads_opened : (broken is_open : Bool) (at n : ℕ) (calls : List RawCall) (whole : Bool) → broken ≡ false → is_open ≡ false → ReadsOn at n calls whole → AsksToRead broken is_open at n (Opens false Opened ∷ calls) whole
reads_opened true is_open at n calls whole works closed reads = absurd (true≢false works)
reads_opened false true at n calls whole works closed reads = absurd (true≢false closed)
reads_opened false false at n calls whole works closed reads = reads

-- of one that was open
reads_on : (broken is_open : Bool) (at n : ℕ) (calls : List RawCall) (whole : Bool) → broken ≡ false → is_open ≡ true → ReadsOn at n calls whole → AsksToRead broken is_open at n calls whole
reads_on true is_open at n calls whole works opened reads = absurd (true≢false works)
reads_on false true at n calls whole works opened reads = reads
reads_on false false at n calls whole works opened reads = absurd (false≢true opened)

-- nothing is read of one that isn't there, or was refused, or had failed before
reads_absent : (broken is_open : Bool) (at n : ℕ) → broken ≡ false → is_open ≡ false → AsksToRead broken is_open at n (Opens false Absent ∷ []) true
reads_absent true is_open at n works closed = absurd (true≢false works)
reads_absent false true at n works closed = absurd (true≢false closed)
reads_absent false false at n works closed = (refl, refl)

reads_refused : (broken is_open : Bool) (at n : ℕ) → broken ≡ false → is_open ≡ false → AsksToRead broken is_open at n (Opens false Refused ∷ []) false
reads_refused true is_open at n works closed = absurd (true≢false works)
reads_refused false true at n works closed = absurd (true≢false closed)
reads_refused false false at n works closed = (refl, refl)

reads_broken : (broken is_open : Bool) (at n : ℕ) → broken ≡ true → AsksToRead broken is_open at n [] false
reads_broken true is_open at n broken = (refl, refl)
reads_broken false is_open at n broken = absurd (false≢true broken)

zeros_alone : (n : ℕ) (bytes : List ℕ) → bytes ≡ replicate n 0 → bytes ≡ zeros_behind n []
zeros_alone n bytes zeros =
    let all : n ≡ n - length {A = ℕ} [] = omega arith in
    zeros ∙ ap (λ m. replicate m 0) all

pub returns-then-broken-clause-asks : goal.returns-then-broken-clause-asks
returns-then-broken-clause-asks g c =
    ([], sym (append-nil (g.F.RawFile.shown c.args.file.now).asked), (reads_broken _ _ _ _ c.if-broken.true, tt))

pub returns-then-broken-clause-time : goal.returns-then-broken-clause-time
returns-then-broken-clause-time g c = λ known. passes_here (disk_of (g.F.RawFile.shown c.args.file.now))

pub returns-then-is_open-clause-asks : goal.returns-then-is_open-clause-asks
returns-then-is_open-clause-asks g c =
    let rest = c.fill.ensures.asks in
    let opened = sym c.is_open.ensures ∙ c.if-is_open.true in
    (rest.0, rest.1, (reads_on c.args.broken _ c.args.at (length c.args.bytes.now) rest.0 _ c.if-broken.false opened rest.2.0, rest.2.1))

pub returns-then-is_open-clause-time : goal.returns-then-is_open-clause-time
returns-then-is_open-clause-time g c = c.fill.ensures.time

pub returns-in-Absent-clause-asks : goal.returns-in-Absent-clause-asks
returns-in-Absent-clause-asks g c =
    let closed = sym c.is_open.ensures ∙ c.if-is_open.false in (
      Opens false Absent ∷ [],
      c.in-Absent.ensures.recorded,
      (reads_absent _ _ _ _ c.if-broken.false closed, zeros_alone _ c.args.bytes.now c.requires.zeros),
    )

pub returns-in-Absent-clause-time : goal.returns-in-Absent-clause-time
returns-in-Absent-clause-time g c = c.open.ensures.time

pub returns-in-Refused-clause-asks : goal.returns-in-Refused-clause-asks
returns-in-Refused-clause-asks g c =
    let closed = sym c.is_open.ensures ∙ c.if-is_open.false in
    (Opens false Refused ∷ [], c.in-Refused.ensures.recorded, (reads_refused _ _ _ _ c.if-broken.false closed, tt))

pub returns-in-Refused-clause-time : goal.returns-in-Refused-clause-time
returns-in-Refused-clause-time g c = c.open.ensures.time

pub returns-in-Absent-clause-bytes : goal.returns-in-Absent-clause-bytes
returns-in-Absent-clause-bytes g c = λ known.
    c.requires.zeros ∙ sym (bytes_at-zeros (raw_now (g.F.RawFile.shown c.args.file.now)).bytes c.args.at (length c.args.bytes.now) (λ i le. c.open.ensures.absent c.in-Absent.is known i))

pub returns-in-Opened-clause-asks : goal.returns-in-Opened-clause-asks
returns-in-Opened-clause-asks g c =
    let opens = Opens false Opened ∷ [] in
    let rest = c.fill-in-Opened.ensures.asks in (
      opens ++ rest.0,
      rest.1 ∙ ap (λ xs. xs ++ rest.0) c.in-Opened.ensures.recorded ∙ append_assoc _ opens rest.0,
      (reads_opened c.args.broken _ c.args.at (length c.args.bytes.now) rest.0 _ c.if-broken.false (sym c.is_open.ensures ∙ c.if-is_open.false) rest.2.0, rest.2.1),
    )

pub returns-in-Opened-clause-time : goal.returns-in-Opened-clause-time
returns-in-Opened-clause-time g c = λ known.
    passes_same (disk_of (g.F.RawFile.shown c.args.file.now)) (disk_of (g.F.RawFile.shown c.open.new.self)) (disk_of (g.F.RawFile.shown c.fill-in-Opened.new.file)) (c.open.ensures.time known) (c.fill-in-Opened.ensures.time known) (c.open.ensures.stays known)
