use Rattle.std.proofs.Common.{◌≡◌, ℕ, Bool, true, false, List, [], ◌∷◌, ◌++◌, ◌⊎◌, inl, inr, refl, sym, ap, ◌∙◌, append_assoc, append-nil}
use Rattle.std.proofs.lemmas.Bool.{true≢false, false≢true}
use Rattle.crash_disk.specs.RawFile.{RawCall, Opens, SyncsFolder, WritesOn, AsksToWrite, disk_of}
use Rattle.crash_disk.specs.declared.opening.Opening.{Opening}
use Rattle.crash_disk.specs.declared.opening.Opening.TheVariants.{Opened, Absent, Refused}
use Rattle.crash_disk.proofs.Openings.{not_opened}
use Rattle.crash_disk.proofs.RawModel.{passes_here, passes_same}
use Rattle.crash_disk.proofs.file_disk.write_file.Goals as goal

-- what is written to a file that was opened for it
writes_opened : (broken is_open : Bool) (at : ℕ) (bytes : List ℕ) (calls : List RawCall) (whole : Bool) → broken ≡ false → is_open ≡ false → (answer : Bool) → WritesOn at bytes calls whole → AsksToWrite broken is_open at bytes (Opens true Opened ∷ (SyncsFolder answer ∷ calls)) whole
writes_opened true is_open at bytes calls whole works closed answer asks = absurd (true≢false works)
writes_opened false true at bytes calls whole works closed answer asks = absurd (true≢false closed)
writes_opened false false at bytes calls whole works closed answer asks = asks

-- to one that was open
writes_on : (broken is_open : Bool) (at : ℕ) (bytes : List ℕ) (calls : List RawCall) (whole : Bool) → broken ≡ false → is_open ≡ true → WritesOn at bytes calls whole → AsksToWrite broken is_open at bytes calls whole
writes_on true is_open at bytes calls whole works opened asks = absurd (true≢false works)
writes_on false true at bytes calls whole works opened asks = asks
writes_on false false at bytes calls whole works opened asks = absurd (false≢true opened)

-- nothing is written to one that was refused, or had failed before
writes_refused : (broken is_open : Bool) (at : ℕ) (bytes : List ℕ) (answer : Opening) → broken ≡ false → is_open ≡ false → (answer ≡ Absent) ⊎ (answer ≡ Refused) → AsksToWrite broken is_open at bytes (Opens true answer ∷ []) false
writes_refused true is_open at bytes answer works closed is = absurd (true≢false works)
writes_refused false true at bytes answer works closed is = absurd (true≢false closed)
writes_refused false false at bytes Opened works closed (inl is) = cc
writes_refused false false at bytes Opened works closed (inr is) = cc
writes_refused false false at bytes Absent works closed is = (refl, refl)
writes_refused false false at bytes Refused works closed is = (refl, refl)

writes_broken : (broken is_open : Bool) (at : ℕ) (bytes : List ℕ) → broken ≡ true → AsksToWrite broken is_open at bytes [] false
writes_broken true is_open at bytes broken = (refl, refl)
writes_broken false is_open at bytes broken = absurd (false≢true broken)

pub returns-then-broken-clause-asks : goal.returns-then-broken-clause-asks
returns-then-broken-clause-asks g c =
    ([], sym (append-nil (g.F.RawFile.shown c.args.file.now).asked), writes_broken _ _ _ _ c.if-broken.true)

pub returns-then-broken-clause-time : goal.returns-then-broken-clause-time
returns-then-broken-clause-time g c = λ known. passes_here (disk_of (g.F.RawFile.shown c.args.file.now))

pub returns-then-is_open-clause-asks : goal.returns-then-is_open-clause-asks
returns-then-is_open-clause-asks g c =
    let rest = c.put.ensures.asks in
    let opened = sym c.is_open.ensures ∙ c.if-is_open.true in
    (rest.0, rest.1, writes_on c.args.broken _ c.args.at c.args.bytes.now rest.0 _ c.if-broken.false opened rest.2)

pub returns-then-is_open-clause-time : goal.returns-then-is_open-clause-time
returns-then-is_open-clause-time g c = c.put.ensures.time

pub returns-in-Absent-clause-asks : goal.returns-in-Absent-clause-asks
returns-in-Absent-clause-asks g c =
    let closed = sym c.is_open.ensures ∙ c.if-is_open.false in
    (Opens true c.open_or_make.result ∷ [], c.open_or_make.ensures.asks_once (not_opened c.open_or_make.result c.in-Absent.is), writes_refused _ _ _ _ c.open_or_make.result c.if-broken.false closed c.in-Absent.is)

pub returns-in-Absent-clause-time : goal.returns-in-Absent-clause-time
returns-in-Absent-clause-time g c = c.open_or_make.ensures.time

pub returns-in-Opened-clause-asks : goal.returns-in-Opened-clause-asks
returns-in-Opened-clause-asks g c =
    let made = c.in-Opened.ensures.asks_opened refl in
    let opens = Opens true Opened ∷ (SyncsFolder made.0 ∷ []) in
    let rest = c.put-in-Opened.ensures.asks in
    (opens ++ rest.0, rest.1 ∙ ap (λ xs. xs ++ rest.0) made.1 ∙ append_assoc _ opens rest.0, writes_opened c.args.broken _ c.args.at c.args.bytes.now rest.0 _ c.if-broken.false (sym c.is_open.ensures ∙ c.if-is_open.false) made.0 rest.2)

pub returns-in-Opened-clause-time : goal.returns-in-Opened-clause-time
returns-in-Opened-clause-time g c = λ known.
    passes_same (disk_of (g.F.RawFile.shown c.args.file.now)) (disk_of (g.F.RawFile.shown c.open_or_make.new.file)) (disk_of (g.F.RawFile.shown c.put-in-Opened.new.file)) (c.open_or_make.ensures.time known) (c.put-in-Opened.ensures.time known) (c.open_or_make.ensures.stays known)
