use Rattle.std.proofs.Common.{◌≡◌, Bool, true, false, List, [], ◌∷◌, ◌++◌, ◌⊎◌, inl, inr, refl, sym, ap, ◌∙◌, append_assoc, append-nil}
use Rattle.std.specs.Prelude.{is_ok}
use Rattle.std.proofs.lemmas.Bool.{true≢false, false≢true}
use Rattle.crash_disk.specs.RawFile.{RawCall, Opens, SyncsFolder, Syncs, AsksToSync, disk_of}
use Rattle.crash_disk.specs.declared.opening.Opening.{Opening}
use Rattle.crash_disk.specs.declared.opening.Opening.TheVariants.{Opened, Absent, Refused}
use Rattle.crash_disk.proofs.Openings.{not_opened}
use Rattle.crash_disk.proofs.RawModel.{passes_here, passes_same}
use Rattle.crash_disk.proofs.file_disk.sync_file.Goals as goal

-- what is asked of a file that was opened to be synced
syncs_opened : (broken is_open : Bool) (calls : List RawCall) (whole : Bool) → broken ≡ false → is_open ≡ false → (answer : Bool) → calls ≡ Syncs whole ∷ [] → AsksToSync broken is_open (Opens true Opened ∷ (SyncsFolder answer ∷ calls)) whole
syncs_opened true is_open calls whole works closed answer asks = absurd (true≢false works)
syncs_opened false true calls whole works closed answer asks = absurd (true≢false closed)
syncs_opened false false calls whole works closed answer asks = asks

-- of one that was open
syncs_on : (broken is_open : Bool) (calls : List RawCall) (whole : Bool) → broken ≡ false → is_open ≡ true → calls ≡ Syncs whole ∷ [] → AsksToSync broken is_open calls whole
syncs_on true is_open calls whole works opened asks = absurd (true≢false works)
syncs_on false true calls whole works opened asks = asks
syncs_on false false calls whole works opened asks = absurd (false≢true opened)

-- nothing more is asked of one that was refused, or had failed before
syncs_refused : (broken is_open : Bool) (answer : Opening) → broken ≡ false → is_open ≡ false → (answer ≡ Absent) ⊎ (answer ≡ Refused) → AsksToSync broken is_open (Opens true answer ∷ []) false
syncs_refused true is_open answer works closed is = absurd (true≢false works)
syncs_refused false true answer works closed is = absurd (true≢false closed)
syncs_refused false false Opened works closed (inl is) = cc
syncs_refused false false Opened works closed (inr is) = cc
syncs_refused false false Absent works closed is = (refl, refl)
syncs_refused false false Refused works closed is = (refl, refl)

syncs_broken : (broken is_open : Bool) → broken ≡ true → AsksToSync broken is_open [] false
syncs_broken true is_open broken = (refl, refl)
syncs_broken false is_open broken = absurd (false≢true broken)

pub returns-then-broken-clause-asks : goal.returns-then-broken-clause-asks
returns-then-broken-clause-asks g c =
    ([], sym (append-nil (g.F.RawFile.shown c.args.file.now).asked), syncs_broken _ _ c.if-broken.true)

pub returns-then-broken-clause-time : goal.returns-then-broken-clause-time
returns-then-broken-clause-time g c = λ known. passes_here (disk_of (g.F.RawFile.shown c.args.file.now))

pub returns-then-is_open-clause-asks : goal.returns-then-is_open-clause-asks
returns-then-is_open-clause-asks g c =
    let opened = sym c.is_open.ensures ∙ c.if-is_open.true in
    (Syncs (is_ok c.sync_open.result) ∷ [], c.sync_open.ensures.recorded, syncs_on c.args.broken _ _ _ c.if-broken.false opened refl)

pub returns-then-is_open-clause-time : goal.returns-then-is_open-clause-time
returns-then-is_open-clause-time g c = c.sync_open.ensures.time

pub returns-in-Absent-clause-asks : goal.returns-in-Absent-clause-asks
returns-in-Absent-clause-asks g c =
    let closed = sym c.is_open.ensures ∙ c.if-is_open.false in
    (Opens true c.open_or_make.result ∷ [], c.open_or_make.ensures.asks_once (not_opened c.open_or_make.result c.in-Absent.is), syncs_refused _ _ c.open_or_make.result c.if-broken.false closed c.in-Absent.is)

pub returns-in-Absent-clause-time : goal.returns-in-Absent-clause-time
returns-in-Absent-clause-time g c = c.open_or_make.ensures.time

pub returns-in-Opened-clause-asks : goal.returns-in-Opened-clause-asks
returns-in-Opened-clause-asks g c =
    let made = c.in-Opened.ensures.asks_opened refl in
    let opens = Opens true Opened ∷ (SyncsFolder made.0 ∷ []) in
    let syncs = Syncs (is_ok c.sync_open-in-Opened.result) ∷ [] in
    (opens ++ syncs, c.sync_open-in-Opened.ensures.recorded ∙ ap (λ xs. xs ++ syncs) made.1 ∙ append_assoc _ opens syncs, syncs_opened c.args.broken _ syncs _ c.if-broken.false (sym c.is_open.ensures ∙ c.if-is_open.false) made.0 refl)

pub returns-in-Opened-clause-time : goal.returns-in-Opened-clause-time
returns-in-Opened-clause-time g c = λ known.
    passes_same (disk_of (g.F.RawFile.shown c.args.file.now)) (disk_of (g.F.RawFile.shown c.open_or_make.new.file)) (disk_of (g.F.RawFile.shown c.sync_open-in-Opened.new.file)) (c.open_or_make.ensures.time known) (c.sync_open-in-Opened.ensures.time known) (c.open_or_make.ensures.stays known)
