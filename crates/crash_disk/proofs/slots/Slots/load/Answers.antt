use Rattle.std.proofs.Common.{◌≡◌, ◌+◌, ◌≤◌, ℕ, List, [], ◌∷◌, ◌++◌, length, refl, sym, ◌∙◌, ap, subst, Some, None, Ok, Err, Option, IsTrue, arith, rules}
use Rattle.std.specs.Prelude.{IfSome}
use Rattle.crash_disk.specs.DiskView.{Held, bytes_at}
use Rattle.crash_disk.specs.Crash.{bytes_now}
use Rattle.crash_disk.specs.Errors.{error_of}
use Rattle.crash_disk.specs.Layout.{start_of, head_at, is_open, newer_head}
use Rattle.crash_disk.specs.Loads.{HasLoaded, content_read, items_of}
use Rattle.crash_disk.specs.declared.slots.head.Slot.TheVariants.{Zero, One}
use Rattle.crash_disk.proofs.Moments.{stays_on, stays_by}
use Rattle.crash_disk.proofs.Push.{error_is, error_alone, no_error}
use Rattle.crash_disk.proofs.Chosen.{newest, none_newest, open_fits}
use Rattle.crash_disk.proofs.Loads.{load_unread, load_none, load_content, gave_up, none_no_fault, none_no_length}
use Rattle.crash_disk.proofs.Outside.{start_low}
use Rattle.crash_disk.proofs.slots.Slots.load.Goals as goal

pub returns-in_err-zero : goal.returns-in_err-zero
returns-in_err-zero g c =
    let old = g.D.Disk.shown c.args.self.now.disk.now in
    let new = g.D.Disk.shown c.read_heads.new.disk in
    let error = c.in_err-zero.field-0.0 in
    let is = error_is c.from_residual.result (error_of error) c.from_residual.ensures.1 in
    let fails = gave_up c.from_residual.result error old.faults old.faults new.faults is (omega arith) c.in_err-zero.ensures.cause in
    record {
      same_disk = refl;
      same_room = refl;
      within_room = error_alone c.from_residual.result _ is;
      saved = error_alone c.from_residual.result _ is;
      none_saved = λ none. absurd (fails.none_saved none);
      read = subst (λ r. HasLoaded c.args.self.now.room old new (items_of r)) (sym is) (load_unread c.args.self.now.room old new error c.in_err-zero.ensures.read);
      stays = c.read_heads.ensures.stays;
      disk_fault = fails.fault;
      never_too_long = fails.too_long;
      faults_stay_or_rise = c.read_heads.ensures.faults_stay_or_rise;
    }

pub read_heads-requires : goal.read_heads-requires
read_heads-requires g c = c.args.self.now.at_most

pub overflow_add-start : goal.overflow_add-start
overflow_add-start g c =
    let low = start_low c.args.self.now.room c.in-Some.slot in
    omega (arith, low, c.start-start.ensures, c.args.self.now.at_most)

pub read-requires : goal.read-requires
read-requires g c =
    let room = c.args.self.now.room in
    let is_opened = subst (λ f. IfSome f (λ found. IsTrue (is_open room found.1))) c.in-Some.is c.newer.ensures.is_open in
    let fits = open_fits room c.in-Some.head is_opened in
    let low = start_low room c.in-Some.slot in
    record { inside = omega (arith, fits, low, c.start-start.ensures, c.args.self.now.at_most) }

pub returns-in_default : goal.returns-in_default
returns-in_default g c =
    let old = g.D.Disk.shown c.args.self.now.disk.now in
    let room = c.args.self.now.room in
    let none : newer_head room c.in_ok-zero.zero c.in_ok-zero.one ≡ None = search rules in
    record {
      same_disk = refl;
      same_room = refl;
      within_room = tt;
      saved = tt;
      none_saved = λ is known.
          none_newest (bytes_now old) room (
          ap (λ h. newer_head room h (head_at (bytes_now old) (start_of room One))) (sym (c.in_ok-zero.ensures.zero known))
          ∙ ap (λ h. newer_head room c.in_ok-zero.zero h) (sym (c.in_ok-zero.ensures.one known))
          ∙ none
          );
      read = load_none room old (g.D.Disk.shown c.read_heads.new.disk) c.in_ok-zero.zero c.in_ok-zero.one c.in_ok-zero.ensures.read none;
      stays = c.read_heads.ensures.stays;
      disk_fault = λ failed. absurd (none_no_fault failed);
      never_too_long = none_no_length;
      faults_stay_or_rise = c.read_heads.ensures.faults_stay_or_rise;
    }

pub returns-in_err-read : goal.returns-in_err-read
returns-in_err-read g c =
    let old = g.D.Disk.shown c.args.self.now.disk.now in
    let mid = g.D.Disk.shown c.read_heads.new.disk in
    let new = g.D.Disk.shown c.read.new.self in
    let result = c.from_residual-in_err-read.result in
    let error = c.in_err-read.field-0.0 in
    let is = error_is result (error_of error) c.from_residual-in_err-read.ensures.1 in
    let fails = gave_up result error old.faults mid.faults new.faults is c.read_heads.ensures.faults_stay_or_rise c.in_err-read.ensures.cause in
    let last = subst (λ (start : ℕ). new.asked ≡ mid.asked ++ content_read start c.in-Some.head (Err error) ∷ []) c.start-start.ensures c.in_err-read.ensures.recorded in
    record {
      same_disk = refl;
      same_room = refl;
      within_room = error_alone result _ is;
      saved = error_alone result _ is;
      none_saved = λ none. absurd (fails.none_saved none);
      read = subst (λ r. HasLoaded c.args.self.now.room old new (items_of r)) (sym is) (load_content c.args.self.now.room old mid new c.in_ok-zero.zero c.in_ok-zero.one c.in-Some.slot c.in-Some.head (Err error) c.in_ok-zero.ensures.read (sym c.newer.ensures.newer ∙ c.in-Some.is) last);
      stays = λ known. stays_on old mid new (c.read_heads.ensures.stays known) (stays_by mid new (c.read.ensures.stays known) (c.read.ensures.time known));
      disk_fault = fails.fault;
      never_too_long = fails.too_long;
      faults_stay_or_rise = omega (arith, c.read_heads.ensures.faults_stay_or_rise, c.read.ensures.faults_stay_or_rise);
    }

pub returns : goal.returns
returns g c =
    let old = g.D.Disk.shown c.args.self.now.disk.now in
    let mid = g.D.Disk.shown c.read_heads.new.disk in
    let new = g.D.Disk.shown c.read.new.self in
    let room = c.args.self.now.room in
    let slot = c.in-Some.slot in
    let head = c.in-Some.head in
    let bytes = c.in_ok-read.field-0.items in
    let found = sym c.newer.ensures.newer ∙ c.in-Some.is in
    let is_opened = subst (λ f. IfSome f (λ found. IsTrue (is_open room found.1))) c.in-Some.is c.newer.ensures.is_open in
    let last = subst (λ (start : ℕ). new.asked ≡ mid.asked ++ content_read start head (Ok bytes) ∷ []) c.start-start.ensures c.in_ok-read.ensures.recorded in
    record {
      same_disk = refl;
      same_room = refl;
      within_room = (let fits = open_fits room head is_opened in omega (arith, fits, c.in_ok-read.ensures.count));
      saved = λ known.
          newest (bytes_now old) room slot head (
          ap (λ h. newer_head room h (head_at (bytes_now old) (start_of room One))) (sym (c.in_ok-zero.ensures.zero known))
          ∙ ap (λ h. newer_head room c.in_ok-zero.zero h) (sym (c.in_ok-zero.ensures.one known))
          ∙ found
          )
          ∙ ap (λ (h : Held). let v : Option (List ℕ) = Some (bytes_at h.bytes (start_of room slot + 16) head.length) in v) (sym (c.read_heads.ensures.stays known).held)
          ∙ ap (λ i. let v : Option (List ℕ) = Some (bytes_at (bytes_now mid) (i + 16) head.length) in v) (sym c.start-start.ensures)
          ∙ ap (λ (xs : List ℕ). Some xs) (sym (c.in_ok-read.ensures.bytes known));
      none_saved = λ none. absurd (no_error _ _ none);
      read = load_content room old mid new c.in_ok-zero.zero c.in_ok-zero.one slot head (Ok bytes) c.in_ok-zero.ensures.read found last;
      stays = λ known. stays_on old mid new (c.read_heads.ensures.stays known) (stays_by mid new (c.read.ensures.stays known) (c.read.ensures.time known));
      disk_fault = λ failed. absurd (no_error _ _ failed);
      never_too_long = λ have. no_error _ _;
      faults_stay_or_rise = omega (arith, c.read_heads.ensures.faults_stay_or_rise, c.read.ensures.faults_stay_or_rise);
    }
