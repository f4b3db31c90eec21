-- What a disk in memory keeps, and what a crash leaves of it.
use Rattle.std.specs.Prelude.{ℕ, zero, suc, ◌-◌, ◌==◌, List, [], ◌∷◌, ◌++◌, length, take, drop, map, slice_index, slice_index_or, replicate, Bool, true, false, if◌then◌else◌}
use Rattle.crash_disk.specs.DiskView.{Image, Held, is_within, patched_image, awaiting, after_write, synced_file}
use Rattle.crash_disk.specs.declared.patch.Patch.{Patch}
use Rattle.crash_disk.specs.declared.patch.DiskCall.{DiskCall}
use Rattle.crash_disk.specs.declared.patch.DiskCall.TheVariants as call
use Rattle.crash_disk.specs.declared.patch.Copied.{Copied}
use Rattle.crash_disk.specs.declared.patch.Copied.TheVariants as copied

-- bytes from an address on
pub record Span : Type 0 where
  pub at : ℕ
  pub bytes : List ℕ

abbrev pub span_of : Patch → Span
span_of patch = record { at = patch.at; bytes = patch.bytes.items }

-- the byte at an address where these stand over another
abbrev pub byte_over : Span → ℕ → ℕ → ℕ
byte_over span i before =
    if is_within span.at (length span.bytes) i then slice_index span.bytes (i - span.at) else before

-- the byte at an address, with spans put over it one after another
abbrev pub byte_from : ℕ → List Span → ℕ → ℕ
byte_from byte [] i = byte
byte_from byte (span ∷ spans) i = byte_from (byte_over span i byte) spans i

-- an image, with spans put over it one after another
abbrev pub image_from : Image → List Span → Image
image_from image [] = image
image_from image (span ∷ spans) = image_from (patched_image image span.at span.bytes) spans

-- the byte at an address after one more call, and after more of them
abbrev pub byte_by : ℕ → DiskCall → ℕ → ℕ
byte_by byte call.Read i = byte
byte_by byte (call.Write patch true) i = byte_over (span_of patch) i byte
byte_by byte (call.Write patch false) i = byte
byte_by byte (call.Sync done) i = byte

abbrev pub byte_after : ℕ → List DiskCall → ℕ → ℕ
byte_after byte [] i = byte
byte_after byte (call ∷ calls) i = byte_after (byte_by byte call i) calls i

-- What a disk holds after one more call. A write that failed changes nothing for reads.
abbrev pub after_call : Held → DiskCall → Held
after_call held call.Read = held
after_call held (call.Write patch true) = after_write held patch.at patch.bytes.items
after_call held (call.Write patch false) =
    record held { pending = awaiting held.pending patch.at (length patch.bytes.items) }
after_call held (call.Sync true) = synced_file held
after_call held (call.Sync false) = held

-- what it holds after these calls
abbrev pub held_after : Held → List DiskCall → Held
held_after held [] = held
held_after held (call ∷ calls) = held_after (after_call held call) calls

-- 255 in place of each byte
abbrev pub torn_span : Span → Span
torn_span span = record { at = span.at; bytes = replicate (length span.bytes) 255 }

-- the spans that are copied of a write, and of the writes of some calls
abbrev pub copied_span : Copied → Span → Bool → List Span
copied_span copied.Done span true = span ∷ []
copied_span copied.Done span false = []
copied_span copied.Asked span done = span ∷ []
copied_span copied.Torn span done = torn_span span ∷ []

abbrev pub copied_of : Copied → DiskCall → List Span
copied_of how call.Read = []
copied_of how (call.Write patch done) = copied_span how (span_of patch) done
copied_of how (call.Sync done) = []

abbrev pub copied_spans : Copied → List DiskCall → List Span
copied_spans how [] = []
copied_spans how (call ∷ calls) = copied_of how call ++ copied_spans how calls

-- a sync that was done
abbrev pub settles : DiskCall → Bool
settles call.Read = false
settles (call.Write patch done) = false
settles (call.Sync done) = done

-- how many calls there are up to the last sync that was done: one more than behind the first call, unless there is none
abbrev pub settled_step : ℕ → Bool → ℕ
settled_step zero true = 1
settled_step zero false = 0
settled_step (suc n) settled = suc (suc n)

abbrev pub settled_count : List DiskCall → ℕ
settled_count [] = 0
settled_count (call ∷ calls) = settled_step (settled_count calls) (settles call)

abbrev pub is_sync : DiskCall → Bool
is_sync call.Read = false
is_sync (call.Write patch done) = false
is_sync (call.Sync done) = true

-- How many calls have had their effect during the last of these: a sync has not yet made anything stable.
abbrev pub in_effect : List DiskCall → ℕ
in_effect calls =
    if is_sync (slice_index_or calls (length calls - 1) call.Read) then length calls - 1
    else length calls

-- a disk of zeros with these patches, all of them stable
abbrev pub first_held : List Patch → Held
first_held patches = record {
  bytes = image_from (λ _. 0) (map span_of patches);
  pending = λ _. false;
}

-- what a crash leaves of writes that no sync made stable: nothing, all of them, or 255 in place of each byte
abbrev pub left_by : ℕ → List DiskCall → List Span
left_by pick calls =
    if pick == 0 then [] else if pick == 1 then copied_spans copied.Asked calls
    else copied_spans copied.Torn calls

-- what a crash leaves after these calls: what was there at first, what a sync made stable, and what is left of the rest
abbrev pub spans_left : List Patch → List DiskCall → ℕ → List Span
spans_left first made pick =
    let settled = settled_count made in
    (map span_of first ++ copied_spans copied.Done (take settled made))
    ++ left_by pick (drop settled made)
