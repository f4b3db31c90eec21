-- What stands behind a closed gate once the number, the length and the content are written.
use Rattle.std.proofs.Common.{◌≡◌, ℕ, suc, ◌+◌, ◌<◌, ◌^◌, List, ◌∷◌, length, get_or, refl, ◌∙◌, ap, arith}
use Rattle.std.specs.Int.{w64, from_be_bytes, to_be_bytes}
use Rattle.std.proofs.lemmas.Nat.{from_be_bytes-to_be_bytes_8}
use Rattle.crash_disk.specs.DiskView.{Image, Held, bytes_at, patched_image, after_write, synced_file}
use Rattle.crash_disk.specs.Layout.{start_of, head_at}
use Rattle.crash_disk.specs.Crash.{IsStaged}
use Rattle.crash_disk.specs.declared.slots.target.Target.{Target}
use Rattle.crash_disk.proofs.Bytes.{bytes_at-stand}
use Rattle.crash_disk.proofs.Replay.{patched-out}
use Rattle.crash_disk.proofs.Near.{patched-in, out_before}

-- the number and the length as they are written
abbrev pub head_of : ℕ → ℕ → List ℕ
head_of number size = number ∷ to_be_bytes w64 size

pub length-head : (number size : ℕ) → length (head_of number size) ≡ 9
length-head number size = refl

length-size : (size : ℕ) → length (to_be_bytes w64 size) ≡ 8
length-size size = refl

abbrev pub staged : Image → ℕ → ℕ → List ℕ → Image
staged base start number bytes = patched_image (patched_image base (start + 1) (head_of number (length bytes))) (start + 16) bytes

-- a byte of the number and the length
staged-head : (base : Image) (start number : ℕ) (bytes : List ℕ) (k : ℕ) → k < 9 → staged base start number bytes (start + 1 + k) ≡ get_or (head_of number (length bytes)) k 0
staged-head base start number bytes k less =
    patched-out (patched_image base (start + 1) (head_of number (length bytes))) (start + 16) bytes (start + 1 + k) (out_before (start + 16) (length bytes) (start + 1 + k) (omega arith))
    ∙ patched-in base (start + 1) (head_of number (length bytes)) k less

staged-size : (base : Image) (start number : ℕ) (bytes : List ℕ) → bytes_at (staged base start number bytes) (start + 2) 8 ≡ to_be_bytes w64 (length bytes)
staged-size base start number bytes =
    bytes_at-stand (staged base start number bytes) (start + 2) (to_be_bytes w64 (length bytes)) (λ k less.
    ap (staged base start number bytes) (let e : start + 2 + k ≡ start + 1 + suc k = omega arith in e)
    ∙ staged-head base start number bytes (suc k) (omega (arith, length-size (length bytes))))

pub is_staged : (base : Image) (room : ℕ) (target : Target) (bytes : List ℕ) → length bytes < 2 ^ 64 → IsStaged (staged base (start_of room target.slot) target.number bytes) room target bytes
is_staged base room target bytes fits =
    let start = start_of room target.slot in
    let after = staged base start target.number bytes in
    let size : (head_at after start).length ≡ length bytes =
    ap (λ l. from_be_bytes w64 l) (staged-size base start target.number bytes) ∙ from_be_bytes-to_be_bytes_8 (length bytes) fits in
    record {
      number_is = ap after (let e : start + 1 ≡ start + 1 + 0 = omega arith in e) ∙ staged-head base start target.number bytes 0 (omega arith);
      length_is = size;
      content_is = ap (λ n. bytes_at after (start + 16) n) size
          ∙ bytes_at-stand after (start + 16) bytes (λ k less. patched-in (patched_image base (start + 1) (head_of target.number (length bytes))) (start + 16) bytes k less);
    }

pub staged_after : (start named put now : Held) (at first second number : ℕ) (head bytes : List ℕ) → named ≡ after_write start first head → put ≡ after_write named second bytes → now ≡ synced_file put → first ≡ at + 1 → head ≡ head_of number (length bytes) → second ≡ at + 16 → now.bytes ≡ staged start.bytes at number bytes
staged_after start named put now at first second number head bytes one two three here is there =
    ap (λ (h : Held). h.bytes) three
    ∙ ap (λ (h : Held). h.bytes) two
    ∙ ap (λ (h : Held). patched_image h.bytes second bytes) one
    ∙ ap (λ i. patched_image (patched_image start.bytes i head) second bytes) here
    ∙ ap (λ (xs : List ℕ). patched_image (patched_image start.bytes (at + 1) xs) second bytes) is
    ∙ ap (λ i. patched_image (patched_image start.bytes (at + 1) (head_of number (length bytes))) i bytes) there
