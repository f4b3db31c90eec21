-- The bytes of an image from an address on.
use Rattle.std.proofs.Common.{◌≡◌, ℕ, zero, suc, ◌+◌, ◌<◌, ◌≤◌, List, [], ◌∷◌, length, get_or, refl, ◌∙◌, ap, arith}
use Rattle.std.specs.Int.{w64, from_be_bytes}
use Rattle.crash_disk.specs.DiskView.{Image, bytes_at}
use Rattle.crash_disk.specs.Layout.{head_of_bytes, head_at}
use Rattle.crash_disk.specs.declared.slots.head.Head.{Head}

-- the head of a slot, read byte by byte
pub head_of_bytes-bytes_at : (image : Image) (start : ℕ) → head_of_bytes (bytes_at image start 10) ≡ head_at image start
unfolding bytes_at
head_of_bytes-bytes_at image start =
    let one : suc start ≡ start + 1 = omega arith in
    let two : suc (suc start) ≡ start + 2 = omega arith in
    ap (λ (i : ℕ). let h : Head = record { gate = image start; number = image i; length = from_be_bytes w64 (bytes_at image (suc (suc start)) 8) } in h) one
    ∙ ap (λ (i : ℕ). let h : Head = record { gate = image start; number = image (start + 1); length = from_be_bytes w64 (bytes_at image i 8) } in h) two

-- images that agree on a range have the same bytes there
pub bytes_at-same : (a b : Image) (at n : ℕ) → ((i : ℕ) → at ≤ i → i < at + n → a i ≡ b i) → bytes_at a at n ≡ bytes_at b at n
unfolding bytes_at
bytes_at-same a b at zero same = refl
bytes_at-same a b at (suc n) same =
    let here : a at ≡ b at = same at (omega arith) (omega arith) in
    let rest : bytes_at a (suc at) n ≡ bytes_at b (suc at) n = bytes_at-same a b (suc at) n (λ i low high. same i (omega arith) (omega arith)) in
    ap (λ (x : ℕ). x ∷ bytes_at a (suc at) n) here ∙ ap (λ (xs : List ℕ). b at ∷ xs) rest

-- an image in which these bytes stand has them there
pub bytes_at-stand : (a : Image) (at : ℕ) (bytes : List ℕ) → ((k : ℕ) → k < length bytes → a (at + k) ≡ get_or bytes k 0) → bytes_at a at (length bytes) ≡ bytes
unfolding bytes_at
bytes_at-stand a at [] stand = refl
bytes_at-stand a at (x ∷ xs) stand =
    let here : a at ≡ x = ap a (let e : at ≡ at + 0 = omega arith in e) ∙ stand 0 (omega arith) in
    let rest : bytes_at a (suc at) (length xs) ≡ xs = bytes_at-stand a (suc at) xs (λ k less. ap a (let e : suc at + k ≡ at + suc k = omega arith in e) ∙ stand (suc k) (omega arith)) in
    ap (λ (y : ℕ). y ∷ bytes_at a (suc at) (length xs)) here ∙ ap (λ (ys : List ℕ). x ∷ ys) rest
