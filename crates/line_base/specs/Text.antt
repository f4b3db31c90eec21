-- Which texts are names, labels and file names. Bytes are ASCII codes.
use Rattle.std.specs.Prelude.{ℕ, Bool, ◌&&◌, ◌||◌, not, ◌==◌, nat_le, nat_eq, List, length, slice_index, codes, bytes_eq}
use Rattle.std.specs.List.{list_all, ends_with}

-- low ≤ byte ≤ high
abbrev pub is_between : ℕ → ℕ → ℕ → Bool
is_between low high byte = nat_le low byte && nat_le byte high

-- a to z
abbrev pub is_letter : ℕ → Bool
is_letter byte = is_between 97 122 byte

-- a to z, 0 to 9, `_` and `-`
abbrev pub is_name_byte : ℕ → Bool
is_name_byte byte = is_letter byte || is_between 48 57 byte || byte == 95 || byte == 45

-- a name: 1 to 24 bytes of a to z, 0 to 9, `_` and `-`, the first a letter
abbrev pub is_name : List ℕ → Bool
is_name text = is_between 1 24 (length text) && is_letter (slice_index text 0) && list_all is_name_byte text

-- a label: 1 to 49 bytes that print and are no blank
abbrev pub is_label : List ℕ → Bool
is_label text = is_between 1 49 (length text) && list_all (is_between 33 126) text

-- ends in `.ckpt`
abbrev pub ends_in_ckpt : List ℕ → Bool
ends_in_ckpt text = ends_with nat_eq text (codes ".ckpt")

-- a byte that a file's name may have
abbrev pub is_file_byte : ℕ → Bool
is_file_byte byte = nat_le 32 byte && not (byte == 127)

-- what a file of any kind may be called: 1 to 255 bytes, none below 32 and none 127, the first no `-`
abbrev pub may_name_file : List ℕ → Bool
may_name_file text = is_between 1 255 (length text) && not (slice_index text 0 == 45) && list_all is_file_byte text

-- the name of a file that runs make for themselves, also in a folder: the spare that a checkpoint is written into
-- first, which ends in `.ckpt.new`, and the file of the slots, `pull.slots`
abbrev pub is_own_file : List ℕ → Bool
is_own_file text =
    ends_with nat_eq text (codes ".ckpt.new") || bytes_eq text (codes "pull.slots")
    || ends_with nat_eq text (codes "/pull.slots")

-- a file name that is no checkpoint's, and no name of a file that runs make for themselves
abbrev pub is_file_name : List ℕ → Bool
is_file_name text = may_name_file text && not (ends_in_ckpt text) && not (is_own_file text)

-- a checkpoint's name
abbrev pub is_checkpoint_name : List ℕ → Bool
is_checkpoint_name text = may_name_file text && ends_in_ckpt text

-- begins with no plus sign, and with no zero that another byte follows
abbrev pub starts_plainly : List ℕ → Bool
starts_plainly text = not (slice_index text 0 == 43) && (not (slice_index text 0 == 48) || length text == 1)
