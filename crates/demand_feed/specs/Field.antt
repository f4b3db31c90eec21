-- What a field of a record says: a number, or a title. Bytes are ASCII codes.
use Rattle.std.specs.Prelude.{ℕ, ◌-◌, Bool, ◌==◌, ◌&&◌, ◌||◌, nat_le, if◌then◌else◌, List, length, take, drop, Option, Some, None}
use Rattle.std.specs.List.{list_all, list_any, prefix_len, suffix_len}
use Rattle.std.specs.Char.{is_ascii_alphabetic, is_ascii_digit}
use Rattle.std.specs.Str.Parse.{digits_value}

-- a space or a tab
abbrev pub is_blank : ℕ → Bool
is_blank byte = byte == 32 || byte == 9

-- a text without the blanks that it begins with, and one without those that it ends with
abbrev pub without_leading_blanks : List ℕ → List ℕ
without_leading_blanks text = drop (prefix_len is_blank text) text

abbrev pub without_trailing_blanks : List ℕ → List ℕ
without_trailing_blanks text = take (length text - suffix_len is_blank text) text

-- a field without the blanks around it
unfoldable pub without_blanks : List ℕ → List ℕ
without_blanks field = without_trailing_blanks (without_leading_blanks field)

-- 1 to 20 decimal digits, leading zeros among them
abbrev pub is_decimal : List ℕ → Bool
is_decimal text = nat_le 1 (length text) && nat_le (length text) 20 && list_all is_ascii_digit text

-- the number that a text writes in decimal, where it is at most `most`
unfoldable pub decimal_up_to : ℕ → List ℕ → Option ℕ
decimal_up_to most text =
    if is_decimal text && nat_le (digits_value 10 text) most then Some (digits_value 10 text) else None

-- the number of at most `most` that a field holds, if it holds one
abbrev pub number_in : ℕ → List ℕ → Option ℕ
number_in most field = decimal_up_to most (without_blanks field)

-- a title: a field that begins with an ASCII letter, after any blanks
abbrev pub is_title : List ℕ → Bool
is_title field = list_any is_ascii_alphabetic (take 1 (without_blanks field))
