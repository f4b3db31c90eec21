-- A ratio as a decimal with three digits after the point.
use Rattle.std.specs.Prelude.{ℕ, zero, suc, ◌+◌, ◌*◌, ◌/◌, ◌%◌, List, ◌++◌, codes, decimal}

-- the digits of a number below 1,000
abbrev pub three_digits : ℕ → List ℕ
three_digits n = decimal (n / 100) ++ (decimal (n / 10 % 10) ++ decimal (n % 10))

-- how many thousandths part / whole has, to the nearest, halves up: the whole number at or next below
-- 1000 part / whole + 1/2
unfoldable pub nearest : ℕ → ℕ → ℕ
nearest part whole = (2000 * part + whole) / (2 * whole)

-- this many thousandths, as a decimal
unfoldable pub decimal_text : ℕ → List ℕ
decimal_text n = decimal (n / 1000) ++ (codes "." ++ three_digits (n % 1000))

-- part / whole as a decimal, none where the whole is 0
abbrev pub thousandths : ℕ → ℕ → List ℕ
thousandths part zero = codes "none"
thousandths part (suc whole) = decimal_text (nearest part (suc whole))
