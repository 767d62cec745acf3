-- How messages quote strings: a byte that is not printable ASCII is written as `\x` and two digits.
use Rattle.std.specs.Prelude.{ℕ, ◌+◌, ◌/◌, ◌%◌, ◌==◌, ◌&&◌, List, [], ◌∷◌, Bool, nat_le, nat_lt, if◌then◌else◌}
use Rattle.std.specs.List.{flat_map}

-- an ASCII character from the space to the tilde
abbrev pub is_printable : ℕ → Bool
is_printable b = nat_le 32 b && nat_lt b 127

-- the hexadecimal digit of a number below 16
abbrev pub hex_digit : ℕ → ℕ
hex_digit n = if nat_lt n 10 then 48 + n else 87 + n

-- the two digits of a byte
abbrev pub hex_digits : ℕ → List ℕ
hex_digits b = hex_digit (b / 16) ∷ (hex_digit (b % 16) ∷ [])

-- the byte if it is printable, else `\x` and its two digits
abbrev pub escaped_byte : ℕ → List ℕ
escaped_byte b = if is_printable b then b ∷ [] else 92 ∷ (120 ∷ hex_digits b)

-- a string with each byte escaped
abbrev pub escaped : List ℕ → List ℕ
escaped text = flat_map escaped_byte text

-- the byte if it is printable or a newline, else `\x` and its two digits
abbrev pub escaped_line_byte : ℕ → List ℕ
escaped_line_byte b = if b == 10 then b ∷ [] else escaped_byte b

-- a string with each byte but newlines escaped
abbrev pub escaped_lines : List ℕ → List ℕ
escaped_lines text = flat_map escaped_line_byte text
