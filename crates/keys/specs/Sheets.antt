-- Sheet numbers: 0 to 2147483646, as eight zero bytes and then four bytes of number.
use Rattle.std.specs.Prelude.{ℕ, Bool, ◌&&◌, List, ◌++◌, length, replicate, ◌==◌, nat_le}
use Rattle.octets.specs.Numbers.{big_endian, spelled}

abbrev pub largest_sheet : ℕ
largest_sheet = 2147483646

abbrev pub sheet_bytes : ℕ → List ℕ
sheet_bytes n = replicate 8 0 ++ big_endian 4 n

-- Which bytes are those of a sheet number: 12 that spell one.
abbrev pub sheet_admissible : List ℕ → Bool
sheet_admissible bytes = length bytes == 12 && nat_le (spelled bytes) largest_sheet
