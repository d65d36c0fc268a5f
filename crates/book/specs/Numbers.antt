-- Numbers in a book. They are big-endian; a byte past the end reads as 0.
use Rattle.std.specs.Prelude.{ℕ, ◌+◌, ◌*◌, Bool, ◌||◌, List, nat_lt, slice_index}

-- the 16 bits at a place, and the 32 bits
abbrev pub be16 : List ℕ → ℕ → ℕ
be16 b p = 256 * slice_index b p + slice_index b (p + 1)

abbrev pub be32 : List ℕ → ℕ → ℕ
be32 b p = 65536 * be16 b p + be16 b (p + 2)

-- n is not one of the numbers from low to high
abbrev pub outside : ℕ → ℕ → ℕ → Bool
outside low high n = nat_lt n low || nat_lt high n
