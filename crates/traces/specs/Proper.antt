-- Which four numbers are a register's range. Assumes nothing.
use Rattle.std.specs.Prelude.{Bool, ◌&&◌, ℤ, pos, negsuc, ◌+ℤ◌, int_le}

-- low, high, from and to: the range lies in -1,000 to 1,000 and has at most 64 values, and the starts lie in it
abbrev pub proper : ℤ → ℤ → ℤ → ℤ → Bool
proper low high from to = int_le (negsuc 999) low && (int_le high (pos 1000) && (int_le low from && (int_le from to && (int_le to high && int_le high (low +ℤ pos 63)))))
