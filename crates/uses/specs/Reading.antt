-- A reading of two sensors in one number.
use Rattle.std.specs.Prelude.{ℕ, ◌/◌, ◌%◌, ◌==◌}
use Rattle.uses.specs.declared.packed.Reading.{Reading}

-- the reading that the number has: binary digits 0 to 15, 16 to 31, and 32
abbrev pub unpacked : ℕ → Reading
unpacked n = record { left = n % 65536; right = n / 65536 % 65536; last = n / 4294967296 % 2 == 1 }
