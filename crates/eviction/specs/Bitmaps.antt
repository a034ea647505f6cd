-- Sets of slots as bitmaps.
use Rattle.std.specs.Prelude.{ℕ, zero, suc, ◌/◌, ◌%◌, Bool, ◌==◌}

-- bit i of the number is set, counted from the lowest
unfoldable pub in_set : ℕ → ℕ → Bool
in_set n zero = n % 2 == 1
in_set n (suc i) = in_set (n / 2) i
