-- A list of ports as a set, bit p for port p.
use Rattle.std.specs.Prelude.{ℕ, ◌^◌, cond, List, [], ◌∷◌, Some, None, codes, Option, bit_or, nat_lt, ◌==◌}
use Rattle.std.specs.Str.{bytes_eq}
use Rattle.numeral.specs.Numbers.{number_of}
use Rattle.std.specs.List.{slice_split}

-- the bit of a port from 0 to 63
abbrev pub bit_of : Option ℕ → Option ℕ
bit_of None = None
bit_of (Some port) = cond (nat_lt port 64) (Some (2 ^ port)) None

-- a set with one port more, or none where there is no such port
abbrev pub joined : ℕ → Option ℕ → Option ℕ
joined set None = None
joined set (Some bit) = Some (bit_or set bit)

-- the same with all the ports that words write
abbrev pub and_all : Option ℕ → List (List ℕ) → Option ℕ
and_all None ws = None
and_all (Some set) [] = Some set
and_all (Some set) (w ∷ ws) = and_all (joined set (bit_of (number_of w))) ws

-- the ports of a list with commas between, or of `none`
unfoldable pub ports_of : List ℕ → Option ℕ
ports_of t = cond (bytes_eq t (codes "none")) (Some 0) (and_all (Some 0) (slice_split (λ b. b == 44) t))
