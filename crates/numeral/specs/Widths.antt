-- Types of unsigned numbers that words write.
use Rattle.std.specs.Prelude.{◌≡◌, ℕ, ◌^◌, ◌<◌, List, Some, None, Option, Result}
use Rattle.std.specs.Result.{result_ok}
use Rattle.numeral.specs.Numbers.{number_of}

-- what a type says of the value that a number is in it, and of which words write a value, agrees with how a number is made one of the type
pub record IsWidth {V E : Type 0} (gives : ℕ → Result V E → Type 0) (held : Option ℕ → Option V) (writes : List ℕ → Option V → Type 0) : Type 0 where
  pub made : (n : ℕ) (r : Result V E) → n < 2 ^ 64 → gives n r → result_ok r ≡ held (Some n)
  pub none : held None ≡ None
  pub written : (w : List ℕ) → writes w (held (number_of w))
