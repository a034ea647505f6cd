-- A text cut at a byte.
use Rattle.std.specs.Prelude.{ℕ, cond, List, [], ◌∷◌, Some, None, Option, ◌==◌}
use Rattle.std.specs.Borrow.{Bor}

-- what stands before the first c and what stands behind it, with one byte more in front
abbrev pub longer : ℕ → Option (List ℕ × List ℕ) → Option (List ℕ × List ℕ)
longer x None = None
longer x (Some p) = Some (x ∷ p.0, p.1)

-- what stands before the first c and what stands behind it, or none where there is no c
unfoldable pub cut_at : ℕ → List ℕ → Option (List ℕ × List ℕ)
cut_at c [] = None
cut_at c (x ∷ xs) = cond (x == c) (Some ([], xs)) (longer x (cut_at c xs))

-- the bytes of two pieces
abbrev pub bytes_of : Option (Bor (List ℕ) × Bor (List ℕ)) → Option (List ℕ × List ℕ)
bytes_of None = None
bytes_of (Some p) = Some (p.0.now, p.1.now)
