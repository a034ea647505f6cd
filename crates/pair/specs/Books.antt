-- What a book holds after a call: its line, and whether the answers differed.
use Rattle.std.specs.Prelude.{◌≡◌, ℕ, Bool, cond, not, ◌||◌, List, ◌++◌, None}
use Rattle.text.specs.declared.place.Place.{Place}
use Rattle.text.specs.Answers.{Answer, same_answer}
use Rattle.pair.specs.declared.book.Book.{Book}

-- the bytes that are to be written
abbrev pub lines : Book → List ℕ
lines b = b.page

-- the line's text stands behind, or nothing where there is no memory
abbrev pub Wrote : Bool → Book → Book → List ℕ → Type 0
Wrote ok before after text = lines after ≡ cond ok (lines before ++ text) (lines before)

-- a difference is noted, and stays noted
abbrev pub differs_with : Book → Answer → Answer → Bool
differs_with b x y = b.differed || not (same_answer x y)

-- a statement's line, without a frame's number
abbrev pub at_line : ℕ → Place
at_line n = record { line = n; frame = None }
