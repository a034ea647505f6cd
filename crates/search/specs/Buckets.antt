-- Which slots stand in which bucket of a hash index. A bucket is a number whose bit i stands for slot i.
-- The laws are in proofs/IndexLaws.antt.
use Rattle.std.specs.Prelude.{◌≡◌, ℕ, zero, suc, ◌/◌, ◌%◌, Bool, false, not, ◌&&◌, ◌||◌, List, [], ◌∷◌, ◌==◌, nat_lt, slice_index}
use Rattle.flow.specs.Masks.{masked}

-- digit i of a number, the lowest first
unfoldable pub digit_at : ℕ → ℕ → ℕ
digit_at n zero = n % 2
digit_at n (suc i) = digit_at (n / 2) i

-- bit i of a number is set
unfoldable pub bit : ℕ → ℕ → Bool
bit n i = digit_at n i == 1

-- bit i of bucket b is set
abbrev pub has : List ℕ → ℕ → ℕ → Bool
has buckets b i = bit (slice_index buckets b) i

-- the bucket of an element: the hash of its value under its mask
abbrev pub home : {E : Type 0} → (List ℕ → ℕ) → (masks values : E → List ℕ) → E → ℕ
home hash masks values e = hash (masked (masks e) (values e))

-- slot i holds an element that may answer, and whose bucket is b
unfoldable pub stands : {E : Type 0} → (E → Bool) → (E → ℕ) → List E → ℕ → ℕ → Bool
stands may bucket [] b i = false
stands may bucket (e ∷ es) b zero = may e && bucket e == b
stands may bucket (e ∷ es) b (suc i) = stands may bucket es b i

-- the index of the slots: exactly the bits of those that may answer are set, each in its bucket
abbrev pub Indexed : {E : Type 0} → (E → Bool) → (E → ℕ) → List E → List ℕ → Type 0
Indexed may bucket slots buckets = (b i : ℕ) → has buckets b i ≡ stands may bucket slots b i

-- bit k of bucket c is that of slot i in bucket b; there are bits for 128 slots
abbrev pub bit_of : ℕ → ℕ → ℕ → ℕ → Bool
bit_of b i c k = nat_lt i 128 && (c == b && k == i)

-- no bit is set
abbrev pub Empty : List ℕ → Type 0
Empty buckets = (c k : ℕ) → has buckets c k ≡ false

-- the bit of slot i in bucket b is set, and every other is as before
abbrev pub Marked : List ℕ → List ℕ → ℕ → ℕ → Type 0
Marked before after b i = (c k : ℕ) → has after c k ≡ (has before c k || bit_of b i c k)

-- the bit of slot i in bucket b is not set, and every other is as before
abbrev pub Unmarked : List ℕ → List ℕ → ℕ → ℕ → Type 0
Unmarked before after b i = (c k : ℕ) → has after c k ≡ (has before c k && not (bit_of b i c k))
