-- Which frames are refused, and why.
use Rattle.std.proofs.Common.{◌≡◌, ℕ, ◌≤◌, List, length, None, arith}
use Rattle.std.proofs.lemmas.Bool.Decides.{nat_tests}
use Rattle.packet.specs.Frames.{refusal, word}

pub admitted_untagged : (p : ℕ) (f : List ℕ) → 1 ≤ p → p ≤ 63 → 14 ≤ length f → length f ≤ 9216 → (word f 12 ≡ 0x8100 → ⊥) → refusal p f ≡ None
admitted_untagged p f a b l m t = grind (arith, nat_tests)

pub admitted_tagged : (p : ℕ) (f : List ℕ) → 1 ≤ p → p ≤ 63 → 18 ≤ length f → length f ≤ 9216 → refusal p f ≡ None
admitted_tagged p f a b l m = grind (arith, nat_tests)

-- what is known of a frame that is read
pub record Admitted (p : ℕ) (f : List ℕ) : Type 0 where
  pub port_low : 1 ≤ p
  pub port_high : p ≤ 63
  pub length_low : 14 ≤ length f
  pub length_high : length f ≤ 9216
  pub tag_whole : word f 12 ≡ 0x8100 → 18 ≤ length f

pub admitted : (p : ℕ) (f : List ℕ) → refusal p f ≡ None → Admitted p f
admitted p f h =
    record {
      port_low = grind (arith, nat_tests);
      port_high = grind (arith, nat_tests);
      length_low = grind (arith, nat_tests);
      length_high = grind (arith, nat_tests);
      tag_whole = λ t. grind (arith, nat_tests);
    }
