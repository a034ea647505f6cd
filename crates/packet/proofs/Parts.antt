-- When there is no part to hand out.
use Rattle.std.proofs.Common.{◌≡◌, ℕ, false, List, None, sym}
use Rattle.std.proofs.lemmas.Bool.{cond-false, ne_eqb, and_left}
use Rattle.packet.specs.Frames.{has_ipv4, has_transport, header_part, transport_part}

pub other_type : (type : ℕ) (n : List ℕ) → (type ≡ 0x0800 → ⊥) → has_ipv4 type n ≡ false
other_type type n u = and_left _ _ (ne_eqb _ _ u)

pub no_header : (type at : ℕ) (n : List ℕ) → has_ipv4 type n ≡ false → None ≡ header_part type at n
no_header type at n h = sym (cond-false (has_ipv4 type n) _ None h)

pub no_transport : (type at : ℕ) (n : List ℕ) → has_ipv4 type n ≡ false → None ≡ transport_part type at n
no_transport type at n h = sym (cond-false _ _ None (and_left _ (has_transport n) h))
