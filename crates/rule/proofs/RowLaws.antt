-- A row from its digits, pair by pair.
use Rattle.std.proofs.Common.{◌≡◌, ℕ, ◌+◌, ◌*◌, ◌<◌, List, [], ◌∷◌, ◌++◌, length, get_or, take, drop, set, Some, None, Option, Result, sym, refl, ap, ◌∙◌, append_assoc, append-nil, arith}
use Rattle.std.specs.Result.{result_ok}
use Rattle.std.proofs.lemmas.List.{drop_all, take_all, take_more_set}
use Rattle.numeral.specs.declared.hex.HexFault.{HexFault}
use Rattle.numeral.specs.Hex.{nibble_of, pair_of}
use Rattle.numeral.proofs.Pairs.{pair_then}
use Rattle.rule.specs.Values.{paired, pair_at, in_front, pairs_of}

-- the bytes that are read, with those that follow
abbrev pub behind : List ℕ → Option (List ℕ) → Option (List ℕ)
behind xs None = None
behind xs (Some ys) = Some (xs ++ ys)

moved : (xs : List ℕ) (x : ℕ) (o : Option (List ℕ)) → behind (xs ++ (x ∷ [])) o ≡ behind xs (in_front (Some x) o)
moved xs x None = refl
moved xs x (Some ys) = ap Some (append_assoc xs (x ∷ []) ys)

two_on : (t : List ℕ) (i : ℕ) → 2 * i + 1 < length t → pairs_of (drop (2 * i) t) ≡ in_front (pair_at t (2 * i)) (pairs_of (drop (2 * (i + 1)) t))
unfolding pairs_of
two_on t i h = ap pairs_of (pair_then t i h)

ok_pair : (at : ℕ) (high low : Option ℕ) → result_ok (pair_of at high low) ≡ paired high low
ok_pair at None None = refl
ok_pair at None (Some low) = refl
ok_pair at (Some high) None = refl
ok_pair at (Some high) (Some low) = refl

-- a byte that is read from pair i
pub byte_is : (t p : List ℕ) (i : ℕ) (r : Result ℕ HexFault) → p ≡ get_or t (2 * i) 0 ∷ get_or t (2 * i + 1) 0 ∷ [] → r ≡ pair_of (2 * i) (nibble_of (get_or p 0 0)) (nibble_of (get_or p 1 0)) → result_ok r ≡ pair_at t (2 * i)
byte_is t p i r q e =
    ap result_ok (e ∙ ap (λ p. pair_of (2 * i) (nibble_of (get_or p 0 0)) (nibble_of (get_or p 1 0))) q)
    ∙ ok_pair (2 * i) (nibble_of (get_or t (2 * i) 0)) (nibble_of (get_or t (2 * i + 1) 0))

pub stop : (t row : List ℕ) (i : ℕ) → 2 * i + 1 < length t → None ≡ pair_at t (2 * i) → behind (take i row) (pairs_of (drop (2 * i) t)) ≡ None
stop t row i h e = ap (behind (take i row)) (two_on t i h ∙ ap (λ o. in_front o (pairs_of (drop (2 * (i + 1)) t))) (sym e))

pub step : (t row : List ℕ) (i x : ℕ) → 2 * i + 1 < length t → i < length row → Some x ≡ pair_at t (2 * i) → behind (take (i + 1) (set row i x)) (pairs_of (drop (2 * (i + 1)) t)) ≡ behind (take i row) (pairs_of (drop (2 * i) t))
step t row i x h l e =
    ap (λ z. behind z (pairs_of (drop (2 * (i + 1)) t))) (take_more_set row i x l)
    ∙ moved (take i row) x (pairs_of (drop (2 * (i + 1)) t))
    ∙ ap (λ o. behind (take i row) (in_front o (pairs_of (drop (2 * (i + 1)) t)))) e
    ∙ sym (ap (behind (take i row)) (two_on t i h))

pub done : (t row : List ℕ) (i : ℕ) → length t ≡ 2 * i → length row ≡ i → behind (take i row) (pairs_of (drop (2 * i) t)) ≡ Some row
unfolding pairs_of
done t row i h l =
    ap (λ z. behind (take i row) (pairs_of z)) (drop_all (2 * i) t (omega arith))
    ∙ ap Some (append-nil (take i row) ∙ take_all i row (omega arith))
