use Rattle.std.proofs.Common.{◌≡◌, ℕ, ◌+◌, ◌*◌, ◌/◌, ◌%◌, ◌<◌, cond, List, [], ◌∷◌, ◌++◌, length, get_or, drop, Ok, Err, vec_items, Result, sym, ap, ◌∙◌, arith, eq-eqb}
use Rattle.std.proofs.lemmas.Result.{err_from_is_err_and}
use Rattle.numeral.specs.declared.hex.HexFault.{HexFault}
use Rattle.numeral.specs.declared.hex.HexFault.TheVariants.{Memory, Odd, Digit}
use Rattle.numeral.specs.Hex.{pairs_from, and_then, pair_of, nibble_of, hex_of, Refuses}
use Rattle.numeral.proofs.Pairs.{pair_then, chunk_is}
use Rattle.numeral.proofs.hex.hex_bytes.Goals as goal

even : (t : List ℕ) → length t % 2 ≡ 0 → hex_of t ≡ pairs_from 0 [] t
even t e = ap (λ b. cond b (pairs_from 0 [] t) (Err (Odd (length t)))) (eq-eqb (length t % 2) 0 e)

-- the pairs from i on are those from i + 1 on, behind the byte of pair i
one_on : (read t p : List ℕ) (i : ℕ) (r : Result ℕ HexFault) → i < length t / 2 → p ≡ get_or t (2 * i) 0 ∷ get_or t (2 * i + 1) 0 ∷ [] → r ≡ pair_of (2 * i) (nibble_of (get_or p 0 0)) (nibble_of (get_or p 1 0)) → pairs_from (2 * i) read (drop (2 * i) t) ≡ and_then r (λ x. pairs_from (2 * (i + 1)) (read ++ x ∷ []) (drop (2 * (i + 1)) t))
one_on read t p i r h q e =
    let s : 2 * i + 2 ≡ 2 * (i + 1) = omega arith in
    ap (pairs_from (2 * i) read) (pair_then t i (omega arith))
    ∙ ap (λ r. and_then r (λ x. pairs_from (2 * i + 2) (read ++ x ∷ []) (drop (2 * (i + 1)) t))) (sym (e ∙ ap (λ p. pair_of (2 * i) (nibble_of (get_or p 0 0)) (nibble_of (get_or p 1 0))) q))
    ∙ ap (λ n. and_then r (λ x. pairs_from n (read ++ x ∷ []) (drop (2 * (i + 1)) t))) s

refuses : (e : HexFault) (r : Result (List ℕ) HexFault) → r ≡ Err e → Refuses e r
refuses Memory r h = tt
refuses (Odd n) r h = h
refuses (Digit at) r h = h

pub returns-in_err-pair : goal.returns-in_err-pair
returns-in_err-pair c =
    let p = err_from_is_err_and c.from_residual.result c.from_residual.ensures.1 in
    let q = ap (λ z. get_or z c.loop-i.i []) c.as_chunks.ensures.front ∙ chunk_is c.args.text.now c.loop-i.i (omega arith) in
    rw (p.1, p.2)
    (refuses c.in_err-pair.field-0.0 (hex_of c.args.text.now)
    (even c.args.text.now (omega arith)
    ∙ sym c.loop-i.invariant
    ∙ one_on (vec_items c.loop-i.out) c.args.text.now _ c.loop-i.i (Err c.in_err-pair.field-0.0) (omega arith) q c.in_err-pair.ensures))

pub loop-i-preserved : goal.loop-i-preserved
loop-i-preserved c =
    let q = ap (λ z. get_or z c.loop-i.i []) c.as_chunks.ensures.front ∙ chunk_is c.args.text.now c.loop-i.i (omega arith) in
    ap (λ z. pairs_from (2 * (c.loop-i.i + 1)) z (drop (2 * (c.loop-i.i + 1)) c.args.text.now)) c.in_ok-push.ensures.items
    ∙ sym (one_on (vec_items c.loop-i.out) c.args.text.now _ c.loop-i.i (Ok c.in_ok-pair.field-0) (omega arith) q c.in_ok-pair.ensures)
    ∙ c.loop-i.invariant
