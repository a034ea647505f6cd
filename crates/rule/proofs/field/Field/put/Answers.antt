use Rattle.std.proofs.Common.{◌≡◌, ℕ, ◌+◌, ◌-◌, ◌≤◌, List, ◌++◌, length, take, drop, refl, ap, ap₂, ◌∙◌, arith, lit≤}
use Rattle.std.proofs.lemmas.List.{take_all, length-drop, drop-drop}
use Rattle.rule.specs.declared.field.Form.{Form}
use Rattle.rule.specs.declared.field.Form.TheVariants.{Byte, Word, Quad, Mac}
use Rattle.rule.specs.Forms.{len_of}
use Rattle.rule.specs.Rows.{placed, eight_bytes, with_number}
use Rattle.rule.proofs.field.Field.put.Goals as goal

short : (form : Form) → len_of form ≤ 8
short Byte = lit≤ tt
short Word = lit≤ tt
short Quad = lit≤ tt
short Mac = lit≤ tt

-- the last l of eight bytes, by counts that are these
last_bytes : (k l : ℕ) (xs ys : List ℕ) → k ≡ l → xs ≡ ys → length ys ≡ 8 → take (8 - (8 - k)) (drop (8 - k) xs) ≡ drop (8 - l) ys
last_bytes k l xs ys e q h =
    let n : length (drop (8 - k) xs) ≡ length xs - (8 - k) = length-drop (8 - k) xs in
    let m : length xs ≡ length ys = ap length q in
    take_all (8 - (8 - k)) (drop (8 - k) xs) (omega arith) ∙ ap₂ (λ i zs. drop (8 - i) zs) e q

put_is : (at k l : ℕ) (row b x : List ℕ) → k ≡ l → length b ≡ 8 → l ≤ 8 → x ≡ drop (8 - l) b → take at row ++ (x ++ drop (at + k - at) (drop at row)) ≡ placed at (drop (8 - l) b) row
put_is at k l row b x e h m q =
    let n : length (drop (8 - l) b) ≡ length b - (8 - l) = length-drop (8 - l) b in
    let s : at + (at + k - at) ≡ at + length (drop (8 - l) b) = omega arith in
    ap₂ (λ x y. take at row ++ (x ++ y)) q (drop-drop (at + k - at) at row ∙ ap (λ i. drop i row) s)

pub returns : goal.returns
unfolding with_number
returns c =
    let l = len_of c.args.self.form in
    put_is c.args.self.at c.len-len.result l c.args.row.now (eight_bytes c.args.n) _ c.len-len.ensures refl (short c.args.self.form)
    (c.copy_from_slice.ensures.after ∙ last_bytes c.len-len.result l c.to_be_bytes-bytes.result _ c.len-len.ensures c.to_be_bytes-bytes.ensures refl)
