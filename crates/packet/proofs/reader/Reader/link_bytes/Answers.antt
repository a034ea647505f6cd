use Rattle.std.proofs.Common.{◌≡◌, ℕ, List, [], ◌++◌, length, replicate, refl, ap, ◌∙◌, arith, rules, length-drop}
use Rattle.std.proofs.lemmas.List.{length-take-le}
use Rattle.packet.specs.Frames.{part, bytes16, type_field}
use Rattle.packet.specs.Layout.{put_at}
use Rattle.packet.proofs.Bytes.{two}
use Rattle.packet.proofs.Keys.{link_rows_laid}
use Rattle.packet.proofs.Refusals.{admitted}
use Rattle.packet.proofs.reader.Reader.link_bytes.Goals as goal

-- the rows of the definition
rows : (p p' d s t t' v v' : List ℕ) → p ≡ p' → t ≡ t' → v ≡ v' → p ++ (d ++ (s ++ (t ++ (v ++ [])))) ≡ p' ++ (d ++ (s ++ (t' ++ (v' ++ []))))
rows p p' d s t t' v v' hp ht hv = cc

pub returns : goal.returns
returns c =
    let x = c.args.self.now in
    let f = x.frame.now in
    let p = c.to_be_bytes.result in
    let t = c.to_be_bytes-2.result in
    let v = c.to_be_bytes-3.result in
    let a = admitted x.in_port f x.admitted in
    let d : length (part f 0 6) ≡ 6 = length-take-le 6 f (omega (arith, a.length_low)) in
    let s : length (part f 6 6) ≡ 6 = length-take-le 6 _ (omega (arith, a.length_low, length-drop 6 f)) in
    c.put-5.ensures ∙ ap (put_at 16 v) (c.put-4.ensures ∙ ap (put_at 14 t) (c.put-3.ensures ∙ ap (put_at 8 (part f 6 6)) (c.put-2.ensures ∙ ap (put_at 2 (part f 0 6)) c.put.ensures)))
    ∙ link_rows_laid p (part f 0 6) (part f 6 6) t v (replicate 18 0) (search rules) d s (search rules) (search rules) refl
    ∙ rows p _ _ _ t _ v _ (two _ _ (search rules) c.to_be_bytes.ensures) (two _ _ (search rules) c.to_be_bytes-2.ensures ∙ ap bytes16 (c.key_type.ensures ∙ ap type_field x.type_is)) (two _ _ (search rules) c.to_be_bytes-3.ensures ∙ ap bytes16 c.vlan.ensures)
