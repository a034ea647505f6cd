use Rattle.std.proofs.Common.{◌≡◌, ℕ, List, [], ◌∷◌, ◌++◌, length, replicate, refl, ap, ◌∙◌, arith, rules, append_assoc, length-drop}
use Rattle.std.proofs.lemmas.List.{length-take-le, append-nil}
use Rattle.packet.specs.Frames.{byte, part}
use Rattle.packet.specs.Layout.{put_at}
use Rattle.packet.proofs.Bytes.{two}
use Rattle.packet.proofs.Keys.{rows_laid, addresses}
use Rattle.packet.proofs.ipv4.Packet.key_bytes.Goals as goal

-- the four rows are the eight fields
fields : (k k' p t l : ℕ) (f f' a a1 a2 s s' : List ℕ) → k ≡ k' → f ≡ f' → a ≡ a1 ++ a2 → s ≡ s' → k ∷ p ∷ t ∷ l ∷ (f ++ (a ++ s)) ≡ k' ∷ p ∷ t ∷ l ∷ (f' ++ (a1 ++ (a2 ++ (s' ++ []))))
fields k k' p t l f f' a a1 a2 s s' hk hf ha hs =
    let e = append_assoc a1 a2 s' in
    let z = append-nil s' in
    cc

pub returns : goal.returns
returns c =
    let p = c.args.self.now in
    let n = p.bytes.now in
    let flags = c.to_be_bytes.result in
    let ports = c.transport_fields-transport.result.ports in
    let long : length (part n 12 8) ≡ 8 = length-take-le 8 _ (omega (arith, length-drop 12 n, p.whole, p.behind, p.there)) in
    c.put-4.ensures ∙ ap (put_at 14 ports) (c.put-3.ensures ∙ ap (put_at 6 (part n 12 8)) (c.put-2.ensures ∙ ap (put_at 4 flags) c.put.ensures))
    ∙ rows_laid (c.from-kind.result ∷ byte n 9 ∷ byte n 1 ∷ byte n 8 ∷ []) flags (part n 12 8) ports (replicate 18 0) refl (search rules) long (search rules) refl
    ∙ fields _ _ _ _ _ _ _ _ _ _ _ _ (c.from-kind.ensures ∙ c.fragment.ensures) (two _ _ (search rules) c.to_be_bytes.ensures ∙ c.transport_fields-transport.ensures.flags) (addresses n) c.transport_fields-transport.ensures.ports
