-- The in-port's place in the key, and the parts' places in the frame.
use Rattle.std.proofs.Common.{◌≡◌, ℕ, ◌+◌, ◌-◌, ◌≤◌, true, false, ◌&&◌, ◌⊎◌, List, [], length, take, drop, IfSome, None, Option, sym, refl, ap, ◌∙◌, subst, ap₂, ⊎_elim, arith, length-drop, MatchOption}
use Rattle.std.proofs.lemmas.List.{length-take-le, drop-drop}
use Rattle.std.proofs.lemmas.Bool.{and_parts, and_from, and_right, cond-true, cond-false, cases_Bool}
use Rattle.packet.specs.Frames.{Span, part, header_len, total_len, has_ipv4, has_transport, type_word, network_at, network, key_of, ipv4_of, transport_of}
use Rattle.packet.specs.Laws.{Inside, RightBehind, InPortStandsFirst, PartsLieInside}
use Rattle.packet.proofs.Padding.{LengthsFit, sound_fits}
use Rattle.packet.proofs.Parts.{no_transport}

pub in_port_stands_first : InPortStandsFirst
unfolding key_of
in_port_stands_first port other f = (refl, refl)

-- a part of the network bytes, as a part of the frame
part_inside : (f : List ℕ) (i k o : ℕ) (x : List ℕ) → o ≡ network_at f + i → x ≡ part (network f) i k → i + k ≤ total_len (network f) → LengthsFit (network f) → Inside f (record { offset = o; bytes = x })
part_inside f i k o x eo ex h l =
    let net : length (network f) ≡ length f - network_at f = length-drop (network_at f) f in
    let long : length x ≡ k = ap length ex ∙ length-take-le k (drop i (network f)) (omega (arith, length-drop i (network f), l.there)) in
    record {
      bytes_are = ex ∙ ap (take k) (drop-drop i (network_at f) f) ∙ ap₂ (part f) (sym eo) (sym long);
      ends = omega arith;
      packet = omega (arith, l.there, l.whole);
    }

-- what is said of the transport part, behind a header
abbrev Behind : List ℕ → Span → Option Span → Type 0
Behind f h o = IfSome o (λ t. Inside f t × RightBehind t h)

abbrev header_of : List ℕ → Span
header_of f = record { offset = network_at f; bytes = part (network f) 0 (header_len (network f)) }

behind : (f : List ℕ) → has_ipv4 (type_word f) (network f) ≡ true → LengthsFit (network f) → (has_transport (network f) ≡ true) ⊎ (has_transport (network f) ≡ false) → Behind f (header_of f) (transport_of f)
unfolding transport_of
behind f h l e =
    let n = network f in
    let long : length (part n 0 (header_len n)) ≡ header_len n = length-take-le (header_len n) n (omega (arith, l.total, l.there)) in
    ⊎_elim
    (λ t. subst (Behind f (header_of f)) (sym (cond-true (has_ipv4 (type_word f) n && has_transport n) _ None (and_from _ _ h t)))
    (part_inside f (header_len n) (total_len n - header_len n) _ _ refl (cond-true (has_transport n) _ [] t) (omega (arith, l.total)) l, ap (λ x. network_at f + x) (sym long)))
    (λ u. subst (Behind f (header_of f)) (sym (cond-false (has_ipv4 (type_word f) n && has_transport n) _ None (and_right _ _ u))) tt) e

-- what is said of both
abbrev Both : List ℕ → Option Span → Type 0
Both f o = MatchOption o (transport_of f ≡ None) (λ h. Inside f h × Behind f h (transport_of f))

pub parts_lie_inside : PartsLieInside
unfolding ipv4_of transport_of
parts_lie_inside f =
    let n = network f in
    ⊎_elim
    (λ h. let l = sound_fits n (and_parts _ _ h).1 in
    subst (Both f) (sym (cond-true (has_ipv4 (type_word f) n) _ None h))
    (part_inside f 0 (header_len n) _ _ (omega arith) refl (omega (arith, l.total)) l, behind f h l (cases_Bool (has_transport n))))
    (λ u. subst (Both f) (sym (cond-false (has_ipv4 (type_word f) n) _ None u)) (sym (no_transport (type_word f) (network_at f) n u)))
    (cases_Bool (has_ipv4 (type_word f) n))
