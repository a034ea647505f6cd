-- Bytes behind a packet's end change nothing.
use Rattle.std.proofs.Common.{◌≡◌, ℕ, ◌+◌, ◌-◌, ◌*◌, ◌/◌, ◌%◌, ◌<◌, ◌≤◌, true, false, cond, not, ◌&&◌, eqb, ltb, ◌⊎◌, List, [], ◌++◌, length, take, drop, Some, None, sym, ap, ◌∙◌, ap₂, ⊎_elim, arith, length-append, length-drop}
use lib.Bits.{bit_or}
use Rattle.std.proofs.lemmas.List.{get_or_append_left, take-append-le, drop-append-le}
use Rattle.std.proofs.lemmas.Bool.{and_parts, and_from, leb-true, le-leb, cond-true, cond-false, eqb-true, eqb-false, cases_Bool}
use Rattle.packet.specs.Frames.{byte, word, part, fragment, transport, header_len, total_len, sound_ipv4, has_ipv4, ipv4_fields, flags_field, port_fields, protocol, network_fields, header_part, transport_part, tagged, type_word, vlan_field, network_at, network, refusal, key_layout, key_of, ipv4_of, transport_of}
use Rattle.packet.specs.Laws.{PaddingNeverMatters}
use Rattle.packet.proofs.Fields.{lay_same}
use Rattle.packet.proofs.Refusals.{Admitted, admitted, admitted_untagged, admitted_tagged}
use Rattle.packet.proofs.Parts.{other_type, no_header, no_transport}

-- what stands within the front stays where it is
pub byte_front : (f z : List ℕ) (i : ℕ) → i < length f → byte (f ++ z) i ≡ byte f i
byte_front f z i h = get_or_append_left f z 0 i h

pub word_front : (f z : List ℕ) (i : ℕ) → i + 1 < length f → word (f ++ z) i ≡ word f i
word_front f z i h = ap₂ (λ a b. a * 256 + b) (byte_front f z i (omega arith)) (byte_front f z (i + 1) h)

pub part_front : (f z : List ℕ) (i k : ℕ) → i + k ≤ length f → part (f ++ z) i k ≡ part f i k
part_front f z i k h =
    ap (take k) (drop-append-le i f z (omega arith)) ∙ take-append-le k (drop i f) z (omega (arith, length-drop i f))

-- what a sound header says of the lengths
pub record LengthsFit (n : List ℕ) : Type 0 where
  pub whole : 20 ≤ length n
  pub header : 20 ≤ header_len n
  pub total : header_len n ≤ total_len n
  pub there : total_len n ≤ length n

pub sound_fits : (n : List ℕ) → sound_ipv4 n ≡ true → LengthsFit n
sound_fits n s =
    let a = and_parts _ _ s in
    let b = and_parts _ _ a.1 in
    let c = and_parts _ _ b.1 in
    let d = and_parts _ _ c.1 in
    record { whole = leb-true _ _ a.0; header = leb-true _ _ c.0; total = leb-true _ _ d.0; there = leb-true _ _ d.1 }

-- a sound packet with bytes behind it: the same header, the same transport part
pub record SamePacket (m n : List ℕ) : Type 0 where
  pub sound : sound_ipv4 m ≡ true
  pub header : header_len m ≡ header_len n
  pub total : total_len m ≡ total_len n
  pub fragments : fragment m ≡ fragment n
  pub transports : transport m ≡ transport n
  pub fields : ipv4_fields m ≡ ipv4_fields n

pub same_packet : (n z : List ℕ) → sound_ipv4 n ≡ true → SamePacket (n ++ z) n
same_packet n z s =
    let m = n ++ z in
    let l = sound_fits n s in
    let long : length m ≡ length n + length z = length-append n z in
    let first : byte m 0 ≡ byte n 0 = byte_front n z 0 (omega (arith, l.whole)) in
    let h : header_len m ≡ header_len n = ap (λ b. b % 16 * 4) first in
    let t : total_len m ≡ total_len n = word_front n z 2 (omega (arith, l.whole)) in
    let fr : fragment m ≡ fragment n = ap (λ w. cond (ltb 0 (w % 0x2000)) 3 (cond (eqb (w / 0x2000 % 2) 1) 1 0)) (word_front n z 6 (omega (arith, l.whole))) in
    let proto : protocol m ≡ protocol n = byte_front n z 9 (omega (arith, l.whole)) in
    let tr : transport m ≡ transport n =
    ap₂ (λ b x. cond b x []) (ap (λ k. not (eqb k 3)) fr) (ap₂ (λ a b. part m a (b - a)) h t ∙ part_front n z (header_len n) (total_len n - header_len n) (omega (arith, l.total, l.there))) in
    record {
      sound =
          and_from _ _ (le-leb 20 (length m) (omega (arith, l.whole)))
          (and_from _ _ (ap (λ b. eqb (b / 16) 4) first ∙ (and_parts _ _ (and_parts _ _ s).1).0)
          (and_from _ _ (le-leb 20 (header_len m) (omega (arith, l.header)))
          (and_from _ _ (le-leb (header_len m) (total_len m) (omega (arith, l.total))) (le-leb (total_len m) (length m) (omega (arith, l.there))))));
      header = h;
      total = t;
      fragments = fr;
      transports = tr;
      fields =
          lay_same _ _ _ _ _ _ _ _ _ _ _ _ _ _ _ _ fr proto (byte_front n z 1 (omega (arith, l.whole))) (byte_front n z 8 (omega (arith, l.whole))) (ap₂ flags_field proto tr) (part_front n z 12 4 (omega (arith, l.whole)))
          (part_front n z 16 4 (omega (arith, l.whole))) (ap₂ port_fields proto tr);
    }

-- the packet that a frame's network bytes hold ends by itself, or the frame holds none
abbrev pub Ended : ℕ → List ℕ → Type 0
Ended type n = (has_ipv4 type n ≡ true) ⊎ (type ≡ 0x0800 → ⊥)

-- the same, with bytes behind
pub both_ipv4 : (type : ℕ) (n z : List ℕ) → has_ipv4 type n ≡ true → has_ipv4 type (n ++ z) ≡ true
both_ipv4 type n z h = and_from _ _ (and_parts _ _ h).0 (same_packet n z (and_parts _ _ h).1).sound

pub fields_padded : (type : ℕ) (n z : List ℕ) → Ended type n → network_fields type (n ++ z) ≡ network_fields type n
fields_padded type n z e =
    ⊎_elim
    (λ h. cond-true (has_ipv4 type (n ++ z)) _ _ (both_ipv4 type n z h) ∙ (same_packet n z (and_parts _ _ h).1).fields ∙ sym (cond-true (has_ipv4 type n) _ _ h))
    (λ u. cond-false (has_ipv4 type (n ++ z)) _ _ (other_type type (n ++ z) u) ∙ sym (cond-false (has_ipv4 type n) _ _ (other_type type n u))) e

pub header_padded : (type at : ℕ) (n z : List ℕ) → Ended type n → header_part type at (n ++ z) ≡ header_part type at n
header_padded type at n z e =
    ⊎_elim
    (λ h. let p = same_packet n z (and_parts _ _ h).1 in let l = sound_fits n (and_parts _ _ h).1 in
    cond-true (has_ipv4 type (n ++ z)) _ _ (both_ipv4 type n z h)
    ∙ ap (λ b. Some (record { offset = at; bytes = b })) (ap (part (n ++ z) 0) p.header ∙ part_front n z 0 (header_len n) (omega (arith, l.total, l.there)))
    ∙ sym (cond-true (has_ipv4 type n) _ _ h))
    (λ u. sym (no_header type at (n ++ z) (other_type type (n ++ z) u)) ∙ no_header type at n (other_type type n u)) e

pub transport_padded : (type at : ℕ) (n z : List ℕ) → Ended type n → transport_part type at (n ++ z) ≡ transport_part type at n
transport_padded type at n z e =
    ⊎_elim
    (λ h. let p = same_packet n z (and_parts _ _ h).1 in
    ap₂ (λ a b. cond a b None) (ap₂ (λ x y. x && y) (both_ipv4 type n z h ∙ sym h) (ap (λ k. not (eqb k 3)) p.fragments)) (ap₂ (λ x y. Some (record { offset = at + x; bytes = y })) p.header p.transports))
    (λ u. sym (no_transport type at (n ++ z) (other_type type (n ++ z) u)) ∙ no_transport type at n (other_type type n u)) e

-- a frame that is read, with bytes behind it: the same Ethernet header and tag, and the bytes behind its network bytes
record SameLink (p : ℕ) (f z : List ℕ) : Type 0 where
  types : type_word (f ++ z) ≡ type_word f
  vlans : vlan_field (f ++ z) ≡ vlan_field f
  begins : network_at (f ++ z) ≡ network_at f
  networks : network (f ++ z) ≡ network f ++ z
  admits : length (f ++ z) ≤ 9216 → refusal p (f ++ z) ≡ None

same_begin : (f z : List ℕ) → tagged (f ++ z) ≡ tagged f → network_at (f ++ z) ≡ network_at f
same_begin f z e = ap (λ b. cond b 18 14) e

same_network : (f z : List ℕ) → tagged (f ++ z) ≡ tagged f → network_at f ≤ length f → network (f ++ z) ≡ network f ++ z
same_network f z e h = ap (λ i. drop i (f ++ z)) (same_begin f z e) ∙ drop-append-le (network_at f) f z h

link_untagged : (p : ℕ) (f z : List ℕ) → Admitted p f → tagged (f ++ z) ≡ tagged f → tagged f ≡ false → SameLink p f z
link_untagged p f z a e u =
    let v : tagged (f ++ z) ≡ false = e ∙ u in
    let at : network_at f ≡ 14 = cond-false (tagged f) 18 14 u in
    let long : length (f ++ z) ≡ length f + length z = length-append f z in
    record {
      types = cond-false (tagged (f ++ z)) _ _ v ∙ word_front f z 12 (omega (arith, a.length_low)) ∙ sym (cond-false (tagged f) _ _ u);
      vlans = cond-false (tagged (f ++ z)) _ 0 v ∙ sym (cond-false (tagged f) _ 0 u);
      begins = same_begin f z e;
      networks = same_network f z e (omega (arith, a.length_low));
      admits = λ h. admitted_untagged p (f ++ z) a.port_low a.port_high (omega (arith, a.length_low)) h (eqb-false _ _ v);
    }

link_tagged : (p : ℕ) (f z : List ℕ) → Admitted p f → tagged (f ++ z) ≡ tagged f → tagged f ≡ true → SameLink p f z
link_tagged p f z a e u =
    let v : tagged (f ++ z) ≡ true = e ∙ u in
    let at : network_at f ≡ 18 = cond-true (tagged f) 18 14 u in
    let l : 18 ≤ length f = a.tag_whole (eqb-true _ _ u) in
    let long : length (f ++ z) ≡ length f + length z = length-append f z in
    record {
      types = cond-true (tagged (f ++ z)) _ _ v ∙ word_front f z 16 (omega arith) ∙ sym (cond-true (tagged f) _ _ u);
      vlans = cond-true (tagged (f ++ z)) _ 0 v ∙ ap (λ w. bit_or w 0x1000) (word_front f z 14 (omega arith)) ∙ sym (cond-true (tagged f) _ 0 u);
      begins = same_begin f z e;
      networks = same_network f z e (omega arith);
      admits = λ h. admitted_tagged p (f ++ z) a.port_low a.port_high (omega arith) h;
    }

same_link : (p : ℕ) (f z : List ℕ) → Admitted p f → SameLink p f z
same_link p f z a =
    let e : tagged (f ++ z) ≡ tagged f = ap (λ w. eqb w 0x8100) (word_front f z 12 (omega (arith, a.length_low))) in
    ⊎_elim (link_tagged p f z a e) (link_untagged p f z a e) (cases_Bool (tagged f))

same_layout : (p : ℕ) (d s d' s' : List ℕ) (t v t' v' : ℕ) (n n' : List ℕ) → d ≡ d' → s ≡ s' → t ≡ t' → v ≡ v' → network_fields t' n ≡ network_fields t' n' → key_layout p d s t v n ≡ key_layout p d' s' t' v' n'
same_layout p d s d' s' t v t' v' n n' hd hs ht hv hn = cc

pub padding_never_matters : PaddingNeverMatters
unfolding key_of ipv4_of transport_of
padding_never_matters p f z r e m =
    let a = admitted p f r in
    let s = same_link p f z a in
    let d : part (f ++ z) 0 6 ≡ part f 0 6 = part_front f z 0 6 (omega (arith, a.length_low)) in
    let o : part (f ++ z) 6 6 ≡ part f 6 6 = part_front f z 6 6 (omega (arith, a.length_low)) in
    record {
      refusals = s.admits m ∙ sym r;
      keys =
          same_layout p _ _ _ _ _ _ _ _ (network (f ++ z)) (network f) d o s.types s.vlans (ap (network_fields (type_word f)) s.networks ∙ fields_padded (type_word f) (network f) z e);
      headers =
          ap₂ (λ t i. header_part t i (network (f ++ z))) s.types s.begins ∙ ap (header_part (type_word f) (network_at f)) s.networks ∙ header_padded (type_word f) (network_at f) (network f) z e;
      transports =
          ap₂ (λ t i. transport_part t i (network (f ++ z))) s.types s.begins ∙ ap (transport_part (type_word f) (network_at f)) s.networks ∙ transport_padded (type_word f) (network_at f) (network f) z e;
    }
