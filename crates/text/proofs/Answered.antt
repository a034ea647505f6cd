-- The text of a frame from what its reading says.
use Rattle.std.proofs.Common.{◌≡◌, ℕ, List, Some, None, Option, sym, ap, ◌∙◌}
use Rattle.packet.specs.Faults.{Refusal}
use Rattle.packet.specs.Frames.{Span, refusal, key_of, ipv4_of, transport_of}
use Rattle.refusal.specs.Texts.{refusal_text}
use Rattle.text.specs.Lines.{reading_text, outcome_text, answer_text}

-- a frame that is read, by its key and parts
pub read_text : (port : ℕ) (f k : List ℕ) (a b : Option Span) → refusal port f ≡ None → k ≡ key_of port f → a ≡ ipv4_of f → b ≡ transport_of f → reading_text k a b ≡ answer_text port f
unfolding answer_text
read_text port f k a b r e g h =
    ap (λ z. reading_text z a b) e ∙ ap (λ z. reading_text (key_of port f) z b) g ∙ ap (reading_text (key_of port f) (ipv4_of f)) h
    ∙ sym (ap (outcome_text port f) r)

-- a frame that is refused
pub refused_text : (port : ℕ) (f : List ℕ) (x : Refusal) (m n : ℕ) → refusal port f ≡ Some x → m ≡ x.0 → n ≡ x.1 → refusal_text m n ≡ answer_text port f
unfolding answer_text
refused_text port f x m n r e g =
    ap (λ z. refusal_text z n) e ∙ ap (refusal_text x.0) g ∙ sym (ap (outcome_text port f) r)
