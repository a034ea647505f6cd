-- One text behind another.
use Rattle.std.proofs.Common.{◌≡◌, ℕ, List, ◌++◌, ap, ◌∙◌, append_assoc}
use Rattle.text.specs.Texts.{Appended}

pub then : {a b c s t : List ℕ} → Appended a b s → Appended b c t → Appended a c (s ++ t)
then {a = a} {s = s} {t = t} p q = record { is = q.is ∙ ap (λ z. z ++ t) p.is ∙ append_assoc a s t }

-- the same text, said another way
pub as_text : {a b s t : List ℕ} → s ≡ t → Appended a b s → Appended a b t
as_text {a = a} e p = record { is = p.is ∙ ap (λ z. a ++ z) e }
